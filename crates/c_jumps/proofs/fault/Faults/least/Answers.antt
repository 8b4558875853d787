use Rattle.std.proofs.Common.{◌≡◌, ◌≤◌, List, [], ◌∷◌, map, length, refl, ap, ◌∙◌, subst, sym, arith}
use Rattle.std.specs.List.{Contains, All}
use Rattle.std.proofs.lemmas.List.Elements.{All-map}
use Rattle.c_tree.specs.Jumps.{Blamed, Blames}
use Rattle.c_jumps.specs.Faults.{blamed_by}
use Rattle.c_jumps.specs.declared.fault.Blamed as code
use Rattle.c_jumps.proofs.Adding.{contains_map}
use Rattle.c_jumps.proofs.fault.Faults.least.Goals as goal

none_found : (found : List code.Blamed) → length found ≡ 0 → map blamed_by found ≡ []
none_found [] e = refl
none_found (first ∷ found) e = absurd (omega arith)

pub returns-in-Some : goal.returns-in-Some
returns-in-Some c =
    let found = c.deref.result.now in
    let same : map blamed_by found ≡ c.args.self.now = ap (map blamed_by) c.deref.ensures.value ∙ c.self.view_is in
    let least = c.in-Some.blamed.now in
    subst (λ (all : Blames). Contains all (blamed_by least) × All (λ (other : Blamed). least.token ≤ other.token) all) same
    (contains_map blamed_by found least c.in-Some.ensures.0, All-map (λ (other : Blamed). least.token ≤ other.token) blamed_by found c.in-Some.ensures.1)

pub returns-in-None : goal.returns-in-None
returns-in-None c =
    let found = c.deref.result.now in
    let same : map blamed_by found ≡ c.args.self.now = ap (map blamed_by) c.deref.ensures.value ∙ c.self.view_is in
    sym same ∙ none_found found c.in-None.ensures
