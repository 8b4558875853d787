-- Crossings without their calls.
use Rattle.std.proofs.Common.{◌≡◌, ℕ, ◌<◌, List, length, get_or, map, sym, ap, ◌∙◌, arith, subst}
use Rattle.std.specs.List.{Contains}
use Rattle.std.proofs.lemmas.List.{length-map, get_or-map}
use Rattle.std.proofs.lemmas.List.Elements.{Contains-get_or}
use Rattle.matched_paths.specs.declared.flow_graph.Crossing.{Crossing}
use Rattle.matched_paths.specs.Edges.{Crosses}

abbrev pub way_of : Crossing → ℕ × ℕ
way_of crossing = (crossing.from, crossing.to)

pub ways_cross : (crossings : List Crossing) (ways : List (ℕ × ℕ)) → ways ≡ map way_of crossings → (a b : ℕ) → (Contains ways (a, b) → Crosses crossings a b) × (Crosses crossings a b → Contains ways (a, b))
ways_cross crossings ways is a b = (
  λ has.
      let inside : has.0 < length crossings = omega (arith, has.1, ap length is, length-map crossings way_of) in
      let none : Crossing = record { call = 0; from = 0; to = 0 } in
      let at = get_or crossings has.0 none in
      let same : way_of at ≡ (a, b) = sym (get_or-map way_of crossings has.0 none (a, b) inside) ∙ (ap (λ (xs : List (ℕ × ℕ)). get_or xs has.0 (a, b)) (sym is) ∙ has.2) in
      (at.call, subst (λ (w : ℕ × ℕ). Contains crossings (record { call = at.call; from = w.0; to = w.1 })) same (Contains-get_or crossings has.0 none inside)),
  λ crosses.
      let inside : crosses.1.0 < length ways = omega (arith, crosses.1.1, ap length is, length-map crossings way_of) in
      (crosses.1.0, inside, ap (λ (xs : List (ℕ × ℕ)). get_or xs crosses.1.0 (a, b)) is ∙ (get_or-map way_of crossings crosses.1.0 (record { call = crosses.0; from = a; to = b }) (a, b) crosses.1.1 ∙ ap way_of crosses.1.2)),
)
