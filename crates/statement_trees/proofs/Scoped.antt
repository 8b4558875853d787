-- What is met in the same way whatever scopes stand around it, if the declarations in these are the
-- same. So a scope that holds nothing but another one, and one that ends where the next ends, change
-- nothing.

use Rattle.std.proofs.Common.{◌≡◌, ℕ, Bool, List, [], ◌∷◌, ◌++◌, refl, sym, ap, ◌∙◌, subst, append_assoc}
use Rattle.c_scopes.specs.Scopes.{Declared, OpenScopes, entered, left, declarations_in}
use Rattle.c_scopes.specs.Events.{Event, Opens, Closes, Declares, Uses}
use Rattle.c_tree.specs.TreeEvents.{scoped}
use Rattle.c_syntax.specs.Scoping.{is_typedef_name, first_is_typedef}
use Rattle.expression_trees.specs.Saying.{AreMet}
use Rattle.statement_trees.specs.Innermost.{declaring, AreAlike, IsFree}
use Rattle.expression_trees.proofs.Meaning.{met_then, met_cut}

-- And none is.
pub record IsShut (events : List Event) : Type 0 where
  pub shut : (s end : OpenScopes) → AreMet s events end → (end ≡ s) × ((t : OpenScopes) → AreAlike s t → AreMet t events t)

pub declaring_alike : (more : List Declared) (s t : OpenScopes) → AreAlike s t → AreAlike (declaring more s) (declaring more t)
declaring_alike more s t e = append_assoc more t.innermost _ ∙ (ap (λ (z : List Declared). more ++ z) e ∙ sym (append_assoc more s.innermost _))

pub free_shut : (events : List Event) → IsShut events → IsFree events
free_shut events h = record { free = λ s end m. let r = h.shut s end m in ([], r.0, r.1) }

pub free_none : IsFree []
free_none = record { free = λ s end m. ([], m, λ t e. refl) }

pub free_declares : (name : List ℕ) (typedef : Bool) → IsFree (Declares name typedef ∷ [])
free_declares name typedef = record { free = λ s end m. (record { name = name; typedef = typedef } ∷ [], m.1, λ t e. (tt, refl)) }

typedefs_alike : (s t : OpenScopes) → AreAlike s t → (name : List ℕ) → is_typedef_name t name ≡ is_typedef_name s name
unfolding is_typedef_name
typedefs_alike s t e name = ap (λ z. first_is_typedef z name) e

pub free_uses : (name : List ℕ) (typedef : Bool) → IsFree (Uses name typedef ∷ [])
free_uses name typedef = record { free = λ s end m. ([], m.1, λ t e. (typedefs_alike s t e name ∙ m.0, refl)) }

pub free_then : (first second : List Event) → IsFree first → IsFree second → IsFree (first ++ second)
free_then first second p q = record {
  free = λ s end m.
      let c = met_cut s end first second m in
      let a = p.free s c.0 c.1 in
      let b = q.free c.0 end c.2 in (
        b.0 ++ a.0,
        b.1 ∙ (ap (declaring b.0) a.1 ∙ ap (λ (z : List Declared). record { innermost = z; around = s.around }) (sym (append_assoc b.0 a.0 s.innermost))),
        λ t e.
            let alike : AreAlike c.0 (declaring a.0 t) = declaring_alike a.0 s t e ∙ ap declarations_in (sym a.1) in
            let there : AreMet (declaring a.0 t) second (declaring b.0 (declaring a.0 t)) = b.2 (declaring a.0 t) alike in
            subst (AreMet t (first ++ second)) (ap (λ (z : List Declared). record { innermost = z; around = t.around }) (sym (append_assoc b.0 a.0 t.innermost)))
            (met_then t (declaring a.0 t) (declaring b.0 (declaring a.0 t)) first second (a.2 t e) there),
      );
}

-- A scope of its own.
pub shut_scoped : (events : List Event) → IsFree events → IsShut (scoped events)
shut_scoped events h = record {
  shut = λ s end m.
      let c = met_cut (entered s) end events (Closes ∷ []) m.1 in
      let a = h.free (entered s) c.0 c.1 in (
        c.2.1 ∙ ap left a.1,
        λ t e. (tt, met_then (entered t) (declaring a.0 (entered t)) t events (Closes ∷ []) (a.2 (entered t) e) (tt, refl)),
      );
}

-- ---- A scope that holds nothing but another one

pub wrapped : (events : List Event) → IsShut events → (more : List Event) (s end : OpenScopes) → AreMet s (events ++ more) end → AreMet s (scoped events ++ more) end
wrapped events h more s end m =
    let c = met_cut s end events more m in
    let a = h.shut s c.0 c.1 in
    let whole : AreMet s (scoped events) s = (tt, met_then (entered s) (entered s) s events (Closes ∷ []) (a.1 (entered s) refl) (tt, refl)) in
    met_then s s end (scoped events) more whole (subst (λ z. AreMet z more end) a.0 c.2)

pub unwrapped : (events : List Event) → IsShut events → (more : List Event) (s end : OpenScopes) → AreMet s (scoped events ++ more) end → AreMet s (events ++ more) end
unwrapped events h more s end m =
    let c = met_cut s end (scoped events) more m in
    let d = met_cut (entered s) c.0 events (Closes ∷ []) c.1.1 in
    let a = h.shut (entered s) d.0 d.1 in
    let back : c.0 ≡ s = d.2.1 ∙ ap left a.0 in
    met_then s s end events more (a.1 s refl) (subst (λ z. AreMet z more end) back c.2)

-- ---- A scope that ends where the next ends

-- The one is met where the other is, which is a scope of its own or nothing.
pub record IsSame (flat nested : List Event) : Type 0 where
  pub free : IsFree flat
  pub shut : IsShut nested
  pub to : (s end : OpenScopes) → AreMet s flat end → AreMet s nested s
  pub from : (s end : OpenScopes) → AreMet s nested end → (other : OpenScopes) × AreMet s flat other

pub same_shut : (events : List Event) → IsShut events → IsSame events events
same_shut events h = record {
  free = free_shut events h;
  shut = h;
  to = λ s end m. subst (AreMet s events) ((h.shut s end m).0) m;
  from = λ s end m. (end, m);
}

pub shut_none : IsShut []
shut_none = record { shut = λ s end m. (m, λ t e. refl) }

pub same_step : (first body flat nested : List Event) → IsFree first → IsFree body → IsSame flat nested → IsSame (first ++ (scoped body ++ flat)) (scoped (first ++ (scoped body ++ nested)))
same_step first body flat nested p q r =
    let b = shut_scoped body q in
    let inside : IsFree (first ++ (scoped body ++ nested)) = free_then first (scoped body ++ nested) p (free_then (scoped body) nested (free_shut (scoped body) b) (free_shut nested r.shut)) in record {
      free = free_then first (scoped body ++ flat) p (free_then (scoped body) flat (free_shut (scoped body) b) r.free);
      shut = shut_scoped (first ++ (scoped body ++ nested)) inside;
      to = λ s end m.
          let c = met_cut s end first (scoped body ++ flat) m in
          let d = met_cut c.0 end (scoped body) flat c.2 in
          let there : AreMet s (first ++ (scoped body ++ nested)) d.0 = met_then s c.0 d.0 first (scoped body ++ nested) c.1 (met_then c.0 d.0 d.0 (scoped body) nested d.1 (r.to d.0 end d.2)) in
          let a = inside.free s d.0 there in
          (tt, met_then (entered s) (declaring a.0 (entered s)) s (first ++ (scoped body ++ nested)) (Closes ∷ []) (a.2 (entered s) refl) (tt, refl));
      from = λ s end m.
          let w = met_cut (entered s) end (first ++ (scoped body ++ nested)) (Closes ∷ []) m.1 in
          let a = inside.free (entered s) w.0 w.1 in
          let c = met_cut s (declaring a.0 s) first (scoped body ++ nested) (a.2 s refl) in
          let d = met_cut c.0 (declaring a.0 s) (scoped body) nested c.2 in
          let o = r.from d.0 (declaring a.0 s) d.2 in
          (o.0, met_then s c.0 o.0 first (scoped body ++ flat) c.1 (met_then c.0 d.0 o.0 (scoped body) flat d.1 o.1));
    }

pub nested_from_flat : (flat nested more : List Event) → IsSame flat nested → (s end : OpenScopes) → AreMet s (Opens ∷ (flat ++ (Closes ∷ more))) end → AreMet s (nested ++ more) end
nested_from_flat flat nested more h s end m =
    let c = met_cut (entered s) end flat (Closes ∷ more) m.1 in
    let a = h.free.free (entered s) c.0 c.1 in
    let back : left c.0 ≡ s = ap left a.1 in
    let there = (h.shut.shut (entered s) (entered s) (h.to (entered s) c.0 c.1)).1 s refl in
    met_then s s end nested more there (subst (λ z. AreMet z more end) back c.2.1)

pub flat_from_nested : (flat nested more : List Event) → IsSame flat nested → (s end : OpenScopes) → AreMet s (nested ++ more) end → AreMet s (Opens ∷ (flat ++ (Closes ∷ more))) end
flat_from_nested flat nested more h s end m =
    let c = met_cut s end nested more m in
    let a = h.shut.shut s c.0 c.1 in
    let o = h.from (entered s) (entered s) (a.1 (entered s) refl) in
    let f = h.free.free (entered s) o.0 o.1 in
    let back : left o.0 ≡ s = ap left f.1 in
    (tt, met_then (entered s) o.0 end flat (Closes ∷ more) o.1 (tt, subst (λ z. AreMet z more end) (a.0 ∙ sym back) c.2))
