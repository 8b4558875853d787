use Rattle.std.proofs.Common.{rules, ◌≡◌, ◌<◌, Bool, true, false, cond, List, [], ℕ, length, map, take, get_or, refl, sym, ap, ◌∙◌, subst, arith}
use Rattle.std.specs.List.{IsDistinct, list_any}
use Rattle.std.specs.Str.{bytes_eq}
use Rattle.std.specs.Ordering.{nat_cmp}
use Rattle.std.specs.Borrow.{Bor}
use Rattle.std.specs.Cmp.Lexicographic.{slice_cmp}
use Rattle.std.specs.BTreeSet as sorted
use Rattle.std.proofs.lemmas.List.{length-map, take_all}
use Rattle.std.proofs.lemmas.Map.Text.{is_eq-slice_cmp}
use Rattle.first_grammar.proofs.Differing.{clash, differ_from, distinct_more, key_is, seen_more}
use Rattle.first_grammar.proofs.names.names_differ.Goals as goal

pub loop-name-init : goal.loop-name-init
unfolding IsDistinct
loop-name-init c = record { seen_is = λ q. search rules; distinct = tt }

pub returns-then-not-branch : goal.returns-then-not-branch
returns-then-not-branch c =
    let i = c.loop-name.name-index in
    let names = map (λ (name : Bor (List ℕ)). name.now) c.args.names.now in
    let key : Bor (List ℕ) = get_or c.args.names.now i (record { ref_ptr = (0, 0); now = [] }) in
    let l : i < length c.args.names.now = omega arith in
    let l_names : i < length names = omega (arith, length-map c.args.names.now (λ (name : Bor (List ℕ)). name.now)) in
    let found : sorted.contains (λ x y. slice_cmp nat_cmp x.now y.now) c.loop-name.seen key ≡ true =
    grind (arith, c.in_ok-insert.ensures.added) in
    let any : list_any (bytes_eq key.now) (take i names) ≡ true = sym (c.loop-name.invariant.seen_is key) ∙ found in
    let no_more = clash names i l_names (subst (λ (v : List ℕ). list_any (bytes_eq v) (take i names) ≡ true)
    (key_is c.args.names.now i (record { ref_ptr = (0, 0); now = [] }) l) any) in
    ((λ h. absurd (cc)), λ h. absurd (no_more h))

pub loop-name-preserved : goal.loop-name-preserved
loop-name-preserved c =
    let i = c.loop-name.name-index in
    let names = map (λ (name : Bor (List ℕ)). name.now) c.args.names.now in
    let key : Bor (List ℕ) = get_or c.args.names.now i (record { ref_ptr = (0, 0); now = [] }) in
    let l : i < length c.args.names.now = omega arith in
    let l_names : i < length names = omega (arith, length-map c.args.names.now (λ (name : Bor (List ℕ)). name.now)) in
    let at = key_is c.args.names.now i (record { ref_ptr = (0, 0); now = [] }) l in
    let absent : sorted.contains (λ x y. slice_cmp nat_cmp x.now y.now) c.loop-name.seen key ≡ false =
    grind (arith, c.in_ok-insert.ensures.added) in
    let none : list_any (bytes_eq key.now) (take i names) ≡ false =
    sym (c.loop-name.invariant.seen_is key) ∙ absent in
    record {
      seen_is = λ q.
          let old = sorted.contains (λ x y. slice_cmp nat_cmp x.now y.now) c.loop-name.seen q in
          seen_more names i q.now _ old l_names
          (c.in_ok-insert.ensures.updates.0 q ∙
          (ap (λ (v : Bool). cond v true old) (is_eq-slice_cmp key.now q.now) ∙
          ap (λ (v : List ℕ). cond (bytes_eq v q.now) true old) at))
          (c.loop-name.invariant.seen_is q);
      distinct = distinct_more names i l_names c.loop-name.invariant.distinct
          (subst (λ (v : List ℕ). list_any (bytes_eq v) (take i names) ≡ false) at none);
    }

pub returns : goal.returns
returns c =
    let names = map (λ (name : Bor (List ℕ)). name.now) c.args.names.now in
    let all : take c.loop-name.name-index names ≡ names =
    take_all c.loop-name.name-index names
    (omega (arith, length-map c.args.names.now (λ (name : Bor (List ℕ)). name.now))) in
    ((λ h. differ_from names (subst (IsDistinct bytes_eq) all c.loop-name.invariant.distinct)), λ h. refl)
