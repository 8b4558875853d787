-- What a look-up of a name finds in a map to which another was added.

use Rattle.std.proofs.Common.{◌≡◌, ◌≢◌, ◌∙◌, ℕ, Bool, true, false, cond, sym, ap, refl}
use Rattle.std.proofs.Common.{List, [], ◌∷◌, Some}
use Rattle.std.specs.declared.cmp.Ordering.{Ordering}
use Rattle.std.specs.declared.cmp.Ordering.TheVariants.{Less, Equal, Greater}
use Rattle.std.specs.Ordering.{is_eq, match_ordering, nat_cmp}
use Rattle.std.specs.Cmp.Lexicographic.{slice_cmp}
use Rattle.std.specs.Str.{bytes_eq}
use Rattle.std.specs.Global.{Vec}
use Rattle.std.specs.BTreeMap.{insert_entry}
use Rattle.std.proofs.lemmas.Map.Text.{is_eq-slice_cmp}
use Rattle.std.proofs.lemmas.Slice.Eq.{bytes_eq-Decides}
use Rattle.name_table.specs.Table.{Entries, number_in}

-- ---- The order of names

abbrev pub name_cmp : Vec ℕ → Vec ℕ → Ordering
name_cmp x y = slice_cmp nat_cmp x.items y.items

pub same_name : (a b : List ℕ) → is_eq (slice_cmp nat_cmp a b) ≡ true → a ≡ b
same_name a b same = (bytes_eq-Decides a b).0 (sym (is_eq-slice_cmp a b) ∙ same)

pub name_itself : (a : List ℕ) → is_eq (slice_cmp nat_cmp a a) ≡ true
name_itself a = is_eq-slice_cmp a a ∙ (bytes_eq-Decides a a).1 refl

pub number_in-insert_same : (es : Entries) (k : Vec ℕ) (v : ℕ) →
    number_in (insert_entry name_cmp es k v) k.items ≡ Some v
number_in-insert_same [] k v = rw (name_itself k.items) refl
number_in-insert_same (e ∷ es) k v =
    at_order (slice_cmp nat_cmp k.items e.0.items) refl (number_in-insert_same es k v)
  where
    at_order : (o : Ordering) → slice_cmp nat_cmp k.items e.0.items ≡ o →
        number_in (insert_entry name_cmp es k v) k.items ≡ Some v →
        number_in (match_ordering o ((k, v) ∷ e ∷ es) ((e.0, v) ∷ es)
        (e ∷ insert_entry name_cmp es k v)) k.items ≡ Some v
    at_order Less order rest = rw (name_itself k.items) refl
    at_order Equal order rest = rw order refl
    at_order Greater order rest = rw order rest

not_true : (b : Bool) → (b ≡ true → ⊥) → b ≡ false
not_true true never = absurd (never refl)
not_true false never = refl

name_other : (a b : List ℕ) → a ≢ b → is_eq (slice_cmp nat_cmp a b) ≡ false
name_other a b apart = is_eq-slice_cmp a b
    ∙ not_true (bytes_eq a b) (λ same. apart ((bytes_eq-Decides a b).0 same))

pub number_in-insert_other : (es : Entries) (k : Vec ℕ) (v : ℕ) (q : List ℕ) → q ≢ k.items →
    number_in (insert_entry name_cmp es k v) q ≡ number_in es q
number_in-insert_other [] k v q apart = rw (name_other q k.items apart) refl
number_in-insert_other (e ∷ es) k v q apart =
    at_order (slice_cmp nat_cmp k.items e.0.items) refl (number_in-insert_other es k v q apart)
  where
    at_order : (o : Ordering) → slice_cmp nat_cmp k.items e.0.items ≡ o →
        number_in (insert_entry name_cmp es k v) q ≡ number_in es q →
        number_in (match_ordering o ((k, v) ∷ e ∷ es) ((e.0, v) ∷ es)
        (e ∷ insert_entry name_cmp es k v)) q ≡ number_in (e ∷ es) q
    at_order Less order rest = rw (name_other q k.items apart) refl
    at_order Equal order rest =
        let same = same_name k.items e.0.items (rw order refl) in
        let other = name_other q e.0.items (λ is. apart (is ∙ sym same)) in rw other refl
    at_order Greater order rest = ap (cond (is_eq (slice_cmp nat_cmp q e.0.items)) (Some e.1)) rest
