use Rattle.std.proofs.Common.{◌≡◌, List, ℕ, map, take}
use Rattle.std.specs.List.{IsDistinct, list_any}
use Rattle.std.specs.Str.{bytes_eq}
use Rattle.std.specs.Ordering.{nat_cmp}
use Rattle.std.specs.Borrow.{Bor}
use Rattle.std.specs.Cmp.Lexicographic.{slice_cmp}
use Rattle.std.specs.BTreeSet as sorted
use Rattle.first_grammar.proofs.names.names_differ.Given as goal

-- the set has the names so far, which differ
abbrev pub invariant-loop-name : goal.invariant-loop-name
invariant-loop-name l = record {
  seen_is : (q : Bor (List ℕ)) → sorted.contains (λ x y. slice_cmp nat_cmp x.now y.now) l.seen q ≡
      list_any (bytes_eq q.now) (take l.name-index (map (λ name. name.now) l.names));
  distinct : IsDistinct bytes_eq (take l.name-index (map (λ name. name.now) l.names));
}
