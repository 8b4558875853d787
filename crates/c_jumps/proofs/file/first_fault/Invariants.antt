use Rattle.std.proofs.Common.{◌≡◌, ℕ, List, [], Option, take}
use Rattle.std.specs.List.{flat_map}
use Rattle.c_lexer.specs.declared.token.Kind.{Kind}
use Rattle.c_tree.specs.Jumps.{bodies_in, functions_in}
use Rattle.c_tree.specs.Lexemes.{spelling_at}
use Rattle.c_jumps.specs.Names.{Adds, IsFaultIn}
use Rattle.c_jumps.proofs.file.first_fault.Given as goal

-- The faults of the functions so far were added, and their names.
abbrev pub invariant-loop-item : goal.invariant-loop-item
invariant-loop-item l = record {
  faults : Adds (IsFaultIn (spelling_at l.kept_tokens) (flat_map bodies_in (take l.item-index l.items))) [] l.faults;
  functions : (kind_of : ℕ → Option Kind) (bytes_of : ℕ → List ℕ) →
      l.functions.items ≡ flat_map (functions_in kind_of bytes_of) (take l.item-index l.items);
}
