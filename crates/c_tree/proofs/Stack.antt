-- The parts that are left, when one more is put before them.

use Rattle.std.proofs.Common.{◌≡◌, ◌+◌, List, [], ◌∷◌, ◌++◌, refl, arith, append_assoc, append-nil}
use Rattle.c_tree.specs.Walk.{part_spelling, part_weight, pending_spelling, pending_weight}
use Rattle.c_tree.specs.declared.part.Part.{Part}

pub pending_spelling-push : (parts : List Part) (part : Part) →
    pending_spelling (parts ++ part ∷ []) ≡ part_spelling part ++ pending_spelling parts
unfolding pending_spelling
pending_spelling-push [] part = rw append-nil refl
pending_spelling-push (first ∷ parts) part = rw (pending_spelling-push parts part, append_assoc) refl

pub pending_weight-push : (parts : List Part) (part : Part) →
    pending_weight (parts ++ part ∷ []) ≡ part_weight part + pending_weight parts
unfolding pending_weight
pending_weight-push [] part = omega arith
pending_weight-push (first ∷ parts) part = omega (arith, pending_weight-push parts part)

pub pending_spelling-nil : pending_spelling [] ≡ []
unfolding pending_spelling
pending_spelling-nil = refl

pub pending_weight-nil : pending_weight [] ≡ 0
unfolding pending_weight
pending_weight-nil = refl

pub ruleset stack_laws = (pending_spelling-push, pending_weight-push, pending_spelling-nil, pending_weight-nil)
