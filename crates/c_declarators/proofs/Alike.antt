-- Sets of declarators that tell no names apart.

use Rattle.std.proofs.Common.{Bool, true, false, ◌∷◌, refl}
use Rattle.c_lexer.specs.declared.mark.TheConstants.{MARK_STAR}
use Rattle.c_reading.specs.Terminals.{mark}
use Rattle.c_specifiers.specs.DeclarationSets.{begins_unnamed, begins_either}
use Rattle.c_specifiers.proofs.Unions.{IsAlike}

pub unnamed_alike : (atomic : Bool) → IsAlike (begins_unnamed atomic)
unnamed_alike true = refl
unnamed_alike false = refl

pub either_alike : (atomic : Bool) → IsAlike (begins_either atomic)
either_alike true = refl
either_alike false = refl

pub abstract_alike : (atomic : Bool) → IsAlike (mark MARK_STAR ∷ begins_unnamed atomic)
abstract_alike true = refl
abstract_alike false = refl

pub some_either_alike : (atomic : Bool) → IsAlike (mark MARK_STAR ∷ begins_either atomic)
some_either_alike true = refl
some_either_alike false = refl
