-- What is so of a value that is handed on.
use Rattle.std.proofs.Common.{Result, Ok, Err, IfOk}

-- What follows of each value follows of the one that there is.
pub if_ok : {T E : Type 0} {P Q : T → Type 0} (r : Result T E) → IfOk r P → ((t : T) → P t → Q t) → IfOk r Q
if_ok (Ok t) p f = f t p
if_ok (Err e) p f = p
