-- What is known of the bytes that a reader has left and that a writer holds, call after call.
use Rattle.std.proofs.Common.{ℕ, List, take, Option, Some, None, refl, ◌∙◌}
use Rattle.std.proofs.lemmas.List.{append-nil}
use Rattle.std.specs.Io.KnownBytes.{Keeps, Appends, Consumes}

pub Keeps-same : (a : Option (List ℕ)) → Keeps a a
Keeps-same None = tt
Keeps-same (Some x) = refl

pub Keeps-then : (a b c : Option (List ℕ)) → Keeps a b → Keeps b c → Keeps a c
Keeps-then None b c first second = tt
Keeps-then (Some x) None c first second = absurd first
Keeps-then (Some x) (Some y) None first second = absurd second
Keeps-then (Some x) (Some y) (Some z) first second = second ∙ first

-- A reader that kept its bytes, and then lost some.
pub Consumes-then : (a b c : Option (List ℕ)) (bytes : List ℕ) →
    Keeps a b → Consumes b c bytes → Consumes a c bytes
Consumes-then None b c bytes first second = tt
Consumes-then (Some x) None c bytes first second = absurd first
Consumes-then (Some x) (Some y) None bytes first second = absurd second
Consumes-then (Some x) (Some y) (Some z) bytes first second = rw (← first) second

-- A writer that kept its bytes, and then took some.
pub Appends-then : (a b c : Option (List ℕ)) (bytes : List ℕ) →
    Keeps a b → Appends b c bytes → Appends a c bytes
Appends-then None b c bytes first second = tt
Appends-then (Some x) None c bytes first second = absurd first
Appends-then (Some x) (Some y) None bytes first second = absurd second
Appends-then (Some x) (Some y) (Some z) bytes first second = rw first at second

-- A writer that took none.
pub Keeps-append : (a b : Option (List ℕ)) (piece : List ℕ) → Appends a b (take 0 piece) → Keeps a b
Keeps-append None b piece took = tt
Keeps-append (Some x) None piece took = absurd took
Keeps-append (Some x) (Some y) piece took = rw append-nil at took

pub ruleset known = (Keeps-same, Keeps-then, Consumes-then, Appends-then, Keeps-append)
