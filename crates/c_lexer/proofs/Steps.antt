-- Steps of a reading.
use Rattle.std.proofs.Common.{◌≡◌, ℕ, ◌<◌, List, [], ◌∷◌, ◌++◌, length, arith}
use Rattle.c_lexer.specs.Passing.{IsPassed, PassesAll, nothing, onward}
use Rattle.c_lexer.specs.Reading.{Reads, IsTokenOf, BeginsNoToken, StopsAt}
use Rattle.c_lexer.specs.declared.token.Token.{Token}
use Rattle.c_lexer.proofs.Comments.{passed_forward}

-- what is passed over stands before the rest
pub reads_passed : (bytes : List ℕ) (from via : ℕ) (tokens : List Token) (stop : ℕ) → IsPassed bytes from via → Reads bytes via tokens stop → Reads bytes from tokens stop
reads_passed bytes from via [] stop p h = (record { passed = onward p h.0.passed; no_more = h.0.no_more }, h.1)
reads_passed bytes from via (token ∷ tokens) stop p h = (record { passed = onward p h.0.passed; no_more = h.0.no_more }, h.1, h.2)

-- where nothing is passed over, that is all
passes_none : (bytes : List ℕ) (at : ℕ) → ((to : ℕ) → IsPassed bytes at to → ⊥) → PassesAll bytes at at
passes_none bytes at none = record { passed = nothing; no_more = none }

-- the token is read before the rest
pub reads_token : (bytes : List ℕ) (token : Token) (tokens : List Token) (stop : ℕ) → ((to : ℕ) → IsPassed bytes token.start to → ⊥) → IsTokenOf bytes token → Reads bytes token.end tokens stop → Reads bytes token.start (token ∷ tokens) stop
reads_token bytes token tokens stop none t h = (passes_none bytes token.start none, t, h)

-- the reading stops where nothing is passed over and no token stands
pub reads_none : (bytes : List ℕ) (at : ℕ) → ((to : ℕ) → IsPassed bytes at to → ⊥) → BeginsNoToken bytes at → Reads bytes at [] at
reads_none bytes at none begins = (passes_none bytes at none, begins)

-- the reading ends with the text
pub reads_end : (bytes : List ℕ) (at : ℕ) → at ≡ length bytes → Reads bytes at [] at
reads_end bytes at e = reads_none bytes at (λ to p. let f = passed_forward bytes at to p in omega arith) (λ kind to a b s. omega arith)

-- before the end, where the reading comes to, it stops there
pub stops_at : (bytes : List ℕ) (at : ℕ) (tokens : List Token) → ((rest : List Token) (stop : ℕ) → Reads bytes at rest stop → Reads bytes 0 (tokens ++ rest) stop) → at < length bytes → ((to : ℕ) → IsPassed bytes at to → ⊥) → BeginsNoToken bytes at → StopsAt bytes at
stops_at bytes at tokens reads inside none begins = record { before_end = inside; tokens = tokens ++ []; reads = reads [] at (reads_none bytes at none begins) }
