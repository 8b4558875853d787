-- What a sink took in one call and then in another.
use Rattle.std.proofs.Common.{◌≡◌, ℕ, ◌+◌, ◌-◌, ◌<◌, ◌≤◌, List, [], ◌++◌}
use Rattle.std.proofs.Common.{length, take, drop, Option, Some, None, refl, append_assoc, arith, length-append, length-drop}
use Rattle.std.proofs.lemmas.Grind.{common_steps}
use Rattle.std.proofs.lemmas.List.{append-nil, take-append-le}
use Rattle.std.proofs.Math.Seq.{take-add, take-append-add}
use Rattle.joern_io.specs.Sinks.{SinkState, Appends, Takes, TakesPrefix, TakesNothing}

Appends-none : (a : Option (List ℕ)) → Appends a a []
Appends-none None = tt
Appends-none (Some a) = rw append-nil refl

Appends-then : (a b c : Option (List ℕ)) (x y : List ℕ) →
    Appends a b x → Appends b c y → Appends a c (x ++ y)
Appends-then None b c x y first second = tt
Appends-then (Some a) b c x y first second = rw (← append_assoc a x y) (rw first at second)

-- Nothing was taken.
pub Takes-none : (a : SinkState) → Takes a a []
Takes-none a = record { taken = Appends-none a.took; never_falls = omega arith }

-- A text, and then another.
pub Takes-then : {a b c : SinkState} {x y : List ℕ} → Takes a b x → Takes b c y → Takes a c (x ++ y)
Takes-then {a} {b} {c} {x} {y} first second = record {
  taken = Appends-then a.took b.took c.took x y first.taken second.taken;
  never_falls = omega (arith, first.never_falls, second.never_falls);
}

-- A proper prefix of a text is one of a longer text.
pub TakesPrefix-longer : {a b : SinkState} {x : List ℕ} (y : List ℕ) →
    TakesPrefix a b x → TakesPrefix a b (x ++ y)
TakesPrefix-longer {a} {b} {x} y prefix =
    let count : ℕ = prefix.taken.0 in
    let within : count ≤ length x = omega (arith, prefix.taken.1) in
    record {
      rose = prefix.rose;
      taken = (
        count,
        omega (arith, length-append x y, prefix.taken.1),
        rw (take-append-le count x y within) prefix.taken.2,
      );
      never_falls = prefix.never_falls;
    }

-- A text, and then a proper prefix of another.
pub TakesPrefix-then : {a b c : SinkState} {x y : List ℕ} →
    Takes a b x → TakesPrefix b c y → TakesPrefix a c (x ++ y)
TakesPrefix-then {a} {b} {c} {x} {y} first second =
    let count : ℕ = second.taken.0 in
    record {
      rose = omega (arith, first.never_falls, second.rose);
      taken = (
        length x + count,
        omega (arith, length-append x y, second.taken.1),
        rw (take-append-add x y count)
            (Appends-then a.took b.took c.took x (take count y) first.taken second.taken.2),
      );
      never_falls = omega (arith, first.never_falls, second.never_falls);
    }

-- The next count bytes of the others, behind the first ones.
pub Takes-take_more : (a b c : SinkState) (bytes : List ℕ) (at count : ℕ) →
    Takes a b (take at bytes) →
    Takes b c (take count (take (length bytes - at) (drop at bytes))) →
    Takes a c (take (at + count) bytes)
Takes-take_more a b c bytes at count first next =
    let left = length-drop at bytes in
    let whole : take (length bytes - at) (drop at bytes) ≡ drop at bytes =
    grind (arith, common_steps, left) in
    rw (take-add at count bytes) (Takes-then first (rw whole at next))

-- A front of the bytes, and then a fault.
pub TakesPrefix-front : (a b c : SinkState) (bytes : List ℕ) (at : ℕ) → at < length bytes →
    Takes a b (take at bytes) → TakesNothing b c → TakesPrefix a c bytes
TakesPrefix-front a b c bytes at below first fault = record {
  rose = omega (arith, first.never_falls, fault.rose);
  taken = (at, below, rw fault.same first.taken);
  never_falls = omega (arith, first.never_falls, fault.never_falls);
}

pub ruleset taking = (Takes-none, Takes-take_more, TakesPrefix-front)
