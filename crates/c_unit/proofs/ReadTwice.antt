-- The two readings of an external declaration, of which the one is tried first.

use Rattle.std.proofs.Common.{◌≡◌, ℕ, max, Bool, not, Result, Ok, Err, IfOk, refl, sym, ap, ◌∙◌, subst}
use Rattle.c_tree.specs.declared.tree.Item.{Item}
use Rattle.c_scopes.specs.Scopes.{OpenScopes}
use Rattle.reading.specs.Readers.{Input, Outcome, and_then, offends, too_deep}
use Rattle.c_reading.specs.Kept.{KeptToken}
use Rattle.c_reading.specs.Cursors.{Around, number_ahead}
use Rattle.c_reading.specs.declared.stop.Stop.{Stop}
use Rattle.c_reading.specs.declared.stop.Stop.TheVariants as stop
use Rattle.c_reading.specs.Reads.{Halts}
use Rattle.c_syntax.specs.Scoping.{PartReader, input_from}
use Rattle.c_stmt.specs.Below.{BelowReaders}
use Rattle.c_unit.specs.declared.forms.Head.{Head}
use Rattle.c_unit.specs.declared.forms.External.{External}
use Rattle.c_unit.specs.declared.external.Tried.TheVariants.{Counts, Offends}
use Rattle.c_unit.specs.Gives.{Takes}
use Rattle.c_unit.specs.Tries.{tried, later_of}
use Rattle.c_unit.specs.Later.{further, behind_first}
use Rattle.c_unit.specs.UnitReaders.{picked, read_twice, external}
use Rattle.c_unit.proofs.Replaying.{Place, later_number, behind_replay}

module _ (below : BelowReaders) (head : ℕ → PartReader Head) (room : ℕ) (is_definition : ℕ → Bool) (at : Place) (first : Bool) (chosen : first ≡ is_definition (number_ahead at)) where
  abbrev One : Bool → Outcome KeptToken OpenScopes Around Item
  One which = picked below head room which at

  abbrev Both : Outcome KeptToken OpenScopes Around Item
  Both = external below head room is_definition at

  opened : Both ≡ behind_first (One first) (One (not first))
  unfolding external
  opened = ap (λ (b : Bool). read_twice below head room b at) (sym chosen)

  -- The first goes on.
  pub first_counts : (item : Item) (next : Place) → One first ≡ Ok (item, next) → Both ≡ Ok (item, next)
  first_counts item next e = opened ∙ ap (λ (o : Outcome KeptToken OpenScopes Around Item). behind_first o (One (not first))) e

  -- It stops, and offends nowhere.
  pub first_stops : (s : Stop) → ((token : ℕ) → s ≡ stop.Offends token → ⊥) → Halts (One first) s → Halts Both s
  first_stops (stop.Offends token) never h = absurd (never token refl)
  first_stops (stop.TooDeep token) never h = (h.0, opened ∙ ap (λ (o : Outcome KeptToken OpenScopes Around Item). behind_first o (One (not first))) h.1, h.2)
  first_stops stop.Memory never h = tt

  -- It offends somewhere, and the second counts.
  behind_it : (token : ℕ) (h : Halts (One first) (stop.Offends token)) (o : Outcome KeptToken OpenScopes Around Item) → One (not first) ≡ o → Both ≡ behind_first (Err (offends h.0)) o
  behind_it token h o e =
      opened ∙ (ap (λ (z : Outcome KeptToken OpenScopes Around Item). behind_first z (One (not first))) h.1
      ∙ ap (λ (z : Outcome KeptToken OpenScopes Around Item). behind_first (Err (offends h.0)) z) e)

  pub second_counts : (token : ℕ) (item : Item) (next : Place) → Halts (One first) (stop.Offends token) → One (not first) ≡ Ok (item, next) → Both ≡ Ok (item, next)
  second_counts token item next h e = behind_it token h (Ok (item, next)) e

  pub second_stops : (token : ℕ) (s : Stop) → ((other : ℕ) → s ≡ stop.Offends other → ⊥) → Halts (One first) (stop.Offends token) → Halts (One (not first)) s → Halts Both s
  second_stops token (stop.Offends other) never h k = absurd (never other refl)
  second_stops token (stop.TooDeep other) never h k = (k.0, behind_it token h (Err (too_deep k.0)) k.1, k.2)
  second_stops token stop.Memory never h k = tt

  -- Both offend, and the later stop counts.
  pub later_stops : (token other : ℕ) → Halts (One first) (stop.Offends token) → Halts (One (not first)) (stop.Offends other) → Halts Both (stop.Offends (max token other))
  later_stops token other h k = (
    further h.0 k.0,
    behind_it token h (Err (offends k.0)) k.1,
    ap (λ n. max n other) h.2 ∙ (ap (λ n. max (number_ahead h.0) n) k.2 ∙ sym (later_number h.0 k.0)),
  )

  -- ---- As the code says it

  abbrev Picks : Result External Stop → Type 0
  Picks r = IfOk r (λ taken. picked below head room taken.definition at ≡ Ok (taken.item, input_from taken.source))

  pub counts : (r s : Result External Stop) → Takes (One first) r → IfOk r (λ taken. taken.definition ≡ first) → tried r ≡ Counts s → Takes Both s × Picks s
  counts (Ok taken) (Ok same) t k e =
      let f : taken ≡ same = cc in
      subst (λ (z : External). Takes Both (Ok z) × Picks (Ok z)) f
      (first_counts taken.item (input_from taken.source) t, subst (λ (b : Bool). picked below head room b at ≡ Ok (taken.item, input_from taken.source)) (sym k) t)
  counts (Ok taken) (Err s) t k e = absurd (cc)
  counts (Err (stop.Offends token)) s t k e = absurd (cc)
  counts (Err (stop.TooDeep token)) (Ok same) t k e = absurd (cc)
  counts (Err (stop.TooDeep token)) (Err s) t k e =
      let f : stop.TooDeep token ≡ s = cc in (subst (λ (z : Stop). Halts Both z) f (first_stops (stop.TooDeep token) (λ other g. absurd (cc)) t), tt)
  counts (Err stop.Memory) (Ok same) t k e = absurd (cc)
  counts (Err stop.Memory) (Err s) t k e = let f : stop.Memory ≡ s = cc in (subst (λ (z : Stop). Halts Both z) f tt, tt)

  -- The stop of the first that is told.
  offended : (r : Result External Stop) (token : ℕ) → Takes (One first) r → tried r ≡ Offends token → Halts (One first) (stop.Offends token)
  offended (Ok taken) token t e = absurd (cc)
  offended (Err (stop.Offends other)) token t e = let f : other ≡ token = cc in subst (λ n. Halts (One first) (stop.Offends n)) f t
  offended (Err (stop.TooDeep other)) token t e = absurd (cc)
  offended (Err stop.Memory) token t e = absurd (cc)

  pub later_counts : (r second : Result External Stop) (token : ℕ) → Takes (One first) r → tried r ≡ Offends token → Takes (One (not first)) second → IfOk second (λ taken. taken.definition ≡ not first) →
      Takes Both (later_of token second) × Picks (later_of token second)
  later_counts r (Ok taken) token t e u k =
      (second_counts token taken.item (input_from taken.source) (offended r token t e) u, subst (λ (b : Bool). picked below head room b at ≡ Ok (taken.item, input_from taken.source)) (sym k) u)
  later_counts r (Err (stop.Offends other)) token t e u k = (later_stops token other (offended r token t e) u, tt)
  later_counts r (Err (stop.TooDeep other)) token t e u k = (second_stops token (stop.TooDeep other) (λ n g. absurd (cc)) (offended r token t e) u, tt)
  later_counts r (Err stop.Memory) token t e u k = (tt, tt)

  pub later_given : (o : Outcome KeptToken OpenScopes Around (Prim.Unit {0})) (r second given : Result External Stop) (token : ℕ) → o ≡ Ok (tt, at) →
      Takes (One first) r → tried r ≡ Offends token → Takes (and_then o (λ behind. picked below head room (not first))) second → IfOk second (λ taken. taken.definition ≡ not first) →
      given ≡ later_of token second → Takes Both given × Picks given
  later_given o r second given token before t e u k is =
      subst (λ (z : Result External Stop). Takes Both z × Picks z) (sym is)
      (later_counts r second token t e (subst (λ (z : Outcome KeptToken OpenScopes Around Item). Takes z second) (behind_replay at (picked below head room (not first)) before) u) k)
