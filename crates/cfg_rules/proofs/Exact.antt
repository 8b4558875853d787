-- When sets that are carried through a construct are exact.
use Rattle.std.proofs.Common.{ℕ, zero, suc, ◌≡◌, ◌↔◌, ◌⊎◌, inl, inr, List, [], ◌∷◌, Option, Some, None, Bool, slice_get, length, refl, sym, subst, ap, ◌∙◌}
use Rattle.cfg_rules.specs.declared.rule.Rule.{Rule}
use Rattle.cfg_rules.specs.declared.summary.Summary.{Summary}
use Rattle.cfg_rules.specs.declared.arrival.Arrival.{Arrival}
use Rattle.cfg_rules.specs.declared.joined.Joined.{Joined}
use Rattle.cfg_rules.specs.declared.loops.Ring.{Ring}
use Rattle.cfg_rules.specs.Member.{IsIn}
use Rattle.cfg_rules.specs.Rules.{Tail, entry, out_of, stop, Head, into, mark, jump, finish, exit, Arrow, arrow, arrows, CanBreak}
use Rattle.cfg_rules.specs.Plan.{Construct, HasArrow, HasRule, RuleAt, part, JumpsTo, end_of, Breaks, BreaksAt, Continues, arrows_at, parts_at, part_count}
use Rattle.cfg_rules.specs.Joined.{Source, entered, after, Point, tail, head, Comes, begin, own, along, through, over, up, broke, continued, Goes, stops, jumps, finishes, inner}
use Rattle.cfg_rules.specs.Sets.{Has, Got, IsAfter, IsLed, IsLeft, LeavesBy, IsLedRound, IsEntry, IsAgain, IsPast, AreFrom, IsPart, AreBreaks, AreTargets, IsJoined, IsFirstOf, IsLastOf, IsPassed, marks_of}

-- Steps through a part that may be absent.

pub passes : {plan : List Construct} {x k : ℕ} {s : Source} → IsPassed plan (part plan x k) → Comes plan x s (head (into k)) → Comes plan x s (tail (out_of k))
passes {plan} {x} {k} {s} p d = by (part plan x k) refl p where
  by : (o : Option ℕ) → part plan x k ≡ o → IsPassed plan o → Comes plan x s (tail (out_of k))
  by None e p = over d e
  by (Some c) e p = through d e p

pub ups : {plan : List Construct} (x k a : ℕ) → (IsLastOf plan (part plan x k) a ⊎ Continues plan x a k) → Comes plan x (after a) (tail (out_of k))
ups {plan} x k a (inl l) = by (part plan x k) refl l where
  by : (o : Option ℕ) → part plan x k ≡ o → IsLastOf plan o a → Comes plan x (after a) (tail (out_of k))
  by None e l = absurd l
  by (Some c) e l = up e l
ups x k a (inr c) = continued c

pub inners : {plan : List Construct} {x k b : ℕ} {s : Source} → Comes plan x s (head (into k)) → IsFirstOf plan (part plan x k) b → Goes plan x s b
inners {plan} {x} {k} {b} {s} d f = by (part plan x k) refl f where
  by : (o : Option ℕ) → part plan x k ≡ o → IsFirstOf plan o b → Goes plan x s b
  by None e f = absurd f
  by (Some c) e f = inner d e f

-- Sets at the parts, at the mark, at the jump and at the exit.
abbrev pub flow : (ins outs : ℕ → Source → Type 0) (marks leads finals ends : Source → Type 0) → ℕ → Point → Source → Type 0
flow ins outs marks leads finals ends x (tail entry) s = s ≡ entered
flow ins outs marks leads finals ends x (tail stop) s = s ≡ after x
flow ins outs marks leads finals ends x (tail (out_of k)) s = outs k s
flow ins outs marks leads finals ends x (head (into k)) s = ins k s
flow ins outs marks leads finals ends x (head mark) s = marks s
flow ins outs marks leads finals ends x (head jump) s = leads s
flow ins outs marks leads finals ends x (head finish) s = finals s
flow ins outs marks leads finals ends x (head exit) s = ends s

-- Each arrow leads on.
abbrev pub Closes : (Point → Source → Type 0) → List Arrow → Type 0
Closes at [] = Unit {0}
Closes at (r ∷ rs) = ((s : Source) → at (tail r.from) s → at (head r.to) s) × Closes at rs

pub closes : (at : Point → Source → Type 0) (rs : List Arrow) (t : Tail) (h : Head) (s : Source) → Closes at rs → IsIn rs (arrow t h) → at (tail t) s → at (head h) s
unfolding IsIn
closes at [] t h s c m d = absurd m
closes at (r ∷ rs) t h s c (inl e) d =
    let P : Arrow → Type 0 = λ v. at (tail v.from) s → at (head v.to) s in subst P e (c.0 s) d
closes at (r ∷ rs) t h s c (inr m) d = closes at rs t h s c.1 m d

pub record IsClosed (plan : List Construct) (x : ℕ) (rs : List Arrow) (ins outs : ℕ → Source → Type 0) (marks leads finals ends : Source → Type 0) : Type 0 where
  pub arrows : Closes (flow ins outs marks leads finals ends x) rs
  pub passed : (k : ℕ) (s : Source) → IsPassed plan (part plan x k) → ins k s → outs k s
  pub up : (k a : ℕ) → (IsLastOf plan (part plan x k) a ⊎ Continues plan x a k) → outs k (after a)
  pub broke : (a : ℕ) → Breaks plan x a → ends (after a)

pub record HasArrows (plan : List Construct) (x : ℕ) (rs : List Arrow) : Type 0 where
  pub is : (t : Tail) (h : Head) → HasArrow plan x t h ↔ IsIn rs (arrow t h)

pub complete : {plan : List Construct} {x : ℕ} (rs : List Arrow) (ins outs : ℕ → Source → Type 0) (marks leads finals ends : Source → Type 0) → HasArrows plan x rs → IsClosed plan x rs ins outs marks leads finals ends → {s : Source} {p : Point} → Comes plan x s p → flow ins outs marks leads finals ends x p s
complete rs ins outs marks leads finals ends a c begin = refl
complete rs ins outs marks leads finals ends a c own = refl
complete {plan} {x} rs ins outs marks leads finals ends a c {s = s} (along {t = t} {h = h} d l) =
    closes (flow ins outs marks leads finals ends x) rs t h s c.arrows ((a.is t h).0 l) (complete rs ins outs marks leads finals ends a c d)
complete {plan} rs ins outs marks leads finals ends a c {s = s} (through {k = k} d e m) =
    c.passed k s (subst (IsPassed plan) (sym e) m) (complete rs ins outs marks leads finals ends a c d)
complete {plan} rs ins outs marks leads finals ends a c {s = s} (over {k = k} d e) =
    c.passed k s (subst (IsPassed plan) (sym e) tt) (complete rs ins outs marks leads finals ends a c d)
complete {plan} rs ins outs marks leads finals ends a c (up {k = k} {a = b} e m) =
    c.up k b (inl (subst (λ (o : Option ℕ). IsLastOf plan o b) (sym e) m))
complete rs ins outs marks leads finals ends a c (broke {a = b} r) = c.broke b r
complete rs ins outs marks leads finals ends a c (continued {a = b} {k = k} r) = c.up k b (inr r)

pub rule_arrows : (plan : List Construct) (x : ℕ) (r : Rule) → HasRule plan x r → HasArrows plan x (arrows r (part_count plan x))
unfolding HasRule HasArrow part_count
rule_arrows plan x r h = by (slice_get plan x) refl h where
  by : (o : Option Construct) → slice_get plan x ≡ o → RuleAt o r → HasArrows plan x (arrows r (part_count plan x))
  by None e h = absurd h
  by (Some c) e h =
      let P : Option Construct → Type 0 = λ o. (t : Tail) (d : Head) → IsIn (arrows_at o) (arrow t d) ↔ IsIn (arrows r (length (parts_at o))) (arrow t d) in
      let Q : Rule → Type 0 = λ q. (t : Tail) (d : Head) → IsIn (arrows c.rule (length c.parts)) (arrow t d) ↔ IsIn (arrows q (length c.parts)) (arrow t d) in
      record { is = subst P (sym e) (subst Q h (λ t d. (λ m. m, λ m. m))) }

-- What the sets of a part say.

pub left_sound : {plan : List Construct} {x k : ℕ} {m : Summary} {here next : Arrival} → IsPart plan x k m → IsLeft m.last.items m.passable here next → ((s : Source) → Has here s → Comes plan x s (head (into k))) → (s : Source) → Has next s → Comes plan x s (tail (out_of k))
unfolding IsAfter
left_sound p l h entered i = elim ((l.has entered).0 i) [ inl e ↦ absurd e | inr q ↦ passes (p.passable.0 q.0) (h entered q.1) ]
left_sound {x = x} {k = k} p l h (after a) i = elim ((l.has (after a)).0 i) [ inl e ↦ ups x k a ((p.last a).0 e) | inr q ↦ passes (p.passable.0 q.0) (h (after a) q.1) ]

pub left_up : {plan : List Construct} {x k : ℕ} {m : Summary} {here next : Arrival} (a : ℕ) → IsPart plan x k m → IsLeft m.last.items m.passable here next → (IsLastOf plan (part plan x k) a ⊎ Continues plan x a k) → Has next (after a)
unfolding IsAfter
left_up a p l u = (l.has (after a)).1 (inl ((p.last a).1 u))

pub left_passes : {plan : List Construct} {x k : ℕ} {m : Summary} {here next : Arrival} (s : Source) → IsPart plan x k m → IsLeft m.last.items m.passable here next → IsPassed plan (part plan x k) → Has here s → Has next s
left_passes s p l u h = (l.has s).1 (inr (p.passable.1 u, h))

pub past_ends : {plan : List Construct} {x : ℕ} {there next : Arrival} {marks : List ℕ} (a : ℕ) → AreBreaks plan x marks → IsPast there marks next → Breaks plan x a → Has next (after a)
unfolding IsAfter
past_ends a b p r = (p.has (after a)).1 (inr ((b.are a).1 r))

pub past_sound : {plan : List Construct} {x : ℕ} {there next : Arrival} {marks : List ℕ} → AreBreaks plan x marks → IsPast there marks next → ((s : Source) → Has there s → Comes plan x s (head exit)) → (s : Source) → Has next s → Comes plan x s (head exit)
unfolding IsAfter
past_sound b p h entered i = elim ((p.has entered).0 i) [ inl t ↦ h entered t | inr l ↦ absurd l ]
past_sound b p h (after a) i = elim ((p.has (after a)).0 i) [ inl t ↦ h (after a) t | inr l ↦ broke ((b.are a).0 l) ]

pub goes_complete : {plan : List Construct} {x : ℕ} (rs : List Arrow) (ins outs : ℕ → Source → Type 0) (marks leads finals ends : Source → Type 0) → HasArrows plan x rs → IsClosed plan x rs ins outs marks leads finals ends → (got : Source → ℕ → Type 0) → ((s : Source) → marks s → got s x) → ((s : Source) (b : ℕ) → leads s → JumpsTo plan x b → got s b) → ((s : Source) (b : ℕ) → finals s → end_of plan x ≡ Some b → got s b) → ((k : ℕ) (s : Source) (b : ℕ) → ins k s → IsFirstOf plan (part plan x k) b → got s b) → {s : Source} {b : ℕ} → Goes plan x s b → got s b
goes_complete rs ins outs marks leads finals ends a c got atm atj atf ati {s = s} (stops d) = atm s (complete rs ins outs marks leads finals ends a c d)
goes_complete rs ins outs marks leads finals ends a c got atm atj atf ati {s = s} {b = b} (jumps d l) = atj s b (complete rs ins outs marks leads finals ends a c d) l
goes_complete rs ins outs marks leads finals ends a c got atm atj atf ati {s = s} {b = b} (finishes d l) = atf s b (complete rs ins outs marks leads finals ends a c d) l
goes_complete {plan} rs ins outs marks leads finals ends a c got atm atj atf ati {s = s} {b = b} (inner {k = k} d e g) =
    ati k s b (complete rs ins outs marks leads finals ends a c d) (subst (λ (o : Option ℕ). IsFirstOf plan o b) (sym e) g)

pub step : {plan : List Construct} {x : ℕ} {rs : List Arrow} {s : Source} (t : Tail) (h : Head) → HasArrows plan x rs → IsIn rs (arrow t h) → Comes plan x s (tail t) → Comes plan x s (head h)
step t h a m d = along d ((a.is t h).1 m)

pub unbroken : (plan : List Construct) (x a : ℕ) (r : Rule) → HasRule plan x r → (CanBreak r → ⊥) → Breaks plan x a → ⊥
unfolding HasRule Breaks
unbroken plan x a r h never b = by (slice_get plan x) h b where
  by : (o : Option Construct) → RuleAt o r → BreaksAt o a → ⊥
  by None h b = b
  by (Some c) h b = never (subst CanBreak h b.1)

-- Sets carried through one part.

pub record PartFlow (plan : List Construct) (x k : ℕ) (ins outs : Source → Type 0) : Type 0 where
  pub passed : (s : Source) → IsPassed plan (part plan x k) → ins s → outs s
  pub up : (a : ℕ) → (IsLastOf plan (part plan x k) a ⊎ Continues plan x a k) → outs (after a)

abbrev pub none : Source → Type 0
none s = ⊥

-- What comes out of a part that no arrow leaves.
abbrev pub unread : List Construct → ℕ → ℕ → Source → Type 0
unread plan x k s = Comes plan x s (tail (out_of k))

pub flow_unread : (plan : List Construct) (x k : ℕ) → PartFlow plan x k none (unread plan x k)
flow_unread plan x k = record { passed = λ s u d. absurd d; up = λ a u. ups x k a u }

pub flow_left : {plan : List Construct} {x k : ℕ} {m : Summary} {here next : Arrival} → IsPart plan x k m → IsLeft m.last.items m.passable here next → PartFlow plan x k (λ s. Has here s) (λ s. Has next s)
flow_left p l = record { passed = λ s u h. left_passes s p l u h; up = λ a u. left_up a p l u }

-- Sets at four parts.
abbrev pub ins4 : (a b c d : Source → Type 0) → ℕ → Source → Type 0
ins4 a b c d zero s = a s
ins4 a b c d (suc zero) s = b s
ins4 a b c d (suc (suc zero)) s = c s
ins4 a b c d (suc (suc (suc zero))) s = d s
ins4 a b c d (suc (suc (suc (suc k)))) s = ⊥

abbrev pub outs4 : (plan : List Construct) (x : ℕ) (a b c d : Source → Type 0) → ℕ → Source → Type 0
outs4 plan x a b c d zero s = a s
outs4 plan x a b c d (suc zero) s = b s
outs4 plan x a b c d (suc (suc zero)) s = c s
outs4 plan x a b c d (suc (suc (suc zero))) s = d s
outs4 plan x a b c d (suc (suc (suc (suc k)))) s = unread plan x (suc (suc (suc (suc k)))) s

pub closed4 : (plan : List Construct) (x : ℕ) (rs : List Arrow) (a b c d a' b' c' d' marks leads finals ends : Source → Type 0) → PartFlow plan x 0 a a' → PartFlow plan x 1 b b' → PartFlow plan x 2 c c' → PartFlow plan x 3 d d' → Closes (flow (ins4 a b c d) (outs4 plan x a' b' c' d') marks leads finals ends x) rs → ((e : ℕ) → Breaks plan x e → ends (after e)) → IsClosed plan x rs (ins4 a b c d) (outs4 plan x a' b' c' d') marks leads finals ends
closed4 plan x rs a b c d a' b' c' d' marks leads finals ends p0 p1 p2 p3 cl br = record { arrows = cl; passed = passed; up = up; broke = br } where
  passed : (k : ℕ) (s : Source) → IsPassed plan (part plan x k) → ins4 a b c d k s → outs4 plan x a' b' c' d' k s
  passed zero s u i = p0.passed s u i
  passed (suc zero) s u i = p1.passed s u i
  passed (suc (suc zero)) s u i = p2.passed s u i
  passed (suc (suc (suc zero))) s u i = p3.passed s u i
  passed (suc (suc (suc (suc k)))) s u i = absurd i

  up : (k e : ℕ) → (IsLastOf plan (part plan x k) e ⊎ Continues plan x e k) → outs4 plan x a' b' c' d' k (after e)
  up zero e u = p0.up e u
  up (suc zero) e u = p1.up e u
  up (suc (suc zero)) e u = p2.up e u
  up (suc (suc (suc zero))) e u = p3.up e u
  up (suc (suc (suc (suc k)))) e u = ups x (suc (suc (suc (suc k)))) e u

-- What was added.

pub record Added (old new : Joined) (more : Source → ℕ → Type 0) : Type 0 where
  pub got : (s : Source) (b : ℕ) → Got new s b ↔ (Got old s b ⊎ more s b)

pub added_then : {old mid new : Joined} (p q : Source → ℕ → Type 0) → Added old mid p → Added mid new q → Added old new (λ s b. p s b ⊎ q s b)
added_then p q a b = record {
  got = λ s c. (
    λ m. elim ((b.got s c).0 m) [ inl g ↦ elim ((a.got s c).0 g) [ inl o ↦ inl o | inr i ↦ inr (inl i) ] | inr j ↦ inr (inr j) ],
    elim [
      | inl o ↦ (b.got s c).1 (inl ((a.got s c).1 (inl o)))
      | inr m ↦ elim m [ inl i ↦ (b.got s c).1 (inl ((a.got s c).1 (inr i))) | inr j ↦ (b.got s c).1 (inr j) ]
    ],
  );
}

abbrev pub to_part : List Construct → ℕ → ℕ → Arrival → Source → ℕ → Type 0
to_part plan x k here s b = Has here s × IsFirstOf plan (part plan x k) b

pub add_part : {plan : List Construct} {x k : ℕ} {m : Summary} {here : Arrival} {old new : Joined} → IsPart plan x k m → IsLed m.first.items here old new → Added old new (to_part plan x k here)
add_part p e = record {
  got = λ s b. (
    λ g. elim ((e.got s b).0 g) [ inl o ↦ inl o | inr q ↦ inr (q.0, (p.first b).0 q.1) ],
    elim [ inl o ↦ (e.got s b).1 (inl o) | inr q ↦ (e.got s b).1 (inr (q.0, (p.first b).1 q.1)) ],
  );
}

abbrev pub to_targets : List Construct → ℕ → Arrival → Source → ℕ → Type 0
to_targets plan x here s b = Has here s × JumpsTo plan x b

pub add_targets : {plan : List Construct} {x : ℕ} {marks : List ℕ} {here : Arrival} {old new : Joined} → AreTargets plan x marks → IsLed marks here old new → Added old new (to_targets plan x here)
add_targets p e = record {
  got = λ s b. (
    λ g. elim ((e.got s b).0 g) [ inl o ↦ inl o | inr q ↦ inr (q.0, (p.are b).0 q.1) ],
    elim [ inl o ↦ (e.got s b).1 (inl o) | inr q ↦ (e.got s b).1 (inr (q.0, (p.are b).1 q.1)) ],
  );
}

abbrev pub to_own : ℕ → Arrival → Source → ℕ → Type 0
to_own x here s b = Has here s × (x ≡ b)

pub in_only : (x b : ℕ) → IsIn (x ∷ []) b ↔ (x ≡ b)
unfolding IsIn
in_only x b = (elim [ inl f ↦ f | inr n ↦ absurd n ], λ f. inl f)

pub add_own : {x : ℕ} {here : Arrival} {old new : Joined} → IsLed (x ∷ []) here old new → Added old new (to_own x here)
add_own {x} e = record {
  got = λ s b. (
    λ g. elim ((e.got s b).0 g) [ inl o ↦ inl o | inr q ↦ inr (q.0, (in_only x b).0 q.1) ],
    elim [ inl o ↦ (e.got s b).1 (inl o) | inr q ↦ (e.got s b).1 (inr (q.0, (in_only x b).1 q.1)) ],
  );
}

abbrev pub to_end : List Construct → ℕ → Arrival → Source → ℕ → Type 0
to_end plan x here s b = Has here s × (end_of plan x ≡ Some b)

pub in_marks : (end : Option ℕ) (b : ℕ) → IsIn (marks_of end) b ↔ (end ≡ Some b)
unfolding IsIn
in_marks None b = (λ m. absurd m, λ f. cc)
in_marks (Some m) b = (elim [ inl f ↦ ap Some f | inr n ↦ absurd n ], λ f. inl cc)

pub add_end : (plan : List Construct) (x : ℕ) {end : Option ℕ} {here : Arrival} {old new : Joined} → end_of plan x ≡ end → IsLed (marks_of end) here old new → Added old new (to_end plan x here)
add_end plan x {end = end} f e = record {
  got = λ s b. (
    λ g. elim ((e.got s b).0 g) [ inl o ↦ inl o | inr q ↦ inr (q.0, f ∙ (in_marks end b).0 q.1) ],
    elim [ inl o ↦ (e.got s b).1 (inl o) | inr q ↦ (e.got s b).1 (inr (q.0, (in_marks end b).1 (sym f ∙ q.1))) ],
  );
}

-- Control that starts at the construct's own mark.
pub own_sound : {plan : List Construct} {x : ℕ} {start : Arrival} → AreFrom (x ∷ []) start → (s : Source) → Has start s → Comes plan x s (tail stop)
unfolding IsAfter
own_sound f entered h = absurd ((f.has entered).0 h)
own_sound {plan} {x} f (after a) h =
    let P : ℕ → Type 0 = λ v. Comes plan x (after v) (tail stop) in
    subst P ((in_only x a).0 ((f.has (after a)).0 h)) own

pub own_has : {x : ℕ} {start : Arrival} → AreFrom (x ∷ []) start → (s : Source) → s ≡ after x → Has start s
unfolding IsAfter
own_has {x} {start} f s e = subst (λ (v : Source). Has start v) (sym e) ((f.has (after x)).1 ((in_only x x).1 refl))

pub entry_sound : {plan : List Construct} {x : ℕ} {here : Arrival} → IsEntry here → (s : Source) → Has here s → Comes plan x s (tail entry)
entry_sound {plan} {x} e s h = subst (λ (v : Source). Comes plan x v (tail entry)) (sym ((e.has s).0 h)) begin

-- A construct is joined by sets that are closed and sound.
pub joined : (plan : List Construct) (x : ℕ) (next : Arrival) (old new : Joined) (rs : List Arrow) (ins outs : ℕ → Source → Type 0) (marks leads finals : Source → Type 0) (more : Source → ℕ → Type 0) → HasArrows plan x rs → IsClosed plan x rs ins outs marks leads finals (λ s. Has next s) → ((s : Source) → Has next s → Comes plan x s (head exit)) → Added old new more → ((s : Source) (b : ℕ) → more s b → Goes plan x s b) → ((s : Source) → marks s → more s x) → ((s : Source) (b : ℕ) → leads s → JumpsTo plan x b → more s b) → ((s : Source) (b : ℕ) → finals s → end_of plan x ≡ Some b → more s b) → ((k : ℕ) (s : Source) (b : ℕ) → ins k s → IsFirstOf plan (part plan x k) b → more s b) → IsJoined plan x next old new
joined plan x next old new rs ins outs marks leads finals more has closed ends added sound atm atj atf ati = record {
  leaves = λ s. (ends s, λ d. complete rs ins outs marks leads finals (λ s. Has next s) has closed d);
  goes = λ s b. (
    λ g. elim ((added.got s b).0 g) [ inl o ↦ inl o | inr m ↦ inr (sound s b m) ],
    elim [
      | inl o ↦ (added.got s b).1 (inl o)
      | inr g ↦ (added.got s b).1 (inr (goes_complete rs ins outs marks leads finals (λ s. Has next s) has closed more atm atj atf ati g))
    ],
  );
}

abbrev pub at4 : (plan : List Construct) (x : ℕ) (a b c d : Source → Type 0) (more : Source → ℕ → Type 0) → Type 0
at4 plan x a b c d more = (k : ℕ) (s : Source) (e : ℕ) → ins4 a b c d k s → IsFirstOf plan (part plan x k) e → more s e

pub by4 : (plan : List Construct) (x : ℕ) (a b c d : Source → Type 0) (more : Source → ℕ → Type 0) → ((s : Source) (e : ℕ) → a s → IsFirstOf plan (part plan x 0) e → more s e) → ((s : Source) (e : ℕ) → b s → IsFirstOf plan (part plan x 1) e → more s e) → ((s : Source) (e : ℕ) → c s → IsFirstOf plan (part plan x 2) e → more s e) → ((s : Source) (e : ℕ) → d s → IsFirstOf plan (part plan x 3) e → more s e) → at4 plan x a b c d more
by4 plan x a b c d more f g h i zero s e m = f s e m
by4 plan x a b c d more f g h i (suc zero) s e m = g s e m
by4 plan x a b c d more f g h i (suc (suc zero)) s e m = h s e m
by4 plan x a b c d more f g h i (suc (suc (suc zero))) s e m = i s e m
by4 plan x a b c d more f g h i (suc (suc (suc (suc k)))) s e m = absurd m

pub nowhere_sound : {plan : List Construct} {x : ℕ} {next : Arrival} → AreFrom [] next → (s : Source) → Has next s → Comes plan x s (head exit)
unfolding IsAfter IsIn
nowhere_sound f entered h = absurd ((f.has entered).0 h)
nowhere_sound f (after a) h = absurd ((f.has (after a)).0 h)

pub flow_again : {plan : List Construct} {x k : ℕ} {m : Summary} {here once round next : Arrival} → IsPart plan x k m → IsLeft m.last.items m.passable here once → IsAgain once m.passable round next → PartFlow plan x k (λ s. Has here s ⊎ Has round s) (λ s. Has next s)
flow_again p l ag = record {
  passed = λ s u h. elim h [ inl e ↦ (ag.has s).1 (inl (left_passes s p l u e)) | inr r ↦ (ag.has s).1 (inr (p.passable.1 u, r)) ];
  up = λ a u. (ag.has (after a)).1 (inl (left_up a p l u));
}

pub flow_round : {plan : List Construct} {x k : ℕ} {m : Summary} {once round next : Arrival} {passable : Bool} → IsPart plan x k m → IsLeft m.last.items m.passable once round → IsAgain once passable round next → PartFlow plan x k (λ s. Has next s) (λ s. Has round s)
flow_round p l ag = record {
  passed = λ s u h. elim ((ag.has s).0 h) [ inl e ↦ left_passes s p l u e | inr q ↦ q.1 ];
  up = λ a u. left_up a p l u;
}

pub again_sound : {plan : List Construct} {x k : ℕ} {m : Summary} {once round next : Arrival} → IsPart plan x k m → IsAgain once m.passable round next → ((s : Source) → Has once s → Comes plan x s (tail (out_of k))) → ((s : Source) → Has round s → Comes plan x s (head (into k))) → (s : Source) → Has next s → Comes plan x s (tail (out_of k))
again_sound p ag f g s h = elim ((ag.has s).0 h) [ inl e ↦ f s e | inr q ↦ passes (p.passable.0 q.0) (g s q.1) ]

pub breaks_sound : {plan : List Construct} {x : ℕ} {next : Arrival} {marks : List ℕ} → AreBreaks plan x marks → AreFrom marks next → (s : Source) → Has next s → Comes plan x s (head exit)
unfolding IsAfter
breaks_sound b f entered i = absurd ((f.has entered).0 i)
breaks_sound b f (after a) i = broke ((b.are a).0 ((f.has (after a)).0 i))

pub breaks_has : {plan : List Construct} {x : ℕ} {next : Arrival} {marks : List ℕ} (a : ℕ) → AreBreaks plan x marks → AreFrom marks next → Breaks plan x a → Has next (after a)
unfolding IsAfter
breaks_has a b f r = (f.has (after a)).1 ((b.are a).1 r)

pub last_sound : {plan : List Construct} {x k : ℕ} {m : Summary} → IsPart plan x k m → (s : Source) → IsAfter m.last.items s → Comes plan x s (tail (out_of k))
unfolding IsAfter
last_sound p entered l = absurd l
last_sound {x = x} {k = k} p (after a) l = ups x k a ((p.last a).0 l)

pub flow_last : {plan : List Construct} {x k : ℕ} {m : Summary} → IsPart plan x k m → PartFlow plan x k none (λ s. IsAfter m.last.items s)
unfolding IsAfter
flow_last p = record { passed = λ s u h. absurd h; up = λ a u. (p.last a).1 u }

-- Sets at a part that is left one way or another.
pub flow_by : {plan : List Construct} {x k : ℕ} {m : Summary} (here : Arrival) → IsPart plan x k m → PartFlow plan x k (λ s. Has here s) (λ s. LeavesBy m here s)
unfolding IsAfter
flow_by here p = record { passed = λ s u h. inr (p.passable.1 u, h); up = λ a u. inl ((p.last a).1 u) }

pub by_sound : {plan : List Construct} {x k : ℕ} {m : Summary} (here : Arrival) → IsPart plan x k m → ((s : Source) → Has here s → Comes plan x s (head (into k))) → (s : Source) → LeavesBy m here s → Comes plan x s (tail (out_of k))
by_sound here p f s h = elim h [ inl l ↦ last_sound p s l | inr q ↦ passes (p.passable.0 q.0) (f s q.1) ]

pub added_nothing : {old new : Joined} → new ≡ old → Added old new (λ s b. ⊥)
added_nothing {old} {new} same = record {
  got = λ s b.
      (λ g. inl (subst (λ (v : Joined). Got v s b) same g), elim [ inl o ↦ subst (λ (v : Joined). Got v s b) (sym same) o | inr n ↦ absurd n ]);
}

pub left_copy : {here next : Arrival} {passable : Bool} {copy last : List ℕ} → copy ≡ last → IsLeft copy passable here next → IsLeft last passable here next
left_copy {here} {next} {passable} e p = subst (λ (xs : List ℕ). IsLeft xs passable here next) e p

pub past_copy : {there next : Arrival} {copy marks : List ℕ} → copy ≡ marks → IsPast there copy next → IsPast there marks next
past_copy {there} {next} e p = subst (λ (xs : List ℕ). IsPast there xs next) e p

-- What goes round is led into the parts of a `for`.
pub added_round : {plan : List Construct} {x : ℕ} {condition third body : Summary} {set : Arrival} {ring : Ring} {old mid new : Joined} (p : Source → ℕ → Type 0) → IsPart plan x 1 condition → IsPart plan x 2 third → IsPart plan x 3 body → Added old mid p → IsLedRound set ring condition third body mid new → Added old new (λ s b. (((p s b ⊎ to_part plan x 1 set s b) ⊎ to_part plan x 1 ring.stepped s b) ⊎ to_part plan x 3 ring.tested s b) ⊎ to_part plan x 2 ring.ran s b)
added_round p p1 p2 p3 a l = record {
  got = λ s b. (
    λ g. elim ((l.got s b).0 g) [
      | inl m ↦ elim ((a.got s b).0 m) [ inl o ↦ inl o | inr q ↦ inr (inl (inl (inl (inl q)))) ]
      | inr m ↦ elim m [
        | inl n ↦ elim n [
          | inl k ↦ elim k [
            | inl q ↦ inr (inl (inl (inl (inr (q.0, (p1.first b).0 q.1)))))
            | inr q ↦ inr (inl (inl (inr (q.0, (p1.first b).0 q.1))))
          ]
          | inr q ↦ inr (inl (inr (q.0, (p3.first b).0 q.1)))
        ]
        | inr q ↦ inr (inr (q.0, (p2.first b).0 q.1))
      ]
    ],
    elim [
      | inl o ↦ (l.got s b).1 (inl ((a.got s b).1 (inl o)))
      | inr m ↦ elim m [
        | inl n ↦ elim n [
          | inl k ↦ elim k [
            | inl h ↦ elim h [
              | inl q ↦ (l.got s b).1 (inl ((a.got s b).1 (inr q)))
              | inr q ↦ (l.got s b).1 (inr (inl (inl (inl (q.0, (p1.first b).1 q.1)))))
            ]
            | inr q ↦ (l.got s b).1 (inr (inl (inl (inr (q.0, (p1.first b).1 q.1)))))
          ]
          | inr q ↦ (l.got s b).1 (inr (inl (inr (q.0, (p3.first b).1 q.1))))
        ]
        | inr q ↦ (l.got s b).1 (inr (inr (q.0, (p2.first b).1 q.1)))
      ]
    ],
  );
}
