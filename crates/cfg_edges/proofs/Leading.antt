-- The flow of a plan, led over to another that is it by other numbers.
use Rattle.std.proofs.Common.{ℕ, zero, suc, ◌≡◌, ◌<◌, ◌↔◌, ◌⊎◌, inl, inr, List, [], ◌∷◌, Option, Some, None, slice_get, length, refl, sym, ◌∙◌, ap, subst, arith}
use Rattle.std.proofs.lemmas.Option.{slice_get_within}
use Rattle.cfg_rules.specs.declared.rule.Rule.{Rule}
use Rattle.cfg_rules.specs.declared.rule.Rule.TheVariants.{Silent}
use Rattle.cfg_rules.specs.Member.{IsIn}
use Rattle.cfg_rules.specs.Rules.{Tail, entry, out_of, stop, Head, into, mark, jump, finish, exit, Arrow, arrow, arrows, body, CanBreak, CanContinue}
use Rattle.cfg_rules.specs.Plan.{Construct, HasArrow, arrows_at, part, parts_at, flat_part, JumpsTo, JumpsAt, end_of, end_at, Breaks, BreaksAt, Continues, ContinuesAt}
use Rattle.cfg_rules.specs.Walker.{Place, node, gap, place, place_of, Position, enter, leave, mark_of, tail_position, HeadAt, Step, by_rule, past_gap, by_break, by_continue, IsBetweenMarks, Runs, first, then, Flows}
use Rattle.cfg_edges.specs.Renumbered.{led, all_led, IsLed, IsRenumbered, FlowsOver}

-- A position, led over.
abbrev pub place_led : (ℕ → ℕ) → Place → Place
place_led number (node x) = node (number x)
place_led number (gap x k) = gap (number x) k

abbrev pub position_led : (ℕ → ℕ) → Position → Position
position_led number (enter p) = enter (place_led number p)
position_led number (leave p) = leave (place_led number p)
position_led number (mark_of x) = mark_of (number x)

-- The place is one of so many constructs, and a mark one of so many numbers.
abbrev pub IsPlaceOf : ℕ → Place → Type 0
IsPlaceOf n (node x) = x < n
IsPlaceOf n (gap x k) = x < n

abbrev pub IsPositionOf : ℕ → ℕ → Position → Type 0
IsPositionOf n count (enter p) = IsPlaceOf n p
IsPositionOf n count (leave p) = IsPlaceOf n p
IsPositionOf n count (mark_of x) = x < count

led_part : (number : ℕ → ℕ) (parts : List (Option ℕ)) (k : ℕ) → flat_part (slice_get (all_led number parts) k) ≡ led number (flat_part (slice_get parts k))
unfolding all_led
led_part number [] k = refl
led_part number (p ∷ ps) zero = refl
led_part number (p ∷ ps) (suc k) = led_part number ps k

led_count : (number : ℕ → ℕ) (parts : List (Option ℕ)) → length (all_led number parts) ≡ length parts
unfolding all_led
led_count number [] = refl
led_count number (p ∷ ps) = let rest = led_count number ps in omega arith

led_place_of : (number : ℕ → ℕ) (x k : ℕ) (o : Option ℕ) → place_of (number x) k (led number o) ≡ place_led number (place_of x k o)
led_place_of number x k None = refl
led_place_of number x k (Some c) = refl

has_at : (plan : List Construct) (x : ℕ) → x < length plan → (c : Construct) × (slice_get plan x ≡ Some c)
has_at [] x low = absurd (omega arith)
has_at (c ∷ cs) zero low = (c, refl)
has_at (c ∷ cs) (suc x) low = has_at cs x (omega arith)

module _ (count : ℕ) (number : ℕ → ℕ) (from to : List Construct) (r : IsRenumbered count number from to) where
  -- ---- No two places are led to one.

  place_apart : (p q : Place) → IsPlaceOf (length from) p → IsPlaceOf (length from) q → place_led number p ≡ place_led number q → p ≡ q
  place_apart (node x) (node y) low high e =
      let all = r.speaks.constructs in
      let same : number x ≡ number y = cc in
      ap node (r.apart x y (omega arith) (omega arith) same)
  place_apart (node x) (gap y j) low high e = cc
  place_apart (gap x k) (node y) low high e = cc
  place_apart (gap x k) (gap y j) low high e =
      let all = r.speaks.constructs in
      let same : number x ≡ number y = cc in
      let one : x ≡ y = r.apart x y (omega arith) (omega arith) same in
      let other : k ≡ j = cc in
      cc (one, other)

  position_apart : (p q : Position) → IsPositionOf (length from) count p → IsPositionOf (length from) count q → position_led number p ≡ position_led number q → p ≡ q
  position_apart (enter p) (enter q) low high e =
      let same : place_led number p ≡ place_led number q = cc in
      ap enter (place_apart p q low high same)
  position_apart (enter p) (leave q) low high e = cc
  position_apart (enter p) (mark_of y) low high e = cc
  position_apart (leave p) (enter q) low high e = cc
  position_apart (leave p) (leave q) low high e =
      let same : place_led number p ≡ place_led number q = cc in
      ap leave (place_apart p q low high same)
  position_apart (leave p) (mark_of y) low high e = cc
  position_apart (mark_of x) (enter q) low high e = cc
  position_apart (mark_of x) (leave q) low high e = cc
  position_apart (mark_of x) (mark_of y) low high e =
      let same : number x ≡ number y = cc in
      ap mark_of (r.apart x y low high same)

  -- ---- A construct, and the one to which it is led.

  record Pair (x : ℕ) : Type 0 where
    one : Construct
    other : Construct
    one_is : slice_get from x ≡ Some one
    other_is : slice_get to (number x) ≡ Some other
    is_led : IsLed number one other

  pair_at : (x : ℕ) → x < length from → Pair x
  pair_at x low = by (has_at from x low) where
    with_other : (c : Construct) → slice_get from x ≡ Some c → (d : Construct) × (slice_get to (number x) ≡ Some d) × IsLed number c d → Pair x
    with_other c is (d, there, l) = record { one = c; other = d; one_is = is; other_is = there; is_led = l }

    by : (c : Construct) × (slice_get from x ≡ Some c) → Pair x
    by (c, is) = with_other c is (r.each x c is)

  part_led : (x k : ℕ) → Pair x → part to (number x) k ≡ led number (part from x k)
  unfolding part
  part_led x k p =
      ap (λ (o : Option Construct). flat_part (slice_get (parts_at o) k)) p.other_is
      ∙ (ap (λ (ps : List (Option ℕ)). flat_part (slice_get ps k)) p.is_led.parts
      ∙ (led_part number p.one.parts k
      ∙ ap (λ (o : Option Construct). led number (flat_part (slice_get (parts_at o) k))) (sym p.one_is)))

  place_is_led : (x k : ℕ) → Pair x → place to (number x) k ≡ place_led number (place from x k)
  place_is_led x k p = ap (λ (o : Option ℕ). place_of (number x) k o) (part_led x k p) ∙ led_place_of number x k (part from x k)

  tail_led : (x : ℕ) (t : Tail) → Pair x → tail_position to (number x) t ≡ position_led number (tail_position from x t)
  tail_led x entry p = refl
  tail_led x (out_of k) p = ap leave (place_is_led x k p)
  tail_led x stop p = refl

  arrows_same : (x : ℕ) (p : Pair x) → arrows p.other.rule (length p.other.parts) ≡ arrows p.one.rule (length p.one.parts)
  arrows_same x p =
      let count_is : length p.other.parts ≡ length p.one.parts = ap (λ (ps : List (Option ℕ)). length ps) p.is_led.parts ∙ led_count number p.one.parts in
      ap (λ (v : Rule). arrows v (length p.other.parts)) p.is_led.rule_is ∙ ap (λ (n : ℕ). arrows p.one.rule n) count_is

  arrow_there : (x : ℕ) (t : Tail) (h : Head) → Pair x → HasArrow from x t h → HasArrow to (number x) t h
  unfolding HasArrow
  arrow_there x t h p has =
      let here : IsIn (arrows p.one.rule (length p.one.parts)) (arrow t h) = subst (λ (o : Option Construct). IsIn (arrows_at o) (arrow t h)) p.one_is has in
      subst (λ (o : Option Construct). IsIn (arrows_at o) (arrow t h)) (sym p.other_is) (subst (λ (rs : List Arrow). IsIn rs (arrow t h)) (sym (arrows_same x p)) here)

  arrow_back : (x : ℕ) (t : Tail) (h : Head) → Pair x → HasArrow to (number x) t h → HasArrow from x t h
  unfolding HasArrow
  arrow_back x t h p has =
      let there : IsIn (arrows p.other.rule (length p.other.parts)) (arrow t h) = subst (λ (o : Option Construct). IsIn (arrows_at o) (arrow t h)) p.other_is has in
      subst (λ (o : Option Construct). IsIn (arrows_at o) (arrow t h)) (sym p.one_is) (subst (λ (rs : List Arrow). IsIn rs (arrow t h)) (arrows_same x p) there)

  jump_there : (x target : ℕ) → Pair x → JumpsTo from x target → JumpsTo to (number x) (number target)
  unfolding JumpsTo
  jump_there x target p j = subst (λ (o : Option Construct). JumpsAt o (number target)) (sym p.other_is) (p.is_led.targets.there target (subst (λ (o : Option Construct). JumpsAt o target) p.one_is j))

  jump_back : (x target : ℕ) → Pair x → JumpsTo to (number x) target → (s : ℕ) × JumpsTo from x s × (number s ≡ target)
  unfolding JumpsTo
  jump_back x target p j = by (p.is_led.targets.back target (subst (λ (o : Option Construct). JumpsAt o target) p.other_is j)) where
    by : (s : ℕ) × IsIn p.one.targets s × (number s ≡ target) → (s : ℕ) × JumpsAt (slice_get from x) s × (number s ≡ target)
    by (s, i, e) = (s, subst (λ (o : Option Construct). JumpsAt o s) (sym p.one_is) i, e)

  end_led : (x : ℕ) → Pair x → end_of to (number x) ≡ led number (end_of from x)
  unfolding end_of
  end_led x p = ap end_at p.other_is ∙ (p.is_led.end ∙ ap (λ (o : Option Construct). led number (end_at o)) (sym p.one_is))

  -- ---- Heads of arrows.

  head_there : (x : ℕ) (h : Head) (q : Position) → Pair x → HeadAt from x h q → HeadAt to (number x) h (position_led number q)
  head_there x (into k) q p e = ap (λ (v : Position). position_led number v) e ∙ ap enter (sym (place_is_led x k p))
  head_there x mark q p e = ap (λ (v : Position). position_led number v) e
  head_there x jump q p (target, j, e) = (number target, jump_there x target p j, ap (λ (v : Position). position_led number v) e)
  head_there x finish q p (end, f, e) = (number end, end_led x p ∙ ap (λ (o : Option ℕ). led number o) f, ap (λ (v : Position). position_led number v) e)
  head_there x exit q p e = ap (λ (v : Position). position_led number v) e

  -- A position to which another was led, and what is so of it.
  abbrev IsLedFrom : (Position → Type 0) → Position → Type 0
  IsLedFrom P q = (p : Position) × P p × (q ≡ position_led number p) × IsPositionOf (length from) count p

  place_within : (x k : ℕ) → x < length from → IsPlaceOf (length from) (place from x k)
  place_within x k low = by (part from x k) refl where
    by : (o : Option ℕ) → part from x k ≡ o → IsPlaceOf (length from) (place_of x k o)
    by None e = low
    by (Some c) e = r.speaks.parts x k c e

  head_back : (x : ℕ) (h : Head) (q : Position) → x < length from → Pair x → HeadAt to (number x) h q → IsLedFrom (λ p. HeadAt from x h p) q
  head_back x (into k) q low p e = (enter (place from x k), refl, e ∙ ap enter (place_is_led x k p), place_within x k low)
  head_back x mark q low p e =
      let all = r.speaks.constructs in
      (mark_of x, refl, e, omega arith)
  head_back x jump q low p (target, j, e) = by (jump_back x target p j) where
    by : (s : ℕ) × JumpsTo from x s × (number s ≡ target) → IsLedFrom (λ v. HeadAt from x jump v) q
    by (s, i, f) = (enter (node s), (s, i, refl), e ∙ ap (λ (n : ℕ). enter (node n)) (sym f), r.speaks.targets x s i)
  head_back x finish q low p (end, f, e) = by (end_of from x) refl where
    by : (o : Option ℕ) → end_of from x ≡ o → IsLedFrom (λ v. HeadAt from x finish v) q
    by None g =
        let no : Some end ≡ None = sym f ∙ (end_led x p ∙ ap (λ (v : Option ℕ). led number v) g) in
        cc
    by (Some s) g =
        let yes : Some end ≡ Some (number s) = sym f ∙ (end_led x p ∙ ap (λ (v : Option ℕ). led number v) g) in
        let same : end ≡ number s = cc in
        (mark_of s, (s, g, refl), e ∙ ap mark_of same, r.speaks.ends x s g)
  head_back x exit q low p e = (leave (node x), refl, e, low)

  tail_within : (x : ℕ) (t : Tail) → x < length from → IsPositionOf (length from) count (tail_position from x t)
  tail_within x entry low = low
  tail_within x (out_of k) low = place_within x k low
  tail_within x stop low = let all = r.speaks.constructs in omega arith

  -- ---- Jumps that are known where they go on.

  breaks_there : (x a : ℕ) → Pair x → Breaks from x a → Breaks to (number x) (number a)
  unfolding Breaks
  breaks_there x a p b = by (subst (λ (o : Option Construct). BreaksAt o a) p.one_is b) where
    by : IsIn p.one.breaks a × CanBreak p.one.rule → BreaksAt (slice_get to (number x)) (number a)
    by (i, can) = subst (λ (o : Option Construct). BreaksAt o (number a)) (sym p.other_is) (p.is_led.breaks.there a i, subst CanBreak (sym p.is_led.rule_is) can)

  breaks_back : (x a : ℕ) → Pair x → Breaks to (number x) a → (s : ℕ) × Breaks from x s × (number s ≡ a)
  unfolding Breaks
  breaks_back x a p b = by (subst (λ (o : Option Construct). BreaksAt o a) p.other_is b) where
    with_s : CanBreak p.other.rule → (s : ℕ) × IsIn p.one.breaks s × (number s ≡ a) → (s : ℕ) × BreaksAt (slice_get from x) s × (number s ≡ a)
    with_s can (s, i, e) = (s, subst (λ (o : Option Construct). BreaksAt o s) (sym p.one_is) (i, subst CanBreak p.is_led.rule_is can), e)

    by : IsIn p.other.breaks a × CanBreak p.other.rule → (s : ℕ) × BreaksAt (slice_get from x) s × (number s ≡ a)
    by (i, can) = with_s can (p.is_led.breaks.back a i)

  continues_there : (x a k : ℕ) → Pair x → Continues from x a k → Continues to (number x) (number a) k
  unfolding Continues
  continues_there x a k p b = by (subst (λ (o : Option Construct). ContinuesAt o a k) p.one_is b) where
    by : IsIn p.one.continues a × CanContinue p.one.rule × (k ≡ body p.one.rule) → ContinuesAt (slice_get to (number x)) (number a) k
    by (i, can, at) = subst (λ (o : Option Construct). ContinuesAt o (number a) k) (sym p.other_is) (p.is_led.continues.there a i, subst CanContinue (sym p.is_led.rule_is) can, at ∙ ap body (sym p.is_led.rule_is))

  continues_back : (x a k : ℕ) → Pair x → Continues to (number x) a k → (s : ℕ) × Continues from x s k × (number s ≡ a)
  unfolding Continues
  continues_back x a k p b = by (subst (λ (o : Option Construct). ContinuesAt o a k) p.other_is b) where
    with_s : CanContinue p.other.rule → k ≡ body p.other.rule → (s : ℕ) × IsIn p.one.continues s × (number s ≡ a) → (s : ℕ) × ContinuesAt (slice_get from x) s k × (number s ≡ a)
    with_s can at (s, i, e) = (s, subst (λ (o : Option Construct). ContinuesAt o s k) (sym p.one_is) (i, subst CanContinue p.is_led.rule_is can, at ∙ ap body p.is_led.rule_is), e)

    by : IsIn p.other.continues a × CanContinue p.other.rule × (k ≡ body p.other.rule) → (s : ℕ) × ContinuesAt (slice_get from x) s k × (number s ≡ a)
    by (i, can, at) = with_s can at (p.is_led.continues.back a i)

  -- ---- Steps.

  low_of_arrow : (x : ℕ) (t : Tail) (h : Head) → HasArrow from x t h → x < length from
  unfolding HasArrow IsIn
  low_of_arrow x t h has = by (slice_get from x) refl has where
    by : (o : Option Construct) → slice_get from x ≡ o → IsIn (arrows_at o) (arrow t h) → x < length from
    by None is i = absurd i
    by (Some c) is i = slice_get_within from x c is

  low_of_break : (x a : ℕ) → Breaks from x a → x < length from
  unfolding Breaks
  low_of_break x a b = by (slice_get from x) refl b where
    by : (o : Option Construct) → slice_get from x ≡ o → BreaksAt o a → x < length from
    by None is i = absurd i
    by (Some c) is i = slice_get_within from x c is

  low_of_continue : (x a k : ℕ) → Continues from x a k → x < length from
  unfolding Continues
  low_of_continue x a k b = by (slice_get from x) refl b where
    by : (o : Option Construct) → slice_get from x ≡ o → ContinuesAt o a k → x < length from
    by None is i = absurd i
    by (Some c) is i = slice_get_within from x c is

  step_there : (p q : Position) → Step from p q → Step to (position_led number p) (position_led number q)
  step_there p q (by_rule x t h has e at) =
      let pair = pair_at x (low_of_arrow x t h has) in
      by_rule (number x) t h (arrow_there x t h pair has) (ap (λ (v : Position). position_led number v) e ∙ sym (tail_led x t pair)) (head_there x h q pair at)
  step_there p q (past_gap x k e f) = past_gap (number x) k (ap (λ (v : Position). position_led number v) e) (ap (λ (v : Position). position_led number v) f)
  step_there p q (by_break x a b e f) =
      let pair = pair_at x (low_of_break x a b) in
      by_break (number x) (number a) (breaks_there x a pair b) (ap (λ (v : Position). position_led number v) e) (ap (λ (v : Position). position_led number v) f)
  step_there p q (by_continue x a k b e f) =
      let pair = pair_at x (low_of_continue x a k b) in
      by_continue (number x) (number a) k (continues_there x a k pair b) (ap (λ (v : Position). position_led number v) e) (ap (λ (v : Position). position_led number v) f ∙ ap leave (sym (place_is_led x k pair)))

  abbrev IsStepBack : Position → Position → Type 0
  IsStepBack p q = IsLedFrom (λ v. Step from p v) q

  rule_back : (p q : Position) (x : ℕ) (t : Tail) (h : Head) → IsPositionOf (length from) count p → x < length from → HasArrow to (number x) t h → position_led number p ≡ tail_position to (number x) t → HeadAt to (number x) h q → IsStepBack p q
  rule_back p q x t h within low has e at = by (head_back x h q low pair at) where
    pair : Pair x
    pair = pair_at x low

    begins : p ≡ tail_position from x t
    begins = position_apart p (tail_position from x t) within (tail_within x t low) (e ∙ tail_led x t pair)

    by : IsLedFrom (λ v. HeadAt from x h v) q → IsStepBack p q
    by (v, head, f, inside) = (v, by_rule x t h (arrow_back x t h pair has) begins head, f, inside)

  -- A construct with a step is one that was led there.
  unfoldable IsOrigin : ℕ → Type 0
  IsOrigin y = (x : ℕ) × (x < length from) × (number x ≡ y)

  silent_arrow : (t : Tail) (h : Head) (n : ℕ) → IsIn (arrows Silent n) (arrow t h) → t ≡ entry
  unfolding IsIn
  silent_arrow t h n (inl e) = sym (ap (λ (v : Arrow). v.from) e)
  silent_arrow t h n (inr i) = absurd i

  arrow_origin : (y : ℕ) (t : Tail) (h : Head) → HasArrow to y t h → IsOrigin y ⊎ (t ≡ entry)
  unfolding HasArrow IsOrigin IsIn
  arrow_origin y t h has = by (slice_get to y) refl has where
    by : (o : Option Construct) → slice_get to y ≡ o → IsIn (arrows_at o) (arrow t h) → IsOrigin y ⊎ (t ≡ entry)
    by None is i = absurd i
    by (Some d) is i = elim (r.others y d is) [
      | inl origin ↦ inl origin
      | inr silent ↦ inr (silent_arrow t h (length d.parts) (subst (λ (v : Rule). IsIn (arrows v (length d.parts)) (arrow t h)) silent i))
    ]

  entered_origin : (p : Position) (y : ℕ) → IsPositionOf (length from) count p → position_led number p ≡ enter (node y) → IsOrigin y
  unfolding IsOrigin
  entered_origin (enter (node x)) y within e =
      let same : number x ≡ y = cc in
      (x, within, same)
  entered_origin (enter (gap x k)) y within e = cc
  entered_origin (leave (node x)) y within e = cc
  entered_origin (leave (gap x k)) y within e = cc
  entered_origin (mark_of x) y within e = cc

  break_origin : (y a : ℕ) → Breaks to y a → IsOrigin y
  unfolding Breaks IsOrigin
  break_origin y a b = by (slice_get to y) refl b where
    by : (o : Option Construct) → slice_get to y ≡ o → BreaksAt o a → IsOrigin y
    by None is n = absurd n
    by (Some d) is (i, can) = elim (r.others y d is) [ inl origin ↦ origin | inr silent ↦ absurd (subst CanBreak silent can) ]

  continue_origin : (y a k : ℕ) → Continues to y a k → IsOrigin y
  unfolding Continues IsOrigin
  continue_origin y a k b = by (slice_get to y) refl b where
    by : (o : Option Construct) → slice_get to y ≡ o → ContinuesAt o a k → IsOrigin y
    by None is n = absurd n
    by (Some d) is (i, can, at) = elim (r.others y d is) [ inl origin ↦ origin | inr silent ↦ absurd (subst CanContinue silent can) ]

  step_back : (p q : Position) → IsPositionOf (length from) count p → Step to (position_led number p) q → IsStepBack p q
  unfolding IsOrigin
  step_back p q within (by_rule y t h has e at) = with_origin origin where
    origin : IsOrigin y
    origin = elim (arrow_origin y t h has) [
      | inl o ↦ o
      | inr enters ↦ entered_origin p y within (e ∙ ap (λ (v : Tail). tail_position to y v) enters)
    ]

    with_origin : IsOrigin y → IsStepBack p q
    with_origin (x, low, same) = rule_back p q x t h within low (subst (λ (n : ℕ). HasArrow to n t h) (sym same) has) (subst (λ (n : ℕ). position_led number p ≡ tail_position to n t) (sym same) e) (subst (λ (n : ℕ). HeadAt to n h q) (sym same) at)
  step_back (enter (gap x k)) q within (past_gap y j e f) =
      let same : number x ≡ y = cc in
      let other : k ≡ j = cc in
      (leave (gap x k), past_gap x k refl refl, (let to_is : q ≡ leave (gap (number x) k) = cc in to_is), within)
  step_back (enter (node x)) q within (past_gap y j e f) = cc
  step_back (leave (gap x k)) q within (past_gap y j e f) = cc
  step_back (leave (node x)) q within (past_gap y j e f) = cc
  step_back (mark_of x) q within (past_gap y j e f) = cc
  step_back p q within (by_break y a b e f) = with_origin (break_origin y a b) where
    with_jump : (x : ℕ) → x < length from → number x ≡ y → (s : ℕ) × Breaks from x s × (number s ≡ a) → IsStepBack p q
    with_jump x low same (s, c, g) =
        let begins : p ≡ mark_of s = position_apart p (mark_of s) within (r.speaks.breaks x s c) (e ∙ ap mark_of (sym g)) in
        (leave (node x), by_break x s c begins refl, f ∙ ap (λ (n : ℕ). leave (node n)) (sym same), low)

    with_origin : IsOrigin y → IsStepBack p q
    with_origin (x, low, same) = with_jump x low same (breaks_back x a (pair_at x low) (subst (λ (n : ℕ). Breaks to n a) (sym same) b))
  step_back p q within (by_continue y a k b e f) = with_origin (continue_origin y a k b) where
    with_jump : (x : ℕ) → x < length from → number x ≡ y → (s : ℕ) × Continues from x s k × (number s ≡ a) → IsStepBack p q
    with_jump x low same (s, c, g) =
        let begins : p ≡ mark_of s = position_apart p (mark_of s) within (r.speaks.continues x s k c) (e ∙ ap mark_of (sym g)) in
        (leave (place from x k), by_continue x s k c begins refl, f ∙ (ap (λ (n : ℕ). leave (place to n k)) (sym same) ∙ ap leave (place_is_led x k (pair_at x low))), place_within x k low)

    with_origin : IsOrigin y → IsStepBack p q
    with_origin (x, low, same) = with_jump x low same (continues_back x a k (pair_at x low) (subst (λ (n : ℕ). Continues to n a k) (sym same) b))

  -- ---- Runs.

  between_there : (p : Position) → IsBetweenMarks p → IsBetweenMarks (position_led number p)
  between_there (enter p) b = tt
  between_there (leave p) b = tt
  between_there (mark_of x) b = absurd b

  between_back : (p : Position) → IsBetweenMarks (position_led number p) → IsBetweenMarks p
  between_back (enter p) b = tt
  between_back (leave p) b = tt
  between_back (mark_of x) b = absurd b

  run_there : (x : ℕ) (p : Position) → Runs from x p → Runs to (number x) (position_led number p)
  run_there x p (first s) = first (step_there (mark_of x) p s)
  run_there x p (then {p = u} run b s) = then (run_there x u run) (between_there u b) (step_there u p s)

  -- A mark from which a step leads was led there.
  unfoldable IsMarkOrigin : ℕ → Type 0
  IsMarkOrigin a = (x : ℕ) × (x < count) × (number x ≡ a)

  mark_origin : (a : ℕ) (q : Position) → Step to (mark_of a) q → IsMarkOrigin a
  unfolding IsMarkOrigin IsOrigin
  mark_origin a q (by_rule y entry h has e at) = cc
  mark_origin a q (by_rule y (out_of k) h has e at) = cc
  mark_origin a q (by_rule y stop h has e at) = elim (arrow_origin y stop h has) [ inl o ↦ by o | inr enters ↦ never enters ] where
    by : IsOrigin y → IsMarkOrigin a
    by (x, low, same) =
        let all = r.speaks.constructs in
        let is : number x ≡ a = cc in
        (x, omega arith, is)

    never : stop ≡ entry → IsMarkOrigin a
    never enters = cc
  mark_origin a q (past_gap y k e f) = cc
  mark_origin a q (by_break y b br e f) = with_origin (break_origin y b br) where
    with_jump : (x : ℕ) → (s : ℕ) × Breaks from x s × (number s ≡ b) → IsMarkOrigin a
    with_jump x (s, c, g) =
        let is : number s ≡ a = cc in
        (s, r.speaks.breaks x s c, is)

    with_origin : IsOrigin y → IsMarkOrigin a
    with_origin (x, low, same) = with_jump x (breaks_back x b (pair_at x low) (subst (λ (n : ℕ). Breaks to n b) (sym same) br))
  mark_origin a q (by_continue y b k co e f) = with_origin (continue_origin y b k co) where
    with_jump : (x : ℕ) → (s : ℕ) × Continues from x s k × (number s ≡ b) → IsMarkOrigin a
    with_jump x (s, c, g) =
        let is : number s ≡ a = cc in
        (s, r.speaks.continues x s k c, is)

    with_origin : IsOrigin y → IsMarkOrigin a
    with_origin (x, low, same) = with_jump x (continues_back x b k (pair_at x low) (subst (λ (n : ℕ). Continues to n b k) (sym same) co))

  unfoldable IsRunBack : ℕ → Position → Type 0
  IsRunBack a q = (x : ℕ) × (p : Position) × (number x ≡ a) × (q ≡ position_led number p) × IsPositionOf (length from) count p × Runs from x p

  run_back : (a : ℕ) (q : Position) → Runs to a q → IsRunBack a q
  unfolding IsRunBack IsMarkOrigin
  run_back a q (first s) = by (mark_origin a q s) where
    with_step : (x : ℕ) → number x ≡ a → IsStepBack (mark_of x) q → IsRunBack a q
    with_step x same (p, t, e, within) = (x, p, same, e, within, first t)

    by : IsMarkOrigin a → IsRunBack a q
    by (x, low, same) = with_step x same (step_back (mark_of x) q low (subst (λ (n : ℕ). Step to (mark_of n) q) (sym same) s))
  run_back a q (then {p = u} run b s) = by (run_back a u run) where
    with_step : (x : ℕ) (p : Position) → number x ≡ a → u ≡ position_led number p → Runs from x p → IsStepBack p q → IsRunBack a q
    with_step x p same f there (v, t, e, within) = (x, v, same, e, within, then there (between_back p (subst IsBetweenMarks f b)) t)

    by : IsRunBack a u → IsRunBack a q
    by (x, p, same, f, within, there) = with_step x p same f there (step_back p q within (subst (λ (v : Position). Step to v q) f s))

  pub flow_led : (a b : ℕ) → Flows to a b ↔ FlowsOver number from a b
  unfolding IsRunBack
  flow_led a b = (λ run. back (run_back a (mark_of b) run), there) where
    back : IsRunBack a (mark_of b) → FlowsOver number from a b
    back (x, enter p, same, e, within, run) = cc
    back (x, leave p, same, e, within, run) = cc
    back (x, mark_of y, same, e, within, run) =
        let is : number y ≡ b = cc in
        (x, y, same, is, run)

    there : FlowsOver number from a b → Flows to a b
    there (x, y, same, is, run) = subst (λ (n : ℕ). Runs to n (mark_of b)) same (subst (λ (n : ℕ). Runs to (number x) (mark_of n)) is (run_there x (mark_of y) run))
