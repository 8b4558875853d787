-- Any number of steps is read exactly, each of which begins with a token of a set. What goes on behind a
-- step may depend on its value.

use Rattle.std.proofs.Common.{◌≡◌, inl, inr, ℕ, zero, suc, ◌<◌, ◌≤◌, Bool, true, false, if◌then◌else◌, List, [], ◌∷◌, ◌++◌, length, Ok, refl, sym, ap, subst, append-nil, length-append, arith}
use Rattle.reading.specs.Terminals.{has, is_within, are_disjoint}
use Rattle.reading.specs.Languages.{Leveled, Language, tokens_of, sequence, either, empty_word, steps}
use Rattle.reading.specs.Rules.{Rule, ◌>>=◌, one, many}
use Rattle.reading.specs.Readers as reader
use Rattle.reading.specs.Readers.{Reader, Input, begins, and_then, go_on, expect}
use Rattle.reading.specs.Exact.{IsExact, reads}
use Rattle.reading.proofs.Sets.{never, within, disjoint}
use Rattle.reading.proofs.Words.{Ready}
use Rattle.reading.proofs.Predictive.{IsPredictive, predictive_empty}
use Rattle.reading.proofs.PredictiveSteps.{predictive_steps, predictive_step, no_steps}
use Rattle.reading.proofs.ExactThen.{exact_then}
use Rattle.reading.proofs.ExactEither.{exact_same, exact_left, exact_right}
use Rattle.reading.proofs.ReadBy.{Stage, Covers, IsWhole, covers_all, Nullable, no, keeping, IsReadBy, read_pure}
use Rattle.reading.proofs.ReadOne.{Sample, HasRoom}
use Rattle.reading.proofs.ReadThen.{read_token}

-- ---- Words of more steps

pub more_steps : {Token T : Type 0} (n : ℕ) (step step' : T → Language Token T) → ((s : T) (w : List (Leveled Token)) (a : T) → step s w a → step' s w a) →
    (s : T) (w : List (Leveled Token)) (a : T) → steps n step s w a → steps n step' s w a
unfolding steps
more_steps zero step step' up s w a x = x
more_steps (suc n) step step' up s w a (inl x) = inl (record {
  front = x.front;
  back = x.back;
  value = x.value;
  split = x.split;
  begin = up s x.front x.value x.begin;
  rest = more_steps n step step' up x.value x.back a x.rest;
})
more_steps (suc n) step step' up s w a (inr x) = inr x

one_more : {Token T : Type 0} (n : ℕ) (step : T → Language Token T) (s : T) (w : List (Leveled Token)) (a : T) → steps n step s w a → steps (suc n) step s w a
unfolding steps
one_more zero step s w a x = inr x
one_more (suc n) step s w a (inl x) = inl (record { front = x.front; back = x.back; value = x.value; split = x.split; begin = x.begin; rest = one_more n step x.value x.back a x.rest })
one_more (suc n) step s w a (inr x) = inr x

pub stops : {Token T : Type 0} (n : ℕ) (step : T → Language Token T) (s : T) → steps n step s [] s
unfolding steps
stops zero step s = record { none = refl; same = refl }
stops (suc n) step s = inr (record { none = refl; same = refl })

-- Behind a run of some tokens fewer are left.
pub fewer_left : {Token : Type 0} (ts left : List Token) (run : List (Leveled Token)) (n : ℕ) → ts ≡ tokens_of run ++ left → (run ≡ [] → ⊥) → length ts ≤ suc n → length left ≤ n
fewer_left ts left [] n e h k = absurd (h refl)
fewer_left ts left (s ∷ run) n e h k =
    let f : length ts ≡ suc (length (tokens_of run ++ left)) = ap length e in let g = length-append (tokens_of run) left in omega arith

module _ {Token Scope Around : Type 0} {terminal_of : Scope → Token → ℕ} {IsLexeme : Token → Type 0} {stage : Stage} {given T : Type 0} where
  module _ {step : ℕ → T → Rule Token Scope T} {q : T → Reader Token Scope Around T} {set : List ℕ} (last last' : T → List ℕ)
      (rs : (s : T) → IsReadBy terminal_of IsLexeme stage given (λ d. step d s) (q s) no set last)
      (apart : (s : T) → are_disjoint (last s) set ≡ true) (lasts : (s : T) → is_within (last s) (last' s) ≡ true) (goes : (s : T) → is_within set (last' s) ≡ true) where
    abbrev Step : ℕ → T × Scope → Language Token (T × Scope)
    Step d z = step d z.0 z.1

    abbrev Goes : T × Scope → Token → Bool
    Goes z t = has set (terminal_of z.1 t)

    abbrev Lasts : T × Scope → Token → Bool
    Lasts z t = has (last z.0) (terminal_of z.1 t)

    abbrev Follows : T × Scope → Token → Bool
    Follows z t = has (last' z.0) (terminal_of z.1 t)

    abbrev Turned : ℕ → T × Scope → Language Token (T × Scope)
    Turned d z = either (sequence (Step d z) (steps d (Step d))) (empty_word z)

    all_predictive : (d : ℕ) → Covers stage d → (z : T × Scope) → IsPredictive (steps d (Step d) z) (steps (suc d) (Step (suc d)) z) true (Goes z) Follows
    all_predictive d h z = predictive_steps (Step d) (Step (suc d)) Goes Lasts Follows (λ r. (rs r.0).predictive d h r.1)
        (λ r t. disjoint (last r.0) set (apart r.0) (terminal_of r.1 t)) (λ r t. within (last r.0) (last' r.0) (lasts r.0) (terminal_of r.1 t)) (λ r t. within set (last' r.0) (goes r.0) (terminal_of r.1 t)) d z

    first_predictive : (d : ℕ) → Covers stage d → (z : T × Scope) →
        IsPredictive (sequence (Step d z) (steps d (Step d))) (sequence (Step (suc d) z) (steps (suc d) (Step (suc d)))) false (Goes z) Follows
    first_predictive d h z = predictive_step (Step d) (Step (suc d)) Goes Lasts Follows (λ r. (rs r.0).predictive d h r.1)
        (λ r t. disjoint (last r.0) set (apart r.0) (terminal_of r.1 t)) (λ r t. within (last r.0) (last' r.0) (lasts r.0) (terminal_of r.1 t)) (λ r t. within set (last' r.0) (goes r.0) (terminal_of r.1 t)) d z (all_predictive d h)

    none_keeps : (d : ℕ) → Covers stage d → (z end : T × Scope) → steps d (Step d) z [] end → end ≡ z
    none_keeps d h z end x = no_steps (Step d) (λ r a y. never (((rs r.0).predictive d h r.1).nullable a y)) d z end x

    turned_to : IsWhole stage → (z : T × Scope) (d : ℕ) (w : List (Leveled Token)) (a : T × Scope) → Turned d z w a → (e : ℕ) × steps e (Step e) z w a
    unfolding steps
    turned_to h z d w a (inl x) = (suc d, more_steps (suc d) (Step d) (Step (suc d)) (λ r. ((rs r.0).predictive d (covers_all stage h d) r.1).grows) z w a (inl x))
    turned_to h z d w a (inr x) = (0, x)

    turned_from : (z : T × Scope) (d : ℕ) (w : List (Leveled Token)) (a : T × Scope) → steps d (Step d) z w a → (e : ℕ) × Turned e z w a
    unfolding steps
    turned_from z zero w a x = (0, inr x)
    turned_from z (suc d) w a (inl x) = (
      suc d,
      inl (record {
        front = x.front;
        back = x.back;
        value = x.value;
        split = x.split;
        begin = x.begin;
        rest = one_more d (Step (suc d)) x.value x.back a x.rest;
      }),
    )
    turned_from z (suc d) w a (inr x) = (0, inr x)

    not_none : IsWhole stage → (d : ℕ) (z a : T × Scope) (run : List (Leveled Token)) → Step d z run a → run ≡ [] → ⊥
    not_none h d z a run x e = never (((rs z.0).predictive d (covers_all stage h d) z.1).nullable a (subst (λ y. Step d z y a) e x))

    ready_more : IsWhole stage → given → (z : T × Scope) (t : Token) → Goes z t ≡ true → Ready (λ d. sequence (Step d z) (steps d (Step d))) t
    ready_more h g z t e =
        let w = (rs z.0).ready h g z.1 t e in record {
          word = w.word;
          value = w.value;
          turns = w.turns;
          rest = w.rest;
          begins = w.begins;
          is = record { front = w.word; back = []; value = w.value; split = sym (append-nil w.word); begin = w.is; rest = stops w.turns (Step w.turns) w.value };
        }

    module _ (h : IsWhole stage) (g : given) (around : Around) where
      abbrev At : List Token → Scope → Input Token Scope Around
      At ts scope = record { tokens = ts; scope = scope; around = around }

      all_at : (d : ℕ) → Covers stage d
      all_at = covers_all stage h

      turn_exact : (n : ℕ) →
          ((left : List Token) (a : T × Scope) → length left ≤ n → IsExact IsLexeme around (λ d. steps d (Step d) a) left (go_on terminal_of set q n a.0 (At left a.1))) →
          (z : T × Scope) (ts : List Token) (b : Bool) → begins (Goes z) ts ≡ b → length ts ≤ suc n →
          IsExact IsLexeme around (λ d. Turned d z) ts (if b then and_then (q z.0 (At ts z.1)) (go_on terminal_of set q n) else Ok (z.0, At ts z.1))
      turn_exact n ih z [] true e l = never e
      turn_exact n ih z (t ∷ ts) true e l =
          exact_left IsLexeme around (λ d. sequence (Step d z) (steps d (Step d))) (λ d. empty_word z) true (Goes z) (λ t. false) Follows (λ r t. false)
          (λ d. first_predictive d (all_at d) z) (λ d. predictive_empty z) (Goes z) (λ c y x. never y) t ts e (λ y. ready_more h g z t e) _
          (exact_then IsLexeme around (λ d. Step d z) (λ d. steps d (Step d)) false (Goes z) Lasts (λ r. true) Goes Follows
          (λ d. (rs z.0).predictive d (all_at d) z.1) (λ d r. all_predictive d (all_at d) r) (λ r t. disjoint (last r.0) set (apart r.0) (terminal_of r.1 t))
          (λ r. record { word = []; value = r; turns = 0; lexemes = tt; is = stops 0 (Step 0) r }) (go_on terminal_of set q n) (t ∷ ts)
          (q z.0 (At (t ∷ ts) z.1)) ((rs z.0).exact h g around z.1 (t ∷ ts))
          (λ run left d a f x sh. ih left a (fewer_left (t ∷ ts) left run n f (not_none h d z a run x) l)))
      turn_exact n ih z ts false e l =
          exact_right IsLexeme around (λ d. sequence (Step d z) (steps d (Step d))) (λ d. empty_word z) true (Goes z) (λ t. false) Follows (λ r t. false)
          (λ d. first_predictive d (all_at d) z) (λ d. predictive_empty z) (Goes z) (λ c y. y) ts e (Ok (z.0, At ts z.1))
          ((read_pure {Around = Around} {terminal_of = terminal_of} {IsLexeme = IsLexeme} {stage = stage} {given = given} z.0).exact h g around z.1 ts)

      all_exact : (n : ℕ) (ts : List Token) (z : T × Scope) → length ts ≤ n → IsExact IsLexeme around (λ d. steps d (Step d) z) ts (go_on terminal_of set q n z.0 (At ts z.1))
      unfolding go_on
      all_exact zero [] z k = reads [] [] 0 z.0 z.1 refl tt (stops 0 (Step 0) z) (λ t us more e. absurd (cc))
      all_exact zero (t ∷ ts) z k = absurd (omega arith)
      all_exact (suc n) ts z k =
          exact_same (λ d. Turned d z) (λ d. steps d (Step d) z) (turned_to h z) (turned_from z) ts _
          (turn_exact n (λ left a l. all_exact n left a l) z ts (begins (Goes z) ts) refl k)

    pub read_many_by_value : (s : T) → IsReadBy terminal_of IsLexeme stage given (λ d. many d (step d) s) (reader.many terminal_of set q s) keeping set last'
    unfolding reader.many
    read_many_by_value s = record {
      predictive = λ d h scope. all_predictive d h (s, scope);
      keeps = λ d h scope end x. ap (λ (z : T × Scope). z.1) (none_keeps d h (s, scope) end x);
      some = λ scope. record { word = []; value = (s, scope); turns = 0; lexemes = tt; is = λ e h. stops e (Step e) (s, scope) };
      exact = λ h g around scope ts. all_exact h g around (length ts) ts (s, scope) (omega arith);
      ready = λ h g scope t e. let w = ready_more h g (s, scope) t e in
          let m = turned_to h (s, scope) w.turns w.word w.value (inl w.is) in
          record { word = w.word; value = w.value; turns = m.0; rest = w.rest; begins = w.begins; is = m.1 };
      empty = λ h g e scope. record { value = (s, scope); turns = 0; is = stops 0 (Step 0) (s, scope) };
    }

  -- What goes on behind a step is the same for each value.
  pub read_many : {step : ℕ → T → Rule Token Scope T} {q : T → Reader Token Scope Around T} {set : List ℕ} (last last' : List ℕ) →
      ((s : T) → IsReadBy terminal_of IsLexeme stage given (λ d. step d s) (q s) no set (λ a. last)) →
      are_disjoint last set ≡ true → is_within last last' ≡ true → is_within set last' ≡ true → (s : T) →
      IsReadBy terminal_of IsLexeme stage given (λ d. many d (step d) s) (reader.many terminal_of set q s) keeping set (λ a. last')
  read_many last last' rs apart lasts goes s = read_many_by_value (λ a. last) (λ a. last') rs (λ r. apart) (λ r. lasts) (λ r. goes) s

  -- Each step begins with a token of the set.
  module _ {A : Type 0} {set : List ℕ} (view : Token → A) {level room : ℕ} {f : ℕ → T → A → Rule Token Scope T} {p : T → A → Reader Token Scope Around T}
      {null_f : T → A → Nullable} {first_f : T → A → List ℕ} (last last' : List ℕ) (fits : HasRoom stage level room) (sample : (scope : Scope) → Sample terminal_of IsLexeme set scope) where
    pub read_many_tokens : ((s : T) (a : A) → IsReadBy terminal_of IsLexeme stage (0 < room) (λ d. f d s a) (p s a) (null_f s a) (first_f s a) (λ r. last)) →
        are_disjoint last set ≡ true → is_within last last' ≡ true → is_within set last' ≡ true → (s : T) →
        IsReadBy terminal_of IsLexeme stage given (λ d. many d (λ r. one terminal_of set view level >>= f d r) s)
        (reader.many terminal_of set (λ r input. and_then (expect terminal_of set view room input) (p r)) s) keeping set (λ a. last')
    read_many_tokens rf apart lasts goes s =
        read_many last last' (λ r. read_token fits sample (rf r)) apart lasts goes s
