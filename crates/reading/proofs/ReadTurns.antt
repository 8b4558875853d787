-- Turns up to one that ends are read exactly.

use Rattle.std.proofs.Common.{◌∙◌, ◌≡◌, ℕ, zero, suc, ◌≤◌, Bool, true, false, List, [], ◌∷◌, length, refl, sym, subst, append-nil, arith, ap, ◌+◌, ◌++◌}
use Rattle.reading.specs.declared.turn.Turn.{Turn}
use Rattle.reading.specs.declared.turn.Turn.TheVariants.{Again, Done}
use Rattle.reading.specs.Terminals.{has, are_disjoint}
use Rattle.reading.specs.Languages.{Leveled, Language, sequence, tokens_of}
use Rattle.reading.specs.Rules.{Rule, after, repeat}
use Rattle.reading.specs.Readers as reader
use Rattle.reading.specs.Readers.{Reader, Input, Outcome, and_then, turn_on}
use Rattle.reading.specs.Exact.{AreLexemes, IsExact, refuses}
use Rattle.reading.proofs.Sets.{never, disjoint}
use Rattle.reading.proofs.Cutting.{tokens_none, tokens_append}
use Rattle.reading.proofs.Words.{Word, Some, Ready, word_of}
use Rattle.reading.proofs.Predictive.{IsPredictive, predictive_empty, predictive_weaker, predictive_never}
use Rattle.reading.proofs.PredictiveThen.{predictive_then}
use Rattle.reading.proofs.ExactThen.{exact_then, raised, raised_left}
use Rattle.reading.proofs.ExactEither.{exact_same}
use Rattle.reading.proofs.ReadBy.{Stage, Covers, IsWhole, covers_all, no, IsReadBy, read_pure}
use Rattle.reading.proofs.ReadSteps.{fewer_left}

-- The follow-last set of a turn: one where the turns go on, and another where they end.
abbrev pub by_turn : {S A : Type 0} → List ℕ → (A → List ℕ) → Turn S A → List ℕ
by_turn again done (Again s) = again
by_turn again done (Done a) = done a

-- ---- Words of more turns

after_more : {Token Scope T A : Type 0} (X Y : T → Rule Token Scope A) → ((s : T) (scope : Scope) (w : List (Leveled Token)) (a : A × Scope) → X s scope w a → Y s scope w a) →
    (r : Turn T A) (scope : Scope) (w : List (Leveled Token)) (a : A × Scope) → after X r scope w a → after Y r scope w a
after_more X Y up (Again s) scope w a x = up s scope w a x
after_more X Y up (Done b) scope w a x = x

pub more_turns : {Token Scope T A : Type 0} (n : ℕ) (turn turn' : T → Rule Token Scope (Turn T A)) →
    ((s : T) (scope : Scope) (w : List (Leveled Token)) (r : Turn T A × Scope) → turn s scope w r → turn' s scope w r) →
    (s : T) (scope : Scope) (w : List (Leveled Token)) (a : A × Scope) → repeat n turn s scope w a → repeat n turn' s scope w a
unfolding repeat
more_turns zero turn turn' up s scope w a x = x
more_turns (suc n) turn turn' up s scope w a x = record {
  front = x.front;
  back = x.back;
  value = x.value;
  split = x.split;
  begin = up s scope x.front x.value x.begin;
  rest = after_more (repeat n turn) (repeat n turn') (more_turns n turn turn' up) x.value.0 x.value.1 x.back a x.rest;
}

one_more : {Token Scope T A : Type 0} (n : ℕ) (turn : T → Rule Token Scope (Turn T A)) (s : T) (scope : Scope) (w : List (Leveled Token)) (a : A × Scope) →
    repeat n turn s scope w a → repeat (suc n) turn s scope w a
unfolding repeat
one_more zero turn s scope w a x = absurd x
one_more (suc n) turn s scope w a x = record {
  front = x.front;
  back = x.back;
  value = x.value;
  split = x.split;
  begin = x.begin;
  rest = after_more (repeat n turn) (repeat (suc n) turn) (one_more n turn) x.value.0 x.value.1 x.back a x.rest;
}

-- One turn that ends.
pub ends : {Token Scope T A : Type 0} (n : ℕ) (turn : T → Rule Token Scope (Turn T A)) (s : T) (scope scope' : Scope) (w : List (Leveled Token)) (a : A) →
    turn s scope w (Done a, scope') → repeat (suc n) turn s scope w (a, scope')
unfolding repeat
ends n turn s scope scope' w a x = record { front = w; back = []; value = (Done a, scope'); split = sym (append-nil w); begin = x; rest = record { none = refl; same = refl } }

-- A word with which the turns end at once, for each large number of turns.
pub record Ending {Token Scope T A : Type 0} (IsLexeme : Token → Type 0) (turn : ℕ → Rule Token Scope (Turn T A)) (scope : Scope) : Type 0 where
  pub word : List (Leveled Token)
  pub value : A
  pub scope' : Scope
  pub turns : ℕ
  pub lexemes : AreLexemes IsLexeme word
  pub is : (more : ℕ) → turns ≤ more → turn more scope word (Done value, scope')

module _ {Token Scope Around : Type 0} {terminal_of : Scope → Token → ℕ} {IsLexeme : Token → Type 0} {stage : Stage} {given T A : Type 0}
    {turn : ℕ → T → Rule Token Scope (Turn T A)} {q : T → Reader Token Scope Around (Turn T A)} {first : List ℕ} (again : List ℕ) (done : A → List ℕ)
    (rs : (s : T) → IsReadBy terminal_of IsLexeme stage given (λ d. turn d s) (q s) no first (by_turn again done))
    (apart : are_disjoint again first ≡ true) (ending : (s : T) (scope : Scope) → Ending IsLexeme (λ d. turn d s) scope) where
  abbrev Rest : ℕ → Turn T A × Scope → Language Token (A × Scope)
  Rest d r = after (repeat d (turn d)) r.0 r.1

  abbrev First : Scope → Token → Bool
  First scope t = has first (terminal_of scope t)

  abbrev Last : Turn T A × Scope → Token → Bool
  Last r t = has (by_turn again done r.0) (terminal_of r.1 t)

  abbrev null_rest : Turn T A → Bool
  null_rest (Again s) = false
  null_rest (Done a) = true

  abbrev first_rest : Turn T A → List ℕ
  first_rest (Again s) = first
  first_rest (Done a) = []

  abbrev FirstRest : Turn T A × Scope → Token → Bool
  FirstRest r t = has (first_rest r.0) (terminal_of r.1 t)

  abbrev Follows : A × Scope → Token → Bool
  Follows end t = has (done end.0) (terminal_of end.1 t)

  turn_apart : (r : Turn T A) (n : ℕ) → has (by_turn again done r) n ≡ true → has (first_rest r) n ≡ true → ⊥
  turn_apart (Again s) n e f = disjoint again first apart n e f
  turn_apart (Done a) n e f = never f

  abbrev Holds : ℕ → ℕ → Type 0
  Holds d n = (s : T) (scope : Scope) → IsPredictive (repeat n (turn d) s scope) (repeat (suc n) (turn (suc d)) s scope) false (First scope) Follows

  rest_predictive : (d n : ℕ) → Holds d n → (r : Turn T A) (scope : Scope) →
      IsPredictive (after (repeat n (turn d)) r scope) (after (repeat (suc n) (turn (suc d))) r scope) (null_rest r) (λ t. has (first_rest r) (terminal_of scope t)) Follows
  rest_predictive d n k (Again s) scope = k s scope
  rest_predictive d n k (Done a) scope = predictive_weaker (predictive_empty (a, scope)) (λ w b x. x) (λ e. e) (λ c e. e) (λ b c e. never e)

  rest_follows : (d n : ℕ) → Holds d n → (r : Turn T A) (scope : Scope) (end : A × Scope) → after (repeat n (turn d)) r scope [] end → (t : Token) →
      has (by_turn again done r) (terminal_of scope t) ≡ true → Follows end t ≡ true
  rest_follows d n k (Again s) scope end x t e = never ((k s scope).nullable end x)
  rest_follows d n k (Done b) scope end x t e = subst (λ (z : A × Scope). has (done z.0) (terminal_of z.1 t) ≡ true) (sym x.same) e

  all_predictive : (d n : ℕ) → Covers stage d → Holds d n
  unfolding repeat
  all_predictive d zero h s scope = predictive_never _ false (First scope) Follows
  all_predictive d (suc n) h s scope =
      predictive_then (turn d s scope) (turn (suc d) s scope) (λ r. after (repeat n (turn d)) r.0 r.1) (λ r. after (repeat (suc n) (turn (suc d))) r.0 r.1) false (First scope) Last
      (λ r. null_rest r.0) FirstRest Follows ((rs s).predictive d h scope) (λ r. rest_predictive d n (all_predictive d n h) r.0 r.1)
      (λ r t. turn_apart r.0 (terminal_of r.1 t)) false (First scope) Follows (λ r e f. e) (λ c e. e) (λ r x c f. never (((rs s).predictive d h scope).nullable r x)) (λ a c e. e)
      (λ r a x t e. rest_follows d n (all_predictive d n h) r.0 r.1 a x t e)

  some_at : (s : T) (scope : Scope) (w : Ending IsLexeme (λ d. turn d s) scope) (more : ℕ) → suc w.turns ≤ more → repeat more (turn more) s scope w.word (w.value, w.scope')
  some_at s scope w zero h = absurd (omega arith)
  some_at s scope w (suc e) h = ends e (turn (suc e)) s scope w.scope' w.word w.value (w.is (suc e) (omega arith))

  some_turns : (s : T) (scope : Scope) → Some IsLexeme (λ d. repeat d (turn d) s scope)
  some_turns s scope =
      let w = ending s scope in record { word = w.word; value = (w.value, w.scope'); turns = suc w.turns; lexemes = w.lexemes; is = λ e h. some_at s scope w e h }

  some_rest : (r : Turn T A) (scope : Scope) → Word IsLexeme (λ d. after (repeat d (turn d)) r scope)
  some_rest (Again s) scope = word_of (some_turns s scope)
  some_rest (Done a) scope = record { word = []; value = (a, scope); turns = 0; lexemes = tt; is = record { none = refl; same = refl } }

  turns_to : IsWhole stage → (s : T) (scope : Scope) (d : ℕ) (w : List (Leveled Token)) (a : A × Scope) → sequence (turn d s scope) (Rest d) w a → (e : ℕ) × repeat e (turn e) s scope w a
  unfolding repeat
  turns_to h s scope d w a x = (suc d, more_turns (suc d) (turn d) (turn (suc d)) (λ r sc. ((rs r).predictive d (covers_all stage h d) sc).grows) s scope w a x)

  turns_from : (s : T) (scope : Scope) (d : ℕ) (w : List (Leveled Token)) (a : A × Scope) → repeat d (turn d) s scope w a → (e : ℕ) × sequence (turn e s scope) (Rest e) w a
  unfolding repeat
  turns_from s scope zero w a x = absurd x
  turns_from s scope (suc d) w a x = (
    suc d,
    record {
      front = x.front;
      back = x.back;
      value = x.value;
      split = x.split;
      begin = x.begin;
      rest = after_more (repeat d (turn (suc d))) (repeat (suc d) (turn (suc d))) (one_more d (turn (suc d))) x.value.0 x.value.1 x.back a x.rest;
    },
  )

  turn_not_none : IsWhole stage → (d : ℕ) (s : T) (scope : Scope) (r : Turn T A × Scope) (run : List (Leveled Token)) → turn d s scope run r → run ≡ [] → ⊥
  turn_not_none h d s scope r run x e = never (((rs s).predictive d (covers_all stage h d) scope).nullable r (subst (λ z. turn d s scope z r) e x))

  -- A first turn that begins with the token, and some rest.
  ready_turns : IsWhole stage → given → (s : T) (scope : Scope) (t : Token) → First scope t ≡ true → Ready (λ d. sequence (turn d s scope) (Rest d)) t
  ready_turns h g s scope t e =
      let x = (rs s).ready h g scope t e in let y = some_rest x.value.0 x.value.1 in record {
        word = x.word ++ y.word;
        value = y.value;
        turns = x.turns + y.turns;
        rest = x.rest ++ tokens_of y.word;
        begins = tokens_append x.word y.word ∙ ap (λ z. z ++ tokens_of y.word) x.begins;
        is = record {
          front = x.word;
          back = y.word;
          value = x.value;
          split = refl;
          begin = raised_left (λ d. turn d s scope) (λ d. ((rs s).predictive d (covers_all stage h d) scope).grows) x.turns y.turns x.word x.value x.is;
          rest = raised (λ d. Rest d x.value) (λ d. (rest_predictive d d (all_predictive d d (covers_all stage h d)) x.value.0 x.value.1).grows) x.turns y.turns y.word y.value y.is;
        };
      }

  module _ (h : IsWhole stage) (g : given) (around : Around) where
    abbrev At : List Token → Scope → Input Token Scope Around
    At ts scope = record { tokens = ts; scope = scope; around = around }

    rest_exact : (n : ℕ) → ((left : List Token) (a : T) (scope : Scope) → length left ≤ n → IsExact IsLexeme around (λ d. repeat d (turn d) a scope) left (turn_on q n a (At left scope))) →
        (r : Turn T A) (scope : Scope) (left : List Token) → length left ≤ n → IsExact IsLexeme around (λ d. after (repeat d (turn d)) r scope) left (reader.after (turn_on q n) r (At left scope))
    rest_exact n ih (Again s) scope left l = ih left s scope l
    rest_exact n ih (Done a) scope left l = (read_pure {Around = Around} {terminal_of = terminal_of} {IsLexeme = IsLexeme} {stage = stage} {given = given} a).exact h g around scope left

    all_exact : (n : ℕ) (ts : List Token) (s : T) (scope : Scope) → length ts ≤ n → IsExact IsLexeme around (λ d. repeat d (turn d) s scope) ts (turn_on q n s (At ts scope))
    unfolding turn_on
    all_exact zero [] s scope k =
        let w = word_of (some_turns s scope) in
        refuses [] w.word [] w.turns w.value scope refl tt w.lexemes w.is (λ t us more e. absurd (cc))
        (λ d v a e x. never ((all_predictive d d (covers_all stage h d) s scope).nullable a (subst (λ z. repeat d (turn d) s scope z a) (tokens_none v e) x)))
    all_exact zero (t ∷ ts) s scope k = absurd (omega arith)
    all_exact (suc n) ts s scope k =
        exact_same (λ d. sequence (turn d s scope) (Rest d)) (λ d. repeat d (turn d) s scope) (turns_to h s scope) (turns_from s scope) ts _
        (exact_then IsLexeme around (λ d. turn d s scope) Rest false (First scope) Last (λ r. null_rest r.0) FirstRest Follows
        (λ d. (rs s).predictive d (covers_all stage h d) scope) (λ d r. rest_predictive d d (all_predictive d d (covers_all stage h d)) r.0 r.1)
        (λ r t. turn_apart r.0 (terminal_of r.1 t)) (λ r. some_rest r.0 r.1) (reader.after (turn_on q n)) ts (q s (At ts scope)) ((rs s).exact h g around scope ts)
        (λ run left d r f x sh. rest_exact n (λ us a sc l. all_exact n us a sc l) r.0 r.1 left (fewer_left ts left run n f (turn_not_none h d s scope r run x) k)))

  pub read_repeat : (s : T) → IsReadBy terminal_of IsLexeme stage given (λ d. repeat d (turn d) s) (reader.repeat q s) no first done
  unfolding reader.repeat
  read_repeat s = record {
    predictive = λ d h scope. all_predictive d d h s scope;
    keeps = λ d h scope end x. tt;
    some = λ scope. some_turns s scope;
    exact = λ h g around scope ts. all_exact h g around (length ts) ts s scope (omega arith);
    ready = λ h g scope t e. let w = ready_turns h g s scope t e in let m = turns_to h s scope w.turns w.word w.value w.is in
        record { word = w.word; value = w.value; turns = m.0; rest = w.rest; begins = w.begins; is = m.1 };
    empty = λ h g e scope. never e;
  }
