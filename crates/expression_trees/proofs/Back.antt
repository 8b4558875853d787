-- Words of a rule for a value: tokens that are what is said of the value make one. One lemma for
-- each way to put rules together.

use Rattle.std.proofs.Common.{◌≡◌, ◌⊎◌, inl, inr, ℕ, zero, suc, ◌+◌, ◌≤◌, Bool, true, false, List, [], ◌∷◌, ◌++◌, Option, Some, refl, sym, ap, ◌∙◌, subst, append_assoc, append-nil, arith}
use Rattle.c_lexer.specs.declared.token.Kind.{Kind}
use Rattle.c_scopes.specs.Scopes.{OpenScopes}
use Rattle.reading.specs.Terminals.{has}
use Rattle.reading.specs.declared.turn.Turn.{Turn}
use Rattle.reading.specs.declared.turn.Turn.TheVariants.{Again, Done}
use Rattle.reading.specs.Languages.{Leveled, Language, tokens_of, sequence, steps}
use Rattle.reading.specs.Rules.{◌>>=◌, ◌or◌, pure, one, many, repeat, after}
use Rattle.reading.proofs.Cutting.{tokens_append}
use Rattle.c_reading.specs.Kept.{KeptToken}
use Rattle.c_syntax.specs.Scoping.{Part, is_typedef_name, terminal_of}
use Rattle.c_syntax.specs.Steps.{one_among}
use Rattle.expression_trees.specs.Saying.{Said, IsKnown, AreKnown, AreSaid, IsWord}
use Rattle.expression_trees.proofs.Front.{Open, IsOf}

module _ (kind_of : ℕ → Option Kind) (bytes_of : ℕ → List ℕ) where
  -- The first of the tokens are a word of the value, and the others are what else is said.
  pub record Cut {A : Type 0} (X : ℕ → Part A) (a : A) (k : Said) (ts : List KeptToken) (scopes end : OpenScopes) : Type 0 where
    pub front : List KeptToken
    pub back : List KeptToken
    pub middle : OpenScopes
    pub split : ts ≡ front ++ back
    pub begin : IsWord X a front scopes middle
    pub rest : AreSaid kind_of bytes_of k back middle end

  -- What is said before the rest begins with a word of the value.
  pub record Back {A : Type 0} (X : ℕ → Part A) (a : A) (before : Open) : Type 0 where
    pub reads : (k : Said) (ts : List KeptToken) (scopes end : OpenScopes) → AreSaid kind_of bytes_of (before k) ts scopes end → Cut X a k ts scopes end

  pub back_pure : {A : Type 0} (a : A) → Back (λ d. pure a) a (λ k. k)
  back_pure a = record {
    reads = λ k ts scopes end f. record {
      front = [];
      back = ts;
      middle = scopes;
      split = refl;
      begin = record { word = []; turns = 0; is = refl; holds = λ e h. record { none = refl; same = refl } };
      rest = f;
    };
  }

  joined_words : {A B : Type 0} {X : ℕ → Part A} {g : ℕ → A × OpenScopes → Language KeptToken (B × OpenScopes)} {a : A} {b : B} (u v : List KeptToken) (scopes middle end : OpenScopes) →
      IsWord X a u scopes middle → IsWord (λ d scope. g d (a, scope)) b v middle end → IsWord (λ d scope. sequence (X d scope) (g d)) b (u ++ v) scopes end
  joined_words {a = a} u v scopes middle end x y = record {
    word = x.word ++ y.word;
    turns = x.turns + y.turns;
    is = tokens_append x.word y.word ∙ (ap (λ (z : List KeptToken). z ++ tokens_of y.word) x.is ∙ ap (λ (z : List KeptToken). u ++ z) y.is);
    holds = λ e h. record { front = x.word; back = y.word; value = (a, middle); split = refl; begin = x.holds e (omega arith); rest = y.holds e (omega arith) };
  }

  pub back_then : {A B : Type 0} {X : ℕ → Part A} {g : ℕ → A × OpenScopes → Language KeptToken (B × OpenScopes)} {a : A} {b : B} {before behind : Open} → Back X a before →
      Back (λ d scope. g d (a, scope)) b behind → Back (λ d scope. sequence (X d scope) (g d)) b (λ k. before (behind k))
  back_then {behind = behind} p q = record {
    reads = λ k ts scopes end h.
        let x = p.reads (behind k) ts scopes end h in
        let y = q.reads k x.back x.middle end x.rest in record {
          front = x.front ++ y.front;
          back = y.back;
          middle = y.middle;
          split = x.split ∙ (ap (λ (z : List KeptToken). x.front ++ z) y.split ∙ sym (append_assoc x.front y.front y.back));
          begin = joined_words x.front y.front scopes x.middle y.middle x.begin y.begin;
          rest = y.rest;
        };
  }

  -- ---- Tokens

  -- What is said begins with a token of the set, and the rest is said of the others.
  pub record Hears (set : List ℕ) (number : ℕ) (put : Open) : Type 0 where
    pub hears : (scopes end : OpenScopes) (k : Said) (ts : List KeptToken) → AreSaid kind_of bytes_of (put k) ts scopes end →
        (t : KeptToken) × (rest : List KeptToken) × (ts ≡ t ∷ rest) × (number ≡ t.number) × (has set (terminal_of scopes t) ≡ true) ×
        AreSaid kind_of bytes_of k rest scopes end

  one_word : (set : List ℕ) (level number : ℕ) (scopes : OpenScopes) (t : KeptToken) → number ≡ t.number → has set (terminal_of scopes t) ≡ true →
      IsWord (λ d. one_among set level) number (t ∷ []) scopes scopes
  one_word set level number scopes t e h = record {
    word = (t, level) ∷ [];
    turns = 0;
    is = refl;
    holds = λ d k. record { token = t; is = refl; fits = h; value = ap (λ n. (n, scopes)) e };
  }

  one_back : {set : List ℕ} {level number : ℕ} {put : Open} → Hears set number put → Back (λ d. one_among set level) number put
  one_back {set = set} {level = level} {number = number} s = record {
    reads = λ k ts scopes end f.
        let x = s.hears scopes end k ts f in record {
          front = x.0 ∷ [];
          back = x.1;
          middle = scopes;
          split = x.2;
          begin = one_word set level number scopes x.0 x.3 x.4;
          rest = x.5;
        };
  }

  pub back_token : {B : Type 0} {g : ℕ → ℕ × OpenScopes → Language KeptToken (B × OpenScopes)} {b : B} {set : List ℕ} {level number : ℕ} {put behind : Open} → Hears set number put →
      Back (λ d scope. g d (number, scope)) b behind → Back (λ d scope. sequence (one_among set level scope) (g d)) b (λ k. put (behind k))
  back_token s q = back_then (one_back s) q

  -- ---- One or the other, and the same in other words

  pub back_left : {A : Type 0} {X Y : ℕ → Part A} {a : A} {before : Open} → Back X a before → Back (λ d. X d or Y d) a before
  back_left p = record {
    reads = λ k ts scopes end f. let x = p.reads k ts scopes end f in record {
      front = x.front;
      back = x.back;
      middle = x.middle;
      split = x.split;
      rest = x.rest;
      begin = record { word = x.begin.word; turns = x.begin.turns; is = x.begin.is; holds = λ e h. inl (x.begin.holds e h) };
    };
  }

  pub back_right : {A : Type 0} {X Y : ℕ → Part A} {a : A} {before : Open} → Back Y a before → Back (λ d. X d or Y d) a before
  back_right p = record {
    reads = λ k ts scopes end f. let x = p.reads k ts scopes end f in record {
      front = x.front;
      back = x.back;
      middle = x.middle;
      split = x.split;
      rest = x.rest;
      begin = record { word = x.begin.word; turns = x.begin.turns; is = x.begin.is; holds = λ e h. inr (x.begin.holds e h) };
    };
  }

  pub back_same : {A : Type 0} {X : ℕ → Part A} {a b : A} {before before' : Open} → a ≡ b → ((k : Said) → before' k ≡ before k) → Back X a before → Back X b before'
  back_same {X = X} {before' = before'} e d p = subst (λ (c : _). Back X c before') e
      (record { reads = λ k ts scopes end f. p.reads k ts scopes end (subst (λ (z : Said). AreSaid kind_of bytes_of z ts scopes end) (d k) f) })

  -- By what is known of the first symbol.
  pub back_look : {A : Type 0} {X : ℕ → Part A} {a : A} {before : Open} → ((k : Said) (ts : List KeptToken) (scopes end : OpenScopes) → AreSaid kind_of bytes_of (before k) ts scopes end → Back X a before) → Back X a before
  back_look p = record { reads = λ k ts scopes end f. (p k ts scopes end f).reads k ts scopes end f }

  rises : {A : Type 0} (X Y : ℕ → Part A) (a : A) (scopes end : OpenScopes) (w : List (Leveled KeptToken)) (d : ℕ) → ((e : ℕ) → X e scopes w (a, end) → Y (suc e) scopes w (a, end)) →
      ((e : ℕ) → d ≤ e → X e scopes w (a, end)) → (e : ℕ) → suc d ≤ e → Y e scopes w (a, end)
  rises X Y a scopes end w d up p zero h = absurd (omega arith)
  rises X Y a scopes end w d up p (suc e) h = up e (p e (omega arith))

  -- One turn more.
  pub back_later : {A : Type 0} (X Y : ℕ → Part A) {a : A} {before : Open} → ((d : ℕ) (scopes : OpenScopes) (w : List (Leveled KeptToken)) (end : A × OpenScopes) → X d scopes w end → Y (suc d) scopes w end) →
      Back X a before → Back Y a before
  back_later X Y {a = a} up p = record {
    reads = λ k ts scopes end f. let x = p.reads k ts scopes end f in record {
      front = x.front;
      back = x.back;
      middle = x.middle;
      split = x.split;
      rest = x.rest;
      begin = record {
        word = x.begin.word;
        turns = suc x.begin.turns;
        is = x.begin.is;
        holds = rises X Y a scopes x.middle x.begin.word x.begin.turns (λ e. up e scopes x.begin.word (a, x.middle)) x.begin.holds;
      };
    };
  }

  -- ---- Loops

  -- The tokens are a word for so many turns of the loop and in it, and more.
  pub record IsSpun {A : Type 0} (X : ℕ → ℕ → Part A) (a : A) (ts : List KeptToken) (scopes end : OpenScopes) : Type 0 where
    pub word : List (Leveled KeptToken)
    pub turns : ℕ
    pub is : tokens_of word ≡ ts
    pub holds : (m e : ℕ) → turns ≤ m → turns ≤ e → X m e scopes word (a, end)

  pub record Spun {A : Type 0} (X : ℕ → ℕ → Part A) (a : A) (k : Said) (ts : List KeptToken) (scopes end : OpenScopes) : Type 0 where
    pub front : List KeptToken
    pub back : List KeptToken
    pub middle : OpenScopes
    pub split : ts ≡ front ++ back
    pub begin : IsSpun X a front scopes middle
    pub rest : AreSaid kind_of bytes_of k back middle end

  pub record Spins {A : Type 0} (X : ℕ → ℕ → Part A) (a : A) (before : Open) : Type 0 where
    pub spins : (k : Said) (ts : List KeptToken) (scopes end : OpenScopes) → AreSaid kind_of bytes_of (before k) ts scopes end → Spun X a k ts scopes end

  pub back_loop : {A : Type 0} {X : ℕ → ℕ → Part A} {a : A} {before : Open} → Spins X a before → Back (λ d. X d d) a before
  back_loop p = record {
    reads = λ k ts scopes end f. let x = p.spins k ts scopes end f in record {
      front = x.front;
      back = x.back;
      middle = x.middle;
      split = x.split;
      rest = x.rest;
      begin = record { word = x.begin.word; turns = x.begin.turns; is = x.begin.is; holds = λ e h. x.begin.holds e e h h };
    };
  }

  pub spins_same : {A : Type 0} {X : ℕ → ℕ → Part A} {a b : A} {before before' : Open} → a ≡ b → ((k : Said) → before' k ≡ before k) → Spins X a before → Spins X b before'
  spins_same {X = X} {before' = before'} e d p = subst (λ (c : _). Spins X c before') e
      (record { spins = λ k ts scopes end f. p.spins k ts scopes end (subst (λ (z : Said). AreSaid kind_of bytes_of z ts scopes end) (d k) f) })

  pub spins_look : {A : Type 0} {X : ℕ → ℕ → Part A} {a : A} {before : Open} → ((k : Said) (ts : List KeptToken) (scopes end : OpenScopes) → AreSaid kind_of bytes_of (before k) ts scopes end → Spins X a before) → Spins X a before
  spins_look p = record { spins = λ k ts scopes end f. (p k ts scopes end f).spins k ts scopes end f }

  stops : {S : Type 0} (step : S → Part S) (s : S) (scopes : OpenScopes) (m : ℕ) → many m step s scopes [] (s, scopes)
  unfolding steps
  stops step s scopes zero = record { none = refl; same = refl }
  stops step s scopes (suc m) = inr (record { none = refl; same = refl })

  pub many_stop : {S : Type 0} (step : ℕ → S → Part S) (s : S) → Spins (λ m e. many m (step e) s) s (λ k. k)
  many_stop step s = record {
    spins = λ k ts scopes end f. record {
      front = [];
      back = ts;
      middle = scopes;
      split = refl;
      rest = f;
      begin = record { word = []; turns = 0; is = refl; holds = λ m e b c. stops (step e) s scopes m };
    };
  }

  goes : {S : Type 0} (step : ℕ → S → Part S) (s r a : S) (scopes middle end : OpenScopes) (v w : List (Leveled KeptToken)) (c d : ℕ) →
      ((e : ℕ) → c ≤ e → step e s scopes v (r, middle)) → ((m e : ℕ) → d ≤ m → d ≤ e → many m (step e) r middle w (a, end)) →
      (m e : ℕ) → suc (c + d) ≤ m → c + d ≤ e → many m (step e) s scopes (v ++ w) (a, end)
  unfolding steps
  goes step s r a scopes middle end v w c d p q zero e h g = absurd (omega arith)
  goes step s r a scopes middle end v w c d p q (suc m) e h g =
      inl (record { front = v; back = w; value = (r, middle); split = refl; begin = p e (omega arith); rest = q m e (omega arith) (omega arith) })

  pub many_step : {S : Type 0} (step : ℕ → S → Part S) {s r a : S} {before behind : Open} → Back (λ d. step d s) r before → Spins (λ m e. many m (step e) r) a behind →
      Spins (λ m e. many m (step e) s) a (λ k. before (behind k))
  many_step step {s = s} {r = r} {a = a} {behind = behind} p q = record {
    spins = λ k ts scopes end f.
        let x = p.reads (behind k) ts scopes end f in
        let y = q.spins k x.back x.middle end x.rest in record {
          front = x.front ++ y.front;
          back = y.back;
          middle = y.middle;
          rest = y.rest;
          split = x.split ∙ (ap (λ (z : List KeptToken). x.front ++ z) y.split ∙ sym (append_assoc x.front y.front y.back));
          begin = record {
            word = x.begin.word ++ y.begin.word;
            turns = suc (x.begin.turns + y.begin.turns);
            is = tokens_append x.begin.word y.begin.word ∙ (ap (λ (z : List KeptToken). z ++ tokens_of y.begin.word) x.begin.is ∙ ap (λ (z : List KeptToken). x.front ++ z) y.begin.is);
            holds = λ m e b c. goes step s r a scopes x.middle y.middle x.begin.word y.begin.word x.begin.turns y.begin.turns x.begin.holds y.begin.holds m e b (omega arith);
          };
        };
  }

  again : {S A : Type 0} (turn : ℕ → S → Part (Turn S A)) (s r : S) (a : A) (scopes middle end : OpenScopes) (v w : List (Leveled KeptToken)) (c d : ℕ) →
      ((e : ℕ) → c ≤ e → turn e s scopes v (Again r, middle)) → ((m e : ℕ) → d ≤ m → d ≤ e → repeat m (turn e) r middle w (a, end)) →
      (m e : ℕ) → suc (c + d) ≤ m → c + d ≤ e → repeat m (turn e) s scopes (v ++ w) (a, end)
  unfolding repeat
  again turn s r a scopes middle end v w c d p q zero e h g = absurd (omega arith)
  again turn s r a scopes middle end v w c d p q (suc m) e h g =
      record { front = v; back = w; value = (Again r, middle); split = refl; begin = p e (omega arith); rest = q m e (omega arith) (omega arith) }

  pub repeat_again : {S A : Type 0} (turn : ℕ → S → Part (Turn S A)) {s r : S} {a : A} {before behind : Open} → Back (λ d. turn d s) (Again r) before →
      Spins (λ m e. repeat m (turn e) r) a behind → Spins (λ m e. repeat m (turn e) s) a (λ k. before (behind k))
  repeat_again turn {s = s} {r = r} {a = a} {behind = behind} p q = record {
    spins = λ k ts scopes end f.
        let x = p.reads (behind k) ts scopes end f in
        let y = q.spins k x.back x.middle end x.rest in record {
          front = x.front ++ y.front;
          back = y.back;
          middle = y.middle;
          rest = y.rest;
          split = x.split ∙ (ap (λ (z : List KeptToken). x.front ++ z) y.split ∙ sym (append_assoc x.front y.front y.back));
          begin = record {
            word = x.begin.word ++ y.begin.word;
            turns = suc (x.begin.turns + y.begin.turns);
            is = tokens_append x.begin.word y.begin.word ∙ (ap (λ (z : List KeptToken). z ++ tokens_of y.begin.word) x.begin.is ∙ ap (λ (z : List KeptToken). x.front ++ z) y.begin.is);
            holds = λ m e b c. again turn s r a scopes x.middle y.middle x.begin.word y.begin.word x.begin.turns y.begin.turns x.begin.holds y.begin.holds m e b (omega arith);
          };
        };
  }

  done : {S A : Type 0} (turn : ℕ → S → Part (Turn S A)) (s : S) (a : A) (scopes end : OpenScopes) (w : List (Leveled KeptToken)) (d : ℕ) →
      ((e : ℕ) → d ≤ e → turn e s scopes w (Done a, end)) → (m e : ℕ) → suc d ≤ m → d ≤ e → repeat m (turn e) s scopes w (a, end)
  unfolding repeat
  done turn s a scopes end w d p zero e h g = absurd (omega arith)
  done turn s a scopes end w d p (suc m) e h g =
      record { front = w; back = []; value = (Done a, end); split = sym (append-nil w); begin = p e g; rest = record { none = refl; same = refl } }

  pub repeat_done : {S A : Type 0} (turn : ℕ → S → Part (Turn S A)) {s : S} {a : A} {before : Open} → Back (λ d. turn d s) (Done a) before → Spins (λ m e. repeat m (turn e) s) a before
  repeat_done turn {s = s} {a = a} p = record {
    spins = λ k ts scopes end f. let x = p.reads k ts scopes end f in record {
      front = x.front;
      back = x.back;
      middle = x.middle;
      split = x.split;
      rest = x.rest;
      begin = record {
        word = x.begin.word;
        turns = suc x.begin.turns;
        is = x.begin.is;
        holds = λ m e b c. done turn s a scopes x.middle x.begin.word x.begin.turns x.begin.holds m e b (omega arith);
      };
    };
  }
