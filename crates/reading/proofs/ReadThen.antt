-- One part after the other is read exactly.

use Rattle.std.proofs.Common.{◌⊎◌, inl, inr, ◌≡◌, ℕ, suc, ◌+◌, ◌<◌, Bool, true, false, List, [], ◌∷◌, ◌++◌, refl, sym, ap, ◌∙◌, subst, arith}
use Rattle.reading.specs.Terminals.{has, is_within, are_disjoint}
use Rattle.reading.specs.Languages.{Leveled, tokens_of}
use Rattle.reading.specs.Rules.{Rule, ◌>>=◌, pure, one}
use Rattle.reading.specs.Readers as reader
use Rattle.reading.specs.Readers.{Reader, Input, and_then, expect}
use Rattle.reading.specs.Exact.{AreShallow}
use Rattle.reading.proofs.Sets.{never, within, within_itself, within_left, within_right, in_union, disjoint, disjoint_from_none}
use Rattle.reading.proofs.Cutting.{tokens_append}
use Rattle.reading.proofs.Words.{Some, Ready, Empty, word_of, each_append}
use Rattle.reading.proofs.PredictiveThen.{predictive_then}
use Rattle.reading.proofs.ExactThen.{exact_then, raised, raised_left}
use Rattle.reading.proofs.ReadBy.{Stage, Covers, IsWhole, covers_all, Nullable, no, keeping, changing, is_null, Keeps, IsReadBy, read_pure}
use Rattle.reading.proofs.ReadOne.{Sample, HasRoom, read_one, one_guard}

-- The empty word of both parts is one of this kind.
abbrev pub Joins : Nullable → Nullable → Nullable → Type 0
Joins no null_f null' = Prim.Unit {0}
Joins keeping no null' = Prim.Unit {0}
Joins keeping keeping null' = is_null null' ≡ true
Joins keeping changing null' = null' ≡ changing
Joins changing no null' = Prim.Unit {0}
Joins changing keeping null' = null' ≡ changing
Joins changing changing null' = null' ≡ changing

-- What goes on behind a part goes on behind an empty rest too.
abbrev pub goes_on : Nullable → List ℕ → List ℕ → Bool
goes_on no last last' = true
goes_on keeping last last' = is_within last last'
goes_on changing [] last' = true
goes_on changing (n ∷ last) last' = false

empty_parts : {A : Type 0} (v w : List A) → [] ≡ v ++ w → (v ≡ []) × (w ≡ [])
empty_parts [] w e = (refl, sym e)
empty_parts (s ∷ v) w e = absurd (cc)

joined_null : (null null_f null' : Nullable) → Joins null null_f null' → is_null null ≡ true → is_null null_f ≡ true → is_null null' ≡ true
joined_null no m n j e f = never e
joined_null keeping no n j e f = never f
joined_null keeping keeping n j e f = j
joined_null keeping changing n j e f = ap is_null j
joined_null changing no n j e f = never f
joined_null changing keeping n j e f = ap is_null j
joined_null changing changing n j e f = ap is_null j

keeps_changing : {Scope : Type 0} (null : Nullable) (scope scope' : Scope) → null ≡ changing → Keeps null scope scope'
keeps_changing null scope scope' e = subst (λ n. Keeps n scope scope') (sym e) tt

keeps_both : {Scope : Type 0} (null : Nullable) (scope scope' : Scope) → scope' ≡ scope → Keeps null scope scope'
keeps_both no scope scope' e = tt
keeps_both keeping scope scope' e = e
keeps_both changing scope scope' e = tt

joined_keeps : {Scope : Type 0} (null null_f null' : Nullable) (scope between end : Scope) → Joins null null_f null' → is_null null ≡ true → is_null null_f ≡ true →
    Keeps null scope between → Keeps null_f between end → Keeps null' scope end
joined_keeps no m n scope between end j e f k l = never e
joined_keeps keeping no n scope between end j e f k l = never f
joined_keeps keeping keeping n scope between end j e f k l = keeps_both n scope end (l ∙ k)
joined_keeps keeping changing n scope between end j e f k l = keeps_changing n scope end j
joined_keeps changing no n scope between end j e f k l = never f
joined_keeps changing keeping n scope between end j e f k l = keeps_changing n scope end j
joined_keeps changing changing n scope between end j e f k l = keeps_changing n scope end j

-- What goes on behind a part goes on behind an empty rest, in the scope behind that.
pub goes_on_at : {Token Scope : Type 0} (terminal_of : Scope → Token → ℕ) (nullable : Nullable) (l l' : List ℕ) (scope scope' : Scope) → is_null nullable ≡ true →
    Keeps nullable scope scope' → goes_on nullable l l' ≡ true → (t : Token) → has l (terminal_of scope t) ≡ true → has l' (terminal_of scope' t) ≡ true
goes_on_at terminal_of no l l' scope scope' e k g t m = never e
goes_on_at terminal_of keeping l l' scope scope' e k g t m = subst (λ z. has l' (terminal_of z t) ≡ true) (sym k) (within l l' g (terminal_of scope t) m)
goes_on_at terminal_of changing [] l' scope scope' e k g t m = never m
goes_on_at terminal_of changing (n ∷ l) l' scope scope' e k g t m = never g

-- What begins the rest behind an empty part begins the whole, in the scope before that.
begins_at : {Token Scope : Type 0} (terminal_of : Scope → Token → ℕ) (nullable : Nullable) (l l' : List ℕ) (scope scope' : Scope) → is_null nullable ≡ true →
    Keeps nullable scope scope' → goes_on nullable l l' ≡ true → (t : Token) → has l (terminal_of scope' t) ≡ true → has l' (terminal_of scope t) ≡ true
begins_at terminal_of no l l' scope scope' e k g t m = never e
begins_at terminal_of keeping l l' scope scope' e k g t m = within l l' g (terminal_of scope t) (subst (λ z. has l (terminal_of z t) ≡ true) k m)
begins_at terminal_of changing [] l' scope scope' e k g t m = never m
begins_at terminal_of changing (n ∷ l) l' scope scope' e k g t m = never g

module _ {Token Scope Around : Type 0} {terminal_of : Scope → Token → ℕ} {IsLexeme : Token → Type 0} {stage : Stage} where
  module _ {given given_f A B : Type 0} {X : ℕ → Rule Token Scope A} {p : Reader Token Scope Around A} {null : Nullable} {first : List ℕ} {last : A → List ℕ}
      {f : ℕ → A → Rule Token Scope B} {q : A → Reader Token Scope Around B} {null_f : A → Nullable} {first_f : A → List ℕ} {last_f : B → List ℕ}
      (null' : Nullable) (first' : List ℕ) (last' : B → List ℕ) (r : IsReadBy terminal_of IsLexeme stage given X p null first last)
      (rf : (a : A) → IsReadBy terminal_of IsLexeme stage given_f (λ d. f d a) (q a) (null_f a) (first_f a) last_f) where
    some_both : (scope : Scope) → Some IsLexeme (λ d. (X d >>= f d) scope)
    some_both scope =
        let s = r.some scope in let t = (rf s.value.0).some s.value.1 in record {
          word = s.word ++ t.word;
          value = t.value;
          turns = s.turns + t.turns;
          lexemes = each_append (λ z. IsLexeme z.0) s.word t.word s.lexemes t.lexemes;
          is = λ e h. record { front = s.word; back = t.word; value = s.value; split = refl; begin = s.is e (omega arith); rest = t.is e (omega arith) };
        }

    keeps_then : (nulls : (a : A) → Joins null (null_f a) null') (d : ℕ) → Covers stage d → (scope : Scope) (end : B × Scope) (front back : List (Leveled Token)) (value : A × Scope) →
        [] ≡ front ++ back → X d scope front value → f d value.0 value.1 back end → Keeps null' scope end.1
    keeps_then nulls d h scope end front back value e x y =
        let parts = empty_parts front back e in
        let x' : X d scope [] value = subst (λ w. X d scope w value) parts.0 x in
        let y' : f d value.0 value.1 [] end = subst (λ w. f d value.0 value.1 w end) parts.1 y in
        joined_keeps null (null_f value.0) null' scope value.1 end.1 (nulls value.0) ((r.predictive d h scope).nullable value x')
        (((rf value.0).predictive d h value.1).nullable end y') (r.keeps d h scope value x') ((rf value.0).keeps d h value.1 end y')

    up : IsWhole stage → (scope : Scope) (d : ℕ) (w : List (Leveled Token)) (a : A × Scope) → X d scope w a → X (suc d) scope w a
    up s scope d = (r.predictive d (covers_all stage s d) scope).grows

    up_f : IsWhole stage → (a : A) (scope : Scope) (d : ℕ) (w : List (Leveled Token)) (b : B × Scope) → f d a scope w b → f (suc d) a scope w b
    up_f s a scope d = ((rf a).predictive d (covers_all stage s d) scope).grows

    -- A word of the first part, and some rest.
    ready_first : IsWhole stage → (scope : Scope) (t : Token) → Ready (λ d. X d scope) t → Ready (λ d. (X d >>= f d) scope) t
    ready_first s scope t x =
        let y = (rf x.value.0).some x.value.1 in record {
          word = x.word ++ y.word;
          value = y.value;
          turns = x.turns + y.turns;
          rest = x.rest ++ tokens_of y.word;
          begins = tokens_append x.word y.word ∙ ap (λ z. z ++ tokens_of y.word) x.begins;
          is = record {
            front = x.word;
            back = y.word;
            value = x.value;
            split = refl;
            begin = raised_left (λ d. X d scope) (up s scope) x.turns y.turns x.word x.value x.is;
            rest = y.is (x.turns + y.turns) (omega arith);
          };
        }

    -- The empty word of the first part, and a word of the rest.
    ready_rest : IsWhole stage → (scope : Scope) (t : Token) (e : Empty (λ d. X d scope)) → Ready (λ d. f d e.value.0 e.value.1) t → Ready (λ d. (X d >>= f d) scope) t
    ready_rest s scope t e y = record {
      word = y.word;
      value = y.value;
      turns = e.turns + y.turns;
      rest = y.rest;
      begins = y.begins;
      is = record {
        front = [];
        back = y.word;
        value = e.value;
        split = refl;
        begin = raised_left (λ d. X d scope) (up s scope) e.turns y.turns [] e.value e.is;
        rest = raised (λ d. f d e.value.0 e.value.1) (up_f s e.value.0 e.value.1) e.turns y.turns y.word y.value y.is;
      };
    }

    empty_both : IsWhole stage → (scope : Scope) (e : Empty (λ d. X d scope)) → Empty (λ d. f d e.value.0 e.value.1) → Empty (λ d. (X d >>= f d) scope)
    empty_both s scope e y = record {
      value = y.value;
      turns = e.turns + y.turns;
      is = record {
        front = [];
        back = [];
        value = e.value;
        split = refl;
        begin = raised_left (λ d. X d scope) (up s scope) e.turns y.turns [] e.value e.is;
        rest = raised (λ d. f d e.value.0 e.value.1) (up_f s e.value.0 e.value.1) e.turns y.turns [] y.value y.is;
      };
    }

    -- The general case: what is asked of sets is asked in the scopes at their places. A token that is
    -- said to begin the whole begins its first part, or a rest behind an empty one.
    pub read_both : (IsWhole stage → given → (d : ℕ) (scope : Scope) (run : List (Leveled Token)) (end : A × Scope) → X d scope run end → AreShallow run → given_f) →
        ((a : A) → are_disjoint (last a) (first_f a) ≡ true) → ((a : A) → Joins null (null_f a) null') → is_within first first' ≡ true →
        ((d : ℕ) → Covers stage d → (scope : Scope) (end : A × Scope) → X d scope [] end → (t : Token) → has (first_f end.0) (terminal_of end.1 t) ≡ true →
        has first' (terminal_of scope t) ≡ true) →
        ((b : B) → is_within (last_f b) (last' b) ≡ true) →
        ((d : ℕ) → Covers stage d → (scope : Scope) (a : A) (end : B × Scope) → f d a scope [] end → (t : Token) → has (last a) (terminal_of scope t) ≡ true →
        has (last' end.0) (terminal_of end.1 t) ≡ true) →
        (IsWhole stage → given → (scope : Scope) (t : Token) → has first' (terminal_of scope t) ≡ true →
        (has first (terminal_of scope t) ≡ true) ⊎ Ready (λ d. (X d >>= f d) scope) t) →
        (IsWhole stage → given → is_null null' ≡ true → (scope : Scope) → Empty (λ d. (X d >>= f d) scope)) →
        IsReadBy terminal_of IsLexeme stage given (λ d. X d >>= f d) (λ input. and_then (p input) q) null' first' last'
    read_both guard apart nulls firsts firsts_f lasts lasts_x begins empties = record {
      predictive = λ d h scope. predictive_then (X d scope) (X (suc d) scope) (λ z. f d z.0 z.1) (λ z. f (suc d) z.0 z.1) (is_null null)
          (λ t. has first (terminal_of scope t)) (λ z t. has (last z.0) (terminal_of z.1 t))
          (λ z. is_null (null_f z.0)) (λ z t. has (first_f z.0) (terminal_of z.1 t)) (λ z t. has (last_f z.0) (terminal_of z.1 t))
          (r.predictive d h scope) (λ z. (rf z.0).predictive d h z.1) (λ z t. disjoint (last z.0) (first_f z.0) (apart z.0) (terminal_of z.1 t))
          (is_null null') (λ t. has first' (terminal_of scope t)) (λ z t. has (last' z.0) (terminal_of z.1 t))
          (λ z e g. joined_null null (null_f z.0) null' (nulls z.0) e g) (λ t. within first first' firsts (terminal_of scope t))
          (λ z x t. firsts_f d h scope z x t) (λ z t. within (last_f z.0) (last' z.0) (lasts z.0) (terminal_of z.1 t))
          (λ z end x t. lasts_x d h z.1 z.0 end x t);
      keeps = λ d h scope end x. keeps_then nulls d h scope end x.front x.back x.value x.split x.begin x.rest;
      some = some_both;
      ready = λ s g scope t h. elim (begins s g scope t h) [ inl x ↦ ready_first s scope t (r.ready s g scope t x) | inr y ↦ y ];
      empty = empties;
      exact = λ s g around scope ts. exact_then IsLexeme around (λ d. X d scope) (λ d z. f d z.0 z.1) (is_null null)
          (λ t. has first (terminal_of scope t)) (λ z t. has (last z.0) (terminal_of z.1 t))
          (λ z. is_null (null_f z.0)) (λ z t. has (first_f z.0) (terminal_of z.1 t)) (λ z t. has (last_f z.0) (terminal_of z.1 t))
          (λ d. r.predictive d (covers_all stage s d) scope) (λ d z. (rf z.0).predictive d (covers_all stage s d) z.1)
          (λ z t. disjoint (last z.0) (first_f z.0) (apart z.0) (terminal_of z.1 t)) (λ z. word_of ((rf z.0).some z.1)) q ts
          (p (record { tokens = ts; scope = scope; around = around })) (r.exact s g around scope ts)
          (λ run left d z e x sh. (rf z.0).exact s (guard s g d scope run z x sh) around z.1 left);
    }

    -- The same, where the sets are compared by computing. An empty word of the rest is given where it
    -- is asked what goes on behind it.
    pub read_both_at : (IsWhole stage → given → (d : ℕ) (scope : Scope) (run : List (Leveled Token)) (end : A × Scope) → X d scope run end → AreShallow run → given_f) →
        ((a : A) → are_disjoint (last a) (first_f a) ≡ true) → ((a : A) → Joins null (null_f a) null') → is_within first first' ≡ true →
        ((a : A) → goes_on null (first_f a) first' ≡ true) → ((b : B) → is_within (last_f b) (last' b) ≡ true) →
        ((d : ℕ) (scope : Scope) (a : A) (end : B × Scope) → f d a scope [] end → goes_on (null_f a) (last a) (last' end.0) ≡ true) →
        (IsWhole stage → given → (scope : Scope) (t : Token) → has first' (terminal_of scope t) ≡ true →
        (has first (terminal_of scope t) ≡ true) ⊎ Ready (λ d. (X d >>= f d) scope) t) →
        (IsWhole stage → given → is_null null' ≡ true → (scope : Scope) → Empty (λ d. (X d >>= f d) scope)) →
        IsReadBy terminal_of IsLexeme stage given (λ d. X d >>= f d) (λ input. and_then (p input) q) null' first' last'
    read_both_at guard apart nulls firsts firsts_f lasts lasts_x begins empties =
        read_both guard apart nulls firsts
        (λ d h scope end x t m. begins_at terminal_of null (first_f end.0) first' scope end.1 ((r.predictive d h scope).nullable end x) (r.keeps d h scope end x) (firsts_f end.0) t m)
        lasts
        (λ d h scope a end x t m. goes_on_at terminal_of (null_f a) (last a) (last' end.0) scope end.1 (((rf a).predictive d h scope).nullable end x) ((rf a).keeps d h scope end x) (lasts_x d scope a end x) t m) begins empties

  -- The first part is not nullable.
  pub read_then : {given A B : Type 0} {X : ℕ → Rule Token Scope A} {p : Reader Token Scope Around A} {first : List ℕ} {last : A → List ℕ}
      {f : ℕ → A → Rule Token Scope B} {q : A → Reader Token Scope Around B} {null_f : A → Nullable} {first_f : A → List ℕ} {last_f : B → List ℕ}
      (last' : B → List ℕ) → IsReadBy terminal_of IsLexeme stage given X p no first last →
      ((a : A) → IsReadBy terminal_of IsLexeme stage given (λ d. f d a) (q a) (null_f a) (first_f a) last_f) →
      ((a : A) → are_disjoint (last a) (first_f a) ≡ true) → ((b : B) → is_within (last_f b) (last' b) ≡ true) →
      ((a : A) (b : B) → goes_on (null_f a) (last a) (last' b) ≡ true) →
      IsReadBy terminal_of IsLexeme stage given (λ d. X d >>= f d) (λ input. and_then (p input) q) no first last'
  read_then {first = first} last' r rf apart lasts nulls =
      read_both_at no first last' r rf (λ s g d scope run end x sh. g) apart (λ a. tt) (within_itself first) (λ a. refl) lasts (λ d scope a end x. nulls a end.0)
      (λ s g scope t h. inl h) (λ s g e. never e)

  -- The same, where an empty word of the rest is given to what is asked of what goes on behind it.
  pub read_then_at : {given A B : Type 0} {X : ℕ → Rule Token Scope A} {p : Reader Token Scope Around A} {first : List ℕ} {last : A → List ℕ}
      {f : ℕ → A → Rule Token Scope B} {q : A → Reader Token Scope Around B} {null_f : A → Nullable} {first_f : A → List ℕ} {last_f : B → List ℕ}
      (last' : B → List ℕ) → IsReadBy terminal_of IsLexeme stage given X p no first last →
      ((a : A) → IsReadBy terminal_of IsLexeme stage given (λ d. f d a) (q a) (null_f a) (first_f a) last_f) →
      ((a : A) → are_disjoint (last a) (first_f a) ≡ true) → ((b : B) → is_within (last_f b) (last' b) ≡ true) →
      ((d : ℕ) (scope : Scope) (a : A) (end : B × Scope) → f d a scope [] end → goes_on (null_f a) (last a) (last' end.0) ≡ true) →
      IsReadBy terminal_of IsLexeme stage given (λ d. X d >>= f d) (λ input. and_then (p input) q) no first last'
  read_then_at {first = first} last' r rf apart lasts nulls =
      read_both_at no first last' r rf (λ s g d scope run end x sh. g) apart (λ a. tt) (within_itself first) (λ a. refl) lasts nulls
      (λ s g scope t h. inl h) (λ s g e. never e)

  -- The first part is nullable, and its empty word leaves the scope as it is. Either each rest is
  -- nullable or none is.
  module _ {given A B : Type 0} {X : ℕ → Rule Token Scope A} {p : Reader Token Scope Around A} {first : List ℕ} {last : A → List ℕ}
      {f : ℕ → A → Rule Token Scope B} {q : A → Reader Token Scope Around B} {null_f : Nullable} {first_f : List ℕ} {last_f : B → List ℕ}
      (last' : B → List ℕ) (r : IsReadBy terminal_of IsLexeme stage given X p keeping first last)
      (rf : (a : A) → IsReadBy terminal_of IsLexeme stage given (λ d. f d a) (q a) null_f first_f last_f) where
    joins : (n : Nullable) → Joins keeping n n
    joins no = tt
    joins keeping = refl
    joins changing = refl

    begins_join : IsWhole stage → given → (scope : Scope) (t : Token) → has (first ++ first_f) (terminal_of scope t) ≡ true →
        (has first (terminal_of scope t) ≡ true) ⊎ Ready (λ d. (X d >>= f d) scope) t
    begins_join s g scope t h = elim (in_union first first_f (terminal_of scope t) h) [
      | inl x ↦ inl x
      | inr y ↦ let x = r.empty s g refl scope in
          let same : x.value.1 ≡ scope = r.keeps x.turns (covers_all stage s x.turns) scope x.value x.is in
          inr (ready_rest null_f (first ++ first_f) last' r rf s scope t x
          ((rf x.value.0).ready s g x.value.1 t (subst (λ z. has first_f (terminal_of z t) ≡ true) (sym same) y)))
    ]

    empty_join : IsWhole stage → given → is_null null_f ≡ true → (scope : Scope) → Empty (λ d. (X d >>= f d) scope)
    empty_join s g e scope =
        let x = r.empty s g refl scope in empty_both null_f (first ++ first_f) last' r rf s scope x ((rf x.value.0).empty s g e x.value.1)

    pub read_join : ((a : A) → are_disjoint (last a) first_f ≡ true) → ((b : B) → is_within (last_f b) (last' b) ≡ true) →
        ((a : A) (b : B) → goes_on null_f (last a) (last' b) ≡ true) →
        IsReadBy terminal_of IsLexeme stage given (λ d. X d >>= f d) (λ input. and_then (p input) q) null_f (first ++ first_f) last'
    read_join apart lasts lasts_x =
        read_both_at null_f (first ++ first_f) last' r rf (λ s g d scope run end x sh. g) apart (λ a. joins null_f) (within_left first first_f) (λ a. within_right first first_f) lasts
        (λ d scope a end x. lasts_x a end.0) begins_join empty_join

  -- What is read is made of what was read.
  pub read_map : {given A B : Type 0} {X : ℕ → Rule Token Scope A} {p : Reader Token Scope Around A} {null : Nullable} {first : List ℕ} {last : A → List ℕ}
      (g : A → B) (last' : B → List ℕ) → IsReadBy terminal_of IsLexeme stage given X p null first last → ((a : A) → is_within (last a) (last' (g a)) ≡ true) →
      IsReadBy terminal_of IsLexeme stage given (λ d. X d >>= λ a. pure (g a)) (λ input. and_then (p input) (λ a. reader.pure (g a))) null first last'
  read_map {null = null} {first = first} {last = last} g last' r lasts =
      read_both_at null first last' r (λ a. read_pure (g a)) (λ s h d scope run end x sh. h) (λ a. disjoint_from_none (last a)) (λ a. same null) (within_itself first)
      (λ a. nothing null) (λ b. refl)
      (λ d scope a end x. subst (λ z. is_within (last a) (last' z) ≡ true) (sym (ap (λ (z : _). z.0) x.same)) (lasts a)) (λ s h scope t k. inl k)
      (λ s h e scope. let x = r.empty s h e scope in record {
        value = (g x.value.0, x.value.1);
        turns = x.turns;
        is = record { front = []; back = []; value = x.value; split = refl; begin = x.is; rest = record { none = refl; same = refl } };
      })
    where
      same : (n : Nullable) → Joins n keeping n
      same no = tt
      same keeping = refl
      same changing = refl

      nothing : (n : Nullable) → goes_on n [] first ≡ true
      nothing no = refl
      nothing keeping = refl
      nothing changing = refl

  -- A token, and then what follows it, which may rest on there being room.
  module _ {given A B : Type 0} {set : List ℕ} {view : Token → A} {level room : ℕ} {f : ℕ → A → Rule Token Scope B} {q : A → Reader Token Scope Around B}
      {null_f : A → Nullable} {first_f : A → List ℕ} {last_f : B → List ℕ} (fits : HasRoom stage level room) (sample : (scope : Scope) → Sample terminal_of IsLexeme set scope) where
    pub read_token : ((a : A) → IsReadBy terminal_of IsLexeme stage (0 < room) (λ d. f d a) (q a) (null_f a) (first_f a) last_f) →
        IsReadBy terminal_of IsLexeme stage given (λ d. one terminal_of set view level >>= f d) (λ input. and_then (expect terminal_of set view room input) q) no set last_f
    read_token rf =
        read_both_at no set last_f (read_one fits sample {given = given}) rf (λ s g d scope run end x sh. one_guard fits s scope run end x sh) (λ a. refl) (λ a. tt) (within_itself set)
        (λ a. refl) (λ b. within_itself (last_f b)) (λ d scope a end x. none_goes_on (null_f a) (last_f end.0)) (λ s g scope t h. inl h) (λ s g e. never e)
      where
        none_goes_on : (n : Nullable) (l : List ℕ) → goes_on n [] l ≡ true
        none_goes_on no l = refl
        none_goes_on keeping l = refl
        none_goes_on changing l = refl
