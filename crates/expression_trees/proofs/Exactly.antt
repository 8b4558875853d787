-- What is read exactly by a rule is read exactly in the words of trees.

use Rattle.std.proofs.Common.{◌≡◌, ℕ, zero, suc, ◌+◌, ◌-◌, ◌<◌, ◌≤◌, List, [], ◌∷◌, ◌++◌, Option, Some, Ok, Err, map, length, take, drop, slice_get, option_map, refl, sym, ap, ◌∙◌, subst, append_assoc, append-nil, arith}
use Rattle.c_lexer.specs.declared.token.Kind.{Kind}
use Rattle.c_scopes.specs.Scopes.{OpenScopes}
use Rattle.c_tree.specs.Lexemes.{Lexeme, kind_at}
use Rattle.c_tree.specs.Units.{Grammar, IsTreeOf}
use Rattle.c_tree.specs.Viability.{IsSpelled, IsViable, IsLongestViable}
use Rattle.c_tree.specs.Levels.{Nesting, nesting_level, after_token, after_tokens, opens_at, level_of, no_bodies, IsTooDeep}
use Rattle.reading.specs.Languages.{Leveled, tokens_of}
use Rattle.reading.specs.Readers.{Outcome, offends, too_deep}
use Rattle.reading.specs.Exact as exact
use Rattle.reading.specs.Exact.{HIGHEST_LEVEL, IsExact, IsLongest, AreNoWord, AreShallow, AreLexemes}
use Rattle.reading.proofs.Cutting.{tokens_append}
use Rattle.c_reading.specs.Kept.{KeptToken, numbered}
use Rattle.c_reading.specs.Cursors.{Around}
use Rattle.c_syntax.specs.Scoping.{Part}
use Rattle.expression_trees.specs.Saying.{IsWord}
use Rattle.expression_trees.specs.Spelling.{IsToken, scopes_behind, AreItsTrees}
use Rattle.expression_trees.specs.ExactTrees as goal
use Rattle.expression_trees.specs.ExactTrees.{nothing_open, level_at, Walks, AreLeveled, IsReadExactly}
use Rattle.expression_trees.proofs.Bridge.{lexemes_in, numbered_append}

-- ---- Lists

take_front : {A : Type 0} (a b : List A) → take (length a) (a ++ b) ≡ a
take_front [] b = refl
take_front (x ∷ a) b = ap (λ (z : List _). x ∷ z) (take_front a b)

drop_front : {A : Type 0} (a b : List A) → drop (length a) (a ++ b) ≡ b
drop_front [] b = refl
drop_front (x ∷ a) b = drop_front a b

take_after : {A : Type 0} (a : List A) (x : A) (b : List A) → take (suc (length a)) (a ++ x ∷ b) ≡ a ++ x ∷ []
take_after [] x b = refl
take_after (y ∷ a) x b = ap (λ (z : List _). y ∷ z) (take_after a x b)

take_next : {A : Type 0} (a : List A) (x : A) (b : List A) → take (length a + 1) (a ++ x ∷ b) ≡ a ++ x ∷ []
take_next a x b = ap (λ n. take n (a ++ x ∷ b)) (let e : length a + 1 ≡ suc (length a) = omega arith in e) ∙ take_after a x b

get_next : {A : Type 0} (a : List A) (x : A) (b : List A) → slice_get (a ++ x ∷ b) (length a) ≡ Some x
get_next [] x b = refl
get_next (y ∷ a) x b = get_next a x b

length_both : {A : Type 0} (a b : List A) → length (a ++ b) ≡ length a + length b
length_both [] b = omega arith
length_both (x ∷ a) b = omega (arith, length_both a b)

-- Tokens that are cut, by their lexemes.
record Split (begin : ℕ) (u v : List KeptToken) (lexemes : List Lexeme) : Type 0 where
  front : List Lexeme
  back : List Lexeme
  whole : lexemes ≡ front ++ back
  first : u ≡ numbered begin front
  rest : v ≡ numbered (begin + length front) back

split_at : (begin : ℕ) (lexemes : List Lexeme) (u v : List KeptToken) → numbered begin lexemes ≡ u ++ v → Split begin u v lexemes
split_at begin lexemes [] v e = record { front = []; back = lexemes; whole = refl; first = refl; rest = sym e ∙ ap (λ n. numbered n lexemes) (let f : begin ≡ begin + 0 = omega arith in f) }
split_at begin [] (t ∷ u) v e = absurd (let f : [] ≡ t ∷ (u ++ v) = e in cc)
split_at begin (x ∷ lexemes) (t ∷ u) v e =
    let f : record { number = begin; lexeme = x } ∷ numbered (begin + 1) lexemes ≡ t ∷ (u ++ v) = e in
    let r = split_at (begin + 1) lexemes u v (cc) in
    record {
      front = x ∷ r.front;
      back = r.back;
      whole = ap (λ (z : List Lexeme). x ∷ z) r.whole;
      first = ap (λ (z : KeptToken). z ∷ u) (let g : t ≡ record { number = begin; lexeme = x } = cc in g) ∙ ap (λ (z : List KeptToken). record { number = begin; lexeme = x } ∷ z) r.first;
      rest = r.rest ∙ ap (λ n. numbered n r.back) (let g : (begin + 1) + length r.front ≡ begin + suc (length r.front) = omega arith in g);
    }

same_lexemes : (begin : ℕ) (word : List (Leveled KeptToken)) (lexemes : List Lexeme) → tokens_of word ≡ numbered begin lexemes → lexemes_in word ≡ lexemes
same_lexemes begin [] [] e = refl
same_lexemes begin [] (x ∷ lexemes) e = absurd (let f : [] ≡ record { number = begin; lexeme = x } ∷ numbered (begin + 1) lexemes = e in cc)
same_lexemes begin (s ∷ word) [] e = absurd (let f : s.0 ∷ tokens_of word ≡ [] = e in cc)
same_lexemes begin (s ∷ word) (x ∷ lexemes) e =
    let f : s.0 ∷ tokens_of word ≡ record { number = begin; lexeme = x } ∷ numbered (begin + 1) lexemes = e in
    let g : s.0 ≡ record { number = begin; lexeme = x } = cc in
    ap (λ (z : List Lexeme). s.0.lexeme ∷ z) (same_lexemes (begin + 1) word lexemes (cc)) ∙ ap (λ (z : KeptToken). z.lexeme ∷ lexemes) g

-- ---- Levels

level_there : (base : ℕ) (n m : Nesting) (run more : List (Leveled KeptToken)) (x : Leveled KeptToken) → Walks base n (run ++ x ∷ more) m → x.1 ≡ level_at base (after_tokens n (lexemes_in run)) x.0.lexeme.kind
level_there base n m [] more x h = h.0
level_there base n m (s ∷ run) more x h = level_there base (after_token n s.0.lexeme.kind) m run more x h.1

abbrev level_in : ℕ → Nesting → List Lexeme → ℕ → ℕ
level_in base n lexemes position = base + (nesting_level (after_tokens n (take position lexemes)) + opens_at (kind_at lexemes position))

shallow_at : (base : ℕ) (n m : Nesting) (run rest : List (Leveled KeptToken)) (tail : List Lexeme) → Walks base n (run ++ rest) m → AreShallow run → (before : ℕ) → before < length (lexemes_in run) →
    level_in base n (lexemes_in run ++ tail) before ≤ HIGHEST_LEVEL
shallow_at base n m [] rest tail h s before l = absurd (omega arith)
shallow_at base n m (x ∷ run) rest tail h s zero l = subst (λ z. z ≤ HIGHEST_LEVEL) h.0 s.0
shallow_at base n m (x ∷ run) rest tail h s (suc before) l = shallow_at base (after_token n x.0.lexeme.kind) m run rest tail h.1 s.1 before (omega arith)

-- ---- What is read

module _ {Tree : Type 0} (rule : ℕ → Part Tree) (grammar : Grammar Tree) (its : AreItsTrees rule grammar) (scopes : OpenScopes) (begin : ℕ) where
  no_longer : (run : List (Leveled KeptToken)) (front back : List Lexeme) → tokens_of run ≡ numbered begin front → IsLongest (λ turns. rule turns scopes) run (numbered (begin + length front) back) →
      length front < length (front ++ back) → IsViable grammar scopes begin (take (length front + 1) (front ++ back)) → ⊥
  no_longer run front [] e h l v = let f = length_both front [] in absurd (omega arith)
  no_longer run front (x ∷ back) e h l v =
      let w = subst (IsViable grammar scopes begin) (take_next front x back) v in
      let is = its.words scopes begin ((front ++ x ∷ []) ++ w.more) w.whole.0 w.whole.1 in
      let token : KeptToken = record { number = begin + length front; lexeme = x } in
      let after = numbered ((begin + length front) + 1) w.more in
      let same : numbered begin ((front ++ x ∷ []) ++ w.more) ≡ tokens_of run ++ token ∷ after =
      ap (numbered begin) (append_assoc front (x ∷ []) w.more) ∙ (numbered_append begin front (x ∷ w.more) ∙ ap (λ (z : List KeptToken). z ++ token ∷ after) (sym e)) in
      h token (numbered ((begin + length front) + 1) back) after refl is.turns is.word (w.whole.0, scopes_behind grammar scopes begin ((front ++ x ∷ []) ++ w.more) w.whole.0) (is.is ∙ same) (is.holds is.turns (omega arith))

  longest_by : (run : List (Leveled KeptToken)) (left : List KeptToken) (lexemes : List Lexeme) (s : Split begin (tokens_of run) left lexemes) → IsViable grammar scopes begin s.front →
      IsLongest (λ turns. rule turns scopes) run left → IsLongestViable grammar scopes begin lexemes (length s.front)
  longest_by run left lexemes s v h = record {
    within = subst (λ (z : List Lexeme). length s.front ≤ length z) (sym s.whole) (omega (arith, length_both s.front s.back));
    viable = subst (IsViable grammar scopes begin) (sym (take_front s.front s.back) ∙ ap (take (length s.front)) (sym s.whole)) v;
    longest = λ l w. no_longer run s.front s.back s.first (subst (IsLongest (λ turns. rule turns scopes) run) s.rest h)
        (subst (λ (z : List Lexeme). length s.front < length z) s.whole l) (subst (λ (z : List Lexeme). IsViable grammar scopes begin (take (length s.front + 1) z)) s.whole w);
  }

  taken : (lexemes front back : List Lexeme) → lexemes ≡ front ++ back → take (length front) lexemes ≡ front
  taken lexemes front back e = ap (take (length front)) e ∙ take_front front back

  left_is : (lexemes front back : List Lexeme) (left : List KeptToken) → lexemes ≡ front ++ back → left ≡ numbered (begin + length front) back → numbered (begin + length front) (drop (length front) lexemes) ≡ left
  left_is lexemes front back left e f = ap (numbered (begin + length front)) (ap (drop (length front)) e ∙ drop_front front back) ∙ sym f

  module _ (base : ℕ) (leveled : AreLeveled rule base) (around : Around) (lexemes : List Lexeme) where
    too_deep_by : (run more : List (Leveled KeptToken)) (token : KeptToken) (level : ℕ) (left : List KeptToken) (turns : ℕ) (end : Tree × OpenScopes) (front back : List Lexeme) (x : Lexeme) →
        lexemes ≡ front ++ x ∷ back → tokens_of run ≡ numbered begin front → token ≡ record { number = begin + length front; lexeme = x } → AreShallow run → HIGHEST_LEVEL < level → AreLexemes IsToken more →
        rule turns scopes (run ++ (token, level) ∷ more) end → IsTooDeep grammar no_bodies scopes base begin lexemes (length front)
    too_deep_by run more token level left turns end front back x e first is shallow deep lexs h =
        let walk = leveled turns scopes (run ++ (token, level) ∷ more) end h in
        let so_far : take (length front + 1) lexemes ≡ front ++ x ∷ [] = ap (take (length front + 1)) e ∙ take_next front x back in
        let tokens : tokens_of (run ++ (token, level) ∷ []) ≡ numbered begin (front ++ x ∷ []) =
        tokens_append run ((token, level) ∷ []) ∙ (ap (λ (z : List KeptToken). z ++ token ∷ []) first ∙ (ap (λ (z : KeptToken). numbered begin front ++ z ∷ []) is ∙ sym (numbered_append begin front (x ∷ [])))) in
        let v = its.begins scopes begin turns (front ++ x ∷ []) (run ++ (token, level) ∷ []) more end tokens lexs
        (subst (λ z. rule turns scopes z end) (sym (append_assoc run ((token, level) ∷ []) more)) h) in
        let in_run = same_lexemes begin run front first in
        let there : level ≡ level_in base nothing_open (front ++ x ∷ []) (length front) =
        level_there base nothing_open nothing_open run more (token, level) walk ∙
        (ap (λ (z : KeptToken). level_at base (after_tokens nothing_open (lexemes_in run)) z.lexeme.kind) is ∙
        (ap (λ (z : List Lexeme). level_at base (after_tokens nothing_open z) x.kind) (in_run ∙ sym (take_front front (x ∷ []))) ∙
        ap (λ (z : Option Kind). base + (nesting_level (after_tokens nothing_open (take (length front) (front ++ x ∷ []))) + opens_at z)) (sym (ap (option_map (λ (y : Lexeme). y.kind)) (get_next front x []))))) in
        let now : level_of [] base begin (take (length front + 1) lexemes) (length front) ≡ level =
        ap (λ (z : List Lexeme). level_of [] base begin z (length front)) so_far ∙ (plain (front ++ x ∷ []) (length front) ∙ sym there) in
        record {
          within = subst (λ (z : List Lexeme). length front < length z) (sym e) (omega (arith, length_both front (x ∷ back)));
          more = v.more;
          each = v.each;
          tree = v.whole.0;
          whole = subst (λ (z : List Lexeme). IsTreeOf grammar scopes begin (z ++ v.more) v.whole.0) (sym so_far) v.whole.1;
          deep = subst (λ z. HIGHEST_LEVEL < z) (sym now) deep;
          first = λ before l. subst (λ (z : List Lexeme). level_of [] base begin z before ≤ HIGHEST_LEVEL) (sym so_far)
              (subst (λ z. z ≤ HIGHEST_LEVEL) (sym (plain (front ++ x ∷ []) before))
              (subst (λ (z : List Lexeme). level_in base nothing_open (z ++ x ∷ []) before ≤ HIGHEST_LEVEL) in_run
              (shallow_at base nothing_open nothing_open run ((token, level) ∷ more) (x ∷ []) walk shallow before (subst (λ (z : List Lexeme). before < length z) (sym in_run) l))));
        }
      where
        plain : (ls : List Lexeme) (position : ℕ) → level_of [] base begin ls position ≡ level_in base nothing_open ls position
        plain ls position = omega arith

    first_of : (token : KeptToken) (left : List KeptToken) (number : ℕ) (back : List Lexeme) → token ∷ left ≡ numbered number back →
        (x : Lexeme) × (others : List Lexeme) × (back ≡ x ∷ others) × (token ≡ record { number = number; lexeme = x })
    first_of token left number [] e = absurd (let f : token ∷ left ≡ [] = e in cc)
    first_of token left number (x ∷ others) e = let f : token ∷ left ≡ record { number = number; lexeme = x } ∷ numbered (number + 1) others = e in (x, others, refl, cc)

    pub exactly : (outcome : Outcome KeptToken OpenScopes Around Tree) → IsExact IsToken around (λ turns. rule turns scopes) (numbered begin lexemes) outcome →
        IsReadExactly grammar scopes around base begin lexemes outcome
    exactly outcome (exact.reads run left turns tree scope e shallow x longest) =
        let s = split_at begin lexemes (tokens_of run) left e in
        let is = its.trees scopes scope begin turns s.front run tree s.first x in
        let viable = its.begins scopes begin turns s.front run [] (tree, scope) s.first tt (subst (λ z. rule turns scopes z (tree, scope)) (sym (append-nil run)) x) in
        let so_far = taken lexemes s.front s.back s.whole in
        subst (λ (z : List KeptToken). IsReadExactly grammar scopes around base begin lexemes (Ok (tree, record { tokens = z; scope = scope; around = around }))) (left_is lexemes s.front s.back left s.whole s.rest)
        (subst (λ (z : OpenScopes). IsReadExactly grammar scopes around base begin lexemes (Ok (tree, record { tokens = numbered (begin + length s.front) (drop (length s.front) lexemes); scope = z; around = around })))
        (ap (λ (z : List Lexeme). scopes_behind grammar scopes begin z tree) so_far ∙ sym is.1)
        (goal.reads (length s.front) tree (record {
          longest = longest_by run left lexemes s viable longest;
          whole = subst (λ (z : List Lexeme). IsTreeOf grammar scopes begin z tree) (sym so_far) is.0;
        })))
    exactly outcome (exact.refuses run more left turns end scope e shallow lexs x longest none) =
        let s = split_at begin lexemes (tokens_of run) left e in
        let viable = its.begins scopes begin turns s.front run more end s.first lexs x in
        subst (λ (z : List KeptToken). IsReadExactly grammar scopes around base begin lexemes (Err (offends (record { tokens = z; scope = scope; around = around })))) (left_is lexemes s.front s.back left s.whole s.rest)
        (goal.refuses (length s.front) scope (record {
          longest = longest_by run left lexemes s viable longest;
          none = λ spelled.
              let w = its.words scopes begin s.front spelled.0 (subst (λ (z : List Lexeme). IsTreeOf grammar scopes begin z spelled.0) (taken lexemes s.front s.back s.whole) spelled.1) in
              none w.turns w.word (spelled.0, scopes_behind grammar scopes begin s.front spelled.0) (w.is ∙ sym s.first) (w.holds w.turns (omega arith));
        }))
    exactly outcome (exact.is_too_deep run more token level left turns end scope e shallow deep lexs x) =
        let s = split_at begin lexemes (tokens_of run) (token ∷ left) e in
        let f = first_of token left (begin + length s.front) s.back s.rest in
        subst (λ (z : List KeptToken). IsReadExactly grammar scopes around base begin lexemes (Err (too_deep (record { tokens = z; scope = scope; around = around })))) (left_is lexemes s.front s.back (token ∷ left) s.whole s.rest)
        (goal.is_too_deep (length s.front) scope (too_deep_by run more token level left turns end s.front f.1 f.0 (s.whole ∙ ap (λ (z : List Lexeme). s.front ++ z) f.2) s.first f.3 shallow deep lexs x))

-- A list of lexemes has at most one tree, where a word has at most one value.
pub one_tree : {Tree : Type 0} (rule : ℕ → Part Tree) (grammar : Grammar Tree) → AreItsTrees rule grammar → goal.IsUnambiguous rule →
    (scopes : OpenScopes) (begin : ℕ) (lexemes : List Lexeme) (a b : Tree) → IsTreeOf grammar scopes begin lexemes a → IsTreeOf grammar scopes begin lexemes b → a ≡ b
one_tree rule grammar its once scopes begin lexemes a b x y =
    let v = its.words scopes begin lexemes a x in
    let w = its.words scopes begin lexemes b y in
    let d = v.turns + w.turns in
    ap (λ (z : _). z.0) (once d scopes v.word w.word (a, scopes_behind grammar scopes begin lexemes a) (b, scopes_behind grammar scopes begin lexemes b) (v.is ∙ sym w.is) (v.holds d (omega arith)) (w.holds d (omega arith)))
