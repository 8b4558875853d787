-- From words of rules to trees of lists of lexemes and back, and beginnings of both.

use Rattle.std.proofs.Common.{◌≡◌, ℕ, zero, suc, ◌+◌, ◌-◌, ◌≤◌, List, [], ◌∷◌, ◌++◌, Option, Some, map, length, slice_get, option_map, unwrap_or, refl, sym, ap, ◌∙◌, subst, append_assoc, append-nil, arith}
use Rattle.std.specs.Prelude.{All}
use Rattle.c_lexer.specs.declared.token.Kind.{Kind}
use Rattle.c_scopes.specs.Scopes.{OpenScopes}
use Rattle.c_scopes.specs.Events.{Event, after_events}
use Rattle.c_tree.specs.declared.tree.Expr.{Expr}
use Rattle.c_tree.specs.Spell.{Symbols}
use Rattle.c_tree.specs.Fits.{FitFrom}
use Rattle.c_tree.specs.Lexemes.{Lexeme, IsLexeme, kinds_in, kind_at, spelling_at}
use Rattle.c_tree.specs.Units.{Grammar, IsTreeOf}
use Rattle.c_tree.specs.Viability.{IsSpelled, IsViable}
use Rattle.reading.specs.Languages.{Leveled, tokens_of}
use Rattle.reading.specs.Exact.{Each, AreLexemes}
use Rattle.reading.proofs.Cutting.{tokens_append}
use Rattle.c_reading.specs.Kept.{KeptToken, numbered}
use Rattle.c_syntax.specs.Scoping.{Part}
use Rattle.expression_trees.specs.Saying.{Said, IsKnown, AreKnown, FitTokens, AreMet, AreSaid, AreTrees, AreWords, IsWord}
use Rattle.expression_trees.specs.Spelling.{IsToken, scopes_behind, AreItsTrees}
use Rattle.expression_trees.proofs.Lists.{Every, all_of}
use Rattle.expression_trees.proofs.Alike.{Alike, Same, any}
use Rattle.expression_trees.proofs.Meeting.{are_right, are_met, met_end}

-- ---- Kinds and bytes by numbers

module _ (all : List Lexeme) (begin : ℕ) where
  abbrev kind_of : ℕ → Option Kind
  kind_of token = kind_at all (token - begin)

  abbrev bytes_of : ℕ → List ℕ
  bytes_of token = spelling_at all (token - begin)

  -- From a number on these are the lexemes.
  abbrev From : ℕ → List Lexeme → Type 0
  From number lexemes = (i : ℕ) → slice_get all ((number + i) - begin) ≡ slice_get lexemes i

  from_next : (number : ℕ) (lexeme : Lexeme) (lexemes : List Lexeme) → From number (lexeme ∷ lexemes) → From (number + 1) lexemes
  from_next number lexeme lexemes h i = ap (slice_get all) (let e : ((number + 1) + i) - begin ≡ (number + suc i) - begin = omega arith in e) ∙ h (suc i)

  from_known : (number : ℕ) (lexeme : Lexeme) (lexemes : List Lexeme) → From number (lexeme ∷ lexemes) → IsKnown kind_of bytes_of (record { number = number; lexeme = lexeme })
  from_known number lexeme lexemes h =
      let e : slice_get all (number - begin) ≡ Some lexeme = ap (slice_get all) (let f : number - begin ≡ (number + 0) - begin = omega arith in f) ∙ h 0 in
      (ap (option_map (λ (x : Lexeme). x.kind)) e, ap (λ (x : Option Lexeme). unwrap_or (option_map (λ (y : Lexeme). y.spelling) x) []) e)

  fit_numbered : (number : ℕ) (symbols : Symbols) (lexemes : List Lexeme) → From number lexemes → FitFrom number symbols (kinds_in lexemes) → FitTokens kind_of bytes_of symbols (numbered number lexemes)
  fit_numbered number [] [] h f = tt
  fit_numbered number [] (x ∷ lexemes) h f = absurd f
  fit_numbered number (s ∷ symbols) [] h f = absurd f
  fit_numbered number (s ∷ symbols) (x ∷ lexemes) h f = ((f.0, f.1, from_known number x lexemes h), fit_numbered (number + 1) symbols lexemes (from_next number x lexemes h) f.2)

  numbered_fit : (number : ℕ) (symbols : Symbols) (lexemes : List Lexeme) → FitTokens kind_of bytes_of symbols (numbered number lexemes) → FitFrom number symbols (kinds_in lexemes)
  numbered_fit number [] [] f = tt
  numbered_fit number [] (x ∷ lexemes) f = absurd f
  numbered_fit number (s ∷ symbols) [] f = absurd f
  numbered_fit number (s ∷ symbols) (x ∷ lexemes) f = (f.0.0, f.0.1, numbered_fit (number + 1) symbols lexemes f.1)

  known_numbered : (number : ℕ) (lexemes : List Lexeme) (word : List (Leveled KeptToken)) → From number lexemes → tokens_of word ≡ numbered number lexemes → AreKnown kind_of bytes_of word
  known_numbered number lexemes [] h e = tt
  known_numbered number [] (s ∷ word) h e = absurd (let f : s.0 ∷ tokens_of word ≡ [] = e in cc)
  known_numbered number (x ∷ lexemes) (s ∷ word) h e =
      let f : s.0 ∷ tokens_of word ≡ record { number = number; lexeme = x } ∷ numbered (number + 1) lexemes = e in (
        subst (IsKnown kind_of bytes_of) (let g : record { number = number; lexeme = x } ≡ s.0 = cc in g) (from_known number x lexemes h),
        known_numbered (number + 1) lexemes word (from_next number x lexemes h) (cc),
      )

from_start : (begin : ℕ) (lexemes : List Lexeme) → From lexemes begin begin lexemes
from_start begin lexemes i = ap (slice_get lexemes) (let e : (begin + i) - begin ≡ i = omega arith in e)

-- ---- The same lexemes with other numbers

pub numbered_append : (number : ℕ) (a b : List Lexeme) → numbered number (a ++ b) ≡ numbered number a ++ numbered (number + length a) b
numbered_append number [] b = ap (λ n. numbered n b) (let e : number ≡ number + 0 = omega arith in e)
numbered_append number (x ∷ a) b = ap (λ (z : List KeptToken). record { number = number; lexeme = x } ∷ z)
    (numbered_append (number + 1) a b ∙ ap (λ n. numbered (number + 1) a ++ numbered n b) (let e : (number + 1) + length a ≡ number + suc (length a) = omega arith in e))

abbrev pub lexemes_in : List (Leveled KeptToken) → List Lexeme
lexemes_in [] = []
lexemes_in (s ∷ word) = s.0.lexeme ∷ lexemes_in word

renumbered : (number : ℕ) (word : List (Leveled KeptToken)) → (other : List (Leveled KeptToken)) × Same word other × (tokens_of other ≡ numbered number (lexemes_in word))
renumbered number [] = ([], tt, refl)
renumbered number (s ∷ word) = let r = renumbered (number + 1) word in
    ((record { number = number; lexeme = s.0.lexeme }, s.1) ∷ r.0, (refl, refl, r.1), ap (λ (z : List KeptToken). record { number = number; lexeme = s.0.lexeme } ∷ z) r.2)

same_itself : (word : List (Leveled KeptToken)) → Same word word
same_itself [] = tt
same_itself (s ∷ word) = (refl, refl, same_itself word)

same_then : (v w x y : List (Leveled KeptToken)) → Same v w → Same x y → Same (v ++ x) (w ++ y)
same_then [] [] x y h g = g
same_then [] (t ∷ w) x y h g = absurd h
same_then (s ∷ v) [] x y h g = absurd h
same_then (s ∷ v) (t ∷ w) x y h g = (h.0, h.1, same_then v w x y h.2 g)

every_lexeme : (word : List (Leveled KeptToken)) → AreLexemes IsToken word → Every IsLexeme (lexemes_in word)
every_lexeme [] h = tt
every_lexeme (s ∷ word) h = (h.0, every_lexeme word h.1)

-- ---- Words and trees

module _ {Tree : Type 0} (rule : ℕ → Part Tree) (grammar : Grammar Tree) where
  abbrev said_by : (ℕ → Option Kind) → (ℕ → List ℕ) → Tree → Said
  said_by kind_of bytes_of tree = record { symbols = grammar.spelling tree; events = grammar.events kind_of bytes_of tree }

  module _ (front : (kind_of : ℕ → Option Kind) (bytes_of : ℕ → List ℕ) (turns : ℕ) → AreTrees kind_of bytes_of (rule turns) (grammar.IsFormed kind_of bytes_of turns) (said_by kind_of bytes_of)) where
    words_are_trees : (scopes end : OpenScopes) (begin turns : ℕ) (lexemes : List Lexeme) (word : List (Leveled KeptToken)) (tree : Tree) → tokens_of word ≡ numbered begin lexemes →
        rule turns scopes word (tree, end) → IsTreeOf grammar scopes begin lexemes tree × (end ≡ scopes_behind grammar scopes begin lexemes tree)
    words_are_trees scopes end begin turns lexemes word tree e x =
        let r = front (kind_of lexemes begin) (bytes_of lexemes begin) turns scopes end word tree (known_numbered lexemes begin begin lexemes word (from_start begin lexemes) e) x in
        let events = grammar.events (kind_of lexemes begin) (bytes_of lexemes begin) tree in (
          record {
            spelled = numbered_fit lexemes begin begin (grammar.spelling tree) lexemes (subst (FitTokens (kind_of lexemes begin) (bytes_of lexemes begin) (grammar.spelling tree)) e r.1.0);
            depth = turns;
            form = r.0;
            names = are_right scopes end events r.1.1;
          },
          met_end scopes end events r.1.1,
        )

    begins_tree : ((turns : ℕ) → Alike (rule turns) (rule turns) any) → (scopes : OpenScopes) (begin turns : ℕ) (lexemes : List Lexeme) (run more : List (Leveled KeptToken)) (end : Tree × OpenScopes) →
        tokens_of run ≡ numbered begin lexemes → AreLexemes IsToken more → rule turns scopes (run ++ more) end → IsViable grammar scopes begin lexemes
    begins_tree alike scopes begin turns lexemes run more end e l x =
        let r = renumbered (begin + length lexemes) more in
        let y = (alike turns).alike scopes (run ++ more) (run ++ r.0) (same_then run run more r.0 (same_itself run) r.1) end x in
        let is : tokens_of (run ++ r.0) ≡ numbered begin (lexemes ++ lexemes_in more) =
        tokens_append run r.0 ∙ (ap (λ (z : List KeptToken). z ++ tokens_of r.0) e ∙ (ap (λ (z : List KeptToken). numbered begin lexemes ++ z) r.2 ∙ sym (numbered_append begin lexemes (lexemes_in more)))) in
        record { more = lexemes_in more; each = all_of IsLexeme (lexemes_in more) (every_lexeme more l); whole = (y.0, (words_are_trees scopes end.1 begin turns (lexemes ++ lexemes_in more) (run ++ r.0) y.0 is y.1).0) }

  trees_are_words : ((kind_of : ℕ → Option Kind) (bytes_of : ℕ → List ℕ) (depth : ℕ) → AreWords kind_of bytes_of rule (grammar.IsFormed kind_of bytes_of depth) (said_by kind_of bytes_of)) →
      (scopes : OpenScopes) (begin : ℕ) (lexemes : List Lexeme) (tree : Tree) → IsTreeOf grammar scopes begin lexemes tree →
      IsWord rule tree (numbered begin lexemes) scopes (scopes_behind grammar scopes begin lexemes tree)
  trees_are_words back scopes begin lexemes tree x =
      back (kind_of lexemes begin) (bytes_of lexemes begin) x.depth tree x.form scopes (scopes_behind grammar scopes begin lexemes tree) (numbered begin lexemes)
      (fit_numbered lexemes begin begin (grammar.spelling tree) lexemes (from_start begin lexemes) x.spelled, are_met scopes (grammar.events (kind_of lexemes begin) (bytes_of lexemes begin) tree) x.names)

  -- Both ways, and what begins a word begins a tree.
  pub are_its_trees : ((kind_of : ℕ → Option Kind) (bytes_of : ℕ → List ℕ) (turns : ℕ) → AreTrees kind_of bytes_of (rule turns) (grammar.IsFormed kind_of bytes_of turns) (said_by kind_of bytes_of)) →
      ((kind_of : ℕ → Option Kind) (bytes_of : ℕ → List ℕ) (depth : ℕ) → AreWords kind_of bytes_of rule (grammar.IsFormed kind_of bytes_of depth) (said_by kind_of bytes_of)) →
      ((turns : ℕ) → Alike (rule turns) (rule turns) any) → AreItsTrees rule grammar
  are_its_trees front back alike = record { trees = words_are_trees front; words = trees_are_words back; begins = begins_tree front alike }
