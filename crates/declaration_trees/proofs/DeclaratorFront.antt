-- What the words of the rules of qualifiers and pointers are: well-formed trees that say their
-- tokens. One term a rule.

use Rattle.std.proofs.Common.{◌≡◌, ℕ, suc, true, false, ◌+◌, List, [], ◌∷◌, ◌++◌, Option, Some, refl, sym, ap, ◌∙◌, subst, arith}
use Rattle.std.specs.Prelude.{All}
use Rattle.c_lexer.specs.declared.token.Kind.{Kind}
use Rattle.c_lexer.specs.declared.token.Kind.TheVariants as k
use Rattle.c_lexer.specs.declared.keyword.TheConstants.{KEY_ATOMIC, KEY_CONST, KEY_RESTRICT, KEY_VOLATILE}
use Rattle.c_lexer.specs.declared.mark.TheConstants.{MARK_LEFT_PAREN, MARK_STAR}
use Rattle.c_scopes.specs.Events.{Event}
use Rattle.c_tree.specs.declared.symbol.Want.{Want}
use Rattle.c_tree.specs.declared.symbol.Want.TheVariants as want
use Rattle.c_tree.specs.declared.symbol.Slot.TheVariants as slot
use Rattle.c_tree.specs.declared.tree.Pointer.{Pointer}
use Rattle.c_tree.specs.Spell.{Symbols, all_wanted}
use Rattle.c_tree.specs.Declarations.{IsQualifier}
use Rattle.c_tree.proofs.Spellings as spell
use Rattle.c_reading.specs.Terminals.{key}
use Rattle.c_syntax.specs.Sets.{a_plain_qualifier}
use Rattle.c_declarators.specs.declared.forms.Qualified.{Qualified}
use Rattle.c_declarators.specs.declared.forms.Pointing.{Pointing}
use Rattle.c_declarators.specs.DeclaratorForms.{no_qualifiers, with_qualifier, no_pointers, with_pointer}
use Rattle.c_declarators.specs.DeclaratorRules as lang
use Rattle.expression_trees.specs.Saying.{Said, ◌and◌, token}
use Rattle.expression_trees.specs.Trees.{of_pointer}
use Rattle.expression_trees.proofs.FormsSay as law
use Rattle.expression_trees.proofs.FormsSay.{each, said_of, same_said}
use Rattle.expression_trees.proofs.Lists.{Every, all_of, every_snoc}
use Rattle.expression_trees.proofs.Front.{Open, Says}
use Rattle.expression_trees.proofs.Tokens.{says_mark, key_is}
use Rattle.declaration_trees.specs.Numbering.{IsNoParen}
use Rattle.declaration_trees.proofs.Words.{says_kind, says_plain, other_key, no_key}
use Rattle.declaration_trees.proofs.Standing.{Adds, adds_pure, adds_then, adds_or, adds_token, adds_many, no_paren}

-- Tokens of which the same is wanted, and then the rest.
abbrev pub all_tokens : Want → List ℕ → Said → Said
all_tokens w [] k = k
all_tokens w (n ∷ ns) k = token n w (all_tokens w ns k)

pub all_tokens_snoc : (w : Want) (ns : List ℕ) (m : ℕ) (k : Said) → all_tokens w (ns ++ m ∷ []) k ≡ all_tokens w ns (token m w k)
all_tokens_snoc w [] m k = refl
all_tokens_snoc w (n ∷ ns) m k = ap (token n w) (all_tokens_snoc w ns m k)

pub tokens_are : (w : Want) (ns : List ℕ) (s : Symbols) (e : List Event) → said_of (all_wanted w ns ++ s) e ≡ all_tokens w ns (said_of s e)
tokens_are w [] s e = refl
tokens_are w (n ∷ ns) s e = ap (token n w) (tokens_are w ns s e)

pub pointer_before : (kind_of : ℕ → Option Kind) (bytes_of : ℕ → List ℕ) (x : Pointer) (k : Said) → of_pointer kind_of bytes_of x and k ≡ token x.star (want.Mark MARK_STAR) (all_tokens (want.Among slot.Qualifier) x.qualifiers k)
pointer_before kind_of bytes_of x k = same_said (ap (λ (z : Symbols). z ++ k.symbols) (spell.pointer_spelling_lem x)) refl ∙
    ap (token x.star (want.Mark MARK_STAR)) (tokens_are (want.Among slot.Qualifier) x.qualifiers k.symbols k.events)

module _ (kind_of : ℕ → Option Kind) (bytes_of : ℕ → List ℕ) where
  -- ---- Qualifiers (6.7.3), of which this is wanted

  pub record QualifiersAre (w : Want) (start : Open) (q : Qualified) (stop : ℕ) (f : Open) : Type 0 where
    -- The last may be an `_Atomic`, which is a qualifier if no `(` follows.
    pub each_ : (q.atomic ≡ true → IsNoParen kind_of stop) → Every (IsQualifier kind_of) q.words
    pub writes : (k : Said) → f k ≡ start (all_tokens w q.words k)

  -- The tokens of qualifiers are what is wanted.
  pub record SayQualifiers (w : Want) : Type 0 where
    pub plain : Says kind_of bytes_of a_plain_qualifier (λ n. token n w)
    pub atomic : Says kind_of bytes_of (key KEY_ATOMIC ∷ []) (λ n. token n w)

  written : (w : Want) (start f : Open) (ns : List ℕ) → ((k : Said) → f k ≡ start (all_tokens w ns k)) → (n : ℕ) (k : Said) → f (token n w k) ≡ start (all_tokens w (ns ++ n ∷ []) k)
  written w start f ns h n k = h (token n w k) ∙ ap start (sym (all_tokens_snoc w ns n k))

  plus_one : (n : ℕ) → n + 1 ≡ suc n
  plus_one n = omega arith

  module _ (d level : ℕ) (w : Want) (says : SayQualifiers w) (start : Open) where
    pub adds_qualifier : (q : Qualified) (stop : ℕ) (f : Open) → QualifiersAre w start q stop f → Adds kind_of bytes_of (lang.qualifier d level q) stop f (QualifiersAre w start)
    unfolding lang.qualifier lang.plain_qualifier lang.atomic_qualifier
    adds_qualifier q stop f y = adds_or
        (adds_token says.plain (λ n e i.
        let seen = other_key kind_of bytes_of (KEY_CONST ∷ KEY_RESTRICT ∷ KEY_VOLATILE ∷ []) n KEY_ATOMIC refl i in
        adds_pure (with_qualifier q n false) (record {
          each_ = λ h. every_snoc (IsQualifier kind_of) q.words n (y.each_ (λ a. subst (IsNoParen kind_of) e (no_paren refl i))) (λ c. absurd (no_key kind_of bytes_of seen.0 n KEY_ATOMIC seen.1 seen.2 c));
          writes = written w start f q.words y.writes n;
        })))
        (adds_token says.atomic (λ n e i. adds_pure (with_qualifier q n true) (record {
          each_ = λ h. every_snoc (IsQualifier kind_of) q.words n (y.each_ (λ a. subst (IsNoParen kind_of) e (no_paren refl i)))
              (λ c g. h refl (subst (λ (z : ℕ). kind_of z ≡ Some (k.Mark MARK_LEFT_PAREN)) (plus_one n) g));
          writes = written w start f q.words y.writes n;
        })))

    pub adds_all_qualifiers : (q : Qualified) (stop : ℕ) (f : Open) → QualifiersAre w start q stop f → Adds kind_of bytes_of (lang.all_qualifiers d level q) stop f (QualifiersAre w start)
    unfolding lang.all_qualifiers
    adds_all_qualifiers q stop f y = adds_many d {good = QualifiersAre w start} (λ p n g z. adds_qualifier p n g z) q y

    -- One or more.
    pub adds_qualifiers : (stop : ℕ) → Adds kind_of bytes_of (lang.qualifiers d level) stop start (QualifiersAre w start)
    unfolding lang.qualifiers
    adds_qualifiers stop = adds_then (adds_qualifier no_qualifiers stop start (record { each_ = λ h. tt; writes = λ k. refl })) (λ q n f y. adds_all_qualifiers q n f y)

  -- ---- Pointers (6.7.6.1)

  pub pointer_words : SayQualifiers (want.Among slot.Qualifier)
  pointer_words = record {
    plain = says_plain kind_of bytes_of;
    atomic = says_kind kind_of bytes_of (key KEY_ATOMIC ∷ []) (want.Among slot.Qualifier) (λ t kind bytes e. (KEY_ATOMIC, (3, omega arith, refl), key_is KEY_ATOMIC t kind bytes e));
  }

  abbrev pub IsQualified : Pointer → Type 0
  IsQualified pointer = All (IsQualifier kind_of) pointer.qualifiers

  pub record PointersAre (start : Open) (p : Pointing) (stop : ℕ) (f : Open) : Type 0 where
    pub each_ : (p.atomic ≡ true → IsNoParen kind_of stop) → Every IsQualified p.pointers
    pub writes : (k : Said) → f k ≡ start (each (of_pointer kind_of bytes_of) p.pointers k)

  module _ (d level : ℕ) (start : Open) where
    adds_pointer : (p : Pointing) (stop : ℕ) (f : Open) → PointersAre start p stop f → Adds kind_of bytes_of (lang.pointer d level p) stop f (PointersAre start)
    unfolding lang.pointer
    adds_pointer p stop f y = adds_token (says_mark kind_of bytes_of MARK_STAR) (λ s e i.
        adds_then (adds_all_qualifiers d level (want.Among slot.Qualifier) pointer_words (λ k. f (token s (want.Mark MARK_STAR) k)) no_qualifiers (suc s) (λ k. f (token s (want.Mark MARK_STAR) k))
        (record { each_ = λ h. tt; writes = λ k. refl }))
        (λ q n g z. adds_pure (with_pointer p s q) (record {
          each_ = λ h. every_snoc IsQualified p.pointers (record { star = s; qualifiers = q.words }) (y.each_ (λ a. subst (IsNoParen kind_of) e (no_paren refl i))) (all_of (IsQualifier kind_of) q.words (z.each_ h));
          writes = λ k. z.writes k ∙ (y.writes (token s (want.Mark MARK_STAR) (all_tokens (want.Among slot.Qualifier) q.words k)) ∙
              ap start (ap (each (of_pointer kind_of bytes_of) p.pointers) (sym (pointer_before kind_of bytes_of (record { star = s; qualifiers = q.words }) k)) ∙
              sym (law.each_snoc (of_pointer kind_of bytes_of) p.pointers (record { star = s; qualifiers = q.words }) k)));
        })))

    -- One or more.
    pub adds_pointers : (stop : ℕ) → Adds kind_of bytes_of (lang.pointers d level) stop start (PointersAre start)
    unfolding lang.pointers lang.all_pointers
    adds_pointers stop = adds_then (adds_pointer (no_pointers false) stop start (record { each_ = λ h. tt; writes = λ k. refl }))
        (λ p n f y. adds_many d {good = PointersAre start} (λ q m g z. adds_pointer q m g z) p y)
