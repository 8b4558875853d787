-- Tokens of declarations, and the sets of terminals that go on behind their parts.

use Rattle.std.proofs.Common.{◌≡◌, ℕ, Bool, true, false, List, [], ◌∷◌, ◌++◌, refl, sym, ap, ◌∙◌}
use Rattle.c_lexer.specs.declared.token.Kind.{Kind}
use Rattle.c_lexer.specs.declared.keyword.TheConstants.{KEY_ALIGNAS, KEY_ATOMIC, KEY_CONST, KEY_ENUM, KEY_EXTERN}
use Rattle.c_lexer.specs.declared.keyword.TheConstants.{KEY_INLINE, KEY_INT, KEY_REGISTER, KEY_STATIC, KEY_STATIC_ASSERT}
use Rattle.c_lexer.specs.declared.keyword.TheConstants.{KEY_STRUCT, KEY_TYPEDEF, KEY_SIZEOF, KEY_ALIGNOF}
use Rattle.c_lexer.specs.declared.mark.TheConstants.{MARK_LEFT_BRACKET, MARK_RIGHT_BRACKET, MARK_LEFT_PAREN}
use Rattle.c_lexer.specs.declared.mark.TheConstants.{MARK_RIGHT_PAREN, MARK_LEFT_BRACE, MARK_RIGHT_BRACE}
use Rattle.c_lexer.specs.declared.mark.TheConstants.{MARK_COMMA, MARK_COLON, MARK_SEMICOLON, MARK_EQUAL, MARK_DOT}
use Rattle.c_lexer.specs.declared.mark.TheConstants.{MARK_ELLIPSIS, MARK_STAR, MARK_QUESTION}
use Rattle.c_lexer.specs.declared.mark.TheConstants.{MARK_ARROW, MARK_PLUS_PLUS, MARK_PLUS}
use Rattle.c_scopes.specs.Scopes.{OpenScopes, entered}
use Rattle.reading.specs.Terminals.{has}
use Rattle.reading.proofs.ReadBy.{Stage, Nullable, no, IsReadBy}
use Rattle.reading.proofs.ReadOne.{Sample}
use Rattle.c_reading.specs.Kept.{KeptToken}
use Rattle.c_reading.specs.Cursors.{Around, terminal_in}
use Rattle.c_reading.specs.Terminals.{WORD, TYPEDEF_NAME, TEXT, NUMBER, terminal, mark, key}
use Rattle.c_reading.proofs.InScope.{same_terminals}
use Rattle.c_syntax.specs.Scoping.{Part, PartReader, is_typedef_name, terminal_of}
use Rattle.c_syntax.specs.Sets.{a_name, any_name, begins_assign}
use Rattle.c_syntax.proofs.ExpressionsAreRead.{after_assign}
use Rattle.c_syntax.specs.declared.forms.AssignForm.{AssignForm}
use Rattle.c_syntax.specs.declared.forms.AssignForm.TheVariants.{Whole}
use Rattle.c_specifiers.specs.declared.forms.Place.{Place}
use Rattle.c_specifiers.specs.declared.forms.Place.TheVariants.{Parameter, Member, Nameless}
use Rattle.c_specifiers.specs.declared.forms.Naming.{Naming}
use Rattle.c_specifiers.specs.declared.forms.Naming.TheVariants as naming
use Rattle.c_specifiers.specs.declared.forms.Specified.{Specified}
use Rattle.c_specifiers.specs.DeclarationSets.{a_qualifier, begins_specifiers, begins_word, begins_suffix, begins_unnamed, begins_named, begins_designator}
use Rattle.c_specifiers.specs.Inside.{Inside, InsideReaders}
use Rattle.reading.proofs.ReadChanging.{IsFixed}

-- ---- Tokens

-- The terminals of which completions are made.
abbrev pub needed : List ℕ
needed =
    WORD ∷ NUMBER ∷ TEXT ∷ key KEY_SIZEOF ∷ key KEY_ALIGNOF ∷ key KEY_INT ∷ key KEY_ALIGNAS ∷ key KEY_ATOMIC ∷ key KEY_CONST ∷
    key KEY_ENUM ∷ key KEY_EXTERN ∷ key KEY_INLINE ∷ key KEY_REGISTER ∷ key KEY_STATIC ∷ key KEY_STATIC_ASSERT ∷ key KEY_STRUCT ∷ key KEY_TYPEDEF ∷
    mark MARK_LEFT_BRACKET ∷ mark MARK_RIGHT_BRACKET ∷ mark MARK_LEFT_PAREN ∷ mark MARK_RIGHT_PAREN ∷ mark MARK_LEFT_BRACE ∷ mark MARK_RIGHT_BRACE ∷
    mark MARK_COMMA ∷ mark MARK_COLON ∷ mark MARK_SEMICOLON ∷ mark MARK_EQUAL ∷ mark MARK_DOT ∷ mark MARK_ELLIPSIS ∷ mark MARK_STAR ∷
    mark MARK_ARROW ∷ mark MARK_QUESTION ∷ mark MARK_PLUS_PLUS ∷ mark MARK_PLUS ∷ []

-- Tokens that a text can have, of which there is one for each of these terminals.
pub record Tokens : Type 1 where
  pub IsToken : KeptToken → Type 0
  pub token : (kind : Kind) → has needed (terminal kind) ≡ true → KeptToken
  pub is : (kind : Kind) (h : has needed (terminal kind) ≡ true) → IsToken (token kind h)
  pub kind_is : (kind : Kind) (h : has needed (terminal kind) ≡ true) → (token kind h).lexeme.kind ≡ kind

module _ (tokens : Tokens) where
  -- The rule is read exactly by the reader.
  abbrev pub IsRead : Stage → Type 0 → {A : Type 0} → (ℕ → Part A) → PartReader A → Nullable → List ℕ → (A → List ℕ) → Type 0
  IsRead stage given X p null first last = IsReadBy {Around = Around} terminal_of tokens.IsToken stage given X p null first last

  -- A token of the kind, for a set that tells no names apart.
  pub sample : (set : List ℕ) (kind : Kind) → has needed (terminal kind) ≡ true → has set WORD ≡ has set TYPEDEF_NAME → has set (terminal kind) ≡ true →
      (scopes : OpenScopes) → Sample terminal_of tokens.IsToken set scopes
  sample set kind need alike fits scopes =
      let t = tokens.token kind need in record {
        token = t;
        lexeme = tokens.is kind need;
        fits = same_terminals is_typedef_name set alike scopes t ∙ (ap (λ (k : Kind). has set (terminal k)) (tokens.kind_is kind need) ∙ fits);
      }

-- A set that tells no names apart is the same in each scope.
pub fixed : (set : List ℕ) → has set WORD ≡ has set TYPEDEF_NAME → IsFixed terminal_of set
fixed set alike scope scope' t = same_terminals is_typedef_name set alike scope t ∙ sym (same_terminals is_typedef_name set alike scope' t)

-- Where a scope begins no name is declared anew.
pub same_entered : (scopes : OpenScopes) (t : KeptToken) → terminal_of (entered scopes) t ≡ terminal_of scopes t
unfolding terminal_in is_typedef_name
same_entered scopes t = refl

-- ---- First sets

abbrev pub begins_group : Naming → List ℕ
begins_group naming.Named = mark MARK_STAR ∷ begins_named false
begins_group naming.Abstract = mark MARK_STAR ∷ begins_unnamed false
begins_group naming.Either = mark MARK_STAR ∷ a_name ++ begins_unnamed false

abbrev pub begins_member : List ℕ
begins_member = key KEY_STATIC_ASSERT ∷ begins_specifiers Member

abbrev pub begins_init : List ℕ
begins_init = mark MARK_LEFT_BRACE ∷ begins_assign Whole

abbrev pub begins_item : List ℕ
begins_item = begins_designator ++ begins_init

-- ---- What goes on behind a part

abbrev pub nothing : {A : Type 0} → A → List ℕ
nothing a = []

abbrev pub brace : List ℕ
brace = mark MARK_LEFT_BRACE ∷ []

abbrev pub paren : List ℕ
paren = mark MARK_LEFT_PAREN ∷ []

-- A qualifier `_Atomic` goes on as a type specifier.
abbrev pub paren_if : Bool → List ℕ
paren_if true = paren
paren_if false = []

abbrev pub after_word : Specified → List ℕ
after_word specified = mark MARK_LEFT_BRACE ∷ paren_if specified.atomic

abbrev pub after_specifiers : Place → Specified → List ℕ
after_specifiers place specified = after_word specified ++ begins_word place

abbrev pub after_enumerator : List ℕ
after_enumerator = mark MARK_EQUAL ∷ after_assign

abbrev pub after_pointers : List ℕ
after_pointers = mark MARK_STAR ∷ a_qualifier

abbrev pub after_abstract : List ℕ
after_abstract = after_pointers ++ begins_suffix

abbrev pub after_either : List ℕ
after_either = any_name ++ after_abstract

abbrev pub after_param : List ℕ
after_param = brace ++ paren ++ begins_word Parameter ++ after_either

abbrev pub after_type_name : List ℕ
after_type_name = brace ++ paren ++ begins_word Nameless ++ after_abstract

-- ---- What stands in brackets

pub record InsideAreRead (tokens : Tokens) (stage : Stage) (given : Type 0) (inside : ℕ → Inside) (readers : InsideReaders) : Type 0 where
  pub assign : (form : AssignForm) → IsRead tokens stage given (λ d. (inside d).assign form) (readers.assign form) no (begins_assign form) (λ a. after_assign)
  pub type_name : IsRead tokens stage given (λ d. (inside d).type_name) readers.type_name no (begins_specifiers Nameless) (λ a. after_type_name)
  pub param : IsRead tokens stage given (λ d. (inside d).param) readers.param no (begins_specifiers Parameter) (λ a. after_param)
  pub member : IsRead tokens stage given (λ d. (inside d).member) readers.member no begins_member (λ a. [])
  pub group : (naming : Naming) → IsRead tokens stage given (λ d. (inside d).group naming) (readers.group naming) no (begins_group naming) (λ a. after_either)
  pub item : IsRead tokens stage given (λ d. (inside d).item) readers.item no begins_item (λ a. after_assign)
