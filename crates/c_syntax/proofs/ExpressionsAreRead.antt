-- Expressions are read exactly (C11 6.5), a term a rule.

use Rattle.std.proofs.Common.{◌≡◌, inl, inr, ℕ, suc, ◌-◌, ◌<◌, Bool, true, false, List, [], ◌∷◌, ◌++◌, refl, sym, ap, subst, append-nil, arith}
use Rattle.c_lexer.specs.declared.token.Kind.TheVariants.{Word, Key, Number, Text, Mark}
use Rattle.c_lexer.specs.declared.keyword.TheConstants.{KEY_SIZEOF, KEY_ALIGNOF}
use Rattle.c_lexer.specs.declared.mark.TheConstants.{MARK_LEFT_BRACKET, MARK_RIGHT_BRACKET}
use Rattle.c_lexer.specs.declared.mark.TheConstants.{MARK_LEFT_PAREN, MARK_RIGHT_PAREN}
use Rattle.c_lexer.specs.declared.mark.TheConstants.{MARK_LEFT_BRACE, MARK_RIGHT_BRACE}
use Rattle.c_lexer.specs.declared.mark.TheConstants.{MARK_DOT, MARK_ARROW, MARK_COMMA, MARK_EQUAL}
use Rattle.c_lexer.specs.declared.mark.TheConstants.{MARK_QUESTION, MARK_COLON, MARK_STAR, MARK_PLUS_PLUS, MARK_PLUS}
use Rattle.c_tree.specs.declared.tree.TypeName.{TypeName}
use Rattle.c_tree.specs.declared.tree.Assign.{Assign}
use Rattle.c_tree.specs.declared.tree.Prefixed.{Prefixed}
use Rattle.c_tree.specs.declared.tree.Prefix.{Prefix}
use Rattle.c_tree.specs.declared.tree.BaseForm.TheVariants as form
use Rattle.c_tree.specs.declared.tree.Post.{Post}
use Rattle.c_tree.specs.declared.tree.Post.TheVariants as post
use Rattle.c_scopes.specs.Scopes.{OpenScopes}
use Rattle.reading.specs.declared.turn.Turn.{Turn}
use Rattle.reading.specs.declared.turn.Turn.TheVariants.{Again, Done}
use Rattle.reading.specs.Terminals.{is_within, are_disjoint}
use Rattle.reading.specs.Languages.{Leveled}
use Rattle.reading.specs.Rules.{◌or◌, pure}
use Rattle.reading.specs.Readers as reader
use Rattle.reading.specs.Readers.{branch, and_then}
use Rattle.reading.proofs.Sets.{within_itself, disjoint_part}
use Rattle.reading.proofs.ReadBy.{Stage, Nullable, no, keeping, read_pure, read_weaker, read_given}
use Rattle.reading.proofs.ReadOne.{HasRoom, room_inside}
use Rattle.reading.proofs.ReadThen.{goes_on, read_then, read_then_at, read_join, read_token, read_map}
use Rattle.reading.proofs.ReadEither.{read_either, read_chosen, read_optional}
use Rattle.reading.proofs.ReadSteps.{read_many, read_many_tokens}
use Rattle.reading.proofs.ReadTurns.{Ending, by_turn, read_repeat}
use Rattle.reading.proofs.ReadGuarded.{read_guarded}
use Rattle.c_reading.specs.Terminals.{TEXT, mark, key}
use Rattle.c_reading.specs.Kept.{KeptToken}
use Rattle.c_reading.specs.Cursors.{number_of}
use Rattle.c_syntax.specs.declared.forms.Parts.{Parts}
use Rattle.c_syntax.specs.declared.forms.Items.{Items}
use Rattle.c_syntax.specs.declared.forms.Arms.{Arms}
use Rattle.c_syntax.specs.declared.forms.Begun.{Begun}
use Rattle.c_syntax.specs.declared.forms.Mode.{Mode}
use Rattle.c_syntax.specs.declared.forms.Mode.TheVariants.{Cast, Literal, Size}
use Rattle.c_syntax.specs.declared.forms.Chain.{Chain}
use Rattle.c_syntax.specs.declared.forms.Found.{Found}
use Rattle.c_syntax.specs.declared.forms.Found.TheVariants.{Operand, Sized}
use Rattle.c_syntax.specs.Scoping.{Part, terminal_of}
use Rattle.c_syntax.specs.Sets.{a_name, any_name, a_constant, a_step, a_unary, a_binary, a_type, a_suffix, an_assignment}
use Rattle.c_syntax.specs.Forms.{one_part, with_part, expr_of, call_of, one_item, with_item, with_mark, compound_of, flushed, chain_start, with_op, with_size, with_cast}
use Rattle.c_syntax.specs.Forms.{prefixed_of, is_target, begun_of, binary_of, arms_start, with_arm, assign_of}
use Rattle.c_syntax.specs.ExpressionRules as lang
use Rattle.c_syntax.specs.ExpressionReaders as read
use Rattle.c_syntax.proofs.Readings.{Tokens, IsRead, sample}
use Rattle.c_syntax.specs.Inner.{Inner, InnerReaders}
use Rattle.c_lexer.specs.declared.keyword.TheConstants.{KEY_ATOMIC}
use Rattle.c_syntax.specs.declared.forms.AssignForm.{AssignForm}
use Rattle.c_syntax.specs.declared.forms.AssignForm.TheVariants.{Whole, Constant, Unstarred, Bare, Behind}
use Rattle.c_syntax.specs.Sets.{other_unary, begins_specifier, a_plain_qualifier, begins_assign, an_item}

-- ---- First sets, and what goes on behind a part

abbrev pub begins_operand : List ℕ
begins_operand = begins_assign Whole

abbrev brace : List ℕ
brace = mark MARK_LEFT_BRACE ∷ []

abbrev after_form : List ℕ
after_form = TEXT ∷ brace

abbrev after_operand : List ℕ
after_operand = a_suffix ++ after_form

abbrev after_binary : List ℕ
after_binary = a_binary ++ after_operand

abbrev after_cond : List ℕ
after_cond = mark MARK_QUESTION ∷ after_binary

abbrev after_target : List ℕ
after_target = an_assignment ++ after_operand

abbrev pub after_assign : List ℕ
after_assign = an_assignment ++ after_cond

abbrev pub after_expr : List ℕ
after_expr = mark MARK_COMMA ∷ after_assign

-- Behind a type name.
abbrev pub after_type : List ℕ
after_type =
    brace ++ (mark MARK_LEFT_PAREN ∷ []) ++ (key KEY_ATOMIC ∷ begins_specifier ++ a_plain_qualifier) ++
    (mark MARK_STAR ∷ a_plain_qualifier ++ key KEY_ATOMIC ∷ []) ++ mark MARK_LEFT_BRACKET ∷ mark MARK_LEFT_PAREN ∷ []

abbrev nothing : {A : Type 0} → A → List ℕ
nothing a = []

-- What goes on behind a link of an operand.
abbrev after_link : Turn Chain Found → List ℕ
after_link = by_turn brace (λ found. after_form)

-- What stands in brackets is read exactly. Type names and items may begin with fewer tokens than those
-- of declarations do.
pub record InnerAreRead (tokens : Tokens) (stage : Stage) (given : Type 0) (inner : ℕ → Inner) (readers : InnerReaders) : Type 0 where
  pub begins_type : List ℕ
  pub begins_item : List ℕ
  pub types : is_within begins_type a_type ≡ true
  pub items : is_within begins_item an_item ≡ true
  pub assign : IsRead tokens stage given (λ d. (inner d).assign) readers.assign no begins_operand (λ a. after_assign)
  pub type_name : IsRead tokens stage given (λ d. (inner d).type_name) readers.type_name no begins_type (λ a. after_type)
  pub item : IsRead tokens stage given (λ d. (inner d).item) readers.item no begins_item (λ a. after_assign)

module _ (tokens : Tokens) where
  -- ---- Assignment expressions and commas (6.5.17)

  module _ {stage : Stage} {level : ℕ} (room : ℕ) (fits : HasRoom stage level (room - 1)) (inner : ℕ → Part Assign) (read_inner : InnerReaders)
      {holds : Type 0} (there : 0 < room - 1 → holds) (ri : IsRead tokens stage holds inner read_inner.assign no begins_operand (λ a. after_assign)) where
    all_parts_are_read : {given : Type 0} (parts : Parts) →
        IsRead tokens stage given (λ d. lang.all_parts d level (inner d) parts) (read.all_parts room read_inner parts) keeping (mark MARK_COMMA ∷ []) (λ a. after_expr)
    unfolding lang.all_parts lang.more_parts read.all_parts read.more_parts
    all_parts_are_read parts =
        read_many_tokens number_of after_assign after_expr fits (sample tokens (mark MARK_COMMA ∷ []) (Mark MARK_COMMA) refl refl refl)
        (λ s comma. read_map (with_part s comma) (λ b. after_assign) (read_given there ri) (λ a. refl)) refl refl refl parts

    pub parts_are_read : (marks : List ℕ) → IsRead tokens stage holds (λ d. lang.parts d level (inner d) marks) (read.parts room read_inner marks) no begins_operand (λ a. after_expr)
    unfolding lang.parts read.parts
    parts_are_read marks = read_then (λ b. after_expr) ri (λ a. all_parts_are_read (one_part a marks)) (λ a. refl) (λ b. refl) (λ a b. refl)

    pub inner_expr_is_read : IsRead tokens stage holds (λ d. lang.inner_expr d level (inner d)) (read.inner_expr room read_inner) no begins_operand (λ a. after_expr)
    unfolding lang.inner_expr read.inner_expr
    inner_expr_is_read = read_map expr_of (λ b. after_expr) (parts_are_read []) (λ p. refl)

  module _ {stage : Stage} {level room : ℕ} (fits : HasRoom stage level room) where
    more_texts_are_read : {given : Type 0} (texts : List ℕ) →
        IsRead tokens stage given (λ d. lang.more_texts d level texts) (read.more_texts room texts) keeping (TEXT ∷ []) (λ a. TEXT ∷ [])
    unfolding lang.more_texts lang.one_more_text read.more_texts read.one_more_text
    more_texts_are_read texts =
        read_many_tokens number_of [] (TEXT ∷ []) fits (sample tokens (TEXT ∷ []) Text refl refl refl) (λ s n. read_pure (s ++ n ∷ [])) refl refl refl texts

  -- ---- Tokens of a level, with assignment expressions one level deeper

  module _ {stage : Stage} {level room : ℕ} (fits : HasRoom stage level room) (inner : ℕ → Inner) (read_inner : InnerReaders)
      (rs : InnerAreRead tokens stage (0 < room) inner read_inner) where
    items_apart : (set : List ℕ) → are_disjoint an_item set ≡ true → are_disjoint rs.begins_item set ≡ true
    items_apart set h = disjoint_part rs.begins_item an_item set rs.items h

    deeper : HasRoom stage (suc level) (room - 1)
    deeper = room_inside fits

    there : 0 < room - 1 → 0 < room
    there h = omega arith

    inside_parts : (marks : List ℕ) → IsRead tokens stage (0 < room) (λ d. lang.parts d (suc level) ((inner d).assign) marks) (read.parts room read_inner marks) no begins_operand (λ a. after_expr)
    inside_parts marks = parts_are_read room deeper (λ d. (inner d).assign) read_inner there rs.assign marks

    inside : IsRead tokens stage (0 < room) (λ d. lang.inner_expr d (suc level) ((inner d).assign)) (read.inner_expr room read_inner) no begins_operand (λ a. after_expr)
    inside = inner_expr_is_read room deeper (λ d. (inner d).assign) read_inner there rs.assign

    -- ---- Suffixes (6.5.2)

    index_is_read : {given : Type 0} → IsRead tokens stage given (λ d. lang.index d level (inner d)) (read.index room read_inner) no (mark MARK_LEFT_BRACKET ∷ []) nothing
    unfolding lang.index read.index
    index_is_read =
        read_token deeper (sample tokens (mark MARK_LEFT_BRACKET ∷ []) (Mark MARK_LEFT_BRACKET) refl refl refl)
        (λ l. read_then nothing (read_given there inside)
        (λ e. read_token deeper (sample tokens (mark MARK_RIGHT_BRACKET ∷ []) (Mark MARK_RIGHT_BRACKET) refl refl refl) (λ r. read_pure (post.Index e (l ∷ r ∷ []))))
        (λ a. refl) (λ b. refl) (λ a b. refl))

    no_arguments_are_read : {given : Type 0} (l : ℕ) → IsRead tokens stage given (λ d. lang.no_arguments d level (inner d) l) (read.no_arguments room read_inner l) no (mark MARK_RIGHT_PAREN ∷ []) nothing
    unfolding lang.no_arguments read.no_arguments
    no_arguments_are_read l =
        read_token deeper (sample tokens (mark MARK_RIGHT_PAREN ∷ []) (Mark MARK_RIGHT_PAREN) refl refl refl) (λ r. read_pure (post.Call [] (l ∷ r ∷ [])))

    some_arguments_are_read : (l : ℕ) → IsRead tokens stage (0 < room - 1) (λ d. lang.some_arguments d level (inner d) l) (read.some_arguments room read_inner l) no begins_operand nothing
    unfolding lang.some_arguments read.some_arguments
    some_arguments_are_read l =
        read_then nothing (read_given there (inside_parts (l ∷ [])))
        (λ p. read_token deeper (sample tokens (mark MARK_RIGHT_PAREN ∷ []) (Mark MARK_RIGHT_PAREN) refl refl refl) (λ r. read_pure (call_of p r))) (λ a. refl) (λ b. refl) (λ a b. refl)

    call_is_read : {given : Type 0} → IsRead tokens stage given (λ d. lang.call d level (inner d)) (read.call room read_inner) no (mark MARK_LEFT_PAREN ∷ []) nothing
    unfolding lang.call read.call
    call_is_read =
        read_token deeper (sample tokens (mark MARK_LEFT_PAREN ∷ []) (Mark MARK_LEFT_PAREN) refl refl refl) (λ l. read_either (no_arguments_are_read l) (some_arguments_are_read l) refl)

    dot_is_read : {given : Type 0} → IsRead tokens stage given (λ d. lang.dot d level (inner d)) (read.dot room read_inner) no (mark MARK_DOT ∷ []) nothing
    unfolding lang.dot read.dot
    dot_is_read =
        read_token fits (sample tokens (mark MARK_DOT ∷ []) (Mark MARK_DOT) refl refl refl)
        (λ m. read_token fits (sample tokens any_name Word refl refl refl) (λ n. read_pure (post.Dot n (m ∷ []))))

    arrow_is_read : {given : Type 0} → IsRead tokens stage given (λ d. lang.arrow d level (inner d)) (read.arrow room read_inner) no (mark MARK_ARROW ∷ []) nothing
    unfolding lang.arrow read.arrow
    arrow_is_read =
        read_token fits (sample tokens (mark MARK_ARROW ∷ []) (Mark MARK_ARROW) refl refl refl)
        (λ m. read_token fits (sample tokens any_name Word refl refl refl) (λ n. read_pure (post.Arrow n (m ∷ []))))

    step_is_read : {given : Type 0} → IsRead tokens stage given (λ d. lang.step d level (inner d)) (read.step room read_inner) no a_step nothing
    unfolding lang.step read.step
    step_is_read = read_token fits (sample tokens a_step (Mark MARK_PLUS_PLUS) refl refl refl) (λ n. read_pure (post.Step n))

    suffix_is_read : {given : Type 0} → IsRead tokens stage given (λ d. lang.suffix d level (inner d)) (read.suffix room read_inner) no a_suffix nothing
    unfolding lang.suffix read.suffix
    suffix_is_read = read_either index_is_read (read_either call_is_read (read_either dot_is_read (read_either arrow_is_read step_is_read refl) refl) refl) refl

    more_suffixes_are_read : {given : Type 0} (suffixes : List Post) →
        IsRead tokens stage given (λ d. lang.more_suffixes d level (inner d) suffixes) (read.more_suffixes room read_inner suffixes) no a_suffix nothing
    unfolding lang.more_suffixes read.more_suffixes
    more_suffixes_are_read suffixes = read_map (λ p. suffixes ++ p ∷ []) nothing suffix_is_read (λ a. refl)

    -- ---- Compound literals (6.5.2.5)

    last_item_is_read : {given : Type 0} (items : Items) →
        IsRead tokens stage given (λ d. lang.last_item d level (inner d) items) (read.last_item room read_inner items) no (mark MARK_RIGHT_BRACE ∷ []) (by_turn after_assign nothing)
    unfolding lang.last_item read.last_item
    last_item_is_read items =
        read_weaker (by_turn after_assign nothing) (λ g. g) (λ a. refl)
        (read_token deeper (sample tokens (mark MARK_RIGHT_BRACE ∷ []) (Mark MARK_RIGHT_BRACE) refl refl refl) (λ r. read_pure (Done (with_mark items r))))

    next_item_is_read : (items : Items) (comma : ℕ) →
        IsRead tokens stage (0 < room - 1) (λ d. lang.next_item d level (inner d) items comma) (read.next_item room read_inner items comma) no rs.begins_item (by_turn after_assign nothing)
    unfolding lang.next_item read.next_item
    next_item_is_read items comma = read_map (λ a. Again (with_item items comma a)) (by_turn after_assign nothing) (read_given there rs.item) (λ a. refl)

    comma_item_is_read : {given : Type 0} (items : Items) →
        IsRead tokens stage given (λ d. lang.comma_item d level (inner d) items) (read.comma_item room read_inner items) no (mark MARK_COMMA ∷ []) (by_turn after_assign nothing)
    unfolding lang.comma_item read.comma_item
    comma_item_is_read items =
        read_token deeper (sample tokens (mark MARK_COMMA ∷ []) (Mark MARK_COMMA) refl refl refl)
        (λ m. read_either (last_item_is_read (with_mark items m)) (next_item_is_read items m) (items_apart (mark MARK_RIGHT_BRACE ∷ []) refl))

    item_is_read : {given : Type 0} (items : Items) →
        IsRead tokens stage given (λ d. lang.item d level (inner d) items) (read.item room read_inner items) no (mark MARK_COMMA ∷ mark MARK_RIGHT_BRACE ∷ []) (by_turn after_assign nothing)
    unfolding lang.item read.item
    item_is_read items = read_either (comma_item_is_read items) (last_item_is_read items) refl

    item_ends : (items : Items) (scopes : OpenScopes) → Ending tokens.IsToken (λ d. lang.item d level (inner d) items) scopes
    unfolding lang.item lang.last_item
    item_ends items scopes =
        let t = sample tokens (mark MARK_RIGHT_BRACE ∷ []) (Mark MARK_RIGHT_BRACE) refl refl refl scopes in record {
          word = (t.token, suc level) ∷ [];
          value = with_mark items t.token.number;
          scope' = scopes;
          turns = 0;
          lexemes = (t.lexeme, tt);
          is = λ n h. inr (record {
            front = (t.token, suc level) ∷ [];
            back = [];
            value = (t.token.number, scopes);
            split = refl;
            begin = record { token = t.token; is = refl; fits = t.fits; value = refl };
            rest = record { none = refl; same = refl };
          });
        }

    all_items_are_read : {given : Type 0} (items : Items) →
        IsRead tokens stage given (λ d. lang.all_items d level (inner d) items) (read.all_items room read_inner items) no (mark MARK_COMMA ∷ mark MARK_RIGHT_BRACE ∷ []) nothing
    unfolding lang.all_items read.all_items
    all_items_are_read items = read_repeat after_assign nothing item_is_read refl item_ends items

    compound_is_read : {given : Type 0} (named : TypeName) (marks : List ℕ) →
        IsRead tokens stage given (λ d. lang.compound d level (inner d) named marks) (read.compound room read_inner named marks) no brace nothing
    unfolding lang.compound read.compound
    compound_is_read named marks =
        read_token deeper (sample tokens brace (Mark MARK_LEFT_BRACE) refl refl refl)
        (λ b. read_then nothing (read_given there rs.item)
        (λ a. read_map (compound_of named) nothing (all_items_are_read (one_item a (marks ++ b ∷ []))) (λ i. refl))
        (λ a. refl) (λ i. refl) (λ a i. refl))

    -- ---- Operands and what stands before them (6.5.3, 6.5.4)

    with_compound_is_read : {given : Type 0} (prefixes : List Prefix) (named : TypeName) (marks : List ℕ) →
        IsRead tokens stage given (λ d. lang.with_compound d level (inner d) prefixes named marks) (read.with_compound room read_inner prefixes named marks) no brace after_link
    unfolding lang.with_compound read.with_compound
    with_compound_is_read prefixes named marks = read_map (λ f. Done (Operand prefixes f)) after_link (compound_is_read named marks) (λ a. refl)

    -- A compound literal, or nothing.
    maybe_compound_is_read : {given : Type 0} (prefixes : List Prefix) (named : TypeName) (marks : List ℕ) (r : Turn Chain Found) → is_within brace (after_link r) ≡ true →
        IsRead tokens stage given (λ d. lang.with_compound d level (inner d) prefixes named marks or pure r)
        (branch terminal_of brace (read.with_compound room read_inner prefixes named marks) (reader.pure r)) keeping brace after_link
    maybe_compound_is_read prefixes named marks r goes =
        read_optional after_link r (with_compound_is_read prefixes named marks) (λ a. within_itself (after_link a)) goes

    abbrev null_typed : Mode → Nullable
    null_typed Cast = keeping
    null_typed Literal = no
    null_typed (Size n) = keeping

    typed_at_is_read : {given : Type 0} (chain : Chain) (named : TypeName) (marks : List ℕ) (mode : Mode) →
        IsRead tokens stage given (λ d. lang.typed_at d level (inner d) chain named marks mode) (read.typed_at room read_inner chain named marks mode) (null_typed mode) brace after_link
    typed_at_is_read chain named marks Cast = maybe_compound_is_read chain.prefixes named marks (Again (with_cast chain.prefixes named marks)) refl
    typed_at_is_read chain named marks Literal = with_compound_is_read chain.prefixes named marks
    typed_at_is_read chain named marks (Size n) =
        maybe_compound_is_read (flushed (Size n) chain.prefixes) named marks (Done (Sized chain.prefixes (form.SizeType n named marks))) refl

    typed_is_read : (chain : Chain) (l : ℕ) → IsRead tokens stage (0 < room - 1) (λ d. lang.typed d level (inner d) chain l) (read.typed room read_inner chain l) no rs.begins_type after_link
    unfolding lang.typed read.typed
    typed_is_read chain l =
        read_then after_link (read_given there rs.type_name)
        (λ t. read_token deeper (sample tokens (mark MARK_RIGHT_PAREN ∷ []) (Mark MARK_RIGHT_PAREN) refl refl refl) (λ r. typed_at_is_read chain t (l ∷ r ∷ []) chain.mode))
        (λ a. refl) (λ b. within_itself (after_link b)) (λ a b. refl)

    grouped_is_read : (chain : Chain) (l : ℕ) → IsRead tokens stage (0 < room - 1) (λ d. lang.grouped d level (inner d) chain l) (read.grouped room read_inner chain l) no begins_operand after_link
    unfolding lang.grouped read.grouped
    grouped_is_read chain l =
        read_then after_link (read_given there inside)
        (λ e. read_token deeper (sample tokens (mark MARK_RIGHT_PAREN ∷ []) (Mark MARK_RIGHT_PAREN) refl refl refl)
        (λ r. read_pure (Done (Operand (flushed chain.mode chain.prefixes) (form.Group e (l ∷ r ∷ [])))))) (λ a. refl) (λ b. refl) (λ a b. refl)

    paren_is_read : {given : Type 0} (chain : Chain) → IsRead tokens stage given (λ d. lang.paren d level (inner d) chain) (read.paren room read_inner chain) no (mark MARK_LEFT_PAREN ∷ []) after_link
    unfolding lang.paren read.paren
    paren_is_read chain =
        read_token deeper (sample tokens (mark MARK_LEFT_PAREN ∷ []) (Mark MARK_LEFT_PAREN) refl refl refl) (λ l. read_chosen a_type (typed_is_read chain l) (grouped_is_read chain l) rs.types refl)

    aligned_is_read : {given : Type 0} (chain : Chain) → IsRead tokens stage given (λ d. lang.aligned d level (inner d) chain) (read.aligned room read_inner chain) no (key KEY_ALIGNOF ∷ []) after_link
    unfolding lang.aligned read.aligned
    aligned_is_read chain =
        read_token fits (sample tokens (key KEY_ALIGNOF ∷ []) (Key KEY_ALIGNOF) refl refl refl)
        (λ n. read_token deeper (sample tokens (mark MARK_LEFT_PAREN ∷ []) (Mark MARK_LEFT_PAREN) refl refl refl)
        (λ l. read_then after_link (read_given there rs.type_name)
        (λ t. read_token deeper (sample tokens (mark MARK_RIGHT_PAREN ∷ []) (Mark MARK_RIGHT_PAREN) refl refl refl)
        (λ r. read_pure (Done (Sized (flushed chain.mode chain.prefixes) (form.SizeType n t (l ∷ r ∷ [])))))) (λ a. refl) (λ b. refl) (λ a b. refl)))

    operator_is_read : {given : Type 0} (chain : Chain) → IsRead tokens stage given (λ d. lang.operator d level (inner d) chain) (read.operator room read_inner chain) no a_unary after_link
    unfolding lang.operator read.operator
    operator_is_read chain =
        read_weaker after_link (λ g. g) (λ a. refl)
        (read_token fits (sample tokens a_unary (Mark MARK_STAR) refl refl refl) (λ n. read_pure (Again (with_op chain n Cast))))

    stepped_is_read : {given : Type 0} (chain : Chain) → IsRead tokens stage given (λ d. lang.stepped d level (inner d) chain) (read.stepped room read_inner chain) no a_step after_link
    unfolding lang.stepped read.stepped
    stepped_is_read chain =
        read_weaker after_link (λ g. g) (λ a. refl)
        (read_token fits (sample tokens a_step (Mark MARK_PLUS_PLUS) refl refl refl) (λ n. read_pure (Again (with_op chain n Literal))))

    sized_is_read : {given : Type 0} (chain : Chain) → IsRead tokens stage given (λ d. lang.sized d level (inner d) chain) (read.sized room read_inner chain) no (key KEY_SIZEOF ∷ []) after_link
    unfolding lang.sized read.sized
    sized_is_read chain =
        read_weaker after_link (λ g. g) (λ a. refl)
        (read_token fits (sample tokens (key KEY_SIZEOF ∷ []) (Key KEY_SIZEOF) refl refl refl) (λ n. read_pure (Again (with_size chain n))))

    constant_is_read : {given : Type 0} (chain : Chain) → IsRead tokens stage given (λ d. lang.constant d level (inner d) chain) (read.constant room read_inner chain) no a_constant after_link
    unfolding lang.constant read.constant
    constant_is_read chain =
        read_weaker after_link (λ g. g) (λ a. refl)
        (read_token fits (sample tokens a_constant Number refl refl refl) (λ n. read_pure (Done (Operand (flushed chain.mode chain.prefixes) (form.Literal (n ∷ []))))))

    text_is_read : {given : Type 0} (chain : Chain) → IsRead tokens stage given (λ d. lang.text d level (inner d) chain) (read.text room read_inner chain) no (TEXT ∷ []) after_link
    unfolding lang.text read.text
    text_is_read chain =
        read_token fits (sample tokens (TEXT ∷ []) Text refl refl refl)
        (λ n. read_map (λ ns. Done (Operand (flushed chain.mode chain.prefixes) (form.Literal ns))) after_link (more_texts_are_read fits (n ∷ [])) (λ a. refl))

    -- A name, or a constant or string literal: the name is asked for only where it stands.
    primary_is_read : {given : Type 0} (chain : Chain) →
        IsRead tokens stage given (λ d. lang.name d level (inner d) chain or lang.constant d level (inner d) chain or lang.text d level (inner d) chain)
        (branch terminal_of a_name (read.name room read_inner chain) (branch terminal_of a_constant (read.constant room read_inner chain) (read.text room read_inner chain)))
        no (a_name ++ a_constant ++ (TEXT ∷ [])) after_link
    unfolding lang.name read.name
    primary_is_read chain =
        read_guarded a_name number_of after_link fits (λ n. read_pure (Done (Operand (flushed chain.mode chain.prefixes) (form.Name n)))) (read_either (constant_is_read chain) (text_is_read chain) refl) refl
        (λ a. refl) (λ a. within_itself (after_link a)) (λ d scopes end y. refl)

    link_is_read : {given : Type 0} (chain : Chain) → IsRead tokens stage given (λ d. lang.link d level (inner d) chain) (read.link room read_inner chain) no begins_operand after_link
    unfolding lang.link read.link
    link_is_read chain =
        read_either (operator_is_read chain) (read_either (stepped_is_read chain) (read_either (sized_is_read chain) (read_either (aligned_is_read chain)
        (read_either (paren_is_read chain) (primary_is_read chain) refl) refl) refl) refl) refl

    link_ends : (chain : Chain) (scopes : OpenScopes) → Ending tokens.IsToken (λ d. lang.link d level (inner d) chain) scopes
    unfolding lang.link lang.constant
    link_ends chain scopes =
        let t = sample tokens a_constant Number refl refl refl scopes in record {
          word = (t.token, level) ∷ [];
          value = Operand (flushed chain.mode chain.prefixes) (form.Literal (t.token.number ∷ []));
          scope' = scopes;
          turns = 0;
          lexemes = (t.lexeme, tt);
          is = λ n h. inr (inr (inr (inr (inr (inr (inl (record {
            front = (t.token, level) ∷ [];
            back = [];
            value = (t.token.number, scopes);
            split = refl;
            begin = record { token = t.token; is = refl; fits = t.fits; value = refl };
            rest = record { none = refl; same = refl };
          })))))));
        }

    links_are_read : {given : Type 0} (chain : Chain) → IsRead tokens stage given (λ d. lang.links d level (inner d) chain) (read.links room read_inner chain) no begins_operand (λ a. after_form)
    unfolding lang.links read.links
    links_are_read chain = read_repeat brace (λ found. after_form) link_is_read refl link_ends chain

    all_suffixes_are_read : {given : Type 0} → IsRead tokens stage given (λ d. lang.all_suffixes d level (inner d)) (read.all_suffixes room read_inner) keeping a_suffix (λ a. a_suffix)
    unfolding lang.all_suffixes read.all_suffixes
    all_suffixes_are_read = read_many [] a_suffix more_suffixes_are_read refl refl refl []

    abbrev first_finished : Found → List ℕ
    first_finished (Operand prefixes base) = a_suffix
    first_finished (Sized prefixes base) = []

    finished_is_read : {given : Type 0} (found : Found) → IsRead tokens stage given (λ d. lang.finished d level (inner d) found) (read.finished room read_inner found) keeping (first_finished found) (λ a. a_suffix)
    finished_is_read (Operand prefixes base) = read_map (prefixed_of prefixes base) (λ a. a_suffix) all_suffixes_are_read (λ a. refl)
    finished_is_read (Sized prefixes base) = read_weaker (λ a. a_suffix) (λ g. g) (λ a. refl) (read_pure (prefixed_of prefixes base []))

    form_apart : (found : Found) → are_disjoint after_form (first_finished found) ≡ true
    form_apart (Operand prefixes base) = refl
    form_apart (Sized prefixes base) = refl

    prefixed_is_read : {given : Type 0} → IsRead tokens stage given (λ d. lang.prefixed d level (inner d)) (read.prefixed room read_inner) no begins_operand (λ a. after_operand)
    unfolding lang.prefixed read.prefixed
    prefixed_is_read = read_then (λ b. after_operand) (links_are_read chain_start) finished_is_read form_apart (λ b. refl) (λ a b. refl)

    -- ---- Operators (6.5.5 to 6.5.16)

    all_operands_are_read : {given : Type 0} → IsRead tokens stage given (λ d. lang.all_operands d level (inner d)) (read.all_operands room read_inner) keeping a_binary (λ a. after_binary)
    unfolding lang.all_operands lang.more_operands read.all_operands read.more_operands
    all_operands_are_read =
        read_many_tokens number_of after_operand after_binary fits (sample tokens a_binary (Mark MARK_STAR) refl refl refl)
        (λ rest n. read_map (λ p. rest ++ (n, p) ∷ []) (λ b. after_operand) prefixed_is_read (λ a. refl)) refl refl refl []

    binary_is_read : {given : Type 0} (first : Prefixed) → IsRead tokens stage given (λ d. lang.binary d level (inner d) first) (read.binary room read_inner first) keeping a_binary (λ a. after_binary)
    unfolding lang.binary read.binary
    binary_is_read first = read_map (binary_of first) (λ b. after_binary) all_operands_are_read (λ a. refl)

    all_arms_are_read : {given : Type 0} (arms : Arms) →
        IsRead tokens stage given (λ d. lang.all_arms d level (inner d) arms) (read.all_arms room read_inner arms) keeping (mark MARK_QUESTION ∷ []) (λ a. after_cond)
    unfolding lang.all_arms lang.more_arms read.all_arms read.more_arms
    all_arms_are_read arms =
        read_many_tokens number_of after_binary after_cond fits (sample tokens (mark MARK_QUESTION ∷ []) (Mark MARK_QUESTION) refl refl refl)
        (λ s q. read_then (λ b. after_binary) inside
        (λ e. read_token deeper (sample tokens (mark MARK_COLON ∷ []) (Mark MARK_COLON) refl refl refl)
        (λ c. read_then (λ b. after_binary) prefixed_is_read
        (λ p. read_map (with_arm s e (q ∷ c ∷ [])) (λ b. after_binary) (binary_is_read p) (λ b. refl)) (λ a. refl) (λ b. refl) (λ a b. refl)))
        (λ a. refl) (λ b. refl) (λ a b. refl))
        refl refl refl arms

    -- ---- Targets (6.5.16)

    abbrev first_target : Bool → List ℕ
    first_target true = an_assignment
    first_target false = []

    target_at_is_read : {given : Type 0} (targets : List (Prefixed × ℕ)) (operand : Prefixed) (b : Bool) →
        IsRead tokens stage given (λ d. lang.target_at d level (inner d) targets operand b) (read.target_at room read_inner targets operand b) keeping (first_target b) (λ r. an_assignment)
    unfolding lang.set_target read.set_target
    target_at_is_read targets operand true =
        read_optional (λ r. an_assignment) (Done (begun_of targets operand))
        (read_token fits (sample tokens an_assignment (Mark MARK_EQUAL) refl refl refl) (λ n. read_pure (Again (targets ++ (operand, n) ∷ [])))) (λ a. refl) refl
    target_at_is_read targets operand false = read_weaker (λ r. an_assignment) (λ g. g) (λ a. refl) (read_pure (Done (begun_of targets operand)))

    -- Where nothing is taken the turn ends.
    ends_at : (d : ℕ) (targets : List (Prefixed × ℕ)) (operand : Prefixed) (b : Bool) (scopes : OpenScopes) (end : Turn (List (Prefixed × ℕ)) Begun × OpenScopes) →
        lang.target_at d level (inner d) targets operand b scopes [] end → end.0 ≡ Done (begun_of targets operand)
    unfolding lang.set_target
    ends_at d targets operand true scopes end (inl x) = absurd (no_token x.front x.back x.split x.begin.is)
      where
        no_token : (v w : List (Leveled KeptToken)) {t : Leveled KeptToken} → [] ≡ v ++ w → v ≡ t ∷ [] → ⊥
        no_token [] w e f = cc
        no_token (s ∷ v) w e f = cc
    ends_at d targets operand true scopes end (inr x) = ap (λ (z : _). z.0) x.same
    ends_at d targets operand false scopes end x = ap (λ (z : _). z.0) x.same

    target_apart : (b : Bool) → are_disjoint after_operand (first_target b) ≡ true
    target_apart true = refl
    target_apart false = refl

    after_targets : (r : Turn (List (Prefixed × ℕ)) Begun) → is_within an_assignment (by_turn an_assignment (λ b. after_target) r) ≡ true
    after_targets (Again s) = refl
    after_targets (Done a) = refl

    target_is_read : {given : Type 0} (targets : List (Prefixed × ℕ)) →
        IsRead tokens stage given (λ d. lang.target d level (inner d) targets) (read.target room read_inner targets) no begins_operand (by_turn an_assignment (λ b. after_target))
    unfolding lang.target read.target
    target_is_read targets =
        read_then_at (by_turn an_assignment (λ b. after_target)) prefixed_is_read (λ p. target_at_is_read targets p (is_target p)) (λ p. target_apart (is_target p)) after_targets
        (λ d scopes p end x. subst (λ z. is_within after_operand (by_turn an_assignment (λ b. after_target) z) ≡ true) (sym (ends_at d targets p (is_target p) scopes end x)) refl)

    target_stops : (n : ℕ) (targets : List (Prefixed × ℕ)) (operand : Prefixed) (b : Bool) (scopes : OpenScopes) →
        lang.target_at n level (inner n) targets operand b scopes [] (Done (begun_of targets operand), scopes)
    target_stops n targets operand true scopes = inr (record { none = refl; same = refl })
    target_stops n targets operand false scopes = record { none = refl; same = refl }

    target_ends : (targets : List (Prefixed × ℕ)) (scopes : OpenScopes) → Ending tokens.IsToken (λ d. lang.target d level (inner d) targets) scopes
    unfolding lang.target
    target_ends targets scopes =
        let s = (prefixed_is_read {given = Prim.Unit {0}}).some scopes in record {
          word = s.word;
          value = begun_of targets s.value.0;
          scope' = s.value.1;
          turns = s.turns;
          lexemes = s.lexemes;
          is = λ n h. record {
            front = s.word;
            back = [];
            value = s.value;
            split = sym (append-nil s.word);
            begin = s.is n h;
            rest = target_stops n targets s.value.0 (is_target s.value.0) s.value.1;
          };
        }

    targets_are_read : {given : Type 0} (targets : List (Prefixed × ℕ)) →
        IsRead tokens stage given (λ d. lang.targets d level (inner d) targets) (read.targets room read_inner targets) no begins_operand (λ b. after_target)
    unfolding lang.targets read.targets
    targets_are_read targets = read_repeat an_assignment (λ b. after_target) target_is_read refl target_ends targets

    pub rest_of_is_read : {given : Type 0} (begun : Begun) →
        IsRead tokens stage given (λ d. lang.rest_of d level (inner d) begun) (read.rest_of room read_inner begun) keeping (a_binary ++ mark MARK_QUESTION ∷ []) (λ a. after_cond)
    unfolding lang.rest_of read.rest_of
    rest_of_is_read begun =
        read_join (λ b. after_cond) (binary_is_read begun.first)
        (λ b. read_map (assign_of begun.targets) (λ a. after_cond) (all_arms_are_read (arms_start b)) (λ a. refl)) (λ a. refl) (λ b. refl) (λ a b. refl)

    pub whole_is_read : {given : Type 0} → IsRead tokens stage given (λ d. lang.whole d level (inner d)) (read.whole room read_inner) no begins_operand (λ a. after_assign)
    unfolding lang.whole read.whole
    whole_is_read = read_then (λ b. after_assign) (targets_are_read []) rest_of_is_read (λ a. refl) (λ b. refl) (λ a b. refl)

    -- ---- Constant expressions (6.6), and those that begin otherwise

    pub constant_expr_is_read : {given : Type 0} →
        IsRead tokens stage given (λ d. lang.constant_expr d level (inner d)) (read.constant_expr room read_inner) no begins_operand (λ a. after_cond)
    unfolding lang.constant_expr read.constant_expr
    constant_expr_is_read = read_then (λ b. after_cond) prefixed_is_read (λ p. rest_of_is_read (begun_of [] p)) (λ a. refl) (λ b. refl) (λ a b. refl)

    other_operator_is_read : {given : Type 0} (chain : Chain) → IsRead tokens stage given (λ d. lang.other_operator d level (inner d) chain) (read.other_operator room read_inner chain) no other_unary after_link
    unfolding lang.other_operator read.other_operator
    other_operator_is_read chain =
        read_weaker after_link (λ g. g) (λ a. refl)
        (read_token fits (sample tokens other_unary (Mark MARK_PLUS) refl refl refl) (λ n. read_pure (Again (with_op chain n Cast))))

    bare_link_is_read : {given : Type 0} (chain : Chain) → IsRead tokens stage given (λ d. lang.bare_link d level (inner d) chain) (read.bare_link room read_inner chain) no (begins_assign Bare) after_link
    unfolding lang.bare_link read.bare_link
    bare_link_is_read chain =
        read_either (other_operator_is_read chain) (read_either (stepped_is_read chain) (read_either (sized_is_read chain) (read_either (aligned_is_read chain)
        (primary_is_read chain) refl) refl) refl) refl

    unstarred_link_is_read : {given : Type 0} (chain : Chain) →
        IsRead tokens stage given (λ d. lang.unstarred_link d level (inner d) chain) (read.unstarred_link room read_inner chain) no (begins_assign Unstarred) after_link
    unfolding lang.unstarred_link read.unstarred_link
    unstarred_link_is_read chain =
        read_either (other_operator_is_read chain) (read_either (stepped_is_read chain) (read_either (sized_is_read chain) (read_either (aligned_is_read chain)
        (read_either (paren_is_read chain) (primary_is_read chain) refl) refl) refl) refl) refl

    first_link_is_read : {given : Type 0} (which : AssignForm) →
        IsRead tokens stage given (λ d. lang.first_link d level (inner d) which) (read.first_link room read_inner which) no (begins_assign which) after_link
    unfolding lang.first_link read.first_link
    first_link_is_read Whole = link_is_read chain_start
    first_link_is_read Constant = link_is_read chain_start
    first_link_is_read Unstarred = unstarred_link_is_read chain_start
    first_link_is_read Bare = bare_link_is_read chain_start
    first_link_is_read (Behind star) = link_is_read (with_op chain_start star Cast)

    abbrev null_turn : {S A : Type 0} → Turn S A → Nullable
    null_turn (Again s) = no
    null_turn (Done a) = keeping

    abbrev first_turn : {S A : Type 0} → Turn S A → List ℕ
    first_turn (Again s) = begins_operand
    first_turn (Done a) = []

    links_behind_is_read : {given : Type 0} (turn : Turn Chain Found) →
        IsRead tokens stage given (λ d. lang.links_behind d level (inner d) turn) (read.links_behind room read_inner turn) (null_turn turn) (first_turn turn) (λ found. after_form)
    unfolding lang.links_behind read.links_behind
    links_behind_is_read (Again chain) = links_are_read chain
    links_behind_is_read (Done found) = read_weaker (λ found. after_form) (λ g. g) (λ a. refl) (read_pure found)

    targets_behind_is_read : {given : Type 0} (turn : Turn (List (Prefixed × ℕ)) Begun) →
        IsRead tokens stage given (λ d. lang.targets_behind d level (inner d) turn) (read.targets_behind room read_inner turn) (null_turn turn) (first_turn turn) (λ b. after_target)
    unfolding lang.targets_behind read.targets_behind
    targets_behind_is_read (Again targets) = targets_are_read targets
    targets_behind_is_read (Done begun) = read_weaker (λ b. after_target) (λ g. g) (λ a. refl) (read_pure begun)

    link_apart : (turn : Turn Chain Found) → are_disjoint (after_link turn) (first_turn turn) ≡ true
    link_apart (Again chain) = refl
    link_apart (Done found) = refl

    link_goes_on : (turn : Turn Chain Found) (found : Found) → goes_on (null_turn turn) (after_link turn) after_form ≡ true
    link_goes_on (Again chain) found = refl
    link_goes_on (Done end) found = refl

    abbrev after_first_target : Turn (List (Prefixed × ℕ)) Begun → List ℕ
    after_first_target = by_turn an_assignment (λ b. after_target)

    targets_apart : (turn : Turn (List (Prefixed × ℕ)) Begun) → are_disjoint (after_first_target turn) (first_turn turn) ≡ true
    targets_apart (Again targets) = refl
    targets_apart (Done begun) = refl

    targets_go_on : (turn : Turn (List (Prefixed × ℕ)) Begun) (begun : Begun) → goes_on (null_turn turn) (after_first_target turn) after_target ≡ true
    targets_go_on (Again targets) begun = refl
    targets_go_on (Done end) begun = refl

    module _ (which : AssignForm) where
      first_found_is_read : {given : Type 0} →
          IsRead tokens stage given (λ d. lang.first_found d level (inner d) which) (read.first_found room read_inner which) no (begins_assign which) (λ found. after_form)
      unfolding lang.first_found read.first_found
      first_found_is_read = read_then (λ found. after_form) (first_link_is_read which) links_behind_is_read link_apart (λ b. refl) link_goes_on

      first_prefixed_is_read : {given : Type 0} →
          IsRead tokens stage given (λ d. lang.first_prefixed d level (inner d) which) (read.first_prefixed room read_inner which) no (begins_assign which) (λ a. after_operand)
      unfolding lang.first_prefixed read.first_prefixed
      first_prefixed_is_read = read_then (λ b. after_operand) first_found_is_read finished_is_read form_apart (λ b. refl) (λ a b. refl)

      first_target_is_read : {given : Type 0} →
          IsRead tokens stage given (λ d. lang.first_target d level (inner d) which) (read.first_target room read_inner which) no (begins_assign which) after_first_target
      unfolding lang.first_target read.first_target
      first_target_is_read =
          read_then_at after_first_target first_prefixed_is_read (λ p. target_at_is_read [] p (is_target p)) (λ p. target_apart (is_target p)) after_targets
          (λ d scopes p end x. subst (λ z. is_within after_operand (after_first_target z) ≡ true) (sym (ends_at d [] p (is_target p) scopes end x)) refl)

      first_targets_is_read : {given : Type 0} →
          IsRead tokens stage given (λ d. lang.first_targets d level (inner d) which) (read.first_targets room read_inner which) no (begins_assign which) (λ b. after_target)
      unfolding lang.first_targets read.first_targets
      first_targets_is_read = read_then (λ b. after_target) first_target_is_read targets_behind_is_read targets_apart (λ b. refl) targets_go_on

      first_assign_is_read : {given : Type 0} →
          IsRead tokens stage given (λ d. lang.first_assign d level (inner d) which) (read.first_assign room read_inner which) no (begins_assign which) (λ a. after_assign)
      unfolding lang.first_assign read.first_assign
      first_assign_is_read = read_then (λ b. after_assign) first_targets_is_read rest_of_is_read (λ a. refl) (λ b. refl) (λ a b. refl)

    -- An assignment expression of the form is read exactly, where what it holds in brackets is.
    pub formed_is_read : {given : Type 0} (which : AssignForm) →
        IsRead tokens stage given (λ d. lang.formed d level (inner d) which) (read.formed room read_inner which) no (begins_assign which) (λ a. after_assign)
    unfolding lang.formed read.formed
    formed_is_read Whole = whole_is_read
    formed_is_read Constant = read_weaker (λ a. after_assign) (λ g. g) (λ a. refl) constant_expr_is_read
    formed_is_read Unstarred = first_assign_is_read Unstarred
    formed_is_read Bare = first_assign_is_read Bare
    formed_is_read (Behind star) = first_assign_is_read (Behind star)
