-- Rules of expressions (C11 6.5). A rule of so many turns has at most so many items in its lists,
-- and nests at most so deep.

use Rattle.std.specs.Prelude.{ℕ, suc, Bool, true, false, List, [], ◌∷◌, ◌++◌}
use Rattle.c_lexer.specs.declared.keyword.TheConstants.{KEY_SIZEOF, KEY_ALIGNOF}
use Rattle.c_lexer.specs.declared.mark.TheConstants.{MARK_LEFT_BRACKET, MARK_RIGHT_BRACKET}
use Rattle.c_lexer.specs.declared.mark.TheConstants.{MARK_LEFT_PAREN, MARK_RIGHT_PAREN}
use Rattle.c_lexer.specs.declared.mark.TheConstants.{MARK_LEFT_BRACE, MARK_RIGHT_BRACE}
use Rattle.c_lexer.specs.declared.mark.TheConstants.{MARK_DOT, MARK_ARROW, MARK_COMMA}
use Rattle.c_lexer.specs.declared.mark.TheConstants.{MARK_QUESTION, MARK_COLON}
use Rattle.c_tree.specs.declared.tree.TypeName.{TypeName}
use Rattle.c_tree.specs.declared.tree.Expr.{Expr}
use Rattle.c_tree.specs.declared.tree.Assign.{Assign}
use Rattle.c_tree.specs.declared.tree.Binary.{Binary}
use Rattle.c_tree.specs.declared.tree.Prefixed.{Prefixed}
use Rattle.c_tree.specs.declared.tree.Prefix.{Prefix}
use Rattle.c_tree.specs.declared.tree.BaseForm.{BaseForm}
use Rattle.c_tree.specs.declared.tree.BaseForm.TheVariants as form
use Rattle.c_tree.specs.declared.tree.Post.{Post}
use Rattle.c_tree.specs.declared.tree.Post.TheVariants as post
use Rattle.reading.specs.declared.turn.Turn.{Turn}
use Rattle.reading.specs.declared.turn.Turn.TheVariants.{Again, Done}
use Rattle.reading.specs.Rules.{◌>>=◌, ◌or◌, pure, many, repeat, after}
use Rattle.c_reading.specs.Terminals.{TEXT}
use Rattle.c_syntax.specs.declared.forms.Parts.{Parts}
use Rattle.c_syntax.specs.declared.forms.Items.{Items}
use Rattle.c_syntax.specs.declared.forms.Arms.{Arms}
use Rattle.c_syntax.specs.declared.forms.Begun.{Begun}
use Rattle.c_syntax.specs.declared.forms.Mode.{Mode}
use Rattle.c_syntax.specs.declared.forms.Mode.TheVariants.{Cast, Literal, Size}
use Rattle.c_syntax.specs.declared.forms.Chain.{Chain}
use Rattle.c_syntax.specs.declared.forms.Found.{Found}
use Rattle.c_syntax.specs.declared.forms.Found.TheVariants.{Operand, Sized}
use Rattle.c_syntax.specs.declared.forms.AssignForm.{AssignForm}
use Rattle.c_syntax.specs.declared.forms.AssignForm.TheVariants.{Whole, Constant, Unstarred}
use Rattle.c_syntax.specs.declared.forms.AssignForm.TheVariants.{Bare, Behind}
use Rattle.c_syntax.specs.Scoping.{Part}
use Rattle.c_syntax.specs.Sets.{a_name, any_name, a_constant, a_step, a_unary, a_binary}
use Rattle.c_syntax.specs.Sets.{other_unary}
use Rattle.c_syntax.specs.Sets.{an_assignment}
use Rattle.c_syntax.specs.Steps.{one_among, one_mark, one_key}
use Rattle.c_syntax.specs.Forms.{one_part, with_part, expr_of, call_of, one_item, with_item}
use Rattle.c_syntax.specs.Forms.{with_mark, compound_of, flushed, chain_start, with_op, with_size}
use Rattle.c_syntax.specs.Forms.{with_cast, prefixed_of, is_target, begun_of, binary_of}
use Rattle.c_syntax.specs.Forms.{arms_start, with_arm, assign_of}
use Rattle.c_syntax.specs.Inner.{Inner}

module _ (turns : ℕ) where
  -- Further string literals (6.4.5).
  unfoldable pub one_more_text : ℕ → List ℕ → Part (List ℕ)
  one_more_text level texts = do
    text ← one_among (TEXT ∷ []) level
    pure (texts ++ text ∷ [])

  unfoldable pub more_texts : ℕ → List ℕ → Part (List ℕ)
  more_texts level = many turns (one_more_text level)

  -- Commas of the level between assignment expressions (6.5.17).
  module _ (level : ℕ) (inner : Part Assign) where
    unfoldable pub more_parts : Parts → Part Parts
    more_parts parts = do
      comma ← one_mark MARK_COMMA level
      part ← inner
      pure (with_part parts comma part)

    unfoldable pub all_parts : Parts → Part Parts
    all_parts = many turns more_parts

    -- One part or more, behind these marks.
    unfoldable pub parts : List ℕ → Part Parts
    parts marks = do
      part ← inner
      all_parts (one_part part marks)

    unfoldable pub inner_expr : Part Expr
    inner_expr = do
      all ← parts []
      pure (expr_of all)

  -- Tokens of the level, with what stands in brackets one level deeper.
  module _ (level : ℕ) (inner : Inner) where
    -- ---- Suffixes (6.5.2)

    unfoldable pub index : Part Post
    index = do
      left ← one_mark MARK_LEFT_BRACKET (suc level)
      expr ← inner_expr (suc level) inner.assign
      right ← one_mark MARK_RIGHT_BRACKET (suc level)
      pure (post.Index expr (left ∷ right ∷ []))

    unfoldable pub no_arguments : ℕ → Part Post
    no_arguments left = do
      right ← one_mark MARK_RIGHT_PAREN (suc level)
      pure (post.Call [] (left ∷ right ∷ []))

    unfoldable pub some_arguments : ℕ → Part Post
    some_arguments left = do
      all ← parts (suc level) inner.assign (left ∷ [])
      right ← one_mark MARK_RIGHT_PAREN (suc level)
      pure (call_of all right)

    unfoldable pub call : Part Post
    call = do
      left ← one_mark MARK_LEFT_PAREN (suc level)
      no_arguments left or some_arguments left

    unfoldable pub dot : Part Post
    dot = do
      dot_ ← one_mark MARK_DOT level
      name ← one_among any_name level
      pure (post.Dot name (dot_ ∷ []))

    unfoldable pub arrow : Part Post
    arrow = do
      arrow_ ← one_mark MARK_ARROW level
      name ← one_among any_name level
      pure (post.Arrow name (arrow_ ∷ []))

    unfoldable pub step : Part Post
    step = do
      op ← one_among a_step level
      pure (post.Step op)

    unfoldable pub suffix : Part Post
    suffix = index or call or dot or arrow or step

    unfoldable pub more_suffixes : List Post → Part (List Post)
    more_suffixes suffixes = do
      next ← suffix
      pure (suffixes ++ next ∷ [])

    unfoldable pub all_suffixes : Part (List Post)
    all_suffixes = many turns more_suffixes []

    -- ---- Compound literals (6.5.2.5), for now of values alone

    unfoldable pub last_item : Items → Part (Turn Items Items)
    last_item items = do
      right ← one_mark MARK_RIGHT_BRACE (suc level)
      pure (Done (with_mark items right))

    unfoldable pub next_item : Items → ℕ → Part (Turn Items Items)
    next_item items comma = do
      next ← inner.item
      pure (Again (with_item items comma next))

    unfoldable pub comma_item : Items → Part (Turn Items Items)
    comma_item items = do
      comma ← one_mark MARK_COMMA (suc level)
      last_item (with_mark items comma) or next_item items comma

    unfoldable pub item : Items → Part (Turn Items Items)
    item items = comma_item items or last_item items

    unfoldable pub all_items : Items → Part Items
    all_items = repeat turns item

    -- Behind the type name and its parentheses.
    unfoldable pub compound : TypeName → List ℕ → Part BaseForm
    compound named marks = do
      brace ← one_mark MARK_LEFT_BRACE (suc level)
      first ← inner.item
      items ← all_items (one_item first (marks ++ brace ∷ []))
      pure (compound_of named items)

    -- ---- Operands and what stands before them (6.5.3, 6.5.4)

    unfoldable pub with_compound : List Prefix → TypeName → List ℕ → Part (Turn Chain Found)
    with_compound prefixes named marks = do
      base ← compound named marks
      pure (Done (Operand prefixes base))

    -- Behind a type name in parentheses.
    abbrev pub typed_at : Chain → TypeName → List ℕ → Mode → Part (Turn Chain Found)
    typed_at chain named marks Cast =
        with_compound chain.prefixes named marks or
        (pure (Again (with_cast chain.prefixes named marks)))
    typed_at chain named marks Literal = with_compound chain.prefixes named marks
    typed_at chain named marks (Size key) =
        with_compound (flushed (Size key) chain.prefixes) named marks or
        (pure (Done (Sized chain.prefixes (form.SizeType key named marks))))

    unfoldable pub typed : Chain → ℕ → Part (Turn Chain Found)
    typed chain left = do
      named ← inner.type_name
      right ← one_mark MARK_RIGHT_PAREN (suc level)
      typed_at chain named (left ∷ right ∷ []) chain.mode

    unfoldable pub grouped : Chain → ℕ → Part (Turn Chain Found)
    grouped chain left = do
      expr ← inner_expr (suc level) inner.assign
      right ← one_mark MARK_RIGHT_PAREN (suc level)
      pure (Done (Operand (flushed chain.mode chain.prefixes)
          (form.Group expr (left ∷ right ∷ []))))

    unfoldable pub paren : Chain → Part (Turn Chain Found)
    paren chain = do
      left ← one_mark MARK_LEFT_PAREN (suc level)
      typed chain left or grouped chain left

    unfoldable pub aligned : Chain → Part (Turn Chain Found)
    aligned chain = do
      key ← one_key KEY_ALIGNOF level
      left ← one_mark MARK_LEFT_PAREN (suc level)
      named ← inner.type_name
      right ← one_mark MARK_RIGHT_PAREN (suc level)
      pure (Done (Sized (flushed chain.mode chain.prefixes)
          (form.SizeType key named (left ∷ right ∷ []))))

    unfoldable pub operator : Chain → Part (Turn Chain Found)
    operator chain = do
      op ← one_among a_unary level
      pure (Again (with_op chain op Cast))

    unfoldable pub stepped : Chain → Part (Turn Chain Found)
    stepped chain = do
      op ← one_among a_step level
      pure (Again (with_op chain op Literal))

    unfoldable pub sized : Chain → Part (Turn Chain Found)
    sized chain = do
      key ← one_key KEY_SIZEOF level
      pure (Again (with_size chain key))

    unfoldable pub name : Chain → Part (Turn Chain Found)
    name chain = do
      token ← one_among a_name level
      pure (Done (Operand (flushed chain.mode chain.prefixes) (form.Name token)))

    unfoldable pub constant : Chain → Part (Turn Chain Found)
    constant chain = do
      token ← one_among a_constant level
      pure (Done (Operand (flushed chain.mode chain.prefixes) (form.Literal (token ∷ []))))

    unfoldable pub text : Chain → Part (Turn Chain Found)
    text chain = do
      token ← one_among (TEXT ∷ []) level
      tokens ← more_texts level (token ∷ [])
      pure (Done (Operand (flushed chain.mode chain.prefixes) (form.Literal tokens)))

    unfoldable pub link : Chain → Part (Turn Chain Found)
    link chain = operator chain or stepped chain or sized chain or aligned chain or paren chain or
        name chain or constant chain or text chain

    unfoldable pub links : Chain → Part Found
    links = repeat turns link

    abbrev pub finished : Found → Part Prefixed
    finished (Operand prefixes base) = do
      suffixes ← all_suffixes
      pure (prefixed_of prefixes base suffixes)
    finished (Sized prefixes base) = pure (prefixed_of prefixes base [])

    unfoldable pub prefixed : Part Prefixed
    prefixed = do
      found ← links chain_start
      finished found

    -- ---- Operators (6.5.5 to 6.5.16)

    unfoldable pub more_operands : List (ℕ × Prefixed) → Part (List (ℕ × Prefixed))
    more_operands rest = do
      op ← one_among a_binary level
      operand ← prefixed
      pure (rest ++ (op, operand) ∷ [])

    unfoldable pub all_operands : Part (List (ℕ × Prefixed))
    all_operands = many turns more_operands []

    unfoldable pub binary : Prefixed → Part Binary
    binary first = do
      rest ← all_operands
      pure (binary_of first rest)

    unfoldable pub more_arms : Arms → Part Arms
    more_arms arms = do
      question ← one_mark MARK_QUESTION level
      then_ ← inner_expr (suc level) inner.assign
      colon ← one_mark MARK_COLON (suc level)
      first ← prefixed
      last ← binary first
      pure (with_arm arms then_ (question ∷ colon ∷ []) last)

    unfoldable pub all_arms : Arms → Part Arms
    all_arms = many turns more_arms

    unfoldable pub set_target : List (Prefixed × ℕ) → Prefixed →
        Part (Turn (List (Prefixed × ℕ)) Begun)
    set_target targets operand = do
      op ← one_among an_assignment level
      pure (Again (targets ++ (operand, op) ∷ []))

    abbrev pub target_at : List (Prefixed × ℕ) → Prefixed → Bool →
        Part (Turn (List (Prefixed × ℕ)) Begun)
    target_at targets operand true = set_target targets operand or
        (pure (Done (begun_of targets operand)))
    target_at targets operand false = pure (Done (begun_of targets operand))

    unfoldable pub target : List (Prefixed × ℕ) → Part (Turn (List (Prefixed × ℕ)) Begun)
    target targets = do
      operand ← prefixed
      target_at targets operand (is_target operand)

    unfoldable pub targets : List (Prefixed × ℕ) → Part Begun
    targets = repeat turns target

    -- Behind the targets and the first operand of the value.
    unfoldable pub rest_of : Begun → Part Assign
    rest_of begun = do
      last ← binary begun.first
      arms ← all_arms (arms_start last)
      pure (assign_of begun.targets arms)

    unfoldable pub whole : Part Assign
    whole = do
      begun ← targets []
      rest_of begun

    -- ---- Constant expressions (6.6), and those that begin otherwise

    unfoldable pub constant_expr : Part Assign
    constant_expr = do
      first ← prefixed
      rest_of (begun_of [] first)

    -- An operator other than `*`.
    unfoldable pub other_operator : Chain → Part (Turn Chain Found)
    other_operator chain = do
      op ← one_among other_unary level
      pure (Again (with_op chain op Cast))

    -- What begins neither with `*` nor with `(`.
    unfoldable pub bare_link : Chain → Part (Turn Chain Found)
    bare_link chain = other_operator chain or stepped chain or sized chain or aligned chain or
        name chain or constant chain or text chain

    -- What does not begin with `*`.
    unfoldable pub unstarred_link : Chain → Part (Turn Chain Found)
    unstarred_link chain = other_operator chain or stepped chain or sized chain or aligned chain or
        paren chain or name chain or constant chain or text chain

    -- What stands first in an expression of the form.
    unfoldable pub first_link : AssignForm → Part (Turn Chain Found)
    first_link Whole = link chain_start
    first_link Constant = link chain_start
    first_link Unstarred = unstarred_link chain_start
    first_link Bare = bare_link chain_start
    first_link (Behind star) = link (with_op chain_start star Cast)

    -- Behind a link, and behind the turn of a target.
    unfoldable pub links_behind : Turn Chain Found → Part Found
    links_behind turn = after links turn

    unfoldable pub targets_behind : Turn (List (Prefixed × ℕ)) Begun → Part Begun
    targets_behind turn = after targets turn

    -- The first operand, the first target, and the whole of an expression of the form.
    unfoldable pub first_found : AssignForm → Part Found
    first_found which = do
      turn ← first_link which
      links_behind turn

    unfoldable pub first_prefixed : AssignForm → Part Prefixed
    first_prefixed which = do
      found ← first_found which
      finished found

    unfoldable pub first_target : AssignForm → Part (Turn (List (Prefixed × ℕ)) Begun)
    first_target which = do
      operand ← first_prefixed which
      target_at [] operand (is_target operand)

    unfoldable pub first_targets : AssignForm → Part Begun
    first_targets which = do
      turn ← first_target which
      targets_behind turn

    unfoldable pub first_assign : AssignForm → Part Assign
    first_assign which = do
      begun ← first_targets which
      rest_of begun

    -- An assignment expression of the form.
    unfoldable pub formed : AssignForm → Part Assign
    formed Whole = whole
    formed Constant = constant_expr
    formed Unstarred = first_assign Unstarred
    formed Bare = first_assign Bare
    formed (Behind star) = first_assign (Behind star)
