-- Readers of expressions (C11 6.5).

use Rattle.std.specs.Prelude.{ℕ, ◌-◌, Bool, true, false, List, [], ◌∷◌, ◌++◌}
use Rattle.c_lexer.specs.declared.keyword.TheConstants.{KEY_SIZEOF, KEY_ALIGNOF}
use Rattle.c_lexer.specs.declared.mark.TheConstants.{MARK_LEFT_BRACKET, MARK_RIGHT_BRACKET}
use Rattle.c_lexer.specs.declared.mark.TheConstants.{MARK_LEFT_PAREN, MARK_RIGHT_PAREN}
use Rattle.c_lexer.specs.declared.mark.TheConstants.{MARK_LEFT_BRACE, MARK_RIGHT_BRACE}
use Rattle.c_lexer.specs.declared.mark.TheConstants.{MARK_DOT, MARK_ARROW, MARK_COMMA}
use Rattle.c_lexer.specs.declared.mark.TheConstants.{MARK_QUESTION, MARK_COLON}
use Rattle.c_tree.specs.declared.tree.TypeName.{TypeName}
use Rattle.c_tree.specs.declared.tree.Expr.{Expr}
use Rattle.c_tree.specs.declared.tree.Assign.{Assign}
use Rattle.c_tree.specs.declared.tree.Binary.{Binary}
use Rattle.c_tree.specs.declared.tree.Prefixed.{Prefixed}
use Rattle.c_tree.specs.declared.tree.Prefix.{Prefix}
use Rattle.c_tree.specs.declared.tree.BaseForm.{BaseForm}
use Rattle.c_tree.specs.declared.tree.BaseForm.TheVariants as form
use Rattle.c_tree.specs.declared.tree.Post.{Post}
use Rattle.c_tree.specs.declared.tree.Post.TheVariants as post
use Rattle.reading.specs.declared.turn.Turn.{Turn}
use Rattle.reading.specs.declared.turn.Turn.TheVariants.{Again, Done}
use Rattle.reading.specs.Readers.{◌>>=◌, pure, many, repeat, after}
use Rattle.c_reading.specs.Terminals.{TEXT, mark}
use Rattle.c_syntax.specs.declared.forms.Parts.{Parts}
use Rattle.c_syntax.specs.declared.forms.Items.{Items}
use Rattle.c_syntax.specs.declared.forms.Arms.{Arms}
use Rattle.c_syntax.specs.declared.forms.Begun.{Begun}
use Rattle.c_syntax.specs.declared.forms.Mode.{Mode}
use Rattle.c_syntax.specs.declared.forms.Mode.TheVariants.{Cast, Literal, Size}
use Rattle.c_syntax.specs.declared.forms.Chain.{Chain}
use Rattle.c_syntax.specs.declared.forms.Found.{Found}
use Rattle.c_syntax.specs.declared.forms.Found.TheVariants.{Operand, Sized}
use Rattle.c_syntax.specs.declared.forms.AssignForm.{AssignForm}
use Rattle.c_syntax.specs.declared.forms.AssignForm.TheVariants.{Whole, Constant, Unstarred}
use Rattle.c_syntax.specs.declared.forms.AssignForm.TheVariants.{Bare, Behind}
use Rattle.c_syntax.specs.Scoping.{PartReader, terminal_of}
use Rattle.c_syntax.specs.Sets.{a_name, any_name, a_constant, a_step, a_unary, a_binary, a_type}
use Rattle.c_syntax.specs.Sets.{a_suffix, an_assignment}
use Rattle.c_syntax.specs.Steps.{expect_among, expect_mark, expect_key, where_among, where_mark}
use Rattle.c_syntax.specs.Steps.{where_key}
use Rattle.c_syntax.specs.Forms.{one_part, with_part, expr_of, call_of, one_item, with_item}
use Rattle.c_syntax.specs.Forms.{with_mark, compound_of, flushed, chain_start, with_op, with_size}
use Rattle.c_syntax.specs.Forms.{with_cast, prefixed_of, is_target, begun_of, binary_of}
use Rattle.c_syntax.specs.Forms.{arms_start, with_arm, assign_of}
use Rattle.c_syntax.specs.Inner.{InnerReaders}
use Rattle.c_syntax.specs.Sets.{other_unary}

-- Further string literals (6.4.5).
unfoldable pub one_more_text : ℕ → List ℕ → PartReader (List ℕ)
one_more_text room texts = do
  text ← expect_among (TEXT ∷ []) room
  pure (texts ++ text ∷ [])

unfoldable pub more_texts : ℕ → List ℕ → PartReader (List ℕ)
more_texts room = many terminal_of (TEXT ∷ []) (one_more_text room)

-- There is room for tokens of the level, and what stands in brackets is read one level deeper.
module _ (room : ℕ) (inner : InnerReaders) where
  -- ---- Expressions one level deeper (6.5.17)

  unfoldable pub more_parts : Parts → PartReader Parts
  more_parts parts = do
    comma ← expect_mark MARK_COMMA (room - 1)
    part ← inner.assign
    pure (with_part parts comma part)

  unfoldable pub all_parts : Parts → PartReader Parts
  all_parts = many terminal_of (mark MARK_COMMA ∷ []) more_parts

  -- One part or more, behind these marks.
  unfoldable pub parts : List ℕ → PartReader Parts
  parts marks = do
    part ← inner.assign
    all_parts (one_part part marks)

  unfoldable pub inner_expr : PartReader Expr
  inner_expr = do
    all ← parts []
    pure (expr_of all)

  -- ---- Suffixes (6.5.2)

  unfoldable pub index : PartReader Post
  index = do
    left ← expect_mark MARK_LEFT_BRACKET (room - 1)
    expr ← inner_expr
    right ← expect_mark MARK_RIGHT_BRACKET (room - 1)
    pure (post.Index expr (left ∷ right ∷ []))

  unfoldable pub no_arguments : ℕ → PartReader Post
  no_arguments left = do
    right ← expect_mark MARK_RIGHT_PAREN (room - 1)
    pure (post.Call [] (left ∷ right ∷ []))

  unfoldable pub some_arguments : ℕ → PartReader Post
  some_arguments left = do
    all ← parts (left ∷ [])
    right ← expect_mark MARK_RIGHT_PAREN (room - 1)
    pure (call_of all right)

  unfoldable pub call : PartReader Post
  call = do
    left ← expect_mark MARK_LEFT_PAREN (room - 1)
    where_mark MARK_RIGHT_PAREN (no_arguments left) (some_arguments left)

  unfoldable pub dot : PartReader Post
  dot = do
    dot_ ← expect_mark MARK_DOT room
    name ← expect_among any_name room
    pure (post.Dot name (dot_ ∷ []))

  unfoldable pub arrow : PartReader Post
  arrow = do
    arrow_ ← expect_mark MARK_ARROW room
    name ← expect_among any_name room
    pure (post.Arrow name (arrow_ ∷ []))

  unfoldable pub step : PartReader Post
  step = do
    op ← expect_among a_step room
    pure (post.Step op)

  unfoldable pub suffix : PartReader Post
  suffix = where_mark MARK_LEFT_BRACKET index (where_mark MARK_LEFT_PAREN call
      (where_mark MARK_DOT dot (where_mark MARK_ARROW arrow step)))

  unfoldable pub more_suffixes : List Post → PartReader (List Post)
  more_suffixes suffixes = do
    next ← suffix
    pure (suffixes ++ next ∷ [])

  unfoldable pub all_suffixes : PartReader (List Post)
  all_suffixes = many terminal_of a_suffix more_suffixes []

  -- ---- Compound literals (6.5.2.5), for now of values alone

  unfoldable pub last_item : Items → PartReader (Turn Items Items)
  last_item items = do
    right ← expect_mark MARK_RIGHT_BRACE (room - 1)
    pure (Done (with_mark items right))

  unfoldable pub next_item : Items → ℕ → PartReader (Turn Items Items)
  next_item items comma = do
    next ← inner.item
    pure (Again (with_item items comma next))

  unfoldable pub comma_item : Items → PartReader (Turn Items Items)
  comma_item items = do
    comma ← expect_mark MARK_COMMA (room - 1)
    where_mark MARK_RIGHT_BRACE (last_item (with_mark items comma)) (next_item items comma)

  unfoldable pub item : Items → PartReader (Turn Items Items)
  item items = where_mark MARK_COMMA (comma_item items) (last_item items)

  unfoldable pub all_items : Items → PartReader Items
  all_items = repeat item

  -- Behind the type name and its parentheses.
  unfoldable pub compound : TypeName → List ℕ → PartReader BaseForm
  compound named marks = do
    brace ← expect_mark MARK_LEFT_BRACE (room - 1)
    first ← inner.item
    items ← all_items (one_item first (marks ++ brace ∷ []))
    pure (compound_of named items)

  -- ---- Operands and what stands before them (6.5.3, 6.5.4)

  unfoldable pub with_compound : List Prefix → TypeName → List ℕ → PartReader (Turn Chain Found)
  with_compound prefixes named marks = do
    base ← compound named marks
    pure (Done (Operand prefixes base))

  -- Behind a type name in parentheses.
  abbrev pub typed_at : Chain → TypeName → List ℕ → Mode → PartReader (Turn Chain Found)
  typed_at chain named marks Cast =
      where_mark MARK_LEFT_BRACE (with_compound chain.prefixes named marks)
      (pure (Again (with_cast chain.prefixes named marks)))
  typed_at chain named marks Literal = with_compound chain.prefixes named marks
  typed_at chain named marks (Size key) =
      where_mark MARK_LEFT_BRACE (with_compound (flushed (Size key) chain.prefixes) named marks)
      (pure (Done (Sized chain.prefixes (form.SizeType key named marks))))

  unfoldable pub typed : Chain → ℕ → PartReader (Turn Chain Found)
  typed chain left = do
    named ← inner.type_name
    right ← expect_mark MARK_RIGHT_PAREN (room - 1)
    typed_at chain named (left ∷ right ∷ []) chain.mode

  unfoldable pub grouped : Chain → ℕ → PartReader (Turn Chain Found)
  grouped chain left = do
    expr ← inner_expr
    right ← expect_mark MARK_RIGHT_PAREN (room - 1)
    pure (Done (Operand (flushed chain.mode chain.prefixes) (form.Group expr (left ∷ right ∷ []))))

  unfoldable pub paren : Chain → PartReader (Turn Chain Found)
  paren chain = do
    left ← expect_mark MARK_LEFT_PAREN (room - 1)
    where_among a_type (typed chain left) (grouped chain left)

  unfoldable pub aligned : Chain → PartReader (Turn Chain Found)
  aligned chain = do
    key ← expect_key KEY_ALIGNOF room
    left ← expect_mark MARK_LEFT_PAREN (room - 1)
    named ← inner.type_name
    right ← expect_mark MARK_RIGHT_PAREN (room - 1)
    pure (Done (Sized (flushed chain.mode chain.prefixes)
        (form.SizeType key named (left ∷ right ∷ []))))

  unfoldable pub operator : Chain → PartReader (Turn Chain Found)
  operator chain = do
    op ← expect_among a_unary room
    pure (Again (with_op chain op Cast))

  unfoldable pub stepped : Chain → PartReader (Turn Chain Found)
  stepped chain = do
    op ← expect_among a_step room
    pure (Again (with_op chain op Literal))

  unfoldable pub sized : Chain → PartReader (Turn Chain Found)
  sized chain = do
    key ← expect_key KEY_SIZEOF room
    pure (Again (with_size chain key))

  unfoldable pub name : Chain → PartReader (Turn Chain Found)
  name chain = do
    token ← expect_among a_name room
    pure (Done (Operand (flushed chain.mode chain.prefixes) (form.Name token)))

  unfoldable pub constant : Chain → PartReader (Turn Chain Found)
  constant chain = do
    token ← expect_among a_constant room
    pure (Done (Operand (flushed chain.mode chain.prefixes) (form.Literal (token ∷ []))))

  unfoldable pub text : Chain → PartReader (Turn Chain Found)
  text chain = do
    token ← expect_among (TEXT ∷ []) room
    tokens ← more_texts room (token ∷ [])
    pure (Done (Operand (flushed chain.mode chain.prefixes) (form.Literal tokens)))

  unfoldable pub link : Chain → PartReader (Turn Chain Found)
  link chain = where_among a_unary (operator chain) (where_among a_step (stepped chain)
      (where_key KEY_SIZEOF (sized chain) (where_key KEY_ALIGNOF (aligned chain)
      (where_mark MARK_LEFT_PAREN (paren chain) (where_among a_name (name chain)
      (where_among a_constant (constant chain) (text chain)))))))

  unfoldable pub links : Chain → PartReader Found
  links = repeat link

  abbrev pub finished : Found → PartReader Prefixed
  finished (Operand prefixes base) = do
    suffixes ← all_suffixes
    pure (prefixed_of prefixes base suffixes)
  finished (Sized prefixes base) = pure (prefixed_of prefixes base [])

  unfoldable pub prefixed : PartReader Prefixed
  prefixed = do
    found ← links chain_start
    finished found

  -- ---- Operators (6.5.5 to 6.5.16)

  unfoldable pub more_operands : List (ℕ × Prefixed) → PartReader (List (ℕ × Prefixed))
  more_operands rest = do
    op ← expect_among a_binary room
    operand ← prefixed
    pure (rest ++ (op, operand) ∷ [])

  unfoldable pub all_operands : PartReader (List (ℕ × Prefixed))
  all_operands = many terminal_of a_binary more_operands []

  unfoldable pub binary : Prefixed → PartReader Binary
  binary first = do
    rest ← all_operands
    pure (binary_of first rest)

  unfoldable pub more_arms : Arms → PartReader Arms
  more_arms arms = do
    question ← expect_mark MARK_QUESTION room
    then_ ← inner_expr
    colon ← expect_mark MARK_COLON (room - 1)
    first ← prefixed
    last ← binary first
    pure (with_arm arms then_ (question ∷ colon ∷ []) last)

  unfoldable pub all_arms : Arms → PartReader Arms
  all_arms = many terminal_of (mark MARK_QUESTION ∷ []) more_arms

  unfoldable pub set_target : List (Prefixed × ℕ) → Prefixed →
      PartReader (Turn (List (Prefixed × ℕ)) Begun)
  set_target targets operand = do
    op ← expect_among an_assignment room
    pure (Again (targets ++ (operand, op) ∷ []))

  abbrev pub target_at : List (Prefixed × ℕ) → Prefixed → Bool →
      PartReader (Turn (List (Prefixed × ℕ)) Begun)
  target_at targets operand true = where_among an_assignment (set_target targets operand)
      (pure (Done (begun_of targets operand)))
  target_at targets operand false = pure (Done (begun_of targets operand))

  unfoldable pub target : List (Prefixed × ℕ) → PartReader (Turn (List (Prefixed × ℕ)) Begun)
  target targets = do
    operand ← prefixed
    target_at targets operand (is_target operand)

  unfoldable pub targets : List (Prefixed × ℕ) → PartReader Begun
  targets = repeat target

  -- Behind the targets and the first operand of the value.
  unfoldable pub rest_of : Begun → PartReader Assign
  rest_of begun = do
    last ← binary begun.first
    arms ← all_arms (arms_start last)
    pure (assign_of begun.targets arms)

  unfoldable pub whole : PartReader Assign
  whole = do
    begun ← targets []
    rest_of begun

  -- ---- Constant expressions (6.6), and those that begin otherwise

  unfoldable pub constant_expr : PartReader Assign
  constant_expr = do
    first ← prefixed
    rest_of (begun_of [] first)

  -- An operator other than `*`.
  unfoldable pub other_operator : Chain → PartReader (Turn Chain Found)
  other_operator chain = do
    op ← expect_among other_unary room
    pure (Again (with_op chain op Cast))

  -- What begins neither with `*` nor with `(`.
  unfoldable pub bare_link : Chain → PartReader (Turn Chain Found)
  bare_link chain = where_among other_unary (other_operator chain)
      (where_among a_step (stepped chain) (where_key KEY_SIZEOF (sized chain)
      (where_key KEY_ALIGNOF (aligned chain) (where_among a_name (name chain)
      (where_among a_constant (constant chain) (text chain))))))

  -- What does not begin with `*`.
  unfoldable pub unstarred_link : Chain → PartReader (Turn Chain Found)
  unstarred_link chain = where_among other_unary (other_operator chain)
      (where_among a_step (stepped chain) (where_key KEY_SIZEOF (sized chain)
      (where_key KEY_ALIGNOF (aligned chain) (where_mark MARK_LEFT_PAREN (paren chain)
      (where_among a_name (name chain) (where_among a_constant (constant chain) (text chain)))))))

  -- What stands first in an expression of the form.
  unfoldable pub first_link : AssignForm → PartReader (Turn Chain Found)
  first_link Whole = link chain_start
  first_link Constant = link chain_start
  first_link Unstarred = unstarred_link chain_start
  first_link Bare = bare_link chain_start
  first_link (Behind star) = link (with_op chain_start star Cast)

  -- Behind a link, and behind the turn of a target.
  unfoldable pub links_behind : Turn Chain Found → PartReader Found
  links_behind turn = after links turn

  unfoldable pub targets_behind : Turn (List (Prefixed × ℕ)) Begun → PartReader Begun
  targets_behind turn = after targets turn

  -- The first operand, the first target, and the whole of an expression of the form.
  unfoldable pub first_found : AssignForm → PartReader Found
  first_found which = do
    turn ← first_link which
    links_behind turn

  unfoldable pub first_prefixed : AssignForm → PartReader Prefixed
  first_prefixed which = do
    found ← first_found which
    finished found

  unfoldable pub first_target : AssignForm → PartReader (Turn (List (Prefixed × ℕ)) Begun)
  first_target which = do
    operand ← first_prefixed which
    target_at [] operand (is_target operand)

  unfoldable pub first_targets : AssignForm → PartReader Begun
  first_targets which = do
    turn ← first_target which
    targets_behind turn

  unfoldable pub first_assign : AssignForm → PartReader Assign
  first_assign which = do
    begun ← first_targets which
    rest_of begun

  -- An assignment expression of the form.
  unfoldable pub formed : AssignForm → PartReader Assign
  formed Whole = whole
  formed Constant = constant_expr
  formed Unstarred = first_assign Unstarred
  formed Bare = first_assign Bare
  formed (Behind star) = first_assign (Behind star)
