-- What a tree spells: its symbols, in the order of the source (C11 6.5 to 6.9).
--
-- Each type has one step, which says in what order its fields and its marks stand. A step of a type
-- that leads back to itself is given what each part spells in the place of the part.

use Rattle.std.specs.Prelude.{ℕ, List, [], ◌∷◌, ◌++◌, Option, Some, None, drop, map, slice_get}
use Rattle.std.specs.List.{flat_map}
use Rattle.c_lexer.specs.declared.keyword.TheConstants.{KEY_ALIGNAS, KEY_ATOMIC, KEY_BREAK}
use Rattle.c_lexer.specs.declared.keyword.TheConstants.{KEY_CASE, KEY_CONTINUE, KEY_DEFAULT, KEY_DO}
use Rattle.c_lexer.specs.declared.keyword.TheConstants.{KEY_ELSE, KEY_ENUM, KEY_FOR, KEY_GOTO}
use Rattle.c_lexer.specs.declared.keyword.TheConstants.{KEY_IF, KEY_RETURN, KEY_STATIC_ASSERT}
use Rattle.c_lexer.specs.declared.keyword.TheConstants.{KEY_SWITCH, KEY_WHILE}
use Rattle.c_lexer.specs.declared.mark.TheConstants.{MARK_LEFT_BRACKET, MARK_RIGHT_BRACKET}
use Rattle.c_lexer.specs.declared.mark.TheConstants.{MARK_LEFT_PAREN, MARK_RIGHT_PAREN}
use Rattle.c_lexer.specs.declared.mark.TheConstants.{MARK_LEFT_BRACE, MARK_RIGHT_BRACE}
use Rattle.c_lexer.specs.declared.mark.TheConstants.{MARK_DOT, MARK_ARROW, MARK_STAR}
use Rattle.c_lexer.specs.declared.mark.TheConstants.{MARK_QUESTION, MARK_COLON, MARK_SEMICOLON}
use Rattle.c_lexer.specs.declared.mark.TheConstants.{MARK_ELLIPSIS, MARK_EQUAL, MARK_COMMA}
use Rattle.c_tree.specs.declared.symbol.Symbol.{Symbol}
use Rattle.c_tree.specs.declared.symbol.Want.{Want}
use Rattle.c_tree.specs.declared.symbol.Want.TheVariants.{Word, Text, Key, Mark, Among}
use Rattle.c_tree.specs.declared.symbol.Slot.TheVariants as slot
use Rattle.c_tree.specs.declared.tree.Unit.{Unit}
use Rattle.c_tree.specs.declared.tree.Item.{Item}
use Rattle.c_tree.specs.declared.tree.Item.TheVariants as item
use Rattle.c_tree.specs.declared.tree.Declaration.{Declaration}
use Rattle.c_tree.specs.declared.tree.InitDeclarator.{InitDeclarator}
use Rattle.c_tree.specs.declared.tree.Init.{Init}
use Rattle.c_tree.specs.declared.tree.InitItem.{InitItem}
use Rattle.c_tree.specs.declared.tree.Designator.{Designator}
use Rattle.c_tree.specs.declared.tree.Specs.{Specs}
use Rattle.c_tree.specs.declared.tree.Spec.{Spec}
use Rattle.c_tree.specs.declared.tree.Enumerator.{Enumerator}
use Rattle.c_tree.specs.declared.tree.Declarator.{Declarator}
use Rattle.c_tree.specs.declared.tree.Pointer.{Pointer}
use Rattle.c_tree.specs.declared.tree.Core.{Core}
use Rattle.c_tree.specs.declared.tree.Suffix.{Suffix}
use Rattle.c_tree.specs.declared.tree.Param.{Param}
use Rattle.c_tree.specs.declared.tree.TypeName.{TypeName}
use Rattle.c_tree.specs.declared.tree.Expr.{Expr}
use Rattle.c_tree.specs.declared.tree.Assign.{Assign}
use Rattle.c_tree.specs.declared.tree.Cond.{Cond}
use Rattle.c_tree.specs.declared.tree.Arm.{Arm}
use Rattle.c_tree.specs.declared.tree.Binary.{Binary}
use Rattle.c_tree.specs.declared.tree.Prefixed.{Prefixed}
use Rattle.c_tree.specs.declared.tree.Prefix.{Prefix}
use Rattle.c_tree.specs.declared.tree.Base.{Base}
use Rattle.c_tree.specs.declared.tree.BaseForm.{BaseForm}
use Rattle.c_tree.specs.declared.tree.BaseForm.TheOpen as o
use Rattle.c_tree.specs.declared.tree.Post.{Post}
use Rattle.c_tree.specs.declared.tree.Block.{Block}
use Rattle.c_tree.specs.declared.tree.BlockItem.{BlockItem}
use Rattle.c_tree.specs.declared.tree.BlockItem.TheOpen as s
use Rattle.c_tree.specs.declared.tree.Stmt.{Stmt}
use Rattle.c_tree.specs.declared.tree.Mark.{Mark as Label}
use Rattle.c_tree.specs.declared.tree.Mark.TheVariants as label
use Rattle.c_tree.specs.declared.tree.StmtKind.{StmtKind}
use Rattle.c_tree.specs.declared.tree.ForInit.{ForInit}
use Rattle.c_tree.specs.declared.tree.ForInit.TheVariants as for_init
use Rattle.c_tree.specs.Folds as folds

abbrev pub Symbols : Type 0
Symbols = List Symbol

-- One token, of which this is wanted.
abbrev pub wanted : ℕ → Want → Symbols
wanted token want = record { token = token; want = want } ∷ []

-- The same, where the token is there.
abbrev pub wanted_if : Option ℕ → Want → Symbols
wanted_if None want = []
wanted_if (Some token) want = wanted token want

-- The mark at the position among the marks of a form: the punctuator with the number.
abbrev pub mark : List ℕ → ℕ → ℕ → Symbols
mark marks position number = wanted_if (slice_get marks position) (Mark number)

-- The same: the keyword with the number.
abbrev pub key : List ℕ → ℕ → ℕ → Symbols
key marks position number = wanted_if (slice_get marks position) (Key number)

-- The same of each token of a list.
abbrev pub all_wanted : Want → List ℕ → Symbols
all_wanted want tokens = flat_map (λ token. wanted token want) tokens

-- Each part, one after the other.
abbrev pub joined : List Symbols → Symbols
joined parts = flat_map (λ part. part) parts

-- A part, where it is there.
abbrev pub if_some : Option Symbols → Symbols
if_some None = []
if_some (Some part) = part

-- The first mark and then the part, where it is there.
abbrev pub led_by : ℕ → List ℕ → Option Symbols → Symbols
led_by number marks None = []
led_by number marks (Some part) = mark marks 0 number ++ part

-- A part between two marks.
abbrev pub between : ℕ → ℕ → Symbols → List ℕ → Symbols
between left right part marks = mark marks 0 left ++ (part ++ mark marks 1 right)

-- A part in parentheses.
abbrev pub in_parens : Symbols → List ℕ → Symbols
in_parens part marks = between MARK_LEFT_PAREN MARK_RIGHT_PAREN part marks

-- A keyword, and then a part in parentheses.
abbrev pub key_parens : ℕ → Symbols → List ℕ → Symbols
key_parens number part marks = key marks 0 number ++ in_parens part (drop 1 marks)

-- ---- Lists with commas

-- The other parts of a list, each after its comma, and then what ends the list, by the marks that
-- are left.
abbrev pub others : (List ℕ → Symbols) → List Symbols → List ℕ → Symbols
others ends [] marks = ends marks
others ends (part ∷ parts) marks =
    mark marks 0 MARK_COMMA ++ (part ++ others ends parts (drop 1 marks))

-- The parts of a list with a comma between two of them, and then what ends the list.
abbrev pub separated : (List ℕ → Symbols) → List Symbols → List ℕ → Symbols
separated ends [] marks = ends marks
separated ends (part ∷ parts) marks = part ++ others ends parts marks

-- Nothing ends the list.
abbrev pub no_end : List ℕ → Symbols
no_end marks = []

-- One mark ends the list.
abbrev pub closed_by : ℕ → List ℕ → Symbols
closed_by number marks = mark marks 0 number

-- A `}` ends the list, after a comma or none (6.7.2.2, 6.7.9).
abbrev pub brace_end : List ℕ → Symbols
brace_end [] = []
brace_end (right ∷ []) = wanted right (Mark MARK_RIGHT_BRACE)
brace_end (comma ∷ right ∷ marks) =
    wanted comma (Mark MARK_COMMA) ++ wanted right (Mark MARK_RIGHT_BRACE)

-- A `)` ends the parameters, after a comma and `...` or neither (6.7.6).
abbrev pub params_end : Option ℕ → List ℕ → Symbols
params_end None marks = mark marks 0 MARK_RIGHT_PAREN
params_end (Some dots) marks =
    mark marks 0 MARK_COMMA ++
    (wanted dots (Mark MARK_ELLIPSIS) ++ mark marks 1 MARK_RIGHT_PAREN)

-- A list between braces.
abbrev pub braced : List Symbols → List ℕ → Symbols
braced parts marks = mark marks 0 MARK_LEFT_BRACE ++ separated brace_end parts (drop 1 marks)

-- ---- Expressions

-- A constant, or one string literal; of adjacent string literals each is a Text (6.4.5, 6.5.1).
abbrev pub literal_spelling : List ℕ → Symbols
literal_spelling [] = []
literal_spelling (token ∷ []) = wanted token (Among slot.Literal)
literal_spelling (token ∷ next ∷ tokens) = all_wanted Text (token ∷ next ∷ tokens)

-- An identifier, a literal, an expression in parentheses (6.5.1), a type name in parentheses and a
-- list in braces (6.5.2.5), or `sizeof` or `_Alignof` and a type name in parentheses (6.5.3.4).
abbrev pub base_form_level : folds.BaseFormLevel Symbols → Symbols
base_form_level (o.BaseForm-F.BaseForm::Name token) = wanted token Word
base_form_level (o.BaseForm-F.Literal tokens) = literal_spelling tokens
base_form_level (o.BaseForm-F.BaseForm::Group expr marks) = in_parens expr marks
base_form_level (o.BaseForm-F.Compound type_name list marks) =
    in_parens type_name marks ++ braced list (drop 2 marks)
base_form_level (o.BaseForm-F.SizeType size type_name marks) =
    wanted size (Among slot.SizeKey) ++ in_parens type_name marks

-- A subscript, the arguments of a call, a member, or `++` or `--` (6.5.2).
abbrev pub post_level : folds.PostLevel Symbols → Symbols
post_level (o.Post-F.Post::Index expr marks) =
    between MARK_LEFT_BRACKET MARK_RIGHT_BRACKET expr marks
post_level (o.Post-F.Call arguments marks) =
    mark marks 0 MARK_LEFT_PAREN ++
    separated (closed_by MARK_RIGHT_PAREN) arguments (drop 1 marks)
post_level (o.Post-F.Dot name marks) = mark marks 0 MARK_DOT ++ wanted name Word
post_level (o.Post-F.Arrow name marks) = mark marks 0 MARK_ARROW ++ wanted name Word
post_level (o.Post-F.Step step) = wanted step (Among slot.Step)

-- What the suffixes are applied to, and then the suffixes (6.5.2).
abbrev pub base_level : folds.BaseLevel Symbols → Symbols
base_level level = level.form ++ joined level.suffixes

-- A unary operator (6.5.3), or a type name in parentheses (6.5.4).
abbrev pub prefix_level : folds.PrefixLevel Symbols → Symbols
prefix_level (o.Prefix-F.Op token) = wanted token (Among slot.PrefixOp)
prefix_level (o.Prefix-F.Cast type_name marks) = in_parens type_name marks

-- The operators and casts, and then the operand (6.5.3, 6.5.4).
abbrev pub prefixed_level : folds.PrefixedLevel Symbols → Symbols
prefixed_level level = joined level.prefixes ++ level.base

-- A binary operator, and then its right operand (6.5.5 to 6.5.14).
abbrev pub operand_level : ℕ × Symbols → Symbols
operand_level operand = wanted operand.0 (Among slot.BinaryOp) ++ operand.1

-- The first operand, and then each operator with its right operand (6.5.5 to 6.5.14).
abbrev pub binary_level : folds.BinaryLevel Symbols → Symbols
binary_level level = level.first ++ flat_map operand_level level.rest

-- The condition, `?`, what is taken where it holds, and `:` (6.5.15).
abbrev pub arm_level : folds.ArmLevel Symbols → Symbols
arm_level level =
    level.test ++
    (mark level.marks 0 MARK_QUESTION ++ (level.then ++ mark level.marks 1 MARK_COLON))

-- The conditions, each with what is taken where it holds, and then what is taken last (6.5.15).
abbrev pub cond_level : folds.CondLevel Symbols → Symbols
cond_level level = joined level.arms ++ level.last

-- What is assigned to, and then the operator (6.5.16).
abbrev pub target_level : Symbols × ℕ → Symbols
target_level target = target.0 ++ wanted target.1 (Among slot.AssignOp)

-- The targets, and then the value (6.5.16).
abbrev pub assign_level : folds.AssignLevel Symbols → Symbols
assign_level level = flat_map target_level level.targets ++ level.value

-- The parts with a comma between two of them (6.5.17).
abbrev pub expr_level : folds.ExprLevel Symbols → Symbols
expr_level level = separated no_end level.parts level.marks

-- ---- Declarations

-- Specifiers, and declarators with a comma between two of them, and `;` (6.7); or a condition and a
-- text in parentheses after `_Static_assert`, and `;` (6.7.10).
abbrev pub declaration_level : folds.DeclarationLevel Symbols → Symbols
declaration_level (o.Declaration-F.Names specs list marks) =
    specs ++ separated (closed_by MARK_SEMICOLON) list marks
declaration_level (o.Declaration-F.Assert cond text marks) =
    key marks 0 KEY_STATIC_ASSERT ++
    (mark marks 1 MARK_LEFT_PAREN ++
    (cond ++
    (mark marks 2 MARK_COMMA ++
    (all_wanted Text text ++
    (mark marks 3 MARK_RIGHT_PAREN ++ mark marks 4 MARK_SEMICOLON)))))

-- The declarator, and then `=` and the initialiser, if any (6.7).
abbrev pub init_declarator_level : folds.InitDeclaratorLevel Symbols → Symbols
init_declarator_level level = level.declarator ++ led_by MARK_EQUAL level.marks level.init

-- A value, or a list in braces (6.7.9).
abbrev pub init_level : folds.InitLevel Symbols → Symbols
init_level (o.Init-F.Value expr) = expr
init_level (o.Init-F.Items list marks) = braced list marks

-- The designators and `=`, if any, and then the initialiser (6.7.9).
abbrev pub init_item_level : folds.InitItemLevel Symbols → Symbols
init_item_level level =
    joined level.designators ++ (mark level.marks 0 MARK_EQUAL ++ level.init)

-- An index in brackets, or a name after `.` (6.7.9).
abbrev pub designator_level : folds.DesignatorLevel Symbols → Symbols
designator_level (o.Designator-F.Designator::Index expr marks) =
    between MARK_LEFT_BRACKET MARK_RIGHT_BRACKET expr marks
designator_level (o.Designator-F.Field name marks) = mark marks 0 MARK_DOT ++ wanted name Word

-- Specifiers, one after the other (6.7).
abbrev pub specs_level : folds.SpecsLevel Symbols → Symbols
specs_level level = joined level.words

-- The declarations of members between braces (6.7.2.1).
abbrev pub members : Option (List Symbols) → List ℕ → Symbols
members None marks = []
members (Some list) marks = between MARK_LEFT_BRACE MARK_RIGHT_BRACE (joined list) marks

-- The enumerators between braces (6.7.2.2).
abbrev pub enumerators : Option (List Symbols) → List ℕ → Symbols
enumerators None marks = []
enumerators (Some list) marks = braced list marks

-- One keyword or a typedef name (6.7.1 to 6.7.4); `_Atomic` and a type name in parentheses
-- (6.7.2.4); `_Alignas` and a type name or an expression in parentheses (6.7.5); or a record or an
-- enumeration, with its tag and its body, if any (6.7.2.1, 6.7.2.2).
abbrev pub spec_level : folds.SpecLevel Symbols → Symbols
spec_level (o.Spec-F.Storage token) = wanted token (Among slot.Storage)
spec_level (o.Spec-F.Function token) = wanted token (Among slot.Function)
spec_level (o.Spec-F.Qualifier token) = wanted token (Among slot.Qualifier)
spec_level (o.Spec-F.Basic token) = wanted token (Among slot.Basic)
spec_level (o.Spec-F.Named name) = wanted name Word
spec_level (o.Spec-F.Atomic type_name marks) = key_parens KEY_ATOMIC type_name marks
spec_level (o.Spec-F.AlignType type_name marks) = key_parens KEY_ALIGNAS type_name marks
spec_level (o.Spec-F.AlignExpr expr marks) = key_parens KEY_ALIGNAS expr marks
spec_level (o.Spec-F.Record kind tag body marks) =
    wanted kind (Among slot.RecordKey) ++ (wanted_if tag Word ++ members body marks)
spec_level (o.Spec-F.Enumeration kind tag body marks) =
    wanted kind (Key KEY_ENUM) ++ (wanted_if tag Word ++ enumerators body marks)

-- The name, and then `=` and the value, if any (6.7.2.2).
abbrev pub enumerator_level : folds.EnumeratorLevel Symbols → Symbols
enumerator_level level = wanted level.name Word ++ led_by MARK_EQUAL level.marks level.value

-- `*`, and then the qualifiers (6.7.6.1).
abbrev pub pointer_level : Pointer → Symbols
pointer_level pointer =
    wanted pointer.star (Mark MARK_STAR) ++ all_wanted (Among slot.Qualifier) pointer.qualifiers

unfoldable pub pointer_spelling : Pointer → Symbols
pointer_spelling = pointer_level

-- The pointers, the core, the suffixes (6.7.6), and then `:` and the width, if any (6.7.2.1).
abbrev pub declarator_level : folds.DeclaratorLevel Symbols → Symbols
declarator_level level =
    joined (map pointer_spelling level.pointers) ++
    (level.core ++ (joined level.suffixes ++ led_by MARK_COLON level.marks level.width))

-- The name that is declared, a declarator in parentheses, or nothing (6.7.6, 6.7.7).
abbrev pub core_level : folds.CoreLevel Symbols → Symbols
core_level (o.Core-F.Core::Name name) = wanted name Word
core_level (o.Core-F.Core::Group declarator marks) = in_parens declarator marks
core_level o.Core-F.Empty = []

-- `static` and qualifiers, the size and `*`, as far as they are there, in brackets (6.7.6.2); or
-- the parameters in parentheses (6.7.6.3).
abbrev pub suffix_level : folds.SuffixLevel Symbols → Symbols
suffix_level (o.Suffix-F.Array words size star marks) =
    between MARK_LEFT_BRACKET MARK_RIGHT_BRACKET
    (all_wanted (Among slot.ArrayWord) words ++
    (if_some size ++ wanted_if star (Mark MARK_STAR)))
    marks
suffix_level (o.Suffix-F.Params list dots marks) =
    mark marks 0 MARK_LEFT_PAREN ++ separated (params_end dots) list (drop 1 marks)

-- The specifiers, and then the declarator (6.7.6.3).
abbrev pub param_level : folds.ParamLevel Symbols → Symbols
param_level level = level.specs ++ level.declarator

-- The specifiers, and then the declarator (6.7.7).
abbrev pub type_name_level : folds.TypeNameLevel Symbols → Symbols
type_name_level level = level.specs ++ level.declarator

-- The steps of declarations and expressions.
abbrev pub spelling_steps : folds.Steps Symbols
spelling_steps = record {
  base_form = base_form_level;
  core = core_level;
  declaration = declaration_level;
  designator = designator_level;
  init = init_level;
  post = post_level;
  prefix = prefix_level;
  spec = spec_level;
  suffix = suffix_level;
  arm = arm_level;
  assign = assign_level;
  base = base_level;
  binary = binary_level;
  cond = cond_level;
  declarator = declarator_level;
  enumerator = enumerator_level;
  expr = expr_level;
  init_declarator = init_declarator_level;
  init_item = init_item_level;
  param = param_level;
  prefixed = prefixed_level;
  specs = specs_level;
  type_name = type_name_level;
}

unfoldable pub declaration_spelling : Declaration → Symbols
declaration_spelling = folds.declaration_fold spelling_steps

unfoldable pub init_declarator_spelling : InitDeclarator → Symbols
init_declarator_spelling = folds.init_declarator_fold spelling_steps

unfoldable pub init_spelling : Init → Symbols
init_spelling = folds.init_fold spelling_steps

unfoldable pub init_item_spelling : InitItem → Symbols
init_item_spelling = folds.init_item_fold spelling_steps

unfoldable pub designator_spelling : Designator → Symbols
designator_spelling = folds.designator_fold spelling_steps

unfoldable pub specs_spelling : Specs → Symbols
specs_spelling = folds.specs_fold spelling_steps

unfoldable pub spec_spelling : Spec → Symbols
spec_spelling = folds.spec_fold spelling_steps

unfoldable pub enumerator_spelling : Enumerator → Symbols
enumerator_spelling = folds.enumerator_fold spelling_steps

unfoldable pub declarator_spelling : Declarator → Symbols
declarator_spelling = folds.declarator_fold spelling_steps

unfoldable pub core_spelling : Core → Symbols
core_spelling = folds.core_fold spelling_steps

unfoldable pub suffix_spelling : Suffix → Symbols
suffix_spelling = folds.suffix_fold spelling_steps

unfoldable pub param_spelling : Param → Symbols
param_spelling = folds.param_fold spelling_steps

unfoldable pub type_name_spelling : TypeName → Symbols
type_name_spelling = folds.type_name_fold spelling_steps

unfoldable pub expr_spelling : Expr → Symbols
expr_spelling = folds.expr_fold spelling_steps

unfoldable pub assign_spelling : Assign → Symbols
assign_spelling = folds.assign_fold spelling_steps

unfoldable pub cond_spelling : Cond → Symbols
cond_spelling = folds.cond_fold spelling_steps

unfoldable pub arm_spelling : Arm → Symbols
arm_spelling = folds.arm_fold spelling_steps

unfoldable pub binary_spelling : Binary → Symbols
binary_spelling = folds.binary_fold spelling_steps

unfoldable pub prefixed_spelling : Prefixed → Symbols
prefixed_spelling = folds.prefixed_fold spelling_steps

unfoldable pub prefix_spelling : Prefix → Symbols
prefix_spelling = folds.prefix_fold spelling_steps

unfoldable pub base_spelling : Base → Symbols
base_spelling = folds.base_fold spelling_steps

unfoldable pub base_form_spelling : BaseForm → Symbols
base_form_spelling = folds.base_form_fold spelling_steps

unfoldable pub post_spelling : Post → Symbols
post_spelling = folds.post_fold spelling_steps

-- What is assigned to, and then the operator (6.5.16).
abbrev pub target_spelling : Prefixed × ℕ → Symbols
target_spelling target = target_level (prefixed_spelling target.0, target.1)

-- A binary operator, and then its right operand (6.5.5 to 6.5.14).
abbrev pub operand_spelling : ℕ × Prefixed → Symbols
operand_spelling operand = operand_level (operand.0, prefixed_spelling operand.1)

-- ---- Statements

-- A name, a constant expression after `case`, or `default`, and then `:` (6.8.1).
abbrev pub label_level : Label → Symbols
label_level (label.Label name marks) = wanted name Word ++ mark marks 0 MARK_COLON
label_level (label.Case expr marks) =
    key marks 0 KEY_CASE ++ (expr_spelling expr ++ mark marks 1 MARK_COLON)
label_level (label.Default token marks) =
    wanted token (Key KEY_DEFAULT) ++ mark marks 0 MARK_COLON

unfoldable pub label_spelling : Label → Symbols
label_spelling = label_level

-- What stands before the second part of a `for`, with its `;` (6.8.5).
abbrev pub for_init_level : ForInit → Symbols
for_init_level (for_init.Nothing marks) = mark marks 0 MARK_SEMICOLON
for_init_level (for_init.Value expr marks) = expr_spelling expr ++ mark marks 0 MARK_SEMICOLON
for_init_level (for_init.Declare declaration) = declaration_spelling declaration

unfoldable pub for_init_spelling : ForInit → Symbols
for_init_spelling = for_init_level

-- The expression, where it is there.
abbrev pub expr_if : Option Expr → Symbols
expr_if None = []
expr_if (Some expr) = expr_spelling expr

-- `if`, a condition in parentheses, and what is done where it holds (6.8.4.1).
abbrev pub if_arm : Expr × Symbols → List ℕ → Symbols
if_arm arm marks = key_parens KEY_IF (expr_spelling arm.0) marks ++ arm.1

-- The other conditions, each after its `else`, and then `else` and what is done where none holds,
-- if anything, by the marks that are left.
abbrev pub other_arms : Option Symbols → List (Expr × Symbols) → List ℕ → Symbols
other_arms other [] marks = key marks 0 KEY_ELSE ++ if_some other
other_arms other (arm ∷ arms) marks =
    key marks 0 KEY_ELSE ++ (if_arm arm (drop 1 marks) ++ other_arms other arms (drop 4 marks))

-- The conditions, with `else` between two of them, and then `else` and the last part (6.8.4.1).
abbrev pub if_arms : Option Symbols → List (Expr × Symbols) → List ℕ → Symbols
if_arms other [] marks = key marks 0 KEY_ELSE ++ if_some other
if_arms other (arm ∷ arms) marks = if_arm arm marks ++ other_arms other arms (drop 3 marks)

-- A statement without its labels (6.8.2 to 6.8.6).
abbrev pub stmt_kind_level : folds.StmtKindLevel Symbols → Symbols
stmt_kind_level (s.StmtKind-F.Empty marks) = mark marks 0 MARK_SEMICOLON
stmt_kind_level (s.StmtKind-F.Value expr marks) = expr_spelling expr ++ mark marks 0 MARK_SEMICOLON
stmt_kind_level (s.StmtKind-F.Braced block) = block
stmt_kind_level (s.StmtKind-F.If arms other marks) = if_arms other arms marks
stmt_kind_level (s.StmtKind-F.While expr body marks) =
    key_parens KEY_WHILE (expr_spelling expr) marks ++ body
stmt_kind_level (s.StmtKind-F.DoWhile body expr marks) =
    key marks 0 KEY_DO ++
    (body ++
    (key_parens KEY_WHILE (expr_spelling expr) (drop 1 marks) ++ mark marks 4 MARK_SEMICOLON))
stmt_kind_level (s.StmtKind-F.For init cond step body marks) =
    key marks 0 KEY_FOR ++
    (mark marks 1 MARK_LEFT_PAREN ++
    (for_init_spelling init ++
    (expr_if cond ++
    (mark marks 2 MARK_SEMICOLON ++
    (expr_if step ++ (mark marks 3 MARK_RIGHT_PAREN ++ body))))))
stmt_kind_level (s.StmtKind-F.Switch expr body marks) =
    key_parens KEY_SWITCH (expr_spelling expr) marks ++ body
stmt_kind_level (s.StmtKind-F.Break marks) = key marks 0 KEY_BREAK ++ mark marks 1 MARK_SEMICOLON
stmt_kind_level (s.StmtKind-F.Continue marks) =
    key marks 0 KEY_CONTINUE ++ mark marks 1 MARK_SEMICOLON
stmt_kind_level (s.StmtKind-F.Goto name marks) =
    key marks 0 KEY_GOTO ++ (wanted name Word ++ mark marks 1 MARK_SEMICOLON)
stmt_kind_level (s.StmtKind-F.Return expr marks) =
    key marks 0 KEY_RETURN ++ (expr_if expr ++ mark marks 1 MARK_SEMICOLON)

-- The labels, and then the statement (6.8.1).
abbrev pub stmt_level : folds.StmtLevel Symbols → Symbols
stmt_level level = joined (map label_spelling level.labels) ++ level.kind

-- A declaration or a statement (6.8.2).
abbrev pub block_item_level : folds.BlockItemLevel Symbols → Symbols
block_item_level (s.BlockItem-F.Declare declaration) = declaration_spelling declaration
block_item_level (s.BlockItem-F.Do stmt) = stmt

-- The items between braces (6.8.2).
abbrev pub block_level : folds.BlockLevel Symbols → Symbols
block_level level =
    between MARK_LEFT_BRACE MARK_RIGHT_BRACE (joined level.items) level.marks

-- The steps of statements.
abbrev pub stmt_spelling_steps : folds.StmtSteps Symbols
stmt_spelling_steps = record {
  block_item = block_item_level;
  stmt_kind = stmt_kind_level;
  block = block_level;
  stmt = stmt_level;
}

unfoldable pub block_spelling : Block → Symbols
block_spelling = folds.block_fold stmt_spelling_steps

unfoldable pub block_item_spelling : BlockItem → Symbols
block_item_spelling = folds.block_item_fold stmt_spelling_steps

unfoldable pub stmt_spelling : Stmt → Symbols
stmt_spelling = folds.stmt_fold stmt_spelling_steps

unfoldable pub stmt_kind_spelling : StmtKind → Symbols
stmt_kind_spelling = folds.stmt_kind_fold stmt_spelling_steps

-- ---- Translation units

-- The specifiers, the declarator and the body of a function (6.9.1), or a declaration (6.9.2).
abbrev pub item_level : Item → Symbols
item_level (item.Define specs declarator body) =
    specs_spelling specs ++ (declarator_spelling declarator ++ block_spelling body)
item_level (item.Declare declaration) = declaration_spelling declaration

unfoldable pub item_spelling : Item → Symbols
item_spelling = item_level

-- The external declarations, one after the other (6.9).
abbrev pub unit_level : Unit → Symbols
unit_level unit = joined (map item_spelling unit.items)

unfoldable pub unit_spelling : Unit → Symbols
unit_spelling = unit_level
