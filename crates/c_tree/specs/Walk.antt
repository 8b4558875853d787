-- What the walk over a tree still has to spell, and how much work it is.

use Rattle.std.specs.Prelude.{ℕ, ◌+◌, List, [], ◌∷◌, ◌++◌, drop, map}
use Rattle.std.specs.Option.{option_map}
use Rattle.c_lexer.specs.declared.mark.TheConstants.{MARK_COMMA}
use Rattle.c_tree.specs.Spell.{mark}
use Rattle.c_tree.specs.Spell.{Symbols, item_spelling, declaration_spelling}
use Rattle.c_tree.specs.Spell.{init_declarator_spelling, init_item_spelling, designator_spelling}
use Rattle.c_tree.specs.Spell.{spec_spelling, enumerator_spelling, declarator_spelling}
use Rattle.c_tree.specs.Spell.{pointer_spelling, suffix_spelling, param_spelling, assign_spelling}
use Rattle.c_tree.specs.Spell.{target_spelling, arm_spelling, operand_spelling, prefix_spelling}
use Rattle.c_tree.specs.Spell.{post_spelling, block_item_spelling, label_spelling, stmt_spelling}
use Rattle.c_tree.specs.Spell.{other_arms}
use Rattle.c_tree.specs.Weights.{listed, weight_if, item_weight, declaration_weight}
use Rattle.c_tree.specs.Weights.{init_declarator_weight, init_item_weight, designator_weight}
use Rattle.c_tree.specs.Weights.{spec_weight, enumerator_weight, declarator_weight, pointer_weight}
use Rattle.c_tree.specs.Weights.{suffix_weight, param_weight, assign_weight, target_weight}
use Rattle.c_tree.specs.Weights.{arm_weight, operand_weight, prefix_weight, post_weight}
use Rattle.c_tree.specs.Weights.{block_item_weight, label_weight, expr_weight, stmt_weight}
use Rattle.c_tree.specs.declared.tree.Expr.{Expr}
use Rattle.c_tree.specs.declared.tree.Stmt.{Stmt}
use Rattle.c_tree.specs.declared.part.Part.{Part}
use Rattle.c_tree.specs.declared.part.Part.TheVariants as part

-- Parts, each after its comma.
abbrev pub after_commas : List Symbols → List ℕ → Symbols
after_commas [] marks = []
after_commas (part ∷ parts) marks =
    mark marks 0 MARK_COMMA ++ (part ++ after_commas parts (drop 1 marks))

-- Parts with a comma between two of them.
abbrev pub with_commas : List Symbols → List ℕ → Symbols
with_commas [] marks = []
with_commas (part ∷ parts) marks = part ++ after_commas parts marks

-- The conditions of an `if`, each with what its statement spells.
abbrev pub spelled_arms : List (Expr × Stmt) → List (Expr × Symbols)
spelled_arms arms = map (λ t. (t.0, stmt_spelling t.1)) arms

-- The work of the conditions of an `if`, each with its statement.
abbrev pub arms_weight : List (Expr × Stmt) → ℕ
arms_weight arms =
    listed
    (map (λ (t : Expr × ℕ). expr_weight t.0 + t.1) (map (λ t. (t.0, stmt_weight t.1)) arms))

-- What a part spells.
abbrev pub part_spelling : Part → Symbols
part_spelling (part.Symbol symbol) = symbol ∷ []
part_spelling (part.Item item) = item_spelling item.now
part_spelling (part.Declaration declaration) = declaration_spelling declaration.now
part_spelling (part.InitDeclarator declarator) = init_declarator_spelling declarator.now
part_spelling (part.InitItem item) = init_item_spelling item.now
part_spelling (part.Designator designator) = designator_spelling designator.now
part_spelling (part.Spec spec) = spec_spelling spec.now
part_spelling (part.Enumerator enumerator) = enumerator_spelling enumerator.now
part_spelling (part.Declarator declarator) = declarator_spelling declarator.now
part_spelling (part.Pointer pointer) = pointer_spelling pointer.now
part_spelling (part.Suffix suffix) = suffix_spelling suffix.now
part_spelling (part.Param param) = param_spelling param.now
part_spelling (part.Assign assign) = assign_spelling assign.now
part_spelling (part.Target target) = target_spelling target.now
part_spelling (part.Arm arm) = arm_spelling arm.now
part_spelling (part.Operand operand) = operand_spelling operand.now
part_spelling (part.Prefix prefix) = prefix_spelling prefix.now
part_spelling (part.Post post) = post_spelling post.now
part_spelling (part.BlockItem item) = block_item_spelling item.now
part_spelling (part.Label label) = label_spelling label.now
part_spelling (part.Stmt stmt) = stmt_spelling stmt.now
part_spelling (part.OtherArms arms other marks) =
    other_arms (option_map stmt_spelling other.now) (spelled_arms arms.now) marks.now

-- What the parts spell, of which the last comes first.
unfoldable pub pending_spelling : List Part → Symbols
pending_spelling [] = []
pending_spelling (part ∷ parts) = pending_spelling parts ++ part_spelling part

-- How much work a part is.
abbrev pub part_weight : Part → ℕ
part_weight (part.Symbol symbol) = 1
part_weight (part.Item item) = item_weight item.now
part_weight (part.Declaration declaration) = declaration_weight declaration.now
part_weight (part.InitDeclarator declarator) = init_declarator_weight declarator.now
part_weight (part.InitItem item) = init_item_weight item.now
part_weight (part.Designator designator) = designator_weight designator.now
part_weight (part.Spec spec) = spec_weight spec.now
part_weight (part.Enumerator enumerator) = enumerator_weight enumerator.now
part_weight (part.Declarator declarator) = declarator_weight declarator.now
part_weight (part.Pointer pointer) = pointer_weight pointer.now
part_weight (part.Suffix suffix) = suffix_weight suffix.now
part_weight (part.Param param) = param_weight param.now
part_weight (part.Assign assign) = assign_weight assign.now
part_weight (part.Target target) = target_weight target.now
part_weight (part.Arm arm) = arm_weight arm.now
part_weight (part.Operand operand) = operand_weight operand.now
part_weight (part.Prefix prefix) = prefix_weight prefix.now
part_weight (part.Post post) = post_weight post.now
part_weight (part.BlockItem item) = block_item_weight item.now
part_weight (part.Label label) = label_weight label.now
part_weight (part.Stmt stmt) = stmt_weight stmt.now
part_weight (part.OtherArms arms other marks) =
    2 + (arms_weight arms.now + weight_if (option_map stmt_weight other.now))

-- The weight of the parts.
unfoldable pub pending_weight : List Part → ℕ
pending_weight [] = 0
pending_weight (part ∷ parts) = pending_weight parts + part_weight part
