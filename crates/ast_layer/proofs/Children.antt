-- One more child of a BLOCK: what is left begins with the child.
use Rattle.std.proofs.Common.{◌≡◌, ℕ, ◌+◌, ◌<◌, ◌≤◌, Option, Some, None, slice_get, List, length, get_or, drop, sym, ap, subst, ◌∙◌}
use Rattle.std.proofs.lemmas.List.{drop_all}
use Rattle.c_tree.specs.declared.tree.Item.{Item}
use Rattle.c_tree.specs.declared.tree.BlockItem.{BlockItem}
use Rattle.c_tree.specs.declared.tree.Assign.{Assign}
use Rattle.graph_forest.specs.Planting.{Planting, Plants}
use Rattle.graph_forest.proofs.Composing.{plants_none, plants_beside}
use Rattle.ast_layer.specs.Source.{File}
use Rattle.ast_layer.specs.Grouping.{Grouped}
use Rattle.graph_forest.specs.Ranks.{child}
use Rattle.ast_layer.specs.Forests.{grouped_forest, statement, item_parts, grouped_part, and_then, expressions, children_forest, function_forest, functions_forest}
use Rattle.ast_layer.proofs.Chains.{left_is}

-- The expression of a statement, where this is what stands first among its parts.
pub statement_is : (item : BlockItem) (parts : List Assign) (found : Option Assign) →
    parts ≡ item_parts item → found ≡ slice_get parts 0 → statement item ≡ grouped_part found
statement_is item parts found all first =
    ap grouped_part (ap (λ (x : List Assign). slice_get x 0) (sym all) ∙ sym first)

expressions_left : (items : List BlockItem) (i : ℕ) (item : BlockItem) (found : Option Grouped) → i < length items → item ≡ get_or items i item → statement item ≡ found →
    expressions (drop i items) ≡ and_then found (expressions (drop (i + 1) items))
expressions_left items i item found below is said =
    ap expressions (left_is items i item below is) ∙ ap (λ (s : Option Grouped). and_then s (expressions (drop (i + 1) items))) said

-- A statement with an expression is planted.
pub statements_step : (a b after : Planting) (file : File) (order : ℕ) (items : List BlockItem) (i : ℕ) (item : BlockItem) (grouped : Grouped) →
    i < length items → item ≡ get_or items i item → statement item ≡ Some grouped →
    Plants a b (grouped_forest file (child order) grouped) →
    Plants b after (children_forest file (order + 1) (expressions (drop (i + 1) items))) →
    Plants a after (children_forest file order (expressions (drop i items)))
statements_step a b after file order items i item grouped below is said one rest =
    subst (λ (children : List Grouped). Plants a after (children_forest file order children)) (sym (expressions_left items i item (Some grouped) below is said))
    (plants_beside _ _ _ _ _ one rest)

-- A statement without one is passed over.
pub statements_skip : (a after : Planting) (file : File) (order : ℕ) (items : List BlockItem) (i : ℕ) (item : BlockItem) →
    i < length items → item ≡ get_or items i item → statement item ≡ None →
    Plants a after (children_forest file order (expressions (drop (i + 1) items))) →
    Plants a after (children_forest file order (expressions (drop i items)))
statements_skip a after file order items i item below is said rest =
    subst (λ (children : List Grouped). Plants a after (children_forest file order children)) (sym (expressions_left items i item None below is said)) rest

-- No statement is left.
pub statements_end : (a : Planting) (file : File) (order : ℕ) (items : List BlockItem) (i : ℕ) → length items ≤ i →
    Plants a a (children_forest file order (expressions (drop i items)))
statements_end a file order items i all =
    subst (λ (l : List BlockItem). Plants a a (children_forest file order (expressions l))) (sym (drop_all i items all)) (plants_none a)

-- A function is planted.
pub functions_step : (a b after : Planting) (file : File) (order : ℕ) (items : List Item) (i : ℕ) (item : Item) →
    i < length items → item ≡ get_or items i item →
    Plants a b (function_forest file order item) →
    Plants b after (functions_forest file (order + 1) (drop (i + 1) items)) →
    Plants a after (functions_forest file order (drop i items))
functions_step a b after file order items i item below is one rest =
    subst (λ (l : List Item). Plants a after (functions_forest file order l)) (sym (left_is items i item below is)) (plants_beside _ _ _ _ _ one rest)

-- No function is left.
pub functions_end : (a : Planting) (file : File) (order : ℕ) (items : List Item) (i : ℕ) → length items ≤ i →
    Plants a a (functions_forest file order (drop i items))
functions_end a file order items i all =
    subst (λ (l : List Item). Plants a a (functions_forest file order l)) (sym (drop_all i items all)) (plants_none a)
