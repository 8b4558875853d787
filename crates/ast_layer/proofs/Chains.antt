-- Chains of operators: their CALLs are entered one by one, and left one by one.
use Rattle.std.proofs.Common.{◌≡◌, ℕ, zero, suc, ◌+◌, ◌<◌, ◌≤◌, List, [], ◌∷◌, ◌++◌, length, get_or, take, drop, refl, sym, ap, subst, ◌∙◌, arith, add-one, drop-cons, take-suc}
use Rattle.std.proofs.lemmas.List.{take_all, drop_all}
use Rattle.c_tree.specs.declared.tree.Prefixed.{Prefixed}
use Rattle.graph_forest.specs.Forest.{leaf}
use Rattle.graph_forest.specs.Planting.{Planting, Plants, Enters, Leaves}
use Rattle.graph_forest.proofs.Composing.{plants_beside, plants_branch}
use Rattle.graph_forest.specs.declared.rank.Rank.{Rank}
use Rattle.ast_layer.specs.Source.{File}
use Rattle.ast_layer.specs.Grouping.{Grouped, Operand, Joined, to_the_left, to_the_right, first_token, operand_token}
use Rattle.graph_forest.specs.Ranks.{argument}
use Rattle.ast_layer.specs.Nodes.{call_node, operand_node}
use Rattle.ast_layer.specs.Forests.{grouped_forest}

-- What is left of a list begins with the item at the position.
pub left_is : {X : Type 0} → (items : List X) (i : ℕ) (item : X) → i < length items → item ≡ get_or items i item →
    drop i items ≡ item ∷ drop (i + 1) items
left_is {X} items i item below is =
    let step : drop i items ≡ get_or items i item ∷ drop (i + 1) items = rw add-one (drop-cons items i item below) in
    step ∙ ap (λ (x : X). x ∷ drop (i + 1) items) (sym is)

-- ---- Assignments

-- So many of the innermost open nodes are left, one after another.
abbrev pub LeavesMany : ℕ → Planting → Planting → Type 0
LeavesMany zero a c = a ≡ c
LeavesMany (suc n) a c = (b : Planting) × Leaves a b × LeavesMany n b c

-- What is planted when the nodes that are open since a chain began are left.
pub record PlantsLeft (a closed : Planting) (n : ℕ) (file : File) (rank : Rank) (grouped : Grouped) : Type 0 where
  pub after : Planting
  pub planted : Plants a after (grouped_forest file rank grouped)
  pub left : LeavesMany n after closed

-- The assignment to the targets from i on, whose first operator is entered, and whose first target is planted.
pub targets_step : (a b c after closed : Planting) (file : File) (rank : Rank) (targets : List (Prefixed × ℕ)) (value : Grouped) (i : ℕ) (item : Prefixed × ℕ) →
    i < length targets → item ≡ get_or targets i item →
    Enters a b rank.hang (call_node file item.1 (operand_token item.0) rank) →
    Plants b c (leaf (argument 1).hang (operand_node file item.0 (argument 1))) →
    Plants c after (grouped_forest file (argument 2) (to_the_right (drop (i + 1) targets) value)) →
    LeavesMany (i + 1) after closed →
    PlantsLeft a closed i file rank (to_the_right (drop i targets) value)
targets_step a b c after closed file rank targets value i item below is enters target planted left =
    let here = left_is targets i item below is in
    let more : LeavesMany (suc i) after closed = subst (λ (n : ℕ). LeavesMany n after closed) (add-one i) left in
    let rest : Grouped = to_the_right (drop (i + 1) targets) value in
    let whole : Plants a more.0 (grouped_forest file rank (Joined item.1 (Operand item.0) rest)) =
    plants_branch _ _ _ _ _ _ _ enters (plants_beside _ _ _ _ _ target planted) more.1 in
    record {
      after = more.0;
      planted = subst (λ (l : List (Prefixed × ℕ)). Plants a more.0 (grouped_forest file rank (to_the_right l value))) (sym here) whole;
      left = more.2;
    }

-- ---- Sums

-- The last operator of a chain is the outermost.
to_the_left-snoc : (left : Grouped) (rest : List (ℕ × Prefixed)) (last : ℕ × Prefixed) →
    to_the_left left (rest ++ last ∷ []) ≡ Joined last.0 (to_the_left left rest) (Operand last.1)
to_the_left-snoc left [] last = refl
to_the_left-snoc left (next ∷ rest) last = to_the_left-snoc (Joined next.0 left (Operand next.1)) rest last

-- A chain begins as its first operand does.
first_token-left : (left : Grouped) (rest : List (ℕ × Prefixed)) → first_token (to_the_left left rest) ≡ first_token left
first_token-left left [] = refl
first_token-left left (next ∷ rest) = first_token-left (Joined next.0 left (Operand next.1)) rest

-- The first operands of a chain, with their operators.
abbrev pub front : Prefixed → List (ℕ × Prefixed) → ℕ → Grouped
front first rest n = to_the_left (Operand first) (take n rest)

-- The last of its operators, with that operator's right side.
front-step : (first : Prefixed) (rest : List (ℕ × Prefixed)) (n : ℕ) (item : ℕ × Prefixed) → n < length rest → item ≡ get_or rest n item →
    front first rest (n + 1) ≡ Joined item.0 (front first rest n) (Operand item.1)
front-step first rest n item below is =
    let step : take (n + 1) rest ≡ take n rest ++ get_or rest n item ∷ [] = rw add-one (take-suc rest n item below) in
    let same : take (n + 1) rest ≡ take n rest ++ item ∷ [] = step ∙ ap (λ (x : ℕ × Prefixed). take n rest ++ x ∷ []) (sym is) in
    ap (to_the_left (Operand first)) same ∙ to_the_left-snoc (Operand first) (take n rest) item

-- The right operands are planted, and after each the CALL that it ends is left.
abbrev pub Closes : File → List (ℕ × Prefixed) → Planting → Planting → Type 0
Closes file [] a d = a ≡ d
Closes file (next ∷ rest) a d =
    (b : Planting) × (c : Planting) × Plants a b (leaf (argument 2).hang (operand_node file next.1 (argument 2))) × Leaves b c × Closes file rest c d

-- What is planted when the operands from n on are planted and their CALLs left.
pub record PlantsClosed (a closed : Planting) (file : File) (rank : Rank) (first : Prefixed) (rest : List (ℕ × Prefixed)) (n : ℕ) : Type 0 where
  pub after : Planting
  pub planted : Plants a after (grouped_forest file rank (front first rest n))
  pub closes : Closes file (drop n rest) after closed

-- The CALL of the operator at n is entered, and what is before it is planted.
pub operators_step : (a b after closed : Planting) (file : File) (rank : Rank) (first : Prefixed) (rest : List (ℕ × Prefixed)) (n : ℕ) (item : ℕ × Prefixed) →
    n < length rest → item ≡ get_or rest n item →
    Enters a b rank.hang (call_node file item.0 (operand_token first) rank) →
    Plants b after (grouped_forest file (argument 1) (front first rest n)) →
    Closes file (drop n rest) after closed →
    PlantsClosed a closed file rank first rest (n + 1)
operators_step a b after closed file rank first rest n item below is enters planted closes =
    let here = left_is rest n item below is in
    let more : Closes file (item ∷ drop (n + 1) rest) after closed = subst (λ (l : List (ℕ × Prefixed)). Closes file l after closed) here closes in
    let begins : first_token (front first rest n) ≡ operand_token first = first_token-left (Operand first) (take n rest) in
    let entered : Enters a b rank.hang (call_node file item.0 (first_token (front first rest n)) rank) = rw begins enters in
    let whole : Plants a more.1 (grouped_forest file rank (Joined item.0 (front first rest n) (Operand item.1))) =
    plants_branch _ _ _ _ _ _ _ entered (plants_beside _ _ _ _ _ planted more.2) more.3 in
    record {
      after = more.1;
      planted = subst (λ (g : Grouped). Plants a more.1 (grouped_forest file rank g)) (sym (front-step first rest n item below is)) whole;
      closes = more.4;
    }

-- With all operators entered and all CALLs left, the whole chain is planted.
pub operators_all : (a after closed : Planting) (file : File) (rank : Rank) (first : Prefixed) (rest : List (ℕ × Prefixed)) (n : ℕ) → n ≡ length rest →
    Plants a after (grouped_forest file rank (front first rest n)) →
    Closes file (drop n rest) after closed →
    Plants a closed (grouped_forest file rank (to_the_left (Operand first) rest))
operators_all a after closed file rank first rest n all planted closes =
    let every : take n rest ≡ rest = take_all n rest (omega arith) in
    let none : drop n rest ≡ [] = drop_all n rest (omega arith) in
    let same : after ≡ closed = subst (λ (l : List (ℕ × Prefixed)). Closes file l after closed) none closes in
    subst (λ (c : Planting). Plants a c (grouped_forest file rank (to_the_left (Operand first) rest))) same
    (subst (λ (l : List (ℕ × Prefixed)). Plants a after (grouped_forest file rank (to_the_left (Operand first) l))) every planted)

-- One more operand is planted, and its CALL left.
pub closes_step : (a b c closed : Planting) (file : File) (rest : List (ℕ × Prefixed)) (i : ℕ) (item : ℕ × Prefixed) → i < length rest → item ≡ get_or rest i item →
    Plants a b (leaf (argument 2).hang (operand_node file item.1 (argument 2))) → Leaves b c → Closes file (drop (i + 1) rest) c closed →
    Closes file (drop i rest) a closed
closes_step a b c closed file rest i item below is planted left closes =
    subst (λ (l : List (ℕ × Prefixed)). Closes file l a closed) (sym (left_is rest i item below is)) (b, c, planted, left, closes)

-- No operand is left.
pub closes_none : (a : Planting) (file : File) (rest : List (ℕ × Prefixed)) (i : ℕ) → length rest ≤ i → Closes file (drop i rest) a a
closes_none a file rest i all = subst (λ (l : List (ℕ × Prefixed)). Closes file l a a) (sym (drop_all i rest all)) refl

-- Before the first operator stands an operand alone.
pub operators_none : (a b : Planting) (file : File) (rank : Rank) (first : Prefixed) (rest : List (ℕ × Prefixed)) (n : ℕ) → n ≡ 0 →
    Plants a b (leaf rank.hang (operand_node file first rank)) → Plants a b (grouped_forest file rank (front first rest n))
operators_none a b file rank first rest n none planted =
    subst (λ (n : ℕ). Plants a b (grouped_forest file rank (front first rest n))) (sym none) planted

-- One more open node is left.
pub leaves_step : (a b closed : Planting) (n m : ℕ) → n ≡ m + 1 → Leaves a b → LeavesMany m b closed → LeavesMany n a closed
leaves_step a b closed n m more left rest =
    subst (λ (k : ℕ). LeavesMany k a closed) (sym (more ∙ add-one m)) (b, left, rest)

pub leaves_none : (a : Planting) (n : ℕ) → n ≡ 0 → LeavesMany n a a
leaves_none a n none = subst (λ (k : ℕ). LeavesMany k a a) (sym none) refl

-- No target is left.
pub targets_end : (a b : Planting) (file : File) (rank : Rank) (targets : List (Prefixed × ℕ)) (value : Grouped) (i : ℕ) → length targets ≤ i →
    Plants a b (grouped_forest file rank value) → Plants a b (grouped_forest file rank (to_the_right (drop i targets) value))
targets_end a b file rank targets value i all planted =
    subst (λ (l : List (Prefixed × ℕ)). Plants a b (grouped_forest file rank (to_the_right l value))) (sym (drop_all i targets all)) planted
