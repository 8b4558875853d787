-- A tree of positions, its least one, and a change of one leaf.
use Rattle.std.proofs.Common.{◌≡◌, ◌≢◌, ℕ, zero, suc, ◌+◌, ◌*◌, ◌-◌, ◌/◌, ◌%◌, ◌<◌, ◌≤◌, ◌⊎◌, inl, inr, Bool, true, false, List, length, get_or, set, min, refl, sym, ap, ◌∙◌, arith, subst, cond}
use Rattle.std.proofs.Math.ListN.{length-set}
use Rattle.std.proofs.Math.Nat.{min-le_left, min-le_right, min-eq_left, le-min, div-add-mod'}
use Rattle.std.proofs.lemmas.Bool.{cases_lt, cases_eq}
use Rattle.std.proofs.lemmas.List.{get_or-set_same, get_or-set_other}
use Rattle.summary_core.specs.declared.marks.Marks.{Marks}
use Rattle.summary_core.specs.Marking.{IsLeastMarked, IsMarked, IsParent, IsSettled, IsTree, Puts, Settles}

-- the node above another
pub halved : (node : ℕ) → IsParent (node / 2) node
halved node =
    let parts : node / 2 * 2 + node % 2 ≡ node = div-add-mod' node 2 in
    elim (cases_eq (node % 2) 0) [
      | inl even ↦ inl (omega arith)
      | inr odd ↦ inr (let low : node % 2 < 2 = omega arith in omega arith)
    ]

-- a write above leaves a settled node settled, unless it is the node or right below it
settled_set : (nodes : List ℕ) (at value node : ℕ) → node ≢ at → ¬ IsParent node at → IsSettled nodes node → IsSettled (set nodes at value) node
settled_set nodes at value node differs beside is =
    rw (get_or-set_other nodes at node value 0 differs, get_or-set_other nodes at (2 * node) value 0 (λ same. beside (inl (sym same))), get_or-set_other nodes at (2 * node + 1) value 0 (λ same. beside (inr (sym same)))) is

-- All nodes are settled but the one above this one.
pub record Settling (count : ℕ) (start nodes : List ℕ) (node : ℕ) : Type 0 where
  pub len : length nodes ≡ length start
  pub leaves : (leaf : ℕ) → count ≤ leaf → get_or nodes leaf 0 ≡ get_or start leaf 0
  pub some : 1 ≤ node
  pub below : node < 2 * count
  pub others : (other : ℕ) → 1 ≤ other → other < count → ¬ IsParent other node → IsSettled nodes other

pub settling_none : (count : ℕ) (start : List ℕ) (leaf : ℕ) → count ≤ leaf → leaf < 2 * count → ((other : ℕ) → 1 ≤ other → other < count → ¬ IsParent other leaf → IsSettled start other) → Settling count start start leaf
settling_none count start leaf behind below others = record { len = refl; leaves = λ l is. refl; some = omega arith; below = below; others = others }

pub settling_more : (count : ℕ) (start nodes : List ℕ) (node parent : ℕ) → length start ≡ 2 * count → IsParent parent node → 1 < node → Settling count start nodes node →
    Settling count start (set nodes parent (min (get_or nodes (2 * parent) 0) (get_or nodes (2 * parent + 1) 0))) parent
settling_more count start nodes node parent total above inner is =
    let value = min (get_or nodes (2 * parent) 0) (get_or nodes (2 * parent + 1) 0) in
    let some : 1 ≤ parent = elim above [ inl even ↦ omega arith | inr odd ↦ omega arith ] in
    let small : parent < count = let below = is.below in elim above [ inl even ↦ omega arith | inr odd ↦ omega arith ] in
    let inside : parent < length nodes = omega (arith, is.len) in
    record {
      len = length-set nodes parent value ∙ is.len;
      leaves = λ leaf behind. get_or-set_other nodes parent leaf value 0 (λ same. omega (arith, same)) ∙ is.leaves leaf behind;
      some = some;
      below = omega arith;
      others = λ other first inner beside. elim (cases_eq other parent) [
        | inl same ↦ subst (λ (i : ℕ). IsSettled (set nodes parent value) i) (sym same)
            (rw (get_or-set_same nodes parent value 0 inside, get_or-set_other nodes parent (2 * parent) value 0 (λ e. omega (arith, e)), get_or-set_other nodes parent (2 * parent + 1) value 0 (λ e. omega (arith, e))) refl)
        | inr differs ↦ settled_set nodes parent value other differs beside (is.others other first inner (λ below. differs (same_parent other below)))
      ];
    }
  where
    same_parent : (other : ℕ) → IsParent other node → other ≡ parent
    same_parent other below = elim below [
      | inl even ↦ elim above [ inl e ↦ omega arith | inr o ↦ omega arith ]
      | inr odd ↦ elim above [ inl e ↦ omega arith | inr o ↦ omega arith ]
    ]

pub settling_end : (count : ℕ) (start nodes : List ℕ) (node : ℕ) → node ≤ 1 → Settling count start nodes node → Settles count start nodes
settling_end count start nodes node root is = record {
  len = is.len;
  leaves = is.leaves;
  settled = λ other first inner. is.others other first inner (λ below. elim below [ inl even ↦ omega arith | inr odd ↦ omega arith ]);
}

-- The leaves hold their positions, and the nodes from this one on are settled.
pub record Building (count : ℕ) (nodes : List ℕ) (node : ℕ) : Type 0 where
  pub len : length nodes ≡ 2 * count
  pub leaves : (position : ℕ) → position < count → get_or nodes (count + position) 0 ≡ position
  pub within : node ≤ count
  pub settled : (other : ℕ) → 1 ≤ other → node ≤ other → other < count → IsSettled nodes other

pub building_more : (count : ℕ) (nodes : List ℕ) (node : ℕ) → 1 < node → Building count nodes node →
    Building count (set nodes (node - 1) (min (get_or nodes (2 * (node - 1)) 0) (get_or nodes (2 * (node - 1) + 1) 0))) (node - 1)
building_more count nodes node inner is =
    let at = node - 1 in
    let value = min (get_or nodes (2 * at) 0) (get_or nodes (2 * at + 1) 0) in
    let inside : at < length nodes = omega (arith, is.len, is.within) in
    record {
      len = length-set nodes at value ∙ is.len;
      leaves = λ position below. get_or-set_other nodes at (count + position) value 0 (λ same. omega (arith, same, is.within)) ∙ is.leaves position below;
      within = omega (arith, is.within);
      settled = λ other first from below. elim (cases_eq other at) [
        | inl same ↦ subst (λ (i : ℕ). IsSettled (set nodes at value) i) (sym same)
            (rw (get_or-set_same nodes at value 0 inside, get_or-set_other nodes at (2 * at) value 0 (λ e. omega (arith, e)), get_or-set_other nodes at (2 * at + 1) value 0 (λ e. omega (arith, e))) refl)
        | inr differs ↦ settled_set nodes at value other differs (λ beside. elim beside [ inl e ↦ omega arith | inr e ↦ omega arith ]) (is.settled other first (omega arith) below)
      ];
    }

pub built : (marks : Marks) (count node : ℕ) → marks.count ≡ count → node ≤ 1 → Building count marks.nodes.items node → IsTree marks
built marks count node same end is = record {
  len = is.len ∙ ap (λ (n : ℕ). 2 * n) (sym same);
  leaves = λ position below. inl (ap (λ (n : ℕ). get_or marks.nodes.items (n + position) 0) same ∙ is.leaves position (omega arith));
  settled = λ node' first below. is.settled node' first (omega arith) (omega arith);
}

-- the root holds the least that any node holds
root_least : (marks : Marks) → IsTree marks → (fuel node : ℕ) → node < fuel → 1 ≤ node → node < 2 * marks.count → get_or marks.nodes.items 1 0 ≤ get_or marks.nodes.items node 0
root_least marks tree zero node less first below = absurd (omega arith)
root_least marks tree (suc fuel) node less first below = elim (cases_eq node 1) [
  | inl same ↦ rw same (omega arith)
  | inr deeper ↦
      let parent = node / 2 in
      let above = halved node in
      let some : 1 ≤ parent = elim above [ inl even ↦ omega arith | inr odd ↦ omega arith ] in
      let small : parent < marks.count = elim above [ inl even ↦ omega arith | inr odd ↦ omega arith ] in
      let nearer : parent < fuel = elim above [ inl even ↦ omega (arith, less) | inr odd ↦ omega (arith, less) ] in
      let up = root_least marks tree fuel parent nearer some (omega arith) in
      let settled = tree.settled parent some small in
      let left = min-le_left (get_or marks.nodes.items (2 * parent) 0) (get_or marks.nodes.items (2 * parent + 1) 0) in
      let right = min-le_right (get_or marks.nodes.items (2 * parent) 0) (get_or marks.nodes.items (2 * parent + 1) 0) in
      elim above [
        | inl even ↦ let same = ap (λ (i : ℕ). get_or marks.nodes.items i 0) even in omega (arith, up, settled, left, same)
        | inr odd ↦ let same = ap (λ (i : ℕ). get_or marks.nodes.items i 0) odd in omega (arith, up, settled, right, same)
      ]
]

min_one : (a b : ℕ) → (min a b ≡ a) ⊎ (min a b ≡ b)
min_one a b = elim (cases_lt a b) [
  | inl less ↦ inl (min-eq_left (omega arith))
  | inr more ↦ let low = min-le_right a b in let high = le-min {k = b} {a = a} {b = b} more (omega arith) in inr (omega arith)
]

-- what a node holds is marked, or is the count
held : (marks : Marks) → IsTree marks → (fuel node : ℕ) → 2 * marks.count ≤ node + fuel → 1 ≤ node → node < 2 * marks.count → get_or marks.nodes.items node 0 < marks.count → IsMarked marks (get_or marks.nodes.items node 0)
held marks tree zero node far first below less = absurd (omega arith)
held marks tree (suc fuel) node far first below less = elim (cases_lt node marks.count) [
  | inl inner ↦
      let settled = tree.settled node first inner in
      elim (min_one (get_or marks.nodes.items (2 * node) 0) (get_or marks.nodes.items (2 * node + 1) 0)) [
        | inl left ↦
            let same = settled ∙ left in
            subst (λ (x : ℕ). IsMarked marks x) (sym same) (held marks tree fuel (2 * node) (omega (arith, far)) (omega arith) (omega arith) (omega (arith, same, less)))
        | inr right ↦
            let same = settled ∙ right in
            subst (λ (x : ℕ). IsMarked marks x) (sym same) (held marks tree fuel (2 * node + 1) (omega (arith, far)) (omega arith) (omega arith) (omega (arith, same, less)))
      ]
  | inr leaf ↦
      let position = node - marks.count in
      let at : marks.count + position ≡ node = omega arith in
      let here = ap (λ (i : ℕ). get_or marks.nodes.items i 0) at in
      elim (tree.leaves position (omega arith)) [
        | inl own ↦
            let same : position ≡ get_or marks.nodes.items node 0 = sym own ∙ here in
            subst (λ (x : ℕ). IsMarked marks x) same (record { below = omega arith; holds = own })
        | inr none ↦ absurd (omega (arith, none, here, less))
      ]
]

pub first_none : (marks : Marks) → IsTree marks → marks.count ≤ get_or marks.nodes.items 1 0 → (position : ℕ) → ¬ IsMarked marks position
first_none marks tree none position is =
    let up = root_least marks tree (suc (marks.count + position)) (marks.count + position) (omega arith) (let below = is.below in omega arith) (let below = is.below in omega arith) in
    omega (arith, up, none, is.holds, is.below)

pub first_some : (marks : Marks) → IsTree marks → get_or marks.nodes.items 1 0 < marks.count → IsLeastMarked marks (get_or marks.nodes.items 1 0)
first_some marks tree some = record {
  marked = held marks tree (2 * marks.count) 1 (omega arith) (omega arith) (omega arith) some;
  least = λ other less is.
      let up = root_least marks tree (suc (marks.count + other)) (marks.count + other) (omega arith) (let below = is.below in omega arith) (let below = is.below in omega arith) in
      omega (arith, up, less, is.holds);
}

-- one leaf was written, and the tree settled
pub puts : (marks after : Marks) (position value : ℕ) (marked : Bool) → IsTree marks → position < marks.count → after.count ≡ marks.count → value ≡ cond marked position marks.count →
    Settles marks.count (set marks.nodes.items (marks.count + position) value) after.nodes.items → Puts marks after position marked
puts marks after position value marked tree below count is settles =
    let nodes = marks.nodes.items in
    let leaf = marks.count + position in
    let inside : leaf < length nodes = omega (arith, tree.len) in
    let own : get_or after.nodes.items leaf 0 ≡ value = settles.leaves leaf (omega arith) ∙ get_or-set_same nodes leaf value 0 inside in
    let other_leaf : (other : ℕ) → other ≢ position → get_or after.nodes.items (marks.count + other) 0 ≡ get_or nodes (marks.count + other) 0 =
    λ other differs. settles.leaves (marks.count + other) (omega arith) ∙ get_or-set_other nodes leaf (marks.count + other) value 0 (λ same. differs (omega (arith, same))) in
    record {
      tree = record {
        len = settles.len ∙ (length-set nodes leaf value ∙ (tree.len ∙ ap (λ (n : ℕ). 2 * n) (sym count)));
        leaves = λ other less. rw count (elim (cases_eq other position) [
          | inl same ↦ subst (λ (p : ℕ). (get_or after.nodes.items (marks.count + p) 0 ≡ p) ⊎ (get_or after.nodes.items (marks.count + p) 0 ≡ marks.count)) (sym same) (one marked is own)
          | inr differs ↦ elim (tree.leaves other (omega arith)) [
            | inl holds ↦ inl (other_leaf other differs ∙ holds)
            | inr none ↦ inr (other_leaf other differs ∙ none)
          ]
        ]);
        settled = λ node first less. settles.settled node first (omega arith);
      };
      count = count;
      own = by marked is own;
      others = λ other differs. (
        λ on. record { below = let less = on.below in omega arith; holds = sym (other_leaf other differs) ∙ (ap (λ (n : ℕ). get_or after.nodes.items (n + other) 0) (sym count) ∙ on.holds) },
        λ on. record { below = let less = on.below in omega arith; holds = ap (λ (n : ℕ). get_or after.nodes.items (n + other) 0) count ∙ (other_leaf other differs ∙ on.holds) },
      );
    }
  where
    one : (m : Bool) → value ≡ cond m position marks.count → get_or after.nodes.items (marks.count + position) 0 ≡ value →
        (get_or after.nodes.items (marks.count + position) 0 ≡ position) ⊎ (get_or after.nodes.items (marks.count + position) 0 ≡ marks.count)
    one true v at = inl (at ∙ v)
    one false v at = inr (at ∙ v)

    by : (m : Bool) → value ≡ cond m position marks.count → get_or after.nodes.items (marks.count + position) 0 ≡ value → (IsMarked after position → m ≡ true) × (m ≡ true → IsMarked after position)
    by true v at = (λ on. refl, λ is_true. record { below = omega arith; holds = ap (λ (n : ℕ). get_or after.nodes.items (n + position) 0) count ∙ (at ∙ v) })
    by false v at = (λ on. absurd (let same = ap (λ (n : ℕ). get_or after.nodes.items (n + position) 0) (sym count) ∙ on.holds in omega (arith, same, at, v, below)), λ is_true. cc)
