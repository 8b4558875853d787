-- The chains of the nodes of each tree, built from the last node to the first, and walked.
use Rattle.std.proofs.Common.{◌≡◌, ℕ, suc, ◌+◌, ◌-◌, ◌<◌, ◌≤◌, ◌==◌, cond, Bool, true, false, List, [], ◌∷◌, ◌++◌, filter, length, replicate, slice_index, slice_set, refl, ap, sym, subst, ◌∙◌, arith, eqb-true, append-nil, append_assoc}
use Rattle.std.specs.List.{All, range_with_len}
use Rattle.std.proofs.lemmas.Bool.{eqb-false}
use Rattle.std.proofs.lemmas.List.{length-append, length-set, length-replicate, get_or-replicate, get_or-set_same, get_or-set_other}
use Rattle.std.proofs.lemmas.List.Elements.{All-filter, All-head, All-tail}
use Rattle.std.proofs.lemmas.List.FromFn.{get_or-range_with_len, length-range_with_len}
use Rattle.cpg_schema.specs.Graph.{PlainGraph}
use Rattle.graph_parts.specs.NodesAbove.{root_at}
use Rattle.unit_layers.specs.declared.trees.TheConstants.{NO_NODE}
use Rattle.unit_layers.specs.Chains.{IsChain}
use Rattle.unit_rules.specs.Units.{members}

-- The nodes from this one on of whose tree the root is this.
abbrev pub from_on : PlainGraph → ℕ → ℕ → List ℕ
from_on graph node root = filter (λ at. root_at graph at == root) (range_with_len node (length graph.nodes - node))

-- They are chained from each root on.
pub record Chained (graph : PlainGraph) (first next : List ℕ) (node : ℕ) : Type 0 where
  pub first_count : length first ≡ length graph.nodes
  pub next_count : length next ≡ length graph.nodes
  pub within : node ≤ length graph.nodes
  pub chains : (root : ℕ) → root < length graph.nodes → IsChain next (slice_index first root) (from_on graph node root)

pub chained_none : (graph : PlainGraph) (first next : List ℕ) → first ≡ replicate (length graph.nodes) NO_NODE → next ≡ replicate (length graph.nodes) NO_NODE → Chained graph first next (length graph.nodes)
chained_none graph first next f n = record {
  first_count = ap length f ∙ length-replicate (length graph.nodes) NO_NODE;
  next_count = ap length n ∙ length-replicate (length graph.nodes) NO_NODE;
  within = omega arith;
  chains = λ root low.
      let none : length graph.nodes - length graph.nodes ≡ 0 = omega arith in
      subst (λ (k : ℕ). IsChain next (slice_index first root) (filter (λ at. root_at graph at == root) (range_with_len (length graph.nodes) k))) (sym none)
      (ap (λ (xs : List ℕ). slice_index xs root) f ∙ get_or-replicate (length graph.nodes) root NO_NODE 0 low);
}

-- What stands elsewhere does not change a chain.
frame : (next : List ℕ) (node value head : ℕ) (xs : List ℕ) → All (λ (x : ℕ). node < x) xs → IsChain next head xs → IsChain (slice_set next node value) head xs
frame next node value head [] all h = h
frame next node value head (x ∷ xs) all h =
    let above : node < x = All-head (λ (k : ℕ). node < k) x xs all in
    let other : ¬ (x ≡ node) = λ is. omega arith in
    let same = get_or-set_other next node x value 0 other in
    let size = length-set next node value in
    let inside = h.1 in (
      h.0,
      omega arith,
      h.2,
      subst (λ (k : ℕ). IsChain (slice_set next node value) k xs) (sym same) (frame next node value (slice_index next x) xs (All-tail (λ (k : ℕ). node < k) x xs all) h.3),
    )

past_all : (graph : PlainGraph) (node root : ℕ) → All (λ (x : ℕ). node < x) (from_on graph (node + 1) root)
past_all graph node root =
    All-filter (λ at. root_at graph at == root) (λ (x : ℕ). node < x) (range_with_len (node + 1) (length graph.nodes - (node + 1)))
    (λ k d low.
    let count = length graph.nodes - (node + 1) in
    let size = length-range_with_len (node + 1) count in
    let inside : k < count = omega arith in
    let is = get_or-range_with_len (node + 1) count k d inside in
    omega arith)

-- With the node before them.
split : (graph : PlainGraph) (node root : ℕ) → node < length graph.nodes → (t : Bool) → (root_at graph node == root) ≡ t → from_on graph node root ≡ cond t (node ∷ from_on graph (node + 1) root) (from_on graph (node + 1) root)
split graph node root low t e = ap (λ (k : ℕ). filter (λ at. root_at graph at == root) (range_with_len node k)) size ∙ by t e
  where
    rest : ℕ
    rest = length graph.nodes - (node + 1)

    size : length graph.nodes - node ≡ suc (length graph.nodes - (node + 1))
    size = omega arith

    by : (t : Bool) → (root_at graph node == root) ≡ t → filter (λ at. root_at graph at == root) (range_with_len node (suc (length graph.nodes - (node + 1)))) ≡ cond t (node ∷ from_on graph (node + 1) root) (from_on graph (node + 1) root)
    by true e = rw e refl
    by false e = rw e refl

pub chained_more : (graph : PlainGraph) (first next : List ℕ) (node root : ℕ) → Chained graph first next (node + 1) → ¬ (node ≡ NO_NODE) → root ≡ root_at graph node → root < length graph.nodes →
    Chained graph (slice_set first root node) (slice_set next node (slice_index first root)) node
chained_more graph first next node root h real is low = record {
  first_count = length-set first root node ∙ h.first_count;
  next_count = length-set next node (slice_index first root) ∙ h.next_count;
  within = let within = h.within in omega arith;
  chains = λ other inside. by other inside (root_at graph node == other) refl;
}
  where
    value : ℕ
    value = slice_index first root

    by : (other : ℕ) → other < length graph.nodes → (t : Bool) → (root_at graph node == other) ≡ t →
        IsChain (slice_set next node (slice_index first root)) (slice_index (slice_set first root node) other) (from_on graph node other)
    by other inside true e =
        let same : root ≡ other = is ∙ eqb-true (root_at graph node) other e in
        let within = h.within in
        let next_count = h.next_count in
        let first_count = h.first_count in
        let in_first : root < length first = omega arith in
        let in_next : node < length next = omega arith in
        let head : slice_index (slice_set first root node) other ≡ node = ap (slice_index (slice_set first root node)) (sym same) ∙ get_or-set_same first root node 0 in_first in
        let stored : slice_index (slice_set next node (slice_index first root)) node ≡ slice_index first other = get_or-set_same next node (slice_index first root) 0 in_next ∙ ap (slice_index first) same in
        let size = length-set next node (slice_index first root) in
        let later = frame next node (slice_index first root) (slice_index first other) (from_on graph (node + 1) other) (past_all graph node other) (h.chains other inside) in
        subst (IsChain (slice_set next node (slice_index first root)) (slice_index (slice_set first root node) other)) (sym (split graph node other (omega arith) true e))
        (head, omega arith, real, subst (λ (k : ℕ). IsChain (slice_set next node (slice_index first root)) k (from_on graph (node + 1) other)) (sym stored) later)
    by other inside false e =
        let differs : ¬ (other ≡ root) = λ same. eqb-false (root_at graph node) other e (sym is ∙ sym same) in
        let within = h.within in
        let head = get_or-set_other first root other node 0 differs in
        let later = frame next node (slice_index first root) (slice_index first other) (from_on graph (node + 1) other) (past_all graph node other) (h.chains other inside) in
        subst (IsChain (slice_set next node (slice_index first root)) (slice_index (slice_set first root node) other)) (sym (split graph node other (omega arith) false e))
        (subst (λ (k : ℕ). IsChain (slice_set next node (slice_index first root)) k (from_on graph (node + 1) other)) (sym head) later)

-- All nodes are those from the first on.
pub chained_all : (graph : PlainGraph) (first next : List ℕ) → Chained graph first next 0 → (root : ℕ) → root < length graph.nodes → IsChain next (slice_index first root) (members graph root)
chained_all graph first next h root low =
    let e : length graph.nodes - 0 ≡ length graph.nodes = omega arith in
    subst (λ (k : ℕ). IsChain next (slice_index first root) (filter (λ at. root_at graph at == root) (range_with_len 0 k))) e (h.chains root low)

-- A walk along a chain has come so far.
pub record Walked (whole next items : List ℕ) (head : ℕ) : Type 0 where
  pub rest : List ℕ
  pub is : whole ≡ items ++ rest
  pub chain : IsChain next head rest

-- What a walk meets next.
pub record Meets (whole next items : List ℕ) (head : ℕ) : Type 0 where
  pub inside : head < length next
  pub fewer : length items < length whole
  pub on : Walked whole next (items ++ head ∷ []) (slice_index next head)

pub walked_on : (whole next items : List ℕ) (head : ℕ) → ¬ (head ≡ NO_NODE) → Walked whole next items head → Meets whole next items head
walked_on whole next items head real h = by h.rest h.is h.chain
  where
    by : (rest : List ℕ) → whole ≡ items ++ rest → IsChain next head rest → Meets whole next items head
    by [] is none = absurd (real none)
    by (x ∷ rest) is chain =
        let same = chain.0 in
        let low = chain.1 in
        let shape : whole ≡ (items ++ head ∷ []) ++ rest = is ∙ (ap (λ (k : ℕ). items ++ (k ∷ rest)) (sym same) ∙ sym (append_assoc items (head ∷ []) rest)) in
        let size = ap length is in
        let sum = length-append items (x ∷ rest) in
        record {
          inside = omega arith;
          fewer = omega arith;
          on = record { rest = rest; is = shape; chain = subst (λ (k : ℕ). IsChain next (slice_index next k) rest) (sym same) chain.3 };
        }

pub walked_all : (whole next items : List ℕ) (head : ℕ) → head ≡ NO_NODE → Walked whole next items head → items ≡ whole
walked_all whole next items head none h = by h.rest h.is h.chain
  where
    by : (rest : List ℕ) → whole ≡ items ++ rest → IsChain next head rest → items ≡ whole
    by [] is end = sym (append-nil items) ∙ sym is
    by (x ∷ rest) is chain = absurd (chain.2 (sym chain.0 ∙ none))
