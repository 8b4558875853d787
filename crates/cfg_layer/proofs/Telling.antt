-- Tests that tell what is so.
use Rattle.std.proofs.Common.{ℕ, zero, suc, ◌≡◌, ◌+◌, ◌<◌, ◌≤◌, ◌⊎◌, inl, inr, Bool, true, false, cond, List, [], ◌∷◌, Option, Some, None, slice_get, length, get_or, refl, sym, ◌∙◌, ap, subst, arith}
use Rattle.std.specs.Prelude.{◌==◌, ◌&&◌, ◌||◌, not}
use Rattle.std.proofs.Math.Nat.{eq-or-lt_of_le}
use Rattle.std.proofs.lemmas.Bool.{cases_lt, eqb-true, eq-eqb}
use Rattle.std.proofs.lemmas.Option.{slice_get_within}
use Rattle.std.proofs.lemmas.Slice.Eq.{bytes_eq-Decides}
use Rattle.cpg_schema.specs.declared.edge_kind.EdgeKind.{EdgeKind}
use Rattle.cpg_schema.specs.declared.edge_kind.EdgeKind.TheVariants.{Ast, Argument}
use Rattle.cpg_schema.specs.declared.label.Label.{Label}
use Rattle.cpg_schema.specs.declared.label.Label.TheVariants as label
use Rattle.cpg_schema.specs.Names.{kind_rank}
use Rattle.cpg_schema.specs.Graph.{PlainEdge, PlainGraph, PlainNode}
use Rattle.graph_parts.specs.Finds.{Finds, IsLeast}
use Rattle.graph_parts.specs.Parts.{HasEdge, HasIndex, HasLabel, HasOrder, IsArgument, IsArgumentWith, IsChildWith, IsNodeWith, IsPart, IsChildOf}
use Rattle.graph_parts.proofs.KindRank.{kind_from_rank}
use Rattle.cfg_edges.proofs.Bools.{and_both, both_and, or_either, or_left, or_right}
use Rattle.cfg_layer.specs.Kinds.{Kind, kind_of, HasKind, function, primary, passed, call, short_circuit, conditional, size_of, block, if_statement, while_loop, do_loop, for_loop, switch_statement, jump_target, goto_jump, break_jump, continue_jump, return_jump, unknown}
use Rattle.cfg_layer.specs.Tested.{some_edge, is_edge, has_edge, passes, node_passes, least_from, least_node, is_number, is_name, kind_number, is_kind, is_child_with, is_block_label, is_return_label, is_block, is_method_return, part_at, block_at, return_at, argument_at, is_none}

-- The test tells whether it is so.
pub record Tells (test : Bool) (P : Type 0) : Type 0 where
  pub yes : test ≡ true → P
  pub told : P → test ≡ true

pub tells_both : {p q : Bool} {P Q : Type 0} → Tells p P → Tells q Q → Tells (p && q) (P × Q)
tells_both {p = p} {q = q} t u = record {
  yes = λ e. let both = and_both p q e in (t.yes both.0, u.yes both.1);
  told = λ h. both_and p q (t.told h.0) (u.told h.1);
}

pub tells_either : {p q : Bool} {P Q : Type 0} → Tells p P → Tells q Q → Tells (p || q) (P ⊎ Q)
tells_either {p = p} {q = q} t u = record {
  yes = λ e. elim (or_either p q e) [ inl l ↦ inl (t.yes l) | inr o ↦ inr (u.yes o) ];
  told = elim [ inl l ↦ or_left p q (t.told l) | inr o ↦ or_right p q (u.told o) ];
}

pub tells_not : {p : Bool} {P : Type 0} → Tells p P → Tells (not p) (¬ P)
tells_not {p = true} t = record { yes = λ e. cc; told = λ n. absurd (n (t.yes refl)) }
tells_not {p = false} t = record { yes = λ e h. (let f : false ≡ true = t.told h in cc); told = λ n. refl }

pub tells_as : {p : Bool} {P Q : Type 0} → Tells p P → (P → Q) → (Q → P) → Tells p Q
tells_as t f g = record { yes = λ e. f (t.yes e); told = λ h. t.told (g h) }

pub tells_equal : (x y : ℕ) → Tells (x == y) (x ≡ y)
tells_equal x y = record { yes = λ e. eqb-true x y e; told = λ e. eq-eqb x y e }

pub tells_number : (number : ℕ) (o : Option ℕ) → Tells (is_number number o) (o ≡ Some number)
tells_number number None = record { yes = λ e. cc; told = λ e. cc }
tells_number number (Some other) = tells_as (tells_equal other number) (λ e. ap Some e) (λ e. (let f : other ≡ number = cc in f))

pub tells_name : (name : List ℕ) (o : Option (List ℕ)) → Tells (is_name name o) (o ≡ Some name)
tells_name name None = record { yes = λ e. cc; told = λ e. cc }
tells_name name (Some other) =
    let d = bytes_eq-Decides other name in
    record { yes = λ e. ap Some (d.0 e); told = λ e. d.1 (let f : other ≡ name = cc in f) }

-- ---- Kinds.

kinds : List Kind
kinds = function ∷ primary ∷ passed ∷ call ∷ short_circuit ∷ conditional ∷ size_of ∷ block ∷ if_statement ∷ while_loop ∷ do_loop ∷ for_loop ∷ switch_statement ∷ jump_target ∷ goto_jump ∷ break_jump ∷ continue_jump ∷ return_jump ∷ unknown ∷ []

kind_back : (kind : Kind) → get_or kinds (kind_number kind) unknown ≡ kind
unfolding kinds
kind_back function = refl
kind_back primary = refl
kind_back passed = refl
kind_back call = refl
kind_back short_circuit = refl
kind_back conditional = refl
kind_back size_of = refl
kind_back block = refl
kind_back if_statement = refl
kind_back while_loop = refl
kind_back do_loop = refl
kind_back for_loop = refl
kind_back switch_statement = refl
kind_back jump_target = refl
kind_back goto_jump = refl
kind_back break_jump = refl
kind_back continue_jump = refl
kind_back return_jump = refl
kind_back unknown = refl

pub tells_kind : (kind : Kind) (node : PlainNode) → Tells (is_kind kind node) (HasKind kind node)
tells_kind kind node = tells_as (tells_equal (kind_number (kind_of node)) (kind_number kind)) (λ e. sym (kind_back (kind_of node)) ∙ (ap (λ (n : ℕ). get_or kinds n unknown) e ∙ kind_back kind)) (λ e. ap kind_number e)

block_label : (l : Label) → is_block_label l ≡ true → l ≡ label.Block
block_label label.Block e = refl
block_label _ e = cc

return_label : (l : Label) → is_return_label l ≡ true → l ≡ label.MethodReturn
return_label label.MethodReturn e = refl
return_label _ e = cc

pub tells_block : (node : PlainNode) → Tells (is_block node) (HasLabel label.Block node)
tells_block node = record { yes = λ e. block_label node.label e; told = λ e. subst (λ (l : Label). is_block_label l ≡ true) (sym e) refl }

pub tells_return : (node : PlainNode) → Tells (is_method_return node) (HasLabel label.MethodReturn node)
tells_return node = record { yes = λ e. return_label node.label e; told = λ e. subst (λ (l : Label). is_return_label l ≡ true) (sym e) refl }

-- ---- Edges and nodes.

abbrev IsSomeEdge : (PlainEdge → Bool) → List PlainEdge → Type 0
IsSomeEdge test edges = (k : ℕ) × (edge : PlainEdge) × (slice_get edges k ≡ Some edge) × (test edge ≡ true)

some_found : (test : PlainEdge → Bool) (edges : List PlainEdge) → some_edge test edges ≡ true → IsSomeEdge test edges
unfolding some_edge
some_found test [] e = cc
some_found test (edge ∷ edges) e = elim (or_either (test edge) (some_edge test edges) e) [
  | inl l ↦ (zero, edge, refl, l)
  | inr o ↦ more (some_found test edges o)
] where
  more : IsSomeEdge test edges → IsSomeEdge test (edge ∷ edges)
  more (k, found, is, t) = (suc k, found, is, t)

some_has : (test : PlainEdge → Bool) (edges : List PlainEdge) (k : ℕ) (edge : PlainEdge) → slice_get edges k ≡ Some edge → test edge ≡ true → some_edge test edges ≡ true
unfolding some_edge
some_has test [] k edge is t = cc
some_has test (first ∷ edges) zero edge is t =
    let same : first ≡ edge = cc in
    or_left (test first) (some_edge test edges) (subst (λ (v : PlainEdge). test v ≡ true) (sym same) t)
some_has test (first ∷ edges) (suc k) edge is t = or_right (test first) (some_edge test edges) (some_has test edges k edge is t)

abbrev IsEdgeOf : EdgeKind → ℕ → ℕ → PlainEdge → Type 0
IsEdgeOf kind from to edge = (kind_rank edge.kind ≡ kind_rank kind) × ((edge.from ≡ from) × (edge.to ≡ to))

tells_edge_is : (kind : EdgeKind) (from to : ℕ) (edge : PlainEdge) → Tells (is_edge kind from to edge) (IsEdgeOf kind from to edge)
tells_edge_is kind from to edge = tells_both (tells_equal (kind_rank edge.kind) (kind_rank kind)) (tells_both (tells_equal edge.from from) (tells_equal edge.to to))

pub tells_edge : (graph : PlainGraph) (kind : EdgeKind) (from to : ℕ) → Tells (has_edge graph kind from to) (HasEdge graph kind from to)
tells_edge graph kind from to = record {
  yes = λ e. found (some_found (is_edge kind from to) graph.edges e);
  told = λ h. some_has (is_edge kind from to) graph.edges h.position h.edge h.edge_is ((tells_edge_is kind from to h.edge).told (ap kind_rank h.kind_is, (h.from_is, h.to_is)));
} where
  found : IsSomeEdge (is_edge kind from to) graph.edges → HasEdge graph kind from to
  found (k, edge, is, t) =
      let at = (tells_edge_is kind from to edge).yes t in
      record { position = k; edge = edge; edge_is = is; kind_is = kind_from_rank edge.kind kind at.0; from_is = at.1.0; to_is = at.1.1 }

pub tells_node : (graph : PlainGraph) (test : PlainNode → Bool) (P : PlainNode → Type 0) (number : ℕ) → ((node : PlainNode) → Tells (test node) (P node)) → Tells (node_passes graph test number) (IsNodeWith graph P number)
tells_node graph test P number t = by (slice_get graph.nodes number) refl where
  none : (o : Option PlainNode) → slice_get graph.nodes number ≡ o → passes test o ≡ true → IsNodeWith graph P number
  none None is e = cc
  none (Some node) is e = record { node = node; node_is = is; has = (t node).yes e }

  by : (o : Option PlainNode) → slice_get graph.nodes number ≡ o → Tells (node_passes graph test number) (IsNodeWith graph P number)
  by o is = record {
    yes = λ e. none (slice_get graph.nodes number) refl e;
    told = λ h. subst (λ (v : Option PlainNode). passes test v ≡ true) (sym h.node_is) ((t h.node).told h.has);
  }

pub node_within : (graph : PlainGraph) (P : PlainNode → Type 0) (number : ℕ) → IsNodeWith graph P number → number < length graph.nodes
node_within graph P number h = slice_get_within graph.nodes number h.node h.node_is

-- ---- The least node.

-- Nothing has the property, or the node is the least that has it.
abbrev pub IsLeastOrNone : (ℕ → Type 0) → Option ℕ → Type 0
IsLeastOrNone P None = (y : ℕ) → ¬ (P y)
IsLeastOrNone P (Some x) = IsLeast P x

least_is : (test : ℕ → Bool) (P : ℕ → Type 0) → ((x : ℕ) → Tells (test x) (P x)) → (x count : ℕ) → ((y : ℕ) → P y → y < x + count) → ((y : ℕ) → y < x → ¬ (P y)) → IsLeastOrNone P (least_from test x count)
unfolding least_from
least_is test P t x zero high low = λ y p. low y (let h : y < x + 0 = high y p in omega arith) p
least_is test P t x (suc count) high low = by (test x) refl (λ n. least_is test P t (x + 1) count (λ y p. let h : y < x + suc count = high y p in omega arith) (λ y l. below y n (eq-or-lt_of_le (let m : y ≤ x = omega arith in m)))) where
  below : (y : ℕ) → ¬ (P x) → (y ≡ x) ⊎ (y < x) → ¬ (P y)
  below y n (inl e) p = n (subst P e p)
  below y n (inr l) p = low y l p

  by : (b : Bool) → test x ≡ b → (¬ (P x) → IsLeastOrNone P (least_from test (x + 1) count)) → IsLeastOrNone P (cond b (Some x) (least_from test (x + 1) count))
  by true e rest = record { is = (t x).yes e; least = λ y p. elim (cases_lt y x) [ inl l ↦ absurd (low y l p) | inr a ↦ a ] }
  by false e rest = rest (λ p. (let f : test x ≡ true = (t x).told p in cc))

pub least_all : (graph : PlainGraph) (test : ℕ → Bool) (P : ℕ → Type 0) → ((x : ℕ) → Tells (test x) (P x)) → ((y : ℕ) → P y → y < length graph.nodes) → IsLeastOrNone P (least_node graph test)
least_all graph test P t within = least_is test P t 0 (length graph.nodes) (λ y p. let h : y < length graph.nodes = within y p in omega arith) (λ y l. absurd (omega arith))

found_of : (P : ℕ → Type 0) (o : Option ℕ) → IsLeastOrNone P o → Finds (IsLeast P) o
found_of P None h = λ y p. h y p.is
found_of P (Some x) h = h

pub tells_least : (graph : PlainGraph) (test : ℕ → Bool) (P : ℕ → Type 0) → ((x : ℕ) → Tells (test x) (P x)) → ((y : ℕ) → P y → y < length graph.nodes) → Finds (IsLeast P) (least_node graph test)
tells_least graph test P t within = found_of P (least_node graph test) (least_all graph test P t within)

-- No node passes the test.
pub tells_none : (graph : PlainGraph) (test : ℕ → Bool) (P : ℕ → Type 0) → ((x : ℕ) → Tells (test x) (P x)) → ((y : ℕ) → P y → y < length graph.nodes) → Tells (is_none (least_node graph test)) ((y : ℕ) → ¬ (P y))
tells_none graph test P t within = by (least_node graph test) (least_all graph test P t within) where
  by : (o : Option ℕ) → IsLeastOrNone P o → Tells (is_none o) ((y : ℕ) → ¬ (P y))
  by None h = record { yes = λ e. h; told = λ n. refl }
  by (Some x) h = record { yes = λ e. cc; told = λ n. absurd (n x h.is) }

pub one_least : (P : ℕ → Type 0) (x y : ℕ) → IsLeast P x → IsLeast P y → x ≡ y
one_least P x y one other = let a : x ≤ y = one.least y other.is in let b : y ≤ x = other.least x one.is in omega arith

-- The number is the one that was found.
pub tells_found : (P : ℕ → Type 0) (x : ℕ) (o : Option ℕ) → Finds (IsLeast P) o → Tells (is_number x o) (IsLeast P x)
tells_found P x None n = record { yes = λ e. cc; told = λ h. absurd (n x h) }
tells_found P x (Some y) h = tells_as (tells_equal y x) (λ e. subst (IsLeast P) e h) (λ l. one_least P y x h l)

-- ---- Parts.

has_node : {graph : PlainGraph} {P : PlainNode → Type 0} {parent child : ℕ} → IsChildWith graph P parent child → child < length graph.nodes
has_node {graph} {P} {parent} {child} h = node_within graph P child h.is_node

tells_child : (graph : PlainGraph) (test : PlainNode → Bool) (P : PlainNode → Type 0) → ((node : PlainNode) → Tells (test node) (P node)) → (parent child : ℕ) → Tells (is_child_with graph test parent child) (IsChildWith graph P parent child)
tells_child graph test P t parent child = tells_as (tells_both (tells_edge graph Ast parent child) (tells_node graph test P child t)) (λ h. record { is_child = h.0; is_node = h.1 }) (λ h. (h.is_child, h.is_node))

pub part_found : (graph : PlainGraph) (k parent : ℕ) → Finds (IsPart graph k parent) (part_at graph k parent)
part_found graph k parent = tells_least graph (λ child. is_child_with graph (λ node. is_number k node.order) parent child) (IsChildWith graph (HasOrder k) parent) (tells_child graph (λ node. is_number k node.order) (HasOrder k) (λ node. tells_number k node.order) parent) (λ y p. has_node p)

pub block_found : (graph : PlainGraph) (parent : ℕ) → Finds (IsChildOf graph label.Block parent) (block_at graph parent)
block_found graph parent = tells_least graph (λ child. is_child_with graph is_block parent child) (IsChildWith graph (HasLabel label.Block) parent) (tells_child graph is_block (HasLabel label.Block) tells_block parent) (λ y p. has_node p)

pub return_found : (graph : PlainGraph) (parent : ℕ) → Finds (IsChildOf graph label.MethodReturn parent) (return_at graph parent)
return_found graph parent = tells_least graph (λ child. is_child_with graph is_method_return parent child) (IsChildWith graph (HasLabel label.MethodReturn) parent) (tells_child graph is_method_return (HasLabel label.MethodReturn) tells_return parent) (λ y p. has_node p)

tells_argument : (graph : PlainGraph) (i parent child : ℕ) → Tells (has_edge graph Ast parent child && (has_edge graph Argument parent child && node_passes graph (λ node. is_number i node.argument_index) child)) (IsArgumentWith graph i parent child)
tells_argument graph i parent child = tells_as (tells_both (tells_edge graph Ast parent child) (tells_both (tells_edge graph Argument parent child) (tells_node graph (λ node. is_number i node.argument_index) (HasIndex i) child (λ node. tells_number i node.argument_index)))) (λ h. record { is_child = h.0; is_argument = h.1.0; is_node = h.1.1 }) (λ h. (h.is_child, (h.is_argument, h.is_node)))

pub argument_found : (graph : PlainGraph) (i parent : ℕ) → Finds (IsArgument graph i parent) (argument_at graph i parent)
argument_found graph i parent = tells_least graph (λ child. has_edge graph Ast parent child && (has_edge graph Argument parent child && node_passes graph (λ node. is_number i node.argument_index) child)) (IsArgumentWith graph i parent) (tells_argument graph i parent) (λ y p. node_within graph (HasIndex i) y p.is_node)
