-- What is so of the types of a graph.
use Rattle.std.proofs.Common.{◌≡◌, ℕ, zero, suc, ◌+◌, ◌-◌, ◌<◌, ◌≤◌, Bool, true, false, IsTrue, List, [], ◌∷◌, ◌++◌, Option, Some, None, append-nil, get_or, length, slice_get, refl, ap, sym, ◌∙◌, arith}
use Rattle.std.specs.List.{range_with_len}
use Rattle.std.specs.Option.{option_and_then, option_to_list}
use Rattle.std.proofs.lemmas.Grind.{flat_map-append}
use Rattle.std.proofs.lemmas.List.FromFn.{get_or-range_with_len, length-range_with_len}
use Rattle.std.proofs.lemmas.Option.{slice_get-get_or, slice_get_within}
use Rattle.cpg_schema.specs.declared.label.Label.TheVariants.{TypeNode}
use Rattle.cpg_schema.specs.declared.edge_kind.EdgeKind.TheVariants.{EvalType}
use Rattle.cpg_schema.specs.Graph.{PlainGraph, PlainNode}
use Rattle.cpg_schema.specs.Schema.{allows}
use Rattle.type_rules.specs.Types.{each_once, position_of, type_at, type_names, type_of, types_at}
use Rattle.type_rules.proofs.Once.{among, among_behind, among_front, among_once, found_at, found_before, once_grows, once_more, missing_of}

-- The node has this type.
pub record HasType (graph : PlainGraph) (node : ℕ) (name : List ℕ) : Type 0 where
  pub at : PlainNode
  pub at_is : slice_get graph.nodes node ≡ Some at
  pub allowed : IsTrue (allows EvalType at.label TypeNode)
  pub has : at.type_full_name ≡ Some name

pub has_type : (graph : PlainGraph) (node : ℕ) (name : List ℕ) → type_at graph node ≡ Some name → HasType graph node name
has_type graph node name is = by (slice_get graph.nodes node) refl is
  where
    by_test : (at : PlainNode) (t : Bool) → allows EvalType at.label TypeNode ≡ t → slice_get graph.nodes node ≡ Some at → type_of at ≡ Some name → HasType graph node name
    by_test at true e at_is is = record { at = at; at_is = at_is; allowed = e; has = rw e at is }
    by_test at false e at_is is = let none : type_of at ≡ None = rw e refl in cc

    by : (o : Option PlainNode) → slice_get graph.nodes node ≡ o → option_and_then type_of o ≡ Some name → HasType graph node name
    by None at_is is = cc
    by (Some at) at_is is = by_test at (allows EvalType at.label TypeNode) refl at_is is

-- The nodes up to a number, and those from there on.
pub range_split : (first count more : ℕ) → range_with_len first (count + more) ≡ range_with_len first count ++ range_with_len (first + count) more
range_split first zero more = let none : zero + more ≡ more = omega arith in let here : first ≡ first + zero = omega arith in ap (range_with_len first) none ∙ ap (λ (k : ℕ). range_with_len k more) here
range_split first (suc count) more =
    let e : suc count + more ≡ suc (count + more) = omega arith in
    let next : first + 1 + count ≡ first + suc count = omega arith in
    ap (range_with_len first) e ∙ ap (λ (ns : List ℕ). first ∷ ns) (range_split (first + 1) count more ∙ ap (λ (k : ℕ). range_with_len (first + 1) count ++ range_with_len k more) next)

types_stand : (graph : PlainGraph) (nodes : List ℕ) (k node : ℕ) (name : List ℕ) → slice_get nodes k ≡ Some node → type_at graph node ≡ Some name →
    among (types_at graph nodes) name ≡ true
types_stand graph [] k node name there is = cc
types_stand graph (first ∷ rest) zero node name there is =
    let same : first ≡ node = cc in
    let here : type_at graph first ≡ Some name = ap (type_at graph) same ∙ is in
    ap (λ (o : Option (List ℕ)). among (option_to_list o ++ types_at graph rest) name) here ∙ among_front name (types_at graph rest)
types_stand graph (first ∷ rest) (suc k) node name there is =
    among_behind (option_to_list (type_at graph first)) (types_at graph rest) name (types_stand graph rest k node name there is)

-- The types that the first so many nodes have, each once.
abbrev pub names_before : PlainGraph → ℕ → List (List ℕ)
names_before graph count = each_once (types_at graph (range_with_len 0 count))

node_there : (count node : ℕ) → node < count → slice_get (range_with_len 0 count) node ≡ Some node
node_there count node low =
    let size = length-range_with_len 0 count in
    let at = get_or-range_with_len 0 count node 0 low in
    let is : get_or (range_with_len 0 count) node 0 ≡ node = omega arith in
    slice_get-get_or (range_with_len 0 count) node 0 (omega arith) ∙ ap (λ (k : ℕ). Some k) is

-- The type of one of these nodes is among their types.
pub among_before : (graph : PlainGraph) (count node : ℕ) (name : List ℕ) → node < count → type_at graph node ≡ Some name → among (names_before graph count) name ≡ true
among_before graph count node name low is =
    among_once (types_at graph (range_with_len 0 count)) name ∙ types_stand graph (range_with_len 0 count) node node name (node_there count node low) is

types_split : (graph : PlainGraph) (count more : ℕ) →
    types_at graph (range_with_len 0 (count + more)) ≡ types_at graph (range_with_len 0 count) ++ types_at graph (range_with_len count more)
types_split graph count more =
    let none : 0 + count ≡ count = omega arith in
    ap (types_at graph) (range_split 0 count more ∙ ap (λ (k : ℕ). range_with_len 0 count ++ range_with_len k more) none)
    ∙ flat_map-append (λ (node : ℕ). option_to_list (type_at graph node)) (range_with_len 0 count) (range_with_len count more)

-- It has its position among them in the whole graph.
pub position_before : (graph : PlainGraph) (count : ℕ) (name : List ℕ) → count ≤ length graph.nodes → among (names_before graph count) name ≡ true →
    position_of (type_names graph) name ≡ position_of (names_before graph count) name
position_before graph count name low is =
    let more = length graph.nodes - count in
    let whole : count + more ≡ length graph.nodes = omega arith in
    let grown = once_grows (types_at graph (range_with_len 0 count)) (types_at graph (range_with_len count more)) in
    let all : type_names graph ≡ names_before graph count ++ grown.more =
    ap (names_before graph) (sym whole) ∙ (ap each_once (types_split graph count more) ∙ grown.is) in
    ap (λ (names : List (List ℕ)). position_of names name) all ∙ found_before (names_before graph count) grown.more name is

-- The types with one node more.
pub names_next : (graph : PlainGraph) (count : ℕ) (name : List ℕ) → type_at graph count ≡ Some name →
    names_before graph (count + 1) ≡ names_before graph count ++ missing_of (names_before graph count) name
names_next graph count name is =
    ap each_once
    (types_split graph count 1 ∙ ap (λ (o : Option (List ℕ)). types_at graph (range_with_len 0 count) ++ (option_to_list o ++ [])) is)
    ∙ once_more (types_at graph (range_with_len 0 count)) name

pub names_same : (graph : PlainGraph) (count : ℕ) → type_at graph count ≡ None → names_before graph (count + 1) ≡ names_before graph count
names_same graph count is =
    ap each_once
    (types_split graph count 1
    ∙ (ap (λ (o : Option (List ℕ)). types_at graph (range_with_len 0 count) ++ (option_to_list o ++ [])) is ∙ append-nil (types_at graph (range_with_len 0 count))))

-- The type of a node stands where its EVAL_TYPE leads.
pub type_stands : (graph : PlainGraph) (node : ℕ) (name : List ℕ) → type_at graph node ≡ Some name →
    slice_get (type_names graph) (position_of (type_names graph) name) ≡ Some name
type_stands graph node name is =
    let has = has_type graph node name is in
    let low = slice_get_within graph.nodes node has.at has.at_is in
    found_at (type_names graph) name (among_before graph (length graph.nodes) node name low is)
