-- Steps of loops over lists: what is counted, kept and joined with one item more.
use Rattle.std.proofs.Common.{◌≡◌, ℕ, zero, suc, ◌+◌, ◌<◌, ◌≤◌, cond, Bool, true, false, List, [], ◌∷◌, ◌++◌, Option, filter, slice_get, length, map, take, slice_index, refl, ap, sym, subst, ◌∙◌, arith, append-nil, append_assoc}
use Rattle.std.specs.List.{range_with_len}
use Rattle.std.proofs.lemmas.List.{length-append, length-take-le, map-append, take_more}
use Rattle.std.proofs.lemmas.List.Elements.{filter-append}
use Rattle.std.specs.Option.{option_and_then}
use Rattle.cpg_schema.specs.declared.key.Key.TheVariants.{LineNumber, Name, Order, TypeFullName}
use Rattle.cpg_schema.specs.declared.label.Label.TheVariants.{MethodParameterOut}
use Rattle.cpg_schema.specs.Graph.{PlainGraph, PlainNode, bare_node}
use Rattle.cpg_schema.specs.Properties.{number_of, text_of}
use Rattle.cpg_schema.specs.Deltas.{NewEdge, PlainDelta}
use Rattle.graph_forest.specs.Forest.{leaf, nodes_of, edges_of, with_forest}
use Rattle.graph_forest.specs.declared.hang.Hang.TheVariants.{Plain}
use Rattle.graph_forest.specs.Planting.{Planting, Plants, fresh, innermost}
use Rattle.unit_layers.specs.Adding.{with_edges}
use Rattle.unit_layers.specs.Ready.{IsRow}
use Rattle.unit_rules.specs.UnitEdges.{linked, parameter_edges}
use Rattle.unit_rules.specs.UnitNodes.{out_node}

-- The range with one number more.
pub range_more : (a n : ℕ) → range_with_len a (n + 1) ≡ range_with_len a n ++ (a + n) ∷ []
range_more a zero = let e : a ≡ a + 0 = omega arith in ap (λ (k : ℕ). k ∷ []) e
range_more a (suc n) =
    let e : a + 1 + n ≡ a + suc n = omega arith in
    let more : suc n + 1 ≡ suc (n + 1) = omega arith in
    ap (range_with_len a) more ∙ ap (λ (xs : List ℕ). a ∷ xs) (range_more (a + 1) n ∙ ap (λ (k : ℕ). range_with_len (a + 1) n ++ k ∷ []) e)

pub range_next : (n : ℕ) → range_with_len 0 (n + 1) ≡ range_with_len 0 n ++ n ∷ []
range_next n =
    let e : 0 + n ≡ n = omega arith in
    range_more 0 n ∙ ap (λ (k : ℕ). range_with_len 0 n ++ k ∷ []) e

-- So many items pass the test, and no more than so many.
pub record Counted {X : Type 0} (p : X → Bool) (xs : List X) (count most : ℕ) : Type 0 where
  pub is : count ≡ length (filter p xs)
  pub low : count ≤ most

filter_one : {X : Type 0} (p : X → Bool) (x : X) (t : Bool) → p x ≡ t → filter p (x ∷ []) ≡ cond t (x ∷ []) []
filter_one p x true e = rw e refl
filter_one p x false e = rw e refl

pub filter_more : {X : Type 0} (p : X → Bool) (xs : List X) (x : X) (t : Bool) → p x ≡ t → filter p (xs ++ x ∷ []) ≡ filter p xs ++ cond t (x ∷ []) []
filter_more p xs x t e = filter-append p xs (x ∷ []) ∙ ap (λ (ys : List _). filter p xs ++ ys) (filter_one p x t e)

pub counted_more : {X : Type 0} (p : X → Bool) (xs ys : List X) (x : X) (count most : ℕ) → ys ≡ xs ++ x ∷ [] → p x ≡ true → Counted p xs count most → Counted p ys (count + 1) (most + 1)
counted_more p xs ys x count most same e h = record {
  is =
      let more = ap (λ (zs : List _). length (filter p zs)) same in
      let split = ap length (filter_more p xs x true e) in
      let size = length-append (filter p xs) (x ∷ []) in
      let is = h.is in
      omega arith;
  low = let low = h.low in omega arith;
}

pub counted_same : {X : Type 0} (p : X → Bool) (xs ys : List X) (x : X) (count most : ℕ) → ys ≡ xs ++ x ∷ [] → p x ≡ false → Counted p xs count most → Counted p ys count (most + 1)
counted_same p xs ys x count most same e h = record {
  is =
      let more = ap (λ (zs : List _). length (filter p zs)) same in
      let split = ap length (filter_more p xs x false e) in
      let size = length-append (filter p xs) [] in
      let is = h.is in
      omega arith;
  low = let low = h.low in omega arith;
}

-- A delta with edges, and then with more.
pub edges_more : (first second : List NewEdge) (delta : PlainDelta) → with_edges second (with_edges first delta) ≡ with_edges (first ++ second) delta
edges_more first second delta = ap (λ (es : List NewEdge). record delta { edges = es }) (append_assoc delta.edges first second)

pub edges_none : (delta : PlainDelta) → delta ≡ with_edges [] delta
edges_none delta = ap (λ (es : List NewEdge). record delta { edges = es }) (sym (append-nil delta.edges))

-- The edges of one parameter more.
pub linked_more : (graph : PlainGraph) (out : ℕ) (xs : List ℕ) (x : ℕ) → linked graph out (xs ++ x ∷ []) ≡ linked graph out xs ++ parameter_edges graph x (out + length xs)
linked_more graph out [] x =
    let e : out ≡ out + 0 = omega arith in
    append-nil (parameter_edges graph x out) ∙ ap (parameter_edges graph x) e
linked_more graph out (first ∷ xs) x =
    let e : out + 1 + length xs ≡ out + suc (length xs) = omega arith in
    ap (λ (es : List NewEdge). parameter_edges graph first out ++ es) (linked_more graph (out + 1) xs x ∙ ap (λ (k : ℕ). linked graph (out + 1) xs ++ parameter_edges graph x k) e)
    ∙ sym (append_assoc (parameter_edges graph first out) (linked graph (out + 1) xs) (parameter_edges graph x (out + suc (length xs))))

pub joined_parameter : (graph : PlainGraph) (xs : List ℕ) (k out : ℕ) (old middle new : PlainDelta) → k < length xs → out ≡ 2 + k → new ≡ with_edges (parameter_edges graph (slice_index xs k) out) middle →
    middle ≡ with_edges (linked graph 2 (take k xs)) old → new ≡ with_edges (linked graph 2 (take (k + 1) xs)) old
joined_parameter graph xs k out old middle new low is last before =
    let x = slice_index xs k in
    let more : linked graph 2 (take (k + 1) xs) ≡ linked graph 2 (take k xs) ++ parameter_edges graph x (2 + length (take k xs)) =
    ap (linked graph 2) (take_more xs k 0 low) ∙ linked_more graph 2 (take k xs) x in
    let size = length-take-le k xs (omega arith) in
    let count : 2 + length (take k xs) ≡ out = omega arith in
    let whole : linked graph 2 (take (k + 1) xs) ≡ linked graph 2 (take k xs) ++ parameter_edges graph x out =
    more ∙ ap (λ (n : ℕ). linked graph 2 (take k xs) ++ parameter_edges graph x n) count in
    last
    ∙ (ap (with_edges (parameter_edges graph x out)) before
    ∙ (edges_more (linked graph 2 (take k xs)) (parameter_edges graph x out) old ∙ ap (λ (es : List NewEdge). with_edges es old) (sym whole)))

-- A node more in a row.
pub row_more : (old new : Planting) (node : PlainNode) (nodes : List PlainNode) → Plants old new (leaf Plain node) → IsRow old nodes → IsRow new (nodes ++ node ∷ [])
unfolding with_forest nodes_of edges_of
row_more old new node nodes planted row = record {
  delta =
      planted.delta
      ∙ (ap (λ (opened : List ℕ). with_forest (innermost opened) (leaf Plain node) old.delta) row.opened ∙ ap (with_forest (innermost []) (leaf Plain node)) row.delta);
  opened = planted.opened ∙ row.opened;
}

pub row_start : (planter : Planting) → planter ≡ fresh → IsRow planter []
row_start planter is = record { delta = ap (λ (p : Planting). p.delta) is; opened = ap (λ (p : Planting). p.opened) is }

pub row_as : (planter : Planting) (nodes wanted : List PlainNode) → nodes ≡ wanted → IsRow planter nodes → IsRow planter wanted
row_as planter nodes wanted same row = subst (IsRow planter) same row

pub row_delta : (planter : Planting) (nodes wanted : List PlainNode) (delta : PlainDelta) → delta ≡ planter.delta → nodes ≡ wanted → IsRow planter nodes →
    delta ≡ record { nodes = wanted; edges = []; settings = [] }
row_delta planter nodes wanted delta is same row = is ∙ (row_as planter nodes wanted same row).delta

pub map_more : (f : ℕ → PlainNode) (xs : List ℕ) (k : ℕ) → k < length xs → map f (take (k + 1) xs) ≡ map f (take k xs) ++ f (slice_index xs k) ∷ []
map_more f xs k low = ap (map f) (take_more xs k 0 low) ∙ map-append f (take k xs) (slice_index xs k ∷ [])

pub two_same : (a b first second : PlainNode) → a ≡ first → b ≡ second → a ∷ b ∷ [] ≡ first ∷ second ∷ []
two_same a b first second one two = ap (λ (x : PlainNode). x ∷ b ∷ []) one ∙ ap (λ (x : PlainNode). first ∷ x ∷ []) two

-- The METHOD_PARAMETER_OUT with the properties of its parameter.
abbrev with_four : PlainNode → Option (List ℕ) → Option ℕ → Option ℕ → Option (List ℕ) → PlainNode
with_four node name line order typed = record node { name = name; line_number = line; order = order; type_full_name = typed }

pub out_is : (graph : PlainGraph) (parameter : ℕ) (node : PlainNode) (name typed : Option (List ℕ)) (line order : Option ℕ) → node ≡ bare_node MethodParameterOut →
    name ≡ option_and_then (text_of Name) (slice_get graph.nodes parameter) → line ≡ option_and_then (number_of LineNumber) (slice_get graph.nodes parameter) →
    order ≡ option_and_then (number_of Order) (slice_get graph.nodes parameter) → typed ≡ option_and_then (text_of TypeFullName) (slice_get graph.nodes parameter) →
    record node { name = name; line_number = line; order = order; type_full_name = typed } ≡ out_node graph parameter
out_is graph parameter node name typed line order node_is name_is line_is order_is typed_is =
    let at = slice_get graph.nodes parameter in
    let bare = bare_node MethodParameterOut in
    ap (λ (n : PlainNode). with_four n name line order typed) node_is
    ∙ (ap (λ (t : Option (List ℕ)). with_four bare t line order typed) name_is
    ∙ (ap (λ (k : Option ℕ). with_four bare (option_and_then (text_of Name) at) k order typed) line_is
    ∙ (ap (λ (k : Option ℕ). with_four bare (option_and_then (text_of Name) at) (option_and_then (number_of LineNumber) at) k typed) order_is
    ∙ ap (λ (t : Option (List ℕ)). with_four bare (option_and_then (text_of Name) at) (option_and_then (number_of LineNumber) at) (option_and_then (number_of Order) at) t) typed_is)))
