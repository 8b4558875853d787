-- A walk that comes to one node more, and one that has come to all.
use Rattle.std.proofs.Common.{◌≡◌, ℕ, zero, suc, ◌+◌, ◌<◌, ◌≤◌, Bool, true, false, if◌then◌else◌, List, [], ◌∷◌, ◌++◌, Option, Some, None, ◌⊎◌, inl, inr, length, get_or, slice_get, slice_index, slice_set, refl, ap, sym, subst, ◌∙◌, arith, eqb, eqb-true, append-nil, append_assoc, map, replicate}
use Rattle.std.specs.List.{Contains, IsDistinct, list_any}
use Rattle.std.proofs.lemmas.Cmp.{nat_eq_equiv}
use Rattle.std.proofs.lemmas.Bool.{eqb-false}
use Rattle.std.specs.Prelude.{option_map}
use Rattle.std.proofs.lemmas.List.{length-map, length-set, length-replicate, get_or-replicate, get_or-set_same, get_or-set_other, get_or_append_left, get_or_default, length-append}
use Rattle.std.proofs.lemmas.Option.{slice_get-map, slice_get_within, get_or_from_slice_get}
use Rattle.std.proofs.lemmas.List.Elements.{Contains-append_left, Contains-push, Contains-push_cases}
use Rattle.std.proofs.lemmas.Map.Keys.{IsDistinct-push}
use Rattle.std.proofs.lemmas.Map.Steps.{length-le_from_distinct_below}
use Rattle.std.proofs.lemmas.Map.Views.{Contains-from_any}
use Rattle.cpg_schema.specs.declared.label.Label.TheVariants.{Method}
use Rattle.cpg_schema.specs.declared.edge_kind.EdgeKind.TheVariants.{Ast}
use Rattle.cpg_schema.specs.Graph.{PlainGraph}
use Rattle.cpg_schema.specs.Fitting.{IsGraph}
use Rattle.cpg_schema.specs.Shape.{IsShaped}
use Rattle.graph_store.specs.declared.edge.Edge.{Edge}
use Rattle.graph_parts.specs.declared.places.TheConstants.{NO_NODE}
use Rattle.graph_parts.specs.declared.walk.Walk.{Walk}
use Rattle.graph_parts.specs.Finds.{Finds}
use Rattle.graph_parts.specs.Parts.{IsChild, IsNodeWith, HasLabel}
use Rattle.graph_parts.specs.Standing.{IsMethodAbove, IsRootOf}
use Rattle.graph_parts.specs.Places.{ArePlacesOf}
use Rattle.graph_parts.specs.Walking.{node_or_none, IsPlace, IsPlaced, IsWalk, GoesOn, HasRoots, HasChildren, HasAll}
use Rattle.graph_parts.proofs.Tree.{above_in, nearest_down, nearest_up, nearest_here, none_above}
use Rattle.graph_parts.proofs.Depth.{depth, depth_falls, ends_of, none_distinct, parent_of as parent_found, Parent, one, none}

-- The walk has come to this node too, which stands here.
pub record Comes (old new : Walk) (node method root : ℕ) : Type 0 where
  pub methods : new.methods.items ≡ slice_set old.methods.items node method
  pub roots : new.roots.items ≡ slice_set old.roots.items node root
  pub order : new.order.items ≡ old.order.items ++ node ∷ []
  pub unknown : slice_index old.roots.items node ≡ NO_NODE
  pub real : ¬ (root ≡ NO_NODE)
  pub inside : node < length old.roots.items
  pub inside_methods : node < length old.methods.items

module _ (old new : Walk) (node method root : ℕ) (h : Comes old new node method root) where
  root_here : slice_index new.roots.items node ≡ root
  root_here = ap (λ (xs : List ℕ). slice_index xs node) h.roots ∙ get_or-set_same old.roots.items node root 0 h.inside

  method_here : slice_index new.methods.items node ≡ method
  method_here = ap (λ (xs : List ℕ). slice_index xs node) h.methods ∙ get_or-set_same old.methods.items node method 0 h.inside_methods

  root_there : (other : ℕ) → ¬ (other ≡ node) → slice_index new.roots.items other ≡ slice_index old.roots.items other
  root_there other differs = ap (λ (xs : List ℕ). slice_index xs other) h.roots ∙ get_or-set_other old.roots.items node other root 0 differs

  method_there : (other : ℕ) → ¬ (other ≡ node) → slice_index new.methods.items other ≡ slice_index old.methods.items other
  method_there other differs = ap (λ (xs : List ℕ). slice_index xs other) h.methods ∙ get_or-set_other old.methods.items node other method 0 differs

  pub comes_placed : IsPlaced new node
  comes_placed = record { has_root = λ is. h.real (sym root_here ∙ is) }

  apart : (other : ℕ) → IsPlaced old other → ¬ (other ≡ node)
  apart other placed same = placed.has_root (ap (slice_index old.roots.items) same ∙ h.unknown)

  keeps : (other : ℕ) → IsPlaced old other → IsPlaced new other
  keeps other placed = record { has_root = λ is. placed.has_root (sym (root_there other (apart other placed)) ∙ is) }

  pub comes_goes_on : GoesOn old new
  comes_goes_on = record { more = node ∷ []; order = h.order; keeps = keeps }

  data Came (other : ℕ) : Type 0 where
    before : Contains old.order.items other → Came other
    now : other ≡ node → Came other

  came : (other : ℕ) → Contains new.order.items other → Came other
  came other there = by (Contains-push_cases old.order.items node other (subst (λ (xs : List ℕ). Contains xs other) h.order there))
    where
      by : Contains old.order.items other ⊎ (node ≡ other) → Came other
      by (inl there) = before there
      by (inr same) = now (sym same)

  pub comes_walk : (graph : PlainGraph) → IsWalk graph old → IsPlace graph node method root → IsWalk graph new
  comes_walk graph w place = record {
    method_count = ap length h.methods ∙ (length-set old.methods.items node method ∙ w.method_count);
    root_count = ap length h.roots ∙ (length-set old.roots.items node root ∙ w.root_count);
    distinct = subst (IsDistinct eqb) (sym h.order) (IsDistinct-push nat_eq_equiv old.order.items node w.distinct absent);
    within = λ other there. within other (came other there);
    ordered = λ other low placed. ordered other low placed (eqb other node) refl;
    placed = λ other there. placed other (came other there);
    known = λ other there. known other (came other there);
  }
    where
      absent : list_any (eqb node) old.order.items ≡ false
      absent = by (list_any (eqb node) old.order.items) refl
        where
          by : (t : Bool) → list_any (eqb node) old.order.items ≡ t → t ≡ false
          by true t = absurd ((w.placed node (Contains-from_any eqb-true node old.order.items t)).has_root h.unknown)
          by false t = refl

      within : (other : ℕ) → Came other → other < length graph.nodes
      within other (before there) = w.within other there
      within other (now same) = let count = w.root_count in let inside = h.inside in omega arith

      ordered : (other : ℕ) → other < length graph.nodes → IsPlaced new other → (t : Bool) → eqb other node ≡ t → Contains new.order.items other
      ordered other low is true t =
          subst (λ (xs : List ℕ). Contains xs other) (sym h.order)
          (subst (λ (k : ℕ). Contains (old.order.items ++ node ∷ []) k) (sym (eqb-true other node t)) (Contains-push old.order.items node))
      ordered other low is false t =
          let was : IsPlaced old other = record { has_root = λ none. is.has_root (root_there other (eqb-false other node t) ∙ none) } in
          subst (λ (xs : List ℕ). Contains xs other) (sym h.order) (Contains-append_left old.order.items (node ∷ []) other (w.ordered other low was))

      placed : (other : ℕ) → Came other → IsPlaced new other
      placed other (before there) = keeps other (w.placed other there)
      placed other (now same) = subst (IsPlaced new) (sym same) comes_placed

      known : (other : ℕ) → Came other → IsPlace graph other (slice_index new.methods.items other) (slice_index new.roots.items other)
      known other (before there) =
          let differs = apart other (w.placed other there) in
          let was = w.known other there in
          record {
            method_is = subst (λ (m : ℕ). Finds (IsMethodAbove graph other) (node_or_none m)) (sym (method_there other differs)) was.method_is;
            root_is = subst (IsRootOf graph other) (sym (root_there other differs)) was.root_is;
          }
      known other (now same) =
          let here : IsPlace graph node (slice_index new.methods.items node) (slice_index new.roots.items node) = record {
            method_is = subst (λ (m : ℕ). Finds (IsMethodAbove graph node) (node_or_none m)) (sym method_here) place.method_is;
            root_is = subst (IsRootOf graph node) (sym root_here) place.root_is;
          } in
          subst (λ (k : ℕ). IsPlace graph k (slice_index new.methods.items k) (slice_index new.roots.items k)) (sym same) here

-- A walk that stays goes on, and one that goes on twice does.
pub stays : (walk : Walk) → GoesOn walk walk
stays walk = record { more = []; order = sym (append-nil walk.order.items); keeps = λ node placed. placed }

pub goes_further : (a b c : Walk) → GoesOn a b → GoesOn b c → GoesOn a c
goes_further a b c first second = record {
  more = first.more ++ second.more;
  order = second.order ∙ (ap (λ (xs : List ℕ). xs ++ second.more) first.order ∙ append_assoc a.order.items first.more second.more);
  keeps = λ node placed. second.keeps node (first.keeps node placed);
}

-- The roots stand in no METHOD.
pub root_place : (graph : PlainGraph) (node : ℕ) → ((parent : ℕ) → ¬ IsChild graph parent node) → IsPlace graph node NO_NODE node
root_place graph node top = record {
  method_is = λ found near. none_above graph node found top near.is_above;
  root_is = record { holds = inl refl; top = top };
}

-- A child stands in its parent, if that is a METHOD, and else where its parent does.
module _ (graph : PlainGraph) (shaped : IsShaped graph) (parent child method root : ℕ) (h : IsChild graph parent child) (place : IsPlace graph parent method root) where
  child_root : IsRootOf graph child root
  child_root = record { holds = inr (above_in graph root parent child place.root_is.holds h); top = place.root_is.top }

  pub child_of_method : IsNodeWith graph (HasLabel Method) parent → ¬ (parent ≡ NO_NODE) → IsPlace graph child parent root
  child_of_method has real = record { method_is = is (eqb parent NO_NODE) refl; root_is = child_root }
    where
      is : (t : Bool) → eqb parent NO_NODE ≡ t → Finds (IsMethodAbove graph child) (if t then None else Some parent)
      is true t = absurd (real (eqb-true parent NO_NODE t))
      is false t = nearest_here graph shaped Method parent child h has

  pub child_of_other : ¬ IsNodeWith graph (HasLabel Method) parent → IsPlace graph child method root
  child_of_other lacks = record { method_is = is (node_or_none method) place.method_is; root_is = child_root }
    where
      is : (found : Option ℕ) → Finds (IsMethodAbove graph parent) found → Finds (IsMethodAbove graph child) found
      is None lacking = λ found near. lacking found (nearest_up graph shaped Method parent child found h lacks near)
      is (Some found) near = nearest_down graph shaped Method parent child found h lacks near

-- A walk has no more nodes than the graph.
pub few_placed : (graph : PlainGraph) (walk : Walk) → IsWalk graph walk → length walk.order.items ≤ length graph.nodes
few_placed graph walk w =
    length-le_from_distinct_below walk.order.items (length graph.nodes) w.distinct (λ q there. w.within q (Contains-from_any eqb-true q walk.order.items there))

-- A walk that has come to the children of the first nodes of its order.
pub record Below (graph : PlainGraph) (walk : Walk) (next : ℕ) : Type 0 where
  pub walk_is : IsWalk graph walk
  pub roots : HasRoots graph walk
  pub done : (j : ℕ) → j < next → HasChildren graph (slice_index walk.order.items j) walk
  pub reached : next ≤ length walk.order.items

pub below_none : (graph : PlainGraph) (walk : Walk) → IsWalk graph walk → HasRoots graph walk → Below graph walk 0
below_none graph walk w roots = record { walk_is = w; roots = roots; done = λ j low. absurd (omega arith); reached = omega arith }

pub below_next : (graph : PlainGraph) (old new : Walk) (next : ℕ) → Below graph old next → next < length old.order.items →
    IsWalk graph new → HasChildren graph (slice_index old.order.items next) new → GoesOn old new → Below graph new (next + 1)
below_next graph old new next h low w children on = record {
  walk_is = w;
  roots = record { each = λ node inside top. on.keeps node (h.roots.each node inside top) };
  done = λ j below. subst (λ (k : ℕ). HasChildren graph k new) (sym (same j (omega arith))) (done j below (eqb j next) refl);
  reached = let longer = ap length on.order in let sum = length-append old.order.items on.more in omega arith;
}
  where
    same : (j : ℕ) → j < length old.order.items → slice_index new.order.items j ≡ slice_index old.order.items j
    same j inside = ap (λ (xs : List ℕ). slice_index xs j) on.order ∙ get_or_append_left old.order.items on.more 0 j inside

    done : (j : ℕ) → j < next + 1 → (t : Bool) → eqb j next ≡ t → HasChildren graph (slice_index old.order.items j) new
    done j below true t = subst (λ (k : ℕ). HasChildren graph (slice_index old.order.items k) new) (sym (eqb-true j next t)) children
    done j below false t =
        let differs = eqb-false j next t in
        record { each = λ child is. on.keeps child ((h.done j (omega arith)).each child is) }

-- One that has come to the children of all its nodes has come to all nodes.
module _ (graph : PlainGraph) (shaped : IsShaped graph) (is_graph : IsGraph graph) (walk : Walk) (next : ℕ) (h : Below graph walk next) (end : length walk.order.items ≤ next) where
  all_within : (fuel node : ℕ) → node < length graph.nodes → depth graph node < fuel → IsPlaced walk node
  all_within zero node inside low = absurd (omega arith)
  all_within (suc fuel) node inside low = by (parent_found graph shaped is_graph node) (all_within fuel)
    where
      by : Parent graph shaped is_graph node → ((p : ℕ) → p < length graph.nodes → depth graph p < fuel → IsPlaced walk p) → IsPlaced walk node
      by (none top) rest = h.roots.each node inside top
      by (one parent is) rest =
          let falls = depth_falls graph shaped is_graph parent node is in
          let ends = ends_of graph is_graph Ast parent node is in
          let placed = rest parent ends.from_low (omega arith) in
          let there = h.walk_is.ordered parent ends.from_low placed in
          let at : slice_index walk.order.items there.0 ≡ parent = get_or_default walk.order.items there.0 0 parent there.1 ∙ there.2 in
          let done : HasChildren graph parent walk = subst (λ (k : ℕ). HasChildren graph k walk) at (h.done there.0 (let inside = there.1 in omega arith)) in
          done.each node is

  pub all_placed : HasAll graph walk
  all_placed = record { each = λ node inside. all_within (suc (depth graph node)) node inside (omega arith) }

-- A walk that has come to the roots among the first nodes.
pub record Rooting (graph : PlainGraph) (walk : Walk) (count : ℕ) : Type 0 where
  pub walk_is : IsWalk graph walk
  pub roots : (node : ℕ) → node < count → ((parent : ℕ) → ¬ IsChild graph parent node) → IsPlaced walk node

pub rooting_from : (graph : PlainGraph) (walk : Walk) → IsWalk graph walk → Rooting graph walk 0
rooting_from graph walk w = record { walk_is = w; roots = λ node low. absurd (omega arith) }

pub rooting_next : (graph : PlainGraph) (old new : Walk) (count : ℕ) → Rooting graph old count → IsWalk graph new → GoesOn old new →
    (((parent : ℕ) → ¬ IsChild graph parent count) → IsPlaced new count) → Rooting graph new (count + 1)
rooting_next graph old new count h w on here = record { walk_is = w; roots = λ node low top. by node low top (eqb node count) refl }
  where
    by : (node : ℕ) → node < count + 1 → ((parent : ℕ) → ¬ IsChild graph parent node) → (t : Bool) → eqb node count ≡ t → IsPlaced new node
    by node low top true t =
        let same : node ≡ count = eqb-true node count t in
        subst (IsPlaced new) (sym same) (here (subst (λ (k : ℕ). (parent : ℕ) → ¬ IsChild graph parent k) same top))
    by node low top false t = let differs = eqb-false node count t in on.keeps node (h.roots node (omega arith) top)

pub rooting_ends : (graph : PlainGraph) (walk : Walk) (count : ℕ) → Rooting graph walk count → length graph.nodes ≤ count → HasRoots graph walk
rooting_ends graph walk count h all = record { each = λ node low top. h.roots node (omega arith) top }

-- A walk that has come to the ends of the first of some edges, on its way through the children of a node.
pub record Placing (graph : PlainGraph) (old new : Walk) (node method root : ℕ) (edges : List Edge) (count : ℕ) : Type 0 where
  pub walk_is : IsWalk graph new
  pub on : GoesOn old new
  pub each : (k : ℕ) (d : Edge) → k < count → IsPlaced new (get_or edges k d).to
  pub place : (child : ℕ) → IsChild graph node child → IsPlace graph child method root
  pub real : ¬ (root ≡ NO_NODE)

pub placing_from : (graph : PlainGraph) (walk : Walk) (node method root : ℕ) (edges : List Edge) → IsWalk graph walk →
    ((child : ℕ) → IsChild graph node child → IsPlace graph child method root) → ¬ (root ≡ NO_NODE) → Placing graph walk walk node method root edges 0
placing_from graph walk node method root edges w place real = record { walk_is = w; on = stays walk; each = λ k d low. absurd (omega arith); place = place; real = real }

pub placing_next : (graph : PlainGraph) (old middle new : Walk) (node method root : ℕ) (edges : List Edge) (count : ℕ) → Placing graph old middle node method root edges count →
    IsWalk graph new → GoesOn middle new → ((d : Edge) → IsPlaced new (get_or edges count d).to) → Placing graph old new node method root edges (count + 1)
placing_next graph old middle new node method root edges count h w on here = record {
  walk_is = w;
  on = goes_further old middle new h.on on;
  each = λ k d low. by k d low (eqb k count) refl;
  place = h.place;
  real = h.real;
}
  where
    by : (k : ℕ) (d : Edge) → k < count + 1 → (t : Bool) → eqb k count ≡ t → IsPlaced new (get_or edges k d).to
    by k d low true t = subst (λ (i : ℕ). IsPlaced new (get_or edges i d).to) (sym (eqb-true k count t)) (here d)
    by k d low false t = let differs = eqb-false k count t in on.keeps (get_or edges k d).to (h.each k d (omega arith))

-- A walk at its beginning has come to no node.
pub new_walk : (graph : PlainGraph) (walk : Walk) (count : ℕ) → walk.methods.items ≡ replicate count NO_NODE → walk.roots.items ≡ replicate count NO_NODE → walk.order.items ≡ [] →
    length graph.nodes ≡ count → IsWalk graph walk
new_walk graph walk count methods roots order is = record {
  method_count = ap length methods ∙ (length-replicate count NO_NODE ∙ sym is);
  root_count = ap length roots ∙ (length-replicate count NO_NODE ∙ sym is);
  distinct = subst (IsDistinct eqb) (sym order) none_distinct;
  within = λ node there. absurd (nowhere node there);
  ordered = λ node low placed. absurd (placed.has_root (root node low));
  placed = λ node there. absurd (nowhere node there);
  known = λ node there. absurd (nowhere node there);
}
  where
    nowhere : (node : ℕ) → ¬ Contains walk.order.items node
    nowhere node there = let low = there.1 in let empty = ap length order in omega arith

    root : (node : ℕ) → node < length graph.nodes → slice_index walk.roots.items node ≡ NO_NODE
    root node low = ap (λ (xs : List ℕ). slice_index xs node) roots ∙ get_or-replicate count node NO_NODE 0 (omega arith)

-- What a walk that has come to a node knows of it and of its children.
module _ (graph : PlainGraph) (shaped : IsShaped graph) (walk : Walk) (w : IsWalk graph walk) (node : ℕ) (come : Contains walk.order.items node) where
  pub real_root : (root : ℕ) → root ≡ slice_index walk.roots.items node → ¬ (root ≡ NO_NODE)
  real_root root is unknown = (w.placed node come).has_root (sym is ∙ unknown)

  pub under_method : (root : ℕ) → root ≡ slice_index walk.roots.items node → IsNodeWith graph (HasLabel Method) node → ¬ (node ≡ NO_NODE) →
      (child : ℕ) → IsChild graph node child → IsPlace graph child node root
  under_method root is has real child h =
      subst (IsPlace graph child node) (sym is)
      (child_of_method graph shaped node child (slice_index walk.methods.items node) (slice_index walk.roots.items node) h (w.known node come) has real)

  pub under_other : (method root : ℕ) → method ≡ slice_index walk.methods.items node → root ≡ slice_index walk.roots.items node → ¬ IsNodeWith graph (HasLabel Method) node →
      (child : ℕ) → IsChild graph node child → IsPlace graph child method root
  under_other method root method_is root_is lacks child h =
      subst (IsPlace graph child method) (sym root_is)
      (subst (λ (m : ℕ). IsPlace graph child m (slice_index walk.roots.items node)) (sym method_is)
      (child_of_other graph shaped node child (slice_index walk.methods.items node) (slice_index walk.roots.items node) h (w.known node come) lacks))

-- What a walk that has come to all nodes knows.
pub places_are : (graph : PlainGraph) (walk : Walk) → IsWalk graph walk → HasAll graph walk →
    ArePlacesOf graph (record { methods = map node_or_none walk.methods.items; roots = walk.roots.items })
places_are graph walk w all = record {
  method_count = length-map walk.methods.items node_or_none ∙ w.method_count;
  root_count = w.root_count;
  methods = λ node method is. method_at node method (slice_get walk.methods.items node) refl (sym (slice_get-map node_or_none walk.methods.items node) ∙ is);
  roots = λ node root is.
      let within = slice_get_within walk.roots.items node root is in
      let count = w.root_count in
      subst (IsRootOf graph node) (get_or_from_slice_get walk.roots.items node root 0 is) (known node (omega arith)).root_is;
}
  where
    known : (node : ℕ) → node < length graph.nodes → IsPlace graph node (slice_index walk.methods.items node) (slice_index walk.roots.items node)
    known node low = w.known node (w.ordered node low (all.each node low))

    method_at : (node : ℕ) (method : Option ℕ) (found : Option ℕ) → slice_get walk.methods.items node ≡ found → option_map node_or_none found ≡ Some method → Finds (IsMethodAbove graph node) method
    method_at node method None at is = cc
    method_at node method (Some number) at is =
        let within = slice_get_within walk.methods.items node number at in
        let count = w.method_count in
        let shown : node_or_none number ≡ method = cc in
        let here : slice_index walk.methods.items node ≡ number = get_or_from_slice_get walk.methods.items node number 0 at in
        subst (Finds (IsMethodAbove graph node)) (ap node_or_none here ∙ shown) (known node (omega arith)).method_is
