-- A graph stays one with a delta that fits it: nodes keep their labels, and edges stay among them.
use Rattle.std.proofs.Common.{◌≡◌, ◌⊎◌, ℕ, zero, suc, ◌+◌, ◌<◌, List, [], ◌∷◌, ◌++◌, IsTrue, Some, length, map, slice_get, inl, inr, refl, ap, sym, subst, ◌∙◌, arith}
use Rattle.std.specs.List.{All}
use Rattle.std.proofs.lemmas.List.Elements.{All-append, All-head, All-tail, All-weaker}
use Rattle.std.proofs.lemmas.Option.{slice_get_within}
use Rattle.cpg_schema.specs.declared.label.Label.{Label}
use Rattle.cpg_schema.specs.declared.key.Key.{Key}
use Rattle.cpg_schema.specs.declared.key.Key.TheVariants.{Name, Code, Filename, LineNumber, Order, ArgumentIndex, TypeFullName, ControlStructureType, Linkage}
use Rattle.cpg_schema.specs.Graph.{PlainNode, PlainEdge, PlainGraph}
use Rattle.cpg_schema.specs.Schema.{allows}
use Rattle.cpg_schema.specs.Properties.{Property, with_text, with_number, with_property}
use Rattle.cpg_schema.specs.Deltas.{Setting, PlainDelta, changed_at, with_setting, with_settings, added_edge, applied}
use Rattle.cpg_schema.specs.Fitting.{IsEdgeAmong, IsGraph, IsNewSetting, Fits}

-- Each node has its label among others, at its position.
pub record KeepsLabels (nodes others : List PlainNode) : Type 0 where
  pub kept : (n : ℕ) (x : PlainNode) → slice_get nodes n ≡ Some x → (y : PlainNode) × (slice_get others n ≡ Some y) × (y.label ≡ x.label)

among_keeps : (nodes others : List PlainNode) → KeepsLabels nodes others → (edge : PlainEdge) → IsEdgeAmong nodes edge → IsEdgeAmong others edge
among_keeps nodes others keeps edge h =
    let f = keeps.kept edge.from h.from h.from_is in
    let t = keeps.kept edge.to h.to h.to_is in
    record {
      from = f.0;
      from_is = f.1;
      to = t.0;
      to_is = t.1;
      allowed = subst (λ (l : Label). IsTrue (allows edge.kind l t.0.label)) (sym f.2)
          (subst (λ (l : Label). IsTrue (allows edge.kind h.from.label l)) (sym t.2) h.allowed);
      variable = h.variable;
    }

pub all_among : (nodes others : List PlainNode) → KeepsLabels nodes others → (edges : List PlainEdge) → All (IsEdgeAmong nodes) edges → All (IsEdgeAmong others) edges
all_among nodes others keeps edges all = All-weaker (IsEdgeAmong nodes) (IsEdgeAmong others) (among_keeps nodes others keeps) edges all

-- a property keeps the label
text_label : (key : Key) (v : List ℕ) (x : PlainNode) → (with_text key v x).label ≡ x.label
text_label Name v x = refl
text_label Code v x = refl
text_label Filename v x = refl
text_label LineNumber v x = refl
text_label Order v x = refl
text_label ArgumentIndex v x = refl
text_label TypeFullName v x = refl
text_label ControlStructureType v x = refl
text_label Linkage v x = refl

number_label : (key : Key) (v : ℕ) (x : PlainNode) → (with_number key v x).label ≡ x.label
number_label Name v x = refl
number_label Code v x = refl
number_label Filename v x = refl
number_label LineNumber v x = refl
number_label Order v x = refl
number_label ArgumentIndex v x = refl
number_label TypeFullName v x = refl
number_label ControlStructureType v x = refl
number_label Linkage v x = refl

pub property_label : (key : Key) (v : Property) (x : PlainNode) → (with_property key v x).label ≡ x.label
property_label key (Property.text v) x = text_label key v x
property_label key (Property.number v) x = number_label key v x

-- the item at a position where the item at another, or at the same one, was changed
pub changed_get : {X : Type 0} (f : X → X) (xs : List X) (k n : ℕ) (x : X) → slice_get xs n ≡ Some x →
    (y : X) × (slice_get (changed_at k f xs) n ≡ Some y) × ((y ≡ x) ⊎ ((k ≡ n) × (y ≡ f x)))
changed_get f [] k n x h = absurd (cc)
changed_get f (z ∷ xs) zero zero x h = let e : z ≡ x = cc in (f z, refl, inr (refl, ap f e))
changed_get f (z ∷ xs) zero (suc n) x h = (x, h, inl refl)
changed_get f (z ∷ xs) (suc k) zero x h = (x, h, inl refl)
changed_get f (z ∷ xs) (suc k) (suc n) x h =
    let rest = changed_get f xs k n x h in
    (rest.0, rest.1, deeper k n rest.0 (f x) x rest.2)
  where
    deeper : {X : Type 0} (k n : ℕ) (y z x : X) → (y ≡ x) ⊎ ((k ≡ n) × (y ≡ z)) → (y ≡ x) ⊎ ((suc k ≡ suc n) × (y ≡ z))
    deeper k n y z x (inl e) = inl e
    deeper k n y z x (inr e) = inr (ap suc e.0, e.1)

change_label : (s : Setting) (nodes : List PlainNode) (n : ℕ) (x : PlainNode) → slice_get nodes n ≡ Some x →
    (y : PlainNode) × (slice_get (with_setting s nodes) n ≡ Some y) × (y.label ≡ x.label)
change_label s nodes n x h =
    let there = changed_get (with_property s.key s.value) nodes s.node n x h in
    (there.0, there.1, same there.0 there.2)
  where
    same : (y : PlainNode) → (y ≡ x) ⊎ ((s.node ≡ n) × (y ≡ with_property s.key s.value x)) → y.label ≡ x.label
    same y (inl e) = ap (λ (p : PlainNode). p.label) e
    same y (inr e) = ap (λ (p : PlainNode). p.label) e.1 ∙ property_label s.key s.value x

-- so settings keep the labels
pub set_keeps : (settings : List Setting) (nodes : List PlainNode) → KeepsLabels nodes (with_settings settings nodes)
set_keeps [] nodes = record { kept = λ n x h. (x, h, refl) }
set_keeps (s ∷ settings) nodes =
    let rest = set_keeps settings (with_setting s nodes) in
    record {
      kept = λ n x h.
          let one = change_label s nodes n x h in
          let two = rest.kept n one.0 one.1 in
          (two.0, two.1, two.2 ∙ one.2);
    }

pub get_front : (nodes more : List PlainNode) (n : ℕ) (x : PlainNode) → slice_get nodes n ≡ Some x → slice_get (nodes ++ more) n ≡ Some x
get_front [] more n x h = absurd (cc)
get_front (z ∷ nodes) more zero x h = h
get_front (z ∷ nodes) more (suc n) x h = get_front nodes more n x h

-- and so do new nodes at the end
pub append_keeps : (nodes more : List PlainNode) → KeepsLabels nodes (nodes ++ more)
append_keeps nodes more = record { kept = λ n x h. (x, get_front nodes more n x h, refl) }

pub keeps_trans : (a b c : List PlainNode) → KeepsLabels a b → KeepsLabels b c → KeepsLabels a c
keeps_trans a b c ab bc = record {
  kept = λ n x h.
      let one = ab.kept n x h in
      let two = bc.kept n one.0 one.1 in
      (two.0, two.1, two.2 ∙ one.2);
}

change_front : (f : PlainNode → PlainNode) (nodes more : List PlainNode) (k : ℕ) → k < length nodes → changed_at k f (nodes ++ more) ≡ changed_at k f nodes ++ more
change_front f [] more k h = absurd (omega arith)
change_front f (z ∷ nodes) more zero h = refl
change_front f (z ∷ nodes) more (suc k) h = ap (λ (rest : List PlainNode). z ∷ rest) (change_front f nodes more k (omega arith))

length-changed_at : (f : PlainNode → PlainNode) (nodes : List PlainNode) (k : ℕ) → length (changed_at k f nodes) ≡ length nodes
length-changed_at f [] k = refl
length-changed_at f (z ∷ nodes) zero = refl
length-changed_at f (z ∷ nodes) (suc k) = ap suc (length-changed_at f nodes k)

-- settings of the nodes at the front
set_front : (settings : List Setting) (nodes more : List PlainNode) (count : ℕ) → length nodes ≡ count → All (λ (s : Setting). s.node < count) settings →
    with_settings settings (nodes ++ more) ≡ with_settings settings nodes ++ more
set_front [] nodes more count size all = refl
set_front (s ∷ settings) nodes more count size all =
    let f = with_property s.key s.value in
    let low : s.node < count = All-head (λ (s : Setting). s.node < count) s settings all in
    ap (with_settings settings) (change_front f nodes more s.node (omega arith)) ∙
    set_front settings (changed_at s.node f nodes) more count (length-changed_at f nodes s.node ∙ size)
    (All-tail (λ (s : Setting). s.node < count) s settings all)

-- settings that are new are of nodes that are there
pub new_within : (nodes : List PlainNode) (settings : List Setting) → All (IsNewSetting nodes) settings → All (λ (s : Setting). s.node < length nodes) settings
new_within nodes settings all =
    All-weaker (IsNewSetting nodes) (λ (s : Setting). s.node < length nodes) (λ s h. slice_get_within nodes s.node h.node h.node_is) settings all

-- The labels of the nodes with a delta: of those that are there, and of the new ones.
pub applied_labels : (graph : PlainGraph) (delta : PlainDelta) → Fits graph delta → KeepsLabels (graph.nodes ++ delta.nodes) (applied graph delta).nodes
applied_labels graph delta fits =
    subst (KeepsLabels (graph.nodes ++ delta.nodes))
    (set_front delta.settings graph.nodes delta.nodes (length graph.nodes) refl (new_within graph.nodes delta.settings fits.settings))
    (set_keeps delta.settings (graph.nodes ++ delta.nodes))

-- A graph stays one.
pub applied_is_graph : (graph : PlainGraph) (delta : PlainDelta) → IsGraph graph → Fits graph delta → IsGraph (applied graph delta)
applied_is_graph graph delta is fits =
    let all = graph.nodes ++ delta.nodes in
    let new = map (added_edge (length graph.nodes)) delta.edges in
    let old = all_among graph.nodes all (append_keeps graph.nodes delta.nodes) graph.edges is.edges in
    let both = All-append (IsEdgeAmong all) graph.edges new old fits.allowed in
    record { edges = all_among all (applied graph delta).nodes (applied_labels graph delta fits) (graph.edges ++ new) both }
