-- The list of the nodes above one has its root last, and its nearest METHOD as the first METHOD.
use Rattle.std.proofs.Common.{◌≡◌, ℕ, zero, suc, ◌≤◌, ◌==◌, Bool, true, false, if◌then◌else◌, List, [], ◌∷◌, Option, Some, None, inl, inr, length, get_or, slice_get, refl, ap, sym, ◌∙◌, arith, eqb-true, eq-eqb}
use Rattle.cpg_schema.specs.declared.label.Label.{Label}
use Rattle.cpg_schema.specs.declared.label.Label.TheVariants as label
use Rattle.cpg_schema.specs.Names.{label_rank}
use Rattle.cpg_schema.specs.Graph.{PlainNode, PlainGraph}
use Rattle.cpg_schema.specs.Fitting.{IsGraph}
use Rattle.cpg_schema.specs.Shape.{IsShaped}
use Rattle.graph_parts.specs.Finds.{Finds}
use Rattle.graph_parts.specs.Parts.{IsChild, IsNodeWith, HasLabel}
use Rattle.graph_parts.specs.NodesAbove.{parent_in, with_above, above_within, is_labelled, last_of, first_labelled, root_at, method_at}
use Rattle.graph_parts.specs.Standing.{IsNearestAbove, IsMethodAbove, IsRootOf}
use Rattle.graph_parts.proofs.Tree.{child_at, edge_at, above_in, nearest_down, nearest_up, nearest_here, none_above}
use Rattle.graph_parts.proofs.Depth.{found, missing, few}

-- a label is known by its rank
labels : List Label
labels =
    label.MetaData ∷ label.File ∷ label.NamespaceBlock ∷ label.Method ∷ label.MethodParameterIn ∷ label.MethodParameterOut ∷ label.MethodReturn ∷ label.TypeNode ∷ label.TypeDecl
    ∷ label.Member ∷ label.Block ∷ label.Call ∷ label.ControlStructure ∷ label.Identifier ∷ label.FieldIdentifier ∷ label.Literal ∷ label.Local ∷ label.MethodRef ∷ label.TypeRef
    ∷ label.JumpTarget ∷ label.Return ∷ label.Unknown ∷ []

at_place : (one : Label) → get_or labels (label_rank one) label.Unknown ≡ one
unfolding labels
at_place label.MetaData = refl
at_place label.File = refl
at_place label.NamespaceBlock = refl
at_place label.Method = refl
at_place label.MethodParameterIn = refl
at_place label.MethodParameterOut = refl
at_place label.MethodReturn = refl
at_place label.TypeNode = refl
at_place label.TypeDecl = refl
at_place label.Member = refl
at_place label.Block = refl
at_place label.Call = refl
at_place label.ControlStructure = refl
at_place label.Identifier = refl
at_place label.FieldIdentifier = refl
at_place label.Literal = refl
at_place label.Local = refl
at_place label.MethodRef = refl
at_place label.TypeRef = refl
at_place label.JumpTarget = refl
at_place label.Return = refl
at_place label.Unknown = refl

label_from_rank : (a b : Label) → label_rank a ≡ label_rank b → a ≡ b
label_from_rank a b same = sym (at_place a) ∙ (ap (λ (place : ℕ). get_or labels place label.Unknown) same ∙ at_place b)

-- the test of a label tells
pub labelled_is : (graph : PlainGraph) (one : Label) (node : ℕ) → is_labelled graph one node ≡ true → IsNodeWith graph (HasLabel one) node
labelled_is graph one node is = by (slice_get graph.nodes node) refl is
  where
    by : (o : Option PlainNode) → slice_get graph.nodes node ≡ o → is_labelled graph one node ≡ true → IsNodeWith graph (HasLabel one) node
    by None at is = let no : false ≡ true = rw at at is in cc
    by (Some found) at is =
        let test : (label_rank found.label == label_rank one) ≡ true = rw at at is in
        record { node = found; node_is = at; has = label_from_rank found.label one (eqb-true (label_rank found.label) (label_rank one) test) }

pub labelled_test : (graph : PlainGraph) (one : Label) (node : ℕ) → IsNodeWith graph (HasLabel one) node → is_labelled graph one node ≡ true
labelled_test graph one node h = rw h.node_is (eq-eqb (label_rank h.node.label) (label_rank one) (ap label_rank h.has))

pub lacks_label : (graph : PlainGraph) (one : Label) (node : ℕ) → is_labelled graph one node ≡ false → ¬ IsNodeWith graph (HasLabel one) node
lacks_label graph one node is h = let other = labelled_test graph one node h in let no : true ≡ false = sym other ∙ is in cc

module _ (graph : PlainGraph) (shaped : IsShaped graph) (is_graph : IsGraph graph) where
  root_last : (count node : ℕ) → length (above_within graph (suc count) node) ≤ count → IsRootOf graph node (last_of node (above_within graph count node))
  root_last zero node low = by (parent_in graph.edges node) refl low
    where
      by : (o : Option ℕ) → parent_in graph.edges node ≡ o → length (with_above (above_within graph 0) o) ≤ 0 → IsRootOf graph node node
      by None is low = record { holds = inl refl; top = λ parent h. missing graph.edges node is h.position parent (edge_at graph parent node h) }
      by (Some p) is low = absurd (omega arith)
  root_last (suc count) node low = by (parent_in graph.edges node) refl low (root_last count)
    where
      by : (o : Option ℕ) → parent_in graph.edges node ≡ o → length (with_above (above_within graph (suc count)) o) ≤ suc count →
          ((p : ℕ) → length (above_within graph (suc count) p) ≤ count → IsRootOf graph p (last_of p (above_within graph count p))) →
          IsRootOf graph node (last_of node (with_above (above_within graph count) o))
      by None is low rest = record { holds = inl refl; top = λ parent h. missing graph.edges node is h.position parent (edge_at graph parent node h) }
      by (Some p) is low rest =
          let at = found graph.edges node p is in
          let up = rest p (omega arith) in
          record { holds = inr (above_in graph (last_of p (above_within graph count p)) p node up.holds (child_at graph at.0 p node at.1)); top = up.top }

  pub root_at_is : (node : ℕ) → IsRootOf graph node (root_at graph node)
  root_at_is node = root_last (length graph.nodes) node (few graph shaped is_graph (suc (length graph.nodes)) node)

  nearest_first : (one : Label) (count node : ℕ) → length (above_within graph (suc count) node) ≤ count →
      Finds (IsNearestAbove graph one node) (first_labelled graph one (above_within graph count node))
  nearest_first one zero node low = by (parent_in graph.edges node) refl low
    where
      by : (o : Option ℕ) → parent_in graph.edges node ≡ o → length (with_above (above_within graph 0) o) ≤ 0 → (found : ℕ) → ¬ IsNearestAbove graph one node found
      by None is low found near = none_above graph node found (λ parent h. missing graph.edges node is h.position parent (edge_at graph parent node h)) near.is_above
      by (Some p) is low found near = absurd (omega arith)
  nearest_first one (suc count) node low = by (parent_in graph.edges node) refl low (nearest_first one count)
    where
      from : (p : ℕ) → IsChild graph p node → ¬ IsNodeWith graph (HasLabel one) p → (o : Option ℕ) → Finds (IsNearestAbove graph one p) o → Finds (IsNearestAbove graph one node) o
      from p is lacks None lacking = λ found near. lacking found (nearest_up graph shaped one p node found is lacks near)
      from p is lacks (Some found) near = nearest_down graph shaped one p node found is lacks near

      up : (p : ℕ) → IsChild graph p node → (t : Bool) → is_labelled graph one p ≡ t →
          Finds (IsNearestAbove graph one p) (first_labelled graph one (above_within graph count p)) →
          Finds (IsNearestAbove graph one node) (if t then Some p else first_labelled graph one (above_within graph count p))
      up p is true t rest = nearest_here graph shaped one p node is (labelled_is graph one p t)
      up p is false t rest = from p is (lacks_label graph one p t) (first_labelled graph one (above_within graph count p)) rest

      by : (o : Option ℕ) → parent_in graph.edges node ≡ o → length (with_above (above_within graph (suc count)) o) ≤ suc count →
          ((p : ℕ) → length (above_within graph (suc count) p) ≤ count → Finds (IsNearestAbove graph one p) (first_labelled graph one (above_within graph count p))) →
          Finds (IsNearestAbove graph one node) (first_labelled graph one (with_above (above_within graph count) o))
      by None is low rest = λ found near. none_above graph node found (λ parent h. missing graph.edges node is h.position parent (edge_at graph parent node h)) near.is_above
      by (Some p) is low rest = let at = found graph.edges node p is in up p (child_at graph at.0 p node at.1) (is_labelled graph one p) refl (rest p (omega arith))

  pub method_at_is : (node : ℕ) → Finds (IsMethodAbove graph node) (method_at graph node)
  method_at_is node = nearest_first label.Method (length graph.nodes) node (few graph shaped is_graph (suc (length graph.nodes)) node)
