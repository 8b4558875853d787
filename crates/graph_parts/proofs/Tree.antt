-- The tree that the AST edges of a shaped graph make.
use Rattle.std.proofs.Common.{◌≡◌, ℕ, Some, ◌⊎◌, inl, inr, slice_get, refl, ap, sym, subst, ◌∙◌}
use Rattle.cpg_schema.specs.declared.label.Label.{Label}
use Rattle.cpg_schema.specs.Graph.{PlainEdge, PlainGraph}
use Rattle.cpg_schema.specs.Shape.{IsAstEdgeAt, IsAbove, child as child_of, descendant, IsShaped}
use Rattle.graph_parts.specs.Parts.{IsChild, IsNodeWith, HasLabel}
use Rattle.graph_parts.specs.Standing.{IsIn, IsNearestAbove, IsRootOf}

module _ (graph : PlainGraph) where
  pub edge_at : (parent child : ℕ) (h : IsChild graph parent child) → IsAstEdgeAt graph.edges h.position parent child
  edge_at parent child h = record { edge = h.edge; edge_is = h.edge_is; kind = h.kind_is; from = h.from_is; to = h.to_is }

  pub child_at : (position parent child : ℕ) → IsAstEdgeAt graph.edges position parent child → IsChild graph parent child
  child_at position parent child h = record { position = position; edge = h.edge; edge_is = h.edge_is; kind_is = h.kind; from_is = h.from; to_is = h.to }

  pub above_child : (parent child : ℕ) → IsChild graph parent child → IsAbove graph.edges parent child
  above_child parent child h = child_of h.position child (edge_at parent child h)

  pub above_further : (ancestor parent child : ℕ) → IsAbove graph.edges ancestor parent → IsChild graph parent child → IsAbove graph.edges ancestor child
  above_further ancestor parent child up h = descendant h.position parent child up (edge_at parent child h)

  pub above_in : (top parent child : ℕ) → IsIn graph top parent → IsChild graph parent child → IsAbove graph.edges top child
  above_in top parent child holds h =
      elim holds [
        | inl same ↦ subst (λ (at : ℕ). IsAbove graph.edges at child) (sym same) (above_child parent child h)
        | inr up ↦ above_further top parent child up h
      ]

  pub above_trans : (a b c : ℕ) → IsAbove graph.edges a b → IsAbove graph.edges b c → IsAbove graph.edges a c
  above_trans a b _ up (child_of position c at) = descendant position b c up at
  above_trans a b _ up (descendant position parent c more at) = descendant position parent c (above_trans a b parent up more) at

  -- what is above a node is its parent, or above it
  pub record Last (ancestor node : ℕ) : Type 0 where
    pub parent : ℕ
    pub is_child : IsChild graph parent node
    pub holds : IsIn graph ancestor parent

  pub last_of : (ancestor node : ℕ) → IsAbove graph.edges ancestor node → Last ancestor node
  last_of ancestor _ (child_of position node at) = record { parent = ancestor; is_child = child_at position ancestor node at; holds = inl refl }
  last_of ancestor _ (descendant position parent node up at) = record { parent = parent; is_child = child_at position parent node at; holds = inr up }

  -- nothing is above a root
  pub none_above : (node found : ℕ) → ((parent : ℕ) → ¬ IsChild graph parent node) → ¬ IsAbove graph.edges found node
  none_above node found top up = let last = last_of found node up in top last.parent last.is_child

module _ (graph : PlainGraph) (shaped : IsShaped graph) where
  pub one_parent : (first second node : ℕ) → IsChild graph first node → IsChild graph second node → first ≡ second
  one_parent first second node one two =
      let same : one.position ≡ two.position = shaped.one_parent one.position two.position first second node (edge_at graph first node one) (edge_at graph second node two) in
      let here : slice_get graph.edges one.position ≡ Some two.edge = ap (slice_get graph.edges) same ∙ two.edge_is in
      let edge : Some one.edge ≡ Some two.edge = sym one.edge_is ∙ here in
      let edges : one.edge ≡ two.edge = cc in
      sym one.from_is ∙ (ap (λ (e : PlainEdge). e.from) edges ∙ two.from_is)

  -- what is above a node holds each parent of it
  pub in_parent : (ancestor parent node : ℕ) → IsAbove graph.edges ancestor node → IsChild graph parent node → IsIn graph ancestor parent
  in_parent ancestor parent node up h =
      let last = last_of graph ancestor node up in
      subst (λ (at : ℕ). IsIn graph ancestor at) (one_parent last.parent parent node last.is_child h) last.holds

  -- two nodes above one are the same, or one is above the other
  pub compare_above : (a b node : ℕ) → IsAbove graph.edges a node → IsAbove graph.edges b node →
      (a ≡ b) ⊎ (IsAbove graph.edges a b ⊎ IsAbove graph.edges b a)
  compare_above a b _ (child_of position node at) other =
      elim (in_parent b a node other (child_at graph position a node at)) [
        | inl same ↦ inl (sym same)
        | inr up ↦ inr (inr up)
      ]
  compare_above a b _ (descendant position parent node up at) other =
      elim (in_parent b parent node other (child_at graph position parent node at)) [
        | inl same ↦ inr (inl (subst (λ (n : ℕ). IsAbove graph.edges a n) (sym same) up))
        | inr more ↦ compare_above a b parent up more
      ]

  pub one_nearest : (label : Label) (node first second : ℕ) → IsNearestAbove graph label node first → IsNearestAbove graph label node second → first ≡ second
  one_nearest label node first second one two =
      elim (compare_above first second node one.is_above two.is_above) [
        | inl same ↦ same
        | inr (inl up) ↦ absurd (one.nearest second up two.is_above two.is_node)
        | inr (inr up) ↦ absurd (two.nearest first up one.is_above one.is_node)
      ]

  pub one_root : (node first second : ℕ) → IsRootOf graph node first → IsRootOf graph node second → first ≡ second
  one_root node first second one two = roots first second node one.holds one.top two.holds two.top
    where
      below : (a b : ℕ) → IsAbove graph.edges a b → ((p : ℕ) → ¬ IsChild graph p b) → ⊥
      below a b up top = let last = last_of graph a b up in top last.parent last.is_child

      roots : (a b n : ℕ) → IsIn graph a n → ((p : ℕ) → ¬ IsChild graph p a) → IsIn graph b n → ((p : ℕ) → ¬ IsChild graph p b) → a ≡ b
      roots a b n (inl same) top_a (inl other) top_b = same ∙ sym other
      roots a b n (inl same) top_a (inr up) top_b = absurd (below b a (subst (λ (k : ℕ). IsAbove graph.edges b k) (sym same) up) top_a)
      roots a b n (inr up) top_a (inl other) top_b = absurd (below a b (subst (λ (k : ℕ). IsAbove graph.edges a k) (sym other) up) top_b)
      roots a b n (inr up) top_a (inr more) top_b =
          elim (compare_above a b n up more) [
            | inl same ↦ same
            | inr (inl over) ↦ absurd (below a b over top_b)
            | inr (inr over) ↦ absurd (below b a over top_a)
          ]

  -- the nearest above a node whose parent lacks the label is the nearest above the parent
  pub nearest_down : (label : Label) (parent node found : ℕ) → IsChild graph parent node → ¬ IsNodeWith graph (HasLabel label) parent →
      IsNearestAbove graph label parent found → IsNearestAbove graph label node found
  nearest_down label parent node found h lacks near = record {
    is_above = above_further graph found parent node near.is_above h;
    is_node = near.is_node;
    nearest = λ between over under has.
        lacking between over has (in_parent between parent node under h);
  }
    where
      lacking : (between : ℕ) → IsAbove graph.edges found between → IsNodeWith graph (HasLabel label) between → IsIn graph between parent → ⊥
      lacking between over has (inl same) = lacks (subst (λ (k : ℕ). IsNodeWith graph (HasLabel label) k) same has)
      lacking between over has (inr up) = near.nearest between over up has

  pub nearest_up : (label : Label) (parent node found : ℕ) → IsChild graph parent node → ¬ IsNodeWith graph (HasLabel label) parent →
      IsNearestAbove graph label node found → IsNearestAbove graph label parent found
  nearest_up label parent node found h lacks near =
      elim (in_parent found parent node near.is_above h) [
        | inl same ↦ absurd (lacks (subst (λ (k : ℕ). IsNodeWith graph (HasLabel label) k) same near.is_node))
        | inr up ↦ record {
          is_above = up;
          is_node = near.is_node;
          nearest = λ between over under has. near.nearest between over (above_further graph between parent node under h) has;
        }
      ]

  -- a parent with the label is the nearest
  pub nearest_here : (label : Label) (parent node : ℕ) → IsChild graph parent node → IsNodeWith graph (HasLabel label) parent → IsNearestAbove graph label node parent
  nearest_here label parent node h has = record {
    is_above = above_child graph parent node h;
    is_node = has;
    nearest = λ between over under has. shaped.no_cycle parent (around between over (in_parent between parent node under h));
  }
    where
      around : (between : ℕ) → IsAbove graph.edges parent between → IsIn graph between parent → IsAbove graph.edges parent parent
      around between over (inl same) = subst (λ (k : ℕ). IsAbove graph.edges parent k) same over
      around between over (inr up) = above_trans graph parent between parent over up
