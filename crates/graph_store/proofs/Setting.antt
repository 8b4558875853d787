-- A property or an edge that is added to a delta.
use Rattle.std.proofs.Common.{◌≡◌, ℕ, ◌<◌, ◌≤◌, ◌⊎◌, inl, inr, false, List, [], ◌∷◌, ◌++◌, length, map, slice_set, get_or, refl, ap, sym, subst, ◌∙◌, arith}
use Rattle.std.proofs.lemmas.List.{map-append, length-set}
use Rattle.std.proofs.lemmas.List.Elements.{All-set, All-get_or}
use Rattle.cpg_schema.specs.declared.label.Label.{Label}
use Rattle.cpg_schema.specs.Graph.{PlainNode, bare_node}
use Rattle.cpg_schema.specs.Deltas.{changed_at}
use Rattle.graph_store.specs.declared.names.TheConstants.{NO_NAME}
use Rattle.graph_store.specs.declared.node_row.NodeRow.{NodeRow}
use Rattle.graph_store.specs.declared.delta_row.NewEdgeRow.{NewEdgeRow}
use Rattle.graph_store.specs.declared.delta_row.SettingRow.{SettingRow}
use Rattle.cpg_schema.specs.declared.edge_kind.EdgeKind.TheVariants.{ReachingDef}
use Rattle.cpg_schema.specs.declared.end.End.{End}
use Rattle.graph_store.specs.Rows.{plain_node, HasNames, IsNameOrNone}
use Rattle.cpg_schema.specs.Deltas.{IsNewEnd}
use Rattle.graph_store.specs.DeltaRows.{plain_delta, plain_new_edge, plain_setting, AreDeltaRows, IsNewEdgeRow, plain_end}
use Rattle.graph_store.proofs.Keeping.{no_text, delta_nodes}
use Rattle.graph_store.proofs.Changing.{changed_at-set, map-changed_at}

-- a node without properties
abbrev pub bare_kept : Label → NodeRow
bare_kept label = record {
  label = label;
  has_line_number = false;
  has_order = false;
  has_argument_index = false;
  line_number = 0;
  order = 0;
  argument_index = 0;
  name = NO_NAME;
  code = NO_NAME;
  filename = NO_NAME;
  type_full_name = NO_NAME;
  control_structure_type = NO_NAME;
  linkage = NO_NAME;
}

pub plain_bare : (names : List (List ℕ)) (label : Label) → length names ≤ NO_NAME → plain_node names (bare_kept label) ≡ bare_node label
plain_bare names label few =
    let none = no_text names few in
    λ i. record (bare_node label) {
      name = none i;
      code = none i;
      filename = none i;
      type_full_name = none i;
      control_structure_type = none i;
      linkage = none i;
    }

pub bare_has_names : (count : ℕ) (label : Label) → HasNames count (bare_kept label)
bare_has_names count label = record {
  name = inr refl;
  code = inr refl;
  filename = inr refl;
  type_full_name = inr refl;
  control_structure_type = inr refl;
  linkage = inr refl;
}

module _ (names : List (List ℕ)) (nodes : List NodeRow) (edges : List NewEdgeRow) (settings : List SettingRow) where
  -- one node more
  pub plain_push : (label : Label) (node : NodeRow) → length names ≤ NO_NAME → node ≡ bare_kept label →
      plain_delta names (nodes ++ node ∷ []) edges settings ≡
      record (plain_delta names nodes edges settings) { nodes = map (plain_node names) nodes ++ bare_node label ∷ [] }
  plain_push label node few is =
      let e = map-append (plain_node names) nodes (node ∷ []) ∙
      ap (λ (n : PlainNode). map (plain_node names) nodes ++ n ∷ []) (ap (plain_node names) is ∙ plain_bare names label few) in
      λ i. record (plain_delta names nodes edges settings) { nodes = e i }

  -- one edge more
  pub plain_edge_push : (edge : NewEdgeRow) → plain_delta names nodes (edges ++ edge ∷ []) settings ≡
      record (plain_delta names nodes edges settings) { edges = map (plain_new_edge names) edges ++ plain_new_edge names edge ∷ [] }
  plain_edge_push edge =
      let e = map-append (plain_new_edge names) edges (edge ∷ []) in
      λ i. record (plain_delta names nodes edges settings) { edges = e i }

  -- one setting more
  pub plain_setting_push : (s : SettingRow) → plain_delta names nodes edges (settings ++ s ∷ []) ≡
      record (plain_delta names nodes edges settings) { settings = map (plain_setting names) settings ++ plain_setting names s ∷ [] }
  plain_setting_push s =
      let e = map-append (plain_setting names) settings (s ∷ []) in
      λ i. record (plain_delta names nodes edges settings) { settings = e i }

  module _ (position : ℕ) (node d : NodeRow) (f : NodeRow → NodeRow) (within : position < length nodes) (is : node ≡ f (get_or nodes position d)) where
    -- a new node changed
    pub plain_change : (g : PlainNode → PlainNode) → ((x : NodeRow) → plain_node names (f x) ≡ g (plain_node names x)) →
        plain_delta names (slice_set nodes position node) edges settings ≡
        record (plain_delta names nodes edges settings) { nodes = changed_at position g (map (plain_node names) nodes) }
    plain_change g same =
        let e = ap (map (plain_node names)) (ap (slice_set nodes position) is ∙ sym (changed_at-set nodes position f d within)) ∙
        map-changed_at (plain_node names) f g nodes position same in
        λ i. record (plain_delta names nodes edges settings) { nodes = e i }

    -- the delta stays one
    pub delta_change : ((x : NodeRow) → HasNames (length names) x → HasNames (length names) (f x)) →
        AreDeltaRows names nodes edges settings → AreDeltaRows names (slice_set nodes position node) edges settings
    delta_change keeps h =
        let same = length-set nodes position node in
        let one : HasNames (length names) node =
        subst (HasNames (length names)) (sym is) (keeps (get_or nodes position d) (All-get_or (HasNames (length names)) nodes position d within h.texts)) in
        delta_nodes names nodes (slice_set nodes position node) edges settings (omega arith) (omega (arith, h.few_nodes))
        (All-set (HasNames (length names)) nodes position node one h.texts) h

-- an addition of these ends, with its variable's number
pub addition_fits : (count names : ℕ) (addition : NewEdgeRow) (from to : End) (variable : List ℕ) → IsNewEnd count from → IsNewEnd count to →
    plain_end addition.from ≡ from → plain_end addition.to ≡ to → IsNameOrNone names addition.variable →
    (addition.kind ≡ ReachingDef) ⊎ (variable ≡ []) → (variable ≡ [] → addition.variable ≡ NO_NAME) → IsNewEdgeRow count names addition
addition_fits count names addition from to variable f t f_is t_is number said none = record {
  from = subst (IsNewEnd count) (sym f_is) f;
  to = subst (IsNewEnd count) (sym t_is) t;
  variable = number;
  unnamed = elim said [ inl is ↦ inl is | inr empty ↦ inr (none empty) ];
}

-- and the new edge that it stands for
pub plain_new_edge_is : (names : List (List ℕ)) (addition : NewEdgeRow) (from to : End) (variable : List ℕ) →
    plain_end addition.from ≡ from → plain_end addition.to ≡ to → get_or names addition.variable [] ≡ variable →
    plain_new_edge names addition ≡ record { from = from; kind = addition.kind; to = to; variable = variable }
plain_new_edge_is names addition from to variable f t v = λ i. record { from = f i; kind = addition.kind; to = t i; variable = v i }
