-- A graph that grows by a delta: what is kept then stands for the graph that the delta gives.
use Rattle.std.proofs.Common.{◌≡◌, ℕ, zero, suc, ◌<◌, ◌≤◌, inl, inr, List, [], ◌∷◌, Some, length, map, slice_get, get_or, refl, ap, sym, ◌∙◌, arith}
use Rattle.std.specs.List.{All}
use Rattle.std.proofs.lemmas.List.{get_or_default}
use Rattle.std.proofs.lemmas.List.Elements.{All-nil, All-cons, All-head, All-tail}
use Rattle.std.proofs.lemmas.Option.{slice_get-get_or, slice_get_within, get_or_from_slice_get}
use Rattle.cpg_schema.specs.declared.key.Key.{Key}
use Rattle.cpg_schema.specs.Properties.{with_property}
use Rattle.cpg_schema.specs.Deltas.{changed_at, with_settings, end_number, added_edge}
use Rattle.graph_store.specs.declared.names.TheConstants.{NO_NAME}
use Rattle.graph_store.specs.declared.node_row.NodeRow.{NodeRow}
use Rattle.graph_store.specs.declared.delta_row.EndRow.{EndRow}
use Rattle.graph_store.specs.declared.delta_row.EndRow.TheVariants as end_row
use Rattle.graph_store.specs.declared.delta_row.NewEdgeRow.{NewEdgeRow}
use Rattle.graph_store.specs.declared.delta_row.ValueRow.{ValueRow}
use Rattle.graph_store.specs.declared.delta_row.ValueRow.TheVariants as value_row
use Rattle.graph_store.specs.declared.delta_row.SettingRow.{SettingRow}
use Rattle.graph_store.specs.Pool.{Numbers}
use Rattle.graph_store.specs.Rows.{plain_node, renumbered, HasNames, IsNameOrNone}
use Rattle.graph_store.specs.Stored.{plain_edge, IsVariable}
use Rattle.graph_store.specs.DeltaRows.{plain_end, plain_new_edge, plain_value, plain_setting, HasText, IsNewEdgeRow}
use Rattle.graph_store.specs.GrownRows.{end_row_number, edge_of_row, row_with_value, rows_with_settings}
use Rattle.graph_store.proofs.Keeping.{no_text, plain_node-text, plain_node-number, text_has_names, number_has_names}
use Rattle.graph_store.proofs.Changing.{length-changed_at, All-changed_at, map-changed_at}

-- past its end a list gives what stands for nothing
get_or_past : (xs : List ℕ) (n d : ℕ) → length xs ≤ n → get_or xs n d ≡ d
get_or_past [] n d h = refl
get_or_past (x ∷ xs) zero d h = absurd (omega arith)
get_or_past (x ∷ xs) (suc n) d h = get_or_past xs n d (omega arith)

pub text_past : (xs : List (List ℕ)) (n : ℕ) → length xs ≤ n → get_or xs n [] ≡ []
text_past [] n h = refl
text_past (x ∷ xs) zero h = absurd (omega arith)
text_past (x ∷ xs) (suc n) h = text_past xs n (omega arith)

module _ (b more : List (List ℕ)) (numbers : List ℕ) (num : Numbers more b numbers) (few : length b ≤ NO_NAME) (few_more : length more ≤ NO_NAME) where
  none_past : (n : ℕ) → n ≡ NO_NAME → get_or numbers n NO_NAME ≡ NO_NAME
  none_past n none = get_or_past numbers n NO_NAME (let e = num.one_each in omega arith)

  low_text : (n : ℕ) → n < length more → (d : ℕ) → slice_get b (get_or numbers n d) ≡ slice_get more n
  low_text n low d = ap (slice_get b) (get_or_default numbers n d 0 (let e = num.one_each in omega arith)) ∙ num.stored n low

  low_number : (n : ℕ) → n < length more → (d : ℕ) → get_or numbers n d < length b
  low_number n low d = slice_get_within b (get_or numbers n d) (get_or more n []) (low_text n low d ∙ slice_get-get_or more n [] low)

  -- a number's text is that of the number it becomes
  renumber_text : (n : ℕ) → IsNameOrNone (length more) n → slice_get b (get_or numbers n NO_NAME) ≡ slice_get more n
  renumber_text n (inl low) = low_text n low NO_NAME
  renumber_text n (inr none) = ap (slice_get b) (none_past n none) ∙ (no_text b few ∙ sym (ap (slice_get more) none ∙ no_text more few_more))

  renumber_number : (n : ℕ) → IsNameOrNone (length more) n → IsNameOrNone (length b) (get_or numbers n NO_NAME)
  renumber_number n (inl low) = inl (low_number n low NO_NAME)
  renumber_number n (inr none) = inr (none_past n none)

  plain_renumbered : (node : NodeRow) → HasNames (length more) node → plain_node b (renumbered numbers node) ≡ plain_node more node
  plain_renumbered node h =
      let name = renumber_text node.name h.name in
      let code = renumber_text node.code h.code in
      let filename = renumber_text node.filename h.filename in
      let type_full_name = renumber_text node.type_full_name h.type_full_name in
      let control = renumber_text node.control_structure_type h.control_structure_type in
      let linkage = renumber_text node.linkage h.linkage in
      λ i. record (plain_node more node) {
        name = name i;
        code = code i;
        filename = filename i;
        type_full_name = type_full_name i;
        control_structure_type = control i;
        linkage = linkage i;
      }

  has_renumbered : (node : NodeRow) → HasNames (length more) node → HasNames (length b) (renumbered numbers node)
  has_renumbered node h = record {
    name = renumber_number node.name h.name;
    code = renumber_number node.code h.code;
    filename = renumber_number node.filename h.filename;
    type_full_name = renumber_number node.type_full_name h.type_full_name;
    control_structure_type = renumber_number node.control_structure_type h.control_structure_type;
    linkage = renumber_number node.linkage h.linkage;
  }

  -- the new nodes
  pub new_nodes : (nodes : List NodeRow) → All (HasNames (length more)) nodes → map (plain_node b) (map (renumbered numbers) nodes) ≡ map (plain_node more) nodes
  new_nodes [] all = refl
  new_nodes (node ∷ nodes) all =
      let one = plain_renumbered node (All-head (HasNames (length more)) node nodes all) in
      let rest = new_nodes nodes (All-tail (HasNames (length more)) node nodes all) in
      λ i. one i ∷ rest i

  pub new_texts : (nodes : List NodeRow) → All (HasNames (length more)) nodes → All (HasNames (length b)) (map (renumbered numbers) nodes)
  new_texts [] all = All-nil (HasNames (length b))
  new_texts (node ∷ nodes) all =
      All-cons (HasNames (length b)) (renumbered numbers node) (map (renumbered numbers) nodes)
      (has_renumbered node (All-head (HasNames (length more)) node nodes all)) (new_texts nodes (All-tail (HasNames (length more)) node nodes all))

  -- a node with a property set
  plain_kept : (key : Key) (value : ValueRow) → HasText (length more) value → (node : NodeRow) →
      plain_node b (row_with_value numbers key value node) ≡ with_property key (plain_value more value) (plain_node b node)
  plain_kept key (value_row.Text n) low node =
      plain_node-text b key (get_or numbers n NO_NAME) (get_or more n []) node (low_text n low NO_NAME ∙ slice_get-get_or more n [] low)
  plain_kept key (value_row.Number value) h node = plain_node-number b key value node

  kept_has_names : (key : Key) (value : ValueRow) → HasText (length more) value → (node : NodeRow) →
      HasNames (length b) node → HasNames (length b) (row_with_value numbers key value node)
  kept_has_names key (value_row.Text n) low node h = text_has_names (length b) key (get_or numbers n NO_NAME) node (inl (low_number n low NO_NAME)) h
  kept_has_names key (value_row.Number value) low node h = number_has_names (length b) key value node h

  -- the old nodes with their properties set
  pub old_nodes : (settings : List SettingRow) (nodes : List NodeRow) → All (λ (s : SettingRow). HasText (length more) s.value) settings →
      map (plain_node b) (rows_with_settings numbers settings nodes) ≡ with_settings (map (plain_setting more) settings) (map (plain_node b) nodes)
  old_nodes [] nodes all = refl
  old_nodes (s ∷ settings) nodes all =
      let one = All-head (λ (s : SettingRow). HasText (length more) s.value) s settings all in
      old_nodes settings (changed_at s.node (row_with_value numbers s.key s.value) nodes) (All-tail (λ (s : SettingRow). HasText (length more) s.value) s settings all) ∙
      ap (with_settings (map (plain_setting more) settings))
      (map-changed_at (plain_node b) (row_with_value numbers s.key s.value) (with_property s.key (plain_value more s.value)) nodes s.node (plain_kept s.key s.value one))

  pub old_texts : (settings : List SettingRow) (nodes : List NodeRow) → All (λ (s : SettingRow). HasText (length more) s.value) settings →
      All (HasNames (length b)) nodes → All (HasNames (length b)) (rows_with_settings numbers settings nodes)
  old_texts [] nodes all texts = texts
  old_texts (s ∷ settings) nodes all texts =
      let one = All-head (λ (s : SettingRow). HasText (length more) s.value) s settings all in
      old_texts settings (changed_at s.node (row_with_value numbers s.key s.value) nodes) (All-tail (λ (s : SettingRow). HasText (length more) s.value) s settings all)
      (All-changed_at (HasNames (length b)) nodes s.node (row_with_value numbers s.key s.value) (kept_has_names s.key s.value one) texts)

  module _ (first : ℕ) (empty : slice_get b 0 ≡ Some []) where
    -- the number of a new end
    end_same : (p : EndRow) → end_row_number first p ≡ end_number first (plain_end p)
    end_same (end_row.Old node) = refl
    end_same (end_row.New number) = refl

    name_same : (n : ℕ) → IsNameOrNone (length more) n → get_or b (get_or numbers n 0) [] ≡ get_or more n []
    name_same n (inl low) =
        get_or_from_slice_get b (get_or numbers n 0) (get_or more n []) [] (low_text n low 0 ∙ slice_get-get_or more n [] low)
    name_same n (inr none) =
        let e = num.one_each in
        ap (λ (k : ℕ). get_or b k []) (get_or_past numbers n 0 (omega arith)) ∙
        (get_or_from_slice_get b 0 [] [] empty ∙ sym (text_past more n (omega arith)))

    plain_new : (count : ℕ) (x : NewEdgeRow) → IsNewEdgeRow count (length more) x → plain_edge b (edge_of_row first numbers x) ≡ added_edge first (plain_new_edge more x)
    plain_new count x h =
        let from = end_same x.from in
        let to = end_same x.to in
        let name = name_same x.variable h.variable in
        λ i. record { from = from i; kind = x.kind; to = to i; variable = name i }

    variable_of_new : (count : ℕ) (x : NewEdgeRow) → IsNewEdgeRow count (length more) x → IsVariable (length b) (edge_of_row first numbers x)
    variable_of_new count x h = record {
      pooled = elim h.variable [
        | inl low ↦ low_number x.variable low 0
        | inr none ↦
            let e = num.one_each in
            let zero_is = get_or_past numbers x.variable 0 (omega arith) in
            let some = slice_get_within b 0 [] empty in
            omega arith
      ];
      unnamed = elim h.unnamed [
        | inl is ↦ inl is
        | inr none ↦ inr (get_or_past numbers x.variable 0 (let e = num.one_each in omega arith))
      ];
    }

    -- the new edges
    pub new_edges : (count : ℕ) (xs : List NewEdgeRow) → All (IsNewEdgeRow count (length more)) xs →
        map (plain_edge b) (map (edge_of_row first numbers) xs) ≡ map (added_edge first) (map (plain_new_edge more) xs)
    new_edges count [] all = refl
    new_edges count (x ∷ xs) all =
        let one = plain_new count x (All-head (IsNewEdgeRow count (length more)) x xs all) in
        let rest = new_edges count xs (All-tail (IsNewEdgeRow count (length more)) x xs all) in
        λ i. one i ∷ rest i

    pub new_variables : (count : ℕ) (xs : List NewEdgeRow) → All (IsNewEdgeRow count (length more)) xs →
        All (IsVariable (length b)) (map (edge_of_row first numbers) xs)
    new_variables count [] all = All-nil (IsVariable (length b))
    new_variables count (x ∷ xs) all =
        All-cons (IsVariable (length b)) (edge_of_row first numbers x) (map (edge_of_row first numbers) xs)
        (variable_of_new count x (All-head (IsNewEdgeRow count (length more)) x xs all))
        (new_variables count xs (All-tail (IsNewEdgeRow count (length more)) x xs all))

pub length-rows_with_settings : (numbers : List ℕ) (settings : List SettingRow) (nodes : List NodeRow) → length (rows_with_settings numbers settings nodes) ≡ length nodes
length-rows_with_settings numbers [] nodes = refl
length-rows_with_settings numbers (s ∷ settings) nodes =
    length-rows_with_settings numbers settings (changed_at s.node (row_with_value numbers s.key s.value) nodes) ∙ length-changed_at nodes s.node (row_with_value numbers s.key s.value)
