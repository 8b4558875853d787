-- What is kept stands for the same where names are added.
use Rattle.std.proofs.Common.{◌≡◌, ℕ, ◌<◌, ◌≤◌, inl, inr, List, [], ◌∷◌, ◌++◌, Option, Some, None, length, map, slice_get, unwrap_or, get_or, refl, ap, sym, subst, ◌∙◌, arith}
use Rattle.std.specs.List.{All}
use Rattle.std.specs.Option.{option_map}
use Rattle.std.proofs.lemmas.List.Elements.{All-head, All-tail, All-weaker, All-push}
use Rattle.std.proofs.lemmas.Option.{slice_get-map, slice_get-get_or, slice_get_past, unwrap_or-slice_get}
use Rattle.cpg_schema.specs.declared.key.Key.{Key}
use Rattle.cpg_schema.specs.declared.key.Key.TheVariants.{Name, Code, Filename, LineNumber, Order, ArgumentIndex, TypeFullName, ControlStructureType, Linkage}
use Rattle.cpg_schema.specs.Properties.{text_of, with_text, with_number}
use Rattle.graph_store.specs.declared.names.TheConstants.{NO_NAME}
use Rattle.graph_store.specs.declared.node_row.NodeRow.{NodeRow}
use Rattle.graph_store.specs.declared.edge.Edge.{Edge}
use Rattle.graph_store.specs.Pool.{Adds, BeginsEmpty}
use Rattle.graph_store.specs.Rows.{plain_node, row_text, row_with_text, row_with_number, HasNames, IsNameOrNone}
use Rattle.graph_store.specs.Stored.{plain_edge, IsVariable}
use Rattle.cpg_schema.specs.declared.end.End.{End}
use Rattle.cpg_schema.specs.declared.end.End.TheVariants as end
use Rattle.cpg_schema.specs.Properties.{Property}
use Rattle.graph_store.specs.declared.delta_row.NewEdgeRow.{NewEdgeRow}
use Rattle.graph_store.specs.declared.delta_row.ValueRow.{ValueRow}
use Rattle.graph_store.specs.declared.delta_row.ValueRow.TheVariants as value_row
use Rattle.graph_store.specs.declared.delta_row.SettingRow.{SettingRow}
use Rattle.cpg_schema.specs.Deltas.{IsNewEnd}
use Rattle.graph_store.specs.DeltaRows.{plain_end, plain_new_edge, plain_value, plain_setting, plain_delta, IsNewEdgeRow, HasText, AreDeltaRows}
use Rattle.graph_store.proofs.Pool.{adds_keep, length_adds}

-- the text of a key is that of its number
pub text_of-plain_node : (names : List (List ℕ)) (key : Key) (node : NodeRow) → length names ≤ NO_NAME →
    slice_get names (row_text key node) ≡ text_of key (plain_node names node)
text_of-plain_node names Name node few = refl
text_of-plain_node names Code node few = refl
text_of-plain_node names Filename node few = refl
text_of-plain_node names LineNumber node few = slice_get_past names NO_NAME few
text_of-plain_node names Order node few = slice_get_past names NO_NAME few
text_of-plain_node names ArgumentIndex node few = slice_get_past names NO_NAME few
text_of-plain_node names TypeFullName node few = refl
text_of-plain_node names ControlStructureType node few = refl
text_of-plain_node names Linkage node few = refl

-- the item at a position of a mapped list
pub map_at : {X Y : Type 0} (f : X → Y) (xs : List X) (n : ℕ) (d : X) → n < length xs → slice_get (map f xs) n ≡ Some (f (get_or xs n d))
map_at f xs n d h = slice_get-map f xs n ∙ ap (option_map f) (slice_get-get_or xs n d h)

-- a number past all names is that of no text
pub no_text : (names : List (List ℕ)) → length names ≤ NO_NAME → slice_get names NO_NAME ≡ None
no_text names few = slice_get_past names NO_NAME few

-- a number keeps its text
keeps_text : (a b : List (List ℕ)) (n : ℕ) → Adds a b → length b ≤ NO_NAME → IsNameOrNone (length a) n → slice_get b n ≡ slice_get a n
keeps_text a b n adds few (inl low) = adds_keep a b n adds low
keeps_text a b n adds few (inr none) =
    let more = length_adds a b adds in
    ap (slice_get b) none ∙ (no_text b few ∙ sym (ap (slice_get a) none ∙ no_text a (omega arith)))

-- and its name, where it has one or none
pub get_or_by : (a b : List (List ℕ)) (n : ℕ) → slice_get b n ≡ slice_get a n → get_or b n [] ≡ get_or a n []
get_or_by a b n e = sym (unwrap_or-slice_get b n []) ∙ (ap (λ (o : Option (List ℕ)). unwrap_or o []) e ∙ unwrap_or-slice_get a n [])

module _ (a b : List (List ℕ)) (adds : Adds a b) (few : length b ≤ NO_NAME) where
  pub keeps_node : (node : NodeRow) → HasNames (length a) node → plain_node b node ≡ plain_node a node
  keeps_node node h =
      let name = keeps_text a b node.name adds few h.name in
      let code = keeps_text a b node.code adds few h.code in
      let filename = keeps_text a b node.filename adds few h.filename in
      let type_full_name = keeps_text a b node.type_full_name adds few h.type_full_name in
      let control = keeps_text a b node.control_structure_type adds few h.control_structure_type in
      let linkage = keeps_text a b node.linkage adds few h.linkage in
      λ i. record (plain_node a node) {
        name = name i;
        code = code i;
        filename = filename i;
        type_full_name = type_full_name i;
        control_structure_type = control i;
        linkage = linkage i;
      }

  pub keeps_nodes : (nodes : List NodeRow) → All (HasNames (length a)) nodes → map (plain_node b) nodes ≡ map (plain_node a) nodes
  keeps_nodes [] all = refl
  keeps_nodes (node ∷ nodes) all =
      let one = keeps_node node (All-head (HasNames (length a)) node nodes all) in
      let rest = keeps_nodes nodes (All-tail (HasNames (length a)) node nodes all) in
      λ i. one i ∷ rest i

  pub keeps_edge : (edge : Edge) → IsVariable (length a) edge → plain_edge b edge ≡ plain_edge a edge
  keeps_edge edge h =
      let name = get_or_by a b edge.variable (adds_keep a b edge.variable adds h.pooled) in
      λ i. record (plain_edge a edge) { variable = name i }

  pub keeps_edges : (edges : List Edge) → All (IsVariable (length a)) edges → map (plain_edge b) edges ≡ map (plain_edge a) edges
  keeps_edges [] all = refl
  keeps_edges (edge ∷ edges) all =
      let one = keeps_edge edge (All-head (IsVariable (length a)) edge edges all) in
      let rest = keeps_edges edges (All-tail (IsVariable (length a)) edge edges all) in
      λ i. one i ∷ rest i

  keeps_addition : (n : ℕ) (addition : NewEdgeRow) → IsNewEdgeRow n (length a) addition → plain_new_edge b addition ≡ plain_new_edge a addition
  keeps_addition n addition h =
      let name = get_or_by a b addition.variable (keeps_text a b addition.variable adds few h.variable) in
      λ i. record (plain_new_edge a addition) { variable = name i }

  keeps_additions : (n : ℕ) (additions : List NewEdgeRow) → All (IsNewEdgeRow n (length a)) additions → map (plain_new_edge b) additions ≡ map (plain_new_edge a) additions
  keeps_additions n [] all = refl
  keeps_additions n (addition ∷ additions) all =
      let one = keeps_addition n addition (All-head (IsNewEdgeRow n (length a)) addition additions all) in
      let rest = keeps_additions n additions (All-tail (IsNewEdgeRow n (length a)) addition additions all) in
      λ i. one i ∷ rest i

  keeps_value : (value : ValueRow) → HasText (length a) value → plain_value b value ≡ plain_value a value
  keeps_value (value_row.Text number) h = ap Property.text (get_or_by a b number (adds_keep a b number adds h))
  keeps_value (value_row.Number value) h = refl

  keeps_settings : (settings : List SettingRow) → All (λ (s : SettingRow). HasText (length a) s.value) settings → map (plain_setting b) settings ≡ map (plain_setting a) settings
  keeps_settings [] all = refl
  keeps_settings (s ∷ settings) all =
      let one = keeps_value s.value (All-head (λ (s : SettingRow). HasText (length a) s.value) s settings all) in
      let rest = keeps_settings settings (All-tail (λ (s : SettingRow). HasText (length a) s.value) s settings all) in
      λ i. record (plain_setting a s) { value = one i } ∷ rest i

  -- a delta keeps what it stands for
  pub keeps_delta : (nodes : List NodeRow) (edges : List NewEdgeRow) (settings : List SettingRow) → AreDeltaRows a nodes edges settings →
      plain_delta b nodes edges settings ≡ plain_delta a nodes edges settings
  keeps_delta nodes edges settings h =
      let n = keeps_nodes nodes h.texts in
      let e = keeps_additions (length nodes) edges h.additions in
      let s = keeps_settings settings h.values in
      λ i. record { nodes = n i; edges = e i; settings = s i }

-- a number of few names is one of more
pub more_number : (m n k : ℕ) → m ≤ n → IsNameOrNone m k → IsNameOrNone n k
more_number m n k le (inl low) = inl (omega arith)
more_number m n k le (inr none) = inr none

pub more_names : (m n : ℕ) (node : NodeRow) → m ≤ n → HasNames m node → HasNames n node
more_names m n node le h = record {
  name = more_number m n node.name le h.name;
  code = more_number m n node.code le h.code;
  filename = more_number m n node.filename le h.filename;
  type_full_name = more_number m n node.type_full_name le h.type_full_name;
  control_structure_type = more_number m n node.control_structure_type le h.control_structure_type;
  linkage = more_number m n node.linkage le h.linkage;
}

pub more_end : (m n : ℕ) (e : End) → m ≤ n → IsNewEnd m e → IsNewEnd n e
more_end m n (end.Old node) le h = tt
more_end m n (end.New number) le h = omega arith

pub more_addition : (m n k l : ℕ) (addition : NewEdgeRow) → m ≤ n → k ≤ l → IsNewEdgeRow m k addition → IsNewEdgeRow n l addition
more_addition m n k l addition le le2 h = record {
  from = more_end m n (plain_end addition.from) le h.from;
  to = more_end m n (plain_end addition.to) le h.to;
  variable = more_number k l addition.variable le2 h.variable;
  unnamed = h.unnamed;
}

more_text : (m n : ℕ) (value : ValueRow) → m ≤ n → HasText m value → HasText n value
more_text m n (value_row.Text number) le h = omega arith
more_text m n (value_row.Number value) le h = tt

-- a delta stays one where names are added
pub delta_names : (a b : List (List ℕ)) (nodes : List NodeRow) (edges : List NewEdgeRow) (settings : List SettingRow) →
    Adds a b → length b ≤ NO_NAME → BeginsEmpty b → AreDeltaRows a nodes edges settings → AreDeltaRows b nodes edges settings
delta_names a b nodes edges settings adds few begins h =
    let le = length_adds a b adds in
    record {
      few_nodes = h.few_nodes;
      few_names = few;
      begins = begins;
      texts = All-weaker (HasNames (length a)) (HasNames (length b)) (λ node. more_names (length a) (length b) node le) nodes h.texts;
      additions = All-weaker (IsNewEdgeRow (length nodes) (length a)) (IsNewEdgeRow (length nodes) (length b))
          (λ x. more_addition (length nodes) (length nodes) (length a) (length b) x (omega arith) le) edges h.additions;
      values = All-weaker (λ (s : SettingRow). HasText (length a) s.value) (λ (s : SettingRow). HasText (length b) s.value)
          (λ s. more_text (length a) (length b) s.value le) settings h.values;
    }

-- a node with other nodes beside it
pub delta_nodes : (names : List (List ℕ)) (nodes others : List NodeRow) (edges : List NewEdgeRow) (settings : List SettingRow) →
    length nodes ≤ length others → length others ≤ NO_NAME → All (HasNames (length names)) others →
    AreDeltaRows names nodes edges settings → AreDeltaRows names others edges settings
delta_nodes names nodes others edges settings le few all h = record {
  few_nodes = few;
  few_names = h.few_names;
  begins = h.begins;
  texts = all;
  additions = All-weaker (IsNewEdgeRow (length nodes) (length names)) (IsNewEdgeRow (length others) (length names))
      (λ x. more_addition (length nodes) (length others) (length names) (length names) x le (omega arith)) edges h.additions;
  values = h.values;
}

-- one edge more
pub delta_edge : (names : List (List ℕ)) (nodes : List NodeRow) (edges : List NewEdgeRow) (settings : List SettingRow) (edge : NewEdgeRow) →
    IsNewEdgeRow (length nodes) (length names) edge → AreDeltaRows names nodes edges settings → AreDeltaRows names nodes (edges ++ edge ∷ []) settings
delta_edge names nodes edges settings edge one h = record {
  few_nodes = h.few_nodes;
  few_names = h.few_names;
  begins = h.begins;
  texts = h.texts;
  additions = All-push (IsNewEdgeRow (length nodes) (length names)) edges edge h.additions one;
  values = h.values;
}

-- one setting more
pub delta_setting : (names : List (List ℕ)) (nodes : List NodeRow) (edges : List NewEdgeRow) (settings : List SettingRow) (s : SettingRow) →
    HasText (length names) s.value → AreDeltaRows names nodes edges settings → AreDeltaRows names nodes edges (settings ++ s ∷ [])
delta_setting names nodes edges settings s one h = record {
  few_nodes = h.few_nodes;
  few_names = h.few_names;
  begins = h.begins;
  texts = h.texts;
  additions = h.additions;
  values = All-push (λ (s : SettingRow). HasText (length names) s.value) settings s h.values one;
}

-- a node with a text stands for the plain node with it
pub plain_node-text : (names : List (List ℕ)) (key : Key) (n : ℕ) (v : List ℕ) (node : NodeRow) → slice_get names n ≡ Some v →
    plain_node names (row_with_text key n node) ≡ with_text key v (plain_node names node)
plain_node-text names Name n v node h = ap (λ (o : Option (List ℕ)). record (plain_node names node) { name = o }) h
plain_node-text names Code n v node h = ap (λ (o : Option (List ℕ)). record (plain_node names node) { code = o }) h
plain_node-text names Filename n v node h = ap (λ (o : Option (List ℕ)). record (plain_node names node) { filename = o }) h
plain_node-text names LineNumber n v node h = refl
plain_node-text names Order n v node h = refl
plain_node-text names ArgumentIndex n v node h = refl
plain_node-text names TypeFullName n v node h = ap (λ (o : Option (List ℕ)). record (plain_node names node) { type_full_name = o }) h
plain_node-text names ControlStructureType n v node h = ap (λ (o : Option (List ℕ)). record (plain_node names node) { control_structure_type = o }) h
plain_node-text names Linkage n v node h = ap (λ (o : Option (List ℕ)). record (plain_node names node) { linkage = o }) h

-- and likewise with a number
pub plain_node-number : (names : List (List ℕ)) (key : Key) (v : ℕ) (node : NodeRow) →
    plain_node names (row_with_number key v node) ≡ with_number key v (plain_node names node)
plain_node-number names Name v node = refl
plain_node-number names Code v node = refl
plain_node-number names Filename v node = refl
plain_node-number names LineNumber v node = refl
plain_node-number names Order v node = refl
plain_node-number names ArgumentIndex v node = refl
plain_node-number names TypeFullName v node = refl
plain_node-number names ControlStructureType v node = refl
plain_node-number names Linkage v node = refl

-- a node made anew of the same numbers
same_names : (count : ℕ) (a b : NodeRow) → a.name ≡ b.name → a.code ≡ b.code → a.filename ≡ b.filename → a.type_full_name ≡ b.type_full_name →
    a.control_structure_type ≡ b.control_structure_type → a.linkage ≡ b.linkage → HasNames count a → HasNames count b
same_names count a b name code filename type_full_name control linkage h = record {
  name = subst (IsNameOrNone count) name h.name;
  code = subst (IsNameOrNone count) code h.code;
  filename = subst (IsNameOrNone count) filename h.filename;
  type_full_name = subst (IsNameOrNone count) type_full_name h.type_full_name;
  control_structure_type = subst (IsNameOrNone count) control h.control_structure_type;
  linkage = subst (IsNameOrNone count) linkage h.linkage;
}

pub text_has_names : (count : ℕ) (key : Key) (n : ℕ) (node : NodeRow) → IsNameOrNone count n → HasNames count node → HasNames count (row_with_text key n node)
text_has_names count Name n node low h = record { name = low; code = h.code; filename = h.filename; type_full_name = h.type_full_name; control_structure_type = h.control_structure_type; linkage = h.linkage }
text_has_names count Code n node low h = record { name = h.name; code = low; filename = h.filename; type_full_name = h.type_full_name; control_structure_type = h.control_structure_type; linkage = h.linkage }
text_has_names count Filename n node low h = record { name = h.name; code = h.code; filename = low; type_full_name = h.type_full_name; control_structure_type = h.control_structure_type; linkage = h.linkage }
text_has_names count LineNumber n node low h = h
text_has_names count Order n node low h = h
text_has_names count ArgumentIndex n node low h = h
text_has_names count TypeFullName n node low h = record { name = h.name; code = h.code; filename = h.filename; type_full_name = low; control_structure_type = h.control_structure_type; linkage = h.linkage }
text_has_names count ControlStructureType n node low h = record { name = h.name; code = h.code; filename = h.filename; type_full_name = h.type_full_name; control_structure_type = low; linkage = h.linkage }
text_has_names count Linkage n node low h = record { name = h.name; code = h.code; filename = h.filename; type_full_name = h.type_full_name; control_structure_type = h.control_structure_type; linkage = low }

pub number_has_names : (count : ℕ) (key : Key) (v : ℕ) (node : NodeRow) → HasNames count node → HasNames count (row_with_number key v node)
number_has_names count Name v node h = h
number_has_names count Code v node h = h
number_has_names count Filename v node h = h
number_has_names count LineNumber v node h = same_names count node (row_with_number LineNumber v node) refl refl refl refl refl refl h
number_has_names count Order v node h = same_names count node (row_with_number Order v node) refl refl refl refl refl refl h
number_has_names count ArgumentIndex v node h = same_names count node (row_with_number ArgumentIndex v node) refl refl refl refl refl refl h
number_has_names count TypeFullName v node h = h
number_has_names count ControlStructureType v node h = h
number_has_names count Linkage v node h = h
