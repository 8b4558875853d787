-- Deltas that fit the graph as it was at the start fit it after the parts before them.
use Rattle.std.proofs.Common.{◌≡◌, ◌⊎◌, ℕ, zero, suc, ◌+◌, ◌<◌, ◌≤◌, IsTrue, List, [], ◌∷◌, ◌++◌, Some, Ok, length, map, slice_get, get_or, inl, inr, refl, ap, sym, subst, ◌∙◌, arith}
use Rattle.std.specs.List.{All, Contains}
use Rattle.std.proofs.lemmas.List.Elements.{All-nil, All-cons, All-head, All-tail, Contains-get_or}
use Rattle.std.proofs.lemmas.Option.{slice_get-get_or, slice_get_within}
use Rattle.cpg_schema.specs.declared.caps.Caps.{Caps}
use Rattle.cpg_schema.specs.declared.label.Label.{Label}
use Rattle.cpg_schema.specs.declared.key.Key.{Key}
use Rattle.cpg_schema.specs.declared.end.End.{End}
use Rattle.cpg_schema.specs.declared.end.End.TheVariants as end
use Rattle.cpg_schema.specs.Graph.{PlainNode, PlainGraph}
use Rattle.cpg_schema.specs.Properties.{LacksKey, with_property}
use Rattle.cpg_schema.specs.Schema.{allows}
use Rattle.cpg_schema.specs.Deltas.{PlainDelta, NewEdge, Setting, applied, with_setting, with_settings, end_number, added_edge}
use Rattle.cpg_schema.specs.Fitting.{Fits, PartsFit, IsGraph, IsOldEnd, IsEdgeAmong, IsNewSetting}
use Rattle.cpg_schema.specs.Sequence.{seq}
use Rattle.cpg_schema.proofs.Among.{applied_is_graph, changed_get, get_front, property_label}
use Rattle.cpg_schema.proofs.Lacking.{lacks_still}
use Rattle.graph_delta.proofs.Sequencing.{seq_steps}

pub get_behind : (xs ys : List PlainNode) (n k : ℕ) → n ≡ length xs + k → slice_get (xs ++ ys) n ≡ slice_get ys k
get_behind [] ys n k e = let same : n ≡ k = omega arith in ap (slice_get ys) same
get_behind (x ∷ xs) ys zero k e = absurd (omega arith)
get_behind (x ∷ xs) ys (suc n) k e = get_behind xs ys n k (omega arith)

-- The nodes have grown from others: each of these is there, with its label, and lacks the keys that it lacked and that are not set.
pub record AreGrown (start : List PlainNode) (IsSet : ℕ → Key → Type 0) (nodes : List PlainNode) : Type 0 where
  pub kept : (n : ℕ) (x : PlainNode) → slice_get start n ≡ Some x →
      (y : PlainNode) × (slice_get nodes n ≡ Some y) × (y.label ≡ x.label) × ((key : Key) → ¬ IsSet n key → LacksKey key x → LacksKey key y)

grown_none : (start : List PlainNode) (IsSet : ℕ → Key → Type 0) → AreGrown start IsSet start
grown_none start IsSet = record { kept = λ n x is. (x, is, refl, λ key unset lacks. lacks) }

grown_weaker : (start nodes : List PlainNode) (IsSet Also : ℕ → Key → Type 0) → ((n : ℕ) (key : Key) → IsSet n key → Also n key) →
    AreGrown start IsSet nodes → AreGrown start Also nodes
grown_weaker start nodes IsSet Also more h = record {
  kept = λ n x is.
      let y = h.kept n x is in
      (y.0, y.1, y.2, λ key unset lacks. y.3 key (λ set. unset (more n key set)) lacks);
}

-- one property more
grown_setting : (start nodes : List PlainNode) (IsSet : ℕ → Key → Type 0) (s : Setting) → IsSet s.node s.key →
    AreGrown start IsSet nodes → AreGrown start IsSet (with_setting s nodes)
grown_setting start nodes IsSet s set h = record {
  kept = λ n x is.
      let y = h.kept n x is in
      let z = changed_get (with_property s.key s.value) nodes s.node n y.0 y.1 in
      (z.0, z.1, label n y.0 z.0 z.2 ∙ y.2, λ key unset lacks. lacking n y.0 z.0 z.2 key unset (y.3 key unset lacks));
}
  where
    label : (n : ℕ) (y z : PlainNode) → (z ≡ y) ⊎ ((s.node ≡ n) × (z ≡ with_property s.key s.value y)) → z.label ≡ y.label
    label n y z (inl e) = ap (λ (p : PlainNode). p.label) e
    label n y z (inr e) = ap (λ (p : PlainNode). p.label) e.1 ∙ property_label s.key s.value y

    lacking : (n : ℕ) (y z : PlainNode) → (z ≡ y) ⊎ ((s.node ≡ n) × (z ≡ with_property s.key s.value y)) →
        (key : Key) → ¬ IsSet n key → LacksKey key y → LacksKey key z
    lacking n y z (inl e) key unset lacks = subst (LacksKey key) (sym e) lacks
    lacking n y z (inr e) key unset lacks =
        let other : ¬ (s.key ≡ key) = λ same. unset (subst (λ (k : Key). IsSet n k) same (subst (λ (m : ℕ). IsSet m s.key) e.0 set)) in
        subst (LacksKey key) (sym e.1) (lacks_still key s.key s.value y other lacks)

grown_settings : (settings : List Setting) (start nodes : List PlainNode) (IsSet : ℕ → Key → Type 0) → All (λ (s : Setting). IsSet s.node s.key) settings →
    AreGrown start IsSet nodes → AreGrown start IsSet (with_settings settings nodes)
grown_settings [] start nodes IsSet all h = h
grown_settings (s ∷ settings) start nodes IsSet all h =
    grown_settings settings start (with_setting s nodes) IsSet (All-tail (λ (s : Setting). IsSet s.node s.key) s settings all)
    (grown_setting start nodes IsSet s (All-head (λ (s : Setting). IsSet s.node s.key) s settings all) h)

-- new nodes at the end
grown_append : (start nodes more : List PlainNode) (IsSet : ℕ → Key → Type 0) → AreGrown start IsSet nodes → AreGrown start IsSet (nodes ++ more)
grown_append start nodes more IsSet h = record {
  kept = λ n x is.
      let y = h.kept n x is in
      (y.0, get_front nodes more n y.0 y.1, y.2, y.3);
}

module _ (start nodes new : List PlainNode) (IsSet : ℕ → Key → Type 0) (grown : AreGrown start IsSet nodes) where
  -- an end of the start is one
  old_end : (e : End) → IsOldEnd (length start) e → IsOldEnd (length nodes) e
  old_end (end.Old n) low = by start n low (grown.kept n)
    where
      by : (xs : List PlainNode) (n : ℕ) → n < length xs → ((x : PlainNode) → slice_get xs n ≡ Some x →
          (y : PlainNode) × (slice_get nodes n ≡ Some y) × (y.label ≡ x.label) × ((key : Key) → ¬ IsSet n key → LacksKey key x → LacksKey key y)) → n < length nodes
      by [] n low kept = absurd (omega arith)
      by (d ∷ xs) n low kept =
          let y = kept (get_or (d ∷ xs) n d) (slice_get-get_or (d ∷ xs) n d low) in
          slice_get_within nodes n y.0 y.1
  old_end (end.New k) low = tt

  -- an end has its label
  end_kept : (e : End) (x : PlainNode) → IsOldEnd (length start) e → slice_get (start ++ new) (end_number (length start) e) ≡ Some x →
      (y : PlainNode) × (slice_get (nodes ++ new) (end_number (length nodes) e) ≡ Some y) × (y.label ≡ x.label)
  end_kept (end.Old n) x low is =
      let there = front start n low is in
      let y = grown.kept n x there in
      (y.0, get_front nodes new n y.0 y.1, y.2)
    where
      front : (xs : List PlainNode) (n : ℕ) → n < length xs → slice_get (xs ++ new) n ≡ Some x → slice_get xs n ≡ Some x
      front [] n low is = absurd (omega arith)
      front (z ∷ xs) zero low is = is
      front (z ∷ xs) (suc n) low is = front xs n (omega arith) is
  end_kept (end.New k) x low is =
      (x, get_behind nodes new (length nodes + k) k refl ∙ (sym (get_behind start new (length start + k) k refl) ∙ is), refl)

  edges_kept : (edges : List NewEdge) →
      All (λ (e : NewEdge). IsOldEnd (length start) e.from) edges → All (λ (e : NewEdge). IsOldEnd (length start) e.to) edges →
      All (IsEdgeAmong (start ++ new)) (map (added_edge (length start)) edges) → All (IsEdgeAmong (nodes ++ new)) (map (added_edge (length nodes)) edges)
  edges_kept [] from to all = All-nil (IsEdgeAmong (nodes ++ new))
  edges_kept (e ∷ edges) from to all =
      let one = All-head (IsEdgeAmong (start ++ new)) (added_edge (length start) e) (map (added_edge (length start)) edges) all in
      let f = end_kept e.from one.from (All-head (λ (e : NewEdge). IsOldEnd (length start) e.from) e edges from) one.from_is in
      let t = end_kept e.to one.to (All-head (λ (e : NewEdge). IsOldEnd (length start) e.to) e edges to) one.to_is in
      let kept : IsEdgeAmong (nodes ++ new) (added_edge (length nodes) e) = record {
        from = f.0;
        from_is = f.1;
        to = t.0;
        to_is = t.1;
        allowed = subst (λ (l : Label). IsTrue (allows e.kind l t.0.label)) (sym f.2)
            (subst (λ (l : Label). IsTrue (allows e.kind one.from.label l)) (sym t.2) one.allowed);
        variable = one.variable;
      } in
      All-cons (IsEdgeAmong (nodes ++ new)) (added_edge (length nodes) e) (map (added_edge (length nodes)) edges) kept
      (edges_kept edges (All-tail (λ (e : NewEdge). IsOldEnd (length start) e.from) e edges from)
      (All-tail (λ (e : NewEdge). IsOldEnd (length start) e.to) e edges to)
      (All-tail (IsEdgeAmong (start ++ new)) (added_edge (length start) e) (map (added_edge (length start)) edges) all))

  -- a setting whose key is not set yet
  setting_kept : (s : Setting) → ¬ IsSet s.node s.key → IsNewSetting start s → IsNewSetting nodes s
  setting_kept s unset h =
      let y = grown.kept s.node h.node h.node_is in
      record { node = y.0; node_is = y.1; lacks = y.3 s.key unset h.lacks; form = h.form }

-- what fits a graph fits one that has grown from it, where it sets no key that is set
fits_grown : (start graph : PlainGraph) (delta : PlainDelta) (IsSet : ℕ → Key → Type 0) → AreGrown start.nodes IsSet graph.nodes →
    All (λ (s : Setting). ¬ IsSet s.node s.key) delta.settings → Fits start delta → Fits graph delta
fits_grown start graph delta IsSet grown unset fits = record {
  old_from = λ k d low. old_end start.nodes graph.nodes delta.nodes IsSet grown (get_or delta.edges k d).from (fits.old_from k d low);
  old_to = λ k d low. old_end start.nodes graph.nodes delta.nodes IsSet grown (get_or delta.edges k d).to (fits.old_to k d low);
  allowed = edges_kept start.nodes graph.nodes delta.nodes IsSet grown delta.edges fits.old_from fits.old_to fits.allowed;
  settings = λ k d low. setting_kept start.nodes graph.nodes delta.nodes IsSet grown (get_or delta.settings k d) (unset k d low) (fits.settings k d low);
  apart = fits.apart;
}

-- some part before this one sets the key at the node
record IsSetBefore (delta_of : ℕ → PlainDelta) (part n : ℕ) (key : Key) : Type 0 where
  by : ℕ
  before : by < part
  setting : Setting
  among : Contains (delta_of by).settings setting
  node : setting.node ≡ n
  key_is : setting.key ≡ key

module _ (caps : Caps) (start : PlainGraph) (delta_of : ℕ → PlainDelta) (parts : ℕ) (fits : PartsFit start delta_of parts) where
  grown_step : (part : ℕ) (graph : PlainGraph) → part < parts → AreGrown start.nodes (IsSetBefore delta_of part) graph.nodes →
      AreGrown start.nodes (IsSetBefore delta_of (suc part)) (applied graph (delta_of part)).nodes
  grown_step part graph low h =
      let delta = delta_of part in
      let later : (n : ℕ) (key : Key) → IsSetBefore delta_of part n key → IsSetBefore delta_of (suc part) n key = λ n key set.
      (let less = set.before in record { by = set.by; before = omega arith; setting = set.setting; among = set.among; node = set.node; key_is = set.key_is }) in
      let here : All (λ (s : Setting). IsSetBefore delta_of (suc part) s.node s.key) delta.settings = λ k d inside. record {
        by = part;
        before = omega arith;
        setting = get_or delta.settings k d;
        among = Contains-get_or delta.settings k d inside;
        node = refl;
        key_is = refl;
      } in
      grown_append start.nodes (with_settings delta.settings graph.nodes) delta.nodes (IsSetBefore delta_of (suc part))
      (grown_settings delta.settings start.nodes graph.nodes (IsSetBefore delta_of (suc part)) here
      (grown_weaker start.nodes graph.nodes (IsSetBefore delta_of part) (IsSetBefore delta_of (suc part)) later h))

  fits_then : (part : ℕ) (graph : PlainGraph) → part < parts → AreGrown start.nodes (IsSetBefore delta_of part) graph.nodes → Fits graph (delta_of part)
  fits_then part graph low h =
      let settings = (delta_of part).settings in
      let unset : All (λ (s : Setting). ¬ IsSetBefore delta_of part s.node s.key) settings = λ k d inside set.
      (let less = set.before in
      let same = fits.apart set.by part set.setting (get_or settings k d) (omega arith) low set.among (Contains-get_or settings k d inside)
      (record { node = set.node; key = set.key_is }) in
      absurd (omega arith)) in
      fits_grown start graph (delta_of part) (IsSetBefore delta_of part) h unset (fits.each part low)

  all_grown : (part : ℕ) → part ≤ parts → (graph : PlainGraph) → seq caps start delta_of part ≡ Ok graph →
      AreGrown start.nodes (IsSetBefore delta_of part) graph.nodes
  all_grown =
      seq_steps caps start delta_of (λ (k : ℕ) (g : PlainGraph). AreGrown start.nodes (IsSetBefore delta_of k) g.nodes) parts
      (grown_none start.nodes (IsSetBefore delta_of 0)) grown_step

  -- so each part fits
  pub fits_after : (part : ℕ) → part < parts → (graph : PlainGraph) → seq caps start delta_of part ≡ Ok graph → Fits graph (delta_of part)
  fits_after part low graph is = fits_then part graph low (all_grown part (omega arith) graph is)

-- and the graph stays well formed
record IsGrownGraph (start : PlainGraph) (delta_of : ℕ → PlainDelta) (part : ℕ) (graph : PlainGraph) : Type 0 where
  grown : AreGrown start.nodes (IsSetBefore delta_of part) graph.nodes
  is_graph : IsGraph graph

pub graph_after : (caps : Caps) (start : PlainGraph) (delta_of : ℕ → PlainDelta) (parts : ℕ) → PartsFit start delta_of parts → IsGraph start →
    (part : ℕ) → part ≤ parts → (graph : PlainGraph) → seq caps start delta_of part ≡ Ok graph → IsGraph graph
graph_after caps start delta_of parts fits whole part low graph is =
    let begins : IsGrownGraph start delta_of 0 start = record { grown = grown_none start.nodes (IsSetBefore delta_of 0); is_graph = whole } in
    let steps : (k : ℕ) (g : PlainGraph) → k < parts → IsGrownGraph start delta_of k g → IsGrownGraph start delta_of (suc k) (applied g (delta_of k)) =
    λ k g below h. record {
      grown = grown_step caps start delta_of parts fits k g below h.grown;
      is_graph = applied_is_graph g (delta_of k) h.is_graph (fits_then caps start delta_of parts fits k g below h.grown);
    } in
    (seq_steps caps start delta_of (IsGrownGraph start delta_of) parts begins steps part low graph is).is_graph
