use Rattle.std.proofs.Common.{◌≡◌, ◌≤◌, ◌∷◌, zero, suc, [], ℕ, List, Some, length, slice_get, ap, refl, arith}
use Rattle.std.proofs.lemmas.List.Elements.{All-nil}
use Rattle.graph_store.proofs.graph.Graph.new.Goals as goal

-- a list of at most one name that has the empty name
only_empty : (names : List (List ℕ)) (n : ℕ) → length names ≤ 1 → slice_get names n ≡ Some [] → names ≡ [] ∷ []
only_empty [] n few is = absurd (cc)
only_empty (x ∷ y ∷ names) n few is = absurd (omega arith)
only_empty (x ∷ []) zero few is = let e : x ≡ [] = cc in ap (λ (name : List ℕ). name ∷ []) e
only_empty (x ∷ []) (suc n) few is = absurd (cc)

pub invariant_of-result : goal.invariant_of-result
invariant_of-result c =
    let none = ap length c.new-names.ensures in
    let names : c.number_of.new.self ≡ [] ∷ [] = only_empty c.number_of.new.self c.in_ok-number_of.field-0 (omega arith) c.in_ok-number_of.ensures.stored in
    rw (c.new.ensures.items, c.new-2.ensures.items, names) (record {
      few_nodes = omega arith;
      few_edges = omega arith;
      small_nodes = c.requires;
      few_names = omega arith;
      empty = refl;
      texts = All-nil _;
      variables = All-nil _;
      is_graph = record { edges = All-nil _ };
    })

pub returns : goal.returns
returns c =
    let none = ap length c.new-names.ensures in
    let names : c.number_of.new.self ≡ [] ∷ [] = only_empty c.number_of.new.self c.in_ok-number_of.field-0 (omega arith) c.in_ok-number_of.ensures.stored in
    rw (c.new.ensures.items, c.new-2.ensures.items, names) refl
