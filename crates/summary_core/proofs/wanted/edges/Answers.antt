use Rattle.std.proofs.Common.{◌++◌, ℕ, List, ap, ◌∙◌, subst}
use Rattle.std.specs.List.{Contains}
use Rattle.matched_paths.specs.declared.flow_graph.Crossing.{Crossing}
use Rattle.matched_paths.specs.Edges.{Crosses}
use Rattle.summary_core.proofs.Wanting.{edges_are, edges_among}
use Rattle.summary_core.proofs.wanted.edges.Goals as goal

abbrev Cross : List (ℕ × ℕ) → List Crossing → Type 0
Cross ways crossings = (a b : ℕ) → (Contains ways (a, b) → Crosses crossings a b) × (Crosses crossings a b → Contains ways (a, b))

pub returns-clause-edges : goal.returns-clause-edges
returns-clause-edges c =
    let opens = c.in_ok-ways.ways.items in
    let closes = c.in_ok-closes.closes.items in
    edges_are c.args.flow.now opens closes c.extend_from_slice-2.new.self.items
    (subst (λ (xs : List Crossing). Cross opens xs) c.items.ensures c.in_ok-ways.ensures)
    (subst (λ (xs : List Crossing). Cross closes xs) c.items-2.ensures c.in_ok-closes.ensures)
    (c.in_ok-extend_from_slice-2.ensures.items
    ∙ (ap (λ (xs : List (ℕ × ℕ)). c.extend_from_slice.new.self.items ++ xs) c.items-3.ensures
    ∙ ap (λ (xs : List (ℕ × ℕ)). xs ++ c.args.flow.now.flat) (c.in_ok-extend_from_slice.ensures.items ∙ ap (λ (xs : List (ℕ × ℕ)). opens ++ xs) c.deref.ensures.value)))

pub returns-clause-within : goal.returns-clause-within
returns-clause-within c = edges_among c.args.flow.now c.extend_from_slice-2.new.self.items (returns-clause-edges c)
