-- Edges between new nodes, which are kept apart from the others.
use Rattle.std.proofs.Common.{◌≡◌, ℕ, ◌+◌, ◌<◌, List, [], ◌∷◌, ◌++◌, length, map, get_or, ap, sym, subst, ◌∙◌, arith}
use Rattle.std.specs.List.{All}
use Rattle.std.proofs.lemmas.List.{length-append, length-map, map-append, append-nil, get_or-map}
use Rattle.std.proofs.lemmas.List.Elements.{All-nil, All-cons, All-head, All-tail, All-get_or}
use Rattle.graph_store.specs.declared.edge.Edge.{Edge}
use Rattle.graph_store.specs.declared.delta_row.NewEdgeRow.{NewEdgeRow}
use Rattle.graph_store.specs.DeltaRows.{fresh_row, edge_rows}

-- how many they are
pub length-edge_rows : (fresh : List Edge) (others : List NewEdgeRow) → length (edge_rows fresh others) ≡ length fresh + length others
length-edge_rows fresh others = length-append (map fresh_row fresh) others ∙ ap (λ (n : ℕ). n + length others) (length-map fresh fresh_row)

-- what is so of all is so of both parts
module _ (P : NewEdgeRow → Type 0) where
  pub fresh_of : (fresh : List Edge) (others : List NewEdgeRow) → All P (edge_rows fresh others) → All P (map fresh_row fresh)
  fresh_of [] others all = All-nil P
  fresh_of (x ∷ xs) others all =
      All-cons P (fresh_row x) (map fresh_row xs) (All-head P (fresh_row x) (edge_rows xs others) all)
      (fresh_of xs others (All-tail P (fresh_row x) (edge_rows xs others) all))

  pub others_of : (fresh : List Edge) (others : List NewEdgeRow) → All P (edge_rows fresh others) → All P others
  others_of [] others all = all
  others_of (x ∷ xs) others all = others_of xs others (All-tail P (fresh_row x) (edge_rows xs others) all)

  pub fresh_at : (fresh : List Edge) (i : ℕ) (d : Edge) → i < length fresh → All P (map fresh_row fresh) → P (fresh_row (get_or fresh i d))
  fresh_at fresh i d low all =
      subst P (get_or-map fresh_row fresh i d (fresh_row d) low)
      (All-get_or P (map fresh_row fresh) i (fresh_row d) (let size = length-map fresh fresh_row in omega arith) all)

-- one more between new nodes
pub fresh_push : (fresh : List Edge) (edge : Edge) → edge_rows (fresh ++ edge ∷ []) [] ≡ edge_rows fresh [] ++ fresh_row edge ∷ []
fresh_push fresh edge =
    append-nil (map fresh_row (fresh ++ edge ∷ []))
    ∙ map-append fresh_row fresh (edge ∷ [])
    ∙ ap (λ (rows : List NewEdgeRow). rows ++ fresh_row edge ∷ []) (sym (append-nil (map fresh_row fresh)))
