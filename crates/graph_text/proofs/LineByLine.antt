-- The lines of a list, one after the other.
use Rattle.std.proofs.Common.{◌≡◌, ℕ, ◌+◌, zero, suc, List, [], ◌∷◌, ◌++◌, take, get_or, Some, sym, ◌∙◌, ap, append_assoc, add-one, add-zero, zero-add, arith}
use Rattle.std.specs.Prelude.{flat_map, map, slice_get}
use Rattle.std.specs.Option.{option_map}
use Rattle.std.proofs.Math.Seq.{take-suc}
use Rattle.std.proofs.lemmas.List.{append-nil}
use Rattle.std.proofs.lemmas.Grind.{flat_map-append}
use Rattle.std.proofs.lemmas.Option.{slice_get-map, slice_get_within, get_or_from_slice_get}
use Rattle.cpg_schema.specs.declared.label.Label.{Label}
use Rattle.cpg_schema.specs.Graph.{PlainNode}
use Rattle.cpg_schema.specs.Lines.{node_line, node_lines}

pub flat_map-take-one : {X : Type 0} (f : X → List ℕ) (xs : List X) (at : ℕ) (x : X) → slice_get xs at ≡ Some x →
    flat_map f (take (at + 1) xs) ≡ flat_map f (take at xs) ++ f x
flat_map-take-one {X} f xs at x here =
    ap (λ n. flat_map f (take n xs)) (add-one at)
    ∙ ap (flat_map f) (take-suc xs at x (slice_get_within xs at x here))
    ∙ flat_map-append f (take at xs) (get_or xs at x ∷ [])
    ∙ ap (λ last. flat_map f (take at xs) ++ last) (append-nil (f (get_or xs at x)) ∙ ap f (get_or_from_slice_get xs at x x here))

node_lines-take-suc : (id at : ℕ) (nodes : List PlainNode) (node : PlainNode) → slice_get nodes at ≡ Some node →
    node_lines id (take (suc at) nodes) ≡ node_lines id (take at nodes) ++ node_line (id + at) node
node_lines-take-suc id at [] node here = cc
node_lines-take-suc id zero (first ∷ rest) node here =
    let same : first ≡ node = cc in
    append-nil (node_line id first) ∙ ap (λ n. node_line n first) (sym (add-zero id)) ∙ ap (node_line (id + 0)) same
node_lines-take-suc id (suc at) (first ∷ rest) node here =
    let number : id + 1 + at ≡ id + suc at = omega arith in
    ap (λ last. node_line id first ++ last) (node_lines-take-suc (id + 1) at rest node here ∙ ap (λ n. node_lines (id + 1) (take at rest) ++ node_line n node) number)
    ∙ sym (append_assoc (node_line id first) (node_lines (id + 1) (take at rest)) (node_line (id + suc at) node))

pub node_lines-take-one : (at : ℕ) (nodes : List PlainNode) (node : PlainNode) → slice_get nodes at ≡ Some node →
    node_lines 0 (take (at + 1) nodes) ≡ node_lines 0 (take at nodes) ++ node_line at node
node_lines-take-one at nodes node here =
    ap (λ n. node_lines 0 (take n nodes)) (add-one at) ∙ node_lines-take-suc 0 at nodes node here
    ∙ ap (λ n. node_lines 0 (take at nodes) ++ node_line n node) (zero-add at)

-- The label of a node that is known.
pub label-of : (nodes : List PlainNode) (id : ℕ) (node : PlainNode) (label : Label) → slice_get nodes id ≡ Some node →
    option_map (λ (node : PlainNode). node.label) (slice_get nodes id) ≡ Some label → label ≡ node.label
label-of nodes id node label here is =
    let same : Some node.label ≡ Some label = rw here at is in
    cc

-- The list where each item is changed has at a position what the item there becomes.
pub slice_get-of-map : {X Y : Type 0} (f : X → Y) (xs : List X) (at : ℕ) (x : X) → slice_get xs at ≡ Some x → slice_get (map f xs) at ≡ Some (f x)
slice_get-of-map {X} {Y} f xs at x here = slice_get-map f xs at ∙ ap (option_map f) here
