-- The properties of the last new node, set one by one.
use Rattle.std.proofs.Common.{◌≡◌, ℕ, suc, List, [], ◌∷◌, ◌++◌, length, Option, Some, None, refl, ap, sym, subst, ◌∙◌, arith}
use Rattle.cpg_schema.specs.declared.key.Key.{Key}
use Rattle.cpg_schema.specs.declared.key.Key.TheVariants as key
use Rattle.cpg_schema.specs.declared.label.Label.{Label}
use Rattle.cpg_schema.specs.Graph.{PlainNode, bare_node}
use Rattle.cpg_schema.specs.Properties.{with_text, with_number}
use Rattle.cpg_schema.specs.Deltas.{PlainDelta, changed_at}
use Rattle.graph_forest.specs.Nodes.{text_at, number_at}

-- the delta with one node more
abbrev pub with_node : PlainDelta → PlainNode → PlainDelta
with_node d x = record d { nodes = d.nodes ++ x ∷ [] }

-- a node with a property, if there is one
abbrev pub maybe_text : Key → Option (List ℕ) → PlainNode → PlainNode
maybe_text key None x = x
maybe_text key (Some v) x = with_text key v x

abbrev pub maybe_number : Key → Option ℕ → PlainNode → PlainNode
maybe_number key None x = x
maybe_number key (Some v) x = with_number key v x

changed_last : (xs : List PlainNode) (x : PlainNode) (f : PlainNode → PlainNode) → changed_at (length xs) f (xs ++ x ∷ []) ≡ xs ++ f x ∷ []
changed_last [] x f = refl
changed_last (y ∷ ys) x f = ap (λ (zs : List PlainNode). y ∷ zs) (changed_last ys x f)

text_last : (d : PlainDelta) (x : PlainNode) (k : Key) (o : Option (List ℕ)) → text_at (length d.nodes) k o (with_node d x) ≡ with_node d (maybe_text k o x)
text_last d x k None = refl
text_last d x k (Some v) = ap (λ (ns : List PlainNode). record d { nodes = ns }) (changed_last d.nodes x (with_text k v))

number_last : (d : PlainDelta) (x : PlainNode) (k : Key) (o : Option ℕ) → number_at (length d.nodes) k o (with_node d x) ≡ with_node d (maybe_number k o x)
number_last d x k None = refl
number_last d x k (Some v) = ap (λ (ns : List PlainNode). record d { nodes = ns }) (changed_last d.nodes x (with_number k v))

-- One step: the delta after it, where the delta before it is the old one with a node more, and the node after it.
text_step : (d before after : PlainDelta) (n : ℕ) (x y : PlainNode) (k : Key) (o : Option (List ℕ)) → n ≡ length d.nodes → before ≡ with_node d x →
    after ≡ text_at n k o before → maybe_text k o x ≡ y → after ≡ with_node d y
text_step d before after n x y k o at is step node =
    step
    ∙ (ap (λ (e : PlainDelta). text_at n k o e) is
    ∙ (ap (λ (m : ℕ). text_at m k o (with_node d x)) at ∙ (text_last d x k o ∙ ap (λ (z : PlainNode). with_node d z) node)))

number_step : (d before after : PlainDelta) (n : ℕ) (x y : PlainNode) (k : Key) (o : Option ℕ) → n ≡ length d.nodes → before ≡ with_node d x →
    after ≡ number_at n k o before → maybe_number k o x ≡ y → after ≡ with_node d y
number_step d before after n x y k o at is step node =
    step
    ∙ (ap (λ (e : PlainDelta). number_at n k o e) is
    ∙ (ap (λ (m : ℕ). number_at m k o (with_node d x)) at ∙ (number_last d x k o ∙ ap (λ (z : PlainNode). with_node d z) node)))

-- what each key sets
name_set : (x : PlainNode) (o : Option (List ℕ)) → maybe_text key.Name o (record x { name = None }) ≡ record x { name = o }
name_set x None = refl
name_set x (Some v) = refl

code_set : (x : PlainNode) (o : Option (List ℕ)) → maybe_text key.Code o (record x { code = None }) ≡ record x { code = o }
code_set x None = refl
code_set x (Some v) = refl

filename_set : (x : PlainNode) (o : Option (List ℕ)) → maybe_text key.Filename o (record x { filename = None }) ≡ record x { filename = o }
filename_set x None = refl
filename_set x (Some v) = refl

line_number_set : (x : PlainNode) (o : Option ℕ) → maybe_number key.LineNumber o (record x { line_number = None }) ≡ record x { line_number = o }
line_number_set x None = refl
line_number_set x (Some v) = refl

order_set : (x : PlainNode) (o : Option ℕ) → maybe_number key.Order o (record x { order = None }) ≡ record x { order = o }
order_set x None = refl
order_set x (Some v) = refl

argument_index_set : (x : PlainNode) (o : Option ℕ) → maybe_number key.ArgumentIndex o (record x { argument_index = None }) ≡ record x { argument_index = o }
argument_index_set x None = refl
argument_index_set x (Some v) = refl

type_full_name_set : (x : PlainNode) (o : Option (List ℕ)) → maybe_text key.TypeFullName o (record x { type_full_name = None }) ≡ record x { type_full_name = o }
type_full_name_set x None = refl
type_full_name_set x (Some v) = refl

control_structure_type_set : (x : PlainNode) (o : Option (List ℕ)) →
    maybe_text key.ControlStructureType o (record x { control_structure_type = None }) ≡ record x { control_structure_type = o }
control_structure_type_set x None = refl
control_structure_type_set x (Some v) = refl

linkage_set : (x : PlainNode) (o : Option (List ℕ)) → maybe_text key.Linkage o (record x { linkage = None }) ≡ record x { linkage = o }
linkage_set x None = refl
linkage_set x (Some v) = refl

-- All steps: the node gets each of the properties of another that has no more.
pub all_set : (d d0 d1 d2 d3 d4 d5 d6 d7 d8 d9 : PlainDelta) (n : ℕ) (x : PlainNode) → n ≡ length d.nodes → d0 ≡ with_node d (bare_node x.label) →
    d1 ≡ text_at n key.Name x.name d0 → d2 ≡ text_at n key.Code x.code d1 → d3 ≡ text_at n key.Filename x.filename d2 →
    d4 ≡ number_at n key.LineNumber x.line_number d3 → d5 ≡ number_at n key.Order x.order d4 → d6 ≡ number_at n key.ArgumentIndex x.argument_index d5 →
    d7 ≡ text_at n key.TypeFullName x.type_full_name d6 → d8 ≡ text_at n key.ControlStructureType x.control_structure_type d7 →
    d9 ≡ text_at n key.Linkage x.linkage d8 → d9 ≡ with_node d x
all_set d d0 d1 d2 d3 d4 d5 d6 d7 d8 d9 n x at s0 s1 s2 s3 s4 s5 s6 s7 s8 s9 =
    let x0 = bare_node x.label in
    let x1 = record x0 { name = x.name } in
    let x2 = record x1 { code = x.code } in
    let x3 = record x2 { filename = x.filename } in
    let x4 = record x3 { line_number = x.line_number } in
    let x5 = record x4 { order = x.order } in
    let x6 = record x5 { argument_index = x.argument_index } in
    let x7 = record x6 { type_full_name = x.type_full_name } in
    let x8 = record x7 { control_structure_type = x.control_structure_type } in
    let r1 = text_step d d0 d1 n x0 x1 key.Name x.name at s0 s1 (name_set x0 x.name) in
    let r2 = text_step d d1 d2 n x1 x2 key.Code x.code at r1 s2 (code_set x1 x.code) in
    let r3 = text_step d d2 d3 n x2 x3 key.Filename x.filename at r2 s3 (filename_set x2 x.filename) in
    let r4 = number_step d d3 d4 n x3 x4 key.LineNumber x.line_number at r3 s4 (line_number_set x3 x.line_number) in
    let r5 = number_step d d4 d5 n x4 x5 key.Order x.order at r4 s5 (order_set x4 x.order) in
    let r6 = number_step d d5 d6 n x5 x6 key.ArgumentIndex x.argument_index at r5 s6 (argument_index_set x5 x.argument_index) in
    let r7 = text_step d d6 d7 n x6 x7 key.TypeFullName x.type_full_name at r6 s7 (type_full_name_set x6 x.type_full_name) in
    let r8 = text_step d d7 d8 n x7 x8 key.ControlStructureType x.control_structure_type at r7 s8 (control_structure_type_set x7 x.control_structure_type) in
    text_step d d8 d9 n x8 x key.Linkage x.linkage at r8 s9 (linkage_set x8 x.linkage)
