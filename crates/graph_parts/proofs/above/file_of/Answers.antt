use Rattle.std.proofs.Common.{ℕ, sym, subst}
use Rattle.cpg_schema.specs.declared.label.Label.TheVariants.{File}
use Rattle.graph_store.specs.Stored.{plain}
use Rattle.graph_parts.specs.Parts.{IsNodeWith, HasLabel}
use Rattle.graph_parts.proofs.Tree.{one_root}
use Rattle.graph_parts.proofs.above.file_of.Goals as goal

pub returns-else-has_label-clause-file : goal.returns-else-has_label-clause-file
returns-else-has_label-clause-file c = λ file is.
    let same = one_root (plain c.args.graph.now) c.requires.shaped c.args.node c.root_of-root.result file c.root_of-root.ensures.root is.is_root in
    let has = subst (λ (n : ℕ). IsNodeWith (plain c.args.graph.now) (HasLabel File) n) (sym same) is.is_node in
    let labelled = c.has_label.ensures.1 has in
    cc
