use Rattle.std.proofs.Common.{◌∙◌}
use Rattle.c_tree.specs.Jumps.{block_jumps}
use Rattle.c_tree.specs.Lexemes.{spelling_at}
use Rattle.c_jumps.proofs.Files.{faults_of_function, walk_leaves}
use Rattle.c_jumps.proofs.file.with_faults_of.Goals as goal

pub returns : goal.returns
returns c =
    let left = walk_leaves c.args.faults (block_jumps c.args.body.now) c.new-found.result c.block.new.self c.nothing.result c.in_ok-block.ensures c.new-found.ensures c.nothing.ensures in
    faults_of_function (spelling_at c.args.kept.now) c.args.body.now c.args.faults c.into_parts-more.result.0 c.add_seconds.new.faults c.add_missing.new.faults
    c.deref.result.now c.deref-2.result.now c.in_ok-names.names
    (c.into_parts-more.ensures.faults ∙ left.0) (c.deref.ensures.value ∙ (c.into_parts-more.ensures.labels ∙ left.1)) (c.deref-2.ensures.value ∙ (c.into_parts-more.ensures.gotos ∙ left.2))
    c.in_ok-names.ensures.names c.in_ok-names.ensures.adds c.in_ok-add_missing.ensures
