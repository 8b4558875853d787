use Rattle.std.proofs.Common.{ℕ, List, [], ◌++◌, take, subst, sym, ap, ◌∙◌}
use Rattle.std.proofs.lemmas.List.{take_all}
use Rattle.c_tree.specs.Jumps.{Blames, functions_in}
use Rattle.c_tree.specs.Lexemes.{kind_at, spelling_at}
use Rattle.c_reading.specs.Kept.{kept_lexemes}
use Rattle.c_jumps.specs.Names.{Adds, IsFaultIn}
use Rattle.c_jumps.proofs.Adding.{adds_none}
use Rattle.c_jumps.proofs.Files.{faults_more, faults_of_none, first_of_lexemes, item_more}
use Rattle.c_jumps.proofs.file.first_fault.Goals as goal

pub loop-item-init : goal.loop-item-init
loop-item-init c =
    let bytes_of = spelling_at c.new-kept_tokens.result in
    record {
      faults = subst (λ (faults : Blames). Adds (IsFaultIn bytes_of []) [] faults) (sym c.new-faults.ensures) (adds_none (IsFaultIn bytes_of []) [] (faults_of_none bytes_of));
      functions = λ kind_of bytes. c.new-functions.ensures.items;
    }

pub loop-item-preserved : goal.loop-item-preserved
loop-item-preserved c =
    let items = c.items-items.result.now in
    let i = c.loop-item.item-index in
    let item = c.item-item.result in
    record {
      faults = faults_more (spelling_at c.new-kept_tokens.result) items i item [] c.loop-item.faults c.in_ok-faults.faults c.loop-item-test.true c.item-item.is c.loop-item.invariant.faults c.in_ok-faults.ensures;
      functions = λ kind_of bytes.
          c.in_ok-push_function.ensures kind_of bytes ∙
          (ap (λ (list : List ℕ). list ++ functions_in kind_of bytes item) (c.loop-item.invariant.functions kind_of bytes) ∙
          sym (item_more (functions_in kind_of bytes) items i item c.loop-item-test.true c.item-item.is));
    }

pub returns : goal.returns
returns c =
    let lexemes = kept_lexemes c.args.bytes.now c.args.tokens.now c.args.kept.now in
    first_of_lexemes lexemes c.new-kept_tokens.result c.args.unit.now (take c.loop-item.item-index c.items-items.result.now) c.deref.result.now c.loop-item.faults c.add_seconds.new.faults
    c.new-kept_tokens.ensures (take_all c.loop-item.item-index c.items-items.result.now c.loop-item-test.false ∙ c.items-items.ensures)
    c.loop-item.invariant.faults (c.deref.ensures.value ∙ c.loop-item.invariant.functions (kind_at lexemes) (spelling_at lexemes))
    c.in_ok-_names.ensures.adds c.least.result c.least.ensures
