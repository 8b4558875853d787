use Rattle.std.proofs.Common.{◌<◌, ◌≡◌, [], List, length, map, get_or, sym, ◌∙◌, subst, arith, rules}
use Rattle.std.proofs.lemmas.List.{length-map}
use Rattle.std.specs.List.{All}
use Rattle.summary_core.specs.declared.agenda.Asker.{Asker}
use Rattle.summary_core.specs.Agenda.{Wakes}
use Rattle.summary_core.proofs.Noting.{list_read}
use Rattle.summary_core.proofs.agenda.Agenda.tell.Goals as goal

pub wake-requires : goal.wake-requires
wake-requires c =
    let lists = c.args.self.now.askers.items in
    let len : length (map (λ list. list.items) lists) ≡ length lists = length-map lists (λ list. list.items) in
    let inside : c.args.position < length lists = omega (arith, c.requires.position, c.requires.lists, len) in
    let read : get_or (map (λ list. list.items) lists) c.args.position [] ≡ c.as_slice.result.now = list_read lists c.args.position c.index.result.now inside c.index.ensures ∙ sym c.as_slice.ensures.value in
    record {
      tree = c.requires.tree;
      count = c.requires.count;
      within = subst (λ (xs : List Asker). All (λ asker. asker.task < length c.args.tasks.now) xs) read c.requires.within;
    }

pub returns-clause-some : goal.returns-clause-some
returns-clause-some c less =
    let lists = c.args.self.now.askers.items in
    let len : length (map (λ list. list.items) lists) ≡ length lists = length-map lists (λ list. list.items) in
    let inside : c.args.position < length lists = omega (arith, c.requires.position, c.requires.lists, len) in
    let read : get_or (map (λ list. list.items) lists) c.args.position [] ≡ c.as_slice.result.now = list_read lists c.args.position c.index.result.now inside c.index.ensures ∙ sym c.as_slice.ensures.value in
    record {
      wakes = subst (λ (xs : List Asker). Wakes c.args.tasks.now xs c.args.self.now.marks c.wake.new.marks) (sym read) c.wake.ensures;
      latest = search rules;
      lists = c.empty.ensures;
    }
