use Rattle.std.proofs.lemmas.Result.{IfOk-weaker}
use Rattle.name_table.specs.Names.{AddsName}
use Rattle.type_layer.specs.Gathered.{AddsType}
use Rattle.type_layer.proofs.Gathering.{type_added}
use Rattle.type_layer.proofs.types.Types.add.Goals as goal

pub returns : goal.returns
returns c =
    let name = c.args.name.now in
    IfOk-weaker c.add.result (AddsName c.args.self.now.names c.add.new.self name) (AddsType c.args.self.now (record { names = c.add.new.self; delta = c.set_text.new.self }) name)
    (λ number added. record {
      names = added.added;
      delta =
          type_added c.args.self.now.delta c.node.new.self c.set_text.new.self c.in_ok-position.position name c.in_ok-position.ensures.number c.in_ok-position.ensures.ok
          c.in_ok-set_text.ensures.ok;
      number_is = added.number_is;
    })
    c.add.ensures.ok
