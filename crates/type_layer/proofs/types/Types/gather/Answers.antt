use Rattle.std.proofs.Common.{◌≡◌, ◌+◌, [], ◌∷◌, ◌++◌, Some, sym, subst}
use Rattle.std.proofs.lemmas.Result.{IfOk-weaker}
use Rattle.cpg_schema.specs.declared.edge_kind.EdgeKind.TheVariants.{EvalType}
use Rattle.cpg_schema.specs.declared.end.End.TheVariants.{Old, New}
use Rattle.graph_store.specs.Stored.{plain}
use Rattle.unit_rules.specs.UnitEdges.{edge_between}
use Rattle.type_rules.specs.Types.{type_at}
use Rattle.type_layer.specs.Gathered.{AreGathered}
use Rattle.type_layer.proofs.Gathering.{added_as, gathered_known, gathered_new, gathered_same, known_end, new_end, number_as}
use Rattle.type_layer.proofs.types.Types.gather.Goals as goal
use Rattle.type_layer.proofs.types.Types.gather.Goals.{in-Some-number_of, in-None+in_ok-number-in-None}

pub returns-in_default : goal.returns-in_default
returns-in_default c = gathered_same (plain c.args.graph.now) c.args.node c.args.self.now (sym c.in_default.ensures) c.requires.before

pub edge-requires-clause-to : goal.edge-requires-clause-to
edge-requires-clause-to c =
    let graph = plain c.args.graph.now in
    let old = c.args.self.now in
    let new = c.match-number_of.self in
    let name = c.in-Some.name.now in
    let at = c.from.result in
    elim c.match-number_of.branch [
      | in-Some-number_of w ↦
          let before : AreGathered graph c.args.node new = subst (AreGathered graph c.args.node) (sym w.self-is) c.requires.before in
          let number = w.in-Some-number_of.number in
          known_end graph c.args.node new name at before (number_as old new name number c.match-number_of.number at w.self-is w.number-is c.from.ensures w.in-Some-number_of.ensures.number)
      | in-None+in_ok-number-in-None w ↦
          let number = w.in_ok-number-in-None.number in
          new_end graph c.args.node old new name at c.requires.before
          (added_as old w.add.new.self new name number c.match-number_of.number at w.self-is w.number-is c.from.ensures w.in_ok-number-in-None.ensures)
    ]

pub returns : goal.returns
returns c =
    let graph = plain c.args.graph.now in
    let node = c.args.node in
    let old = c.args.self.now in
    let new = c.match-number_of.self in
    let name = c.in-Some.name.now in
    let at = c.from.result in
    let after = c.edge.new.self in
    let is : type_at graph node ≡ Some name = sym c.in-Some.ensures in
    elim c.match-number_of.branch [
      | in-Some-number_of w ↦
          let before : AreGathered graph node new = subst (AreGathered graph node) (sym w.self-is) c.requires.before in
          let number = w.in-Some-number_of.number in
          let known = number_as old new name number c.match-number_of.number at w.self-is w.number-is c.from.ensures w.in-Some-number_of.ensures.number in
          IfOk-weaker c.edge.result (λ _. after ≡ record new.delta { edges = new.delta.edges ++ edge_between (Old node) EvalType (New at) ∷ [] })
          (λ _. AreGathered graph (node + 1) (record { names = new.names; delta = after })) (λ _ e. gathered_known graph node name c.requires.inside is new at after before known e)
          c.edge.ensures.ok
      | in-None+in_ok-number-in-None w ↦
          let number = w.in_ok-number-in-None.number in
          let added = added_as old w.add.new.self new name number c.match-number_of.number at w.self-is w.number-is c.from.ensures w.in_ok-number-in-None.ensures in
          IfOk-weaker c.edge.result (λ _. after ≡ record new.delta { edges = new.delta.edges ++ edge_between (Old node) EvalType (New at) ∷ [] })
          (λ _. AreGathered graph (node + 1) (record { names = new.names; delta = after }))
          (λ _ e. gathered_new graph node name c.requires.inside is old new at after c.requires.before w.in-None.ensures.none added e) c.edge.ensures.ok
    ]
