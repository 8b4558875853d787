use Rattle.std.proofs.Common.{[], sym, subst}
use Rattle.std.proofs.lemmas.Result.{IfOk-weaker}
use Rattle.c_tree.specs.declared.tree.Item.{Item}
use Rattle.c_tree.specs.Jumps.{Blames, IsFaultOf, bodies_in}
use Rattle.c_tree.specs.Lexemes.{spelling_at}
use Rattle.c_jumps.specs.Names.{Adds, IsFaultIn}
use Rattle.c_jumps.proofs.Adding.{adds_none}
use Rattle.c_jumps.proofs.Files.{faults_of_one, faults_of_none}
use Rattle.c_jumps.proofs.file.with_faults_in.Goals as goal

pub returns-in-Define : goal.returns-in-Define
returns-in-Define c =
    let bytes_of = spelling_at c.args.kept.now in
    IfOk-weaker c.with_faults_of.result
    (λ (more : Blames). Adds (IsFaultOf bytes_of c.in-Define.body) c.args.faults more)
    (λ (more : Blames). Adds (IsFaultIn bytes_of (bodies_in c.args.item.now)) c.args.faults more)
    (λ more h. subst (λ (item : Item). Adds (IsFaultIn bytes_of (bodies_in item)) c.args.faults more) (sym c.in-Define.is) (faults_of_one bytes_of c.in-Define.body c.args.faults more h))
    c.with_faults_of.ensures

pub returns-in-Declare : goal.returns-in-Declare
returns-in-Declare c =
    let bytes_of = spelling_at c.args.kept.now in
    subst (λ (item : Item). Adds (IsFaultIn bytes_of (bodies_in item)) c.args.faults c.args.faults) (sym c.in-Declare.is)
    (adds_none (IsFaultIn bytes_of []) c.args.faults (faults_of_none bytes_of))
