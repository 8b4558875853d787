use Rattle.std.proofs.lemmas.List.{append-nil}
use Rattle.cpg_schema.specs.Values.{escaped}
use Rattle.joern_top.proofs.write.refuse_file.Goals as goal

pub returns : goal.returns
returns g c =
    rw (← c.as_bytes.ensures.value, ← append-nil (escaped c.as_bytes.result.now)) c.refuse.ensures
