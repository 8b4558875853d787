use Rattle.std.proofs.Common.{ℕ, List, Ok, Err, Result}
use Rattle.std.specs.Prelude.{IfOk, Contains}
use Rattle.std.specs.declared.alloc.AllocError.{AllocError}
use Rattle.name_table.specs.Names.{AddsName}
use Rattle.line_marks.specs.Naming.{Mentions}
use Rattle.line_marks.proofs.Names.{mentions_known, mentions_new}
use Rattle.line_marks.proofs.file_names.FileNames.mention.Goals as goal

pub returns-in-Some : goal.returns-in-Some
returns-in-Some c =
    mentions_known c.args.self.now.names c.args.name.now c.in-Some.number
    c.in-Some.ensures.number.stands

added : (old new : List (List ℕ)) (name : List ℕ) (result : Result ℕ AllocError) →
    IfOk result (λ number. AddsName old new name number) → ¬ Contains old name →
    IfOk result (λ position. Mentions old new name position)
added old new name (Ok number) adds fresh = mentions_new old new name number adds fresh
added old new name (Err e) adds fresh = tt

pub returns-in-None : goal.returns-in-None
returns-in-None c =
    added c.args.self.now.names c.add.new.self c.args.name.now c.add.result c.add.ensures.ok
    c.in-None.ensures.none
