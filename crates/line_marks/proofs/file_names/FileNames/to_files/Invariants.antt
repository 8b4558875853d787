use Rattle.std.proofs.Common.{◌≡◌, take}
use Rattle.line_marks.proofs.file_names.FileNames.to_files.Given as goal

abbrev pub invariant-loop-number : goal.invariant-loop-number
invariant-loop-number l = l.files ≡ take l.number l.self.names
