use Rattle.std.proofs.Common.{arith}
use Rattle.c_jumps.proofs.Files.{name_laws}
use Rattle.c_jumps.proofs.file.+declared_name.Goals as goal

pub returns-in-Name : goal.returns-in-Name
returns-in-Name t c = λ kind_of bytes_of. grind (arith, name_laws)

pub returns-in-Group : goal.returns-in-Group
returns-in-Group t c = λ kind_of bytes_of. let inner = c.declared_name.ensures kind_of bytes_of in grind (arith, name_laws)

pub returns-in-Empty : goal.returns-in-Empty
returns-in-Empty t c = λ kind_of bytes_of. grind (arith, name_laws)
