-- The command that a value of the program stands for.
use Rattle.joern_top.specs.declared.words.Command as declared
use Rattle.joern_top.specs.declared.words.Command.TheVariants as variant
use Rattle.joern_top.specs.Words.{Command, Dump}

abbrev pub plain_command : declared.Command → Command
plain_command (variant.Dump name) = Dump name.now
