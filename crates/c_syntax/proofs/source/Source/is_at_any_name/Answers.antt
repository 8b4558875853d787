use Rattle.std.proofs.Common.{◌∙◌}
use Rattle.c_syntax.proofs.Ahead.{any_name_ahead}
use Rattle.c_syntax.proofs.source.Source.is_at_any_name.Goals as goal

pub returns : goal.returns
returns c = c.is_at.ensures ∙ any_name_ahead c.args.self.now.cursor c.args.self.now.scopes
