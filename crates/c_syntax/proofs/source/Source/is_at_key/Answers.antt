use Rattle.std.proofs.Common.{◌∙◌}
use Rattle.c_syntax.proofs.Ahead.{key_ahead}
use Rattle.c_syntax.proofs.source.Source.is_at_key.Goals as goal

pub returns : goal.returns
returns c = c.is_at.ensures ∙ key_ahead c.args.number c.args.self.now.cursor c.args.self.now.scopes
