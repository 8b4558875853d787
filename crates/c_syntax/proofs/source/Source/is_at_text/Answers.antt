use Rattle.std.proofs.Common.{[], ◌∷◌, refl, ◌∙◌}
use Rattle.c_reading.specs.Terminals.{TEXT}
use Rattle.c_syntax.proofs.Ahead.{same_ahead}
use Rattle.c_syntax.proofs.source.Source.is_at_text.Goals as goal

pub returns : goal.returns
returns c = c.is_at.ensures ∙ same_ahead (TEXT ∷ []) refl c.args.self.now.cursor c.args.self.now.scopes
