-- A step more that opens a scope.

use Rattle.std.proofs.Common.{◌∙◌, ap}
use Rattle.c_scopes.specs.Scopes.{entered}
use Rattle.c_scopes.specs.KeptScopes.{scopes_in}
use Rattle.c_scopes.proofs.Stepping.{scopes_in-opens}
use Rattle.c_scopes.proofs.scopes.Scopes.enter.Goals as goal

pub returns-clause-ok : goal.returns-clause-ok
returns-clause-ok c =
    ap (scopes_in c.self.inside.names c.self.inside.texts.items) c.in_ok-push.ensures.items
    ∙ scopes_in-opens c.self.inside.names c.self.inside.texts.items c.self.inside.steps.items
    ∙ ap entered c.self.view_is
