use Rattle.std.proofs.Common.{refl}
use Rattle.c_scopes.specs.KeptScopes.{scopes_in}
use Rattle.c_scopes.proofs.scopes.Scopes.new.Goals as goal

pub returns : goal.returns
unfolding scopes_in
returns c = rw c.new-3.ensures.items refl
