use Rattle.std.proofs.Common.{◌∙◌}
use Rattle.summary_core.proofs.Kept.{opening_sound, runs_sound, same_runs}
use Rattle.summary_core.proofs.Quiet.{quiet_exact}
use Rattle.summary_core.proofs.laws.law_runs.Goals as goal

pub returns-clause-opening : goal.returns-clause-opening
returns-clause-opening c flow starts board opening = opening_sound flow starts board opening

pub returns-clause-kept : goal.returns-clause-kept
returns-clause-kept c board events after sound runs = runs_sound board events after sound runs

pub returns-clause-sound : goal.returns-clause-sound
returns-clause-sound c flow starts board events after opening runs = runs_sound board events after (opening_sound flow starts board opening) runs

pub returns-clause-exact : goal.returns-clause-exact
returns-clause-exact c flow starts board events after opening runs quiet =
    let sound = runs_sound board events after (opening_sound flow starts board opening) runs in
    let same = same_runs board events after runs in
    let same_flow = same.0 ∙ opening.same_flow in
    let same_starts = same.1 ∙ opening.same_starts in
    rw (← same_flow, ← same_starts) (quiet_exact after sound quiet.clean)
