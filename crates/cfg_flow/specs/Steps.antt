-- One construct of a plan, as it is joined (ours).
use Rattle.std.specs.Prelude.{ℕ, ◌≡◌, ◌≤◌, ◌↔◌, List, Some, slice_get}
use Rattle.cfg_rules.specs.declared.arrival.Arrival.{Arrival}
use Rattle.cfg_rules.specs.declared.joined.Joined.{Joined}
use Rattle.cfg_rules.specs.declared.summary.Summary.{Summary}
use Rattle.cfg_rules.specs.Member.{IsIn}
use Rattle.cfg_rules.specs.Plan.{Construct, IsPlan}
use Rattle.cfg_rules.specs.Sets.{IsJoined}
use Rattle.cfg_flow.specs.declared.jumps.Jumps.{Jumps}
use Rattle.cfg_flow.specs.declared.site.Site.{Site}
use Rattle.cfg_flow.specs.Tables.{AreKept, ArePartsTaken, AreReady, IsPartTaken}

-- The site is that of a construct of the plan, with its jumps.
pub record IsSite (plan : List Construct) (site : Site) (jumps : Jumps) : Type 0 where
  pub construct : Construct
  pub is : slice_get plan site.x ≡ Some construct
  pub rule : construct.rule ≡ site.rule
  pub parts : construct.parts ≡ site.parts.now
  pub end : construct.method_return ≡ site.end
  pub targets : (m : ℕ) → IsIn jumps.targets.items m ↔ IsIn construct.targets m
  pub breaks : (m : ℕ) → IsIn jumps.breaks.items m ↔ IsIn construct.breaks m
  pub continues : (m : ℕ) → IsIn jumps.continues.items m ↔ IsIn construct.continues m

-- In each plan where part k of the site is ready, it is taken.
abbrev pub TakesPart : Site → ℕ → List Summary → Summary → List Summary → Type 0
TakesPart site k before m after = (plan : List Construct) (jumps : Jumps) (i : ℕ) →
    IsPlan plan → IsSite plan site jumps → AreReady plan site.x i before → i ≤ k →
    IsPartTaken plan site.x k m after

-- In each plan where the parts of the site are ready, so many are taken.
abbrev pub TakesParts : Site → ℕ → List Summary → List Summary → List Summary → Type 0
TakesParts site count before parts after = (plan : List Construct) (jumps : Jumps) →
    IsPlan plan → IsSite plan site jumps → AreReady plan site.x 0 before →
    ArePartsTaken plan site.x count parts after

-- The construct x is joined, and what is no part of it stays in the table.
pub record IsJoinedAt (plan : List Construct) (x : ℕ) (next : Arrival) (old new : Joined)
    (table : List Summary) : Type 0 where
  pub joined : IsJoined plan x next old new
  pub kept : AreKept plan x table

-- In each plan where the parts of the site are ready, its construct is joined.
abbrev pub JoinsSite : Site → Jumps → List Summary → Arrival → Joined → Joined → List Summary →
    Type 0
JoinsSite site jumps before next old new after = (plan : List Construct) → IsPlan plan →
    IsSite plan site jumps → AreReady plan site.x 0 before →
    IsJoinedAt plan site.x next old new after

-- The same, whatever jumps the site has.
abbrev pub JoinsByParts : Site → List Summary → Arrival → Joined → Joined → List Summary → Type 0
JoinsByParts site before next old new after =
    (jumps : Jumps) → JoinsSite site jumps before next old new after
