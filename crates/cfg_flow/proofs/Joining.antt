-- The constructs of a plan, joined one after another from the last.
use Rattle.std.proofs.Common.{ℕ, zero, suc, ◌≡◌, ◌+◌, ◌<◌, ◌≤◌, ◌↔◌, ◌⊎◌, inl, inr, List, [], ◌∷◌, Option, Some, None, Bool, IsTrue, slice_get, slice_range, length, refl, sym, ◌∙◌, ap, subst, arith}
use Rattle.std.proofs.Math.Nat.{eq-or-lt_of_le}
use Rattle.std.proofs.lemmas.Option.{slice_get_past, slice_get_within}
use Rattle.cfg_rules.specs.declared.arrival.Arrival.{Arrival}
use Rattle.cfg_rules.specs.declared.joined.Joined.{Joined}
use Rattle.cfg_rules.specs.declared.summary.Summary.{Summary}
use Rattle.cfg_rules.specs.Member.{IsIn}
use Rattle.cfg_rules.specs.Rules.{Head, arrow}
use Rattle.cfg_rules.specs.Plan.{Construct, HasArrow, arrows_at, Breaks, BreaksAt, part}
use Rattle.cfg_rules.specs.Joined.{Source, after, head, Comes, along, broke, Goes, stops, jumps, finishes, inner, Joins, IsFirst, IsLast, IsPassable}
use Rattle.cfg_rules.specs.Sets.{Got, IsSummary}
use Rattle.cfg_rules.proofs.Summing.{joined_is_summary}
use Rattle.cfg_rules.proofs.Walks.{flow_is_joined}
use Rattle.std.specs.List.{Contains}
use Rattle.cfg_flow.specs.declared.jumps.Ahead.{Ahead}
use Rattle.cfg_flow.specs.declared.jumps.Jumps.{Jumps}
use Rattle.cfg_flow.specs.declared.plan.Plan.{Plan}
use Rattle.cfg_flow.specs.declared.plan.Row.{Row}
use Rattle.cfg_flow.specs.declared.site.Site.{Site}
use Rattle.cfg_flow.specs.declared.work.Work.{Work}
use Rattle.cfg_flow.specs.Plans.{construct_at, constructs_from, constructs, IsFlat}
use Rattle.cfg_flow.specs.Jumping.{IsAhead, AreAllTaken}
use Rattle.cfg_flow.specs.Tables.{AreDone, AreKept, AreReady}
use Rattle.cfg_flow.specs.Steps.{IsSite, IsJoinedAt}
use Rattle.cfg_flow.specs.Works.{AreJoinedFrom}
use Rattle.cfg_flow.specs.Edges.{AreFlow, IsRising}
use Rattle.cfg_flow.proofs.Members.{contains, is_in, none_in}

from_is : (plan : Plan) (start : ℕ) (rows : List Row) (k : ℕ) (row : Row) → slice_get rows k ≡ Some row → slice_get (constructs_from plan start rows) k ≡ Some (construct_at plan (start + k) row)
unfolding constructs_from
from_is plan start [] k row e = cc
from_is plan start (r ∷ rows) zero row e =
    let same : r ≡ row = cc in
    let at : start ≡ start + 0 = omega arith in
    ap (λ (v : Row). Some (construct_at plan start v)) same ∙ ap (λ (n : ℕ). Some (construct_at plan n row)) at
from_is plan start (r ∷ rows) (suc k) row e =
    let at : (start + 1) + k ≡ start + suc k = omega arith in
    from_is plan (start + 1) rows k row e ∙ ap (λ (n : ℕ). Some (construct_at plan n row)) at

-- The construct x is that of row x.
pub construct_is : (plan : Plan) (x : ℕ) (row : Row) → slice_get plan.rows.items x ≡ Some row → slice_get (constructs plan) x ≡ Some (construct_at plan x row)
construct_is plan x row e =
    let at : 0 + x ≡ x = omega arith in
    from_is plan 0 plan.rows.items x row e ∙ ap (λ (n : ℕ). Some (construct_at plan n row)) at

from_count : (plan : Plan) (start : ℕ) (rows : List Row) → length (constructs_from plan start rows) ≡ length rows
unfolding constructs_from
from_count plan start [] = refl
from_count plan start (r ∷ rows) = let rest = from_count plan (start + 1) rows in omega arith

none_beyond : (plan : Plan) (x : ℕ) → length plan.rows.items ≤ x → slice_get (constructs plan) x ≡ None
none_beyond plan x low = slice_get_past (constructs plan) x (let count = from_count plan 0 plan.rows.items in omega arith)

-- Where no construct is, control comes to no head.
no_head : {plan : List Construct} {x : ℕ} {s : Source} {h : Head} → slice_get plan x ≡ None → ¬ (Comes plan x s (head h))
unfolding HasArrow Breaks IsIn
no_head none (along {t = t} {h = h} d l) = subst (λ (o : Option Construct). IsIn (arrows_at o) (arrow t h)) none l
no_head none (broke {a = a} r) = subst (λ (o : Option Construct). BreaksAt o a) none r

no_joins : {plan : List Construct} {x b : ℕ} {s : Source} → slice_get plan x ≡ None → ¬ (Goes plan x s b)
no_joins none (stops d) = no_head none d
no_joins none (jumps d l) = no_head none d
no_joins none (finishes d l) = no_head none d
no_joins none (inner d e g) = no_head none d

-- At first none is joined.
pub none_joined : (plan : Plan) (work : Work) (x : ℕ) → x ≡ length plan.rows.items → length work.table.items ≡ length plan.rows.items → IsAhead plan x work.ahead → work.out.first.items ≡ [] → work.out.edges.items ≡ [] → AreJoinedFrom plan x work
none_joined plan work x all room ahead first none = record {
  table = record { each = λ c m low is parts. absurd (let within : c < length work.table.items = slice_get_within work.table.items c m is in omega arith) };
  ahead = ahead;
  first = first;
  edges = λ a b. (
    λ i. absurd (none_in {X = ℕ × ℕ} work.out.edges.items (a, b) none i),
    λ (y, low, g). absurd (no_joins (none_beyond plan y (omega arith)) g),
  );
}

-- The construct of a row, with its jumps.
pub site_is : (plan : Plan) (row : Row) (site : Site) (taken : Jumps) (ahead : Ahead) → slice_get plan.rows.items site.x ≡ Some row → row.rule ≡ site.rule → slice_range plan.parts.items row.from row.to ≡ site.parts.now → plan.method_return ≡ site.end → AreAllTaken plan site.x taken ahead → IsSite (constructs plan) site taken
site_is plan row site own ahead is rule parts end taken = record {
  construct = construct_at plan site.x row;
  is = construct_is plan site.x row is;
  rule = rule;
  parts = parts;
  end = end;
  targets = taken.targets.marks;
  breaks = taken.breaks.marks;
  continues = taken.continues.marks;
}

-- Parts of the next construct are ready.
pub ready_from : (plan : Plan) (x : ℕ) (table : List Summary) → IsFlat plan → length table ≡ length plan.rows.items → AreDone (constructs plan) (x + 1) table → AreReady (constructs plan) x 0 table
ready_from plan x table flat room done = record {
  each = λ c m above is parts. done.each c m (omega arith) is (λ y j e. elim (parts y j e) [ inl b ↦ omega arith | inr q ↦ omega arith ]);
  above = λ j c e. ((flat.parts_follow x j c e).0, subst (λ (n : ℕ). c < n) (sym room) (flat.parts_follow x j c e).1);
}

-- The table with one more summary.
done_more : (plan : List Construct) (x : ℕ) (old new : List Summary) (m : Summary) → IsSummary plan x m → AreKept plan x old → slice_get new x ≡ Some m → ((c : ℕ) → ¬ (c ≡ x) → slice_get new c ≡ slice_get old c) → AreDone plan x new
done_more plan x old new m s kept here others = record { each = λ c n low is parts. by c n is parts (eq-or-lt_of_le low) } where
  by : (c : ℕ) (n : Summary) → slice_get new c ≡ Some n → ((y j : ℕ) → part plan y j ≡ Some c → y < x) → (x ≡ c) ⊎ (x < c) → IsSummary plan c n
  by c n is parts (inl same) =
      let at : slice_get new x ≡ Some n = ap (λ (v : ℕ). slice_get new v) same ∙ is in
      let one : m ≡ n = cc (here, at) in
      subst (λ (v : ℕ). IsSummary plan v n) same (subst (λ (v : Summary). IsSummary plan x v) one s)
  by c n is parts (inr above) = kept.each c n above (sym (others c (λ e. omega arith)) ∙ is) parts

-- One more construct is joined.
pub joined_more : (plan : Plan) (x : ℕ) (old new : Work) (next : Arrival) (out : Joined) (table : List Summary) (m : Summary) → IsJoinedAt (constructs plan) x next old.out out table → m.first.items ≡ out.first.items → m.last.items ≡ next.marks.items → m.passable ≡ next.entered → slice_get new.table.items x ≡ Some m → ((c : ℕ) → ¬ (c ≡ x) → slice_get new.table.items c ≡ slice_get table c) → new.out.first.items ≡ [] → new.out.edges.items ≡ out.edges.items → IsAhead plan x new.ahead → AreJoinedFrom plan (x + 1) old → AreJoinedFrom plan x new
unfolding Got
joined_more plan x old new next out table m j first last passable here others none edges ahead from = record {
  table = done_more (constructs plan) x table new.table.items m summary j.kept here others;
  ahead = ahead;
  first = none;
  edges = λ a b. (λ i. sound a b ((j.joined.goes (after a) b).0 (subst (λ (es : List (ℕ × ℕ)). IsIn es (a, b)) edges i)), λ (y, low, g). subst (λ (es : List (ℕ × ℕ)). IsIn es (a, b)) (sym edges) ((j.joined.goes (after a) b).1 (whole a b y g (eq-or-lt_of_le low))));
} where
  summary : IsSummary (constructs plan) x m
  summary =
      let is = joined_is_summary (constructs plan) x next old.out out from.first j.joined in
      record {
        first = λ b. subst (λ (ms : List ℕ). IsIn ms b ↔ IsFirst (constructs plan) x b) (sym first) (is.first b);
        last = λ a. subst (λ (ms : List ℕ). IsIn ms a ↔ IsLast (constructs plan) x a) (sym last) (is.last a);
        passable = subst (λ (b : Bool). IsTrue b ↔ IsPassable (constructs plan) x) (sym passable) is.passable;
      }

  sound : (a b : ℕ) → IsIn old.out.edges.items (a, b) ⊎ Joins (constructs plan) x a b → (y : ℕ) × (x ≤ y) × Joins (constructs plan) y a b
  sound a b (inl o) = above ((from.edges a b).0 o) where
    above : (y : ℕ) × (x + 1 ≤ y) × Joins (constructs plan) y a b → (y : ℕ) × (x ≤ y) × Joins (constructs plan) y a b
    above (y, low, g) = (y, omega arith, g)
  sound a b (inr g) = (x, omega arith, g)

  whole : (a b y : ℕ) → Joins (constructs plan) y a b → (x ≡ y) ⊎ (x < y) → IsIn old.out.edges.items (a, b) ⊎ Joins (constructs plan) x a b
  whole a b y g (inl same) = inr (subst (λ (v : ℕ). Joins (constructs plan) v a b) (sym same) g)
  whole a b y g (inr above) = inl ((from.edges a b).1 (y, omega arith, g))

-- All are joined: the edges are the flow.
pub flow_from : (plan : Plan) (work : Work) (edges : List (ℕ × ℕ)) → IsFlat plan → AreJoinedFrom plan 0 work → ((a b : ℕ) → Contains {X = ℕ × ℕ} edges (a, b) ↔ Contains {X = ℕ × ℕ} work.out.edges.items (a, b)) → IsRising edges → AreFlow (constructs plan) edges
flow_from plan work edges flat from same rising = record {
  flow = λ a b.
      let joined = flow_is_joined (constructs plan) flat.plan_is a b in (
        λ has. joined.1 (of a b ((from.edges a b).0 (is_in {X = ℕ × ℕ} work.out.edges.items (a, b) ((same a b).0 has)))),
        λ flows. (same a b).1 (contains {X = ℕ × ℕ} work.out.edges.items (a, b) ((from.edges a b).1 (to a b (joined.0 flows)))),
      );
  rising = rising;
} where
  of : (a b : ℕ) → (y : ℕ) × (0 ≤ y) × Joins (constructs plan) y a b → (y : ℕ) × Joins (constructs plan) y a b
  of a b (y, low, g) = (y, g)

  to : (a b : ℕ) → (y : ℕ) × Joins (constructs plan) y a b → (y : ℕ) × (0 ≤ y) × Joins (constructs plan) y a b
  to a b (y, g) = (y, omega arith, g)
