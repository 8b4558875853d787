-- What is kept of an agenda as tasks change, searches ask and pairs come.
use Rattle.std.proofs.Common.{◌≡◌, ◌≢◌, ℕ, ◌+◌, ◌-◌, ◌<◌, ◌≤◌, ◌⊎◌, inl, inr, Bool, true, List, [], ◌++◌, take, length, get_or, set, refl, sym, ap, ◌∙◌, arith, subst, length-append, Option, Some, None, MatchOption}
use Rattle.std.specs.List.{All, Contains}
use Rattle.std.proofs.Math.ListN.{length-set}
use Rattle.std.proofs.Math.Seq.{map-set_same}
use Rattle.std.proofs.lemmas.Bool.{cases_lt, cases_eq}
use Rattle.std.proofs.lemmas.List.{get_or-set_same, get_or-set_other, get_or_append_left, get_or-append_right, get_or_default, length-map, take-append-le}
use Rattle.std.proofs.lemmas.List.Elements.{All-nil, All-append, All-map, All-weaker, All-contains, All-contains_itself}
use Rattle.matched_paths.specs.declared.flow_graph.Pair.{Pair}
use Rattle.summary_core.specs.declared.agenda.Agenda.{Agenda}
use Rattle.summary_core.specs.declared.agenda.Asker.{Asker}
use Rattle.summary_core.specs.declared.marks.Marks.{Marks}
use Rattle.summary_core.specs.declared.task.Stamp.{Stamp}
use Rattle.summary_core.specs.declared.task.Task.{Task}
use Rattle.summary_core.specs.Searches.{Asks}
use Rattle.summary_core.specs.Board.{BoardState, goals_of, IsClaimable, IsDirty, IsStale, IsUntouched}
use Rattle.summary_core.specs.Claiming.{IsFirst}
use Rattle.summary_core.specs.Marking.{IsLeastMarked, IsMarked, IsTree, Puts}
use Rattle.summary_core.specs.Agenda.{askers_of, HasLater, IsAsker, IsAt, IsFresh, IsSearched, IsWoken, KeepsAgenda, lists_of, Notes, Tells, TellsLatest}
use Rattle.summary_core.proofs.Changing.{one_task, Rise}
use Rattle.summary_core.proofs.Lists.{Contains-map}

pub at_any : (tasks : List Task) (position : ℕ) (d : Task) → position < length tasks → IsAt tasks position (get_or tasks position d)
at_any tasks position d within = (within, get_or_default tasks position (get_or tasks position d) d within)

pub at_same : (tasks : List Task) (position : ℕ) (a b : Task) → IsAt tasks position a → IsAt tasks position b → a ≡ b
at_same tasks position a b is_a is_b = sym is_a.1 ∙ (get_or_default tasks position a b is_a.0 ∙ is_b.1)

-- where one task was replaced
module _ (tasks : List Task) (at : ℕ) (old new : Task) (is_old : IsAt tasks at old) (same_goal : new.goal ≡ old.goal) where
  pub set_cases : (position : ℕ) (task : Task) → IsAt (set tasks at new) position task → ((position ≡ at) × (task ≡ new)) ⊎ ((position ≢ at) × IsAt tasks position task)
  set_cases position task is = elim (cases_eq position at) [
    | inl same ↦ inl (same, sym is.1 ∙ (ap (λ (i : ℕ). get_or (set tasks at new) i task) same ∙ get_or-set_same tasks at new task is_old.0))
    | inr differs ↦ inr (differs, (omega (arith, is.0, length-set tasks at new), sym (get_or-set_other tasks at position new task differs) ∙ is.1))
  ]

  set_other : (position : ℕ) (task : Task) → position ≢ at → IsAt tasks position task → IsAt (set tasks at new) position task
  set_other position task differs is = (omega (arith, is.0, length-set tasks at new), get_or-set_other tasks at position new task differs ∙ is.1)

  before_set : (position : ℕ) (task : Task) → IsAt (set tasks at new) position task → (was : Task) × IsAt tasks position was × (was.goal ≡ task.goal)
  before_set position task is = elim (set_cases position task is) [
    | inl own ↦ (old, subst (λ (i : ℕ). IsAt tasks i old) (sym own.0) is_old, sym same_goal ∙ ap (λ (t : Task). t.goal) (sym own.1))
    | inr other ↦ (task, other.1, refl)
  ]

  after_set : (position : ℕ) (task : Task) → IsAt tasks position task → (now : Task) × IsAt (set tasks at new) position now × (now.goal ≡ task.goal)
  after_set position task is = elim (cases_eq position at) [
    | inl same ↦
        let own : IsAt tasks at task = subst (λ (i : ℕ). IsAt tasks i task) same is in
        let here : IsAt (set tasks at new) at new = (omega (arith, is_old.0, length-set tasks at new), get_or-set_same tasks at new new is_old.0) in
        (new, subst (λ (i : ℕ). IsAt (set tasks at new) i new) (sym same) here, same_goal ∙ ap (λ (t : Task). t.goal) (at_same tasks at old task is_old own))
    | inr differs ↦ (task, set_other position task differs is, refl)
  ]

stale_of : (history : List Pair) (stamp : Stamp) (goal : ℕ) → Contains stamp.asked goal → HasLater history goal stamp.seen → IsStale history stamp
stale_of history stamp goal asks later = record {
  pair = later.pair;
  position = later.position;
  later = later.later;
  stands = later.stands;
  is = later.is;
  asked = subst (λ (g : ℕ). Contains stamp.asked g) (sym later.of_goal) asks;
}

pub stale_iff : (history : List Pair) (stamp : Stamp) → (IsStale history stamp → (goal : ℕ) × Contains stamp.asked goal × HasLater history goal stamp.seen) × (((goal : ℕ) × Contains stamp.asked goal × HasLater history goal stamp.seen) → IsStale history stamp)
stale_iff history stamp = (
  λ stale. (stale.pair.goal, stale.asked, record { pair = stale.pair; position = stale.position; later = stale.later; stands = stale.stands; is = stale.is; of_goal = refl }),
  λ some. stale_of history stamp some.0 some.1 some.2,
)

stale_more : (history more : List Pair) (stamp : Stamp) → IsStale history stamp → IsStale (history ++ more) stamp
stale_more history more stamp is = record {
  pair = is.pair;
  position = is.position;
  later = is.later;
  stands = let inside = is.stands in omega (arith, inside, length-append history more);
  is = get_or_append_left history more is.pair is.position is.stands ∙ is.is;
  asked = is.asked;
}

later_more : (history more : List Pair) (goal seen : ℕ) → HasLater history goal seen → HasLater (history ++ more) goal seen
later_more history more goal seen is = record {
  pair = is.pair;
  position = is.position;
  later = is.later;
  stands = let inside = is.stands in omega (arith, inside, length-append history more);
  is = get_or_append_left history more is.pair is.position is.stands ∙ is.is;
  of_goal = is.of_goal;
}

dirty_more : (history more : List Pair) (stamp : Option Stamp) → MatchOption stamp (Unit {0}) (λ s. IsStale history s) → MatchOption stamp (Unit {0}) (λ s. IsStale (history ++ more) s)
dirty_more history more None is = tt
dirty_more history more (Some stamp) is = stale_more history more stamp is

some_dirty : (history : List Pair) (stamp : Option Stamp) (one : Stamp) → stamp ≡ Some one → IsStale history one → MatchOption stamp (Unit {0}) (λ s. IsStale history s)
some_dirty history stamp one has stale = subst (λ (o : Option Stamp). MatchOption o (Unit {0}) (λ s. IsStale history s)) (sym has) stale

-- a task was replaced by one of the same goal, and its mark was put
pub retasked : (board : BoardState) (agenda : Agenda) (marks : Marks) (at : ℕ) (old new : Task) (marked : Bool) → KeepsAgenda board agenda → IsAt board.tasks at old → new.goal ≡ old.goal → Puts agenda.marks marks at marked →
    (marked ≡ true → IsClaimable board.history new) × (IsClaimable board.history new → marked ≡ true) → (new.flies ≡ true → IsDirty board.history new) →
    ((stamp : Stamp) (position : ℕ) (task : Task) → new.stamp ≡ Some stamp → ¬ IsStale board.history stamp → IsAt board.tasks position task → Contains stamp.asked task.goal → Contains (askers_of agenda position) (record { task = at; seen = stamp.seen })) →
    KeepsAgenda (record board { tasks = set board.tasks at new }) (record agenda { marks = marks })
retasked board agenda marks at old new marked keeps is_old same_goal puts tells flies noted =
    let len = length-set board.tasks at new in
    let after : BoardState = record board { tasks = set board.tasks at new } in
    record {
      tree = puts.tree;
      count = puts.count ∙ (keeps.count ∙ sym len);
      marked = λ position task is. elim (set_cases board.tasks at old new is_old same_goal position task is) [
        | inl own ↦ (
          λ on. subst (λ (t : Task). IsClaimable board.history t) (sym own.1) (tells.0 (puts.own.0 (subst (λ (i : ℕ). IsMarked marks i) own.0 on))),
          λ claimable. subst (λ (i : ℕ). IsMarked marks i) (sym own.0) (puts.own.1 (tells.1 (subst (λ (t : Task). IsClaimable board.history t) own.1 claimable))),
        )
        | inr other ↦ (
          λ on. (keeps.marked position task other.1).0 ((puts.others position other.0).0 on),
          λ claimable. (puts.others position other.0).1 ((keeps.marked position task other.1).1 claimable),
        )
      ];
      flying = λ position task is flying. elim (set_cases board.tasks at old new is_old same_goal position task is) [
        | inl own ↦ subst (λ (t : Task). IsDirty board.history t) (sym own.1) (flies (ap (λ (t : Task). t.flies) (sym own.1) ∙ flying))
        | inr other ↦ keeps.flying position task other.1 flying
      ];
      latest = record {
        len = keeps.latest.len ∙ sym len;
        each = λ position task seen is.
            let was = before_set board.tasks at old new is_old same_goal position task is in
            subst (λ (g : ℕ). (seen < get_or agenda.latest.items position 0 → HasLater board.history g seen) × (HasLater board.history g seen → seen < get_or agenda.latest.items position 0)) was.2 (keeps.latest.each position was.0 seen was.1);
        owned = subst (λ (gs : List ℕ). All (λ (pair : Pair). Contains gs pair.goal) board.history) (sym (map-set_same (λ (t : Task). t.goal) board.tasks at new old (same_goal ∙ ap (λ (t : Task). t.goal) (sym is_old.1)))) keeps.latest.owned;
      };
      lists = keeps.lists ∙ sym len;
      sound = λ position task is.
          let was = before_set board.tasks at old new is_old same_goal position task is in
          All-weaker (IsAsker board was.0.goal) (IsAsker after task.goal) (λ asker asks. subst (λ (g : ℕ). IsAsker after g asker) was.2 (moved was.0.goal asker asks)) (askers_of agenda position) (keeps.sound position was.0 was.1);
      complete = λ position other task asking stamp is is_other has fresh asks.
          let was = before_set board.tasks at old new is_old same_goal position task is in
          let asks_was : Contains stamp.asked was.0.goal = subst (λ (g : ℕ). Contains stamp.asked g) (sym was.2) asks in
          elim (set_cases board.tasks at old new is_old same_goal other asking is_other) [
            | inl own ↦ subst (λ (i : ℕ). Contains (askers_of agenda position) (record { task = i; seen = stamp.seen })) (sym own.0) (noted stamp position was.0 (ap (λ (t : Task). t.stamp) (sym own.1) ∙ has) fresh was.1 asks_was)
            | inr apart ↦ keeps.complete position other was.0 asking stamp was.1 apart.1 has fresh asks_was
          ];
    }
  where
    moved : (goal : ℕ) (asker : Asker) → IsAsker board goal asker → IsAsker (record board { tasks = set board.tasks at new }) goal asker
    moved goal asker is =
        let now = after_set board.tasks at old new is_old same_goal asker.task is.task is.at in
        record { task = now.0; at = now.1; seen = is.seen; asks = subst (λ (g : ℕ). Asks board.flow (take asker.seen board.history) g goal) (sym now.2) is.asks }

-- searches were noted
pub noted_kept : (board : BoardState) (agenda after : Agenda) (asker : Asker) (asked : List ℕ) → KeepsAgenda board agenda → Notes board.tasks asker asked agenda after → ((goal : ℕ) → Contains asked goal → IsAsker board goal asker) → KeepsAgenda board after
noted_kept board agenda after asker asked keeps notes asks = record {
  tree = subst IsTree (sym notes.marks) keeps.tree;
  count = ap (λ (m : Marks). m.count) notes.marks ∙ keeps.count;
  marked = λ position task is. subst (λ (m : Marks). (IsMarked m position → IsClaimable board.history task) × (IsClaimable board.history task → IsMarked m position)) (sym notes.marks) (keeps.marked position task is);
  flying = keeps.flying;
  latest = subst (λ (ns : List ℕ). TellsLatest board.history board.tasks ns) (sym notes.latest) keeps.latest;
  lists = notes.len ∙ keeps.lists;
  sound = λ position task is.
      All-weaker (Contains (askers_of after position)) (IsAsker board task.goal)
      (λ other has. elim (notes.new position task other is has) [
        | inl old ↦ All-contains (IsAsker board task.goal) (askers_of agenda position) other (keeps.sound position task is) old
        | inr own ↦ subst (λ (a : Asker). IsAsker board task.goal a) (sym own.0) (asks task.goal own.1)
      ]) (askers_of after position) (All-contains_itself (askers_of after position));
  complete = λ position other task asking stamp is is_other has fresh in_asked. notes.kept position _ (keeps.complete position other task asking stamp is is_other has fresh in_asked);
}

-- pairs of one goal came
module _ (board : BoardState) (agenda : Agenda) (at : ℕ) (own : Task) (new : List Pair) (keeps : KeepsAgenda board agenda) (is_own : IsAt board.tasks at own) (rise : Rise board.tasks) (of_goal : All (λ (pair : Pair). pair.goal ≡ own.goal) new) (some : 0 < length new)
    (told : (position : ℕ) (task : Task) (stamp : Stamp) → IsAt board.tasks position task → task.stamp ≡ Some stamp → (stamp.seen ≤ length board.history) × ((asked : ℕ) → Asks board.flow (take stamp.seen board.history) task.goal asked → Contains stamp.asked asked)) where
  -- a position behind the old pairs has a pair of the goal
  behind : (position : ℕ) (d : Pair) → length board.history ≤ position → position < length (board.history ++ new) → (get_or (board.history ++ new) position d).goal ≡ own.goal
  behind position d after within =
      let inside : position - length board.history < length new = omega (arith, within, length-append board.history new) in
      ap (λ (p : Pair). p.goal) (get_or-append_right board.history new (length board.history) position d refl after) ∙ of_goal (position - length board.history) d inside

  last_later : (seen : ℕ) → seen < length (board.history ++ new) → HasLater (board.history ++ new) own.goal seen
  last_later seen less =
      let at_last = length (board.history ++ new) - 1 in
      let no_pair : Pair = record { goal = 0; out = 0 } in
      let pair = get_or (board.history ++ new) at_last no_pair in
      let within : at_last < length (board.history ++ new) = omega (arith, less) in
      record {
        pair = pair;
        position = at_last;
        later = omega (arith, less);
        stands = within;
        is = get_or_default (board.history ++ new) at_last pair no_pair within;
        of_goal = behind at_last no_pair (omega (arith, some, length-append board.history new)) within;
      }

  front_later : (seen : ℕ) → seen ≤ length board.history → HasLater (board.history ++ new) own.goal seen
  front_later seen within = last_later seen (omega (arith, within, some, length-append board.history new))

  -- a stamp that is stale now was so, or asks the goal
  stale_cases : (stamp : Stamp) → IsStale (board.history ++ new) stamp → IsStale board.history stamp ⊎ Contains stamp.asked own.goal
  stale_cases stamp is = elim (cases_lt is.position (length board.history)) [
    | inl front ↦ inl (record { pair = is.pair; position = is.position; later = is.later; stands = front; is = sym (get_or_append_left board.history new is.pair is.position front) ∙ is.is; asked = is.asked })
    | inr after ↦ inr (subst (λ (g : ℕ). Contains stamp.asked g) (ap (λ (p : Pair). p.goal) (sym is.is) ∙ behind is.position is.pair after is.stands) is.asked)
  ]

  same_own : (position : ℕ) (task : Task) → IsAt board.tasks position task → position ≡ at → task.goal ≡ own.goal
  same_own position task is same = ap (λ (t : Task). t.goal) (at_same board.tasks at task own (subst (λ (i : ℕ). IsAt board.tasks i task) same is) is_own)

  apart : (position : ℕ) (task : Task) → IsAt board.tasks position task → position ≢ at → task.goal ≢ own.goal
  apart position task is differs same =
      differs (one_task board.tasks position at task rise is.0 is_own.0 (ap (λ (t : Task). t.goal) is.1 ∙ (same ∙ ap (λ (t : Task). t.goal) (sym is_own.1 ∙ get_or_default board.tasks at own task is_own.0))))

  latest_told : (latest : List ℕ) → latest ≡ set agenda.latest.items at (length (board.history ++ new)) → TellsLatest (board.history ++ new) board.tasks latest
  latest_told latest is =
      let len = length (board.history ++ new) in
      let inside : at < length agenda.latest.items = omega (arith, is_own.0, keeps.latest.len) in
      record {
        len = ap length is ∙ (length-set agenda.latest.items at len ∙ keeps.latest.len);
        each = λ position task seen is_at. elim (cases_eq position at) [
          | inl same ↦
              let number : get_or latest position 0 ≡ len = ap (λ (ns : List ℕ). get_or ns position 0) is ∙ (ap (λ (i : ℕ). get_or (set agenda.latest.items at len) i 0) same ∙ get_or-set_same agenda.latest.items at len 0 inside) in (
                λ less. subst (λ (g : ℕ). HasLater (board.history ++ new) g seen) (sym (same_own position task is_at same)) (last_later seen (omega (arith, less, number))),
                λ later. let upper = later.stands in let lower = later.later in omega (arith, upper, lower, number),
              )
          | inr differs ↦
              let number : get_or latest position 0 ≡ get_or agenda.latest.items position 0 = ap (λ (ns : List ℕ). get_or ns position 0) is ∙ get_or-set_other agenda.latest.items at position len 0 differs in (
                λ less. later_more board.history new task.goal seen ((keeps.latest.each position task seen is_at).0 (omega (arith, less, number))),
                λ later. elim (cases_lt later.position (length board.history)) [
                  | inl front ↦
                      let was = (keeps.latest.each position task seen is_at).1 (record { pair = later.pair; position = later.position; later = later.later; stands = front; is = sym (get_or_append_left board.history new later.pair later.position front) ∙ later.is; of_goal = later.of_goal }) in
                      omega (arith, was, number)
                  | inr after ↦ absurd (apart position task is_at differs (sym later.of_goal ∙ (ap (λ (p : Pair). p.goal) (sym later.is) ∙ behind later.position later.pair after later.stands)))
                ],
              )
        ];
        owned = All-append (λ (pair : Pair). Contains (goals_of board.tasks) pair.goal) board.history new keeps.latest.owned
            (All-weaker (λ (pair : Pair). pair.goal ≡ own.goal) (λ (pair : Pair). Contains (goals_of board.tasks) pair.goal) (λ pair same. subst (λ (g : ℕ). Contains (goals_of board.tasks) g) (sym same) own_among) new of_goal);
      }
    where
      own_among : Contains (goals_of board.tasks) own.goal
      own_among = Contains-map (λ (t : Task). t.goal) board.tasks own (at, is_own.0, is_own.1)

  woken_dirty : (position : ℕ) (task : Task) → IsAt board.tasks position task → IsWoken board.tasks (askers_of agenda at) position → IsClaimable (board.history ++ new) task
  woken_dirty position task is woken =
      let searched : IsSearched task woken.asker.seen = subst (λ (t : Task). IsSearched t woken.asker.seen) is.1 (woken.searched task) in
      let asker = All-contains (IsAsker board own.goal) (askers_of agenda at) woken.asker (keeps.sound at own is_own) woken.stands in
      let same : asker.task ≡ task = at_same board.tasks position asker.task task (subst (λ (i : ℕ). IsAt board.tasks i asker.task) woken.same asker.at) is in
      let asks : Asks board.flow (take searched.stamp.seen board.history) task.goal own.goal =
      subst (λ (n : ℕ). Asks board.flow (take n board.history) task.goal own.goal) (sym searched.saw) (subst (λ (t : Task). Asks board.flow (take woken.asker.seen board.history) t.goal own.goal) same asker.asks) in
      let tells = told position task searched.stamp is searched.has in
      record {
        dirty = some_dirty (board.history ++ new) task.stamp searched.stamp searched.has (stale_of (board.history ++ new) searched.stamp own.goal (tells.1 own.goal asks) (front_later searched.stamp.seen tells.0));
        free = searched.free;
      }

  dirty_woken : (position : ℕ) (task : Task) → IsAt board.tasks position task → IsClaimable (board.history ++ new) task → ¬ IsMarked agenda.marks position → IsWoken board.tasks (askers_of agenda at) position
  dirty_woken position task is claimable unmarked = by task.stamp refl claimable.dirty
    where
      was_clean : ¬ IsDirty board.history task
      was_clean dirty = unmarked ((keeps.marked position task is).1 (record { dirty = dirty; free = claimable.free }))

      by : (stamp : Option Stamp) → task.stamp ≡ stamp → MatchOption stamp (Unit {0}) (λ s. IsStale (board.history ++ new) s) → IsWoken board.tasks (askers_of agenda at) position
      by None has dirty = absurd (was_clean (subst (λ (o : Option Stamp). MatchOption o (Unit {0}) (λ s. IsStale board.history s)) (sym has) tt))
      by (Some stamp) has stale =
          let fresh : ¬ IsStale board.history stamp = λ old. was_clean (some_dirty board.history task.stamp stamp has old) in
          elim (stale_cases stamp stale) [
            | inl old ↦ absurd (fresh old)
            | inr asks ↦ record {
              asker = record { task = position; seen = stamp.seen };
              stands = keeps.complete at position own task stamp is_own is has fresh asks;
              same = refl;
              searched = λ d. subst (λ (t : Task). IsSearched t stamp.seen) (sym (get_or_default board.tasks position d task is.0 ∙ is.1)) (record { free = claimable.free; stamp = stamp; has = has; saw = refl });
            }
          ]

  pub told_kept : (after : Agenda) → Tells board.tasks at (length (board.history ++ new)) agenda after → KeepsAgenda (record board { history = board.history ++ new }) after
  told_kept after tells =
      let lists = lists_of agenda in
      let inside : at < length lists = omega (arith, is_own.0, keeps.lists) in
      record {
        tree = tells.wakes.tree;
        count = tells.wakes.count ∙ keeps.count;
        marked = λ position task is. (
          λ on. elim ((tells.wakes.marked position).0 on) [
            | inl was ↦
                let claimable = (keeps.marked position task is).0 was in
                record { dirty = dirty_more board.history new task.stamp claimable.dirty; free = claimable.free }
            | inr woken ↦ woken_dirty position task is woken
          ],
          λ claimable. elim (cases_eq (get_or agenda.marks.nodes.items (agenda.marks.count + position) 0) position) [
            | inl holds ↦ (tells.wakes.marked position).1 (inl (record { below = omega (arith, is.0, keeps.count); holds = holds }))
            | inr lacks ↦ (tells.wakes.marked position).1 (inr (dirty_woken position task is claimable (λ on. lacks on.holds)))
          ],
        );
        flying = λ position task is flies. dirty_more board.history new task.stamp (keeps.flying position task is flies);
        latest = latest_told after.latest.items tells.latest;
        lists = ap length tells.lists ∙ (length-set lists at [] ∙ keeps.lists);
        sound = λ position task is. elim (cases_eq position at) [
          | inl same ↦ subst (λ (xs : List Asker). All (IsAsker (record board { history = board.history ++ new }) task.goal) xs)
              (sym (ap (λ (ls : List (List Asker)). get_or ls position []) tells.lists ∙ (ap (λ (i : ℕ). get_or (set lists at []) i []) same ∙ get_or-set_same lists at [] [] inside))) (All-nil (IsAsker (record board { history = board.history ++ new }) task.goal))
          | inr differs ↦ subst (λ (xs : List Asker). All (IsAsker (record board { history = board.history ++ new }) task.goal) xs)
              (sym (ap (λ (ls : List (List Asker)). get_or ls position []) tells.lists ∙ get_or-set_other lists at position [] [] differs))
              (All-weaker (IsAsker board task.goal) (IsAsker (record board { history = board.history ++ new }) task.goal) (λ asker asks. later_asker task.goal asker asks) (askers_of agenda position) (keeps.sound position task is))
        ];
        complete = λ position other task asking stamp is is_other has fresh asks. elim (cases_eq position at) [
          | inl same ↦ absurd (fresh (stale_of (board.history ++ new) stamp own.goal (subst (λ (g : ℕ). Contains stamp.asked g) (same_own position task is same) asks) (front_later stamp.seen (told other asking stamp is_other has).0)))
          | inr differs ↦ subst (λ (xs : List Asker). Contains xs (record { task = other; seen = stamp.seen }))
              (sym (ap (λ (ls : List (List Asker)). get_or ls position []) tells.lists ∙ get_or-set_other lists at position [] [] differs))
              (keeps.complete position other task asking stamp is is_other has (λ old. fresh (stale_more board.history new stamp old)) asks)
        ];
      }
    where
      later_asker : (goal : ℕ) (asker : Asker) → IsAsker board goal asker → IsAsker (record board { history = board.history ++ new }) goal asker
      later_asker goal asker is = record {
        task = is.task;
        at = is.at;
        seen = let within = is.seen in omega (arith, within, length-append board.history new);
        asks = subst (λ (pairs : List Pair). Asks board.flow pairs is.task.goal goal) (sym (take-append-le asker.seen board.history new is.seen)) is.asks;
      }

-- a board on which nothing happened yet
pub fresh_kept : (board : BoardState) (agenda : Agenda) → board.history ≡ [] → All IsUntouched board.tasks → IsFresh (length board.tasks) agenda → KeepsAgenda board agenda
fresh_kept board agenda empty untouched fresh =
    let none : length board.history ≡ 0 = ap length empty in
    let items_len : length (lists_of agenda) ≡ length agenda.askers.items = length-map agenda.askers.items (λ list. list.items) in
    record {
      tree = fresh.tree;
      count = fresh.count_is;
      marked = λ position task is. (
        λ on.
            let own = untouched_at position task is in
            record { dirty = subst (λ (o : Option Stamp). MatchOption o (Unit {0}) (λ s. IsStale board.history s)) (sym own.stamp) tt; free = own.flies },
        λ claimable. fresh.marked position is.0,
      );
      flying = λ position task is flies. absurd (let own = (untouched_at position task is).flies in let no : ⊥ = cc in no);
      latest = record {
        len = fresh.latest_len;
        each = λ position task seen is.
            let number = fresh.latest position 0 (omega (arith, is.0, fresh.latest_len)) in
            (λ less. absurd (omega (arith, less, number)), λ later. absurd (let stands = later.stands in omega (arith, stands, none)));
        owned = λ k d within. absurd (omega (arith, within, none));
      };
      lists = items_len ∙ fresh.lists_len;
      sound = λ position task is. subst (λ (xs : List Asker). All (IsAsker board task.goal) xs) (sym (list_empty position is.0)) (All-nil (IsAsker board task.goal));
      complete = λ position other task asking stamp is is_other has clean asks. absurd (let own = (untouched_at other asking is_other).stamp in let no : ⊥ = cc in no);
    }
  where
    untouched_at : (position : ℕ) (task : Task) → IsAt board.tasks position task → IsUntouched task
    untouched_at position task is = All-contains IsUntouched board.tasks task untouched (position, is.0, is.1)

    list_empty : (position : ℕ) → position < length board.tasks → get_or (lists_of agenda) position [] ≡ []
    list_empty position within =
        let items_len : length (lists_of agenda) ≡ length agenda.askers.items = length-map agenda.askers.items (λ list. list.items) in
        let inside : position < length (lists_of agenda) = omega (arith, within, fresh.lists_len, items_len) in
        All-map (λ (xs : List Asker). xs ≡ []) (λ list. list.items) agenda.askers.items fresh.lists position [] inside

-- the least marked task is the first claimable one
pub first_marked : (board : BoardState) (agenda : Agenda) (position : ℕ) → KeepsAgenda board agenda → IsLeastMarked agenda.marks position → IsFirst board.history board.tasks position
first_marked board agenda position keeps least =
    let below = least.marked.below in
    let stands : position < length board.tasks = omega (arith, below, keeps.count) in
    record {
      stands = stands;
      claimable = λ d. (keeps.marked position _ (at_any board.tasks position d stands)).0 least.marked;
      first = λ k d less claimable. least.least k less ((keeps.marked k _ (at_any board.tasks k d (omega (arith, less, stands)))).1 claimable);
    }

pub none_marked : (board : BoardState) (agenda : Agenda) → KeepsAgenda board agenda → ((position : ℕ) → ¬ IsMarked agenda.marks position) → All (λ task. ¬ IsClaimable board.history task) board.tasks
none_marked board agenda keeps none k d within claimable = none k ((keeps.marked k _ (at_any board.tasks k d within)).1 claimable)
