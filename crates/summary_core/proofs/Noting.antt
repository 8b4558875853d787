-- Who asked is noted, what is stale is found, and who asked is woken.
use Rattle.std.proofs.Common.{◌≡◌, ◌≢◌, ℕ, ◌+◌, ◌<◌, ◌≤◌, ◌⊎◌, inl, inr, true, false, List, [], ◌∷◌, ◌++◌, map, length, get_or, set, refl, sym, ap, ◌∙◌, arith, subst, None}
use Rattle.std.specs.Global.{Vec}
use Rattle.std.specs.List.{All, Contains}
use Rattle.std.proofs.Math.ListN.{length-set}
use Rattle.std.proofs.Math.Seq.{map-set_same}
use Rattle.std.specs.Prelude.{nat_lt}
use Rattle.std.proofs.lemmas.Bool.{cases_lt, cases_eq, ltb-true, lt-ltb}
use Rattle.std.proofs.lemmas.List.{get_or-set_same, get_or-set_other, get_or_default, get_or-map, map-set}
use Rattle.std.proofs.lemmas.List.Elements.{Contains-append_left, Contains-get_or, Contains-push, Contains-push_cases}
use Rattle.matched_paths.specs.declared.flow_graph.Pair.{Pair}
use Rattle.summary_core.specs.declared.agenda.Agenda.{Agenda}
use Rattle.summary_core.specs.declared.agenda.Asker.{Asker}
use Rattle.summary_core.specs.declared.marks.Marks.{Marks}
use Rattle.summary_core.specs.declared.task.Stamp.{Stamp}
use Rattle.summary_core.specs.declared.task.Task.{Task}
use Rattle.summary_core.specs.Board.{IsStale}
use Rattle.summary_core.specs.Marking.{IsMarked, IsTree, Puts}
use Rattle.summary_core.specs.Agenda.{askers_of, HasLater, IsAt, IsNoted, IsSearched, IsWoken, lists_of, Notes, TellsLatest, Wakes}
use Rattle.summary_core.proofs.Agendas.{at_any, stale_iff}
use Rattle.summary_core.proofs.Changing.{one_task, Rise}
use Rattle.summary_core.proofs.Lists.{Contains-from_map}

-- a list among lists was written
pub list_written : (lists : List (Vec Asker)) (position : ℕ) (list : Vec Asker) (items : List Asker) → list.items ≡ items → map (λ (l : Vec Asker). l.items) (set lists position list) ≡ set (map (λ (l : Vec Asker). l.items) lists) position items
list_written lists position list items is = map-set (λ (l : Vec Asker). l.items) lists position list ∙ ap (λ (xs : List Asker). set (map (λ (l : Vec Asker). l.items) lists) position xs) is

pub list_pushed : (lists : List (Vec Asker)) (position : ℕ) (old new : Vec Asker) (asker : Asker) → position < length lists → old ≡ get_or lists position old → new.items ≡ old.items ++ asker ∷ [] →
    map (λ (l : Vec Asker). l.items) (set lists position new) ≡ set (map (λ (l : Vec Asker). l.items) lists) position (get_or (map (λ (l : Vec Asker). l.items) lists) position [] ++ asker ∷ [])
list_pushed lists position old new asker within read pushed =
    let here : old.items ≡ get_or (map (λ (l : Vec Asker). l.items) lists) position [] = ap (λ (l : Vec Asker). l.items) read ∙ sym (get_or-map (λ (l : Vec Asker). l.items) lists position old [] within) in
    list_written lists position new _ (pushed ∙ ap (λ (xs : List Asker). xs ++ asker ∷ []) here)

pub list_kept : (lists : List (Vec Asker)) (position : ℕ) (old new : Vec Asker) → old ≡ get_or lists position old → new.items ≡ old.items → map (λ (l : Vec Asker). l.items) (set lists position new) ≡ map (λ (l : Vec Asker). l.items) lists
list_kept lists position old new read same = map-set_same (λ (l : Vec Asker). l.items) lists position new old (same ∙ ap (λ (l : Vec Asker). l.items) read)

pub list_read : (lists : List (Vec Asker)) (position : ℕ) (list : Vec Asker) → position < length lists → list ≡ get_or lists position list → get_or (map (λ (l : Vec Asker). l.items) lists) position [] ≡ list.items
list_read lists position list within read = get_or-map (λ (l : Vec Asker). l.items) lists position list [] within ∙ ap (λ (l : Vec Asker). l.items) (sym read)

-- The asker was noted at the first goals.
pub record Noting (tasks : List Task) (asker : Asker) (asked : List ℕ) (before after : Agenda) (index : ℕ) : Type 0 where
  pub notes : Notes tasks asker asked before after
  pub done : (k position : ℕ) (task : Task) → k < index → k < length asked → IsAt tasks position task → task.goal ≡ get_or asked k 0 → Contains (askers_of after position) asker

pub noting_none : (tasks : List Task) (asker : Asker) (asked : List ℕ) (agenda : Agenda) → Noting tasks asker asked agenda agenda 0
noting_none tasks asker asked agenda = record {
  notes = record { marks = refl; latest = refl; len = refl; kept = λ position other has. has; new = λ position task other is has. inl has };
  done = λ k position task less within is same. absurd (omega arith);
}

module _ (tasks : List Task) (asker : Asker) (asked : List ℕ) (before middle : Agenda) (index : ℕ) (is : Noting tasks asker asked before middle index) where
  pub noting_skip : All (λ (task : Task). ¬ (task.goal ≡ get_or asked index 0)) tasks → Noting tasks asker asked before middle (index + 1)
  noting_skip none = record {
    notes = is.notes;
    done = λ k position task less within at same. elim (cases_lt k index) [
      | inl front ↦ is.done k position task front within at same
      | inr not_front ↦
          let here : k ≡ index = omega arith in
          absurd (none position task at.0 (ap (λ (t : Task). t.goal) at.1 ∙ (same ∙ ap (λ (i : ℕ). get_or asked i 0) here)))
    ];
  }

  pub noting_failed : (after : Agenda) → after.marks ≡ middle.marks → after.latest.items ≡ middle.latest.items → lists_of after ≡ lists_of middle → Notes tasks asker asked before after
  noting_failed after marks latest lists = record {
    marks = marks ∙ is.notes.marks;
    latest = latest ∙ is.notes.latest;
    len = ap length lists ∙ is.notes.len;
    kept = λ position other has. subst (λ (ls : List (List Asker)). Contains (get_or ls position []) other) (sym lists) (is.notes.kept position other has);
    new = λ position task other at has. is.notes.new position task other at (subst (λ (ls : List (List Asker)). Contains (get_or ls position []) other) lists has);
  }

  module _ (after : Agenda) (at : ℕ) (marks : after.marks ≡ middle.marks) (latest : after.latest.items ≡ middle.latest.items) (lists : lists_of after ≡ set (lists_of middle) at (get_or (lists_of middle) at [] ++ asker ∷ [])) (rise : Rise tasks) (len : length (lists_of middle) ≡ length tasks) (stands : at < length tasks) (of_goal : (d : Task) → (get_or tasks at d).goal ≡ get_or asked index 0) (inside : index < length asked) where
    here : (position : ℕ) → position ≡ at → askers_of after position ≡ askers_of middle position ++ asker ∷ []
    here position same =
        let at_here : get_or (lists_of after) at [] ≡ get_or (lists_of middle) at [] ++ asker ∷ [] = ap (λ (ls : List (List Asker)). get_or ls at []) lists ∙ get_or-set_same (lists_of middle) at (get_or (lists_of middle) at [] ++ asker ∷ []) [] (omega (arith, stands, len)) in
        ap (λ (i : ℕ). get_or (lists_of after) i []) same ∙ (at_here ∙ ap (λ (i : ℕ). get_or (lists_of middle) i [] ++ asker ∷ []) (sym same))

    other_list : (position : ℕ) → position ≢ at → askers_of after position ≡ askers_of middle position
    other_list position differs = ap (λ (ls : List (List Asker)). get_or ls position []) lists ∙ get_or-set_other (lists_of middle) at position (get_or (lists_of middle) at [] ++ asker ∷ []) [] differs

    kept_list : (position : ℕ) (other : Asker) → Contains (askers_of middle position) other → Contains (askers_of after position) other
    kept_list position other has = elim (cases_eq position at) [
      | inl same ↦ subst (λ (xs : List Asker). Contains xs other) (sym (here position same)) (Contains-append_left (askers_of middle position) (asker ∷ []) other has)
      | inr differs ↦ subst (λ (xs : List Asker). Contains xs other) (sym (other_list position differs)) has
    ]

    pub noting_one : Noting tasks asker asked before after (index + 1)
    noting_one = record {
      notes = record {
        marks = marks ∙ is.notes.marks;
        latest = latest ∙ is.notes.latest;
        len = ap length lists ∙ (length-set (lists_of middle) at _ ∙ is.notes.len);
        kept = λ position other has. kept_list position other (is.notes.kept position other has);
        new = λ position task other is_at has. elim (cases_eq position at) [
          | inl same ↦ elim (Contains-push_cases (askers_of middle position) asker other (subst (λ (xs : List Asker). Contains xs other) (here position same) has)) [
            | inl old ↦ is.notes.new position task other is_at old
            | inr own ↦ inr (
              sym own,
              subst (λ (g : ℕ). Contains asked g)
                  (sym (of_goal task) ∙ ap (λ (t : Task). t.goal) (ap (λ (i : ℕ). get_or tasks i task) (sym same) ∙ is_at.1)) (Contains-get_or asked index 0 inside),
            )
          ]
          | inr differs ↦ is.notes.new position task other is_at (subst (λ (xs : List Asker). Contains xs other) (other_list position differs) has)
        ];
      };
      done = λ k position task less within is_at same. elim (cases_lt k index) [
        | inl front ↦ kept_list position asker (is.done k position task front within is_at same)
        | inr not_front ↦
            let own : k ≡ index = omega arith in
            let goal : task.goal ≡ get_or asked index 0 = same ∙ ap (λ (i : ℕ). get_or asked i 0) own in
            let there : position ≡ at = one_task tasks position at task rise is_at.0 stands (ap (λ (t : Task). t.goal) is_at.1 ∙ (goal ∙ sym (of_goal task))) in
            subst (λ (xs : List Asker). Contains xs asker) (sym (here position there)) (Contains-push (askers_of middle position) asker)
      ];
    }

pub noting_end : (tasks : List Task) (asker : Asker) (asked : List ℕ) (before after : Agenda) (index : ℕ) → length asked ≤ index → Noting tasks asker asked before after index → IsNoted tasks asker asked after
noting_end tasks asker asked before after index end is position task at has =
    is.done has.0 position task (omega (arith, has.1, end)) has.1 at (sym (get_or_default asked has.0 0 task.goal has.1 ∙ has.2))

no_task : Task
no_task = record { goal = 0; stamp = None; flies = false }

-- whether a later pair begins at a goal that has a task, and at one that has none
pub later_told : (history : List Pair) (tasks : List Task) (latest : List ℕ) (goal seen at : ℕ) → TellsLatest history tasks latest → at < length tasks → ((d : Task) → (get_or tasks at d).goal ≡ goal) →
    (seen < get_or latest at 0 → HasLater history goal seen) × (HasLater history goal seen → seen < get_or latest at 0)
later_told history tasks latest goal seen at tells within of_goal =
    subst (λ (g : ℕ). (seen < get_or latest at 0 → HasLater history g seen) × (HasLater history g seen → seen < get_or latest at 0)) (of_goal no_task) (tells.each at (get_or tasks at no_task) seen (at_any tasks at no_task within))

pub later_tested : (history : List Pair) (tasks : List Task) (latest : List ℕ) (goal seen at number : ℕ) → TellsLatest history tasks latest → at < length tasks → ((d : Task) → (get_or tasks at d).goal ≡ goal) → number ≡ get_or latest at number →
    (nat_lt seen number ≡ true → HasLater history goal seen) × (HasLater history goal seen → nat_lt seen number ≡ true)
later_tested history tasks latest goal seen at number tells within of_goal read =
    let told = later_told history tasks latest goal seen at tells within of_goal in
    let same : number ≡ get_or latest at 0 = read ∙ get_or_default latest at number 0 (omega (arith, within, tells.len)) in
    (λ on. told.0 (let less = ltb-true seen number on in omega (arith, less, same)), λ later. lt-ltb seen number (let less = told.1 later in omega (arith, less, same)))

pub none_later : (history : List Pair) (tasks : List Task) (latest : List ℕ) (goal seen : ℕ) → TellsLatest history tasks latest → All (λ (task : Task). ¬ (task.goal ≡ goal)) tasks → ¬ HasLater history goal seen
none_later history tasks latest goal seen tells none later =
    let own = Contains-from_map (λ (t : Task). t.goal) tasks _ (tells.owned later.position later.pair later.stands) in
    none own.1.0 own.0 own.1.1 (ap (λ (t : Task). t.goal) own.1.2 ∙ (own.2 ∙ (ap (λ (p : Pair). p.goal) later.is ∙ later.of_goal)))

pub stale_at : (history : List Pair) (stamp : Stamp) (index : ℕ) → index < length stamp.asked → HasLater history (get_or stamp.asked index 0) stamp.seen → IsStale history stamp
stale_at history stamp index within later = (stale_iff history stamp).1 (get_or stamp.asked index 0, Contains-get_or stamp.asked index 0 within, later)

pub none_stale : (history : List Pair) (stamp : Stamp) (index : ℕ) → length stamp.asked ≤ index → ((k : ℕ) → k < index → k < length stamp.asked → ¬ HasLater history (get_or stamp.asked k 0) stamp.seen) → ¬ IsStale history stamp
none_stale history stamp index end none stale =
    let some = (stale_iff history stamp).0 stale in
    let at = some.1.0 in
    none at (omega (arith, some.1.1, end)) some.1.1 (subst (λ (g : ℕ). HasLater history g stamp.seen) (sym (get_or_default stamp.asked at 0 some.0 some.1.1 ∙ some.1.2)) some.2)

-- The tasks whose search is one of the first askers were marked.
pub record Waking (tasks : List Task) (askers : List Asker) (before after : Marks) (index : ℕ) : Type 0 where
  pub tree : IsTree after
  pub count : after.count ≡ before.count
  pub sound : (position : ℕ) → IsMarked after position → IsMarked before position ⊎ IsWoken tasks askers position
  pub kept : (position : ℕ) → IsMarked before position → IsMarked after position
  pub done : (k : ℕ) (d : Asker) → k < index → k < length askers → ((e : Task) → IsSearched (get_or tasks (get_or askers k d).task e) (get_or askers k d).seen) → IsMarked after (get_or askers k d).task

pub waking_none : (tasks : List Task) (askers : List Asker) (marks : Marks) → IsTree marks → Waking tasks askers marks marks 0
waking_none tasks askers marks tree = record {
  tree = tree;
  count = refl;
  sound = λ position on. inl on;
  kept = λ position on. on;
  done = λ k d less within searched. absurd (omega arith);
}

module _ (tasks : List Task) (askers : List Asker) (before middle : Marks) (index : ℕ) (d : Asker) (inside : index < length askers) (is : Waking tasks askers before middle index) where
  pub waking_one : (after : Marks) → (get_or askers index d).task < length tasks → ((e : Task) → IsSearched (get_or tasks (get_or askers index d).task e) (get_or askers index d).seen) → Puts middle after (get_or askers index d).task true → Waking tasks askers before after (index + 1)
  waking_one after within searched puts =
      let asker = get_or askers index d in
      let keeps : (position : ℕ) → IsMarked middle position → IsMarked after position =
      λ position on. elim (cases_eq position asker.task) [ inl same ↦ subst (λ (i : ℕ). IsMarked after i) (sym same) (puts.own.1 refl) | inr differs ↦ (puts.others position differs).1 on ] in
      record {
        tree = puts.tree;
        count = puts.count ∙ is.count;
        sound = λ position on. elim (cases_eq position asker.task) [
          | inl same ↦ inr (record { asker = asker; stands = Contains-get_or askers index d inside; same = sym same; searched = λ e. subst (λ (i : ℕ). IsSearched (get_or tasks i e) asker.seen) (sym same) (searched e) })
          | inr differs ↦ is.sound position ((puts.others position differs).0 on)
        ];
        kept = λ position on. keeps position (is.kept position on);
        done = λ k e less within_k searched_k. elim (cases_lt k index) [
          | inl front ↦ keeps _ (is.done k e front within_k searched_k)
          | inr not_front ↦
              let here : index ≡ k = omega arith in
              subst (λ (a : Asker). IsMarked after a.task) (ap (λ (i : ℕ). get_or askers i d) here ∙ get_or_default askers k d e within_k) (puts.own.1 refl)
        ];
      }

  pub waking_skip : ((e : Task) → IsSearched (get_or tasks (get_or askers index d).task e) (get_or askers index d).seen → ⊥) → Waking tasks askers before middle (index + 1)
  waking_skip idle = record {
    tree = is.tree;
    count = is.count;
    sound = is.sound;
    kept = is.kept;
    done = λ k e less within searched. elim (cases_lt k index) [
      | inl front ↦ is.done k e front within searched
      | inr not_front ↦
          let here : k ≡ index = omega arith in
          let same : get_or askers k e ≡ get_or askers index d = get_or_default askers k e d within ∙ ap (λ (i : ℕ). get_or askers i d) here in
          absurd (idle no_task (subst (λ (a : Asker). IsSearched (get_or tasks a.task no_task) a.seen) same (searched no_task)))
    ];
  }

pub waking_end : (tasks : List Task) (askers : List Asker) (before after : Marks) (index : ℕ) → length askers ≤ index → Waking tasks askers before after index → Wakes tasks askers before after
waking_end tasks askers before after index end is = record {
  tree = is.tree;
  count = is.count;
  marked = λ position. (
    is.sound position,
    λ some. elim some [
      | inl on ↦ is.kept position on
      | inr woken ↦
          let at = woken.stands in
          let asker : get_or askers at.0 woken.asker ≡ woken.asker = at.2 in
          let place : (get_or askers at.0 woken.asker).task ≡ position = ap (λ (a : Asker). a.task) asker ∙ woken.same in
          subst (λ (i : ℕ). IsMarked after i) place
          (is.done at.0 woken.asker (omega (arith, at.1, end)) at.1 (λ e. subst (λ (a : Asker). IsSearched (get_or tasks a.task e) a.seen) (sym asker) (subst (λ (i : ℕ). IsSearched (get_or tasks i e) woken.asker.seen) (sym woken.same) (woken.searched e))))
    ],
  );
}
