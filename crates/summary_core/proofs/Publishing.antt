-- New pairs are added, and a goal is stamped.
use Rattle.std.proofs.Common.{◌≡◌, ℕ, ◌+◌, ◌<◌, ◌≤◌, inl, inr, false, List, [], ◌∷◌, ◌++◌, length, take, get_or, set, refl, sym, ap, ◌∙◌, arith, subst, append_assoc, Some}
use Rattle.std.specs.List.{All, AllPairs, Contains}
use Rattle.std.specs.List.Sorted.{IsStrictlyIncreasing}
use Rattle.std.proofs.lemmas.Bool.{cases_lt}
use Rattle.std.proofs.lemmas.List.{append-nil, get_or_default}
use Rattle.std.proofs.lemmas.List.Elements.{All-nil, All-push, Contains-append_left, Contains-append_right, Contains-get_or}
use Rattle.std.proofs.lemmas.List.Quantifiers.{all_pairs_push}
use Rattle.std.proofs.lemmas.List.Kept.{AllPairs-from_increasing}
use Rattle.std.proofs.Math.Seq.{take-append_seam}
use Rattle.matched_paths.specs.declared.flow_graph.Pair.{Pair}
use Rattle.summary_core.specs.declared.found.Found.{Found}
use Rattle.summary_core.specs.declared.task.Task.{Task}
use Rattle.summary_core.specs.Searches.{IsFoundOf}
use Rattle.summary_core.specs.Board.{BoardState}
use Rattle.summary_core.specs.Events.{AddsNew, Flies, Publishes}
use Rattle.summary_core.specs.Sound.{IsKeptBoard, IsSound}
use Rattle.summary_core.proofs.Changing.{tasks_rise, set_changed}
use Rattle.summary_core.proofs.Kept.{publish_sound}

-- what is so of a new pair
abbrev pub IsNew : List Pair → ℕ → List ℕ → Pair → Type 0
IsNew before goal outs pair = (pair.goal ≡ goal) × Contains outs pair.out × ¬ Contains before pair

-- The pairs with the first outs were added where they did not stand.
pub record Adding (before : List Pair) (goal : ℕ) (outs : List ℕ) (after : List Pair) (index : ℕ) : Type 0 where
  pub new : List Pair
  pub kept : after ≡ before ++ new
  pub each : All (IsNew before goal outs) new
  pub all : (k : ℕ) → k < index → k < length outs → Contains after (record { goal = goal; out = get_or outs k 0 })
  pub rise : AllPairs (λ a b. a.out < b.out) new
  pub below : (k : ℕ) → index ≤ k → k < length outs → All (λ pair. pair.out < get_or outs k 0) new

pub adding_none : (before : List Pair) (goal : ℕ) (outs : List ℕ) → Adding before goal outs before 0
adding_none before goal outs = record {
  new = [];
  kept = sym (append-nil before);
  each = All-nil (IsNew before goal outs);
  all = λ k less inside. absurd (omega arith);
  rise = λ i j d less within. absurd (omega arith);
  below = λ k later inside. All-nil (λ (pair : Pair). pair.out < get_or outs k 0);
}

pub adding_skip : (before : List Pair) (goal : ℕ) (outs : List ℕ) (after : List Pair) (index : ℕ) → Contains before (record { goal = goal; out = get_or outs index 0 }) → Adding before goal outs after index → Adding before goal outs after (index + 1)
adding_skip before goal outs after index has is = record {
  new = is.new;
  kept = is.kept;
  each = is.each;
  all = λ k less inside. elim (cases_lt k index) [
    | inl front ↦ is.all k front inside
    | inr not_front ↦ let here : index ≡ k = omega arith in
        let stands : Contains after (record { goal = goal; out = get_or outs index 0 }) = subst (λ (xs : List Pair). Contains xs (record { goal = goal; out = get_or outs index 0 })) (sym is.kept) (Contains-append_left before is.new _ has) in
        subst (λ (i : ℕ). Contains after (record { goal = goal; out = get_or outs i 0 })) here stands
  ];
  rise = is.rise;
  below = λ k later inside. is.below k (omega arith) inside;
}

pub adding_one : (before : List Pair) (goal : ℕ) (outs : List ℕ) (after : List Pair) (index : ℕ) → IsStrictlyIncreasing outs → index < length outs → ¬ Contains before (record { goal = goal; out = get_or outs index 0 }) →
    Adding before goal outs after index → Adding before goal outs (after ++ record { goal = goal; out = get_or outs index 0 } ∷ []) (index + 1)
adding_one before goal outs after index outs_rise within fresh is =
    let pair : Pair = record { goal = goal; out = get_or outs index 0 } in
    record {
      new = is.new ++ pair ∷ [];
      kept = ap (λ xs. xs ++ pair ∷ []) is.kept ∙ append_assoc before is.new (pair ∷ []);
      each = All-push (IsNew before goal outs) is.new pair is.each (refl, Contains-get_or outs index 0 within, fresh);
      all = λ k less inside. elim (cases_lt k index) [
        | inl front ↦ Contains-append_left after (pair ∷ []) _ (is.all k front inside)
        | inr not_front ↦
            let here : index ≡ k = omega arith in
            Contains-append_right after (pair ∷ []) _ (0, omega arith, ap (λ (i : ℕ). record { goal = goal; out = get_or outs i 0 }) here)
      ];
      rise = all_pairs_push (λ (a b : Pair). a.out < b.out) is.new pair is.rise (λ k d inside. is.below index (omega arith) within k d inside);
      below = λ k later inside. All-push (λ (p : Pair). p.out < get_or outs k 0) is.new pair (is.below k (omega arith) inside) (AllPairs-from_increasing outs outs_rise index k 0 (omega arith) inside);
    }

pub adding_end : (before : List Pair) (goal : ℕ) (outs : List ℕ) (after : List Pair) (index : ℕ) → length outs ≤ index → Adding before goal outs after index → AddsNew before goal outs after
adding_end before goal outs after index end is = record {
  new = is.new;
  kept = is.kept;
  are_new = record {
    each = is.each;
    all = λ out has. subst (λ (xs : List Pair). Contains xs (record { goal = goal; out = out })) is.kept
        (subst (λ (o : ℕ). Contains after (record { goal = goal; out = o })) (get_or_default outs has.0 0 out has.1 ∙ has.2) (is.all has.0 (omega (arith, has.1)) has.1));
    rise = is.rise;
  };
}

pub adding_undone : (before : List Pair) (goal : ℕ) (outs : List ℕ) (after : List Pair) (index len : ℕ) → len ≡ length before → Adding before goal outs after index → take len after ≡ before
adding_undone before goal outs after index len is adding = rw (is, adding.kept) (take-append_seam before adding.new)

pub position_publishes : (board : BoardState) (goal : ℕ) (found : Found) (history : List Pair) (position : ℕ) (task : Task) → IsSound board → Flies board goal → found.seen ≤ length board.history →
    IsFoundOf board.flow (take found.seen board.history) goal found → AddsNew board.history goal found.outs history → position < length board.tasks → task ≡ get_or board.tasks position task → task.goal ≡ goal →
    Publishes board goal found (record board { history = history; tasks = set board.tasks position (record task { stamp = Some (record { seen = found.seen; asked = found.asked }); flies = false }) })
position_publishes board goal found history position task sound flies seen was_found adds within at of_goal = record {
  flies = flies;
  seen = seen;
  was_found = was_found;
  new = adds.new;
  are_new = adds.are_new;
  changes = ap (λ h. record board { history = h; tasks = set board.tasks position (record task { stamp = Some (record { seen = found.seen; asked = found.asked }); flies = false }) }) adds.kept
      ∙ ap (λ tasks. record board { history = board.history ++ adds.new; tasks = tasks })
      (set_changed goal (λ t. record t { stamp = Some (record { seen = found.seen; asked = found.asked }); flies = false }) board.tasks position task (tasks_rise board.tasks sound.goals.rise) within at of_goal);
}

pub publish_kept : (board after : BoardState) (goal : ℕ) (found : Found) → IsKeptBoard board → Publishes board goal found after → IsKeptBoard after
publish_kept board after goal found kept publishes = record {
  starts = rw publishes.changes kept.starts;
  sound = publish_sound board goal found after kept.sound publishes;
}
