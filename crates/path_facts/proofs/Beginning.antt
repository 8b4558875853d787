-- The first facts, and those of goals alone.
use Rattle.std.proofs.Common.{◌≡◌, ℕ, ◌+◌, ◌<◌, ◌≤◌, inl, inr, List, [], length, get_or, sym, ap, ◌∙◌, arith, subst}
use Rattle.std.specs.List.{All, Contains}
use Rattle.std.proofs.lemmas.Bool.{cases_lt}
use Rattle.std.proofs.lemmas.List.{get_or_default}
use Rattle.std.proofs.lemmas.List.Elements.{All-contains, All-nil, All-weaker, Contains-get_or}
use Rattle.matched_paths.specs.declared.flow_graph.FlowGraph.{FlowGraph}
use Rattle.matched_paths.specs.Ends.{IsAmong}
use Rattle.matched_paths.specs.Edges.{IsGoal, IsOut}
use Rattle.matched_paths.specs.Folded.{HoldsOutsOf}
use Rattle.matched_paths.specs.Matched as m
use Rattle.matched_paths.specs.Matched.{IsTruePair, Matched}
use Rattle.matched_paths.specs.declared.flow_graph.Pair.{Pair}
use Rattle.path_facts.specs.declared.pair_set.PairSet.{PairSet}
use Rattle.path_facts.specs.PairSets.{Grows, IsKept, Meets}
use Rattle.path_facts.specs.Facts.{Begins, HasGoal, Tabulates}
use Rattle.path_facts.proofs.Growing.{grows_all, grows_keeps}
use Rattle.path_facts.proofs.Tabulating.{led, tabulates_none}

-- the first goals lead to themselves
pub record Beginning (count : ℕ) (goals : List ℕ) (facts : PairSet) (index : ℕ) : Type 0 where
  pub kept : IsKept facts
  pub count_is : facts.by_first.count ≡ count
  pub sound : All (λ fact. Contains goals fact.1 × (fact.0 ≡ fact.1)) facts.pairs.items
  pub all : (k : ℕ) → k < index → k < length goals → Contains facts.pairs.items (get_or goals k 0, get_or goals k 0)

pub begin_none : (count : ℕ) (goals : List ℕ) (facts : PairSet) → IsKept facts → facts.by_first.count ≡ count → facts.pairs.items ≡ [] → Beginning count goals facts 0
begin_none count goals facts kept count_is empty = record {
  kept = kept;
  count_is = count_is;
  sound = rw empty (All-nil (λ (fact : ℕ × ℕ). Contains goals fact.1 × (fact.0 ≡ fact.1)));
  all = λ k less inside. absurd (omega arith);
}

pub begin_more : (count : ℕ) (goals : List ℕ) (facts after : PairSet) (index : ℕ) → index < length goals → Beginning count goals facts index → Meets facts after (get_or goals index 0, get_or goals index 0) → Beginning count goals after (index + 1)
begin_more count goals facts after index within is meets =
    let goal = get_or goals index 0 in
    record {
      kept = meets.grows.kept;
      count_is = meets.grows.count ∙ is.count_is;
      sound = grows_all (λ new. new ≡ (goal, goal)) (λ fact. Contains goals fact.1 × (fact.0 ≡ fact.1)) facts after
          (λ fact same. (subst (λ (g : ℕ). Contains goals g) (sym (ap (λ (p : ℕ × ℕ). p.1) same)) (Contains-get_or goals index 0 within), ap (λ (p : ℕ × ℕ). p.0) same ∙ sym (ap (λ (p : ℕ × ℕ). p.1) same))) meets.grows is.sound;
      all = λ k less inside. elim (cases_lt k index) [
        | inl before ↦ grows_keeps _ facts after _ meets.grows (is.all k before inside)
        | inr not_before ↦
            let here : index ≡ k = omega arith in
            subst (λ (i : ℕ). Contains after.pairs.items (get_or goals i 0, get_or goals i 0)) here meets.met
      ];
    }

pub begin_end : (count : ℕ) (goals : List ℕ) (facts : PairSet) (index : ℕ) → length goals ≤ index → Beginning count goals facts index → Begins count goals facts
begin_end count goals facts index end is = record {
  kept = is.kept;
  count_is = is.count_is;
  sound = is.sound;
  all = λ k d inside. subst (λ (g : ℕ). Contains facts.pairs.items (g, g)) (get_or_default goals k 0 d inside) (is.all k (omega arith) inside);
}

-- goals are vertices
pub goals_below : (flow : FlowGraph) (goals : List ℕ) → All (IsGoal flow) goals → All (λ goal. goal < flow.vertices) goals
goals_below flow goals are = All-weaker (IsGoal flow) (λ goal. goal < flow.vertices) (λ goal is. (All-contains (IsAmong flow.vertices) flow.opens _ flow.within.opens is.1.1).to) goals are

-- All facts are of the goals, each of which leads to itself.
pub record Saturating (flow : FlowGraph) (goals : List ℕ) (facts bridges : PairSet) (next : ℕ) : Type 0 where
  pub tabulates : Tabulates flow facts bridges next next
  pub of_goals : All (λ fact. Contains goals fact.1) facts.pairs.items
  pub begun : All (λ goal. Contains facts.pairs.items (goal, goal)) goals

pub saturate_none : (flow : FlowGraph) (goals : List ℕ) (facts bridges : PairSet) → Begins flow.vertices goals facts → IsKept bridges → bridges.by_first.count ≡ flow.vertices → bridges.pairs.items ≡ [] → Saturating flow goals facts bridges 0
saturate_none flow goals facts bridges begins kept count empty = record {
  tabulates = tabulates_none flow facts bridges begins.kept kept begins.count_is count empty
      (All-weaker (λ (fact : ℕ × ℕ). Contains goals fact.1 × (fact.0 ≡ fact.1)) (λ fact. Matched flow fact.1 fact.0) (λ fact is. subst (λ (v : ℕ). Matched flow fact.1 v) (sym is.1) m.none) facts.pairs.items begins.sound);
  of_goals = All-weaker (λ (fact : ℕ × ℕ). Contains goals fact.1 × (fact.0 ≡ fact.1)) (λ fact. Contains goals fact.1) (λ fact is. is.0) facts.pairs.items begins.sound;
  begun = begins.all;
}

pub saturate_more : (flow : FlowGraph) (goals : List ℕ) (facts after bridges wider : PairSet) (next : ℕ) → Saturating flow goals facts bridges next → Tabulates flow after wider (next + 1) (next + 1) →
    Grows (λ fact. HasGoal facts fact.1) facts after → Saturating flow goals after wider (next + 1)
saturate_more flow goals facts after bridges wider next is tabulates grows = record {
  tabulates = tabulates;
  of_goals = grows_all (λ fact. HasGoal facts fact.1) (λ fact. Contains goals fact.1) facts after
      (λ fact has. All-contains (λ (f : ℕ × ℕ). Contains goals f.1) facts.pairs.items (has.0, fact.1) is.of_goals has.1) grows is.of_goals;
  begun = All-weaker (λ goal. Contains facts.pairs.items (goal, goal)) (λ goal. Contains after.pairs.items (goal, goal)) (λ goal has. grows_keeps _ facts after (goal, goal) grows has) goals is.begun;
}

-- what a list of the pairs of outs and facts is, when all facts had their turn
module _ (flow : FlowGraph) (goals : List ℕ) (facts bridges : PairSet) (next : ℕ) (is : Saturating flow goals facts bridges next)
    (listed : List (ℕ × ℕ)) (same : listed ≡ facts.pairs.items) (pairs : List Pair)
    (each : (pair : Pair) → (Contains pairs pair → IsOut flow pair.out × Contains listed (pair.out, pair.goal)) × (IsOut flow pair.out × Contains listed (pair.out, pair.goal) → Contains pairs pair)) where
  pub pairs_sound : All (IsGoal flow) goals → All (λ pair. Contains goals pair.goal × IsTruePair flow pair) pairs
  pairs_sound are k d inside =
      let pair = get_or pairs k d in
      let both = (each pair).0 (Contains-get_or pairs k d inside) in
      let fact : Contains facts.pairs.items (pair.out, pair.goal) = subst (λ (xs : List (ℕ × ℕ)). Contains xs (pair.out, pair.goal)) same both.1 in
      let goal : Contains goals pair.goal = All-contains (λ (f : ℕ × ℕ). Contains goals f.1) facts.pairs.items (pair.out, pair.goal) is.of_goals fact in (
        goal,
        record {
          goal = All-contains (IsGoal flow) goals pair.goal are goal;
          out = both.0;
          matched = All-contains (λ (f : ℕ × ℕ). Matched flow f.1 f.0) facts.pairs.items (pair.out, pair.goal) is.tabulates.matched fact;
        },
      )

  pub pairs_hold : next ≡ length facts.pairs.items → HoldsOutsOf flow (Contains goals) pairs
  pairs_hold all goal out has led_out =
      let begun : Contains facts.pairs.items (goal, goal) = All-contains (λ (g : ℕ). Contains facts.pairs.items (g, g)) goals goal is.begun has in
      let fact = led flow facts bridges next all is.tabulates pairs (λ pair stands. subst (λ (xs : List (ℕ × ℕ)). Contains xs (pair.out, pair.goal)) same ((each pair).0 stands).1) goal begun led_out.leads in
      (each (record { goal = goal; out = out })).1 (led_out.is_out, subst (λ (xs : List (ℕ × ℕ)). Contains xs (out, goal)) (sym same) fact)
