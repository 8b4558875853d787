use Rattle.std.proofs.Common.{◌≡◌, ◌<◌, ◌++◌, ◌∷◌, [], true, ℕ, List, length, get_or, subst, ap, refl, arith}
use Rattle.std.specs.List.{Contains}
use Rattle.std.proofs.lemmas.List.Elements.{Contains-append_right, Contains-get_or}
use Rattle.matched_paths.specs.declared.flow_graph.Crossing.{Crossing}
use Rattle.flow_index.specs.Ways.{Enters}
use Rattle.flow_index.proofs.Adding.{Adds, IsEntered, Entering, adds_none, adds_one, no_crossing, enter_within, enter_step, enter_end}
use Rattle.flow_index.proofs.bridging.add_entries.Goals as goal
use Rattle.flow_index.proofs.bridging.add_entries.Goals.{then-enters+in_ok-push, else-enters}

pub loop-next-preserved : goal.loop-next-preserved
loop-next-preserved c =
    let flow = c.args.flow.now in
    let ways = c.loop-next.ways.items in
    let position = c.in-Some.position in
    let to = c.args.close.to in
    let call = c.args.close.call in
    let entry = get_or flow.opens position no_crossing in
    let is : get_or c.items.result.now position no_crossing ≡ entry = ap (λ (xs : List Crossing). get_or xs position no_crossing) c.items.ensures in
    let test = subst (λ (x : Crossing). (c.enters.result ≡ true → (x.call ≡ call) × (x.to ≡ c.args.goal)) × ((x.call ≡ call) × (x.to ≡ c.args.goal) → c.enters.result ≡ true)) is c.enters.ensures in
    let one : (after : List (ℕ × ℕ)) → Adds (Enters flow to call c.args.goal) ways after → IsEntered flow c.args.by_entry.now to call c.args.goal after position →
    Entering flow c.args.by_entry.now to call c.args.goal c.args.ways.now.items after c.before-next.result =
    λ after adds here. enter_step flow c.args.by_entry.now to call c.args.goal c.args.ways.now.items ways after position c.loop-next.next c.before-next.result c.requires.entries c.in-Some.is c.loop-next.invariant c.before-next.ensures adds here in
    elim c.if-enters.branch [
      | then-enters+in_ok-push w ↦
          let so = test.0 w.if-enters.true in
          let within : position < length flow.opens = enter_within flow c.args.by_entry.now to call c.args.goal c.args.ways.now.items ways position c.loop-next.next c.requires.entries c.in-Some.is c.loop-next.invariant in
          let stands : Contains flow.opens entry = Contains-get_or flow.opens position no_crossing within in
          let opened : Contains flow.opens (record { call = call; from = entry.from; to = c.args.goal }) =
          subst (λ (n : ℕ). Contains flow.opens (record { call = n; from = entry.from; to = c.args.goal })) so.0
          (subst (λ (t : ℕ). Contains flow.opens (record { call = entry.call; from = entry.from; to = t })) so.1 stands) in
          let added = one (ways ++ (entry.from, to) ∷ []) (adds_one _ ways (entry.from, to) (record { ends = refl; opened = opened }))
          (λ same_call same_goal. Contains-append_right ways ((entry.from, to) ∷ []) (entry.from, to) (0, omega arith, refl)) in
          rw (w.ways-is, w.in_ok-push.ensures.items, is) added
      | else-enters w ↦ rw w.ways-is (one ways (adds_none _ ways) (λ same_call same_goal. absurd (let on = test.1 (same_call, same_goal) in let off = w.if-enters.false in cc)))
    ]

pub returns : goal.returns
returns c =
    enter_end c.args.flow.now c.args.by_entry.now c.args.close.to c.args.close.call c.args.goal c.args.ways.now.items c.loop-next.ways.items c.loop-next.next c.requires.entries c.in_default.is c.loop-next.invariant
