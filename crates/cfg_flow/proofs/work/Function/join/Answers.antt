use Rattle.std.proofs.Common.{◌≡◌, ◌∙◌, List, Option, Some, ℕ, refl, sym, subst, ap, length, slice_get, slice_range, arith}
use Rattle.std.specs.Vec.{with_items}
use Rattle.std.proofs.lemmas.List.{with_items_is}
use Rattle.cfg_flow.specs.declared.plan.Row.{Row}
use Rattle.cfg_rules.specs.declared.summary.Summary.{Summary}
use Rattle.cfg_flow.specs.Plans.{HasParts, constructs}
use Rattle.cfg_flow.specs.Tables.{AreReady}
use Rattle.cfg_flow.proofs.Joining.{joined_more, ready_from, site_is}
use Rattle.cfg_flow.proofs.work.Function.join.Goals as goal

pub returns-clause-joined : goal.returns-clause-joined
returns-clause-joined c = λ plan flat read from.
    let taken = c.in_ok-jumps.ensures plan from.ahead in
    let row = c.row-row.result in
    let row_is : slice_get plan.rows.items c.args.x ≡ Some row = subst (λ (rows : List Row). slice_get rows c.args.x ≡ Some row) read.rows c.row-row.ensures in
    let listed : HasParts row (length c.args.self.now.parts.now) = subst (λ (parts : List (Option ℕ)). HasParts row (length parts)) (sym read.parts) (flat.listed c.args.x row row_is) in
    let parts : slice_range plan.parts.items row.from row.to ≡ c.parts_of.result.now = sym (c.parts_of.ensures listed ∙ ap (λ (parts : List (Option ℕ)). slice_range parts row.from row.to) read.parts) in
    let room : length c.args.work.now.table.items ≡ length plan.rows.items = c.requires.room ∙ ap (λ (rows : List Row). length rows) read.rows in
    let ready = ready_from plan c.args.x c.args.work.now.table.items flat room from.table in
    let site = site_is plan row _ c.in_ok-jumps.jumps _ row_is refl parts (sym read.end) taken in
    let joined = c.in_ok-next.ensures (constructs plan) flat.plan_is site (subst (λ (t : List Summary). AreReady (constructs plan) c.args.x 0 t) (sym c.deref_mut.ensures.value) ready) in
    let first : c.take_first-first.result.items ≡ c.join.new.out.first.items = cc in
    let edges : c.take_first-first.new.out.edges.items ≡ c.join.new.out.edges.items = cc in
    let before = c.args.work.now.table in
    let middle = with_items before c.join.new.table in
    let kept : length c.join.new.table ≡ before.len = omega (arith, c.join.auto.table, ap (λ (t : List Summary). length t) c.deref_mut.ensures.value, before.ok.0) in
    let taken_out : middle.items ≡ c.join.new.table = with_items_is before c.join.new.table kept in
    let seen : c.deref_mut-2.result.now ≡ c.join.new.table = c.deref_mut-2.ensures.value ∙ taken_out in
    let count : length c.put.new.table ≡ middle.len = c.put.ensures.count ∙ ap (λ (t : List Summary). length t) seen ∙ kept in
    let put_in : (with_items middle c.put.new.table).items ≡ c.put.new.table = with_items_is middle c.put.new.table count in
    joined_more plan c.args.x _ _ c.in_ok-next.next c.join.new.out c.join.new.table _ joined first refl refl
    (ap (λ (t : List Summary). slice_get t c.args.x) put_in ∙ c.put.ensures.is)
    (λ d off. ap (λ (t : List Summary). slice_get t d) put_in ∙ c.put.ensures.others d off ∙ ap (λ (t : List Summary). slice_get t d) seen)
    c.take_first-first.ensures.none edges
    record { targets = taken.targets.left; breaks = taken.breaks.left; continues = taken.continues.left }
    from
