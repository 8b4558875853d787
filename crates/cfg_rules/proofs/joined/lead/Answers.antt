use Rattle.std.proofs.Common.{refl, inl, inr, ap, ◌∙◌}
use Rattle.cfg_rules.specs.declared.joined.Joined.{Joined}
use Rattle.cfg_rules.proofs.Members.{led_is, same_edges}
use Rattle.cfg_rules.proofs.joined.lead.Goals.{then-here+in_ok-extend_from_slice, else-here}
use Rattle.cfg_rules.proofs.joined.lead.Goals as goal

pub returns : goal.returns
returns c = led_is _ _ _ _
    (elim c.if-here.branch [
      | then-here+in_ok-extend_from_slice w ↦ same_edges _ _ _ _ _ _ _ (ap (λ (o : Joined). o.edges.items) w.out-is) c.as_slice.ensures refl c.in_ok-add_edges.ensures
      | else-here w ↦ same_edges _ _ _ _ _ _ _ (ap (λ (o : Joined). o.edges.items) w.out-is) c.as_slice.ensures refl c.in_ok-add_edges.ensures
    ])
    (elim c.if-here.branch [
      | then-here+in_ok-extend_from_slice w ↦ inl (w.if-here.true, ap (λ (o : Joined). o.first.items) w.out-is ∙ w.in_ok-extend_from_slice.ensures.ok)
      | else-here w ↦ inr (w.if-here.false, ap (λ (o : Joined). o.first.items) w.out-is)
    ])
