use Rattle.smith_spell.proofs.Common.{ap, refl, same_Some, sym, ◌∙◌}
use Rattle.smith_types.specs.Grounds.{is_ground}
use Rattle.smith_spell.proofs.EarlierLoop.{walked_within, walked_on, found_in_group, found_after}
use Rattle.smith_spell.proofs.earlier.Earlier.is_ground_at.Goals as goal

pub returns-then-place-len : goal.returns-then-place-len
returns-then-place-len c = λ t at.
    let here = found_in_group _ c.self.inside.group.now _ _ _ c.loop-group.invariant.same _ _ c.loop-group-test.true c.group-item.is _ _
    (rw c.len.ensures at c.if-place-len.true) (rw c.as_slice.ensures at c.index-as_slice-place.is) in
    c.is_ground.ensures ∙ ap is_ground (same_Some _ _ (sym here ∙ at))

pub loop-group-preserved : goal.loop-group-preserved
loop-group-preserved c = rw c.len-place.ensures (record {
  inside = walked_within _ c.self.inside.group.now _ _ _ c.loop-group.invariant.same _ _ c.loop-group-test.true c.group-item.is
      (rw c.len.ensures at c.if-place-len.false) c.loop-group.invariant.inside;
  same = walked_on _ c.self.inside.group.now _ _ _ c.loop-group.invariant.same _ _ c.loop-group-test.true c.group-item.is
      (rw c.len.ensures at c.if-place-len.false);
})

pub returns : goal.returns
returns c = λ t at.
    let here = found_after _ c.self.inside.group.now _ _ _ c.loop-group.invariant.same _ _ c.loop-group-test.false
    c.loop-group.invariant.inside refl in
    c.is_ground-2.ensures ∙ ap is_ground (same_Some _ _ (sym here ∙ at))
