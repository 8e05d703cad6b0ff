use Rattle.smith_types.proofs.SpaceLemmas.{IsSound-group, AreCovered-group}
use Rattle.smith_types.proofs.type_space.TypeSpace.push_group.Goals as goal

pub invariant_of-self-2 : goal.invariant_of-self-2
invariant_of-self-2 c = (
  rw (c.in_ok-push.ensures.items, c.start_after-start.ensures, c.as_slice.ensures.value, c.len-end.ensures, c.self.inside.types.ok.0)
      (IsSound-group c.self.inside.types.items c.self.inside.groups.items c.self.invariant.0),
  c.self.invariant.1,
  c.self.invariant.2,
  c.self.invariant.3,
  c.self.invariant.4,
  c.self.invariant.5,
  c.self.invariant.6,
  c.self.invariant.7,
  c.self.invariant.8,
)

pub returns-clause-covered : goal.returns-clause-covered
returns-clause-covered c =
    rw (c.in_ok-push.ensures.items, c.start_after-start.ensures, c.as_slice.ensures.value, c.len-end.ensures, c.self.inside.types.ok.0)
    (AreCovered-group c.self.inside.types.items c.self.inside.groups.items c.self.invariant.0)
