use Rattle.smith_types.proofs.Common.{◌∙◌}
use Rattle.smith_types.proofs.GroupsAddedLemmas.{groups_room, groups_refused, groups_turn}
use Rattle.smith_types.proofs.grouped_types.type_space_of.Goals as goal

pub push_members-requires : goal.push_members-requires
push_members-requires c = record {
  few = groups_room c.args.groups.now _ _ _ _ c.loop-group-test.true (c.as_slice.ensures ∙ c.group-item.is)
      c.loop-group.invariant c.requires.few;
}

pub returns-then-not-all-clause-found : goal.returns-then-not-all-clause-found
returns-then-not-all-clause-found c =
    groups_refused c.args.groups.now _ _ _ _ c.loop-group-test.true (c.as_slice.ensures ∙ c.group-item.is) c.loop-group.invariant
    (rw c.if-not-all.true at c.in_ok-all.ensures.added)

pub loop-group-preserved : goal.loop-group-preserved
loop-group-preserved c =
    groups_turn c.args.groups.now _ _ _ _ _ _ c.loop-group-test.true (c.as_slice.ensures ∙ c.group-item.is) c.loop-group.invariant
    (rw c.if-not-all.false at c.in_ok-all.ensures.added) c.in_ok-push_group.ensures.ok
