use Rattle.smith_spell.proofs.Common.{arith, on_ok_weaker, ◌∙◌}
use Rattle.smith_spell.proofs.GroupsWrittenLoop.{group_members, group_room, summary_turn, leads_groups, groups_written}
use Rattle.smith_spell.proofs.groups.write_groups.Goals as goal

pub write_group-requires-clause-room : goal.write_group-requires-clause-room
write_group-requires-clause-room c =
    let read = c.as_slice.ensures ∙ c.group-item.is in
    omega (
      arith,
      group_room c.args.groups.now c.loop-group.group-index _ _ c.loop-group-test.true read,
      c.loop-group.invariant.summary.counted,
      c.requires.few,
    )

pub write_group-requires-clause-members : goal.write_group-requires-clause-members
write_group-requires-clause-members c =
    let read = c.as_slice.ensures ∙ c.group-item.is in
    rw c.loop-group.invariant.summary.counted (group_members c.args.config.now c.args.groups.now c.loop-group.group-index _ _
    c.loop-group-test.true read c.requires.members)

pub loop-group-preserved : goal.loop-group-preserved
loop-group-preserved c =
    let groups = c.args.groups.now in
    let i = c.loop-group.group-index in
    let inside = c.loop-group-test.true in
    let read = c.as_slice.ensures ∙ c.group-item.is in
    let so_far = c.loop-group.invariant in
    let wrote = c.in_ok-before.ensures in
    record {
      summary = summary_turn groups i _ _ c.in_ok-before.before inside read (wrote.after _ so_far.summary);
      leads = leads_groups c.args.config.now groups i c.loop-group.stands _ _ inside read so_far.leads c.in_ok-write_bool.ensures.writes
          (wrote.writes _ so_far.summary);
    }

pub returns-clause-writes : goal.returns-clause-writes
returns-clause-writes c =
    on_ok_weaker c.write_end.result
    (groups_written c.args.config.now c.args.groups.now c.loop-group.group-index c.loop-group.stands c.loop-group.before
    c.loop-group-test.false c.loop-group.invariant.summary c.loop-group.invariant.leads)
    c.write_end.ensures.writes
