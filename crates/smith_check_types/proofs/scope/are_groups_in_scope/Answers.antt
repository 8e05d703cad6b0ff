use Rattle.std.proofs.Common.{arith, rules, ◌∙◌}
use Rattle.smith_check_types.proofs.ScopeLemmas.{groups_start, groups_room, groups_turn, groups_refused, groups_done, never_true}
use Rattle.smith_check_types.proofs.ScopeLemmas.{always_true}
use Rattle.smith_check_types.proofs.scope.are_groups_in_scope.Goals as goal

pub loop-group-init : goal.loop-group-init
loop-group-init c = groups_start _

pub are_members_in_scope-requires : goal.are_members_in_scope-requires
are_members_in_scope-requires c =
    record {
      few = groups_room c.args.groups.now _ _ _ _ c.loop-group-test.true (c.as_slice-members.ensures ∙ c.group-item.is)
          c.loop-group.invariant c.requires.few;
    }

pub overflow_add-start : goal.overflow_add-start
overflow_add-start c =
    omega (
      arith,
      groups_room c.args.groups.now _ _ _ _ c.loop-group-test.true (c.as_slice-members.ensures ∙ c.group-item.is)
          c.loop-group.invariant c.requires.few,
    )

pub loop-group-preserved : goal.loop-group-preserved
loop-group-preserved c =
    groups_turn c.args.groups.now _ _ _ _ c.loop-group-test.true (c.as_slice-members.ensures ∙ c.group-item.is) c.loop-group.invariant
    (let yes = c.if-not-are_members_in_scope.false in c.are_members_in_scope.ensures.0 (search rules))

pub returns-then-not-are_members_in_scope : goal.returns-then-not-are_members_in_scope
returns-then-not-are_members_in_scope c =
    never_true (groups_refused c.args.groups.now _ _ _ _ c.loop-group-test.true (c.as_slice-members.ensures ∙ c.group-item.is)
    c.loop-group.invariant
    (λ fine. let yes = c.are_members_in_scope.ensures.1 fine in let no = c.if-not-are_members_in_scope.true in search rules))

pub returns : goal.returns
returns c = always_true (groups_done c.args.groups.now _ _ c.loop-group-test.false c.loop-group.invariant)
