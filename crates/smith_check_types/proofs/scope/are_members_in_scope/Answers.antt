use Rattle.std.proofs.Common.{arith, rules}
use Rattle.smith_check_types.proofs.ScopeLemmas.{members_start, members_room, members_turn, members_refused, members_done, never_true}
use Rattle.smith_check_types.proofs.ScopeLemmas.{always_true}
use Rattle.smith_check_types.proofs.scope.are_members_in_scope.Goals as goal

pub loop-ty-init : goal.loop-ty-init
loop-ty-init c = members_start _ _ _

pub overflow_add-index : goal.overflow_add-index
overflow_add-index c = omega (arith, members_room _ _ _ _ _ _ _ c.loop-ty-test.true c.ty-item.is c.loop-ty.invariant c.requires.few)

pub loop-ty-preserved : goal.loop-ty-preserved
loop-ty-preserved c =
    members_turn _ _ _ _ _ _ _ c.loop-ty-test.true c.ty-item.is c.loop-ty.invariant
    (let yes = c.if-not-is_type_in_scope.false in c.is_type_in_scope.ensures.0 (search rules))

pub returns-then-not-is_type_in_scope : goal.returns-then-not-is_type_in_scope
returns-then-not-is_type_in_scope c =
    never_true (members_refused _ _ _ _ _ _ _ c.loop-ty-test.true c.ty-item.is c.loop-ty.invariant
    (λ fine. let yes = c.is_type_in_scope.ensures.1 fine in let no = c.if-not-is_type_in_scope.true in search rules))

pub returns : goal.returns
returns c = always_true (members_done _ _ _ _ _ c.loop-ty-test.false c.loop-ty.invariant)
