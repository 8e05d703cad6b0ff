use Rattle.smith_check_body.proofs.Common.{bare, held, label_of, labels_of, reverse, subst, ◌∷◌}
use Rattle.smith_instr.specs.declared.instr.Instr.TheVariants as instr
use Rattle.smith_check_operands.specs.Applies.{IsTried}
use Rattle.smith_check_body.proofs.families.step_branch.Goals as goal

pub returns-in-Br-clause-ok : goal.returns-in-Br-clause-ok
returns-in-Br-clause-ok c = λ set. rw c.in-Br.is (c.br.ensures set)

pub returns-in-BrIf-clause-ok : goal.returns-in-BrIf-clause-ok
returns-in-BrIf-clause-ok c = λ set. rw c.in-BrIf.is (c.br_if.ensures.ok set)

pub returns-in-BrOnNull-clause-ok : goal.returns-in-BrOnNull-clause-ok
returns-in-BrOnNull-clause-ok c = λ set. rw c.in-BrOnNull.is (c.br_on_null.ensures.ok set)

pub returns-in-BrOnNonNull-clause-ok : goal.returns-in-BrOnNonNull-clause-ok
returns-in-BrOnNonNull-clause-ok c = λ set. rw c.in-BrOnNonNull.is (c.br_on_non_null.ensures.ok set)

pub returns-in-BrOnCast-clause-ok : goal.returns-in-BrOnCast-clause-ok
returns-in-BrOnCast-clause-ok c = λ set. rw c.in-BrOnCast.is (c.br_on_cast.ensures.ok set)

pub returns-in-BrOnCastFail-clause-ok : goal.returns-in-BrOnCastFail-clause-ok
returns-in-BrOnCastFail-clause-ok c = λ set. rw c.in-BrOnCastFail.is (c.br_on_cast_fail.ensures.ok set)

pub returns-in-BrTable-clause-ok : goal.returns-in-BrTable-clause-ok
returns-in-BrTable-clause-ok c = λ set.
    rw c.in-BrTable.is (subst (λ indices. IsTried (bare c.args.scope.now)
    (label_of c.args.shape.now ∷ labels_of (reverse c.args.outers.now)) (instr.BrTable indices c.in-BrTable.other) set c.br_table.result
    (held c.args.operands.now) (held c.br_table.new.operands)) c.as_slice.ensures (c.br_table.ensures set))
