use Rattle.smith_check.proofs.Common.{refl, ◌∙◌}
use Rattle.smith_check.proofs.ContextLemmas.{is_scope, same_verdict}
use Rattle.smith_check.proofs.functions.FunctionJudge.verdict.Goals as goal

pub check_canonical-requires-clause-scope : goal.check_canonical-requires-clause-scope
check_canonical-requires-clause-scope c =
    is_scope c.args.self.now c.requires.judge c.args.function.now c.args.body.now c.as_slice-3.result.now _ c.scope-scope.ensures.parts
    (c.as_slice-3.ensures ∙ rw c.as_slice-params.ensures at (rw c.as_slice-indices.ensures at (rw c.as_slice.ensures at
    c.in_ok-locals.ensures.ok))) c.requires.typed.0 c.requires.typed.1 c.requires.locals

pub returns-clause-decided : goal.returns-clause-decided
returns-clause-decided c =
    same_verdict c.args.self.now c.requires.judge c.args.function.now c.args.body.now c.as_slice-3.result.now _ c.scope-scope.ensures.parts
    (c.as_slice-3.ensures ∙ rw c.as_slice-params.ensures at (rw c.as_slice-indices.ensures at (rw c.as_slice.ensures at
    c.in_ok-locals.ensures.ok))) c.check_canonical.result _ (rw (c.as_slice-indices.ensures, c.as_slice-4.ensures) refl)
    c.check_canonical.ensures.ok
