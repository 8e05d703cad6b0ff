use Rattle.smith_check.proofs.Common.{◌∙◌}
use Rattle.smith_check.proofs.ContextLemmas.{is_scope, same_explanation}
use Rattle.smith_check.proofs.functions.FunctionJudge.explanation.Goals as goal

pub explain-requires-clause-scope : goal.explain-requires-clause-scope
explain-requires-clause-scope c =
    is_scope c.args.self.now c.requires.judge c.args.function.now c.args.body.now c.as_slice-4.result.now _ c.scope-scope.ensures.parts
    (c.as_slice-4.ensures ∙ rw c.as_slice-params.ensures at (rw c.as_slice-indices.ensures at (rw c.as_slice.ensures at
    c.in_ok-locals.ensures.ok))) c.requires.typed.0 c.requires.typed.1 c.requires.locals

pub returns-clause-ok : goal.returns-clause-ok
returns-clause-ok c =
    same_explanation c.args.self.now c.requires.judge c.args.function.now c.args.body.now c.as_slice-4.result.now _
    c.scope-scope.ensures.parts
    (c.as_slice-4.ensures ∙ rw c.as_slice-params.ensures at (rw c.as_slice-indices.ensures at (rw c.as_slice.ensures at
    c.in_ok-locals.ensures.ok))) c.args.at c.explain.result c.as_slice-5.result.now (c.as_slice-5.ensures
    ∙ rw c.as_slice-indices.ensures at (rw c.as_slice-2.ensures at c.in_ok-instructions.ensures.ok)) c.explain.ensures.ok
