use Rattle.smith_check.proofs.Common.{ap, arith, length, ◌≡◌}
use Rattle.smith_check.proofs.JudgeLemmas.{body_read, explained, rights_valid}
use Rattle.smith_check.proofs.functions.FunctionJudge.explain.Goals as goal

pub explanation-requires-clause-locals : goal.explanation-requires-clause-locals
explanation-requires-clause-locals c =
    rights_valid c.args.self.now c.requires c.index-bodies-place.result c.types-end.result.now c.as_slice.result.now
    c.as_slice-runs.result.now c.types-end.ensures.value c.as_slice.ensures c.as_slice-runs.ensures c.in-None-first_wrong_run.ensures

pub returns-in-None-first_wrong_run-clause-ok : goal.returns-in-None-first_wrong_run-clause-ok
returns-in-None-first_wrong_run-clause-ok c =
    let long : length c.as_slice-bodies.result.now ≡ length c.args.self.now.module.now.bodies =
    ap (λ bs. length bs) c.as_slice-bodies.ensures in
    explained c.args.self.now c.args.place c.args.at c.requires c.in-Some.function.now c.index-bodies-place.result (record {
      typed = c.in-Some.ensures;
      held = body_read c.args.self.now.module.now.bodies c.as_slice-bodies.result.now c.args.place c.index-bodies-place.result
          c.as_slice-bodies.ensures (omega (arith, long)) c.index-bodies-place.is;
    }) c.explanation.result c.explanation.ensures.ok
