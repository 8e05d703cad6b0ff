use Rattle.smith_check.proofs.Common.{◌≡◌}
use Rattle.std.proofs.Common.{true}
use Rattle.smith_check.proofs.JudgeLemmas.{body_read, many_judgement, rights_valid, untyped_judgement, wrong_judgement}
use Rattle.smith_check.proofs.functions.FunctionJudge.check_function.Goals as goal

pub returns-in-None-clause-decided : goal.returns-in-None-clause-decided
returns-in-None-clause-decided c =
    untyped_judgement c.args.self.now c.args.place c.requires.judge c.requires.before c.requires.inside c.in-None.ensures

pub returns-then-not-are_few-clause-decided : goal.returns-then-not-are_few-clause-decided
returns-then-not-are_few-clause-decided c =
    many_judgement c.args.self.now c.args.place c.requires.judge c.requires.before c.in-Some.function.now c.index-as_slice-place.result
    (record {
      typed = c.in-Some.ensures;
      held = body_read c.args.self.now.module.now.bodies c.as_slice.result.now c.args.place c.index-as_slice-place.result c.as_slice.ensures
          c.requires.inside c.index-as_slice-place.is;
    })
    (λ few. let yes : c.are_few.result ≡ true = c.are_few.ensures.1 (rw (c.len.ensures, c.as_slice-runs.ensures) few) in
    let no = c.if-not-are_few.true in cc (yes, no))

pub check_body_at-requires-clause-parts : goal.check_body_at-requires-clause-parts
check_body_at-requires-clause-parts c = record {
  typed = c.in-Some.ensures;
  held = body_read c.args.self.now.module.now.bodies c.as_slice.result.now c.args.place c.index-as_slice-place.result c.as_slice.ensures
      c.requires.inside c.index-as_slice-place.is;
}

pub check_body_at-requires-clause-locals : goal.check_body_at-requires-clause-locals
check_body_at-requires-clause-locals c =
    rights_valid c.args.self.now c.requires.judge c.index-as_slice-place.result c.types-end.result.now c.as_slice-2.result.now
    c.as_slice-runs.result.now c.types-end.ensures.value c.as_slice-2.ensures c.as_slice-runs.ensures c.in-None-first_wrong_run.ensures

pub returns-in-Some-first_wrong_run-clause-decided : goal.returns-in-Some-first_wrong_run-clause-decided
returns-in-Some-first_wrong_run-clause-decided c =
    wrong_judgement c.args.self.now c.requires.judge c.index-as_slice-place.result c.types-end.result.now c.as_slice-2.result.now
    c.as_slice-runs.result.now c.types-end.ensures.value c.as_slice-2.ensures c.as_slice-runs.ensures c.args.place
    c.in-Some-first_wrong_run.run' c.requires.before
    (body_read c.args.self.now.module.now.bodies c.as_slice.result.now c.args.place c.index-as_slice-place.result c.as_slice.ensures
    c.requires.inside c.index-as_slice-place.is) c.in-Some-first_wrong_run.ensures
