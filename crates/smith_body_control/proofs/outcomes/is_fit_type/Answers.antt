use Rattle.smith_body_control.proofs.Common.{bare, func_there}
use Rattle.smith_body_control.proofs.outcomes.is_fit_type.Goals as goal

pub is_fit-requires-clause-results : goal.is_fit-requires-clause-results
is_fit-requires-clause-results c =
    let function = c.in-Some.function.now in
    c.requires.scope.results_valid c.args.index function (func_there (bare c.args.scope.now).types c.args.index function c.in-Some.ensures)
