use Rattle.smith_check_branches.proofs.Common.{All, all_in_range, bare, IsValInRange, subst, sym}
use Rattle.smith_check_branches.proofs.CallLemmas.{matched_as}
use Rattle.smith_check_branches.proofs.tail_calls.returns_from.Goals as goal

pub values_fit-requires-clause-lower : goal.values_fit-requires-clause-lower
values_fit-requires-clause-lower c =
    subst (λ ts. All (IsValInRange c.args.scope.now.types.now.types) ts) (sym c.deref.ensures)
    (all_in_range (bare c.args.scope.now) c.args.function.now.results c.requires.results)

pub values_fit-requires-clause-upper : goal.values_fit-requires-clause-upper
values_fit-requires-clause-upper c = all_in_range (bare c.args.scope.now) c.args.scope.now.results.now c.requires.scope.results

pub returns : goal.returns
returns c =
    matched_as c.args.scope.now.types.now.types c.deref.result.now c.args.function.now.results c.args.scope.now.results.now
    c.values_fit.result c.deref.ensures c.values_fit.ensures
