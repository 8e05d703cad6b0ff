use Rattle.smith_check_body.proofs.Common.{All, bare, subst, sym}
use Rattle.smith_check_operands.proofs.RangeLemmas.{all_in_range}
use Rattle.smith_types.specs.Subtyping.{IsValInRange}
use Rattle.smith_check_operands.proofs.EndLemmas.{may_end_if}
use Rattle.smith_check_body.proofs.blocks.may_end.Goals as goal

pub returns-in-If : goal.returns-in-If
returns-in-If c =
    rw c.in-If.is (may_end_if (bare c.args.scope.now) c.args.shape.now.params c.args.shape.now.results c.deref.result.now
    c.deref-in-If.result.now c.values_fit.result
    c.deref.ensures c.deref-in-If.ensures c.requires.results c.values_fit.ensures)

pub values_fit-requires-clause-lower : goal.values_fit-requires-clause-lower
values_fit-requires-clause-lower c =
    subst (λ vs. All (IsValInRange c.args.scope.now.types.now.types) vs) (sym c.deref.ensures)
    (all_in_range (bare c.args.scope.now) c.args.shape.now.params c.requires.params)

pub values_fit-requires-clause-upper : goal.values_fit-requires-clause-upper
values_fit-requires-clause-upper c =
    subst (λ vs. All (IsValInRange c.args.scope.now.types.now.types) vs) (sym c.deref-in-If.ensures)
    (all_in_range (bare c.args.scope.now) c.args.shape.now.results c.requires.results)
