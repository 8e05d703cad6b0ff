use Rattle.smith_check_instr.proofs.Common.{All, AreValid, bare, held, IsValInRange, refl, subst, sym, tried_values}
use Rattle.smith_instr.specs.NumericTypes.{signature}
use Rattle.smith_instr.specs.declared.instr.Instr.TheVariants as instr
use Rattle.smith_check_operands.proofs.RangeLemmas.{signature_in_range, signature_valid}
use Rattle.smith_check_instr.proofs.constants.numeric.Goals as goal

pub apply-requires-clause-expected : goal.apply-requires-clause-expected
apply-requires-clause-expected c = subst (λ ts. All (IsValInRange c.args.scope.now.types.now.types) ts) (sym c.operands.ensures)
    (signature_in_range c.args.scope.now.types.now.types c.args.op)

pub apply-requires-clause-valid : goal.apply-requires-clause-valid
apply-requires-clause-valid c = subst (λ ts. AreValid (bare c.args.scope.now) ts) (sym c.results.ensures)
    (signature_valid (bare c.args.scope.now) c.args.op)

pub returns-clause-ok : goal.returns-clause-ok
returns-clause-ok c = λ labels set.
    tried_values (bare c.args.scope.now) labels (instr.Numeric c.args.op) set (signature c.args.op).operands (signature c.args.op).results
    c.operands.result.now c.results.result.now (held c.args.operands.now) _ c.apply.result (λ os rs t. t) (λ os rs t. t)
    (refl, refl)
    (λ os rs t. t)
    c.operands.ensures c.results.ensures c.apply.ensures.ok
