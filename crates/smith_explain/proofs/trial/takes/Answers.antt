use Rattle.std.proofs.Common.{◌∷◌, sym, subst, reverse}
use Rattle.std.specs.Prelude.{All}
use Rattle.smith_instr.specs.Contexts.{AreValid}
use Rattle.smith_check_operands.specs.Scopes.{bare}
use Rattle.smith_check_operands.specs.Closes.{label_of, labels_of}
use Rattle.smith_check_operands.specs.Covers.{held}
use Rattle.smith_check_body.proofs.CheckLemmas.{labels_valid}
use Rattle.smith_explain.proofs.TakingLemmas.{tried_taking}
use Rattle.smith_explain.proofs.trial.takes.Goals as goal

pub step-requires-clause-labels : goal.step-requires-clause-labels
step-requires-clause-labels c =
    subst (λ fs. All (AreValid (bare c.args.scope.now)) (label_of c.args.checker.now.shape ∷ labels_of (reverse fs)))
    (sym c.deref.ensures.value)
    (labels_valid (bare c.args.scope.now) c.args.checker.now c.requires.well)

pub returns-clause-ok : goal.returns-clause-ok
returns-clause-ok c =
    tried_taking (bare c.args.scope.now) c.args.checker.now c.args.instr.now c.args.wanted.now c.step.result (held c.step.new.operands)
    c.requires.plain (rw (c.deref.ensures.value, c.in_ok-from_slice.ensures.items) at c.step.ensures.ok)
