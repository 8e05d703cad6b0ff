use Rattle.std.proofs.Common.{◌∷◌, sym, subst, reverse}
use Rattle.std.specs.Prelude.{All}
use Rattle.smith_instr.specs.Contexts.{AreValid}
use Rattle.smith_check_operands.specs.Scopes.{bare}
use Rattle.smith_check_operands.specs.Closes.{label_of, labels_of}
use Rattle.smith_check_body.proofs.CheckLemmas.{labels_valid}
use Rattle.smith_explain.proofs.body.operands_cause.Goals as goal

pub are_catches-requires-clause-labels : goal.are_catches-requires-clause-labels
are_catches-requires-clause-labels c =
    subst (λ fs. All (AreValid (bare c.args.scope.now)) (label_of c.args.checker.now.shape ∷ labels_of (reverse fs)))
    (sym c.deref.ensures.value)
    (labels_valid (bare c.args.scope.now) c.args.checker.now c.requires.well)
