use Rattle.smith_check_body.proofs.Common.{All, AreValid, bare, label_of, labels_of, reverse, subst, sym, ◌∷◌}
use Rattle.smith_check_body.proofs.CheckLemmas.{labels_valid}
use Rattle.smith_check_body.proofs.TryLemmas.{try_tried, try_uncaught_at}
use Rattle.smith_check_body.proofs.checker.Checker.open_try.Goals as goal

pub are_catches-requires-clause-labels : goal.are_catches-requires-clause-labels
are_catches-requires-clause-labels c =
    subst (λ fs. All (AreValid (bare c.args.scope.now)) (label_of c.args.self.now.shape ∷ labels_of (reverse fs)))
    (sym c.deref.ensures.value) (labels_valid (bare c.args.scope.now) c.args.self.now c.requires.well)

pub returns-then-not-are_catches-clause-ok : goal.returns-then-not-are_catches-clause-ok
returns-then-not-are_catches-clause-ok c =
    try_uncaught_at (bare c.args.scope.now) c.args.ty.now c.args.clauses.now c.args.self.now c.deref.result.now c.are_catches.result
    c.deref.ensures.value c.if-not-are_catches.true c.are_catches.ensures

pub returns-clause-ok : goal.returns-clause-ok
returns-clause-ok c =
    try_tried (bare c.args.scope.now) c.args.ty.now c.args.clauses.now c.args.self.now c.open.new.self c.deref.result.now
    c.are_catches.result c.open.result c.deref.ensures.value c.if-not-are_catches.false c.are_catches.ensures c.open.ensures.ok
