use Rattle.smith_check_body.proofs.Common.{All, ap, append-nil, AreValid, bare, held, label_of, labels_of, refl, reverse, subst, sym, ◌++◌}
use Rattle.smith_check_body.proofs.Common.{◌∙◌, ◌∷◌}
use Rattle.smith_check_body.proofs.CheckLemmas.{labels_valid, plain_refused, plain_taken}
use Rattle.smith_check_body.proofs.checker.Checker.plain.Goals as goal

pub step-requires-clause-labels : goal.step-requires-clause-labels
step-requires-clause-labels c =
    subst (λ fs. All (AreValid (bare c.args.scope.now)) (label_of c.args.self.now.shape ∷ labels_of (reverse fs)))
    (sym c.deref.ensures.value)
    (labels_valid (bare c.args.scope.now) c.args.self.now c.requires.well)

pub returns-then-not-taken-clause-ok : goal.returns-then-not-taken-clause-ok
returns-then-not-taken-clause-ok c =
    plain_refused (bare c.args.scope.now) c.args.instr.now c.args.self.now c.deref.result.now c.args.self.now.log.items c.in_ok-taken.taken
    (held c.step.new.operands) c.requires.plain
    c.deref.ensures.value refl c.if-not-taken.true c.in_ok-taken.ensures.ok

pub returns-in_ok-push-in-Some-clause-ok : goal.returns-in_ok-push-in-Some-clause-ok
returns-in_ok-push-in-Some-clause-ok c =
    plain_taken (bare c.args.scope.now) c.args.instr.now c.args.self.now _ c.deref.result.now c.args.self.now.log.items c.in_ok-taken.taken
    c.requires.plain c.requires.well
    c.deref.ensures.value refl c.if-not-taken.false c.in_ok-taken.ensures.ok
    (record {
      shape = refl;
      log = c.in_ok-push-in-Some.ensures.ok ∙ ap (λ ys. c.args.self.now.log.items ++ ys) c.in-Some.ensures;
      height = refl;
      outers = refl;
    })

pub returns-in-None-clause-ok : goal.returns-in-None-clause-ok
returns-in-None-clause-ok c =
    plain_taken (bare c.args.scope.now) c.args.instr.now c.args.self.now _ c.deref.result.now c.args.self.now.log.items c.in_ok-taken.taken
    c.requires.plain c.requires.well
    c.deref.ensures.value refl c.if-not-taken.false c.in_ok-taken.ensures.ok
    (record {
      shape = refl;
      log = sym (append-nil c.args.self.now.log.items) ∙ ap (λ ys. c.args.self.now.log.items ++ ys) c.in-None.ensures;
      height = refl;
      outers = refl;
    })
