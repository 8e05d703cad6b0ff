use Rattle.smith_check_module.proofs.Common.{[], ap, arith, false≢true, sym, ◌++◌, ◌-◌, ◌∙◌, ◌∷◌}
use Rattle.smith_check_module.specs.ConstScopes.{context_of}
use Rattle.smith_check_module.proofs.StepLemmas.{apart, applied, part_stands, short}
use Rattle.smith_check_module.proofs.step.apply.Goals as goal

pub returns-then-wanted-height-clause-ok : goal.returns-then-wanted-height-clause-ok
returns-then-wanted-height-clause-ok c = short (context_of c.args.scope.now) c.args.signature.now c.args.stack.now.items (omega arith)

pub values_fit-requires-clause-lower : goal.values_fit-requires-clause-lower
values_fit-requires-clause-lower c = part_stands (context_of c.args.scope.now) c.args.stack.now.items c.deref.result.now _ _
    c.deref.ensures.value c.requires.stand

pub returns-then-not-values_fit-clause-ok : goal.returns-then-not-values_fit-clause-ok
returns-then-not-values_fit-clause-ok c =
    apart (context_of c.args.scope.now) c.args.signature.now c.args.stack.now.items c.deref.result.now
    (c.len-height.result - c.len-wanted.result) c.deref.ensures.value (omega arith)
    (λ fit. false≢true (sym c.if-not-values_fit.true ∙ c.values_fit.ensures.1 (rw c.as_slice.ensures fit)))

pub returns-clause-ok : goal.returns-clause-ok
returns-clause-ok c =
    applied (context_of c.args.scope.now) c.args.signature.now c.args.stack.now.items c.deref.result.now c.push.new.self.items
    (c.len-height.result - c.len-wanted.result) c.deref.ensures.value
    (rw c.as_slice.ensures at (c.values_fit.ensures.0 c.if-not-values_fit.false))
    (c.in_ok-push.ensures.items ∙ ap (λ vs. vs ++ c.args.signature.now.result ∷ []) c.truncate.ensures.items)
