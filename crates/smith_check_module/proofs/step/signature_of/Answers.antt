use Rattle.smith_check_module.proofs.Common.{sym, ◌∙◌}
use Rattle.smith_check_module.specs.ConstScopes.{context_of}
use Rattle.smith_check_module.proofs.SignatureLemmas.{best_from_only, fixed_only}
use Rattle.smith_check_module.proofs.step.signature_of.Goals as goal

pub context_signature-requires-clause-depends : goal.context_signature-requires-clause-depends
context_signature-requires-clause-depends c = sym c.in_ok-fixed.ensures.ok ∙ c.in-None.is

pub returns-in-Some-clause-ok : goal.returns-in-Some-clause-ok
returns-in-Some-clause-ok c =
    best_from_only (context_of c.args.scope.now) c.args.instruction c.args.before.now _ _
    (fixed_only (context_of c.args.scope.now) c.args.instruction c.in-Some.signature (sym c.in_ok-fixed.ensures.ok ∙ c.in-Some.is))
