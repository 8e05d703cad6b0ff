use Rattle.std.proofs.Common.{take_all, rules, subst}
use Rattle.std.specs.List.{All}
use Rattle.std.proofs.lemmas.List.Elements.{All-more}
use Rattle.smith_config.specs.Faults.{HasFault, faults}
use Rattle.smith_config.proofs.FaultLemmas.{no_fault, passes-no_fault, first_fault}
use Rattle.smith_config.proofs.config.Config.check.Goals as goal

pub returns-then-has_fault-clause-passes : goal.returns-then-has_fault-clause-passes
returns-then-has_fault-clause-passes c =
    (λ e. search rules, λ p. absurd (no_fault _ p _ (c.has_fault.ensures.0 c.if-has_fault.true)))

pub returns-then-has_fault-clause-fault : goal.returns-then-has_fault-clause-fault
returns-then-has_fault-clause-fault c =
    first_fault _ _ _ c.loop-fault-test.true c.loop-fault.invariant (c.has_fault.ensures.0 c.if-has_fault.true)

pub loop-fault-preserved : goal.loop-fault-preserved
loop-fault-preserved c =
    All-more (λ fault. ¬ HasFault c.args.self.now fault) faults _ _ c.loop-fault-test.true c.loop-fault.invariant
    (λ h. let yes = c.has_fault.ensures.1 h in let no = c.if-has_fault.false in search rules)

pub returns-clause-passes : goal.returns-clause-passes
returns-clause-passes c = (
  λ _. passes-no_fault c.args.self.now
      (subst (All (λ fault. ¬ HasFault c.args.self.now fault)) (take_all _ faults c.loop-fault-test.false) c.loop-fault.invariant),
  λ _. search rules,
)
