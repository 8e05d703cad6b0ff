use Rattle.std.proofs.lemmas.Result.{IfErr-weaker}
use Rattle.smith_custom_sections.proofs.FitLemmas.{all_fit, only_memory}
use Rattle.smith_custom_sections.proofs.addition.insert_short.Goals as goal

pub returns-clause-memory : goal.returns-clause-memory
returns-clause-memory c =
    IfErr-weaker c.insert_custom_sections.result _ _ (λ e fault. only_memory e (all_fit c.args.customs.now c.requires.short) fault)
    c.insert_custom_sections.ensures.fault
