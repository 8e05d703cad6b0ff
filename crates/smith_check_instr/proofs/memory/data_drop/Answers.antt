use Rattle.smith_check_instr.proofs.Common.{[], bare, held, refl, tried_values}
use Rattle.smith_instr.specs.declared.instr.Instr.TheVariants as instr
use Rattle.smith_instr.specs.declared.memory.MemoryInstr.TheVariants as memory
use Rattle.smith_check_instr.proofs.memory.data_drop.Goals as goal

pub returns-clause-ok : goal.returns-clause-ok
returns-clause-ok c = λ labels set.
    tried_values (bare c.args.scope.now) labels (instr.Memory (memory.DataDrop c.args.segment)) set [] [] [] []
    (held c.args.operands.now) _ c.apply.result (λ os rs t. t) (λ os rs t. t)
    (c.has_segment.ensures.0 c.if-not-has_segment.false, (refl, refl))
    (λ os rs t. let (there, fits) = t in fits)
    refl refl c.apply.ensures.ok
