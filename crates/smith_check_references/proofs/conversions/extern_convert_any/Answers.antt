use Rattle.smith_types.specs.Syntax.value_type.AbstractHeapType.TheVariants as abstract
use Rattle.smith_instr.specs.declared.aggregate.AggregateInstr.TheVariants as aggregate
use Rattle.smith_instr.specs.declared.instr.Instr.TheVariants as instr
use Rattle.smith_check_references.proofs.Common.{bare, held, IsConverted}
use Rattle.smith_check_references.proofs.ConversionLemmas.{outwards_row}
use Rattle.smith_check_references.proofs.RowLemmas.{tried_one}
use Rattle.smith_check_references.proofs.conversions.extern_convert_any.Goals as goal

pub returns-clause-ok : goal.returns-clause-ok
returns-clause-ok c = λ labels set.
    tried_one (bare c.args.scope.now) labels (instr.Aggregate aggregate.ExternConvertAny) set (IsConverted abstract.Any abstract.Extern)
    (held c.args.operands.now) _ c.convert.result (outwards_row (bare c.args.scope.now) labels set) c.convert.ensures.ok
