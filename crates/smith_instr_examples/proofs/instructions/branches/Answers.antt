use Rattle.smith_instr_examples.proofs.Common.{[], refl, not_null, plain}
use Rattle.smith_types.specs.Syntax.value_type.AbstractHeapType.TheVariants as heap
use Rattle.smith_instr_examples.proofs.instructions.branches.Goals as goal

pub returns-clause-br_on_non_null : goal.returns-clause-br_on_non_null
returns-clause-br_on_non_null c = ([], not_null (plain heap.Func), refl, (refl, refl))
