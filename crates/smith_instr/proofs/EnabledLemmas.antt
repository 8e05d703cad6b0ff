-- The features of instructions that name data segments.
use Rattle.std.specs.Prelude.{◌&&◌, IsTrue}
use Rattle.std.proofs.Common.{◌≡◌, Bool, true, false, refl}
use Rattle.std.proofs.lemmas.Bool.{false≢true}
use Rattle.smith_types.specs.Syntax.Features.{Features}
use Rattle.smith_types.specs.Syntax.instruction_kind.InstructionKinds.{InstructionKinds}
use Rattle.smith_instr.specs.Enabled.{IsEnabled, is_enabled, is_kind_enabled, names_data}
use Rattle.smith_instr.specs.declared.aggregate.AggregateInstr.TheVariants as aggregate
use Rattle.smith_instr.specs.declared.instr.Instr.{Instr}
use Rattle.smith_instr.specs.declared.instr.Instr.TheVariants as instr
use Rattle.smith_instr.specs.declared.memory.MemoryInstr.TheVariants as memory

first : (a b : Bool) → IsTrue (a && b) → a ≡ true
first true b both = refl
first false b both = absurd (false≢true both)

second_of_first : (a b c : Bool) → IsTrue ((a && b) && c) → b ≡ true
second_of_first true true c all = refl
second_of_first true false c all = absurd (false≢true all)
second_of_first false b c all = absurd (false≢true all)

pub data_has_bulk_memory : (features : Features) (kinds : InstructionKinds) (instruction : Instr) → IsTrue (names_data instruction)
    → IsEnabled features kinds instruction → features.bulk_memory ≡ true
unfolding is_enabled
data_has_bulk_memory features kinds (instr.Memory (memory.Init index segment)) names enabled =
    first features.bulk_memory (is_kind_enabled kinds (instr.Memory (memory.Init index segment))) enabled
data_has_bulk_memory features kinds (instr.Memory (memory.DataDrop segment)) names enabled =
    first features.bulk_memory (is_kind_enabled kinds (instr.Memory (memory.DataDrop segment))) enabled
data_has_bulk_memory features kinds (instr.Aggregate (aggregate.ArrayNewData ty segment)) names enabled =
    second_of_first features.gc features.bulk_memory (is_kind_enabled kinds (instr.Aggregate (aggregate.ArrayNewData ty segment))) enabled
data_has_bulk_memory features kinds (instr.Aggregate (aggregate.ArrayInitData ty segment)) names enabled =
    second_of_first features.gc features.bulk_memory (is_kind_enabled kinds (instr.Aggregate (aggregate.ArrayInitData ty segment))) enabled
data_has_bulk_memory features kinds _ names enabled = absurd (false≢true names)
