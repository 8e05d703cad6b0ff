use Rattle.smith_binary_read_instr.proofs.Common.{each_at, refl, unsigned_at}
use Rattle.smith_binary_read.specs.Contents.{list_at}
use Rattle.smith_binary_read_instr.specs.ControlReadings.{block_at, branch_at, parametric_at}
use Rattle.smith_binary_read_instr.specs.MemoryReadings.{access_at, mem_arg_at, load_of, bulk_at}
use Rattle.smith_binary_read_instr.specs.NumericReadings.{saturating_of}
use Rattle.smith_binary_read_instr.specs.AtomicReadings.{atomic_at, atomic_of, access_of, fence_at}
use Rattle.smith_binary_read_instr.specs.InstrReadings.{instr_at, low_instr_at, prefixed_at}
use Rattle.smith_binary_read_instr.proofs.examples.instructions.Goals as goal

pub returns-clause-table : goal.returns-clause-table
unfolding unsigned_at each_at list_at branch_at instr_at low_instr_at
returns-clause-table c = refl

pub returns-clause-no_type : goal.returns-clause-no_type
unfolding unsigned_at each_at list_at parametric_at instr_at low_instr_at
returns-clause-no_type c = refl

pub returns-clause-named_memory : goal.returns-clause-named_memory
unfolding unsigned_at access_at mem_arg_at load_of instr_at low_instr_at
returns-clause-named_memory c = refl

pub returns-clause-no_alignment : goal.returns-clause-no_alignment
unfolding unsigned_at access_at mem_arg_at instr_at low_instr_at
returns-clause-no_alignment c = refl

pub returns-clause-no_opcode : goal.returns-clause-no_opcode
unfolding block_at instr_at low_instr_at
returns-clause-no_opcode c = refl

pub returns-clause-no_number : goal.returns-clause-no_number
unfolding unsigned_at bulk_at saturating_of instr_at prefixed_at
returns-clause-no_number c = refl

pub returns-clause-fence : goal.returns-clause-fence
unfolding unsigned_at atomic_at atomic_of access_of fence_at instr_at prefixed_at
returns-clause-fence c = refl
