-- Readings of instructions: the section Binary Format, Instructions, of the WebAssembly Core
-- Specification 3.0.
use Rattle.std.specs.Prelude.{ℕ, nat_lt, ◌==◌, if◌then◌else◌, List}
use Rattle.smith_binary_read_instr.specs.Common.{byte_at, fault_at, Instr, Reading, UnknownByte, ◌>>=◌}
use Rattle.smith_binary_read_instr.specs.NumericReadings.{const_at, numeric_at}
use Rattle.smith_binary_read_instr.specs.ControlReadings.{block_at, branch_at, call_at, parametric_at, variable_at}
use Rattle.smith_binary_read_instr.specs.ReferenceReadings.{reference_at}
use Rattle.smith_binary_read_instr.specs.MemoryReadings.{access_at, bulk_at}
use Rattle.smith_binary_read_instr.specs.AggregateReadings.{aggregate_at}
use Rattle.smith_binary_read_instr.specs.VectorReadings.{vector_instr_at}
use Rattle.smith_binary_read_instr.specs.AtomicReadings.{atomic_at}

-- reads an instruction whose first byte is below 0x41
unfoldable pub low_instr_at : ℕ → List ℕ → Reading Instr
low_instr_at byte bytes =
    if nat_lt byte 0x0C then block_at bytes
    else (if nat_lt byte 0x10 then branch_at bytes
    else (if nat_lt byte 0x16 then call_at bytes
    else (if nat_lt byte 0x20 then parametric_at bytes
    else (if nat_lt byte 0x28 then variable_at bytes
    else access_at bytes))))

-- reads an instruction whose first byte is at least 0x41, and not a prefix
unfoldable pub high_instr_at : ℕ → List ℕ → Reading Instr
high_instr_at byte bytes =
    if nat_lt byte 0x45 then const_at bytes
    else (if nat_lt byte 0xC5 then numeric_at bytes
    else reference_at bytes)

-- reads an instruction after its prefix, from 0xFB up to 0xFE
unfoldable pub prefixed_at : ℕ → List ℕ → Reading Instr
prefixed_at prefix bytes =
    if prefix == 0xFB then aggregate_at bytes
    else (if prefix == 0xFC then bulk_at bytes
    else (if prefix == 0xFD then vector_instr_at bytes
    else atomic_at bytes))

-- reads an instruction
unfoldable pub instr_at : List ℕ → Reading Instr
instr_at bytes = byte_at bytes >>= (λ byte.
    if nat_lt byte.0 0x41 then low_instr_at byte.0 bytes
    else (if nat_lt byte.0 0xFB then high_instr_at byte.0 bytes
    else (if nat_lt byte.0 0xFF then prefixed_at byte.0 byte.1
    else fault_at UnknownByte bytes)))
