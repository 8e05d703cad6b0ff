-- Modules of the examples.
use Rattle.std.specs.Prelude.{List, [], ◌∷◌, ℕ, true, false, Some, None, pos}
use Rattle.smith_decode.specs.Common.{Instr, MemoryType}
use Rattle.smith_instr.specs.declared.instr.Instr.TheVariants as instr
use Rattle.smith_instr.specs.declared.memory.MemoryInstr.TheVariants.{DataDrop}
use Rattle.smith_instr.specs.declared.numeric.IntUnary.TheVariants.{Ctz}
use Rattle.smith_instr.specs.declared.numeric.NumericInstr.TheVariants.{I32Unary}
use Rattle.smith_binary_read.specs.ExampleTypes.{sub_type}
use Rattle.smith_decode.specs.BodyReadings.{body_of}
use Rattle.smith_decode.specs.declared.modules.Module.{Module}

-- an empty module
abbrev pub no_item : Module
no_item = record {
  types = [];
  further_supertypes = [];
  imports = [];
  functions = [];
  tables = [];
  memories = [];
  tags = [];
  globals = [];
  exports = [];
  start = None;
  elements = [];
  data_count = None;
  bodies = [];
  datas = [];
  customs = [];
}

-- the magic number, the version, then bytes
abbrev pub after_preamble : List ℕ → List ℕ
after_preamble bytes = 0x00 ∷ 0x61 ∷ 0x73 ∷ 0x6D ∷ 0x01 ∷ 0x00 ∷ 0x00 ∷ 0x00 ∷ bytes

-- an expression with an instruction that is not constant
abbrev pub ctz : List Instr
ctz = instr.I32Const (pos 1) ∷ instr.Numeric (I32Unary Ctz) ∷ []

-- a code section with one body, `data.drop 0`
abbrev pub one_drop : List ℕ
one_drop = 0x0A ∷ 0x07 ∷ 0x01 ∷ 0x05 ∷ 0x00 ∷ 0xFC ∷ 0x09 ∷ 0x00 ∷ 0x0B ∷ []

-- a module with that body and a data count section with the number 0
abbrev pub dropping : Module
dropping = record no_item {
  functions = 0 ∷ [];
  data_count = Some 0;
  bodies = body_of [] (instr.Memory (DataDrop 0) ∷ []) ∷ [];
}

-- the bytes of that module
abbrev pub dropping_bytes : List ℕ
dropping_bytes = after_preamble (0x03 ∷ 0x02 ∷ 0x01 ∷ 0x00 ∷ 0x0C ∷ 0x01 ∷ 0x00 ∷ one_drop)

-- a memory with 64-bit addresses, and a module with that memory
abbrev pub wide_memory : MemoryType
wide_memory = record { minimum = 0; maximum = None; memory64 = true; shared = false; page_size_log2 = None }

abbrev pub of_wide_memory : Module
of_wide_memory = record no_item { memories = wide_memory ∷ [] }

-- a type section with one type, which has the supertypes 0 and 1
abbrev pub two_supertypes : List ℕ
two_supertypes = 0x01 ∷ 0x07 ∷ 0x01 ∷ 0x50 ∷ 0x02 ∷ 0x00 ∷ 0x01 ∷ 0x5F ∷ 0x00 ∷ []

-- a module with that type
abbrev pub of_two_supertypes : Module
of_two_supertypes = record no_item { types = (sub_type (Some 0) ∷ []) ∷ []; further_supertypes = ((1 ∷ []) ∷ []) ∷ [] }
