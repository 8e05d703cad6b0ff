-- Immediates of control instructions: the section Binary Format, Instructions, Control
-- Instructions, of the WebAssembly Core Specification 3.0.
use Rattle.std.specs.Prelude.{ℕ, Bool, true, false, List, pos}
use Rattle.smith_binary_instr.specs.Common.{any, IsByte, IsIndexIn, Joined, Spelling}
use Rattle.smith_binary.specs.Spelling.{IsSignedIn}
use Rattle.smith_binary_sections.specs.Types.{IsHeapTypeIn, IsValTypeIn}
use Rattle.smith_instr.specs.declared.control.BranchCast.{BranchCast}
use Rattle.smith_instr.specs.declared.control.BlockType.{BlockType}
use Rattle.smith_instr.specs.declared.control.BlockType.TheVariants as block
use Rattle.smith_instr.specs.declared.control.Catch.{Catch}
use Rattle.smith_instr.specs.declared.control.Catch.TheVariants as catch

-- a block type: a byte, a value type, or a type index as a signed integer that is not negative
-- (Control Instructions)
abbrev pub IsBlockTypeIn : Spelling → BlockType → List ℕ → Type 0
IsBlockTypeIn spelling block.Empty piece = IsByte 0x40 piece
IsBlockTypeIn spelling (block.Value value) piece = IsValTypeIn spelling value piece
IsBlockTypeIn spelling (block.Func index) piece = IsSignedIn spelling 33 (pos index) piece

abbrev pub IsBlockType : BlockType → List ℕ → Type 0
IsBlockType = IsBlockTypeIn any

-- a clause of `try_table` (Control Instructions)
abbrev pub IsCatchIn : Spelling → Catch → List ℕ → Type 0
IsCatchIn spelling (catch.One tag label) piece = Joined (IsByte 0x00) (Joined (IsIndexIn spelling tag) (IsIndexIn spelling label)) piece
IsCatchIn spelling (catch.OneRef tag label) piece = Joined (IsByte 0x01) (Joined (IsIndexIn spelling tag) (IsIndexIn spelling label)) piece
IsCatchIn spelling (catch.All label) piece = Joined (IsByte 0x02) (IsIndexIn spelling label) piece
IsCatchIn spelling (catch.AllRef label) piece = Joined (IsByte 0x03) (IsIndexIn spelling label) piece

abbrev pub IsCatch : Catch → List ℕ → Type 0
IsCatch = IsCatchIn any

-- the byte of a cast, which has the nullability of its source and of its target type (Control
-- Instructions)
abbrev pub cast_byte : Bool → Bool → ℕ
cast_byte false false = 0x00
cast_byte true false = 0x01
cast_byte false true = 0x02
cast_byte true true = 0x03

-- the immediates of a branch on a cast: the byte with the nullability of both types, the label, and
-- both heap types (Control Instructions)
abbrev pub IsBranchCastIn : Spelling → BranchCast → List ℕ → Type 0
IsBranchCastIn spelling cast =
    Joined (IsByte (cast_byte cast.from.nullable cast.to.nullable))
    (Joined (IsIndexIn spelling cast.label) (Joined (IsHeapTypeIn spelling cast.from.heap_type) (IsHeapTypeIn spelling cast.to.heap_type)))

abbrev pub IsBranchCast : BranchCast → List ℕ → Type 0
IsBranchCast = IsBranchCastIn any
