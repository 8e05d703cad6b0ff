-- Reference and table instructions: the sections Binary Format, Instructions, Reference
-- Instructions and Table Instructions, of the WebAssembly Core Specification 3.0.
use Rattle.std.specs.Prelude.{ℕ, ◌+◌, Bool, true, false, List}
use Rattle.smith_binary_instr.specs.Common.{any, IsByte, IsIndexIn, IsPrefixedIn, Joined, Spelling}
use Rattle.smith_types.specs.Syntax.value_type.RefType.{RefType}
use Rattle.smith_binary_sections.specs.Types.{IsHeapTypeIn}
use Rattle.smith_instr.specs.declared.reference.ReferenceInstr.{ReferenceInstr}
use Rattle.smith_instr.specs.declared.reference.ReferenceInstr.TheVariants as reference
use Rattle.smith_instr.specs.declared.table.TableInstr.{TableInstr}
use Rattle.smith_instr.specs.declared.table.TableInstr.TheVariants as table

-- the number of a test or a cast: `first` for a non-nullable target type, `first + 1` for a
-- nullable one (Reference Instructions)
abbrev pub cast_number : ℕ → Bool → ℕ
cast_number first false = first
cast_number first true = first + 1

-- a test or a cast, with its target type (Reference Instructions)
abbrev pub IsCastIn : Spelling → ℕ → RefType → List ℕ → Type 0
IsCastIn spelling first ty = Joined (IsPrefixedIn spelling 0xFB (cast_number first ty.nullable)) (IsHeapTypeIn spelling ty.heap_type)

abbrev pub IsCast : ℕ → RefType → List ℕ → Type 0
IsCast = IsCastIn any

-- a reference instruction (Reference Instructions)
abbrev pub IsReferenceIn : Spelling → ReferenceInstr → List ℕ → Type 0
IsReferenceIn spelling (reference.Null heap) piece = Joined (IsByte 0xD0) (IsHeapTypeIn spelling heap) piece
IsReferenceIn spelling reference.IsNull piece = IsByte 0xD1 piece
IsReferenceIn spelling (reference.Func function) piece = Joined (IsByte 0xD2) (IsIndexIn spelling function) piece
IsReferenceIn spelling reference.Eq piece = IsByte 0xD3 piece
IsReferenceIn spelling reference.AsNonNull piece = IsByte 0xD4 piece
IsReferenceIn spelling (reference.Test ty) piece = IsCastIn spelling 20 ty piece
IsReferenceIn spelling (reference.Cast ty) piece = IsCastIn spelling 22 ty piece

abbrev pub IsReference : ReferenceInstr → List ℕ → Type 0
IsReference = IsReferenceIn any

-- a table instruction (Table Instructions)
abbrev pub IsTableIn : Spelling → TableInstr → List ℕ → Type 0
IsTableIn spelling (table.Get index) piece = Joined (IsByte 0x25) (IsIndexIn spelling index) piece
IsTableIn spelling (table.Set index) piece = Joined (IsByte 0x26) (IsIndexIn spelling index) piece
IsTableIn spelling (table.Init index segment) piece = Joined (IsPrefixedIn spelling 0xFC 12)
    (Joined (IsIndexIn spelling segment) (IsIndexIn spelling index)) piece
IsTableIn spelling (table.ElemDrop segment) piece = Joined (IsPrefixedIn spelling 0xFC 13) (IsIndexIn spelling segment) piece
IsTableIn spelling (table.Copy to from) piece = Joined (IsPrefixedIn spelling 0xFC 14)
    (Joined (IsIndexIn spelling to) (IsIndexIn spelling from)) piece
IsTableIn spelling (table.Grow index) piece = Joined (IsPrefixedIn spelling 0xFC 15) (IsIndexIn spelling index) piece
IsTableIn spelling (table.Size index) piece = Joined (IsPrefixedIn spelling 0xFC 16) (IsIndexIn spelling index) piece
IsTableIn spelling (table.Fill index) piece = Joined (IsPrefixedIn spelling 0xFC 17) (IsIndexIn spelling index) piece

abbrev pub IsTable : TableInstr → List ℕ → Type 0
IsTable = IsTableIn any
