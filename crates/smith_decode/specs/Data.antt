-- Data segments whose offset is any expression: the section Binary Format, Modules, Data Section,
-- of the WebAssembly Core Specification 3.0.
use Rattle.std.specs.Prelude.{◌≡◌, ℕ, List}
use Rattle.smith_decode.specs.Common.{Instr, IsIndex, IsList, IsNestedExpr, IsUnsigned, Joined}
use Rattle.smith_binary.specs.Pieces.{IsByte}
use Rattle.smith_binary_sections.specs.Data.{DataForm, data_number}
use Rattle.smith_binary_sections.specs.Data.DataForm.{first_memory, no_memory, named_memory}

-- the mode of a data segment (Structure, Data Segments)
pub data DataMode : Type 0 where
  passive : DataMode
  active : ℕ → List Instr → DataMode

-- a data segment in the abstract syntax (Structure, Data Segments)
pub record Data : Type 0 where
  pub bytes : List ℕ
  pub mode : DataMode

-- an offset, then bytes (Data Section)
abbrev pub IsPlaced : List Instr → List ℕ → List ℕ → Type 0
IsPlaced offset bytes = Joined (IsNestedExpr offset) (IsList IsByte bytes)

-- a data segment in one of the three forms, after the number of the form (Data Section)
abbrev pub IsInDataForm : DataForm → Data → List ℕ → Type 0
IsInDataForm first_memory d piece = (offset : List Instr) × (d.mode ≡ active 0 offset) × IsPlaced offset d.bytes piece
IsInDataForm no_memory d piece = (d.mode ≡ passive) × IsList IsByte d.bytes piece
IsInDataForm named_memory d piece =
    (memory : ℕ) × (offset : List Instr) × (d.mode ≡ active memory offset) × Joined (IsIndex memory) (IsPlaced offset d.bytes) piece

-- the number of a form, then a data segment in that form (Data Section)
abbrev pub IsDataIn : DataForm → Data → List ℕ → Type 0
IsDataIn form d = Joined (IsUnsigned 32 (data_number form)) (IsInDataForm form d)

-- a data segment (Data Section)
pub record IsData (d : Data) (piece : List ℕ) : Type 0 where
  pub form : DataForm
  pub spelled : IsDataIn form d piece
