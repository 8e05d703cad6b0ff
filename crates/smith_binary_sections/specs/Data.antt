-- Data segments: the section Binary Format, Modules, Data Section, of the WebAssembly Core
-- Specification 3.0.
use Rattle.std.specs.Prelude.{◌≡◌, ◌==◌, ℕ, List, if◌then◌else◌}
use Rattle.smith_binary_sections.specs.Common.{any, ConstInstr, IsByte, IsListIn, IsUnsignedIn, Joined, Spelling}
use Rattle.smith_types.specs.Syntax.segments.DataSegment.{DataSegment}
use Rattle.smith_types.specs.Syntax.segments.DataSegmentKind.{DataSegmentKind}
use Rattle.smith_types.specs.Syntax.segments.DataSegmentKind.TheVariants.{Passive, Active}
use Rattle.smith_binary_sections.specs.Instructions.{offset_of, IsExpressionIn, IsIndexIn}

-- the mode of a data segment (Structure, Data Segments)
pub data DataMode : Type 0 where
  passive : DataMode
  active : ℕ → List ConstInstr → DataMode

-- a data segment in the abstract syntax (Structure, Data Segments)
pub record Data : Type 0 where
  pub bytes : List ℕ
  pub mode : DataMode

-- the three forms of a data segment (Data Section)
pub data DataForm : Type 0 where
  first_memory : DataForm
  no_memory : DataForm
  named_memory : DataForm

-- the number of a form of a data segment (Data Section)
abbrev pub data_number : DataForm → ℕ
data_number first_memory = 0
data_number no_memory = 1
data_number named_memory = 2

-- a data segment in a form, after the number of the form (Data Section)
abbrev pub IsInDataFormIn : Spelling → DataForm → Data → List ℕ → Type 0
IsInDataFormIn spelling first_memory d piece =
    (offset : List ConstInstr) × (d.mode ≡ active 0 offset) × Joined (IsExpressionIn spelling offset) (IsListIn spelling IsByte d.bytes)
    piece
IsInDataFormIn spelling no_memory d piece = (d.mode ≡ passive) × IsListIn spelling IsByte d.bytes piece
IsInDataFormIn spelling named_memory d piece =
    (memory : ℕ) × (offset : List ConstInstr) × (d.mode ≡ active memory offset)
    × Joined (IsIndexIn spelling memory) (Joined (IsExpressionIn spelling offset) (IsListIn spelling IsByte d.bytes)) piece

abbrev pub IsInDataForm : DataForm → Data → List ℕ → Type 0
IsInDataForm = IsInDataFormIn any

-- the number of a form, then a data segment in that form (Data Section)
abbrev pub IsDataFormIn : Spelling → DataForm → Data → List ℕ → Type 0
IsDataFormIn spelling form d = Joined (IsUnsignedIn spelling 32 (data_number form)) (IsInDataFormIn spelling form d)

-- the number of a form, then a data segment in that form, in any spelling (Data Section)
abbrev pub IsDataIn : DataForm → Data → List ℕ → Type 0
IsDataIn = IsDataFormIn any

-- a data segment: the number of a form, then the segment in that form (Data Section)
pub record IsData (d : Data) (piece : List ℕ) : Type 0 where
  pub form : DataForm
  pub spelled : IsDataIn form d piece

-- the mode of a data segment in the abstract syntax (Structure, Data Segments)
abbrev pub data_mode : DataSegmentKind → DataMode
data_mode Passive = passive
data_mode (Active memory offset) = active memory (offset_of offset)

-- a data segment in the abstract syntax (Structure, Data Segments)
abbrev pub data_of : DataSegment → Data
data_of segment = record { bytes = segment.init; mode = data_mode segment.kind }

-- the written form of an active data segment: it does not name memory 0 (own rule)
abbrev pub active_data_form : ℕ → DataForm
active_data_form memory = if memory == 0 then first_memory else named_memory

-- the written form of a data segment (Data Section)
abbrev pub data_form : DataSegmentKind → DataForm
data_form Passive = no_memory
data_form (Active memory offset) = active_data_form memory

-- a data segment as it is written (own rule)
abbrev pub IsDataWrittenIn : Spelling → DataSegment → List ℕ → Type 0
IsDataWrittenIn spelling segment = IsDataFormIn spelling (data_form segment.kind) (data_of segment)

abbrev pub IsDataWritten : DataSegment → List ℕ → Type 0
IsDataWritten = IsDataWrittenIn any
