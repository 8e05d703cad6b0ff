-- Segments of the examples.
use Rattle.std.specs.Prelude.{List, [], ◌∷◌, pos}
use Rattle.smith_types.specs.ExampleTypes.{plain}
use Rattle.smith_types.specs.Flags.{funcref}
use Rattle.smith_types.specs.Syntax.const_instr.ConstInstr.{ConstInstr}
use Rattle.smith_types.specs.Syntax.const_instr.ConstInstr.TheVariants.{RefNull}
use Rattle.smith_types.specs.Syntax.segments.DataSegment.{DataSegment}
use Rattle.smith_types.specs.Syntax.segments.DataSegmentKind.{DataSegmentKind}
use Rattle.smith_types.specs.Syntax.segments.ElementKind.{ElementKind}
use Rattle.smith_types.specs.Syntax.segments.ElementSegment.{ElementSegment}
use Rattle.smith_types.specs.Syntax.segments.Elements.TheVariants.{Functions}
use Rattle.smith_types.specs.Syntax.segments.Offset.{Offset}
use Rattle.smith_types.specs.Syntax.segments.Offset.TheVariants.{Const32}
use Rattle.smith_types.specs.Syntax.value_type.AbstractHeapType.TheVariants as heap

-- the offset of the start of a table or a memory
abbrev pub start : Offset
start = Const32 (pos 0)

-- a null reference to a function
abbrev pub no_function : List ConstInstr
no_function = RefNull (plain heap.Func) ∷ []

-- the first function as a list, and a byte
abbrev pub a_function : ElementKind → ElementSegment
a_function kind = record { kind = kind; ty = funcref; items = Functions (0 ∷ []) }

abbrev pub a_byte : DataSegmentKind → DataSegment
a_byte kind = record { kind = kind; init = 0x2A ∷ [] }
