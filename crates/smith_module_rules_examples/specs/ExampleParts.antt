-- Parts of modules of the examples.
use Rattle.std.specs.Prelude.{ℕ, Bool, true, false, ℤ, List, [], ◌∷◌, Some, None}
use Rattle.smith_module_rules_examples.specs.Common.{ConstInstr, funcref, I32, MemoryType, plain}
pub use Rattle.smith_types.specs.ExampleEntities.{memory, table}
use Rattle.smith_types.specs.Syntax.value_type.AbstractHeapType.TheVariants as heap
use Rattle.smith_types.specs.Syntax.value_type.ValType.{ValType}
use Rattle.smith_types.specs.Syntax.entity_type.EntityType.{EntityType}
use Rattle.smith_types.specs.Syntax.entity_type.GlobalType.{GlobalType}
use Rattle.smith_types.specs.Syntax.imports.Import.{Import}
use Rattle.smith_types.specs.Syntax.const_instr.ConstInstr.TheVariants.{RefNull}
use Rattle.smith_types.specs.Syntax.segments.Elements.{Elements}
use Rattle.smith_types.specs.Syntax.segments.Elements.TheVariants.{Functions}
use Rattle.smith_types.specs.Syntax.segments.ElementKind.TheVariants as element_kind
use Rattle.smith_types.specs.Syntax.segments.ElementSegment.{ElementSegment}
use Rattle.smith_types.specs.Syntax.segments.DataSegmentKind.TheVariants as data_kind
use Rattle.smith_types.specs.Syntax.segments.DataSegment.{DataSegment}
use Rattle.smith_types.specs.Syntax.segments.Offset.{Offset}
use Rattle.smith_types.specs.Syntax.segments.Offset.TheVariants.{Const32}
use Rattle.smith_types.specs.Syntax.code.Code.{Code}
use Rattle.smith_types.specs.Syntax.code.Instructions.TheVariants.{Unreachable}

-- a shared memory of exactly this number of pages
abbrev pub shared_memory : ℕ → MemoryType
shared_memory pages = record { minimum = pages; maximum = Some pages; memory64 = false; shared = true; page_size_log2 = None }

-- a global that is not shared, constant or not
abbrev pub global : ValType → Bool → GlobalType
global ty mutable = record { val_type = ty; mutable = mutable; shared = false }

-- a constant number
abbrev pub number : GlobalType
number = global I32 false

-- an import with this name, from the module with the empty name
abbrev pub import_named : List ℕ → EntityType → Import
import_named name ty = record { «module» = []; name = name; entity_type = ty }

-- a null reference to a function
abbrev pub no_function : List ConstInstr
no_function = RefNull (plain heap.Func) ∷ []

-- a passive segment of references to functions
abbrev pub passive_elements : Elements → ElementSegment
passive_elements items = record { kind = element_kind.Passive; ty = funcref; items = items }

-- a segment that copies the first function into the first table at this offset
abbrev pub into_a_table : Offset → ElementSegment
into_a_table offset = record { kind = element_kind.Active None offset; ty = funcref; items = Functions (0 ∷ []) }

-- a segment that copies bytes into the first memory at this offset
abbrev pub active_data : ℤ → List ℕ → DataSegment
active_data offset bytes = record { kind = data_kind.Active 0 (Const32 offset); init = bytes }

-- a body that only traps
abbrev pub trapping : Code
trapping = record { locals = []; instructions = Unreachable }
