-- Operands and results of instructions with several types.
use Rattle.std.specs.Prelude.{◌≡◌, Bool, List}
use Rattle.smith_instr.specs.Contexts.{BodyContext, IsHeapValid, nullable_to}
use Rattle.smith_check_rules.specs.Slots.{IsBelow}
use Rattle.smith_check_rules.specs.declared.slot.Slot.{Slot}
use Rattle.smith_check_rules.specs.declared.slot.Slot.TheVariants.{Value}
use Rattle.smith_types.specs.Syntax.composite_type.SubType.{SubType}
use Rattle.smith_types.specs.Syntax.value_type.AbstractHeapType.{AbstractHeapType}
use Rattle.smith_types.specs.Syntax.value_type.HeapType.{HeapType}
use Rattle.smith_types.specs.Syntax.value_type.HeapType.TheVariants.{Abstract}
use Rattle.smith_types.specs.Syntax.value_type.ValType.TheVariants.{I32}

-- a nullable reference to a heap type, shared or not (own rule)
abbrev pub IsEither : AbstractHeapType → Slot → Type 0
IsEither ty from = (shared : Bool) × (from ≡ Value (nullable_to (Abstract shared ty)))

-- a value is one of the nullable references to a heap type, shared or not (own rule)
abbrev pub FitsEither : List SubType → AbstractHeapType → Slot → Type 0
FitsEither types ty slot = (shared : Bool) × IsBelow types slot (Value (nullable_to (Abstract shared ty)))

-- a nullable reference to a heap type, shared or not (own rule), becomes a number
abbrev pub ReadsEither : AbstractHeapType → Slot → Slot → Type 0
ReadsEither ty from to = IsEither ty from × (to ≡ Value I32)

-- a nullable reference to a valid heap type becomes a number (Validation, Reference Instructions,
-- ref.is_null)
abbrev pub ReadsAny : BodyContext → Slot → Slot → Type 0
ReadsAny context from to =
    ((heap_type : HeapType) × IsHeapValid context heap_type × (from ≡ Value (nullable_to heap_type))) × (to ≡ Value I32)
