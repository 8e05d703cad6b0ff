-- Grounded heap types: a constant expression without operands gives a non-null reference to one of
-- their subtypes. A rule of this project, over the typing of constant expressions.
use Rattle.std.specs.Prelude.{◌≡◌, ℕ, ◌⊎◌, Bool, true, List, slice_get, Some, All, if◌then◌else◌}
use Rattle.std.specs.List.{list_all}
use Rattle.smith_types.specs.Subtyping.{IsBelow, IsValBelow}
use Rattle.smith_types.specs.Expressions.{Context, IsStructAt, IsDefaultable, field_values, unpacked, function_reference, reference_to}
use Rattle.smith_types.specs.Common.{Concrete, Exact, FieldType, HeapType, Ref, SubType, ValType}

-- the type at `index` is a struct type whose fields all have defaults, and `struct.new_default`
-- pushes a reference whose heap type is below `heap_type`; with custom descriptors the reference is
-- exact
pub record IsGroundedBy (types : List SubType) (descriptors : Bool) (heap_type : HeapType) (index : ℕ) : Type 0 where
  pub fields : List FieldType
  pub struct : IsStructAt types index fields
  pub defaults : All IsDefaultable (field_values fields)
  pub below : IsBelow types (if descriptors then Exact index else Concrete index) heap_type

-- some struct type grounds a heap type
abbrev pub IsGroundedByStructs : List SubType → Bool → HeapType → Type 0
IsGroundedByStructs types descriptors heap_type = (index : ℕ) × IsGroundedBy types descriptors heap_type index

-- some function grounds a heap type: the type of its `ref.func` is below it
abbrev pub IsGroundedByFuncs : Context → HeapType → Type 0
IsGroundedByFuncs context heap_type =
    (function : ℕ) × (index : ℕ) × (slice_get context.funcs function ≡ Some index) × IsValBelow context.types
    (function_reference context function index) (reference_to heap_type)

-- a struct type or a function grounds a heap type
abbrev pub IsGrounded : Context → HeapType → Type 0
IsGrounded context heap_type = IsGroundedByStructs context.types context.features.custom_descriptors heap_type
    ⊎ IsGroundedByFuncs context heap_type

-- whether a value type has a default
abbrev pub is_defaultable : ValType → Bool
is_defaultable (Ref reference) = reference.nullable
is_defaultable _ = true

-- whether all fields have defaults
abbrev pub are_defaultable : List FieldType → Bool
are_defaultable fields = list_all (λ (field : FieldType). is_defaultable (unpacked field.element_type)) fields
