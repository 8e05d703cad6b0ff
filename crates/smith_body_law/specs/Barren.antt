-- Barren types: they may have no value without a budget, even if all kinds of instructions are
-- allowed. With `disallow_traps`, a body has `unreachable` in place of such a value. Rules of this
-- project.
use Rattle.std.specs.Prelude.{◌≡◌, ℕ, ◌-◌, ◌^◌, ◌≤◌, Bool, false, IsTrue, List, length, slice_get, Some}
use Rattle.std.specs.List.{Contains}
use Rattle.smith_config.specs.declared.config.Config.{Config}
use Rattle.smith_types.specs.Expressions.{IsArrayAt, reference_to}
use Rattle.smith_types.specs.Grounded.{IsGroundedByStructs}
use Rattle.smith_types.specs.Syntax.Instructions.{every_kind}
use Rattle.smith_types.specs.Subtyping.{IsBelow, IsValBelow}
use Rattle.smith_types.specs.Syntax.composite_type.FieldType.{FieldType}
use Rattle.smith_types.specs.Syntax.value_type.AbstractHeapType.TheVariants as abstract
use Rattle.smith_types.specs.Syntax.value_type.HeapType.{HeapType}
use Rattle.smith_types.specs.Syntax.value_type.HeapType.TheVariants.{Abstract}
use Rattle.smith_types.specs.Syntax.value_type.ValType.{ValType}
use Rattle.smith_types.specs.Syntax.value_type.ValType.TheVariants.{Ref}
use Rattle.smith_instr.specs.Contexts.{BodyContext, IsValid, created_reference, reference_to_function}
use Rattle.smith_body_nodes.specs.Scopes.{kinds_of_bodies}
use Rattle.smith_body_leaves.specs.Laws.{HasNoOther}

-- references of this sharedness may be created
abbrev pub IsSharingOn : BodyContext → Bool → Type 0
IsSharingOn context shared = IsTrue shared → IsTrue context.features.shared_everything_threads

-- a heap type is barren: no struct of default values, no array without elements, no function that
-- `ref.func` may name, no i31, and no external reference is below it
pub record IsBarren (context : BodyContext) (heap_type : HeapType) : Type 0 where
  pub no_struct : ¬ IsGroundedByStructs context.types context.features.custom_descriptors heap_type
  pub no_array : (index : ℕ) (element : FieldType) → IsArrayAt context.types index element
      → ¬ IsValBelow context.types (created_reference context index) (reference_to heap_type)
  pub no_function : (function index : ℕ) → Contains context.references function → slice_get context.funcs function ≡ Some index
      → ¬ IsValBelow context.types (reference_to_function context function index) (reference_to heap_type)
  pub no_i31 : (shared : Bool) → IsSharingOn context shared → ¬ IsBelow context.types (Abstract shared abstract.I31) heap_type
  pub no_external : (shared : Bool) → IsSharingOn context shared → ¬ IsBelow context.types (Abstract shared abstract.Extern) heap_type

-- a reference type that isn't nullable, to a barren heap type
abbrev pub IsBarrenReference : BodyContext → ValType → Type 0
IsBarrenReference context (Ref to) = (to.nullable ≡ false) × IsBarren context to.heap_type
IsBarrenReference context _ = ⊥

-- with garbage collection and all kinds of instructions, a valid type for which no permitted
-- instructions give a value without a budget is such a reference type
abbrev pub OnlyBarrenTypesHaveNoOther : Type 0
OnlyBarrenTypesHaveNoOther =
    (config : Config) (context : BodyContext) (set : List ℕ) (wanted : ValType)
    → length context.types ≤ 2 ^ 32 - 1 → IsValid context wanted → IsTrue context.features.gc → kinds_of_bodies config ≡ every_kind
    → HasNoOther config context set wanted → IsBarrenReference context wanted
