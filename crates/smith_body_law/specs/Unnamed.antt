-- Grounding of barren types. Rules of this project.
use Rattle.std.specs.Prelude.{◌≡◌, ℕ, List, slice_get, Some}
use Rattle.std.specs.List.{Contains}
use Rattle.smith_types.specs.Expressions.{Context, function_reference, reference_to}
use Rattle.smith_types.specs.Grounded.{IsGrounded, IsGroundedByFuncs, IsGroundedByStructs}
use Rattle.smith_types.specs.Subtyping.{IsValBelow}
use Rattle.smith_types.specs.Syntax.value_type.HeapType.{HeapType}
use Rattle.smith_instr.specs.Contexts.{BodyContext}
use Rattle.smith_body_law.specs.Barren.{IsBarren}

-- the contexts of constant expressions and of a body with the same features, types and functions
pub record AreOfOneModule (context : Context) (body : BodyContext) : Type 0 where
  pub features : body.features ≡ context.features
  pub types : body.types ≡ context.types
  pub funcs : body.funcs ≡ context.funcs
  pub imported_funcs : body.imported_funcs ≡ context.imported_funcs

-- only functions ground a heap type, and `ref.func` may name none of them
pub record IsGroundedByUnnamed (context : Context) (references : List ℕ) (heap_type : HeapType) : Type 0 where
  pub no_structs : ¬ IsGroundedByStructs context.types context.features.custom_descriptors heap_type
  pub functions : IsGroundedByFuncs context heap_type
  pub unnamed : (function index : ℕ) → slice_get context.funcs function ≡ Some index
      → IsValBelow context.types (function_reference context function index) (reference_to heap_type) → ¬ Contains references function

-- only functions that `ref.func` may not name ground a barren heap type
abbrev pub BarrenTypesAreGroundedByUnnamedFunctions : Type 0
BarrenTypesAreGroundedByUnnamedFunctions =
    (context : Context) (body : BodyContext) (heap_type : HeapType)
    → AreOfOneModule context body → IsGrounded context heap_type → IsBarren body heap_type
    → IsGroundedByUnnamed context body.references heap_type
