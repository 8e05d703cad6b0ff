-- A barren heap type that is grounded is grounded by functions alone, none of which may be named.
use Rattle.std.proofs.Common.{◌≡◌, inl, inr, ℕ, List, Some, subst, sym}
use Rattle.std.specs.Prelude.{nat_le, slice_get, if◌then◌else◌}
use Rattle.smith_types.specs.Expressions.{Context, function_reference, reference_to}
use Rattle.smith_types.specs.Syntax.Features.{Features}
use Rattle.smith_types.specs.Grounded.{IsGrounded, IsGroundedByFuncs, IsGroundedByStructs}
use Rattle.smith_types.specs.Subtyping.{IsValBelow}
use Rattle.smith_types.specs.Syntax.composite_type.SubType.{SubType}
use Rattle.smith_types.specs.Syntax.value_type.HeapType.{HeapType}
use Rattle.smith_types.specs.Syntax.value_type.HeapType.TheVariants.{Concrete, Exact}
use Rattle.smith_types.specs.Syntax.value_type.ValType.{ValType}
use Rattle.smith_instr.specs.Contexts.{BodyContext, reference_to_function}
use Rattle.smith_body_law.specs.Barren.{IsBarren}
use Rattle.smith_body_law.specs.Unnamed.{AreOfOneModule, IsGroundedByUnnamed}

no_structs : (context : Context) (body : BodyContext) (heap_type : HeapType) → AreOfOneModule context body → IsBarren body heap_type
    → ¬ IsGroundedByStructs context.types context.features.custom_descriptors heap_type
no_structs context body heap_type same barren grounded =
    barren.no_struct
    (subst (λ (types : List SubType). IsGroundedByStructs types body.features.custom_descriptors heap_type) (sym same.types)
    (subst (λ (features : Features). IsGroundedByStructs context.types features.custom_descriptors heap_type) (sym same.features) grounded))

-- the reference to a function in terms of what it depends on
abbrev pub reference_by : Features → (imported_funcs function index : ℕ) → ValType
reference_by features imported_funcs function index =
    if nat_le imported_funcs function then reference_to (if features.custom_descriptors then Exact index else Concrete index) else
    reference_to (Concrete index)

below_in : (context : Context) (body : BodyContext) (heap_type : HeapType) (function index : ℕ) → AreOfOneModule context body
    → IsValBelow context.types (function_reference context function index) (reference_to heap_type)
    → IsValBelow body.types (reference_to_function body function index) (reference_to heap_type)
below_in context body heap_type function index same below =
    subst (λ (types : List SubType). IsValBelow types (reference_by body.features body.imported_funcs function index)
    (reference_to heap_type)) (sym same.types)
    (subst (λ (features : Features). IsValBelow context.types (reference_by features body.imported_funcs function index)
    (reference_to heap_type)) (sym same.features)
    (subst (λ (imported_funcs : ℕ). IsValBelow context.types (reference_by context.features imported_funcs function index)
    (reference_to heap_type)) (sym same.imported_funcs) below))

by_functions : (context : Context) (heap_type : HeapType) → IsGrounded context heap_type
    → ¬ IsGroundedByStructs context.types context.features.custom_descriptors heap_type → IsGroundedByFuncs context heap_type
by_functions context heap_type (inl structs) none = absurd (none structs)
by_functions context heap_type (inr functions) none = functions

pub by_unnamed : (context : Context) (body : BodyContext) (heap_type : HeapType) → AreOfOneModule context body
    → IsGrounded context heap_type → IsBarren body heap_type → IsGroundedByUnnamed context body.references heap_type
by_unnamed context body heap_type same grounded barren = record {
  no_structs = no_structs context body heap_type same barren;
  functions = by_functions context heap_type grounded (no_structs context body heap_type same barren);
  unnamed = λ function index there below named.
      barren.no_function function index named (subst (λ (funcs : List ℕ). slice_get funcs function ≡ Some index) (sym same.funcs) there)
      (below_in context body heap_type function index same below);
}
