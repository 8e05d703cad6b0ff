-- What is not below a type, over one type without a supertype.
use Rattle.std.proofs.Common.{◌≡◌, ℕ, zero, suc, Bool, true, false, List, [], ◌∷◌, Some, None, refl, sym, subst, ap, ◌∙◌, arith}
use Rattle.std.specs.Prelude.{IsTrue, All, slice_get}
use Rattle.std.proofs.lemmas.Option.{same_Some}
use Rattle.std.proofs.lemmas.Bool.{false≢true}
use Rattle.std.specs.List.{Contains}
use Rattle.smith_types.specs.ExampleTypes.{array, constant, final_type, plain_func, struct}
use Rattle.smith_types.specs.Expressions.{IsArrayAt, function_reference, IsDefaultable, IsStructAt, field_values, reference_to}
use Rattle.smith_types.specs.Grounded.{IsGroundedByFuncs, IsGroundedByStructs}
use Rattle.smith_types.specs.Subtyping.{IsBelow, IsValBelow}
use Rattle.smith_types.specs.Types.{IsOrderly}
use Rattle.smith_types.specs.Syntax.composite_type.CompositeInnerType.{CompositeInnerType}
use Rattle.smith_types.specs.Syntax.composite_type.SubType.{SubType}
use Rattle.smith_types.specs.Syntax.composite_type.FieldType.{FieldType}
use Rattle.smith_types.specs.Syntax.value_type.AbstractHeapType.TheVariants as abstract
use Rattle.smith_types.specs.Syntax.value_type.HeapType.{HeapType}
use Rattle.smith_types.specs.Syntax.value_type.HeapType.TheVariants.{Abstract, Concrete}
use Rattle.smith_types.specs.Syntax.value_type.RefType.{RefType}
use Rattle.smith_types.specs.Syntax.value_type.ValType.TheVariants.{Ref}
use Rattle.smith_types.specs.Syntax.composite_type.StorageType.TheVariants.{Val}
use Rattle.smith_draw_types.specs.HeldFields.{fields_of}
use Rattle.smith_instr.specs.Contexts.{BodyContext, created_reference}
use Rattle.smith_draw_types.specs.Below.{is_heap_below}
use Rattle.smith_draw_types.proofs.BelowLemmas.{heap_decides}
use Rattle.smith_body_law.specs.Barren.{IsBarren}
use Rattle.smith_body_law.specs.ExampleContexts.{outside}

alone : (inner : CompositeInnerType) (index supertype : ℕ) (t : SubType) → slice_get (final_type inner ∷ []) index ≡ Some t
    → t.supertype ≡ Some supertype → ⊥
alone inner zero supertype t at named = let same : final_type inner ≡ t = same_Some (final_type inner) t at in
    let none : None ≡ Some supertype = subst (λ (t : SubType). t.supertype ≡ Some supertype) (sym same) named in cc
alone inner (suc index) supertype t at named = cc

pub orderly : (inner : CompositeInnerType) → IsOrderly (final_type inner ∷ [])
orderly inner = record { under = λ index supertype t at named. absurd (alone inner index supertype t at named) }

pub apart : (inner : CompositeInnerType) (a b : HeapType) → is_heap_below (final_type inner ∷ []) a b ≡ false
    → ¬ IsBelow (final_type inner ∷ []) a b
apart inner a b not_below below = false≢true (sym not_below ∙ (heap_decides (final_type inner ∷ []) (orderly inner) a b).1 below)

pub never_named : (function : ℕ) → Contains [] function → ⊥
never_named function (place, inside, is) = absurd (omega (arith, inside))

-- each abstract value that needs no type is apart from a heap type
abbrev pub AreApart : CompositeInnerType → HeapType → Type 0
AreApart inner heap_type =
    (shared : Bool) → (is_heap_below (final_type inner ∷ []) (Abstract shared abstract.I31) heap_type ≡ false)
    × (is_heap_below (final_type inner ∷ []) (Abstract shared abstract.Extern) heap_type ≡ false)

pub both_apart : (inner : CompositeInnerType) (heap_type : HeapType) → is_heap_below (final_type inner ∷ []) (Abstract false abstract.I31)
    heap_type ≡ false → is_heap_below (final_type inner ∷ []) (Abstract false abstract.Extern) heap_type ≡ false
    → is_heap_below (final_type inner ∷ []) (Abstract true abstract.I31) heap_type ≡ false → is_heap_below (final_type inner ∷ [])
    (Abstract true abstract.Extern) heap_type ≡ false → AreApart inner heap_type
both_apart inner heap_type scalar external shared_scalar shared_external false = (scalar, external)
both_apart inner heap_type scalar external shared_scalar shared_external true = (shared_scalar, shared_external)

pub is_barren : (context : BodyContext) (inner : CompositeInnerType) (heap_type : HeapType) → context.types ≡ final_type inner ∷ []
    → context.references ≡ []
    → ¬ IsGroundedByStructs context.types context.features.custom_descriptors heap_type
    → ((index : ℕ) (element : FieldType) → IsArrayAt context.types index element
    → ¬ IsValBelow context.types (created_reference context index) (reference_to heap_type))
    → AreApart inner heap_type → IsBarren context heap_type
is_barren context inner heap_type types named no_struct no_array are_apart = record {
  no_struct = no_struct;
  no_array = no_array;
  no_function = λ function index contains there below. never_named function
      (subst (λ (names : List ℕ). Contains names function) named contains);
  no_i31 = λ shared on below. apart inner (Abstract shared abstract.I31) heap_type (are_apart shared).0
      (subst (λ (types : List SubType). IsBelow types (Abstract shared abstract.I31) heap_type) types below);
  no_external = λ shared on below. apart inner (Abstract shared abstract.Extern) heap_type (are_apart shared).1
      (subst (λ (types : List SubType). IsBelow types (Abstract shared abstract.Extern) heap_type) types below);
}

-- the only type is at index 0
only_first : (inner : CompositeInnerType) (index : ℕ) (t : SubType) → slice_get (final_type inner ∷ []) index ≡ Some t → index ≡ 0
only_first inner zero t at = refl
only_first inner (suc index) t at = cc

-- a struct of the only type is apart from a heap type
pub no_struct_below : (inner : CompositeInnerType) (heap_type : HeapType) → is_heap_below (final_type inner ∷ []) (Concrete 0) heap_type
    ≡ false → ¬ IsGroundedByStructs (final_type inner ∷ []) false heap_type
no_struct_below inner heap_type not_below (index, by) =
    let first : index ≡ 0 = only_first inner index by.struct.0 by.struct.1 in
    apart inner (Concrete 0) heap_type not_below (subst (λ (i : ℕ). IsBelow (final_type inner ∷ []) (Concrete i) heap_type) first by.below)

-- the only type is no other
no_other_there : (inner other : CompositeInnerType) → ¬ (inner ≡ other) → (index : ℕ) (t : SubType)
    → slice_get (final_type inner ∷ []) index ≡ Some t → ¬ (t.composite_type.inner ≡ other)
no_other_there inner other differs zero t at is = let same : final_type inner ≡ t = same_Some (final_type inner) t at in
    differs (ap (λ (t : SubType). t.composite_type.inner) same ∙ is)
no_other_there inner other differs (suc index) t at is = cc

-- a type that is a struct or a function type is no array type
pub no_array_there : (inner : CompositeInnerType) → ((element : FieldType) → ¬ (inner ≡ array element)) → (index : ℕ) (element : FieldType)
    → ¬ IsArrayAt (final_type inner ∷ []) index element
no_array_there inner other index element (t, at, is) = no_other_there inner (array element) (other element) index t at is

-- a function type is no struct type
pub no_struct_there : (inner : CompositeInnerType) → ((fields : List FieldType) → ¬ (inner ≡ struct fields))
    → (index : ℕ) (fields : List FieldType) → ¬ IsStructAt (final_type inner ∷ []) index fields
no_struct_there inner other index fields (t, at, is) = no_other_there inner (struct fields) (other fields) index t at is

-- a struct type with one field, a constant reference
abbrev pub holding : RefType → CompositeInnerType
holding reference = struct (constant (Val (Ref reference)) ∷ [])

not_defaults : (reference : RefType) → reference.nullable ≡ false → (index : ℕ) (fields : List FieldType)
    → IsStructAt (final_type (holding reference) ∷ []) index fields → ¬ All IsDefaultable (field_values fields)
not_defaults reference needed zero fields (t, at, is) defaults =
    let same : final_type (holding reference) ≡ t = same_Some (final_type (holding reference)) t at in
    let held : constant (Val (Ref reference)) ∷ [] ≡ fields = ap (λ (t : SubType). fields_of t.composite_type.inner) same
    ∙ ap fields_of is in
    let kept : All IsDefaultable (field_values (constant (Val (Ref reference)) ∷ [])) =
    subst (λ (fields : List FieldType). All IsDefaultable (field_values fields)) (sym held) defaults in
    let first : IsTrue reference.nullable = kept 0 (Ref reference) (omega arith) in
    false≢true (sym needed ∙ first)
not_defaults reference needed (suc index) fields (t, at, is) defaults = cc

-- no struct type has default values if its field has none
pub no_defaults : (reference : RefType) (heap_type : HeapType) → reference.nullable ≡ false
    → ¬ IsGroundedByStructs (final_type (holding reference) ∷ []) false heap_type
no_defaults reference heap_type needed (index, by) = not_defaults reference needed index by.fields by.struct by.defaults

-- the only function, of a function type, is apart from a heap type
no_first_below : (heap_type : HeapType) → is_heap_below (final_type plain_func ∷ []) (Concrete 0) heap_type ≡ false → (function index : ℕ)
    → slice_get (0 ∷ []) function ≡ Some index → ¬ IsValBelow outside.types (function_reference outside function index)
    (reference_to heap_type)
no_first_below heap_type not_below zero index at below =
    let first : 0 ≡ index = same_Some 0 index at in
    apart plain_func (Concrete 0) heap_type not_below (subst (λ (i : ℕ). IsBelow (final_type plain_func ∷ []) (Concrete i) heap_type)
    (sym first) below.heap)
no_first_below heap_type not_below (suc function) index at below = cc

pub no_function_below : (heap_type : HeapType) → is_heap_below (final_type plain_func ∷ []) (Concrete 0) heap_type ≡ false
    → ¬ IsGroundedByFuncs outside heap_type
no_function_below heap_type not_below (function, index, at, below) = no_first_below heap_type not_below function index at below
