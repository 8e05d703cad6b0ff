-- Struct types and array types of a valid context.
use Rattle.smith_check_references.proofs.Common.{[], All, All-cons, All-head, All-nil, all_at, ap, BodyContext, Bool, Concrete, false}
use Rattle.smith_check_references.proofs.Common.{field_values, FieldType, I32, in_range, inl, inr, IsDefaultable, IsElemOf, IsHeapValid}
use Rattle.smith_check_references.proofs.Common.{IsScope, IsTrue, IsValid, length, List, Ref, refl, slice_get, Some, subst, SubType, sym}
use Rattle.smith_check_references.proofs.Common.{true, ValType, value_of, with_labels, ℕ, ◌∙◌, ◌∷◌, ◌≡◌}
use Rattle.std.proofs.Common.{◌<◌}
use Rattle.std.specs.Prelude.{if◌then◌else◌, ◌&&◌}
use Rattle.std.specs.List.{flat_map, AllByRecursion as Each}
use Rattle.std.proofs.lemmas.List.Elements.{All-from_recursion, All-weaker, recursion_from_All}
use Rattle.std.proofs.lemmas.Option.{same_Some, slice_get_within}
use Rattle.smith_types.specs.Syntax.composite_type.ArrayType.{ArrayType}
use Rattle.smith_types.specs.Syntax.composite_type.CompositeInnerType.{CompositeInnerType}
use Rattle.smith_types.specs.Syntax.composite_type.CompositeInnerType.TheVariants as inner
use Rattle.smith_types.specs.Syntax.composite_type.StorageType.{StorageType}
use Rattle.smith_types.specs.Syntax.composite_type.StorageType.TheVariants as storage
use Rattle.smith_types.specs.Syntax.composite_type.StructType.{StructType}
use Rattle.smith_types.specs.Syntax.value_type.HeapType.TheVariants.{Exact}
use Rattle.smith_types.specs.Syntax.value_type.ValType.TheVariants.{F32, F64, I64, V128}
use Rattle.smith_types.specs.Expressions.{IsArrayAt, IsStructAt, unpacked}
use Rattle.smith_types.specs.Flags.{IsInnerEnabled, IsSubTypeEnabled}
use Rattle.smith_types.specs.Grounded.{is_defaultable, are_defaultable}
use Rattle.smith_types.proofs.GroundedLemmas.{defaults_each}
use Rattle.smith_types.specs.Matching.{IsStorageInRange, IsFieldInRange}
use Rattle.smith_types.specs.ValidTypes.{values_of, values_of_storage}
use Rattle.smith_instr.specs.AggregateTypes.{IsFieldAt}
use Rattle.smith_instr.specs.Contexts.{AreValid}
use Rattle.smith_check_operands.proofs.ListLemmas.{all_left, all_right}
use Rattle.smith_check_references.specs.Lookups.{IsAggregateAt}

pub array_same : (types : List SubType) (index : ℕ) (e f : FieldType) → IsArrayAt types index e → IsArrayAt types index f → e ≡ f
array_same types index e f (t, at, is) (u, there, also) =
    let same : t ≡ u = same_Some t u (sym at ∙ there) in
    let one : ArrayType = record { 0 = e } in
    let other : ArrayType = record { 0 = f } in
    let both : inner.Array one ≡ inner.Array other = sym is ∙ ap (λ (v : SubType). v.composite_type.inner) same ∙ also in
    let arrays : one ≡ other = cc in
    ap (λ (a : ArrayType). a.0) arrays

pub struct_same : (types : List SubType) (index : ℕ) (es fs : List FieldType) → IsStructAt types index es → IsStructAt types index fs
    → es ≡ fs
struct_same types index es fs (t, at, is) (u, there, also) =
    let same : t ≡ u = same_Some t u (sym at ∙ there) in
    let one : StructType = record { fields = es } in
    let other : StructType = record { fields = fs } in
    let both : inner.Struct one ≡ inner.Struct other = sym is ∙ ap (λ (v : SubType). v.composite_type.inner) same ∙ also in
    let structures : one ≡ other = cc in
    ap (λ (s : StructType). s.fields) structures

pub field_same : (context : BodyContext) (ty index : ℕ) (f g : FieldType) → IsFieldAt context ty index f → IsFieldAt context ty index g
    → f ≡ g
field_same context ty index f g a b =
    let same : a.fields ≡ b.fields = struct_same context.types ty a.fields b.fields a.structure b.structure in
    same_Some f g (sym (subst (λ fs. slice_get fs index ≡ Some f) same a.there) ∙ b.there)

-- a type has a default as is tested
pub default_is : (value : ValType) → IsDefaultable value → is_defaultable value ≡ true
default_is (Ref reference) h = h
default_is I32 h = refl
default_is I64 h = refl
default_is F32 h = refl
default_is F64 h = refl
default_is V128 h = refl

both_are : (a b : Bool) → a ≡ true → b ≡ true → (a && b) ≡ true
both_are a b p q = rw p q

each_default : (fields : List FieldType) → Each IsDefaultable (field_values fields) → are_defaultable fields ≡ true
each_default [] h = refl
each_default (field ∷ fields) (p, q) = both_are (is_defaultable (unpacked field.element_type)) (are_defaultable fields)
    (default_is (unpacked field.element_type) p) (each_default fields q)

pub defaults_are : (fields : List FieldType) → All IsDefaultable (field_values fields) → are_defaultable fields ≡ true
defaults_are fields all = each_default fields (recursion_from_All IsDefaultable (field_values fields) all)

pub are_defaults : (fields : List FieldType) → are_defaultable fields ≡ true → All IsDefaultable (field_values fields)
are_defaults fields is = All-from_recursion IsDefaultable (field_values fields) (defaults_each fields is)

-- what a valid field stores is valid where it is unpacked
storage_valid : (context : BodyContext) (stored : StorageType) → AreValid context (values_of_storage stored)
    → IsValid context (unpacked stored)
storage_valid context storage.I8 valid = tt
storage_valid context storage.I16 valid = tt
storage_valid context (storage.Val value) valid = All-head (IsValid context) value [] valid

inner_valid : (context : BodyContext) (index : ℕ) (t : SubType) (x : CompositeInnerType) → IsScope context
    → slice_get context.types index ≡ Some t → t.composite_type.inner ≡ x → AreValid context (values_of x)
inner_valid context index t x scope at is =
    subst (λ y. AreValid context (values_of y)) is
    (all_at (λ (ty : SubType). AreValid context (values_of ty.composite_type.inner)) context.types index t scope.types at)

pub array_valid : (context : BodyContext) (index : ℕ) (element : FieldType) → IsScope context → IsArrayAt context.types index element
    → IsValid context (value_of element)
array_valid context index element scope (t, at, is) =
    storage_valid context element.element_type (inner_valid context index t (inner.Array (record { 0 = element })) scope at is)

stored_valid : (context : BodyContext) (fields : List FieldType)
    → AreValid context (flat_map (λ (field : FieldType). values_of_storage field.element_type) fields)
    → All (λ (field : FieldType). IsValid context (value_of field)) fields
stored_valid context [] valid = All-nil (λ (field : FieldType). IsValid context (value_of field))
stored_valid context (f ∷ fs) valid =
    let rest = flat_map (λ (field : FieldType). values_of_storage field.element_type) fs in
    All-cons (λ (field : FieldType). IsValid context (value_of field)) f fs
    (storage_valid context f.element_type (all_left (IsValid context) (values_of_storage f.element_type) rest valid))
    (stored_valid context fs (all_right (IsValid context) (values_of_storage f.element_type) rest valid))

struct_valid : (context : BodyContext) (index : ℕ) (fields : List FieldType) → IsScope context → IsStructAt context.types index fields
    → All (λ (field : FieldType). IsValid context (value_of field)) fields
struct_valid context index fields scope (t, at, is) =
    stored_valid context fields (inner_valid context index t (inner.Struct (record { fields = fields })) scope at is)

pub field_valid : (context : BodyContext) (ty index : ℕ) (field : FieldType) → IsScope context → IsFieldAt context ty index field
    → IsValid context (value_of field)
field_valid context ty index field scope at =
    all_at (λ (f : FieldType). IsValid context (value_of f)) at.fields index field (struct_valid context ty at.fields scope at.structure)
    at.there

storage_in_range : (context : BodyContext) (stored : StorageType) → IsValid context (unpacked stored)
    → IsStorageInRange context.types stored
storage_in_range context storage.I8 valid = tt
storage_in_range context storage.I16 valid = tt
storage_in_range context (storage.Val value) valid = in_range context value valid

pub element_in_range : (context : BodyContext) (index : ℕ) (element : FieldType) → IsScope context
    → IsArrayAt context.types index element → IsStorageInRange context.types element.element_type
element_in_range context index element scope at =
    storage_in_range context element.element_type (array_valid context index element scope at)

pub fields_in_range : (context : BodyContext) (index : ℕ) (fields : List FieldType) → IsScope context
    → IsStructAt context.types index fields → All (IsFieldInRange context.types) fields
fields_in_range context index fields scope at =
    All-weaker (λ (field : FieldType). IsValid context (value_of field)) (IsFieldInRange context.types)
    (λ field valid. storage_in_range context field.element_type valid) fields (struct_valid context index fields scope at)

pub array_inside : (types : List SubType) (index : ℕ) (element : FieldType) → IsArrayAt types index element → index < length types
array_inside types index element (t, at, is) = slice_get_within types index t at

pub field_inside : (context : BodyContext) (ty index : ℕ) (field : FieldType) → IsFieldAt context ty index field
    → ty < length context.types
field_inside context ty index field at = let (t, there, is) = at.structure in slice_get_within context.types ty t there

-- a context with struct types or array types has these enabled
enabled_at : (context : BodyContext) (index : ℕ) (t : SubType) (x : CompositeInnerType) → IsScope context
    → slice_get context.types index ≡ Some t → t.composite_type.inner ≡ x → IsInnerEnabled context.features x
enabled_at context index t x scope at is =
    let enabled = all_at (IsSubTypeEnabled context.features) context.types index t scope.enabled at in
    subst (λ y. IsInnerEnabled context.features y) is enabled.inner

aggregate_enabled : (context : BodyContext) (index : ℕ) → IsScope context → IsAggregateAt context.types index
    → IsTrue context.features.gc × (index < length context.types)
aggregate_enabled context index scope aggregate =
    elim aggregate [
      | inl structure ↦
          let (fields, (t, at, is)) = structure in
          (enabled_at context index t (inner.Struct (record { fields = fields })) scope at is, slice_get_within context.types index t at)
      | inr array ↦
          let (element, (t, at, is)) = array in
          (enabled_at context index t (inner.Array (record { 0 = element })) scope at is, slice_get_within context.types index t at)
    ]

-- the heap type of references to created values is valid
created_by : (context : BodyContext) (index : ℕ) (exact : Bool) → exact ≡ context.features.custom_descriptors
    → IsTrue context.features.gc → index < length context.types → IsHeapValid context (if exact then Exact index else Concrete index)
created_by context index true is gc inside = (sym is, inside)
created_by context index false is gc inside = (gc, inside)

pub created_valid : (context : BodyContext) (index : ℕ) → IsScope context → IsAggregateAt context.types index
    → IsHeapValid context (if context.features.custom_descriptors then Exact index else Concrete index)
created_valid context index scope aggregate =
    let (gc, inside) = aggregate_enabled context index scope aggregate in
    created_by context index context.features.custom_descriptors refl gc inside

-- labels don't matter for fields and element segments
pub field_without : (context : BodyContext) (labels : List (List ValType)) (ty index : ℕ) (field : FieldType)
    → IsFieldAt (with_labels context labels) ty index field → IsFieldAt context ty index field
field_without context labels ty index field at = record { fields = at.fields; structure = at.structure; there = at.there }

pub field_within : (context : BodyContext) (labels : List (List ValType)) (ty index : ℕ) (field : FieldType)
    → IsFieldAt context ty index field → IsFieldAt (with_labels context labels) ty index field
field_within context labels ty index field at = record { fields = at.fields; structure = at.structure; there = at.there }

pub elem_without : (context : BodyContext) (labels : List (List ValType)) (segment : ℕ) (element : FieldType)
    → IsElemOf (with_labels context labels) segment element → IsElemOf context segment element
elem_without context labels segment element of = record {
  held = of.held;
  there = of.there;
  reference = of.reference;
  of_references = of.of_references;
  below = of.below;
}

pub elem_within : (context : BodyContext) (labels : List (List ValType)) (segment : ℕ) (element : FieldType)
    → IsElemOf context segment element → IsElemOf (with_labels context labels) segment element
elem_within context labels segment element of = record {
  held = of.held;
  there = of.there;
  reference = of.reference;
  of_references = of.of_references;
  below = of.below;
}
