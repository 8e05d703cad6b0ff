-- The signatures of instructions that create structs and arrays.
use Rattle.smith_check_module.proofs.Common.{[], All, All-cons, All-head, All-nil, ap, arith, Context, false, I32, IsArrayAt, IsStructAt}
use Rattle.smith_check_module.proofs.Common.{IsValInRange, length, length-map, List, Ref, refl, replicate, same_Some, slice_get}
use Rattle.smith_check_module.proofs.Common.{slice_get_within, Some, subst, SubType, sym, true, ValType, ℕ, ◌<◌, ◌∙◌, ◌∷◌, ◌≡◌}
use Rattle.std.specs.List.{flat_map}
use Rattle.std.specs.List.{AllByRecursion as Each}
use Rattle.std.proofs.lemmas.List.{length-replicate}
use Rattle.std.proofs.lemmas.List.Elements.{All-from_recursion, All-replicate, recursion_from_All}
use Rattle.smith_types.specs.Syntax.composite_type.CompositeInnerType.{CompositeInnerType}
use Rattle.smith_types.specs.Syntax.composite_type.CompositeInnerType.TheVariants as inner
use Rattle.smith_types.specs.Syntax.composite_type.FieldType.{FieldType}
use Rattle.smith_types.specs.Syntax.composite_type.StorageType.{StorageType}
use Rattle.smith_types.specs.Syntax.composite_type.StorageType.TheVariants as storage
use Rattle.smith_types.specs.Syntax.const_instr.ConstInstr.TheVariants as constant
use Rattle.smith_types.specs.Expressions.{created, field_values, IsDefaultable, unpacked}
use Rattle.smith_types.specs.Grounded.{are_defaultable, is_defaultable}
use Rattle.smith_types.specs.ValidTypes.{values_of, values_of_storage}
use Rattle.smith_types.proofs.GroundedLemmas.{default_for, defaults_each}
use Rattle.smith_validity.proofs.HeldValueLemmas.{all_apart}
use Rattle.smith_check_module.specs.ConstScopes.{IsScope}
use Rattle.smith_check_module.specs.Typings.{HasMore, HasNoArray, HasNoStruct, HasNoType, IsOnly}
use Rattle.smith_check_module.proofs.SignatureLemmas.{all_at, created_in_range}

-- the fields of a struct type, and the elements of an array type
fields_in : CompositeInnerType → List FieldType
fields_in (inner.Struct structure) = structure.fields
fields_in (inner.Array array) = array.0 ∷ []
fields_in (inner.Func function) = []

struct_same : (types : List SubType) (index : ℕ) (f g : List FieldType) → IsStructAt types index f → IsStructAt types index g → f ≡ g
unfolding fields_in
struct_same types index f g (t, at, is) (u, there, are) =
    ap fields_in (sym is ∙ ap (λ (s : SubType). s.composite_type.inner) (same_Some t u (sym at ∙ there)) ∙ are)

array_same : (types : List SubType) (index : ℕ) (a b : FieldType) → IsArrayAt types index a → IsArrayAt types index b → a ≡ b
unfolding fields_in
array_same types index a b (t, at, is) (u, there, are) =
    let same : a ∷ [] ≡ b ∷ [] =
    ap fields_in (sym is ∙ ap (λ (s : SubType). s.composite_type.inner) (same_Some t u (sym at ∙ there)) ∙ are) in cc

default_is : (value : ValType) → IsDefaultable value → is_defaultable value ≡ true
default_is (Ref reference) h = h
default_is _ h = refl

defaults_are : (fields : List FieldType) → Each IsDefaultable (field_values fields) → are_defaultable fields ≡ true
defaults_are [] h = refl
defaults_are (field ∷ fields) (first, rest) = rw (default_is (unpacked field.element_type) first) (defaults_are fields rest)

unpacked_in_range : (types : List SubType) (stored : StorageType) → All (IsValInRange types) (values_of_storage stored)
    → IsValInRange types (unpacked stored)
unpacked_in_range types storage.I8 all = tt
unpacked_in_range types storage.I16 all = tt
unpacked_in_range types (storage.Val value) all = All-head (IsValInRange types) value [] all

fields_in_range : (types : List SubType) (fields : List FieldType)
    → All (IsValInRange types) (flat_map (λ (field : FieldType). values_of_storage field.element_type) fields)
    → All (IsValInRange types) (field_values fields)
fields_in_range types [] all = All-nil (IsValInRange types)
fields_in_range types (field ∷ fields) all =
    let apart = all_apart (IsValInRange types) (values_of_storage field.element_type)
    (flat_map (λ (field : FieldType). values_of_storage field.element_type) fields) all in
    All-cons (IsValInRange types) (unpacked field.element_type) (field_values fields)
    (unpacked_in_range types field.element_type apart.0) (fields_in_range types fields apart.1)

module _ (context : Context) where
  -- the values that a type at an index holds exist
  values_stand : (index : ℕ) (t : SubType) → IsScope context → slice_get context.types index ≡ Some t
      → All (IsValInRange context.types) (values_of t.composite_type.inner)
  values_stand index t scope at =
      all_at (λ (t : SubType). All (IsValInRange context.types) (values_of t.composite_type.inner)) context.types index t scope.values_stand
      at

  struct_stands : (index : ℕ) (fields : List FieldType) → IsScope context → IsStructAt context.types index fields
      → All (IsValInRange context.types) (field_values fields)
  struct_stands index fields scope (t, at, is) =
      fields_in_range context.types fields
      (subst (λ (i : CompositeInnerType). All (IsValInRange context.types) (values_of i)) is (values_stand index t scope at))

  element_stands : (index : ℕ) (element : FieldType) → IsScope context → IsArrayAt context.types index element
      → IsValInRange context.types (unpacked element.element_type)
  element_stands index element scope (t, at, is) =
      unpacked_in_range context.types element.element_type
      (subst (λ (i : CompositeInnerType). All (IsValInRange context.types) (values_of i)) is (values_stand index t scope at))

  struct_inside : (index : ℕ) (fields : List FieldType) → IsStructAt context.types index fields → index < length context.types
  struct_inside index fields (t, at, is) = slice_get_within context.types index t at

  array_inside : (index : ℕ) (element : FieldType) → IsArrayAt context.types index element → index < length context.types
  array_inside index element (t, at, is) = slice_get_within context.types index t at

  pub struct_only : (index : ℕ) (fields : List FieldType) → IsScope context → IsStructAt context.types index fields
      → IsOnly context (constant.StructNew index) (field_values fields) (created context index)
  struct_only index fields scope at = record {
    typed = (fields, at, refl, refl);
    only = λ others other (found, there, same, is). (same ∙ ap field_values (struct_same context.types index found fields there at), is);
    operands_stand = struct_stands index fields scope at;
    result_stands = created_in_range context index (struct_inside index fields at);
  }

  pub struct_more : (index : ℕ) (fields : List FieldType) (most : ℕ) → IsStructAt context.types index fields → most < length fields
      → HasMore context (constant.StructNew index) most
  struct_more index fields most at many = λ operands result (found, there, same, is).
      let count : length operands ≡ length fields = ap (λ (vs : List ValType). length vs)
      (same ∙ ap field_values (struct_same context.types index found fields there at))
      ∙ length-map fields (λ (field : FieldType). unpacked field.element_type) in
      omega arith

  pub struct_none : (index most : ℕ) → HasNoStruct context.types index → HasMore context (constant.StructNew index) most
  struct_none index most none = λ operands result (found, there, same, is). absurd (none found there)

  pub default_struct_only : (index : ℕ) (fields : List FieldType) → IsScope context → IsStructAt context.types index fields
      → are_defaultable fields ≡ true
      → IsOnly context (constant.StructNewDefault index) [] (created context index)
  default_struct_only index fields scope at defaults = record {
    typed = (fields, at, All-from_recursion IsDefaultable (field_values fields) (defaults_each fields defaults), refl, refl);
    only = λ others other (found, there, each, none, is). (none, is);
    operands_stand = All-nil (IsValInRange context.types);
    result_stands = created_in_range context index (struct_inside index fields at);
  }

  pub no_default_struct : (index : ℕ) (fields : List FieldType) → IsStructAt context.types index fields → are_defaultable fields ≡ false
      → HasNoType context (constant.StructNewDefault index)
  no_default_struct index fields at never = λ operands result (found, there, each, none, is).
      let same = struct_same context.types index found fields there at in
      let yes : are_defaultable fields ≡ true =
      defaults_are fields (recursion_from_All IsDefaultable (field_values fields)
      (subst (λ (fs : List FieldType). All IsDefaultable (field_values fs)) same each)) in
      absurd cc

  pub default_struct_none : (index : ℕ) → HasNoStruct context.types index → HasNoType context (constant.StructNewDefault index)
  default_struct_none index none = λ operands result (found, there, each, nothing, is). none found there

  pub array_only : (index : ℕ) (element : FieldType) → IsScope context → IsArrayAt context.types index element
      → IsOnly context (constant.ArrayNew index) (unpacked element.element_type ∷ I32 ∷ []) (created context index)
  array_only index element scope at = record {
    typed = (element, at, refl, refl);
    only = λ others other (found, there, same, is). (
      same ∙ ap (λ (e : FieldType). unpacked e.element_type ∷ I32 ∷ []) (array_same context.types index found element there at),
      is,
    );
    operands_stand = All-cons (IsValInRange context.types) (unpacked element.element_type) (I32 ∷ [])
        (element_stands index element scope at)
        (All-cons (IsValInRange context.types) I32 [] tt (All-nil (IsValInRange context.types)));
    result_stands = created_in_range context index (array_inside index element at);
  }

  pub array_none : (index : ℕ) → HasNoArray context.types index → HasNoType context (constant.ArrayNew index)
  array_none index none = λ operands result (found, there, same, is). none found there

  pub default_array_only : (index : ℕ) (element : FieldType) → IsScope context → IsArrayAt context.types index element
      → is_defaultable (unpacked element.element_type) ≡ true
      → IsOnly context (constant.ArrayNewDefault index) (I32 ∷ []) (created context index)
  default_array_only index element scope at default = record {
    typed = (element, at, default_for (unpacked element.element_type) default, refl, refl);
    only = λ others other (found, there, each, same, is). (same, is);
    operands_stand = All-cons (IsValInRange context.types) I32 [] tt (All-nil (IsValInRange context.types));
    result_stands = created_in_range context index (array_inside index element at);
  }

  pub no_default_array : (index : ℕ) (element : FieldType) → IsArrayAt context.types index element
      → is_defaultable (unpacked element.element_type) ≡ false
      → HasNoType context (constant.ArrayNewDefault index)
  no_default_array index element at never = λ operands result (found, there, each, none, is).
      let same = array_same context.types index found element there at in
      let yes : is_defaultable (unpacked element.element_type) ≡ true =
      default_is (unpacked element.element_type) (subst (λ (e : FieldType). IsDefaultable (unpacked e.element_type)) same each) in
      absurd cc

  pub default_array_none : (index : ℕ) → HasNoArray context.types index → HasNoType context (constant.ArrayNewDefault index)
  default_array_none index none = λ operands result (found, there, each, same, is). none found there

  pub fixed_array_only : (index size : ℕ) (element : FieldType) → IsScope context → IsArrayAt context.types index element
      → IsOnly context (constant.ArrayNewFixed index size) (replicate size (unpacked element.element_type)) (created context index)
  fixed_array_only index size element scope at = record {
    typed = (element, at, refl, refl);
    only = λ others other (found, there, same, is). (
      same ∙ ap (λ (e : FieldType). replicate size (unpacked e.element_type)) (array_same context.types index found element there at),
      is,
    );
    operands_stand = All-replicate (IsValInRange context.types) size (unpacked element.element_type)
        (element_stands index element scope at);
    result_stands = created_in_range context index (array_inside index element at);
  }

  pub fixed_array_more : (index size most : ℕ) → most < size → HasMore context (constant.ArrayNewFixed index size) most
  fixed_array_more index size most many = λ operands result (found, there, same, is).
      let count : length operands ≡ size = ap (λ (vs : List ValType). length vs) same
      ∙ length-replicate size (unpacked found.element_type) in
      omega arith

  pub fixed_array_none : (index size most : ℕ) → HasNoArray context.types index → HasMore context (constant.ArrayNewFixed index size) most
  fixed_array_none index size most none = λ operands result (found, there, same, is). absurd (none found there)
