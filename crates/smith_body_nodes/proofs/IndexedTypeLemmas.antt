-- Types by their indices.
use Rattle.smith_body_nodes.proofs.Common.{[], ap, AreValid, arith, BodyContext, get_or, IsValid, length, List, None, Option, refl}
use Rattle.smith_body_nodes.proofs.Common.{same_Some, slice_get, Some, subst, SubType, true, ℕ, ◌<◌, ◌∷◌, ◌≡◌}
use Rattle.std.specs.Prelude.{All, map}
use Rattle.std.proofs.lemmas.List.{get_or-map, length-map}
use Rattle.std.proofs.lemmas.List.Elements.{All-from_recursion}
use Rattle.smith_types.specs.Expressions.{IsArrayAt, IsDefaultable, IsStructAt, field_values, unpacked}
use Rattle.smith_types.specs.Grounded.{are_defaultable}
use Rattle.smith_types.specs.Syntax.composite_type.CompositeInnerType.{CompositeInnerType}
use Rattle.smith_types.specs.Syntax.composite_type.CompositeInnerType.TheVariants as inner
use Rattle.smith_types.specs.Syntax.composite_type.FieldType.{FieldType}
use Rattle.smith_types.specs.Syntax.composite_type.StructType.{StructType}
use Rattle.smith_types.proofs.GroundedLemmas.{defaults_each}
use Rattle.smith_draw_types.specs.HeldFields.{fields_of}
use Rattle.smith_instr.specs.AggregateTypes.{value_of}
use Rattle.smith_body_nodes.specs.IndexedTypes.{AreFieldsValid, element_in, element_of, is_creatable_in, struct_in, struct_of}
use Rattle.smith_body_nodes.specs.Scopes.{IsScope}

-- the struct type, and the array type, of an index
inner_struct : (x : CompositeInnerType) (structure : StructType) → struct_of x ≡ Some structure → x ≡ inner.Struct structure
inner_struct (inner.Struct s) structure is = ap inner.Struct (same_Some s structure is)
inner_struct (inner.Array array) structure is = cc
inner_struct (inner.Func function) structure is = cc

struct_option : (types : List SubType) (index : ℕ) (structure : StructType) (o : Option SubType) → slice_get types index ≡ o
    → struct_in o ≡ Some structure → IsStructAt types index structure.fields
struct_option types index structure (Some t) at is = (t, at, inner_struct t.composite_type.inner structure is)
struct_option types index structure None at is = cc

pub struct_there : (types : List SubType) (index : ℕ) (structure : StructType) → struct_in (slice_get types index) ≡ Some structure
    → IsStructAt types index structure.fields
struct_there types index structure is = struct_option types index structure (slice_get types index) refl is

inner_element : (x : CompositeInnerType) (element : FieldType) → element_of x ≡ Some element → x ≡ inner.Array (record { 0 = element })
inner_element (inner.Array array) element is = ap (λ (f : FieldType). inner.Array (record { 0 = f })) (same_Some array.0 element is)
inner_element (inner.Struct structure) element is = cc
inner_element (inner.Func function) element is = cc

array_option : (types : List SubType) (index : ℕ) (element : FieldType) (o : Option SubType) → slice_get types index ≡ o
    → element_in o ≡ Some element → IsArrayAt types index element
array_option types index element (Some t) at is = (t, at, inner_element t.composite_type.inner element is)
array_option types index element None at is = cc

pub array_is : (types : List SubType) (index : ℕ) (element : FieldType) → element_in (slice_get types index) ≡ Some element
    → IsArrayAt types index element
array_is types index element is = array_option types index element (slice_get types index) refl is

-- the values of fields and elements are valid
pub struct_fields : (context : BodyContext) (index : ℕ) (fields : List FieldType) → IsScope context → IsStructAt context.types index fields
    → AreFieldsValid context fields
struct_fields context index fields scope (t, at, is) = subst (λ (x : CompositeInnerType). AreValid context (field_values (fields_of x))) is
    (scope.fields_valid index t at)

pub array_element : (context : BodyContext) (index : ℕ) (element : FieldType) → IsScope context → IsArrayAt context.types index element
    → IsValid context (value_of element)
array_element context index element scope (t, at, is) =
    let all : AreValid context (value_of element ∷ []) = subst (λ (x : CompositeInnerType). AreValid context (field_values (fields_of x)))
    is (scope.fields_valid index t at) in
    all 0 (value_of element) (omega arith)

pub field_valid : (context : BodyContext) (fields : List FieldType) (index : ℕ) (d : FieldType) → AreFieldsValid context fields
    → index < length fields → IsValid context (value_of (get_or fields index d))
field_valid context fields index d valid inside =
    let value = λ (field : FieldType). unpacked field.element_type in
    let inside' : index < length (map value fields) = rw (length-map fields value) inside in
    subst (IsValid context) (get_or-map value fields index d (value d) inside) (valid index (value d) inside')

-- default values
pub all_default : (fields : List FieldType) → are_defaultable fields ≡ true → All IsDefaultable (field_values fields)
all_default fields is = All-from_recursion IsDefaultable (field_values fields) (defaults_each fields is)

default_option : (types : List SubType) (ty : ℕ) (o : Option StructType) → struct_in (slice_get types ty) ≡ o → is_creatable_in true o
    ≡ true → (fields : List FieldType) × IsStructAt types ty fields × All IsDefaultable (field_values fields)
default_option types ty (Some structure) at is = (structure.fields, struct_there types ty structure at, all_default structure.fields is)
default_option types ty None at is = cc

pub default_there : (types : List SubType) (ty : ℕ) → is_creatable_in true (struct_in (slice_get types ty)) ≡ true
    → (fields : List FieldType) × IsStructAt types ty fields × All IsDefaultable (field_values fields)
default_there types ty is = default_option types ty (struct_in (slice_get types ty)) refl is
