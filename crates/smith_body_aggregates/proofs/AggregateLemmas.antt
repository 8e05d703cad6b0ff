-- The struct types, array types and fields that are offered.
use Rattle.smith_body_aggregates.proofs.Common.{[], BodyContext, both, false, FieldType, given_some, I32, is_elem_below, IsOrderly, IsValid}
use Rattle.smith_body_aggregates.proofs.Common.{length, List, refl, Some, struct_there, sym, tested, true, ValType, value_of, ℕ, ◌<◌, ◌∙◌}
use Rattle.smith_body_aggregates.proofs.Common.{◌∷◌, ◌≡◌}
use Rattle.std.proofs.Common.{ap, Bool, get_or, None, Option, subst}
use Rattle.std.specs.Prelude.{slice_get, option_map}
use Rattle.std.proofs.lemmas.Option.{slice_get-get_or, slice_get_within}
use Rattle.smith_types.specs.Expressions.{IsDefaultable, unpacked}
use Rattle.smith_types.specs.Grounded.{is_defaultable}
use Rattle.smith_types.specs.Matching.{IsStorageMatch}
use Rattle.smith_types.specs.Syntax.value_type.HeapType.TheVariants.{Concrete}
use Rattle.smith_types.specs.Syntax.value_type.ValType.TheVariants.{F32, F64, I64, Ref, V128}
use Rattle.smith_types.specs.Syntax.composite_type.StorageType.{StorageType}
use Rattle.smith_types.specs.Syntax.composite_type.StorageType.TheVariants as storage
use Rattle.smith_types.specs.Syntax.composite_type.StructType.{StructType}
use Rattle.smith_types.specs.Syntax.composite_type.SubType.{SubType}
use Rattle.smith_types.proofs.GroundedLemmas.{default_for}
use Rattle.smith_bytes.specs.Draws.{choose_at}
use Rattle.smith_instr.specs.AggregateTypes.{IsElemOf, IsFieldAt, IsOfBytes, IsReadBy}
use Rattle.smith_instr.specs.Contexts.{nullable_to}
use Rattle.smith_body_aggregates.specs.Aggregates.{array_at, array_there, created_array_at, field_at, field_in, field_there, fields_with}
use Rattle.smith_body_aggregates.specs.Aggregates.{is_array, is_created_array, is_field, is_struct}
use Rattle.smith_body_nodes.specs.IndexedTypes.{element_in, names_types, struct_in}
use Rattle.smith_body_aggregates.specs.Fields.{extension_of, is_of_bytes, is_of_references, is_storage_below, is_usable, is_usable_in}
use Rattle.smith_body_nodes.specs.Items.{continued}
use Rattle.smith_body_nodes.specs.Offered.{chunk_at}
use Rattle.smith_body_nodes.specs.Scopes.{indexed}
use Rattle.smith_body_aggregates.specs.declared.fields.FieldUse.{FieldUse}
use Rattle.smith_body_nodes.proofs.ItemLemmas.{given_none}
use Rattle.smith_body_nodes.proofs.OfferLemmas.{segment_below_at}

-- a reference to the type with an index is valid
pub concrete_valid : (context : BodyContext) (index : ℕ) (t : SubType) → names_types context ≡ true → slice_get context.types index ≡ Some t
    → IsValid context (nullable_to (Concrete index))
concrete_valid context index t named at =
    let (on, gc) = both context.features.reference_types context.features.gc named in
    (on, record { heap_type = (gc, slice_get_within context.types index t at); nullable = λ h. cc })

pub one_default : (value : ValType) → is_defaultable value ≡ true → IsDefaultable value
one_default value is = default_for value is

-- fields that bytes may fill
pub of_bytes : (stored : StorageType) → is_of_bytes stored ≡ true → IsOfBytes stored
of_bytes storage.I8 is = tt
of_bytes storage.I16 is = tt
of_bytes (storage.Val I32) is = tt
of_bytes (storage.Val I64) is = tt
of_bytes (storage.Val F32) is = tt
of_bytes (storage.Val F64) is = tt
of_bytes (storage.Val V128) is = tt
of_bytes (storage.Val (Ref reference)) is = cc

-- an element segment whose type matches that of an element
segment_for : (context : BodyContext) (segment : ℕ) (element : FieldType) (stored : StorageType) → IsOrderly context.types
    → element.element_type ≡ stored → is_of_references stored ≡ true → is_elem_below context (unpacked stored) segment ≡ true
    → IsElemOf context segment element
segment_for context segment element (storage.Val (Ref reference)) orderly is of below =
    let (held, there, under) = segment_below_at context (Ref reference) segment (slice_get context.elems segment) orderly refl below in
    record { held = held; there = there; reference = reference; of_references = is; below = under }
segment_for context segment element (storage.Val I32) orderly is of below = cc
segment_for context segment element (storage.Val I64) orderly is of below = cc
segment_for context segment element (storage.Val F32) orderly is of below = cc
segment_for context segment element (storage.Val F64) orderly is of below = cc
segment_for context segment element (storage.Val V128) orderly is of below = cc
segment_for context segment element storage.I8 orderly is of below = cc
segment_for context segment element storage.I16 orderly is of below = cc

pub segment_of : (context : BodyContext) (segment : ℕ) (element : FieldType) → IsOrderly context.types
    → is_of_references element.element_type ≡ true → is_elem_below context (value_of element) segment ≡ true
    → IsElemOf context segment element
segment_of context segment element orderly of below = segment_for context segment element element.element_type orderly refl of below

-- the read of a field, by its extension
pub read_by : (stored : StorageType) (signed : Bool) → IsReadBy (extension_of stored signed) stored
read_by (storage.Val value) signed = tt
read_by storage.I8 true = tt
read_by storage.I8 false = tt
read_by storage.I16 true = tt
read_by storage.I16 false = tt

-- one storage type matches another
pub storage_match : (types : List SubType) (a b : StorageType) → IsOrderly types → is_storage_below types a b ≡ true
    → IsStorageMatch types a b
storage_match types storage.I8 storage.I8 orderly is = tt
storage_match types storage.I16 storage.I16 orderly is = tt
storage_match types (storage.Val a) (storage.Val b) orderly is = tested types orderly a b is
storage_match types storage.I8 storage.I16 orderly is = cc
storage_match types storage.I8 (storage.Val b) orderly is = cc
storage_match types storage.I16 storage.I8 orderly is = cc
storage_match types storage.I16 (storage.Val b) orderly is = cc
storage_match types (storage.Val a) storage.I8 orderly is = cc
storage_match types (storage.Val a) storage.I16 orderly is = cc

-- a chosen array type
pub array_none : (context : BodyContext) (way : FieldUse) (bytes left : List ℕ)
    → chunk_at (is_array context way) (indexed (length context.types)) bytes ≡ (None, left) → array_at context way bytes ≡ (None, left)
array_none context way bytes left drawn = given_none (array_there context) (chunk_at (is_array context way) (indexed (length context.types))
    bytes) left drawn

pub array_some : (context : BodyContext) (way : FieldUse) (bytes left : List ℕ) (index : ℕ) (element : FieldType)
    → chunk_at (is_array context way) (indexed (length context.types)) bytes ≡ (Some index, left)
    → element_in (slice_get context.types index) ≡ Some element
    → array_at context way bytes ≡ (Some (index, element), left)
array_some context way bytes left index element drawn at =
    given_some (array_there context) (chunk_at (is_array context way) (indexed (length context.types)) bytes) left index
    (Some (index, element)) drawn
    (ap (λ (o : Option FieldType). option_map (λ (element : FieldType). (index, element)) o) at)

pub created_array_none : (context : BodyContext) (wanted : ValType) (way : FieldUse) (bytes left : List ℕ)
    → chunk_at (is_created_array context wanted way) (indexed (length context.types)) bytes ≡ (None, left)
    → created_array_at context wanted way bytes ≡ (None, left)
created_array_none context wanted way bytes left drawn =
    given_none (array_there context) (chunk_at (is_created_array context wanted way) (indexed (length context.types)) bytes) left drawn

pub created_array_some : (context : BodyContext) (wanted : ValType) (way : FieldUse) (bytes left : List ℕ) (index : ℕ) (element : FieldType)
    → chunk_at (is_created_array context wanted way) (indexed (length context.types)) bytes ≡ (Some index, left)
    → element_in (slice_get context.types index) ≡ Some element → created_array_at context wanted way bytes ≡ (Some (index, element), left)
created_array_some context wanted way bytes left index element drawn at =
    given_some (array_there context) (chunk_at (is_created_array context wanted way) (indexed (length context.types)) bytes) left index
    (Some (index, element)) drawn
    (ap (λ (o : Option FieldType). option_map (λ (element : FieldType). (index, element)) o) at)

-- a chosen field
pub field_none : (context : BodyContext) (way : FieldUse) (bytes left : List ℕ)
    → chunk_at (is_struct context way) (indexed (length context.types)) bytes ≡ (None, left) → field_at context way bytes ≡ (None, left)
field_none context way bytes left drawn =
    ap (λ (d : Option ℕ × List ℕ). continued (λ (ty : ℕ) (bytes : List ℕ). field_in context way ty (struct_in (slice_get context.types ty))
    bytes) d.0 d.1) drawn

pub field_without : (context : BodyContext) (way : FieldUse) (bytes middle left : List ℕ) (ty : ℕ) (structure : StructType)
    → chunk_at (is_struct context way) (indexed (length context.types)) bytes ≡ (Some ty, middle)
    → struct_in (slice_get context.types ty) ≡ Some structure → choose_at (fields_with context.types way structure.fields) middle
    ≡ (None, left) → field_at context way bytes ≡ (None, left)
field_without context way bytes middle left ty structure drawn at drawn' =
    ap (λ (d : Option ℕ × List ℕ). continued (λ (ty : ℕ) (bytes : List ℕ). field_in context way ty (struct_in (slice_get context.types ty))
    bytes) d.0 d.1) drawn
    ∙ ap (λ (o : Option StructType). field_in context way ty o middle) at
    ∙ (given_none (field_there ty structure.fields) (choose_at (fields_with context.types way structure.fields) middle) left drawn')

pub field_some : (context : BodyContext) (way : FieldUse) (bytes middle left : List ℕ) (ty index : ℕ) (structure : StructType)
    (d : FieldType) → chunk_at (is_struct context way) (indexed (length context.types)) bytes ≡ (Some ty, middle)
    → struct_in (slice_get context.types ty) ≡ Some structure → choose_at (fields_with context.types way structure.fields) middle
    ≡ (Some index, left) → index < length structure.fields
    → field_at context way bytes ≡ (Some (record { ty = ty; index = index; field = get_or structure.fields index d }), left)
field_some context way bytes middle left ty index structure d drawn at drawn' inside =
    ap (λ (d : Option ℕ × List ℕ). continued (λ (ty : ℕ) (bytes : List ℕ). field_in context way ty (struct_in (slice_get context.types ty))
    bytes) d.0 d.1) drawn
    ∙ ap (λ (o : Option StructType). field_in context way ty o middle) at
    ∙ (given_some (field_there ty structure.fields) (choose_at (fields_with context.types way structure.fields) middle) left index
    (Some (record { ty = ty; index = index; field = get_or structure.fields index d })) drawn'
    (ap (λ (o : Option FieldType). option_map (λ (field : FieldType). record { ty = ty; index = index; field = field }) o)
    (slice_get-get_or structure.fields index d inside)))

pub field_is : (context : BodyContext) (ty index : ℕ) (structure : StructType) (d : FieldType) → struct_in (slice_get context.types ty)
    ≡ Some structure → index < length structure.fields → IsFieldAt context ty index (get_or structure.fields index d)
field_is context ty index structure d at inside =
    record {
      fields = structure.fields;
      structure = struct_there context.types ty structure at;
      there = slice_get-get_or structure.fields
          index d inside;
    }

-- a field is tested by its type
pub field_tested : (types : List SubType) (way : FieldUse) (fields : List FieldType) (index : ℕ) (d : FieldType) (r : Bool)
    → index < length fields → r ≡ is_usable types way (get_or fields index d) → r ≡ is_field types way fields index
field_tested types way fields index d r inside is =
    is ∙ sym (ap (λ (o : Option FieldType). is_usable_in types way o) (slice_get-get_or fields index d inside))

pub field_usable : (types : List SubType) (way : FieldUse) (fields : List FieldType) (index : ℕ) (d : FieldType) → index < length fields
    → is_field types way fields index ≡ true → is_usable types way (get_or fields index d) ≡ true
field_usable types way fields index d inside is = subst (λ (o : Option FieldType). is_usable_in types way o ≡ true)
    (slice_get-get_or fields index d inside) is
