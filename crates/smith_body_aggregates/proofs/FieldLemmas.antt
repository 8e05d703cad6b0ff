-- Reads and writes of fields and elements.
use Rattle.smith_body_aggregates.proofs.Common.{[], arith, bare, BodyContext, both, false, FieldType, given_some, I32, is_elem_below}
use Rattle.smith_body_aggregates.proofs.Common.{IsOrderly, IsValid, List, refl, Some, tested, true, ValType, value_of, ℕ, ◌<◌, ◌∷◌, ◌≡◌}
use Rattle.std.proofs.Common.{Bool, None}
use Rattle.smith_bytes.specs.Draws.{bool_at}
use Rattle.smith_types.specs.Expressions.{IsArrayAt}
use Rattle.smith_types.specs.Syntax.value_type.HeapType.TheVariants.{Concrete}
use Rattle.smith_draw_types.specs.Choices.{chosen_at}
use Rattle.smith_instr.specs.AggregateTypes.{IsFieldAt}
use Rattle.smith_instr.specs.Contexts.{AreValid, nullable_to}
use Rattle.smith_instr.specs.declared.aggregate.AggregateInstr.TheVariants as aggregate
use Rattle.smith_instr.specs.declared.instr.Instr.TheVariants as instr
use Rattle.smith_body_nodes.specs.IndexedTypes.{names_types}
use Rattle.smith_body_nodes.specs.Chosen.{or_nop}
use Rattle.smith_body_nodes.specs.Nodes.{IsNode, aggregate_of}
use Rattle.smith_body_aggregates.specs.CreationChoices.{chosen_elem_at}
use Rattle.smith_body_aggregates.specs.FieldChoices.{array_get_at, elem_initialized, field_read_at, field_write_at, field_writes, filled}
use Rattle.smith_body_aggregates.specs.FieldChoices.{init_elem_node, read_at, struct_get_at, write_at, write_of}
use Rattle.smith_body_aggregates.specs.Fields.{extension_of, is_of_bytes, is_of_references, is_usable}
use Rattle.smith_body_nodes.specs.Scopes.{context_of}
use Rattle.smith_body_aggregates.specs.declared.aggregates.StructField.{StructField}
use Rattle.smith_body_aggregates.specs.declared.field_writes.FieldWrite.{FieldWrite}
use Rattle.smith_body_aggregates.specs.declared.field_writes.FieldWrite.TheVariants as write
use Rattle.smith_body_aggregates.specs.declared.fields.FieldUse.TheVariants as field_use
use Rattle.smith_body_nodes.specs.declared.scope.Scope.{Scope}
use Rattle.smith_body_aggregates.proofs.AggregateLemmas.{concrete_valid, of_bytes, read_by, segment_of, storage_match}
use Rattle.smith_body_nodes.proofs.ChosenLemmas.{chosen_by}
use Rattle.smith_body_nodes.proofs.ItemLemmas.{given_none}
use Rattle.smith_body_nodes.proofs.NodeLemmas.{more_valid, one_valid}
use Rattle.smith_body_nodes.proofs.PlainLemmas.{gives_none, gives_one, three_valid, two_valid}

-- references to a struct type and to an array type are valid
struct_valid : (context : BodyContext) (ty index : ℕ) (field : FieldType) → names_types context ≡ true → IsFieldAt context ty index field
    → IsValid context (nullable_to (Concrete ty))
struct_valid context ty index field named there = let (t, at, is) = there.structure in concrete_valid context ty t named at

array_valid : (context : BodyContext) (ty : ℕ) (element : FieldType) → names_types context ≡ true → IsArrayAt context.types ty element
    → IsValid context (nullable_to (Concrete ty))
array_valid context ty element named (t, at, is) = concrete_valid context ty t named at

-- a field of a struct type, with any labels
pub field_labelled : (scope : Scope) (labels : List (List ValType)) (ty index : ℕ) (field : FieldType)
    → IsFieldAt (bare scope) ty index field → IsFieldAt (context_of scope labels) ty index field
field_labelled scope labels ty index field there = record { fields = there.fields; structure = there.structure; there = there.there }

-- reads
pub struct_get_gives : (context : BodyContext) (set : List ℕ) (wanted : ValType) (signed : Bool) (from : StructField)
    → IsOrderly context.types → names_types context ≡ true → IsValid context wanted → IsFieldAt context from.ty from.index from.field
    → is_usable context.types (field_use.Read wanted) from.field ≡ true
    → IsNode context set (wanted ∷ []) (aggregate_of (nullable_to (Concrete from.ty) ∷ [])
    (aggregate.StructGet from.ty from.index (extension_of from.field.element_type signed)))
struct_get_gives context set wanted signed from orderly named valid there usable =
    gives_one context set wanted (value_of from.field) (nullable_to (Concrete from.ty) ∷ [])
    (instr.Aggregate (aggregate.StructGet from.ty from.index (extension_of from.field.element_type signed)))
    (λ more. (from.field, there, read_by from.field.element_type signed, (refl, refl)))
    (tested context.types orderly (value_of from.field) wanted usable) valid refl (omega arith)
    (one_valid context (nullable_to (Concrete from.ty)) (struct_valid context from.ty from.index from.field named there))

pub array_get_gives : (context : BodyContext) (set : List ℕ) (wanted : ValType) (signed : Bool) (ty : ℕ) (element : FieldType)
    → IsOrderly context.types → names_types context ≡ true → IsValid context wanted → IsArrayAt context.types ty element
    → is_usable context.types (field_use.Read wanted) element ≡ true
    → IsNode context set (wanted ∷ []) (aggregate_of (nullable_to (Concrete ty) ∷ I32 ∷ [])
    (aggregate.ArrayGet ty (extension_of element.element_type signed)))
array_get_gives context set wanted signed ty element orderly named valid there usable =
    gives_one context set wanted (value_of element) (nullable_to (Concrete ty) ∷ I32 ∷ [])
    (instr.Aggregate (aggregate.ArrayGet ty (extension_of element.element_type signed)))
    (λ more. (element, there, read_by element.element_type signed, (refl, refl)))
    (tested context.types orderly (value_of element) wanted usable) valid refl (omega arith)
    (two_valid context (nullable_to (Concrete ty)) I32 (array_valid context ty element named there) tt)

pub read_struct : (context : BodyContext) (wanted : ValType) (bytes left : List ℕ) → bool_at bytes ≡ (true, left)
    → read_at context wanted bytes ≡ struct_get_at context wanted left
unfolding read_at
read_struct context wanted bytes left drawn = rw drawn refl

pub read_array : (context : BodyContext) (wanted : ValType) (bytes left : List ℕ) → bool_at bytes ≡ (false, left)
    → read_at context wanted bytes ≡ array_get_at context wanted left
unfolding read_at
read_array context wanted bytes left drawn = rw drawn refl

pub read_off : (context : BodyContext) (wanted : ValType) (bytes : List ℕ) → names_types context ≡ false
    → field_read_at context wanted bytes ≡ (None, bytes)
unfolding field_read_at
read_off context wanted bytes off = rw off refl

pub read_on : (context : BodyContext) (wanted : ValType) (bytes : List ℕ) → names_types context ≡ true → field_read_at context wanted bytes
    ≡ read_at context wanted bytes
unfolding field_read_at
read_on context wanted bytes on = rw on refl

-- writes
pub struct_set_gives : (context : BodyContext) (set : List ℕ) (chosen : StructField) → names_types context ≡ true
    → IsFieldAt context chosen.ty chosen.index chosen.field → IsValid context (value_of chosen.field)
    → is_usable context.types field_use.Set chosen.field ≡ true
    → IsNode context set [] (aggregate_of (nullable_to (Concrete chosen.ty) ∷ value_of chosen.field ∷ [])
    (aggregate.StructSet chosen.ty chosen.index))
struct_set_gives context set chosen named there held mutable =
    gives_none context set (nullable_to (Concrete chosen.ty) ∷ value_of chosen.field ∷ [])
    (instr.Aggregate (aggregate.StructSet chosen.ty chosen.index)) (λ more. (chosen.field, there, mutable, (refl, refl))) refl
    (omega arith)
    (two_valid context (nullable_to (Concrete chosen.ty)) (value_of chosen.field)
    (struct_valid context chosen.ty chosen.index chosen.field named there) held)

pub array_set_gives : (context : BodyContext) (set : List ℕ) (ty : ℕ) (element : FieldType) → names_types context ≡ true
    → IsArrayAt context.types ty element → IsValid context (value_of element) → is_usable context.types field_use.Set element ≡ true
    → IsNode context set [] (aggregate_of (nullable_to (Concrete ty) ∷ I32 ∷ value_of element ∷ []) (aggregate.ArraySet ty))
array_set_gives context set ty element named there held mutable =
    gives_none context set (nullable_to (Concrete ty) ∷ I32 ∷ value_of element ∷ []) (instr.Aggregate (aggregate.ArraySet ty))
    (λ more. (element, there, mutable, (refl, refl))) refl (omega arith)
    (three_valid context (nullable_to (Concrete ty)) I32 (value_of element) (array_valid context ty element named there) tt held)

pub array_fill_gives : (context : BodyContext) (set : List ℕ) (ty : ℕ) (element : FieldType) → names_types context ≡ true
    → IsArrayAt context.types ty element → IsValid context (value_of element) → is_usable context.types field_use.Set element ≡ true
    → IsNode context set [] (aggregate_of (nullable_to (Concrete ty) ∷ I32 ∷ value_of element ∷ I32 ∷ []) (aggregate.ArrayFill ty))
array_fill_gives context set ty element named there held mutable =
    gives_none context set (nullable_to (Concrete ty) ∷ I32 ∷ value_of element ∷ I32 ∷ []) (instr.Aggregate (aggregate.ArrayFill ty))
    (λ more. (element, there, mutable, (refl, refl))) refl (omega arith)
    (more_valid context (nullable_to (Concrete ty)) (I32 ∷ value_of element ∷ I32 ∷ []) (array_valid context ty element named there)
    (three_valid context I32 (value_of element) I32 tt held tt))

pub array_copy_gives : (context : BodyContext) (set : List ℕ) (to from : ℕ) (into out : FieldType) → IsOrderly context.types
    → names_types context ≡ true → IsArrayAt context.types to into → IsArrayAt context.types from out
    → is_usable context.types field_use.Set into ≡ true
    → is_usable context.types (field_use.CopyInto into.element_type) out ≡ true
    → IsNode context set [] (aggregate_of (nullable_to (Concrete to) ∷ I32 ∷ nullable_to (Concrete from) ∷ I32 ∷ I32 ∷ [])
    (aggregate.ArrayCopy to from))
array_copy_gives context set to from into out orderly named there there' mutable below =
    gives_none context set (nullable_to (Concrete to) ∷ I32 ∷ nullable_to (Concrete from) ∷ I32 ∷ I32 ∷ [])
    (instr.Aggregate (aggregate.ArrayCopy to from))
    (λ more. (
      into,
      out,
      there,
      there',
      mutable,
      storage_match context.types out.element_type into.element_type orderly below,
      (refl, refl),
    )) refl (omega arith)
    (more_valid context (nullable_to (Concrete to)) (I32 ∷ nullable_to (Concrete from) ∷ I32 ∷ I32 ∷ [])
    (array_valid context to into named there)
    (more_valid context I32 (nullable_to (Concrete from) ∷ I32 ∷ I32 ∷ []) tt (three_valid context (nullable_to (Concrete from)) I32 I32
    (array_valid context from out named there') tt tt)))

filled_valid : (context : BodyContext) (ty : ℕ) (element : FieldType) → names_types context ≡ true → IsArrayAt context.types ty element
    → AreValid context (nullable_to (Concrete ty) ∷ I32 ∷ I32 ∷ I32 ∷ [])
filled_valid context ty element named there =
    more_valid context (nullable_to (Concrete ty)) (I32 ∷ I32 ∷ I32 ∷ []) (array_valid context ty element named there)
    (three_valid context I32 I32 I32 tt tt tt)

pub init_data_gives : (context : BodyContext) (set : List ℕ) (ty segment : ℕ) (element : FieldType) → names_types context ≡ true
    → IsArrayAt context.types ty element → is_usable context.types field_use.SetBytes element ≡ true → segment < context.datas
    → IsNode context set [] (aggregate_of (nullable_to (Concrete ty) ∷ I32 ∷ I32 ∷ I32 ∷ []) (aggregate.ArrayInitData ty segment))
init_data_gives context set ty segment element named there usable inside =
    let (mutable, of) = both element.mutable (is_of_bytes element.element_type) usable in
    gives_none context set (nullable_to (Concrete ty) ∷ I32 ∷ I32 ∷ I32 ∷ []) (instr.Aggregate (aggregate.ArrayInitData ty segment))
    (λ more. (element, there, mutable, of_bytes element.element_type of, inside, (refl, refl))) refl (omega arith)
    (filled_valid context ty element named there)

pub init_elem_gives : (context : BodyContext) (set : List ℕ) (ty segment : ℕ) (element : FieldType) → IsOrderly context.types
    → names_types context ≡ true → IsArrayAt context.types ty element → is_usable context.types field_use.SetReferences element ≡ true
    → is_elem_below context (value_of element) segment ≡ true
    → IsNode context set [] (aggregate_of (nullable_to (Concrete ty) ∷ I32 ∷ I32 ∷ I32 ∷ []) (aggregate.ArrayInitElem ty segment))
init_elem_gives context set ty segment element orderly named there usable held =
    let (mutable, of) = both element.mutable (is_of_references element.element_type) usable in
    gives_none context set (nullable_to (Concrete ty) ∷ I32 ∷ I32 ∷ I32 ∷ []) (instr.Aggregate (aggregate.ArrayInitElem ty segment))
    (λ more. (element, there, mutable, segment_of context segment element orderly of held, (refl, refl))) refl (omega arith)
    (filled_valid context ty element named there)

pub init_elem_none : (context : BodyContext) (array : ℕ × FieldType) (bytes left : List ℕ) → chosen_elem_at context (value_of array.1) bytes
    ≡ (None, left) → elem_initialized context array bytes ≡ (None, left)
init_elem_none context array bytes left drawn = given_none (init_elem_node array) (chosen_elem_at context (value_of array.1) bytes) left
    drawn

pub init_elem_some : (context : BodyContext) (array : ℕ × FieldType) (bytes left : List ℕ) (segment : ℕ)
    → chosen_elem_at context (value_of array.1) bytes ≡ (Some segment, left)
    → elem_initialized context array bytes ≡ (Some (aggregate_of (filled array) (aggregate.ArrayInitElem array.0 segment)), left)
init_elem_some context array bytes left segment drawn =
    given_some (init_elem_node array) (chosen_elem_at context (value_of array.1) bytes) left segment
    (Some (aggregate_of (filled array) (aggregate.ArrayInitElem array.0 segment))) drawn refl

pub write_by : (context : BodyContext) (bytes left : List ℕ) (rows : List FieldWrite) (drawn kind : FieldWrite) → rows ≡ field_writes
    → chosen_at write.StructSet rows bytes ≡ (drawn, left) → drawn ≡ kind
    → or_nop (write_at context bytes) ≡ or_nop (write_of context kind left)
unfolding write_at
write_by context bytes left rows drawn kind are chosen is = chosen_by (λ kind bytes. or_nop (write_of context kind bytes)) write.StructSet
    field_writes rows bytes left drawn kind are chosen is

pub write_off : (context : BodyContext) (bytes : List ℕ) → names_types context ≡ false → or_nop (field_write_at context bytes)
    ≡ or_nop (None, bytes)
unfolding field_write_at
write_off context bytes off = rw off refl

pub write_on : (context : BodyContext) (bytes : List ℕ) → names_types context ≡ true → or_nop (field_write_at context bytes)
    ≡ or_nop (write_at context bytes)
unfolding field_write_at
write_on context bytes on = rw on refl
