-- Creations of structs and arrays.
use Rattle.smith_body_aggregates.proofs.Common.{[], arith, BodyContext, both, false, FieldType, given_some, I32, is_elem_below, IsOrderly}
use Rattle.smith_body_aggregates.proofs.Common.{IsValid, length, List, refl, Some, struct_there, tested, true, ValType, value_of, ℕ, ◌<◌}
use Rattle.smith_body_aggregates.proofs.Common.{◌∷◌, ◌≡◌}
use Rattle.std.proofs.Common.{ap, Option, replicate, subst, ◌≤◌}
use Rattle.std.specs.Prelude.{slice_get, option_map}
use Rattle.std.proofs.lemmas.Bool.{leb-true}
use Rattle.std.proofs.lemmas.List.{length-map, length-replicate}
use Rattle.std.proofs.lemmas.List.Elements.{All-replicate}
use Rattle.smith_types.specs.Expressions.{IsArrayAt, field_values, unpacked}
use Rattle.smith_types.specs.Syntax.composite_type.StructType.{StructType}
use Rattle.smith_types.specs.Grounded.{is_defaultable}
use Rattle.smith_draw_types.specs.Choices.{chosen_at}
use Rattle.smith_instr.specs.AggregateTypes.{HasAggregateType}
use Rattle.smith_instr.specs.Contexts.{AreValid, created_reference}
use Rattle.smith_instr.specs.declared.aggregate.AggregateInstr.{AggregateInstr}
use Rattle.smith_instr.specs.declared.aggregate.AggregateInstr.TheVariants as aggregate
use Rattle.smith_instr.specs.declared.instr.Instr.TheVariants as instr
use Rattle.smith_body_aggregates.specs.Aggregates.{created_struct_at}
use Rattle.smith_body_nodes.specs.IndexedTypes.{is_creatable_in, is_created_below, is_created_struct, struct_in}
use Rattle.smith_body_nodes.specs.Nodes.{IsNode, aggregate_of}
use Rattle.smith_body_aggregates.specs.CreationChoices.{created_at, creation_of, creations, struct_new_at, struct_new_node}
use Rattle.smith_body_aggregates.specs.Fields.{is_of_bytes, is_of_references}
use Rattle.smith_body_aggregates.specs.declared.creations.Creation.{Creation}
use Rattle.smith_body_aggregates.specs.declared.creations.Creation.TheVariants as creation
use Rattle.smith_body_nodes.proofs.IndexedTypeLemmas.{default_there}
use Rattle.smith_body_aggregates.proofs.AggregateLemmas.{of_bytes, one_default, segment_of}
use Rattle.smith_body_nodes.proofs.ChosenLemmas.{chosen_by}
use Rattle.smith_body_nodes.proofs.NodeLemmas.{no_valid, one_valid}
use Rattle.smith_body_nodes.proofs.PlainLemmas.{gives_one, two_valid}

-- an instruction whose created value matches the wanted type
created_gives : (context : BodyContext) (set : List ℕ) (wanted : ValType) (ty : ℕ) (operands : List ValType) (op : AggregateInstr)
    → IsOrderly context.types → IsValid context wanted → is_created_below context wanted ty ≡ true
    → HasAggregateType context op operands (created_reference context ty ∷ []) → length operands ≤ 7 → AreValid context operands
    → IsNode context set (wanted ∷ []) (aggregate_of operands op)
created_gives context set wanted ty operands op orderly valid below typed few operands_valid =
    gives_one context set wanted (created_reference context ty) operands (instr.Aggregate op) (λ more. typed)
    (tested context.types orderly (created_reference context ty) wanted below) valid refl few operands_valid

-- a struct
pub struct_new_gives : (context : BodyContext) (set : List ℕ) (wanted : ValType) (ty : ℕ) (structure : StructType) → IsOrderly context.types
    → AreValid context (field_values structure.fields) → IsValid context wanted → is_created_struct context wanted false ty ≡ true
    → struct_in (slice_get context.types ty) ≡ Some structure
    → IsNode context set (wanted ∷ []) (aggregate_of (field_values structure.fields) (aggregate.StructNew ty))
struct_new_gives context set wanted ty structure orderly held valid is at =
    let (below, can) = both (is_created_below context wanted ty) (is_creatable_in false (struct_in (slice_get context.types ty))) is in
    let can' : is_creatable_in false (Some structure) ≡ true = subst (λ (o : Option StructType). is_creatable_in false o ≡ true) at can in
    let few : length structure.fields ≤ 7 = leb-true (length structure.fields) 7 can' in
    let same : length (field_values structure.fields) ≡ length structure.fields =
    length-map structure.fields (λ (field : FieldType). unpacked field.element_type) in
    let there = struct_there context.types ty structure at in
    created_gives context set wanted ty (field_values structure.fields) (aggregate.StructNew ty) orderly valid below
    (structure.fields, there, (refl, refl)) (omega arith) held

pub struct_default_gives : (context : BodyContext) (set : List ℕ) (wanted : ValType) (ty : ℕ) → IsOrderly context.types
    → IsValid context wanted → is_created_struct context wanted true ty ≡ true
    → IsNode context set (wanted ∷ []) (aggregate_of [] (aggregate.StructNewDefault ty))
struct_default_gives context set wanted ty orderly valid is =
    let (below, can) = both (is_created_below context wanted ty) (is_creatable_in true (struct_in (slice_get context.types ty))) is in
    let (fields, there, defaults) = default_there context.types ty can in
    created_gives context set wanted ty [] (aggregate.StructNewDefault ty) orderly valid below (fields, there, defaults, (refl, refl))
    (omega arith) (no_valid context)

pub struct_new_there : (context : BodyContext) (wanted : ValType) (bytes left : List ℕ) (ty : ℕ) (structure : StructType)
    → created_struct_at context wanted false bytes ≡ (Some ty, left) → struct_in (slice_get context.types ty) ≡ Some structure
    → struct_new_at context wanted bytes ≡ (Some (aggregate_of (field_values structure.fields) (aggregate.StructNew ty)), left)
struct_new_there context wanted bytes left ty structure drawn at =
    given_some (struct_new_node context) (created_struct_at context wanted false bytes) left ty
    (Some (aggregate_of (field_values structure.fields) (aggregate.StructNew ty))) drawn
    (ap (λ (o : Option StructType). option_map (λ (structure : StructType). aggregate_of (field_values structure.fields)
    (aggregate.StructNew ty)) o) at)

-- an array
pub array_new_gives : (context : BodyContext) (set : List ℕ) (wanted : ValType) (ty : ℕ) (element : FieldType) → IsOrderly context.types
    → IsValid context wanted → IsValid context (value_of element) → IsArrayAt context.types ty element → is_created_below context wanted ty
    ≡ true
    → IsNode context set (wanted ∷ []) (aggregate_of (value_of element ∷ I32 ∷ []) (aggregate.ArrayNew ty))
array_new_gives context set wanted ty element orderly valid held there below =
    created_gives context set wanted ty (value_of element ∷ I32 ∷ []) (aggregate.ArrayNew ty) orderly valid below
    (element, there, (refl, refl)) (omega arith) (two_valid context (value_of element) I32 held tt)

pub array_default_gives : (context : BodyContext) (set : List ℕ) (wanted : ValType) (ty : ℕ) (element : FieldType) → IsOrderly context.types
    → IsValid context wanted → IsArrayAt context.types ty element → is_defaultable (value_of element) ≡ true
    → is_created_below context wanted ty ≡ true
    → IsNode context set (wanted ∷ []) (aggregate_of (I32 ∷ []) (aggregate.ArrayNewDefault ty))
array_default_gives context set wanted ty element orderly valid there default below =
    created_gives context set wanted ty (I32 ∷ []) (aggregate.ArrayNewDefault ty) orderly valid below
    (element, there, one_default (value_of element) default, (refl, refl)) (omega arith) (one_valid context I32 tt)

pub array_fixed_gives : (context : BodyContext) (set : List ℕ) (wanted : ValType) (ty size : ℕ) (element : FieldType)
    → IsOrderly context.types → IsValid context wanted → IsValid context (value_of element) → IsArrayAt context.types ty element
    → is_created_below context wanted ty ≡ true → size ≤ 7
    → IsNode context set (wanted ∷ []) (aggregate_of (replicate size (value_of element)) (aggregate.ArrayNewFixed ty size))
array_fixed_gives context set wanted ty size element orderly valid held there below few =
    let same : length (replicate size (value_of element)) ≡ size = length-replicate size (value_of element) in
    created_gives context set wanted ty (replicate size (value_of element)) (aggregate.ArrayNewFixed ty size) orderly valid below
    (element, there, (refl, refl)) (omega arith)
    (All-replicate (IsValid context) size (value_of element) held)

pub array_data_gives : (context : BodyContext) (set : List ℕ) (wanted : ValType) (ty segment : ℕ) (element : FieldType)
    → IsOrderly context.types → IsValid context wanted → IsArrayAt context.types ty element → is_of_bytes element.element_type ≡ true
    → is_created_below context wanted ty ≡ true
    → segment < context.datas → IsNode context set (wanted ∷ []) (aggregate_of (I32 ∷ I32 ∷ []) (aggregate.ArrayNewData ty segment))
array_data_gives context set wanted ty segment element orderly valid there of below inside =
    created_gives context set wanted ty (I32 ∷ I32 ∷ []) (aggregate.ArrayNewData ty segment) orderly valid below
    (element, there, of_bytes element.element_type of, inside, (refl, refl)) (omega arith) (two_valid context I32 I32 tt tt)

pub array_elem_gives : (context : BodyContext) (set : List ℕ) (wanted : ValType) (ty segment : ℕ) (element : FieldType)
    → IsOrderly context.types → IsValid context wanted → IsArrayAt context.types ty element → is_of_references element.element_type ≡ true
    → is_created_below context wanted ty ≡ true
    → is_elem_below context (value_of element) segment ≡ true
    → IsNode context set (wanted ∷ []) (aggregate_of (I32 ∷ I32 ∷ []) (aggregate.ArrayNewElem ty segment))
array_elem_gives context set wanted ty segment element orderly valid there of below held =
    created_gives context set wanted ty (I32 ∷ I32 ∷ []) (aggregate.ArrayNewElem ty segment) orderly valid below
    (element, there, segment_of context segment element orderly of held, (refl, refl)) (omega arith) (two_valid context I32 I32 tt tt)

-- the chosen creation
pub created_by : (context : BodyContext) (wanted : ValType) (bytes left : List ℕ) (rows : List Creation) (drawn kind : Creation)
    → rows ≡ creations → chosen_at creation.StructNew rows bytes ≡ (drawn, left) → drawn ≡ kind
    → created_at context wanted bytes ≡ creation_of context wanted kind left
unfolding created_at
created_by context wanted bytes left rows drawn kind are chosen is = chosen_by (creation_of context wanted) creation.StructNew creations
    rows bytes left drawn kind are chosen is
