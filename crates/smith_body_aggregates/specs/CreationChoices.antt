-- Drawn creations of structs and arrays. The choices, their order and their weights are rules of
-- this project.
use Rattle.std.specs.Prelude.{ℕ, true, false, Option, Some, None, option_map, List, [], ◌∷◌, length, replicate, slice_get}
use Rattle.smith_bytes.specs.Draws.{range_at}
use Rattle.smith_types.specs.Expressions.{field_values}
use Rattle.smith_types.specs.Syntax.composite_type.FieldType.{FieldType}
use Rattle.smith_types.specs.Syntax.composite_type.StructType.{StructType}
use Rattle.smith_types.specs.Syntax.value_type.ValType.{ValType}
use Rattle.smith_types.specs.Syntax.value_type.ValType.TheVariants.{I32, Ref}
use Rattle.smith_draw_types.specs.Choices.{chosen_at}
use Rattle.smith_instr.specs.AggregateTypes.{value_of}
use Rattle.smith_instr.specs.Contexts.{BodyContext}
use Rattle.smith_instr.specs.declared.aggregate.AggregateInstr.TheVariants as aggregate
use Rattle.smith_body_aggregates.specs.Aggregates.{created_array_at, created_struct_at}
use Rattle.smith_body_nodes.specs.Nodes.{aggregate_of}
use Rattle.smith_body_nodes.specs.Chosen.{Chosen, giving}
use Rattle.smith_body_nodes.specs.IndexedTypes.{struct_in}
use Rattle.smith_body_nodes.specs.Items.{continued, index_at}
use Rattle.smith_body_nodes.specs.Offered.{chunk_at, is_elem_below}
use Rattle.smith_body_nodes.specs.Scopes.{indexed}
use Rattle.smith_body_aggregates.specs.declared.creations.Creation.{Creation}
use Rattle.smith_body_aggregates.specs.declared.creations.Creation.TheVariants as creation
use Rattle.smith_body_aggregates.specs.declared.fields.FieldUse.TheVariants as field_use
use Rattle.smith_body_nodes.specs.declared.node.Node.{Node}

-- a struct from values for its fields, or from default values
abbrev pub struct_new_node : BodyContext → ℕ → Option Node
struct_new_node context ty =
    option_map (λ (structure : StructType). aggregate_of (field_values structure.fields) (aggregate.StructNew ty))
    (struct_in (slice_get context.types ty))

abbrev pub struct_new_at : BodyContext → ValType → List ℕ → Chosen
struct_new_at context wanted bytes = giving (struct_new_node context) (created_struct_at context wanted false bytes)

abbrev pub struct_default_node : ℕ → Option Node
struct_default_node ty = Some (aggregate_of [] (aggregate.StructNewDefault ty))

abbrev pub struct_default_at : BodyContext → ValType → List ℕ → Chosen
struct_default_at context wanted bytes = giving struct_default_node (created_struct_at context wanted true bytes)

-- an array from one value, or from the default value
abbrev pub array_new_node : ℕ × FieldType → Option Node
array_new_node array = Some (aggregate_of (value_of array.1 ∷ I32 ∷ []) (aggregate.ArrayNew array.0))

abbrev pub array_default_node : ℕ × FieldType → Option Node
array_default_node array = Some (aggregate_of (I32 ∷ []) (aggregate.ArrayNewDefault array.0))

-- an array from at most seven values
abbrev pub array_fixed : ℕ × FieldType → List ℕ → Chosen
array_fixed array bytes =
    let size = range_at 0 7 bytes in
    (Some (aggregate_of (replicate size.0 (value_of array.1)) (aggregate.ArrayNewFixed array.0 size.0)), size.1)

-- an array from a data segment, or from an element segment whose type matches its elements
abbrev pub array_data_node : ℕ × FieldType → ℕ → Option Node
array_data_node array segment = Some (aggregate_of (I32 ∷ I32 ∷ []) (aggregate.ArrayNewData array.0 segment))

abbrev pub array_data : BodyContext → ℕ × FieldType → List ℕ → Chosen
array_data context array bytes = giving (array_data_node array) (index_at context.datas bytes)

abbrev pub chosen_elem_at : BodyContext → ValType → List ℕ → Option ℕ × List ℕ
chosen_elem_at context wanted bytes = chunk_at (is_elem_below context wanted) (indexed (length context.elems)) bytes

abbrev pub array_elem_node : ℕ × FieldType → ℕ → Option Node
array_elem_node array segment = Some (aggregate_of (I32 ∷ I32 ∷ []) (aggregate.ArrayNewElem array.0 segment))

abbrev pub array_elem : BodyContext → ℕ × FieldType → List ℕ → Chosen
array_elem context array bytes = giving (array_elem_node array) (chosen_elem_at context (value_of array.1) bytes)

-- the creations, each listed as often as its weight
abbrev pub creations : List Creation
creations =
    creation.StructNew ∷
    creation.StructDefault ∷
    creation.ArrayNew ∷
    creation.ArrayDefault ∷
    creation.ArrayFixed ∷
    creation.ArrayData ∷
    creation.ArrayElem ∷
    creation.ArrayElem ∷
    creation.ArrayElem ∷
    creation.ArrayElem ∷
    creation.ArrayElem ∷
    creation.ArrayElem ∷
    []

-- a drawn array type, then the creation of an array of it
abbrev pub fixed_at : BodyContext → ValType → List ℕ → Chosen
fixed_at context wanted bytes = let array = created_array_at context wanted field_use.New bytes in continued array_fixed array.0 array.1

abbrev pub data_at : BodyContext → ValType → List ℕ → Chosen
data_at context wanted bytes = let array = created_array_at context wanted field_use.NewBytes bytes in
    continued (array_data context) array.0 array.1

abbrev pub elem_at : BodyContext → ValType → List ℕ → Chosen
elem_at context wanted bytes = let array = created_array_at context wanted field_use.NewReferences bytes in
    continued (array_elem context) array.0 array.1

-- a creation whose value matches the wanted type
abbrev pub creation_of : BodyContext → ValType → Creation → List ℕ → Chosen
creation_of context wanted creation.StructNew bytes = struct_new_at context wanted bytes
creation_of context wanted creation.StructDefault bytes = struct_default_at context wanted bytes
creation_of context wanted creation.ArrayNew bytes = giving array_new_node (created_array_at context wanted field_use.New bytes)
creation_of context wanted creation.ArrayDefault bytes =
    giving array_default_node (created_array_at context wanted field_use.NewDefault bytes)
creation_of context wanted creation.ArrayFixed bytes = fixed_at context wanted bytes
creation_of context wanted creation.ArrayData bytes = data_at context wanted bytes
creation_of context wanted creation.ArrayElem bytes = elem_at context wanted bytes

unfoldable pub created_at : BodyContext → ValType → List ℕ → Chosen
created_at context wanted bytes = let kind = chosen_at creation.StructNew creations bytes in creation_of context wanted kind.0 kind.1

-- a creation, if the wanted type is a reference type
unfoldable pub creation_at : BodyContext → ValType → List ℕ → Chosen
creation_at context (Ref to) bytes = created_at context (Ref to) bytes
creation_at context _ bytes = (None, bytes)
