-- Drawn reads and writes of fields and elements. The choices, their order and their weights are
-- rules of this project.
use Rattle.std.specs.Prelude.{ℕ, Option, Some, None, List, [], ◌∷◌, if◌then◌else◌}
use Rattle.smith_bytes.specs.Draws.{bool_at}
use Rattle.smith_types.specs.Syntax.composite_type.FieldType.{FieldType}
use Rattle.smith_types.specs.Syntax.value_type.HeapType.TheVariants.{Concrete}
use Rattle.smith_types.specs.Syntax.value_type.ValType.{ValType}
use Rattle.smith_types.specs.Syntax.value_type.ValType.TheVariants.{I32}
use Rattle.smith_draw_types.specs.Choices.{chosen_at}
use Rattle.smith_instr.specs.AggregateTypes.{value_of}
use Rattle.smith_instr.specs.Contexts.{BodyContext, nullable_to}
use Rattle.smith_instr.specs.declared.aggregate.AggregateInstr.TheVariants as aggregate
use Rattle.smith_body_aggregates.specs.Aggregates.{array_at, field_at}
use Rattle.smith_body_nodes.specs.IndexedTypes.{names_types}
use Rattle.smith_body_nodes.specs.Chosen.{Chosen, giving}
use Rattle.smith_body_nodes.specs.Nodes.{aggregate_of}
use Rattle.smith_body_aggregates.specs.CreationChoices.{chosen_elem_at}
use Rattle.smith_body_aggregates.specs.Fields.{extension_of}
use Rattle.smith_body_nodes.specs.Items.{continued, index_at}
use Rattle.smith_body_aggregates.specs.declared.aggregates.StructField.{StructField}
use Rattle.smith_body_aggregates.specs.declared.field_writes.FieldWrite.{FieldWrite}
use Rattle.smith_body_aggregates.specs.declared.field_writes.FieldWrite.TheVariants as write
use Rattle.smith_body_aggregates.specs.declared.fields.FieldUse.TheVariants as field_use
use Rattle.smith_body_nodes.specs.declared.node.Node.{Node}

-- a read of a field; a packed field is extended with sign if a drawn bool is true
abbrev pub struct_get : StructField → List ℕ → Chosen
struct_get chosen bytes =
    let signed = bool_at bytes in (
      Some (aggregate_of (nullable_to (Concrete chosen.ty) ∷ [])
          (aggregate.StructGet chosen.ty chosen.index (extension_of chosen.field.element_type signed.0))),
      signed.1,
    )

abbrev pub struct_get_at : BodyContext → ValType → List ℕ → Chosen
struct_get_at context wanted bytes = let chosen = field_at context (field_use.Read wanted) bytes in continued struct_get chosen.0 chosen.1

-- a read of an element
abbrev pub array_get : ℕ × FieldType → List ℕ → Chosen
array_get array bytes =
    let signed = bool_at bytes in (
      Some (aggregate_of (nullable_to (Concrete array.0) ∷ I32 ∷ [])
          (aggregate.ArrayGet array.0 (extension_of array.1.element_type signed.0))),
      signed.1,
    )

abbrev pub array_get_at : BodyContext → ValType → List ℕ → Chosen
array_get_at context wanted bytes = let array = array_at context (field_use.Read wanted) bytes in continued array_get array.0 array.1

-- a read of a field or an element whose value matches the wanted type
unfoldable pub read_at : BodyContext → ValType → List ℕ → Chosen
read_at context wanted bytes =
    let structure = bool_at bytes in
    if structure.0 then struct_get_at context wanted structure.1 else array_get_at context wanted structure.1

-- a read of a field or an element whose value matches the wanted type, if references may name types
-- by their indices
unfoldable pub field_read_at : BodyContext → ValType → List ℕ → Chosen
field_read_at context wanted bytes = if names_types context then read_at context wanted bytes else (None, bytes)

-- a write of a field or an element
abbrev pub struct_set_node : StructField → Option Node
struct_set_node chosen =
    Some (aggregate_of (nullable_to (Concrete chosen.ty) ∷ value_of chosen.field ∷ []) (aggregate.StructSet chosen.ty chosen.index))

abbrev pub array_set_node : ℕ × FieldType → Option Node
array_set_node array = Some (aggregate_of (nullable_to (Concrete array.0) ∷ I32 ∷ value_of array.1 ∷ []) (aggregate.ArraySet array.0))

-- a write of one value to several elements
abbrev pub array_fill_node : ℕ × FieldType → Option Node
array_fill_node array = Some (aggregate_of (nullable_to (Concrete array.0) ∷ I32 ∷ value_of array.1 ∷ I32 ∷ [])
    (aggregate.ArrayFill array.0))

-- a copy of elements from array to array
abbrev pub array_copy_node : ℕ × FieldType → ℕ × FieldType → Option Node
array_copy_node into out =
    Some (aggregate_of (nullable_to (Concrete into.0) ∷ I32 ∷ nullable_to (Concrete out.0) ∷ I32 ∷ I32 ∷ [])
    (aggregate.ArrayCopy into.0 out.0))

abbrev pub array_copied : BodyContext → ℕ × FieldType → List ℕ → Chosen
array_copied context into bytes = giving (array_copy_node into) (array_at context (field_use.CopyInto into.1.element_type) bytes)

abbrev pub array_copy_at : BodyContext → List ℕ → Chosen
array_copy_at context bytes = let into = array_at context field_use.Set bytes in continued (array_copied context) into.0 into.1

-- a write of several elements from a data segment or an element segment
abbrev pub filled : ℕ × FieldType → List ValType
filled array = nullable_to (Concrete array.0) ∷ I32 ∷ I32 ∷ I32 ∷ []

abbrev pub init_data_node : ℕ × FieldType → ℕ → Option Node
init_data_node array segment = Some (aggregate_of (filled array) (aggregate.ArrayInitData array.0 segment))

abbrev pub data_initialized : BodyContext → ℕ × FieldType → List ℕ → Chosen
data_initialized context array bytes = giving (init_data_node array) (index_at context.datas bytes)

abbrev pub init_data_at : BodyContext → List ℕ → Chosen
init_data_at context bytes = let array = array_at context field_use.SetBytes bytes in continued (data_initialized context) array.0 array.1

abbrev pub init_elem_node : ℕ × FieldType → ℕ → Option Node
init_elem_node array segment = Some (aggregate_of (filled array) (aggregate.ArrayInitElem array.0 segment))

abbrev pub elem_initialized : BodyContext → ℕ × FieldType → List ℕ → Chosen
elem_initialized context array bytes = giving (init_elem_node array) (chosen_elem_at context (value_of array.1) bytes)

abbrev pub init_elem_at : BodyContext → List ℕ → Chosen
init_elem_at context bytes = let array = array_at context field_use.SetReferences bytes in
    continued (elem_initialized context) array.0 array.1

-- the writes, each listed as often as its weight
abbrev pub field_writes : List FieldWrite
field_writes = write.StructSet ∷ write.ArraySet ∷ write.ArrayFill ∷ write.ArrayCopy ∷ write.InitData ∷ write.InitElem ∷ write.InitElem
    ∷ write.InitElem ∷ []

abbrev pub write_of : BodyContext → FieldWrite → List ℕ → Chosen
write_of context write.StructSet bytes = giving struct_set_node (field_at context field_use.Set bytes)
write_of context write.ArraySet bytes = giving array_set_node (array_at context field_use.Set bytes)
write_of context write.ArrayFill bytes = giving array_fill_node (array_at context field_use.Set bytes)
write_of context write.ArrayCopy bytes = array_copy_at context bytes
write_of context write.InitData bytes = init_data_at context bytes
write_of context write.InitElem bytes = init_elem_at context bytes

unfoldable pub write_at : BodyContext → List ℕ → Chosen
write_at context bytes = let kind = chosen_at write.StructSet field_writes bytes in write_of context kind.0 kind.1

-- a write of a field or an element, if references may name types by their indices
unfoldable pub field_write_at : BodyContext → List ℕ → Chosen
field_write_at context bytes = if names_types context then write_at context bytes else (None, bytes)
