-- Drawn table instructions. The choices, their order and their weights are rules of this project.
use Rattle.std.specs.Prelude.{ℕ, Bool, true, false, ◌&&◌, Option, Some, None, option_map, List, [], ◌∷◌, length, slice_get, if◌then◌else◌}
use Rattle.smith_bytes.specs.Draws.{bool_at}
use Rattle.smith_types.specs.Syntax.entity_type.TableType.{TableType}
use Rattle.smith_types.specs.Syntax.value_type.ValType.{ValType}
use Rattle.smith_types.specs.Syntax.value_type.ValType.TheVariants.{I32, Ref}
use Rattle.smith_draw_types.specs.Choices.{chosen_at}
use Rattle.smith_instr.specs.Contexts.{BodyContext, address}
use Rattle.smith_instr.specs.ReferenceTypes.{narrower}
use Rattle.smith_instr.specs.declared.instr.Instr.TheVariants as instr
use Rattle.smith_instr.specs.declared.table.TableInstr.TheVariants as table_instr
use Rattle.smith_body_nodes.specs.Chosen.{Chosen, giving}
use Rattle.smith_body_nodes.specs.Items.{continued, index_at, item_at}
use Rattle.smith_body_nodes.specs.Nodes.{node_of}
use Rattle.smith_body_nodes.specs.Offered.{chunk_at, is_address, is_below_at, is_elem_below}
use Rattle.smith_body_nodes.specs.Scopes.{indexed}
use Rattle.smith_body_nodes.specs.declared.node.Node.{Node}
use Rattle.smith_body_tables.specs.declared.tables.TableChange.{TableChange}
use Rattle.smith_body_tables.specs.declared.tables.TableChange.TheVariants as change

-- a table whose element type matches the wanted type
abbrev pub is_table_below : BodyContext → ValType → ℕ → Bool
is_table_below context wanted index =
    is_below_at context.types wanted (option_map (λ (table : TableType). Ref table.element_type) (slice_get context.tables index))

-- a table whose addresses have the wanted type, with reference types on
abbrev pub is_table_addressed_at : ValType → Option TableType → Bool
is_table_addressed_at wanted (Some table) = is_address wanted table.table64
is_table_addressed_at wanted None = false

abbrev pub is_table_addressed : BodyContext → ValType → ℕ → Bool
is_table_addressed context wanted index =
    context.features.reference_types && is_table_addressed_at wanted (slice_get context.tables index)

-- a reference from a table
abbrev pub table_get_node : BodyContext → ℕ → Option Node
table_get_node context index =
    option_map (λ (table : TableType). node_of (address table.table64 ∷ []) (instr.Table (table_instr.Get index)) 0)
    (slice_get context.tables index)

abbrev pub table_get_at : BodyContext → ValType → List ℕ → Chosen
table_get_at context wanted bytes =
    giving (table_get_node context) (chunk_at (is_table_below context wanted) (indexed (length context.tables)) bytes)

-- the growth of a table, by references of its type, or its size
abbrev pub table_growth_node : BodyContext → ValType → Bool → ℕ → Option Node
table_growth_node context wanted true index =
    option_map (λ (table : TableType). node_of (Ref table.element_type ∷ wanted ∷ []) (instr.Table (table_instr.Grow index)) 0)
    (slice_get context.tables index)
table_growth_node context wanted false index = Some (node_of [] (instr.Table (table_instr.Size index)) 0)

-- the growth or the size of a table whose addresses have the wanted type
abbrev pub table_growth_at : BodyContext → ValType → List ℕ → Chosen
table_growth_at context wanted bytes =
    let grown = bool_at bytes in
    giving (table_growth_node context wanted grown.0)
    (chunk_at (is_table_addressed context wanted) (indexed (length context.tables)) grown.1)

-- a table instruction that produces a value of the wanted type
unfoldable pub table_value_at : BodyContext → ValType → List ℕ → Chosen
table_value_at context (Ref reference) bytes = table_get_at context (Ref reference) bytes
table_value_at context wanted bytes = table_growth_at context wanted bytes

-- a table, with its index, if reference types are on
abbrev pub held_table_at : BodyContext → List ℕ → Option (ℕ × TableType) × List ℕ
held_table_at context bytes = if context.features.reference_types then item_at context.tables bytes else (None, bytes)

-- one or several references of a table are set
abbrev pub table_set_node : ℕ × TableType → Option Node
table_set_node into =
    Some (node_of (address into.1.table64 ∷ Ref into.1.element_type ∷ []) (instr.Table (table_instr.Set into.0)) 0)

abbrev pub table_fill_node : ℕ × TableType → Option Node
table_fill_node into =
    Some (node_of (address into.1.table64 ∷ Ref into.1.element_type ∷ address into.1.table64 ∷ []) (instr.Table (table_instr.Fill into.0))
    0)

-- references are copied into a table from one whose element type matches
abbrev pub table_copy_node : BodyContext → ℕ × TableType → ℕ → Option Node
table_copy_node context into from =
    option_map (λ (out : TableType). node_of (address into.1.table64 ∷ address out.table64 ∷ narrower into.1.table64 out.table64 ∷ [])
    (instr.Table (table_instr.Copy into.0 from)) 0)
    (slice_get context.tables from)

abbrev pub table_copied : BodyContext → ℕ × TableType → List ℕ → Chosen
table_copied context into bytes =
    giving (table_copy_node context into) (chunk_at (is_table_below context (Ref into.1.element_type)) (indexed (length context.tables))
    bytes)

abbrev pub table_copy_at : BodyContext → List ℕ → Chosen
table_copy_at context bytes = let into = item_at context.tables bytes in continued (table_copied context) into.0 into.1

-- references are copied into a table from an element segment whose type matches
abbrev pub table_init_node : ℕ × TableType → ℕ → Option Node
table_init_node into segment =
    Some (node_of (address into.1.table64 ∷ I32 ∷ I32 ∷ []) (instr.Table (table_instr.Init into.0 segment)) 0)

abbrev pub table_initialized : BodyContext → ℕ × TableType → List ℕ → Chosen
table_initialized context into bytes =
    giving (table_init_node into) (chunk_at (is_elem_below context (Ref into.1.element_type)) (indexed (length context.elems)) bytes)

abbrev pub table_init_at : BodyContext → List ℕ → Chosen
table_init_at context bytes = let into = item_at context.tables bytes in continued (table_initialized context) into.0 into.1

-- an element segment is dropped
abbrev pub elem_drop_node : ℕ → Option Node
elem_drop_node segment = Some (node_of [] (instr.Table (table_instr.ElemDrop segment)) 0)

abbrev pub elem_drop_at : BodyContext → List ℕ → Chosen
elem_drop_at context bytes = giving elem_drop_node (index_at (length context.elems) bytes)

-- the statements on a table or an element segment, each with the same weight
abbrev pub table_changes : List TableChange
table_changes = change.Set ∷ change.Fill ∷ change.Copy ∷ change.Init ∷ change.ElemDrop ∷ []

abbrev pub table_change_of : BodyContext → TableChange → List ℕ → Chosen
table_change_of context change.Set bytes = giving table_set_node (held_table_at context bytes)
table_change_of context change.Fill bytes = giving table_fill_node (held_table_at context bytes)
table_change_of context change.Copy bytes = table_copy_at context bytes
table_change_of context change.Init bytes = table_init_at context bytes
table_change_of context change.ElemDrop bytes = elem_drop_at context bytes

unfoldable pub table_change_at : BodyContext → List ℕ → Chosen
table_change_at context bytes = let change = chosen_at change.Set table_changes bytes in table_change_of context change.0 change.1
