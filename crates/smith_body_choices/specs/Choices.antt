-- Drawn nodes. The choices, their order and their weights are rules of this project.
use Rattle.std.specs.Prelude.{ℕ, ◌-◌, ◌==◌, Bool, false, Option, Some, None, option_map, List, [], ◌∷◌, length, slice_get, if◌then◌else◌}
use Rattle.smith_bytes.specs.Draws.{range_at, choose_at}
use Rattle.smith_types.specs.Syntax.Features.{Features}
use Rattle.smith_types.specs.Syntax.value_type.ValType.{ValType}
use Rattle.smith_types.specs.Syntax.value_type.ValType.TheVariants.{I32, I64, F32, F64, V128, Ref}
use Rattle.smith_types.specs.Syntax.composite_type.FuncType.{FuncType}
use Rattle.smith_config.specs.declared.config.Config.{Config}
use Rattle.smith_draw_types.specs.Choices.{chosen_at}
use Rattle.smith_instr.specs.Contexts.{BodyContext}
use Rattle.smith_instr.specs.declared.instr.Instr.TheVariants as instr
use Rattle.smith_body_nodes.specs.Chosen.{Chosen, giving, or_nop}
use Rattle.smith_body_nodes.specs.Items.{index_at}
use Rattle.smith_body_nodes.specs.Nodes.{is_node_allowed, node_of, setting}
use Rattle.smith_body_nodes.specs.Offered.{chunk_at, function_at, is_callable, is_local_below, is_mutable, offered}
use Rattle.smith_body_nodes.specs.ReferenceChoices.{reference_value_at, select_typed_node}
use Rattle.smith_body_nodes.specs.Scopes.{indexed}
use Rattle.smith_body_nodes.specs.declared.node.Head.{Head}
use Rattle.smith_body_nodes.specs.declared.node.Head.TheVariants as head
use Rattle.smith_body_nodes.specs.declared.node.Node.{Node}
use Rattle.smith_body_nodes.specs.NumericChoices.{numeric_at, select_node}
use Rattle.smith_body_tables.specs.BulkChoices.{bulk_at}
use Rattle.smith_body_memory.specs.AtomicChoices.{atomic_at, atomic_store_at}
use Rattle.smith_body_tables.specs.TableChoices.{table_change_at, table_value_at}
use Rattle.smith_body_memory.specs.VectorChoices.{store_lane_at, vector_at, vector_store_at}
use Rattle.smith_body_memory.specs.MemoryChoices.{load_at, memory_at, store_at}
use Rattle.smith_body_control.specs.CallChoices.{by_reference_at, called_at, indirect_at, tail_call_at}
use Rattle.smith_body_reference_branches.specs.NullChoices.{br_on_null_value_at, null_branch_at}
use Rattle.smith_body_control.specs.ThrowChoices.{any_throw_at}
use Rattle.smith_body_control.specs.TryChoices.{any_try_at, try_at}
use Rattle.smith_body_control.specs.declared.outcomes.Outcome.TheVariants as outcome
use Rattle.smith_body_control.specs.BlockChoices.{any_block_at, block_at}
use Rattle.smith_body_control.specs.BranchChoices.{branch_at, leaving_at, table_at}
use Rattle.smith_body_reference_branches.specs.CastBranchChoices.{cast_branch_at, cast_value_at}
use Rattle.smith_body_casts.specs.CastChoices.{cast_choice_at}
use Rattle.smith_body_aggregates.specs.CreationChoices.{creation_at}
use Rattle.smith_body_aggregates.specs.FieldChoices.{field_read_at, field_write_at}
use Rattle.smith_body_choices.specs.declared.families.EndingFamily.{EndingFamily}
use Rattle.smith_body_choices.specs.declared.families.EndingFamily.TheVariants as ending
use Rattle.smith_body_choices.specs.declared.families.StatementFamily.{StatementFamily}
use Rattle.smith_body_choices.specs.declared.families.StatementFamily.TheVariants as statement
use Rattle.smith_body_choices.specs.declared.families.ValueFamily.{ValueFamily}
use Rattle.smith_body_choices.specs.declared.families.ValueFamily.TheVariants as value

-- a `local.tee` of a local whose type matches the wanted type
abbrev pub tee_node : BodyContext → ℕ → Option Node
tee_node context index = option_map (λ value. setting index value (instr.LocalTee index)) (slice_get context.locals index)

unfoldable pub tee_at : BodyContext → ValType → List ℕ → Chosen
tee_at context wanted bytes =
    giving (tee_node context) (choose_at (offered (is_local_below context wanted) (indexed (length context.locals))) bytes)

-- a call of a function whose first result matches the wanted type; the others are dropped
abbrev pub call_node : BodyContext → ℕ → Option Node
call_node context index =
    option_map (λ (function : FuncType). node_of function.params (instr.Call index) (length function.results - 1))
    (function_at context index)

unfoldable pub call_at : BodyContext → ValType → List ℕ → Chosen
call_at context wanted bytes =
    giving (call_node context) (called_at context (chunk_at (is_callable context wanted) (indexed (length context.funcs))) bytes)

-- the families of instructions after which no code is reached, each listed as often as its weight
abbrev pub ending_families : List EndingFamily
ending_families =
    ending.Leaving ∷
    ending.Leaving ∷
    ending.TailCall ∷
    ending.TailCall ∷
    ending.Throw ∷
    ending.Throw ∷
    ending.Table ∷
    ending.Unreachable ∷
    []

-- an instruction of such a family, if any
abbrev pub ending_of : BodyContext → EndingFamily → List ℕ → Chosen
ending_of context ending.Leaving bytes = leaving_at context bytes
ending_of context ending.TailCall bytes = tail_call_at context bytes
ending_of context ending.Throw bytes = any_throw_at context bytes
ending_of context ending.Table bytes = table_at context bytes
ending_of context ending.Unreachable bytes = (Some (node_of [] instr.Unreachable 0), bytes)

unfoldable pub ending_choice_at : BodyContext → List ℕ → Chosen
ending_choice_at context bytes = let family = chosen_at ending.Leaving ending_families bytes in ending_of context family.0 family.1

-- in place of a value: one of eight times such an instruction, else a block
unfoldable pub ending_value_at : BodyContext → ValType → List ℕ → Chosen
ending_value_at context wanted bytes =
    let number = range_at 0 7 bytes in
    if number.0 == 7 then ending_choice_at context number.1 else block_at wanted number.1

-- the families of numbers, of vectors and of references, each listed as often as its weight
abbrev pub number_families : List ValueFamily
number_families =
    value.Leaf ∷
    value.Numeric ∷
    value.Numeric ∷
    value.Numeric ∷
    value.Numeric ∷
    value.Numeric ∷
    value.Select ∷
    value.Tee ∷
    value.Call ∷
    value.Call ∷
    value.Block ∷
    value.Block ∷
    value.Ending ∷
    value.Load ∷
    value.Load ∷
    value.Memory ∷
    value.Table ∷
    value.SelectTyped ∷
    value.Reference ∷
    value.CallIndirect ∷
    value.CallRef ∷
    value.Numeric ∷
    value.Atomic ∷
    value.Vector ∷
    value.Vector ∷
    value.Vector ∷
    value.Atomic ∷
    value.Atomic ∷
    value.Numeric ∷
    value.Numeric ∷
    value.FieldRead ∷
    value.Cast ∷
    value.Leaf ∷
    value.Try ∷
    value.Try ∷
    []

abbrev pub vector_value_families : List ValueFamily
vector_value_families =
    value.Leaf ∷
    value.Vector ∷
    value.Vector ∷
    value.Vector ∷
    value.Vector ∷
    value.Vector ∷
    value.Select ∷
    value.Tee ∷
    value.Call ∷
    value.Call ∷
    value.Block ∷
    value.Block ∷
    value.Ending ∷
    value.Vector ∷
    value.Vector ∷
    value.Vector ∷
    value.Vector ∷
    value.SelectTyped ∷
    value.Vector ∷
    value.CallIndirect ∷
    value.CallRef ∷
    value.Vector ∷
    value.Vector ∷
    value.Vector ∷
    value.Vector ∷
    value.Vector ∷
    value.Vector ∷
    value.Vector ∷
    value.Vector ∷
    value.Leaf ∷
    value.FieldRead ∷
    value.Leaf ∷
    value.Leaf ∷
    value.Try ∷
    value.Try ∷
    []

abbrev pub reference_value_families : List ValueFamily
reference_value_families =
    value.Leaf ∷
    value.Creation ∷
    value.Creation ∷
    value.Creation ∷
    value.Creation ∷
    value.Cast ∷
    value.FieldRead ∷
    value.Tee ∷
    value.Call ∷
    value.Call ∷
    value.Block ∷
    value.Block ∷
    value.Ending ∷
    value.Creation ∷
    value.Creation ∷
    value.Table ∷
    value.Table ∷
    value.SelectTyped ∷
    value.Reference ∷
    value.CallIndirect ∷
    value.CallRef ∷
    value.Creation ∷
    value.NullBranch ∷
    value.Cast ∷
    value.Cast ∷
    value.Cast ∷
    value.Cast ∷
    value.Creation ∷
    value.Creation ∷
    value.Creation ∷
    value.FieldRead ∷
    value.Cast ∷
    value.CastBranch ∷
    value.Try ∷
    value.Try ∷
    []

-- the families of values of a type
abbrev pub value_families : ValType → List ValueFamily
value_families V128 = vector_value_families
value_families (Ref reference) = reference_value_families
value_families _ = number_families

-- a value of a family; none for a leaf
abbrev pub value_of : Config → BodyContext → ValType → ValueFamily → List ℕ → Chosen
value_of config context wanted value.Leaf bytes = (None, bytes)
value_of config context wanted value.Numeric bytes = numeric_at wanted bytes
value_of config context wanted value.Select bytes = (select_node wanted, bytes)
value_of config context wanted value.Tee bytes = tee_at context wanted bytes
value_of config context wanted value.Call bytes = call_at context wanted bytes
value_of config context wanted value.Block bytes = block_at wanted bytes
value_of config context wanted value.Ending bytes = ending_value_at context wanted bytes
value_of config context wanted value.Load bytes = load_at config context wanted bytes
value_of config context wanted value.Memory bytes = memory_at context wanted bytes
value_of config context wanted value.Table bytes = table_value_at context wanted bytes
value_of config context wanted value.SelectTyped bytes = (Some (select_typed_node wanted), bytes)
value_of config context wanted value.Reference bytes = reference_value_at context wanted bytes
value_of config context wanted value.CallIndirect bytes = indirect_at context (outcome.Wanted wanted) bytes
value_of config context wanted value.CallRef bytes = by_reference_at context (outcome.Wanted wanted) bytes
value_of config context wanted value.NullBranch bytes = br_on_null_value_at context wanted bytes
value_of config context wanted value.Vector bytes = vector_at config context wanted bytes
value_of config context wanted value.Atomic bytes = atomic_at config context wanted bytes
value_of config context wanted value.Creation bytes = creation_at context wanted bytes
value_of config context wanted value.FieldRead bytes = field_read_at context wanted bytes
value_of config context wanted value.Cast bytes = cast_choice_at context wanted bytes
value_of config context wanted value.CastBranch bytes = cast_value_at context wanted bytes
value_of config context wanted value.Try bytes = try_at context wanted bytes

unfoldable pub value_choice_at : Config → BodyContext → ValType → List ℕ → Chosen
value_choice_at config context wanted bytes = let family = chosen_at value.Leaf (value_families wanted) bytes in
    value_of config context wanted family.0 family.1

-- the chosen node, if it is permitted
abbrev pub if_allowed : Features → Config → Option Node → Option Node
if_allowed features config None = None
if_allowed features config (Some node) = if is_node_allowed features config node then Some node else None

unfoldable pub allowed_choice_at : Config → BodyContext → ValType → List ℕ → Chosen
allowed_choice_at config context wanted bytes =
    let chosen = value_choice_at config context wanted bytes in
    (if_allowed context.features config chosen.0, chosen.1)

-- the types of values that are dropped: the number types, where without floats an integer of the
-- same width takes the place of a float, and the types of the locals
abbrev pub dropped_types : Config → List ValType → List ValType
dropped_types config locals = I32 ∷ I64 ∷ (if config.allow_floats then F32 else I32) ∷ (if config.allow_floats then F64 else I64) ∷ locals

-- the type of a value that is dropped
unfoldable pub dropped_at : Config → List ValType → List ℕ → ValType × List ℕ
dropped_at config locals bytes = chosen_at I32 (dropped_types config locals) bytes

unfoldable pub drop_at : Config → BodyContext → List ℕ → Chosen
drop_at config context bytes = let value = dropped_at config context.locals bytes in (Some (node_of (value.0 ∷ []) instr.Drop 0), value.1)

-- a `local.set`
abbrev pub set_node : BodyContext → ℕ → Option Node
set_node context index = option_map (λ value. setting index value (instr.LocalSet index)) (slice_get context.locals index)

unfoldable pub set_at : BodyContext → List ℕ → Chosen
set_at context bytes = let index = range_at 0 (indexed (length context.locals) - 1) bytes in (set_node context index.0, index.1)

-- a `global.set`
abbrev pub global_set_node : BodyContext → ℕ → Option Node
global_set_node context index = option_map (λ global. node_of (global.val_type ∷ []) (instr.GlobalSet index) 0)
    (slice_get context.globals index)

unfoldable pub global_set_at : BodyContext → List ℕ → Chosen
global_set_at context bytes = giving (global_set_node context) (chunk_at (is_mutable context) (indexed (length context.globals)) bytes)

-- a call, whose results are dropped
abbrev pub any_call_node : BodyContext → ℕ → Option Node
any_call_node context index =
    option_map (λ (function : FuncType). node_of function.params (instr.Call index) (length function.results)) (function_at context index)

unfoldable pub any_call_at : BodyContext → List ℕ → Chosen
any_call_at context bytes = giving (any_call_node context) (called_at context (index_at (length context.funcs)) bytes)

-- the families of statements, each listed as often as its weight
abbrev pub statement_families : List StatementFamily
statement_families =
    statement.Nop ∷
    statement.Drop ∷
    statement.Drop ∷
    statement.GlobalSet ∷
    statement.GlobalSet ∷
    statement.Call ∷
    statement.Call ∷
    statement.Block ∷
    statement.Block ∷
    statement.Branch ∷
    statement.Block ∷
    statement.LocalSet ∷
    statement.Store ∷
    statement.Store ∷
    statement.Branch ∷
    statement.LocalSet ∷
    statement.TableChange ∷
    statement.Bulk ∷
    statement.CallIndirect ∷
    statement.CallRef ∷
    statement.Block ∷
    statement.NullBranch ∷
    statement.VectorStore ∷
    statement.StoreLane ∷
    statement.AtomicStore ∷
    statement.Fence ∷
    statement.FieldWrite ∷
    statement.CastBranch ∷
    statement.Try ∷
    statement.Try ∷
    []

-- a statement of a family; none for `nop`
abbrev pub statement_of : Config → BodyContext → StatementFamily → List ℕ → Chosen
statement_of config context statement.Nop bytes = (None, bytes)
statement_of config context statement.Drop bytes = drop_at config context bytes
statement_of config context statement.GlobalSet bytes = global_set_at context bytes
statement_of config context statement.Call bytes = any_call_at context bytes
statement_of config context statement.Block bytes = any_block_at context bytes
statement_of config context statement.Branch bytes = branch_at context bytes
statement_of config context statement.Store bytes = store_at config context bytes
statement_of config context statement.LocalSet bytes = set_at context bytes
statement_of config context statement.TableChange bytes = table_change_at context bytes
statement_of config context statement.Bulk bytes = bulk_at context bytes
statement_of config context statement.CallIndirect bytes = indirect_at context outcome.Dropped bytes
statement_of config context statement.CallRef bytes = by_reference_at context outcome.Dropped bytes
statement_of config context statement.NullBranch bytes = null_branch_at context bytes
statement_of config context statement.VectorStore bytes = vector_store_at config context bytes
statement_of config context statement.StoreLane bytes = store_lane_at config context bytes
statement_of config context statement.AtomicStore bytes = atomic_store_at config context bytes
statement_of config context statement.Fence bytes = (Some (node_of [] instr.AtomicFence 0), bytes)
statement_of config context statement.FieldWrite bytes = field_write_at context bytes
statement_of config context statement.CastBranch bytes = cast_branch_at context bytes
statement_of config context statement.Try bytes = any_try_at context bytes

unfoldable pub any_statement_at : Config → BodyContext → List ℕ → Node × List ℕ
any_statement_at config context bytes =
    let family = chosen_at statement.Nop statement_families bytes in
    or_nop (statement_of config context family.0 family.1)

-- whether a node is permitted, and is not `nop`
abbrev pub is_kept_head : Features → Config → Node → Head → Bool
is_kept_head features config node (head.Plain instr.Nop) = false
is_kept_head features config node _ = is_node_allowed features config node

abbrev pub is_kept : Features → Config → Node → Bool
is_kept features config node = is_kept_head features config node node.head

-- a statement, drawn once more if it is not permitted or `nop`
unfoldable pub statement_choice_at : Config → BodyContext → List ℕ → Node × List ℕ
statement_choice_at config context bytes =
    let first = any_statement_at config context bytes in
    if is_kept context.features config first.0 then first else any_statement_at config context first.1
