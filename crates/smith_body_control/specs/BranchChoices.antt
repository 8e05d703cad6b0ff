-- Drawn branches. The choices, their order and their weights are rules of this project.
use Rattle.std.specs.Prelude.{ℕ, zero, suc, ◌-◌, ◌/◌, ◌==◌, Option, Some, None, option_map, option_to_list, List, [], ◌∷◌, ◌++◌, length}
use Rattle.std.specs.Prelude.{slice_get, if◌then◌else◌}
use Rattle.smith_body_control.specs.Common.{BodyContext, Chosen, Node, node_of, range_at, ValType}
use Rattle.smith_bytes.specs.Draws.{bool_at, choose_at}
use Rattle.smith_types.specs.Syntax.value_type.ValType.TheVariants.{I32}
use Rattle.smith_instr.specs.declared.instr.Instr.TheVariants as instr
use Rattle.smith_body_nodes.specs.Offered.{is_target, label_count, offered}

-- a label, or 0 if there is none
abbrev pub label_at : BodyContext → List ℕ → ℕ × List ℕ
label_at context bytes = range_at 0 (label_count context - 1) bytes

-- a branch out of the function
abbrev pub return_node : BodyContext → Node
return_node context = node_of context.results instr.Return 0

-- a branch to a label
abbrev pub br_node : BodyContext → ℕ → Option Node
br_node context label = option_map (λ (taken : List ValType). node_of taken (instr.Br label) 0) (slice_get context.labels label)

-- an unconditional branch: out of the function, or to a label
unfoldable pub leaving_at : BodyContext → List ℕ → Chosen
leaving_at context bytes =
    let out = bool_at bytes in
    let label = label_at context out.1 in
    if label_count context == 0 then (Some (return_node context), bytes)
    else if out.0 then (Some (return_node context), out.1)
    else (br_node context label.0, label.1)

-- a conditional branch; if it is not taken, its values are dropped
abbrev pub br_if_node : BodyContext → ℕ → Option Node
br_if_node context label =
    option_map (λ (taken : List ValType). node_of (taken ++ I32 ∷ []) (instr.BrIf label) (length taken)) (slice_get context.labels label)

unfoldable pub branch_at : BodyContext → List ℕ → Chosen
branch_at context bytes = let label = label_at context bytes in (br_if_node context label.0, label.1)

-- labels that a branch with operands of these types may target
unfoldable pub targets_at : BodyContext → List ValType → ℕ → List ℕ → List ℕ × List ℕ
targets_at context taken zero bytes = ([], bytes)
targets_at context taken (suc count) bytes =
    let label = choose_at (offered (is_target context.types context.labels taken) (label_count context)) bytes in
    let more = targets_at context taken count label.1 in
    (option_to_list label.0 ++ more.0, more.1)

-- the number of labels: at most 7, and one of sixteen times at most 63
unfoldable pub target_count_at : List ℕ → ℕ × List ℕ
target_count_at bytes =
    let number = range_at 0 15 bytes in
    if number.0 == 15 then range_at 0 63 number.1 else (number.0 / 2, number.1)

abbrev pub some_targets_at : BodyContext → List ValType → List ℕ → List ℕ × List ℕ
some_targets_at context taken bytes = let count = target_count_at bytes in targets_at context taken count.0 count.1

-- a `br_table` to several labels, or a branch out of the function if there is no label
abbrev pub table_by : BodyContext → ℕ → Option (List ValType) → List ℕ → Chosen
table_by context label None bytes = (Some (return_node context), bytes)
table_by context label (Some taken) bytes =
    let targets = some_targets_at context taken bytes in
    (Some (node_of (taken ++ I32 ∷ []) (instr.BrTable targets.0 label) 0), targets.1)

unfoldable pub table_at : BodyContext → List ℕ → Chosen
table_at context bytes = let label = label_at context bytes in table_by context label.0 (slice_get context.labels label.0) label.1
