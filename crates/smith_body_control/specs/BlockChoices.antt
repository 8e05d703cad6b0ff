-- Drawn blocks. The choices, their order and their weights are rules of this project.
use Rattle.std.specs.Prelude.{ℕ, ◌%◌, nat_le, ◌&&◌, Bool, Option, Some, None, List, [], ◌∷◌, length, slice_get, slice_index_or}
use Rattle.std.specs.Prelude.{if◌then◌else◌}
use Rattle.smith_body_control.specs.Common.{BodyContext, Chosen, Features, func_in, FuncType, indexed, Node, nullable_to, range_at, ValType}
use Rattle.smith_instr.specs.declared.control.BlockType.TheVariants as block
use Rattle.smith_body_nodes.specs.Nodes.{blocked}
use Rattle.smith_body_control.specs.ThrowChoices.{exn}
use Rattle.smith_body_control.specs.TryChoices.{refers_to_caught}
use Rattle.smith_body_nodes.specs.declared.node.Opening.{Opening}
use Rattle.smith_body_nodes.specs.declared.node.Opening.TheVariants as opening

-- a block, a loop, an `if` with `else` and an `if` without, each listed as often as its weight
abbrev pub openings : List (Option Opening)
openings =
    Some opening.Block ∷
    Some opening.Loop ∷
    None ∷
    Some opening.Block ∷
    Some opening.Loop ∷
    Some opening.IfAlone ∷
    []

unfoldable pub opening_at : List ℕ → Option Opening × List ℕ
opening_at bytes = let number = range_at 0 5 bytes in (slice_index_or openings number.0 None, number.1)

-- a block that produces a value of the wanted type
unfoldable pub block_at : ValType → List ℕ → Chosen
block_at wanted bytes = let opening = opening_at bytes in (Some (blocked opening.0 (block.Value wanted) [] (wanted ∷ []) 0), opening.1)

-- a block with a function type, whose results are dropped, or a block without parameters and
-- results
abbrev pub any_block_node : Option Opening → ℕ → Option FuncType → Node
any_block_node opening index (Some function) = blocked opening (block.Func index) function.params function.results (length function.results)
any_block_node opening index None = blocked opening block.Empty [] [] 0

abbrev pub any_block_of : BodyContext → Option Opening → List ℕ → Chosen
any_block_of context opening bytes =
    let index = range_at 0 (indexed (length context.types)) bytes in
    (Some (any_block_node opening index.0 (func_in (slice_get context.types index.0))), index.1)

-- the type of nullable references to exceptions
abbrev pub exnref : ValType
exnref = nullable_to exn

-- a handler: a block whose result is such a reference, which is dropped; clauses may pass a
-- reference to its label
abbrev pub handler : Node
handler = blocked (Some opening.Block) (block.Value exnref) [] (exnref ∷ []) 1

-- whether a number means a handler: one of 16 does, if clauses may pass references
abbrev pub is_of_handler : Features → ℕ → Bool
is_of_handler features number = nat_le 240 number && refers_to_caught features

-- a handler, or a block with a function type
unfoldable pub any_block_at : BodyContext → List ℕ → Chosen
any_block_at context bytes =
    let number = range_at 0 255 bytes in
    if is_of_handler context.features number.0 then (Some handler, number.1)
    else any_block_of context (slice_index_or openings (number.0 % 6) None) number.1
