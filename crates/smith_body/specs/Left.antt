-- Spare results: no instruction takes them. Rules of this project.
use Rattle.std.specs.Prelude.{ℕ, ◌-◌, Option, Some, None, List, [], length, drop, slice_get, unwrap_or}
use Rattle.smith_body.specs.Common.{BodyContext, Head, Instr, ValType}
use Rattle.smith_types.specs.Syntax.composite_type.FuncType.{FuncType}
use Rattle.smith_instr.specs.declared.instr.Instr.TheVariants as instr
use Rattle.smith_body_nodes.specs.Offered.{func_in, function_at}
use Rattle.smith_body_nodes.specs.declared.node.Head.TheVariants as head

-- the results of a function type
abbrev pub results_of : Option FuncType → List ValType
results_of (Some function) = function.results
results_of None = []

-- the result types of a call, or of a branch that is not taken; none for another instruction
abbrev pub left_by : BodyContext → Instr → List ValType
left_by context (instr.Call index) = results_of (function_at context index)
left_by context (instr.CallIndirect table ty) = results_of (func_in (slice_get context.types ty))
left_by context (instr.CallRef ty) = results_of (func_in (slice_get context.types ty))
left_by context (instr.BrIf label) = unwrap_or (slice_get context.labels label) []
left_by context _ = []

-- the result types of such an instruction, or of a block
abbrev pub left_by_head : BodyContext → Head → List ValType
left_by_head context (head.Plain instruction) = left_by context instruction
left_by_head context (head.Enclosed opening ty sides) = sides.results
left_by_head context (head.If ty sides) = sides.results
left_by_head context (head.Try ty clauses sides) = sides.results

-- the types of the last `count` results, if they are known
abbrev pub spare_of : BodyContext → Head → ℕ → List ValType
spare_of context head count = let left = left_by_head context head in drop (length left - count) left
