-- The body that the bytes give. Rules of this project.
use Rattle.std.specs.Prelude.{ℕ, zero, suc, ◌+◌, ◌-◌, ◌/◌, ◌%◌, ◌==◌, ◌||◌, nat_le, not, Bool, true, false, Option, Some, None}
use Rattle.std.specs.Prelude.{option_to_list, List, [], ◌∷◌, ◌++◌, length, pos, replicate, if◌then◌else◌}
use Rattle.std.specs.Int.{cast_signed, w32}
use Rattle.smith_body.specs.Common.{BodyContext, Config, Head, I32, Instr, is_permitted, range_at, ValType}
use Rattle.smith_types.specs.Syntax.value_type.ValType.TheVariants.{I64}
use Rattle.smith_draw_types.specs.Choices.{chosen_at}
use Rattle.smith_instr.specs.Contexts.{address, labelled}
use Rattle.smith_instr.specs.declared.instr.Instr.TheVariants as instr
use Rattle.smith_instr.specs.declared.numeric.IntBinary.TheVariants.{Sub}
use Rattle.smith_instr.specs.declared.numeric.NumericInstr.TheVariants as numeric
use Rattle.smith_instr.specs.declared.control.BlockType.{BlockType}
use Rattle.smith_body_choices.specs.Choices.{allowed_choice_at, ending_choice_at, statement_choice_at}
use Rattle.smith_body_leaves.specs.DrawnLeaves.{leaf_at}
use Rattle.smith_body.specs.Operands.{address_constant, mask_of, masking, number_at, operand_ways}
use Rattle.smith_body.specs.declared.operands.OperandWay.{OperandWay}
use Rattle.smith_body.specs.declared.operands.OperandWay.TheVariants as way
use Rattle.smith_body.specs.declared.operands.Place.{Place}
use Rattle.smith_body.specs.declared.operands.Place.TheVariants as place
use Rattle.smith_body.specs.Limits.{limit_at}
use Rattle.smith_body.specs.Left.{spare_of}
use Rattle.smith_body.specs.Settled.{instructions_of, set_by, settling_at}
use Rattle.smith_body.specs.Repeats.{repeat_at}
use Rattle.smith_body.specs.declared.repeats.Repeat.{Repeat}
use Rattle.smith_body.specs.declared.repeats.Repeat.TheVariants as repeats
use Rattle.smith_body_nodes.specs.Nodes.{is_node_allowed, label_of, opened}
use Rattle.smith_body_nodes.specs.declared.node.Head.TheVariants as head
use Rattle.smith_body_nodes.specs.declared.node.Node.{Node}
use Rattle.smith_body_nodes.specs.declared.node.Opening.{Opening}
use Rattle.smith_body_nodes.specs.declared.node.Sides.{Sides}

-- the state of drawing a body: the context of the next instruction, the instructions so far, the
-- locals that are set, the budget, which is the number of nodes that may still be drawn, and the
-- bytes left
pub record State : Type 0 where
  pub context : BodyContext
  pub out : List Instr
  pub set : List ℕ
  pub budget : ℕ
  pub bytes : List ℕ

-- the draws one level deeper: of a value of a type; of statements, with whether they end in a draw
-- of an instruction after which no code is reached; and of such an instruction, with whether there
-- is one
pub record Drawing : Type 0 where
  pub value : ValType → State → State
  pub statements : State → Bool × State
  pub ending : State → Bool × State

abbrev pub written : Instr → State → State
written instruction s = record s { out = s.out ++ instruction ∷ [] }

abbrev pub dropped : ℕ → State → State
dropped count s = record s { out = s.out ++ replicate count instr.Drop }

-- the state after a value of a type is settled
unfoldable pub settled : Config → ValType → State → State
settled config value s =
    let settling = settling_at config s.context value s.bytes in
    record s { out = s.out ++ instructions_of settling.0; set = s.set ++ set_by settling.0; bytes = settling.1 }

-- the state after values of these types are settled, from the top of the stack down
abbrev pub settled_all : Config → List ValType → State → State
settled_all config [] s = s
settled_all config (value ∷ more) s = settled config value (settled_all config more s)

-- draws values of these types, in order
abbrev pub values_at : Drawing → List ValType → State → State
values_at draw [] s = s
values_at draw (wanted ∷ more) s = values_at draw more (draw.value wanted s)

-- draws a constant below a limit or next to it, or any value if constants are not permitted
unfoldable pub near_at : Config → Drawing → Bool → Place → ℕ → State → State
near_at config draw wide place limit s =
    let number = number_at place limit s.bytes in
    let after = record s { bytes = number.1 } in
    let constant = address_constant wide number.0 in
    if is_permitted s.context.features config constant then written constant after else draw.value (address wide) after

-- draws a value with its upper bits cleared, so that it is below a limit, for one unit of the
-- budget; or any value without a budget, or if the instructions are not permitted
unfoldable pub masked_at : Config → Drawing → Bool → ℕ → State → State
masked_at config draw wide limit s =
    let mask = address_constant wide (mask_of limit) in
    if (s.budget == 0) || not (is_permitted s.context.features config mask) || not (is_permitted s.context.features config (masking wide))
    then draw.value (address wide) s
    else written (masking wide) (written mask (draw.value (address wide) (record s { budget = s.budget - 1 })))

abbrev pub limited_by : Config → Drawing → Bool → ℕ → OperandWay → State → State
limited_by config draw wide limit (way.Constant place) s = near_at config draw wide place limit s
limited_by config draw wide limit way.Masked s = masked_at config draw wide limit s
limited_by config draw wide limit way.Unlimited s = draw.value (address wide) s

-- draws an address, an index or a length with a limit, of 64 or 32 bits
unfoldable pub limited_at : Config → Drawing → Bool → ℕ → State → State
limited_at config draw wide limit s =
    let way = chosen_at (way.Constant place.Start) operand_ways s.bytes in
    limited_by config draw wide limit way.0 (record s { bytes = way.1 })

-- draws an operand of a type, with a limit if there is one
abbrev pub operand_at : Config → Drawing → Option ℕ → ValType → State → State
operand_at config draw (Some limit) I32 s = limited_at config draw false limit s
operand_at config draw (Some limit) I64 s = limited_at config draw true limit s
operand_at config draw limit wanted s = draw.value wanted s

-- draws the operands of an instruction or a block, in order, the last on top
abbrev pub operands_at : Config → Drawing → Head → List ValType → State → State
operands_at config draw head [] s = s
operands_at config draw head (wanted ∷ more) s =
    operands_at config draw head more (operand_at config draw (limit_at s.context.tables s.context.memories head (length more)) wanted s)

-- draws statements and then the results; or in their place an instruction after which no code is
-- reached, followed one of eight times by more statements and the results
unfoldable pub results_at : Drawing → List ValType → State → State
results_at draw results s =
    let statements = draw.statements s in
    let ending = draw.ending statements.1 in
    let more = range_at 0 7 ending.1.bytes in
    let after = record ending.1 { bytes = more.1 } in
    if not statements.0 then values_at draw results statements.1
    else if not ending.0 then values_at draw results ending.1
    else if more.0 == 7 then values_at draw results (draw.statements after).1
    else after

-- draws the body of a block: its parameters are settled, then there are statements and its results
unfoldable pub inside_at : Config → Drawing → Sides → State → State
inside_at config draw sides s = results_at draw sides.results (settled_all config sides.params s)

-- draws within a block, with its label; a local that is set in the block is not set after it
abbrev pub in_block : (State → State) → List ValType → State → State
in_block inside label s = record (inside (record s { context = labelled s.context label })) { context = s.context; set = s.set }

-- draws the body of a block, with its label
unfoldable pub enclosed_at : Config → Drawing → List ValType → Sides → State → State
enclosed_at config draw label sides s = in_block (λ s. inside_at config draw sides s) label s

-- an instruction that sets a local
abbrev pub setting_local : Instr → ℕ → State → State
setting_local instruction local s = record s { out = s.out ++ instruction ∷ []; set = s.set ++ local ∷ [] }

-- before a counted loop, its local is set to the number of iterations
abbrev pub count_set : Repeat → State → State
count_set (repeats.Counted local times) s = setting_local (instr.LocalSet local) local (written (instr.I32Const (cast_signed w32 times)) s)
count_set repeats.Tested s = s

-- the local is decremented, and its new value is pushed
abbrev pub counted_down : ℕ → State → State
counted_down local s =
    setting_local (instr.LocalTee local) local
    (written (instr.Numeric (numeric.I32Binary Sub)) (written (instr.I32Const (pos 1)) (written (instr.LocalGet local) s)))

-- the number that is tested at the end of a loop
abbrev pub tested_at : Drawing → Repeat → State → State
tested_at draw (repeats.Counted local times) s = counted_down local s
tested_at draw repeats.Tested s = draw.value I32 s

-- draws the body of a repeated loop: statements, a branch to the start unless the number is 0, and
-- the results
abbrev pub repeated_inside : Drawing → Repeat → List ValType → State → State
repeated_inside draw repeat results s = values_at draw results (written (instr.BrIf 0) (tested_at draw repeat (draw.statements s).1))

-- draws a repeated loop, for one more unit of the budget
unfoldable pub repeated_at : Drawing → Repeat → BlockType → List ValType → State → State
repeated_at draw repeat ty results s =
    written instr.End
    (in_block (repeated_inside draw repeat results) [] (written (instr.Loop ty) (count_set repeat (record s { budget = s.budget - 1 }))))

-- draws a block, or a repeated loop
abbrev pub enclosed_by : Config → Drawing → Opening → BlockType → Sides → Option Repeat → State → State
enclosed_by config draw opening ty sides (Some repeat) s = repeated_at draw repeat ty sides.results s
enclosed_by config draw opening ty sides None s =
    written instr.End (enclosed_at config draw (label_of opening sides.params sides.results) sides (written (opened opening ty) s))

unfoldable pub opened_at : Config → Drawing → Opening → BlockType → Sides → State → State
opened_at config draw opening ty sides s =
    let repeat = repeat_at config s.context opening sides.params s.budget s.bytes in
    enclosed_by config draw opening ty sides repeat.0 (record s { bytes = repeat.1 })

-- draws the instructions after the operands, and marks the local that they set
unfoldable pub head_at : Config → Drawing → Head → Option ℕ → State → State
head_at config draw (head.Plain instruction) sets s = record s { out = s.out ++ instruction ∷ []; set = s.set ++ option_to_list sets }
head_at config draw (head.Enclosed opening ty sides) sets s = opened_at config draw opening ty sides s
head_at config draw (head.If ty sides) sets s =
    written instr.End (enclosed_at config draw sides.results sides
    (written instr.Else (enclosed_at config draw sides.results sides
    (written (instr.If ty) s))))
head_at config draw (head.Try ty clauses sides) sets s =
    written instr.End (enclosed_at config draw sides.results sides (written (instr.TryTable ty clauses) s))

-- draws a node, for one unit of the budget: its operands, its other instructions, and the settling
-- of its spare results
unfoldable pub node_at : Config → Drawing → Node → State → State
node_at config draw node s =
    let spare = spare_of s.context node.head node.drops in
    dropped (node.drops - length spare) (settled_all config spare
    (head_at config draw node.head node.sets (operands_at config draw node.head node.operands (record s { budget = s.budget - 1 }))))

-- draws a value without a budget
unfoldable pub leaf_in : Config → ValType → State → State
leaf_in config wanted s =
    let leaf = leaf_at config s.context s.set wanted s.bytes in
    record s { out = s.out ++ leaf.0; bytes = leaf.1 }

-- draws the chosen node, or a value without a budget
abbrev pub node_or_leaf_at : Config → Drawing → ValType → Option Node → State → State
node_or_leaf_at config below wanted (Some node) s = node_at config below node s
node_or_leaf_at config below wanted None s = leaf_in config wanted s

-- draws a value; without a budget, a value that needs none
unfoldable pub value_at : Config → Drawing → ValType → State → State
value_at config below wanted s =
    let chosen = allowed_choice_at config s.context wanted s.bytes in
    if s.budget == 0 then leaf_in config wanted s else node_or_leaf_at config below wanted chosen.0 (record s { bytes = chosen.1 })

-- draws a node if it is permitted; else only takes one unit of the budget
abbrev pub allowed_at : Config → Drawing → Node → State → State
allowed_at config below node s =
    if is_node_allowed s.context.features config node then node_at config below node s else record s { budget = s.budget - 1 }

-- draws a statement
unfoldable pub statement_at : Config → Drawing → State → State
statement_at config below s =
    let chosen = statement_choice_at config s.context s.bytes in
    allowed_at config below chosen.0 (record s { bytes = chosen.1 })

-- about the number of statements of one draw: it grows with the budget, and within a block is about
-- a third of it
unfoldable pub interval : ℕ → ℕ → ℕ
interval labels budget = if labels == 1 then 4 + budget / 4 else 4 + budget / 3

-- draws at most `most` statements, until the budget is spent or a drawn number is a multiple of the
-- interval, and gives whether that number is at least 248
abbrev pub statements_within : (State → State) → ℕ → State → Bool × State
statements_within statement zero s = (false, s)
statements_within statement (suc most) s =
    let number = range_at 0 255 s.bytes in
    let next = record s { bytes = number.1 } in
    if s.budget == 0 then (false, s)
    else if number.0 % interval (length s.context.labels) s.budget == 0 then (nat_le 248 number.0, next)
    else statements_within statement most (statement next)

-- draws the chosen ending, if there is one and it is permitted
abbrev pub ended_by : Config → Drawing → Option Node → State → Bool × State
ended_by config below None s = (false, s)
ended_by config below (Some node) s =
    if is_node_allowed s.context.features config node then (true, node_at config below node s) else (false, s)

-- draws an instruction after which no code is reached
unfoldable pub ending_at : Config → Drawing → State → Bool × State
ending_at config below s = let chosen = ending_choice_at s.context s.bytes in ended_by config below chosen.0 (record s { bytes = chosen.1 })

-- the draws at a depth; at the last level, there are no statements, and values have no operands
unfoldable pub drawing_at : Config → ℕ → Drawing
drawing_at config zero = record { value = leaf_in config; statements = λ s. (false, s); ending = λ s. (false, s) }
drawing_at config (suc depth) = record {
  value = λ wanted s. value_at config (drawing_at config depth) wanted s;
  statements = λ s. statements_within (statement_at config (drawing_at config depth)) s.budget s;
  ending = λ s. ending_at config (drawing_at config depth) s;
}

-- the state at the start of a body, and the result at its end
abbrev pub begun : BodyContext → ℕ → List ℕ → State
begun context budget bytes = record { context = labelled context context.results; out = []; set = []; budget = budget; bytes = bytes }

abbrev pub ended : State → List Instr × List ℕ
ended s = (s.out, s.bytes)

-- a body of at most 40 levels, without its last `end`, and the bytes left; for a budget of 0,
-- `unreachable`
unfoldable pub body_at : Config → BodyContext → ℕ → List ℕ → List Instr × List ℕ
body_at config context budget bytes =
    if budget == 0 then (instr.Unreachable ∷ [], bytes) else ended (results_at (drawing_at config 40) context.results
    (begun context budget bytes))
