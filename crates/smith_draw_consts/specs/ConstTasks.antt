-- The effect of one task of drawing a constant expression. A list of tasks begins with the next
-- task.
use Rattle.std.specs.Prelude.{◌≡◌, ◌⊎◌, ℕ, ◌+◌, ◌-◌, ◌<◌, ◌≤◌, List, [], ◌∷◌, ◌++◌, Some, None, map, length}
use Rattle.std.specs.Option.{option_map}
use Rattle.smith_draw_consts.specs.Common.{Config, Context, Error, IsValTypeValid}
use Rattle.smith_bytes.specs.declared.error.Error.TheVariants as errors
use Rattle.smith_draw_consts.specs.ConstBounds.{widest, MayLack}
use Rattle.smith_draw_consts.specs.ConstExprs.{State, state_of, add_instruction, operand_at, operands_at, expression_at}
use Rattle.smith_draw_consts.specs.ConstSteps.{operand_type, IsDrawn, IsNode}
use Rattle.smith_draw_consts.specs.declared.node.Operand.{Operand}
use Rattle.smith_draw_consts.specs.declared.node.Node.{Node}
use Rattle.smith_draw_consts.specs.declared.task.Task.{Task}
use Rattle.smith_draw_consts.specs.declared.task.Task.TheVariants.{Draw, Write}

-- the type of the operand that a task draws is valid
abbrev pub IsTaskValid : Context → Task → Type 0
IsTaskValid context (Draw operand) = IsValTypeValid context.features (length context.types) (operand_type operand)
IsTaskValid context (Write instruction) = Unit {0}

-- an operand is drawn, by its definition at any depth above the fuel
pub record IsOperandDrawn (context : Context) (config : Config) (operand : Operand) (old new : State) : Type 0 where
  pub read : (depth : ℕ) → old.fuel < depth → operand_at config (expression_at context config depth) operand old ≡ Some new
  pub drawn : IsDrawn context (operand_type operand ∷ []) old.made old.fuel new.made new.fuel

-- a node is chosen for an operand: the tasks for its operands come next, then the task that appends
-- its instruction
pub record IsOperandBegun (context : Context) (config : Config) (operand : Operand) (todo : List Task) (old : State) (todo' : List Task)
    (new : State) : Type 0 where
  pub node : Node
  pub bytes : List ℕ
  pub state : new ≡ state_of old.made (old.fuel - 1) bytes
  pub tasks : todo' ≡ map Draw node.operands ++ Write node.instruction ∷ todo
  pub fits : IsNode config context (operand_type operand) old.fuel node
  pub some : 0 < length node.operands
  pub read : (depth : ℕ) → old.fuel < depth
      → operand_at config (expression_at context config depth) operand old ≡ option_map (add_instruction node.instruction)
      (operands_at (operand_at config (expression_at context config (depth - 1))) node.operands
      (state_of old.made (old.fuel - 1) bytes))

-- a task is done, and `todo'` are the tasks left
abbrev pub IsStep : Context → Config → Task → List Task → State → List Task → State → Type 0
IsStep context config (Draw operand) todo old todo' new = ((todo' ≡ todo) × IsOperandDrawn context config operand old new)
    ⊎ IsOperandBegun context config operand todo old todo' new
IsStep context config (Write instruction) todo old todo' new = (todo' ≡ todo) × (new ≡ add_instruction instruction old)

-- a step adds at most the tasks of one node, and increases the number of tasks only if it spends
-- fuel
pub record IsGrowthPaid (context : Context) (todo : List Task) (fuel : ℕ) (todo' : List Task) (left : ℕ) : Type 0 where
  pub few : length todo' ≤ length todo + (widest context.types + 1)
  pub paid : length todo < length todo' → left < fuel

-- there is no choice for an operand, and its definition gives none
pub record IsOperandLacking (context : Context) (config : Config) (operand : Operand) (old : State) : Type 0 where
  pub lacks : MayLack config context (operand_type operand)
  pub none : (depth : ℕ) → old.fuel < depth → operand_at config (expression_at context config depth) operand old ≡ None

-- the errors of a task
abbrev pub MayRefuseTask : Context → Config → Task → State → Error → Type 0
MayRefuseTask context config (Draw operand) old e = (e ≡ errors.Memory)
    ⊎ ((e ≡ errors.EmptyChoose) × IsOperandLacking context config operand old)
MayRefuseTask context config (Write instruction) old e = e ≡ errors.Memory
