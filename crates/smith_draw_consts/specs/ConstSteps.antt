-- The instructions that each step of drawing a constant expression adds.
use Rattle.std.specs.Prelude.{◌≡◌, ◌⊎◌, ℕ, ◌+◌, ◌*◌, ◌≤◌, ◌<◌, true, IsTrue, Option, List, Some, None, Result, Ok, Err, length, map}
use Rattle.std.specs.Prelude.{slice_get, All}
use Rattle.smith_draw_consts.specs.Common.{Config, ConstInstr, Context, Error, I32, I64, IsValBelow, IsValTypeValid, ValType}
use Rattle.smith_types.specs.Expressions.{HasType}
use Rattle.smith_types.specs.Flags.{IsInstrEnabled}
use Rattle.smith_bytes.specs.declared.error.Error.TheVariants as errors
use Rattle.smith_draw_consts.specs.Putting.{Puts}
use Rattle.smith_draw_consts.specs.ConstBounds.{widest, MayLack}
use Rattle.smith_draw_consts.specs.ConstNodes.{is_extended, node_at}
use Rattle.smith_draw_consts.specs.ConstExprs.{State, expression_at}
use Rattle.smith_draw_consts.specs.declared.node_choice.Choice.{Choice}
use Rattle.smith_draw_consts.specs.declared.node.Operand.{Operand}
use Rattle.smith_draw_consts.specs.declared.node.Operand.TheVariants.{Value, Length}
use Rattle.smith_draw_consts.specs.declared.node.Node.{Node}

-- the type of an operand
abbrev pub operand_type : Operand → ValType
operand_type (Value value) = value
operand_type Length = I32

-- instructions that push values of these types are appended to the old ones; `left` is the fuel
-- left
pub record IsDrawn (context : Context) (values : List ValType) (old : List ConstInstr) (fuel : ℕ) (new : List ConstInstr) (left : ℕ) : Type
    0 where
  pub puts : Puts context values old new
  pub spent : left ≤ fuel
  pub short : length new + 23 * widest context.types * left ≤ length old + 23 * length values + 23 * widest context.types * fuel

-- a node gives a value of the wanted type from its operands, which are few and valid, and for which
-- there is enough fuel
pub record IsNode (config : Config) (context : Context) (wanted : ValType) (fuel : ℕ) (node : Node) : Type 0 where
  pub result : ValType
  pub typed : HasType context node.instruction (map operand_type node.operands) result
  pub below : IsValBelow context.types result wanted
  pub enabled : IsInstrEnabled context.features context.imported_globals node.instruction
  pub paid : 0 < length node.operands → 0 < fuel
  pub few : length node.operands ≤ widest context.types
  pub valid : All (λ operand. IsValTypeValid context.features (length context.types) (operand_type operand)) node.operands
  pub lacks : (operand : Operand) (place : ℕ) → slice_get node.operands place ≡ Some operand → MayLack config context (operand_type operand)
      → MayLack config context wanted

-- each node of a choice has the wanted type; an extended constant has an integer type and is
-- enabled
pub record IsFit (config : Config) (context : Context) (wanted : ValType) (fuel : ℕ) (choice : Choice) : Type 0 where
  pub node : (bytes : List ℕ) → IsNode config context wanted fuel (node_at context.types wanted choice bytes).0
  pub extended : is_extended choice ≡ true → ((wanted ≡ I32) ⊎ (wanted ≡ I64)) × IsTrue context.features.extended_const

-- a successful step leaves the state that its definition gives; without a choice, its definition
-- gives none
abbrev pub Reads : Result (Unit {0}) Error → State → Option State → Type 0
Reads (Ok done) new read = read ≡ Some new
Reads (Err errors.Memory) new read = Unit {0}
Reads (Err errors.EmptyChoose) new read = read ≡ None
Reads (Err _) new read = ⊥

-- a value is drawn, by its definition at any depth above the fuel
pub record ReadsValue (context : Context) (config : Config) (wanted : ValType) (old new : State) (result : Result (Unit {0}) Error)
    : Type 0 where
  pub exact : (depth : ℕ) → old.fuel < depth → Reads result new (expression_at context config depth wanted old)
