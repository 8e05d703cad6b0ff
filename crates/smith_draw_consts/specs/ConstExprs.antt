-- Drawn constant expressions as a function of the bytes.
use Rattle.std.specs.Prelude.{ℕ, zero, suc, ◌-◌, false, not, List, [], ◌∷◌, ◌++◌, Option, Some, None, option_and_then, if◌then◌else◌}
use Rattle.std.specs.Option.{option_map}
use Rattle.std.specs.Int.{cast_signed, w32}
use Rattle.smith_draw_consts.specs.Common.{Config, ConstInstr, Context, I32, range_at, Ref, ValType}
use Rattle.smith_bytes.specs.Draws.{bool_at, choose_at}
use Rattle.smith_types.specs.Syntax.const_instr.ConstInstr.TheVariants as instr
use Rattle.smith_types.specs.Syntax.value_type.RefType.{RefType}
use Rattle.smith_draw_consts.specs.Constants.{extended_at}
use Rattle.smith_draw_consts.specs.ConstOffers.{offers}
use Rattle.smith_draw_consts.specs.ConstNodes.{is_extended, node_at}
use Rattle.smith_draw_consts.specs.declared.node_choice.Choice.{Choice}
use Rattle.smith_draw_consts.specs.declared.node.Operand.{Operand}
use Rattle.smith_draw_consts.specs.declared.node.Operand.TheVariants.{Value, Length}

-- the instructions so far, the fuel left and the bytes left
pub record State : Type 0 where
  pub made : List ConstInstr
  pub fuel : ℕ
  pub bytes : List ℕ

-- the state with these fields
abbrev pub state_of : List ConstInstr → ℕ → List ℕ → State
state_of made fuel bytes = record { made = made; fuel = fuel; bytes = bytes }

-- the state with an instruction appended
abbrev pub add_instruction : ConstInstr → State → State
add_instruction instruction s = record s { made = s.made ++ instruction ∷ [] }

-- draws a length that is at most the fuel, and subtracts it from the fuel
abbrev pub length_at : State → State
length_at s = let n = range_at 0 s.fuel s.bytes in state_of (s.made ++ instr.I32Const (cast_signed w32 n.0) ∷ []) (s.fuel - n.0) n.1

-- draws an operand; a length is drawn as an i32, unless lengths are limited
abbrev pub operand_at : Config → (ValType → State → Option State) → Operand → State → Option State
operand_at config draw (Value value) s = draw value s
operand_at config draw Length s = if config.limit_arrays_in_const_exprs then Some (length_at s) else draw I32 s

-- draws operands in order
abbrev pub operands_at : (Operand → State → Option State) → List Operand → State → Option State
operands_at draw [] s = Some s
operands_at draw (operand ∷ operands) s = option_and_then (operands_at draw operands) (draw operand s)

-- draws an extended constant, or the operands of a choice and then its instruction
abbrev pub made_at : Context → Config → (ValType → State → Option State) → ValType → State → Choice → Option State
made_at context config draw wanted s choice =
    let extended = extended_at wanted s.bytes in
    let node = node_at context.types wanted choice s.bytes in
    if is_extended choice then Some (state_of (s.made ++ extended.0) (s.fuel - 1) extended.1)
    else option_map (add_instruction node.0.instruction) (operands_at (operand_at config draw) node.0.operands
    (state_of s.made (s.fuel - 1) node.1))

-- draws according to a choice, if there is one
abbrev pub after_choice : Context → Config → (ValType → State → Option State) → ValType → State → Option Choice → Option State
after_choice context config draw wanted s None = None
after_choice context config draw wanted s (Some choice) = made_at context config draw wanted s choice

-- draws a value of a type, by recursion on a depth above the fuel; none if there is no candidate
unfoldable pub expression_at : Context → Config → ℕ → ValType → State → Option State
expression_at context config zero wanted s = None
expression_at context config (suc depth) wanted s =
    let chosen = choose_at (offers config context wanted s.fuel) s.bytes in
    after_choice context config (expression_at context config depth) wanted (state_of s.made s.fuel chosen.1) chosen.0

-- the expression of a type with this fuel, and the bytes left
unfoldable pub expression_alone_at : Context → Config → ℕ → ValType → List ℕ → Option (List ConstInstr × List ℕ)
expression_alone_at context config fuel wanted bytes =
    option_map (λ (s : State). (s.made, s.bytes)) (expression_at context config (suc fuel) wanted (state_of [] fuel bytes))

-- the expression of a type with the configured fuel, and the bytes left
abbrev pub const_expr_at : Config → Context → ValType → List ℕ → Option (List ConstInstr × List ℕ)
const_expr_at config context wanted bytes =
    expression_alone_at context config config.const_expr_fuel wanted bytes

-- the initialiser of a table: none without garbage collection; for nullable elements, a drawn bool
-- decides whether there is one
unfoldable pub table_init_at : Config → Context → RefType → List ℕ → Option (Option (List ConstInstr) × List ℕ)
table_init_at config context element bytes =
    let null = if element.nullable then bool_at bytes else (false, bytes) in
    if not config.gc_enabled then Some (None, bytes)
    else if null.0 then Some (None, null.1)
    else option_map (λ (drawn : List ConstInstr × List ℕ). (Some drawn.0, drawn.1)) (const_expr_at config context (Ref element) null.1)
