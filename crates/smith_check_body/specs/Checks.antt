-- The states of the check of a body, and its steps.
use Rattle.std.specs.Prelude.{◌≡◌, ℕ, ◌≤◌, List, [], ◌∷◌, ◌++◌, length, take, reverse}
use Rattle.smith_check_rules.specs.Sequences.{IsBodyTyped}
use Rattle.smith_types.specs.Syntax.value_type.ValType.{ValType}
use Rattle.smith_check_body.specs.declared.checker.Checker.{Checker}
use Rattle.smith_check_operands.specs.declared.frame.Frame.{Frame}
use Rattle.smith_check_operands.specs.declared.frame.Shape.{Shape}
use Rattle.smith_check_operands.specs.declared.frame.Kind.{Kind}
use Rattle.smith_instr.specs.declared.control.BlockType.{BlockType}
use Rattle.smith_instr.specs.declared.instr.Instr.{Instr}
use Rattle.smith_instr.specs.Contexts.{BodyContext, AreValid, IsBlockType}
use Rattle.smith_check_rules.specs.Slots.{AreSlotsValid}
use Rattle.smith_check_operands.specs.Covers.{held}
use Rattle.smith_check_operands.specs.Closes.{Finishes}

-- `rest` completes the checked instructions to a typed body
abbrev pub CanFinish : BodyContext → Checker → List Instr → Type 0
CanFinish context checker rest =
    Finishes context checker.shape (held checker.operands) checker.log.items (take checker.height checker.log.items)
    (reverse checker.outers.items) rest

pub record IsShapeValid (context : BodyContext) (shape : Shape) : Type 0 where
  pub params : AreValid context shape.params
  pub results : AreValid context shape.results

-- the blocks around a block that began at `height` of the log, the innermost first, are well-formed
abbrev pub AreWell : BodyContext → ℕ → List Frame → Type 0
AreWell context height [] = Unit {0}
AreWell context height (outer ∷ outers) =
    (outer.height ≤ height) × IsShapeValid context outer.shape × AreSlotsValid context outer.operands.known.items
    × AreWell context outer.height outers

pub record IsWell (context : BodyContext) (checker : Checker) : Type 0 where
  pub shape : IsShapeValid context checker.shape
  pub known : AreSlotsValid context checker.operands.known.items
  pub height : checker.height ≤ length checker.log.items
  pub outers : AreWell context checker.height (reverse checker.outers.items)

-- an instruction takes the check from `old` to `new`: the rest completes the body after it exactly
-- if the instruction and the rest complete the body before it
pub record Goes (context : BodyContext) (instruction : Instr) (old new : Checker) : Type 0 where
  pub complete : (rest : List Instr) → CanFinish context old (instruction ∷ rest) → CanFinish context new rest
  pub sound : (rest : List Instr) → CanFinish context new rest → CanFinish context old (instruction ∷ rest)
  pub well : IsWell context new

-- no rest that begins with the instruction completes the body
abbrev pub Stops : BodyContext → Instr → Checker → Type 0
Stops context instruction old = (rest : List Instr) → CanFinish context old (instruction ∷ rest) → ⊥

abbrev pub HasNoType : BodyContext → BlockType → Type 0
HasNoType context ty = (params results : List ValType) → IsBlockType context ty params results → ⊥

pub record IsShapeOf (context : BodyContext) (kind : Kind) (ty : BlockType) (shape : Shape) : Type 0 where
  pub kind_is : shape.kind ≡ kind
  pub fits : IsBlockType context ty shape.params shape.results
  pub valid : IsShapeValid context shape

-- the check has reached the end of `done`: `rest` completes `done` to a typed body exactly if it
-- completes the check
pub record IsReached (context : BodyContext) (checker : Checker) (done : List Instr) : Type 0 where
  pub well : IsWell context checker
  pub complete : (rest : List Instr) → IsBodyTyped context (done ++ rest) → CanFinish context checker rest
  pub sound : (rest : List Instr) → CanFinish context checker rest → IsBodyTyped context (done ++ rest)
