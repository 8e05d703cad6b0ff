-- The instructions that each step of drawing a body adds.
use Rattle.std.specs.Prelude.{◌≡◌, ℕ, ◌+◌, ◌*◌, ◌≤◌, Option, List, [], ◌∷◌, ◌++◌, length, take, option_to_list, All}
use Rattle.smith_body.specs.Common.{Instr, IsAllowedIn, Scope, ValType}
use Rattle.smith_instr.specs.Contexts.{AreValid}
use Rattle.smith_instr.specs.Sequences.{stacked}
use Rattle.smith_body.specs.Bodies.{State}
use Rattle.smith_body_leaves.specs.Leaves.{longest_leaf}
use Rattle.smith_body.specs.Stops.{HaveNeededStops}
use Rattle.smith_body_nodes.specs.Scopes.{bare, most, where_stands}
use Rattle.smith_body_nodes.specs.declared.scope.Draft.{Draft}

-- the new instructions take operands of the first types from the top of any stack, and leave values
-- of the second types; each `unreachable` is needed; the labels are the same, and the budget pays
-- for all but as many instructions as `cost` values that take no budget may have
pub record IsDrawn (scope : Scope) (operands values : List ValType) (cost : ℕ) (old new : Draft) : Type 0 where
  pub more : List Instr
  pub longer : new.out ≡ old.out ++ more
  pub typed : (base : List ValType) → AreValid (bare scope) base
      → HaveNeededStops scope.config.now (where_stands scope old) more (stacked (base ++ operands) old.set.items)
      (stacked (base ++ values) new.set.items)
  pub allowed : All (IsAllowedIn scope) more
  pub set : List ℕ
  pub set_more : new.set.items ≡ old.set.items ++ set
  pub same : new.labels.items ≡ old.labels.items
  pub spent : new.budget ≤ old.budget
  pub short : length new.out + longest_leaf scope.config.now scope.types.now.types * (most scope.types.now.types * new.budget)
      ≤ length old.out + longest_leaf scope.config.now scope.types.now.types * (cost + most scope.types.now.types * old.budget)

-- the state of a draft before these bytes
abbrev pub state_of : Scope → Draft → List ℕ → State
state_of scope draft bytes =
    record { context = where_stands scope draft; out = draft.out; set = draft.set.items; budget = draft.budget; bytes = bytes }

-- an instruction is appended, and the local is set
pub record IsWritten (instruction : Instr) (set : Option ℕ) (old new : Draft) : Type 0 where
  pub out : new.out ≡ old.out ++ instruction ∷ []
  pub set_more : new.set.items ≡ old.set.items ++ option_to_list set
  pub same : new.labels.items ≡ old.labels.items
  pub budget : new.budget ≡ old.budget

-- a block with this label is opened
pub record IsOpened (instruction : Instr) (label : List ValType) (old new : Draft) : Type 0 where
  pub out : new.out ≡ old.out ++ instruction ∷ []
  pub set : new.set.items ≡ old.set.items
  pub labels : new.labels.items ≡ label ∷ old.labels.items
  pub budget : new.budget ≡ old.budget

-- the first part of an `if`, or a block, ends: the first `height` of the locals that were set
-- remain
pub record IsEnded (instruction : Instr) (height : ℕ) (old new : Draft) : Type 0 where
  pub out : new.out ≡ old.out ++ instruction ∷ []
  pub set : new.set.items ≡ take height old.set.items
  pub budget : new.budget ≡ old.budget
