-- The places of `unreachable` in a body if traps are disallowed. Rules of this project.
use Rattle.std.specs.Prelude.{◌≡◌, ℕ, IsTrue, List, [], ◌∷◌}
use Rattle.smith_body.specs.Common.{BodyContext, Config, Instr, ValType}
use Rattle.smith_instr.specs.Sequences.{Stacked, IsFramed, IsStep, AreTyped, IsBodyTyped, nothing, step, block, loop, if_alone, if_else}
use Rattle.smith_instr.specs.Sequences.{try_table}
use Rattle.smith_instr.specs.declared.instr.Instr.TheVariants as instr
use Rattle.smith_body_leaves.specs.Laws.{HasNoOther}

-- an `unreachable` is needed: it takes no value and gives one of a type for which no other
-- permitted instructions give a value without a budget
pub record IsNeeded (config : Config) (context : BodyContext) (set : List ℕ) (taken given : List ValType) : Type 0 where
  pub none : taken ≡ []
  pub wanted : ValType
  pub one : given ≡ wanted ∷ []
  pub no_other : HasNoOther config context set wanted

-- the operands have exactly their types, not proper subtypes
abbrev pub TakesExactly : {context : BodyContext} {operands results : List ValType} {set : List ℕ} {before after : Stacked}
    → IsFramed context operands results set before after → Type 0
TakesExactly {operands = operands} framed = framed.taken ≡ operands

-- the operands of an instruction have exactly their types, and with `disallow_traps` an
-- `unreachable` is needed
pub record IsStopNeeded (config : Config) (context : BodyContext) (instruction : Instr) (before after : Stacked)
    (typed : IsStep context instruction before after) : Type 0 where
  pub exact : TakesExactly typed.framed
  pub stop : IsTrue config.disallow_traps → instruction ≡ instr.Unreachable → IsNeeded config context before.set typed.framed.taken
      typed.framed.given

-- in this typing of a sequence, the operands of each instruction and each block have exactly their
-- types, each sequence gives exactly the types at its end, and with `disallow_traps` each
-- `unreachable` is needed
unfoldable pub AreStopsNeeded : (config : Config) {context : BodyContext} {instructions : List Instr} {before after : Stacked}
    → AreTyped context instructions before after → Type 0
AreStopsNeeded config (nothing {before = before} {after = after} counts same) = before.stack ≡ after.stack
AreStopsNeeded config (step {context = context} {instruction = instruction} {before = before} {between = between} first more) =
    IsStopNeeded config context instruction before between first × AreStopsNeeded config more
AreStopsNeeded config (block is fits inner framed more) = AreStopsNeeded config inner × TakesExactly framed × AreStopsNeeded config more
AreStopsNeeded config (loop is fits inner framed more) = AreStopsNeeded config inner × TakesExactly framed × AreStopsNeeded config more
AreStopsNeeded config (if_alone is fits inner counts framed more) = AreStopsNeeded config inner × TakesExactly framed
    × AreStopsNeeded config more
AreStopsNeeded config (if_else is fits inner other framed more) =
    AreStopsNeeded config inner × AreStopsNeeded config other × TakesExactly framed × AreStopsNeeded config more
AreStopsNeeded config (try_table is fits caught inner framed more) = AreStopsNeeded config inner × TakesExactly framed
    × AreStopsNeeded config more

-- instructions with such a typing
pub record HaveNeededStops (config : Config) (context : BodyContext) (instructions : List Instr) (before after : Stacked) : Type 0 where
  pub typed : AreTyped context instructions before after
  pub needed : AreStopsNeeded config typed

-- a body with such a typing
pub record HasNeededStops (config : Config) (context : BodyContext) (body : List Instr) : Type 0 where
  pub typed : IsBodyTyped context body
  pub needed : AreStopsNeeded config typed.typed
