-- Sequences of instructions and bodies, with the bottom types: the sections Validation, Instruction
-- Sequences, and Validation, Functions, of the WebAssembly Core Specification 3.0.
use Rattle.std.specs.Prelude.{◌≡◌, ℕ, List, [], ◌∷◌, ◌++◌, All}
use Rattle.smith_types.specs.Syntax.value_type.ValType.{ValType}
use Rattle.smith_types.specs.Syntax.value_type.ValType.TheVariants.{I32}
use Rattle.smith_instr.specs.Contexts.{BodyContext, labelled, IsBlockType}
use Rattle.smith_instr.specs.InstrTypes.{sets, IsCatch}
use Rattle.smith_instr.specs.declared.control.BlockType.{BlockType}
use Rattle.smith_instr.specs.declared.control.Catch.{Catch}
use Rattle.smith_instr.specs.declared.instr.Instr.{Instr}
use Rattle.smith_instr.specs.declared.instr.Instr.TheVariants as instr
use Rattle.smith_check_rules.specs.Slots.{AreBelow, AreSlotsValid, values}
use Rattle.smith_check_rules.specs.StackTypes.{HasStackType}
use Rattle.smith_check_rules.specs.declared.slot.Slot.{Slot}

-- the types of the values on the stack, the last on top, and the locals that are set (Validation,
-- Conventions, Types)
pub record Stacked : Type 0 where
  pub stack : List Slot
  pub set : List ℕ

-- a stack with these types, and these set locals (Validation, Conventions, Types)
abbrev pub stacked : List Slot → List ℕ → Stacked
stacked stack set = record { stack = stack; set = set }

-- `given` are valid types, and `these` match them (Validation, Instruction Sequences, subsumption)
pub record CountsAs (context : BodyContext) (these given : List Slot) : Type 0 where
  pub below : AreBelow context.types these given
  pub valid : AreSlotsValid context given

-- An instruction with these operands and results takes the stack `before` to `after`: it pops
-- values of subtypes of the operands, pushes values of supertypes of the results, and leaves the
-- rest of the stack. The locals in `set` are set after it (Validation, Instruction Sequences, frame
-- and subsumption).
pub record IsFramed (context : BodyContext) (operands results : List Slot) (set : List ℕ) (before after : Stacked) : Type 0 where
  pub rest : List Slot
  pub taken : List Slot
  pub given : List Slot
  pub under : before.stack ≡ rest ++ taken
  pub accepted : AreBelow context.types taken operands
  pub offered : CountsAs context results given
  pub over : after.stack ≡ rest ++ given
  pub set_then : after.set ≡ before.set ++ set

-- an instruction other than a block takes the stack `before` to `after` (Validation, Instruction
-- Sequences)
pub record IsStep (context : BodyContext) (instruction : Instr) (before after : Stacked) : Type 0 where
  pub operands : List Slot
  pub results : List Slot
  pub typed : HasStackType context before.set instruction operands results
  pub framed : IsFramed context operands results (sets instruction) before after

-- Instructions in order take one stack to another; an empty sequence may give the values supertypes
-- (Validation, Instruction Sequences). The body of a block, loop, if or try_table has one more
-- label, which takes the results, or for a loop the parameters. A local that the body sets is not
-- set after it. An if without an else has an empty else (Validation, Control Instructions, block,
-- loop, if, try_table).
pub data AreTyped : BodyContext → List Instr → Stacked → Stacked → Type 0 where
  nothing : {context : BodyContext} {before after : Stacked}
      → CountsAs context before.stack after.stack → after.set ≡ before.set → AreTyped context [] before after
  step : {context : BodyContext} {instruction : Instr} {more : List Instr} {before between after : Stacked}
      → IsStep context instruction before between → AreTyped context more between after → AreTyped context (instruction ∷ more) before after
  block : {context : BodyContext} {ty : BlockType} {all body more : List Instr} (params results : List ValType) {set : List ℕ}
      {before between after : Stacked}
      → all ≡ instr.Block ty ∷ (body ++ instr.End ∷ more) → IsBlockType context ty params results
      → AreTyped (labelled context results) body (stacked (values params) before.set) (stacked (values results) set)
      → IsFramed context (values params) (values results) [] before between → AreTyped context more between after
      → AreTyped context all before after
  loop : {context : BodyContext} {ty : BlockType} {all body more : List Instr} (params results : List ValType) {set : List ℕ}
      {before between after : Stacked}
      → all ≡ instr.Loop ty ∷ (body ++ instr.End ∷ more) → IsBlockType context ty params results
      → AreTyped (labelled context params) body (stacked (values params) before.set) (stacked (values results) set)
      → IsFramed context (values params) (values results) [] before between → AreTyped context more between after
      → AreTyped context all before after
  if_alone : {context : BodyContext} {ty : BlockType} {all body more : List Instr} (params results : List ValType) {set : List ℕ}
      {before between after : Stacked}
      → all ≡ instr.If ty ∷ (body ++ instr.End ∷ more) → IsBlockType context ty params results
      → AreTyped (labelled context results) body (stacked (values params) before.set) (stacked (values results) set)
      → CountsAs context (values params) (values results)
      → IsFramed context (values (params ++ I32 ∷ [])) (values results) [] before between → AreTyped context more between after
      → AreTyped context all before after
  if_else : {context : BodyContext} {ty : BlockType} {all body other more : List Instr} (params results : List ValType) {set reset : List ℕ}
      {before between after : Stacked}
      → all ≡ instr.If ty ∷ (body ++ instr.Else ∷ (other ++ instr.End ∷ more)) → IsBlockType context ty params results
      → AreTyped (labelled context results) body (stacked (values params) before.set) (stacked (values results) set)
      → AreTyped (labelled context results) other (stacked (values params) before.set) (stacked (values results) reset)
      → IsFramed context (values (params ++ I32 ∷ [])) (values results) [] before between → AreTyped context more between after
      → AreTyped context all before after
  try_table : {context : BodyContext} {ty : BlockType} {clauses : List Catch} {all body more : List Instr} (params results : List ValType)
      {set : List ℕ} {before between after : Stacked}
      → all ≡ instr.TryTable ty clauses ∷ (body ++ instr.End ∷ more) → IsBlockType context ty params results → All (IsCatch context) clauses
      → AreTyped (labelled context results) body (stacked (values params) before.set) (stacked (values results) set)
      → IsFramed context (values params) (values results) [] before between → AreTyped context more between after
      → AreTyped context all before after

-- A body, without its last `end`, takes the empty stack to the results of its function. At its
-- start no local is set except parameters and locals with a default value, and the only label takes
-- the results (Validation, Functions). The types in the context need not be valid here.
pub record IsBodyTyped (context : BodyContext) (body : List Instr) : Type 0 where
  pub set : List ℕ
  pub typed : AreTyped (record context { labels = context.results ∷ [] }) body (stacked [] []) (stacked (values context.results) set)
