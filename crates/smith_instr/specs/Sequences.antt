-- Sequences of instructions and bodies: the sections Validation, Instruction Sequences, and
-- Validation, Functions, of the WebAssembly Core Specification 3.0.
use Rattle.std.specs.Prelude.{◌≡◌, ℕ, List, [], ◌∷◌, ◌++◌, All}
use Rattle.smith_instr.specs.Common.{I32, ValType}
use Rattle.smith_instr.specs.Contexts.{BodyContext, labelled, AreValid, AreBelow, IsBlockType}
use Rattle.smith_instr.specs.InstrTypes.{sets, HasInstrType, IsCatch}
use Rattle.smith_instr.specs.declared.control.BlockType.{BlockType}
use Rattle.smith_instr.specs.declared.control.Catch.{Catch}
use Rattle.smith_instr.specs.declared.instr.Instr.{Instr}
use Rattle.smith_instr.specs.declared.instr.Instr.TheVariants as instr

-- the types of the values on the stack, the last on top, and the locals that are set (Validation,
-- Conventions, Types)
pub record Stacked : Type 0 where
  pub stack : List ValType
  pub set : List ℕ

-- a stack with these types, and these set locals (Validation, Conventions, Types)
abbrev pub stacked : List ValType → List ℕ → Stacked
stacked stack set = record { stack = stack; set = set }

-- `given` are valid types, and `values` are subtypes of them (Validation, Instruction Sequences,
-- subsumption)
pub record CountsAs (context : BodyContext) (values given : List ValType) : Type 0 where
  pub below : AreBelow context values given
  pub valid : AreValid context given

-- An instruction with these operands and results takes the stack `before` to `after`: it pops
-- values of subtypes of the operands, pushes values of supertypes of the results, and leaves the
-- rest of the stack. The locals in `set` are set after it (Validation, Instruction Sequences, frame
-- and subsumption).
pub record IsFramed (context : BodyContext) (operands results : List ValType) (set : List ℕ) (before after : Stacked) : Type 0 where
  pub rest : List ValType
  pub taken : List ValType
  pub given : List ValType
  pub under : before.stack ≡ rest ++ taken
  pub accepted : AreBelow context taken operands
  pub offered : CountsAs context results given
  pub over : after.stack ≡ rest ++ given
  pub set_then : after.set ≡ before.set ++ set

-- an instruction other than a block takes the stack `before` to `after` (Validation, Instruction
-- Sequences)
pub record IsStep (context : BodyContext) (instruction : Instr) (before after : Stacked) : Type 0 where
  pub operands : List ValType
  pub results : List ValType
  pub typed : HasInstrType context before.set instruction operands results
  pub framed : IsFramed context operands results (sets instruction) before after

-- Instructions in order take one stack to another; an empty sequence may give the values supertypes
-- (Validation, Instruction Sequences). The body of a block, loop, if or try_table has one more
-- label, which takes the results, or for a loop the parameters. A local that the body sets is not
-- set after it. An if without an else has an empty else (Validation, Control Instructions, block,
-- loop, if, try_table).
pub data AreTyped : BodyContext → List Instr → Stacked → Stacked → Type 0 where
  nothing : {context : BodyContext} {before after : Stacked}
      → CountsAs context before.stack after.stack → after.set ≡ before.set → AreTyped context [] before after
  step : {context : BodyContext} {instruction : Instr} {more : List Instr} {before between after : Stacked}
      → IsStep context instruction before between → AreTyped context more between after → AreTyped context (instruction ∷ more) before after
  block : {context : BodyContext} {ty : BlockType} {all body more : List Instr} {params results : List ValType} {set : List ℕ}
      {before between after : Stacked}
      → all ≡ instr.Block ty ∷ (body ++ instr.End ∷ more) → IsBlockType context ty params results
      → AreTyped (labelled context results) body (stacked params before.set) (stacked results set)
      → IsFramed context params results [] before between → AreTyped context more between after → AreTyped context all before after
  loop : {context : BodyContext} {ty : BlockType} {all body more : List Instr} {params results : List ValType} {set : List ℕ}
      {before between after : Stacked}
      → all ≡ instr.Loop ty ∷ (body ++ instr.End ∷ more) → IsBlockType context ty params results
      → AreTyped (labelled context params) body (stacked params before.set) (stacked results set)
      → IsFramed context params results [] before between → AreTyped context more between after → AreTyped context all before after
  if_alone : {context : BodyContext} {ty : BlockType} {all body more : List Instr} {params results : List ValType} {set : List ℕ}
      {before between after : Stacked}
      → all ≡ instr.If ty ∷ (body ++ instr.End ∷ more) → IsBlockType context ty params results
      → AreTyped (labelled context results) body (stacked params before.set) (stacked results set)
      → CountsAs context params results
      → IsFramed context (params ++ I32 ∷ []) results [] before between → AreTyped context more between after
      → AreTyped context all before after
  if_else : {context : BodyContext} {ty : BlockType} {all body other more : List Instr} {params results : List ValType} {set reset : List ℕ}
      {before between after : Stacked}
      → all ≡ instr.If ty ∷ (body ++ instr.Else ∷ (other ++ instr.End ∷ more)) → IsBlockType context ty params results
      → AreTyped (labelled context results) body (stacked params before.set) (stacked results set)
      → AreTyped (labelled context results) other (stacked params before.set) (stacked results reset)
      → IsFramed context (params ++ I32 ∷ []) results [] before between → AreTyped context more between after
      → AreTyped context all before after
  try_table : {context : BodyContext} {ty : BlockType} {clauses : List Catch} {all body more : List Instr} {params results : List ValType}
      {set : List ℕ} {before between after : Stacked}
      → all ≡ instr.TryTable ty clauses ∷ (body ++ instr.End ∷ more) → IsBlockType context ty params results → All (IsCatch context) clauses
      → AreTyped (labelled context results) body (stacked params before.set) (stacked results set)
      → IsFramed context params results [] before between → AreTyped context more between after → AreTyped context all before after

-- A body, without its last `end`, takes the empty stack to the results of its function. At its
-- start no local is set except parameters and locals with a default value, and the only label takes
-- the results (Validation, Functions). The types in the context need not be valid here.
pub record IsBodyTyped (context : BodyContext) (body : List Instr) : Type 0 where
  pub set : List ℕ
  pub typed : AreTyped (record context { labels = context.results ∷ [] }) body (stacked [] []) (stacked context.results set)
