-- Bodies of functions: the section Validation, Functions, of the WebAssembly Core Specification
-- 3.0. The conditions on raw bytes, on the number of locals, and on the fuel global are rules of
-- this project.
use Rattle.std.specs.Prelude.{◌≡◌, ℕ, ◌≤◌, true, false, IsTrue, Bool, List, Some, length, slice_get, All}
use Rattle.smith_types.specs.Common.{Features, GlobalType, I32}
use Rattle.smith_types.specs.ValidTypes.{IsValTypeValid}
use Rattle.smith_syntax.specs.declared.code.Code.{Code}
use Rattle.smith_syntax.specs.declared.code.Instructions.{Instructions}
use Rattle.smith_syntax.specs.declared.code.Instructions.TheVariants.{Unreachable, Arbitrary}

-- `unreachable` is valid with every type (Validation, Instructions); raw bytes are valid only if
-- `raw` is true (own rule)
abbrev pub AreInstructionsValid : Bool → Instructions → Type 0
AreInstructionsValid raw Unreachable = Unit {0}
AreInstructionsValid raw (Arbitrary bytes) = IsTrue raw

-- a body is valid in a module with `types` types: its locals have valid types (Validation,
-- Functions), and there are at most 100 of them (own rule)
pub record IsBodyValid (features : Features) (types : ℕ) (raw : Bool) (body : Code) : Type 0 where
  pub few : length body.locals ≤ 100
  pub locals : All (IsValTypeValid features types) body.locals
  pub instructions : AreInstructionsValid raw body.instructions

-- a global may count fuel: it is defined, not imported, and is a mutable, unshared i32 (own rule)
pub record IsCounterGlobal (globals : List GlobalType) (imported index : ℕ) : Type 0 where
  pub defined : imported ≤ index
  pub stands : slice_get globals index ≡ Some (record { val_type = I32; mutable = true; shared = false })
