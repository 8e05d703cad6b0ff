-- The contract of each call that draws a module: `Module::new_internal`, `new` and `arbitrary`.
use Rattle.std.specs.Prelude.{◌≡◌, ℕ, Bool, true, false, List, Result, IfOk, IfErr, OnOk, IsErrAnd}
use Rattle.smith_bytes.specs.Source.{IsPiece}
use Rattle.wasm_smith.specs.Common.{Config, Error, ModuleParts}
use Rattle.smith_bytes.specs.declared.error.Error.TheVariants as errors
use Rattle.smith_config.specs.Faults.{IsFirstFault, Passes}
use Rattle.smith_config.specs.Sanitized.{sanitized}
use Rattle.smith_module_rules.specs.Bounds.{KeepsBounds, MeetsMinimums}
use Rattle.wasm_smith.specs.Build.{IsGiven}
use Rattle.smith_module_rules.specs.InterestingValues.{HasInterestingValues}
use Rattle.smith_module_rules.specs.Module.{IsValid, shown_config}
use Rattle.smith_module_rules.specs.Promises.{KeepsPromises}
use Rattle.wasm_smith.specs.CheckedShapes.{IsFirstFaulty}
use Rattle.wasm_smith.specs.Reached.{ReachesMembers, ReachesRests}
use Rattle.smith_module_rules.specs.Refusals.{AreShapesValid, AsksNothingImpossible, MayGive, MayRefuse}
use Rattle.smith_module_rules.specs.ShapesKept.{KeepsShapes}
use Rattle.wasm_smith.specs.declared.module.DuplicateImportsBehavior.{DuplicateImportsBehavior}
use Rattle.wasm_smith.specs.declared.module.DuplicateImportsBehavior.TheVariants.{Allowed, Disallowed}

-- whether the names of imports must be distinct, unless a shape fixes the imports
abbrev pub is_distinct : DuplicateImportsBehavior → Bool
is_distinct Allowed = false
is_distinct Disallowed = true

-- the error of a configuration that does not pass its check is its first fault
abbrev pub IsFaulted : Config → Error → Type 0
IsFaulted config (errors.Config fault) = IsFirstFault config fault
IsFaulted config _ = ⊥

-- the contract: the result for the caller's configuration and the bytes of the source, with the
-- bytes left
pub record IsGenerated (distinct : Bool) (given : Config) (bytes : List ℕ) (answer : Result ModuleParts Error) (left : List ℕ)
    : Type 0 where
  -- the module is the one that the configuration and the bytes give
  pub exact : IsGiven distinct (sanitized given) bytes answer left
  pub config : IfOk answer (λ m. m.config ≡ shown_config given)
  -- properties of every module
  pub valid : IfOk answer IsValid
  pub bounds : IfOk answer (KeepsBounds (sanitized given))
  pub minimums : IfOk answer (MeetsMinimums (sanitized given))
  pub shapes : IfOk answer (KeepsShapes (sanitized given) bytes)
  pub promises : IfOk answer (KeepsPromises distinct (sanitized given))
  pub interesting : IfOk answer HasInterestingValues
  -- the conditions for a module, and for each error
  pub may_give : OnOk answer (MayGive (sanitized given))
  pub fault : (Passes (sanitized given) → ⊥) → IsErrAnd answer (IsFaulted (sanitized given))
  pub shape_fault : Passes (sanitized given) → (AreShapesValid (sanitized given) → ⊥) → IsErrAnd answer (IsFirstFaulty (sanitized given))
  pub refusals : IfErr answer (MayRefuse (sanitized given))
  pub needless : AsksNothingImpossible (sanitized given) → IfErr answer (λ e. e ≡ errors.Memory)
  -- each spelling of types and functions, and of the rest, is reached
  pub reach : ReachesMembers (sanitized given) bytes answer
  pub rest : ReachesRests (sanitized given) bytes answer
  -- the rest of the source
  pub undrawn : (MayGive (sanitized given) → ⊥) → left ≡ bytes
  pub source : IsPiece bytes left
