-- Modules whose calls end, because a global counts fuel. Rules of this project.
use Rattle.std.specs.Prelude.{◌≡◌, ℕ, true, false, [], ◌∷◌, ◌++◌, length, Result, Ok, Err}
use Rattle.std.specs.Int.{cast_signed, w32}
use Rattle.std.specs.List.{Any}
use Rattle.wasm_smith.specs.Common.{Code, Error, GlobalType, I32Const, ModuleParts}
use Rattle.smith_bytes.specs.declared.error.Error.TheVariants as errors
use Rattle.smith_bytes.specs.declared.error.Why.TheVariants.{RawBody}
use Rattle.smith_types.specs.Syntax.value_type.ValType.TheVariants.{I32}
use Rattle.smith_module_rules.specs.Held.{IsRaw}
use Rattle.smith_module_rules.specs.Module.{IsValid}

-- some body of a module is raw bytes
abbrev pub HasRawBody : ModuleParts → Type 0
HasRawBody m = Any (λ (body : Code). IsRaw body.instructions) m.code

-- the type of a global that counts fuel
abbrev pub counter : GlobalType
counter = record { val_type = I32; mutable = true; shared = false }

-- `new` is `old` with one more fuel counter, which is the last global and the last counter, has the
-- index `index`, and is initialised with the 32 bits of `fuel`
pub record AddsCounter (fuel index : ℕ) (old new : ModuleParts) : Type 0 where
  pub last : index ≡ length old.globals
  pub added : new ≡ record old {
    globals = old.globals ++ counter ∷ [];
    defined_globals = old.defined_globals ++ (index, I32Const (cast_signed w32 fuel) ∷ []) ∷ [];
    fuel_globals = old.fuel_globals ++ index ∷ [];
  }

-- the reasons why no global is added: a body is raw bytes, else lack of memory
abbrev pub MayAddNone : ModuleParts → Error → Type 0
MayAddNone m (errors.IncorrectFormat RawBody) = HasRawBody m
MayAddNone m errors.Memory = HasRawBody m → ⊥
MayAddNone m _ = ⊥

-- the result: the index of the added counter; or the reason why none was added, with the module
-- unchanged
abbrev pub AnswersCounter : ℕ → ModuleParts → ModuleParts → Result ℕ Error → Type 0
AnswersCounter fuel old new (Ok index) = (HasRawBody old → ⊥) × AddsCounter fuel index old new
AnswersCounter fuel old new (Err error) = MayAddNone old error × (new ≡ old)

-- a valid module stays valid with a counter
abbrev pub CountingIsValid : Type 0
CountingIsValid = (fuel index : ℕ) (old new : ModuleParts) → AddsCounter fuel index old new → IsValid old → IsValid new
