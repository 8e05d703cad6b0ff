-- Canonical NaNs, if a configuration requests them. Rules of this project.
use Rattle.std.specs.Prelude.{◌≡◌, ◌≤◌, ◌-◌, ◌^◌, Bool, true, false, ◌&&◌, IsTrue, Ok, length}
use Rattle.smith_binary.specs.declared.error.EncodeError.TheVariants.{TooLong}
use Rattle.smith_bytes.specs.declared.error.Error.TheVariants as errors
use Rattle.smith_config.specs.declared.config.Config.{Config}
use Rattle.smith_program.specs.Canonical.{AnswersCanonical}
use Rattle.smith_program.specs.Parts.{ProgramParts as Program}
use Rattle.smith_request.specs.declared.refusal.Refusal.{Refusal}
use Rattle.smith_request.specs.declared.refusal.Refusal.TheVariants.{Module, Encoding}

-- NaNs are made canonical: the configuration requests it, and allows floats
abbrev pub has_canonical_nans : Config → Bool
has_canonical_nans config = config.canonicalize_nans && config.allow_floats

-- a program with canonical NaNs, if they are requested
abbrev pub HasCanonicalNans : Bool → Program → Program → Type 0
HasCanonicalNans true program canonical = AnswersCanonical program canonical (Ok tt)
HasCanonicalNans false program canonical = canonical ≡ program

-- the requested NaNs are not made canonical, because there is no index for each scratch global, or
-- memory runs out
pub data IsNotCanonical (program : Program) (refusal : Refusal) : Type 0 where
  no_index : IsTrue (has_canonical_nans program.«module».config) → 2 ^ 32 - 3 ≤ length program.«module».globals →
      refusal ≡ Encoding TooLong →
      IsNotCanonical program refusal
  no_memory : IsTrue (has_canonical_nans program.«module».config) → refusal ≡ Module errors.Memory → IsNotCanonical program refusal
