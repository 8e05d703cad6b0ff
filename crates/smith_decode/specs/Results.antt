-- The results of the decoder.
use Rattle.std.specs.Prelude.{◌≡◌, ◌-◌, ℕ, List, length, unwrap_or, Result, Ok, Err}
use Rattle.smith_decode.specs.Common.{Fault, Features}
use Rattle.smith_decode.specs.declared.error.DecodeError.{DecodeError}
use Rattle.smith_decode.specs.declared.error.DecodeError.TheVariants.{Memory, Malformed, FeatureOff}
use Rattle.smith_decode.specs.declared.locations.Place.{Place}
use Rattle.smith_decode.specs.declared.modules.Module.{Module}
use Rattle.smith_decode.specs.Forms.{AreFormsEnabled, IsOffAt}
use Rattle.smith_decode.specs.Locations.{located}
use Rattle.smith_decode.specs.Modules.{Syntax, syntax_of}

-- the decoder returned this module, refused a form that is not enabled, or was refused memory
abbrev pub Returns : Features → Syntax → Result Module DecodeError → Type 0
Returns features m (Ok decoded) = syntax_of decoded ≡ m
Returns features m (Err Memory) = Unit {0}
Returns features m (Err (Malformed offset reason)) = ⊥
Returns features m (Err (FeatureOff offset)) = (decoded : Module) × (syntax_of decoded ≡ m) × (AreFormsEnabled features decoded → ⊥)

-- the offset of a place, or of the end of the bytes if the place does not exist
abbrev pub offset_in : List ℕ → Place → ℕ
offset_in bytes place = unwrap_or (located place bytes) (length bytes)

-- The decoder returned the module that the reading gives, whose forms are enabled; or the fault of
-- the reading with its offset; or the offset of the first form that is not enabled; or it was
-- refused memory.
abbrev pub Locates : Features → Result Module DecodeError → List ℕ → Result Module Fault → Type 0
Locates features (Ok m) bytes reading = (reading ≡ Ok m) × AreFormsEnabled features m
Locates features (Err Memory) bytes reading = Unit {0}
Locates features (Err (Malformed offset reason)) bytes reading =
    (left : ℕ) × (reading ≡ Err (record { left = left; reason = reason })) × (offset ≡ length bytes - left)
Locates features (Err (FeatureOff offset)) bytes reading =
    (m : Module) × (reading ≡ Ok m) × (place : Place) × IsOffAt features m place × (offset ≡ offset_in bytes place)
