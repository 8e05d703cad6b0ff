-- The errors of writers.
use Rattle.smith_binary.specs.declared.error.EncodeError.{EncodeError}
use Rattle.smith_binary.specs.declared.error.EncodeError.TheVariants.{Memory, TooLong}

-- the error is lack of memory, or it is excess length and the condition holds
abbrev pub IsFault : Type 0 → EncodeError → Type 0
IsFault is_long Memory = Unit {0}
IsFault is_long TooLong = is_long
