-- The result of reading a whole input.
use Rattle.std.specs.Prelude.{◌≡◌, ⊤, ℕ, List, Bool, true, false, Option, Some, None, Result, Ok, Err}
use Rattle.smith_run.specs.declared.source.InputFault.{InputFault}
use Rattle.smith_run.specs.declared.source.InputFault.TheVariants.{Read, Memory}

-- whether a read failed, rather than the growth of the buffer
abbrev pub is_read_fault : {T : Type 0} → Result T InputFault → Bool
is_read_fault (Ok _) = false
is_read_fault (Err Read) = true
is_read_fault (Err Memory) = false

-- these bytes are the known bytes, if any are known
abbrev pub AreKnown : Option (List ℕ) → List ℕ → Type 0
AreKnown None bytes = ⊤
AreKnown (Some known) bytes = known ≡ bytes
