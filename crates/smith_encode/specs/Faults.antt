-- The errors of the encoder.
use Rattle.std.specs.Prelude.{ℕ, List}
use Rattle.smith_binary.specs.declared.error.EncodeError.{EncodeError}
use Rattle.smith_binary.specs.declared.error.EncodeError.TheVariants as writer
use Rattle.smith_decode.specs.declared.modules.Module.{Module}
use Rattle.smith_decode.specs.Modules.{Syntax, IsModuleBinary, syntax_of}
use Rattle.smith_encode.specs.declared.error.EncodeFault.{EncodeFault}
use Rattle.smith_encode.specs.declared.error.EncodeFault.TheVariants.{Memory, TooLong, NoSpelling}
use Rattle.smith_encode.specs.TooLong.{IsTooLong}

-- no bytes spell the module
abbrev pub HasNoSpelling : Syntax → Type 0
HasNoSpelling m = (bytes : List ℕ) → IsModuleBinary m bytes → ⊥

-- the condition of each error: excess length, or that no bytes spell the module; lack of memory has
-- none
abbrev pub IsFault : Module → EncodeFault → Type 0
IsFault m Memory = Unit {0}
IsFault m TooLong = IsTooLong m
IsFault m NoSpelling = HasNoSpelling (syntax_of m)

-- the encoder's error for an error of a writer
abbrev pub fault_of : EncodeError → EncodeFault
fault_of writer.Memory = Memory
fault_of writer.TooLong = TooLong
