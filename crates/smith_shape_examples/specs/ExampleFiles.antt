-- Files of the examples, and an error for one of them.
use Rattle.std.specs.Prelude.{ℕ, ◌+◌, List, [], ◌∷◌, codes}
use Rattle.smith_shape_text.specs.declared.fault.TextFault.TheVariants.{NoField}
use Rattle.smith_shape_text.specs.declared.fault.TextRefusal.{TextRefusal}

-- the magic number alone, which is no module
abbrev pub magic : List ℕ
magic = 0x00 ∷ 0x61 ∷ 0x73 ∷ 0x6D ∷ []

-- a module in the text format
abbrev pub text : List ℕ
text = codes "(module)"

-- an error of a text at this offset in its first line
abbrev pub refused_at : ℕ → TextRefusal
refused_at offset = record { fault = NoField; offset = offset; line = 1; column = offset + 1 }
