-- Changes of examples.
use Rattle.std.specs.Prelude.{ℕ, [], ◌∷◌}
use Rattle.smith_wrong_bytes.specs.declared.family.BytesFamily.TheVariants as bytes
use Rattle.smith_wrong.specs.declared.changes.Change.{Change}
use Rattle.smith_wrong.specs.declared.changes.Change.TheVariants as change

-- the second byte of a file is replaced by this one
abbrev pub second_byte : ℕ → Change
second_byte byte = change.Bytes bytes.Preamble (record { at = 1; removed = 1; inserted = byte ∷ [] })
