-- Files of a valid program, with or without custom sections.
use Rattle.std.specs.Prelude.{ℕ, List}
use Rattle.smith_binary_program.specs.Valid.{IsValidBinary}
use Rattle.smith_custom_sections.specs.WithoutCustoms.{IsWithoutCustoms}

-- without their custom sections, the bytes are a valid program, and no other program (Binary
-- Format, Modules, Custom Section)
pub record IsValidFile (bytes : List ℕ) : Type 0 where
  pub file : List ℕ
  pub without : IsWithoutCustoms bytes file
  pub valid : IsValidBinary file
