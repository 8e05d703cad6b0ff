-- Shapes in files: modules in the binary format or in the text format. The meaning of a text is not
-- defined here.
use Rattle.std.specs.Prelude.{◌≡◌, ◌≤◌, ℕ, Bool, true, false, List, [], ◌∷◌, length, take}
use Rattle.std.specs.Str.{bytes_eq}
use Rattle.smith_config.specs.declared.shape.Shape.{Shape}
use Rattle.smith_shape.specs.ModuleShapes.{HaveSeveralSupertypes, IsShapeBinary, IsUndecoded}
use Rattle.smith_shape_file.specs.declared.fault.ShapeFileFault.{ShapeFileFault}
use Rattle.smith_shape_file.specs.declared.fault.ShapeFileFault.TheVariants.{Binary, Supertypes, Text}

-- whether bytes begin with the magic number (Binary Format, Modules)
abbrev pub is_binary_file : List ℕ → Bool
is_binary_file bytes = bytes_eq (0x00 ∷ 0x61 ∷ 0x73 ∷ 0x6D ∷ []) (take 4 bytes)

-- if the file begins with the magic number, it is a module with this shape
abbrev pub IsShapeFile : List ℕ → Shape → Type 0
IsShapeFile bytes shape = is_binary_file bytes ≡ true → IsShapeBinary bytes shape

-- a fault of a file without a shape: the decoder's, a type with several supertypes, or a fault at an
-- offset within the text
abbrev pub IsShapeFileFault : List ℕ → ShapeFileFault → Type 0
IsShapeFileFault bytes (Binary e) = (is_binary_file bytes ≡ true) × IsUndecoded bytes e
IsShapeFileFault bytes Supertypes = (is_binary_file bytes ≡ true) × HaveSeveralSupertypes bytes
IsShapeFileFault bytes (Text refusal) = (is_binary_file bytes ≡ false) × (refusal.offset ≤ length bytes)
