-- The export of a global that is added to a module. Rules of this project.
use Rattle.std.specs.Prelude.{◌≡◌, ℕ, ◌<◌, false, List, [], ◌∷◌, ◌++◌, length, codes, if◌then◌else◌}
use Rattle.std.specs.List.{repeat}
use Rattle.smith_types.specs.Syntax.entity_type.ExportKind.TheVariants.{Global}
use Rattle.wasm_smith.specs.Common.{Export}
use Rattle.smith_draw_contents.specs.Exporting.{is_exported, longest_export}

-- this name, and if an export has it, as many `_` after it as the longest name of an export has bytes
abbrev pub unused_name : List ℕ → List Export → List ℕ
unused_name name exports = name ++ (if is_exported exports name then repeat (longest_export exports) (codes "_") else [])

-- exports, and after them an export of the global at this index, under this name made unused
abbrev pub with_global : List ℕ → ℕ → List Export → List Export
with_global name index exports = exports ++ (unused_name name exports, Global, index) ∷ []

-- no export has a name that was made unused, if the name is not empty
abbrev pub NamesAreNew : Type 0
NamesAreNew = (name : List ℕ) (exports : List Export) → 0 < length name → is_exported exports (unused_name name exports) ≡ false
