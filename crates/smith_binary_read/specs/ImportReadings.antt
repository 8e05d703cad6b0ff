-- Readings of imports.
use Rattle.std.specs.Prelude.{ℕ, ◌==◌, ◌&&◌, if◌then◌else◌, List, length}
use Rattle.smith_types.specs.Syntax.entity_type.EntityType.{EntityType}
use Rattle.smith_types.specs.Syntax.imports.ImportItem.{ImportItem}
use Rattle.smith_types.specs.Syntax.imports.Imports.{Imports}
use Rattle.smith_types.specs.Syntax.imports.Imports.TheVariants.{Single, Compact1, Compact2}
use Rattle.smith_types.specs.Imports.{import_of}
use Rattle.smith_binary_read.specs.Readings.{Reading, ◌>>=◌, byte_at, joined_at, mapped_at}
use Rattle.smith_binary_read.specs.Contents.{list_at, name_at}
use Rattle.smith_binary_read.specs.EntityReadings.{extern_type_at}

-- an import in a group, with this name and this type
abbrev pub import_item : List ℕ → EntityType → ImportItem
import_item name ty = record { name = name; entity_type = ty }

-- reads an import in a compact group
unfoldable pub import_item_at : List ℕ → Reading ImportItem
import_item_at bytes = joined_at import_item name_at extern_type_at bytes

-- reads a group of imports from one module, after its name; an empty name and a byte begin a
-- compact group
unfoldable pub import_group_at : List ℕ → Reading Imports
import_group_at bytes = name_at bytes >>= (λ from. name_at from.1 >>= (λ name. byte_at name.1 >>= (λ byte.
    if length name.0 == 0 && byte.0 == 0x7F then mapped_at (λ items. Compact1 from.0 items) (list_at import_item_at) byte.1
    else (if length name.0 == 0 && byte.0 == 0x7E then joined_at (λ ty names. Compact2 from.0 ty names) extern_type_at
    (list_at name_at) byte.1
    else mapped_at (λ ty. Single (import_of from.0 name.0 ty)) extern_type_at name.1))))
