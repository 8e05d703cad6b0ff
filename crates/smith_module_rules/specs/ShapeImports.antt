-- The groups of imports of a module shape, and the imports that are chosen among available imports.
-- Rules of this project.
use Rattle.std.specs.Prelude.{ℕ, suc, ◌+◌, ◌%◌, ◌==◌, ◌&&◌, nat_le, nat_lt, Bool, true, List, [], ◌∷◌, ◌++◌, map, length, sum_by}
use Rattle.std.specs.Prelude.{slice_index_or, if◌then◌else◌}
use Rattle.std.specs.List.{filter}
use Rattle.smith_module_rules.specs.Common.{Config, Count, EntitySpaces, EntityType, Import, imported_spaces, Shape, shape_imports, size_in}
use Rattle.smith_module_rules.specs.Common.{SubType}
use Rattle.smith_bytes.specs.declared.error.Count.TheVariants as counts
use Rattle.smith_types.specs.Imports.{imports_of}
use Rattle.smith_types.specs.Syntax.entity_type.EntityType.TheVariants as entity
use Rattle.smith_types.specs.Syntax.imports.Imports.{Imports}
use Rattle.smith_types.specs.Syntax.imports.Imports.TheVariants.{Single}
use Rattle.smith_config.specs.Faults.{maximum_of}

-- whether a group of imports is not empty
abbrev pub is_filled : Imports → Bool
is_filled group = nat_lt 0 (length (imports_of group))

-- the imports of a shape in a module's groups: the groups that are not empty, or without compact
-- imports one by one
abbrev pub kept_groups : Config → Shape → List Imports
kept_groups config shape = if config.compact_imports_enabled then filter is_filled shape.imports else map Single (shape_imports shape)

-- the number of items of a kind in index spaces
abbrev pub count_in : EntitySpaces → Count → ℕ
count_in spaces counts.Tags = length spaces.tags
count_in spaces counts.Funcs = length spaces.funcs
count_in spaces counts.Tables = length spaces.tables
count_in spaces counts.Memories = length spaces.memories
count_in spaces counts.Globals = length spaces.globals
count_in spaces _ = 0

-- whether the bytes choose the import at `place`: the byte at `place` is odd; past the end of the
-- bytes, no import is chosen
abbrev pub is_picked : List ℕ → ℕ → Bool
is_picked bytes place = slice_index_or bytes place 0 % 2 == 1

-- the kind of count to which an entity adds
abbrev pub count_for : EntityType → Count
count_for (entity.Global global) = counts.Globals
count_for (entity.Table table) = counts.Tables
count_for (entity.Memory memory) = counts.Memories
count_for (entity.Tag index) = counts.Tags
count_for (entity.Func index) = counts.Funcs

-- whether an entity is enabled: a tag requires exceptions
abbrev pub is_allowed : Config → EntityType → Bool
is_allowed config (entity.Tag index) = config.exceptions_enabled
is_allowed config _ = true

-- the sum of the sizes of imports
abbrev pub sizes_of : List SubType → List Import → ℕ
sizes_of types imports = sum_by (λ (one : Import). size_in types one.entity_type) imports

-- whether one more import fits after `taken`: in number, in number of its kind, and in size
unfoldable pub is_fitting : Config → List SubType → List Import → Import → Bool
is_fitting config types taken one =
    let count = count_for one.entity_type in
    nat_lt (length taken) config.max_imports
    && nat_lt (count_in (imported_spaces taken) count) (maximum_of config count)
    && is_allowed config one.entity_type
    && nat_le (sizes_of types taken + size_in types one.entity_type) config.max_type_size

-- the imports `taken`, then the available imports from `place` on that the bytes choose and that
-- fit
abbrev pub taken_from : Config → List SubType → List ℕ → ℕ → List Import → List Import → List Import
taken_from config types bytes place taken [] = taken
taken_from config types bytes place taken (one ∷ more) =
    let next = if is_picked bytes place && is_fitting config types taken one then taken ++ one ∷ [] else taken in
    taken_from config types bytes (suc place) next more
