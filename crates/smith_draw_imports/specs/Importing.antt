-- The groups of imports that the bytes give in the step of imports, and the bytes left. The index
-- spaces, the type size and the names so far are computed from the imports so far.
use Rattle.std.specs.Prelude.{ℕ, zero, suc, ◌+◌, ◌-◌, Bool, true, false, nat_lt, ◌==◌, Option, List, [], ◌∷◌, ◌++◌, length, Result, Ok, Err}
use Rattle.std.specs.Prelude.{if◌then◌else◌}
use Rattle.std.specs.Option.{option_map_or}
use Rattle.smith_bytes.specs.declared.error.Count.TheVariants as counts
use Rattle.smith_bytes.specs.declared.error.Why.{Why}
use Rattle.smith_bytes.specs.declared.error.Why.TheVariants.{Unmet}
use Rattle.smith_bytes.specs.Draws.{bool_at}
use Rattle.smith_bytes.specs.Growth.{goes_at}
use Rattle.smith_bytes.specs.Names.{text_at}
use Rattle.smith_types.specs.Imports.{EntitySpaces, import_of, imports_of, flattened, imported_spaces}
use Rattle.smith_types.specs.Syntax.composite_type.SubType.{SubType}
use Rattle.smith_types.specs.Syntax.entity_type.EntityType.{EntityType}
use Rattle.smith_types.specs.Syntax.imports.Import.{Import}
use Rattle.smith_types.specs.Syntax.imports.Imports.{Imports}
use Rattle.smith_types.specs.Syntax.imports.Imports.TheVariants.{Single, Compact1, Compact2}
use Rattle.smith_config.specs.declared.config.Config.{Config}
use Rattle.smith_draw_imports.specs.ImportGroups.{GroupKind, group_kind_at}
use Rattle.smith_draw_imports.specs.ImportNames.{import_name_at}
use Rattle.smith_draw_imports.specs.ImportedEntities.{entity_at, again, sizes}
use Rattle.smith_draw_imports.specs.declared.import_groups.GroupKind.TheVariants as groups

-- the name of the module that a group imports from
abbrev pub module_name : Imports → List ℕ
module_name (Single imported) = imported.«module»
module_name (Compact1 from items) = from
module_name (Compact2 from entity_type names) = from

-- a compact group with one more import
abbrev pub with_import : Imports → List ℕ → EntityType → Imports
with_import (Single imported) name added = Single imported
with_import (Compact1 from items) name added = Compact1 from (items ++ record { name = name; entity_type = added } ∷ [])
with_import (Compact2 from entity_type names) name added = Compact2 from entity_type (names ++ name ∷ [])

-- the next entity of a compact group: the same entity again if the group has one type, else a drawn
-- one
abbrev pub next_entity_at : Config → List SubType → EntitySpaces → ℕ → Imports → List ℕ → Option EntityType × List ℕ
next_entity_at config types spaces size (Compact2 from entity_type names) bytes = (again config types spaces size entity_type, bytes)
next_entity_at config types spaces size _ bytes = entity_at config types spaces size bytes

-- a compact group after other imports, with at most `most` more imports: whether more may follow,
-- the group, and the bytes left
unfoldable pub fill_at : Config → List SubType → Bool → List Import → ℕ → Imports → List ℕ → Bool × (Imports × List ℕ)
fill_at config types distinct before zero group bytes = (true, (group, bytes))
fill_at config types distinct before (suc most) group bytes =
    let go = bool_at bytes in
    let imports = before ++ imports_of group in
    let next = next_entity_at config types (imported_spaces imports) (sizes types imports) group go.1 in
    let name = import_name_at distinct imports (module_name group) next.1 in
    if go.0
    then option_map_or (λ added. fill_at config types distinct before most (with_import group name.0 added) name.1) next.0
    (false, (group, next.1))
    else (true, (group, go.1))

-- groups followed by another group, unless it has no imports
abbrev pub with_filled : List Imports → Imports → List Imports
with_filled made group = if length (imports_of group) == 0 then made else made ++ group ∷ []

-- after a compact group is filled: whether more imports may follow, the groups, and the bytes left
unfoldable pub filled_at : Config → List SubType → Bool → List Imports → Imports → List ℕ → Bool × (List Imports × List ℕ)
filled_at config types distinct made group bytes =
    let drawn = fill_at config types distinct (flattened made) (config.max_imports - length (flattened made)) group bytes in
    (drawn.0, (with_filled made drawn.1.0, drawn.1.1))

-- a group of a kind that imports from a module, after other groups
unfoldable pub group_of_kind_at : Config → List SubType → Bool → List Imports → List ℕ → GroupKind → List ℕ → Bool × (List Imports × List ℕ)
group_of_kind_at config types distinct made from groups.Single bytes =
    let imports = flattened made in
    let next = entity_at config types (imported_spaces imports) (sizes types imports) bytes in
    let name = import_name_at distinct imports from next.1 in
    option_map_or (λ added. (true, (made ++ Single (import_of from name.0 added) ∷ [], name.1))) next.0 (false, (made, next.1))
group_of_kind_at config types distinct made from groups.OfOneModule bytes = filled_at config types distinct made (Compact1 from []) bytes
group_of_kind_at config types distinct made from groups.OfOneType bytes =
    let imports = flattened made in
    let next = entity_at config types (imported_spaces imports) (sizes types imports) bytes in
    option_map_or (λ added. filled_at config types distinct made (Compact2 from added []) next.1) next.0 (false, (made, next.1))

-- a group after others: whether more imports may follow, the groups, and the bytes
unfoldable pub group_at : Config → List SubType → Bool → List Imports → List ℕ → Bool × (List Imports × List ℕ)
group_at config types distinct made bytes =
    let drawn = group_kind_at config bytes in
    let from = text_at 1000 drawn.1 in
    group_of_kind_at config types distinct made from.0 drawn.0 from.1

-- at most `turns` more groups, while there is room and more imports may follow
unfoldable pub groups_at : Config → List SubType → Bool → ℕ → List Imports → List ℕ → List Imports × List ℕ
groups_at config types distinct zero made bytes = (made, bytes)
groups_at config types distinct (suc turns) made bytes =
    let count = length (flattened made) in
    let go = goes_at (nat_lt count config.min_imports) bytes in
    let turn = group_at config types distinct made go.1 in
    if nat_lt count config.max_imports
    then (if go.0 then (if turn.0 then groups_at config types distinct turns turn.1.0 turn.1.1 else turn.1) else (made, go.1))
    else (made, bytes)

-- the imports, or an error if they are fewer than the minimum; each turn adds an import or takes a
-- byte
unfoldable pub imports_at : Config → List SubType → Bool → List ℕ → Result (List Imports × List ℕ) Why
imports_at config types distinct bytes =
    let drawn = groups_at config types distinct (config.max_imports + length bytes + 1) [] bytes in
    if nat_lt (length (flattened drawn.0)) config.min_imports then Err (Unmet counts.Imports) else Ok drawn
