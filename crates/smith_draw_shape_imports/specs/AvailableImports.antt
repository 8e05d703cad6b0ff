-- The available imports that the bytes choose, their groups, and the bytes left. Rules of this
-- project.
use Rattle.std.specs.Prelude.{◌≡◌, ℕ, ◌+◌, ◌<◌, ◌≤◌, ◌^◌, Bool, false, ◌&&◌, nat_lt, nat_le, IsTrue, List, [], ◌∷◌, ◌++◌, length, All}
use Rattle.std.specs.Prelude.{bytes_eq, if◌then◌else◌}
use Rattle.std.specs.List.{Contains}
use Rattle.smith_bytes.specs.Draws.{bool_at}
use Rattle.smith_types.specs.Entities.{AreEntitiesValid}
use Rattle.smith_types.specs.Syntax.Features.{Features}
use Rattle.smith_types.specs.Imports.{IsImportsValid, flattened, imported_spaces}
use Rattle.smith_types.specs.Sizes.{IsTyped, size_in}
use Rattle.smith_syntax.specs.contracts.entity_type.EntityTypePartialEq.TheImpl.{ghosts as entity_same}
use Rattle.smith_types.specs.Syntax.composite_type.SubType.{SubType}
use Rattle.smith_types.specs.Syntax.entity_type.EntityType.{EntityType}
use Rattle.smith_types.specs.Syntax.imports.Import.{Import}
use Rattle.smith_types.specs.Syntax.imports.Imports.{Imports}
use Rattle.smith_types.specs.Syntax.imports.Imports.TheVariants.{Single, Compact1, Compact2}
use Rattle.smith_config.specs.declared.config.Config.{Config}
use Rattle.smith_config.specs.declared.shape.Shape.{Shape}
use Rattle.smith_config.specs.Features.{features_of}
use Rattle.smith_config.specs.Shapes.{shape_types, shape_imports}
use Rattle.smith_draw_imports.specs.ImportGroups.{group_kind_at}
use Rattle.smith_types.specs.Exports.{entity_kind}
use Rattle.smith_draw_imports.specs.ImportedEntities.{has_room}
use Rattle.smith_draw_imports.specs.Imported.{AreNumbersWithin, spaces_of}
use Rattle.smith_draw_imports.specs.Importing.{with_import}
use Rattle.smith_module_rules.specs.ShapeImports.{is_allowed, is_fitting, sizes_of}
use Rattle.smith_draw_imports.specs.declared.import_groups.GroupKind.{GroupKind}
use Rattle.smith_draw_imports.specs.declared.import_groups.GroupKind.TheVariants as groups
use Rattle.smith_draw_imports.specs.declared.imports_so_far.Imported.{Imported}

-- the imports `taken`, then the imports of a list that fit and for which a drawn bool, one for
-- each, is true
unfoldable pub picked_at : Config → List SubType → List Import → List Import → List ℕ → List Import × List ℕ
picked_at config types taken [] bytes = (taken, bytes)
picked_at config types taken (one ∷ more) bytes =
    let pick = bool_at bytes in
    picked_at config types (if pick.0 && is_fitting config types taken one then taken ++ one ∷ [] else taken) more pick.1

-- whether an import may be added to a compact group: it is from the same module and, if the group
-- has one type, has that type
abbrev pub may_join : Imports → Import → Bool
may_join (Single imported) next = false
may_join (Compact1 from items) next = bytes_eq from next.«module»
may_join (Compact2 from entity_type names) next = bytes_eq from next.«module» && entity_same.eq entity_type next.entity_type

-- a group with one import
abbrev pub group_begun : GroupKind → Import → Imports
group_begun groups.Single first = Single first
group_begun groups.OfOneModule first = with_import (Compact1 first.«module» []) first.name first.entity_type
group_begun groups.OfOneType first = with_import (Compact2 first.«module» first.entity_type []) first.name first.entity_type

-- whether one more import joins a group: a drawn bool if it may join, else false
unfoldable pub joins_at : Imports → Import → List ℕ → Bool × List ℕ
joins_at group next bytes = if may_join group next then bool_at bytes else (false, bytes)

-- a group of a drawn kind that begins with an import
unfoldable pub group_begun_at : Config → Import → List ℕ → Imports × List ℕ
group_begun_at config first bytes = let kind = group_kind_at config bytes in (group_begun kind.0 first, kind.1)

-- groups, then a group that imports join until an import begins another group
unfoldable pub joined_at : Config → List Imports → Imports → List Import → List ℕ → List Imports × List ℕ
joined_at config made group [] bytes = (made ++ group ∷ [], bytes)
joined_at config made group (next ∷ more) bytes =
    let joins = joins_at group next bytes in
    let another = group_begun_at config next joins.1 in
    if joins.0
    then joined_at config made (with_import group next.name next.entity_type) more joins.1
    else joined_at config (made ++ group ∷ []) another.0 more another.1

-- imports in groups of drawn kinds
unfoldable pub grouped_at : Config → List Import → List ℕ → List Imports × List ℕ
grouped_at config [] bytes = ([], bytes)
grouped_at config (first ∷ more) bytes = let group = group_begun_at config first bytes in joined_at config [] group.0 more group.1

-- the imports of a shape that the bytes choose, in groups
unfoldable pub available_at : Config → Shape → List ℕ → List Imports × List ℕ
available_at config shape bytes =
    let taken = picked_at config (shape_types shape) [] (shape_imports shape) bytes in
    grouped_at config taken.0 taken.1

-- `imported` has the counts of these imports; the type size is the sum of their sizes alone
pub record CountsTaken (types : List SubType) (imported : Imported) (taken : List Import) : Type 0 where
  pub spaces : spaces_of imported ≡ imported_spaces taken
  pub count : imported.count ≡ length taken
  pub type_size : imported.type_size ≡ sizes_of types taken

-- the type of an import exists, and its size has 32 bits
pub record IsImportSized (types : List SubType) (one : Import) : Type 0 where
  pub typed : IsTyped types one.entity_type
  pub few : size_in types one.entity_type < 2 ^ 32

-- whether one more entity fits after the counted imports
abbrev pub fits_beside : Config → List SubType → Imported → EntityType → Bool
fits_beside config types imported added =
    nat_lt imported.count config.max_imports
    && has_room config (spaces_of imported) (entity_kind added)
    && is_allowed config added
    && nat_le (imported.type_size + size_in types added) config.max_type_size

-- valid groups with these imports
pub record AreGroupsOf (features : Features) (imports : List Import) (made : List Imports) : Type 0 where
  pub all : flattened made ≡ imports
  pub valid : All (IsImportsValid features) made

-- there are no more imports than the configuration allows
pub record AreImportsWithin (config : Config) (types : List SubType) (taken : List Import) : Type 0 where
  pub numbers : AreNumbersWithin config (imported_spaces taken)
  pub tags : 0 < length (imported_spaces taken).tags → IsTrue config.exceptions_enabled
  pub most : length taken ≤ config.max_imports
  pub type_size : sizes_of types taken ≤ config.max_type_size

-- imports are valid and within the bounds, and their tables, memories and globals are among the
-- available ones
pub record AreTakenFit (config : Config) (types : List SubType) (offered taken : List Import) : Type 0 where
  pub entities : AreEntitiesValid (features_of config) types (imported_spaces taken)
  pub within : AreImportsWithin config types taken
  pub tables : All (Contains (imported_spaces offered).tables) (imported_spaces taken).tables
  pub memories : All (Contains (imported_spaces offered).memories) (imported_spaces taken).memories
  pub globals : All (Contains (imported_spaces offered).globals) (imported_spaces taken).globals

-- the chosen imports: valid groups of imports that fit, and their counts
pub record IsTaken (config : Config) (shape : Shape) (imported : Imported) : Type 0 where
  pub counts : CountsTaken (shape_types shape) imported (flattened imported.groups)
  pub fit : AreTakenFit config (shape_types shape) (shape_imports shape) (flattened imported.groups)
  pub groups : All (IsImportsValid (features_of config)) imported.groups
