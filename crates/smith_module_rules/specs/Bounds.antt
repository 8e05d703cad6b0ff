-- Sizes of a module: its type size, and the maximum and minimum of each kind. Rules of this
-- project.
use Rattle.std.specs.Prelude.{◌≡◌, ℕ, ◌+◌, ◌≤◌, ◌⊎◌, max, false, ◌||◌, is_some, ⊤, List, [], ◌++◌, Option, option_map, unwrap_or, length}
use Rattle.std.specs.Prelude.{slice_get, sum_by, All, if◌then◌else◌}
use Rattle.smith_module_rules.specs.Common.{Config, Contains, Count, ElementSegment, EntitySpaces, ExportKind, FixesExports, flattened}
use Rattle.smith_module_rules.specs.Common.{Import, imported_spaces, Shape, shape_imports, shapes_of, size_in}
use Rattle.smith_bytes.specs.declared.error.Count.TheVariants as counts
use Rattle.smith_types.specs.Segments.{item_count}
use Rattle.smith_types.specs.Syntax.entity_type.EntityType.TheVariants as entity
use Rattle.smith_types.specs.Syntax.entity_type.ExportKind.TheVariants as kind
use Rattle.smith_config.specs.Faults.{minimum_of, maximum_of}
use Rattle.smith_config.specs.InUse.{FixesImports}
use Rattle.smith_config.specs.Shapes.{shape_spaces, shape_types}
use Rattle.smith_config.specs.EntityBounds.{IsTableWithin, IsMemoryWithin}
use Rattle.smith_module_rules.specs.Held.{HasItems}
use Rattle.smith_module_rules.specs.ShapeImports.{count_in}
use Rattle.smith_module_rules.specs.Module.{ModuleParts}

-- the number of items of a kind in a module, imported items included; elements are counted over all
-- segments
abbrev pub count_of : ModuleParts → Count → ℕ
count_of m counts.Types = length m.types
count_of m counts.Imports = m.num_imports
count_of m counts.Tags = length m.tags
count_of m counts.Funcs = length m.funcs
count_of m counts.Tables = length m.tables
count_of m counts.Memories = length m.memories
count_of m counts.Globals = length m.globals
count_of m counts.Exports = length m.exports
count_of m counts.ElementSegments = length m.elems
count_of m counts.Elements = sum_by (λ (segment : ElementSegment). item_count segment.items) m.elems
count_of m counts.DataSegments = length m.datas

-- what an export of a shape adds to a count; a function or a tag adds a type too
abbrev pub counts_as : Count → ExportKind → ℕ
counts_as counts.Tags kind.Tag = 1
counts_as counts.Funcs kind.Func = 1
counts_as counts.Tables kind.Table = 1
counts_as counts.Memories kind.Memory = 1
counts_as counts.Globals kind.Global = 1
counts_as counts.Types kind.Tag = 1
counts_as counts.Types kind.Func = 1
counts_as _ _ = 0

-- the number of items of a kind that the exports of a shape add
abbrev pub items_of_exports : Count → Shape → ℕ
items_of_exports count shape = sum_by (λ (one : List ℕ × ExportKind × ℕ). counts_as count one.1) shape.exports

-- the number of items of a kind that a module shape adds: types, imports, or items of a kind
-- imported or exported
abbrev pub items_of_module_shape : Count → Shape → ℕ
items_of_module_shape counts.Types shape = length (shape_types shape)
items_of_module_shape counts.Imports shape = length (shape_imports shape)
items_of_module_shape count shape = count_in (imported_spaces (shape_imports shape)) count + items_of_exports count shape

-- the number of items of a kind that available imports are certain to add: only types
abbrev pub items_of_available_imports : Count → Shape → ℕ
items_of_available_imports counts.Types shape = length (shape_types shape)
items_of_available_imports count shape = 0

-- the number for the shape, or 0 if there is no shape
abbrev pub where_given : (Shape → ℕ) → Option Shape → ℕ
where_given of_shape given = unwrap_or (option_map of_shape given) 0

-- the number of items of a kind that a module may have above its maximum because of a module shape
-- or available imports
abbrev pub items_of_shapes : Config → Count → ℕ
items_of_shapes config count =
    let used = shapes_of config in
    where_given (items_of_module_shape count) used.module_shape + where_given (items_of_available_imports count) used.available_imports

-- the number of items of a kind that a module may have in addition because of a shape for exports
abbrev pub items_of_export_shape : Config → Count → ℕ
items_of_export_shape config count = where_given (items_of_exports count) (shapes_of config).exports

-- the maximum of a kind applies; the maximum of exports does not if a shape fixes the exports, or
-- everything is exported
abbrev pub MaximumApplies : Config → Count → Type 0
MaximumApplies config counts.Exports = (FixesExports config → ⊥) × (config.export_everything ≡ false)
MaximumApplies config count = ⊤

-- The minimum of a kind applies to the whole module. The minimum of imports does not if a shape
-- fixes the imports, that of exports does not if a shape fixes them or everything is exported, and
-- that of elements applies to each segment instead.
abbrev pub MinimumApplies : Config → Count → Type 0
MinimumApplies config counts.Imports = FixesImports config → ⊥
MinimumApplies config counts.Exports = (FixesExports config → ⊥) × (config.export_everything ≡ false)
MinimumApplies config counts.Elements = ⊥
MinimumApplies config count = ⊤

-- what an import adds to the type size
abbrev pub import_size : ModuleParts → Import → ℕ
import_size m one = size_in m.types one.entity_type

-- what an export adds to the type size: the size of a function, or else 1
abbrev pub export_size : ModuleParts → ExportKind → ℕ → ℕ
export_size m kind.Func index = unwrap_or (option_map (λ func. size_in m.types (entity.Func func)) (slice_get m.funcs index)) 1
export_size m _ index = 1

-- what all imports add to the type size: 0 with a module shape; with available imports, their
-- sizes; else their sizes and 1 for each
abbrev pub imports_size : Config → ModuleParts → ℕ
imports_size config m =
    if is_some config.module_shape then 0
    else if is_some config.available_imports then sum_by (import_size m) (flattened m.imports)
    else sum_by (λ one. import_size m one + 1) (flattened m.imports)

-- what all exports add to the type size: 0 with a module shape or a shape for exports; else their
-- sizes and 1 for each
abbrev pub exports_size : Config → ModuleParts → ℕ
exports_size config m =
    if is_some config.module_shape || is_some config.exports then 0
    else sum_by (λ (one : List ℕ × ExportKind × ℕ). export_size m one.1 one.2 + 1) m.exports

-- the tables or memories of the shapes in use
abbrev pub of_shapes : {A : Type 0} → (EntitySpaces → List A) → Config → List A
of_shapes {A} space config =
    let one = λ (given : Option Shape). unwrap_or (option_map (λ (shape : Shape). space (shape_spaces shape)) given) [] in
    let used = shapes_of config in
    one used.available_imports ++ (one used.exports ++ one used.module_shape)

-- the module has no more items than the configuration and its shapes allow; its tables and memories
-- are within the configuration's limits, or come from a shape
pub record KeepsBounds (config : Config) (m : ModuleParts) : Type 0 where
  pub most : (count : Count) → MaximumApplies config count → count_of m count ≤ max (maximum_of config count) (items_of_shapes config count)
      + items_of_export_shape config count
  pub tables : All (λ table. Contains (of_shapes (λ spaces. spaces.tables) config) table ⊎ IsTableWithin config table) m.tables
  pub memories : All (λ memory. Contains (of_shapes (λ spaces. spaces.memories) config) memory ⊎ IsMemoryWithin config memory) m.memories
  pub type_size : m.type_size ≡ imports_size config m + exports_size config m
  pub type_size_most : m.type_size ≤ config.max_type_size

-- an element segment of a module has enough items
abbrev pub HasEnough : Config → ModuleParts → ElementSegment → Type 0
HasEnough config m segment = HasItems config m.types m.funcs segment.items

-- the module has no fewer items than the configuration requires
pub record MeetsMinimums (config : Config) (m : ModuleParts) : Type 0 where
  pub least : (count : Count) → MinimumApplies config count → minimum_of config count ≤ count_of m count
  pub elems : All (HasEnough config m) m.elems
