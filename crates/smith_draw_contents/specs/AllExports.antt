-- The exports that are drawn if everything is exported. Rules of this project.
use Rattle.std.specs.Prelude.{ℕ, ◌+◌, nat_lt, List, [], ◌∷◌, ◌++◌, Result, Ok, Err, if◌then◌else◌}
use Rattle.smith_draw_contents.specs.Common.{Config, EntitySpaces, Export, exported_size, SubType, Why}
use Rattle.smith_bytes.specs.declared.error.Why.TheVariants.{TypeSize}
use Rattle.smith_module_rules.specs.ExportedItems.{every_item, Item}
use Rattle.smith_draw_contents.specs.Exporting.{export_name_at, free_exports_at}

-- exports of these items after others, each with a name; an error if imports and exports together
-- exceed the type size
unfoldable pub exports_of_items : Config → List SubType → EntitySpaces → ℕ → List Item → List Export → List ℕ
    → Result (List Export × List ℕ) Why
exports_of_items config types spaces imports [] exports bytes = Ok (exports, bytes)
exports_of_items config types spaces imports (item ∷ items) exports bytes =
    let name = export_name_at exports bytes in
    let more : List Export = exports ++ (name.0, item.0, item.1) ∷ [] in
    if nat_lt config.max_type_size (imports + exported_size types spaces more) then Err TypeSize
    else exports_of_items config types spaces imports items more name.1

-- the exports of all items
unfoldable pub everything_at : Config → List SubType → EntitySpaces → ℕ → List ℕ → Result (List Export × List ℕ) Why
everything_at config types spaces imports bytes = exports_of_items config types spaces imports (every_item spaces) [] bytes

-- the exports of a module whose imports add this amount to the type size: of all items with
-- `export_everything`, else freely drawn
unfoldable pub exports_at : Config → List SubType → EntitySpaces → ℕ → List ℕ → Result (List Export × List ℕ) Why
exports_at config types spaces imports bytes =
    if config.export_everything then everything_at config types spaces imports bytes
    else free_exports_at config types spaces imports bytes
