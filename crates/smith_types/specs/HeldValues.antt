-- The value types in types, tables and globals.
use Rattle.std.specs.Prelude.{List, ◌++◌, map}
use Rattle.smith_types.specs.Common.{flat_map, GlobalType, Ref, SubType, TableType, ValType}
use Rattle.smith_types.specs.ValidTypes.{values_of}
use Rattle.smith_types.specs.Imports.{EntitySpaces}

-- the value types in types, tables and globals, in this order (Structure, Types)
abbrev pub values_in : List SubType → EntitySpaces → List ValType
values_in types spaces =
    flat_map (λ (t : SubType). values_of t.composite_type.inner) types
    ++ (map (λ (table : TableType). Ref table.element_type) spaces.tables ++ map (λ (global : GlobalType). global.val_type) spaces.globals)
