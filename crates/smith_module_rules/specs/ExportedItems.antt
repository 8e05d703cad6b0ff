-- Items of index spaces, and modules that export every item. Rules of this project.
use Rattle.std.specs.Prelude.{◌≡◌, ℕ, zero, suc, List, [], ◌∷◌, ◌++◌, length, map, ◌+◌, slice_get, sum_by}
use Rattle.std.specs.Option.{option_map, unwrap_or}
use Rattle.smith_module_rules.specs.Common.{EntitySpaces, EntityType, ExportKind, size_in, SubType}
use Rattle.smith_types.specs.Syntax.entity_type.ExportKind.TheVariants as kind
use Rattle.smith_types.specs.Syntax.entity_type.EntityType.TheVariants as entity
use Rattle.smith_types.specs.Exports.{IsEntityAt}

-- an item of an index space: its kind and its index
abbrev pub Item : Type 0
Item = ExportKind × ℕ

-- the item that an export refers to
abbrev pub item_of : List ℕ × ExportKind × ℕ → Item
item_of one = (one.1, one.2)

-- `count` items of a kind, by their indices from `start` on
abbrev pub numbered_from : ExportKind → ℕ → ℕ → List Item
numbered_from of_kind start zero = []
numbered_from of_kind start (suc count) = (of_kind, start) ∷ numbered_from of_kind (suc start) count

-- every function, table, memory, global and tag, in this order and by index
abbrev pub every_item : EntitySpaces → List Item
every_item spaces =
    numbered_from kind.Func 0 (length spaces.funcs)
    ++ (numbered_from kind.Table 0 (length spaces.tables)
    ++ (numbered_from kind.Memory 0 (length spaces.memories) ++ (numbered_from kind.Global 0 (length spaces.globals) ++ numbered_from
    kind.Tag 0 (length spaces.tags))))

-- each item is exported once, in this order
abbrev pub AreAllExported : EntitySpaces → List (List ℕ × ExportKind × ℕ) → Type 0
AreAllExported spaces exports = map item_of exports ≡ every_item spaces

-- an export: its name, and the kind and index of its item
abbrev pub Export : Type 0
Export = List ℕ × ExportKind × ℕ

-- what an export of an item adds to the type size: the size of a function, or else 1
abbrev pub item_size : List SubType → EntitySpaces → ExportKind → ℕ → ℕ
item_size types spaces kind.Func index = unwrap_or (option_map (λ func. size_in types (entity.Func func)) (slice_get spaces.funcs index)) 1
item_size types spaces _ index = 1

-- what exports add to the type size: the sizes of their items, and 1 for each
abbrev pub exported_size : List SubType → EntitySpaces → List Export → ℕ
exported_size types spaces exports = sum_by (λ (one : Export). item_size types spaces one.1 one.2 + 1) exports

-- an item exists in index spaces
abbrev pub IsStanding : EntitySpaces → ExportKind → ℕ → Type 0
IsStanding spaces of_kind index = (ty : EntityType) × IsEntityAt spaces of_kind index ty
