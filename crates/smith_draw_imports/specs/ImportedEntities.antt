-- The next imported entity, after the imports so far. Rules of this project.
use Rattle.std.specs.Prelude.{ℕ, ◌+◌, Bool, true, ◌&&◌, nat_lt, nat_le, Option, Some, None, List, [], ◌∷◌, length, sum_by, if◌then◌else◌}
use Rattle.std.specs.Option.{option_map_or}
use Rattle.smith_types.specs.Expressions.{Context}
use Rattle.smith_types.specs.Imports.{EntitySpaces}
use Rattle.smith_types.specs.Sizes.{size_in}
use Rattle.smith_types.specs.Syntax.composite_type.SubType.{SubType}
use Rattle.smith_types.specs.Syntax.entity_type.EntityType.{EntityType}
use Rattle.smith_types.specs.Syntax.entity_type.EntityType.TheVariants as entity
use Rattle.smith_types.specs.Syntax.entity_type.ExportKind.{ExportKind}
use Rattle.smith_types.specs.Syntax.entity_type.ExportKind.TheVariants as kind
use Rattle.smith_types.specs.Syntax.imports.Import.{Import}
use Rattle.smith_types.specs.Exports.{entity_kind}
use Rattle.smith_config.specs.declared.config.Config.{Config}
use Rattle.smith_config.specs.Features.{features_of}
use Rattle.smith_draw_types.specs.Choices.{enabled, chosen_at}
use Rattle.smith_draw_types.specs.Memories.{memtype_at}
use Rattle.smith_draw_types.specs.GlobalTypes.{global_type_at}
use Rattle.smith_draw_types.specs.TableTypes.{table_type_at}
use Rattle.smith_draw_types.specs.TypeUses.{types_for}
use Rattle.smith_draw_types.specs.declared.type_use.TypeUse.TheVariants as uses

-- whether index spaces have room for one more of a kind
abbrev pub has_room : Config → EntitySpaces → ExportKind → Bool
has_room config spaces kind.Tag = nat_lt (length spaces.tags) config.max_tags
has_room config spaces kind.Func = nat_lt (length spaces.funcs) config.max_funcs
has_room config spaces kind.Global = nat_lt (length spaces.globals) config.max_globals
has_room config spaces kind.Memory = nat_lt (length spaces.memories) config.max_memories
has_room config spaces kind.Table = nat_lt (length spaces.tables) config.max_tables

-- whether a kind may be imported over these types: a tag or a function requires a suitable type
abbrev pub may_import : Config → List SubType → ExportKind → Bool
may_import config types kind.Tag = config.exceptions_enabled && nat_lt 0 (length (types_for uses.Tag types))
may_import config types kind.Func = nat_lt 0 (length (types_for uses.ImportedFunc types))
may_import config types _ = true

-- a kind, and whether one more entity of it may be imported
abbrev pub kind_row : Config → List SubType → EntitySpaces → ExportKind → ExportKind × Bool
kind_row config types spaces of_kind = (of_kind, may_import config types of_kind && has_room config spaces of_kind)

-- the kinds in the order in which they are counted
abbrev pub kind_rows : Config → List SubType → EntitySpaces → List (ExportKind × Bool)
kind_rows config types spaces =
    kind_row config types spaces kind.Tag ∷ (kind_row config types spaces kind.Func
    ∷ (kind_row config types spaces kind.Global ∷
    (kind_row config types spaces kind.Memory ∷ (kind_row config types spaces kind.Table ∷ []))))

-- a kind of which one more entity may be imported, if any
unfoldable pub kind_at : Config → List SubType → EntitySpaces → List ℕ → Option ExportKind × List ℕ
kind_at config types spaces bytes =
    let offered = enabled (kind_rows config types spaces) in
    let chosen = chosen_at kind.Memory offered bytes in
    if nat_lt 0 (length offered) then (Some chosen.0, chosen.1) else (None, bytes)

-- the context in which an imported entity is drawn: types, and the functions imported so far
abbrev pub import_scope : Config → List SubType → EntitySpaces → Context
import_scope config types spaces = record {
  features = features_of config;
  types = types;
  funcs = spaces.funcs;
  globals = [];
  imported_funcs = length spaces.funcs;
  imported_globals = 0;
  visible = 0;
}

-- an entity of a kind
unfoldable pub entity_of_kind_at : Config → Context → ExportKind → List ℕ → EntityType × List ℕ
entity_of_kind_at config context kind.Tag bytes = let index = chosen_at 0 (types_for uses.Tag context.types) bytes in
    (entity.Tag index.0, index.1)
entity_of_kind_at config context kind.Func bytes = let index = chosen_at 0 (types_for uses.ImportedFunc context.types) bytes in
    (entity.Func index.0, index.1)
entity_of_kind_at config context kind.Global bytes = let global = global_type_at config context bytes in (entity.Global global.0, global.1)
entity_of_kind_at config context kind.Memory bytes = let memory = memtype_at config bytes in (entity.Memory memory.0, memory.1)
entity_of_kind_at config context kind.Table bytes = let table = table_type_at config context bytes in (entity.Table table.0, table.1)

-- what imports add to the type size: their sizes, and 1 for each
abbrev pub sizes : List SubType → List Import → ℕ
sizes types imports = sum_by (λ (one : Import). size_in types one.entity_type + 1) imports

-- whether an import of an entity fits after a type size
abbrev pub fits : Config → List SubType → ℕ → EntityType → Bool
fits config types size added = nat_le (size + (size_in types added + 1)) config.max_type_size

-- an entity of a kind with room, if there is such a kind and the entity fits
unfoldable pub entity_at : Config → List SubType → EntitySpaces → ℕ → List ℕ → Option EntityType × List ℕ
entity_at config types spaces size bytes =
    let chosen = kind_at config types spaces bytes in
    option_map_or
    (λ of_kind. let drawn = entity_of_kind_at config (import_scope config types spaces) of_kind chosen.1 in
    ((if fits config types size drawn.0 then Some drawn.0 else None), drawn.1))
    chosen.0 (None, chosen.1)

-- the same entity once more, if its kind has room and the entity fits
abbrev pub again : Config → List SubType → EntitySpaces → ℕ → EntityType → Option EntityType
again config types spaces size added = if has_room config spaces (entity_kind added) && fits config types size added then Some added else
    None
