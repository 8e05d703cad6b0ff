-- The contents drawn after all definitions: exports, a start function, segments and bodies. Rules
-- of this project.
use Rattle.std.specs.Prelude.{◌≡◌, ℕ, ◌+◌, ◌-◌, ◌<◌, ◌≤◌, false, IsTrue, None, List, length, Result, Ok, Err, All}
use Rattle.std.specs.List.{flat_map}
use Rattle.wasm_smith.specs.Common.{AreExportsValid, Code, Config, Context, Definitions, EntitySpaces, Error, features_of, flattened}
use Rattle.wasm_smith.specs.Common.{imported_spaces, SubType, TableType}
use Rattle.smith_bytes.specs.declared.error.Error.TheVariants as errors
use Rattle.smith_bytes.specs.declared.error.Why.{Why}
use Rattle.smith_types.specs.Bodies.{IsBodyValid}
use Rattle.smith_types.specs.Exports.{IsStartValid}
use Rattle.smith_types.specs.Floats.{IsNoFloat, GivesNoFloat}
use Rattle.smith_types.specs.Segments.{IsElementSegmentValid, IsElementInside, IsDataValid, IsDataInside}
use Rattle.smith_types.specs.Syntax.segments.ElementSegment.{ElementSegment}
use Rattle.smith_config.specs.InUse.{FixesExports}
use Rattle.smith_config.specs.Granted.{IsGranted, HasGroundedItems, HasGroundedElements}
use Rattle.smith_draw_types.specs.Grounding.{without_globals}
use Rattle.smith_module_rules.specs.Held.{HasItems, expressions_of}
use Rattle.smith_module_rules.specs.ExportedItems.{AreAllExported, exported_size}
use Rattle.smith_draw_contents.specs.DataSegments.{data_at}
use Rattle.smith_draw_definitions.specs.Defined.{scope_in}
use Rattle.smith_draw_definitions.specs.Definitions.{global_scope}
use Rattle.smith_draw_contents.specs.DrawnBodies.{bodies_at}
use Rattle.smith_draw_contents.specs.ElementSegments.{all_element_segments_at, items_in}
use Rattle.smith_draw_contents.specs.Start.{start_at}
use Rattle.smith_draw_contents.specs.declared.exports_so_far.Exports.{Exports}
use Rattle.smith_bytes.specs.Steps.{◌>>=◌, section_flag_at}
use Rattle.wasm_smith.specs.declared.build.contents.Contents.{Contents}
use Rattle.smith_draw_imports.specs.declared.imports_so_far.Imported.{Imported}
use Rattle.wasm_smith.specs.declared.build.segments.Segments.{Segments}

-- the index spaces of imports
abbrev pub imported_in : Imported → EntitySpaces
imported_in imported = imported_spaces (flattened imported.groups)

-- the numbers of defined functions and globals determine the numbers of imported ones
pub record TellsImported (imported spaces : EntitySpaces) (defined : Definitions) : Type 0 where
  pub funcs : defined.num_funcs + length imported.funcs ≡ length spaces.funcs
  pub globals : length spaces.globals ≡ length imported.globals + length defined.globals

-- the context of a segment
abbrev pub segment_scope : Config → List SubType → EntitySpaces → EntitySpaces → Context
segment_scope config types imported spaces = global_scope config (scope_in types imported spaces) spaces.globals

-- the result of a step, whose reason becomes the error `IncorrectFormat`
abbrev pub in_full : {A : Type 0} → Result A Why → Result A Error
in_full (Ok drawn) = Ok drawn
in_full (Err why) = Err (errors.IncorrectFormat why)

-- the element segments, then the data segments
unfoldable pub all_segments_at : Config → List SubType → EntitySpaces → EntitySpaces → List ℕ → Result (Segments × List ℕ) Error
all_segments_at config types imported spaces bytes = do
  elems ← all_element_segments_at config (segment_scope config types imported spaces) spaces.tables bytes
  data_segments ← in_full (data_at config (segment_scope config types imported spaces) spaces.memories elems.1)
  Ok (record { elems = elems.0; data_segments = data_segments.0 }, data_segments.1)

-- the contents that the bytes give after the exports: the flag of the type section, a start
-- function, segments and bodies
unfoldable pub after_exports_at : Config → List SubType → EntitySpaces → EntitySpaces → Exports → List ℕ → Result (Contents × List ℕ) Error
after_exports_at config types imported spaces made bytes = do
  let type_flag = section_flag_at (length types) bytes
  let start = start_at config types spaces.funcs type_flag.1
  segments ← all_segments_at config types imported spaces start.1
  let code = bodies_at config (without_globals (segment_scope config types imported spaces)) (length spaces.funcs - length imported.funcs)
      segments.1
  Ok (
    record {
      exports = made.exports;
      type_size = made.type_size;
      encodes_types = type_flag.0;
      start = start.0;
      segments = segments.0;
      code = code.0;
    },
    code.1,
  )

-- exports are valid, and within the type size together with the imports. Unless a shape fixes them,
-- they are as the configuration requires; exports that a shape fixes add nothing to the type size.
pub record AreExportsMade (config : Config) (types : List SubType) (spaces : EntitySpaces) (imports_size : ℕ) (made : Exports)
    : Type 0 where
  pub valid : AreExportsValid spaces made.exports
  pub most : (FixesExports config → ⊥) → config.export_everything ≡ false → length made.exports ≤ config.max_exports
  pub least : (FixesExports config → ⊥) → config.export_everything ≡ false → config.min_exports ≤ length made.exports
  pub everything : (FixesExports config → ⊥) → IsTrue config.export_everything → AreAllExported spaces made.exports
  pub type_size : (FixesExports config → ⊥) → made.type_size ≡ imports_size + exported_size types spaces made.exports
  pub fixed_size : FixesExports config → made.type_size ≡ imports_size
  pub within : made.type_size ≤ config.max_type_size

-- segments are valid and within the minimums and maximums, and with `disallow_traps` active
-- segments are inside their tables and memories
pub record AreSegmentsFit (config : Config) (types : List SubType) (imported spaces : EntitySpaces) (segments : Segments) : Type 0 where
  pub elems : All (IsElementSegmentValid (segment_scope config types imported spaces) spaces.tables) segments.elems
  pub most_elems : length segments.elems ≤ config.max_element_segments
  pub least_elems : config.min_element_segments ≤ length segments.elems
  pub most_items : items_in segments.elems ≤ config.max_elements
  pub enough_items : All (λ (segment : ElementSegment). HasItems config types spaces.funcs segment.items) segments.elems
  pub elems_inside : IsTrue config.disallow_traps → All (IsElementInside spaces.tables) segments.elems
  pub data_segments : All (IsDataValid (segment_scope config types imported spaces) spaces.memories) segments.data_segments
  pub most_data : length segments.data_segments ≤ config.max_data_segments
  pub least_data : config.min_data_segments ≤ length segments.data_segments
  pub data_inside : IsTrue config.disallow_traps → All (IsDataInside spaces.memories) segments.data_segments

-- the contents of a module: exports, a type section if there are types, a valid start function if
-- one is allowed, segments, and a body for each defined function
pub record AreContents (config : Config) (types : List SubType) (imported spaces : EntitySpaces) (imports_size : ℕ)
    (contents : Contents) : Type 0 where
  pub exports : AreExportsMade config types spaces imports_size (record { exports = contents.exports; type_size = contents.type_size })
  pub encodes_types : 0 < length types → IsTrue contents.encodes_types
  pub start : IsStartValid types spaces.funcs contents.start
  pub no_start : config.allow_start_export ≡ false → contents.start ≡ None
  pub segments : AreSegmentsFit config types imported spaces contents.segments
  pub each_body : length contents.code + length imported.funcs ≡ length spaces.funcs
  pub bodies : All (IsBodyValid (features_of config) (length types) config.allow_invalid_funcs) contents.code

-- no item of an element segment is a float
abbrev pub HaveNoFloatItems : List ElementSegment → Type 0
HaveNoFloatItems segments = All (All GivesNoFloat) (flat_map (λ (segment : ElementSegment). expressions_of segment.items) segments)

-- the types of locals are granted, and if all tables have granted elements, so are the types of
-- segments
pub record HasGrantedContents (config : Config) (context : Context) (tables : List TableType) (contents : Contents) : Type 0 where
  pub items : All (HasGroundedElements config context) tables → All (HasGroundedItems config context) contents.segments.elems
  pub locals : All (IsGranted config context) (flat_map (λ (body : Code). body.locals) contents.code)

-- no item of a segment and no local of a body is a float
pub record HasNoFloatContents (contents : Contents) : Type 0 where
  pub items : HaveNoFloatItems contents.segments.elems
  pub locals : All IsNoFloat (flat_map (λ (body : Code). body.locals) contents.code)
