-- A module is without floats if the drawn parts are.
use Rattle.wasm_smith.proofs.Common.{[], All, All-append, All-nil, Config, ConstInstr, ElementSegment, GlobalType, HasNoFloat, List}
use Rattle.wasm_smith.proofs.Common.{SubType, values_of, ℕ, ◌++◌, ◌∷◌}
use Rattle.std.proofs.Common.{map}
use Rattle.std.specs.List.{flat_map, AllByRecursion as Each}
use Rattle.std.proofs.lemmas.List.Elements.{All-map, recursion_from_All}
use Rattle.smith_types.specs.Floats.{GivesNoFloat, IsNoFloat}
use Rattle.smith_types.specs.Syntax.code.Code.{Code}
use Rattle.wasm_smith.specs.Build.{parts_of}
use Rattle.wasm_smith.specs.DrawnParts.{HasNoFloatParts}
use Rattle.smith_module_rules.specs.Held.{expressions_of}
use Rattle.smith_module_rules.specs.Promises.{HasNoFloats, initial_of}
use Rattle.wasm_smith.specs.declared.build.parts_so_far.PartsSoFar.{PartsSoFar}

of_types : (types : List SubType) → Each HasNoFloat types
    → All IsNoFloat (flat_map (λ (t : SubType). values_of t.composite_type.inner) types)
of_types [] each = All-nil IsNoFloat
of_types (t ∷ types) each =
    All-append IsNoFloat (values_of t.composite_type.inner) (flat_map (λ (t : SubType). values_of t.composite_type.inner) types) each.0
    (of_types types each.1)

pub no_floats_drawn : (config : Config) (drawn : PartsSoFar) → HasNoFloatParts drawn → HasNoFloats (parts_of config drawn)
no_floats_drawn config drawn h =
    let types = flat_map (λ (t : SubType). values_of t.composite_type.inner) drawn.types.types in
    let globals = map (λ (global : GlobalType). global.val_type) drawn.imported.spaces.globals in
    let locals = flat_map (λ (body : Code). body.locals) drawn.contents.code in
    let tables = flat_map initial_of drawn.definitions.tables in
    let initials = map (λ (one : ℕ × List ConstInstr). one.1) drawn.definitions.globals in
    let items = flat_map (λ (segment : ElementSegment). expressions_of segment.items) drawn.contents.segments.elems in
    record {
      values = All-append IsNoFloat types (globals ++ locals)
          (of_types drawn.types.types (recursion_from_All HasNoFloat drawn.types.types h.types))
          (All-append IsNoFloat globals locals (All-map IsNoFloat (λ (global : GlobalType). global.val_type) drawn.imported.spaces.globals
          h.defined.globals) h.contents.locals);
      constants = All-append (All GivesNoFloat) tables (initials ++ items) h.defined.tables
          (All-append (All GivesNoFloat) initials items h.defined.initials h.contents.items);
    }
