-- More may be drawn over the parts after entities are defined after imports, and defining is
-- refused only as a module may be.
use Rattle.wasm_smith.proofs.Common.{[], All, all_kept, AreShapesValid, arith, Config, Context, Count, count_in, defined_end, Definitions}
use Rattle.wasm_smith.proofs.Common.{drawn_beside, EntitySpaces, Err, Error, flattened, HasGroundedElements, HasGroundedValue, HasNoFloat}
use Rattle.wasm_smith.proofs.Common.{HasRoom, HoldsNonNullable, HoldsUngroundedField, imported_spaces, inl, inr, IsContextGrown}
use Rattle.wasm_smith.proofs.Common.{IsSanitized, MayRefuse, minimum_of, Ok, OnOk, Passes, refl, Result, spaces_in, subst, sym}
use Rattle.wasm_smith.proofs.Common.{ungrounded_before, ℕ, ◌^◌, ◌≡◌, ◌≤◌}
use Rattle.std.specs.Prelude.{false}
use Rattle.smith_bytes.specs.declared.error.Count.TheVariants as counts
use Rattle.smith_types.specs.declared.entity_spaces.EntitySpaces.{EntitySpaces as Held}
use Rattle.smith_draw_types.proofs.FilledLemmas.{fields_before}
use Rattle.wasm_smith.specs.FirstParts.{IsOfEntities, StandsSoFar}
use Rattle.smith_draw_definitions.specs.Defined.{AreDefinedMore, AreFilled, HaveNoFloats, MayDefine, MayRefuseDefined}
use Rattle.wasm_smith.specs.DrawnSteps.{AreEntitiesDrawn, AreImportsDrawn, HoldsGrounded, MayGoOn, drawn_next}
use Rattle.wasm_smith.specs.declared.build.parts_so_far.PartsSoFar.{PartsSoFar}
use Rattle.wasm_smith.proofs.ShapeItemLemmas.{few_items_of_shapes}
use Rattle.smith_draw_definitions.proofs.DefinedLemmas.{all_after}
use Rattle.smith_draw_definitions.proofs.DefinedGrowthLemmas.{filled_grown, may_define_after}
use Rattle.wasm_smith.proofs.ExportsGrownLemmas.{exports_grown}
use Rattle.wasm_smith.proofs.GrantedLaterLemmas.{elements_later, globals_later, types_later}
use Rattle.wasm_smith.proofs.NonNullableLemmas.{holds_or_not}
use Rattle.wasm_smith.proofs.StandsDefinedLemmas.{stands_defined}

-- the indices of all existing entities have 32 bits, even with as many more as a shape may list
pub room_so_far : (config : Config) (drawn : PartsSoFar) (more : ℕ) → Passes config → AreShapesValid config → StandsSoFar config drawn
    → more ≤ 2 ^ 29 → HasRoom (spaces_in drawn.imported.spaces) more
room_so_far config drawn more passes valid now few = record {
  tags = omega (arith, few, now.most counts.Tags tt, passes.few counts.Tags, few_items_of_shapes config valid counts.Tags);
  funcs = omega (arith, few, now.most counts.Funcs tt, passes.few counts.Funcs, few_items_of_shapes config valid counts.Funcs);
  tables = omega (arith, few, now.most counts.Tables tt, passes.few counts.Tables, few_items_of_shapes config valid counts.Tables);
  memories = omega (arith, few, now.most counts.Memories tt, passes.few counts.Memories, few_items_of_shapes config valid counts.Memories);
  globals = omega (arith, few, now.most counts.Globals tt, passes.few counts.Globals, few_items_of_shapes config valid counts.Globals);
}

-- entities may be defined after imports
pub may_define_drawn : (config : Config) (drawn : PartsSoFar) → Passes config → IsSanitized config → AreShapesValid config
    → AreImportsDrawn config drawn → MayDefine config drawn.types (spaces_in drawn.imported.spaces) drawn.definitions
may_define_drawn config drawn passes sanitized valid so_far =
    let now : StandsSoFar config drawn = so_far.may.so_far in
    may_define_after passes sanitized so_far.may.least_types
    (omega (arith, now.most_types, passes.few counts.Types, few_items_of_shapes config valid counts.Types))
    (room_so_far config drawn 0 passes valid now (omega arith)) now.stands

at_least : (config : Config) (before spaces : EntitySpaces) → AreFilled config before spaces → (count : Count) → IsOfEntities count
    → minimum_of config count ≤ count_in spaces count
at_least config before spaces filled counts.Tags is = filled.tags.enough
at_least config before spaces filled counts.Funcs is = filled.funcs.enough
at_least config before spaces filled counts.Tables is = filled.tables.enough
at_least config before spaces filled counts.Memories is = filled.memories.enough
at_least config before spaces filled counts.Globals is = filled.globals.enough
at_least config before spaces filled _ is = absurd is

-- grounded references stay grounded after entities are defined
grounded_later : (config : Config) (drawn : PartsSoFar) (spaces : Held) (defined : Definitions) → StandsSoFar config drawn
    → AreDefinedMore config drawn.types (spaces_in drawn.imported.spaces) drawn.definitions (spaces_in spaces) defined
    → HoldsGrounded config (drawn_next config drawn) (spaces_in drawn.imported.spaces)
    → HoldsGrounded config (drawn_beside config drawn.types.types (spaces_in spaces) defined) (spaces_in spaces)
grounded_later config drawn spaces defined now made old =
    let before = drawn_next config drawn in
    let later = drawn_beside config drawn.types.types (spaces_in spaces) defined in
    let stands = made.stands (imported_spaces (flattened drawn.imported.groups)) now.stands in
    let growth : IsContextGrown before later = record {
      features = refl;
      types = all_kept drawn.types.types;
      funcs = made.filled.funcs.extends;
      globals = all_kept [];
      imported_funcs = omega (arith, defined_end stands.funcs, defined_end now.stands.funcs);
      imported_globals = refl;
      visible = omega arith;
    } in
    let was = ungrounded_before config before later growth in
    record {
      fields = λ lacks. old.fields (fields_before config before later growth refl lacks);
      types = types_later config before later was drawn.types.types old.types;
      element_types = all_after (HasGroundedElements config later) (elements_later config before later was drawn.imported.spaces.tables
          old.element_types) made.grounded_tables;
      globals = all_after (HasGroundedValue config later) (globals_later config before later was drawn.imported.spaces.globals old.globals)
          made.grounded_globals;
    }

-- the state after entities are defined
pub entities_drawn : {X : Type 0} (r : Result X Error) (config : Config) (drawn : PartsSoFar) (spaces : Held) (defined : Definitions)
    → AreImportsDrawn config drawn
    → OnOk r (AreDefinedMore config drawn.types (spaces_in drawn.imported.spaces) drawn.definitions (spaces_in spaces) defined)
    → (config.allow_floats ≡ false → All HasNoFloat drawn.types.types → HaveNoFloats (spaces_in drawn.imported.spaces) drawn.definitions
    → OnOk r (HaveNoFloats (spaces_in spaces) defined))
    → OnOk r (AreEntitiesDrawn config (record drawn { imported = record drawn.imported { spaces = spaces }; definitions = defined }))
entities_drawn (Ok x) config drawn spaces defined so_far made floats =
    let may : MayGoOn config drawn = so_far.may in
    record {
      may = record {
        so_far = stands_defined config drawn spaces defined may.so_far made;
        few_values = may.few_values;
        grounded = λ none. grounded_later config drawn spaces defined may.so_far made (may.grounded none);
        exports = exports_grown (spaces_in drawn.imported.spaces) (spaces_in spaces) drawn.contents.exports (filled_grown made.filled)
            may.exports;
        least_types = may.least_types;
      };
      least = at_least config (spaces_in drawn.imported.spaces) (spaces_in spaces) made.filled;
      small = λ none. let old = so_far.small none in record { types = old.types; imports = old.imports };
      floats = λ off none. let old = so_far.floats off none in record { types = old.types; defined = floats off old.types old.defined };
    }
entities_drawn (Err e) config drawn spaces defined so_far made floats = tt

-- if no field is ungrounded, unless a shape holds a non-nullable reference, definitions are refused
-- as a module may be
pub defined_refuse : (config : Config) (context : Context) (e : Error)
    → ((HoldsNonNullable config → ⊥) → HoldsUngroundedField config context → ⊥) → MayRefuseDefined config context e → MayRefuse config e
defined_refuse config context e grounded (inl refused) = refused
defined_refuse config context e grounded (inr (inl memory)) = subst (MayRefuse config) (sym memory) tt
defined_refuse config context e grounded (inr (inr (empty, lacking))) = subst (MayRefuse config) (sym empty)
    (elim (holds_or_not config) [ inl holds ↦ holds | inr none ↦ absurd (grounded none lacking) ])
