-- A module holds no ungrounded non-nullable reference if the drawn parts hold none.
use Rattle.wasm_smith.proofs.Common.{All-weaker, Config, Context, ElementSegment, IsGranted, IsUngrounded, ModuleParts, spaces_in, subst}
use Rattle.wasm_smith.proofs.Common.{ValType, ℕ}
use Rattle.std.specs.List.{flat_map}
use Rattle.smith_types.specs.Grounded.{IsGrounded}
use Rattle.smith_types.specs.Syntax.code.Code.{Code}
use Rattle.smith_types.specs.Syntax.value_type.ValType.TheVariants as vals
use Rattle.smith_validity.proofs.HeldValueLemmas.{all_values_joined}
use Rattle.smith_config.specs.Granted.{HasGroundedItems}
use Rattle.smith_module_rules.specs.Module.{module_context}
use Rattle.smith_module_rules.specs.Promises.{HasGrantedLocals, HoldsGranted}
use Rattle.smith_draw_definitions.proofs.StandsAfterLemmas.{left_over}
use Rattle.wasm_smith.specs.FirstParts.{StandsWhole}
use Rattle.wasm_smith.specs.Build.{parts_of}
use Rattle.wasm_smith.specs.DrawnContents.{HasGrantedContents}
use Rattle.wasm_smith.specs.DrawnSteps.{HoldsGrounded, drawn_next}
use Rattle.wasm_smith.specs.declared.build.parts_so_far.PartsSoFar.{PartsSoFar}
use Rattle.wasm_smith.proofs.GrantedLaterLemmas.{elements_later, globals_later, types_later, value_later}

module _ (config : Config) (drawn : PartsSoFar) (whole : StandsWhole config drawn) where
  abbrev m : ModuleParts
  m = parts_of config drawn

  abbrev before : Context
  before = drawn_next config drawn

  abbrev context : Context
  context = module_context m

  -- entities that are not defined are imported, and globals ground nothing
  was_ungrounded : (value : ValType) → IsUngrounded config context value → IsUngrounded config before value
  was_ungrounded (vals.Ref reference) (not_null, none) = (
    not_null,
    λ on grounded. none on (subst (λ (imported : ℕ). IsGrounded (record context { imported_funcs = imported }) reference.heap_type)
        (left_over whole.stands.funcs) grounded),
  )
  was_ungrounded vals.I32 never = never
  was_ungrounded vals.I64 never = never
  was_ungrounded vals.F32 never = never
  was_ungrounded vals.F64 never = never
  was_ungrounded vals.V128 never = never

  module _ (contents : HasGrantedContents config before drawn.imported.spaces.tables drawn.contents) where
    pub locals_drawn : HasGrantedLocals config m
    locals_drawn = All-weaker (IsGranted config before) (IsGranted config context) (value_later config before context was_ungrounded)
        (flat_map (λ (body : Code). body.locals) drawn.contents.code) contents.locals

    pub granted_drawn : HoldsGrounded config before (spaces_in drawn.imported.spaces) → HoldsGranted config m
    granted_drawn held = record {
      values = all_values_joined (IsGranted config context) drawn.types.types (spaces_in drawn.imported.spaces)
          (types_later config before context was_ungrounded drawn.types.types held.types)
          (elements_later config before context was_ungrounded drawn.imported.spaces.tables held.element_types)
          (globals_later config before context was_ungrounded drawn.imported.spaces.globals held.globals);
      elems = All-weaker (HasGroundedItems config before) (HasGroundedItems config context)
          (λ (segment : ElementSegment). value_later config before context was_ungrounded (vals.Ref segment.ty))
          drawn.contents.segments.elems (contents.items held.element_types);
    }
