-- The names of other crates that three files or more of these cite.
pub use Rattle.smith_bytes.specs.Steps.{is_memory, Returns, ReturnsWhy}
pub use Rattle.smith_bytes.specs.declared.error.Count.{Count}
pub use Rattle.smith_bytes.specs.declared.error.Error.{Error}
pub use Rattle.smith_bytes.specs.declared.error.Which.{Which}
pub use Rattle.smith_bytes.specs.declared.error.Why.{Why}
pub use Rattle.smith_config.specs.Faults.{maximum_of, minimum_of, Passes}
pub use Rattle.smith_config.specs.Features.{features_of}
pub use Rattle.smith_config.specs.Granted.{HasGranted, HasGroundedElements, HasGroundedValue, IsGranted, IsUngrounded}
pub use Rattle.smith_config.specs.InUse.{FixesExports, FixesImports, HasNoShapes, shapes_of}
pub use Rattle.smith_config.specs.Sanitized.{IsSanitized}
pub use Rattle.smith_config.specs.Shapes.{IsShapeValid, shape_imports, shape_spaces, shape_types, space_of}
pub use Rattle.smith_config.specs.declared.config.Config.{Config}
pub use Rattle.smith_config.specs.declared.shape.Shape.{Shape}
pub use Rattle.smith_draw_consts.proofs.ConstStepLemmas.{passed_on}
pub use Rattle.smith_draw_contents.specs.Exported.{MayRefuseExports}
pub use Rattle.smith_draw_contents.specs.Exporting.{is_exported}
pub use Rattle.smith_draw_contents.specs.declared.exports_so_far.Exports.{Exports}
pub use Rattle.smith_draw_definitions.proofs.ExtensionLemmas.{all_kept}
pub use Rattle.smith_draw_definitions.proofs.StandsAfterLemmas.{defined_end}
pub use Rattle.smith_draw_definitions.specs.Defined.{drawn_beside, HasRoom, nothing_defined, StandsAfter}
pub use Rattle.smith_draw_definitions.specs.Required.{AddsLimitsOf}
pub use Rattle.smith_draw_definitions.specs.RequiredExports.{then_with}
pub use Rattle.smith_draw_definitions.specs.declared.definitions.Definitions.{Definitions}
pub use Rattle.smith_draw_imports.specs.Imported.{AreNumbersWithin, MayRefuseImports}
pub use Rattle.smith_draw_imports.specs.declared.imports_so_far.Imported.{Imported}
pub use Rattle.smith_draw_types.proofs.FilledLemmas.{ungrounded_before}
pub use Rattle.smith_draw_types.specs.HeldFields.{HoldsUngroundedField}
pub use Rattle.smith_module_rules.specs.Bounds.{items_of_export_shape, items_of_exports, items_of_module_shape, items_of_shapes}
pub use Rattle.smith_module_rules.specs.ExportedItems.{Export}
pub use Rattle.smith_module_rules.specs.InterestingValues.{HasInterestingValues}
pub use Rattle.smith_module_rules.specs.Module.{IsValid, module_features, module_imports, module_spaces, ModuleParts}
pub use Rattle.smith_module_rules.specs.Refusals.{AreShapesValid, AsksNothingImpossible, HoldsNonNullable, MayRefuse, shape_for}
pub use Rattle.smith_module_rules.specs.ShapeImports.{count_in}
pub use Rattle.smith_types.specs.Syntax.Features.{Features}
pub use Rattle.smith_types.specs.Syntax.composite_type.SubType.{SubType}
pub use Rattle.smith_types.specs.Syntax.const_instr.ConstInstr.{ConstInstr}
pub use Rattle.smith_types.specs.Syntax.const_instr.ConstInstr.TheVariants.{I32Const}
pub use Rattle.smith_types.specs.Syntax.entity_type.EntityType.{EntityType}
pub use Rattle.smith_types.specs.Syntax.entity_type.ExportKind.{ExportKind}
pub use Rattle.smith_types.specs.Syntax.entity_type.GlobalType.{GlobalType}
pub use Rattle.smith_types.specs.Syntax.entity_type.MemoryType.{MemoryType}
pub use Rattle.smith_types.specs.Syntax.entity_type.TableType.{TableType}
pub use Rattle.smith_types.specs.Syntax.imports.Import.{Import}
pub use Rattle.smith_types.specs.Syntax.segments.ElementSegment.{ElementSegment}
pub use Rattle.smith_types.specs.Syntax.value_type.ValType.{ValType}
pub use Rattle.smith_types.proofs.ExportGrowthLemmas.{AreExportsValid-grown}
pub use Rattle.smith_types.specs.Bodies.{IsCounterGlobal}
pub use Rattle.smith_types.specs.Entities.{IsFuncTypeIndex}
pub use Rattle.smith_types.specs.EntitySpaces.{spaces_in}
pub use Rattle.smith_types.specs.Expressions.{Context, IsConstExpr}
pub use Rattle.smith_types.specs.Floats.{HasNoFloat}
pub use Rattle.smith_types.specs.GroupedTypes.{GroupedTypes}
pub use Rattle.smith_types.specs.Grown.{AreSpacesGrown, Extends, IsContextGrown}
pub use Rattle.smith_types.specs.Imports.{EntitySpaces, flattened, imported_spaces}
pub use Rattle.smith_types.specs.ValidTypes.{AreTypesValid, values_of}
pub use Rattle.std.proofs.Common.{[], ap, arith, Bool, false, inl, inr, length, length-append, List, max, pos, refl, rules, subst, suc, sym}
pub use Rattle.std.proofs.Common.{true, zero, ℕ, ◌++◌, ◌+◌, ◌<◌, ◌^◌, ◌∙◌, ◌∷◌, ◌≡◌, ◌≤◌, ◌⊎◌}
pub use Rattle.std.proofs.lemmas.List.Elements.{All-append, All-cons, All-contains, All-nil, All-weaker, Contains-append_left}
pub use Rattle.std.proofs.lemmas.Result.{IfErr-weaker}
pub use Rattle.std.specs.List.{Contains}
pub use Rattle.std.specs.Prelude.{All, codes, Err, IfErr, IfSome, if◌then◌else◌, is_some, IsErrAnd, IsSome, IsSomeAnd, IsTrue, None, Ok}
pub use Rattle.std.specs.Prelude.{OnOk, Option, Result, slice_get, Some, sum_by}
