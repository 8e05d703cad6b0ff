-- The names that these proofs cite, passed on from one place.
pub use Rattle.std.proofs.Common.{[], ap, arith, drop, false, inl, inr, IsTrue, length, length-append, List, None, Option, refl, rules}
pub use Rattle.std.proofs.Common.{Some, subst, suc, sym, take, true, zero, ℕ, ◌++◌, ◌+◌, ◌<◌, ◌^◌, ◌∙◌, ◌∷◌, ◌≡◌, ◌≤◌, ◌⊎◌}
pub use Rattle.std.proofs.lemmas.Grind.{common_steps}
pub use Rattle.std.proofs.lemmas.List.Elements.{All-cons, All-from_recursion, All-head, All-nil, All-push}
pub use Rattle.std.proofs.lemmas.Option.{same_Some, slice_get_within}
pub use Rattle.std.specs.List.{All}
pub use Rattle.std.specs.Prelude.{codes, slice_get}
unfoldable pub use Rattle.smith_bytes.specs.Draws.{bool_at, digit_count, range_at}
pub use Rattle.smith_bytes.specs.declared.error.ShapeFault.{ShapeFault}
pub use Rattle.smith_bytes.specs.declared.error.ShapeFault.TheVariants.{BadType, Index}
pub use Rattle.smith_bytes.specs.declared.error.Which.TheVariants.{ModuleShape}
pub use Rattle.smith_config.proofs.FirstFaultLemmas.{first_bad_type, first_too_long}
unfoldable pub use Rattle.smith_config.specs.Arbitrary.{config_at, instruction_kinds_at, maximums_at, proposals_at, rules_at, sizes_at}
pub use Rattle.smith_config.specs.Config.{default_config}
pub use Rattle.smith_config.specs.ExampleShapes.{before, chain, empty_shape, exported_table, memory_passed_on, of_types, one_of_each_kind}
pub use Rattle.smith_config.specs.ExampleShapes.{passed_on}
pub use Rattle.smith_config.specs.Faults.{faults, HasFault}
pub use Rattle.smith_config.specs.Features.{features_of}
pub use Rattle.smith_config.specs.ShapeFaults.{AreTypesRight, HasShapeFault, shape_faults}
pub use Rattle.smith_config.specs.Shapes.{HasNothingLeftOut, IsConsistent, IsInnerShort, IsPlain, IsShallow, IsShort, IsValTypeIncluded}
pub use Rattle.smith_config.specs.Shapes.{shape_spaces, space_of}
pub use Rattle.smith_config.specs.declared.config.Config.{Config}
pub use Rattle.smith_config.specs.declared.shape.Shape.{Shape}
pub use Rattle.smith_types.proofs.ListLemmas.{slice_get-grown, slice_get-last}
pub use Rattle.smith_types.proofs.SpaceLemmas.{HasDepth-le, IsOrderly-push}
pub use Rattle.smith_types.proofs.ValidityLemmas.{AreTypesValid-single, no_types}
pub use Rattle.smith_types.specs.Entities.{AreEntitiesValid, AreLimitsValid, IsFuncTypeIndex, IsGlobalValid, IsMemoryValid, IsTableValid}
pub use Rattle.smith_types.specs.Entities.{IsTagValid}
pub use Rattle.smith_types.specs.ExampleEntities.{constant_global, memory, table}
pub use Rattle.smith_types.specs.ExampleTypes.{anyref, constant, empty_struct, final_type, func, giving, nullable, open_type, plain}
pub use Rattle.smith_types.specs.ExampleTypes.{plain_func, range, referring_type, shared_type, struct, taking}
pub use Rattle.smith_types.specs.Exports.{AreDistinct, AreExportsStanding, AreExportsValid, IsEntityAt}
pub use Rattle.smith_types.specs.Syntax.Features.{every_feature, Features}
pub use Rattle.smith_types.specs.Flags.{funcref}
pub use Rattle.smith_types.specs.GroupedTypes.{deeper, HasDepth, root}
pub use Rattle.smith_types.specs.Imports.{EntitySpaces}
unfoldable pub use Rattle.smith_types.specs.Syntax.Instructions.{with_kind}
pub use Rattle.smith_types.specs.Types.{IsAlike, IsOrderly}
pub use Rattle.smith_types.specs.ValidTypes.{AreTypesValid, IsGroupValid, IsShareable, IsTypeValid, IsValTypeValid}
pub use Rattle.smith_types.specs.Syntax.composite_type.CompositeInnerType.TheVariants.{Func}
pub use Rattle.smith_types.specs.Syntax.composite_type.StorageType.TheVariants.{Val}
pub use Rattle.smith_types.specs.Syntax.composite_type.SubType.{SubType}
pub use Rattle.smith_types.specs.Syntax.entity_type.EntityType.{EntityType}
pub use Rattle.smith_types.specs.Syntax.entity_type.ExportKind.{ExportKind}
pub use Rattle.smith_types.specs.Syntax.entity_type.GlobalType.{GlobalType}
pub use Rattle.smith_types.specs.Syntax.entity_type.MemoryType.{MemoryType}
pub use Rattle.smith_types.specs.Syntax.entity_type.TableType.{TableType}
pub use Rattle.smith_types.specs.Syntax.value_type.ValType.TheVariants.{F32, I32, I64, V128}
pub use Rattle.smith_types_examples.proofs.TypeExamples.{referring_after}
