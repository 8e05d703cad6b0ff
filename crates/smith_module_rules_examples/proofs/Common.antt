-- The names that these proofs cite, passed on from one place.
pub use Rattle.std.proofs.Common.{[], ap, arith, false, inl, inr, length, List, negsuc, None, pos, refl, rules, Some, subst, suc, sym, true}
pub use Rattle.std.proofs.Common.{zero, ℕ, ◌*◌, ◌++◌, ◌+◌, ◌<◌, ◌^◌, ◌∙◌, ◌∷◌, ◌≡◌, ◌≤◌, ◌⊎◌}
pub use Rattle.std.proofs.lemmas.Grind.{common_steps}
pub use Rattle.std.proofs.lemmas.List.Elements.{All-cons, All-from_recursion, All-head, All-nil, All-replicate}
pub use Rattle.std.proofs.lemmas.List.Folds.{list_any-from_Any}
pub use Rattle.std.proofs.lemmas.Option.{same_Some}
pub use Rattle.std.specs.List.{All, Any, Contains, list_any}
pub use Rattle.std.specs.List.Sorted.{IsStrictlyIncreasing}
pub use Rattle.std.specs.Prelude.{codes, IsTrue, nat_eq, slice_get, slice_index_or}
pub use Rattle.std.specs.declared.ops.Range.{Range}
pub use Rattle.smith_bytes.specs.declared.error.ConfigFault.{ConfigFault}
pub use Rattle.smith_bytes.specs.declared.error.ConfigFault.TheVariants.{MinAboveMax}
pub use Rattle.smith_bytes.specs.declared.error.Which.TheVariants.{ModuleShape}
pub use Rattle.smith_config.specs.Config.{default_config}
pub use Rattle.smith_config.specs.EntityBounds.{IsMemoryWithin, IsTableWithin}
pub use Rattle.smith_config.specs.ExampleMembers.{a_type, bytes_array, final, foo_type, plain_function, quux_type, taking, taking_a_number}
pub use Rattle.smith_config.specs.Features.{features_of}
pub use Rattle.smith_config.specs.Granted.{HasGroundedItems, IsGranted}
pub use Rattle.smith_config.specs.InUse.{FixesExports, FixesImports}
pub use Rattle.smith_config.specs.Shapes.{shape_spaces, shape_types}
pub use Rattle.smith_config.specs.declared.config.Config.{Config}
pub use Rattle.smith_config.specs.declared.shape.Shape.{Shape}
pub use Rattle.smith_module_rules.specs.Bounds.{HasEnough}
pub use Rattle.smith_module_rules.specs.InterestingValues.{bytes_of, float_edges, IsInteresting64, IsNearMemory, IsNearPower, IsNearTable}
pub use Rattle.smith_module_rules.specs.Module.{AreDefinitionsValid, global_context, IsGlobalDefined, IsTableDefined, IsValid}
pub use Rattle.smith_module_rules.specs.Module.{module_context, module_features, module_imports, module_spaces, module_types, ModuleParts}
pub use Rattle.smith_module_rules.specs.Module.{segment_context, table_context}
pub use Rattle.smith_module_rules.specs.Promises.{HasDistinctImports, HoldsGranted, IsInside}
pub use Rattle.smith_module_rules.specs.Refusals.{HoldsNonNullable}
unfoldable pub use Rattle.smith_module_rules.specs.ShapeImports.{is_fitting}
pub use Rattle.smith_module_rules.specs.ShapesKept.{IsSameExport, IsSameFuncType, IsSameType, KeepsAvailableImports, KeepsExports}
pub use Rattle.smith_module_rules_examples.specs.ExampleGiven.{counting_after, counting_fuel, counting_once, exported_number, last_byte}
pub use Rattle.smith_module_rules_examples.specs.ExampleGiven.{null_table, raw_bytes, sixty_elements, three_numbers, without_gc}
pub use Rattle.smith_module_rules_examples.specs.ExampleModules.{arrays, elements_asked_for, exported_twice, filled_table, group_of}
pub use Rattle.smith_module_rules_examples.specs.ExampleModules.{named_imports, null_of_no_null, one_data_segment, one_function, one_memory}
pub use Rattle.smith_module_rules_examples.specs.ExampleModules.{one_number, one_of_each, one_table, one_tag, passive_bytes, referring_to}
pub use Rattle.smith_module_rules_examples.specs.ExampleModules.{table_after, table_from_a_number, table_from_import, three_arrays}
pub use Rattle.smith_module_rules_examples.specs.ExampleModules.{two_elements, two_exports, two_imports, types_together}
pub use Rattle.smith_module_rules_examples.specs.ExampleParts.{active_data, global, into_a_table, memory, no_function, number}
pub use Rattle.smith_module_rules_examples.specs.ExampleParts.{passive_elements, shared_memory, table}
pub use Rattle.smith_module_rules_examples.specs.ExampleReferences.{holding_reference, imported_read, refers_to_function, with_references}
pub use Rattle.smith_module_rules_examples.specs.ExampleShapes.{empty_shape, environment, equal_types, exported, exporting, five_exports}
pub use Rattle.smith_module_rules_examples.specs.ExampleShapes.{for_exports, for_module, memories_in_and_out, of_equal_types}
pub use Rattle.smith_module_rules_examples.specs.ExampleShapes.{with_environment}
pub use Rattle.smith_types.proofs.ConstStepLemmas.{number_given}
pub use Rattle.smith_types.proofs.EachPlaceLemmas.{distinct_alone, each_place, EachFrom}
pub use Rattle.smith_types.proofs.GroundedLemmas.{grounded_at}
pub use Rattle.smith_types.proofs.GrowthLemmas.{IsRefBelow-refl}
pub use Rattle.smith_types.proofs.PathLemmas.{below_kind}
pub use Rattle.smith_types.proofs.WalkLemmas.{by_cases_from_below, concrete_not_below_exact}
pub use Rattle.smith_types.specs.Bodies.{IsBodyValid}
pub use Rattle.smith_types.specs.Entities.{IsFuncAt, IsFuncTypeIndex, IsGlobalValid, IsMemoryValid, IsTableValid, IsTagValid, page_log2}
pub use Rattle.smith_types.specs.ExampleTypes.{anyref, empty_struct, eqref, not_null, nullable, plain}
pub use Rattle.smith_types.specs.Exports.{AreDistinct, AreExportsValid, IsEntityAt, IsStartValid}
pub use Rattle.smith_types.specs.Expressions.{Context, HasType, IsConstExpr, IsVisible, reference_to}
pub use Rattle.smith_types.specs.Syntax.Features.{Features}
pub use Rattle.smith_types.specs.Flags.{funcref, IsInstrEnabled}
pub use Rattle.smith_types.specs.Floats.{GivesNoFloat}
pub use Rattle.smith_types.specs.Grounded.{IsGrounded}
pub use Rattle.smith_types.specs.Imports.{IsImportsValid}
pub use Rattle.smith_types.specs.Syntax.Kinds.{shared}
pub use Rattle.smith_types.specs.Segments.{IsDataInside, IsDataValid, IsElementInside, IsElementSegmentValid, IsItem}
pub use Rattle.smith_types.specs.Subtyping.{IsRefBelow, IsValBelow, itself}
pub use Rattle.smith_types.specs.ValidTypes.{AreTypesValid, IsGroupValid, IsSupertypeValid, IsTypeValid, IsValTypeValid}
pub use Rattle.smith_types.specs.Syntax.composite_type.CompositeInnerType.{CompositeInnerType}
pub use Rattle.smith_types.specs.Syntax.composite_type.SubType.{SubType}
pub use Rattle.smith_types.specs.Syntax.const_instr.ConstInstr.{ConstInstr}
pub use Rattle.smith_types.specs.Syntax.const_instr.ConstInstr.TheVariants.{F32Const, F64Const, GlobalGet, I32Const, RefFunc, RefNull}
pub use Rattle.smith_types.specs.Syntax.entity_type.EntityType.{EntityType}
pub use Rattle.smith_types.specs.Syntax.entity_type.ExportKind.{ExportKind}
pub use Rattle.smith_types.specs.Syntax.entity_type.GlobalType.{GlobalType}
pub use Rattle.smith_types.specs.Syntax.entity_type.MemoryType.{MemoryType}
pub use Rattle.smith_types.specs.Syntax.entity_type.TableType.{TableType}
pub use Rattle.smith_types.specs.Syntax.imports.Imports.TheVariants.{Compact2}
pub use Rattle.smith_types.specs.Syntax.segments.Elements.TheVariants.{Expressions}
pub use Rattle.smith_types.specs.Syntax.segments.Offset.TheVariants.{Const32, Global}
pub use Rattle.smith_types.specs.Syntax.value_type.HeapType.TheVariants.{Concrete, Exact}
pub use Rattle.smith_types.specs.Syntax.value_type.ValType.{ValType}
pub use Rattle.smith_types.specs.Syntax.value_type.ValType.TheVariants.{F32, I32, I64, Ref}
