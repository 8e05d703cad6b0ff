-- The names that these proofs cite, passed on from one place.
pub use Rattle.std.proofs.Common.{[], ap, arith, inr, length, length-append, List, refl, rules, subst, sym, ℕ, ◌++◌, ◌<◌, ◌∷◌, ◌≡◌}
pub use Rattle.std.proofs.lemmas.Grind.{common_steps}
pub use Rattle.std.proofs.lemmas.List.Elements.{All-from_recursion}
unfoldable pub use Rattle.std.specs.Fmt.{digits}
pub use Rattle.std.specs.Prelude.{IfSome, IsSomeAnd, IsTrue, None, Option, slice_get, Some}
unfoldable pub use Rattle.std.specs.Str.{chars, is_utf8}
unfoldable pub use Rattle.std.specs.Str.Lossy.{utf8_valid_len}
unfoldable pub use Rattle.smith_bytes.specs.Draws.{bool_at, digit_count, len_at, range_at, whole_at}
unfoldable pub use Rattle.smith_bytes.specs.Growth.{grow_at}
unfoldable pub use Rattle.smith_bytes.specs.Names.{new_name, text_at}
unfoldable pub use Rattle.smith_bytes.specs.Spelling.{Listed}
unfoldable pub use Rattle.smith_bytes.specs.Steps.{section_flag_at}
pub use Rattle.smith_bytes.specs.declared.error.Error.{Error}
pub use Rattle.smith_bytes.specs.declared.error.Error.TheVariants.{EmptyChoose, Memory}
pub use Rattle.smith_bytes.specs.declared.error.ShapeFault.{ShapeFault}
pub use Rattle.smith_bytes.specs.declared.error.ShapeFault.TheVariants.{BadType, DuplicateExport}
pub use Rattle.smith_bytes.specs.declared.error.Which.{Which}
pub use Rattle.smith_bytes.specs.declared.error.Which.TheVariants.{AvailableImports, Exports, ModuleShape}
pub use Rattle.smith_config.proofs.FirstFaultLemmas.{first_bad_type}
pub use Rattle.smith_config.proofs.ShapeLemmas.{no_fault}
pub use Rattle.smith_config.specs.Config.{default_config}
pub use Rattle.smith_config.specs.ExampleMembers.{function_bytes, one_function_type}
pub use Rattle.smith_config.specs.ShapeFaults.{AreTypesRight, IsFirstShapeFault, IsRefused}
pub use Rattle.smith_config.specs.Shapes.{IsShapeValid, IsShort}
pub use Rattle.smith_config.specs.declared.config.Config.{Config}
pub use Rattle.smith_config.specs.declared.shape.Shape.{Shape}
unfoldable pub use Rattle.smith_draw_contents.specs.AllExports.{everything_at, exports_at, exports_of_items}
unfoldable pub use Rattle.smith_draw_contents.specs.DataSegments.{counting_at, data_at, data_segments_at}
unfoldable pub use Rattle.smith_draw_consts.specs.TriedLists.{try_grow_at}
unfoldable pub use Rattle.smith_draw_contents.specs.DrawnBodies.{bodies_at}
unfoldable pub use Rattle.smith_draw_contents.specs.ElementSegments.{
  element_kinds_at,
  element_segments_at,
  all_element_segments_at,
  table_kinds_at,
}
unfoldable pub use Rattle.smith_draw_contents.specs.Exporting.{export_at, export_name_at, exports_from, free_exports_at}
unfoldable pub use Rattle.smith_draw_contents.specs.Start.{start_at, start_wanted_at}
unfoldable pub use Rattle.smith_draw_definitions.specs.Definitions.{
  definitions_at,
  funcs_at,
  globals_at,
  items_defined_at,
  items_tried_at,
  memories_at,
  tables_at,
  tags_at,
  type_indices_at,
}
unfoldable pub use Rattle.smith_draw_types.specs.Choices.{chosen_at}
unfoldable pub use Rattle.smith_draw_types.specs.CompositeTypes.{composite_type_at, func_type_at, val_types_at}
unfoldable pub use Rattle.smith_draw_types.specs.GlobalTypes.{global_type_at}
unfoldable pub use Rattle.smith_draw_types.specs.RecGroups.{
  least_types_at,
  more_types_at,
  new_group_at,
  rec_group_at,
  types_at,
  types_until_at,
}
unfoldable pub use Rattle.smith_draw_types.specs.SubTypes.{root_type_at, sub_type_at, sub_type_of_at, supertypes}
unfoldable pub use Rattle.smith_draw_types.specs.TypeUses.{is_tag_type, is_unshared_function}
unfoldable pub use Rattle.smith_draw_types.specs.ValueTypes.{sharedness_at, val_type_at}
unfoldable pub use Rattle.smith_draw_imports.specs.ImportGroups.{group_kind_at}
unfoldable pub use Rattle.smith_draw_imports.specs.ImportNames.{import_name_at}
unfoldable pub use Rattle.smith_draw_imports.specs.ImportedEntities.{entity_at, entity_of_kind_at, kind_at}
unfoldable pub use Rattle.smith_draw_imports.specs.Importing.{fill_at, filled_at, group_at, group_of_kind_at, groups_at, imports_at}
pub use Rattle.smith_module_rules.specs.Refusals.{shape_for}
pub use Rattle.smith_module_rules_examples.specs.ExampleShapes.{exporting, for_exports, for_imports, for_module, memory_available, untyped}
pub use Rattle.smith_spell_examples.proofs.SpellExamples.{function_spellable}
pub use Rattle.smith_spell_examples.proofs.SpelledExamples.{any_byte, joined, one_function_spelled}
unfoldable pub use Rattle.smith_spell.specs.Spelling.{SpellsRest}
pub use Rattle.smith_types.specs.ExampleTypes.{nullable, plain_func, shared_type}
pub use Rattle.smith_types.specs.Syntax.Kinds.{shared}
pub use Rattle.smith_types.specs.Syntax.composite_type.SubType.{SubType}
pub use Rattle.smith_types.specs.Syntax.value_type.HeapType.TheVariants.{Concrete}
pub use Rattle.smith_types.specs.Syntax.value_type.ValType.TheVariants.{Ref}
pub use Rattle.wasm_smith.specs.CheckedShapes.{ComesBefore, IsFaultOf, IsFirstFaulty}
unfoldable pub use Rattle.wasm_smith.specs.DrawnContents.{all_segments_at, after_exports_at}
unfoldable pub use Rattle.wasm_smith.specs.FirstParts.{first_parts_at}
pub use Rattle.wasm_smith.specs.Reached.{BeginsWithMember}
unfoldable pub use lib.Utf8.{encode}
