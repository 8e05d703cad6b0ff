-- The names of other crates that three files or more of these cite.
pub use Rattle.smith_check_module.specs.Contexts.{types_in}
pub use Rattle.smith_check_module.specs.ValidModules.{AreSectionsValid}
pub use Rattle.smith_check_operands.proofs.ListLemmas.{all_right}
pub use Rattle.smith_check_rules.specs.Sequences.{IsBodyTyped}
pub use Rattle.smith_check_types.specs.Renamed.{renamed_ref, renamed_val}
pub use Rattle.smith_check_types.specs.TypeSections.{canonical_groups, canonical_index, IsTypeSectionValid}
pub use Rattle.smith_decode.specs.BodyReadings.{total}
pub use Rattle.smith_decode.specs.Modules.{syntax_of}
pub use Rattle.smith_decode.specs.declared.bodies.LocalRun.{LocalRun}
pub use Rattle.smith_decode.specs.declared.elements.ElementSegment.{ElementSegment}
pub use Rattle.smith_instr.specs.declared.instr.Instr.{Instr}
pub use Rattle.smith_types.specs.Syntax.FeatureBits.{features_in}
pub use Rattle.smith_types.specs.Syntax.Features.{Features}
pub use Rattle.smith_types.specs.Syntax.composite_type.FuncType.{FuncType}
pub use Rattle.smith_types.specs.Syntax.composite_type.SubType.{SubType}
pub use Rattle.smith_types.specs.Syntax.value_type.ValType.{ValType}
pub use Rattle.smith_types.specs.Syntax.value_type.ValType.TheVariants.{I32}
pub use Rattle.smith_types.specs.Entities.{IsFuncAt}
pub use Rattle.smith_types.specs.Groups.{space_of}
pub use Rattle.smith_types.specs.ValidTypes.{AreTypesValid}
pub use Rattle.std.proofs.Common.{[], ap, arith, get_or, inl, inr, length, List, map, Option, refl, Some, subst, suc, sym, take, zero, ℕ}
pub use Rattle.std.proofs.Common.{◌++◌, ◌+◌, ◌<◌, ◌∙◌, ◌∷◌, ◌≡◌, ◌≤◌}
pub use Rattle.std.proofs.lemmas.List.Elements.{All-nil}
pub use Rattle.std.proofs.lemmas.Option.{same_Some}
pub use Rattle.std.specs.List.{flat_map}
pub use Rattle.std.specs.Prelude.{IfOk, MatchOption, slice_get}
