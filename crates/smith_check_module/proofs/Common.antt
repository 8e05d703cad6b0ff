-- The names of other crates that three files or more of these cite.
pub use Rattle.smith_bytes.specs.declared.error.Error.{Error}
pub use Rattle.smith_check_types.specs.TypeSections.{canonical_index}
pub use Rattle.smith_decode.specs.Constants.{as_instr}
pub use Rattle.smith_decode.specs.Modules.{export_triple, global_pair, syntax_of, table_pair, tag_index}
pub use Rattle.smith_instr.specs.declared.instr.Instr.{Instr}
pub use Rattle.smith_types.specs.Syntax.FeatureBits.{features_in}
pub use Rattle.smith_types.specs.Syntax.Features.{Features}
pub use Rattle.smith_types.specs.Syntax.composite_type.SubType.{SubType}
pub use Rattle.smith_types.specs.Syntax.const_instr.ConstInstr.{ConstInstr}
pub use Rattle.smith_types.specs.Syntax.entity_type.EntityType.{EntityType}
pub use Rattle.smith_types.specs.Syntax.entity_type.ExportKind.{ExportKind}
pub use Rattle.smith_types.specs.Syntax.entity_type.GlobalType.{GlobalType}
pub use Rattle.smith_types.specs.Syntax.entity_type.TableType.{TableType}
pub use Rattle.smith_types.specs.Syntax.value_type.RefType.{RefType}
pub use Rattle.smith_types.specs.Syntax.value_type.ValType.{ValType}
pub use Rattle.smith_types.specs.Syntax.value_type.ValType.TheVariants.{I32, Ref}
pub use Rattle.smith_types.proofs.GrowthLemmas.{IsValBelow-refl}
pub use Rattle.smith_types.specs.Entities.{IsFuncTypeIndex, IsGlobalValid, IsMemoryValid, IsTableValid}
pub use Rattle.smith_types.specs.EntitySpaces.{spaces_in}
pub use Rattle.smith_types.specs.Exports.{IsEntityAt}
pub use Rattle.smith_types.specs.Expressions.{Context, IsArrayAt, IsStructAt, seeing, seen_by_segments}
pub use Rattle.smith_types.specs.Flags.{IsInstrEnabled}
pub use Rattle.smith_types.specs.Imports.{EntitySpaces, imported_spaces}
pub use Rattle.smith_types.specs.Segments.{IsItem}
pub use Rattle.smith_types.specs.Subtyping.{IsValBelow, IsValInRange}
pub use Rattle.smith_types.specs.ValidTypes.{AreTypesValid}
pub use Rattle.std.proofs.Common.{[], ap, arith, Bool, cond, drop, false, get_or, inl, inr, length, List, map, None, refl, replicate, Some}
pub use Rattle.std.proofs.Common.{subst, suc, sym, take, take_all, true, ℕ, ◌++◌, ◌+◌, ◌-◌, ◌<◌, ◌↔◌, ◌∙◌, ◌∷◌, ◌≡◌, ◌≤◌}
pub use Rattle.std.proofs.lemmas.Bool.{false≢true}
pub use Rattle.std.proofs.lemmas.List.{length-append, length-map}
pub use Rattle.std.proofs.lemmas.List.Elements.{All-cons, All-head, All-more, All-nil, length_all_zip}
pub use Rattle.std.proofs.lemmas.Option.{same_Some, slice_get_past, slice_get_within}
pub use Rattle.std.specs.List.{AllZip}
pub use Rattle.std.specs.Prelude.{All, Err, IfOk, IsTrue, MatchBool, MatchOption, Ok, Result, slice_get}
pub use Rattle.std.specs.Str.{bytes_eq}
