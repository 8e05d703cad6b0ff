-- The names of other crates that three files or more of these cite.
pub use Rattle.smith_binary.specs.Numbers.{IsUnsigned}
pub use Rattle.smith_binary.specs.Pieces.{Is, IsByte, IsList, IsSection, Joined}
unfoldable pub use Rattle.smith_binary.specs.Pieces.{Each}
pub use Rattle.smith_binary_read.proofs.ChoiceLemmas.{tagged_read}
pub use Rattle.smith_binary_read.proofs.IntegerLemmas.{unsigned_decodes}
pub use Rattle.smith_binary_read.proofs.ReadLemmas.{branch, front_joined, joined_decodes, step, test_passed}
unfoldable pub use Rattle.smith_binary_read.specs.Contents.{content_at, list_at, name_at, sized_at}
pub use Rattle.smith_binary_read.specs.Decodes.{Decodes, DecodesWhole, Front}
pub use Rattle.smith_binary_read.specs.DeclaredTypes.{IsDeclaredGroup}
pub use Rattle.smith_binary_read.specs.EntityReadings.{IsExportItem}
unfoldable pub use Rattle.smith_binary_read.specs.Numbers.{unsigned_at}
pub use Rattle.smith_binary_read.specs.Readings.{Fails, Reading}
unfoldable pub use Rattle.smith_binary_read.specs.Readings.{each_at}
pub use Rattle.smith_binary_read.specs.TagReadings.{IsTagDefinition}
pub use Rattle.smith_binary_read.specs.Views.{Viewed}
pub use Rattle.smith_binary_read.specs.declared.error.Fault.{Fault}
pub use Rattle.smith_binary_read.specs.declared.error.ReadError.{ReadError}
pub use Rattle.smith_binary_read_instr.proofs.NestedLemmas.{expr_decodes}
unfoldable pub use Rattle.smith_binary_read_instr.specs.ExpressionReadings.{expr_at, is_over, nested_at, nested_instr_at}
pub use Rattle.smith_binary_read_instr.specs.Expressions.{IsNestedExpr}
unfoldable pub use Rattle.smith_binary_read_instr.specs.InstrReadings.{instr_at, prefixed_at}
unfoldable pub use Rattle.smith_binary_read_instr.specs.MemoryReadings.{bulk_at, bytes_instr_at}
unfoldable pub use Rattle.smith_binary_read_instr.specs.NumericReadings.{saturating_of}
pub use Rattle.smith_binary_sections.specs.Data.DataForm.{first_memory, named_memory, no_memory}
pub use Rattle.smith_binary_sections.specs.Entities.{IsMemoryType}
pub use Rattle.smith_binary_sections.specs.Imports.{IsImportGroup}
pub use Rattle.smith_binary_sections.specs.Instructions.{IsIndex}
pub use Rattle.smith_binary_sections.specs.Sections.{IsOptionalSection}
pub use Rattle.smith_instr.specs.declared.instr.Instr.{Instr}
pub use Rattle.smith_types.specs.Syntax.FeatureBits.{features_in}
pub use Rattle.smith_types.specs.Syntax.Features.{Features}
pub use Rattle.smith_types.specs.Syntax.entity_type.TableType.{TableType}
pub use Rattle.smith_types.specs.Syntax.value_type.ValType.{ValType}
pub use Rattle.std.proofs.Common.{[], ap, append-nil, append_assoc, arith, Bool, drop, eqb, Err, false, length, List, map, None, Ok, Option}
pub use Rattle.std.proofs.Common.{refl, Result, Some, subst, suc, sym, take, true, ℕ, ◌++◌, ◌+◌, ◌-◌, ◌<◌, ◌^◌, ◌||◌, ◌∙◌, ◌∷◌, ◌≡◌, ◌≤◌}
pub use Rattle.std.proofs.lemmas.Bool.{eq-eqb, eqb-true, ne_eqb}
pub use Rattle.std.proofs.lemmas.List.{length-append, nil_from_length}
pub use Rattle.std.proofs.lemmas.Result.{err_from_is_err_and}
pub use Rattle.std.specs.List.{list_any}
