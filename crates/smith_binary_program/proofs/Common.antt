-- The names of other crates that three files or more of these cite.
pub use Rattle.smith_binary.proofs.WrittenLemmas.{joined_written, Leads}
pub use Rattle.smith_binary.specs.Numbers.{IsUnsigned}
pub use Rattle.smith_binary.specs.Pieces.{Joined}
unfoldable pub use Rattle.smith_binary.specs.Pieces.{Each}
pub use Rattle.smith_binary_instr.specs.Instructions.{IsInstrsWrittenIn}
pub use Rattle.smith_binary_module.specs.Contents.{contents_of}
pub use Rattle.smith_binary_module.specs.Layout.{is_filled}
pub use Rattle.smith_binary_sections.specs.Modules.{Contents, IsModuleAround}
pub use Rattle.smith_binary_sections.specs.Sections.{IsOptionalSection, IsSectionIf}
pub use Rattle.smith_binary_sections.specs.Types.{group_at}
pub use Rattle.smith_decode.specs.Constants.{as_expr}
pub use Rattle.smith_decode.specs.Forms.{IsExprEnabled}
pub use Rattle.smith_decode.specs.TypeForms.{IsGlobalTypeEnabled, IsGroupEnabled, IsImportGroupEnabled, IsMemoryTypeEnabled}
pub use Rattle.smith_decode.specs.TypeForms.{IsValTypeEnabled}
pub use Rattle.smith_instr.specs.Contexts.{BodyContext, IsBlockType}
pub use Rattle.smith_instr.specs.InstrTypes.{HasInstrType}
pub use Rattle.smith_instr.specs.declared.control.BlockType.{BlockType}
pub use Rattle.smith_instr.specs.declared.instr.Instr.{Instr}
pub use Rattle.smith_module_rules.specs.Module.{IsValid, module_features, ModuleParts, segment_context}
pub use Rattle.smith_program.specs.Bodies.{AreBodiesOf}
pub use Rattle.smith_program.specs.Counted.{check_of, checked_after, checks_of, counted}
pub use Rattle.smith_program.specs.Valid.{IsValidProgram}
pub use Rattle.smith_program.specs.declared.program.Body.{Body}
pub use Rattle.smith_types.specs.Bodies.{IsBodyValid}
pub use Rattle.smith_types.specs.Entities.{IsGlobalValid, IsTableValid}
pub use Rattle.smith_types.specs.Expressions.{Context}
pub use Rattle.smith_types.specs.Segments.{IsDataValid, IsElementSegmentValid}
pub use Rattle.smith_types.specs.Syntax.Features.{Features}
pub use Rattle.smith_types.specs.Syntax.code.Code.{Code}
pub use Rattle.smith_types.specs.Syntax.composite_type.SubType.{SubType}
pub use Rattle.smith_types.specs.Syntax.const_instr.ConstInstr.{ConstInstr}
pub use Rattle.smith_types.specs.Syntax.entity_type.GlobalType.{GlobalType}
pub use Rattle.smith_types.specs.Syntax.entity_type.MemoryType.{MemoryType}
pub use Rattle.smith_types.specs.Syntax.entity_type.TableType.{TableType}
pub use Rattle.smith_types.specs.Syntax.segments.ElementSegment.{ElementSegment}
pub use Rattle.smith_types.specs.Syntax.value_type.RefType.{RefType}
pub use Rattle.smith_types.specs.Syntax.value_type.ValType.{ValType}
pub use Rattle.smith_types.specs.Syntax.value_type.ValType.TheVariants.{Ref}
pub use Rattle.smith_types.specs.ValidTypes.{IsValTypeValid}
pub use Rattle.std.proofs.Common.{[], ap, arith, Bool, drop, false, get_or, inl, inr, length, length-append, List, map, None, Option, refl}
pub use Rattle.std.proofs.Common.{Some, subst, suc, sym, true, zero, ℕ, ◌&&◌, ◌++◌, ◌+◌, ◌<◌, ◌∙◌, ◌∷◌, ◌≡◌, ◌≤◌}
pub use Rattle.std.proofs.lemmas.List.{length-drop}
pub use Rattle.std.proofs.lemmas.List.Elements.{All-cons, All-from_recursion, All-head, All-map, All-nil, All-same, All-tail, All-weaker}
pub use Rattle.std.proofs.lemmas.Option.{get_or_from_slice_get, slice_get-get_or, slice_get_within}
pub use Rattle.std.proofs.lemmas.Result.{on_ok_weaker}
pub use Rattle.std.proofs.lemmas.Slice.Zip.{length-zip}
pub use Rattle.std.specs.List.{Contains, flat_map, zip}
pub use Rattle.std.specs.Prelude.{All, Any, IsTrue, slice_get}
pub use Rattle.std.specs.declared.ops.Range.{Range}
