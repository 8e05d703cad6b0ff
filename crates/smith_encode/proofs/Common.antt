-- The names of other crates that three files or more of these cite.
pub use Rattle.smith_binary.proofs.WrittenLemmas.{joined_written, written_plain}
pub use Rattle.smith_binary.specs.Pieces.{Is, IsList, Output, Writes}
unfoldable pub use Rattle.smith_binary.specs.Pieces.{Each}
pub use Rattle.smith_binary_read.proofs.ViewLemmas.{list_viewed}
pub use Rattle.smith_binary_read_instr.specs.Expressions.{IsNestedExpr}
pub use Rattle.smith_binary_sections.proofs.FaultLemmas.{fault_weaker}
pub use Rattle.smith_binary_sections.specs.Sections.{IsOptionalSection}
pub use Rattle.smith_decode.specs.BodyReadings.{body_view, name_data, total}
pub use Rattle.smith_decode.specs.Customs.{AreCustoms, IsThen}
pub use Rattle.smith_decode.specs.DataReadings.{segment_view}
pub use Rattle.smith_decode.specs.ElementReadings.{items_view}
pub use Rattle.smith_decode.specs.Elements.{IsElem}
pub use Rattle.smith_decode.specs.Modules.{IsModuleBinary, syntax_of}
pub use Rattle.smith_decode.specs.declared.bodies.Body.{Body}
pub use Rattle.smith_decode.specs.declared.customs.Custom.{Custom}
pub use Rattle.smith_decode.specs.declared.modules.Module.{Module}
pub use Rattle.smith_instr.specs.declared.instr.Instr.{Instr}
pub use Rattle.std.proofs.Common.{[], ap, append-nil, append_assoc, arith, Bool, drop, eqb, Err, false, length, List, map, None, Ok, Option}
pub use Rattle.std.proofs.Common.{refl, Result, Some, subst, sym, true, ℕ, ◌++◌, ◌<◌, ◌^◌, ◌||◌, ◌∙◌, ◌∷◌, ◌≡◌}
pub use Rattle.std.proofs.lemmas.Bool.{and_parts}
pub use Rattle.std.proofs.lemmas.Result.{on_ok_weaker}
pub use Rattle.std.specs.List.{list_all}
pub use Rattle.std.specs.Prelude.{IfOk}
