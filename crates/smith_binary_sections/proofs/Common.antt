-- The names of other crates that three files or more of these cite.
pub use Rattle.smith_binary.proofs.WrittenLemmas.{is_joined, joined_written, Leads, written_as}
pub use Rattle.smith_binary.specs.Pieces.{Is, IsList, Joined, Output, Writes}
unfoldable pub use Rattle.smith_binary.specs.Pieces.{Each}
pub use Rattle.smith_binary.specs.Spelling.{IsUnsignedIn, Spelling}
pub use Rattle.smith_binary.specs.Spelling.Spelling.{any}
pub use Rattle.smith_types.specs.Syntax.const_instr.ConstInstr.{ConstInstr}
pub use Rattle.std.proofs.Common.{[], ap, arith, Bool, inr, length, List, refl, subst, sym, true, ℕ, ◌^◌, ◌∙◌, ◌∷◌, ◌≡◌}
pub use Rattle.std.proofs.lemmas.Result.{on_ok_weaker}
pub use Rattle.std.specs.List.{zip}
