-- The names of other crates that three files or more of these cite.
pub use Rattle.smith_binary.proofs.WrittenLemmas.{joined_written, written_as}
pub use Rattle.std.proofs.Common.{arith, ◌<◌}
pub use Rattle.std.proofs.lemmas.Result.{on_ok_weaker}
