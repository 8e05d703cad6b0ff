-- The names of other crates that three files or more of these cite.
pub use Rattle.smith_body_nodes.proofs.ChosenLemmas.{as_node, as_nop, ok_by}
pub use Rattle.smith_body_nodes.proofs.OfferLemmas.{function_there}
pub use Rattle.smith_body_nodes.proofs.ResultLemmas.{ok_like}
pub use Rattle.smith_body_nodes.specs.Scopes.{where_stands}
pub use Rattle.std.proofs.Common.{ap, arith, Some, sym, ◌∙◌, ◌≡◌}
