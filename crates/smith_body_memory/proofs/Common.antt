-- The names of other crates that three files or more of these cite.
pub use Rattle.smith_body_nodes.proofs.ChosenLemmas.{as_node, as_nop, ok_by}
pub use Rattle.smith_body_nodes.proofs.NodeLemmas.{address_valid, more_valid, no_valid, nop_node, one_valid}
pub use Rattle.smith_body_nodes.proofs.ResultLemmas.{ok_like}
pub use Rattle.smith_body_nodes.specs.Nodes.{IsNode, node_of}
pub use Rattle.smith_body_nodes.specs.Scopes.{where_stands}
pub use Rattle.smith_bytes.specs.Draws.{range_at}
pub use Rattle.smith_config.specs.declared.config.Config.{Config}
unfoldable pub use Rattle.smith_draw_types.specs.Choices.{chosen_at}
pub use Rattle.smith_instr.specs.Contexts.{address, BodyContext, IsValid}
pub use Rattle.smith_instr.specs.MemoryTypes.{IsAccess}
pub use Rattle.smith_instr.specs.declared.memory.MemArg.{MemArg}
pub use Rattle.smith_types.specs.Syntax.entity_type.MemoryType.{MemoryType}
pub use Rattle.smith_types.specs.Syntax.value_type.ValType.{ValType}
pub use Rattle.smith_types.specs.Syntax.value_type.ValType.TheVariants.{F32, F64, I32, I64, Ref, V128}
pub use Rattle.std.proofs.Common.{[], ap, arith, Bool, get_or, length, List, None, Option, refl, rules, Some, subst, sym, true, ℕ, ◌-◌, ◌<◌}
pub use Rattle.std.proofs.Common.{◌∙◌, ◌∷◌, ◌≡◌, ◌≤◌}
pub use Rattle.std.specs.List.{list_all}
