-- The names of other crates that three files or more of these cite.
pub use Rattle.smith_body_nodes.specs.Nodes.{node_of}
pub use Rattle.smith_body_nodes.specs.declared.node.Node.{Node}
pub use Rattle.smith_bytes.specs.Draws.{choose_at}
pub use Rattle.smith_config.specs.declared.config.Config.{Config}
pub use Rattle.smith_draw_types.specs.Choices.{chosen_at}
pub use Rattle.smith_instr.specs.Contexts.{address, BodyContext}
pub use Rattle.smith_types.specs.Syntax.entity_type.MemoryType.{MemoryType}
pub use Rattle.smith_types.specs.Syntax.value_type.ValType.{ValType}
pub use Rattle.smith_types.specs.Syntax.value_type.ValType.TheVariants.{I32}
