-- The names of other crates that three files or more of these cite.
pub use Rattle.smith_body_nodes.specs.Chosen.{Chosen}
pub use Rattle.smith_body_nodes.specs.Nodes.{node_of}
pub use Rattle.smith_body_nodes.specs.Offered.{func_in}
pub use Rattle.smith_body_nodes.specs.Scopes.{indexed}
pub use Rattle.smith_body_nodes.specs.declared.node.Node.{Node}
pub use Rattle.smith_bytes.specs.Draws.{range_at}
pub use Rattle.smith_instr.specs.Contexts.{BodyContext, nullable_to}
pub use Rattle.smith_types.specs.Syntax.Features.{Features}
pub use Rattle.smith_types.specs.Syntax.composite_type.FuncType.{FuncType}
pub use Rattle.smith_types.specs.Syntax.value_type.ValType.{ValType}
