-- The names of other crates that three files or more of these cite.
pub use Rattle.smith_body_nodes.specs.Scopes.{is_permitted, IsAllowedIn}
pub use Rattle.smith_body_nodes.specs.declared.node.Head.{Head}
pub use Rattle.smith_body_nodes.specs.declared.scope.Scope.{Scope}
pub use Rattle.smith_bytes.specs.Draws.{range_at}
pub use Rattle.smith_config.specs.declared.config.Config.{Config}
pub use Rattle.smith_instr.specs.Contexts.{BodyContext}
pub use Rattle.smith_instr.specs.declared.instr.Instr.{Instr}
pub use Rattle.smith_types.specs.Syntax.value_type.ValType.{ValType}
pub use Rattle.smith_types.specs.Syntax.value_type.ValType.TheVariants.{I32}
