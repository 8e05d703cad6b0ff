-- The names of other crates that three files or more of these cite.
pub use Rattle.smith_binary_module.specs.Contents.{contents_of}
pub use Rattle.smith_instr.specs.declared.instr.Instr.{Instr}
pub use Rattle.smith_module_rules.specs.Module.{ModuleParts}
pub use Rattle.smith_program.specs.Counted.{counted}
pub use Rattle.smith_program.specs.declared.program.Body.{Body}
pub use Rattle.smith_types.specs.Syntax.code.Code.{Code}
pub use Rattle.smith_types.specs.Syntax.value_type.ValType.{ValType}
pub use Rattle.std.specs.List.{zip}
