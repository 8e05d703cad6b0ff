-- The names of other crates that three files or more of these cite.
pub use Rattle.smith_config.specs.Config.{default_config}
pub use Rattle.smith_instr.specs.declared.instr.Instr.{Instr}
pub use Rattle.smith_instr_examples.specs.ExampleBodies.{number}
pub use Rattle.smith_module_rules_examples.specs.ExampleModules.{empty_module}
pub use Rattle.smith_module_rules_examples.specs.ExampleParts.{trapping}
pub use Rattle.smith_program.specs.Bodies.{HasDefinedType}
pub use Rattle.smith_program.specs.declared.program.Body.{Body}
pub use Rattle.smith_types.specs.Syntax.code.Code.{Code}
pub use Rattle.smith_types.specs.Syntax.composite_type.FuncType.{FuncType}
pub use Rattle.smith_types.specs.Syntax.value_type.ValType.TheVariants.{Ref}
pub use Rattle.std.proofs.Common.{[], ap, arith, inl, length, List, refl, subst, sym, ℕ, ◌<◌, ◌∙◌, ◌∷◌, ◌≡◌, ◌≤◌}
pub use Rattle.std.proofs.lemmas.Bool.{false≢true}
pub use Rattle.std.proofs.lemmas.List.Elements.{All-cons, All-nil}
