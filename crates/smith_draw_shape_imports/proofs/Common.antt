-- The names of other crates that three files or more of these cite.
pub use Rattle.smith_config.specs.Features.{features_of}
pub use Rattle.smith_config.specs.Shapes.{shape_imports, shape_types}
pub use Rattle.smith_config.specs.declared.config.Config.{Config}
unfoldable pub use Rattle.smith_module_rules.specs.ShapeImports.{is_fitting}
pub use Rattle.smith_types.specs.Imports.{flattened, import_of, IsImportsValid}
pub use Rattle.smith_types.specs.Syntax.Features.{Features}
pub use Rattle.smith_types.specs.Syntax.imports.Import.{Import}
pub use Rattle.smith_types.specs.Syntax.imports.Imports.{Imports}
pub use Rattle.smith_types.specs.Syntax.imports.Imports.TheVariants.{Single}
pub use Rattle.smith_validity.proofs.HeldValueLemmas.{all_apart}
pub use Rattle.std.proofs.Common.{[], ap, arith, Bool, drop, false, length, length-append, List, map, refl, sym, take, true, ℕ, ◌++◌, ◌+◌}
pub use Rattle.std.proofs.Common.{◌<◌, ◌∙◌, ◌∷◌, ◌≡◌}
pub use Rattle.std.proofs.lemmas.List.Elements.{All-nil}
pub use Rattle.std.specs.List.{flat_map}
pub use Rattle.std.specs.Prelude.{All, IsTrue}
