-- The names of other crates that three files or more of these cite.
pub use Rattle.smith_config.specs.declared.config.Config.{Config}
pub use Rattle.smith_draw_types.proofs.GroupsLoop.{piece_short}
pub use Rattle.smith_draw_types.specs.KeptGrounds.{AreKeptGrounds}
pub use Rattle.smith_types.specs.Syntax.composite_type.SubType.{SubType}
pub use Rattle.smith_types.specs.Syntax.entity_type.EntityType.{EntityType}
pub use Rattle.smith_types.specs.Syntax.entity_type.ExportKind.{ExportKind}
pub use Rattle.smith_types.specs.Syntax.imports.Import.{Import}
pub use Rattle.smith_types.specs.Syntax.imports.Imports.{Imports}
pub use Rattle.smith_types.specs.Imports.{EntitySpaces, flattened, import_of, imports_of}
pub use Rattle.std.proofs.Common.{[], ap, arith, Bool, false, length, length-append, List, refl, string_bytes, subst, suc, sym, true, ℕ}
pub use Rattle.std.proofs.Common.{◌++◌, ◌+◌, ◌-◌, ◌<◌, ◌∙◌, ◌∷◌, ◌≡◌, ◌≤◌}
pub use Rattle.std.proofs.lemmas.List.Elements.{All-cons, All-nil}
pub use Rattle.std.specs.Fmt.{decimal}
