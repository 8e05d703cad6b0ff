use Rattle.smith_draw_shape_imports.proofs.Common.{All, ap, features_of, flattened, Imports, IsImportsValid, List, refl, sym, ◌∙◌}
use Rattle.std.proofs.Common.{subst}
use Rattle.smith_draw_shape_imports.proofs.KeptImportLemmas.{kept_flat, kept_valid, imported_valid, imported_enabled}
use Rattle.smith_draw_shape_imports.proofs.module_shape.imports_of_shape.Goals as goal

pub returns-clause-kept : goal.returns-clause-kept
returns-clause-kept c =
    let compact = c.args.config.now.compact_imports_enabled in
    let groups = c.in_ok-groups.ensures.kept in
    record {
      groups = groups;
      flat = ap flattened groups ∙ kept_flat compact c.args.shape.now.imports;
      spaces = rw c.as_slice-imports.ensures at c.in_ok-spaces.ensures.ok;
      count = rw c.as_slice-imports.ensures at c.count_imports.ensures;
      type_size = refl;
      valid = subst (λ (l : List Imports). All (IsImportsValid (features_of c.args.config.now)) l) (sym groups)
          (kept_valid (features_of c.args.config.now) compact c.args.shape.now.imports (λ on. on));
      entities = imported_valid c.args.config.now c.args.shape.now c.requires.valid;
      counts = imported_enabled c.args.config.now c.args.shape.now c.requires.valid;
    }
