use Rattle.smith_draw_imports.proofs.Common.{AreKeptGrounds, flattened, imports_of, ◌++◌, ◌-◌, ◌≡◌, ◌≤◌}
use Rattle.smith_bytes.specs.Source.{KeepsPieces}
use Rattle.smith_draw_imports.specs.ImportedEntities.{import_scope}
use Rattle.smith_draw_imports.specs.Importing.{fill_at}
use Rattle.smith_draw_imports.specs.Imported.{Counts, AreImportsFit, IsOpen, spaces_of}
use Rattle.smith_draw_imports.proofs.FilledGroupLoop.{IsFilling}
use Rattle.smith_draw_imports.proofs.imports.fill.Given as goal

abbrev pub invariant-loop-imported : goal.invariant-loop-imported
invariant-loop-imported l = record {
  kept : AreKeptGrounds (import_scope l.config l.types.types (spaces_of l.imported)) l.grounds;
  ready : IsOpen l.config l.types.types (spaces_of l.imported) l.group;
  counts : Counts l.types.types l.distinct l.imported (flattened l.fn.imported.groups ++ imports_of l.group);
  fit : AreImportsFit l.config l.types.types l.distinct (flattened l.fn.imported.groups ++ imports_of l.group);
  groups : l.imported.groups ≡ l.fn.imported.groups;
  so_far : IsFilling l.config l.types.types l.distinct (flattened l.fn.imported.groups) l.imported.count l.group l.u
      (fill_at l.config l.types.types l.distinct (flattened l.fn.imported.groups) (l.config.max_imports - l.fn.imported.count) l.fn.group
      l.fn.u);
  more : l.fn.imported.count ≤ l.imported.count;
  left : KeepsPieces l.fn.u l.u;
}

abbrev pub decreases-loop-imported : goal.decreases-loop-imported
decreases-loop-imported l = l.config.max_imports - l.imported.count
