use Rattle.smith_draw_imports.proofs.Common.{AreKeptGrounds, length, ◌+◌, ◌-◌}
use Rattle.smith_draw_imports.specs.Importing.{groups_at}
use Rattle.smith_draw_imports.specs.ImportedEntities.{import_scope}
use Rattle.smith_draw_imports.specs.Imported.{IsImported, spaces_of}
use Rattle.smith_draw_imports.proofs.ImportGroupsLoop.{IsGrouping}
use Rattle.smith_draw_imports.proofs.imports.add_groups.Given as goal

abbrev pub invariant-loop-imported : goal.invariant-loop-imported
invariant-loop-imported l = record {
  kept : AreKeptGrounds (import_scope l.config l.types.types (spaces_of l.imported)) l.grounds;
  so_far : IsImported l.config l.types.types l.distinct l.imported;
  grouping : IsGrouping l.config l.types.types l.distinct l.imported.groups l.imported.count l.fn.u l.u
      (groups_at l.config l.types.types l.distinct (l.config.max_imports + length l.fn.u + 1) l.fn.imported.groups l.fn.u);
}

abbrev pub decreases-loop-imported : goal.decreases-loop-imported
decreases-loop-imported l = l.config.max_imports + length l.u - l.imported.count
