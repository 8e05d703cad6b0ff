use Rattle.smith_draw_shape_imports.proofs.Common.{ap, flat_map, ◌∙◌}
use Rattle.std.proofs.lemmas.List.{take_all}
use Rattle.smith_draw_shape_imports.specs.KeptImports.{kept_of}
use Rattle.smith_draw_shape_imports.proofs.KeptImportLemmas.{kept_more, all_kept_are}
use Rattle.smith_draw_shape_imports.proofs.module_shape.kept_groups_of.Goals as goal

pub loop-group-preserved : goal.loop-group-preserved
loop-group-preserved c =
    kept_more c.args.config.now.compact_imports_enabled c.args.shape.now.imports c.loop-group.group-index c.group-item.result
    c.loop-group.groups _ (rw c.as_slice-group-items.ensures at c.loop-group-test.true)
    (rw c.as_slice-group-items.ensures at c.group-item.is) c.loop-group.invariant c.in_ok-push_kept.ensures.ok

pub returns-clause-kept : goal.returns-clause-kept
returns-clause-kept c =
    let compact = c.args.config.now.compact_imports_enabled in
    c.loop-group.invariant
    ∙ (ap (flat_map (kept_of compact)) (take_all c.loop-group.group-index c.args.shape.now.imports
    (rw c.as_slice-group-items.ensures at c.loop-group-test.false)) ∙ all_kept_are compact c.args.shape.now.imports)
