use Rattle.smith_draw_types.proofs.Common.{drop, get_or, ◌≡◌}
use Rattle.smith_types.specs.Syntax.entity_type.ExportKind.TheVariants.{Memory}
use Rattle.smith_draw_types.specs.Choices.{enabled}
use Rattle.smith_draw_types.proofs.enabled.enabled_at.Given as goal

abbrev pub invariant-loop-row : goal.invariant-loop-row
invariant-loop-row l = get_or (enabled (drop l.row-index l.table)) l.place Memory ≡ get_or (enabled l.fn.table) l.fn.place Memory
