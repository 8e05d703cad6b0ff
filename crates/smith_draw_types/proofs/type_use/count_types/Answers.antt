use Rattle.smith_draw_types.proofs.Common.{rules, sym, ◌∙◌, ◌≡◌}
use Rattle.std.proofs.Common.{count_by}
use Rattle.smith_draw_types.specs.TypeUses.{may_be_used}
use Rattle.smith_draw_types.proofs.PlaceLemmas.{length_places}
use Rattle.smith_draw_types.proofs.type_use.count_types.Goals as goal

pub returns : goal.returns
returns c =
    let counted : c.count.result ≡ count_by (may_be_used c.args.for_use) c.args.types.now = search rules in
    counted ∙ sym (length_places (may_be_used c.args.for_use) 0 c.args.types.now)
