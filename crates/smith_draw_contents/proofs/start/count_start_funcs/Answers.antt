use Rattle.smith_draw_contents.proofs.Common.{is_start_type, rules, sym, ◌∙◌, ◌≡◌}
use Rattle.std.proofs.Common.{count_by}
use Rattle.smith_draw_types.proofs.PlaceLemmas.{length_places}
use Rattle.smith_draw_contents.proofs.start.count_start_funcs.Goals as goal

pub returns : goal.returns
returns c =
    let counted : c.count.result ≡ count_by (is_start_type c.args.types.now) c.args.funcs.now = search rules in
    counted ∙ sym (length_places (is_start_type c.args.types.now) 0 c.args.funcs.now)
