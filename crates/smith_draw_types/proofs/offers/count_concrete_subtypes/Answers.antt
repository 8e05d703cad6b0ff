use Rattle.smith_draw_types.proofs.Common.{arith}
use Rattle.smith_draw_types.proofs.OfferedPlaceLemmas.{exact_most, bottom_most}
use Rattle.smith_draw_types.proofs.offers.count_concrete_subtypes.Goals as goal

pub overflow_add-result-2 : goal.overflow_add-result-2
overflow_add-result-2 c =
    let exact = exact_most c.args.config.now.custom_descriptors_enabled c.count_direct-direct.result in
    omega (arith, exact, c.count_direct-direct.ensures.few, c.count_exact.ensures)

pub overflow_add-result-3 : goal.overflow_add-result-3
overflow_add-result-3 c =
    let exact = exact_most c.args.config.now.custom_descriptors_enabled c.count_direct-direct.result in
    let bottom = bottom_most c.types.result.now c.args.index in
    omega (arith, exact, bottom, c.count_direct-direct.ensures.few, c.count_exact.ensures, c.count_bottom.ensures)
