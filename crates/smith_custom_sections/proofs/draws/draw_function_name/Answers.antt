use Rattle.std.proofs.Common.{arith}
use Rattle.smith_custom_sections.proofs.ShortLemmas.{text_fits}
use Rattle.smith_custom_sections.proofs.draws.draw_function_name.Goals as goal

pub overflow_cast-length : goal.overflow_cast-length
overflow_cast-length c = omega (arith, c.len-length.ensures, text_fits _ c.in_ok-name.ensures.exact)

pub overflow_add-length : goal.overflow_add-length
overflow_add-length c = omega (arith, c.len-length.ensures, text_fits _ c.in_ok-name.ensures.exact)
