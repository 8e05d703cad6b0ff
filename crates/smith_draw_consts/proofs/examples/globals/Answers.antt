use Rattle.smith_draw_consts.proofs.Common.{arith, refl}
use Rattle.smith_draw_consts.proofs.SpelledConstExprLemmas.{mutable_not_read}
use Rattle.smith_draw_consts.proofs.examples.globals.Goals as goal

pub returns-clause-mutable_ones_are_not_read : goal.returns-clause-mutable_ones_are_not_read
returns-clause-mutable_ones_are_not_read c = mutable_not_read

pub returns-clause-an_immutable_one : goal.returns-clause-an_immutable_one
returns-clause-an_immutable_one c = (_, (_, refl, omega arith, refl, refl), tt)
