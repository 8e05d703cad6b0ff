use Rattle.smith_binary_law.proofs.Common.{arith, inr, refl}
use Rattle.std.specs.Prelude.{negsuc}
use Rattle.smith_binary.specs.Numbers.{IsSigned}
use Rattle.smith_binary_law.proofs.examples.modules.minus_two_has_three_spellings.Goals as goal

pub returns-clause-short : goal.returns-clause-short
unfolding IsSigned
returns-clause-short c = inr (record { value = refl; high = omega arith; low = omega arith; fits = omega arith })

pub returns-clause-longer : goal.returns-clause-longer
unfolding IsSigned
returns-clause-longer c = (
  negsuc 0,
  inr (record { value = refl; high = omega arith; low = omega arith; fits = omega arith }),
  refl,
  omega arith,
  omega arith,
  omega arith,
)

pub returns-clause-longest : goal.returns-clause-longest
unfolding IsSigned
returns-clause-longest c = (
  negsuc 0,
  (
    negsuc 0,
    inr (record { value = refl; high = omega arith; low = omega arith; fits = omega arith }),
    refl,
    omega arith,
    omega arith,
    omega arith,
  ),
  refl,
  omega arith,
  omega arith,
  omega arith,
)
