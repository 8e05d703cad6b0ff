use Rattle.smith_binary_law.proofs.Common.{arith, inl, inr, IsUnsigned}
use Rattle.smith_binary.specs.Numbers.{IsSigned}
use Rattle.smith_binary_law.proofs.examples.modules.unused_bits_are_kept_clear.Goals as goal

pub returns-clause-unsigned : goal.returns-clause-unsigned
unfolding IsUnsigned
returns-clause-unsigned c = λ n h. let last = h.1 in omega (arith, last.2)

pub returns-clause-signed : goal.returns-clause-signed
unfolding IsSigned
returns-clause-signed c = λ z h. elim h.1 [ inl p ↦ omega (arith, p.fits) | inr p ↦ omega (arith, p.high) ]

pub returns-clause-negative : goal.returns-clause-negative
unfolding IsSigned
returns-clause-negative c = λ z h. elim h.1 [ inl p ↦ omega (arith, p.low) | inr p ↦ omega (arith, p.fits) ]
