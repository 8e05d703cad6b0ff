use Rattle.std.proofs.Common.{refl}
use Rattle.smith_binary_read.specs.Numbers.{unsigned_at, signed_at, little_endian_at}
use Rattle.smith_binary_read.proofs.examples.numbers.Goals as goal

pub returns-clause-short : goal.returns-clause-short
unfolding unsigned_at signed_at little_endian_at
returns-clause-short c = refl

pub returns-clause-longer_than_needed : goal.returns-clause-longer_than_needed
unfolding unsigned_at signed_at little_endian_at
returns-clause-longer_than_needed c = refl

pub returns-clause-unused_bits : goal.returns-clause-unused_bits
unfolding unsigned_at signed_at little_endian_at
returns-clause-unused_bits c = refl

pub returns-clause-six_bytes : goal.returns-clause-six_bytes
unfolding unsigned_at signed_at little_endian_at
returns-clause-six_bytes c = refl

pub returns-clause-without_its_end : goal.returns-clause-without_its_end
unfolding unsigned_at signed_at little_endian_at
returns-clause-without_its_end c = refl

pub returns-clause-negative : goal.returns-clause-negative
unfolding unsigned_at signed_at little_endian_at
returns-clause-negative c = refl

pub returns-clause-negative_and_long : goal.returns-clause-negative_and_long
unfolding unsigned_at signed_at little_endian_at
returns-clause-negative_and_long c = refl

pub returns-clause-of_two_bytes : goal.returns-clause-of_two_bytes
unfolding unsigned_at signed_at little_endian_at
returns-clause-of_two_bytes c = refl
