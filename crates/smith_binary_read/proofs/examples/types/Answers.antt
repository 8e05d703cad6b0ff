use Rattle.std.proofs.Common.{refl}
use Rattle.smith_binary_read.specs.Numbers.{unsigned_at}
use Rattle.smith_binary_read.specs.TypeReadings.{mutability_at}
use Rattle.smith_binary_read.specs.EntityReadings.{flags_at, memory_type_at, tag_type_at}
use Rattle.smith_binary_read.proofs.examples.types.Goals as goal

pub returns-clause-immutable : goal.returns-clause-immutable
unfolding unsigned_at mutability_at flags_at memory_type_at tag_type_at
returns-clause-immutable c = refl

pub returns-clause-no_mutability : goal.returns-clause-no_mutability
unfolding unsigned_at mutability_at flags_at memory_type_at tag_type_at
returns-clause-no_mutability c = refl

pub returns-clause-memory : goal.returns-clause-memory
unfolding unsigned_at mutability_at flags_at memory_type_at tag_type_at
returns-clause-memory c = refl

pub returns-clause-no_flags : goal.returns-clause-no_flags
unfolding unsigned_at mutability_at flags_at memory_type_at tag_type_at
returns-clause-no_flags c = refl

pub returns-clause-no_tag : goal.returns-clause-no_tag
unfolding unsigned_at mutability_at flags_at memory_type_at tag_type_at
returns-clause-no_tag c = refl
