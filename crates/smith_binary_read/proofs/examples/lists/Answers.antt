use Rattle.std.proofs.Common.{refl}
use Rattle.smith_binary_read.specs.Readings.{each_at}
use Rattle.smith_binary_read.specs.Numbers.{unsigned_at}
use Rattle.smith_binary_read.specs.Contents.{content_at, list_at}
use Rattle.smith_binary_read.specs.TypeReadings.{val_type_at, ref_type_at, abstract_at}
use Rattle.smith_binary_read.proofs.examples.lists.Goals as goal

pub returns-clause-bytes : goal.returns-clause-bytes
unfolding each_at unsigned_at content_at list_at val_type_at ref_type_at abstract_at
returns-clause-bytes c = refl

pub returns-clause-too_few_bytes : goal.returns-clause-too_few_bytes
unfolding each_at unsigned_at content_at list_at val_type_at ref_type_at abstract_at
returns-clause-too_few_bytes c = refl

pub returns-clause-types : goal.returns-clause-types
unfolding each_at unsigned_at content_at list_at val_type_at ref_type_at abstract_at
returns-clause-types c = refl

pub returns-clause-of_no_type : goal.returns-clause-of_no_type
unfolding each_at unsigned_at content_at list_at val_type_at ref_type_at abstract_at
returns-clause-of_no_type c = refl

pub returns-clause-many_in_no_byte : goal.returns-clause-many_in_no_byte
unfolding each_at unsigned_at content_at list_at val_type_at ref_type_at abstract_at
returns-clause-many_in_no_byte c = refl
