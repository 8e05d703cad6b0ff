use Rattle.std.proofs.Common.{[], ◌∷◌, refl}
use Rattle.smith_binary_read.specs.Readings.{each_at}
use Rattle.smith_binary_read.specs.Numbers.{unsigned_at}
use Rattle.smith_binary_read.specs.Contents.{list_at}
use Rattle.smith_binary_read.specs.TypeReadings.{supertypes_at, declared_type_at, composite_type_at, inner_type_at}
use Rattle.smith_binary_read.proofs.ReadLemmas.{all_spelled}
use Rattle.smith_binary_read.proofs.TypeLemmas.{never_further, declared_type_decodes}
use Rattle.smith_binary_read.proofs.examples.supertypes.Goals as goal

pub returns-clause-none : goal.returns-clause-none
unfolding each_at unsigned_at list_at supertypes_at
returns-clause-none c = refl

pub returns-clause-one : goal.returns-clause-one
unfolding each_at unsigned_at list_at supertypes_at
returns-clause-one c = refl

pub returns-clause-two : goal.returns-clause-two
unfolding each_at unsigned_at list_at supertypes_at
returns-clause-two c = refl

pub returns-clause-without_the_second : goal.returns-clause-without_the_second
unfolding each_at unsigned_at list_at supertypes_at
returns-clause-without_the_second c = refl

pub returns-clause-of_a_struct : goal.returns-clause-of_a_struct
unfolding each_at unsigned_at list_at supertypes_at declared_type_at composite_type_at inner_type_at
returns-clause-of_a_struct c = refl

pub returns-clause-form : goal.returns-clause-form
unfolding each_at unsigned_at list_at supertypes_at declared_type_at composite_type_at inner_type_at
returns-clause-form c =
    let bytes = 0x50 ∷ 0x02 ∷ 0x07 ∷ 0x01 ∷ 0x5F ∷ 0x00 ∷ [] in
    all_spelled declared_type_decodes bytes _ refl

pub returns-clause-further_without_a_first : goal.returns-clause-further_without_a_first
returns-clause-further_without_a_first c = λ piece h. never_further _ _ piece refl (λ e. absurd cc) h
