use Rattle.smith_check_types.proofs.LawLemmas.{same_place, same_type}
use Rattle.std.proofs.Common.{refl}
use Rattle.smith_check_types.proofs.laws.equal_types.Goals as goal

pub returns-clause-at_most : goal.returns-clause-at_most
returns-clause-at_most c = λ groups indices canonical index first at. (canonical.each index first at).least index refl

pub returns-clause-same_index : goal.returns-clause-same_index
returns-clause-same_index c = λ groups indices canonical i j first other at there.
    (same_type groups indices canonical i j first other at there, same_place groups indices canonical i j first other at there)
