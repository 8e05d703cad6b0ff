use Rattle.std.proofs.Common.{refl}
use Rattle.std.specs.Prelude.{map}
use Rattle.smith_module_rules.specs.declared.interesting_values.constants.TheConstants.{NARROW}
use Rattle.smith_module_rules.proofs.CollectedValueLemmas.{low_half, low_halves}
use Rattle.smith_module_rules.proofs.ConstantValueLemmas.{constants, constants_exactly, rises, same_members}
use Rattle.smith_module_rules.proofs.interesting_values.constants.narrow_constants.Goals as goal

pub returns-clause-exactly : goal.returns-clause-exactly
returns-clause-exactly c = same_members (map low_half constants) NARROW (low_halves constants constants_exactly) refl refl

pub returns-clause-ascending : goal.returns-clause-ascending
returns-clause-ascending c = rises NARROW refl
