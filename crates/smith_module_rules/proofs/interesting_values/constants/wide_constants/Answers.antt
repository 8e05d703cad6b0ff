use Rattle.std.proofs.Common.{refl}
use Rattle.smith_module_rules.specs.declared.interesting_values.constants.TheConstants.{WIDE}
use Rattle.smith_module_rules.proofs.ConstantValueLemmas.{constants, constants_exactly, rises, same_members}
use Rattle.smith_module_rules.proofs.interesting_values.constants.wide_constants.Goals as goal

pub returns-clause-exactly : goal.returns-clause-exactly
returns-clause-exactly c = same_members constants WIDE constants_exactly refl refl

pub returns-clause-ascending : goal.returns-clause-ascending
returns-clause-ascending c = rises WIDE refl
