use Rattle.smith_spell.proofs.Common.{ap}
use Rattle.smith_types.specs.Syntax.Features.{Features}
use Rattle.smith_draw_types.proofs.SpelledGroupLemmas.{types_read}
use Rattle.smith_spell.proofs.FamilyFitLemmas.{family_fits}
use Rattle.smith_spell.proofs.laws.groups_are_read.Goals as goal

pub returns : goal.returns
returns c = λ config functions groups funcs piece after same sanitized least member h.
    types_read config functions (ap (λ (features : Features). features.custom_descriptors) same) groups piece after sanitized least
    (family_fits config groups funcs member) h
