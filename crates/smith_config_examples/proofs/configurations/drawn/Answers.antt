use Rattle.smith_config_examples.proofs.Common.{refl, range_at, bool_at, digit_count, with_kind, config_at, maximums_at, sizes_at}
use Rattle.smith_config_examples.proofs.Common.{proposals_at, instruction_kinds_at, rules_at}
use Rattle.smith_config_examples.proofs.configurations.drawn.Goals as goal

pub returns : goal.returns
unfolding config_at maximums_at sizes_at proposals_at instruction_kinds_at rules_at range_at bool_at digit_count with_kind
returns c = record { of_no_bytes = refl; of_two_numbers = refl; past_the_greatest = refl; in_order = refl }
