use Rattle.smith_config_examples.proofs.Common.{rules, refl, ◌^◌, ◌+◌, take, drop, [], All-from_recursion, default_config, HasFault, faults}
use Rattle.smith_config_examples.proofs.configurations.first_faults.Goals as goal

pub returns-clause-alone : goal.returns-clause-alone
returns-clause-alone c = record {
  before = take 2 faults;
  after = drop 3 faults;
  order = refl;
  earlier = All-from_recursion (λ other. ¬ HasFault (record default_config { min_tags = 3; max_tags = 2 }) other) (take 2 faults)
      (search rules);
  there = search rules;
}

pub returns-clause-earlier_count : goal.returns-clause-earlier_count
returns-clause-earlier_count c = record { before = []; after = drop 1 faults; order = refl; earlier = search rules; there = search rules }

pub returns-clause-pair_first : goal.returns-clause-pair_first
returns-clause-pair_first c = record {
  before = take 10 faults;
  after = drop 11 faults;
  order = refl;
  earlier = All-from_recursion (λ other. ¬ HasFault (record default_config { max_types = 2 ^ 31 + 1; min_tables = 2 }) other)
      (take 10 faults) (search rules);
  there = search rules;
}

pub returns-clause-narrow_bytes_first : goal.returns-clause-narrow_bytes_first
returns-clause-narrow_bytes_first c = record {
  before = take 22 faults;
  after = drop 23 faults;
  order = refl;
  earlier = All-from_recursion
      (λ other. ¬ HasFault (record default_config { max_memory32_bytes = 2 ^ 32 + 1; max_memory64_bytes = 2 ^ 64 + 1 }) other)
      (take 22 faults) (search rules);
  there = search rules;
}
