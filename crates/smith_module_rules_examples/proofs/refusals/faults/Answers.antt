use Rattle.smith_module_rules_examples.proofs.Common.{rules, arith, ◌≡◌, List, [], ◌∷◌, refl, codes, ConfigFault, MinAboveMax}
use Rattle.smith_bytes.specs.declared.error.Count.TheVariants as counts
use Rattle.smith_module_rules_examples.proofs.refusals.faults.Goals as goal

before_exports : List ConfigFault
before_exports = MinAboveMax counts.Types ∷ MinAboveMax counts.Imports ∷ MinAboveMax counts.Tags ∷ MinAboveMax counts.Funcs ∷ MinAboveMax
    counts.Globals ∷ []

pub returns-clause-too_many_types_asked_for : goal.returns-clause-too_many_types_asked_for
returns-clause-too_many_types_asked_for c = record {
  before = [];
  after = _;
  order = refl;
  earlier = search rules;
  there = (tt, omega arith);
}

pub returns-clause-too_many_imports_asked_for : goal.returns-clause-too_many_imports_asked_for
returns-clause-too_many_imports_asked_for c = record {
  before = MinAboveMax counts.Types ∷ [];
  after = _;
  order = refl;
  earlier = search rules;
  there = (search rules, omega arith);
}

pub returns-clause-imports_beside_exports : goal.returns-clause-imports_beside_exports
returns-clause-imports_beside_exports c = record {
  before = MinAboveMax counts.Types ∷ [];
  after = _;
  order = refl;
  earlier = search rules;
  there = (search rules, omega arith);
}

pub returns-clause-exports_beside_imports : goal.returns-clause-exports_beside_imports
unfolding before_exports
returns-clause-exports_beside_imports c = record {
  before = before_exports;
  after = _;
  order = refl;
  earlier = search rules;
  there = ((search rules, refl), omega arith);
}

pub returns-clause-a_name_twice : goal.returns-clause-a_name_twice
returns-clause-a_name_twice c = λ distinct. let never : 0 ≡ 1 = distinct.once 0 1 (codes "m") refl refl in cc never

pub returns-clause-a_name_twice_beside_available_imports : goal.returns-clause-a_name_twice_beside_available_imports
returns-clause-a_name_twice_beside_available_imports c = λ distinct. let never : 0 ≡ 1 = distinct.once 0 1 (codes "m") refl refl in cc never
