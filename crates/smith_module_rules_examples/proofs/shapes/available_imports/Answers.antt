use Rattle.smith_module_rules_examples.proofs.Common.{[], refl, is_fitting}
use Rattle.smith_module_rules_examples.proofs.ShapeExamples.{both_kept}
use Rattle.smith_module_rules_examples.proofs.shapes.available_imports.Goals as goal

pub returns-clause-kept : goal.returns-clause-kept
returns-clause-kept c = both_kept

pub returns-clause-the_first_kept : goal.returns-clause-the_first_kept
unfolding is_fitting
returns-clause-the_first_kept c =
    record { types = record { types = record { more = []; parts = refl }; groups = record { more = []; parts = refl } }; imports = refl }

pub returns-clause-kept_in_one_group : goal.returns-clause-kept_in_one_group
returns-clause-kept_in_one_group c =
    record {
      types = record { types = record { more = []; parts = refl }; groups = record { more = []; parts = refl } };
      imports = both_kept.imports;
    }
