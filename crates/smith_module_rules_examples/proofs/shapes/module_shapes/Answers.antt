use Rattle.smith_module_rules_examples.proofs.Common.{[], None, refl, memory}
use Rattle.smith_types.specs.Syntax.entity_type.EntityType.TheVariants as entity
use Rattle.smith_module_rules_examples.proofs.shapes.module_shapes.Goals as goal

pub returns-clause-imports_and_an_export : goal.returns-clause-imports_and_an_export
returns-clause-imports_and_an_export c = record {
  types = record { types = record { more = []; parts = refl }; groups = record { more = []; parts = refl } };
  imports = refl;
  exports = (
    record {
      name = refl;
      kind = refl;
      mine = entity.Memory (memory 1 None);
      yours = entity.Memory (memory 1 None);
      mine_is = (memory 1 None, refl, refl);
      yours_is = (memory 1 None, refl, refl);
      same = refl;
    },
    tt,
  );
}

pub returns-clause-a_function_of_its_type : goal.returns-clause-a_function_of_its_type
returns-clause-a_function_of_its_type c = record {
  types = record { types = record { more = []; parts = refl }; groups = record { more = []; parts = refl } };
  imports = refl;
  exports = (
    record {
      name = refl;
      kind = refl;
      mine = entity.Func 0;
      yours = entity.Func 0;
      mine_is = (0, refl, refl);
      yours_is = (0, refl, refl);
      same = refl;
    },
    tt,
  );
}
