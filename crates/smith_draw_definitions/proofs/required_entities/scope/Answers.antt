use Rattle.smith_draw_definitions.proofs.Common.{arith}
use Rattle.smith_draw_definitions.proofs.required_entities.scope.Goals as goal

pub returns-clause-valid : goal.returns-clause-valid
returns-clause-valid c = λ config may.
    let over = c.reference_scope.ensures in
    record {
      types = rw over.types may.valid;
      funcs = rw (over.types, over.funcs, c.as_slice.ensures) may.entities.funcs;
      globals = rw (over.types, over.globals, c.as_slice-2.ensures) may.entities.globals;
      imported = rw (over.imported_globals, over.globals, c.as_slice-2.ensures) (omega (arith, c.len-2.ensures));
      few_funcs = rw (over.funcs, c.as_slice.ensures) (omega (arith, may.room.funcs));
      few_globals = rw (over.globals, c.as_slice-2.ensures) (omega (arith, may.room.globals));
    }
