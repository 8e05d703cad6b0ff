use Rattle.smith_program.proofs.ScopeLemmas.{module_scope}
use Rattle.smith_program.proofs.bodies.draw_instructions.Goals as goal

pub draw_body-requires : goal.draw_body-requires
draw_body-requires c =
    record {
      scope = rw (
        c.features.ensures.flags,
        c.config-config.ensures,
        c.type_space.ensures,
        c.funcs.ensures,
        c.imported_funcs.ensures.imported,
        c.tables.ensures,
        c.memories.ensures,
        c.globals.ensures,
        c.tags.ensures,
        c.as_slice-3.ensures,
        c.requires.named.elems,
        c.data.ensures,
        c.as_slice-4.ensures,
        c.requires.named.references,
        c.as_slice-5.ensures,
        c.in_ok-locals.ensures.joined,
        c.as_slice.ensures,
        c.as_slice-2.ensures,
        c.len.ensures,
        c.as_slice-6.ensures,
      )
          (module_scope c.args.module.now c.requires.valid c.requires.there.0 c.args.function.now c.requires.there.1 c.args.code.now.locals
          c.requires.locals);
    }
