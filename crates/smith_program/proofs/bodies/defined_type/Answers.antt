use Rattle.smith_program.proofs.ScopeLemmas.{type_inside, is_function, has_type}
use Rattle.smith_program.proofs.bodies.defined_type.Goals as goal

pub bounds-types-index : goal.bounds-types-index
bounds-types-index c = rw (c.types.ensures, c.funcs.ensures, c.imported_funcs-imported.ensures.imported)
    (type_inside c.args.module.now c.requires.valid c.args.place c.requires.inside)

pub unreachable-requires : goal.unreachable-requires
unreachable-requires c =
    is_function c.args.module.now c.requires.valid c.args.place c.requires.inside c.index-types-index.result
    (rw (c.types.ensures, c.funcs.ensures, c.imported_funcs-imported.ensures.imported) at c.in_default.not-Func)

pub returns : goal.returns
returns c =
    has_type c.args.module.now c.requires.valid c.args.place c.requires.inside c.index-types-index.result c.in-Func.function
    (rw (c.types.ensures, c.funcs.ensures, c.imported_funcs-imported.ensures.imported) at c.index-types-index.is)
    (rw (c.types.ensures, c.funcs.ensures, c.imported_funcs-imported.ensures.imported) at c.in-Func.is)
