use Rattle.smith_bytes.specs.declared.error.Count.TheVariants as counts
use Rattle.smith_draw_definitions.specs.Definitions.{scope_among}
use Rattle.smith_draw_definitions.proofs.Common.{returned_so}
use Rattle.smith_draw_definitions.proofs.GlobalCountLemmas.{globals_fill}
use Rattle.smith_draw_definitions.proofs.NumberedGlobalLemmas.{globals_taken}
use Rattle.smith_draw_definitions.proofs.globals.define_globals.Goals as goal

pub push_globals-pushed-requires-clause-kept : goal.push_globals-pushed-requires-clause-kept
push_globals-pushed-requires-clause-kept c = c.new-kept.ensures _

pub returns-clause-filled : goal.returns-clause-filled
returns-clause-filled c =
    let standing = scope_among c.args.types.now.types c.args.funcs.now c.args.imported_funcs c.args.imported_globals c.args.globals.now in
    returned_so c.push_globals-pushed.result (globals_fill c.args.config.now standing c.args.globals.now _ c.args.initials.now _ _ _
    (c.requires.may.passes.ordered counts.Globals tt)) c.push_globals-pushed.ensures.exact

pub returns-clause-reach : goal.returns-clause-reach
returns-clause-reach c = λ least none unmade. returned_so c.push_globals-pushed.result (λ drawn. globals_taken _ _ least none unmade drawn)
    c.push_globals-pushed.ensures.exact
