use Rattle.smith_draw_definitions.proofs.Common.{on_ok_weaker, returned_so, takes_if_read}
use Rattle.smith_bytes.specs.declared.error.Count.TheVariants.{Funcs}
use Rattle.smith_draw_definitions.specs.Definitions.{funcs_at}
use Rattle.smith_draw_types.specs.SpelledParts.{SpellsFuncs}
use Rattle.smith_draw_definitions.proofs.FuncRefusalLemmas.{funcs_refuse}
use Rattle.smith_draw_definitions.proofs.TypedLemmas.{funcs_are, funcs_read}
use Rattle.smith_draw_definitions.proofs.funcs.define_funcs.Goals as goal

pub returns-clause-filled : goal.returns-clause-filled
returns-clause-filled c = on_ok_weaker c.push_funcs.result (λ are. are.filled)
    (funcs_are _ _ _ _ _ _ c.push_funcs.result (c.requires.passes.ordered Funcs tt) c.push_funcs.ensures.exact)

pub returns-clause-valid : goal.returns-clause-valid
returns-clause-valid c = λ before. on_ok_weaker c.push_funcs.result (λ are. are.valid before)
    (funcs_are _ _ _ _ _ _ c.push_funcs.result (c.requires.passes.ordered Funcs tt) c.push_funcs.ensures.exact)

pub returns-clause-refusal : goal.returns-clause-refusal
returns-clause-refusal c = funcs_refuse _ _ c.push_funcs.result c.requires.sanitized c.requires.valid c.requires.least
    c.push_funcs.ensures.refusal

pub returns-clause-reach : goal.returns-clause-reach
returns-clause-reach c = λ none empty.
    returned_so c.push_funcs.result (takes_if_read {Spelled = SpellsFuncs c.args.config.now c.args.types.now.types}
    (funcs_at c.args.config.now c.args.types.now.types c.args.funcs.now) (λ funcs piece after h. funcs_read _ _ _ funcs piece after none
    empty h))
    c.push_funcs.ensures.exact
