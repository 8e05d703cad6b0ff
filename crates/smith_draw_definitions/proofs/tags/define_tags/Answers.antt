use Rattle.smith_draw_definitions.proofs.Common.{on_ok_weaker, returned_so, SpellsEmpty, takes_if_read}
use Rattle.smith_bytes.specs.declared.error.Count.TheVariants.{Tags}
use Rattle.smith_draw_definitions.specs.Definitions.{tags_at}
use Rattle.smith_draw_types.specs.SpelledParts.{SpellsNoTag}
use Rattle.smith_draw_definitions.proofs.TypedLemmas.{tags_are, tags_enabled, no_tag_read}
use Rattle.smith_draw_definitions.proofs.tags.define_tags.Goals as goal

pub returns-clause-filled : goal.returns-clause-filled
returns-clause-filled c = on_ok_weaker c.push_tags.result (λ are. are.filled)
    (tags_are _ _ _ _ _ _ c.push_tags.result (c.requires.passes.ordered Tags tt) c.push_tags.ensures.exact)

pub returns-clause-valid : goal.returns-clause-valid
returns-clause-valid c = λ before. on_ok_weaker c.push_tags.result (λ are. are.valid before)
    (tags_are _ _ _ _ _ _ c.push_tags.result (c.requires.passes.ordered Tags tt) c.push_tags.ensures.exact)

pub returns-clause-enabled : goal.returns-clause-enabled
returns-clause-enabled c = λ before. on_ok_weaker c.push_tags.result (λ are. tags_enabled c.args.config.now c.args.types.now.types _ _ are
    before) (tags_are _ _ _ _ _ _ c.push_tags.result (c.requires.passes.ordered Tags tt) c.push_tags.ensures.exact)

pub returns-clause-none : goal.returns-clause-none
returns-clause-none c = λ none empty.
    returned_so c.push_tags.result (takes_if_read {Spelled = SpellsEmpty (SpellsNoTag c.args.config.now c.args.types.now.types)}
    (tags_at c.args.config.now c.args.types.now.types c.args.tags.now) (λ tags piece after h. no_tag_read _ _ _ tags piece after none
    empty h))
    c.push_tags.ensures.exact
