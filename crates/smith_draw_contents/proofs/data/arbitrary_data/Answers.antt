use Rattle.smith_bytes.specs.declared.error.Count.TheVariants.{DataSegments}
use Rattle.smith_draw_contents.proofs.Common.{seen_by, true}
use Rattle.smith_draw_contents.proofs.PassiveDataLemmas.{data_taken}
use Rattle.smith_draw_contents.proofs.data.arbitrary_data.Goals as goal

pub returns-clause-least : goal.returns-clause-least
returns-clause-least c = c.draw_data.ensures.least (c.requires.passes.ordered DataSegments tt)

pub returns-clause-reach : goal.returns-clause-reach
returns-clause-reach c = λ least none. data_taken c.args.config.now (seen_by c.args.config.now c.args.spaces.now true) _ _ _
    c.draw_data.result least none c.draw_data.ensures.exact
