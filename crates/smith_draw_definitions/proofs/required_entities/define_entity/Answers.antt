use Rattle.smith_draw_definitions.proofs.Common.{on_ok_weaker, spaces_in, true}
use Rattle.smith_draw_definitions.proofs.KeptOfferLemmas.{kept_beside}
use Rattle.smith_draw_definitions.proofs.required_entities.define_entity.Goals as goal

pub returns-clause-kept : goal.returns-clause-kept
returns-clause-kept c =
    on_ok_weaker c.push.result
    (λ longer. kept_beside c.args.config.now c.args.types.now (spaces_in c.args.spaces.now) c.args.definitions.now true c.requires.may _ _
    c.args.added _ c.in_ok-define_initial.ensures.initialised longer c.in_ok-define_initial.ensures.kept)
    c.push.ensures.ok
