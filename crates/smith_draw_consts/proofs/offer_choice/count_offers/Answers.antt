use Rattle.smith_draw_consts.proofs.Common.{arith, sym, ◌∙◌}
use Rattle.smith_draw_consts.specs.ConstScopes.{context_of}
use Rattle.smith_draw_consts.proofs.ConstFoundLemmas.{counted, not_found, offers_few}
use Rattle.smith_draw_consts.proofs.offer_choice.count_offers.Goals as goal

pub returns-in-Ok : goal.returns-in-Ok
returns-in-Ok c =
    let few = offers_few c.args.scope.now.config.now (context_of c.args.scope.now) c.args.wanted c.args.fuel c.requires.scope in
    counted _ _ _ (omega arith) (sym c.past_offers.ensures ∙ c.in-Ok.is)

pub returns-in-Err : goal.returns-in-Err
returns-in-Err c =
    let few = offers_few c.args.scope.now.config.now (context_of c.args.scope.now) c.args.wanted c.args.fuel c.requires.scope in
    absurd (not_found _ _ _ (omega arith) (sym c.past_offers.ensures ∙ c.in-Err.is))
