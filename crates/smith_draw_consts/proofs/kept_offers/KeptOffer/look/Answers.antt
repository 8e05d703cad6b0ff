use Rattle.smith_draw_consts.proofs.Common.{ap, arith, ◌∙◌, ◌≡◌}
use Rattle.smith_draw_consts.specs.ConstScopes.{context_of}
use Rattle.smith_draw_consts.specs.declared.block_counts.BlockCounts.{BlockCounts}
use Rattle.smith_draw_consts.proofs.KeptOfferLemmas.{whole_for}
use Rattle.smith_draw_consts.proofs.kept_offers.KeptOffer.look.Goals as goal
use Rattle.smith_draw_consts.proofs.kept_offers.KeptOffer.look.Goals.{In_ok-look_at_funcs}

wanted : (c : In_ok-look_at_funcs) → c.look_at_funcs.new.self.wanted ≡ c.args.self.now.wanted
wanted c = c.in_ok-look_at_funcs.ensures.wanted ∙ c.in_ok-look_at_globals.ensures.wanted ∙ c.in_ok-test.ensures.wanted

pub returns-clause-wanted : goal.returns-clause-wanted
returns-clause-wanted c = wanted (goal.at.returns-clause-wanted c).In_ok-look_at_funcs

pub returns-clause-counted : goal.returns-clause-counted
returns-clause-counted c =
    let seen = λ (counts : BlockCounts). counts.seen in
    let globals : c.look_at_funcs.new.self.globals.seen ≡ c.args.scope.now.visible =
    omega (
      arith,
      ap seen c.in_ok-look_at_funcs.ensures.globals,
      c.in_ok-look_at_globals.ensures.all,
      ap seen c.in_ok-test.ensures.globals,
      c.requires.visible,
    ) in
    whole_for (context_of c.args.scope.now) c.args.self.now.wanted c.look_at_funcs.new.self c.in_ok-look_at_funcs.ensures.kept.kept
    (wanted (goal.at.returns-clause-counted c).In_ok-look_at_funcs) globals c.in_ok-look_at_funcs.ensures.all
