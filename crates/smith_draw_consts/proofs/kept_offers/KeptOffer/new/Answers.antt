use Rattle.smith_draw_consts.proofs.Common.{arith, refl}
use Rattle.smith_draw_consts.specs.ConstOffers.{function_offers, global_offers}
use Rattle.smith_draw_consts.specs.KeptOffers.{offered_before}
use Rattle.smith_draw_consts.proofs.ClassLemmas.{no_flags}
use Rattle.smith_draw_consts.proofs.kept_offers.KeptOffer.new.Goals as goal

pub returns-clause-kept : goal.returns-clause-kept
returns-clause-kept c = λ context items valid. record {
  kept = record {
    wanted = valid;
    globals_seen = omega (arith, c.new.ensures.seen);
    globals = c.new.ensures.counted (offered_before (global_offers context c.args.wanted) context.globals) refl;
    funcs_seen = omega (arith, c.new-2.ensures.seen);
    funcs = c.new-2.ensures.counted (offered_before (function_offers context c.args.wanted) context.funcs) refl;
  };
  globals = no_flags context.types c.args.wanted items.globals.kinds c.new-3.result c.new-3.ensures;
  funcs = no_flags context.types c.args.wanted items.funcs.kinds c.new-4.result c.new-4.ensures;
}
