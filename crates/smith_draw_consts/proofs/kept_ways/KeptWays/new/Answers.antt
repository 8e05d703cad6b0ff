use Rattle.smith_draw_consts.proofs.Common.{arith, false, refl, true}
use Rattle.smith_draw_consts.specs.ConstOffers.{ways_by}
use Rattle.smith_draw_consts.specs.KeptOffers.{offered_before}
use Rattle.smith_draw_consts.proofs.kept_ways.KeptWays.new.Goals as goal

pub returns-clause-kept : goal.returns-clause-kept
returns-clause-kept c = λ context valid. record {
  wanted = valid;
  bare_structs = record {
    seen = omega (arith, c.new.ensures.seen);
    counted = c.new.ensures.counted (offered_before (ways_by context c.args.wanted 0 false) context.types) refl;
  };
  structs = record {
    seen = omega (arith, c.new-2.ensures.seen);
    counted = c.new-2.ensures.counted (offered_before (ways_by context c.args.wanted 1 false) context.types) refl;
  };
  arrays = record {
    seen = omega (arith, c.new-3.ensures.seen);
    counted = c.new-3.ensures.counted (offered_before (ways_by context c.args.wanted 1 true) context.types) refl;
  };
}
