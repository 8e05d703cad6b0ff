use Rattle.smith_draw_consts.proofs.Common.{arith, false, GlobalType, I32}
use Rattle.smith_draw_consts.specs.ConstScopes.{context_of}
use Rattle.smith_draw_consts.specs.KeptOffers.{offered_before, readable}
use Rattle.smith_draw_consts.specs.ConstOffers.{global_offers}
use Rattle.smith_draw_consts.proofs.ClassLemmas.{flag_of_each}
use Rattle.smith_draw_consts.proofs.KeptOfferLemmas.{few_globals}
use Rattle.smith_draw_consts.proofs.kept_offers.KeptOffer.look_at_globals.Goals as goal

pub count_globals-offered-requires-clause-flags : goal.count_globals-offered-requires-clause-flags
count_globals-offered-requires-clause-flags c =
    let context = context_of c.args.scope.now in
    let d : GlobalType = record { val_type = I32; mutable = false; shared = false } in
    flag_of_each context.types (λ index global. readable global) context.globals d c.args.items.now.globals c.loop-self.self.global_flags
    c.requires.read.read.globals c.loop-self.invariant.tested.globals

pub read_to-requires-clause-few : goal.read_to-requires-clause-few
read_to-requires-clause-few c =
    let context = context_of c.args.scope.now in
    let few = few_globals context c.loop-self.self.wanted c.min-end.result (omega (arith, c.requires.scope.seen)) in
    let counted = c.count_globals-offered.ensures context c.requires.scope.orderly c.requires.read.read c.loop-self.invariant.entry
    (rw c.loop-self.invariant.wanted c.requires.wider) in
    omega (arith, few, c.loop-self.invariant.entry.kept.globals.total, counted, c.requires.scope.few_globals, c.requires.scope.seen)

pub loop-self-preserved : goal.loop-self-preserved
loop-self-preserved c =
    let context = context_of c.args.scope.now in
    let entry = c.loop-self.invariant.entry in
    let counted = c.count_globals-offered.ensures context c.requires.scope.orderly c.requires.read.read entry
    (rw c.loop-self.invariant.wanted c.requires.wider) in
    record {
      entry = record {
        kept = record {
          wanted = entry.kept.wanted;
          globals_seen = omega (arith, c.in_ok-read_to.ensures.seen, c.requires.scope.seen);
          globals = c.in_ok-read_to.ensures.counted (offered_before (global_offers context c.loop-self.self.wanted) context.globals)
              entry.kept.globals counted;
          funcs_seen = entry.kept.funcs_seen;
          funcs = entry.kept.funcs;
        };
        globals = entry.globals;
        funcs = entry.funcs;
      };
      tested = record { globals = c.loop-self.invariant.tested.globals; funcs = c.loop-self.invariant.tested.funcs };
      wanted = c.loop-self.invariant.wanted;
      before = omega (arith, c.loop-self.invariant.before, c.in_ok-read_to.ensures.seen);
      after = omega (arith, c.in_ok-read_to.ensures.seen);
    }
