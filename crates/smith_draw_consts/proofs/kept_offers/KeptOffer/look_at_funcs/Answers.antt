use Rattle.smith_draw_consts.proofs.Common.{arith, Bool, function_reference, List, Some, subst, sym, ◌+◌, ◌≡◌}
use Rattle.smith_draw_consts.specs.ConstScopes.{context_of}
use Rattle.smith_draw_consts.specs.KeptOffers.{IsTally, offered_before}
use Rattle.smith_draw_consts.specs.ConstOffers.{function_offers}
use Rattle.smith_draw_consts.proofs.ClassLemmas.{flag_of_each, tally_functions}
use Rattle.smith_draw_consts.proofs.KeptOfferLemmas.{few_functions}
use Rattle.smith_draw_consts.proofs.kept_offers.KeptOffer.look_at_funcs.Goals as goal
use Rattle.smith_draw_consts.proofs.kept_offers.KeptOffer.look_at_funcs.Goals.{After-count-offered}

-- the functions are counted
counted : (c : After-count-offered) → offered_before (function_offers (context_of c.args.scope.now) c.loop-self.self.wanted)
    (context_of c.args.scope.now).funcs c.min-end.result
    ≡ offered_before (function_offers (context_of c.args.scope.now) c.loop-self.self.wanted) (context_of c.args.scope.now).funcs
    c.loop-self.self.funcs.seen + c.count-offered.result
counted c =
    let context = context_of c.args.scope.now in
    let before = offered_before (function_offers context c.loop-self.self.wanted) context.funcs in
    c.count-offered.ensures before (subst (λ (flags : List Bool). IsTally before c.args.items.now.funcs.of flags) (sym c.as_slice.ensures)
    (tally_functions context c.loop-self.self.wanted c.args.items.now.funcs c.loop-self.self.func_flags c.requires.read.read.funcs
    c.loop-self.invariant.entry.funcs))

pub count-offered-requires-clause-flags : goal.count-offered-requires-clause-flags
count-offered-requires-clause-flags c =
    let context = context_of c.args.scope.now in
    flag_of_each context.types (λ function index. Some (function_reference context function index)) context.funcs 0 c.args.items.now.funcs
    c.as_slice.result.now c.requires.read.read.funcs (rw c.as_slice.ensures c.loop-self.invariant.tested.funcs)

pub read_to-requires-clause-few : goal.read_to-requires-clause-few
read_to-requires-clause-few c =
    let few = few_functions (context_of c.args.scope.now) c.loop-self.self.wanted c.min-end.result (omega arith) in
    omega (
      arith,
      few,
      c.loop-self.invariant.entry.kept.funcs.total,
      counted (goal.at.read_to-requires-clause-few c).After-count-offered,
      c.requires.scope.few_funcs,
    )

pub loop-self-preserved : goal.loop-self-preserved
loop-self-preserved c =
    let context = context_of c.args.scope.now in
    let entry = c.loop-self.invariant.entry in
    record {
      entry = record {
        kept = record {
          wanted = entry.kept.wanted;
          globals_seen = entry.kept.globals_seen;
          globals = entry.kept.globals;
          funcs_seen = omega (arith, c.in_ok-read_to.ensures.seen);
          funcs = c.in_ok-read_to.ensures.counted (offered_before (function_offers context c.loop-self.self.wanted) context.funcs)
              entry.kept.funcs (counted (goal.at.loop-self-preserved c).After-count-offered);
        };
        globals = entry.globals;
        funcs = entry.funcs;
      };
      tested = record { globals = c.loop-self.invariant.tested.globals; funcs = c.loop-self.invariant.tested.funcs };
      wanted = c.loop-self.invariant.wanted;
      globals = c.loop-self.invariant.globals;
    }
