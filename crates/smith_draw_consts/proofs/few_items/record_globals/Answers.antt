use Rattle.smith_draw_consts.proofs.Common.{ap, arith, false, get_or, GlobalType, I32, length, slice_get, slice_get-get_or, Some, ℕ, ◌+◌}
use Rattle.smith_draw_consts.proofs.Common.{◌<◌, ◌∙◌, ◌≡◌}
use Rattle.smith_draw_consts.specs.ConstScopes.{context_of}
use Rattle.smith_draw_consts.specs.KeptOffers.{readable}
use Rattle.smith_draw_consts.proofs.KnownLemmas.{one_recorded}
use Rattle.smith_draw_consts.proofs.few_items.record_globals.Goals as goal

pub loop-index-preserved : goal.loop-index-preserved
loop-index-preserved c =
    let context = context_of c.args.scope.now in
    let d : GlobalType = record { val_type = I32; mutable = false; shared = false } in
    let index : ℕ = c.loop-index.index in
    let inside : index < length context.globals = omega (arith, c.loop-index-test.true, c.requires.scope.seen) in
    let global : GlobalType = get_or context.globals index d in
    let there : slice_get context.globals (length c.loop-index.kinds.items) ≡ Some global =
    ap (slice_get context.globals) c.loop-index.invariant.here ∙ slice_get-get_or context.globals index d inside in
    record {
      read = one_recorded (λ place each. readable each) context.globals global c.readable.result c.loop-index.kinds.items
          c.push.new.self.items c.loop-index.invariant.read there c.readable.ensures c.push.ensures.items;
      here = c.push.ensures.len ∙ ap (λ (n : ℕ). n + 1) c.loop-index.invariant.here;
    }
