use Rattle.smith_draw_consts.proofs.Common.{ap, get_or, length, refl, slice_get, slice_get-get_or, Some, ℕ, ◌+◌, ◌<◌, ◌∙◌, ◌≡◌}
use Rattle.smith_draw_consts.specs.ConstScopes.{context_of}
use Rattle.smith_draw_consts.proofs.KnownLemmas.{one_recorded}
use Rattle.smith_draw_consts.proofs.few_items.record_funcs.Goals as goal

pub loop-index-preserved : goal.loop-index-preserved
loop-index-preserved c =
    let context = context_of c.args.scope.now in
    let place : ℕ = c.loop-index.index in
    let inside : place < length context.funcs = c.loop-index-test.true in
    let index : ℕ = get_or context.funcs place 0 in
    let there : slice_get context.funcs (length c.loop-index.funcs.items) ≡ Some index =
    ap (slice_get context.funcs) c.loop-index.invariant.here ∙ slice_get-get_or context.funcs place 0 inside in
    record {
      read = one_recorded (λ function each. each) context.funcs index index c.loop-index.funcs.items c.push.new.self.items
          c.loop-index.invariant.read there refl c.push.ensures.items;
      here = c.push.ensures.len ∙ ap (λ (n : ℕ). n + 1) c.loop-index.invariant.here;
    }
