use Rattle.smith_draw_consts.proofs.Common.{[], ap, get_or, length, List, None, Option, slice_get, slice_get-get_or, Some, ValType, ℕ, ◌+◌}
use Rattle.smith_draw_consts.proofs.Common.{◌∙◌, ◌∷◌, ◌≡◌}
use Rattle.std.proofs.lemmas.List.{length-append}
use Rattle.smith_draw_consts.proofs.ClassLemmas.{flag_pushed}
use Rattle.smith_draw_consts.proofs.kept_offers.test_kinds.Goals as goal

pub loop-index-preserved : goal.loop-index-preserved
loop-index-preserved c =
    let kinds : List (Option ValType) = c.args.kinds.now in
    let there : slice_get kinds (length c.loop-index.flags) ≡ Some (get_or kinds c.loop-index.index None) =
    ap (slice_get kinds) c.loop-index.invariant.here ∙ slice_get-get_or kinds c.loop-index.index None c.loop-index-test.true in
    record {
      right = flag_pushed c.args.types.now.types c.args.wanted kinds c.loop-index.flags c.push.new.self c.is_offered.result
          (get_or kinds c.loop-index.index None) c.loop-index.invariant.right there c.is_offered.ensures c.in_ok-push.ensures.ok;
      here = ap length c.in_ok-push.ensures.ok ∙ length-append c.loop-index.flags (c.is_offered.result ∷ [])
          ∙ ap (λ (n : ℕ). n + 1) c.loop-index.invariant.here;
    }
