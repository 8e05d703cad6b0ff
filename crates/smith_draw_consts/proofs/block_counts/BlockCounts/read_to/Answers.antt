use Rattle.smith_draw_consts.proofs.Common.{[], ap, arith, inl, inr, ◌%◌, ◌++◌, ◌∙◌, ◌∷◌, ◌≡◌, ◌⊎◌}
use Rattle.std.proofs.Common.{◌≢◌}
use Rattle.smith_draw_consts.specs.declared.block_counts.BlockCounts.{BlockCounts}
use Rattle.smith_draw_consts.proofs.BlockCountLemmas.{counted_next}
use Rattle.smith_draw_consts.proofs.block_counts.BlockCounts.read_to.Goals as goal
use Rattle.smith_draw_consts.proofs.block_counts.BlockCounts.read_to.Goals.{then-self-eq0+in_ok-push, else-self-eq0}

pub returns-clause-counted : goal.returns-clause-counted
returns-clause-counted c = λ before counted next.
    let begun : ((c.args.self.now.seen % 8 ≡ 0) × (c.if-self-eq0.self.starts ≡ c.args.self.now.starts ++ c.args.self.now.total ∷ []))
    ⊎ ((c.args.self.now.seen % 8 ≢ 0) × (c.if-self-eq0.self.starts ≡ c.args.self.now.starts)) = elim c.if-self-eq0.branch [
      | then-self-eq0+in_ok-push w ↦ inl (w.if-self-eq0.true, ap (λ (s : BlockCounts). s.starts) w.self-is ∙ w.in_ok-push.ensures.ok)
      | else-self-eq0 w ↦ inr (w.if-self-eq0.false, ap (λ (s : BlockCounts). s.starts) w.self-is)
    ] in
    let total : c.if-self-eq0.self.total ≡ c.args.self.now.total = elim c.if-self-eq0.branch [
      | then-self-eq0+in_ok-push w ↦ ap (λ (s : BlockCounts). s.total) w.self-is
      | else-self-eq0 w ↦ ap (λ (s : BlockCounts). s.total) w.self-is
    ] in
    counted_next before c.args.self.now c.args.end c.args.offered _ _ counted c.requires.some c.requires.one_block next
    (omega (arith, total)) begun
