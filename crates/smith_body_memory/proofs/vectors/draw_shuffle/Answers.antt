use Rattle.smith_body_memory.proofs.Common.{ap, arith, length, List, refl, sym, ℕ, ◌<◌, ◌∙◌, ◌≡◌}
use Rattle.std.proofs.lemmas.List.{take_all, take_more_set}
use Rattle.std.proofs.lemmas.List.Elements.{All-replicate, All-set}
use Rattle.std.proofs.Math.ListN.{length-set}
use Rattle.smith_body_memory.proofs.VectorChoiceLemmas.{shuffled_none, shuffled_more}
use Rattle.smith_body_memory.proofs.vectors.draw_shuffle.Goals as goal

pub loop-index-init : goal.loop-index-init
loop-index-init c = record {
  drawn = shuffled_none c.args.u.now;
  within = All-replicate (λ (lane : ℕ). lane < 32) 16 0 (omega arith);
  long = refl;
  kept = λ whole h. h;
}

pub loop-index-preserved : goal.loop-index-preserved
loop-index-preserved c =
    let drawn = rw (c.new.ensures.start, c.new.ensures.end) at c.int_in_range.ensures.exact in
    let inside : c.loop-index.index < length c.loop-index.lanes = omega (arith, c.loop-index.invariant.long, c.loop-index-test.true) in
    record {
      drawn = shuffled_more _ _ _ _ c.loop-index.index c.int_in_range.result c.loop-index.invariant.drawn drawn
          ∙ sym (ap (λ (done : List ℕ). (done, c.int_in_range.new.self))
          (take_more_set c.loop-index.lanes c.loop-index.index c.int_in_range.result inside));
      within = All-set (λ (lane : ℕ). lane < 32) c.loop-index.lanes c.loop-index.index c.int_in_range.result
          (omega (arith, c.int_in_range.ensures.within, c.new.ensures.end)) c.loop-index.invariant.within;
      long = length-set c.loop-index.lanes c.loop-index.index c.int_in_range.result ∙ c.loop-index.invariant.long;
      kept = λ whole h. c.int_in_range.ensures.left whole (c.loop-index.invariant.kept whole h);
    }

pub returns-clause-exact : goal.returns-clause-exact
returns-clause-exact c =
    let all : c.loop-index.index ≡ 16 = omega (arith, c.loop-index-test.false, c.loop-index.auto.index-end) in
    let drawn = rw all at c.loop-index.invariant.drawn in
    drawn ∙ ap (λ (done : List ℕ). (done, c.loop-index.u)) (take_all 16 c.loop-index.lanes (omega (arith, c.loop-index.invariant.long)))
