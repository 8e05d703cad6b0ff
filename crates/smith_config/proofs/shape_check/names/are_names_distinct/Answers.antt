use Rattle.std.proofs.Common.{◌≡◌, ◌∙◌, sym, true, false, take}
use Rattle.smith_config.proofs.NamesInSetLemmas.{has, names_of, known_turn, distinct_turn, twice, not_false, not_true}
use Rattle.smith_config.proofs.shape_check.names.are_names_distinct.Goals as goal

pub returns-then-not-is_new-clause-decided : goal.returns-then-not-is_new-clause-decided
returns-then-not-is_new-clause-decided c =
    let there : has (names_of (take c.loop-one.one-index c.args.exports.now)) c.name_of-name.result.now ≡ true =
    sym (c.loop-one.invariant.known c.name_of-name.result) ∙ not_false _ (sym c.in_ok-is_new.ensures.added ∙ c.if-not-is_new.true) in (
      λ no. cc,
      λ distinct. absurd (twice c.args.exports.now _ _ _ c.loop-one-test.true c.one-item.is (rw c.name_of-name.ensures at there)
          distinct),
    )

pub loop-one-preserved : goal.loop-one-preserved
loop-one-preserved c =
    let new : has (names_of (take c.loop-one.one-index c.args.exports.now)) c.name_of-name.result.now ≡ false =
    sym (c.loop-one.invariant.known c.name_of-name.result) ∙ not_true _ (sym c.in_ok-is_new.ensures.added ∙ c.if-not-is_new.false) in
    record {
      known = λ q. known_turn c.args.exports.now _ _ _ c.loop-one-test.true c.one-item.is q.now _ _ (c.loop-one.invariant.known q)
          (rw c.name_of-name.ensures at (c.in_ok-is_new.ensures.updates.0 q));
      distinct = distinct_turn c.args.exports.now _ _ _ c.loop-one-test.true c.one-item.is (rw c.name_of-name.ensures at new)
          c.loop-one.invariant.distinct;
    }
