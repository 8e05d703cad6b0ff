use Rattle.smith_body_leaves.proofs.Common.{arith, bare, field_valid, refl, where_stands, ◌∙◌}
use Rattle.smith_body_leaves.proofs.SingleLemmas.{no_single, single_before, single_written}
use Rattle.smith_body_leaves.proofs.creations.write_singles.Goals as goal

pub first_single-single-requires-clause-wanted : goal.first_single-single-requires-clause-wanted
first_single-single-requires-clause-wanted c =
    rw c.unpack.ensures (field_valid (bare c.args.scope.now) c.args.fields.now c.loop-index.index _ c.requires.fields
    c.loop-index-test.true)

pub loop-index-init : goal.loop-index-init
loop-index-init c = record { out = refl; set = refl; same = refl; budget = refl }

pub loop-index-preserved : goal.loop-index-preserved
loop-index-preserved c =
    let so_far = c.loop-index.invariant in
    let config = c.args.scope.now.config.now in
    let context = where_stands c.args.scope.now c.args.draft.now in
    let set = c.args.draft.now.set.items in
    let is = single_before c.args.scope.now c.args.draft.now c.loop-index.draft _ _ so_far.set so_far.same c.first_single-single.ensures in
    record {
      out = single_written config context set c.args.fields.now c.loop-index.index _ _ _ _ c.first_single-single.result
          c.loop-index-test.true (rw c.unpack.ensures at is) c.in_ok-write_some.ensures.out so_far.out;
      set = c.write_some.ensures.set ∙ so_far.set;
      same = c.write_some.ensures.same ∙ so_far.same;
      budget = c.write_some.ensures.budget ∙ so_far.budget;
    }

pub returns-clause-out : goal.returns-clause-out
returns-clause-out c =
    no_single c.args.scope.now.config.now (where_stands c.args.scope.now c.args.draft.now) c.args.draft.now.set.items c.args.fields.now
    c.loop-index.index _ _ (omega arith) c.loop-index.invariant.out
