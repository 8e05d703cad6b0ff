use Rattle.smith_draw_types.proofs.Common.{ap, arith, get_or_from_slice_get, length, rules, slice_get_within, subst, ◌∙◌}
use Rattle.smith_draw_types.specs.TypeUses.{types_for, IsUsable}
use Rattle.smith_draw_types.proofs.ChosenLemmas.{placed}
use Rattle.smith_draw_types.proofs.TypeUseLemmas.{types_usable}
use Rattle.smith_draw_types.proofs.type_use.choose_type.Goals as goal

pub index_in-requires : goal.index_in-requires
index_in-requires c =
    let counted = c.count_in-last.ensures in
    let some = ap length (c.types_of-set.ensures c.args.space.now.types) in
    omega (arith, counted, some, c.requires.some, c.int_in_range-place.ensures.within, c.new.ensures.end)

pub returns-clause-draws : goal.returns-clause-draws
returns-clause-draws c =
    let same = c.types_of-set.ensures c.args.space.now.types in
    record {
      exact = placed _ _ _ _ _ _ _ (c.count_in-last.ensures ∙ ap length same)
          (rw (c.new.ensures.start, c.new.ensures.end) at c.int_in_range-place.ensures.exact) (rw same at c.index_in.ensures);
      left = search rules;
    }

pub returns-clause-usable : goal.returns-clause-usable
returns-clause-usable c =
    let types = c.args.space.now.types in
    let at = rw (c.types_of-set.ensures types) at c.index_in.ensures in
    let place = c.int_in_range-place.result in
    subst (λ n. IsUsable c.args.for_use types n) (get_or_from_slice_get (types_for c.args.for_use types) place c.index_in.result 0 at)
    (types_usable c.args.for_use types place 0 (slice_get_within (types_for c.args.for_use types) place c.index_in.result at))
