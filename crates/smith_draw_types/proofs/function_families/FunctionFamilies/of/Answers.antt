use Rattle.smith_draw_types.proofs.Common.{ap, arith, length, List, slice_get, slice_get-get_or, Some, SubType, sym, ◌<◌, ◌∙◌, ◌≡◌}
use Rattle.smith_draw_types.proofs.FunctionListLemmas.{none_listed, noted_is}
use Rattle.smith_draw_types.proofs.function_families.FunctionFamilies.of.Goals as goal

pub loop-index-init : goal.loop-index-init
loop-index-init c = λ context same right. none_listed _ _ _ c.new.ensures.items c.new-2.ensures.items c.new-3.ensures.items

pub loop-index-preserved : goal.loop-index-preserved
loop-index-preserved c = λ context same right.
    let types = c.types-types.result.now in
    let index = c.loop-index.index in
    let inside : index < length types = omega (arith, c.loop-index-test.true) in
    let at : slice_get types index ≡ Some c.index-types-index.result =
    slice_get-get_or types index _ inside ∙ ap Some (sym c.index-types-index.is) in
    let within : index < length context.types = omega (arith, inside, ap (λ (l : List SubType). length l) same) in
    let decided = c.are_grounding-grounded.ensures.decided context right within in
    let noted = noted_is context c.args.grounds.now index c.are_grounding-grounded.result within right decided in
    c.in_ok-note.ensures.listed types c.args.grounds.now at noted (c.loop-index.invariant context same right)
