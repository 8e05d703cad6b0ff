use Rattle.smith_draw_types.proofs.Common.{ap, arith, drop, get_or, GroupedTypes, length, length-append, length-drop, subst, SubType, sym}
use Rattle.smith_draw_types.proofs.Common.{take, ◌-◌, ◌∙◌, ◌≡◌}
use Rattle.std.proofs.lemmas.List.{length-take}
use Rattle.smith_draw_types.proofs.CopiesLoop.{copied, copy_follows}
use Rattle.smith_draw_types.proofs.rec_group.add_copies.Goals as goal

pub add_type-requires : goal.add_type-requires
add_type-requires c =
    let at = subst (λ (t : SubType). t ≡ get_or c.loop-index.types.types c.loop-index.index t) (sym c.in_ok-copy.ensures.ok)
    (rw c.types.ensures.value at c.index-types-index.is) in
    let old = c.args.types.now.types in
    let front = take (c.loop-index.index - c.args.start) (drop c.args.start old) in
    let len = ap (λ (ts : _). length {A = SubType} ts) c.loop-index.invariant.types in
    let longer = length-append old front in
    let few = length-take (c.loop-index.index - c.args.start) (drop c.args.start old) in
    let rest = length-drop c.args.start old in
    copy_follows c.loop-index.types c.loop-index.index c.in_ok-copy.copy c.types.ensures.sound (omega arith) at (omega arith)

pub loop-index-preserved : goal.loop-index-preserved
loop-index-preserved c =
    let at = subst (λ (t : SubType). t ≡ get_or c.loop-index.types.types c.loop-index.index t) (sym c.in_ok-copy.ensures.ok)
    (rw c.types.ensures.value at c.index-types-index.is) in
    record {
      types = copied c.args.types.now.types c.loop-index.types.types _ c.args.start c.args.end c.loop-index.index c.in_ok-copy.copy
          c.loop-index.auto.index (omega arith) c.requires.inside c.loop-index.invariant.types at
          (ap (λ (s : GroupedTypes). s.types) c.in_ok-add_type.ensures.ok);
      groups = ap (λ (s : GroupedTypes). s.groups) c.in_ok-add_type.ensures.ok ∙ c.loop-index.invariant.groups;
    }
