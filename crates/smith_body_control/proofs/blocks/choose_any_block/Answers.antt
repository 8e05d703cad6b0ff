use Rattle.smith_body_control.proofs.Common.{as_node, func_there, ok_like, sym, where_stands, ◌∙◌}
use Rattle.smith_body_control.proofs.BlockNodeLemmas.{func_block, empty_block}
use Rattle.smith_body_control.proofs.BlockChoiceLemmas.{any_block_by}
use Rattle.smith_body_control.proofs.HandlerLemmas.{handler_by, handler_gives}
use Rattle.smith_body_control.proofs.blocks.choose_any_block.Goals as goal

pub returns-then-is_of_handler-clause-node : goal.returns-then-is_of_handler-clause-node
returns-then-is_of_handler-clause-node c =
    ok_like _ c.handler.result
    (handler_gives (where_stands c.args.scope.now c.args.draft.now) c.args.draft.now.set.items c.int_in_range-number.result
    (sym c.is_of_handler.ensures ∙ c.if-is_of_handler.true)) c.handler.ensures.exact

pub returns-then-is_of_handler-clause-exact : goal.returns-then-is_of_handler-clause-exact
returns-then-is_of_handler-clause-exact c =
    let drawn = rw (c.new.ensures.start, c.new.ensures.end) at c.int_in_range-number.ensures.exact in
    ok_like _ c.handler.result
    (as_node _ _ _ (handler_by (where_stands c.args.scope.now c.args.draft.now) c.args.u.now _ c.int_in_range-number.result drawn
    (sym c.is_of_handler.ensures ∙ c.if-is_of_handler.true))) c.handler.ensures.exact

pub returns-in-Some-clause-node : goal.returns-in-Some-clause-node
returns-in-Some-clause-node c =
    let there = func_there _ c.int_in_range-index.result c.in-Some.function.now c.in-Some.ensures in
    ok_like _ c.block.result (func_block (where_stands c.args.scope.now c.args.draft.now) c.args.draft.now.set.items
    c.opening_of-opening.result c.int_in_range-index.result c.in-Some.function.now there
    (c.requires.scope.params_valid c.int_in_range-index.result c.in-Some.function.now there)
    (c.requires.scope.results_valid c.int_in_range-index.result c.in-Some.function.now there))
    (rw (c.as_slice.ensures, c.as_slice-in-Some.ensures, c.len.ensures) at c.block.ensures.exact)

pub returns-in-None-clause-node : goal.returns-in-None-clause-node
returns-in-None-clause-node c =
    ok_like _ c.block-in-None.result (empty_block (where_stands c.args.scope.now c.args.draft.now) c.args.draft.now.set.items
    c.opening_of-opening.result) c.block-in-None.ensures.exact

pub returns-in-Some-clause-exact : goal.returns-in-Some-clause-exact
returns-in-Some-clause-exact c =
    let drawn = rw (c.new.ensures.start, c.new.ensures.end) at c.int_in_range-number.ensures.exact in
    let drawn' = rw (c.new-2.ensures.start, c.new-2.ensures.end, c.indexed_count.ensures, c.types.ensures.value) at
    c.int_in_range-index.ensures.exact in
    ok_like _ c.block.result
    (as_node _ _ _ (any_block_by (where_stands c.args.scope.now c.args.draft.now) c.args.u.now _ _ c.int_in_range-number.result
    c.opening_of-opening.result c.int_in_range-index.result _
    drawn (sym c.is_of_handler.ensures ∙ c.if-is_of_handler.false) (sym c.opening_of-opening.ensures) drawn' c.in-Some.ensures))
    (rw (c.as_slice.ensures, c.as_slice-in-Some.ensures, c.len.ensures) at c.block.ensures.exact)

pub returns-in-None-clause-exact : goal.returns-in-None-clause-exact
returns-in-None-clause-exact c =
    let drawn = rw (c.new.ensures.start, c.new.ensures.end) at c.int_in_range-number.ensures.exact in
    let drawn' = rw (c.new-2.ensures.start, c.new-2.ensures.end, c.indexed_count.ensures, c.types.ensures.value) at
    c.int_in_range-index.ensures.exact in
    ok_like _ c.block-in-None.result
    (as_node _ _ _ (any_block_by (where_stands c.args.scope.now c.args.draft.now) c.args.u.now _ _ c.int_in_range-number.result
    c.opening_of-opening.result c.int_in_range-index.result _
    drawn (sym c.is_of_handler.ensures ∙ c.if-is_of_handler.false) (sym c.opening_of-opening.ensures) drawn' c.in-None.ensures))
    c.block-in-None.ensures.exact
