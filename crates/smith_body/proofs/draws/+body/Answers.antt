use Rattle.smith_body.proofs.Common.{[], AreValid, arith, bare, IsNode, label_of, length, no_valid, on_ok_weaker, opened, refl, subst, sym}
use Rattle.smith_body.proofs.Common.{where_stands, widest, ◌-◌, ◌∙◌, ◌≡◌, ◌≤◌}
use Rattle.smith_body_nodes.proofs.ResultLemmas.{ok_both}
use Rattle.std.proofs.lemmas.List.{take_all}
use Rattle.smith_body.proofs.DrawnLemmas.{paid_for, drawn_none, drawn_then, drawn_within, drawn_turn, plain_drawn, enclosed_drawn, if_drawn}
use Rattle.smith_body.proofs.DrawnLemmas.{labels_kept, try_drawn}
use Rattle.smith_body.specs.Bodies.{drawing_at, statement_at}
use Rattle.smith_types.specs.Syntax.FeatureBits.{features_in}
use Rattle.smith_body.specs.DraftSteps.{state_of}
use Rattle.smith_body_nodes.proofs.StopLemmas.{node_goes_on}
use Rattle.smith_body.proofs.ExactLemmas.{all_left, chosen_ending, chosen_statement, chosen_value, deep_statements, drops_written}
use Rattle.smith_body.proofs.ExactLemmas.{enclosed_exact, forbidden_ending, forbidden_statement, head_enclosed, head_if, head_try, if_exact}
use Rattle.smith_body.proofs.ExactLemmas.{inside_exact, last_statements, last_value, next_value, no_ending, no_values, node_exact}
use Rattle.smith_body.proofs.ExactLemmas.{none_left, one_less, opened_again, opened_once, other_value, plain_exact, results_dead}
use Rattle.smith_body.proofs.ExactLemmas.{results_drawn, results_ended, results_still, stopped, unpaid_value}
use Rattle.smith_instr.specs.declared.instr.Instr.TheVariants as instr
use Rattle.smith_body.proofs.draws.+body.Goals.{draw_value-then-depth-eq0-via-then-depth-eq0}
use Rattle.smith_body.proofs.draws.+body.Goals.{draw_value-then-depth-eq0-via-else-depth-eq0+then-draft-eq0}
use Rattle.smith_body.proofs.draws.+body.Goals.{draw_masked-then-draft-eq0-via-then-draft-eq0}
use Rattle.smith_body.proofs.draws.+body.Goals.{draw_masked-then-draft-eq0-via-else-draft-eq0+then-not-is_allowed}
use Rattle.smith_body.proofs.draws.+body.Goals.{draw_masked-then-draft-eq0-via-else-draft-eq0+else-not-is_allowed+then-not-is_allowed-2}
use Rattle.smith_body.proofs.draws.+body.Goals as goal
use Rattle.smith_body.proofs.LeftLemmas.{node_drawn, spare_few, spare_valid}
use Rattle.smith_body.proofs.RepeatLemmas.{budget_less, inside_drawn, opened_drawn, repeated_drawn, repeated_exact, without_params}
use Rattle.smith_body.proofs.OperandLemmas.{next_operand, by_way, constant_drawn, near_constant, near_value, written_state, masked_drawn}
use Rattle.smith_body.proofs.OperandLemmas.{masked_value, masks_written, no_mask, no_masking, unpaid_masked}
use Rattle.smith_body.specs.declared.operands.OperandWay.TheVariants as way
use Rattle.smith_body.specs.Operands.{address_constant, mask_of, masking}

pub draw_value-returns-then-depth-eq0-clause-exact : goal.draw_value-returns-then-depth-eq0-clause-exact
draw_value-returns-then-depth-eq0-clause-exact t c = elim c.then-depth-eq0.branch [
  | draw_value-then-depth-eq0-via-then-depth-eq0 w ↦
      on_ok_weaker c.write_leaf.result (λ is. last_value c.args.scope.now.config.now c.args.depth c.args.wanted
      (state_of c.args.scope.now c.args.draft.now c.args.u.now) (omega (arith, w.if-depth-eq0.true)) ∙ is) c.write_leaf.ensures.exact
  | draw_value-then-depth-eq0-via-else-depth-eq0+then-draft-eq0 w ↦
      on_ok_weaker c.write_leaf.result (λ is. unpaid_value c.args.scope.now.config.now c.args.depth c.args.wanted
      (state_of c.args.scope.now c.args.draft.now c.args.u.now) (omega (arith, w.if-draft-eq0.true)) ∙ is) c.write_leaf.ensures.exact
]

pub draw_value-returns-in-Some-clause-exact : goal.draw_value-returns-in-Some-clause-exact
draw_value-returns-in-Some-clause-exact t c =
    on_ok_weaker c.draw_node.result (λ is. chosen_value c.args.scope.now.config.now c.args.depth c.args.wanted
    (state_of c.args.scope.now c.args.draft.now c.args.u.now) c.in-Some.node _ (omega arith) (omega arith)
    (rw c.in-Some.is at c.in_ok-chosen.ensures.exact) ∙ is) c.draw_node.ensures.exact

pub draw_value-returns-in-None-clause-exact : goal.draw_value-returns-in-None-clause-exact
draw_value-returns-in-None-clause-exact t c =
    on_ok_weaker c.write_leaf-in-None.result (λ is. other_value c.args.scope.now.config.now c.args.depth c.args.wanted
    (state_of c.args.scope.now c.args.draft.now c.args.u.now) _ (omega arith) (omega arith)
    (rw c.in-None.is at c.in_ok-chosen.ensures.exact) ∙ is) c.write_leaf-in-None.ensures.exact

pub draw_values-loop-value-init : goal.draw_values-loop-value-init
draw_values-loop-value-init t c = record {
  drawn = drawn_none c.args.scope.now c.args.draft.now;
  exact = refl;
  labels = c.requires.labels;
  kept = λ whole h. h;
}

pub draw_values-loop-value-preserved : goal.draw_values-loop-value-preserved
draw_values-loop-value-preserved t c = record {
  drawn = drawn_turn c.args.wanted.now c.loop-value.value-index _ c.requires.valid c.loop-value-test.true c.loop-value.invariant.drawn
      c.in_ok-draw_value.ensures.drawn;
  exact = c.loop-value.invariant.exact ∙ next_value (drawing_at c.args.scope.now.config.now c.args.depth) c.args.wanted.now
      c.loop-value.value-index _ _ _ c.loop-value-test.true c.in_ok-draw_value.ensures.exact;
  labels = labels_kept c.in_ok-draw_value.ensures.drawn c.loop-value.invariant.labels;
  kept = λ whole h. c.draw_value.ensures.left whole (c.loop-value.invariant.kept whole h);
}

pub draw_values-returns-clause-drawn : goal.draw_values-returns-clause-drawn
draw_values-returns-clause-drawn t c = rw (take_all c.loop-value.value-index c.args.wanted.now (omega arith)) at
    c.loop-value.invariant.drawn

pub draw_statements-loop-draft-init : goal.draw_statements-loop-draft-init
draw_statements-loop-draft-init t c = record {
  drawn = drawn_none c.args.scope.now c.args.draft.now;
  rest = all_left (statement_at c.args.scope.now.config.now (drawing_at c.args.scope.now.config.now (c.args.depth - 1)))
      (state_of c.args.scope.now c.args.draft.now c.args.u.now);
  labels = c.requires.labels;
  kept = λ whole h. h;
}

pub draw_statements-loop-draft-preserved : goal.draw_statements-loop-draft-preserved
draw_statements-loop-draft-preserved t c = record {
  drawn = drawn_then c.loop-draft.invariant.drawn c.in_ok-draw_statement.ensures.drawn;
  rest = one_less (statement_at c.args.scope.now.config.now (drawing_at c.args.scope.now.config.now (c.args.depth - 1))) _ _ _
      c.int_in_range-number.result _ (omega arith) (rw (c.new.ensures.start, c.new.ensures.end) at c.int_in_range-number.ensures.exact)
      (rw (← c.interval.ensures.exact) (omega (arith, c.if-number-interval-eq0.false))) c.in_ok-draw_statement.ensures.exact
      c.in_ok-draw_statement.ensures.less c.loop-draft.invariant.rest;
  labels = labels_kept c.in_ok-draw_statement.ensures.drawn c.loop-draft.invariant.labels;
  kept = λ whole h. c.draw_statement.ensures.left whole (c.int_in_range-number.ensures.left whole (c.loop-draft.invariant.kept whole h));
}

pub draw_statements-returns-then-depth-eq0-clause-drawn : goal.draw_statements-returns-then-depth-eq0-clause-drawn
draw_statements-returns-then-depth-eq0-clause-drawn t c = drawn_none c.args.scope.now c.args.draft.now

pub draw_head-returns-in-Plain-clause-drawn : goal.draw_head-returns-in-Plain-clause-drawn
draw_head-returns-in-Plain-clause-drawn t c = λ operands given values typed below valid goes_on local.
    on_ok_weaker c.write_plain.result (plain_drawn c.args.head c.in-Plain.instruction operands given values c.args.sets c.in-Plain.is typed
    below valid c.requires.allowed.instruction goes_on local) c.write_plain.ensures.written

pub draw_enclosed-returns-clause-drawn : goal.draw_enclosed-returns-clause-drawn
draw_enclosed-returns-clause-drawn t c = λ values fits may below valid.
    let sides = c.args.sides.now in
    let start = rw (c.opening_instr.ensures, c.label_of-label.ensures) at c.in_ok-write_opening.ensures.opened in
    let drawn = c.in_ok-draw_inside.ensures.drawn in
    ok_both c.write_end.result (enclosed_drawn c.args.opening c.args.ty sides.params sides.results values fits may c.requires.sides.results
    below valid c.requires.allowed c.requires.sides.few start drawn c.len-height.result c.len-height.ensures)
    c.write_end.ensures.ended (c.write_end.ensures.left_label _ _ (drawn.same ∙ start.labels))

pub draw_if-returns-clause-drawn : goal.draw_if-returns-clause-drawn
draw_if-returns-clause-drawn t c = λ values fits below valid.
    let sides = c.args.sides.now in
    let start = rw c.as_slice.ensures at c.in_ok-write_opening.ensures.opened in
    let first = c.in_ok-draw_inside.ensures.drawn in
    let last = c.in_ok-draw_inside-2.ensures.drawn in
    ok_both c.write_end.result (if_drawn c.args.ty sides.params sides.results values fits below valid c.requires.allowed
    c.requires.sides.few start first c.len-height.result c.len-height.ensures c.in_ok-write_else.ensures.ended
    c.in_ok-write_else.ensures.same last)
    c.write_end.ensures.ended
    (c.write_end.ensures.left_label _ _ (last.same ∙ (c.in_ok-write_else.ensures.same ∙ (first.same ∙ start.labels))))

pub draw_if-returns-clause-left : goal.draw_if-returns-clause-left
draw_if-returns-clause-left t c = λ whole h. c.draw_inside-2.ensures.left whole (c.draw_inside.ensures.left whole h)

pub draw_inside-returns-clause-drawn : goal.draw_inside-returns-clause-drawn
draw_inside-returns-clause-drawn t c =
    let settled = rw c.as_slice.ensures at c.in_ok-settle_values.ensures.drawn in
    on_ok_weaker c.draw_results.result (λ results. drawn_then settled results) (rw c.as_slice-2.ensures at c.draw_results.ensures.drawn)

pub draw_node-settle_values-requires-clause-values : goal.draw_node-settle_values-requires-clause-values
draw_node-settle_values-requires-clause-values t c = rw (c.as_slice-2.ensures, c.in_ok-spare.ensures.exact)
    (spare_valid c.args.scope.now c.args.draft.now.labels.items c.args.node.head c.args.node.drops c.requires.scope c.requires.labels
    c.requires.inside)

pub draw_node-settle_values-requires-clause-drops : goal.draw_node-settle_values-requires-clause-drops
draw_node-settle_values-requires-clause-drops t c = rw (c.as_slice-2.ensures, c.in_ok-spare.ensures.exact)
    (λ some.
    let few = spare_few (where_stands c.args.scope.now c.args.draft.now) c.args.node.head c.args.node.drops in
    c.requires.allowed.drops (omega arith))

pub draw_node-returns-clause-drawn : goal.draw_node-returns-clause-drawn
draw_node-returns-clause-drawn t c = λ values fits goes_on.
    let spare = c.in_ok-spare.ensures.exact in
    let valid = subst (AreValid (bare c.args.scope.now)) (sym spare)
    (spare_valid c.args.scope.now c.args.draft.now.labels.items c.args.node.head
    c.args.node.drops c.requires.scope c.requires.labels c.requires.inside) in
    let operands = rw c.as_slice.ensures at c.in_ok-draw_operands.ensures.drawn in
    let settles = rw c.as_slice-2.ensures at c.in_ok-settle_values.ensures.drawn in
    let out = rw (c.saturating_sub.ensures, c.len.ensures) at c.drop_values.ensures.out in
    on_ok_weaker c.drop_values.result
    (λ out. node_drawn fits c.requires.allowed.drops goes_on c.requires.paid operands
    c.in_ok-draw_head.ensures.drawn _ spare valid settles out
    c.drop_values.ensures.set c.drop_values.ensures.same c.drop_values.ensures.budget)
    out

pub draw_statement-returns-then-not-is_node_allowed-clause-drawn : goal.draw_statement-returns-then-not-is_node_allowed-clause-drawn
draw_statement-returns-then-not-is_node_allowed-clause-drawn t c =
    rw c.saturating_sub-draft.ensures
    (paid_for {n = 0} (omega arith) c.requires.paid
    (drawn_none c.args.scope.now (record c.args.draft.now { budget = c.args.draft.now.budget - 1 })))

pub draw_statement-returns-clause-drawn : goal.draw_statement-returns-clause-drawn
draw_statement-returns-clause-drawn t c =
    c.draw_node.ensures.drawn [] c.in_ok-node.ensures.node
    (node_goes_on (features_in c.args.scope.now.features) c.args.scope.now.config.now c.in_ok-node.node (sym c.is_node_allowed.ensures.exact
    ∙ c.if-not-is_node_allowed.false))

pub draw_values-returns-clause-exact : goal.draw_values-returns-clause-exact
draw_values-returns-clause-exact t c = c.loop-value.invariant.exact ∙ no_values (drawing_at c.args.scope.now.config.now c.args.depth)
    c.args.wanted.now c.loop-value.value-index _ (omega arith)

pub draw_statements-returns-then-depth-eq0-clause-exact : goal.draw_statements-returns-then-depth-eq0-clause-exact
draw_statements-returns-then-depth-eq0-clause-exact t c = last_statements c.args.scope.now.config.now c.args.depth
    (state_of c.args.scope.now c.args.draft.now c.args.u.now) (omega arith)

pub draw_statements-returns-then-number-interval-eq0-clause-exact : goal.draw_statements-returns-then-number-interval-eq0-clause-exact
draw_statements-returns-then-number-interval-eq0-clause-exact t c =
    deep_statements c.args.scope.now.config.now c.args.depth (state_of c.args.scope.now c.args.draft.now c.args.u.now) (omega arith)
    ∙ stopped (statement_at c.args.scope.now.config.now (drawing_at c.args.scope.now.config.now (c.args.depth - 1))) _ _
    c.int_in_range-number.result _ (omega arith) (rw (c.new.ensures.start, c.new.ensures.end) at c.int_in_range-number.ensures.exact)
    (rw (← c.interval.ensures.exact) (omega (arith, c.if-number-interval-eq0.true))) c.loop-draft.invariant.rest

pub draw_statements-returns-clause-exact : goal.draw_statements-returns-clause-exact
draw_statements-returns-clause-exact t c = deep_statements c.args.scope.now.config.now c.args.depth
    (state_of c.args.scope.now c.args.draft.now c.args.u.now) (omega arith)
    ∙ none_left (statement_at c.args.scope.now.config.now (drawing_at c.args.scope.now.config.now (c.args.depth - 1))) _ _ (omega arith)
    c.loop-draft.invariant.rest

pub draw_statement-returns-then-not-is_node_allowed-clause-exact : goal.draw_statement-returns-then-not-is_node_allowed-clause-exact
draw_statement-returns-then-not-is_node_allowed-clause-exact t c =
    rw c.saturating_sub-draft.ensures (forbidden_statement c.args.scope.now.config.now
    (drawing_at c.args.scope.now.config.now (c.args.depth - 1)) (state_of c.args.scope.now c.args.draft.now c.args.u.now) _ _
    c.in_ok-node.ensures.exact (sym c.is_node_allowed.ensures.exact ∙ c.if-not-is_node_allowed.true))

pub draw_statement-returns-clause-exact : goal.draw_statement-returns-clause-exact
draw_statement-returns-clause-exact t c =
    on_ok_weaker c.draw_node.result (λ is. chosen_statement c.args.scope.now.config.now
    (drawing_at c.args.scope.now.config.now (c.args.depth - 1)) (state_of c.args.scope.now c.args.draft.now c.args.u.now) _ _
    c.in_ok-node.ensures.exact (sym c.is_node_allowed.ensures.exact ∙ c.if-not-is_node_allowed.false) ∙ is) c.draw_node.ensures.exact

pub draw_node-returns-clause-exact : goal.draw_node-returns-clause-exact
draw_node-returns-clause-exact t c =
    let settling = rw c.as_slice-2.ensures at c.in_ok-settle_values.ensures.exact in
    let out = rw (c.saturating_sub.ensures, c.len.ensures) at c.drop_values.ensures.out in
    on_ok_weaker c.drop_values.result
    (λ out. node_exact c.args.scope.now.config.now (drawing_at c.args.scope.now.config.now c.args.depth) c.args.node (state_of
    c.args.scope.now c.args.draft.now c.args.u.now) _ _ _ _ (rw c.as_slice.ensures at c.in_ok-draw_operands.ensures.exact)
    c.in_ok-draw_head.ensures.exact c.in_ok-spare.ensures.exact settling
    ∙ drops_written c.args.scope.now _ c.settle_values.new.draft c.drop_values.new.draft c.settle_values.new.u out
    c.drop_values.ensures.set c.drop_values.ensures.same c.drop_values.ensures.budget) out

pub draw_head-returns-in-Plain-clause-exact : goal.draw_head-returns-in-Plain-clause-exact
draw_head-returns-in-Plain-clause-exact t c =
    on_ok_weaker c.write_plain.result (λ done. plain_exact c.args.scope.now c.args.scope.now.config.now
    (drawing_at c.args.scope.now.config.now c.args.depth) c.args.head c.in-Plain.instruction c.args.sets c.args.draft.now _ c.args.u.now
    c.in-Plain.is done) c.write_plain.ensures.written

pub draw_head-returns-in-Enclosed-clause-exact : goal.draw_head-returns-in-Enclosed-clause-exact
draw_head-returns-in-Enclosed-clause-exact t c =
    on_ok_weaker c.draw_opened.result (λ is. head_enclosed c.args.scope.now.config.now (drawing_at c.args.scope.now.config.now
    c.args.depth) c.args.head c.in-Enclosed.opening c.in-Enclosed.ty c.in-Enclosed.sides c.args.sets (state_of c.args.scope.now
    c.args.draft.now c.args.u.now) c.in-Enclosed.is ∙ is) c.draw_opened.ensures.exact

pub draw_opened-draw_repeated-requires : goal.draw_opened-draw_repeated-requires
draw_opened-draw_repeated-requires t c =
    let repeats = rw c.in-Some.is at c.draw_repeat.ensures.may in
    let few : length c.args.sides.now.results ≤ widest c.args.scope.now.types.now.types = omega (arith, c.requires.sides.few) in (
      omega arith,
      (
        c.requires.scope,
        (
          c.requires.labels,
          (
            rw c.as_slice.ensures c.requires.sides.results,
            (
              rw c.as_slice.ensures few,
              (rw repeats.loop at c.requires.allowed, (repeats.counts, repeats.paid)),
            ),
          ),
        ),
      ),
    )

pub draw_opened-returns-in-Some-clause-drawn : goal.draw_opened-returns-in-Some-clause-drawn
draw_opened-returns-in-Some-clause-drawn t c = λ values fits may below valid.
    let repeats = rw c.in-Some.is at c.draw_repeat.ensures.may in
    let sides = c.args.sides.now in
    let drawn = rw c.as_slice.ensures at c.draw_repeated.ensures.drawn in
    on_ok_weaker c.draw_repeated.result (λ drawn. opened_drawn c.args.opening sides.params values repeats.loop repeats.none drawn)
    (drawn values (without_params (bare c.args.scope.now) c.args.ty sides.params sides.results repeats.none fits) below valid)

pub draw_opened-returns-in-Some-clause-exact : goal.draw_opened-returns-in-Some-clause-exact
draw_opened-returns-in-Some-clause-exact t c =
    on_ok_weaker c.draw_repeated.result
    (λ is. opened_again c.args.scope.now.config.now (drawing_at c.args.scope.now.config.now c.args.depth) c.args.opening c.args.ty
    c.args.sides.now (state_of c.args.scope.now c.args.draft.now c.args.u.now) c.in-Some.repeat _ (rw c.in-Some.is at
    c.draw_repeat.ensures.exact) ∙ is) (rw c.as_slice.ensures at c.draw_repeated.ensures.exact)

pub draw_opened-returns-in-None-clause-exact : goal.draw_opened-returns-in-None-clause-exact
draw_opened-returns-in-None-clause-exact t c =
    on_ok_weaker c.draw_enclosed.result
    (λ is. opened_once c.args.scope.now.config.now (drawing_at c.args.scope.now.config.now c.args.depth) c.args.opening c.args.ty
    c.args.sides.now (state_of c.args.scope.now c.args.draft.now c.args.u.now) _ (rw c.in-None.is at c.draw_repeat.ensures.exact) ∙ is)
    c.draw_enclosed.ensures.exact

pub draw_tested-returns-in-Counted-clause-exact : goal.draw_tested-returns-in-Counted-clause-exact
draw_tested-returns-in-Counted-clause-exact t c = rw c.in-Counted.is (c.write_down.ensures.exact c.args.scope.now c.args.u.now)

pub draw_tested-returns-in-Counted-clause-drawn : goal.draw_tested-returns-in-Counted-clause-drawn
draw_tested-returns-in-Counted-clause-drawn t c = c.write_down.ensures.drawn c.args.scope.now (rw c.in-Counted.is at c.requires.counts)

pub draw_tested-returns-in-Tested-clause-exact : goal.draw_tested-returns-in-Tested-clause-exact
draw_tested-returns-in-Tested-clause-exact t c = rw c.in-Tested.is c.draw_value.ensures.exact

pub draw_tested-returns-in-Tested-clause-drawn : goal.draw_tested-returns-in-Tested-clause-drawn
draw_tested-returns-in-Tested-clause-drawn t c = on_ok_weaker c.draw_value.result (λ drawn. drawn_within (omega arith) drawn)
    c.draw_value.ensures.drawn

pub draw_repeated-returns-clause-drawn : goal.draw_repeated-returns-clause-drawn
draw_repeated-returns-clause-drawn t c = λ values fits below valid.
    let count = rw c.saturating_sub-draft.ensures at (c.in_ok-write_count.ensures.drawn c.args.scope.now c.requires.counts) in
    let start = c.in_ok-write_opening.ensures.opened in
    let inside = inside_drawn c.args.ty _ c.args.results.now c.requires.allowed start.labels c.in_ok-draw_statements.ensures.drawn
    c.in_ok-draw_tested.ensures.drawn c.in_ok-write_plain.ensures.written c.in_ok-draw_values.ensures.drawn in
    ok_both c.write_end.result
    (repeated_drawn c.args.ty c.args.results.now values fits c.requires.valid below valid c.requires.allowed c.requires.few c.requires.paid
    count start inside c.len-height.result c.len-height.ensures)
    c.write_end.ensures.ended (c.write_end.ensures.left_label _ _ (inside.same ∙ start.labels))

pub draw_repeated-returns-clause-exact : goal.draw_repeated-returns-clause-exact
draw_repeated-returns-clause-exact t c =
    let count = rw c.saturating_sub-draft.ensures at (c.in_ok-write_count.ensures.drawn c.args.scope.now c.requires.counts) in
    let counted = rw c.saturating_sub-draft.ensures at (c.in_ok-write_count.ensures.exact c.args.scope.now c.args.u.now) in
    let start = c.in_ok-write_opening.ensures.opened in
    let inside = inside_drawn c.args.ty _ c.args.results.now c.requires.allowed start.labels c.in_ok-draw_statements.ensures.drawn
    c.in_ok-draw_tested.ensures.drawn c.in_ok-write_plain.ensures.written c.in_ok-draw_values.ensures.drawn in
    ok_both c.write_end.result
    (repeated_exact c.args.scope.now (drawing_at c.args.scope.now.config.now c.args.depth) c.args.repeat c.args.ty c.args.results.now
    c.args.draft.now _ _ _ _ _ _ _ c.args.u.now _ _ _ _ c.len-height.result count
    c.in_ok-draw_statements.ensures.drawn counted start c.in_ok-draw_statements.ensures.exact
    c.in_ok-draw_tested.ensures.exact c.in_ok-write_plain.ensures.written c.in_ok-draw_values.ensures.exact inside c.len-height.ensures)
    c.write_end.ensures.ended (c.write_end.ensures.left_label _ _ (inside.same ∙ start.labels))

pub draw_repeated-returns-clause-less : goal.draw_repeated-returns-clause-less
draw_repeated-returns-clause-less t c =
    let count = rw c.saturating_sub-draft.ensures at (c.in_ok-write_count.ensures.drawn c.args.scope.now c.requires.counts) in
    let start = c.in_ok-write_opening.ensures.opened in
    let inside = inside_drawn c.args.ty _ c.args.results.now c.requires.allowed start.labels c.in_ok-draw_statements.ensures.drawn
    c.in_ok-draw_tested.ensures.drawn c.in_ok-write_plain.ensures.written c.in_ok-draw_values.ensures.drawn in
    on_ok_weaker c.write_end.result (λ end. budget_less count start inside end) c.write_end.ensures.ended

pub draw_repeated-returns-clause-left : goal.draw_repeated-returns-clause-left
draw_repeated-returns-clause-left t c = λ whole h.
    c.draw_values.ensures.left whole (c.draw_tested.ensures.left whole (c.draw_statements.ensures.left whole h))

pub draw_head-returns-in-If-clause-exact : goal.draw_head-returns-in-If-clause-exact
draw_head-returns-in-If-clause-exact t c =
    on_ok_weaker c.draw_if.result (λ is. head_if c.args.scope.now.config.now (drawing_at c.args.scope.now.config.now c.args.depth)
    c.args.head c.in-If.ty c.in-If.sides c.args.sets (state_of c.args.scope.now c.args.draft.now c.args.u.now) c.in-If.is ∙ is)
    c.draw_if.ensures.exact

pub draw_enclosed-returns-clause-exact : goal.draw_enclosed-returns-clause-exact
draw_enclosed-returns-clause-exact t c =
    let sides = c.args.sides.now in
    let start = rw (c.opening_instr.ensures, c.label_of-label.ensures) at c.in_ok-write_opening.ensures.opened in
    let drawn = c.in_ok-draw_inside.ensures.drawn in
    ok_both c.write_end.result (enclosed_exact c.args.scope.now (drawing_at c.args.scope.now.config.now c.args.depth)
    (opened c.args.opening c.args.ty) (label_of c.args.opening sides.params sides.results) sides c.args.draft.now _ _ _ _ _
    c.len-height.result start c.in_ok-draw_inside.ensures.exact drawn c.len-height.ensures)
    c.write_end.ensures.ended (c.write_end.ensures.left_label _ _ (drawn.same ∙ start.labels))

pub draw_if-returns-clause-exact : goal.draw_if-returns-clause-exact
draw_if-returns-clause-exact t c =
    let sides = c.args.sides.now in
    let start = rw c.as_slice.ensures at c.in_ok-write_opening.ensures.opened in
    let first = c.in_ok-draw_inside.ensures.drawn in
    let last = c.in_ok-draw_inside-2.ensures.drawn in
    ok_both c.write_end.result (if_exact c.args.scope.now (drawing_at c.args.scope.now.config.now c.args.depth) c.args.ty sides
    c.args.draft.now _ _ _ _ _ _ _ _ c.len-height.result start c.in_ok-draw_inside.ensures.exact first c.len-height.ensures
    c.in_ok-write_else.ensures.ended c.in_ok-write_else.ensures.same c.in_ok-draw_inside-2.ensures.exact last)
    c.write_end.ensures.ended
    (c.write_end.ensures.left_label _ _ (last.same ∙ (c.in_ok-write_else.ensures.same ∙ (first.same ∙ start.labels))))

pub draw_inside-returns-clause-exact : goal.draw_inside-returns-clause-exact
draw_inside-returns-clause-exact t c =
    let settling = rw c.as_slice.ensures at c.in_ok-settle_values.ensures.exact in
    on_ok_weaker c.draw_results.result
    (λ is. inside_exact c.args.scope.now.config.now (drawing_at c.args.scope.now.config.now c.args.depth) c.args.sides.now (state_of
    c.args.scope.now c.args.draft.now c.args.u.now) _ settling ∙ is) (rw c.as_slice-2.ensures at c.draw_results.ensures.exact)

pub draw_head-returns-in-Try-clause-exact : goal.draw_head-returns-in-Try-clause-exact
draw_head-returns-in-Try-clause-exact t c =
    on_ok_weaker c.draw_try.result (λ is. head_try c.args.scope.now.config.now (drawing_at c.args.scope.now.config.now c.args.depth)
    c.args.head c.in-Try.ty c.in-Try.clauses c.in-Try.sides c.args.sets (state_of c.args.scope.now c.args.draft.now c.args.u.now)
    c.in-Try.is ∙ is) c.draw_try.ensures.exact

pub draw_try-returns-clause-drawn : goal.draw_try-returns-clause-drawn
draw_try-returns-clause-drawn t c = λ values fits caught below valid.
    let sides = c.args.sides.now in
    let start = rw c.as_slice.ensures at c.in_ok-write_opening.ensures.opened in
    let drawn = c.in_ok-draw_inside.ensures.drawn in
    ok_both c.write_end.result (try_drawn c.args.ty c.args.clauses sides.params sides.results values fits caught below valid
    c.requires.allowed c.requires.sides.few start drawn c.len-height.result c.len-height.ensures)
    c.write_end.ensures.ended (c.write_end.ensures.left_label _ _ (drawn.same ∙ start.labels))

pub draw_try-returns-clause-exact : goal.draw_try-returns-clause-exact
draw_try-returns-clause-exact t c =
    let sides = c.args.sides.now in
    let start = rw c.as_slice.ensures at c.in_ok-write_opening.ensures.opened in
    let drawn = c.in_ok-draw_inside.ensures.drawn in
    ok_both c.write_end.result (enclosed_exact c.args.scope.now (drawing_at c.args.scope.now.config.now c.args.depth)
    (instr.TryTable c.args.ty c.args.clauses) sides.results sides c.args.draft.now _ _ _ _ _ c.len-height.result start
    c.in_ok-draw_inside.ensures.exact drawn c.len-height.ensures)
    c.write_end.ensures.ended (c.write_end.ensures.left_label _ _ (drawn.same ∙ start.labels))

pub draw_results-returns-then-not-ends-clause-drawn : goal.draw_results-returns-then-not-ends-clause-drawn
draw_results-returns-then-not-ends-clause-drawn t c =
    on_ok_weaker c.draw_values.result (λ values. drawn_within (omega arith) (drawn_then c.in_ok-ends.ensures.drawn values))
    c.draw_values.ensures.drawn

pub draw_results-returns-then-not-ended-clause-drawn : goal.draw_results-returns-then-not-ended-clause-drawn
draw_results-returns-then-not-ended-clause-drawn t c =
    on_ok_weaker c.draw_values-then-not-ended.result
    (λ values. drawn_within (omega arith) (drawn_then (drawn_then c.in_ok-ends.ensures.drawn c.in_ok-ended.ensures.drawn) values))
    c.draw_values-then-not-ended.ensures.drawn

pub draw_results-returns-then-number-lt7-clause-drawn : goal.draw_results-returns-then-number-lt7-clause-drawn
draw_results-returns-then-number-lt7-clause-drawn t c =
    drawn_within (omega arith)
    (drawn_then c.in_ok-ends.ensures.drawn (c.in_ok-ended.ensures.any c.args.wanted.now c.requires.valid c.if-not-ended.false))

pub draw_results-returns-clause-drawn : goal.draw_results-returns-clause-drawn
draw_results-returns-clause-drawn t c =
    on_ok_weaker c.draw_values-2.result
    (λ values. drawn_within (omega arith)
    (drawn_then (drawn_then (drawn_then c.in_ok-ends.ensures.drawn c.in_ok-ended.ensures.drawn) c.in_ok-_ends.ensures.drawn) values))
    c.draw_values-2.ensures.drawn

pub draw_results-returns-then-not-ends-clause-exact : goal.draw_results-returns-then-not-ends-clause-exact
draw_results-returns-then-not-ends-clause-exact t c =
    on_ok_weaker c.draw_values.result (λ is. results_drawn (drawing_at c.args.scope.now.config.now c.args.depth) c.args.wanted.now
    (state_of c.args.scope.now c.args.draft.now c.args.u.now) _ (rw c.if-not-ends.true at c.in_ok-ends.ensures.exact) ∙ is)
    c.draw_values.ensures.exact

pub draw_results-returns-then-not-ended-clause-exact : goal.draw_results-returns-then-not-ended-clause-exact
draw_results-returns-then-not-ended-clause-exact t c =
    on_ok_weaker c.draw_values-then-not-ended.result
    (λ is. results_still (drawing_at c.args.scope.now.config.now c.args.depth) c.args.wanted.now
    (state_of c.args.scope.now c.args.draft.now c.args.u.now) _ _ (rw c.if-not-ends.false at c.in_ok-ends.ensures.exact)
    (rw c.if-not-ended.true at c.in_ok-ended.ensures.exact) ∙ is) c.draw_values-then-not-ended.ensures.exact

pub draw_results-returns-then-number-lt7-clause-exact : goal.draw_results-returns-then-number-lt7-clause-exact
draw_results-returns-then-number-lt7-clause-exact t c =
    let drawn = rw (c.new.ensures.start, c.new.ensures.end) at c.int_in_range-number.ensures.exact in
    results_ended (drawing_at c.args.scope.now.config.now c.args.depth) c.args.wanted.now
    (state_of c.args.scope.now c.args.draft.now c.args.u.now) _ _ c.int_in_range-number.result _
    (rw c.if-not-ends.false at c.in_ok-ends.ensures.exact) (rw c.if-not-ended.false at c.in_ok-ended.ensures.exact) drawn
    (omega (arith, c.if-number-lt7.true))

pub draw_results-returns-clause-exact : goal.draw_results-returns-clause-exact
draw_results-returns-clause-exact t c =
    let seven : c.int_in_range-number.result ≡ 7 = omega (
      arith,
      c.int_in_range-number.ensures.within,
      c.new.ensures.start,
      c.new.ensures.end,
      c.if-number-lt7.false,
    ) in
    let drawn = rw (c.new.ensures.start, c.new.ensures.end, seven) at c.int_in_range-number.ensures.exact in
    on_ok_weaker c.draw_values-2.result
    (λ is. results_dead (drawing_at c.args.scope.now.config.now c.args.depth) c.args.wanted.now
    (state_of c.args.scope.now c.args.draft.now c.args.u.now) _ _ _ _ _ (rw c.if-not-ends.false at c.in_ok-ends.ensures.exact)
    (rw c.if-not-ended.false at c.in_ok-ended.ensures.exact) drawn c.in_ok-_ends.ensures.exact ∙ is) c.draw_values-2.ensures.exact

pub draw_ending-draw_node-requires : goal.draw_ending-draw_node-requires
draw_ending-draw_node-requires t c =
    let fits : IsNode (where_stands c.args.scope.now c.args.draft.now) c.args.draft.now.set.items [] c.in-Some.node =
    rw c.in-Some.is at (c.in_ok-chosen.ensures.offer [] (no_valid (bare c.args.scope.now))) in (
      omega (arith, c.requires.deep),
      (
        c.requires.scope,
        (
          c.requires.labels,
          (fits.valid, (fits.inside, (c.is_node_allowed.ensures.allowed c.if-not-is_node_allowed.false, c.requires.paid))),
        ),
      ),
    )

pub draw_ending-returns-in_default-clause-exact : goal.draw_ending-returns-in_default-clause-exact
draw_ending-returns-in_default-clause-exact t c = no_ending c.args.scope.now.config.now c.args.depth
    (state_of c.args.scope.now c.args.draft.now c.args.u.now) _ c.requires.deep (rw c.in_default.is at c.in_ok-chosen.ensures.exact)

pub draw_ending-returns-then-not-is_node_allowed-clause-exact : goal.draw_ending-returns-then-not-is_node_allowed-clause-exact
draw_ending-returns-then-not-is_node_allowed-clause-exact t c =
    forbidden_ending c.args.scope.now.config.now c.args.depth (state_of c.args.scope.now c.args.draft.now c.args.u.now) _ c.in-Some.node
    c.requires.deep (rw c.in-Some.is at c.in_ok-chosen.ensures.exact) (sym c.is_node_allowed.ensures.exact
    ∙ c.if-not-is_node_allowed.true)

pub draw_ending-returns-clause-exact : goal.draw_ending-returns-clause-exact
draw_ending-returns-clause-exact t c =
    chosen_ending c.args.scope.now.config.now c.args.depth (state_of c.args.scope.now c.args.draft.now c.args.u.now) _ _ c.in-Some.node
    c.requires.deep (rw c.in-Some.is at c.in_ok-chosen.ensures.exact) (sym c.is_node_allowed.ensures.exact
    ∙ c.if-not-is_node_allowed.false) c.in_ok-draw_node.ensures.exact

pub draw_ending-returns-in_default-clause-drawn : goal.draw_ending-returns-in_default-clause-drawn
draw_ending-returns-in_default-clause-drawn t c = drawn_none c.args.scope.now c.args.draft.now

pub draw_ending-returns-then-not-is_node_allowed-clause-drawn : goal.draw_ending-returns-then-not-is_node_allowed-clause-drawn
draw_ending-returns-then-not-is_node_allowed-clause-drawn t c = drawn_none c.args.scope.now c.args.draft.now

pub draw_ending-returns-clause-drawn : goal.draw_ending-returns-clause-drawn
draw_ending-returns-clause-drawn t c =
    let fits = rw c.in-Some.is at (c.in_ok-chosen.ensures.offer [] (no_valid (bare c.args.scope.now))) in
    c.in_ok-draw_node.ensures.drawn [] fits
    (node_goes_on (features_in c.args.scope.now.features) c.args.scope.now.config.now c.in-Some.node (sym c.is_node_allowed.ensures.exact
    ∙ c.if-not-is_node_allowed.false))

pub draw_ending-returns-clause-any : goal.draw_ending-returns-clause-any
draw_ending-returns-clause-any t c = λ values valid ended.
    let fits = rw c.in-Some.is at (c.in_ok-chosen.ensures.offer values valid) in
    c.in_ok-draw_node.ensures.drawn values fits
    (node_goes_on (features_in c.args.scope.now.features) c.args.scope.now.config.now c.in-Some.node (sym c.is_node_allowed.ensures.exact
    ∙ c.if-not-is_node_allowed.false))

pub draw_operands-loop-place-init : goal.draw_operands-loop-place-init
draw_operands-loop-place-init t c = record {
  drawn = drawn_none c.args.scope.now c.args.draft.now;
  exact = refl;
  labels = c.requires.labels;
  kept = λ whole h. h;
}

pub draw_operands-loop-place-preserved : goal.draw_operands-loop-place-preserved
draw_operands-loop-place-preserved t c = record {
  drawn = drawn_turn c.args.operands.now c.loop-place.place _ c.requires.valid c.loop-place-test.true c.loop-place.invariant.drawn
      c.in_ok-draw_operand.ensures.drawn;
  exact = c.loop-place.invariant.exact ∙ next_operand c.args.scope.now.config.now (drawing_at c.args.scope.now.config.now c.args.depth)
      c.args.head.now c.args.operands.now c.loop-place.place _ _ _ c.limit_at-limit.result _ c.loop-place-test.true
      c.in_ok-draw_operand.ensures.exact c.limit_at-limit.ensures (omega arith);
  labels = labels_kept c.in_ok-draw_operand.ensures.drawn c.loop-place.invariant.labels;
  kept = λ whole h. c.draw_operand.ensures.left whole (c.loop-place.invariant.kept whole h);
}

pub draw_operands-returns-clause-drawn : goal.draw_operands-returns-clause-drawn
draw_operands-returns-clause-drawn t c = rw (take_all c.loop-place.place c.args.operands.now (omega arith)) at
    c.loop-place.invariant.drawn

pub draw_limited-returns-in-Constant-clause-exact : goal.draw_limited-returns-in-Constant-clause-exact
draw_limited-returns-in-Constant-clause-exact t c =
    on_ok_weaker c.draw_near.result
    (λ is. by_way c.args.scope.now.config.now (drawing_at c.args.scope.now.config.now c.args.depth) c.args.wide c.args.limit (state_of
    c.args.scope.now c.args.draft.now c.args.u.now) _ c.operand_ways.result.now c.choose.result (way.Constant c.in-Constant.place)
    c.operand_ways.ensures c.choose.ensures.exact c.in-Constant.is ∙ is)
    c.draw_near.ensures.exact

pub draw_limited-returns-in-Masked-clause-exact : goal.draw_limited-returns-in-Masked-clause-exact
draw_limited-returns-in-Masked-clause-exact t c =
    on_ok_weaker c.draw_masked.result
    (λ is. by_way c.args.scope.now.config.now (drawing_at c.args.scope.now.config.now c.args.depth) c.args.wide c.args.limit (state_of
    c.args.scope.now c.args.draft.now c.args.u.now) _ c.operand_ways.result.now c.choose.result way.Masked c.operand_ways.ensures
    c.choose.ensures.exact c.in-Masked.is ∙ is)
    c.draw_masked.ensures.exact

pub draw_limited-returns-in-Unlimited-clause-exact : goal.draw_limited-returns-in-Unlimited-clause-exact
draw_limited-returns-in-Unlimited-clause-exact t c =
    on_ok_weaker c.draw_value.result
    (λ is. by_way c.args.scope.now.config.now (drawing_at c.args.scope.now.config.now c.args.depth) c.args.wide c.args.limit (state_of
    c.args.scope.now c.args.draft.now c.args.u.now) _ c.operand_ways.result.now c.choose.result way.Unlimited c.operand_ways.ensures
    c.choose.ensures.exact c.in-Unlimited.is ∙ is)
    (rw c.address.ensures at c.draw_value.ensures.exact)

pub draw_near-returns-then-not-is_allowed-clause-exact : goal.draw_near-returns-then-not-is_allowed-clause-exact
draw_near-returns-then-not-is_allowed-clause-exact t c =
    let forbidden = rw c.address_constant-constant.ensures at (sym c.is_allowed.ensures.exact ∙ c.if-not-is_allowed.true) in
    on_ok_weaker c.draw_value.result
    (λ is. near_value c.args.scope.now.config.now (drawing_at c.args.scope.now.config.now c.args.depth) c.args.wide c.args.place
    c.args.limit c.draw_number-number.result (state_of c.args.scope.now c.args.draft.now c.args.u.now) _
    c.draw_number-number.ensures.exact forbidden ∙ is)
    (rw c.address.ensures at c.draw_value.ensures.exact)

pub draw_near-returns-clause-exact : goal.draw_near-returns-clause-exact
draw_near-returns-clause-exact t c =
    let allowed = rw c.address_constant-constant.ensures at (sym c.is_allowed.ensures.exact ∙ c.if-not-is_allowed.false) in
    on_ok_weaker c.write_plain.result
    (λ done. near_constant c.args.scope.now.config.now (drawing_at c.args.scope.now.config.now c.args.depth) c.args.wide c.args.place
    c.args.limit c.draw_number-number.result (state_of c.args.scope.now c.args.draft.now c.args.u.now) _
    c.draw_number-number.ensures.exact allowed
    ∙ written_state c.args.scope.now (address_constant c.args.wide c.draw_number-number.result) c.args.draft.now c.write_plain.new.draft
    c.draw_number-number.new.u done) (rw c.address_constant-constant.ensures at c.write_plain.ensures.written)

pub draw_near-returns-clause-drawn : goal.draw_near-returns-clause-drawn
draw_near-returns-clause-drawn t c =
    let allowed = rw c.address_constant-constant.ensures at (c.is_allowed.ensures.allowed c.if-not-is_allowed.false) in
    on_ok_weaker c.write_plain.result (λ done. constant_drawn c.args.wide c.draw_number-number.result allowed done) (rw
    c.address_constant-constant.ensures at c.write_plain.ensures.written)

pub draw_masked-returns-then-draft-eq0-clause-exact : goal.draw_masked-returns-then-draft-eq0-clause-exact
draw_masked-returns-then-draft-eq0-clause-exact t c =
    let mask = rw c.mask_of.ensures at c.address_constant-mask.ensures in
    let drawn = rw c.address.ensures at c.draw_value.ensures.exact in
    elim c.then-draft-eq0.branch [
      | draw_masked-then-draft-eq0-via-then-draft-eq0 w ↦
          on_ok_weaker c.draw_value.result
          (λ is. unpaid_masked c.args.scope.now.config.now (drawing_at c.args.scope.now.config.now c.args.depth) c.args.wide c.args.limit
          (state_of c.args.scope.now c.args.draft.now c.args.u.now) (omega (arith, w.if-draft-eq0.true)) ∙ is) drawn
      | draw_masked-then-draft-eq0-via-else-draft-eq0+then-not-is_allowed w ↦
          on_ok_weaker c.draw_value.result
          (λ is. no_mask c.args.scope.now.config.now (drawing_at c.args.scope.now.config.now c.args.depth) c.args.wide c.args.limit
          (state_of c.args.scope.now c.args.draft.now c.args.u.now) (omega (arith, w.if-draft-eq0.false))
          (rw mask at (sym w.is_allowed.ensures.exact ∙ w.if-not-is_allowed.true)) ∙ is) drawn
      | draw_masked-then-draft-eq0-via-else-draft-eq0+else-not-is_allowed+then-not-is_allowed-2 w ↦
          on_ok_weaker c.draw_value.result
          (λ is. no_masking c.args.scope.now.config.now (drawing_at c.args.scope.now.config.now c.args.depth) c.args.wide c.args.limit
          (state_of c.args.scope.now c.args.draft.now c.args.u.now) (omega (arith, w.if-draft-eq0.false))
          (rw mask at (sym w.is_allowed.ensures.exact ∙ w.if-not-is_allowed.false)) (rw c.masking-both.ensures at (sym
          w.is_allowed-else-not-is_allowed.ensures.exact ∙ w.if-not-is_allowed-2.true)) ∙ is) drawn
    ]

pub draw_masked-returns-clause-exact : goal.draw_masked-returns-clause-exact
draw_masked-returns-clause-exact t c =
    let mask = rw c.mask_of.ensures at c.address_constant-mask.ensures in
    let allowed = rw mask at (sym c.is_allowed.ensures.exact ∙ c.if-not-is_allowed.false) in
    let allowed' = rw c.masking-both.ensures at (sym c.is_allowed-else-not-is_allowed.ensures.exact ∙ c.if-not-is_allowed-2.false) in
    let drawn = rw (c.address-2.ensures, c.saturating_sub-draft.ensures) at c.in_ok-draw_value.ensures.exact in
    on_ok_weaker c.write_plain-2.result
    (λ done. masked_value c.args.scope.now.config.now (drawing_at c.args.scope.now.config.now c.args.depth) c.args.wide c.args.limit
    (state_of c.args.scope.now c.args.draft.now c.args.u.now) _ (omega (arith, c.if-draft-eq0.false)) allowed allowed' drawn
    ∙ masks_written c.args.scope.now (address_constant c.args.wide (mask_of c.args.limit)) (masking c.args.wide) c.draw_value-2.new.draft
    c.write_plain.new.draft c.write_plain-2.new.draft c.draw_value-2.new.u (rw mask at c.in_ok-write_plain.ensures.written) done)
    (rw c.masking-both.ensures at c.write_plain-2.ensures.written)

pub draw_masked-returns-clause-drawn : goal.draw_masked-returns-clause-drawn
draw_masked-returns-clause-drawn t c =
    let mask = rw c.mask_of.ensures at c.address_constant-mask.ensures in
    let allowed = rw mask at (c.is_allowed.ensures.allowed c.if-not-is_allowed.false) in
    let allowed' = rw c.masking-both.ensures at (c.is_allowed-else-not-is_allowed.ensures.allowed c.if-not-is_allowed-2.false) in
    let value = rw (c.address-2.ensures, c.saturating_sub-draft.ensures) at c.in_ok-draw_value.ensures.drawn in
    on_ok_weaker c.write_plain-2.result
    (λ done. masked_drawn c.args.wide (mask_of c.args.limit) allowed allowed' (omega (arith, c.if-draft-eq0.false)) value (rw mask at
    c.in_ok-write_plain.ensures.written) done)
    (rw c.masking-both.ensures at c.write_plain-2.ensures.written)
