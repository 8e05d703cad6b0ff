use Rattle.smith_body.proofs.Common.{[], AreLabels, drop, length, take, ◌*◌, ◌+◌, ◌-◌, ◌≡◌}
use Rattle.smith_bytes.specs.Source.{KeepsPieces}
use Rattle.smith_body.specs.Bodies.{drawing_at, operands_at, statement_at, statements_within, values_at}
use Rattle.smith_body.specs.DraftSteps.{IsDrawn, state_of}
use Rattle.smith_body.proofs.ExactLemmas.{AreLeft}
use Rattle.smith_body.proofs.draws.+body.Given as goal

abbrev pub decreases-draw_value : goal.decreases-draw_value
decreases-draw_value l = 8 * l.depth

abbrev pub decreases-draw_statement : goal.decreases-draw_statement
decreases-draw_statement l = 8 * l.depth

abbrev pub decreases-draw_values : goal.decreases-draw_values
decreases-draw_values l = 8 * l.depth + 1

abbrev pub decreases-draw_near : goal.decreases-draw_near
decreases-draw_near l = 8 * l.depth + 1

abbrev pub decreases-draw_masked : goal.decreases-draw_masked
decreases-draw_masked l = 8 * l.depth + 1

abbrev pub decreases-draw_limited : goal.decreases-draw_limited
decreases-draw_limited l = 8 * l.depth + 2

abbrev pub decreases-draw_operand : goal.decreases-draw_operand
decreases-draw_operand l = 8 * l.depth + 3

abbrev pub decreases-draw_operands : goal.decreases-draw_operands
decreases-draw_operands l = 8 * l.depth + 4

abbrev pub decreases-draw_statements : goal.decreases-draw_statements
decreases-draw_statements l = 8 * l.depth + 1

abbrev pub decreases-draw_ending : goal.decreases-draw_ending
decreases-draw_ending l = 8 * l.depth

abbrev pub decreases-draw_results : goal.decreases-draw_results
decreases-draw_results l = 8 * l.depth + 2

abbrev pub decreases-draw_inside : goal.decreases-draw_inside
decreases-draw_inside l = 8 * l.depth + 3

abbrev pub decreases-draw_enclosed : goal.decreases-draw_enclosed
decreases-draw_enclosed l = 8 * l.depth + 4

abbrev pub decreases-draw_opened : goal.decreases-draw_opened
decreases-draw_opened l = 8 * l.depth + 5

abbrev pub decreases-draw_repeated : goal.decreases-draw_repeated
decreases-draw_repeated l = 8 * l.depth + 4

abbrev pub decreases-draw_tested : goal.decreases-draw_tested
decreases-draw_tested l = 8 * l.depth + 1

abbrev pub decreases-draw_if : goal.decreases-draw_if
decreases-draw_if l = 8 * l.depth + 4

abbrev pub decreases-draw_try : goal.decreases-draw_try
decreases-draw_try l = 8 * l.depth + 4

abbrev pub decreases-draw_head : goal.decreases-draw_head
decreases-draw_head l = 8 * l.depth + 6

abbrev pub decreases-draw_node : goal.decreases-draw_node
decreases-draw_node l = 8 * l.depth + 7

abbrev pub invariant-draw_values-loop-value : goal.invariant-draw_values-loop-value
invariant-draw_values-loop-value l = record {
  drawn : IsDrawn l.scope [] (take l.value-index l.wanted) (length (take l.value-index l.wanted)) l.fn.draft l.draft;
  exact : values_at (drawing_at l.scope.config.now l.depth) l.wanted (state_of l.scope l.fn.draft l.fn.u)
      ≡ values_at (drawing_at l.scope.config.now l.depth) (drop l.value-index l.wanted) (state_of l.scope l.draft l.u);
  labels : AreLabels l.scope l.draft.labels.items;
  kept : KeepsPieces l.fn.u l.u;
}

abbrev pub invariant-draw_operands-loop-place : goal.invariant-draw_operands-loop-place
invariant-draw_operands-loop-place l = record {
  drawn : IsDrawn l.scope [] (take l.place l.operands) (length (take l.place l.operands)) l.fn.draft l.draft;
  exact : operands_at l.scope.config.now (drawing_at l.scope.config.now l.depth) l.head l.operands (state_of l.scope l.fn.draft l.fn.u)
      ≡ operands_at l.scope.config.now (drawing_at l.scope.config.now l.depth) l.head (drop l.place l.operands)
      (state_of l.scope l.draft l.u);
  labels : AreLabels l.scope l.draft.labels.items;
  kept : KeepsPieces l.fn.u l.u;
}

abbrev pub decreases-draw_statements-loop-draft : goal.decreases-draw_statements-loop-draft
decreases-draw_statements-loop-draft l = l.draft.budget

abbrev pub invariant-draw_statements-loop-draft : goal.invariant-draw_statements-loop-draft
invariant-draw_statements-loop-draft l = record {
  drawn : IsDrawn l.scope [] [] 0 l.fn.draft l.draft;
  rest : AreLeft (statement_at l.scope.config.now (drawing_at l.scope.config.now (l.depth - 1)))
      (statements_within (statement_at l.scope.config.now (drawing_at l.scope.config.now (l.depth - 1))) l.fn.draft.budget
      (state_of l.scope l.fn.draft l.fn.u)) (state_of l.scope l.draft l.u);
  labels : AreLabels l.scope l.draft.labels.items;
  kept : KeepsPieces l.fn.u l.u;
}
