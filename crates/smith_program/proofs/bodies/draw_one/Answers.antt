use Rattle.smith_program.proofs.Common.{◌<◌, ◌≡◌, ◌≤◌}
use Rattle.smith_body_leaves.specs.Leaves.{longest_leaf}
use Rattle.smith_body_nodes.specs.Scopes.{most}
use Rattle.smith_program.specs.DrawnBodies.{budget_at}
use Rattle.smith_program.proofs.DrawnBodiesLemmas.{budget_some, budget_within, instructions_drawn, raw_drawn}
use Rattle.smith_program.proofs.ScopeLemmas.{allowed_by, drawn_at, not_raw}
use Rattle.smith_program.proofs.bodies.draw_one.Goals as goal

pub returns-clause-body : goal.returns-clause-body
returns-clause-body c =
    let drawn = c.in_ok-instructions.ensures in
    let m = c.args.module.now in
    let budget : c.budget_at-budget.result ≡ budget_at m c.args.place c.args.u.now = c.budget_at-budget.ensures in
    let within : c.budget_at-budget.result ≤ m.config.max_instructions = rw budget (budget_within m c.args.place c.args.u.now) in
    let some : 0 < m.config.max_instructions → 0 < c.budget_at-budget.result =
    λ given. rw budget (budget_some m c.args.place c.args.u.now given) in
    drawn_at c.args.module.now c.args.place c.index-code-place.result c.defined_type-function.result.now c.in_ok-instructions.instructions
    (rw c.code.ensures.items at c.index-code-place.is) (not_raw c.index-code-place.result.instructions c.in_default.not-Arbitrary)
    c.defined_type-function.ensures drawn.typed drawn.enabled drawn.trapless
    (λ given. drawn.needed (some given))
    (allowed_by _ (longest_leaf m.config m.types) _ (most m.types) _ _ within drawn.short)

pub returns-in-Arbitrary-clause-exact : goal.returns-in-Arbitrary-clause-exact
returns-in-Arbitrary-clause-exact c =
    raw_drawn c.args.module.now c.args.place c.index-code-place.result _ c.args.u.now (rw c.code.ensures.items at c.index-code-place.is)
    c.in-Arbitrary.is

pub returns-clause-exact : goal.returns-clause-exact
returns-clause-exact c =
    instructions_drawn c.args.module.now c.args.place c.index-code-place.result c.defined_type-function.result.now
    c.in_ok-instructions.instructions c.args.u.now _
    (rw c.code.ensures.items at c.index-code-place.is) (not_raw c.index-code-place.result.instructions c.in_default.not-Arbitrary)
    c.defined_type-function.ensures
    (rw c.budget_at-budget.ensures at c.in_ok-instructions.ensures.exact)
