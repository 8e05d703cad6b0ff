use Rattle.smith_program.proofs.GeneratedLemmas.{program_made, module_refused, bodies_refused}
use Rattle.smith_program.proofs.program.Program.new.Goals as goal

pub returns : goal.returns
returns c = program_made c.args.config c.args.u.now c.new.new.u c.draw_bodies.new.u _ _ c.in_ok-module.ensures c.in_ok-bodies.ensures.bodies
    c.in_ok-bodies.ensures.exact c.draw_bodies.ensures.left

pub returns-in_err-module : goal.returns-in_err-module
returns-in_err-module c =
    module_refused c.args.config c.args.u.now c.new.new.u c.from_residual.result c.in_err-module.field-0.0 c.in_err-module.ensures
    c.from_residual.ensures.1

pub returns-in_err-bodies : goal.returns-in_err-bodies
returns-in_err-bodies c =
    bodies_refused c.args.config c.args.u.now c.new.new.u c.draw_bodies.new.u _ c.from_residual-in_err-bodies.result
    c.in_err-bodies.field-0.0 c.in_ok-module.ensures c.from_residual-in_err-bodies.ensures.1 c.in_err-bodies.ensures.refusal
    c.draw_bodies.ensures.left

pub invariant_of-result : goal.invariant_of-result
invariant_of-result c = c.in_ok-bodies.ensures.bodies.each
