use Rattle.std.proofs.Common.{refl}
use Rattle.smith_c.specs.CallAnswers.{explained, given}
use Rattle.smith_c.proofs.smith_refusal.Goals as goal

pub returns-in-Ok : goal.returns-in-Ok
returns-in-Ok c = given (c.in-Ok.field-0.items, c.in-Ok.ensures.ok) refl c.without_output.ensures

pub returns : goal.returns
returns c = explained c.in-Err.ensures.refused c.explain.ensures
