use Rattle.smith_check.proofs.ExampleLemmas.{does_nothing_valid, nothing_valid, returns_nothing_wrong}
use Rattle.smith_check.proofs.examples.modules.Goals as goal

pub returns : goal.returns
returns c = record { nothing = nothing_valid; does_nothing = does_nothing_valid; returns_nothing = returns_nothing_wrong }
