use Rattle.std.proofs.Common.{◌≡◌, Bool, true, false, List, ℕ, ap}
use Rattle.smith_bytes.specs.Draws.{bool_at}
use Rattle.smith_bytes_examples.proofs.loops.turns_and_ends.Goals as goal

pub returns-clause-not_asked_for : goal.returns-clause-not_asked_for
unfolding bool_at
returns-clause-not_asked_for g c = λ f f' answer bytes bytes' turn. let goes : false ≡ true = ap (λ (r : Bool × List ℕ). r.0) turn.goes in
    cc goes
