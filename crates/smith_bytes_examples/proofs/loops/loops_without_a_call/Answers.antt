use Rattle.std.proofs.Common.{[], ◌∷◌, arith, refl}
use Rattle.smith_bytes.specs.Draws.{bool_at}
use Rattle.smith_bytes.specs.Loop.{at_most, at_bool}
use Rattle.smith_bytes_examples.proofs.loops.loops_without_a_call.Goals as goal

pub returns-clause-none_may_be : goal.returns-clause-none_may_be
returns-clause-none_may_be g c = λ f bytes. record { calls = 0; last = f; left = bytes; run = (refl, refl); ends = at_most refl }

pub returns-clause-stopped_at_once : goal.returns-clause-stopped_at_once
unfolding bool_at
returns-clause-stopped_at_once g c = λ f. record {
  calls = 0;
  last = f;
  left = 0 ∷ 9 ∷ [];
  run = (refl, refl);
  ends = at_bool (9 ∷ []) (omega arith) refl;
}

pub returns-clause-past_the_end : goal.returns-clause-past_the_end
unfolding bool_at
returns-clause-past_the_end g c = λ f. record { calls = 0; last = f; left = []; run = (refl, refl); ends = at_bool [] (omega arith) refl }
