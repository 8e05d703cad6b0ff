use Rattle.std.proofs.Common.{◌∷◌, arith, refl}
use Rattle.smith_bytes.specs.declared.error.Error.TheVariants.{EmptyChoose}
use Rattle.smith_bytes.specs.Draws.{bool_at}
use Rattle.smith_bytes.specs.Loop.{at_most, at_bool, at_false, too_few, at_error}
use Rattle.smith_bytes_examples.proofs.loops.loops_of_one_call.Goals as goal

pub returns-clause-needed_and_full : goal.returns-clause-needed_and_full
returns-clause-needed_and_full g c = λ f f' bytes bytes' called. record {
  calls = 1;
  last = f';
  left = bytes';
  run = (f, bytes, (refl, refl), record { more = omega arith; mid = bytes; goes = refl; called = called });
  ends = at_most refl;
}

pub returns-clause-needed_and_stopped : goal.returns-clause-needed_and_stopped
unfolding bool_at
returns-clause-needed_and_stopped g c = λ f f' bytes bytes' called. record {
  calls = 1;
  last = f';
  left = 0 ∷ bytes';
  run = (f, bytes, (refl, refl), record { more = omega arith; mid = bytes; goes = refl; called = called });
  ends = at_bool bytes' (omega arith) refl;
}

pub returns-clause-needed_and_false : goal.returns-clause-needed_and_false
returns-clause-needed_and_false g c = λ f f' bytes bytes' called. record {
  calls = 0;
  last = f;
  left = bytes;
  run = (refl, refl);
  ends = too_few f' bytes' (omega arith) (record { more = omega arith; mid = bytes; goes = refl; called = called });
}

pub returns-clause-asked_for_and_false : goal.returns-clause-asked_for_and_false
unfolding bool_at
returns-clause-asked_for_and_false g c = λ f f' bytes bytes' called. record {
  calls = 0;
  last = f;
  left = 1 ∷ bytes;
  run = (refl, refl);
  ends = at_false f' bytes' (omega arith) (record { more = omega arith; mid = bytes; goes = refl; called = called });
}

pub returns-clause-error_is_handed_on : goal.returns-clause-error_is_handed_on
unfolding bool_at
returns-clause-error_is_handed_on g c = λ f f' bytes bytes' called. record {
  calls = 0;
  last = f;
  left = 1 ∷ bytes;
  run = (refl, refl);
  ends = at_error EmptyChoose f' bytes' (record { more = omega arith; mid = bytes; goes = refl; called = called });
}
