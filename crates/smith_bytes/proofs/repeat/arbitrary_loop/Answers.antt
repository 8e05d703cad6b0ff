use Rattle.std.proofs.Common.{◌≡◌, ◌<◌, ◌≤◌, ℕ, Bool, true, false, ltb, List, Result, Ok, Err, MutBor, refl, arith}
use Rattle.std.proofs.lemmas.Bool.{ltb-true, ltb-false}
use Rattle.std.proofs.lemmas.Result.{err_from_is_err_and}
use Rattle.std.specs.Fn.{Mut}
use Rattle.smith_bytes.specs.declared.error.Error.{Error}
use Rattle.smith_bytes.specs.declared.error.Error.TheVariants.{IncorrectFormat}
use Rattle.smith_bytes.specs.declared.error.Why.TheVariants.{Loop}
use Rattle.smith_bytes.specs.Loop.{Turn, EndsAt, at_most, at_bool, at_false, too_few, at_error}
use Rattle.smith_bytes.proofs.repeat.arbitrary_loop.Goals as goal

-- the end of the loop after a false result, by cases on whether there were too few calls
ends_at_false : {F : Type 0} (g : Mut F (MutBor (List ℕ) × Unit {0}) (Result Bool Error × (MutBor (List ℕ) × Unit {0}))) (min max calls : ℕ)
    (f f' : F) (bytes bytes' : List ℕ) (r : Result (Unit {0}) Error) (b : Bool) → ltb calls min ≡ b
    → (calls < min → r ≡ Err (IncorrectFormat Loop)) → (min ≤ calls → r ≡ Ok tt) → Turn g min max calls f bytes (Ok false) f' bytes'
    → EndsAt g min max calls f bytes r bytes'
ends_at_false g min max calls f f' bytes bytes' r true few refused over turn = rw (refused (ltb-true calls min few))
    (too_few f' bytes' (ltb-true calls min few) turn)
ends_at_false g min max calls f f' bytes bytes' r false enough refused over turn = rw (over (ltb-false calls min enough))
    (at_false f' bytes' (ltb-false calls min enough) turn)

pub returns-then-not-goes_on-clause-runs : goal.returns-then-not-goes_on-clause-runs
returns-then-not-goes_on-clause-runs g c = record {
  calls = c.loop-calls.calls;
  last = c.loop-calls.f;
  left = c.loop-calls.u;
  run = c.loop-calls.invariant.run;
  ends = at_bool c.goes_on.new.u c.loop-calls-test.true c.if-not-goes_on.ensures.exact;
}

pub returns-in_err-call_once-clause-runs : goal.returns-in_err-call_once-clause-runs
returns-in_err-call_once-clause-runs g c =
    let handed = err_from_is_err_and c.from_residual.result c.from_residual.ensures.1 in
    rw (handed.1, handed.2) (record {
      calls = c.loop-calls.calls;
      last = c.loop-calls.f;
      left = c.loop-calls.u;
      run = c.loop-calls.invariant.run;
      ends = at_error c.in_err-call_once.field-0.0 c.call_once.new.f c.call_once.new.u
          (record {
            more = c.loop-calls-test.true;
            mid = c.goes_on.new.u;
            goes = c.if-not-goes_on.ensures.exact;
            called = c.in_err-call_once.ensures.called;
          });
    })

pub returns-then-not-branch-clause-runs : goal.returns-then-not-branch-clause-runs
returns-then-not-branch-clause-runs g c = record {
  calls = c.loop-calls.calls;
  last = c.loop-calls.f;
  left = c.loop-calls.u;
  run = c.loop-calls.invariant.run;
  ends = ends_at_false _ _ _ _ _ _ _ _ _ (ltb c.loop-calls.calls c.args.min) refl c.at_false.ensures.few c.at_false.ensures.enough
      (record {
        more = c.loop-calls-test.true;
        mid = c.goes_on.new.u;
        goes = c.if-not-goes_on.ensures.exact;
        called = rw c.if-not-branch.true at c.in_ok-call_once.ensures.called;
      });
}

pub returns-clause-runs : goal.returns-clause-runs
returns-clause-runs g c = record {
  calls = c.loop-calls.calls;
  last = c.loop-calls.f;
  left = c.loop-calls.u;
  run = c.loop-calls.invariant.run;
  ends = at_most (omega (arith, c.loop-calls.invariant.few));
}
