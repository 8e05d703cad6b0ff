use Rattle.smith_check_references.proofs.references.reference.Goals as goal

pub returns-in-Null-clause-ok : goal.returns-in-Null-clause-ok
returns-in-Null-clause-ok c = λ labels set. rw c.in-Null.is (c.ref_null.ensures.ok labels set)

pub returns-in-Func-clause-ok : goal.returns-in-Func-clause-ok
returns-in-Func-clause-ok c = λ labels set. rw c.in-Func.is (c.ref_func.ensures.ok labels set)

pub returns-in-IsNull-clause-ok : goal.returns-in-IsNull-clause-ok
returns-in-IsNull-clause-ok c = λ labels set. rw c.in-IsNull.is (c.ref_is_null.ensures.ok labels set)

pub returns-in-AsNonNull-clause-ok : goal.returns-in-AsNonNull-clause-ok
returns-in-AsNonNull-clause-ok c = λ labels set. rw c.in-AsNonNull.is (c.ref_as_non_null.ensures.ok labels set)

pub returns-in-Eq-clause-ok : goal.returns-in-Eq-clause-ok
returns-in-Eq-clause-ok c = λ labels set. rw c.in-Eq.is (c.ref_eq.ensures.ok labels set)

pub returns-in-Test-clause-ok : goal.returns-in-Test-clause-ok
returns-in-Test-clause-ok c = λ labels set. rw c.in-Test.is (c.ref_test.ensures.ok labels set)

pub returns-in-Cast-clause-ok : goal.returns-in-Cast-clause-ok
returns-in-Cast-clause-ok c = λ labels set. rw c.in-Cast.is (c.ref_cast.ensures.ok labels set)
