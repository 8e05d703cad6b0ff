use Rattle.smith_check_body.proofs.families.step_call.Goals as goal

pub returns-in-Return-clause-ok : goal.returns-in-Return-clause-ok
returns-in-Return-clause-ok c = λ labels set. rw c.in-Return.is (c.return_all.ensures labels set)

pub returns-in-Call-clause-ok : goal.returns-in-Call-clause-ok
returns-in-Call-clause-ok c = λ labels set. rw c.in-Call.is (c.call.ensures.ok labels set)

pub returns-in-CallIndirect-clause-ok : goal.returns-in-CallIndirect-clause-ok
returns-in-CallIndirect-clause-ok c = λ labels set. rw c.in-CallIndirect.is (c.call_indirect.ensures.ok labels set)

pub returns-in-CallRef-clause-ok : goal.returns-in-CallRef-clause-ok
returns-in-CallRef-clause-ok c = λ labels set. rw c.in-CallRef.is (c.call_ref.ensures.ok labels set)

pub returns-in-ReturnCall-clause-ok : goal.returns-in-ReturnCall-clause-ok
returns-in-ReturnCall-clause-ok c = λ labels set. rw c.in-ReturnCall.is (c.return_call.ensures labels set)

pub returns-in-ReturnCallIndirect-clause-ok : goal.returns-in-ReturnCallIndirect-clause-ok
returns-in-ReturnCallIndirect-clause-ok c = λ labels set. rw c.in-ReturnCallIndirect.is (c.return_call_indirect.ensures labels set)

pub returns-in-ReturnCallRef-clause-ok : goal.returns-in-ReturnCallRef-clause-ok
returns-in-ReturnCallRef-clause-ok c = λ labels set. rw c.in-ReturnCallRef.is (c.return_call_ref.ensures labels set)
