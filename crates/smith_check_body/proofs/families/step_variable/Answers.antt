use Rattle.smith_check_body.proofs.families.step_variable.Goals as goal

pub returns-in-LocalGet-clause-ok : goal.returns-in-LocalGet-clause-ok
returns-in-LocalGet-clause-ok c = λ labels. rw c.in-LocalGet.is (c.local_get.ensures.ok labels)

pub returns-in-LocalSet-clause-ok : goal.returns-in-LocalSet-clause-ok
returns-in-LocalSet-clause-ok c = λ labels. rw c.in-LocalSet.is (c.local_set.ensures.ok labels c.args.log.now.items)

pub returns-in-LocalTee-clause-ok : goal.returns-in-LocalTee-clause-ok
returns-in-LocalTee-clause-ok c = λ labels. rw c.in-LocalTee.is (c.local_tee.ensures.ok labels c.args.log.now.items)

pub returns-in-GlobalGet-clause-ok : goal.returns-in-GlobalGet-clause-ok
returns-in-GlobalGet-clause-ok c = λ labels. rw c.in-GlobalGet.is (c.global_get.ensures.ok labels c.args.log.now.items)

pub returns-in-GlobalSet-clause-ok : goal.returns-in-GlobalSet-clause-ok
returns-in-GlobalSet-clause-ok c = λ labels. rw c.in-GlobalSet.is (c.global_set.ensures.ok labels c.args.log.now.items)
