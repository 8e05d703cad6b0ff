use Rattle.smith_check_body.proofs.families.step_constant.Goals as goal

pub returns-in-I32Const-clause-ok : goal.returns-in-I32Const-clause-ok
returns-in-I32Const-clause-ok c = λ labels set. c.number_const.ensures.ok _ labels set (_, c.in-I32Const.is)

pub returns-in-I64Const-clause-ok : goal.returns-in-I64Const-clause-ok
returns-in-I64Const-clause-ok c = λ labels set. c.number_const-in-I64Const.ensures.ok _ labels set (_, c.in-I64Const.is)

pub returns-in-F32Const-clause-ok : goal.returns-in-F32Const-clause-ok
returns-in-F32Const-clause-ok c = λ labels set. c.number_const-in-F32Const.ensures.ok _ labels set (_, c.in-F32Const.is)

pub returns-in-F64Const-clause-ok : goal.returns-in-F64Const-clause-ok
returns-in-F64Const-clause-ok c = λ labels set. c.number_const-in-F64Const.ensures.ok _ labels set (_, c.in-F64Const.is)

pub returns-in-V128Const-clause-ok : goal.returns-in-V128Const-clause-ok
returns-in-V128Const-clause-ok c = λ labels set. rw c.in-V128Const.is (c.v128_const.ensures.ok _ labels set)
