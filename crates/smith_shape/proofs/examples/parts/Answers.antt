use Rattle.smith_shape.proofs.examples.parts.Goals as goal

pub returns-clause-other_type : goal.returns-clause-other_type
returns-clause-other_type c = λ h. let e = h.funcs in cc

pub returns-clause-no_global : goal.returns-clause-no_global
returns-clause-no_global c = λ h. let e = h.globals in cc

pub returns-clause-several_supertypes : goal.returns-clause-several_supertypes
returns-clause-several_supertypes c = λ shape h. let e = h.supertypes in cc
