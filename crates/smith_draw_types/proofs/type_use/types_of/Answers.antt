use Rattle.smith_draw_types.proofs.TypeUseLemmas.{tag_indices, function_indices, unshared_function_indices}
use Rattle.smith_draw_types.proofs.type_use.types_of.Goals as goal

pub returns-in-Tag : goal.returns-in-Tag
returns-in-Tag c = λ types. rw c.in-Tag.is (tag_indices types)

pub returns-in-ImportedFunc : goal.returns-in-ImportedFunc
returns-in-ImportedFunc c = λ types. rw c.in-ImportedFunc.is (function_indices types)

pub returns-in-DefinedFunc : goal.returns-in-DefinedFunc
returns-in-DefinedFunc c = λ types. rw c.in-DefinedFunc.is (unshared_function_indices types)
