use Rattle.smith_check_instr.proofs.memory.memory.Goals as goal

pub returns-in-Size-clause-ok : goal.returns-in-Size-clause-ok
returns-in-Size-clause-ok c = λ labels set. rw c.in-Size.is (c.memory_size.ensures.ok labels set)

pub returns-in-Grow-clause-ok : goal.returns-in-Grow-clause-ok
returns-in-Grow-clause-ok c = λ labels set. rw c.in-Grow.is (c.memory_grow.ensures.ok labels set)

pub returns-in-Fill-clause-ok : goal.returns-in-Fill-clause-ok
returns-in-Fill-clause-ok c = λ labels set. rw c.in-Fill.is (c.memory_fill.ensures.ok labels set)

pub returns-in-Copy-clause-ok : goal.returns-in-Copy-clause-ok
returns-in-Copy-clause-ok c = λ labels set. rw c.in-Copy.is (c.memory_copy.ensures.ok labels set)

pub returns-in-Init-clause-ok : goal.returns-in-Init-clause-ok
returns-in-Init-clause-ok c = λ labels set. rw c.in-Init.is (c.memory_init.ensures.ok labels set)

pub returns-in-DataDrop-clause-ok : goal.returns-in-DataDrop-clause-ok
returns-in-DataDrop-clause-ok c = λ labels set. rw c.in-DataDrop.is (c.data_drop.ensures.ok labels set)
