use Rattle.smith_check_references.proofs.tables.table.Goals as goal

pub returns-in-Get-clause-ok : goal.returns-in-Get-clause-ok
returns-in-Get-clause-ok c = λ labels set. rw c.in-Get.is (c.table_get.ensures.ok labels set)

pub returns-in-Set-clause-ok : goal.returns-in-Set-clause-ok
returns-in-Set-clause-ok c = λ labels set. rw c.in-Set.is (c.table_set.ensures.ok labels set)

pub returns-in-Size-clause-ok : goal.returns-in-Size-clause-ok
returns-in-Size-clause-ok c = λ labels set. rw c.in-Size.is (c.table_size.ensures.ok labels set)

pub returns-in-Grow-clause-ok : goal.returns-in-Grow-clause-ok
returns-in-Grow-clause-ok c = λ labels set. rw c.in-Grow.is (c.table_grow.ensures.ok labels set)

pub returns-in-Fill-clause-ok : goal.returns-in-Fill-clause-ok
returns-in-Fill-clause-ok c = λ labels set. rw c.in-Fill.is (c.table_fill.ensures.ok labels set)

pub returns-in-Copy-clause-ok : goal.returns-in-Copy-clause-ok
returns-in-Copy-clause-ok c = λ labels set. rw c.in-Copy.is (c.table_copy.ensures.ok labels set)

pub returns-in-Init-clause-ok : goal.returns-in-Init-clause-ok
returns-in-Init-clause-ok c = λ labels set. rw c.in-Init.is (c.table_init.ensures.ok labels set)

pub returns-in-ElemDrop-clause-ok : goal.returns-in-ElemDrop-clause-ok
returns-in-ElemDrop-clause-ok c = λ labels set. rw c.in-ElemDrop.is (c.elem_drop.ensures.ok labels set)
