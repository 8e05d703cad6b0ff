use Rattle.smith_binary_instr.proofs.instructions.write_instr.Goals as goal

pub returns-in-TryTable-clause-writes : goal.returns-in-TryTable-clause-writes
returns-in-TryTable-clause-writes c = rw (c.in-TryTable.is, ← c.as_slice.ensures) c.write_try_table.ensures.writes

pub returns-in-SelectTyped-clause-writes : goal.returns-in-SelectTyped-clause-writes
returns-in-SelectTyped-clause-writes c = rw (c.in-SelectTyped.is, ← c.as_slice-in-SelectTyped.ensures) c.write_typed_select.ensures.writes
