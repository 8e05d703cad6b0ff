use Rattle.smith_binary_program.proofs.bodies.write_body.Goals as goal

pub returns-in-Drawn-clause-writes : goal.returns-in-Drawn-clause-writes
returns-in-Drawn-clause-writes c = rw c.in-Drawn.is (rw (c.as_slice.ensures, c.as_slice-in-Drawn.ensures) at c.write_drawn.ensures.writes)

pub returns-in-Raw-clause-writes : goal.returns-in-Raw-clause-writes
returns-in-Raw-clause-writes c = rw c.in-Raw.is c.encode_item.ensures.writes
