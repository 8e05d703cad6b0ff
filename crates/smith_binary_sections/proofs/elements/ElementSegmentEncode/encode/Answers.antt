use Rattle.smith_binary_sections.proofs.elements.ElementSegmentEncode.encode.Goals as goal

pub returns-in-Functions-clause-writes : goal.returns-in-Functions-clause-writes
returns-in-Functions-clause-writes c = rw (c.in-Functions.is, ← c.as_slice.ensures) c.write_funcs.ensures.writes
