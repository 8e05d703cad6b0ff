use Rattle.smith_binary_sections.proofs.Common.{joined_written, on_ok_weaker, sym, ◌∙◌}
use Rattle.smith_binary_sections.proofs.types.SubTypeEncode.encode.Goals as goal

pub returns-then-is_alone-clause-writes : goal.returns-then-is_alone-clause-writes
returns-then-is_alone-clause-writes c = rw (sym c.is_alone.ensures ∙ c.if-is_alone.true) c.encode.ensures.writes

pub returns-clause-writes : goal.returns-clause-writes
returns-clause-writes c =
    rw (sym c.is_alone.ensures ∙ c.if-is_alone.false)
    (on_ok_weaker c.encode-2.result
    (λ last. joined_written (rw c.final_byte.ensures at c.in_ok-write_byte.ensures.writes)
    (joined_written c.in_ok-write_supertype.ensures.writes last))
    c.encode-2.ensures.writes)
