use Rattle.smith_spell.proofs.Common.{on_ok_weaker}
use Rattle.smith_spell.proofs.WrittenLemmas.{written_as}
use Rattle.smith_spell.proofs.DigitLemmas.{refusal_of_digits}
use Rattle.smith_spell.proofs.pieces.write_refusal.Goals as goal

pub returns-then-is_asked-clause-writes : goal.returns-then-is_asked-clause-writes
returns-then-is_asked-clause-writes c =
    rw c.if-is_asked.true (on_ok_weaker c.write_digits.result (written_as (λ piece. refusal_of_digits c.args.chances piece c.requires))
    c.write_digits.ensures.writes)
