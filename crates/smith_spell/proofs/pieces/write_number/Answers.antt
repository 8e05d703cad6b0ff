use Rattle.smith_spell.proofs.Common.{on_ok_weaker}
use Rattle.smith_spell.proofs.WrittenLemmas.{written_as}
use Rattle.smith_spell.proofs.DigitLemmas.{number_of_digits}
use Rattle.smith_spell.proofs.pieces.write_number.Goals as goal

pub returns-clause-writes : goal.returns-clause-writes
returns-clause-writes c =
    on_ok_weaker c.write_digits.result (written_as (λ piece. number_of_digits c.args.number c.args.most piece c.requires))
    c.write_digits.ensures.writes
