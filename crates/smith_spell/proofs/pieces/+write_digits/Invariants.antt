use Rattle.smith_spell.proofs.pieces.+write_digits.Given as goal

abbrev pub decreases-write_digits : goal.decreases-write_digits
decreases-write_digits l = l.most
