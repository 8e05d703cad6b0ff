use Rattle.smith_binary_read.proofs.reader.Reader.+try_unsigned.Given as goal

abbrev pub decreases-try_unsigned : goal.decreases-try_unsigned
decreases-try_unsigned l = l.bits
