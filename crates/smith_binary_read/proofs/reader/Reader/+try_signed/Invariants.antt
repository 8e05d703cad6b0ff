use Rattle.smith_binary_read.proofs.reader.Reader.+try_signed.Given as goal

abbrev pub decreases-try_signed : goal.decreases-try_signed
decreases-try_signed l = l.bits
