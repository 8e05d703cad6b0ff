use Rattle.smith_binary_read.proofs.reader.Reader.+read_little_endian.Given as goal

abbrev pub decreases-read_little_endian : goal.decreases-read_little_endian
decreases-read_little_endian l = l.count
