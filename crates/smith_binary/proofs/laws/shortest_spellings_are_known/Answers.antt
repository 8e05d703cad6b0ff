use Rattle.smith_binary.proofs.ShortestLemmas.{shortest_is}
use Rattle.smith_binary.proofs.laws.shortest_spellings_are_known.Goals as goal

pub returns : goal.returns
returns c = shortest_is
