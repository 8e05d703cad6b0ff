use Rattle.smith_encode.proofs.Common.{drop, Each}
use Rattle.smith_binary.specs.Spelling.{IsUnsignedIn}
use Rattle.smith_binary.proofs.WrittenLemmas.{Leads}
use Rattle.smith_encode.proofs.types.write_indices.Given as goal

abbrev pub invariant-loop-index : goal.invariant-loop-index
invariant-loop-index l =
    Leads (λ s. Each (IsUnsignedIn s 32) (drop l.index-index l.indices)) (λ s. Each (IsUnsignedIn s 32) l.indices) l.fn.sink l.sink
