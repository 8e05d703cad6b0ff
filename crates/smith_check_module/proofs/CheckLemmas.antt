-- The parts of a module, one by one.
use Rattle.smith_check_module.proofs.Common.{All, ap, drop, get_or, length, suc, sym, take, ℕ, ◌++◌, ◌<◌, ◌∙◌, ◌∷◌, ◌≡◌}
use Rattle.std.proofs.Math.Seq.{split_at}
use Rattle.smith_check_module.specs.Judges.{AreRight, IsRight}
use Rattle.smith_check_module.specs.SectionFaults.{IsFirstBy, IsFirstWrong, parts}
use Rattle.smith_check_module.specs.declared.faults.Part.{Part}
use Rattle.smith_check_module.specs.declared.judge.Judge.{Judge}

pub first_by : (judge : Judge) (i : ℕ) (kind : Part) (index : ℕ) (d : Part) → i < length parts → kind ≡ get_or parts i d
    → All (AreRight judge) (take i parts) → IsFirstWrong (IsRight judge kind) index
    → IsFirstBy (IsRight judge) (record { part = kind; index = index })
first_by judge i kind index d inside read right first = record {
  before = take i parts;
  after = drop (suc i) parts;
  order = split_at parts i d inside ∙ ap (λ (p : Part). take i parts ++ p ∷ drop (suc i) parts) (sym read);
  earlier = right;
  first = first;
}
