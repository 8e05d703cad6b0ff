-- Families that have no changes of the first eight bytes.
use Rattle.std.proofs.Common.{◌≡◌, ℕ, ◌<◌, ◌≤◌, List, length, get_or, arith}
use Rattle.smith_wrong_bytes.specs.Splices.{HasPreamble}
use Rattle.smith_wrong_bytes.specs.declared.family.BytesFamily.{BytesFamily}
use Rattle.smith_wrong.specs.Wrong.{AreWithoutPreamble}
use Rattle.smith_wrong.specs.declared.families.Family.{Family}
use Rattle.smith_wrong.specs.declared.families.Family.TheVariants as family

-- no family before an index has any
abbrev pub NoneBefore : List Family → ℕ → Type 0
NoneBefore families count = (k : ℕ) (one : BytesFamily) → k < count → get_or families k (family.Bytes one) ≡ family.Bytes one
    → HasPreamble one → ⊥

pub none_at_all : (families : List Family) (count : ℕ) → length families ≤ count → NoneBefore families count
    → AreWithoutPreamble families
none_at_all families count whole none = λ one there has. none there.0 one (omega (arith, there.1, whole)) there.2 has
