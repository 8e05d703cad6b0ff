use Rattle.smith_binary_program.proofs.Common.{[], ap, arith, Contains, Each, length, length-append, List, refl, ℕ, ◌++◌, ◌+◌, ◌∙◌, ◌∷◌}
use Rattle.smith_binary_program.proofs.Common.{◌≡◌}
use Rattle.smith_binary.specs.Pieces.{IsSized}
use Rattle.smith_binary.proofs.NumberLemmas.{unsigned_last}
use Rattle.smith_binary_law.proofs.CheckLemmas.{both}
use Rattle.smith_binary_module.specs.Layout.{IsAnySection}
use Rattle.smith_binary_program.specs.ExamplePrograms.{preamble}
use Rattle.smith_binary_program.specs.Valid.{HasSection}
use Rattle.smith_binary_program.proofs.examples.sections.Goals as goal

-- a section of one byte, and no other
alone : Each IsAnySection (12 ∷ []) (0x0C ∷ 0x01 ∷ 0x00 ∷ [])
unfolding Each
alone =
    let sized : IsSized (λ (content : List ℕ). Unit {0}) (0x01 ∷ 0x00 ∷ []) =
    record {
      content = 0x00 ∷ [];
      is_content = tt;
      form = both (0x01 ∷ []) (0x00 ∷ [])
          (unsigned_last 32 1 (omega arith) (omega arith)).spelled refl;
    } in
    both (0x0C ∷ 0x01 ∷ 0x00 ∷ []) [] (both (0x0C ∷ []) (0x01 ∷ 0x00 ∷ []) refl sized) refl

length_joined : (bytes one other : List ℕ) → bytes ≡ one ++ other → length bytes ≡ length one + length other
length_joined bytes one other whole = ap length whole ∙ length-append one other

-- no section in no bytes
none_there : (ids piece : List ℕ) → Each IsAnySection ids piece → length piece ≡ 0 → Contains ids 12 → ⊥
unfolding Each
none_there [] piece h none there = let outside = there.1 in omega arith
none_there (id ∷ ids) piece h none there =
    let section = h.is_first in
    let whole = length_joined piece h.first h.second h.whole in
    let front = length_joined h.first section.first section.second section.whole in
    let one : length section.first ≡ 1 = ap length section.is_first in
    omega arith

no_section : HasSection 12 preamble → ⊥
no_section h =
    let joined = h.sections in
    let whole : 8 ≡ length joined.first + length joined.second = length_joined preamble joined.first joined.second joined.whole in
    let eight : length joined.first ≡ 8 = ap length joined.is_first in
    none_there h.ids joined.second joined.is_second (omega arith) h.there

pub returns : goal.returns
returns c = record {
  count_of_data = record { ids = 12 ∷ []; sections = both preamble (0x0C ∷ 0x01 ∷ 0x00 ∷ []) refl alone; there = (0, omega arith, refl) };
  no_section = no_section;
}
