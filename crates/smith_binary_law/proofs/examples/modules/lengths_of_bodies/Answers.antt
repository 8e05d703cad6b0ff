use Rattle.smith_binary_law.proofs.Common.{[], arith, Each, I32, inl, inr, IsRun, length, length-append, refl, unsigned_last, ◌++◌, ◌^◌}
use Rattle.smith_binary_law.proofs.Common.{◌∷◌}
use Rattle.std.proofs.Common.{◌≤◌}
use Rattle.smith_binary_sections.specs.Long.{IsNeverLong, IsLongBody}
use Rattle.smith_binary_sections.proofs.SizeLemmas.{AtMost, bytes_within, joined_within, none_within, not_long, no_long_items}
use Rattle.smith_binary_sections.proofs.SizeLemmas.{number_within, one_long_item, one_within}
use Rattle.smith_binary_law.proofs.CheckLemmas.{both}
use Rattle.smith_binary_law.proofs.examples.modules.lengths_of_bodies.Goals as goal

run_within : AtMost 6 (IsRun (1, I32))
run_within = joined_within 5 1 (number_within 1) (bytes_within (0x7F ∷ []))

no_local_short : IsLongBody ([], 0x00 ∷ 0x0B ∷ []) → ⊥
no_local_short (inl long) = no_long_items IsNeverLong long
no_local_short (inr long) = not_long 7 (omega arith) (joined_within 5 2 (none_within (λ local. IsRun (1, local)))
    (bytes_within (0x00 ∷ 0x0B ∷ []))) long

one_local_short : IsLongBody (I32 ∷ [], 0x00 ∷ 0x0B ∷ []) → ⊥
one_local_short (inl long) = one_long_item IsNeverLong I32 (λ never. never) long
one_local_short (inr long) = not_long 13 (omega arith) (joined_within 11 2 (one_within (λ local. IsRun (1, local)) I32 6 run_within)
    (bytes_within (0x00 ∷ 0x0B ∷ []))) long

pub returns-clause-no_local : goal.returns-clause-no_local
returns-clause-no_local c = no_local_short

pub returns-clause-one_local : goal.returns-clause-one_local
returns-clause-one_local c = one_local_short

pub returns-clause-many_locals : goal.returns-clause-many_locals
returns-clause-many_locals c = λ locals many. inl (inl many)

pub returns-clause-many_bytes : goal.returns-clause-many_bytes
unfolding Each
returns-clause-many_bytes c = λ bytes many.
    let longer : 2 ^ 32 ≤ length ((0x00 ∷ []) ++ bytes) = omega (arith, many, length-append (0x00 ∷ []) bytes) in
    inr (record {
      piece = (0x00 ∷ []) ++ bytes;
      spelled = both (0x00 ∷ []) bytes
          (both (0x00 ∷ []) [] (unsigned_last 32 0 (omega arith) (omega arith)).spelled refl) refl;
      long = longer;
    })
