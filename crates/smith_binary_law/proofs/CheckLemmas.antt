-- The bytes of checks are their instructions.
use Rattle.smith_binary_law.proofs.Common.{[], arith, Joined, List, refl, subst, sym, ℕ, ◌++◌, ◌<◌, ◌^◌, ◌∙◌, ◌∷◌, ◌≡◌}
use Rattle.std.proofs.Common.{append_assoc, suc}
use Rattle.std.specs.List.{All}
use Rattle.smith_binary.proofs.NumberLemmas.{positive_last}
use Rattle.smith_binary.proofs.ShortestLemmas.{shortest_spelled}
use Rattle.smith_binary_sections.specs.Codes.{index_bytes, check_bytes, checks_bytes, body_bytes}
use Rattle.smith_types.specs.Syntax.code.Instructions.TheVariants.{Unreachable}
use Rattle.smith_binary_law.specs.Checks.{IsGlobalGet, IsGlobalSet, IsTrapIf, IsOne, IsCheck, IsChecks, IsChecked}

pub both : {A B : List ℕ → Type 0} (one other : List ℕ) → A one → B other → Joined A B (one ++ other)
both one other a b = record { first = one; second = other; is_first = a; is_second = b; whole = refl }

one_spelled : IsOne (0x41 ∷ 0x01 ∷ [])
one_spelled = both (0x41 ∷ []) (0x01 ∷ []) refl (positive_last 32 1 (omega arith) (omega arith)).spelled

trap_spelled : IsTrapIf (0x04 ∷ 0x40 ∷ 0x00 ∷ 0x0B ∷ [])
trap_spelled = both (0x04 ∷ []) (0x40 ∷ 0x00 ∷ 0x0B ∷ []) refl
    (both (0x40 ∷ []) (0x00 ∷ 0x0B ∷ []) refl (both (0x00 ∷ []) (0x0B ∷ []) refl refl))

get_spelled : (counter : ℕ) → counter < 2 ^ 32 → IsGlobalGet counter (0x23 ∷ index_bytes counter)
get_spelled counter fits = both (0x23 ∷ []) (index_bytes counter) refl (shortest_spelled 4 32 counter (omega arith) fits)

set_spelled : (counter : ℕ) → counter < 2 ^ 32 → IsGlobalSet counter (0x24 ∷ index_bytes counter)
set_spelled counter fits = both (0x24 ∷ []) (index_bytes counter) refl (shortest_spelled 4 32 counter (omega arith) fits)

-- the check, with its bytes in the order of its instructions
nested_bytes : ℕ → List ℕ
nested_bytes counter =
    (0x23 ∷ index_bytes counter) ++
    ((0x45 ∷ []) ++ ((0x04 ∷ 0x40 ∷ 0x00 ∷ 0x0B ∷ []) ++
    ((0x23 ∷ index_bytes counter) ++ ((0x41 ∷ 0x01 ∷ []) ++ ((0x6B ∷ []) ++ (0x24 ∷ index_bytes counter))))))

regroup_four : (a b c d e : List ℕ) → (((a ++ b) ++ c) ++ d) ++ e ≡ a ++ (b ++ (c ++ (d ++ e)))
regroup_four a b c d e = append_assoc ((a ++ b) ++ c) d e ∙ append_assoc (a ++ b) c (d ++ e) ∙ append_assoc a b (c ++ (d ++ e))

nested_are : (counter : ℕ) → check_bytes counter ≡ nested_bytes counter
unfolding nested_bytes
nested_are counter = regroup_four (0x23 ∷ index_bytes counter) (0x45 ∷ 0x04 ∷ 0x40 ∷ 0x00 ∷ 0x0B ∷ []) (0x23 ∷ index_bytes counter)
    (0x41 ∷ 0x01 ∷ 0x6B ∷ []) (0x24 ∷ index_bytes counter)

check_spelled : (counter : ℕ) → counter < 2 ^ 32 → IsCheck counter (check_bytes counter)
unfolding nested_bytes
check_spelled counter fits =
    subst (IsCheck counter) (sym (nested_are counter))
    (both (0x23 ∷ index_bytes counter) _ (get_spelled counter fits)
    (both (0x45 ∷ []) _ refl
    (both (0x04 ∷ 0x40 ∷ 0x00 ∷ 0x0B ∷ []) _ trap_spelled
    (both (0x23 ∷ index_bytes counter) _ (get_spelled counter fits)
    (both (0x41 ∷ 0x01 ∷ []) _ one_spelled (both (0x6B ∷ []) (0x24 ∷ index_bytes counter) refl (set_spelled counter fits)))))))

checks_spelled : (counters : List ℕ) → All (λ (counter : ℕ). counter < 2 ^ 32) counters → IsChecks counters (checks_bytes counters)
checks_spelled [] h = refl
checks_spelled (counter ∷ counters) h =
    both (checks_bytes counters) (check_bytes counter) (checks_spelled counters (λ k d inside. h (suc k) d (omega arith)))
    (check_spelled counter (h 0 0 (omega arith)))

pub checked_spelled : (counters : List ℕ) → All (λ (counter : ℕ). counter < 2 ^ 32) counters
    → IsChecked counters (body_bytes counters Unreachable)
checked_spelled counters h = both (checks_bytes counters) (0x00 ∷ 0x0B ∷ []) (checks_spelled counters h)
    (both (0x00 ∷ []) (0x0B ∷ []) refl refl)
