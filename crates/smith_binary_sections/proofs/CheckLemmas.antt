-- The checks of counters of fuel.
use Rattle.smith_binary_sections.proofs.Common.{[], ap, arith, Is, is_joined, Leads, length, List, Output, refl, Spelling, subst, sym}
use Rattle.smith_binary_sections.proofs.Common.{Writes, written_as, ℕ, ◌^◌, ◌∙◌, ◌∷◌, ◌≡◌}
use Rattle.std.proofs.Common.{append-nil, append_assoc, ◌++◌, ◌<◌}
use Rattle.std.proofs.lemmas.List.{nil_from_length}
use Rattle.smith_binary.proofs.WrittenLemmas.{nothing_written}
use Rattle.smith_binary_sections.specs.Codes.{check_bytes, checks_bytes}

-- the last counter's check comes first
checks_last : (counters : List ℕ) (last : ℕ) → check_bytes last ++ checks_bytes counters ≡ checks_bytes (counters ++ last ∷ [])
checks_last [] last = append-nil (check_bytes last)
checks_last (counter ∷ counters) last =
    sym (append_assoc (check_bytes last) (checks_bytes counters) (check_bytes counter))
    ∙ ap (λ (bytes : List ℕ). bytes ++ check_bytes counter) (checks_last counters last)

-- one more check
pub checks_step : {Whole : Spelling → List ℕ → Type 0} {start now later : Output} (counters before : List ℕ) (last : ℕ)
    → counters ≡ before ++ last ∷ [] → Leads (λ _. Is (checks_bytes counters)) Whole start now
    → Writes (λ _. Is (check_bytes last)) now later → Leads (λ _. Is (checks_bytes before)) Whole start later
checks_step counters before last split so_far one =
    record {
      to = λ final more. so_far.to final
          (written_as (λ s piece h. h ∙ checks_last before last ∙ ap (λ (cs : List ℕ). checks_bytes cs) (sym split)) (is_joined one more));
    }

-- no check is left
pub checks_end : {Whole : Spelling → List ℕ → Type 0} {start now : Output} (counters : List ℕ) → length counters ≡ 0
    → Leads (λ _. Is (checks_bytes counters)) Whole start now → Writes Whole start now
checks_end {now = now} counters none so_far = so_far.to now (nothing_written (λ s. rw (nil_from_length counters none) refl))
