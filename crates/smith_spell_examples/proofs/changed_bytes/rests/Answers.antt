use Rattle.smith_spell_examples.proofs.Common.{[], arith, default_config, digit_count, false, Joined, List, Listed, refl, SpellsAnyByte}
use Rattle.smith_spell_examples.proofs.Common.{SpellsBool, SpellsBytes, SpellsGlobal, SpellsNumber, true, ℕ, ◌%◌, ◌+◌, ◌∷◌, ◌≡◌}
use Rattle.std.proofs.Common.{◌-◌}
use Rattle.std.specs.Prelude.{pos}
use Rattle.std.specs.Int.{cast_signed, w32}
use Rattle.smith_bytes.specs.Draws.{big_endian, little_endian}
use Rattle.smith_bytes.specs.Spelling.{SpellsNone}
use Rattle.smith_draw_types.specs.Spelling.{SpellsUnshared}
use Rattle.smith_draw_types.specs.SpelledConstants.{SpellsI32}
use Rattle.smith_spell.specs.Spelling.{SpellsRest, SpellsSegments}
use Rattle.smith_draw_types.specs.SpelledParts.{SpellsNoStart}
use Rattle.smith_spell_examples.proofs.SpelledExamples.{one_odd, bool_first, any_first, digit_first, this_first, word_first}
use Rattle.smith_spell_examples.proofs.SpelledExamples.{without_nothing, global_parts, opened}
use Rattle.smith_spell_examples.proofs.changed_bytes.rests.Goals as goal

-- the bytes after the globals, from the exports on
Following : List (List ℕ) → List ℕ → Type 0
Following passive = Joined (SpellsNone 100)
    (Joined SpellsAnyByte (Joined (SpellsNoStart default_config [] []) (SpellsSegments default_config passive)))

-- the bytes after the sharedness of the number 7
Mutable : List ℕ → Type 0
Mutable = Joined (SpellsBool true) (Joined (SpellsNumber 0 0 1) (SpellsI32 (pos 7)))

-- the class of a global
asked : (tables memories next class : ℕ) (b : List ℕ) → SpellsRest default_config [] [] (pos 7 ∷ []) []
    (tables ∷ memories ∷ next ∷ class ∷ b)
    → (tables % 2 ≡ 0) × ((memories % 2 ≡ 0)
    × ((next % 2 ≡ 1) × ((0 ≡ 0 + big_endian (class ∷ []) % (5 - 0 + 1)) × Joined Mutable (Joined (SpellsBool false) (Following []))
    b)))
unfolding SpellsRest SpellsGlobal Listed Following Mutable digit_count
asked tables memories next class b h =
    let (table, first) = bool_first h in
    let (memory, second) = bool_first first in
    let (more, third) = bool_first (opened (SpellsBool true) (Joined (SpellsGlobal default_config (pos 7)) (SpellsBool false)) second
    (λ part is. is)) in
    let global = opened (SpellsGlobal default_config (pos 7)) (SpellsBool false) third (λ part is. is) in
    let (class, fourth) = digit_first refl (opened (SpellsNumber 0 0 5) (Joined (SpellsUnshared default_config) Mutable) global
    (λ part is. global_parts default_config (pos 7) is)) in
    (table, (memory, (more, (class, without_nothing (opened (SpellsUnshared default_config) Mutable fourth (λ part is. is))))))

-- the number of a global, and that no global follows
valued : {mutable choice p q r s last export flag element segment : ℕ} → Joined Mutable (Joined (SpellsBool false) (Following []))
    (mutable ∷ choice ∷ p ∷ q ∷ r ∷ s ∷ last ∷ export ∷ flag ∷ element ∷ segment ∷ [])
    → (mutable % 2 ≡ 1) × ((0 ≡ 0 + big_endian (choice ∷ []) % (1 - 0 + 1))
    × ((pos 7 ≡ cast_signed w32 (little_endian (p ∷ q ∷ r ∷ s ∷ [])))
    × ((last % 2 ≡ 0) × ((export % 2 ≡ 0) × ((element % 2 ≡ 0) × SpellsBool false (segment ∷ []))))))
unfolding Following Mutable Listed digit_count
valued h =
    let (mutable, first) = bool_first (opened (SpellsBool true) (Joined (SpellsNumber 0 0 1) (SpellsI32 (pos 7))) h (λ part is. is)) in
    let (choice, second) = digit_first refl (opened (SpellsNumber 0 0 1) (SpellsI32 (pos 7)) first (λ part is. is)) in
    let (value, third) = word_first second in
    let (last, fourth) = bool_first third in
    let (export, fifth) = bool_first fourth in
    let (element, segment) = bool_first (without_nothing (any_first fifth)) in
    (mutable, (choice, (value, (last, (export, (element, segment))))))

pub returns-clause-a_number : goal.returns-clause-a_number
returns-clause-a_number c = (
  (λ h. cc (asked _ _ _ _ _ h).0),
  (
    (λ h. cc (asked _ _ _ _ _ h).1.0),
    (
      (λ h. cc (asked _ _ _ _ _ h).1.1.0),
      (
        (λ h. cc (asked _ _ _ _ _ h).1.1.1.0),
        (
          (λ h. cc (valued (asked _ _ _ _ _ h).1.1.1.1).0),
          (
            (λ h. cc (valued (asked _ _ _ _ _ h).1.1.1.1).1.0),
            (
              (λ h. cc (valued (asked _ _ _ _ _ h).1.1.1.1).1.1.0),
              (
                (λ h. cc (valued (asked _ _ _ _ _ h).1.1.1.1).1.1.0),
                (
                  (λ h. cc (valued (asked _ _ _ _ _ h).1.1.1.1).1.1.0),
                  (
                    (λ h. cc (valued (asked _ _ _ _ _ h).1.1.1.1).1.1.0),
                    (
                      (λ h. cc (valued (asked _ _ _ _ _ h).1.1.1.1).1.1.1.0),
                      (
                        (λ h. cc (valued (asked _ _ _ _ _ h).1.1.1.1).1.1.1.1.0),
                        (
                          (λ h. cc (valued (asked _ _ _ _ _ h).1.1.1.1).1.1.1.1.1.0),
                          ((λ h. one_odd (valued (asked _ _ _ _ _ h).1.1.1.1).1.1.1.1.1.1), tt),
                        ),
                      ),
                    ),
                  ),
                ),
              ),
            ),
          ),
        ),
      ),
    ),
  ),
)

-- the bytes of a spelling of one byte list, up to the bool before the list
empty_up_to : (tables memories more export flag element next : ℕ) (b : List ℕ) → SpellsRest default_config [] [] [] ((42 ∷ []) ∷ [])
    (tables ∷ memories ∷ more ∷ export ∷ flag ∷ element ∷ next ∷ b)
    → (tables % 2 ≡ 0) × ((memories % 2 ≡ 0)
    × ((more % 2 ≡ 0) × ((export % 2 ≡ 0)
    × ((element % 2 ≡ 0) × ((next % 2 ≡ 1) × Joined (SpellsBytes (42 ∷ [])) (SpellsBool false) b)))))
unfolding SpellsRest Listed
empty_up_to tables memories more export flag element next b h =
    let (table, first) = bool_first h in
    let (memory, second) = bool_first first in
    let (global, third) = bool_first second in
    let (none, fourth) = bool_first third in
    let (segment, fifth) = bool_first (without_nothing (any_first fourth)) in
    let (asked, sixth) = bool_first fifth in
    (table, (memory, (global, (none, (segment, (asked, sixth))))))

-- the bytes of that spelling after the bool
one_byte : (next byte last segment : ℕ) → Joined (SpellsBytes (42 ∷ [])) (SpellsBool false) (next ∷ byte ∷ last ∷ segment ∷ [])
    → (next % 2 ≡ 1) × ((byte ≡ 42) × ((last % 2 ≡ 0) × SpellsBool false (segment ∷ [])))
unfolding SpellsBytes
one_byte next byte last segment h =
    let (asked, first) = bool_first (opened (SpellsBool true) (Joined (λ one. one ≡ 42 ∷ []) (SpellsBool false)) h (λ part is. is)) in
    let (same, second) = this_first (opened (λ one. one ≡ 42 ∷ []) (SpellsBool false) first (λ part is. is)) in
    let (ended, third) = bool_first second in
    (asked, (same, (ended, third)))

pub returns-clause-data : goal.returns-clause-data
returns-clause-data c = (
  (λ h. cc (empty_up_to _ _ _ _ _ _ _ _ h).0),
  (
    (λ h. cc (empty_up_to _ _ _ _ _ _ _ _ h).1.0),
    (
      (λ h. cc (empty_up_to _ _ _ _ _ _ _ _ h).1.1.0),
      (
        (λ h. cc (empty_up_to _ _ _ _ _ _ _ _ h).1.1.1.0),
        (
          (λ h. cc (empty_up_to _ _ _ _ _ _ _ _ h).1.1.1.1.0),
          (
            (λ h. cc (empty_up_to _ _ _ _ _ _ _ _ h).1.1.1.1.1.0),
            (
              (λ h. cc (one_byte _ _ _ _ (empty_up_to _ _ _ _ _ _ _ _ h).1.1.1.1.1.1).0),
              (
                (λ h. let same : 43 ≡ 42 = (one_byte _ _ _ _ (empty_up_to _ _ _ _ _ _ _ _ h).1.1.1.1.1.1).1.0 in omega (arith, same)),
                (
                  (λ h. cc (one_byte _ _ _ _ (empty_up_to _ _ _ _ _ _ _ _ h).1.1.1.1.1.1).1.1.0),
                  ((λ h. one_odd (one_byte _ _ _ _ (empty_up_to _ _ _ _ _ _ _ _ h).1.1.1.1.1.1).1.1.1), tt),
                ),
              ),
            ),
          ),
        ),
      ),
    ),
  ),
)
