-- Labels of a branch to one of several, one after another.
use Rattle.smith_body_control.proofs.Common.{[], ap, append-nil, AreDrawnSoFar, arith, BodyContext, get_or, label_count, length, List, None}
use Rattle.smith_body_control.proofs.Common.{Option, range_at, refl, slice_get, Some, sym, ValType, ℕ, ◌++◌, ◌+◌, ◌-◌, ◌<◌, ◌∙◌, ◌∷◌, ◌≡◌}
use Rattle.smith_body_control.proofs.Common.{◌≤◌}
use Rattle.std.proofs.Common.{suc, zero}
use Rattle.std.proofs.lemmas.Option.{slice_get-get_or}
use Rattle.smith_bytes.specs.Draws.{choose_at}
use Rattle.smith_bytes.proofs.DrawnLemmas.{range_within}
use Rattle.smith_body_control.specs.BranchChoices.{some_targets_at, target_count_at, targets_at}
use Rattle.smith_body_nodes.specs.Offered.{is_target, offered}
use Rattle.smith_body_nodes.proofs.ChosenLemmas.{choose_none}
use Rattle.smith_body_nodes.proofs.RepeatLemmas.{all_turns, no_turn, one_turn}

-- no item is chosen only if there is none
none_offered : {A : Type 0} (items : List A) (bytes left : List ℕ) → choose_at items bytes ≡ (None, left) → length items ≡ 0
unfolding choose_at
none_offered [] bytes left drawn = refl
none_offered {A = A} (x ∷ xs) bytes left drawn =
    let place = (range_at 0 (length (x ∷ xs) - 1) bytes).0 in
    let inside : place < length (x ∷ xs) = omega (arith, range_within 0 (length (x ∷ xs) - 1) bytes (omega arith)) in
    let there : slice_get (x ∷ xs) place ≡ Some (get_or (x ∷ xs) place x) = slice_get-get_or (x ∷ xs) place x inside in
    let none : slice_get (x ∷ xs) place ≡ None = ap (λ (r : Option A × List ℕ). r.0) drawn in
    cc

-- the targets drawn so far and the remaining ones
abbrev pub AreDrawnTargets : BodyContext → List ValType → ℕ → List ℕ → ℕ → List ℕ → List ℕ → Type 0
AreDrawnTargets context taken count start turns done bytes = AreDrawnSoFar (targets_at context taken) count start turns done bytes

pub targets_none : (context : BodyContext) (taken : List ValType) (count : ℕ) (start : List ℕ)
    → AreDrawnTargets context taken count start 0 [] start
targets_none context taken count start = no_turn (targets_at context taken) count start

pub targets_more : (context : BodyContext) (taken : List ValType) (count turns label : ℕ) (start done bytes left : List ℕ) → turns < count
    → choose_at (offered (is_target context.types context.labels taken) (label_count context)) bytes ≡ (Some label, left)
    → AreDrawnTargets context taken count start turns done bytes → AreDrawnTargets context taken count start (turns + 1)
    (done ++ label ∷ []) left
unfolding targets_at
targets_more context taken count turns label start done bytes left more drawn so_far = one_turn (targets_at context taken) count turns start
    bytes left done (label ∷ []) more (λ n. rw drawn refl) so_far

pub targets_all : (context : BodyContext) (taken : List ValType) (count turns : ℕ) (start done bytes : List ℕ) → count ≤ turns
    → AreDrawnTargets context taken count start turns done bytes → targets_at context taken count start ≡ (done, bytes)
unfolding targets_at
targets_all context taken count turns start done bytes all so_far = all_turns (targets_at context taken) count turns start bytes done all
    refl so_far

no_targets : (context : BodyContext) (taken : List ValType) (count : ℕ) (bytes : List ℕ)
    → length (offered (is_target context.types context.labels taken) (label_count context)) ≡ 0 → targets_at context taken count bytes
    ≡ ([], bytes)
unfolding targets_at
no_targets context taken zero bytes none = refl
no_targets context taken (suc count) bytes none =
    rw (
      choose_none (offered (is_target context.types context.labels taken) (label_count context)) bytes none,
      no_targets context taken count bytes none,
    ) refl

pub targets_stop : (context : BodyContext) (taken : List ValType) (count turns : ℕ) (start done bytes left : List ℕ)
    → choose_at (offered (is_target context.types context.labels taken) (label_count context)) bytes ≡ (None, left)
    → AreDrawnTargets context taken count start turns done bytes → targets_at context taken count start ≡ (done, left)
targets_stop context taken count turns start done bytes left drawn so_far =
    let items = offered (is_target context.types context.labels taken) (label_count context) in
    let none = none_offered items bytes left drawn in
    let same : bytes ≡ left = ap (λ (r : Option ℕ × List ℕ). r.1) (sym (choose_none items bytes none) ∙ drawn) in
    so_far
    ∙ (ap (λ (r : List ℕ × List ℕ). (done ++ r.0, r.1)) (no_targets context taken (count - turns) bytes none)
    ∙ (ap (λ (targets : List ℕ). (targets, bytes)) (append-nil done) ∙ ap (λ (b : List ℕ). (done, b)) same))

-- the number of targets is drawn first
pub targets_by : (context : BodyContext) (taken : List ValType) (bytes start left targets : List ℕ) (count : ℕ)
    → target_count_at bytes ≡ (count, start) → targets_at context taken count start ≡ (targets, left) → some_targets_at context taken bytes
    ≡ (targets, left)
targets_by context taken bytes start left targets count drawn is = ap (λ (r : ℕ × List ℕ). targets_at context taken r.0 r.1) drawn ∙ is
