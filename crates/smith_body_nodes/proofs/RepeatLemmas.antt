-- Items that are drawn one after another.
use Rattle.smith_body_nodes.proofs.Common.{[], ap, append-nil, arith, List, refl, suc, ℕ, ◌++◌, ◌+◌, ◌-◌, ◌<◌, ◌∙◌, ◌≡◌, ◌≤◌}
use Rattle.std.proofs.Common.{append_assoc}

-- the items drawn in some turns, and the remaining ones
abbrev pub AreDrawnSoFar : {A : Type 0} → (ℕ → List ℕ → List A × List ℕ) → ℕ → List ℕ → ℕ → List A → List ℕ → Type 0
AreDrawnSoFar many count start turns done bytes =
    many count start ≡ (done ++ (many (count - turns) bytes).0, (many (count - turns) bytes).1)

pub no_turn : {A : Type 0} (many : ℕ → List ℕ → List A × List ℕ) (count : ℕ) (start : List ℕ) → AreDrawnSoFar many count start 0 [] start
no_turn many count start = let all : count - 0 ≡ count = omega arith in rw all refl

joined : {A : Type 0} (done more : List A) (whole here next : List A × List ℕ) → whole ≡ (done ++ here.0, here.1)
    → here ≡ (more ++ next.0, next.1) → whole ≡ ((done ++ more) ++ next.0, next.1)
joined {A = A} done more whole here next so_far is =
    let parts : (done ++ here.0, here.1) ≡ (done ++ (more ++ next.0), next.1) = ap (λ (r : List A × List ℕ). (done ++ r.0, r.1)) is in
    rw (append_assoc done more next.0) (so_far ∙ parts)

pub one_turn : {A : Type 0} (many : ℕ → List ℕ → List A × List ℕ) (count turns : ℕ) (start bytes left : List ℕ) (done more : List A)
    → turns < count → ((n : ℕ) → many (suc n) bytes ≡ (more ++ (many n left).0, (many n left).1))
    → AreDrawnSoFar many count start turns done bytes → AreDrawnSoFar many count start (turns + 1) (done ++ more) left
one_turn many count turns start bytes left done more inside drawn so_far =
    let step : count - turns ≡ suc (count - (turns + 1)) = omega arith in
    joined done more (many count start) (many (count - turns) bytes) (many (count - (turns + 1)) left) so_far
    (ap (λ (n : ℕ). many n bytes) step ∙ drawn (count - (turns + 1)))

pub all_turns : {A : Type 0} (many : ℕ → List ℕ → List A × List ℕ) (count turns : ℕ) (start bytes : List ℕ) (done : List A) → count ≤ turns
    → many 0 bytes ≡ ([], bytes) → AreDrawnSoFar many count start turns done bytes → many count start ≡ (done, bytes)
all_turns {A = A} many count turns start bytes done all none so_far =
    let over : count - turns ≡ 0 = omega arith in
    let end : many (count - turns) bytes ≡ ([], bytes) = ap (λ (n : ℕ). many n bytes) over ∙ none in
    so_far ∙ (ap (λ (r : List A × List ℕ). (done ++ r.0, r.1)) end ∙ ap (λ (items : List A). (items, bytes)) (append-nil done))
