-- One turn of a loop that grows a list, for every draw.
use Rattle.std.proofs.Common.{◌≡◌, ℕ, suc, ◌-◌, ◌+◌, ◌≤◌, ◌<◌, Bool, true, false, List, [], ◌∷◌, ◌++◌, length, refl, sym, ◌∙◌, arith}
use Rattle.std.proofs.Common.{length-append, nat_lt}
use Rattle.smith_bytes.specs.Source.{KeepsPieces}
use Rattle.smith_bytes.specs.Growth.{goes_at, grow_at}

-- the list has n items, and the remaining draws complete it to total
pub record IsGrowing {A : Type 0} (draw : List A → List ℕ → A × List ℕ) (least most n : ℕ) (made : List A) (start bytes : List ℕ)
    (total : List A × List ℕ) : Type 0 where
  pub len : length made ≡ n
  pub so_far : grow_at draw least (most - n) made bytes ≡ total
  pub left : KeepsPieces start bytes

-- one more item was drawn
pub grow_go : {A : Type 0} {draw : List A → List ℕ → A × List ℕ} {least most n : ℕ} {made more : List A} {start bytes mid : List ℕ}
    {b : Bool} {x : A} {after : List ℕ} {total : List A × List ℕ}
    → IsGrowing draw least most n made start bytes total → n < most → goes_at (nat_lt n least) bytes ≡ (b, mid) → b ≡ true
    → draw made mid ≡ (x, after) → more ≡ made ++ x ∷ [] → KeepsPieces bytes mid → KeepsPieces mid after
    → IsGrowing draw least most (n + 1) more start after total
unfolding grow_at
grow_go {draw = draw} {least = least} {most = most} {n = n} {made = made} {bytes = bytes} {x = x} {after = after} now lt go odd drawn longer
    p q =
    let k : most - n ≡ suc (most - (n + 1)) = omega arith in
    let len = now.len in
    let one : grow_at draw least (most - n) made bytes ≡ grow_at draw least (most - (n + 1)) (made ++ x ∷ []) after =
    rw (k, len, go, odd, drawn) refl in
    rw longer (record {
      len = simp length-append (omega arith);
      so_far = sym one ∙ now.so_far;
      left = λ whole h. q whole
          (p whole (now.left whole h));
    })

-- no item was drawn
pub grow_stop : {A : Type 0} {draw : List A → List ℕ → A × List ℕ} {least most n : ℕ} {made : List A} {start bytes : List ℕ} {b : Bool}
    {after : List ℕ} {total : List A × List ℕ}
    → IsGrowing draw least most n made start bytes total → n < most → goes_at (nat_lt n least) bytes ≡ (b, after) → b ≡ false
    → total ≡ (made, after)
unfolding grow_at
grow_stop {draw = draw} {least = least} {most = most} {n = n} {made = made} {bytes = bytes} {after = after} now lt go even =
    let k : most - n ≡ suc (most - suc n) = omega arith in
    let len = now.len in
    let one : grow_at draw least (most - n) made bytes ≡ (made, after) = rw (k, len, go, even) refl in
    sym now.so_far ∙ one

-- no more items may be drawn
pub grow_full : {A : Type 0} {draw : List A → List ℕ → A × List ℕ} {least most n : ℕ} {made : List A} {start bytes : List ℕ} {total : List A
    × List ℕ}
    → IsGrowing draw least most n made start bytes total → most ≤ n
    → total ≡ (made, bytes)
unfolding grow_at
grow_full {draw = draw} {least = least} {most = most} {n = n} {made = made} {bytes = bytes} now le =
    let k : most - n ≡ 0 = omega arith in
    let one : grow_at draw least (most - n) made bytes ≡ (made, bytes) = rw k refl in
    sym now.so_far ∙ one
