-- One turn of a loop that grows a list by draws that may be refused, for every draw.
use Rattle.smith_draw_consts.proofs.Common.{[], arith, Bool, Error, false, KeepsPieces, length, length-append, List, refl, suc, sym, true}
use Rattle.smith_draw_consts.proofs.Common.{ℕ, ◌++◌, ◌+◌, ◌-◌, ◌<◌, ◌∙◌, ◌∷◌, ◌≡◌, ◌≤◌}
use Rattle.std.proofs.Common.{nat_lt}
use Rattle.std.proofs.Common.{Err, Ok, Result}
use Rattle.smith_bytes.specs.Growth.{goes_at}
use Rattle.smith_bytes.specs.Steps.{◌>>=◌}
use Rattle.smith_draw_consts.specs.TriedLists.{try_grow_at}

-- the list has n items, and the remaining draws lead to the whole
pub record IsTrying {A : Type 0} (draw : List A → List ℕ → Result (A × List ℕ) Error) (least most n : ℕ) (made : List A)
    (start bytes : List ℕ) (whole : Result (List A × List ℕ) Error) : Type 0 where
  pub len : length made ≡ n
  pub so_far : try_grow_at draw least (most - n) made bytes ≡ whole
  pub left : KeepsPieces start bytes

-- no item is drawn yet
pub try_start : {A : Type 0} (draw : List A → List ℕ → Result (A × List ℕ) Error) (least most : ℕ) (start : List ℕ)
    → IsTrying draw least most 0 [] start start (try_grow_at draw least most [] start)
try_start draw least most start =
    let all : most - 0 ≡ most = omega arith in
    record { len = refl; so_far = rw all refl; left = λ whole h. h }

module _ {A : Type 0} {draw : List A → List ℕ → Result (A × List ℕ) Error} {least most n : ℕ} {made : List A} {start bytes mid : List ℕ}
    {b : Bool} {whole : Result (List A × List ℕ) Error} where
  -- another item is drawn or refused
  try_turn : IsTrying draw least most n made start bytes whole → n < most → goes_at (nat_lt n least) bytes ≡ (b, mid) → b ≡ true
      → whole ≡ (draw made mid >>= (λ x. try_grow_at draw least (most - (n + 1)) (made ++ x.0 ∷ []) x.1))
  unfolding try_grow_at
  try_turn now lt go on =
      let k : most - n ≡ suc (most - (n + 1)) = omega arith in
      let one : try_grow_at draw least (most - n) made bytes
      ≡ (draw made mid >>= (λ x. try_grow_at draw least (most - (n + 1)) (made ++ x.0 ∷ []) x.1)) = rw (k, now.len, go, on) refl in
      sym now.so_far ∙ one

  -- one more item was drawn
  pub try_go : {x : A} {more : List A} {after : List ℕ} → IsTrying draw least most n made start bytes whole → n < most
      → goes_at (nat_lt n least) bytes ≡ (b, mid) → b ≡ true → draw made mid ≡ Ok (x, after) → more ≡ made ++ x ∷ []
      → KeepsPieces bytes mid → KeepsPieces mid after → IsTrying draw least most (n + 1) more start after whole
  try_go now lt go on drawn longer p q =
      let turned : draw made mid >>= (λ x. try_grow_at draw least (most - (n + 1)) (made ++ x.0 ∷ []) x.1) ≡ whole =
      sym (try_turn now lt go on) in
      rw longer (record {
        len = rw length-append (omega (arith, now.len));
        so_far = rw drawn at turned;
        left = λ whole h. q whole (p whole (now.left whole h));
      })

  -- an item was refused
  pub try_refused : {e : Error} → IsTrying draw least most n made start bytes whole → n < most → goes_at (nat_lt n least) bytes ≡ (b, mid)
      → b ≡ true → draw made mid ≡ Err e → whole ≡ Err e
  try_refused now lt go on refused = try_turn now lt go on ∙ rw refused refl

  -- the drawn bool ends the list
  pub try_stop : IsTrying draw least most n made start bytes whole → n < most → goes_at (nat_lt n least) bytes ≡ (b, mid) → b ≡ false
      → whole ≡ Ok (made, mid)
  unfolding try_grow_at
  try_stop now lt go off =
      let k : most - n ≡ suc (most - suc n) = omega arith in
      let one : try_grow_at draw least (most - n) made bytes ≡ Ok (made, mid) = rw (k, now.len, go, off) refl in
      sym now.so_far ∙ one

-- no more items may be drawn
pub try_full : {A : Type 0} {draw : List A → List ℕ → Result (A × List ℕ) Error} {least most n : ℕ} {made : List A} {start bytes : List ℕ}
    {whole : Result (List A × List ℕ) Error}
    → IsTrying draw least most n made start bytes whole → most ≤ n → whole ≡ Ok (made, bytes)
unfolding try_grow_at
try_full {draw = draw} {least = least} {most = most} {n = n} {made = made} {bytes = bytes} now le =
    let k : most - n ≡ 0 = omega arith in
    let one : try_grow_at draw least (most - n) made bytes ≡ Ok (made, bytes) = rw k refl in
    sym now.so_far ∙ one
