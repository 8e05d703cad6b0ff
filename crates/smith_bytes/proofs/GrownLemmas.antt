-- Properties of a list grown by draws, for every draw.
use Rattle.std.proofs.Common.{◌≡◌, ℕ, zero, suc, ◌+◌, ◌≤◌, Bool, true, false, cond, List, [], ◌∷◌, ◌++◌, length, ltb, refl, arith}
use Rattle.std.proofs.Common.{length-append, nat_lt, All}
use Rattle.std.proofs.lemmas.Bool.{ltb-false}
use Rattle.std.proofs.lemmas.List.Elements.{All-push}
use Rattle.smith_bytes.specs.Draws.{bool_at}
use Rattle.smith_bytes.specs.Growth.{goes_at, grow_at}

pub cond_both : {A : Type 0} (P : A → Type 0) (b : Bool) (x y : A) → P x → P y → P (cond b x y)
cond_both P true x y p q = p
cond_both P false x y p q = q

-- a grown list has at most as many items as it had and may gain
pub grow_most : {A : Type 0} (draw : List A → List ℕ → A × List ℕ) (least most top : ℕ) (made : List A) (bytes : List ℕ)
    → length made + most ≤ top → length (grow_at draw least most made bytes).0 ≤ top
unfolding grow_at
grow_most draw least zero top made bytes le = omega arith
grow_most {A = A} draw least (suc most) top made bytes le =
    let go = goes_at (nat_lt (length made) least) bytes in
    let x = draw made go.1 in
    cond_both (λ (r : List A × List ℕ). length r.0 ≤ top) go.0 (grow_at draw least most (made ++ x.0 ∷ []) x.1) (made, go.1)
    (grow_most draw least most top (made ++ x.0 ∷ []) x.1 (omega (arith, length-append made (x.0 ∷ [])))) (omega arith)

-- by cases on whether there are too few items
least_turn : {A : Type 0} (least n : ℕ) (made : List A) (bytes : List ℕ) (next : List ℕ → List A × List ℕ) (b : Bool) → ltb n least ≡ b
    → n ≡ length made → ((mid : List ℕ) → least ≤ length (next mid).0)
    → least ≤ length (cond (goes_at b bytes).0 (next (goes_at b bytes).1) (made, (goes_at b bytes).1)).0
least_turn least n made bytes next true e len more = more bytes
least_turn {A = A} least n made bytes next false e len more =
    let at_least = ltb-false n least e in
    cond_both (λ (r : List A × List ℕ). least ≤ length r.0) (bool_at bytes).0 (next (bool_at bytes).1) (made, (bool_at bytes).1)
    (more (bool_at bytes).1) (omega arith)

-- a grown list has at least `least` items if that many may be added
pub grow_least : {A : Type 0} (draw : List A → List ℕ → A × List ℕ) (least most : ℕ) (made : List A) (bytes : List ℕ)
    → least ≤ length made + most → least ≤ length (grow_at draw least most made bytes).0
unfolding grow_at
grow_least draw least zero made bytes le = omega arith
grow_least draw least (suc most) made bytes le =
    least_turn least (length made) made bytes (λ mid. grow_at draw least most (made ++ (draw made mid).0 ∷ []) (draw made mid).1)
    (ltb (length made) least) refl refl
    (λ mid. grow_least draw least most (made ++ (draw made mid).0 ∷ []) (draw made mid).1
    (omega (arith, length-append made ((draw made mid).0 ∷ []))))

-- a property of the items before and of each drawn item holds for all items
pub grow_all : {A : Type 0} (P : A → Type 0) (draw : List A → List ℕ → A × List ℕ)
    → ((made : List A) (bytes : List ℕ) → P (draw made bytes).0) → (least most : ℕ) (made : List A) (bytes : List ℕ) → All P made
    → All P (grow_at draw least most made bytes).0
unfolding grow_at
grow_all P draw each least zero made bytes h = h
grow_all {A = A} P draw each least (suc most) made bytes h =
    let go = goes_at (nat_lt (length made) least) bytes in
    let x = draw made go.1 in
    cond_both (λ (r : List A × List ℕ). All P r.0) go.0 (grow_at draw least most (made ++ x.0 ∷ []) x.1) (made, go.1)
    (grow_all P draw each least most (made ++ x.0 ∷ []) x.1 (All-push P made x.0 h (each made go.1))) h
