-- Properties of a list that is grown by draws that may be refused, for every draw.
use Rattle.smith_draw_consts.proofs.Common.{[], arith, Bool, Error, false, length, length-append, List, refl, suc, true, zero, ℕ, ◌++◌, ◌+◌}
use Rattle.smith_draw_consts.proofs.Common.{◌∷◌, ◌≡◌, ◌≤◌}
use Rattle.std.proofs.Common.{ltb}
use Rattle.std.proofs.Common.{Result, Ok}
use Rattle.std.specs.Prelude.{IfOk}
use Rattle.std.proofs.lemmas.Bool.{cond_both, ltb-false, lt-ltb}
use Rattle.smith_bytes.specs.Growth.{goes_at}
use Rattle.smith_bytes.specs.Spelling.{SpellsBool, SpellsNone}
use Rattle.smith_bytes.proofs.SpelledLemmas.{bool_read}
use Rattle.smith_draw_consts.specs.TriedLists.{try_grow_at}
use Rattle.smith_draw_consts.proofs.TriedStepLemmas.{following}

pub stops_by : (b : Bool) (bytes : List ℕ) → (goes_at b bytes).0 ≡ false → b ≡ false
stops_by true bytes off = cc
stops_by false bytes off = refl

-- a grown list has at most as many items as it had and may gain
pub try_grow_most : {A : Type 0} (draw : List A → List ℕ → Result (A × List ℕ) Error) (least most top : ℕ) (made : List A) (bytes : List ℕ)
    → length made + most ≤ top → IfOk (try_grow_at draw least most made bytes) (λ grown. length grown.0 ≤ top)
unfolding try_grow_at
try_grow_most draw least zero top made bytes le = omega arith
try_grow_most {A = A} draw least (suc most) top made bytes le =
    let go = goes_at (ltb (length made) least) bytes in
    let Most = λ (grown : List A × List ℕ). length grown.0 ≤ top in
    cond_both go.0 _ _ (λ (r : Result (List A × List ℕ) Error). IfOk r Most)
    (λ on. following Most _ _ (λ x. try_grow_most draw least most top (made ++ x.0 ∷ []) x.1
    (omega (arith, length-append made (x.0 ∷ [])))))
    (λ off. omega arith)

-- a grown list has at least `least` items if that many may be added
pub try_grow_least : {A : Type 0} (draw : List A → List ℕ → Result (A × List ℕ) Error) (least most : ℕ) (made : List A) (bytes : List ℕ)
    → least ≤ length made + most → IfOk (try_grow_at draw least most made bytes) (λ grown. least ≤ length grown.0)
unfolding try_grow_at
try_grow_least draw least zero made bytes le = omega arith
try_grow_least {A = A} draw least (suc most) made bytes le =
    let go = goes_at (ltb (length made) least) bytes in
    let Least = λ (grown : List A × List ℕ). least ≤ length grown.0 in
    cond_both go.0 _ _ (λ (r : Result (List A × List ℕ) Error). IfOk r Least)
    (λ on. following Least _ _ (λ x. try_grow_least draw least most (made ++ x.0 ∷ []) x.1 (omega (arith, length-append made (x.0 ∷ [])))))
    (λ off. ltb-false (length made) least (stops_by (ltb (length made) least) bytes off))

-- a piece that ends the list before its first item is read
pub try_grow_none : {A : Type 0} (draw : List A → List ℕ → Result (A × List ℕ) Error) (most : ℕ) (piece after : List ℕ)
    → SpellsNone most piece → try_grow_at draw 0 most [] (piece ++ after) ≡ Ok ([], after)
unfolding try_grow_at
try_grow_none draw zero piece after spelled = rw spelled refl
try_grow_none draw (suc most) piece after spelled =
    let stop : SpellsBool false piece = rw (lt-ltb 0 (suc most) (omega arith)) at spelled in
    rw (bool_read false piece after stop) refl
