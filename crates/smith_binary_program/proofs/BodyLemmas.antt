-- Bodies in order.
use Rattle.smith_binary_program.proofs.Common.{Any, arith, Body, Code, get_or, length, length-zip, List, sym, zip, ℕ, ◌<◌, ◌≡◌}
use Rattle.std.specs.Prelude.{min}
use Rattle.std.proofs.Math.Nat.{min-le_left, min-le_right}
use Rattle.std.proofs.lemmas.Slice.Zip.{get_or-zip}

-- a place of both lists
pub inside : (codes : List Code) (bodies : List Body) (place : ℕ) → place < min (length codes) (length bodies)
    → place < length (zip codes bodies)
inside codes bodies place within = rw (length-zip codes bodies) within

-- the function and the body at a place
pub pair_at : (codes : List Code) (bodies : List Body) (place : ℕ) (code : Code) (given : Body) → place < min (length codes) (length bodies)
    → code ≡ get_or codes place code → given ≡ get_or bodies place given
    → (code, given) ≡ get_or (zip codes bodies) place (code, given)
pair_at codes bodies place code given within is also =
    let here : place < length codes = omega (arith, min-le_left (length codes) (length bodies)) in
    let there : place < length bodies = omega (arith, min-le_right (length codes) (length bodies)) in
    rw (get_or-zip codes bodies place (code, given) here there, ← is, ← also)

-- some body is too long
pub long_at : (P : Code × Body → Type 0) (codes : List Code) (bodies : List Body) (place : ℕ) (code : Code) (given : Body)
    → place < min (length codes) (length bodies) → code ≡ get_or codes place code → given ≡ get_or bodies place given
    → P (code, given) → Any P (zip codes bodies)
long_at P codes bodies place code given within is also long =
    (place, (code, given), inside codes bodies place within, sym (pair_at codes bodies place code given within is also), long)
