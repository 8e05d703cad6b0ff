-- Reading items one after the other, as a loop does.
use Rattle.std.proofs.Common.{◌≡◌, ℕ, suc, ◌-◌, ◌+◌, ◌≤◌, ◌<◌, List, [], ◌∷◌, ◌++◌, Ok, Err, refl, sym, ap, ◌∙◌, append_assoc}
use Rattle.std.proofs.Common.{append-nil, arith}
use Rattle.smith_binary_read.specs.declared.error.ReadError.{ReadError}
use Rattle.smith_binary_read.specs.declared.error.ReadError.TheVariants as error
use Rattle.smith_binary_read.specs.Readings.{Reading, ◌>>=◌, Fails, each_at}

-- what was read before, and what is still read
abbrev pub with_front : {A : Type 0} → List A → Reading (List A) → Reading (List A)
with_front front read = read >>= (λ x. Ok (front ++ x.0, x.1))

pub regroup : {A : Type 0} (front : List A) (x : A) (read : Reading (List A))
    → with_front front (read >>= (λ xs. Ok (x ∷ xs.0, xs.1))) ≡ with_front (front ++ x ∷ []) read
regroup {A = A} front x (Ok xs) = ap (λ (all : List A). Ok (all, xs.1)) (simp append_assoc)
regroup front x (Err fault) = refl

pub goes_on : {A : Type 0} (read : List ℕ → Reading A) (front : List A) (count i : ℕ) (bytes : List ℕ) (x : A) (after : List ℕ)
    (total : Reading (List A)) → i < count → read bytes ≡ Ok (x, after)
    → with_front front (each_at read (count - i) bytes) ≡ total
    → with_front (front ++ x ∷ []) (each_at read (count - (i + 1)) after) ≡ total
unfolding each_at
goes_on read front count i bytes x after total below h so_far =
    let k : count - i ≡ suc (count - (i + 1)) = omega arith in
    let one : with_front front (each_at read (count - i) bytes) ≡ with_front (front ++ x ∷ []) (each_at read (count - (i + 1)) after) = rw
    (k, h) (regroup front x (each_at read (count - (i + 1)) after)) in
    sym one ∙ so_far

pub ends : {A : Type 0} (read : List ℕ → Reading A) (e : ReadError) (front : List A) (count i : ℕ) (bytes : List ℕ)
    (total : Reading (List A)) → i < count → Fails e (read bytes)
    → with_front front (each_at read (count - i) bytes) ≡ total → Fails e total
unfolding each_at
ends read error.Memory front count i bytes total below h so_far = tt
ends read (error.Malformed fault) front count i bytes total below h so_far =
    let k : count - i ≡ suc (count - (i + 1)) = omega arith in
    let one : with_front front (each_at read (count - i) bytes) ≡ Err fault = rw (k, h) refl in
    sym so_far ∙ one

pub is_done : {A : Type 0} (read : List ℕ → Reading A) (front : List A) (count i : ℕ) (bytes : List ℕ) (total : Reading (List A))
    → count ≤ i → with_front front (each_at read (count - i) bytes) ≡ total → total ≡ Ok (front, bytes)
unfolding each_at
is_done {A = A} read front count i bytes total past so_far =
    let k : count - i ≡ 0 = omega arith in
    let one : with_front front (each_at read (count - i) bytes) ≡ Ok (front, bytes) = rw k
    (ap (λ (all : List A). Ok (all, bytes)) (append-nil front)) in
    sym so_far ∙ one
