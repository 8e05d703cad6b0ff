-- The globals that an expression may read are those that are listed.
use Rattle.smith_draw_consts.proofs.Common.{[], append-nil, arith, Bool, Context, drop, false, GlobalType, inl, inr, is_val_below}
use Rattle.smith_draw_consts.proofs.Common.{IsOrderly, IsValBelow, length, List, not, refl, same_Some, slice_get, subst, suc, sym, take}
use Rattle.smith_draw_consts.proofs.Common.{true, val_decides, ValType, zero, ℕ, ◌&&◌, ◌++◌, ◌+◌, ◌<◌, ◌∙◌, ◌∷◌, ◌≡◌, ◌≤◌, ◌⊎◌}
use Rattle.std.proofs.Common.{Some}
use Rattle.std.proofs.lemmas.List.{at_drop_all}
use Rattle.std.specs.Prelude.{◌↔◌}
use Rattle.std.specs.List.{Contains}
use Rattle.std.specs.Bool.{Decides}
use Rattle.std.proofs.lemmas.Bool.Decides.{Decides-and}
use Rattle.smith_draw_consts.specs.ConstOffers.{each_from, offered_if, readable_globals}
use Rattle.smith_draw_consts.specs.ConstScopes.{IsReadable}

-- an item of a list, by recursion
abbrev Among : {A : Type 0} → A → List A → Type 0
Among x [] = ⊥
Among x (y ∷ ys) = (y ≡ x) ⊎ Among x ys

among : {A : Type 0} (xs : List A) (x : A) → Contains xs x → Among x xs
among [] x (k, inside, at) = absurd (omega arith)
among (y ∷ xs) x (zero, inside, at) = inl at
among (y ∷ xs) x (suc k, inside, at) = inr (among xs x (k, omega arith, at))

contained : {A : Type 0} (xs : List A) (x : A) → Among x xs → Contains xs x
contained [] x h = absurd h
contained (y ∷ xs) x (inl same) = (0, omega arith, same)
contained (y ∷ xs) x (inr more) = let (k, inside, at) = contained xs x more in (suc k, omega arith, at)

-- the indices of the items that pass a test
abbrev passing : {A : Type 0} → (A → Bool) → ℕ → List A → List ℕ
passing test start xs = each_from (λ index x. offered_if (test x) index) start xs

-- an item that passes is at this index
abbrev Passes : {A : Type 0} → (A → Bool) → ℕ → List A → ℕ → Type 0
Passes {A} test start xs index = (k : ℕ) × (x : A) × (slice_get xs k ≡ Some x) × (test x ≡ true) × (index ≡ start + k)

passes_later : {A : Type 0} (test : A → Bool) (start : ℕ) (x : A) (xs : List A) (index : ℕ) → Passes test (start + 1) xs index
    → Passes test start (x ∷ xs) index
passes_later test start x xs index (k, y, at, passes, same) = (suc k, y, at, passes, omega arith)

passes_first : {A : Type 0} (test : A → Bool) (start : ℕ) (x : A) (xs : List A) (index : ℕ) (b : Bool) → test x ≡ b
    → (Among index (passing test (start + 1) xs) → Passes test (start + 1) xs index)
    → Among index (offered_if b start ++ passing test (start + 1) xs) → Passes test start (x ∷ xs) index
passes_first test start x xs index true is later (inl same) = (0, x, refl, is, omega arith)
passes_first test start x xs index true is later (inr more) = passes_later test start x xs index (later more)
passes_first test start x xs index false is later more = passes_later test start x xs index (later more)

passed : {A : Type 0} (test : A → Bool) (start : ℕ) (xs : List A) (index : ℕ) → Among index (passing test start xs)
    → Passes test start xs index
passed test start [] index h = absurd h
passed test start (x ∷ xs) index h = passes_first test start x xs index (test x) refl (passed test (start + 1) xs index) h

unless_first : (b : Bool) (start index : ℕ) (more : List ℕ) → Among index more → Among index (offered_if b start ++ more)
unless_first true start index more h = inr h
unless_first false start index more h = h

passing_at : {A : Type 0} (test : A → Bool) (start : ℕ) (xs : List A) (k index : ℕ) (x : A) → slice_get xs k ≡ Some x → test x ≡ true
    → start + k ≡ index → Among index (passing test start xs)
passing_at test start [] k index x at passes is = cc
passing_at test start (y ∷ xs) zero index x at passes is =
    let here : test y ≡ true = subst (λ z. test z ≡ true) (sym (same_Some y x at)) passes in
    rw here (inl (omega arith))
passing_at test start (y ∷ xs) (suc k) index x at passes is =
    unless_first (test y) start index (passing test (start + 1) xs) (passing_at test (start + 1) xs k index x at passes (omega arith))

-- the items of a prefix of a list
front_stands : {A : Type 0} (n : ℕ) (xs : List A) (k : ℕ) (x : A) → slice_get (take n xs) k ≡ Some x → (k < n) × (slice_get xs k ≡ Some x)
front_stands zero xs k x at = cc
front_stands (suc n) [] k x at = cc
front_stands (suc n) (y ∷ xs) zero x at = (omega arith, at)
front_stands (suc n) (y ∷ xs) (suc k) x at = let (inside, there) = front_stands n xs k x at in (omega arith, there)

stands_in_front : {A : Type 0} (n : ℕ) (xs : List A) (k : ℕ) (x : A) → k < n → slice_get xs k ≡ Some x → slice_get (take n xs) k ≡ Some x
stands_in_front zero xs k x inside at = absurd (omega arith)
stands_in_front (suc n) [] k x inside at = cc
stands_in_front (suc n) (y ∷ xs) zero x inside at = at
stands_in_front (suc n) (y ∷ xs) (suc k) x inside at = stands_in_front n xs k x (omega arith) at

not_decides : (b : Bool) → Decides (not b) (b ≡ false)
not_decides true = (λ e. cc, λ e. cc)
not_decides false = (λ e. refl, λ e. refl)

test_decides : (context : Context) → IsOrderly context.types → (wanted : ValType) (global : GlobalType)
    → Decides (not global.mutable && is_val_below context.types global.val_type wanted) ((global.mutable ≡ false)
    × IsValBelow context.types global.val_type wanted)
test_decides context orderly wanted global =
    Decides-and (not global.mutable) (is_val_below context.types global.val_type wanted) (not_decides global.mutable)
    (val_decides context.types orderly global.val_type wanted)

-- an index is listed if and only if its global may be read
pub readable_listed : (context : Context) → IsOrderly context.types → (wanted : ValType) (index : ℕ)
    → Contains (readable_globals context wanted) index ↔ IsReadable context wanted index
readable_listed context orderly wanted index =
    let test = λ (global : GlobalType). not global.mutable && is_val_below context.types global.val_type wanted in
    let seen = take context.visible context.globals in (
      λ listed.
          let (k, global, at, passes, same) = passed test 0 seen index (among (readable_globals context wanted) index listed) in
          let (inside, there) = front_stands context.visible context.globals k global at in
          let (immutable, below) = (test_decides context orderly wanted global).0 passes in
          let is : k ≡ index = omega arith in
          (global.val_type, (global, subst (λ n. slice_get context.globals n ≡ Some global) is there, omega arith, immutable, refl), below),
      λ (value, (global, there, inside, immutable, same), below).
          let lower : IsValBelow context.types global.val_type wanted = subst (λ v. IsValBelow context.types v wanted) (sym same) below in
          let passes = (test_decides context orderly wanted global).1 (immutable, lower) in
          contained (readable_globals context wanted) index
          (passing_at test 0 seen index index global (stands_in_front context.visible context.globals index global inside there) passes
          (omega arith)),
    )

-- the same for a list made by a loop over the visible globals
pub listed_readable : (context : Context) → IsOrderly context.types → (wanted : ValType) (listed : List ℕ) (n : ℕ)
    → length (take context.visible context.globals) ≤ n
    → listed ++ each_from (λ index (global : GlobalType). offered_if (not global.mutable && is_val_below context.types global.val_type
    wanted) index) n (drop n (take context.visible context.globals)) ≡ readable_globals context wanted
    → (index : ℕ) → Contains listed index ↔ IsReadable context wanted index
listed_readable context orderly wanted listed n done made index =
    let rest = λ (globals : List GlobalType). listed ++ each_from
    (λ index (global : GlobalType). offered_if (not global.mutable && is_val_below context.types global.val_type wanted) index) n
    globals in
    let whole : listed ≡ readable_globals context wanted =
    sym (append-nil listed) ∙ sym (at_drop_all rest (take context.visible context.globals) n done) ∙ made in
    rw whole (readable_listed context orderly wanted index)
