-- Distinct bits, joined, are their sum.
use Rattle.std.proofs.Common.{◌≡◌, ◌==◌, ℕ, ◌+◌, Bool, true, false, List, [], ◌∷◌, refl, sym, ap, ◌∙◌, bit_and, arith, add-zero, eq-eqb}
use Rattle.std.specs.Prelude.{sum_by, ◌&&◌}
use Rattle.std.specs.Int.Bits.{or_add_and}
use Rattle.std.proofs.lemmas.Nat.{and_or_apart}
use Rattle.std.proofs.lemmas.Bool.{eqb-true}
use Rattle.std.proofs.lemmas.List.Sums.{sum_by-cons}
use Rattle.smith_types.specs.Syntax.Features.{Features}
use Rattle.smith_types.specs.Syntax.FeatureBits.{joined, feature_rows}
use Rattle.smith_syntax.proofs.FeatureBitLemmas.{joined_all}
use Rattle.smith_config.specs.Features.{bit_of, number_of}

-- whether no row has any of these bits
abbrev is_clear : ℕ → List (Bool × ℕ) → Bool
is_clear bits [] = true
is_clear bits (row ∷ rows) = (bit_and bits row.1 == 0) && is_clear bits rows

-- whether no two rows have a common bit
abbrev are_apart : List (Bool × ℕ) → Bool
are_apart [] = true
are_apart (row ∷ rows) = is_clear row.1 rows && are_apart rows

both : (a b : Bool) → (a && b) ≡ true → (a ≡ true) × (b ≡ true)
both true true h = (refl, refl)
both true false h = cc
both false true h = cc
both false false h = cc

joined-clear : (rows : List (Bool × ℕ)) (all bit : ℕ) (on : Bool) → is_clear all rows ≡ true → is_clear bit rows ≡ true
    → is_clear (joined all on bit) rows ≡ true
unfolding joined
joined-clear rows all bit false clear other = clear
joined-clear [] all bit true clear other = refl
joined-clear (row ∷ rows) all bit true clear other =
    let here = both (bit_and all row.1 == 0) (is_clear all rows) clear in
    let there = both (bit_and bit row.1 == 0) (is_clear bit rows) other in
    let none : bit_and (joined all true bit) row.1 ≡ 0 =
    and_or_apart row.1 all bit (eqb-true _ _ there.0) ∙ eqb-true _ _ here.0 in
    ap (λ b. b && is_clear (joined all true bit) rows) (eq-eqb _ _ none) ∙ joined-clear rows all bit true here.1 there.1

joined-sum : (all bit : ℕ) (on : Bool) → bit_and all bit ≡ 0 → joined all on bit ≡ all + bit_of (on, bit)
unfolding joined
joined-sum all bit true none = let whole = or_add_and all bit in omega arith
joined-sum all bit false none = omega arith

joined_all-sum : (rows : List (Bool × ℕ)) (all : ℕ) → is_clear all rows ≡ true → are_apart rows ≡ true
    → joined_all all rows ≡ all + sum_by bit_of rows
joined_all-sum [] all clear apart = sym (add-zero all)
joined_all-sum (row ∷ rows) all clear apart =
    let here = both (bit_and all row.1 == 0) (is_clear all rows) clear in
    let later = both (is_clear row.1 rows) (are_apart rows) apart in
    let first = joined-sum all row.1 row.0 (eqb-true _ _ here.0) in
    let rest = joined_all-sum rows (joined all row.0 row.1) (joined-clear rows all row.1 row.0 here.1 later.0) later.1 in
    let more = sum_by-cons bit_of row rows in
    omega arith

pub joined_all-number : (features : Features) → joined_all 0 (feature_rows features) ≡ number_of features
joined_all-number features = joined_all-sum (feature_rows features) 0 refl refl ∙ omega arith
