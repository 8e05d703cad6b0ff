-- A name that is made new by digits at its end.
use Rattle.std.proofs.Common.{◌≡◌, ℕ, zero, suc, ◌+◌, ◌≤◌, ◌<◌, Bool, true, false, List, length, refl, sym, ◌∙◌, arith, length-append, inl}
use Rattle.std.proofs.Common.{inr, ◌⊎◌}
use Rattle.std.proofs.Math.Nat.{eq-or-lt_of_le}
use Rattle.smith_bytes.specs.Names.{with_copies, new_name, IsNewName}

copies_long : (text digits : List ℕ) (n : ℕ) → 0 < length digits → n ≤ length (with_copies text digits n)
copies_long text digits zero some = omega arith
copies_long text digits (suc n) some = omega (arith, copies_long text digits n some, length-append (with_copies text digits n) digits)

at_end : (j copies : ℕ) → j ≤ copies → (j ≡ copies) ⊎ (j < copies)
at_end j copies below = eq-or-lt_of_le below

-- from a number of copies on
new_from : (taken : List ℕ → Bool) (digits text : List ℕ) (copies turns j : ℕ) → taken (with_copies text digits copies) ≡ false
    → ((n : ℕ) → n < copies → taken (with_copies text digits n) ≡ true)
    → j ≤ copies → copies ≤ j + turns → new_name taken digits turns (with_copies text digits j) ≡ with_copies text digits copies
unfolding new_name
new_from taken digits text copies zero j fresh needed below enough = let same : j ≡ copies = omega arith in rw same refl
new_from taken digits text copies (suc turns) j fresh needed below enough = elim (at_end j copies below) [
  | inl same ↦ rw (same, fresh) refl
  | inr less ↦ rw (needed j less) (new_from taken digits text copies turns (suc j) fresh needed (omega arith) (omega arith))
]

few_copies : (taken : List ℕ → Bool) (digits text : List ℕ) (copies most : ℕ) → 0 < length digits
    → ((name : List ℕ) → taken name ≡ true → length name ≤ most) → ((n : ℕ) → n < copies → taken (with_copies text digits n) ≡ true)
    → copies ≤ most + 1
few_copies taken digits text zero most some short needed = omega arith
few_copies taken digits text (suc n) most some short needed =
    omega (arith, short (with_copies text digits n) (needed n (omega arith)), copies_long text digits n some)

-- a name that is made new is the one of the definition, if no taken name is longer than the limit
pub new_name_is : (taken : List ℕ → Bool) (digits text name : List ℕ) (longest : ℕ)
    → ((other : List ℕ) → taken other ≡ true → length other ≤ longest) → IsNewName taken digits text name
    → new_name taken digits (longest + 1) text ≡ name
new_name_is taken digits text name longest short made =
    let fresh : taken (with_copies text digits made.copies) ≡ false = rw made.made at made.fresh in
    let few = few_copies taken digits text made.copies longest made.some short made.needed in
    new_from taken digits text made.copies (longest + 1) 0 fresh made.needed (omega arith) (omega arith) ∙ sym made.made

-- the same by an equal test
pub new_by : {taken : List ℕ → Bool} {digits text name : List ℕ} (other : List ℕ → Bool) → ((any : List ℕ) → taken any ≡ other any)
    → IsNewName taken digits text name → IsNewName other digits text name
new_by {digits = digits} {text = text} {name = name} other same made = record {
  copies = made.copies;
  made = made.made;
  fresh = sym (same name) ∙ made.fresh;
  some = made.some;
  needed = λ n below. sym (same (with_copies text digits n)) ∙ made.needed n below;
}
