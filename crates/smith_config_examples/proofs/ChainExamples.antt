-- The depths of types, each a subtype of the one before.
use Rattle.smith_config_examples.proofs.Common.{◌≡◌, ◌⊎◌, ℕ, zero, suc, ◌<◌, ◌≤◌, List, [], ◌∷◌, Option, Some, None, length, length-append}
use Rattle.smith_config_examples.proofs.Common.{refl, sym, ap, subst, ◌∙◌, true, false, IsTrue, inl, inr, arith, slice_get, All, All-cons}
use Rattle.smith_config_examples.proofs.Common.{All-nil, All-push, same_Some, slice_get_within, Features, IsValTypeValid, IsTypeValid}
use Rattle.smith_config_examples.proofs.Common.{IsGroupValid, AreTypesValid, SubType, IsAlike, IsOrderly, HasDepth, root, deeper, open_type}
use Rattle.smith_config_examples.proofs.Common.{empty_struct, range, slice_get-grown, slice_get-last, IsOrderly-push, HasDepth-le}
use Rattle.smith_config_examples.proofs.Common.{IsShallow, before, chain}

-- a type with a depth exists
stands : (types : List SubType) {index depth : ℕ} → HasDepth types index depth → index < length types
stands types (root {i = i} {t = t} at none) = slice_get_within types i t at
stands types (deeper {i = i} {t = t} at up above) = slice_get_within types i t at

less_or_last : (i n : ℕ) → i < suc n → (i < n) ⊎ (i ≡ n)
less_or_last zero zero h = inr refl
less_or_last (suc i) zero h = absurd (omega (arith, h))
less_or_last zero (suc n) h = inl (omega arith)
less_or_last (suc i) (suc n) h = elim (less_or_last i n (omega (arith, h))) [
  | inl less ↦ inl (omega (arith, less))
  | inr same ↦ inr
      (ap suc same)
]

-- a list of at most 63 types is shallow
pub shallow_if_few : (types : List SubType) → IsOrderly types → length types ≤ 63 → IsShallow types
shallow_if_few types orderly few = record {
  each = λ index depth deep.
      let inside : index < length types = stands types deep in
      let most = HasDepth-le types orderly deep in
      omega (arith, few, inside, most);
}

chain_length : (count : ℕ) → length (chain count) ≡ count
chain_length zero = refl
chain_length (suc count) = simp length-append (let e = chain_length count in omega (arith, e))

-- the types of a chain
chain_at : (count index : ℕ) → index < count → slice_get (chain count) index ≡ Some (open_type (before index) empty_struct)
chain_at zero index inside = absurd (omega arith)
chain_at (suc count) index inside = elim (less_or_last index count inside) [
  | inl less ↦ slice_get-grown (chain count) (open_type (before count) empty_struct ∷ []) index (open_type (before index) empty_struct)
      (chain_at count index less)
  | inr last ↦
      subst (λ n. slice_get (chain (suc count)) n ≡ Some (open_type (before n) empty_struct)) (sym last)
      (subst (λ n. slice_get (chain (suc count)) n ≡ Some (open_type (before count) empty_struct)) (chain_length count)
      (slice_get-last (chain count) (open_type (before count) empty_struct)))
]

pub chain_deep : (count index : ℕ) → index < count → HasDepth (chain count) index (suc index)
chain_deep count zero inside = root {t = open_type None empty_struct} (chain_at count zero inside) refl
chain_deep count (suc index) inside = deeper {t = open_type (Some index) empty_struct} (chain_at count (suc index) inside) refl
    (chain_deep count index (omega (arith, inside)))

-- the type before a type of a chain exists, and has the same kind and sharedness
above : (count s : ℕ) → before count ≡ Some s → (u : SubType) × (slice_get (chain count) s ≡ Some u)
    × IsAlike (open_type (before count) empty_struct) u
above zero s up = cc
above (suc count) s up =
    let same : count ≡ s = same_Some count s up in (
      open_type (before s) empty_struct,
      subst (λ n. slice_get (chain (suc count)) n ≡ Some (open_type (before n) empty_struct)) same
          (chain_at (suc count) count (omega arith)),
      record { kind = refl; shared = refl },
    )

pub chain_orderly : (count : ℕ) → IsOrderly (chain count)
chain_orderly zero = record { under = λ i s t at up. cc }
chain_orderly (suc count) = IsOrderly-push (chain count) (open_type (before count) empty_struct) (chain_orderly count) (above count)

pub chain_shallow : (count : ℕ) → count ≤ 63 → IsShallow (chain count)
chain_shallow count few = shallow_if_few (chain count) (chain_orderly count) (let e = chain_length count in omega (arith, e, few))

-- each type of a chain is valid if struct types are enabled
chain_type_valid : (features : Features) → IsTrue features.gc → (count index : ℕ) → index < count → IsTypeValid features (chain count) count
    (open_type (before index) empty_struct)
chain_type_valid features gc count zero inside = record {
  enabled = record { inner = gc; not_final = λ _. gc; supertype = λ never. cc; shared = λ never. cc never };
  values = All-nil (IsValTypeValid features count);
  declared = λ s up. cc up;
  shareable = λ never. cc;
}
chain_type_valid features gc count (suc index) inside = record {
  enabled = record { inner = gc; not_final = λ _. gc; supertype = λ _. gc; shared = λ never. cc };
  values = All-nil (IsValTypeValid features count);
  declared = λ s up.
      let same : index ≡ s = same_Some index s up in (
        open_type (before index) empty_struct,
        subst (λ n. slice_get (chain count) n ≡ Some (open_type (before index) empty_struct)) same (chain_at count index (omega arith)),
        record { not_final = refl; matched = record { inner = tt; shared = refl } },
      );
  shareable = λ never. cc;
}

pub chain_valid : (features : Features) → IsTrue features.gc → (count : ℕ)
    → AreTypesValid features (record { types = chain count; groups = range 0 count ∷ [] })
chain_valid features gc count =
    let group : IsGroupValid features (chain count) (range 0 count) = record {
      members = λ i t low high at.
          let same : open_type (before i) empty_struct ≡ t = same_Some (open_type (before i) empty_struct) t
          (sym (chain_at count i high) ∙ at) in
          subst (IsTypeValid features (chain count) count) same (chain_type_valid features gc count i high);
      single = λ off. let never : true ≡ false = sym gc ∙ off in cc never;
    } in
    record {
      covered = record { consecutive = (refl, omega arith, tt); whole = sym (chain_length count) };
      orderly = chain_orderly count;
      groups = All-cons (IsGroupValid features (chain count)) (range 0 count) [] group (All-nil (IsGroupValid features (chain count)));
    }

-- a property of each struct type without fields holds for all types of a chain
pub chain_all : (P : SubType → Type 0) → ((supertype : Option ℕ) → P (open_type supertype empty_struct)) → (count : ℕ) → All P (chain count)
chain_all P each zero = All-nil P
chain_all P each (suc count) = All-push P (chain count) (open_type (before count) empty_struct) (chain_all P each count)
    (each (before count))
