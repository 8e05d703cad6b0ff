-- The properties of a type space are preserved by one more type or group.
use Rattle.smith_types.proofs.Common.{[], ap, arith, get_or, if◌then◌else◌, inl, inr, length, length-append, List, not, Range, refl}
use Rattle.smith_types.proofs.Common.{same_Some, slice_get, slice_get_within, Some, subst, SubType, suc, sym, ℕ, ◌&&◌, ◌++◌, ◌+◌, ◌-◌, ◌<◌}
use Rattle.smith_types.proofs.Common.{◌^◌, ◌∙◌, ◌∷◌, ◌≡◌, ◌≤◌}
use Rattle.std.specs.Prelude.{Bool, false, nat_lt, true}
use Rattle.smith_types.specs.Types.{IsAlike, IsOrderly, end_from, next_start, next_group, AreConsecutive, AreCovered}
use Rattle.smith_types.specs.GroupedTypes.{IsSound, MayFollow, HasDepth, root, deeper, extensible_from}
use Rattle.smith_types.proofs.ListLemmas.{slice_get-grown, slice_get-push}

-- an item below the end of a list was there before another was appended
slice_get-shrunk : {A : Type 0} (xs : List A) (y : A) (i : ℕ) (x : A) → i < length xs → slice_get (xs ++ y ∷ []) i ≡ Some x
    → slice_get xs i ≡ Some x
slice_get-shrunk xs y i x inside at = elim (slice_get-push xs y i x at) [ inl old ↦ old | inr (is, same) ↦ absurd (omega arith) ]

pub IsOrderly-push : (types : List SubType) (t : SubType) → IsOrderly types
    → ((s : ℕ) → t.supertype ≡ Some s → (u : SubType) × (slice_get types s ≡ Some u) × IsAlike t u) → IsOrderly (types ++ t ∷ [])
IsOrderly-push types t orderly below = record {
  under = λ i s u at sup. elim (slice_get-push types t i u at) [
    | inl old ↦
        let (before, alike) = orderly.under i s u old sup in
        let inside : i < length types = slice_get_within types i u old in
        (before, λ v stands. alike v (slice_get-shrunk types t s v (omega arith) stands))
    | inr (is, same) ↦
        let (w, stands_at, alike) = below s (ap (λ x. x.supertype) same ∙ sup) in
        let inside : s < length types = slice_get_within types s w stands_at in (
          omega arith,
          λ v stands.
              subst (λ x. IsAlike x v) same
              (subst (λ x. IsAlike t x) (same_Some w v (sym (slice_get-grown types (t ∷ []) s w stands_at) ∙ stands)) alike),
        )
  ];
}

-- a depth is unchanged as the list grows
pub HasDepth-grown : (types more : List SubType) {i d : ℕ} → HasDepth types i d → HasDepth (types ++ more) i d
HasDepth-grown types more (root {i = i} {t = t} at none) = root (slice_get-grown types more i t at) none
HasDepth-grown types more (deeper {i = i} {t = t} at up above) = deeper (slice_get-grown types more i t at) up
    (HasDepth-grown types more above)

-- the depth of a type is unique
pub depth_alone : (types : List SubType) {i d e : ℕ} → HasDepth types i d → HasDepth types i e → d ≡ e
depth_alone types (root {i = i} {t = t} at none) (root {t = u} at' none') = refl
depth_alone types (root {i = i} {t = t} at none) (deeper {s = s} {t = u} at' up above) =
    let same : t ≡ u = same_Some t u (sym at ∙ at') in cc
depth_alone types (deeper {i = i} {s = s} {t = t} at up above) (root {t = u} at' none) =
    let same : t ≡ u = same_Some t u (sym at ∙ at') in cc
depth_alone types (deeper {i = i} {s = s} {t = t} at up above) (deeper {s = r} {d = e} {t = u} at' up' above') =
    let same : t ≡ u = same_Some t u (sym at ∙ at') in
    let one : s ≡ r = same_Some s r (sym up ∙ ap (λ (t : SubType). t.supertype) same ∙ up') in
    ap suc (depth_alone types above (subst (λ (n : ℕ). HasDepth types n e) (sym one) above'))

-- a depth is at least 1
pub depth_some : (types : List SubType) {i d : ℕ} → HasDepth types i d → 1 ≤ d
depth_some types (root at none) = omega arith
depth_some types (deeper at up above) = omega arith

-- the depth of a type is at most the number of types up to it
pub HasDepth-le : (types : List SubType) → IsOrderly types → {i d : ℕ} → HasDepth types i d → d ≤ i + 1
HasDepth-le types orderly (root at none) = omega arith
HasDepth-le types orderly (deeper {i = i} {s = s} {t = t} at up above) =
    let below : s < i = (orderly.under i s t at up).0 in
    let deep = HasDepth-le types orderly above in
    omega (arith, below, deep)

end_from-push : (start : ℕ) (groups : List (Range ℕ)) (group : Range ℕ) → end_from start (groups ++ group ∷ []) ≡ group.end
end_from-push start [] group = refl
end_from-push start (g ∷ groups) group = end_from-push g.end groups group

pub AreConsecutive-push : (start : ℕ) (groups : List (Range ℕ)) (group : Range ℕ) → AreConsecutive start groups
    → group.start ≡ end_from start groups → group.start ≤ group.end → AreConsecutive start (groups ++ group ∷ [])
AreConsecutive-push start [] group c begins ends = (begins, omega arith, tt)
AreConsecutive-push start (g ∷ groups) group (p, q, r) begins ends = (p, q, AreConsecutive-push g.end groups group r begins ends)

-- the start of the next group after one more group
pub next_start-push : (types : List SubType) (groups : List (Range ℕ)) → next_start (groups ++ next_group types groups ∷ []) ≡ length types
next_start-push types groups = end_from-push 0 groups (next_group types groups)

pub IsSound-type : (types : List SubType) (groups : List (Range ℕ)) (t : SubType) → IsSound (record { types = types; groups = groups })
    → MayFollow types t → IsSound (record { types = types ++ t ∷ []; groups = groups })
IsSound-type types groups t sound follows = record {
  orderly = IsOrderly-push types t sound.orderly follows.below;
  consecutive = sound.consecutive;
  within = simp length-append (let w : next_start groups ≤ length types = sound.within in omega arith);
  few = simp length-append (let r : length types + 1 < 2 ^ 32 = follows.room in omega arith);
}

-- with one more group that ends where the types end, the groups cover the types
pub AreCovered-group : (types : List SubType) (groups : List (Range ℕ)) → IsSound (record { types = types; groups = groups })
    → AreCovered types (groups ++ next_group types groups ∷ [])
AreCovered-group types groups sound = record {
  consecutive = AreConsecutive-push 0 groups (next_group types groups) sound.consecutive refl sound.within;
  whole = next_start-push types groups;
}

pub IsSound-group : (types : List SubType) (groups : List (Range ℕ)) → IsSound (record { types = types; groups = groups })
    → IsSound (record { types = types; groups = groups ++ next_group types groups ∷ [] })
IsSound-group types groups sound = record {
  orderly = sound.orderly;
  consecutive = (AreCovered-group types groups sound).consecutive;
  within = omega (arith, next_start-push types groups);
  few = sound.few;
}

-- the end of the last group, in the form of the code
pub end_from-last : (start : ℕ) (groups : List (Range ℕ)) → 1 ≤ length groups
    → (get_or groups (length groups - 1) (record { start = 0; end = 0 })).end ≡ end_from start groups
end_from-last start [] some = absurd (omega arith)
end_from-last start (g ∷ []) some = refl
end_from-last start (g ∷ h ∷ groups) some =
    let fewer : length (g ∷ h ∷ groups) - 1 ≡ suc (length (h ∷ groups) - 1) = omega arith in
    rw fewer (end_from-last g.end (h ∷ groups) (omega arith))

added_after : (b : Bool) (i : ℕ) (xs ys more : List ℕ) → ys ≡ xs ++ more → (if b then i ∷ ys else ys) ≡ (if b then i ∷ xs else xs) ++ more
added_after true i xs ys more e = ap (λ (l : List ℕ). i ∷ l) e
added_after false i xs ys more e = e

-- the indices of the types that may have subtypes, with one more type
pub extensible-push : (first last : ℕ) (types : List SubType) (t : SubType) (depths : List ℕ) (d : ℕ) → length depths ≡ length types
    → last ≡ first + length types
    → extensible_from first (types ++ t ∷ []) (depths ++ d ∷ []) ≡ extensible_from first types depths ++
    (if not t.is_final && nat_lt d 60 then last ∷ [] else [])
extensible-push first last [] t [] d long is = let same : last ≡ first = omega arith in rw same refl
extensible-push first last [] t (e ∷ depths) d long is = absurd (omega arith)
extensible-push first last (u ∷ types) t [] d long is = absurd (omega arith)
extensible-push first last (u ∷ types) t (e ∷ depths) d long is =
    added_after (not u.is_final && nat_lt e 60) first _ _ _ (extensible-push (first + 1) last types t depths d (omega arith) (omega arith))
