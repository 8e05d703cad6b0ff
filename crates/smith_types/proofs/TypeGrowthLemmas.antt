-- Valid types stay valid when whole groups are appended.
use Rattle.smith_types.proofs.Common.{[], All, All-from_recursion, arith, Features, length, List, Range, refl, slice_index_or, subst}
use Rattle.smith_types.proofs.Common.{SubType, sym, ℕ, ◌++◌, ◌∙◌, ◌∷◌, ◌≡◌, ◌≤◌}
use Rattle.std.proofs.lemmas.List.Elements.{All-append}
use Rattle.smith_types.specs.Types.{AreConsecutive, end_from, next_start}
use Rattle.smith_types.specs.ValidTypes.{IsGroupValid, AreTypesValid}
use Rattle.smith_types.specs.Grown.{AreGroupsAdded}
use Rattle.smith_types.proofs.ListLemmas.{slice_get-front}
use Rattle.smith_types.proofs.ValidityLemmas.{IsTypeValid-grown, ends_within}

-- an existing group stays valid
pub IsGroupValid-more : (features : Features) (types more : List SubType) (group : Range ℕ) → group.end ≤ length types
    → IsGroupValid features types group → IsGroupValid features (types ++ more) group
IsGroupValid-more features types more group inside h = record {
  members = λ i t low high at. IsTypeValid-grown features types more group.end t
      (h.members i t low high (slice_get-front types more i t (omega (arith, high, inside)) at));
  single = h.single;
}

-- the end of groups with others appended
end_from-append : (start : ℕ) (groups further : List (Range ℕ)) → end_from start (groups ++ further) ≡ end_from (end_from start groups)
    further
end_from-append start [] further = refl
end_from-append start (group ∷ groups) further = end_from-append group.end groups further

AreConsecutive-append : (start : ℕ) (groups further : List (Range ℕ)) → AreConsecutive start groups
    → AreConsecutive (end_from start groups) further → AreConsecutive start (groups ++ further)
AreConsecutive-append start [] further h following = following
AreConsecutive-append start (group ∷ groups) further (begins, ordered, rest) following =
    (begins, ordered, AreConsecutive-append group.end groups further rest following)

pub AreTypesValid-more : (features : Features) (types more : List SubType) (groups further : List (Range ℕ))
    → AreTypesValid features (record { types = types; groups = groups }) → AreGroupsAdded features types more further
    → AreTypesValid features (record { types = types ++ more; groups = groups ++ further })
AreTypesValid-more features types more groups further now added =
    let ends : next_start groups ≡ length types = now.covered.whole in
    let within = All-from_recursion (λ (group : Range ℕ). group.end ≤ next_start groups) groups
    (ends_within 0 groups now.covered.consecutive).1 in
    let old : All (IsGroupValid features (types ++ more)) groups =
    λ k d lt. IsGroupValid-more features types more (slice_index_or groups k d) (let inside = within k d lt in omega (arith, ends, inside))
    (now.groups k d lt) in
    record {
      covered = record {
        consecutive = AreConsecutive-append 0 groups further now.covered.consecutive
            (subst (λ n. AreConsecutive n further) (sym ends) added.consecutive);
        whole = end_from-append 0 groups further ∙ subst (λ n. end_from n further ≡ length (types ++ more)) (sym ends) added.whole;
      };
      orderly = added.orderly;
      groups = All-append (IsGroupValid features (types ++ more)) groups further old added.valid;
    }
