-- Branches by a cast.
use Rattle.smith_check_branches.proofs.Common.{[], All, All-head, all_at, all_left, all_right, ap, AreBelow, AreValid, BodyContext}
use Rattle.smith_check_branches.proofs.Common.{CountsAs, IsInRange, IsTrue, IsValBelow, IsValid, List, Ref, RefType, slice_get, Slot, Some}
use Rattle.smith_check_branches.proofs.Common.{some_same, subst, sym, ValType, values, values_append, with_labels, ℕ, ◌++◌, ◌↔◌, ◌∙◌, ◌∷◌}
use Rattle.smith_check_branches.proofs.Common.{◌≡◌}
use Rattle.std.proofs.lemmas.List.{same_from_push}
use Rattle.smith_types.specs.Subtyping.{IsRefBelow}
use Rattle.smith_instr.specs.Contexts.{IsRefValid}
use Rattle.smith_instr.specs.InstrTypes.{IsBranchCast}
use Rattle.smith_instr.specs.declared.control.BranchCast.{BranchCast}
use Rattle.smith_check_rules.specs.declared.slot.Slot.TheVariants as slot
use Rattle.smith_check_operands.proofs.BelowLemmas.{below_trans}
use Rattle.smith_check_branches.specs.References.{least_valid, IsCastValid, TakesReference}
use Rattle.smith_check_branches.proofs.OperandLemmas.{heap_in_range}
use Rattle.smith_check_branches.proofs.NullLemmas.{lower_last, slot_above_least, least_above}

pub cast_at : (context : BodyContext) (labels : List (List ValType)) (cast : BranchCast) (branches : RefType) (others : List ValType)
    → IsCastValid context cast → TakesReference context labels cast.label branches others
    → IsBranchCast (with_labels context labels) cast branches others
cast_at context labels cast branches others v t = record {
  from_valid = v.from_valid;
  to_valid = v.to_valid;
  below = v.below;
  wanted = t.wanted;
  taken = t.taken;
  arrives = t.arrives;
}

pub cast_valid : (context : BodyContext) (labels : List (List ValType)) (cast : BranchCast) (branches : RefType) (others : List ValType)
    → IsBranchCast (with_labels context labels) cast branches others → IsCastValid context cast
cast_valid context labels cast branches others b = record { from_valid = b.from_valid; to_valid = b.to_valid; below = b.below }

pub cast_takes : (context : BodyContext) (labels : List (List ValType)) (cast : BranchCast) (branches : RefType) (others : List ValType)
    → IsBranchCast (with_labels context labels) cast branches others → TakesReference context labels cast.label branches others
cast_takes context labels cast branches others b = record { wanted = b.wanted; taken = b.taken; arrives = b.arrives }

-- a label takes the same values below its reference
pub others_same : (context : BodyContext) (labels : List (List ValType)) (index : ℕ) (reference : RefType) (these others : List ValType)
    → TakesReference context labels index reference these → TakesReference context labels index reference others → these ≡ others
others_same context labels index reference these others t u =
    (same_from_push these others (Ref t.wanted) (Ref u.wanted)
    (some_same (these ++ Ref t.wanted ∷ []) (others ++ Ref u.wanted ∷ []) (sym t.taken ∙ u.taken))).0

-- the values of valid labels are valid, and those that take references have these
pub others_valid : (context : BodyContext) (labels : List (List ValType)) (index : ℕ) (reference : RefType) (others : List ValType)
    → All (AreValid context) labels → TakesReference context labels index reference others
    → AreValid context others × IsTrue context.features.reference_types
others_valid context labels index reference others valid t =
    let whole = all_at (AreValid context) labels index (others ++ Ref t.wanted ∷ []) valid t.taken in (
      all_left (IsValid context) others (Ref t.wanted ∷ []) whole,
      (All-head (IsValid context) (Ref t.wanted) [] (all_right (IsValid context) others (Ref t.wanted ∷ []) whole)).0,
    )

-- a reference counts as what its least valid type counts as
pub least_counts : (context : BodyContext) (others : List ValType) (reference : RefType) (given : List Slot)
    → CountsAs context (values (others ++ Ref (least_valid context reference) ∷ [])) given
    ↔ CountsAs context (values (others ++ Ref reference ∷ [])) given
least_counts context others reference given =
    let types = context.types in
    let lower = slot.Value (Ref reference) in
    let least = slot.Value (Ref (least_valid context reference)) in
    let split = values_append others (Ref reference ∷ []) in
    let least_split = values_append others (Ref (least_valid context reference) ∷ []) in (
      λ c. record {
        below = subst (λ xs. AreBelow types xs given) (sym split)
            (lower_last context (values others) least lower given c.valid
            (λ g p v. below_trans types lower least g (least_above context reference) p)
            (subst (λ xs. AreBelow types xs given) least_split c.below));
        valid = c.valid;
      },
      λ c. record {
        below = subst (λ xs. AreBelow types xs given) (sym least_split)
            (lower_last context (values others) lower least given c.valid (slot_above_least context reference)
            (subst (λ xs. AreBelow types xs given) split c.below));
        valid = c.valid;
      },
    )

pub ref_in_range : (context : BodyContext) (reference : RefType) → IsRefValid context reference
    → IsInRange context.types reference.heap_type
ref_in_range context reference valid = heap_in_range context reference.heap_type valid.heap_type

-- a label whose reference is not above another takes no such reference
pub arrives_not : (context : BodyContext) (labels : List (List ValType)) (index : ℕ) (reference : RefType)
    (taken these others : List ValType) (wanted : RefType) → slice_get labels index ≡ Some taken → taken ≡ these ++ Ref wanted ∷ []
    → (IsRefBelow context.types reference wanted → ⊥) → TakesReference context labels index reference others → ⊥
arrives_not context labels index reference taken these others wanted there is never t =
    let (front, last) = same_from_push others these (Ref t.wanted) (Ref wanted)
    (some_same (others ++ Ref t.wanted ∷ []) (these ++ Ref wanted ∷ []) (sym t.taken ∙ there ∙ ap (λ ts. Some ts) is)) in
    never (subst (λ v. IsValBelow context.types (Ref reference) v) last t.arrives)
