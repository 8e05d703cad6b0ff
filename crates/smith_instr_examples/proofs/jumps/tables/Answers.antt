use Rattle.smith_instr_examples.proofs.Common.{rules, arith, common_steps, ◌≡◌, ℕ, List, [], ◌∷◌, ◌++◌, refl, subst, AllZip}
use Rattle.smith_instr_examples.proofs.Common.{All-from_recursion, All-head, funcref, IsValBelow, itself, SubType, ValType, F32, F64, I32}
use Rattle.smith_instr_examples.proofs.Common.{I64, V128, Ref, IsValBelow-refl, BodyContext, IsTaken, IsLabel, some_func, managed}
use Rattle.smith_instr_examples.proofs.Common.{managed_types}
use Rattle.smith_instr_examples.proofs.SequenceExamples.{valid_none, valid_one}
use Rattle.smith_instr_examples.proofs.jumps.tables.Goals as goal

-- the types that a label takes
accepted : (context : BodyContext) (values : List ValType) (label : ℕ) (taken : List ValType) → IsLabel context label taken
    → IsTaken context values label → AllZip (IsValBelow context.types) values taken
accepted context values label taken there (others, at, below) =
    let same : others ≡ taken = cc in
    subst (AllZip (IsValBelow context.types) values) same below

apart : (types : List SubType) (values : List ValType) → AllZip (IsValBelow types) values (I32 ∷ [])
    → AllZip (IsValBelow types) values (I64 ∷ []) → ⊥
apart types [] narrow wide = narrow
apart types (I32 ∷ values) narrow wide = wide.0
apart types (I64 ∷ values) narrow wide = narrow.0
apart types (F32 ∷ values) narrow wide = narrow.0
apart types (F64 ∷ values) narrow wide = narrow.0
apart types (V128 ∷ values) narrow wide = narrow.0
apart types (Ref r ∷ values) narrow wide = narrow.0

both_lengths : (types : List SubType) (values : List ValType) → AllZip (IsValBelow types) values []
    → AllZip (IsValBelow types) values (I32 ∷ []) → ⊥
both_lengths types [] none one = one
both_lengths types (x ∷ values) none one = none

no_index : (below taken : List ValType) → I64 ∷ [] ≡ below ++ (taken ++ I32 ∷ []) → ⊥
no_index [] [] is = cc
no_index [] (x ∷ []) is = cc
no_index [] (x ∷ y ∷ taken) is = cc
no_index (x ∷ []) [] is = cc
no_index (x ∷ []) (y ∷ taken) is = cc
no_index (x ∷ y ∷ below) taken is = cc

pub returns : goal.returns
returns c = record {
  to_alike_labels =
      let context = managed ((I32 ∷ []) ∷ (I32 ∷ []) ∷ []) [] in (
        I32 ∷ [],
        All-from_recursion (IsTaken context (I32 ∷ [])) (0 ∷ 1 ∷ []) (
          (I32 ∷ [], refl, (tt, tt)),
          ((I32 ∷ [], refl, (tt, tt)), tt),
        ),
        (I32 ∷ [], refl, (tt, tt)),
        (I64 ∷ [], refl, valid_one context F32 tt),
      );
  to_labels_above =
      let context = managed ((Ref funcref ∷ []) ∷ (some_func ∷ []) ∷ []) [] in (
        some_func ∷ [],
        All-from_recursion (IsTaken context (some_func ∷ [])) (0 ∷ [])
            ((Ref funcref ∷ [], refl, (record { heap = itself; nullable = λ on. refl }, tt)), tt),
        (some_func ∷ [], refl, (IsValBelow-refl managed_types some_func, tt)),
        ([], refl, valid_none context),
      );
  to_the_last_alone = first_of (search rules, grind (arith, common_steps));
  to_labels_of_other_types = λ results typed.
      let context = managed ((I32 ∷ []) ∷ (I64 ∷ []) ∷ []) [] in
      let (taken, all, other, is) = typed in
      apart managed_types taken (accepted context taken 0 (I32 ∷ []) refl (All-head (IsTaken context taken) 0 [] all))
      (accepted context taken 1 (I64 ∷ []) refl other);
  to_a_listed_label_of_another_type = λ results typed.
      let context = managed ((I32 ∷ []) ∷ (I64 ∷ []) ∷ []) [] in
      let (taken, all, other, is) = typed in
      apart managed_types taken (accepted context taken 0 (I32 ∷ []) refl other)
      (accepted context taken 1 (I64 ∷ []) refl (All-head (IsTaken context taken) 1 [] all));
  to_labels_of_other_lengths = λ operands results typed.
      let context = managed ([] ∷ (I32 ∷ []) ∷ []) [] in
      let (taken, all, other, is) = typed in
      both_lengths managed_types taken (accepted context taken 0 [] refl (All-head (IsTaken context taken) 0 [] all))
      (accepted context taken 1 (I32 ∷ []) refl other);
  without_an_index = λ results typed. let (taken, all, other, (below, is, valid)) = typed in no_index below taken is;
  by_a_wide_index = λ results typed. let (taken, all, other, (below, is, valid)) = typed in no_index below taken is;
  past_the_last_label = first_of (search rules, grind (arith, common_steps));
  other_past_the_last_label = first_of (search rules, grind (arith, common_steps));
}
