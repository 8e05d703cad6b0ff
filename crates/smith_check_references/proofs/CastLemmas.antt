-- Tests and casts of references.
use Rattle.smith_check_references.proofs.Common.{[], ap, AreBelow, BodyContext, false≢true, HeapType, I32, IsOrderly, IsRefBelow}
use Rattle.smith_check_references.proofs.Common.{IsRefValid, IsScope, List, Ref, refl, RefType, subst, sym, true, ValType, values}
use Rattle.smith_check_references.proofs.Common.{with_labels, ℕ, ◌∙◌, ◌∷◌}
use Rattle.smith_instr.specs.declared.instr.Instr.TheVariants as instr
use Rattle.smith_instr.specs.declared.reference.ReferenceInstr.TheVariants as reference
use Rattle.smith_check_operands.proofs.BelowLemmas.{below_themselves}
use Rattle.smith_check_references.proofs.HierarchyLemmas.{below_top, below_nullable_top, top_valid}
use Rattle.smith_check_references.specs.Hierarchies.{IsTop, IsWidest}
use Rattle.smith_check_references.specs.Rows.{HasWidest}

-- the nullable reference to a top is a valid type above a valid reference
top_above_it : (context : BodyContext) (to : RefType) (top : HeapType) → IsTop context.types to.heap_type top
    → IsRefBelow context.types to (record { nullable = true; heap_type = top })
top_above_it context to top is = record { heap = below_top context.types to.heap_type top is; nullable = λ n. refl }

nullable_top_valid : (context : BodyContext) (to : RefType) (top : HeapType) → IsScope context → IsRefValid context to
    → IsTop context.types to.heap_type top → IsRefValid context (record { nullable = true; heap_type = top })
nullable_top_valid context to top scope valid is = record {
  heap_type = top_valid context to.heap_type top scope is valid.heap_type;
  nullable = λ n. absurd (false≢true (sym n));
}

-- a cast takes at most nullable references to the top
pub test_widest : (context : BodyContext) (labels : List (List ValType)) (set : List ℕ) (to : RefType) (widest : ValType) → IsScope context
    → IsOrderly context.types → IsRefValid context to → IsWidest context.types to widest
    → HasWidest (with_labels context labels) set (instr.Reference (reference.Test to)) (values (widest ∷ [])) (values (I32 ∷ []))
test_widest context labels set to widest scope orderly valid (top, of, is) = record {
  typed = (
    widest ∷ [],
    I32 ∷ [],
    (
      record { nullable = true; heap_type = top },
      valid,
      nullable_top_valid context to top scope valid of,
      top_above_it context to top of,
      (ap (λ (v : ValType). v ∷ []) is, refl),
    ),
    refl,
    refl,
  );
  operands_below = λ os rs t.
      let (these, those, (from, to_valid, from_valid, below, (one, other)), is_os, is_rs) = t in
      subst (λ xs. AreBelow context.types xs (values (widest ∷ []))) (sym (is_os ∙ ap (λ ts. values ts) one))
      (subst (λ v. AreBelow context.types (values (Ref from ∷ [])) (values (v ∷ []))) (sym is)
      (below_nullable_top context.types orderly to from top of below, tt));
  results_above = λ os rs t.
      let (these, those, (from, to_valid, from_valid, below, (one, other)), is_os, is_rs) = t in
      subst (λ xs. AreBelow context.types (values (I32 ∷ [])) xs) (sym (is_rs ∙ ap (λ ts. values ts) other))
      (below_themselves context.types (values (I32 ∷ [])));
}

pub cast_widest : (context : BodyContext) (labels : List (List ValType)) (set : List ℕ) (to : RefType) (widest : ValType) → IsScope context
    → IsOrderly context.types → IsRefValid context to → IsWidest context.types to widest
    → HasWidest (with_labels context labels) set (instr.Reference (reference.Cast to)) (values (widest ∷ [])) (values (Ref to ∷ []))
cast_widest context labels set to widest scope orderly valid (top, of, is) = record {
  typed = (
    widest ∷ [],
    Ref to ∷ [],
    (
      record { nullable = true; heap_type = top },
      valid,
      nullable_top_valid context to top scope valid of,
      top_above_it context to top of,
      (ap (λ (v : ValType). v ∷ []) is, refl),
    ),
    refl,
    refl,
  );
  operands_below = λ os rs t.
      let (these, those, (from, to_valid, from_valid, below, (one, other)), is_os, is_rs) = t in
      subst (λ xs. AreBelow context.types xs (values (widest ∷ []))) (sym (is_os ∙ ap (λ ts. values ts) one))
      (subst (λ v. AreBelow context.types (values (Ref from ∷ [])) (values (v ∷ []))) (sym is)
      (below_nullable_top context.types orderly to from top of below, tt));
  results_above = λ os rs t.
      let (these, those, (from, to_valid, from_valid, below, (one, other)), is_os, is_rs) = t in
      subst (λ xs. AreBelow context.types (values (Ref to ∷ [])) xs) (sym (is_rs ∙ ap (λ ts. values ts) other))
      (below_themselves context.types (values (Ref to ∷ [])));
}
