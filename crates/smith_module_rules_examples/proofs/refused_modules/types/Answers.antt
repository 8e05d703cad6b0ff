use Rattle.smith_module_rules_examples.proofs.Common.{rules, arith, common_steps, ◌≡◌, true, false, [], ◌∷◌, Some, None, refl, sym, subst}
use Rattle.smith_module_rules_examples.proofs.Common.{same_Some, All-head, Concrete, Ref, SubType, plain, nullable, anyref, eqref}
use Rattle.smith_module_rules_examples.proofs.Common.{IsValTypeValid, IsGroupValid, IsSupertypeValid, by_cases_from_below, a_type}
use Rattle.smith_module_rules_examples.proofs.Common.{bytes_array, taking, module_features, referring_to, types_together, group_of}
use Rattle.smith_types.specs.Syntax.value_type.AbstractHeapType.TheVariants as heap
use Rattle.smith_module_rules_examples.proofs.refused_modules.types.Goals as goal

pub returns : goal.returns
returns c = record {
  below_a_final_type = λ valid.
      let first = a_type bytes_array true None in
      let second = a_type bytes_array true (Some 0) in
      let group = All-head (IsGroupValid (module_features (types_together [])) (first ∷ second ∷ [])) (group_of 0 2) [] valid.groups in
      let (above, at, is) = (group.members 1 second (omega arith) (omega arith) refl).declared 0 refl in
      let never : true ≡ false = subst (λ (t : SubType). t.is_final ≡ false) (sym (same_Some first above at)) is.not_final in
      cc never;
  narrowed_parameter = λ valid.
      let first = a_type (taking anyref) false None in
      let second = a_type (taking eqref) true (Some 0) in
      let types = first ∷ second ∷ [] in
      let group = All-head (IsGroupValid (module_features (types_together [])) types) (group_of 0 2) [] valid.groups in
      let (above, at, is) = (group.members 1 second (omega arith) (omega arith) refl).declared 0 refl in
      let known : IsSupertypeValid types second first = subst (IsSupertypeValid types second) (sym (same_Some first above at)) is in
      let (shares, never) = by_cases_from_below types valid.orderly (plain heap.Any) (plain heap.Eq) known.matched.inner.params.0.heap in
      cc never;
  within_its_group = first_of (search rules, grind (arith, common_steps));
  past_its_group = λ valid.
      let features = module_features (types_together []) in
      let first = a_type (referring_to 1) true None in
      let group = All-head (IsGroupValid features (first ∷ a_type bytes_array true None ∷ [])) (group_of 0 1) (group_of 1 2 ∷ [])
      valid.groups in
      let (references, reference) = All-head (IsValTypeValid features 1) (Ref (nullable (Concrete 1))) []
      (group.members 0 first (omega arith) (omega arith) refl).values in
      let (gc, within) = reference.heap_type in
      omega (arith, within);
}
