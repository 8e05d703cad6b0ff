use Rattle.smith_check_module.proofs.Common.{ap, AreTypesValid, EntitySpaces, features_in, GlobalType, imported_spaces, length, List}
use Rattle.smith_check_module.proofs.Common.{spaces_in, subst, sym, syntax_of, ℕ, ◌+◌, ◌∙◌, ◌≡◌}
use Rattle.smith_types.specs.GroupedTypes.{GroupedTypes}
use Rattle.smith_check_types.proofs.CheckLemmas.{section_valid}
use Rattle.smith_check_module.specs.Contexts.{spaces_in as spaces_of_module}
use Rattle.smith_check_module.proofs.SectionLemmas.{decided}
use Rattle.smith_check_module.proofs.SpaceLemmas.{context_same, globals_counted}
use Rattle.smith_check_module.proofs.check.check_sections.Goals as goal

pub first_fault-requires : goal.first_fault-requires
first_fault-requires c =
    let imported_same : spaces_in c.in_ok-imported.imported ≡ imported_spaces (syntax_of c.args.module.now).imports =
    rw c.as_slice.ensures at c.in_ok-imported.ensures.ok in
    let made_same : spaces_in c.in_ok-spaces.spaces ≡ spaces_of_module c.args.types.now.indices (syntax_of c.args.module.now) =
    rw c.as_slice-2.ensures at c.in_ok-spaces.ensures.ok in
    let count : c.len-2.result ≡ length (imported_spaces (syntax_of c.args.module.now).imports).globals =
    c.len-2.ensures ∙ ap (λ (s : EntitySpaces). length s.globals) imported_same in
    record {
      types = subst (λ (s : GroupedTypes). AreTypesValid (features_in c.args.features) s) (sym c.requires.checked.space)
          (section_valid (features_in c.args.features) c.args.module.now.types c.args.types.now.indices c.requires.checked.canonical
          c.requires.checked.valid);
      funcs = c.as_slice-5.ensures;
      globals = c.as_slice-6.ensures;
      imported_globals = count;
      counted = ap (λ (gs : List GlobalType). length gs) c.as_slice-6.ensures
          ∙ globals_counted c.args.types.now.indices c.args.module.now c.in_ok-spaces.spaces.globals
          (ap (λ (s : EntitySpaces). s.globals) made_same) ∙ ap (λ (n : ℕ). n + length c.args.module.now.globals) (sym count);
      repeated = rw c.as_slice-3.ensures at c.in_ok-repeated.ensures.ok;
    }

pub returns-clause-decided : goal.returns-clause-decided
returns-clause-decided c =
    let imported_same : spaces_in c.in_ok-imported.imported ≡ imported_spaces (syntax_of c.args.module.now).imports =
    rw c.as_slice.ensures at c.in_ok-imported.ensures.ok in
    let made_same : spaces_in c.in_ok-spaces.spaces ≡ spaces_of_module c.args.types.now.indices (syntax_of c.args.module.now) =
    rw c.as_slice-2.ensures at c.in_ok-spaces.ensures.ok in
    (decided (features_in c.args.features) c.args.types.now.indices (syntax_of c.args.module.now) _ (spaces_in c.in_ok-spaces.spaces)
    c.first_fault.result (context_same c.args.types.now.indices c.args.module.now (spaces_in c.in_ok-imported.imported)
    (spaces_in c.in_ok-spaces.spaces)
    imported_same (features_in c.args.features) c.args.types.now.space.types c.as_slice-5.result.now c.as_slice-6.result.now c.len.result
    c.len-2.result (ap (λ (s : GroupedTypes). s.types) c.requires.checked.space) made_same c.as_slice-5.ensures c.as_slice-6.ensures
    c.len.ensures c.len-2.ensures) made_same (rw c.as_slice-4.ensures at c.first_fault.ensures.ok)).0

pub returns-clause-first : goal.returns-clause-first
returns-clause-first c =
    let imported_same : spaces_in c.in_ok-imported.imported ≡ imported_spaces (syntax_of c.args.module.now).imports =
    rw c.as_slice.ensures at c.in_ok-imported.ensures.ok in
    let made_same : spaces_in c.in_ok-spaces.spaces ≡ spaces_of_module c.args.types.now.indices (syntax_of c.args.module.now) =
    rw c.as_slice-2.ensures at c.in_ok-spaces.ensures.ok in
    (decided (features_in c.args.features) c.args.types.now.indices (syntax_of c.args.module.now) _ (spaces_in c.in_ok-spaces.spaces)
    c.first_fault.result (context_same c.args.types.now.indices c.args.module.now (spaces_in c.in_ok-imported.imported)
    (spaces_in c.in_ok-spaces.spaces)
    imported_same (features_in c.args.features) c.args.types.now.space.types c.as_slice-5.result.now c.as_slice-6.result.now c.len.result
    c.len-2.result (ap (λ (s : GroupedTypes). s.types) c.requires.checked.space) made_same c.as_slice-5.ensures c.as_slice-6.ensures
    c.len.ensures c.len-2.ensures) made_same (rw c.as_slice-4.ensures at c.first_fault.ensures.ok)).1
