-- Lemmas for the examples of non-nullable references.
use Rattle.smith_module_rules_examples.proofs.Common.{ℕ, zero, suc, List, [], ◌∷◌, length, refl, ap, ◌∙◌, inl, inr, same_Some, ValType, Ref}
use Rattle.smith_module_rules_examples.proofs.Common.{SubType, GlobalType, plain, not_null, Context, Features, IsGrounded, IsGranted, final}
use Rattle.smith_module_rules_examples.proofs.Common.{taking, ModuleParts, module_features, module_imports, with_references}
use Rattle.smith_types.specs.Syntax.value_type.AbstractHeapType.TheVariants as heap

-- a non-nullable reference to anything
abbrev pub to_any : ValType
to_any = Ref (not_null (plain heap.Any))

-- a context without functions
abbrev over : Features → List SubType → List GlobalType → ℕ → ℕ → Context
over features types globals imported_funcs imported_globals = record {
  features = features;
  types = types;
  funcs = [];
  globals = globals;
  imported_funcs = imported_funcs;
  imported_globals = imported_globals;
  visible = 0;
}

-- a function type with such a parameter
abbrev taken : List SubType
taken = final (taking to_any) ∷ []

module _ (features : Features) (globals : List GlobalType) (imported_funcs imported_globals : ℕ) where
  nothing_grounds : ¬ IsGrounded (over features [] globals imported_funcs imported_globals) (plain heap.Any)
  nothing_grounds (inl (index, g)) =
      let (t, at, is) = g.struct in
      cc at
  nothing_grounds (inr (function, index, at, below)) = cc at

  -- the reference is not granted without types, nor with such a function type
  any_ungranted : ¬ IsGranted with_references (over features [] globals imported_funcs imported_globals) to_any
  any_ungranted granted = granted (refl, λ on. nothing_grounds)

  nothing_beside : ¬ IsGrounded (over features taken globals imported_funcs imported_globals) (plain heap.Any)
  nothing_beside (inl (zero, g)) =
      let (t, at, is) = g.struct in
      let never = ap (λ (t : SubType). t.composite_type.inner) (same_Some _ t at) ∙ is in
      cc never
  nothing_beside (inl (suc index, g)) =
      let (t, at, is) = g.struct in
      cc at
  nothing_beside (inr (function, index, at, below)) = cc at

  taken_ungranted : ¬ IsGranted with_references (over features taken globals imported_funcs imported_globals) to_any
  taken_ungranted granted = granted (refl, λ on. nothing_beside)

-- the same over the globals of a module
abbrev in_module : ModuleParts → List SubType → Context
in_module m types = over (module_features m) types m.globals (length (module_imports m).funcs) (length (module_imports m).globals)

pub any_not_granted : (m : ModuleParts) → ¬ IsGranted with_references (in_module m []) to_any
any_not_granted m = any_ungranted (module_features m) m.globals (length (module_imports m).funcs) (length (module_imports m).globals)

pub any_taken : (m : ModuleParts) → ¬ IsGranted with_references (in_module m taken) to_any
any_taken m = taken_ungranted (module_features m) m.globals (length (module_imports m).funcs) (length (module_imports m).globals)
