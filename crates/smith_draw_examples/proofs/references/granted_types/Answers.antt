use Rattle.std.proofs.Common.{zero, suc, true, false, List, [], ◌∷◌, None, refl, ap, ◌∙◌, inl, inr}
use Rattle.std.proofs.lemmas.List.Elements.{All-nil, All-head, All-from_recursion}
use Rattle.std.proofs.lemmas.Option.{same_Some}
use Rattle.smith_types.specs.Grounded.{IsGrounded}
use Rattle.smith_types.specs.Subtyping.{itself}
use Rattle.smith_types.specs.Syntax.value_type.AbstractHeapType.TheVariants as heap
use Rattle.smith_types.specs.Syntax.value_type.HeapType.TheVariants.{Concrete}
use Rattle.smith_types.specs.Syntax.value_type.ValType.{ValType}
use Rattle.smith_types.specs.Syntax.value_type.ValType.TheVariants.{Ref}
use Rattle.smith_types.specs.Syntax.composite_type.SubType.{SubType}
use Rattle.smith_types.specs.ExampleTypes.{open_type, final_type, giving, taking, struct_and_below, empty_struct, plain, not_null}
use Rattle.smith_types.proofs.GroundedLemmas.{grounded_at}
use Rattle.smith_config.specs.Config.{default_config}
use Rattle.smith_config.specs.declared.config.Config.{Config}
use Rattle.smith_config.specs.Granted.{IsGranted, HasGranted}
use Rattle.smith_draw_consts.specs.ExampleConstExprs.{context_of_types}
use Rattle.smith_draw_examples.proofs.references.granted_types.Goals as goal

abbrev not_nullable : Config
not_nullable = record default_config { non_nullable_enabled = true }

-- a reference to a struct, and one to anything
abbrev to_struct : ValType
to_struct = Ref (not_null (Concrete 0))

abbrev to_any : ValType
to_any = Ref (not_null (plain heap.Any))

struct_granted : IsGranted not_nullable (context_of_types struct_and_below) to_struct
struct_granted = λ h. h.1 refl (inl (0, grounded_at struct_and_below false (Concrete 0) 0 (open_type None empty_struct) refl refl itself))

nothing_grounds : ¬ IsGrounded (context_of_types []) (plain heap.Any)
nothing_grounds (inl (index, g)) =
    let (t, at, is) = g.struct in
    cc at
nothing_grounds (inr (function, index, at, below)) = cc at

any_not_granted : ¬ IsGranted not_nullable (context_of_types []) to_any
any_not_granted granted = granted (refl, λ on. nothing_grounds)

pub returns-clause-a_struct : goal.returns-clause-a_struct
returns-clause-a_struct c = struct_granted

pub returns-clause-giving_a_struct : goal.returns-clause-giving_a_struct
returns-clause-giving_a_struct c = All-from_recursion (IsGranted not_nullable (context_of_types struct_and_below)) (to_struct ∷ [])
    (struct_granted, tt)

pub returns-clause-taking_what_nothing_grounds : goal.returns-clause-taking_what_nothing_grounds
returns-clause-taking_what_nothing_grounds c =
    λ all. any_not_granted (All-head (IsGranted not_nullable (context_of_types [])) to_any [] all)

pub returns-clause-holding_it : goal.returns-clause-holding_it
returns-clause-holding_it c = λ all. any_not_granted (All-head (IsGranted not_nullable (context_of_types [])) to_any [] all)

-- a struct type, and a function type whose result is a reference to it
abbrev beside : List SubType
beside = final_type empty_struct ∷ final_type (giving (to_struct ∷ [])) ∷ []

pub returns-clause-beside_the_struct : goal.returns-clause-beside_the_struct
returns-clause-beside_the_struct c =
    let Granted = IsGranted not_nullable (context_of_types beside) in
    let grounded : Granted to_struct =
    λ h. h.1 refl (inl (0, grounded_at beside false (Concrete 0) 0 (final_type empty_struct) refl refl itself)) in
    All-from_recursion (HasGranted not_nullable (context_of_types beside)) beside
    (All-nil Granted, (All-from_recursion Granted (to_struct ∷ []) (grounded, tt), tt))

-- a function type alone, with a parameter that is a reference to anything
abbrev alone : List SubType
alone = final_type (taking (to_any ∷ [])) ∷ []

any_alone : ¬ IsGrounded (context_of_types alone) (plain heap.Any)
any_alone (inl (zero, g)) =
    let (t, at, is) = g.struct in
    let never = ap (λ (t : SubType). t.composite_type.inner) (same_Some _ t at) ∙ is in
    cc never
any_alone (inl (suc index, g)) =
    let (t, at, is) = g.struct in
    cc at
any_alone (inr (function, index, at, below)) = cc at

pub returns-clause-beside_no_struct : goal.returns-clause-beside_no_struct
returns-clause-beside_no_struct c = λ all.
    All-head (IsGranted not_nullable (context_of_types alone)) to_any [] (All-head (HasGranted not_nullable (context_of_types alone))
    (final_type (taking (to_any ∷ []))) [] all) (refl, λ on. any_alone)
