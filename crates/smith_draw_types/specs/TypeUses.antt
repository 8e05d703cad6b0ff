-- The types that tags and functions may have. Rules of this project.
use Rattle.std.specs.Prelude.{ℕ, suc, Bool, true, false, not, ◌&&◌, ◌==◌, List, [], ◌∷◌, length, if◌then◌else◌, slice_get, option_to_list}
use Rattle.smith_draw_types.specs.Common.{CompositeInnerType, Func, list_any, SubType}
use Rattle.smith_types.specs.Entities.{IsTagValid, IsFuncTypeIndex}
use Rattle.smith_types.specs.KindCounts.{is_function, gives_nothing}
use Rattle.smith_draw_types.specs.declared.type_use.TypeUse.{TypeUse}
use Rattle.smith_draw_types.specs.declared.type_use.TypeUse.TheVariants.{Tag, ImportedFunc, DefinedFunc}

-- whether a type is a function type without results, as a tag requires
unfoldable pub is_tag_type : SubType → Bool
is_tag_type t = gives_nothing t.composite_type.inner

-- whether a type is an unshared function type, as a defined function requires
unfoldable pub is_unshared_function : SubType → Bool
is_unshared_function t = is_function t.composite_type.inner && not t.composite_type.shared

-- the positions of the items that pass a test, in a list that starts at position n
abbrev pub places_from : {A : Type 0} → (A → Bool) → ℕ → List A → List ℕ
places_from test n [] = []
places_from test n (x ∷ xs) = if test x then n ∷ places_from test (suc n) xs else places_from test (suc n) xs

-- whether a type suits a use: by a tag, by an imported function, which may be shared, or by a
-- defined function
abbrev pub may_be_used : TypeUse → SubType → Bool
may_be_used Tag t = is_tag_type t
may_be_used ImportedFunc t = is_function t.composite_type.inner
may_be_used DefinedFunc t = is_unshared_function t

-- the indices of the types that suit a use
abbrev pub types_for : TypeUse → List SubType → List ℕ
types_for for_use types = places_from (may_be_used for_use) 0 types

-- the type at this index suits a use
abbrev pub IsUsable : TypeUse → List SubType → ℕ → Type 0
IsUsable Tag types index = IsTagValid types index
IsUsable ImportedFunc types index = IsFuncTypeIndex types index
IsUsable DefinedFunc types index = IsFuncTypeIndex types index

-- the indices of the types that a defined function may have: only unshared types, unlike those of
-- imported functions
abbrev pub func_types : List SubType → List ℕ
func_types types = types_for DefinedFunc types

-- whether a type is a function type without parameters and results
abbrev pub takes_and_gives_nothing : CompositeInnerType → Bool
takes_and_gives_nothing (Func function) = (length function.params == 0) && (length function.results == 0)
takes_and_gives_nothing _ = false

-- whether the type at this index is a function type without parameters and results
abbrev pub is_start_type : List SubType → ℕ → Bool
is_start_type types index = list_any (λ (t : SubType). takes_and_gives_nothing t.composite_type.inner)
    (option_to_list (slice_get types index))
