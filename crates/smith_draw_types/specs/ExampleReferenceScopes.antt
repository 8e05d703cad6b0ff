-- Types of the examples.
use Rattle.std.specs.Prelude.{ℕ, zero, suc, ◌+◌, List, [], ◌∷◌, None, Some}
use Rattle.smith_draw_types.specs.Common.{I8, SubType}
use Rattle.smith_types.specs.ExampleTypes.{open_type, final_type, shared_type, empty_struct, array, plain_func, constant}

-- a struct, an array, a function, the same three shared, and then another struct and another array
abbrev pub of_each_kind : List SubType
of_each_kind =
    open_type None empty_struct ∷ open_type None (array (constant I8)) ∷ open_type None plain_func ∷
    shared_type empty_struct ∷ shared_type (array (constant I8)) ∷ shared_type plain_func ∷
    final_type empty_struct ∷ final_type (array (constant I8)) ∷ []

-- `count` structs: the first a subtype of the type at this index, each other a subtype of the
-- struct before it
abbrev pub structs_below : ℕ → ℕ → List SubType
structs_below zero index = []
structs_below (suc count) index = open_type (Some index) empty_struct ∷ structs_below count (index + 1)

-- a struct, and `count` more, each a subtype of the struct before it
abbrev pub chain : ℕ → List SubType
chain count = open_type None empty_struct ∷ structs_below count 0
