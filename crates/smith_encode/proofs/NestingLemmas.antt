-- Expressions whose blocks all end.
use Rattle.smith_encode.proofs.Common.{[], Bool, Instr, List, None, Option, refl, Some, true, ◌∷◌, ◌≡◌}
use Rattle.std.specs.Prelude.{option_and_then}
use Rattle.smith_binary_instr.specs.Nesting.{blocks_after, AreNested}
use Rattle.smith_encode.specs.Nesting.{are_closed, blocks_left}

-- after an instruction that belongs to the open blocks, the others are nested
rest_nested : (o : Option (List Bool)) (more : List Instr)
    → ((blocks : List Bool) → are_closed (blocks_left more blocks) ≡ true → AreNested blocks more)
    → are_closed (option_and_then (blocks_left more) o) ≡ true
    → (next : List Bool) × (o ≡ Some next) × AreNested next more
rest_nested (Some next) more others closed = (next, refl, others next closed)
rest_nested None more others closed = absurd cc

pub nested_sound : (instructions : List Instr) (blocks : List Bool) → are_closed (blocks_left instructions blocks) ≡ true
    → AreNested blocks instructions
nested_sound [] [] closed = refl
nested_sound [] (block ∷ blocks) closed = absurd cc
nested_sound (instruction ∷ more) blocks closed = rest_nested (blocks_after instruction blocks) more (nested_sound more) closed

pub nested_complete : (instructions : List Instr) (blocks : List Bool) → AreNested blocks instructions
    → are_closed (blocks_left instructions blocks) ≡ true
nested_complete [] blocks h = rw h refl
nested_complete (instruction ∷ more) blocks h = rw h.1 (nested_complete more h.0 h.2)
