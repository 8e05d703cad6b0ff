-- Modules of the examples.
use Rattle.std.specs.Prelude.{ℕ, Option, List, [], ◌∷◌, map}
use Rattle.smith_instr.specs.declared.control.BlockType.TheVariants.{Empty}
use Rattle.smith_instr.specs.declared.instr.Instr.TheVariants.{Block}
use Rattle.smith_binary_read.specs.ExampleTypes.{sub_type}
use Rattle.smith_decode.specs.BodyReadings.{body_of}
use Rattle.smith_decode.specs.CustomReadings.{custom}
use Rattle.smith_decode.specs.ExampleModules.{no_item}
use Rattle.smith_decode.specs.declared.modules.Module.{Module}

-- a module with one type, with this supertype and these lists of further ones
abbrev pub with_supertypes : Option ℕ → List (List ℕ) → Module
with_supertypes supertype further = record no_item { types = (sub_type supertype ∷ []) ∷ []; further_supertypes = further ∷ [] }

-- a module with one function, in whose body a block has no `end`
abbrev pub in_open_block : Module
in_open_block = record no_item { functions = 0 ∷ []; bodies = body_of [] (Block Empty ∷ []) ∷ [] }

-- a module with only custom sections, after the sections with these identifiers
abbrev pub with_customs_after : List (Option ℕ) → Module
with_customs_after places = record no_item { customs = map (λ (after : Option ℕ). custom after [] []) places }
