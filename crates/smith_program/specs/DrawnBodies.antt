-- The bodies that the input bytes give, in the order in which they are drawn. Rules of this
-- project.
use Rattle.std.specs.Prelude.{ℕ, suc, ◌+◌, ◌-◌, ◌/◌, min, Option, Some, None, List, [], ◌∷◌, length, slice_get}
use Rattle.smith_types.specs.Syntax.code.Code.{Code}
use Rattle.smith_types.specs.Syntax.code.Instructions.{Instructions}
use Rattle.smith_types.specs.Syntax.code.Instructions.TheVariants.{Arbitrary, Unreachable}
use Rattle.smith_types.specs.Syntax.composite_type.FuncType.{FuncType}
use Rattle.smith_module_rules.specs.Module.{ModuleParts, module_imports}
use Rattle.smith_body.specs.Bodies.{body_at}
use Rattle.smith_body_nodes.specs.Offered.{function_in}
use Rattle.smith_program.specs.Bodies.{function_context}
use Rattle.smith_program.specs.declared.program.Body.{Body}
use Rattle.smith_program.specs.declared.program.Body.TheVariants as body

-- the type of the defined function at `place`; in a valid module there is one
abbrev pub defined_func_type : ModuleParts → ℕ → Option FuncType
defined_func_type m place = function_in m.types (slice_get m.funcs (length (module_imports m).funcs + place))

-- the budget of the body at `place`: 8 plus a fifth of its share of the bytes left, but at most the
-- budget of the configuration
unfoldable pub budget_at : ModuleParts → ℕ → List ℕ → ℕ
budget_at m place bytes = min m.config.max_instructions (8 + length bytes / (length m.code - place) / 5)

-- the body of a function of this type with this budget, and the bytes left
abbrev pub body_of : ModuleParts → Code → ℕ → Option FuncType → List ℕ → Body × List ℕ
body_of m code budget (Some function) bytes =
    let drawn = body_at m.config (function_context m function code.locals) budget bytes in
    (body.Drawn drawn.0, drawn.1)
body_of m code budget None bytes = (body.Raw, bytes)

-- the body at `place`, and the bytes left; raw bytes are kept, and no byte is read for them
abbrev pub unless_raw : ModuleParts → ℕ → Code → Instructions → List ℕ → Body × List ℕ
unless_raw m place code (Arbitrary raw) bytes = (body.Raw, bytes)
unless_raw m place code Unreachable bytes = body_of m code (budget_at m place bytes) (defined_func_type m place) bytes

unfoldable pub one_at : ModuleParts → ℕ → Code → List ℕ → Body × List ℕ
one_at m place code bytes = unless_raw m place code code.instructions bytes

-- the bodies from `place` on, and the bytes left
abbrev pub bodies_from : ModuleParts → ℕ → List Code → List ℕ → List Body × List ℕ
bodies_from m place [] bytes = ([], bytes)
bodies_from m place (code ∷ more) bytes =
    let first = one_at m place code bytes in
    let rest = bodies_from m (suc place) more first.1 in
    (first.0 ∷ rest.0, rest.1)

-- the body of each defined function, and the bytes left
unfoldable pub bodies_at : ModuleParts → List ℕ → List Body × List ℕ
bodies_at m bytes = bodies_from m 0 m.code bytes
