-- The bodies that the bytes give. Rules of this project.
use Rattle.std.specs.Prelude.{ℕ, Bool, false, List, [], take, drop, if◌then◌else◌}
use Rattle.smith_draw_contents.specs.Common.{bool_at, Config, Context, grow_at}
use Rattle.smith_bytes.specs.Draws.{len_at}
use Rattle.smith_types.specs.Syntax.code.Code.{Code}
use Rattle.smith_types.specs.Syntax.code.Instructions.{Instructions}
use Rattle.smith_types.specs.Syntax.code.Instructions.TheVariants.{Unreachable, Arbitrary}
use Rattle.smith_draw_types.specs.Locals.{locals_at}

-- a length, then that number of raw bytes
unfoldable pub raw_bytes_at : List ℕ → Instructions × List ℕ
raw_bytes_at bytes = let len = len_at bytes in (Arbitrary (take len.0 len.1), drop len.0 len.1)

-- whether a body is raw bytes: a drawn bool if bodies may be invalid, else false
unfoldable pub is_raw_at : Config → List ℕ → Bool × List ℕ
is_raw_at config bytes = if config.allow_invalid_funcs then bool_at bytes else (false, bytes)

-- raw bytes, or a body that only traps
unfoldable pub instructions_at : Config → List ℕ → Instructions × List ℕ
instructions_at config bytes =
    let raw = is_raw_at config bytes in
    if raw.0 then raw_bytes_at raw.1 else (Unreachable, raw.1)

-- the locals of a body over these types and functions, then its instructions
unfoldable pub body_at : Config → Context → List ℕ → Code × List ℕ
body_at config context bytes =
    let locals = locals_at config context bytes in
    let instructions = instructions_at config locals.1 in
    (record { locals = locals.0; instructions = instructions.0 }, instructions.1)

-- a body for each of a number of functions
unfoldable pub bodies_at : Config → Context → ℕ → List ℕ → List Code × List ℕ
bodies_at config context count bytes = grow_at (λ _. body_at config context) count count [] bytes
