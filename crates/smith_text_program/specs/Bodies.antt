-- Lower bounds on the text of bodies, in bytes.
use Rattle.std.specs.Prelude.{ℕ, ◌+◌, List, length, Option, Some, None}
use Rattle.smith_program.specs.declared.program.Body.{Body}
use Rattle.smith_program.specs.declared.program.Body.TheVariants.{Drawn, Raw}
use Rattle.smith_types.specs.Syntax.code.Code.{Code}
use Rattle.smith_text.specs.Written.{own_size}
use Rattle.smith_text_program.specs.Lines.{checks_size, lines_size}

-- the checks and the lines of drawn instructions, two levels deep; else the text of the module's own body
abbrev pub body_size : Option Body → Code → List ℕ → ℕ
body_size (Some (Drawn instructions)) code counters =
    checks_size (length counters) + lines_size instructions (length counters) 2
body_size (Some Raw) code counters = own_size code.instructions
body_size None code counters = own_size code.instructions
