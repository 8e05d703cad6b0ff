-- Lower bounds on the text of instructions, in bytes.
use Rattle.std.specs.Prelude.{ℕ, ◌+◌, ◌-◌, ◌*◌, ◌^◌, min, List, [], ◌∷◌}
use Rattle.smith_instr.specs.declared.instr.Instr.{Instr}
use Rattle.smith_instr.specs.declared.instr.Instr.TheVariants.{Block, Loop, If, Else, End, TryTable}

-- the depth of an instruction's line, after lines at `depth`
abbrev pub depth_of_line : Instr → ℕ → ℕ
depth_of_line Else depth = depth - 1
depth_of_line End depth = depth - 1
depth_of_line _ depth = depth

-- the depth after the line of an instruction, which is at `depth`
abbrev pub depth_after_line : Instr → ℕ → ℕ
depth_after_line (Block _) depth = min (depth + 1) (2 ^ 64 - 1)
depth_after_line (Loop _) depth = min (depth + 1) (2 ^ 64 - 1)
depth_after_line (If _) depth = min (depth + 1) (2 ^ 64 - 1)
depth_after_line Else depth = min (depth + 1) (2 ^ 64 - 1)
depth_after_line (TryTable _ _) depth = min (depth + 1) (2 ^ 64 - 1)
depth_after_line _ depth = depth

-- two bytes for each level of a line up to the 64th, one for its instruction, and one for its end
abbrev pub line_size : Instr → ℕ → ℕ
line_size instruction depth = 2 * min (depth_of_line instruction depth) 64 + 2

-- the checks of fuel counters, nine lines each
abbrev pub checks_size : ℕ → ℕ
checks_size counters = 18 * counters

-- the checks after an instruction, which follow a `loop`
abbrev pub checks_after : Instr → ℕ → ℕ
checks_after (Loop _) counters = checks_size counters
checks_after _ counters = 0

-- the lines of instructions, the first at `depth`, with the checks of `counters` counters
unfoldable pub lines_size : List Instr → ℕ → ℕ → ℕ
lines_size [] counters depth = 0
lines_size (instruction ∷ rest) counters depth =
    line_size instruction depth
    + checks_after instruction counters
    + lines_size rest counters (depth_after_line instruction (depth_of_line instruction depth))
