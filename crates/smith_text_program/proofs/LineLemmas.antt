-- Lower bounds on lines of instructions.
use Rattle.std.proofs.Common.{◌≡◌, ℕ, ◌+◌, ◌-◌, ◌*◌, ◌<◌, ◌≤◌, max, List, [], ◌∷◌, length, drop, get_or, refl, subst, arith, add-one}
use Rattle.std.proofs.Common.{drop-cons}
use Rattle.std.proofs.lemmas.List.{at_drop_all}
use Rattle.smith_instr.specs.declared.instr.Instr.{Instr}
use Rattle.smith_instr.specs.declared.instr.Instr.TheVariants.{Loop}
use Rattle.smith_text.specs.Written.{Writes}
use Rattle.smith_text_program.specs.Lines.{depth_of_line, depth_after_line, line_size, checks_size, checks_after, lines_size}

pub none_written : {S : Type 0} (has : S → ℕ → Type 0) (sink : S) → Writes has sink 0 sink
none_written has sink before after held low high = let same : before ≡ after = omega arith in
    subst (λ (count : ℕ). has sink count) same held

pub written_in_turn : {S : Type 0} (has : S → ℕ → Type 0) (start middle finish : S) (first second whole : ℕ) → whole ≤ first + second
    → Writes has start first middle → Writes has middle second finish → Writes has start whole finish
written_in_turn has start middle finish first second whole fits left right before after held low high =
    right (max before (after - second)) after (left before (max before (after - second)) held (omega arith) (omega arith)) (omega arith)
    (omega arith)

-- a line takes two bytes or more
pub two_a_line : (instructions : List Instr) (counters depth : ℕ) → 2 * length instructions ≤ lines_size instructions counters depth
unfolding lines_size
two_a_line [] counters depth = omega arith
two_a_line (instruction ∷ rest) counters depth =
    let below : 2 * length rest ≤ lines_size rest counters (depth_after_line instruction (depth_of_line instruction depth)) =
    two_a_line rest counters (depth_after_line instruction (depth_of_line instruction depth)) in
    omega arith

pub no_lines : (instructions : List Instr) (place counters depth : ℕ) → length instructions ≤ place
    → lines_size (drop place instructions) counters depth ≡ 0
unfolding lines_size
no_lines instructions place counters depth past = at_drop_all (λ lines. lines_size lines counters depth) instructions place past

-- the lines from a place on are that line and the lines after it
pub lines_from : (instructions : List Instr) (place : ℕ) (instruction : Instr) (counters depth next : ℕ) → place < length instructions
    → instruction ≡ get_or instructions place instruction → next ≡ depth_after_line instruction (depth_of_line instruction depth)
    → lines_size (drop place instructions) counters depth ≡ line_size instruction depth + checks_after instruction counters + lines_size
    (drop (place + 1) instructions) counters next
unfolding lines_size
lines_from instructions place instruction counters depth next within same deeper =
    rw (add-one, drop-cons instructions place instruction within, ← same, deeper)

pub no_checks : (instruction : Instr) → checks_after instruction 0 ≡ 0
no_checks (Loop _) = refl
no_checks _ = refl

-- nine lines are those of a check
pub nine_lines : {S : Type 0} (has : S → ℕ → Type 0) (start finish : S) (instructions : List Instr) (depth : ℕ) → 9 ≤ length instructions
    → Writes has start (lines_size instructions 0 depth) finish → Writes has start (checks_size 1) finish
nine_lines has start finish instructions depth nine writes before after held low high =
    let lines : 2 * length instructions ≤ lines_size instructions 0 depth = two_a_line instructions 0 depth in
    writes before after held low (omega arith)
