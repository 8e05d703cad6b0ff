-- Verdicts on a body.
use Rattle.std.specs.Prelude.{ℕ, ◌+◌, ◌<◌, ◌≤◌, List, ◌++◌, length, take}
use Rattle.smith_instr.specs.declared.instr.Instr.{Instr}
use Rattle.smith_instr.specs.Contexts.{BodyContext}
use Rattle.smith_check_rules.specs.Sequences.{IsBodyTyped}
use Rattle.smith_check_body.specs.declared.verdict.Verdict.{Verdict}
use Rattle.smith_check_body.specs.declared.verdict.Verdict.TheVariants as verdict

-- A body is not typed (Validation, Functions), and the first wrong instruction is at `at`: some typed
-- body begins with the instructions before it, and none with the instructions up to it. If `at` is
-- the number of instructions, more are missing.
pub record IsRefused (context : BodyContext) (body : List Instr) (at : ℕ) : Type 0 where
  pub inside : at ≤ length body
  pub untyped : IsBodyTyped context body → ⊥
  pub begun : (rest : List Instr) × IsBodyTyped context (take at body ++ rest)
  pub earliest : at < length body → (rest : List Instr) → IsBodyTyped context (take (at + 1) body ++ rest) → ⊥

-- a verdict is correct (Validation, Functions)
abbrev pub IsVerdict : BodyContext → List Instr → Verdict → Type 0
IsVerdict context body verdict.Typed = IsBodyTyped context body
IsVerdict context body (verdict.Refused at) = IsRefused context body at
