use Rattle.std.proofs.Common.{ℕ, ◌+◌, ◌≤◌, List, length}
use Rattle.smith_binary.specs.Pieces.{Each}
use Rattle.smith_custom_sections.specs.CustomSections.{IsPlainSection}
use Rattle.smith_custom_sections.proofs.WovenLemmas.{IsWoven}
use Rattle.smith_custom_sections.proofs.insertion.write_woven.Given as goal

abbrev pub invariant-loop-place : goal.invariant-loop-place
invariant-loop-place l =
    (length l.reader + l.place ≤ length l.sections)
    × ((pieces : List (List ℕ)) → Each IsPlainSection pieces l.sections → IsWoven l.customs pieces l.place l.reader l.fn.sink l.sink)
