use Rattle.std.proofs.Common.{◌∙◌, ◌≤◌, ◌-◌, length, drop, ap, arith, length-drop}
use Rattle.std.proofs.lemmas.List.{take_all}
use Rattle.smith_bytes.proofs.PieceLemmas.{keeps_drop}
use Rattle.smith_bytes.proofs.unstructured.Unstructured.byte.Goals as goal

pub returns-in-len1-up-clause-left : goal.returns-in-len1-up-clause-left
returns-in-len1-up-clause-left c =
    let bytes = c.self.inside.bytes.now in
    let few : length (drop 1 bytes) ≤ length bytes - 1 = omega (arith, length-drop 1 bytes) in
    λ whole piece. keeps_drop 1 (take_all (length bytes - 1) (drop 1 bytes) few ∙ ap (drop 1) c.self.view_is) piece
