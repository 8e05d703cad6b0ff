-- The labels of open blocks.
use Rattle.smith_check_operands.proofs.Common.{ap, arith, length, List, Some, suc, sym, ValType, ℕ, ◌-◌, ◌<◌, ◌∙◌, ◌∷◌, ◌≡◌, ◌≤◌}
use Rattle.std.proofs.Common.{get_or, reverse, zero}
use Rattle.std.specs.Prelude.{option_map, slice_get}
use Rattle.std.proofs.lemmas.Option.{slice_get-map, slice_get-get_or}
use Rattle.std.proofs.lemmas.List.{get_or-reverse, length-reverse}
use Rattle.smith_check_operands.specs.declared.frame.Frame.{Frame}
use Rattle.smith_check_operands.specs.Closes.{label_of, labels_of}

pub label_at : (first : List ValType) (frames : List Frame) (k : ℕ) (frame : Frame) → 0 < k → k ≤ length frames
    → frame ≡ get_or frames (length frames - k) frame
    → slice_get (first ∷ labels_of (reverse frames)) k ≡ Some (label_of frame.shape)
label_at first frames zero frame some few at = absurd (omega (arith, some))
label_at first frames (suc j) frame some few at =
    let there : j < length (reverse frames) = omega (arith, few, length-reverse frames) in
    let within : j < length frames = omega (arith, few) in
    let place : length frames - 1 - j ≡ length frames - suc j = omega arith in
    slice_get-map (λ (f : Frame). label_of f.shape) (reverse frames) j
    ∙ ap (λ o. option_map (λ (f : Frame). label_of f.shape) o)
    (slice_get-get_or (reverse frames) j frame there
    ∙ ap (λ f. Some f) (get_or-reverse frames j frame within ∙ ap (λ i. get_or frames i frame) place ∙ sym at))
