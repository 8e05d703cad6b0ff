-- Lower bounds on the text that is written.
use Rattle.std.proofs.Common.{◌≡◌, ℕ, ◌+◌, ◌≤◌, List, [], ◌∷◌, ◌++◌, length, ap, arith, length-append, Option, Some, None, IfSome}
use Rattle.std.specs.Fmt.{WritesInCalls, WritesText}
use Rattle.std.specs.List.{FoldsTo, concat}
use Rattle.std.specs.String.{string_bytes}
use Rattle.std.specs.declared.string.String.{String}
use Rattle.smith_text.specs.Written.{Writes, IsMeasure, HasBytes}

-- a measure grows over some calls as over one
measured_calls : {W : Type 0} (gives : W → List ℕ → W → Type 0) (size : W → ℕ) → IsMeasure gives size
    → (old : W) (parts : List (List ℕ)) (new : W) → FoldsTo gives old parts new → size old + length (concat parts) ≤ size new
measured_calls gives size is_measure old [] new calls = let same : size old ≡ size new = ap size calls in omega arith
measured_calls gives size is_measure old (part ∷ parts) new calls =
    let first : size old + length part ≤ size calls.0 = is_measure old part calls.0 calls.1 in
    let rest : size calls.0 + length (concat parts) ≤ size new = measured_calls gives size is_measure calls.0 parts new calls.2 in
    simp length-append (omega arith)

written_calls : {W : Type 0} (gives : W → List ℕ → W → Type 0) (old : W) (text : List ℕ) (new : W) → WritesInCalls gives old text new
    → Writes (HasBytes gives) old (length text) new
written_calls gives old text new written before after has low high = record {
  by_measure = λ size is_measure.
      let had : before ≤ size old = has.by_measure size is_measure in
      let grown : size old + length (concat written.parts) ≤ size new = measured_calls gives size is_measure old written.parts new
      written.calls in
      let whole : length (concat written.parts) ≡ length text = ap length written.whole in
      omega arith;
}

-- a text that is known adds its bytes
pub written_text : {W : Type 0} (gives : W → List ℕ → W → Type 0) (old : W) (text : Option (List ℕ)) (new : W)
    → WritesText gives old text new → IfSome text (λ bytes. Writes (HasBytes gives) old (length bytes) new)
written_text gives old None new written = written
written_text gives old (Some bytes) new written = written_calls gives old bytes new written

-- the length of a string is a measure
pub bytes_of_string : {A : Type 0} (text : String A) (count : ℕ)
    → HasBytes (λ (old : String A) bytes new. string_bytes new ≡ string_bytes old ++ bytes) text count → count ≤ length (string_bytes text)
bytes_of_string text count has = has.by_measure (λ it. length (string_bytes it))
    (λ old bytes new appended. let e : length (string_bytes new) ≡ length (string_bytes old ++ bytes) = ap length appended in
    omega (arith, simp length-append at e))
