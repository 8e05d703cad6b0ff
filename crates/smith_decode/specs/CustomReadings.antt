-- Readings of custom sections, and of other sections with the custom sections after them.
use Rattle.std.specs.Prelude.{◌≡◌, ℕ, zero, suc, ◌==◌, List, [], ◌∷◌, ◌++◌, length, drop, Option, Some, None}
use Rattle.std.specs.Prelude.{Result, Ok, Err, if◌then◌else◌}
use Rattle.smith_decode.specs.Common.{byte_at, content_at, Fault, fault_at, Reading, ◌>>=◌}
use Rattle.smith_binary_read.specs.declared.error.ReadError.{ReadError}
use Rattle.smith_binary_read.specs.declared.error.Reason.TheVariants.{SectionOrder}
use Rattle.smith_binary_read.specs.Readings.{at_end, Fails, starts_with}
use Rattle.smith_binary_read.specs.Contents.{name_at, sized_at}
use Rattle.smith_decode.specs.declared.customs.Custom.{Custom}

-- reads the content of a custom section
unfoldable pub custom_whole : List ℕ → Result (Unit {0}) Fault
custom_whole bytes = name_at bytes >>= (λ name. Ok tt)

-- skips the custom sections at the front, at most `most`
unfoldable pub skip_customs : ℕ → List ℕ → Result (List ℕ) Fault
skip_customs zero bytes = Ok bytes
skip_customs (suc most) bytes =
    if starts_with 0 bytes then (sized_at custom_whole (drop 1 bytes) >>= (λ custom. skip_customs most custom.1)) else Ok bytes

-- skips all custom sections at the front
unfoldable pub customs_at : List ℕ → Result (List ℕ) Fault
customs_at bytes = skip_customs (length bytes) bytes

-- reads a section, whose item is `none` if the section is absent, and skips the custom sections
-- after it
unfoldable pub section_at : {A : Type 0} → ℕ → A → (List ℕ → Result A Fault) → List ℕ → Reading A
section_at id none read bytes =
    if starts_with id bytes then (sized_at read (drop 1 bytes) >>= (λ item. customs_at item.1 >>= (λ rest. Ok (item.0, rest))))
    else Ok (none, bytes)

-- reads a section, then more
abbrev pub more_at : {A B : Type 0} → ℕ → B → (List ℕ → Result B Fault) → (List ℕ → Result A Fault) → List ℕ → Result (B × A) Fault
more_at id none content read bytes = section_at id none content bytes >>= (λ item. read item.1 >>= (λ x. Ok (item.0, x)))

-- reads the end of a module
unfoldable pub end_at : List ℕ → Result (Unit {0}) Fault
end_at bytes = if length bytes == 0 then Ok tt else fault_at SectionOrder bytes

-- a call left the bytes that the reading leaves, or memory was refused
abbrev pub GivesRest : Result (Unit {0}) ReadError → List ℕ → Result (List ℕ) Fault → Type 0
GivesRest (Ok done) rest reading = reading ≡ Ok rest
GivesRest (Err e) rest reading = Fails e reading

-- a custom section with the identifier of the section before it, its name and its bytes
abbrev pub custom : Option ℕ → List ℕ → List ℕ → Custom
custom after name bytes = record { after = after; name = name; bytes = bytes }

-- reads the content of a custom section, given the identifier of the section before it
unfoldable pub custom_at : Option ℕ → List ℕ → Result Custom Fault
custom_at after content = name_at content >>= (λ name. Ok (custom after name.0 name.1))

-- reads a section, given the identifier of the last section that is not custom and the custom
-- sections so far
unfoldable pub next_section_at : Option ℕ → List Custom → List ℕ → Reading (Option ℕ × List Custom)
next_section_at after customs bytes = byte_at bytes >>= (λ id. content_at id.1 >>= (λ content.
    if id.0 == 0 then (custom_at after content.0 >>= (λ x. Ok ((after, customs ++ (x ∷ [])), content.1)))
    else Ok ((Some id.0, customs), content.1)))

-- reads the sections that are left, at most `most`, and adds their custom sections to `customs`
unfoldable pub gathered_at : ℕ → Option ℕ → List Custom → List ℕ → Result (List Custom) Fault
gathered_at zero after customs bytes = at_end customs bytes
gathered_at (suc most) after customs bytes =
    if length bytes == 0 then Ok customs
    else (next_section_at after customs bytes >>= (λ s. gathered_at most s.0.0 s.0.1 s.1))

-- reads the custom sections of a module
unfoldable pub kept_at : List ℕ → Result (List Custom) Fault
kept_at bytes = gathered_at (length bytes) None [] bytes
