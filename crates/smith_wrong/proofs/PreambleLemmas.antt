-- A module begins with the magic number and the version, and a file whose first eight bytes are others is no module.
use Rattle.std.proofs.Common.{◌≡◌, ℕ, ◌+◌, ◌<◌, ◌≤◌, List, ◌∷◌, ◌++◌, length, take, drop, slice_index}
use Rattle.std.proofs.Common.{Option, Some, None, Result, Ok, Err, IfOk, IfSome, sym, ap, subst, ◌∙◌, arith, length-append, length-drop}
use Rattle.std.proofs.lemmas.List.{get_or_append_left, length-take-le}
use Rattle.std.proofs.Math.Seq.{get_or-append_seam}
use Rattle.smith_types.specs.Syntax.Features.{Features}
use Rattle.smith_decode.specs.ModuleReadings.{module_at, preamble}
use Rattle.smith_decode.specs.declared.modules.Module.{Module}
use Rattle.smith_decode.proofs.ModuleLemmas.{module_decodes}
use Rattle.smith_judge.specs.Answers.{IsAnswer}
use Rattle.smith_judge.specs.declared.answer.Answer.{Answer}
use Rattle.smith_judge.specs.declared.answer.Answer.TheVariants as answer
use Rattle.smith_binary_program.specs.Valid.{IsValidBinary}
use Rattle.smith_wrong_bytes.specs.Splices.{IsCutPreamble, IsOfPreamble, IsOtherPreamble, spliced}
use Rattle.smith_wrong_bytes.specs.declared.change.Splice.{Splice}
use Rattle.smith_wrong_bytes.specs.declared.family.BytesFamily.{BytesFamily}
use Rattle.smith_wrong_bytes.specs.declared.family.BytesFamily.TheVariants as family
use Rattle.smith_wrong.specs.Wrong.{NamesRule}
use Rattle.smith_wrong.specs.declared.changes.ChangedFile.{ChangedFile}
use Rattle.smith_wrong.specs.declared.refusal.WrongRefusal.{WrongRefusal}

record Begins (bytes : List ℕ) : Type 0 where
  pub rest : List ℕ
  pub whole : bytes ≡ preamble ++ rest

module_begins : (bytes : List ℕ) (m : Module) → module_at bytes ≡ Ok m → Begins bytes
module_begins bytes m read =
    let h = module_decodes.sound bytes m read in
    record { rest = h.form.second; whole = h.form.whole ∙ ap (λ (first : List ℕ). first ++ h.form.second) h.form.is_first }

program_begins : (bytes : List ℕ) → IsValidBinary bytes → Begins bytes
program_begins bytes h =
    let form = h.spelled.spelled.form in
    record { rest = form.second; whole = form.whole ∙ ap (λ (first : List ℕ). first ++ form.second) form.is_first }

begins_length : (bytes : List ℕ) → Begins bytes → 8 ≤ length bytes
begins_length bytes h = subst (λ (l : List ℕ). 8 ≤ length l) (sym h.whole) (omega (arith, length-append preamble h.rest))

pub program_length : (bytes : List ℕ) → IsValidBinary bytes → 8 ≤ length bytes
program_length bytes h = begins_length bytes (program_begins bytes h)

begins_at : (bytes : List ℕ) (i : ℕ) → i < 8 → Begins bytes → slice_index bytes i ≡ slice_index preamble i
begins_at bytes i low h = ap (λ (l : List ℕ). slice_index l i) h.whole ∙ get_or_append_left preamble h.rest 0 i low

-- the byte that is put at an index
put_at : (bytes : List ℕ) (byte at : ℕ) (rest : List ℕ) → at ≤ length bytes → slice_index (take at bytes ++ (byte ∷ rest)) at ≡ byte
put_at bytes byte at rest within =
    subst (λ (i : ℕ). slice_index (take at bytes ++ (byte ∷ rest)) i ≡ byte) (length-take-le at bytes within)
    (get_or-append_seam (take at bytes) byte rest 0)

other_breaks : (twin : List ℕ) (change : Splice) (m : Module) → Begins twin → IsOtherPreamble twin change
    → module_at (spliced twin change) ≡ Ok m → ⊥
other_breaks twin change m begins h read =
    let rest = drop (change.at + change.removed) twin in
    let long = begins_length twin begins in
    let file = module_begins (spliced twin change) m read in
    let put : slice_index (spliced twin change) change.at ≡ h.byte =
    subst (λ (inserted : List ℕ). slice_index (take change.at twin ++ (inserted ++ rest)) change.at ≡ h.byte) (sym h.inserted)
    (put_at twin h.byte change.at rest (omega (arith, long, h.at))) in
    h.other (sym put ∙ begins_at (spliced twin change) change.at h.at file ∙ sym (begins_at twin change.at h.at begins))

-- the front of a list, and nothing after it
cut_length : (bytes : List ℕ) (at : ℕ) → at ≤ length bytes → length (take at bytes ++ drop (length bytes) bytes) ≡ at
cut_length bytes at within = omega (
  arith,
  length-append (take at bytes) (drop (length bytes) bytes),
  length-drop (length bytes) bytes,
  length-take-le at bytes within,
)

cut_breaks : (twin : List ℕ) (change : Splice) (m : Module) → Begins twin → IsCutPreamble twin change
    → module_at (spliced twin change) ≡ Ok m → ⊥
cut_breaks twin change m begins h read =
    let long = begins_length twin begins in
    let file = begins_length (spliced twin change) (module_begins (spliced twin change) m read) in
    let short : length (spliced twin change) ≡ change.at =
    subst (λ (inserted : List ℕ). length (take change.at twin ++ (inserted ++ drop (change.at + change.removed) twin)) ≡ change.at)
    (sym h.inserted) (subst (λ (end : ℕ). length (take change.at twin ++ drop end twin) ≡ change.at) (sym h.removed)
    (cut_length twin change.at (omega (arith, long, h.at)))) in
    absurd (omega (arith, file, short, h.at))

-- a program whose first eight bytes are changed is no module
pub preamble_breaks : (one : BytesFamily) (twin bytes : List ℕ) (change : Splice) (m : Module) → IsValidBinary twin
    → IsOfPreamble one twin change → bytes ≡ spliced twin change → module_at bytes ≡ Ok m → ⊥
preamble_breaks family.Preamble twin bytes change m valid h is read =
    other_breaks twin change m (program_begins twin valid) h (subst (λ (l : List ℕ). module_at l ≡ Ok m) is read)
preamble_breaks family.CutFile twin bytes change m valid h is read =
    cut_breaks twin change m (program_begins twin valid) h (subst (λ (l : List ℕ). module_at l ≡ Ok m) is read)
preamble_breaks _ twin bytes change m valid h is read = absurd h

-- a file that is written with such a change is none
pub made_breaks : (one : BytesFamily) (twin : List ℕ) (change : Splice) (written : Result (Option ChangedFile) WrongRefusal)
    → IsValidBinary twin → IsOfPreamble one twin change
    → IfOk written (λ made. IfSome made (λ file. file.bytes.items ≡ spliced twin change))
    → IfOk written (λ made. IfSome made (λ file. (m : Module) → module_at file.bytes.items ≡ Ok m → ⊥))
made_breaks one twin change (Ok (Some file)) valid h same = λ m read. preamble_breaks one twin file.bytes.items change m valid h same read
made_breaks one twin change (Ok None) valid h same = tt
made_breaks one twin change (Err e) valid h same = tt

-- what is said of bytes that are no module is a rule that they break
pub names_rule : (features : Features) (bytes : List ℕ) (said : Answer) → IsAnswer features bytes said
    → ((m : Module) → module_at bytes ≡ Ok m → ⊥) → NamesRule said
names_rule features bytes answer.Valid right none = none right.m right.file.read
names_rule features bytes (answer.Invalid finding) right none = tt
names_rule features bytes (answer.Malformed offset reason) right none = tt
names_rule features bytes (answer.FeatureOff offset) right none = none right.0 right.1
names_rule features bytes (answer.NotJudged gap) right none = none right.m right.file.read
