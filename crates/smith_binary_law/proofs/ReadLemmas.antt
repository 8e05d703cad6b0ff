-- What is read is unambiguous.
use Rattle.smith_binary_law.proofs.Common.{ap, IsRun, Joined, length, List, refl, subst, sym, ValType, ℕ, ◌<◌, ◌^◌, ◌∙◌}
use Rattle.std.proofs.Common.{Ok}
use Rattle.std.specs.Prelude.{nat_lt, if◌then◌else◌}
use Rattle.std.proofs.lemmas.Bool.{lt-ltb, ltb-true}
use Rattle.smith_binary.specs.Pieces.{Is}
use Rattle.smith_binary.specs.Unambiguous.{IsUnambiguous}
use Rattle.smith_binary_sections.specs.Codes.{IsLocals, locals_of}
use Rattle.smith_binary_read.specs.declared.error.Reason.TheVariants.{ManyLocals}
use Rattle.smith_binary_read.specs.Readings.{Reading, ◌>>=◌, fault_at, joined_at, mapped_at}
use Rattle.smith_binary_read.specs.Numbers.{unsigned_at}
use Rattle.smith_binary_read.specs.Contents.{list_at}
use Rattle.smith_binary_read.specs.TypeReadings.{val_type_at}
use Rattle.smith_binary_read.specs.Decodes.{Decodes, DecodesWhole}
use Rattle.smith_binary_read.specs.Views.{Viewed}
use Rattle.smith_binary_read.proofs.ReadLemmas.{step, test_passed, item_is, front_as, front_same, joined_decodes}
use Rattle.smith_binary_read.proofs.IntegerLemmas.{unsigned_decodes}
use Rattle.smith_binary_read.proofs.ContentLemmas.{list_decodes}
use Rattle.smith_binary_read.proofs.ChoiceLemmas.{mapped_sound}
use Rattle.smith_binary_read.proofs.TypeLemmas.{val_decodes}

-- bytes begin with at most one item of those that are read exactly
pub read_once : {A : Type 0} {P : A → List ℕ → Type 0} {p : List ℕ → Reading A} → Decodes P p → IsUnambiguous P
read_once {p = p} reads = record {
  one = λ x y piece more rest other h k e.
      let same = item_is x y rest other (sym (reads.complete x piece rest h) ∙ ap p e ∙ reads.complete y more other k) in
      record { item = same.0; after = same.1 };
}

-- items that are seen as others are read as these
pub viewed_decodes : {A B : Type 0} {view : B → A} {P : A → List ℕ → Type 0} {Q : B → List ℕ → Type 0} {q : List ℕ → Reading B}
    → Viewed view P Q → Decodes Q q → Decodes P (mapped_at view q)
viewed_decodes {A = A} {view = view} {P = P} v reads = record {
  sound = λ bytes x rest e. mapped_sound P view reads v.forth bytes x rest e;
  complete = λ x piece rest h.
      let one = v.back x piece h in
      rw (reads.complete one.item piece rest one.form) (ap (λ (y : A). Ok (y, rest)) one.is);
}

-- runs of locals, and locals
abbrev run_at : List ℕ → Reading (ℕ × ValType)
run_at = joined_at (λ count ty. (count, ty)) (unsigned_at 32) val_type_at

run_decodes : Decodes IsRun run_at
run_decodes =
    joined_decodes (λ count ty. (count, ty)) (λ run. run.0) (λ run. run.1) (λ x y. refl) (λ x y. refl) (λ z. refl) (unsigned_decodes 32)
    val_decodes

unfoldable pub locals_at : List ℕ → Reading (List ValType)
locals_at bytes = list_at run_at bytes >>= (λ runs.
    if nat_lt (length (locals_of runs.0)) (2 ^ 32) then Ok (locals_of runs.0, runs.1) else fault_at ManyLocals bytes)

pub locals_decodes : Decodes IsLocals locals_at
unfolding locals_at
locals_decodes = record {
  sound = λ bytes x rest e. step _ _ _ e (λ runs first e. test_passed _ _ _ _ e (λ few e.
      front_same IsLocals (locals_of runs.0) x runs.1 rest e
      (front_as (λ piece h. record {
        runs = runs.0;
        cut = refl;
        few = ltb-true (length (locals_of runs.0)) (2 ^ 32) few;
        form = h;
      })
      ((list_decodes run_decodes).sound bytes runs.0 runs.1 first))));
  complete = λ x piece rest h.
      let few : length (locals_of h.runs) < 2 ^ 32 = subst (λ (locals : List ValType). length locals < 2 ^ 32) h.cut h.few in
      rw ((list_decodes run_decodes).complete h.runs piece rest h.form, lt-ltb (length (locals_of h.runs)) (2 ^ 32) few)
      (ap (λ (locals : List ValType). Ok (locals, rest)) (sym h.cut));
}

-- locals, then any bytes
pub raw_decodes : DecodesWhole (λ (body : List ValType × List ℕ). Joined (IsLocals body.0) (Is body.1)) locals_at
raw_decodes = record {
  sound = λ bytes x e.
      let one = locals_decodes.sound bytes x.0 x.1 e in
      record { first = one.piece; second = x.1; is_first = one.spelled; is_second = refl; whole = one.whole };
  complete = λ x bytes h.
      ap locals_at h.whole ∙ locals_decodes.complete x.0 h.first h.second h.is_first
      ∙ ap (λ (rest : List ℕ). Ok (x.0, rest)) h.is_second;
}
