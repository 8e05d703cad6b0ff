-- The result of a step that may be refused for lack of something to choose from, and the bytes that
-- it takes of a source.
use Rattle.smith_draw_consts.proofs.Common.{ap, Error, inl, inr, IsErrAnd, List, None, OnOk, Option, refl, Some, subst, sym, ℕ, ◌++◌, ◌∙◌}
use Rattle.smith_draw_consts.proofs.Common.{◌≡◌}
use Rattle.std.proofs.Common.{Err, Ok, Result}
use Rattle.std.specs.Prelude.{IfErr, IfOk, ok_or, ◌⊎◌}
use Rattle.smith_bytes.specs.Takes.{Takes}
use Rattle.smith_bytes.specs.Steps.{◌>>=◌, Returns, is_memory}
use Rattle.smith_bytes.specs.declared.error.Error.TheVariants as errors

-- a property that the next step has for every result of a step holds after both
pub following : {A B E : Type 0} (P : B → Type 0) (first : Result A E) (next : A → Result B E) → ((x : A) → IfOk (next x) P)
    → IfOk (first >>= next) P
following P (Ok x) next each = each x
following P (Err e) next each = tt

-- the same for results of the first step with another property
pub following_so : {A B E : Type 0} (Q : A → Type 0) (P : B → Type 0) (first : Result A E) (next : A → Result B E) → IfOk first Q
    → ((x : A) → Q x → IfOk (next x) P) → IfOk (first >>= next) P
following_so Q P (Ok x) next holds each = each x holds
following_so Q P (Err e) next holds each = tt

pub both_ok : {A E : Type 0} (P Q : A → Type 0) (r : Result A E) → IfOk r P → IfOk r Q → IfOk r (λ x. P x × Q x)
both_ok P Q (Ok x) p q = (p, q)
both_ok P Q (Err e) p q = tt

pub then_ok : {A E : Type 0} (r : Result A E) → (r >>= (λ x. Ok x)) ≡ r
then_ok (Ok x) = refl
then_ok (Err e) = refl

-- a step that reads each spelling takes it
pub takes_if_read : {A : Type 0} {Spelled : A → List ℕ → Type 0} {old new : List ℕ} {drawn : A} (read : List ℕ → Result (A × List ℕ) Error)
    → ((value : A) (piece rest : List ℕ) → Spelled value piece → read (piece ++ rest) ≡ Ok (value, rest))
    → read old ≡ Ok (drawn, new) → Takes Spelled old drawn new
takes_if_read {A = A} {Spelled = Spelled} {old = old} {new = new} {drawn = drawn} read law given =
    let same = λ (value : A) (piece rest : List ℕ) (h : Spelled value piece) (starts : old ≡ piece ++ rest). sym given
    ∙ (ap read starts ∙ law value piece rest h) in
    record {
      made = λ value piece rest h starts. let both = same value piece rest h starts in let pair : (drawn, new) ≡ (value, rest) = cc in
          ap (λ (r : A × List ℕ). r.0) pair;
      left = λ value piece rest h starts. let both = same value piece rest h starts in let pair : (drawn, new) ≡ (value, rest) = cc in
          ap (λ (r : A × List ℕ). r.1) pair;
    }

-- what follows from the value that a step returns
pub returned : {X A : Type 0} {read : Result A Error} (view : X → A) (P : X → Type 0) (result : Result X Error)
    → ((x : X) → read ≡ Ok (view x) → P x) → Returns is_memory view result read → IfOk result P
returned view P (Ok x) each given = each x given
returned view P (Err e) each given = tt

-- the same, whatever value the step returns
pub returned_so : {X A : Type 0} {drawn : A} {read : Result A Error} {P : Type 0} (result : Result X Error) → (read ≡ Ok drawn → P)
    → Returns is_memory (λ _. drawn) result read → OnOk result P
returned_so (Ok x) each given = each given
returned_so (Err e) each given = tt

-- the refusal of a part is that of the whole
refused_part : {X Y A B : Type 0} (of_part : X → A) (of_whole : Y → B) (e : Error) (part : Result A Error) (whole : Result B Error)
    → Returns is_memory of_part (Err e) part → (part ≡ Err e → whole ≡ Err e) → Returns is_memory of_whole (Err e) whole
refused_part of_part of_whole errors.Memory part whole given passes = tt
refused_part of_part of_whole errors.EmptyChoose part whole given passes = passes given
refused_part of_part of_whole errors.NotEnoughData part whole given passes = passes given
refused_part of_part of_whole (errors.Config fault) part whole given passes = passes given
refused_part of_part of_whole (errors.Shape which fault) part whole given passes = passes given
refused_part of_part of_whole (errors.IncorrectFormat why) part whole given passes = passes given

pub refused_with : {X Y A B : Type 0} (of_part : X → A) (of_whole : Y → B) (e : Error) (part : Result A Error) (whole : Result B Error)
    (result : Result Y Error) → Returns is_memory of_part (Err e) part → (part ≡ Err e → whole ≡ Err e) → IsErrAnd result (λ y. y ≡ e)
    → Returns is_memory of_whole result whole
refused_with of_part of_whole e part whole (Ok y) given passes h = absurd h
refused_with {X = X} of_part of_whole e part whole (Err own) given passes h = refused_part of_part of_whole own part whole
    (subst (λ (one : Error). Returns is_memory of_part (Err one) part) (sym h) given)
    (subst (λ (one : Error). part ≡ Err one → whole ≡ Err one) (sym h) passes)

-- lack of memory is left open
pub memory_open : {Y B : Type 0} (of_whole : Y → B) (e : Error) (whole : Result B Error) (result : Result Y Error) → e ≡ errors.Memory
    → IsErrAnd result (λ y. y ≡ e) → Returns is_memory of_whole result whole
memory_open of_whole e whole (Ok y) memory h = absurd h
memory_open of_whole e whole (Err own) memory h = subst (λ (one : Error). Returns is_memory of_whole (Err one) whole) (sym (h ∙ memory)) tt

-- a draw that has nothing to choose from refuses so
pub chosen_or_refused : {X A : Type 0} (Holds : Type 0) (view : X → A) (drawn : Option A) (result : Result X Error)
    → IfOk result (λ x. drawn ≡ Some (view x)) → IfErr result (λ e. e ≡ errors.EmptyChoose → drawn ≡ None)
    → IfErr result (λ e. (e ≡ errors.Memory) ⊎ ((e ≡ errors.EmptyChoose) × Holds))
    → Returns is_memory view result (ok_or drawn errors.EmptyChoose)
chosen_or_refused Holds view drawn (Ok x) exact none lacks = rw exact refl
chosen_or_refused Holds view drawn (Err e) exact none (inl memory) =
    subst (λ (one : Error). Returns is_memory view (Err one) (ok_or drawn errors.EmptyChoose)) (sym memory) tt
chosen_or_refused Holds view drawn (Err e) exact none (inr (empty, holds)) =
    let nothing = none empty in
    subst (λ (one : Error). Returns is_memory view (Err one) (ok_or drawn errors.EmptyChoose)) (sym empty) (rw nothing refl)

-- besides lack of memory, there is nothing to choose from exactly where the whole is refused so
pub choice_refused : {Y B : Type 0} {Holds : Type 0} (of_whole : Y → B) (e : Error) (whole : Result B Error) (result : Result Y Error)
    → (e ≡ errors.Memory) ⊎ ((e ≡ errors.EmptyChoose) × Holds) → (e ≡ errors.EmptyChoose → whole ≡ Err errors.EmptyChoose)
    → IsErrAnd result (λ y. y ≡ e) → Returns is_memory of_whole result whole
choice_refused of_whole e whole (Ok y) lacks none h = absurd h
choice_refused of_whole e whole (Err own) (inl memory) none h = subst (λ (one : Error). Returns is_memory of_whole (Err one) whole)
    (sym (h ∙ memory)) tt
choice_refused of_whole e whole (Err own) (inr (empty, holds)) none h = subst (λ (one : Error). Returns is_memory of_whole (Err one) whole)
    (sym (h ∙ empty)) (none empty)
