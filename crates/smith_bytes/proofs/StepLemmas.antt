-- The result of a step that may refuse, and the bytes that it takes of a source.
use Rattle.std.proofs.Common.{◌≡◌, ℕ, List, ◌++◌, sym, ap, subst, ◌∙◌}
use Rattle.std.specs.Prelude.{Result, Ok, Err, IfOk, IsErrAnd}
use Rattle.smith_bytes.specs.Takes.{Takes}
use Rattle.smith_bytes.specs.declared.error.Why.{Why}
use Rattle.smith_bytes.specs.declared.error.Error.{Error}
use Rattle.smith_bytes.specs.declared.error.Error.TheVariants as errors
use Rattle.smith_bytes.specs.Steps.{ReturnsWhy}

-- a property of every value that is read is a property of the result of a step
pub given_is : {X A : Type 0} (P : A → Type 0) (view : X → A) (read : Result (A × List ℕ) Why) (after : List ℕ) (result : Result X Error)
    → IfOk read (λ drawn. P drawn.0) → ReturnsWhy (λ x. (view x, after)) result read → IfOk result (λ x. P (view x))
given_is {A = A} P view read after (Ok x) h given = subst (λ (r : Result (A × List ℕ) Why). IfOk r (λ drawn. P drawn.0)) given h
given_is P view read after (Err e) h given = tt

-- a step that reads each spelling takes it
pub given_takes : {X A : Type 0} (Spelled : A → List ℕ → Type 0) (view : X → A) (read : List ℕ → Result (A × List ℕ) Why)
    (old after : List ℕ) (result : Result X Error)
    → ((value : A) (piece rest : List ℕ) → Spelled value piece → read (piece ++ rest) ≡ Ok (value, rest))
    → ReturnsWhy (λ x. (view x, after)) result (read old) → IfOk result (λ x. Takes Spelled old (view x) after)
given_takes {A = A} Spelled view read old after (Ok x) law given =
    let same = λ (value : A) (piece rest : List ℕ) (h : Spelled value piece) (starts : old ≡ piece ++ rest). sym given
    ∙ (ap read starts ∙ law value piece rest h) in
    record {
      made = λ value piece rest h starts. let both = same value piece rest h starts in let pair : (view x, after) ≡ (value, rest) = cc in
          ap (λ (r : A × List ℕ). r.0) pair;
      left = λ value piece rest h starts. let both = same value piece rest h starts in let pair : (view x, after) ≡ (value, rest) = cc in
          ap (λ (r : A × List ℕ). r.1) pair;
    }
given_takes Spelled view read old after (Err e) law given = tt

-- the refusal of a part is that of the whole
refused_part : {X Y A B : Type 0} (of_part : X → A) (of_whole : Y → B) (e : Error) (part : Result A Why) (whole : Result B Why)
    → ReturnsWhy of_part (Err e) part → ((why : Why) → part ≡ Err why → whole ≡ Err why) → ReturnsWhy of_whole (Err e) whole
refused_part of_part of_whole errors.Memory part whole given passes = tt
refused_part of_part of_whole errors.EmptyChoose part whole given passes = given
refused_part of_part of_whole errors.NotEnoughData part whole given passes = given
refused_part of_part of_whole (errors.Config fault) part whole given passes = given
refused_part of_part of_whole (errors.Shape which fault) part whole given passes = given
refused_part of_part of_whole (errors.IncorrectFormat why) part whole given passes = passes why given

pub refused_by : {X Y A B : Type 0} (of_part : X → A) (of_whole : Y → B) (e : Error) (part : Result A Why) (whole : Result B Why)
    (result : Result Y Error) → ReturnsWhy of_part (Err e) part → ((why : Why) → part ≡ Err why → whole ≡ Err why)
    → IsErrAnd result (λ y. y ≡ e) → ReturnsWhy of_whole result whole
refused_by of_part of_whole e part whole (Ok y) given passes h = absurd h
refused_by {X = X} of_part of_whole e part whole (Err own) given passes h = refused_part of_part of_whole own part whole
    (subst (λ (one : Error). ReturnsWhy of_part (Err one) part) (sym h) given) passes
