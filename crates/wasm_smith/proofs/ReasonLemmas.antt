-- Steps that give a reason for each refusal but lack of memory: there is always something to choose
-- from.
use Rattle.wasm_smith.proofs.Common.{Config, Err, Error, IfErr, inl, inr, is_memory, IsErrAnd, List, MayRefuseExports, MayRefuseImports, Ok}
use Rattle.wasm_smith.proofs.Common.{refl, Result, Returns, ReturnsWhy, subst, then_with, Why, ℕ, ◌≡◌}
use Rattle.smith_bytes.specs.declared.error.Error.TheVariants as errors
use Rattle.smith_draw_consts.proofs.TriedStepLemmas.{refused_with}
use Rattle.smith_draw_contents.specs.DataTargets.{MayRefuseData}
use Rattle.wasm_smith.specs.DrawnContents.{in_full}

pub imports_choose : (config : Config) (e : Error) → MayRefuseImports config e → e ≡ errors.EmptyChoose → ⊥
imports_choose config e (inl memory) empty = cc
imports_choose config e (inr (unmet, some, lacks)) empty = cc

pub exports_choose : (config : Config) (e : Error) → MayRefuseExports config e → e ≡ errors.EmptyChoose → ⊥
exports_choose config e (inl (all, inl memory)) empty = cc
exports_choose config e (inl (all, inr size)) empty = cc
exports_choose config e (inr (some, inl memory)) empty = cc
exports_choose config e (inr (some, inr (unmet, asked, short))) empty = cc

pub data_choose : (config : Config) (e : Error) → MayRefuseData config e → e ≡ errors.EmptyChoose → ⊥
data_choose config e may empty = subst (MayRefuseData config) empty may

-- such a step returns its result in full
in_full_returned : {X A : Type 0} (view : X → A) (result : Result X Error) (read : Result A Why) → ReturnsWhy view result read
    → IfErr result (λ e. e ≡ errors.EmptyChoose → ⊥) → Returns is_memory view result (in_full read)
in_full_returned view (Ok x) read given chooses = rw given refl
in_full_returned view (Err errors.Memory) read given chooses = tt
in_full_returned view (Err errors.EmptyChoose) read given chooses = absurd (chooses refl)
in_full_returned view (Err (errors.IncorrectFormat why)) read given chooses = rw given refl
in_full_returned view (Err errors.NotEnoughData) read given chooses = absurd given
in_full_returned view (Err (errors.Config fault)) read given chooses = absurd given
in_full_returned view (Err (errors.Shape which fault)) read given chooses = absurd given

-- the same with the result changed
pub changed_in_full : {X A B : Type 0} (f : A → B) (made : X → A) (left : List ℕ) (result : Result X Error) (read : Result (A × List ℕ) Why)
    → ReturnsWhy (λ x. (made x, left)) result read → IfErr result (λ e. e ≡ errors.EmptyChoose → ⊥)
    → Returns is_memory (λ x. (f (made x), left)) result (then_with f (in_full read))
changed_in_full f made left (Ok x) read given chooses = rw given refl
changed_in_full f made left (Err e) read given chooses =
    refused_with (λ x. (made x, left)) (λ x. (f (made x), left)) e (in_full read) (then_with f (in_full read)) (Err e)
    (in_full_returned (λ x. (made x, left)) (Err e) read given chooses) (λ fails. rw fails refl) refl

-- the refusal of such a step is that of the whole
pub refused_in_full : {X Y A B : Type 0} (of_part : X → A) (of_whole : Y → B) (e : Error) (part : Result A Why) (whole : Result B Error)
    (result : Result Y Error) → ReturnsWhy of_part (Err e) part → (e ≡ errors.EmptyChoose → ⊥)
    → (in_full part ≡ Err e → whole ≡ Err e) → IsErrAnd result (λ y. y ≡ e) → Returns is_memory of_whole result whole
refused_in_full of_part of_whole e part whole result given chooses passes = refused_with of_part of_whole e (in_full part) whole result
    (in_full_returned of_part (Err e) part given chooses) passes
