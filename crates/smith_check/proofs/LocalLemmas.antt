-- The locals of runs.
use Rattle.smith_check.proofs.Common.{[], All-nil, all_right, ap, arith, canonical_index, Features, get_or, length, List, LocalRun, map}
use Rattle.smith_check.proofs.Common.{refl, renamed_val, subst, suc, sym, take, total, ValType, zero, ℕ, ◌++◌, ◌+◌, ◌<◌, ◌∙◌, ◌∷◌, ◌≡◌}
use Rattle.std.proofs.Common.{append_assoc, replicate}
use Rattle.std.specs.Prelude.{All}
use Rattle.std.proofs.lemmas.List.{append-nil, take_more, length-append, length-replicate, map-append}
use Rattle.std.proofs.lemmas.List.Elements.{All-append, All-cons, All-head, All-replicate}
use Rattle.smith_types.specs.ValidTypes.{IsValTypeValid}
use Rattle.smith_binary_sections.specs.Codes.{locals_of}
use Rattle.smith_decode.specs.BodyReadings.{run_pair}
use Rattle.smith_check_operands.proofs.ListLemmas.{all_left}
use Rattle.smith_check_operands.proofs.StepLemmas.{all_at}
use Rattle.smith_check.specs.Locals.{IsFirstWrongRun, IsRunRight}

-- the locals of runs, by canonical indices
abbrev pub locals_by : List ℕ → List LocalRun → List ValType
locals_by indices runs = map (renamed_val (canonical_index indices)) (locals_of (map run_pair runs))

map-replicate : {A B : Type 0} (f : A → B) (n : ℕ) (x : A) → map f (replicate n x) ≡ replicate n (f x)
map-replicate f zero x = refl
map-replicate f (suc n) x = ap (λ (ys : List _). f x ∷ ys) (map-replicate f n x)

-- the locals of a first run, and those of the others
pub locals_by-cons : (indices : List ℕ) (run : LocalRun) (runs : List LocalRun)
    → locals_by indices (run ∷ runs) ≡ replicate run.count (renamed_val (canonical_index indices) run.ty) ++ locals_by indices runs
locals_by-cons indices run runs =
    map-append (renamed_val (canonical_index indices)) (replicate run.count run.ty) (locals_of (map run_pair runs))
    ∙ ap (λ (xs : List ValType). xs ++ locals_by indices runs) (map-replicate (renamed_val (canonical_index indices)) run.count run.ty)

pub locals_by-append : (indices : List ℕ) (runs : List LocalRun) (run : LocalRun)
    → locals_by indices (runs ++ run ∷ []) ≡ locals_by indices runs ++ replicate run.count (renamed_val (canonical_index indices) run.ty)
locals_by-append indices [] run = locals_by-cons indices run [] ∙ append-nil _
locals_by-append indices (first ∷ runs) run =
    let own = replicate first.count (renamed_val (canonical_index indices) first.ty) in
    let last = replicate run.count (renamed_val (canonical_index indices) run.ty) in
    locals_by-cons indices first (runs ++ run ∷ []) ∙ ap (λ (xs : List ValType). own ++ xs) (locals_by-append indices runs run)
    ∙ sym (append_assoc own (locals_by indices runs) last)
    ∙ ap (λ (xs : List ValType). xs ++ last) (sym (locals_by-cons indices first runs))

pub pushed_run : (indices : List ℕ) (params made new : List ValType) (runs : List LocalRun) (i : ℕ) (d : LocalRun) (count : ℕ)
    (ty : ValType) → i < length runs → count ≡ (get_or runs i d).count → ty ≡ renamed_val (canonical_index indices) (get_or runs i d).ty
    → made ≡ params ++ locals_by indices (take i runs) → new ≡ made ++ replicate count ty
    → new ≡ params ++ locals_by indices (take (i + 1) runs)
pushed_run indices params made new runs i d count ty inside counted typed before after =
    let run = get_or runs i d in
    let own : replicate count ty ≡ replicate run.count (renamed_val (canonical_index indices) run.ty) =
    λ k. replicate (counted k) (typed k) in
    let more : locals_by indices (take (i + 1) runs)
    ≡ locals_by indices (take i runs) ++ replicate run.count (renamed_val (canonical_index indices) run.ty) =
    ap (λ (rs : List LocalRun). locals_by indices rs) (take_more runs i d inside) ∙ locals_by-append indices (take i runs) run in
    after ∙ (λ k. before k ++ own k)
    ∙ append_assoc params (locals_by indices (take i runs)) (replicate run.count (renamed_val (canonical_index indices) run.ty))
    ∙ ap (λ (xs : List ValType). params ++ xs) (sym more)

-- there are as many locals as the runs have in total
pub length-locals_by : (indices : List ℕ) (runs : List LocalRun) → length (locals_by indices runs) ≡ total runs
length-locals_by indices [] = refl
length-locals_by indices (run ∷ runs) =
    let own = replicate run.count (renamed_val (canonical_index indices) run.ty) in
    let whole : length (locals_by indices (run ∷ runs)) ≡ length own + length (locals_by indices runs) =
    ap (λ (xs : List ValType). length xs) (locals_by-cons indices run runs) ∙ length-append own (locals_by indices runs) in
    omega (arith, whole, length-replicate run.count (renamed_val (canonical_index indices) run.ty), length-locals_by indices runs)

module _ (features : Features) (end : ℕ) (indices : List ℕ) where
  -- locals are valid if their runs are, and the other way round
  replicated : (count : ℕ) (x : ValType) → (0 < count → IsValTypeValid features end x)
      → All (IsValTypeValid features end) (replicate count x)
  replicated zero x right = All-nil (IsValTypeValid features end)
  replicated (suc count) x right = All-replicate (IsValTypeValid features end) (suc count) x (right (omega arith))

  from_replicated : (count : ℕ) (x : ValType) → All (IsValTypeValid features end) (replicate count x) → 0 < count
      → IsValTypeValid features end x
  from_replicated zero x all some = absurd (omega (arith, some))
  from_replicated (suc count) x all some = All-head (IsValTypeValid features end) x (replicate count x) all

  pub locals_from_runs : (runs : List LocalRun) → All (IsRunRight features end indices) runs
      → All (IsValTypeValid features end) (locals_by indices runs)
  locals_from_runs [] all = All-nil (IsValTypeValid features end)
  locals_from_runs (run ∷ runs) all =
      let own = replicate run.count (renamed_val (canonical_index indices) run.ty) in
      subst (All (IsValTypeValid features end)) (sym (locals_by-cons indices run runs))
      (All-append (IsValTypeValid features end) own (locals_by indices runs)
      (replicated run.count (renamed_val (canonical_index indices) run.ty) (All-head (IsRunRight features end indices) run runs all))
      (locals_from_runs runs (all_right (IsRunRight features end indices) (run ∷ []) runs all)))

  pub runs_from_locals : (runs : List LocalRun) → All (IsValTypeValid features end) (locals_by indices runs)
      → All (IsRunRight features end indices) runs
  runs_from_locals [] all = All-nil (IsRunRight features end indices)
  runs_from_locals (run ∷ runs) all =
      let own = replicate run.count (renamed_val (canonical_index indices) run.ty) in
      let both = subst (All (IsValTypeValid features end)) (locals_by-cons indices run runs) all in
      All-cons (IsRunRight features end indices) run runs
      (from_replicated run.count (renamed_val (canonical_index indices) run.ty)
      (all_left (IsValTypeValid features end) own (locals_by indices runs) both))
      (runs_from_locals runs (all_right (IsValTypeValid features end) own (locals_by indices runs) both))

  -- locals with a wrong run are not valid
  pub wrong_run : (runs : List LocalRun) (index : ℕ) → IsFirstWrongRun features end indices runs index
      → All (IsValTypeValid features end) (locals_by indices runs) → ⊥
  wrong_run runs index first all =
      first.invalid (all_at (IsRunRight features end indices) runs index first.wrong (runs_from_locals runs all) first.at)
