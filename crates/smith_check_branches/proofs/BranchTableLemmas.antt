-- Branches to one of several labels.
use Rattle.smith_check_branches.proofs.Common.{[], All, all_at, ap, append_assoc, AreBelow, BodyContext, Covers, Held, I32, IsBelow}
use Rattle.smith_check_branches.proofs.Common.{IsTaken, length, List, None, none_not_some, Pops, PopsNothing, refl, slice_get, Slot, Some}
use Rattle.smith_check_branches.proofs.Common.{some_same, subst, sym, true, ValType, Value, values, with_labels, ℕ, ◌++◌, ◌∙◌, ◌∷◌, ◌≡◌}
use Rattle.std.proofs.lemmas.List.Elements.{length_all_zip}
use Rattle.smith_instr.specs.declared.instr.Instr.TheVariants as instr
use Rattle.smith_check_rules.specs.Sequences.{Stacked, stacked, IsStep}
use Rattle.smith_check_operands.specs.Applies.{IsTaken as IsSteppedTo}
use Rattle.smith_check_operands.specs.Closes.{StepsNowhere}
use Rattle.smith_check_operands.proofs.ApplyLemmas.{nothing_above, pops_then}
use Rattle.smith_check_operands.proofs.BelowLemmas.{below_all}
use Rattle.smith_check_operands.proofs.FitLemmas.{values_length}
use Rattle.smith_check_operands.proofs.ListLemmas.{zip_parts}
use Rattle.smith_check_operands.proofs.StepLemmas.{left}
use Rattle.smith_check_branches.specs.Tops.{top_of, IsOnTop}
use Rattle.smith_check_branches.proofs.OperandLemmas.{leaves_as}
use Rattle.smith_check_branches.proofs.TopLemmas.{pops_top}

-- every label takes what is on top of the stack
pub table_taken : (context : BodyContext) (labels : List (List ValType)) (set indices : List ℕ) (other : ℕ) (given : List ValType)
    (old middle new : Held) → Pops context (values (I32 ∷ [])) old middle → IsOnTop context given middle
    → slice_get labels other ≡ Some given
    → All (IsTaken (with_labels context labels) (top_of middle.known (length given))) indices → new.known ≡ [] → new.dead ≡ true
    → IsSteppedTo context labels (instr.BrTable indices other) set old new
table_taken context labels set indices other given old middle new pops on at all known dead =
    let top = top_of middle.known (length given) in
    let (lower, more) = pops_top context middle.known (length given) middle.dead pops.valid on.reached in
    leaves_as context labels (instr.BrTable indices other) set (top ++ Value I32 ∷ []) old new
    (λ os rs t. (top, all, (given, at, on.below), t))
    (left context (top ++ Value I32 ∷ []) old lower new (pops_then context top (Value I32 ∷ []) old middle lower pops more) known dead)

-- what a step takes below the index
record IsSeen (context : BodyContext) (labels : List (List ValType)) (indices : List ℕ) (other : ℕ) (middle : Held) : Type 0 where
  given : List Slot
  all : All (IsTaken (with_labels context labels) given) indices
  last : IsTaken (with_labels context labels) given other
  rest : List Slot
  taken : List Slot
  covered : Covers context middle (rest ++ taken)
  below : AreBelow context.types taken given

seen : (context : BodyContext) (labels : List (List ValType)) (set indices : List ℕ) (other : ℕ) (old middle : Held)
    (before : List Slot) (after : Stacked) → Pops context (values (I32 ∷ [])) old middle → Covers context old before
    → IsStep (with_labels context labels) (instr.BrTable indices other) (stacked before set) after
    → IsSeen context labels indices other middle
seen context labels set indices other old middle before after pops c s =
    let (given, all, last, leaves) = s.typed in
    let (below, is, valid) = leaves in
    let types = context.types in
    let (front, back, same, left, right) = zip_parts (IsBelow types) s.framed.taken below (given ++ Value I32 ∷ [])
    (subst (λ xs. AreBelow types s.framed.taken xs) is s.framed.accepted) in
    let (lower, index, also, fits, last_fits) = zip_parts (IsBelow types) back given (Value I32 ∷ []) right in
    let rest = s.framed.rest in
    let whole : before ≡ ((rest ++ front) ++ lower) ++ index =
    s.framed.under ∙ ap (λ xs. rest ++ xs) (same ∙ ap (λ ys. front ++ ys) also) ∙ sym (append_assoc rest front (lower ++ index))
    ∙ sym (append_assoc (rest ++ front) lower index) in
    record {
      given = given;
      all = all;
      last = last;
      rest = rest ++ front;
      taken = lower;
      covered = pops.complete ((rest ++ front) ++ lower) before c (record { taken = index; is = whole; accepted = last_fits });
      below = fits;
    }

pub table_unindexed : (context : BodyContext) (labels : List (List ValType)) (set indices : List ℕ) (other : ℕ) (old : Held)
    → PopsNothing context (values (I32 ∷ [])) old → StepsNowhere context labels (instr.BrTable indices other) set old
table_unindexed context labels set indices other old never before after c s =
    let (given, all, last, leaves) = s.typed in
    let (below, is, valid) = leaves in
    nothing_above context (below ++ given) (Value I32 ∷ []) old never s.framed.rest before c (record {
      taken = s.framed.taken;
      is = s.framed.under;
      accepted = subst (λ xs. AreBelow context.types s.framed.taken xs) (is ∙ sym (append_assoc below given (Value I32 ∷ [])))
          s.framed.accepted;
    })

-- a label that is not there
no_label : (context : BodyContext) (labels : List (List ValType)) (index : ℕ) (given : List Slot) → slice_get labels index ≡ None
    → IsTaken (with_labels context labels) given index → ⊥
no_label context labels index given none t = none_not_some t.0 (slice_get labels index) none t.1

-- a label that takes other values
other_values : (context : BodyContext) (labels : List (List ValType)) (index : ℕ) (types : List ValType) (given rest taken : List Slot)
    (middle : Held) → slice_get labels index ≡ Some types → PopsNothing context (values types) middle
    → Covers context middle (rest ++ taken) → AreBelow context.types taken given
    → IsTaken (with_labels context labels) given index → ⊥
other_values context labels index types given rest taken middle there never covered below t =
    let (these, at, fits) = t in
    let same : these ≡ types = some_same these types (sym at ∙ there) in
    never rest (rest ++ taken) covered (record {
      taken = taken;
      is = refl;
      accepted = below_all context.types taken given (values types) below
          (subst (λ ts. AreBelow context.types given (values ts)) same fits);
    })

taken_length : (context : BodyContext) (labels : List (List ValType)) (index : ℕ) (types : List ValType) (given : List Slot)
    → slice_get labels index ≡ Some types → IsTaken (with_labels context labels) given index → length given ≡ length types
taken_length context labels index types given there t =
    let (these, at, fits) = t in
    length_all_zip (IsBelow context.types) given (values these) fits ∙ values_length these
    ∙ ap (λ ts. length ts) (some_same these types (sym at ∙ there))

pub table_without_last : (context : BodyContext) (labels : List (List ValType)) (set indices : List ℕ) (other : ℕ) (old middle : Held)
    → Pops context (values (I32 ∷ [])) old middle → slice_get labels other ≡ None
    → StepsNowhere context labels (instr.BrTable indices other) set old
table_without_last context labels set indices other old middle pops none before after c s =
    let x = seen context labels set indices other old middle before after pops c s in no_label context labels other x.given none x.last

pub table_apart_at_last : (context : BodyContext) (labels : List (List ValType)) (set indices : List ℕ) (other : ℕ)
    (types : List ValType) (old middle : Held)
    → Pops context (values (I32 ∷ [])) old middle → slice_get labels other ≡ Some types → PopsNothing context (values types) middle
    → StepsNowhere context labels (instr.BrTable indices other) set old
table_apart_at_last context labels set indices other types old middle pops there never before after c s =
    let x = seen context labels set indices other old middle before after pops c s in
    other_values context labels other types x.given x.rest x.taken middle there never x.covered x.below x.last

pub table_without : (context : BodyContext) (labels : List (List ValType)) (set indices : List ℕ) (other place index : ℕ)
    (old middle : Held) → Pops context (values (I32 ∷ [])) old middle → slice_get indices place ≡ Some index
    → slice_get labels index ≡ None → StepsNowhere context labels (instr.BrTable indices other) set old
table_without context labels set indices other place index old middle pops at none before after c s =
    let x = seen context labels set indices other old middle before after pops c s in
    no_label context labels index x.given none (all_at (IsTaken (with_labels context labels) x.given) indices place index x.all at)

pub table_uneven : (context : BodyContext) (labels : List (List ValType)) (set indices : List ℕ) (other place index : ℕ)
    (types given : List ValType) (old middle : Held) → Pops context (values (I32 ∷ [])) old middle → slice_get indices place ≡ Some index
    → slice_get labels index ≡ Some types → slice_get labels other ≡ Some given → (length types ≡ length given → ⊥)
    → StepsNowhere context labels (instr.BrTable indices other) set old
table_uneven context labels set indices other place index types given old middle pops at there last uneven before after c s =
    let x = seen context labels set indices other old middle before after pops c s in
    uneven (sym (taken_length context labels index types x.given there
    (all_at (IsTaken (with_labels context labels) x.given) indices place index x.all at))
    ∙ taken_length context labels other given x.given last x.last)

pub table_apart : (context : BodyContext) (labels : List (List ValType)) (set indices : List ℕ) (other place index : ℕ)
    (types : List ValType) (old middle : Held) → Pops context (values (I32 ∷ [])) old middle → slice_get indices place ≡ Some index
    → slice_get labels index ≡ Some types → PopsNothing context (values types) middle
    → StepsNowhere context labels (instr.BrTable indices other) set old
table_apart context labels set indices other place index types old middle pops at there never before after c s =
    let x = seen context labels set indices other old middle before after pops c s in
    other_values context labels index types x.given x.rest x.taken middle there never x.covered x.below
    (all_at (IsTaken (with_labels context labels) x.given) indices place index x.all at)

-- a label takes what another as long takes
pub taken_too : (context : BodyContext) (labels : List (List ValType)) (index : ℕ) (types given : List ValType) (middle : Held)
    → slice_get labels index ≡ Some types → length types ≡ length given → IsOnTop context types middle
    → IsTaken (with_labels context labels) (top_of middle.known (length given)) index
taken_too context labels index types given middle there long on =
    (types, there, subst (λ n. AreBelow context.types (top_of middle.known n) (values types)) long on.below)
