-- A local without a default that is set inside a block or before it.
use Rattle.smith_instr.specs.declared.control.BlockType.TheVariants as blocks
use Rattle.smith_instr.specs.declared.instr.Instr.TheVariants as instr
use Rattle.smith_instr_examples.proofs.Common.{◌≡◌, ℕ, ◌<◌, inl, inr, List, [], ◌∷◌, ◌++◌, refl, sym, subst, ap, ◌∙◌, arith, same_Some}
use Rattle.smith_instr_examples.proofs.Common.{Contains, All-nil, IsDefaultable, ValType, I32, BodyContext, AreValid, IsCatch, Stacked}
use Rattle.smith_instr_examples.proofs.Common.{stacked, AreTyped, step, block, loop, if_alone, if_else, try_table, BlockType, Instr, one}
use Rattle.smith_instr_examples.proofs.Common.{framed, finished, count_as_themselves, function_of, number, some_func}
use Rattle.smith_instr_examples.proofs.PartLemmas.{Parts, block_parts, loop_parts, if_parts, try_parts, arms, is_inner}
use Rattle.smith_instr_examples.proofs.SequenceExamples.{is_plain, step_of, valid_none, valid_one}

-- the context, whose only local has no default, inside blocks with these labels
abbrev inside : List (List ValType) → BodyContext
inside labels = record (function_of (some_func ∷ []) []) { labels = labels }

read_unset : {labels : List (List ValType)} {more : List Instr} {a b : Stacked} → a.set ≡ []
    → AreTyped (inside labels) (instr.LocalGet 0 ∷ more) a b → ⊥
unfolding is_plain
read_unset unset typed =
    let (between, first, rest) = step_of refl typed in
    let (value, (at, set), is) = first.typed in
    let same : value ≡ some_func = sym (same_Some some_func value at) in
    elim set [
      | inl early ↦ let never : 0 < 0 = early in omega arith
      | inr later ↦ elim later [
        | inl defaultable ↦ let never : IsDefaultable some_func = subst IsDefaultable same defaultable in cc
        | inr contained ↦ let in_none : Contains [] 0 = subst (λ (xs : List ℕ). Contains xs 0) unset contained in
            let within : in_none.0 < 0 = in_none.1 in omega (arith, within)
      ]
    ]

-- instructions that set the local
abbrev setting : List Instr
setting = instr.Unreachable ∷ instr.LocalSet 0 ∷ []

gone : {label : List ValType → List ValType → List ValType} {needs : List ValType → List ValType} {ty : BlockType} {inner more : List Instr}
    {a b : Stacked} → a.set ≡ []
    → Parts (inside []) label needs ty inner (instr.LocalGet 0 ∷ more) a b → ⊥
gone unset parts = read_unset (parts.framed.set_then ∙ ap (λ (xs : List ℕ). xs ++ []) unset) parts.onwards

module _ {a b : Stacked} (unset : a.set ≡ []) where
  pub after_a_block : AreTyped (inside []) (instr.Block blocks.Empty ∷ instr.Unreachable ∷ instr.LocalSet 0 ∷ instr.End ∷ instr.LocalGet 0
      ∷ []) a b → ⊥
  unfolding is_inner is_plain
  after_a_block typed = gone unset (block_parts setting (instr.LocalGet 0 ∷ []) (refl, (refl, tt)) (refl, tt) typed)

  pub after_a_loop : AreTyped (inside []) (instr.Loop blocks.Empty ∷ instr.Unreachable ∷ instr.LocalSet 0 ∷ instr.End ∷ instr.LocalGet 0
      ∷ []) a b → ⊥
  unfolding is_inner is_plain
  after_a_loop typed = gone unset (loop_parts setting (instr.LocalGet 0 ∷ []) (refl, (refl, tt)) (refl, tt) typed)

  pub after_an_if : AreTyped (inside []) (instr.If blocks.Empty ∷ instr.Unreachable ∷ instr.LocalSet 0 ∷ instr.End ∷ instr.LocalGet 0 ∷ [])
      a b → ⊥
  unfolding is_inner is_plain
  after_an_if typed = gone unset (if_parts setting (instr.LocalGet 0 ∷ []) (refl, (refl, tt)) (refl, tt) typed)

  pub after_both_arms : AreTyped (inside []) (instr.If blocks.Empty ∷ instr.Unreachable ∷ instr.LocalSet 0 ∷ instr.Else ∷ instr.Unreachable
      ∷ instr.LocalSet 0 ∷ instr.End ∷ instr.LocalGet 0 ∷ []) a b → ⊥
  unfolding is_inner is_plain
  after_both_arms typed = gone unset (arms setting setting (instr.LocalGet 0 ∷ []) (refl, (refl, tt)) (refl, (refl, tt))
      (refl, tt) typed).first

  pub in_the_other_arm : AreTyped (inside []) (instr.If blocks.Empty ∷ instr.Unreachable ∷ instr.LocalSet 0 ∷ instr.Else ∷ instr.LocalGet 0
      ∷ instr.Drop ∷ instr.End ∷ []) a b → ⊥
  unfolding is_inner is_plain
  in_the_other_arm typed = read_unset unset (arms setting (instr.LocalGet 0 ∷ instr.Drop ∷ []) [] (refl, (refl, tt)) (refl, (refl, tt)) tt
      typed).second.within

  pub after_a_try_table : AreTyped (inside []) (instr.TryTable blocks.Empty [] ∷ instr.Unreachable ∷ instr.LocalSet 0 ∷ instr.End
      ∷ instr.LocalGet 0 ∷ []) a b → ⊥
  unfolding is_inner is_plain
  after_a_try_table typed = gone unset (try_parts setting (instr.LocalGet 0 ∷ []) (refl, (refl, tt)) (refl, tt) typed)

some_valid : (labels : List (List ValType)) → AreValid (inside labels) (some_func ∷ [])
some_valid labels = valid_one (inside labels) some_func (refl, record { heap_type = (tt, λ never. cc); nullable = λ is. refl })

-- instructions after the local was set, and those that read it
remembered : {more : List Instr} → AreTyped (inside []) more (stacked [] (0 ∷ [])) (stacked [] (0 ∷ []))
    → AreTyped (inside []) (instr.Unreachable ∷ instr.LocalSet 0 ∷ more) (stacked [] []) (stacked [] (0 ∷ []))
remembered rest =
    step (one (inside []) instr.Unreachable [] (some_func ∷ []) [] [] [] ([], refl, some_valid []) (some_valid []) refl)
    (step (one (inside []) (instr.LocalSet 0) (some_func ∷ []) [] [] [] (0 ∷ []) (some_func, refl, (refl, refl)) (valid_none (inside []))
    refl) rest)

read : AreTyped (inside ([] ∷ [])) (instr.LocalGet 0 ∷ instr.Drop ∷ []) (stacked [] (0 ∷ [])) (stacked [] (0 ∷ []))
read =
    let context = inside ([] ∷ []) in
    step (one context (instr.LocalGet 0) [] (some_func ∷ []) [] (0 ∷ []) (0 ∷ []) (
      some_func,
      (refl, inr (inr (0, omega arith, refl))),
      (refl, refl),
    ) (some_valid ([] ∷ [])) refl)
    (step (one context instr.Drop (some_func ∷ []) [] [] (0 ∷ []) (0 ∷ []) (some_func, (refl, refl)) (valid_none context) refl)
    (finished context [] (0 ∷ []) (valid_none context)))

ended : AreTyped (inside []) [] (stacked [] (0 ∷ [])) (stacked [] (0 ∷ []))
ended = finished (inside []) [] (0 ∷ []) (valid_none (inside []))

pub in_a_block : AreTyped (inside []) (instr.Unreachable ∷ instr.LocalSet 0 ∷ instr.Block blocks.Empty ∷ instr.LocalGet 0 ∷ instr.Drop
    ∷ instr.End ∷ []) (stacked [] []) (stacked [] (0 ∷ []))
in_a_block = remembered (block {body = instr.LocalGet 0 ∷ instr.Drop ∷ []} {more = []} refl (refl, refl) read
    (framed (inside []) [] [] [] (0 ∷ []) [] (0 ∷ []) (valid_none (inside [])) refl) ended)

pub in_a_loop : AreTyped (inside []) (instr.Unreachable ∷ instr.LocalSet 0 ∷ instr.Loop blocks.Empty ∷ instr.LocalGet 0 ∷ instr.Drop
    ∷ instr.End ∷ []) (stacked [] []) (stacked [] (0 ∷ []))
in_a_loop = remembered (loop {body = instr.LocalGet 0 ∷ instr.Drop ∷ []} {more = []} refl (refl, refl) read
    (framed (inside []) [] [] [] (0 ∷ []) [] (0 ∷ []) (valid_none (inside [])) refl) ended)

-- a condition before an if
on_one : {more : List Instr} → AreTyped (inside []) more (stacked (I32 ∷ []) (0 ∷ [])) (stacked [] (0 ∷ []))
    → AreTyped (inside []) (number 1 ∷ more) (stacked [] (0 ∷ [])) (stacked [] (0 ∷ []))
on_one rest = step (one (inside []) (number 1) [] (I32 ∷ []) [] (0 ∷ []) (0 ∷ []) (refl, refl) (valid_one (inside []) I32 tt) refl) rest

pub in_an_if : AreTyped (inside []) (instr.Unreachable ∷ instr.LocalSet 0 ∷ number 1 ∷ instr.If blocks.Empty ∷ instr.LocalGet 0 ∷ instr.Drop
    ∷ instr.End ∷ []) (stacked [] []) (stacked [] (0 ∷ []))
in_an_if = remembered (on_one (if_alone {body = instr.LocalGet 0 ∷ instr.Drop ∷ []} {more = []} {params = []} {results = []} refl
    (refl, refl) read (count_as_themselves (inside []) [] (valid_none (inside []))) (framed (inside []) (I32 ∷ []) [] [] (0 ∷ []) []
    (0 ∷ []) (valid_none (inside [])) refl) ended))

pub in_both_arms : AreTyped (inside []) (instr.Unreachable ∷ instr.LocalSet 0 ∷ number 1 ∷ instr.If blocks.Empty ∷ instr.LocalGet 0
    ∷ instr.Drop ∷ instr.Else ∷ instr.LocalGet 0 ∷ instr.Drop ∷ instr.End ∷ []) (stacked [] []) (stacked [] (0 ∷ []))
in_both_arms = remembered
    (on_one (if_else {body = instr.LocalGet 0 ∷ instr.Drop ∷ []} {other = instr.LocalGet 0 ∷ instr.Drop ∷ []} {more = []} {params = []}
    {results = []} refl (refl, refl) read read (framed (inside []) (I32 ∷ []) [] [] (0 ∷ []) [] (0 ∷ []) (valid_none (inside [])) refl)
    ended))

pub in_a_try_table : AreTyped (inside []) (instr.Unreachable ∷ instr.LocalSet 0 ∷ instr.TryTable blocks.Empty [] ∷ instr.LocalGet 0
    ∷ instr.Drop ∷ instr.End ∷ []) (stacked [] []) (stacked [] (0 ∷ []))
in_a_try_table = remembered (try_table {body = instr.LocalGet 0 ∷ instr.Drop ∷ []} {more = []} refl (refl, refl)
    (All-nil (IsCatch (inside []))) read (framed (inside []) [] [] [] (0 ∷ []) [] (0 ∷ []) (valid_none (inside [])) refl) ended)

pub after_a_tee : AreTyped (inside ([] ∷ [])) (instr.Unreachable ∷ instr.LocalTee 0 ∷ instr.Drop ∷ instr.LocalGet 0 ∷ instr.Drop ∷ [])
    (stacked [] []) (stacked [] (0 ∷ []))
after_a_tee =
    let context = inside ([] ∷ []) in
    let valid = some_valid ([] ∷ []) in
    step (one context instr.Unreachable [] (some_func ∷ []) [] [] [] ([], refl, valid) valid refl)
    (step (one context (instr.LocalTee 0) (some_func ∷ []) (some_func ∷ []) [] [] (0 ∷ []) (some_func, refl, (refl, refl)) valid refl)
    (step (one context instr.Drop (some_func ∷ []) [] [] (0 ∷ []) (0 ∷ []) (some_func, (refl, refl)) (valid_none context) refl) read))
