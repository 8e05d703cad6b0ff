-- Instructions that open and close no block.
use Rattle.smith_check_body.proofs.Common.{[], ap, AreTyped, block, BodyContext, ClosesWith, Finishes, Frame, Held, if_alone, if_else, inl}
use Rattle.smith_check_body.proofs.Common.{inr, Instr, IsStep, IsTail, label_of, labels_of, List, loop, nothing, refl, Shape, Stacked}
use Rattle.smith_check_body.proofs.Common.{stacked, step, subst, sym, try_table, ValType, with_labels, ℕ, ◌++◌, ◌∙◌, ◌∷◌, ◌≡◌}
use Rattle.std.proofs.Common.{◌⊎◌}
use Rattle.smith_instr.specs.declared.instr.Instr.TheVariants as instr
use Rattle.smith_instr.specs.InstrTypes.{sets}
use Rattle.smith_check_operands.specs.Closes.{IsPlain, Steps, StepsNowhere}

-- the first item of a list, or another
first_or : Instr → List Instr → Instr
first_or d [] = d
first_or d (x ∷ xs) = x

others : List Instr → List Instr
others [] = []
others (x ∷ xs) = xs

pub same_first : (x y : Instr) (xs ys : List Instr) → x ∷ xs ≡ y ∷ ys → x ≡ y
unfolding first_or
same_first x y xs ys e = ap (λ zs. first_or x zs) e

pub same_others : (x y : Instr) (xs ys : List Instr) → x ∷ xs ≡ y ∷ ys → xs ≡ ys
unfolding others
same_others x y xs ys e = ap (λ zs. others zs) e

HasItems : List Instr → Type 0
HasItems [] = ⊥
HasItems (x ∷ xs) = Unit {0}

pub not_empty : (x : Instr) (xs : List Instr) → [] ≡ x ∷ xs → ⊥
unfolding HasItems
not_empty x xs e = subst (λ ys. HasItems ys) (sym e) tt

-- where the first instruction of a list that is split in two is
pub record HeadOf (x : Instr) (xs body tail : List Instr) : Type 0 where
  pub more : List Instr
  pub is : body ≡ x ∷ more
  pub rest : xs ≡ more ++ tail

pub head_of : (x : Instr) (xs body tail : List Instr) → x ∷ xs ≡ body ++ tail → ((body ≡ []) × (tail ≡ x ∷ xs)) ⊎ HeadOf x xs body tail
head_of x xs [] tail e = inl (refl, sym e)
head_of x xs (y ∷ body) tail e = inr (record {
  more = body;
  is = ap (λ z. z ∷ body) (sym (same_first x y xs (body ++ tail) e));
  rest = same_others x y xs (body ++ tail) e;
})

not_plain : (P : Type 0) (x y : Instr) → x ≡ y → IsPlain y → (IsPlain x → ⊥) → P
not_plain P x y e p never = absurd (never (subst (λ z. IsPlain z) (sym e) p))

-- an instruction that opens no block, before others
pub record StepsThen (context : BodyContext) (instruction : Instr) (more : List Instr) (before after : Stacked) : Type 0 where
  pub between : Stacked
  pub step : IsStep context instruction before between
  pub then : AreTyped context more between after

pub step_of : {context : BodyContext} {xs : List Instr} {before after : Stacked} (x : Instr) (more : List Instr)
    → AreTyped context xs before after → xs ≡ x ∷ more → IsPlain x
    → StepsThen context x more before after
step_of x more (nothing counts same) e p = absurd (not_empty x more e)
step_of {context = context} {before = before} {after = after} x more (step {instruction = i} {more = rest} {between = between} s t) e p =
    record {
      between = between;
      step = subst (λ z. IsStep context z before between) (same_first i x rest more e) s;
      then = subst (λ zs. AreTyped context zs between after) (same_others i x rest more e) t;
    }
step_of x more (block {ty = ty} {body = body} {more = rest} params results is fits inner framed t) e p =
    not_plain _ (instr.Block ty) x (same_first (instr.Block ty) x (body ++ instr.End ∷ rest) more (sym is ∙ e)) p (λ h. h)
step_of x more (loop {ty = ty} {body = body} {more = rest} params results is fits inner framed t) e p =
    not_plain _ (instr.Loop ty) x (same_first (instr.Loop ty) x (body ++ instr.End ∷ rest) more (sym is ∙ e)) p (λ h. h)
step_of x more (if_alone {ty = ty} {body = body} {more = rest} params results is fits inner same framed t) e p =
    not_plain _ (instr.If ty) x (same_first (instr.If ty) x (body ++ instr.End ∷ rest) more (sym is ∙ e)) p (λ h. h)
step_of x more (if_else {ty = ty} {body = body} {other = other} {more = rest} params results is fits inner last framed t) e p =
    not_plain _ (instr.If ty) x (same_first (instr.If ty) x (body ++ instr.Else ∷ (other ++ instr.End ∷ rest)) more (sym is ∙ e)) p (λ h. h)
step_of x more (try_table {ty = ty} {clauses = clauses} {body = body} {more = rest} params results is fits caught inner framed t) e p =
    not_plain _ (instr.TryTable ty clauses) x (same_first (instr.TryTable ty clauses) x (body ++ instr.End ∷ rest) more (sym is ∙ e)) p
    (λ h. h)

-- what closes blocks begins with no plain instruction
pub no_plain_tail : (context : BodyContext) (shape : Shape) (base : List ℕ) (outers : List Frame) (x : Instr) (xs tail : List Instr)
    → IsTail context shape base outers tail → tail ≡ x ∷ xs → IsPlain x → ⊥
no_plain_tail context shape base [] x xs tail is e p = not_empty x xs (sym is ∙ e)
no_plain_tail context shape base (outer ∷ outers) x xs tail (inl ends) e p =
    not_plain _ instr.End x (same_first instr.End x ends.more xs (sym ends.is ∙ e)) p (λ h. h)
no_plain_tail context shape base (outer ∷ outers) x xs tail (inr other) e p =
    not_plain _ instr.Else x (same_first instr.Else x (other.other ++ instr.End ∷ other.more) xs (sym other.is ∙ e)) p (λ h. h)

pub record ClosesThen (context : BodyContext) (results : List ValType) (Tail : List Instr → Type 0) (instruction : Instr)
    (rest : List Instr) (before : Stacked) : Type 0 where
  pub between : Stacked
  pub step : IsStep context instruction before between
  pub then : ClosesWith context results Tail between rest

pub closes_step : (context : BodyContext) (results : List ValType) (Tail : List Instr → Type 0) (x : Instr) (xs : List Instr)
    (before : Stacked)
    → IsPlain x → ((tail : List Instr) → Tail tail → tail ≡ x ∷ xs → ⊥) → ClosesWith context results Tail before (x ∷ xs)
    → ClosesThen context results Tail x xs before
closes_step context results Tail x xs before p never c =
    elim (head_of x xs c.body c.tail c.is) [
      | inl at ↦ absurd (never c.tail c.after at.1)
      | inr h ↦
          let s = step_of x h.more c.typed h.is p in
          record {
            between = s.between;
            step = s.step;
            then = record { body = h.more; tail = c.tail; end = c.end; is = h.rest; typed = s.then; after = c.after };
          }
    ]

pub step_closes : (context : BodyContext) (results : List ValType) (Tail : List Instr → Type 0) (x : Instr) (xs : List Instr)
    (before between : Stacked)
    → IsStep context x before between → ClosesWith context results Tail between xs → ClosesWith context results Tail before (x ∷ xs)
step_closes context results Tail x xs before between s c = record {
  body = x ∷ c.body;
  tail = c.tail;
  end = c.end;
  is = ap (λ ys. x ∷ ys) c.is;
  typed = step s c.typed;
  after = c.after;
}

-- where an instruction that opens and closes no block steps, exactly the rest has to finish
pub steps_finish : (context : BodyContext) (shape : Shape) (outers : List Frame) (x : Instr) (old new : Held) (set more base : List ℕ)
    (xs : List Instr)
    → IsPlain x → more ≡ set ++ sets x → Steps context (label_of shape ∷ labels_of outers) x set old new
    → Finishes context shape old set base outers (x ∷ xs) → Finishes context shape new more base outers xs
steps_finish context shape outers x old new set more base xs p sum s f =
    let labels = label_of shape ∷ labels_of outers in
    let c = closes_step (with_labels context labels) shape.results (IsTail context shape base outers) x xs (stacked f.stack set) p
    (λ tail is e. no_plain_tail context shape base outers x xs tail is e p) f.closes in
    let same : c.between.set ≡ more = c.step.framed.set_then ∙ sym sum in
    record {
      stack = c.between.stack;
      covered = s.complete f.stack c.between f.covered c.step;
      closes = subst (λ ys. ClosesWith (with_labels context labels) shape.results (IsTail context shape base outers)
          (stacked c.between.stack ys) xs) same c.then;
    }

pub steps_begin : (context : BodyContext) (shape : Shape) (outers : List Frame) (x : Instr) (old new : Held) (set more base : List ℕ)
    (xs : List Instr)
    → more ≡ set ++ sets x → Steps context (label_of shape ∷ labels_of outers) x set old new
    → Finishes context shape new more base outers xs → Finishes context shape old set base outers (x ∷ xs)
steps_begin context shape outers x old new set more base xs sum s f =
    let labels = label_of shape ∷ labels_of outers in
    let r = s.sound f.stack f.covered in
    record {
      stack = r.before;
      covered = r.covered;
      closes = step_closes (with_labels context labels) shape.results (IsTail context shape base outers) x xs (stacked r.before set)
          (stacked f.stack (set ++ sets x)) r.step
          (subst (λ ys. ClosesWith (with_labels context labels) shape.results (IsTail context shape base outers) (stacked f.stack ys) xs)
          sum f.closes);
    }

pub nowhere_finish : (context : BodyContext) (shape : Shape) (outers : List Frame) (x : Instr) (old : Held) (set base : List ℕ)
    (xs : List Instr)
    → IsPlain x → StepsNowhere context (label_of shape ∷ labels_of outers) x set old → Finishes context shape old set base outers (x ∷ xs)
    → ⊥
nowhere_finish context shape outers x old set base xs p never f =
    let labels = label_of shape ∷ labels_of outers in
    let c = closes_step (with_labels context labels) shape.results (IsTail context shape base outers) x xs (stacked f.stack set) p
    (λ tail is e. no_plain_tail context shape base outers x xs tail is e p) f.closes in
    never f.stack c.between f.covered c.step
