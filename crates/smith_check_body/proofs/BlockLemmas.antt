-- Instructions that open blocks.
use Rattle.smith_check_body.proofs.Common.{[], ap, AreTyped, block, BlockType, BodyContext, ClosesWith, Ends, HasStackType, if_alone}
use Rattle.smith_check_body.proofs.Common.{if_else, inl, inr, Instr, IsBlockType, IsFramed, IsStep, Kind, label_by, List, loop, nothing}
use Rattle.smith_check_body.proofs.Common.{refl, Stacked, stacked, step, subst, sym, try_table, ValType, values, ◌++◌, ◌∙◌, ◌∷◌, ◌≡◌}
use Rattle.smith_check_operands.specs.declared.frame.Kind.TheVariants as kind
use Rattle.smith_instr.specs.declared.control.Catch.{Catch}
use Rattle.smith_instr.specs.declared.instr.Instr.TheVariants as instr
use Rattle.smith_instr.specs.Contexts.{labelled}
use Rattle.smith_check_body.specs.Opens.{opening, taken_by}
use Rattle.smith_check_body.proofs.PlainLemmas.{same_first, same_others, not_empty}

-- a block, before others
pub record Encloses (context : BodyContext) (opens : Kind) (ty : BlockType) (more : List Instr) (before after : Stacked) : Type 0 where
  pub params : List ValType
  pub results : List ValType
  pub between : Stacked
  pub fits : IsBlockType context ty params results
  pub framed : IsFramed context (values (taken_by opens params)) (values results) [] before between
  pub inside : ClosesWith (labelled context (label_by opens params results)) results
      (Ends (labelled context (label_by opens params results)) opens params results before.set
      (λ rest. AreTyped context rest between after)) (stacked (values params) before.set) more

abbrev KindOf : Instr → Kind → Type 0
KindOf (instr.Block ty) kind.Block = Unit {0}
KindOf (instr.Loop ty) kind.Loop = Unit {0}
KindOf (instr.If ty) kind.If = Unit {0}
KindOf _ _ = ⊥

abbrev type_of : BlockType → Instr → BlockType
type_of d (instr.Block ty) = ty
type_of d (instr.Loop ty) = ty
type_of d (instr.If ty) = ty
type_of d _ = d

kind_of_opening : (opens : Kind) (ty : BlockType) → KindOf (opening opens ty) opens
kind_of_opening kind.Block ty = tt
kind_of_opening kind.Loop ty = tt
kind_of_opening kind.If ty = tt

type_of_opening : (d ty : BlockType) (opens : Kind) → type_of d (opening opens ty) ≡ ty
type_of_opening d ty kind.Block = refl
type_of_opening d ty kind.Loop = refl
type_of_opening d ty kind.If = refl

-- an instruction that opens no block is not one that does
step_opens_nothing : (context : BodyContext) (x : Instr) (opens : Kind) (ty : BlockType) (before after : Stacked) → x ≡ opening opens ty
    → IsStep context x before after → ⊥
step_opens_nothing context x kind.Block ty before after e s =
    (subst (λ z. HasStackType context before.set z s.operands s.results) e s.typed).2
step_opens_nothing context x kind.Loop ty before after e s =
    (subst (λ z. HasStackType context before.set z s.operands s.results) e s.typed).2
step_opens_nothing context x kind.If ty before after e s = (subst (λ z. HasStackType context before.set z s.operands s.results) e s.typed).2

not_opening : (opens : Kind) (actual ty : BlockType) (clauses : List Catch) → instr.TryTable actual clauses ≡ opening opens ty → ⊥
not_opening kind.Block actual ty clauses e = subst (λ z. KindOf z kind.Block) (sym e) tt
not_opening kind.Loop actual ty clauses e = subst (λ z. KindOf z kind.Loop) (sym e) tt
not_opening kind.If actual ty clauses e = subst (λ z. KindOf z kind.If) (sym e) tt

enclosed : (context : BodyContext) (actual opens : Kind) (ty wanted : BlockType) (more rest : List Instr) (before after : Stacked)
    → opening actual ty ≡ opening opens wanted → rest ≡ more → Encloses context actual ty rest before after
    → Encloses context opens wanted more before after
enclosed context kind.Block kind.Block ty wanted more rest before after first same e =
    let is : ty ≡ wanted = ap (λ z. type_of ty z) first in
    subst (λ xs. Encloses context kind.Block wanted xs before after) same (subst (λ t. Encloses context kind.Block t rest before after) is
    e)
enclosed context kind.Loop kind.Loop ty wanted more rest before after first same e =
    let is : ty ≡ wanted = ap (λ z. type_of ty z) first in
    subst (λ xs. Encloses context kind.Loop wanted xs before after) same (subst (λ t. Encloses context kind.Loop t rest before after) is e)
enclosed context kind.If kind.If ty wanted more rest before after first same e =
    let is : ty ≡ wanted = ap (λ z. type_of ty z) first in
    subst (λ xs. Encloses context kind.If wanted xs before after) same (subst (λ t. Encloses context kind.If t rest before after) is e)
enclosed context kind.Block opens ty wanted more rest before after first same e = absurd (subst (λ z. KindOf z kind.Block) first tt)
enclosed context kind.Loop opens ty wanted more rest before after first same e = absurd (subst (λ z. KindOf z kind.Loop) first tt)
enclosed context kind.If opens ty wanted more rest before after first same e = absurd (subst (λ z. KindOf z kind.If) first tt)

pub encloses : {context : BodyContext} {xs : List Instr} {before after : Stacked} (opens : Kind) (ty : BlockType) (more : List Instr)
    → AreTyped context xs before after
    → xs ≡ opening opens ty ∷ more → Encloses context opens ty more before after
encloses opens ty more (nothing counts same) e = absurd (not_empty (opening opens ty) more e)
encloses {context = context} {before = before} opens ty more (step {instruction = i} {more = rest} {between = between} s t) e =
    absurd (step_opens_nothing context i opens ty before between (same_first i (opening opens ty) rest more e) s)
encloses {context = context} {before = before} {after = after} opens ty more (block {ty = actual} {body = body} {more = rest} params results
    {set = set} {between = between} is fits inner framed t) e =
    enclosed context kind.Block opens actual ty more (body ++ instr.End ∷ rest) before after
    (same_first (instr.Block actual) (opening opens ty) (body ++ instr.End ∷ rest) more (sym is ∙ e))
    (same_others (instr.Block actual) (opening opens ty) (body ++ instr.End ∷ rest) more (sym is ∙ e))
    (record {
      params = params;
      results = results;
      between = between;
      fits = fits;
      framed = framed;
      inside = record {
        body = body;
        tail = instr.End ∷ rest;
        end = set;
        is = refl;
        typed = inner;
        after = inl (record { more = rest; is = refl; may = tt; next = t });
      };
    })
encloses {context = context} {before = before} {after = after} opens ty more (loop {ty = actual} {body = body} {more = rest} params results
    {set = set} {between = between} is fits inner framed t) e =
    enclosed context kind.Loop opens actual ty more (body ++ instr.End ∷ rest) before after
    (same_first (instr.Loop actual) (opening opens ty) (body ++ instr.End ∷ rest) more (sym is ∙ e))
    (same_others (instr.Loop actual) (opening opens ty) (body ++ instr.End ∷ rest) more (sym is ∙ e))
    (record {
      params = params;
      results = results;
      between = between;
      fits = fits;
      framed = framed;
      inside = record {
        body = body;
        tail = instr.End ∷ rest;
        end = set;
        is = refl;
        typed = inner;
        after = inl (record { more = rest; is = refl; may = tt; next = t });
      };
    })
encloses {context = context} {before = before} {after = after} opens ty more
    (if_alone {ty = actual} {body = body} {more = rest} params results {set = set} {between = between} is fits inner same framed t) e =
    enclosed context kind.If opens actual ty more (body ++ instr.End ∷ rest) before after
    (same_first (instr.If actual) (opening opens ty) (body ++ instr.End ∷ rest) more (sym is ∙ e))
    (same_others (instr.If actual) (opening opens ty) (body ++ instr.End ∷ rest) more (sym is ∙ e))
    (record {
      params = params;
      results = results;
      between = between;
      fits = fits;
      framed = framed;
      inside = record {
        body = body;
        tail = instr.End ∷ rest;
        end = set;
        is = refl;
        typed = inner;
        after = inl (record { more = rest; is = refl; may = record { below = same.below; valid = same.valid }; next = t });
      };
    })
encloses {context = context} {before = before} {after = after} opens ty more
    (if_else {ty = actual} {body = body} {other = other} {more = rest} params results {set = set} {reset = reset} {between = between} is
    fits inner last framed t) e =
    enclosed context kind.If opens actual ty more (body ++ instr.Else ∷ (other ++ instr.End ∷ rest)) before after
    (same_first (instr.If actual) (opening opens ty) (body ++ instr.Else ∷ (other ++ instr.End ∷ rest)) more (sym is ∙ e))
    (same_others (instr.If actual) (opening opens ty) (body ++ instr.Else ∷ (other ++ instr.End ∷ rest)) more (sym is ∙ e))
    (record {
      params = params;
      results = results;
      between = between;
      fits = fits;
      framed = framed;
      inside = record {
        body = body;
        tail = instr.Else ∷ (other ++ instr.End ∷ rest);
        end = set;
        is = refl;
        typed = inner;
        after = inr (record { other = other; more = rest; end = reset; is = refl; first = tt; typed = last; next = t });
      };
    })
encloses opens ty more (try_table {ty = actual} {clauses = clauses} {body = body} {more = rest} params results is fits caught inner framed
    t) e =
    absurd (not_opening opens actual ty clauses (same_first (instr.TryTable actual clauses) (opening opens ty) (body ++ instr.End ∷ rest)
    more (sym is ∙ e)))

-- and the other way round
pub typed_from_encloses : (context : BodyContext) (opens : Kind) (ty : BlockType) (more : List Instr) (before after : Stacked)
    → Encloses context opens ty more before after
    → AreTyped context (opening opens ty ∷ more) before after
typed_from_encloses context kind.Block ty more before after e =
    elim e.inside.after [
      | inl x ↦ block e.params e.results (ap (λ xs. instr.Block ty ∷ xs) (e.inside.is ∙ ap (λ xs. e.inside.body ++ xs) x.is)) e.fits
          e.inside.typed e.framed x.next
      | inr x ↦ absurd x.first
    ]
typed_from_encloses context kind.Loop ty more before after e =
    elim e.inside.after [
      | inl x ↦ loop e.params e.results (ap (λ xs. instr.Loop ty ∷ xs) (e.inside.is ∙ ap (λ xs. e.inside.body ++ xs) x.is)) e.fits
          e.inside.typed e.framed x.next
      | inr x ↦ absurd x.first
    ]
typed_from_encloses context kind.If ty more before after e =
    elim e.inside.after [
      | inl x ↦ if_alone e.params e.results (ap (λ xs. instr.If ty ∷ xs) (e.inside.is ∙ ap (λ xs. e.inside.body ++ xs) x.is)) e.fits
          e.inside.typed
          (record { below = x.may.below; valid = x.may.valid }) e.framed x.next
      | inr x ↦ if_else e.params e.results (ap (λ xs. instr.If ty ∷ xs) (e.inside.is ∙ ap (λ xs. e.inside.body ++ xs) x.is)) e.fits
          e.inside.typed x.typed e.framed x.next
    ]
