-- Blocks that are opened and closed.
use Rattle.smith_check_body.proofs.Common.{[], All-nil, ap, append-nil, append_assoc, AreSlotsValid, AreTyped, below_themselves, block}
use Rattle.smith_check_body.proofs.Common.{BlockType, BodyContext, ClosesWith, Ends, EndsHere, false, Finishes, Frame, HasStackType, Held}
use Rattle.smith_check_body.proofs.Common.{held, holding, if_alone, if_else, inl, inr, Instr, IsBlockType, IsBodyTyped, IsFramed}
use Rattle.smith_check_body.proofs.Common.{IsSlotValid, IsStep, IsTail, Kind, label_by, label_of, labels_of, List, loop, nothing, Pushes}
use Rattle.smith_check_body.proofs.Common.{refl, Shape, Slot, Stacked, stacked, step, subst, sym, take, try_table, ValType, values}
use Rattle.smith_check_body.proofs.Common.{with_labels, ℕ, ◌++◌, ◌∙◌, ◌∷◌, ◌≡◌}
use Rattle.std.proofs.lemmas.Bool.{false≢true}
use Rattle.smith_types.specs.Syntax.composite_type.FuncType.{FuncType}
use Rattle.smith_check_operands.specs.declared.frame.Kind.TheVariants as kind
use Rattle.smith_instr.specs.declared.control.BlockType.TheVariants as block_type
use Rattle.smith_instr.specs.declared.instr.Instr.TheVariants as instr
use Rattle.smith_check_rules.specs.Slots.{AreBelow}
use Rattle.smith_check_rules.specs.Sequences.{CountsAs}
use Rattle.smith_check_operands.specs.Covers.{Covers, CoversGiven, Pops, Takes}
use Rattle.smith_check_operands.specs.Closes.{IsFirst, MayEnd, Resumes}
use Rattle.smith_check_body.specs.Opens.{opening, taken_by}
use Rattle.smith_check_body.proofs.PlainLemmas.{same_first, same_others, not_empty, head_of}
use Rattle.smith_check_body.proofs.ComposeLemmas.{closes_below}
use Rattle.smith_check_operands.proofs.LookupLemmas.{func_same}
use Rattle.smith_check_body.proofs.BlockLemmas.{Encloses, encloses, typed_from_encloses}

pub block_type_at : (context : BodyContext) (labels : List (List ValType)) (ty : BlockType) (params results : List ValType)
    → IsBlockType context ty params results → IsBlockType (with_labels context labels) ty params results
block_type_at context labels ty params results fits = fits

pub block_type_same : (context : BodyContext) (ty : BlockType) (params results others ends : List ValType)
    → IsBlockType context ty params results → IsBlockType context ty others ends → (params ≡ others) × (results ≡ ends)
block_type_same context block_type.Empty params results others ends (a, b) (c, d) = (a ∙ sym c, b ∙ sym d)
block_type_same context (block_type.Value value) params results others ends (v, a, b) (w, c, d) = (a ∙ sym c, b ∙ sym d)
block_type_same context (block_type.Func index) params results others ends (f, at, a, b) (g, there, c, d) =
    let same : f ≡ g = func_same context.types index f g at there in
    (a ∙ ap (λ (h : FuncType). h.params) same ∙ sym c, b ∙ ap (λ (h : FuncType). h.results) same ∙ sym d)

-- a block of these parameters and results
record EnclosesAs (context : BodyContext) (opens : Kind) (params results : List ValType) (more : List Instr) (before after : Stacked) : Type
    0 where
  between : Stacked
  framed : IsFramed context (values (taken_by opens params)) (values results) [] before between
  inside : ClosesWith (with_labels context (label_by opens params results ∷ context.labels)) results
      (Ends (with_labels context (label_by opens params results ∷ context.labels)) opens params results before.set
      (λ rest. AreTyped context rest between after)) (stacked (values params) before.set) more

encloses_as : (context : BodyContext) (opens : Kind) (ty : BlockType) (params results : List ValType) (more : List Instr)
    (before after : Stacked)
    → IsBlockType context ty params results → Encloses context opens ty more before after
    → EnclosesAs context opens params results more before after
encloses_as context opens ty params results more before after fits e =
    let (same, also) = block_type_same context ty e.params e.results params results e.fits fits in
    let first : EnclosesAs context opens e.params e.results more before after =
    record { between = e.between; framed = e.framed; inside = e.inside } in
    subst (λ rs. EnclosesAs context opens params rs more before after) also
    (subst (λ ps. EnclosesAs context opens ps e.results more before after) same first)

-- an instruction that closes a block or its first part
abbrev IsClosing : Instr → Type 0
IsClosing instr.End = Unit {0}
IsClosing instr.Else = Unit {0}
IsClosing _ = ⊥

abbrev IsEnd : Instr → Type 0
IsEnd instr.End = Unit {0}
IsEnd _ = ⊥

abbrev IsElse : Instr → Type 0
IsElse instr.Else = Unit {0}
IsElse _ = ⊥

nothing_at_end : (xs : List Instr) (y : Instr) (ys : List Instr) → [] ≡ xs ++ y ∷ ys → ⊥
nothing_at_end [] y ys e = not_empty y ys e
nothing_at_end (x ∷ xs) y ys e = not_empty x (xs ++ y ∷ ys) e

opening_closes_nothing : (opens : Kind) (ty : BlockType) (x : Instr) → x ≡ opening opens ty → IsClosing x → ⊥
opening_closes_nothing kind.Block ty x e c = subst (λ z. IsClosing z) e c
opening_closes_nothing kind.Loop ty x e c = subst (λ z. IsClosing z) e c
opening_closes_nothing kind.If ty x e c = subst (λ z. IsClosing z) e c

pub no_opening_tail : (context : BodyContext) (shape : Shape) (base : List ℕ) (outers : List Frame) (opens : Kind) (ty : BlockType)
    (xs tail : List Instr) → IsTail context shape base outers tail
    → tail ≡ opening opens ty ∷ xs → ⊥
no_opening_tail context shape base [] opens ty xs tail is e = not_empty (opening opens ty) xs (sym is ∙ e)
no_opening_tail context shape base (outer ∷ outers) opens ty xs tail (inl x) e =
    opening_closes_nothing opens ty instr.End (same_first instr.End (opening opens ty) x.more xs (sym x.is ∙ e)) tt
no_opening_tail context shape base (outer ∷ outers) opens ty xs tail (inr x) e =
    opening_closes_nothing opens ty instr.Else (same_first instr.Else (opening opens ty) (x.other ++ instr.End ∷ x.more) xs (sym x.is ∙ e))
    tt

-- a sequence doesn't begin with an instruction that closes
closing_step : (context : BodyContext) (x y : Instr) (before after : Stacked) → y ≡ x → IsClosing x → IsStep context y before after → ⊥
closing_step context instr.End y before after e c s = (subst (λ z. HasStackType context before.set z s.operands s.results) e s.typed).2
closing_step context instr.Else y before after e c s = (subst (λ z. HasStackType context before.set z s.operands s.results) e s.typed).2
closing_step context x y before after e c s = absurd c

closing_untyped : {context : BodyContext} {xs : List Instr} {before after : Stacked} (x : Instr) (more : List Instr) → IsClosing x
    → AreTyped context xs before after → xs ≡ x ∷ more → ⊥
closing_untyped x more c (nothing counts same) e = not_empty x more e
closing_untyped {context = context} {before = before} x more c (step {instruction = i} {more = rest} {between = between} s t) e =
    closing_step context x i before between (same_first i x rest more e) c s
closing_untyped x more c (block {ty = ty} {body = body} {more = rest} params results is fits inner framed t) e =
    subst (λ z. IsClosing z) (sym (same_first (instr.Block ty) x (body ++ instr.End ∷ rest) more (sym is ∙ e))) c
closing_untyped x more c (loop {ty = ty} {body = body} {more = rest} params results is fits inner framed t) e =
    subst (λ z. IsClosing z) (sym (same_first (instr.Loop ty) x (body ++ instr.End ∷ rest) more (sym is ∙ e))) c
closing_untyped x more c (if_alone {ty = ty} {body = body} {more = rest} params results is fits inner same framed t) e =
    subst (λ z. IsClosing z) (sym (same_first (instr.If ty) x (body ++ instr.End ∷ rest) more (sym is ∙ e))) c
closing_untyped x more c (if_else {ty = ty} {body = body} {other = other} {more = rest} params results is fits inner last framed t) e =
    subst (λ z. IsClosing z) (sym (same_first (instr.If ty) x (body ++ instr.Else ∷ (other ++ instr.End ∷ rest)) more (sym is ∙ e))) c
closing_untyped x more c (try_table {ty = ty} {clauses = clauses} {body = body} {more = rest} params results is fits caught inner framed t)
    e =
    subst (λ z. IsClosing z) (sym (same_first (instr.TryTable ty clauses) x (body ++ instr.End ∷ rest) more (sym is ∙ e))) c

-- an empty sequence leaves values that count as others
nothing_of : {context : BodyContext} {xs : List Instr} {before after : Stacked} → AreTyped context xs before after → xs ≡ []
    → CountsAs context before.stack after.stack
nothing_of (nothing counts same) e = counts
nothing_of (step {instruction = i} {more = rest} s t) e = absurd (not_empty i rest (sym e))
nothing_of (block {ty = ty} {body = body} {more = rest} params results is fits inner framed t) e = absurd (not_empty _ _ (sym e ∙ is))
nothing_of (loop {ty = ty} {body = body} {more = rest} params results is fits inner framed t) e = absurd (not_empty _ _ (sym e ∙ is))
nothing_of (if_alone {ty = ty} {body = body} {more = rest} params results is fits inner same framed t) e =
    absurd (not_empty _ _ (sym e ∙ is))
nothing_of (if_else {ty = ty} {body = body} {other = other} {more = rest} params results is fits inner last framed t) e =
    absurd (not_empty _ _ (sym e ∙ is))
nothing_of (try_table {ty = ty} {body = body} {more = rest} params results is fits caught inner framed t) e =
    absurd (not_empty _ _ (sym e ∙ is))

-- the parameters of a block, as what is known at its start
pub starting : (context : BodyContext) (params : List ValType) → AreSlotsValid context (values params)
    → Covers context (holding (values params) false) (values params)
starting context params valid = record {
  under = [];
  top = values params;
  is = refl;
  below = below_themselves context.types (values params);
  reached = inr refl;
  valid = valid;
}

counts_known : (context : BodyContext) (known stack : List Slot) → Covers context (holding known false) stack → CountsAs context known stack
counts_known context known stack c =
    elim c.reached [
      | inl dead ↦ absurd (false≢true dead)
      | inr none ↦ record {
        below = subst (λ xs. AreBelow context.types known xs) (sym (c.is ∙ ap (λ xs. xs ++ c.top) none)) c.below;
        valid = c.valid;
      }
    ]

-- a block is opened
pub opens_finish : (context : BodyContext) (outer : Frame) (outers : List Frame) (set base : List ℕ) (old : Held) (opens : Kind)
    (ty : BlockType) (params results : List ValType) (xs : List Instr)
    → IsBlockType context ty params results → AreSlotsValid context (values params) → Pops context (values (taken_by opens params)) old
    (held outer.operands) → take outer.height set ≡ base
    → Finishes context outer.shape old set base outers (opening opens ty ∷ xs)
    → Finishes context (record { kind = opens; params = params; results = results }) (holding (values params) false) set set
    (outer ∷ outers) xs
opens_finish context outer outers set base old opens ty params results xs fits valid pops same f =
    let inner : Shape = record { kind = opens; params = params; results = results } in
    let around = with_labels context (label_of outer.shape ∷ labels_of outers) in
    let within = with_labels context (label_of inner ∷ labels_of (outer ∷ outers)) in
    let c = f.closes in
    elim (head_of (opening opens ty) xs c.body c.tail c.is) [
      | inl at ↦ absurd (no_opening_tail context outer.shape base outers opens ty xs c.tail c.after at.1)
      | inr h ↦
          let after = stacked (values outer.shape.results) c.end in
          let e = encloses_as around opens ty params results h.more (stacked f.stack set) after
          (block_type_at context around.labels ty params results fits)
          (encloses opens ty h.more c.typed h.is) in
          let covered : CoversGiven context (values results) (held outer.operands) e.between.stack = record {
            rest = e.framed.rest;
            covered = pops.complete e.framed.rest f.stack f.covered
                (record { taken = e.framed.taken; is = e.framed.under; accepted = e.framed.accepted });
            gives = record {
              given = e.framed.given;
              is = e.framed.over;
              offered = record {
                below = e.framed.offered.below;
                valid = e.framed.offered.valid;
              };
            };
          } in
          let resumes : (more : List Instr) → AreTyped around more e.between after
          → Resumes context results (held outer.operands) (λ between rest. ClosesWith around outer.shape.results
          (IsTail context outer.shape (take outer.height set) outers) (stacked between set) rest) (more ++ c.tail) =
          λ more typed. record {
            between = e.between.stack;
            covered = covered;
            closes = record {
              body = more;
              tail = c.tail;
              end = c.end;
              is = refl;
              typed = subst (λ ys. AreTyped around more (stacked e.between.stack ys) after) (e.framed.set_then ∙ append-nil set) typed;
              after = subst (λ ys. IsTail context outer.shape ys outers c.tail) (sym same) c.after;
            };
          } in
          record {
            stack = values params;
            covered = starting context params valid;
            closes = record {
              body = e.inside.body;
              tail = e.inside.tail ++ c.tail;
              end = e.inside.end;
              is = h.rest ∙ ap (λ ys. ys ++ c.tail) e.inside.is ∙ append_assoc e.inside.body e.inside.tail c.tail;
              typed = e.inside.typed;
              after = elim e.inside.after [
                | inl x ↦ inl (record {
                  more = x.more ++ c.tail;
                  is = ap (λ ys. ys ++ c.tail) x.is;
                  may = x.may;
                  next = resumes x.more x.next;
                })
                | inr x ↦ inr (record {
                  other = x.other;
                  more = x.more ++ c.tail;
                  end = x.end;
                  is = ap (λ ys. ys ++ c.tail) x.is ∙ ap (λ ys. instr.Else ∷ ys) (append_assoc x.other (instr.End ∷ x.more) c.tail);
                  first = x.first;
                  typed = x.typed;
                  next = resumes x.more x.next;
                })
              ];
            };
          }
    ]

pub opens_begin : (context : BodyContext) (outer : Frame) (outers : List Frame) (set base : List ℕ) (old : Held) (opens : Kind)
    (ty : BlockType) (params results : List ValType) (xs : List Instr)
    → IsBlockType context ty params results → Pops context (values (taken_by opens params)) old (held outer.operands)
    → take outer.height set ≡ base
    → Finishes context (record { kind = opens; params = params; results = results }) (holding (values params) false) set set
    (outer ∷ outers) xs
    → Finishes context outer.shape old set base outers (opening opens ty ∷ xs)
opens_begin context outer outers set base old opens ty params results xs fits pops same f =
    let inner : Shape = record { kind = opens; params = params; results = results } in
    let around = with_labels context (label_of outer.shape ∷ labels_of outers) in
    let within = with_labels context (label_of inner ∷ labels_of (outer ∷ outers)) in
    let counts = counts_known context (values params) f.stack f.covered in
    let c : ClosesWith within results (IsTail context inner set (outer ∷ outers)) (stacked (values params) set) xs =
    closes_below within results (IsTail context inner set (outer ∷ outers)) (values params) (stacked f.stack set) xs
    (record { below = counts.below; valid = counts.valid }) f.closes in
    let resumed : (rest : List Instr) (body more : List Instr)
    (r : Resumes context results (held outer.operands) (λ between rest. ClosesWith around outer.shape.results
    (IsTail context outer.shape (take outer.height set) outers) (stacked between set) rest) more)
    → xs ≡ (body ++ r.closes.body) ++ r.closes.tail
    → ClosesWith within results (Ends within opens params results set
    (λ rest. AreTyped around rest (stacked r.between set) (stacked (values outer.shape.results) r.closes.end)))
    (stacked (values params) set) (body ++ r.closes.body)
    → Finishes context outer.shape old set base outers (opening opens ty ∷ xs) =
    λ rest body more r is inside.
    let t = pops.sound r.covered.rest r.covered.covered in
    record {
      stack = t.before;
      covered = t.covered;
      closes = record {
        body = opening opens ty ∷ (body ++ r.closes.body);
        tail = r.closes.tail;
        end = r.closes.end;
        is = ap (λ ys. opening opens ty ∷ ys) is;
        typed = typed_from_encloses around opens ty (body ++ r.closes.body) (stacked t.before set)
            (stacked (values outer.shape.results) r.closes.end) (record {
              params = params;
              results = results;
              between = stacked r.between set;
              fits = block_type_at context around.labels ty params results fits;
              framed = record {
                rest = r.covered.rest;
                taken = t.takes.taken;
                given = r.covered.gives.given;
                under = t.takes.is;
                accepted = t.takes.accepted;
                offered = record { below = r.covered.gives.offered.below; valid = r.covered.gives.offered.valid };
                over = r.covered.gives.is;
                set_then = sym (append-nil set);
              };
              inside = inside;
            });
        after = subst (λ ys. IsTail context outer.shape ys outers r.closes.tail) same r.closes.after;
      };
    } in
    elim c.after [
      | inl x ↦
          let r = x.next in
          resumed xs (c.body ++ instr.End ∷ []) x.more r
          (c.is ∙ ap (λ ys. c.body ++ ys) (x.is ∙ ap (λ ys. instr.End ∷ ys) r.closes.is)
          ∙ sym (append_assoc c.body (instr.End ∷ r.closes.body) r.closes.tail)
          ∙ ap (λ ys. ys ++ r.closes.tail) (sym (append_assoc c.body (instr.End ∷ []) r.closes.body)))
          (record {
            body = c.body;
            tail = instr.End ∷ r.closes.body;
            end = c.end;
            is = append_assoc c.body (instr.End ∷ []) r.closes.body;
            typed = c.typed;
            after = inl (record { more = r.closes.body; is = refl; may = x.may; next = r.closes.typed });
          })
      | inr x ↦
          let r = x.next in
          let middle = instr.Else ∷ (x.other ++ instr.End ∷ []) in
          let joined : middle ++ r.closes.body ≡ instr.Else ∷ (x.other ++ instr.End ∷ r.closes.body) =
          ap (λ ys. instr.Else ∷ ys) (append_assoc x.other (instr.End ∷ []) r.closes.body) in
          resumed xs (c.body ++ middle) x.more r
          (c.is ∙ ap (λ ys. c.body ++ ys) (x.is ∙ ap (λ ys. instr.Else ∷ (x.other ++ instr.End ∷ ys)) r.closes.is
          ∙ ap (λ ys. instr.Else ∷ ys) (sym (append_assoc x.other (instr.End ∷ r.closes.body) r.closes.tail))
          ∙ ap (λ ys. ys ++ r.closes.tail) (sym joined))
          ∙ sym (append_assoc c.body (middle ++ r.closes.body) r.closes.tail)
          ∙ ap (λ ys. ys ++ r.closes.tail) (sym (append_assoc c.body middle r.closes.body)))
          (record {
            body = c.body;
            tail = instr.Else ∷ (x.other ++ instr.End ∷ r.closes.body);
            end = c.end;
            is = append_assoc c.body middle r.closes.body ∙ ap (λ ys. c.body ++ ys) joined;
            typed = c.typed;
            after = inr (record {
              other = x.other;
              more = r.closes.body;
              end = x.end;
              is = refl;
              first = x.first;
              typed = x.typed;
              next = r.closes.typed;
            });
          })
    ]

-- what the end of a block requires
pub end_finish : (context : BodyContext) (shape : Shape) (outer : Frame) (outers : List Frame) (old new : Held) (set base : List ℕ)
    (xs : List Instr)
    → Pushes context (values shape.results) (held outer.operands) new → Finishes context shape old set base (outer ∷ outers)
    (instr.End ∷ xs)
    → EndsHere context shape.results old × MayEnd (with_labels context (label_of shape ∷ labels_of (outer ∷ outers))) shape.kind
    shape.params shape.results
    × Finishes context outer.shape new base (take outer.height base) outers xs
end_finish context shape outer outers old new set base xs pushes f =
    let c = f.closes in
    elim (head_of instr.End xs c.body c.tail c.is) [
      | inr h ↦ absurd (closing_untyped instr.End h.more tt c.typed h.is)
      | inl at ↦
          elim c.after [
            | inr x ↦ absurd (subst (λ z. IsElse z) (same_first instr.Else instr.End (x.other ++ instr.End ∷ x.more) xs (sym x.is ∙ at.1))
                tt)
            | inl x ↦
                let counts = nothing_of c.typed at.0 in
                let r = x.next in
                let same : x.more ≡ xs = same_others instr.End instr.End x.more xs (sym x.is ∙ at.1) in (
                  record { stack = f.stack; covered = f.covered; counts = record { below = counts.below; valid = counts.valid } },
                  x.may,
                  record {
                    stack = r.between;
                    covered = pushes.complete r.between r.covered.rest r.covered.covered r.covered.gives;
                    closes = subst (λ ys. ClosesWith (with_labels context (label_of outer.shape ∷ labels_of outers)) outer.shape.results
                        (IsTail context outer.shape (take outer.height base) outers)
                        (stacked r.between base) ys) same r.closes;
                  },
                )
          ]
    ]

pub end_begin : (context : BodyContext) (shape : Shape) (outer : Frame) (outers : List Frame) (old new : Held) (set base : List ℕ)
    (xs : List Instr)
    → Pushes context (values shape.results) (held outer.operands) new → EndsHere context shape.results old
    → MayEnd (with_labels context (label_of shape ∷ labels_of (outer ∷ outers))) shape.kind shape.params shape.results
    → Finishes context outer.shape new base (take outer.height base) outers xs → Finishes context shape old set base (outer ∷ outers)
    (instr.End ∷ xs)
end_begin context shape outer outers old new set base xs pushes ends may f = record {
  stack = ends.stack;
  covered = ends.covered;
  closes = record {
    body = [];
    tail = instr.End ∷ xs;
    end = set;
    is = refl;
    typed = nothing (record { below = ends.counts.below; valid = ends.counts.valid }) refl;
    after = inl (record {
      more = xs;
      is = refl;
      may = may;
      next = record { between = f.stack; covered = pushes.sound f.stack f.covered; closes = f.closes };
    });
  };
}

-- the second part of an if begins
pub else_finish : (context : BodyContext) (shape : Shape) (outer : Frame) (outers : List Frame) (old : Held) (set base : List ℕ)
    (xs : List Instr)
    → Finishes context shape old set base (outer ∷ outers) (instr.Else ∷ xs) → EndsHere context shape.results old × IsFirst shape.kind
else_finish context shape outer outers old set base xs f =
    let c = f.closes in
    elim (head_of instr.Else xs c.body c.tail c.is) [
      | inr h ↦ absurd (closing_untyped instr.Else h.more tt c.typed h.is)
      | inl at ↦
          elim c.after [
            | inl x ↦ absurd (subst (λ z. IsEnd z) (same_first instr.End instr.Else x.more xs (sym x.is ∙ at.1)) tt)
            | inr x ↦
                let counts = nothing_of c.typed at.0 in
                (record { stack = f.stack; covered = f.covered; counts = record { below = counts.below; valid = counts.valid } }, x.first)
          ]
    ]

pub else_goes_on : (context : BodyContext) (params results : List ValType) (outer : Frame) (outers : List Frame) (old : Held)
    (set base : List ℕ) (xs : List Instr)
    → AreSlotsValid context (values params)
    → Finishes context (record { kind = kind.If; params = params; results = results }) old set base (outer ∷ outers) (instr.Else ∷ xs)
    → Finishes context (record { kind = kind.Block; params = params; results = results }) (holding (values params) false) base base
    (outer ∷ outers) xs
else_goes_on context params results outer outers old set base xs valid f =
    let c = f.closes in
    let second : Shape = record { kind = kind.Block; params = params; results = results } in
    let within = with_labels context (results ∷ labels_of (outer ∷ outers)) in
    elim (head_of instr.Else xs c.body c.tail c.is) [
      | inr h ↦ absurd (closing_untyped instr.Else h.more tt c.typed h.is)
      | inl at ↦
          elim c.after [
            | inl x ↦ absurd (subst (λ z. IsEnd z) (same_first instr.End instr.Else x.more xs (sym x.is ∙ at.1)) tt)
            | inr x ↦
                let same : x.other ++ instr.End ∷ x.more ≡ xs = same_others instr.Else instr.Else (x.other ++ instr.End ∷ x.more) xs
                (sym x.is ∙ at.1) in
                record {
                  stack = values params;
                  covered = starting context params valid;
                  closes = record {
                    body = x.other;
                    tail = instr.End ∷ x.more;
                    end = x.end;
                    is = sym same;
                    typed = x.typed;
                    after = inl (record { more = x.more; is = refl; may = tt; next = x.next });
                  };
                }
          ]
    ]

pub else_begin : (context : BodyContext) (params results : List ValType) (outer : Frame) (outers : List Frame) (old : Held)
    (set base : List ℕ) (xs : List Instr)
    → EndsHere context results old
    → Finishes context (record { kind = kind.Block; params = params; results = results }) (holding (values params) false) base base
    (outer ∷ outers) xs
    → Finishes context (record { kind = kind.If; params = params; results = results }) old set base (outer ∷ outers) (instr.Else ∷ xs)
else_begin context params results outer outers old set base xs ends f =
    let second : Shape = record { kind = kind.Block; params = params; results = results } in
    let within = with_labels context (results ∷ labels_of (outer ∷ outers)) in
    let counts = counts_known context (values params) f.stack f.covered in
    let c : ClosesWith within results (IsTail context second base (outer ∷ outers)) (stacked (values params) base) xs =
    closes_below within results (IsTail context second base (outer ∷ outers)) (values params) (stacked f.stack base) xs
    (record { below = counts.below; valid = counts.valid }) f.closes in
    elim c.after [
      | inr x ↦ absurd x.first
      | inl x ↦ record {
        stack = ends.stack;
        covered = ends.covered;
        closes = record {
          body = [];
          tail = instr.Else ∷ xs;
          end = set;
          is = refl;
          typed = nothing (record { below = ends.counts.below; valid = ends.counts.valid }) refl;
          after = inr (record {
            other = c.body;
            more = x.more;
            end = c.end;
            is = ap (λ ys. instr.Else ∷ ys) (c.is ∙ ap (λ ys. c.body ++ ys) x.is);
            first = tt;
            typed = c.typed;
            next = x.next;
          });
        };
      }
    ]

-- a body begins
pub body_finishes : (context : BodyContext) (xs : List Instr) → IsBodyTyped context xs
    → Finishes context (record { kind = kind.Block; params = []; results = context.results }) (holding [] false) [] [] [] xs
body_finishes context xs b = record {
  stack = [];
  covered = record { under = []; top = []; is = refl; below = tt; reached = inr refl; valid = All-nil (IsSlotValid context) };
  closes = record { body = xs; tail = []; end = b.set; is = sym (append-nil xs); typed = b.typed; after = refl };
}

pub finished_body : (context : BodyContext) (xs : List Instr)
    → Finishes context (record { kind = kind.Block; params = []; results = context.results }) (holding [] false) [] [] [] xs
    → IsBodyTyped context xs
finished_body context xs f =
    let within = with_labels context (context.results ∷ []) in
    let shape : Shape = record { kind = kind.Block; params = []; results = context.results } in
    let counts = counts_known context [] f.stack f.covered in
    let c = closes_below within context.results (IsTail context shape [] []) [] (stacked f.stack []) xs
    (record { below = counts.below; valid = counts.valid }) f.closes in
    record {
      set = c.end;
      typed = subst (λ ys. AreTyped within ys (stacked [] []) (stacked (values context.results) c.end))
          (sym (c.is ∙ ap (λ ys. c.body ++ ys) c.after ∙ append-nil c.body)) c.typed;
    }

-- a body ends
pub last_finish : (context : BodyContext) (shape : Shape) (old : Held) (set base : List ℕ) → Finishes context shape old set base [] []
    → EndsHere context shape.results old
last_finish context shape old set base f =
    let c = f.closes in
    let none : c.body ≡ [] = sym (c.is ∙ ap (λ ys. c.body ++ ys) c.after ∙ append-nil c.body) in
    let counts = nothing_of c.typed none in
    record { stack = f.stack; covered = f.covered; counts = record { below = counts.below; valid = counts.valid } }

pub last_begin : (context : BodyContext) (shape : Shape) (old : Held) (set base : List ℕ) → EndsHere context shape.results old
    → Finishes context shape old set base [] []
last_begin context shape old set base ends = record {
  stack = ends.stack;
  covered = ends.covered;
  closes = record {
    body = [];
    tail = [];
    end = set;
    is = refl;
    typed = nothing (record { below = ends.counts.below; valid = ends.counts.valid }) refl;
    after = refl;
  };
}

-- open blocks are not closed by nothing
pub open_unfinished : (context : BodyContext) (shape : Shape) (outer : Frame) (outers : List Frame) (old : Held) (set base : List ℕ)
    → Finishes context shape old set base (outer ∷ outers) [] → ⊥
open_unfinished context shape outer outers old set base f =
    let c = f.closes in
    elim c.after [
      | inl x ↦ nothing_at_end c.body instr.End x.more (c.is ∙ ap (λ ys. c.body ++ ys) x.is)
      | inr x ↦ nothing_at_end c.body instr.Else (x.other ++ instr.End ∷ x.more) (c.is ∙ ap (λ ys. c.body ++ ys) x.is)
    ]

-- a block that is opened has a type, and its operands
pub record OpensBy (context : BodyContext) (old : Held) (opens : Kind) (ty : BlockType) : Type 0 where
  pub params : List ValType
  pub results : List ValType
  pub fits : IsBlockType context ty params results
  pub rest : List Slot
  pub before : List Slot
  pub covered : Covers context old before
  pub takes : Takes context (values (taken_by opens params)) rest before

pub opens_by : (context : BodyContext) (shape : Shape) (outers : List Frame) (set base : List ℕ) (old : Held) (opens : Kind)
    (ty : BlockType) (xs : List Instr)
    → Finishes context shape old set base outers (opening opens ty ∷ xs) → OpensBy context old opens ty
opens_by context shape outers set base old opens ty xs f =
    let around = with_labels context (label_of shape ∷ labels_of outers) in
    let c = f.closes in
    elim (head_of (opening opens ty) xs c.body c.tail c.is) [
      | inl at ↦ absurd (no_opening_tail context shape base outers opens ty xs c.tail c.after at.1)
      | inr h ↦
          let e = encloses opens ty h.more c.typed h.is in
          record {
            params = e.params;
            results = e.results;
            fits = block_type_at around context.labels ty e.params e.results e.fits;
            rest = e.framed.rest;
            before = f.stack;
            covered = f.covered;
            takes = record { taken = e.framed.taken; is = e.framed.under; accepted = e.framed.accepted };
          }
    ]

pub may_end_at : (context : BodyContext) (labels : List (List ValType)) (k : Kind) (params results : List ValType)
    → MayEnd context k params results → MayEnd (with_labels context labels) k params results
may_end_at context labels kind.If params results may = record { below = may.below; valid = may.valid }
may_end_at context labels kind.Block params results may = tt
may_end_at context labels kind.Loop params results may = tt

pub may_end_from : (context : BodyContext) (labels : List (List ValType)) (k : Kind) (params results : List ValType)
    → MayEnd (with_labels context labels) k params results → MayEnd context k params results
may_end_from context labels kind.If params results may = record { below = may.below; valid = may.valid }
may_end_from context labels kind.Block params results may = tt
may_end_from context labels kind.Loop params results may = tt

-- what an end requires
pub record EndsBy (context : BodyContext) (shape : Shape) (old : Held) (outers : List Frame) : Type 0 where
  pub outer : Frame
  pub others : List Frame
  pub is : outers ≡ outer ∷ others
  pub ends : EndsHere context shape.results old
  pub may : MayEnd context shape.kind shape.params shape.results

pub ends_by : (context : BodyContext) (shape : Shape) (outers : List Frame) (old : Held) (set base : List ℕ) (xs : List Instr)
    → Finishes context shape old set base outers (instr.End ∷ xs) → EndsBy context shape old outers
ends_by context shape [] old set base xs f =
    let c = f.closes in
    elim (head_of instr.End xs c.body c.tail c.is) [
      | inr h ↦ absurd (closing_untyped instr.End h.more tt c.typed h.is)
      | inl at ↦ absurd (not_empty instr.End xs (sym c.after ∙ at.1))
    ]
ends_by context shape (outer ∷ outers) old set base xs f =
    let c = f.closes in
    elim (head_of instr.End xs c.body c.tail c.is) [
      | inr h ↦ absurd (closing_untyped instr.End h.more tt c.typed h.is)
      | inl at ↦
          elim c.after [
            | inr x ↦ absurd (subst (λ z. IsElse z) (same_first instr.Else instr.End (x.other ++ instr.End ∷ x.more) xs (sym x.is ∙ at.1))
                tt)
            | inl x ↦
                let counts = nothing_of c.typed at.0 in
                record {
                  outer = outer;
                  others = outers;
                  is = refl;
                  ends = record { stack = f.stack; covered = f.covered; counts = record { below = counts.below; valid = counts.valid } };
                  may = may_end_from context (label_of shape ∷ labels_of (outer ∷ outers)) shape.kind shape.params shape.results x.may;
                }
          ]
    ]

pub no_else_outside : (context : BodyContext) (shape : Shape) (old : Held) (set base : List ℕ) (xs : List Instr)
    → Finishes context shape old set base [] (instr.Else ∷ xs) → ⊥
no_else_outside context shape old set base xs f =
    let c = f.closes in
    elim (head_of instr.Else xs c.body c.tail c.is) [
      | inr h ↦ closing_untyped instr.Else h.more tt c.typed h.is
      | inl at ↦ not_empty instr.Else xs (sym c.after ∙ at.1)
    ]

-- what an else requires
pub else_by : (context : BodyContext) (shape : Shape) (outers : List Frame) (old : Held) (set base : List ℕ) (xs : List Instr)
    → Finishes context shape old set base outers (instr.Else ∷ xs) → EndsHere context shape.results old × IsFirst shape.kind
else_by context shape [] old set base xs f = absurd (no_else_outside context shape old set base xs f)
else_by context shape (outer ∷ outers) old set base xs f = else_finish context shape outer outers old set base xs f
