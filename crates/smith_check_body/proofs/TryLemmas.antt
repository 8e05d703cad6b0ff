-- Blocks with clauses for exceptions: as blocks, where the labels take what the clauses pass.
use Rattle.smith_check_body.proofs.Common.{[], All, ap, AreTyped, block, BlockType, BodyContext, Bool, false, Finishes, Frame, HasStackType}
use Rattle.smith_check_body.proofs.Common.{Held, if_alone, if_else, inl, inr, Instr, IsBlockType, IsStep, IsTail, label_of, labels_of, List}
use Rattle.smith_check_body.proofs.Common.{loop, MatchBool, nothing, reverse, Shape, Stacked, step, subst, sym, true, try_table}
use Rattle.smith_check_body.proofs.Common.{with_labels, ℕ, ◌++◌, ◌∙◌, ◌∷◌, ◌≡◌}
use Rattle.std.proofs.Common.{IsTrue, ◌↔◌}
use Rattle.std.specs.Prelude.{Err, IfOk, Ok, Result}
use Rattle.std.proofs.lemmas.Bool.{false≢true}
use Rattle.smith_bytes.specs.declared.error.Error.{Error}
use Rattle.smith_instr.specs.InstrTypes.{IsCatch}
use Rattle.smith_instr.specs.declared.control.Catch.{Catch}
use Rattle.smith_instr.specs.declared.instr.Instr.TheVariants as instr
use Rattle.smith_check_operands.specs.declared.frame.Kind.TheVariants as kind
use Rattle.smith_check_body.specs.Checks.{Goes, Stops}
use Rattle.smith_check_body.specs.declared.checker.Checker.{Checker}
use Rattle.smith_check_body.proofs.FrameLemmas.{no_opening_tail}
use Rattle.smith_check_body.proofs.PlainLemmas.{same_first, same_others, not_empty, head_of}

abbrev IsTry : Instr → Type 0
IsTry (instr.TryTable ty clauses) = Unit {0}
IsTry _ = ⊥

abbrev IsPlainBlock : Instr → Type 0
IsPlainBlock (instr.Block ty) = Unit {0}
IsPlainBlock _ = ⊥

abbrev type_of : BlockType → Instr → BlockType
type_of d (instr.Block ty) = ty
type_of d (instr.TryTable ty clauses) = ty
type_of d _ = d

abbrev clauses_of : Instr → List Catch
clauses_of (instr.TryTable ty clauses) = clauses
clauses_of _ = []

not_try : (x : Instr) (ty : BlockType) (clauses : List Catch) → x ≡ instr.TryTable ty clauses → (IsTry x → ⊥) → ⊥
not_try x ty clauses e never = never (subst (λ z. IsTry z) (sym e) tt)

not_block : (x : Instr) (ty : BlockType) → x ≡ instr.Block ty → (IsPlainBlock x → ⊥) → ⊥
not_block x ty e never = never (subst (λ z. IsPlainBlock z) (sym e) tt)

try_not_step : (context : BodyContext) (x : Instr) (ty : BlockType) (clauses : List Catch) (before after : Stacked)
    → x ≡ instr.TryTable ty clauses → IsStep context x before after → ⊥
try_not_step context x ty clauses before after e s =
    (subst (λ z. HasStackType context before.set z s.operands s.results) e s.typed).2

block_not_step : (context : BodyContext) (x : Instr) (ty : BlockType) (before after : Stacked) → x ≡ instr.Block ty
    → IsStep context x before after → ⊥
block_not_step context x ty before after e s = (subst (λ z. HasStackType context before.set z s.operands s.results) e s.typed).2

-- a block with clauses is typed as a block, and its clauses are caught
try_as_block : {context : BodyContext} {xs : List Instr} {before after : Stacked} (ty : BlockType) (clauses : List Catch)
    (more : List Instr) → AreTyped context xs before after → xs ≡ instr.TryTable ty clauses ∷ more
    → AreTyped context (instr.Block ty ∷ more) before after × All (IsCatch context) clauses
try_as_block ty clauses more (nothing counts same) e = absurd (not_empty (instr.TryTable ty clauses) more e)
try_as_block {context = context} {before = before} ty clauses more (step {instruction = i} {more = rest} {between = between} s t) e =
    absurd (try_not_step context i ty clauses before between (same_first i (instr.TryTable ty clauses) rest more e) s)
try_as_block ty clauses more (block {ty = actual} {body = body} {more = rest} params results is fits inner framed t) e =
    absurd (not_try (instr.Block actual) ty clauses
    (same_first (instr.Block actual) (instr.TryTable ty clauses) (body ++ instr.End ∷ rest) more (sym is ∙ e)) (λ h. h))
try_as_block ty clauses more (loop {ty = actual} {body = body} {more = rest} params results is fits inner framed t) e =
    absurd (not_try (instr.Loop actual) ty clauses
    (same_first (instr.Loop actual) (instr.TryTable ty clauses) (body ++ instr.End ∷ rest) more (sym is ∙ e)) (λ h. h))
try_as_block ty clauses more (if_alone {ty = actual} {body = body} {more = rest} params results is fits inner same framed t) e =
    absurd (not_try (instr.If actual) ty clauses
    (same_first (instr.If actual) (instr.TryTable ty clauses) (body ++ instr.End ∷ rest) more (sym is ∙ e)) (λ h. h))
try_as_block ty clauses more (if_else {ty = actual} {body = body} {other = other} {more = rest} params results is fits inner last framed t)
    e =
    absurd (not_try (instr.If actual) ty clauses
    (same_first (instr.If actual) (instr.TryTable ty clauses) (body ++ instr.Else ∷ (other ++ instr.End ∷ rest)) more (sym is ∙ e))
    (λ h. h))
try_as_block {context = context} ty clauses more (try_table {ty = actual} {clauses = others} {body = body} {more = rest} params results is
    fits caught inner framed t) e =
    let first : instr.TryTable actual others ≡ instr.TryTable ty clauses =
    same_first (instr.TryTable actual others) (instr.TryTable ty clauses) (body ++ instr.End ∷ rest) more (sym is ∙ e) in
    let same : body ++ instr.End ∷ rest ≡ more =
    same_others (instr.TryTable actual others) (instr.TryTable ty clauses) (body ++ instr.End ∷ rest) more (sym is ∙ e) in (
      block params results (ap (λ ys. instr.Block ty ∷ ys) (sym same))
          (subst (λ b. IsBlockType context b params results) (ap (λ z. type_of ty z) first) fits) inner framed t,
      subst (λ cs. All (IsCatch context) cs) (ap (λ z. clauses_of z) first) caught,
    )

-- and the other way round
block_as_try : {context : BodyContext} {xs : List Instr} {before after : Stacked} (ty : BlockType) (clauses : List Catch)
    (more : List Instr) → AreTyped context xs before after → xs ≡ instr.Block ty ∷ more → All (IsCatch context) clauses
    → AreTyped context (instr.TryTable ty clauses ∷ more) before after
block_as_try ty clauses more (nothing counts same) e caught = absurd (not_empty (instr.Block ty) more e)
block_as_try {context = context} {before = before} ty clauses more (step {instruction = i} {more = rest} {between = between} s t) e caught =
    absurd (block_not_step context i ty before between (same_first i (instr.Block ty) rest more e) s)
block_as_try {context = context} ty clauses more (block {ty = actual} {body = body} {more = rest} params results is fits inner framed t) e
    caught =
    let first : instr.Block actual ≡ instr.Block ty =
    same_first (instr.Block actual) (instr.Block ty) (body ++ instr.End ∷ rest) more (sym is ∙ e) in
    let same : body ++ instr.End ∷ rest ≡ more =
    same_others (instr.Block actual) (instr.Block ty) (body ++ instr.End ∷ rest) more (sym is ∙ e) in
    try_table params results (ap (λ ys. instr.TryTable ty clauses ∷ ys) (sym same))
    (subst (λ b. IsBlockType context b params results) (ap (λ z. type_of ty z) first) fits) caught inner framed t
block_as_try ty clauses more (loop {ty = actual} {body = body} {more = rest} params results is fits inner framed t) e caught =
    absurd (not_block (instr.Loop actual) ty
    (same_first (instr.Loop actual) (instr.Block ty) (body ++ instr.End ∷ rest) more (sym is ∙ e)) (λ h. h))
block_as_try ty clauses more (if_alone {ty = actual} {body = body} {more = rest} params results is fits inner same framed t) e caught =
    absurd (not_block (instr.If actual) ty
    (same_first (instr.If actual) (instr.Block ty) (body ++ instr.End ∷ rest) more (sym is ∙ e)) (λ h. h))
block_as_try ty clauses more (if_else {ty = actual} {body = body} {other = other} {more = rest} params results is fits inner last framed t)
    e caught =
    absurd (not_block (instr.If actual) ty
    (same_first (instr.If actual) (instr.Block ty) (body ++ instr.Else ∷ (other ++ instr.End ∷ rest)) more (sym is ∙ e)) (λ h. h))
block_as_try ty clauses more (try_table {ty = actual} {clauses = others} {body = body} {more = rest} params results is fits given inner
    framed t) e caught =
    absurd (not_block (instr.TryTable actual others) ty
    (same_first (instr.TryTable actual others) (instr.Block ty) (body ++ instr.End ∷ rest) more (sym is ∙ e)) (λ h. h))

-- what closes blocks begins with no block
no_try_tail : (context : BodyContext) (shape : Shape) (base : List ℕ) (outers : List Frame) (ty : BlockType) (clauses : List Catch)
    (xs tail : List Instr) → IsTail context shape base outers tail → tail ≡ instr.TryTable ty clauses ∷ xs → ⊥
no_try_tail context shape base [] ty clauses xs tail is e = not_empty (instr.TryTable ty clauses) xs (sym is ∙ e)
no_try_tail context shape base (outer ∷ outers) ty clauses xs tail (inl x) e =
    not_try instr.End ty clauses (same_first instr.End (instr.TryTable ty clauses) x.more xs (sym x.is ∙ e)) (λ h. h)
no_try_tail context shape base (outer ∷ outers) ty clauses xs tail (inr x) e =
    not_try instr.Else ty clauses
    (same_first instr.Else (instr.TryTable ty clauses) (x.other ++ instr.End ∷ x.more) xs (sym x.is ∙ e)) (λ h. h)

-- what finishes with a block with clauses finishes with the block
tries_finish : (context : BodyContext) (shape : Shape) (outers : List Frame) (old : Held) (set base : List ℕ) (ty : BlockType)
    (clauses : List Catch) (xs : List Instr) → Finishes context shape old set base outers (instr.TryTable ty clauses ∷ xs)
    → Finishes context shape old set base outers (instr.Block ty ∷ xs)
    × All (IsCatch (with_labels context (label_of shape ∷ labels_of outers))) clauses
tries_finish context shape outers old set base ty clauses xs f =
    let c = f.closes in
    elim (head_of (instr.TryTable ty clauses) xs c.body c.tail c.is) [
      | inl at ↦ absurd (no_try_tail context shape base outers ty clauses xs c.tail c.after at.1)
      | inr h ↦
          let (typed, caught) = try_as_block ty clauses h.more c.typed h.is in (
            record {
              stack = f.stack;
              covered = f.covered;
              closes = record {
                body = instr.Block ty ∷ h.more;
                tail = c.tail;
                end = c.end;
                is = ap (λ ys. instr.Block ty ∷ ys) h.rest;
                typed = typed;
                after = c.after;
              };
            },
            caught,
          )
    ]

tries_begin : (context : BodyContext) (shape : Shape) (outers : List Frame) (old : Held) (set base : List ℕ) (ty : BlockType)
    (clauses : List Catch) (xs : List Instr) → All (IsCatch (with_labels context (label_of shape ∷ labels_of outers))) clauses
    → Finishes context shape old set base outers (instr.Block ty ∷ xs)
    → Finishes context shape old set base outers (instr.TryTable ty clauses ∷ xs)
tries_begin context shape outers old set base ty clauses xs caught f =
    let c = f.closes in
    elim (head_of (instr.Block ty) xs c.body c.tail c.is) [
      | inl at ↦ absurd (no_opening_tail context shape base outers kind.Block ty xs c.tail c.after at.1)
      | inr h ↦ record {
        stack = f.stack;
        covered = f.covered;
        closes = record {
          body = instr.TryTable ty clauses ∷ h.more;
          tail = c.tail;
          end = c.end;
          is = ap (λ ys. instr.TryTable ty clauses ∷ ys) h.rest;
          typed = block_as_try ty clauses h.more c.typed h.is caught;
          after = c.after;
        };
      }
    ]

try_goes : (context : BodyContext) (ty : BlockType) (clauses : List Catch) (old new : Checker)
    → All (IsCatch (with_labels context (label_of old.shape ∷ labels_of (reverse old.outers.items)))) clauses
    → Goes context (instr.Block ty) old new → Goes context (instr.TryTable ty clauses) old new
try_goes context ty clauses old new caught g = record {
  complete = λ rest f. g.complete rest (tries_finish context old.shape (reverse old.outers.items) _ old.log.items _ ty clauses rest f).0;
  sound = λ rest f. tries_begin context old.shape (reverse old.outers.items) _ old.log.items _ ty clauses rest caught (g.sound rest f);
  well = g.well;
}

try_stops : (context : BodyContext) (ty : BlockType) (clauses : List Catch) (old : Checker) → Stops context (instr.Block ty) old
    → Stops context (instr.TryTable ty clauses) old
try_stops context ty clauses old stops rest f =
    stops rest (tries_finish context old.shape (reverse old.outers.items) _ old.log.items _ ty clauses rest f).0

try_uncaught : (context : BodyContext) (ty : BlockType) (clauses : List Catch) (old : Checker)
    → (All (IsCatch (with_labels context (label_of old.shape ∷ labels_of (reverse old.outers.items)))) clauses → ⊥)
    → Stops context (instr.TryTable ty clauses) old
try_uncaught context ty clauses old never rest f =
    never (tries_finish context old.shape (reverse old.outers.items) _ old.log.items _ ty clauses rest f).1

-- what the test of the clauses says, with the open blocks as they are read
caught_at : (context : BodyContext) (clauses : List Catch) (old : Checker) (frames : List Frame) (b : Bool) → frames ≡ old.outers.items
    → IsTrue b ↔ All (IsCatch (with_labels context (label_of old.shape ∷ labels_of (reverse frames)))) clauses
    → IsTrue b ↔ All (IsCatch (with_labels context (label_of old.shape ∷ labels_of (reverse old.outers.items)))) clauses
caught_at context clauses old frames b same test =
    subst (λ fs. IsTrue b ↔ All (IsCatch (with_labels context (label_of old.shape ∷ labels_of (reverse fs)))) clauses) same test

pub try_uncaught_at : (context : BodyContext) (ty : BlockType) (clauses : List Catch) (old : Checker) (frames : List Frame) (b : Bool)
    → frames ≡ old.outers.items → b ≡ false
    → IsTrue b ↔ All (IsCatch (with_labels context (label_of old.shape ∷ labels_of (reverse frames)))) clauses
    → Stops context (instr.TryTable ty clauses) old
try_uncaught_at context ty clauses old frames b same is test =
    try_uncaught context ty clauses old
    (λ caught. false≢true (sym is ∙ (caught_at context clauses old frames b same test).1 caught))

pub try_tried : (context : BodyContext) (ty : BlockType) (clauses : List Catch) (old new : Checker) (frames : List Frame) (b : Bool)
    (r : Result Bool Error) → frames ≡ old.outers.items → b ≡ true
    → IsTrue b ↔ All (IsCatch (with_labels context (label_of old.shape ∷ labels_of (reverse frames)))) clauses
    → IfOk r (λ goes. MatchBool goes (Goes context (instr.Block ty) old new) (Stops context (instr.Block ty) old))
    → IfOk r (λ goes. MatchBool goes (Goes context (instr.TryTable ty clauses) old new) (Stops context (instr.TryTable ty clauses) old))
try_tried context ty clauses old new frames b (Ok true) same is test g =
    try_goes context ty clauses old new ((caught_at context clauses old frames b same test).0 is) g
try_tried context ty clauses old new frames b (Ok false) same is test s = try_stops context ty clauses old s
try_tried context ty clauses old new frames b (Err e) same is test tried = tt
