-- Bodies that are checked.
use Rattle.smith_check_body.proofs.Common.{[], All-nil, ap, append-nil, append_assoc, AreSlotsValid, AreValid, arith, BodyContext, Bool}
use Rattle.smith_check_body.proofs.Common.{EndsHere, false, Finishes, Frame, Held, held, holding, Instr, IsBodyTyped, IsSlotValid, length}
use Rattle.smith_check_body.proofs.Common.{List, MatchBool, reverse, Shape, subst, sym, take, true, ℕ, ◌++◌, ◌+◌, ◌<◌, ◌∙◌, ◌∷◌, ◌≡◌}
use Rattle.std.proofs.Common.{drop, get_or}
use Rattle.std.proofs.Math.Seq.{take-length}
use Rattle.std.proofs.lemmas.List.{length-reverse, take-append-drop, take_more}
use Rattle.smith_check_body.specs.declared.checker.Checker.{Checker}
use Rattle.smith_check_operands.specs.declared.frame.Kind.TheVariants as kind
use Rattle.smith_instr.specs.Contexts.{IsValid}
use Rattle.smith_check_body.specs.Checks.{CanFinish, IsShapeValid, AreWell, Goes, Stops, IsReached}
use Rattle.smith_check_body.specs.Verdicts.{IsRefused}
use Rattle.smith_check_body.proofs.FrameLemmas.{body_finishes, finished_body, last_finish, last_begin, open_unfinished}
use Rattle.smith_check_body.proofs.CheckLemmas.{none_left}
use Rattle.smith_check_body.proofs.FinishLemmas.{begins_typed}

-- a body may end where no block is open and the stack is as the results ask
pub finished : (context : BodyContext) (checker : Checker) → length checker.outers.items ≡ 0 → EndsHere context checker.shape.results
    (held checker.operands) → CanFinish context checker []
finished context checker none ends =
    subst (λ fs. Finishes context checker.shape (held checker.operands) checker.log.items (take checker.height checker.log.items)
    (reverse fs) []) (sym (none_left checker.outers.items none))
    (last_begin context checker.shape (held checker.operands) checker.log.items (take checker.height checker.log.items) ends)

pub unfinished_ends : (context : BodyContext) (checker : Checker) → length checker.outers.items ≡ 0
    → (EndsHere context checker.shape.results (held checker.operands) → ⊥)
    → CanFinish context checker [] → ⊥
unfinished_ends context checker none never f =
    never (last_finish context checker.shape (held checker.operands) checker.log.items (take checker.height checker.log.items)
    (subst (λ fs. Finishes context checker.shape (held checker.operands) checker.log.items (take checker.height checker.log.items)
    (reverse fs) []) (none_left checker.outers.items none) f))

unfinished_from : (context : BodyContext) (shape : Shape) (old : Held) (set base : List ℕ) (outers : List Frame) → 0 < length outers
    → Finishes context shape old set base outers [] → ⊥
unfinished_from context shape old set base [] some f = absurd (omega (arith, some))
unfinished_from context shape old set base (outer ∷ outers) some f = open_unfinished context shape outer outers old set base f

pub unfinished_open : (context : BodyContext) (checker : Checker) → 0 < length checker.outers.items → CanFinish context checker [] → ⊥
unfinished_open context checker some f =
    unfinished_from context checker.shape (held checker.operands) checker.log.items (take checker.height checker.log.items)
    (reverse checker.outers.items)
    (omega (arith, some, length-reverse checker.outers.items)) f

-- the check begins
pub record Begins (context : BodyContext) (checker : Checker) : Type 0 where
  pub shape : checker.shape ≡ record { kind = kind.Block; params = []; results = context.results }
  pub operands : held checker.operands ≡ holding [] false
  pub log : checker.log.items ≡ []
  pub height : checker.height ≡ 0
  pub outers : checker.outers.items ≡ []

pub begun : (context : BodyContext) (checker : Checker) → AreValid context context.results → Begins context checker
    → IsReached context checker []
begun context checker valid b =
    let shape : Shape = record { kind = kind.Block; params = []; results = context.results } in
    let P : Shape → Held → List ℕ → ℕ → List Frame → List Instr → Type 0 = λ s h l n fs rest. Finishes context s h l (take n l) (reverse fs)
    rest in
    let there : (rest : List Instr) → P shape (holding [] false) [] 0 [] rest → CanFinish context checker rest = λ rest f.
    subst (λ x. P x (held checker.operands) checker.log.items checker.height checker.outers.items rest) (sym b.shape)
    (subst (λ x. P shape x checker.log.items checker.height checker.outers.items rest) (sym b.operands)
    (subst (λ x. P shape (holding [] false) x checker.height checker.outers.items rest) (sym b.log)
    (subst (λ x. P shape (holding [] false) [] x checker.outers.items rest) (sym b.height)
    (subst (λ x. P shape (holding [] false) [] 0 x rest) (sym b.outers) f)))) in
    let back : (rest : List Instr) → CanFinish context checker rest → P shape (holding [] false) [] 0 [] rest = λ rest f.
    subst (λ x. P shape (holding [] false) [] 0 x rest) b.outers
    (subst (λ x. P shape (holding [] false) [] x checker.outers.items rest) b.height
    (subst (λ x. P shape (holding [] false) x checker.height checker.outers.items rest) b.log
    (subst (λ x. P shape x checker.log.items checker.height checker.outers.items rest) b.operands
    (subst (λ x. P x (held checker.operands) checker.log.items checker.height checker.outers.items rest) b.shape f)))) in
    record {
      well = record {
        shape = subst (λ s. IsShapeValid context s) (sym b.shape) (record { params = All-nil (IsValid context); results = valid });
        known = subst (λ h. AreSlotsValid context h.known) (sym b.operands) (All-nil (IsSlotValid context));
        height = omega (arith, b.height);
        outers = subst (λ fs. AreWell context checker.height (reverse fs)) (sym b.outers) tt;
      };
      complete = λ rest t. there rest (body_finishes context rest t);
      sound = λ rest f. finished_body context rest (back rest f);
    }

-- an instruction at a place of a body
pub one_more : (body : List Instr) (i : ℕ) (x : Instr) → i < length body → x ≡ get_or body i x → take (i + 1) body ≡ take i body ++ x ∷ []
one_more body i x within is = take_more body i x within ∙ ap (λ (y : Instr). take i body ++ y ∷ []) (sym is)

-- one instruction more
pub reached_more : (context : BodyContext) (old new : Checker) (done more : List Instr) (x : Instr) → more ≡ done ++ x ∷ []
    → IsReached context old done → Goes context x old new → IsReached context new more
reached_more context old new done more x is r g =
    let joined : (rest : List Instr) → more ++ rest ≡ done ++ x ∷ rest = λ rest. ap (λ xs. xs ++ rest) is ∙ append_assoc done
    (x ∷ []) rest in
    record {
      well = g.well;
      complete = λ rest t. g.complete rest (r.complete (x ∷ rest) (subst (λ xs. IsBodyTyped context xs) (joined rest) t));
      sound = λ rest f. subst (λ xs. IsBodyTyped context xs) (sym (joined rest)) (r.sound (x ∷ rest) (g.sound rest f));
    }

pub refused_at : (context : BodyContext) (checker : Checker) (body : List Instr) (at : ℕ) (x : Instr) → at < length body
    → take (at + 1) body ≡ take at body ++ x ∷ []
    → IsReached context checker (take at body) → Stops context x checker → IsRefused context body at
refused_at context checker body at x within is r stops =
    let earliest : (rest : List Instr) → IsBodyTyped context (take (at + 1) body ++ rest) → ⊥ = λ rest t.
    stops rest (r.complete (x ∷ rest)
    (subst (λ xs. IsBodyTyped context xs) (ap (λ xs. xs ++ rest) is ∙ append_assoc (take at body) (x ∷ []) rest) t)) in
    record {
      inside = omega (arith, within);
      untyped = λ t. earliest (drop (at + 1) body) (subst (λ xs. IsBodyTyped context xs) (sym (take-append-drop (at + 1) body)) t);
      begun = begins_typed context checker (take at body) r;
      earliest = λ h. earliest;
    }

pub refused_end : (context : BodyContext) (checker : Checker) (body done : List Instr) → done ≡ body → IsReached context checker done
    → (CanFinish context checker [] → ⊥)
    → IsRefused context body (length body)
refused_end context checker body done is r never =
    let (rest, typed) = begins_typed context checker done r in
    record {
      inside = omega arith;
      untyped = λ t. never (r.complete [] (subst (λ xs. IsBodyTyped context xs) (sym (append-nil done ∙ is)) t));
      begun = (rest, subst (λ xs. IsBodyTyped context (xs ++ rest)) (is ∙ sym (take-length body)) typed);
      earliest = λ h. absurd (omega (arith, h));
    }

pub accepted : (context : BodyContext) (checker : Checker) (body done : List Instr) → done ≡ body → IsReached context checker done
    → CanFinish context checker [] → IsBodyTyped context body
accepted context checker body done is r f = subst (λ xs. IsBodyTyped context xs) (append-nil done ∙ is) (r.sound [] f)

pub finished_tried : (context : BodyContext) (checker : Checker) (b : Bool) → length checker.outers.items ≡ 0
    → MatchBool b (EndsHere context checker.shape.results (held checker.operands))
    (EndsHere context checker.shape.results (held checker.operands) → ⊥)
    → MatchBool b (CanFinish context checker []) (CanFinish context checker [] → ⊥)
finished_tried context checker true none ends = finished context checker none ends
finished_tried context checker false none never = unfinished_ends context checker none never
