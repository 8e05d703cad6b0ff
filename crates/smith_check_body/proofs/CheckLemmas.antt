-- Steps of the check of a body.
use Rattle.smith_check_body.proofs.Common.{[], All, All-nil, ap, AreSlotsValid, AreValid, arith, BlockType, BodyContext, Bool, EndsHere}
use Rattle.smith_check_body.proofs.Common.{false, Finishes, Frame, Held, held, holding, Instr, Kind, label_by, label_of, labels_of, length}
use Rattle.smith_check_body.proofs.Common.{List, Pushes, refl, reverse, Shape, subst, sym, take, take_all, true, ValType, values, ℕ, ◌++◌}
use Rattle.smith_check_body.proofs.Common.{◌<◌, ◌∙◌, ◌∷◌, ◌≡◌}
use Rattle.std.proofs.lemmas.List.Elements.{All-cons}
use Rattle.std.proofs.Math.Seq.{take-length}
use Rattle.std.proofs.lemmas.List.{length-append, length-reverse, length-take-le, reverse-append, take-append-le}
use Rattle.smith_check_body.specs.declared.checker.Checker.{Checker}
use Rattle.smith_check_operands.specs.declared.frame.Operands.{Operands}
use Rattle.smith_check_operands.specs.declared.frame.Kind.TheVariants as kind
use Rattle.smith_instr.specs.declared.instr.Instr.TheVariants as instr
use Rattle.smith_instr.specs.InstrTypes.{sets}
use Rattle.smith_check_operands.specs.Covers.{Pops, PopsNothing, Takes}
use Rattle.smith_check_operands.specs.Closes.{IsFirst, IsPlain, MayEnd, StepsNowhere}
use Rattle.smith_check_body.specs.Opens.{opening, taken_by}
use Rattle.smith_check_operands.specs.Applies.{IsTaken, IsTried}
use Rattle.smith_check_body.specs.Checks.{IsShapeValid, AreWell, IsWell, Goes, Stops, HasNoType, IsShapeOf}
use Rattle.smith_check_operands.proofs.PushLemmas.{values_valid}
use Rattle.smith_check_body.proofs.PlainLemmas.{steps_finish, steps_begin, nowhere_finish}
use Rattle.smith_check_body.proofs.FrameLemmas.{opens_finish, opens_begin, opens_by, block_type_same, end_finish, end_begin, ends_by}
use Rattle.smith_check_body.proofs.FrameLemmas.{may_end_at}
use Rattle.smith_check_body.proofs.FrameLemmas.{no_else_outside, else_by, else_goes_on, else_begin}

-- the same, written otherwise
moved : (context : BodyContext) (shape to_shape : Shape) (held to_held : Held) (set to_set base to_base : List ℕ)
    (outers to_outers : List Frame) (rest : List Instr)
    → shape ≡ to_shape → held ≡ to_held → set ≡ to_set → base ≡ to_base → outers ≡ to_outers
    → Finishes context shape held set base outers rest → Finishes context to_shape to_held to_set to_base to_outers rest
moved context shape to_shape held to_held set to_set base to_base outers to_outers rest a b c d e f =
    subst (λ x. Finishes context x to_held to_set to_base to_outers rest) a
    (subst (λ x. Finishes context shape x to_set to_base to_outers rest) b
    (subst (λ x. Finishes context shape held x to_base to_outers rest) c
    (subst (λ x. Finishes context shape held set x to_outers rest) d
    (subst (λ x. Finishes context shape held set base x rest) e f))))

-- a check that differs in its operands and in what it set
pub record Follows (instruction : Instr) (old new : Checker) : Type 0 where
  pub shape : new.shape ≡ old.shape
  pub log : new.log.items ≡ old.log.items ++ sets instruction
  pub height : new.height ≡ old.height
  pub outers : new.outers ≡ old.outers

pub plain_goes : (context : BodyContext) (x : Instr) (old new : Checker) → IsPlain x → IsWell context old → Follows x old new
    → IsTaken context (label_of old.shape ∷ labels_of (reverse old.outers.items)) x old.log.items (held old.operands) (held new.operands)
    → Goes context x old new
plain_goes context x old new plain well same taken =
    let outers = reverse old.outers.items in
    let base = take old.height old.log.items in
    let bases : take old.height old.log.items ≡ take new.height new.log.items =
    sym (ap (λ n. take n new.log.items) same.height ∙ ap (λ xs. take old.height xs) same.log ∙ take-append-le old.height old.log.items
    (sets x) well.height) in
    let around : outers ≡ reverse new.outers.items = ap (λ v. reverse v.items) (sym same.outers) in
    record {
      complete = λ rest f.
          moved context old.shape new.shape (held new.operands) (held new.operands) new.log.items new.log.items base
          (take new.height new.log.items) outers (reverse new.outers.items) rest
          (sym same.shape) refl refl bases around
          (steps_finish context old.shape outers x (held old.operands) (held new.operands) old.log.items new.log.items base rest plain
          same.log taken.steps f);
      sound = λ rest f.
          steps_begin context old.shape outers x (held old.operands) (held new.operands) old.log.items new.log.items base rest same.log
          taken.steps
          (moved context new.shape old.shape (held new.operands) (held new.operands) new.log.items new.log.items
          (take new.height new.log.items) base (reverse new.outers.items) outers rest
          same.shape refl refl (sym bases) (sym around) f);
      well = record {
        shape = subst (λ s. IsShapeValid context s) (sym same.shape) well.shape;
        known = taken.valid;
        height = omega (arith, well.height, same.height, ap (λ xs. length xs) same.log, length-append old.log.items (sets x));
        outers = subst (λ n. AreWell context n (reverse new.outers.items)) (sym same.height)
            (subst (λ fs. AreWell context old.height fs) around well.outers);
      };
    }

pub plain_stops : (context : BodyContext) (x : Instr) (old : Checker) → IsPlain x
    → StepsNowhere context (label_of old.shape ∷ labels_of (reverse old.outers.items)) x old.log.items (held old.operands)
    → Stops context x old
plain_stops context x old plain never rest f =
    nowhere_finish context old.shape (reverse old.outers.items) x (held old.operands) old.log.items (take old.height old.log.items) rest
    plain never f

-- a block is gone into
pub record Enters (old new : Checker) (popped : Operands) : Type 0 where
  pub operands : held new.operands ≡ holding (values new.shape.params) false
  pub log : new.log ≡ old.log
  pub height : new.height ≡ length old.log.items
  pub outers : new.outers.items ≡ old.outers.items ++ record { shape = old.shape; operands = popped; height = old.height } ∷ []

pub open_goes : (context : BodyContext) (opens : Kind) (ty : BlockType) (old new : Checker) (popped : Operands) → IsWell context old
    → IsShapeOf context opens ty new.shape
    → Pops context (values (taken_by opens new.shape.params)) (held old.operands) (held popped) → Enters old new popped
    → Goes context (opening opens ty) old new
open_goes context opens ty old new popped well fits pops enters =
    let outer : Frame = record { shape = old.shape; operands = popped; height = old.height } in
    let outers = reverse old.outers.items in
    let log = old.log.items in
    let shape : record { kind = opens; params = new.shape.params; results = new.shape.results } ≡ new.shape =
    ap (λ k. record new.shape { kind = k }) (sym fits.kind_is) in
    let bases : log ≡ take new.height new.log.items =
    sym (ap (λ n. take n new.log.items) enters.height ∙ ap (λ v. take (length log) v.items) enters.log ∙ take-length log) in
    let logs : log ≡ new.log.items = ap (λ v. v.items) (sym enters.log) in
    let around : outer ∷ outers ≡ reverse new.outers.items =
    sym (ap (λ fs. reverse fs) enters.outers ∙ reverse-append old.outers.items (outer ∷ [])) in
    let valid = values_valid context new.shape.params fits.valid.params in
    let inner : Shape = record { kind = opens; params = new.shape.params; results = new.shape.results } in
    record {
      complete = λ rest f.
          moved context inner new.shape (holding (values new.shape.params) false) (held new.operands) log new.log.items log
          (take new.height new.log.items)
          (outer ∷ outers) (reverse new.outers.items) rest shape (sym enters.operands) logs bases around
          (opens_finish context outer outers log (take old.height log) (held old.operands) opens ty new.shape.params new.shape.results rest
          fits.fits valid pops refl f);
      sound = λ rest f.
          opens_begin context outer outers log (take old.height log) (held old.operands) opens ty new.shape.params new.shape.results rest
          fits.fits pops refl
          (moved context new.shape inner (held new.operands) (holding (values new.shape.params) false) new.log.items log
          (take new.height new.log.items) log
          (reverse new.outers.items) (outer ∷ outers) rest (sym shape) enters.operands (sym logs) (sym bases) (sym around) f);
      well = record {
        shape = fits.valid;
        known = subst (λ h. AreSlotsValid context h.known) (sym enters.operands) valid;
        height = omega (arith, enters.height, ap (λ xs. length xs) logs);
        outers = subst (λ fs. AreWell context new.height fs) around
            (omega (arith, enters.height, well.height), well.shape, pops.valid, well.outers);
      };
    }

pub open_stops_untyped : (context : BodyContext) (opens : Kind) (ty : BlockType) (old : Checker) → HasNoType context ty
    → Stops context (opening opens ty) old
open_stops_untyped context opens ty old never rest f =
    let o = opens_by context old.shape (reverse old.outers.items) old.log.items (take old.height old.log.items) (held old.operands) opens ty
    rest f in
    never o.params o.results o.fits

pub open_stops : (context : BodyContext) (opens : Kind) (ty : BlockType) (shape : Shape) (old : Checker) → IsShapeOf context opens ty shape
    → PopsNothing context (values (taken_by opens shape.params)) (held old.operands) → Stops context (opening opens ty) old
open_stops context opens ty shape old fits never rest f =
    let o = opens_by context old.shape (reverse old.outers.items) old.log.items (take old.height old.log.items) (held old.operands) opens ty
    rest f in
    let (same, also) = block_type_same context ty o.params o.results shape.params shape.results o.fits fits.fits in
    never o.rest o.before o.covered (subst (λ ps. Takes context (values (taken_by opens ps)) o.rest o.before) same o.takes)

label_valid : (context : BodyContext) (k : Kind) (params results : List ValType) → AreValid context params → AreValid context results
    → AreValid context (label_by k params results)
label_valid context kind.Loop params results a b = a
label_valid context kind.Block params results a b = b
label_valid context kind.If params results a b = b

frames_valid : (context : BodyContext) (height : ℕ) (outers : List Frame) → AreWell context height outers
    → All (AreValid context) (labels_of outers)
frames_valid context height [] well = All-nil (AreValid context)
frames_valid context height (outer ∷ outers) (low, valid, known, well) =
    All-cons (AreValid context) (label_of outer.shape) (labels_of outers)
    (label_valid context outer.shape.kind outer.shape.params outer.shape.results valid.params valid.results)
    (frames_valid context outer.height outers well)

pub labels_valid : (context : BodyContext) (checker : Checker) → IsWell context checker
    → All (AreValid context) (label_of checker.shape ∷ labels_of (reverse checker.outers.items))
labels_valid context checker well =
    All-cons (AreValid context) (label_of checker.shape) (labels_of (reverse checker.outers.items))
    (label_valid context checker.shape.kind checker.shape.params checker.shape.results well.shape.params well.shape.results)
    (frames_valid context checker.height (reverse checker.outers.items) well.outers)

pub plain_refused : (context : BodyContext) (x : Instr) (old : Checker) (fs : List Frame) (log : List ℕ) (taken : Bool) (new : Held)
    → IsPlain x
    → fs ≡ old.outers.items → log ≡ old.log.items → taken ≡ false
    → IsTried context (label_of old.shape ∷ labels_of (reverse fs)) x log taken (held old.operands) new → Stops context x old
plain_refused context x old fs log taken new plain frames logs is tried =
    plain_stops context x old plain
    (subst (λ ls. StepsNowhere context (label_of old.shape ∷ labels_of (reverse old.outers.items)) x ls (held old.operands)) logs
    (subst (λ ys. StepsNowhere context (label_of old.shape ∷ labels_of (reverse ys)) x log (held old.operands)) frames
    (subst (λ b. IsTried context (label_of old.shape ∷ labels_of (reverse fs)) x log b (held old.operands) new) is tried)))

pub plain_taken : (context : BodyContext) (x : Instr) (old new : Checker) (fs : List Frame) (log : List ℕ) (taken : Bool) → IsPlain x
    → IsWell context old
    → fs ≡ old.outers.items → log ≡ old.log.items → taken ≡ true
    → IsTried context (label_of old.shape ∷ labels_of (reverse fs)) x log taken (held old.operands) (held new.operands) → Follows x old new
    → Goes context x old new
plain_taken context x old new fs log taken plain well frames logs is tried follows =
    plain_goes context x old new plain well follows
    (subst (λ ls. IsTaken context (label_of old.shape ∷ labels_of (reverse old.outers.items)) x ls (held old.operands) (held new.operands))
    logs
    (subst (λ ys. IsTaken context (label_of old.shape ∷ labels_of (reverse ys)) x log (held old.operands) (held new.operands)) frames
    (subst (λ b. IsTried context (label_of old.shape ∷ labels_of (reverse fs)) x log b (held old.operands) (held new.operands)) is tried)))

pub open_entered : (context : BodyContext) (opens : Kind) (ty : BlockType) (shape : Shape) (old new : Checker) (popped operands : Operands)
    (params starts : List ValType) → IsWell context old
    → IsShapeOf context opens ty shape → new.shape ≡ shape → params ≡ shape.params → starts ≡ shape.params
    → Pops context (values (taken_by opens params)) (held old.operands) (held popped)
    → new.operands ≡ operands → held operands ≡ holding (values starts) false
    → new.log ≡ old.log → new.height ≡ length old.log.items → new.outers.items ≡ old.outers.items ++ record {
      shape = old.shape;
      operands = popped;
      height = old.height;
    } ∷ []
    → Goes context (opening opens ty) old new
open_entered context opens ty shape old new popped operands params starts well fits is same also pops ops at log height outers =
    open_goes context opens ty old new popped well (subst (λ s. IsShapeOf context opens ty s) (sym is) fits)
    (subst (λ ps. Pops context (values (taken_by opens ps)) (held old.operands) (held popped))
    (same ∙ ap (λ (s : Shape). s.params) (sym is)) pops)
    (record {
      operands = ap (λ (o : Operands). held o) ops ∙ at ∙ ap (λ ps. holding (values ps) false)
          (also ∙ ap (λ (s : Shape). s.params) (sym is));
      log = log;
      height = height;
      outers = outers;
    })

-- a block is ended
pub record Quits (old new : Checker) (outer : Frame) (front : List Frame) : Type 0 where
  pub outers : old.outers.items ≡ front ++ outer ∷ []
  pub shape : new.shape ≡ outer.shape
  pub log : new.log.items ≡ take old.height old.log.items
  pub height : new.height ≡ outer.height
  pub left : new.outers.items ≡ front

pub close_goes : (context : BodyContext) (old new : Checker) (outer : Frame) (front : List Frame) → IsWell context old
    → EndsHere context old.shape.results (held old.operands)
    → MayEnd context old.shape.kind old.shape.params old.shape.results → Pushes context (values old.shape.results) (held outer.operands)
    (held new.operands)
    → Quits old new outer front → Goes context instr.End old new
close_goes context old new outer front well ends may pushes leaves =
    let outers = reverse front in
    let base = take old.height old.log.items in
    let around : outer ∷ outers ≡ reverse old.outers.items =
    sym (ap (λ fs. reverse fs) leaves.outers ∙ reverse-append front (outer ∷ [])) in
    let after : outers ≡ reverse new.outers.items = sym (ap (λ fs. reverse fs) leaves.left) in
    let bases : take outer.height base ≡ take new.height new.log.items =
    sym (ap (λ n. take n new.log.items) leaves.height ∙ ap (λ xs. take outer.height xs) leaves.log) in
    let (low, shape_valid, known_valid, others) = subst (λ fs. AreWell context old.height fs) (sym around) well.outers in
    record {
      complete = λ rest f.
          let f' = moved context old.shape old.shape (held old.operands) (held old.operands) old.log.items old.log.items base base
          (reverse old.outers.items) (outer ∷ outers) (instr.End ∷ rest)
          refl refl refl refl (sym around) f in
          let (a, b, g) = end_finish context old.shape outer outers (held old.operands) (held new.operands) old.log.items base rest pushes
          f' in
          moved context outer.shape new.shape (held new.operands) (held new.operands) base new.log.items (take outer.height base)
          (take new.height new.log.items) outers (reverse new.outers.items) rest
          (sym leaves.shape) refl (sym leaves.log) bases after g;
      sound = λ rest f.
          let g = moved context new.shape outer.shape (held new.operands) (held new.operands) new.log.items base
          (take new.height new.log.items) (take outer.height base) (reverse new.outers.items) outers rest
          leaves.shape refl leaves.log (sym bases) (sym after) f in
          moved context old.shape old.shape (held old.operands) (held old.operands) old.log.items old.log.items base base (outer ∷ outers)
          (reverse old.outers.items) (instr.End ∷ rest)
          refl refl refl refl around
          (end_begin context old.shape outer outers (held old.operands) (held new.operands) old.log.items base rest pushes ends
          (may_end_at context (label_of old.shape ∷ labels_of (outer ∷ outers)) old.shape.kind old.shape.params old.shape.results may) g);
      well = record {
        shape = subst (λ s. IsShapeValid context s) (sym leaves.shape) shape_valid;
        known = pushes.valid;
        height = omega (
          arith,
          low,
          well.height,
          leaves.height,
          ap (λ xs. length xs) leaves.log,
          length-take-le old.height old.log.items
              well.height,
        );
        outers = subst (λ n. AreWell context n (reverse new.outers.items)) (sym leaves.height)
            (subst (λ fs. AreWell context outer.height fs) after others);
      };
    }

pub close_stops_ends : (context : BodyContext) (old : Checker) → (EndsHere context old.shape.results (held old.operands) → ⊥)
    → Stops context instr.End old
close_stops_ends context old never rest f =
    never (ends_by context old.shape (reverse old.outers.items) (held old.operands) old.log.items (take old.height old.log.items) rest
    f).ends

pub close_stops_may : (context : BodyContext) (old : Checker) → (MayEnd context old.shape.kind old.shape.params old.shape.results → ⊥)
    → Stops context instr.End old
close_stops_may context old never rest f =
    never (ends_by context old.shape (reverse old.outers.items) (held old.operands) old.log.items (take old.height old.log.items) rest
    f).may

pub close_stops_outside : (context : BodyContext) (old : Checker) → old.outers.items ≡ [] → Stops context instr.End old
close_stops_outside context old none rest f =
    let e = ends_by context old.shape (reverse old.outers.items) (held old.operands) old.log.items (take old.height old.log.items) rest f in
    let n : 0 ≡ length (e.outer ∷ e.others) = ap (λ fs. length (reverse fs)) (sym none) ∙ ap (λ fs. length fs) e.is in
    omega (arith, n)

pub else_stops_ends : (context : BodyContext) (old : Checker) → (EndsHere context old.shape.results (held old.operands) → ⊥)
    → Stops context instr.Else old
else_stops_ends context old never rest f =
    never (else_by context old.shape (reverse old.outers.items) (held old.operands) old.log.items (take old.height old.log.items) rest f).0

pub else_stops_first : (context : BodyContext) (old : Checker) → (IsFirst old.shape.kind → ⊥) → Stops context instr.Else old
else_stops_first context old never rest f =
    never (else_by context old.shape (reverse old.outers.items) (held old.operands) old.log.items (take old.height old.log.items) rest f).1

pub else_stops_outside : (context : BodyContext) (old : Checker) → old.outers.items ≡ [] → Stops context instr.Else old
else_stops_outside context old none rest f =
    no_else_outside context old.shape (held old.operands) old.log.items (take old.height old.log.items) rest
    (subst (λ fs. Finishes context old.shape (held old.operands) old.log.items (take old.height old.log.items) (reverse fs)
    (instr.Else ∷ rest)) none f)

-- the second part of an if is gone into
pub record Turns (old new : Checker) : Type 0 where
  pub shape : new.shape ≡ record { kind = kind.Block; params = old.shape.params; results = old.shape.results }
  pub operands : held new.operands ≡ holding (values old.shape.params) false
  pub log : new.log.items ≡ take old.height old.log.items
  pub height : new.height ≡ old.height
  pub outers : new.outers.items ≡ old.outers.items

else_goes_from : (context : BodyContext) (old new : Checker) (outers : List Frame) → outers ≡ reverse old.outers.items → 0 < length outers
    → IsWell context old → old.shape.kind ≡ kind.If
    → EndsHere context old.shape.results (held old.operands) → Turns old new → Goes context instr.Else old new
else_goes_from context old new [] around some well first ends turns = absurd (omega (arith, some))
else_goes_from context old new (outer ∷ outers) around some well first ends turns =
    let log = old.log.items in
    let base = take old.height log in
    let params = old.shape.params in
    let results = old.shape.results in
    let shape : old.shape ≡ record { kind = kind.If; params = params; results = results } = ap (λ k. record old.shape { kind = k }) first in
    let valid = values_valid context params well.shape.params in
    let after : outer ∷ outers ≡ reverse new.outers.items = around ∙ ap (λ fs. reverse fs) (sym turns.outers) in
    let long : length base ≡ old.height = length-take-le old.height log well.height in
    let bases : base ≡ take new.height new.log.items =
    sym (ap (λ n. take n new.log.items) turns.height ∙ ap (λ xs. take old.height xs) turns.log ∙ take_all old.height base
    (omega (arith, long))) in
    record {
      complete = λ rest f.
          moved context (record { kind = kind.Block; params = params; results = results }) new.shape (holding (values params) false)
          (held new.operands) base new.log.items base (take new.height new.log.items)
          (outer ∷ outers) (reverse new.outers.items) rest (sym turns.shape) (sym turns.operands) (sym turns.log) bases after
          (else_goes_on context params results outer outers (held old.operands) log base rest valid
          (moved context old.shape (record { kind = kind.If; params = params; results = results }) (held old.operands) (held old.operands)
          log log base base (reverse old.outers.items) (outer ∷ outers)
          (instr.Else ∷ rest) shape refl refl refl (sym around) f));
      sound = λ rest f.
          moved context (record { kind = kind.If; params = params; results = results }) old.shape (held old.operands) (held old.operands)
          log log base base (outer ∷ outers) (reverse old.outers.items)
          (instr.Else ∷ rest) (sym shape) refl refl refl around
          (else_begin context params results outer outers (held old.operands) log base rest ends
          (moved context new.shape (record { kind = kind.Block; params = params; results = results }) (held new.operands)
          (holding (values params) false) new.log.items base (take new.height new.log.items) base
          (reverse new.outers.items) (outer ∷ outers) rest turns.shape turns.operands turns.log (sym bases) (sym after) f));
      well = record {
        shape = subst (λ s. IsShapeValid context s) (sym turns.shape) (record { params = well.shape.params; results = well.shape.results });
        known = subst (λ h. AreSlotsValid context h.known) (sym turns.operands) valid;
        height = omega (arith, turns.height, ap (λ xs. length xs) turns.log, long);
        outers = subst (λ n. AreWell context n (reverse new.outers.items)) (sym turns.height)
            (subst (λ fs. AreWell context old.height fs) (ap (λ fs. reverse fs) (sym turns.outers)) well.outers);
      };
    }

pub else_goes : (context : BodyContext) (old new : Checker) → 0 < length old.outers.items → IsWell context old → old.shape.kind ≡ kind.If
    → EndsHere context old.shape.results (held old.operands) → Turns old new → Goes context instr.Else old new
else_goes context old new some well first ends turns =
    else_goes_from context old new (reverse old.outers.items) refl (omega (arith, some, length-reverse old.outers.items)) well first ends
    turns

pub none_left : {A : Type 0} (xs : List A) → length xs ≡ 0 → xs ≡ []
none_left [] e = refl
none_left (x ∷ xs) e = absurd (omega (arith, e))

pub close_stops_empty : (context : BodyContext) (old : Checker) → length old.outers.items ≡ 0 → Stops context instr.End old
close_stops_empty context old none = close_stops_outside context old (none_left old.outers.items none)

pub else_stops_empty : (context : BodyContext) (old : Checker) → length old.outers.items ≡ 0 → Stops context instr.Else old
else_stops_empty context old none = else_stops_outside context old (none_left old.outers.items none)

pub outer_known : (context : BodyContext) (old : Checker) (outer : Frame) (front : List Frame) → IsWell context old
    → old.outers.items ≡ front ++ outer ∷ []
    → AreSlotsValid context outer.operands.known.items
outer_known context old outer front well is =
    let around : reverse old.outers.items ≡ outer ∷ reverse front = ap (λ fs. reverse fs) is ∙ reverse-append front (outer ∷ []) in
    (subst (λ fs. AreWell context old.height fs) around well.outers).2
