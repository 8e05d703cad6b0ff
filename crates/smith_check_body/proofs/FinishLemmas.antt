-- Each check of a body that was reached can be finished: an `unreachable` leaves the results of each
-- open block.
use Rattle.smith_check_body.proofs.Common.{[], append-nil, AreTyped, AreValid, below_themselves, BodyContext, ClosesWith, Ends, Frame, held}
use Rattle.smith_check_body.proofs.Common.{inl, inr, Instr, IsBodyTyped, IsTail, Kind, label_of, labels_of, List, nothing, refl, reverse}
use Rattle.smith_check_body.proofs.Common.{Shape, Slot, stacked, step, sym, take, ValType, values, with_labels, ℕ, ◌++◌, ◌∷◌}
use Rattle.smith_check_operands.specs.declared.frame.Kind.TheVariants as kind
use Rattle.smith_instr.specs.declared.instr.Instr.TheVariants as instr
use Rattle.smith_check_operands.specs.Closes.{Resumes}
use Rattle.smith_check_operands.proofs.PushLemmas.{values_valid}
use Rattle.smith_check_operands.proofs.StepLemmas.{covers_itself}
use Rattle.smith_check_body.specs.declared.checker.Checker.{Checker}
use Rattle.smith_check_body.specs.Checks.{AreWell, CanFinish, IsReached, IsShapeValid, IsWell}

-- `unreachable` leaves any valid results
dead_code : (context : BodyContext) (stack : List Slot) (set : List ℕ) (results : List ValType) → AreValid context results
    → AreTyped context (instr.Unreachable ∷ []) (stacked stack set) (stacked (values results) set)
dead_code context stack set results valid =
    let given = values_valid context results valid in
    let themselves = below_themselves context.types (values results) in
    step {between = stacked (values results) set} (record {
      operands = stack;
      results = values results;
      typed = (stack, sym (append-nil stack), given);
      framed = record {
        rest = [];
        taken = stack;
        given = values results;
        under = refl;
        accepted = below_themselves context.types stack;
        offered = record { below = themselves; valid = given };
        over = refl;
        set_then = sym (append-nil set);
      };
    }) (nothing (record { below = themselves; valid = given }) refl)

-- a block ends, and the first part of an `if` by an `else`
block_ends : (context : BodyContext) (opens : Kind) (params results : List ValType) (set : List ℕ) (Next : List Instr → Type 0)
    (more : List Instr) → AreValid context results → Next more
    → (tail : List Instr) × Ends context opens params results set Next tail
block_ends context kind.If params results set Next more valid next = (
  instr.Else ∷ instr.Unreachable ∷ instr.End ∷ more,
  inr (record {
    other = instr.Unreachable ∷ [];
    more = more;
    end = set;
    is = refl;
    first = tt;
    typed = dead_code context (values params) set results valid;
    next = next;
  }),
)
block_ends context kind.Block params results set Next more valid next =
    (instr.End ∷ more, inl (record { more = more; is = refl; may = tt; next = next }))
block_ends context kind.Loop params results set Next more valid next =
    (instr.End ∷ more, inl (record { more = more; is = refl; may = tt; next = next }))

-- all open blocks end, the innermost first
blocks_end : (context : BodyContext) (outers : List Frame) (shape : Shape) (stack : List Slot) (set base : List ℕ) (height : ℕ)
    → IsShapeValid context shape → AreWell context height outers
    → (rest : List Instr) × ClosesWith (with_labels context (label_of shape ∷ labels_of outers)) shape.results
    (IsTail context shape base outers) (stacked stack set) rest
blocks_end context [] shape stack set base height valid well = (
  instr.Unreachable ∷ [],
  record {
    body = instr.Unreachable ∷ [];
    tail = [];
    end = set;
    is = refl;
    typed = dead_code (with_labels context (label_of shape ∷ [])) stack set shape.results valid.results;
    after = refl;
  },
)
blocks_end context (outer ∷ outers) shape stack set base height valid (low, outer_valid, known, well) =
    let within = with_labels context (label_of shape ∷ labels_of (outer ∷ outers)) in
    let around = with_labels context (label_of outer.shape ∷ labels_of outers) in
    let results = values shape.results in
    let between = outer.operands.known.items ++ results in
    let (more, closes) = blocks_end context outers outer.shape between base (take outer.height base) outer.height outer_valid well in
    let Next : List Instr → Type 0 = λ more. Resumes context shape.results (held outer.operands)
    (λ stack rest. ClosesWith around outer.shape.results (IsTail context outer.shape (take outer.height base) outers) (stacked stack base)
    rest) more in
    let next : Next more = record {
      between = between;
      covered = record {
        rest = outer.operands.known.items;
        covered = covers_itself context (held outer.operands) known;
        gives = record {
          given = results;
          is = refl;
          offered = record {
            below = below_themselves context.types results;
            valid = values_valid context shape.results valid.results;
          };
        };
      };
      closes = closes;
    } in
    let (tail, ends) = block_ends within shape.kind shape.params shape.results base Next more valid.results next in (
      instr.Unreachable ∷ tail,
      record {
        body = instr.Unreachable ∷ [];
        tail = tail;
        end = set;
        is = refl;
        typed = dead_code within stack set shape.results valid.results;
        after = ends;
      },
    )

can_finish : (context : BodyContext) (checker : Checker) → IsWell context checker → (rest : List Instr) × CanFinish context checker rest
can_finish context checker well =
    let base = take checker.height checker.log.items in
    let (rest, closes) = blocks_end context (reverse checker.outers.items) checker.shape checker.operands.known.items checker.log.items base
    checker.height well.shape well.outers in (
      rest,
      record {
        stack = checker.operands.known.items;
        covered = covers_itself context (held checker.operands) well.known;
        closes = closes;
      },
    )

-- so some typed body begins with what was checked
pub begins_typed : (context : BodyContext) (checker : Checker) (done : List Instr) → IsReached context checker done
    → (rest : List Instr) × IsBodyTyped context (done ++ rest)
begins_typed context checker done r = let (rest, f) = can_finish context checker r.well in (rest, r.sound rest f)
