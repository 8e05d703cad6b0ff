-- Drawn instructions, one part after another.
use Rattle.smith_body.proofs.Common.{[], All, All-nil, ap, append-nil, append_assoc, AreBelow, AreLabels, AreValid, arith, bare}
use Rattle.smith_body.proofs.Common.{below_themselves, block_cost, BlockType, BodyContext, Config, context_of, Draft, false≢true, get_or}
use Rattle.smith_body.proofs.Common.{HasInstrType, Head, I32, Instr, IsAllowedIn, IsNode, IsNoStop, IsValBelow-refl, IsValid, label_of}
use Rattle.smith_body.proofs.Common.{length, length-append, List, longest_leaf, most, Node, one_valid, opened, Opening, option_to_list}
use Rattle.smith_body.proofs.Common.{refl, replicate, Scope, sets, stacked, step, subst, suc, sym, take, ValType, where_stands, widest}
use Rattle.smith_body.proofs.Common.{zero, ℕ, ◌*◌, ◌++◌, ◌+◌, ◌-◌, ◌<◌, ◌∙◌, ◌∷◌, ◌≡◌, ◌≤◌}
use Rattle.std.specs.Prelude.{IsTrue, Option}
use Rattle.std.proofs.Math.Seq.{take-append_seam}
use Rattle.std.proofs.lemmas.List.{length-replicate, take_more}
use Rattle.std.proofs.lemmas.List.Elements.{All-append, All-push, All-take}
use Rattle.smith_instr.specs.Contexts.{IsBlockType, labelled}
use Rattle.smith_instr.specs.Enabled.{is_enabled}
use Rattle.smith_instr.specs.InstrTypes.{IsCatch}
use Rattle.smith_instr.specs.Sequences.{block, CountsAs, if_alone, if_else, IsFramed, IsStep, loop, try_table}
use Rattle.smith_instr.specs.declared.control.Catch.{Catch}
use Rattle.smith_instr.specs.declared.instr.Instr.TheVariants as instr
use Rattle.smith_body_nodes.specs.Nodes.{HasHeadType, head_instruction, head_sets, MayOpen, taken_by}
use Rattle.smith_body.specs.DraftSteps.{IsDrawn, IsWritten, IsOpened, IsEnded}
use Rattle.smith_body_leaves.specs.Laws.{HasNoOther}
use Rattle.smith_body.specs.Stops.{AreStopsNeeded, HasNeededStops, HaveNeededStops, IsNeeded}
use Rattle.smith_body_nodes.specs.declared.node.Head.TheVariants as heads
use Rattle.smith_body_nodes.specs.declared.node.Opening.TheVariants as opening
use Rattle.smith_body_leaves.proofs.LeafChoiceLemmas.{some_leaf}
use Rattle.smith_body_leaves.proofs.LeafLemmas.{stop_allowed}
use Rattle.smith_body.proofs.StopLemmas.{at_end, in_turn}

times : (k m n : ℕ) → m ≤ n → k * m ≤ k * n
times zero m n less = omega arith
times (suc k) m n less =
    let rest = times k m n less in
    omega arith

times_one : (k n : ℕ) → 1 ≤ k → n ≤ k * n
times_one k zero some = omega arith
times_one k (suc n) some =
    let rest = times_one k n some in
    omega arith

-- values on top of others are valid
pub joined_valid : (context : BodyContext) (base values : List ValType) → AreValid context base → AreValid context values
    → AreValid context (base ++ values)
joined_valid context base values below valid = All-append (IsValid context) base values below valid

pub one_allowed : (scope : Scope) (instruction : Instr) → IsAllowedIn scope instruction → All (IsAllowedIn scope) (instruction ∷ [])
one_allowed scope instruction allowed = All-push (IsAllowedIn scope) [] instruction (All-nil (IsAllowedIn scope)) allowed

both_allowed : (scope : Scope) (first second : List Instr) → All (IsAllowedIn scope) first → All (IsAllowedIn scope) second
    → All (IsAllowedIn scope) (first ++ second)
both_allowed scope first second = All-append (IsAllowedIn scope) first second

ends_allowed : (scope : Scope) → IsAllowedIn scope instr.End
unfolding is_enabled
ends_allowed scope = record { enabled = refl; trapless = λ disallowed traps. absurd (false≢true traps) }

else_allowed : (scope : Scope) → IsAllowedIn scope instr.Else
unfolding is_enabled
else_allowed scope = record { enabled = refl; trapless = λ disallowed traps. absurd (false≢true traps) }

-- one instruction on top of any stack
pub one : (context : BodyContext) (instruction : Instr) (operands results given base : List ValType) (set set' : List ℕ)
    → HasInstrType context set instruction operands results → AreBelow context results given → AreValid context given
    → set' ≡ set ++ sets instruction
    → IsStep context instruction (stacked (base ++ operands) set) (stacked (base ++ given) set')
one context instruction operands results given base set set' typed below valid then = record {
  operands = operands;
  results = results;
  typed = typed;
  framed = record {
    rest = base;
    taken = operands;
    given = given;
    under = refl;
    accepted = below_themselves context.types operands;
    offered = record { below = below; valid = valid };
    over = refl;
    set_then = then;
  };
}

-- one instruction on top of any stack, and nothing after it
pub alone : {config : Config} (context : BodyContext) (instruction : Instr) (operands results given base : List ValType) (set set' : List ℕ)
    → HasInstrType context set instruction operands results → AreBelow context results given → AreValid context given
    → AreValid context base → set' ≡ set ++ sets instruction
    → (IsTrue config.disallow_traps → instruction ≡ instr.Unreachable → IsNeeded config context set operands given)
    → HaveNeededStops config context (instruction ∷ []) (stacked (base ++ operands) set) (stacked (base ++ given) set')
unfolding AreStopsNeeded one
alone {config = config} context instruction operands results given base set set' typed below valid under then stop =
    let end = at_end config context (base ++ given) set' (joined_valid context base given under valid) in
    record {
      typed = step (one context instruction operands results given base set set' typed below valid then) end.typed;
      needed = (record { exact = refl; stop = stop }, end.needed);
    }

-- a value that takes no budget
pub value_drawn : {scope : Scope} {wanted : ValType} {old new : Draft} (instructions : List Instr)
    → ((base : List ValType) → AreValid (bare scope) base → HaveNeededStops scope.config.now (where_stands scope old) instructions
    (stacked (base ++ []) old.set.items) (stacked (base ++ wanted ∷ []) old.set.items))
    → All (IsAllowedIn scope) instructions → length instructions ≤ longest_leaf scope.config.now scope.types.now.types
    → new.out ≡ old.out ++ instructions → new.set.items ≡ old.set.items → new.labels.items ≡ old.labels.items → new.budget ≡ old.budget
    → IsDrawn scope [] (wanted ∷ []) 1 old new
value_drawn {old = old} {new = new} instructions typed allowed few longer set labels budget =
    let len : length new.out ≡ length old.out + length instructions = rw longer (length-append old.out instructions) in
    record {
      more = instructions;
      longer = longer;
      typed = λ base under. rw set (typed base under);
      allowed = allowed;
      set = [];
      set_more = rw append-nil set;
      same = labels;
      spent = omega arith;
      short = rw budget (omega arith);
    }

-- an `unreachable` in place of a value that no other instructions produce
pub stop_drawn : {scope : Scope} {wanted : ValType} {old new : Draft} → IsValid (bare scope) wanted
    → (IsTrue scope.config.now.disallow_traps → HasNoOther scope.config.now (where_stands scope old) old.set.items wanted)
    → new.out ≡ old.out ++ instr.Unreachable ∷ [] → new.set.items ≡ old.set.items → new.labels.items ≡ old.labels.items
    → new.budget ≡ old.budget → IsDrawn scope [] (wanted ∷ []) 1 old new
stop_drawn {scope = scope} {wanted = wanted} {old = old} {new = new} valid none longer set labels budget =
    let context = where_stands scope old in
    let given = one_valid context wanted valid in
    value_drawn {scope = scope} {wanted = wanted} {old = old} {new = new} (instr.Unreachable ∷ [])
    (λ base under.
    alone {config = scope.config.now} context instr.Unreachable [] (wanted ∷ []) (wanted ∷ []) base old.set.items old.set.items
    ([], refl, given) (IsValBelow-refl context.types wanted, tt) given under (sym (append-nil old.set.items))
    (λ disallowed is. record { none = refl; wanted = wanted; one = refl; no_other = none disallowed }))
    (one_allowed scope instr.Unreachable (stop_allowed scope)) (some_leaf scope.config.now scope.types.now.types) longer set labels budget

pub drawn_none : (scope : Scope) (draft : Draft) → IsDrawn scope [] [] 0 draft draft
drawn_none scope draft = record {
  more = [];
  longer = sym (append-nil draft.out);
  typed = λ base under. at_end scope.config.now (where_stands scope draft) (base ++ []) draft.set.items
      (joined_valid (bare scope) base [] under (All-nil (IsValid (bare scope))));
  allowed = All-nil (IsAllowedIn scope);
  set = [];
  set_more = sym (append-nil draft.set.items);
  same = refl;
  spent = omega arith;
  short = omega arith;
}

-- one part after another
pub drawn_then : {scope : Scope} {a b c : List ValType} {m n : ℕ} {old middle new : Draft} → IsDrawn scope a b m old middle
    → IsDrawn scope b c n middle new → IsDrawn scope a c (m + n) old new
drawn_then {scope = scope} {b = b} {c = c} {old = old} {middle = middle} {new = new} first second =
    let spent = first.spent in
    let spent' = second.spent in
    let short = first.short in
    let short' = second.short in
    let next : (base : List ValType) → AreValid (bare scope) base → HaveNeededStops scope.config.now (where_stands scope old) second.more
    (stacked (base ++ b) middle.set.items) (stacked (base ++ c) new.set.items) =
    λ base under. rw first.same at (second.typed base under) in
    record {
      more = first.more ++ second.more;
      longer = second.longer ∙ (ap (λ (xs : List Instr). xs ++ second.more) first.longer ∙ append_assoc old.out first.more second.more);
      typed = λ base under. in_turn (first.typed base under) (next base under);
      allowed = both_allowed scope first.more second.more first.allowed second.allowed;
      set = first.set ++ second.set;
      set_more = second.set_more ∙ (ap (λ (xs : List ℕ). xs ++ second.set) first.set_more ∙ append_assoc old.set.items first.set
          second.set);
      same = second.same ∙ first.same;
      spent = omega arith;
      short = omega arith;
    }

-- instructions drawn on top of more values
pub drawn_above : {scope : Scope} {a b : List ValType} {n : ℕ} {old new : Draft} (below : List ValType) → AreValid (bare scope) below
    → IsDrawn scope a b n old new → IsDrawn scope (below ++ a) (below ++ b) n old new
drawn_above {scope = scope} {a = a} {b = b} below valid drawn = record {
  more = drawn.more;
  longer = drawn.longer;
  typed = λ base under. rw (← append_assoc base below a, ← append_assoc base below b)
      (drawn.typed (base ++ below) (joined_valid (bare scope) base below under valid));
  allowed = drawn.allowed;
  set = drawn.set;
  set_more = drawn.set_more;
  same = drawn.same;
  spent = drawn.spent;
  short = drawn.short;
}

-- values drawn after other values
pub drawn_more : {scope : Scope} {a b : List ValType} {m n : ℕ} {old middle new : Draft} → AreValid (bare scope) a
    → IsDrawn scope [] a m old middle → IsDrawn scope [] b n middle new → IsDrawn scope [] (a ++ b) (m + n) old new
drawn_more {a = a} valid first second = drawn_then first (rw append-nil at (drawn_above a valid second))

-- instructions drawn at a greater cost
pub drawn_within : {scope : Scope} {a b : List ValType} {m n : ℕ} {old new : Draft} → m ≤ n → IsDrawn scope a b m old new
    → IsDrawn scope a b n old new
drawn_within {scope = scope} {m = m} {n = n} less drawn =
    let short = drawn.short in
    let more = times (longest_leaf scope.config.now scope.types.now.types) m n less in
    record {
      more = drawn.more;
      longer = drawn.longer;
      typed = drawn.typed;
      allowed = drawn.allowed;
      set = drawn.set;
      set_more = drawn.set_more;
      same = drawn.same;
      spent = drawn.spent;
      short = omega arith;
    }

-- drawn instructions keep the labels
pub labels_kept : {scope : Scope} {a b : List ValType} {n : ℕ} {old new : Draft} → IsDrawn scope a b n old new
    → AreLabels scope old.labels.items → AreLabels scope new.labels.items
labels_kept {scope = scope} drawn labels = subst (AreLabels scope) (sym drawn.same) labels

-- one iteration of the loop over operands
pub drawn_turn : {scope : Scope} (operands : List ValType) (n : ℕ) (d : ValType) {old middle new : Draft} → AreValid (bare scope) operands
    → n < length operands → IsDrawn scope [] (take n operands) (length (take n operands)) old middle
    → IsDrawn scope [] (get_or operands n d ∷ []) 1 middle new → IsDrawn scope [] (take (n + 1) operands) (length (take (n + 1) operands))
    old new
drawn_turn {scope = scope} operands n d valid inside first second =
    let len : length (take n operands) + 1 ≤ length (take n operands ++ get_or operands n d ∷ []) = simp length-append (omega arith) in
    rw (take_more operands n d inside) (drawn_within len (drawn_more (All-take (IsValid (bare scope)) n operands valid) first second))

replicated : {A : Type 0} (n : ℕ) (x : A) → replicate n x ++ x ∷ [] ≡ x ∷ replicate n x
replicated zero x = refl
replicated (suc n) x = ap (λ (xs : List _). x ∷ xs) (replicated n x)

-- values are dropped from the top
drops : (config : Config) (context : BodyContext) (base dropped : List ValType) (set : List ℕ) → AreValid context base
    → AreValid context dropped
    → HaveNeededStops config context (replicate (length dropped) instr.Drop) (stacked (base ++ dropped) set) (stacked base set)
drops config context base [] set valid spare = rw append-nil (at_end config context base set valid)
drops config context base (value ∷ dropped) set valid spare =
    let value_valid : IsValid context value = spare 0 value (omega arith) in
    let rest_valid : AreValid context dropped = λ k d inside. spare (suc k) d (omega arith) in
    let last : HaveNeededStops config context (instr.Drop ∷ []) (stacked (base ++ value ∷ []) set) (stacked (base ++ []) set) =
    alone context instr.Drop (value ∷ []) [] [] base set set (value, (refl, refl)) tt (All-nil (IsValid context)) valid
    (sym (append-nil set)) (λ disallowed is. cc) in
    let first : HaveNeededStops config context (replicate (length dropped) instr.Drop) (stacked (base ++ value ∷ dropped) set)
    (stacked (base ++ value ∷ []) set) =
    rw append_assoc at (drops config context (base ++ value ∷ []) dropped set (All-push (IsValid context) base value valid value_valid)
    rest_valid) in
    subst (λ (xs : List Instr). HaveNeededStops config context xs (stacked (base ++ value ∷ dropped) set) (stacked base set))
    (replicated (length dropped) instr.Drop)
    (in_turn first (rw append-nil at last))

all_allowed : (scope : Scope) (count : ℕ) → (0 < count → IsAllowedIn scope instr.Drop)
    → All (IsAllowedIn scope) (replicate count instr.Drop)
all_allowed scope zero allowed = All-nil (IsAllowedIn scope)
all_allowed scope (suc count) allowed =
    let drop : IsAllowedIn scope instr.Drop = allowed (omega arith) in
    both_allowed scope (instr.Drop ∷ []) (replicate count instr.Drop) (one_allowed scope instr.Drop drop)
    (all_allowed scope count (λ some. drop))

-- values that are dropped
pub dropped_drawn : {scope : Scope} {old new : Draft} (values dropped : List ValType) → AreValid (bare scope) values
    → AreValid (bare scope) dropped → (0 < length dropped → IsAllowedIn scope instr.Drop)
    → new.out ≡ old.out ++ replicate (length dropped) instr.Drop → new.set.items ≡ old.set.items → new.labels.items ≡ old.labels.items
    → new.budget ≡ old.budget
    → IsDrawn scope (values ++ dropped) values (length dropped) old new
dropped_drawn {scope = scope} {old = old} {new = new} values dropped valid spare allowed out set labels budget =
    let len : length new.out ≡ length old.out + length dropped = rw out (simp (length-append, length-replicate) refl) in
    let more = times_one (longest_leaf scope.config.now scope.types.now.types) (length dropped)
    (some_leaf scope.config.now scope.types.now.types) in
    record {
      more = replicate (length dropped) instr.Drop;
      longer = out;
      typed = λ base under. rw (← append_assoc base values dropped, set) (drops scope.config.now (where_stands scope old) (base ++ values)
          dropped old.set.items (joined_valid (bare scope) base values under valid) spare);
      allowed = all_allowed scope (length dropped) allowed;
      set = [];
      set_more = rw append-nil set;
      same = labels;
      spent = omega arith;
      short = rw budget (omega arith);
    }

-- an instruction after its operands
pub written_drawn : {scope : Scope} {old new : Draft} (instruction : Instr) (operands results values : List ValType) (set : Option ℕ)
    → HasInstrType (where_stands scope old) old.set.items instruction operands results → AreBelow (bare scope) results values
    → AreValid (bare scope) values → IsAllowedIn scope instruction → IsNoStop scope.config.now instruction
    → sets instruction ≡ option_to_list set → IsWritten instruction set old new → IsDrawn scope operands values 1 old new
written_drawn {scope = scope} {old = old} {new = new} instruction operands results values set typed below valid allowed goes_on local
    written =
    let context = where_stands scope old in
    let budget = written.budget in
    let then : new.set.items ≡ old.set.items ++ sets instruction = written.set_more ∙ ap (λ (set : List ℕ). old.set.items ++ set)
    (sym local) in
    let len : length new.out ≡ length old.out + 1 = rw written.out (simp length-append refl) in
    let some = some_leaf scope.config.now scope.types.now.types in
    record {
      more = instruction ∷ [];
      longer = written.out;
      typed = λ base under. alone context instruction operands results values base old.set.items new.set.items typed below valid under then
          (λ disallowed is. absurd (goes_on disallowed is));
      allowed = one_allowed scope instruction allowed;
      set = sets instruction;
      set_more = then;
      same = written.same;
      spent = omega arith;
      short = rw budget (omega arith);
    }

pay : (k w n g o m f : ℕ) → n ≤ 4 * w + 4 → 0 < f → m + k * ((4 * w + 4) * g) ≤ o + k * (n + (4 * w + 4) * (f - 1))
    → m + k * ((4 * w + 4) * g) ≤ o + k * (0 + (4 * w + 4) * f)
pay k w n g o m zero few paid short = absurd (omega arith)
pay k w n g o m (suc f) few paid short =
    let less : suc f - 1 ≡ f = omega arith in
    let short' : m + k * ((4 * w + 4) * g) ≤ o + k * (n + (4 * w + 4) * f) = rw less at short in
    let more = times k n (4 * w + 4) few in
    omega arith

-- one unit of the budget pays for the instructions of a node
pub paid_for : {scope : Scope} {a b : List ValType} {n : ℕ} {old new : Draft} → n ≤ most scope.types.now.types → 0 < old.budget
    → IsDrawn scope a b n (record old { budget = old.budget - 1 }) new → IsDrawn scope a b 0 old new
paid_for {scope = scope} {n = n} {old = old} {new = new} few paid drawn =
    let spent = drawn.spent in
    record {
      more = drawn.more;
      longer = drawn.longer;
      typed = drawn.typed;
      allowed = drawn.allowed;
      set = drawn.set;
      set_more = drawn.set_more;
      same = drawn.same;
      spent = omega arith;
      short = pay (longest_leaf scope.config.now scope.types.now.types) (widest scope.types.now.types) n new.budget (length old.out)
          (length new.out) old.budget few paid drawn.short;
    }

-- the locals that were set before remain
pub height_left : (xs ys zs : List ℕ) → zs ≡ xs ++ ys → take (length xs) zs ≡ xs
height_left xs ys zs is = rw is (take-append_seam xs ys)

pub around : (context : BodyContext) (params results values base : List ValType) (set after : List ℕ) → AreBelow context results values
    → AreValid context values → after ≡ set → IsFramed context params results [] (stacked (base ++ params) set)
    (stacked (base ++ values) after)
around context params results values base set after below valid left = record {
  rest = base;
  taken = params;
  given = values;
  under = refl;
  accepted = below_themselves context.types params;
  offered = record { below = below; valid = valid };
  over = refl;
  set_then = rw append-nil left;
}

-- an instruction as a head
pub plain_drawn : {scope : Scope} {old new : Draft} (head : Head) (instruction : Instr) (operands results values : List ValType)
    (set : Option ℕ) → head ≡ heads.Plain instruction → HasHeadType (where_stands scope old) old.set.items head operands results
    → AreBelow (bare scope) results values → AreValid (bare scope) values → IsAllowedIn scope (head_instruction head)
    → IsNoStop scope.config.now (head_instruction head) → head_sets head ≡ option_to_list set → IsWritten instruction set old new
    → IsDrawn scope operands values (block_cost scope.types.now.types) old new
plain_drawn {scope = scope} {old = old} head instruction operands results values set is typed below valid allowed goes_on local written =
    let typed' : HasInstrType (where_stands scope old) old.set.items instruction operands results = rw is at typed in
    let local' : sets instruction ≡ option_to_list set = rw is at local in
    let allowed' : IsAllowedIn scope instruction = rw is at allowed in
    let goes_on' : IsNoStop scope.config.now instruction = rw is at goes_on in
    drawn_within (omega arith) (written_drawn instruction operands results values set typed' below valid allowed' goes_on' local' written)

-- a block around the instructions drawn in it
pub enclosed : (config : Config) (opening : Opening) (context : BodyContext) (ty : BlockType) (body : List Instr)
    (params results values base : List ValType) (set inner after : List ℕ) → IsBlockType context ty params results
    → MayOpen opening params results → AreValid context results → AreBelow context results values → AreValid context values
    → AreValid context base → after ≡ set
    → HaveNeededStops config (labelled context (label_of opening params results)) body (stacked params set) (stacked results inner)
    → HaveNeededStops config context (opened opening ty ∷ (body ++ instr.End ∷ [])) (stacked (base ++ taken_by opening params) set)
    (stacked (base ++ values) after)
unfolding AreStopsNeeded around
enclosed config opening.Block context ty body params results values base set inner after fits may given below valid under left drawn =
    let end = at_end config context (base ++ values) after (joined_valid context base values under valid) in
    record {
      typed = block refl fits drawn.typed (around context params results values base set after below valid left) end.typed;
      needed = (drawn.needed, refl, end.needed);
    }
enclosed config opening.Loop context ty body params results values base set inner after fits may given below valid under left drawn =
    let end = at_end config context (base ++ values) after (joined_valid context base values under valid) in
    record {
      typed = loop refl fits drawn.typed (around context params results values base set after below valid left) end.typed;
      needed = (drawn.needed, refl, end.needed);
    }
enclosed config opening.IfAlone context ty body params results values base set inner after fits may given below valid under left drawn =
    let end = at_end config context (base ++ values) after (joined_valid context base values under valid) in
    let counts : CountsAs context params results =
    record { below = subst (AreBelow context params) may (below_themselves context.types params); valid = given } in
    record {
      typed = if_alone refl fits drawn.typed counts (around context (params ++ I32 ∷ []) results values base set after below valid
          left) end.typed;
      needed = (drawn.needed, refl, end.needed);
    }

tried : (config : Config) (context : BodyContext) (ty : BlockType) (clauses : List Catch) (body : List Instr)
    (params results values base : List ValType) (set inner after : List ℕ) → IsBlockType context ty params results
    → All (IsCatch context) clauses → AreBelow context results values → AreValid context values → AreValid context base → after ≡ set
    → HaveNeededStops config (labelled context results) body (stacked params set) (stacked results inner)
    → HaveNeededStops config context (instr.TryTable ty clauses ∷ (body ++ instr.End ∷ [])) (stacked (base ++ params) set)
    (stacked (base ++ values) after)
unfolding AreStopsNeeded around
tried config context ty clauses body params results values base set inner after fits caught below valid under left drawn =
    let end = at_end config context (base ++ values) after (joined_valid context base values under valid) in
    record {
      typed = try_table refl fits caught drawn.typed (around context params results values base set after below valid left)
          end.typed;
      needed = (drawn.needed, refl, end.needed);
    }

-- an `if` around the instructions drawn in it and in its `else`
chosen : (config : Config) (context : BodyContext) (ty : BlockType) (body other : List Instr) (params results values base : List ValType)
    (set inner inner' after : List ℕ) → IsBlockType context ty params results → AreBelow context results values → AreValid context values
    → AreValid context base → after ≡ set
    → HaveNeededStops config (labelled context results) body (stacked params set) (stacked results inner)
    → HaveNeededStops config (labelled context results) other (stacked params set) (stacked results inner')
    → HaveNeededStops config context (instr.If ty ∷ (body ++ instr.Else ∷ (other ++ instr.End ∷ [])))
    (stacked (base ++ (params ++ I32 ∷ [])) set) (stacked (base ++ values) after)
unfolding AreStopsNeeded around
chosen config context ty body other params results values base set inner inner' after fits below valid under left drawn drawn' =
    let end = at_end config context (base ++ values) after (joined_valid context base values under valid) in
    record {
      typed = if_else refl fits drawn.typed drawn'.typed (around context (params ++ I32 ∷ []) results values base set after below
          valid left) end.typed;
      needed = (drawn.needed, drawn'.needed, refl, end.needed);
    }

-- a block that this instruction opens, with any body
abbrev Encloses : Config → BodyContext → Instr → List ValType → List ValType → List ValType → List ValType → List ValType → Type 0
Encloses config context opening label params results taken values =
    (body : List Instr) (base : List ValType) (set inner after : List ℕ) → AreValid context base → after ≡ set
    → HaveNeededStops config (labelled context label) body (stacked params set) (stacked results inner)
    → HaveNeededStops config context (opening ∷ (body ++ instr.End ∷ [])) (stacked (base ++ taken) set) (stacked (base ++ values) after)

pub around_costing : {scope : Scope} {n : ℕ} {old entered inside new : Draft} (opening : Instr) (label params results taken values : List
    ValType) → Encloses scope.config.now (where_stands scope old) opening label params results taken values
    → IsAllowedIn scope opening → IsOpened opening label old entered → IsDrawn scope params results n entered inside
    → (height : ℕ) → height ≡ length old.set.items → IsEnded instr.End height inside new → new.labels.items ≡ old.labels.items
    → IsDrawn scope taken values (n + 2) old new
around_costing {scope = scope} {old = old} {entered = entered} {inside = inside} {new = new} opening label params results taken values
    encloses allowed start drawn height high ended labels =
    let end : IsEnded instr.End (length old.set.items) inside new = rw high at ended in
    let context = where_stands scope old in
    let none = All-nil (IsValid (bare scope)) in
    let typed : HaveNeededStops scope.config.now (context_of scope entered.labels.items) drawn.more (stacked params entered.set.items)
    (stacked results inside.set.items) = drawn.typed [] none in
    let inner : HaveNeededStops scope.config.now (labelled context label) drawn.more (stacked params old.set.items) (stacked results
    inside.set.items) = rw (start.labels, start.set) at typed in
    let left : new.set.items ≡ old.set.items = end.set ∙ height_left old.set.items drawn.set inside.set.items (drawn.set_more ∙ ap (λ (xs
    : List ℕ). xs ++ drawn.set) start.set) in
    let spent = drawn.spent in
    let short = drawn.short in
    let out : new.out ≡ old.out ++ (opening ∷ (drawn.more ++ instr.End ∷ [])) = rw (end.out, drawn.longer, start.out) (simp append_assoc
    refl) in
    let len : length new.out ≡ length inside.out + 1 = rw end.out (simp length-append refl) in
    let len' : length entered.out ≡ length old.out + 1 = rw start.out (simp length-append refl) in
    let same = start.budget in
    let same' = end.budget in
    let some = some_leaf scope.config.now scope.types.now.types in
    record {
      more = opening ∷ (drawn.more ++ instr.End ∷ []);
      longer = out;
      typed = λ base under. encloses drawn.more base old.set.items inside.set.items new.set.items under left inner;
      allowed = both_allowed scope (opening ∷ []) (drawn.more ++ instr.End ∷ []) (one_allowed scope opening allowed)
          (both_allowed scope drawn.more (instr.End ∷ []) drawn.allowed (one_allowed scope instr.End (ends_allowed scope)));
      set = [];
      set_more = rw append-nil left;
      same = labels;
      spent = omega arith;
      short = rw (same', ← same) (omega arith);
    }

around_drawn : {scope : Scope} {old entered inside new : Draft} (opening : Instr) (label params results taken values : List ValType)
    → Encloses scope.config.now (where_stands scope old) opening label params results taken values
    → IsAllowedIn scope opening → length params + length results ≤ widest scope.types.now.types → IsOpened opening label old entered
    → IsDrawn scope params results (length params + length results) entered inside
    → (height : ℕ) → height ≡ length old.set.items → IsEnded instr.End height inside new → new.labels.items ≡ old.labels.items
    → IsDrawn scope taken values (block_cost scope.types.now.types) old new
around_drawn opening label params results taken values encloses allowed few start drawn height high ended labels =
    drawn_within (omega arith) (around_costing opening label params results taken values encloses allowed start drawn height high ended
    labels)

pub enclosed_drawn : {scope : Scope} {old entered inside new : Draft} (opening : Opening) (ty : BlockType)
    (params results values : List ValType) → IsBlockType (bare scope) ty params results → MayOpen opening params results
    → AreValid (bare scope) results → AreBelow (bare scope) results values → AreValid (bare scope) values
    → IsAllowedIn scope (opened opening ty) → length params + length results ≤ widest scope.types.now.types
    → IsOpened (opened opening ty) (label_of opening params results) old entered
    → IsDrawn scope params results (length params + length results) entered inside
    → (height : ℕ) → height ≡ length old.set.items → IsEnded instr.End height inside new → new.labels.items ≡ old.labels.items
    → IsDrawn scope (taken_by opening params) values (block_cost scope.types.now.types) old new
enclosed_drawn {scope = scope} {old = old} opening ty params results values fits may given below valid allowed few start drawn height high
    ended labels =
    around_drawn (opened opening ty) (label_of opening params results) params results (taken_by opening params) values
    (λ body base set inner after under left typed. enclosed scope.config.now opening (where_stands scope old) ty body params results values
    base set inner after fits may given below valid under left typed) allowed few start drawn height high ended labels

pub try_drawn : {scope : Scope} {old entered inside new : Draft} (ty : BlockType) (clauses : List Catch)
    (params results values : List ValType) → IsBlockType (bare scope) ty params results → All (IsCatch (where_stands scope old)) clauses
    → AreBelow (bare scope) results values → AreValid (bare scope) values
    → IsAllowedIn scope (instr.TryTable ty clauses) → length params + length results ≤ widest scope.types.now.types
    → IsOpened (instr.TryTable ty clauses) results old entered → IsDrawn scope params results (length params + length results) entered
    inside
    → (height : ℕ) → height ≡ length old.set.items → IsEnded instr.End height inside new → new.labels.items ≡ old.labels.items
    → IsDrawn scope params values (block_cost scope.types.now.types) old new
try_drawn {scope = scope} {old = old} ty clauses params results values fits caught below valid allowed few start drawn height high ended
    labels =
    around_drawn (instr.TryTable ty clauses) results params results params values
    (λ body base set inner after under left typed. tried scope.config.now (where_stands scope old) ty clauses body params results values
    base set inner after fits caught below valid under left typed)
    allowed few start drawn height high ended labels

pub if_drawn : {scope : Scope} {old entered first other last new : Draft} (ty : BlockType) (params results values : List ValType)
    → IsBlockType (bare scope) ty params results → AreBelow (bare scope) results values → AreValid (bare scope) values
    → IsAllowedIn scope (instr.If ty) → length params + length results ≤ widest scope.types.now.types
    → IsOpened (instr.If ty) results old entered → IsDrawn scope params results (length params + length results) entered first
    → (height : ℕ) → height ≡ length old.set.items → IsEnded instr.Else height first other → other.labels.items ≡ first.labels.items
    → IsDrawn scope params results (length params + length results) other last
    → IsEnded instr.End height last new → new.labels.items ≡ old.labels.items → IsDrawn scope (params ++ I32 ∷ []) values
    (block_cost scope.types.now.types) old new
if_drawn {scope = scope} {old = old} {entered = entered} {first = first} {other = other} {last = last} {new = new} ty params results values
    fits below valid allowed few start drawn height high split between drawn' ended labels =
    let middle : IsEnded instr.Else (length old.set.items) first other = rw high at split in
    let end : IsEnded instr.End (length old.set.items) last new = rw high at ended in
    let context = where_stands scope old in
    let typed : HaveNeededStops scope.config.now (context_of scope entered.labels.items) drawn.more (stacked params entered.set.items)
    (stacked results first.set.items) = drawn.typed [] (All-nil (IsValid (bare scope))) in
    let inner : HaveNeededStops scope.config.now (labelled context results) drawn.more (stacked params old.set.items)
    (stacked results first.set.items) = rw (start.labels, start.set) at typed in
    let reset : other.set.items ≡ old.set.items = middle.set ∙ height_left old.set.items drawn.set first.set.items
    (drawn.set_more ∙ ap (λ (xs : List ℕ). xs ++ drawn.set) start.set) in
    let labels' : other.labels.items ≡ results ∷ old.labels.items = between ∙ (drawn.same ∙ start.labels) in
    let typed' : HaveNeededStops scope.config.now (context_of scope other.labels.items) drawn'.more (stacked params other.set.items)
    (stacked results last.set.items) = drawn'.typed [] (All-nil (IsValid (bare scope))) in
    let inner' : HaveNeededStops scope.config.now (labelled context results) drawn'.more (stacked params old.set.items)
    (stacked results last.set.items) = rw (labels', reset) at typed' in
    let left : new.set.items ≡ old.set.items = end.set ∙ height_left old.set.items drawn'.set last.set.items
    (drawn'.set_more ∙ ap (λ (xs : List ℕ). xs ++ drawn'.set) reset) in
    let spent = drawn.spent in
    let short = drawn.short in
    let spent' = drawn'.spent in
    let short' = drawn'.short in
    let out : new.out ≡ old.out ++ (instr.If ty ∷ (drawn.more ++ instr.Else ∷ (drawn'.more ++ instr.End ∷ []))) =
    rw (end.out, drawn'.longer, middle.out, drawn.longer, start.out) (simp append_assoc refl) in
    let len : length new.out ≡ length last.out + 1 = rw end.out (simp length-append refl) in
    let len' : length entered.out ≡ length old.out + 1 = rw start.out (simp length-append refl) in
    let len'' : length other.out ≡ length first.out + 1 = rw middle.out (simp length-append refl) in
    let same = start.budget in
    let same' = end.budget in
    let same'' = middle.budget in
    let longest = longest_leaf scope.config.now scope.types.now.types in
    let unit = most scope.types.now.types in
    let few' = times longest (length params + length results) (widest scope.types.now.types) few in
    let some = some_leaf scope.config.now scope.types.now.types in
    let most' : length first.out + longest * (unit * first.budget) ≤ length entered.out + longest *
    ((length params + length results) + unit * old.budget) = rw same at short in
    let most'' : length last.out + longest * (unit * last.budget) ≤ length other.out + longest *
    ((length params + length results) + unit * first.budget) = rw same'' at short' in
    record {
      more = instr.If ty ∷ (drawn.more ++ instr.Else ∷ (drawn'.more ++ instr.End ∷ []));
      longer = out;
      typed = λ base under. chosen scope.config.now context ty drawn.more drawn'.more params results values base old.set.items
          first.set.items last.set.items new.set.items fits below valid under left inner inner';
      allowed = both_allowed scope (instr.If ty ∷ []) (drawn.more ++ instr.Else ∷ (drawn'.more ++ instr.End ∷ []))
          (one_allowed scope (instr.If ty) allowed)
          (both_allowed scope drawn.more (instr.Else ∷ (drawn'.more ++ instr.End ∷ [])) drawn.allowed
          (both_allowed scope (instr.Else ∷ []) (drawn'.more ++ instr.End ∷ []) (one_allowed scope instr.Else (else_allowed scope))
          (both_allowed scope drawn'.more (instr.End ∷ []) drawn'.allowed (one_allowed scope instr.End (ends_allowed scope)))));
      set = [];
      set_more = rw append-nil left;
      same = labels;
      spent = omega arith;
      short = rw same' (omega arith);
    }

-- instructions drawn from an empty draft are a body
pub body_needed : {scope : Scope} {start new : Draft} → IsDrawn scope [] scope.results.now (length scope.results.now) start new
    → start.out ≡ [] → start.set.items ≡ [] → start.labels.items ≡ scope.results.now ∷ []
    → HasNeededStops scope.config.now (bare scope) new.out
body_needed {scope = scope} {start = start} {new = new} drawn empty unset label =
    let typed : HaveNeededStops scope.config.now (context_of scope start.labels.items) drawn.more (stacked [] start.set.items)
    (stacked scope.results.now new.set.items) = drawn.typed [] (All-nil (IsValid (bare scope))) in
    let standing : HaveNeededStops scope.config.now (context_of scope (scope.results.now ∷ [])) drawn.more (stacked [] [])
    (stacked scope.results.now new.set.items) = rw (label, unset) at typed in
    rw (drawn.longer, empty) (record { typed = record { set = new.set.items; typed = standing.typed }; needed = standing.needed })

pub body_allowed : {scope : Scope} {start new : Draft} → IsDrawn scope [] scope.results.now (length scope.results.now) start new
    → start.out ≡ [] → All (IsAllowedIn scope) new.out
body_allowed drawn empty = rw (drawn.longer, empty) drawn.allowed

pub body_short : {scope : Scope} {start new : Draft} → IsDrawn scope [] scope.results.now (length scope.results.now) start new
    → start.out ≡ [] → length new.out ≤ longest_leaf scope.config.now scope.types.now.types *
    (length scope.results.now + most scope.types.now.types * start.budget)
body_short {scope = scope} {start = start} {new = new} drawn empty =
    let short = drawn.short in
    let none : length start.out ≡ 0 = rw empty refl in
    omega arith
