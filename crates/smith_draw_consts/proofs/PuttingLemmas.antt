-- Concatenated instructions, and the values that they leave.
use Rattle.smith_draw_consts.proofs.Common.{[], All, All-nil, All-push, ap, append-nil, append_assoc, ConstInstr, Context, F32, F64}
use Rattle.smith_draw_consts.proofs.Common.{HasType, I32, I64, IsInstrEnabled, IsValBelow, List, Ref, refl, subst, sym, V128, ValType, ◌++◌}
use Rattle.smith_draw_consts.proofs.Common.{◌∷◌, ◌≡◌}
use Rattle.std.specs.List.{AllZip}
use Rattle.std.proofs.lemmas.List.Elements.{All-append}
use Rattle.smith_types.specs.Expressions.{AreStackSteps, IsConstExpr, IsStackStep}
use Rattle.smith_types.specs.Subtyping.{itself}
use Rattle.smith_types.proofs.ConstStepLemmas.{one_step}
use Rattle.smith_draw_consts.specs.Putting.{Puts, Adds}

-- concatenated steps
pub steps_append : (context : Context) (xs ys : List ConstInstr) (a b c : List ValType) → AreStackSteps context xs a b
    → AreStackSteps context ys b c → AreStackSteps context (xs ++ ys) a c
steps_append context [] ys a b c first second = rw first second
steps_append context (x ∷ xs) ys a b c (between, step, first) second = (between, step, steps_append context xs ys between b c first second)

zip_append : {A B : Type 0} (R : A → B → Type 0) (xs zs : List A) (ys ws : List B) → AllZip R xs ys → AllZip R zs ws
    → AllZip R (xs ++ zs) (ys ++ ws)
zip_append R [] zs [] ws h k = k
zip_append R [] zs (y ∷ ys) ws h k = absurd h
zip_append R (x ∷ xs) zs [] ws h k = absurd h
zip_append R (x ∷ xs) zs (y ∷ ys) ws (p, h) k = (p, zip_append R xs zs ys ws h k)

-- a relation to a concatenation splits into two parts
zip_split : {A B : Type 0} (R : A → B → Type 0) (xs : List A) (ys ws : List B) → AllZip R xs (ys ++ ws) → (front : List A) × (back : List A)
    × (xs ≡ front ++ back) × AllZip R front ys × AllZip R back ws
zip_split R xs [] ws h = ([], xs, refl, tt, h)
zip_split R [] (y ∷ ys) ws h = absurd h
zip_split R (x ∷ xs) (y ∷ ys) ws (p, h) =
    let (front, back, is, left, right) = zip_split R xs ys ws h in
    (x ∷ front, back, ap (λ (zs : List _). x ∷ zs) is, (p, left), right)

pub below_itself : (context : Context) (value : ValType) → IsValBelow context.types value value
below_itself context I32 = tt
below_itself context I64 = tt
below_itself context F32 = tt
below_itself context F64 = tt
below_itself context V128 = tt
below_itself context (Ref reference) = record { heap = itself; nullable = λ h. h }

-- nothing is appended
pub puts_none : (context : Context) (old : List ConstInstr) → Puts context [] old old
puts_none context old = record { put = λ base h. rw (append-nil base) h }

-- one more value is appended
pub puts_more : (context : Context) (wanted more : List ValType) (old middle new : List ConstInstr) → Puts context wanted old middle
    → Puts context more middle new → Puts context (wanted ++ more) old new
puts_more context wanted more old middle new first second =
    record { put = λ base h. rw (← append_assoc base wanted more) (second.put (base ++ wanted) (first.put base h)) }

-- an instruction takes the appended values and pushes one
pub puts_by : (context : Context) (instruction : ConstInstr) (operands : List ValType) (result wanted : ValType)
    (old middle new : List ConstInstr)
    → Puts context operands old middle → new ≡ middle ++ instruction ∷ [] → HasType context instruction operands result
    → IsValBelow context.types result wanted → IsInstrEnabled context.features context.imported_globals instruction
    → Puts context (wanted ∷ []) old new
puts_by context instruction operands result wanted old middle new first longer typed below enabled = record {
  put = λ base h.
      let now = first.put base h in
      let (front, back, is, left, right) = zip_split (IsValBelow context.types) now.values base operands now.below in
      let step = one_step context instruction operands result front back typed right in
      let all : AreStackSteps context (middle ++ instruction ∷ []) [] (front ++ result ∷ []) =
      steps_append context middle (instruction ∷ []) [] now.values (front ++ result ∷ []) now.steps (
        front ++ result ∷ [],
        subst (λ (v : List ValType). IsStackStep context instruction v (front ++ result ∷ [])) (sym is) step,
        refl,
      ) in
      rw longer (record {
        values = front ++ result ∷ [];
        steps = all;
        below = zip_append (IsValBelow context.types) front (result ∷ []) base (wanted ∷ []) left (below, tt);
        enabled = All-push (IsInstrEnabled context.features context.imported_globals) middle instruction now.enabled enabled;
      });
}

-- instructions that add a value are appended
pub puts_adds : (context : Context) (wanted : ValType) (more old new : List ConstInstr) → Adds context wanted more → new ≡ old ++ more
    → Puts context (wanted ∷ []) old new
puts_adds context wanted more old new adds longer = record {
  put = λ base h.
      rw longer (record {
        values = h.values ++ wanted ∷ [];
        steps = steps_append context old more [] h.values (h.values ++ wanted ∷ []) h.steps (adds.steps h.values);
        below = zip_append (IsValBelow context.types) h.values (wanted ∷ []) base (wanted ∷ []) h.below (below_itself context wanted, tt);
        enabled = All-append (IsInstrEnabled context.features context.imported_globals) old more h.enabled adds.enabled;
      });
}

alone_below : (context : Context) (wanted : ValType) (expression : List ConstInstr) (values : List ValType)
    → AreStackSteps context expression [] values → AllZip (IsValBelow context.types) values (wanted ∷ [])
    → All (IsInstrEnabled context.features context.imported_globals) expression
    → IsConstExpr context wanted expression
alone_below context wanted expression [] steps below enabled = absurd below
alone_below context wanted expression (value ∷ []) steps below enabled =
    record { value = value; steps = steps; below = below.0; enabled = enabled }
alone_below context wanted expression (value ∷ other ∷ values) steps below enabled = absurd below.1

-- instructions appended to nothing are a constant expression
pub expression_of : (context : Context) (wanted : ValType) (expression : List ConstInstr) → Puts context (wanted ∷ []) [] expression
    → IsConstExpr context wanted expression
expression_of context wanted expression puts =
    let all = puts.put []
    (record { values = []; steps = refl; below = tt; enabled = All-nil (IsInstrEnabled context.features context.imported_globals) }) in
    alone_below context wanted expression all.values all.steps all.below all.enabled
