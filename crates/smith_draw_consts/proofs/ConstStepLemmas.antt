-- Values appended one after another: their instructions, length, fuel and errors.
use Rattle.smith_draw_consts.proofs.Common.{[], ap, arith, Config, ConstInstr, Context, Err, Error, I32, IsErrAnd, length, length-append}
use Rattle.smith_draw_consts.proofs.Common.{List, map, Ok, OnOk, refl, Result, subst, SubType, suc, sym, ValType, zero, ℕ, ◌*◌, ◌++◌, ◌+◌}
use Rattle.smith_draw_consts.proofs.Common.{◌-◌, ◌<◌, ◌∷◌, ◌≡◌, ◌≤◌}
use Rattle.std.proofs.Common.{ℤ}
use Rattle.std.specs.Prelude.{IfErr}
use Rattle.smith_types.specs.Syntax.const_instr.ConstInstr.TheVariants as instr
use Rattle.smith_draw_consts.specs.Putting.{Puts}
use Rattle.smith_draw_consts.specs.ConstBounds.{widest}
use Rattle.smith_draw_consts.specs.ConstSteps.{operand_type, IsDrawn, IsNode, IsFit}
use Rattle.smith_draw_consts.specs.ConstNodes.{node_at}
use Rattle.smith_draw_consts.specs.declared.node_choice.Choice.{Choice}
use Rattle.smith_draw_consts.specs.declared.node.Node.{Node}
use Rattle.smith_draw_consts.proofs.PuttingLemmas.{puts_none, puts_more, puts_by, below_itself}

pub drawn_none : (context : Context) (old : List ConstInstr) (fuel : ℕ) → IsDrawn context [] old fuel old fuel
drawn_none context old fuel = record { puts = puts_none context old; spent = omega arith; short = omega arith }

pub drawn_more : {context : Context} {values more : List ValType} {old middle new : List ConstInstr} {fuel rest left : ℕ}
    → IsDrawn context values old fuel middle rest → IsDrawn context more middle rest new left
    → IsDrawn context (values ++ more) old fuel new left
drawn_more {context = context} {values = values} {more = more} {old = old} {middle = middle} {new = new} first second =
    let spent = first.spent in
    let spent' = second.spent in
    let short = first.short in
    let short' = second.short in
    record {
      puts = puts_more context values more old middle new first.puts second.puts;
      spent = omega arith;
      short = simp length-append (omega arith);
    }

pub length_map : {A B : Type 0} (f : A → B) (xs : List A) → length (map f xs) ≡ length xs
length_map f [] = refl
length_map f (x ∷ xs) = ap suc (length_map f xs)

spend : (w l g m o n f : ℕ) → l ≤ w → (0 < l → 0 < f) → m + 23 * w * g ≤ o + 23 * l + 23 * w * (f - 1) → n ≡ m + 1
    → n + 23 * w * g ≤ o + 23 + 23 * w * f
spend w zero g m o n zero few paid short longer = omega arith
spend w (suc l) g m o n zero few paid short longer = let never : 0 < 0 = paid (omega arith) in absurd (omega arith)
spend w l g m o n (suc f) few paid short longer =
    let less : suc f - 1 ≡ f = omega arith in
    let short' : m + 23 * w * g ≤ o + 23 * l + 23 * w * f = rw less at short in
    omega arith

-- a node after its operands
pub drawn_by : {config : Config} {context : Context} {wanted : ValType} {fuel left : ℕ} {node : Node} {old middle new : List ConstInstr}
    → IsNode config context wanted fuel node → IsDrawn context (map operand_type node.operands) old (fuel - 1) middle left
    → new ≡ middle ++ node.instruction ∷ []
    → IsDrawn context (wanted ∷ []) old fuel new left
drawn_by {context = context} {wanted = wanted} {fuel = fuel} {left = left} {node = node} {old = old} {middle = middle} {new = new} fits
    drawn longer =
    let spent = drawn.spent in
    let len : length new ≡ length middle + 1 = rw longer (simp length-append refl) in
    record {
      puts = puts_by context node.instruction (map operand_type node.operands) fits.result wanted old middle new drawn.puts longer
          fits.typed fits.below fits.enabled;
      spent = omega arith;
      short = spend (widest context.types) (length node.operands) left (length middle) (length old) (length new) fuel fits.few fits.paid
          (rw (length_map operand_type node.operands) at drawn.short) len;
    }

times_less : (w f g : ℕ) → g ≤ f → w * g ≤ w * f
times_less w f g less = grind (arith)

-- a length that takes that much of the fuel
pub drawn_length : {context : Context} {fuel left : ℕ} (n : ℤ) {old new : List ConstInstr} → new ≡ old ++ instr.I32Const n ∷ []
    → left ≤ fuel → IsDrawn context (I32 ∷ []) old fuel new left
drawn_length {context = context} {fuel = fuel} {left = left} n {old = old} {new = new} longer less =
    let len : length new ≡ length old + 1 = rw longer (simp length-append refl) in
    let cost : 23 * widest context.types * left ≤ 23 * widest context.types * fuel = times_less (23 * widest context.types) fuel left
    less in
    record {
      puts = puts_by context (instr.I32Const n) [] I32 I32 old old new (puts_none context old) longer (refl, refl)
          (below_itself context I32) tt;
      spent = less;
      short = omega arith;
    }

-- an extended constant
pub drawn_extended : {context : Context} {wanted : ValType} {fuel left : ℕ} {old new : List ConstInstr} → Puts context (wanted ∷ []) old new
    → length new ≤ length old + 23 → left ≤ fuel → IsDrawn context (wanted ∷ []) old fuel new left
drawn_extended {context = context} {fuel = fuel} {left = left} puts short less =
    let cost : 23 * widest context.types * left ≤ 23 * widest context.types * fuel = times_less (23 * widest context.types) fuel left
    less in
    record { puts = puts; spent = less; short = omega arith }

-- two properties of a successful result, together
pub ok_both : {T E P Q R : Type 0} (r : Result T E) → (P → Q → R) → OnOk r P → OnOk r Q → OnOk r R
ok_both (Ok x) f p q = f p q
ok_both (Err e) f p q = tt

-- a property of an error passed on by `?`
pub passed_on : {T : Type 0} (Q : Error → Type 0) (r : Result T Error) (e : Error) → IsErrAnd r (λ y. y ≡ e) → Q e → IfErr r Q
passed_on Q (Ok x) e h q = tt
passed_on Q (Err y) e h q = subst Q (sym h) q

-- the node made of a choice that fits
pub node_made : (config : Config) (context : Context) (wanted : ValType) (fuel : ℕ) (choice : Choice) (types : List SubType)
    (bytes : List ℕ) (node : Node) (after : List ℕ) → types ≡ context.types → IsFit config context wanted fuel choice
    → node_at types wanted choice bytes ≡ (node, after) → IsNode config context wanted fuel node
node_made config context wanted fuel choice types bytes node after sees fits drawn =
    subst (IsNode config context wanted fuel) (ap (λ (d : Node × List ℕ). d.0) (rw sees at drawn)) (fits.node bytes)
