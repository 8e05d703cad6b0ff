-- A constant is drawn from a source that starts with its spelling.
use Rattle.smith_draw_consts.proofs.Common.{[], ap, Bool, choose_at, Config, ConstInstr, Context, digit_count, drop, false, GlobalType, I32}
use Rattle.smith_draw_consts.proofs.Common.{is_val_below, length, List, not, range_at, recursion_from_All, refl, same_Some, suc, sym, take}
use Rattle.smith_draw_consts.proofs.Common.{true, ValType, zero, ℕ, ◌&&◌, ◌++◌, ◌+◌, ◌∙◌, ◌∷◌, ◌≡◌}
use Rattle.std.proofs.Common.{Some}
use Rattle.std.proofs.Math.Seq.{take-append_seam}
use Rattle.smith_bytes.specs.Draws.{little_endian, whole_at}
use Rattle.smith_bytes.specs.Spelling.{SpellsNumber, Where}
use Rattle.smith_bytes.specs.Takes.{Takes}
use Rattle.smith_bytes.proofs.SpelledLemmas.{joined_parts, number_read}
use Rattle.smith_draw_consts.specs.Constants.{constant_at}
use Rattle.smith_draw_consts.specs.ConstOffers.{each_from, offered_if, global_offers, readable_globals, offers}
use Rattle.smith_draw_consts.specs.ConstNodes.{node_at}
use Rattle.smith_draw_consts.specs.ConstExprs.{expression_at, expression_alone_at}
use Rattle.smith_draw_types.specs.SpelledConstants.{SpellsConstExpr}
use Rattle.std.specs.List.{AllByRecursion as Each}
use Rattle.smith_draw_consts.specs.ExampleConstExprs.{MutableGlobalsAreNotRead}
use Rattle.smith_draw_consts.specs.declared.node_choice.Choice.{Choice}
use Rattle.smith_draw_consts.specs.declared.node_choice.Choice.TheVariants as choice

-- if no global may be read, none is offered
none_offered : (b : Bool) (index : ℕ) (rest : List ℕ) (choices : List Choice) → offered_if b index ++ rest ≡ [] → (rest ≡ [] → choices ≡ [])
    → offered_if b (choice.Global index) ++ choices ≡ []
none_offered true index rest choices h more = cc
none_offered false index rest choices h more = more h

no_globals : (context : Context) (wanted : ValType) (start : ℕ) (globals : List GlobalType)
    → each_from (λ index (global : GlobalType). offered_if (not global.mutable && is_val_below context.types global.val_type wanted) index)
    start globals ≡ [] → each_from (global_offers context wanted) start globals ≡ []
no_globals context wanted start [] h = refl
no_globals context wanted start (g ∷ globals) h =
    none_offered (not g.mutable && is_val_below context.types g.val_type wanted) start _ _ h (no_globals context wanted (start + 1) globals)

-- if each global is mutable, none may be read
mutable_each : (context : Context) (wanted : ValType) (start n : ℕ) (globals : List GlobalType)
    → Each (λ (global : GlobalType). global.mutable ≡ true) globals
    → each_from (λ index (global : GlobalType). offered_if (not global.mutable && is_val_below context.types global.val_type wanted) index)
    start (take n globals) ≡ []
mutable_each context wanted start zero globals h = refl
mutable_each context wanted start (suc n) [] h = refl
mutable_each context wanted start (suc n) (g ∷ globals) (p, h) = rw p (mutable_each context wanted (start + 1) n globals h)

pub mutable_not_read : MutableGlobalsAreNotRead
mutable_not_read context wanted mutable = mutable_each context wanted 0 context.visible context.globals
    (recursion_from_All (λ (global : GlobalType). global.mutable ≡ true) context.globals mutable)

-- a constant, and an extended one if enabled
i32_offers : (config : Config) (context : Context) (fuel : ℕ) → readable_globals context I32 ≡ [] → offers config context I32 fuel
    ≡ choice.Constant ∷ offered_if context.features.extended_const choice.Extended
unfolding offers
i32_offers config context fuel unread =
    rw (no_globals context I32 0 (take context.visible context.globals) unread) (plain context.features.extended_const)
  where
    plain : (b : Bool) → choice.Constant ∷ (offered_if b choice.Extended ++ []) ≡ choice.Constant ∷ offered_if b choice.Extended
    plain true = refl
    plain false = refl

-- a single item is chosen without a draw
first_alone : {A : Type 0} (x : A) (bytes : List ℕ) → choose_at (x ∷ []) bytes ≡ (Some x, bytes)
unfolding choose_at range_at digit_count
first_alone x bytes = refl

-- the first of them is chosen
constant_chosen : (b : Bool) (piece after : List ℕ) → Where b (SpellsNumber 0 0 1) piece
    → choose_at (choice.Constant ∷ offered_if b choice.Extended) (piece ++ after) ≡ (Some choice.Constant, after)
unfolding choose_at
constant_chosen true piece after h =
    let drawn = number_read 0 0 1 piece after h in
    rw drawn refl
constant_chosen false piece after h = rw h (first_alone choice.Constant after)

drop_seam : (piece after : List ℕ) → drop (length piece) (piece ++ after) ≡ after
drop_seam [] after = refl
drop_seam (b ∷ piece) after = drop_seam piece after

word_read : (word after : List ℕ) → length word ≡ 4 → whole_at 4 (word ++ after) ≡ (little_endian word, after)
unfolding whole_at
word_read word after four = rw (← four, take-append_seam word after, drop_seam word after) refl

-- a spelled constant is read
pub constant_read : (context : Context) (fuel : ℕ) (config : Config) (expression : List ConstInstr) (piece after : List ℕ)
    → readable_globals context I32 ≡ [] → context.features.extended_const ≡ config.extended_const_enabled
    → SpellsConstExpr config expression piece
    → expression_alone_at context config fuel I32 (piece ++ after) ≡ Some (expression, after)
unfolding expression_alone_at expression_at node_at constant_at
constant_read context fuel config expression piece after unread same h =
    let word = h.spelled.second in
    let read = word_read word after h.spelled.is_second.four in
    let chosen = constant_chosen config.extended_const_enabled h.spelled.first (word ++ after) h.spelled.is_first in
    rw (joined_parts h.spelled after, i32_offers config context fuel unread, same, chosen, read, h.alone, h.spelled.is_second.read) refl

pub constant_taken : (context : Context) (fuel : ℕ) (config : Config) (old : List ℕ) (drawn : List ConstInstr) (new : List ℕ)
    → readable_globals context I32 ≡ [] → context.features.extended_const ≡ config.extended_const_enabled
    → expression_alone_at context config fuel I32 old ≡ Some (drawn, new)
    → Takes (SpellsConstExpr config) old drawn new
constant_taken context fuel config old drawn new unread enabled reads =
    let same = λ (value : List ConstInstr) (piece after : List ℕ) (h : SpellsConstExpr config value piece) (starts : old ≡ piece ++ after).
    same_Some _ _ (sym reads ∙ ap (expression_alone_at context config fuel I32) starts ∙ constant_read context fuel config value piece after
    unread enabled h) in
    record {
      made = λ value piece after h starts. ap (λ (s : List ConstInstr × List ℕ). s.0) (same value piece after h starts);
      left = λ value piece after h starts. ap (λ (s : List ConstInstr × List ℕ). s.1) (same value piece after h starts);
    }
