-- Globals that are not offered for a wider type are not offered.
use Rattle.smith_draw_consts.proofs.Common.{arith, Bool, Context, false, get_or, GlobalType, IfSome, is_val_below, IsOrderly, length, List}
use Rattle.smith_draw_consts.proofs.Common.{not, refl, Some, subst, SubType, suc, sym, true, val_decides, ValType, zero, ℕ, ◌&&◌, ◌+◌, ◌-◌}
use Rattle.smith_draw_consts.proofs.Common.{◌<◌, ◌≡◌, ◌≤◌}
use Rattle.std.proofs.Common.{Bor, None, Option}
use Rattle.smith_types.proofs.GrowthLemmas.{IsValBelow-trans}
use Rattle.smith_draw_consts.specs.ConstOffers.{global_offers, offered_if}
use Rattle.smith_draw_consts.specs.KeptOffers.{IsCounted, IsWiderOffer, offered_before}
use Rattle.smith_draw_consts.specs.declared.kept_offers.KeptOffer.{KeptOffer}
use Rattle.smith_draw_consts.specs.declared.node_choice.Choice.TheVariants as choice
use Rattle.smith_draw_consts.proofs.KeptOfferLemmas.{offered_more, offered_rising}

below_wider : (types : List SubType) → IsOrderly types → (a b c : ValType) → is_val_below types b c ≡ true → is_val_below types a b ≡ true
    → is_val_below types a c ≡ true
below_wider types orderly a b c wider below =
    (val_decides types orderly a c).1 (IsValBelow-trans types a b c ((val_decides types orderly a b).0 below)
    ((val_decides types orderly b c).0 wider))

both_narrower : {B : Type 0} (a b c : Bool) (x : B) → (b ≡ true → c ≡ true) → length (offered_if (a && b) x) ≤ length
    (offered_if (a && c) x)
both_narrower false b c x wider = omega arith
both_narrower true false c x wider = omega arith
both_narrower true true c x wider = let always : c ≡ true = wider refl in subst (λ (test : Bool). 1 ≤ length (offered_if test x))
    (sym always) (omega arith)

-- among any globals in turn, no more are offered than for a wider type
fewer : (context : Context) (wanted : ValType) (wide : KeptOffer) (d : GlobalType) → IsOrderly context.types
    → IsWiderOffer context wanted wide → (first more : ℕ) → first + more ≤ length context.globals
    → offered_before (global_offers context wanted) context.globals (first + more) + offered_before (global_offers context wide.wanted)
    context.globals first
    ≤ offered_before (global_offers context wanted) context.globals first + offered_before (global_offers context wide.wanted)
    context.globals (first + more)
fewer context wanted wide d orderly wider first zero inside =
    let same : first + 0 ≡ first = omega arith in
    rw same (omega arith)
fewer context wanted wide d orderly wider first (suc more) inside =
    let here = first + more in
    let next : first + suc more ≡ here + 1 = omega arith in
    let global : GlobalType = get_or context.globals here d in
    let narrow = offered_more (global_offers context wanted) context.globals here d (omega arith) in
    let broad = offered_more (global_offers context wide.wanted) context.globals here d (omega arith) in
    let one = both_narrower (not global.mutable) (is_val_below context.types global.val_type wanted)
    (is_val_below context.types global.val_type wide.wanted) (choice.Global here)
    (below_wider context.types orderly global.val_type wanted wide.wanted wider.wider) in
    rw next (omega (arith, fewer context wanted wide d orderly wider first more (omega arith), narrow, broad, one))

-- globals that an entry for a wider type excludes are not offered
pub excluded : (context : Context) (wanted : ValType) (first end : ℕ) (wider : Option (Bor KeptOffer)) → IsOrderly context.types
    → IfSome wider (λ offer. IsWiderOffer context wanted offer.now) → first < end → end ≤ length context.globals
    → ((before : ℕ → ℕ) → IfSome wider (λ offer. IsCounted before offer.now.globals) → ((m n : ℕ) → m ≤ n → before m ≤ before n)
    → before end ≡ before first)
    → offered_before (global_offers context wanted) context.globals end ≡ offered_before (global_offers context wanted) context.globals
    first
excluded context wanted first end None orderly wider some inside none = absurd (omega (arith, none (λ n. n) tt (λ m n le. le)))
excluded context wanted first end (Some offer) orderly wider some inside none =
    let d : GlobalType = record { val_type = wanted; mutable = false; shared = false } in
    let same : first + (end - first) ≡ end = omega arith in
    let none_wide = none (offered_before (global_offers context offer.now.wanted) context.globals) wider.kept.globals
    (offered_rising (global_offers context offer.now.wanted) context.globals) in
    let few = fewer context wanted offer.now d orderly wider first (end - first) (omega arith) in
    let all = offered_rising (global_offers context wanted) context.globals first end (omega arith) in
    omega (
      arith,
      none_wide,
      all,
      subst (λ (n : ℕ). offered_before (global_offers context wanted) context.globals n + offered_before
          (global_offers context offer.now.wanted) context.globals first ≤ offered_before (global_offers context wanted) context.globals
          first
          + offered_before (global_offers context offer.now.wanted) context.globals n) same few,
    )
