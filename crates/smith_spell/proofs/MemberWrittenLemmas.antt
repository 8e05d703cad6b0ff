-- A member of the family, written by its parts.
use Rattle.smith_spell.proofs.Common.{[], All, arith, Bool, Config, false, get_or, Joined, length, List, lt-ltb, nat_lt, refl, space_of}
use Rattle.smith_spell.proofs.Common.{SpellsFuncs, SpellsGroups, SubType, suc, true, ℕ, ◌∷◌, ◌≡◌}
use Rattle.std.proofs.Common.{cond}
use Rattle.std.specs.Prelude.{◌||◌}
use Rattle.std.specs.List.{list_any}
use Rattle.smith_bytes.specs.Spelling.{SpellsAnyByte, SpellsNone}
use Rattle.smith_draw_types.specs.TypeUses.{places_from}
use Rattle.smith_spell.specs.Family.{IsInFamily}
use Rattle.smith_spell.specs.Spelling.{SpellsMember}
use Rattle.smith_draw_types.specs.SpelledParts.{SpellsNoTag}
use Rattle.smith_spell.specs.Written.{Writes}
use Rattle.smith_spell.proofs.WrittenLemmas.{joined_written, regrouped, written_as}
use Rattle.smith_spell.proofs.GroupsWrittenLoop.{at_place}

any_turn : (b : Bool) (n : ℕ) (places : List ℕ) (rest : Bool) → nat_lt 0 (length places) ≡ rest
    → nat_lt 0 (length (cond b (n ∷ places) places)) ≡ (b || rest)
any_turn true n places rest h = lt-ltb 0 (length (n ∷ places)) (omega arith)
any_turn false n places rest h = h

-- some item passes a test exactly if its places are not empty
pub some_passes : {A : Type 0} (test : A → Bool) (n : ℕ) (xs : List A) → nat_lt 0 (length (places_from test n xs)) ≡ list_any test xs
some_passes test n [] = refl
some_passes test n (x ∷ xs) = any_turn (test x) n (places_from test (suc n) xs) (list_any test xs) (some_passes test (suc n) xs)

-- the types of a member are unshared
pub member_unshared : (config : Config) (groups : List (List SubType)) (funcs : List ℕ) → IsInFamily config groups funcs
    → All (λ (t : SubType). t.composite_type.shared ≡ false) (space_of groups).types
member_unshared config groups funcs member =
    λ k d inside. (member.each_type k (get_or (space_of groups).types k d) (at_place (space_of groups).types k d inside)).unshared

-- groups, no import and a flag, no tag, functions
pub member_written : (config : Config) (groups : List (List SubType)) (funcs : List ℕ) {old grouped flagged tagless new : List ℕ}
    → Writes (SpellsGroups config [] false groups) old grouped → Writes (Joined (SpellsNone config.max_imports) SpellsAnyByte) grouped
    flagged
    → Writes (SpellsNoTag config (space_of groups).types) flagged tagless → Writes (SpellsFuncs config (space_of groups).types funcs)
    tagless new → Writes (SpellsMember config groups funcs) old new
unfolding SpellsMember
member_written config groups funcs first imports tags last =
    joined_written first (written_as (λ piece. regrouped {piece = piece}) (joined_written imports (joined_written tags last)))
