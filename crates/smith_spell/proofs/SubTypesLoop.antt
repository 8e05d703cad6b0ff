-- Types written one after another: each iteration adds one to those before.
use Rattle.smith_spell.proofs.Common.{[], add-one, append_assoc, Bool, Config, drop, drop-cons, drop_of_length-le, false, get_or, length}
use Rattle.smith_spell.proofs.Common.{List, refl, SpellsBool, SpellsSubTypes, subst, SubType, take, true, Where, ℕ, ◌++◌, ◌+◌, ◌<◌, ◌∷◌}
use Rattle.smith_spell.proofs.Common.{◌≡◌, ◌≤◌}
use Rattle.std.proofs.Math.Seq.{take-suc}
use Rattle.std.proofs.lemmas.List.{take_all}
use Rattle.smith_bytes.specs.Spelling.{SpellsRefusal}
use Rattle.smith_draw_types.specs.Spelling.{SpellsDeclared, SpellsForm, SpellsInner, SpellsSubType, SpellsUnshared}
use Rattle.smith_spell.specs.Family.{IsMemberType}
use Rattle.smith_spell.specs.declared.sub_types.Before.{Before}
use Rattle.smith_spell.specs.Written.{Writes, IsSummary, OverSome}
use Rattle.smith_spell.proofs.WrittenLemmas.{nothing_written, joined_written, written_as}
use Rattle.smith_spell.proofs.WritingLoop.{Leads, leads_over, leads_as}

form_of : (gc : Bool) (config : Config) (types : List SubType) (limit : ℕ) (t : SubType) (piece : List ℕ) → gc ≡ true
    → SpellsDeclared config types limit t piece → SpellsForm gc config types limit t piece
form_of true config types limit t piece on h = h
form_of false config types limit t piece on h = cc

-- a type by its parts, with garbage collection
pub declared_written : (config : Config) (types : List SubType) (before : Before) (limit : ℕ) (t : SubType)
    {old asked final unshared new : List ℕ} → config.gc_enabled ≡ true → OverSome limit (λ before. IsMemberType config before t)
    → IsSummary types before
    → Writes (Where before.has_open (SpellsRefusal 32)) old asked → Writes (SpellsBool t.is_final) asked final
    → Writes (SpellsUnshared config) final unshared
    → Writes (SpellsInner config limit t.composite_type.inner) unshared new → Writes (SpellsSubType config types limit t) old new
declared_written config types before limit t gc member summary refusal final unshared inner =
    let open_told = rw summary.open_told at refusal in
    written_as (λ piece form. record {
      root = member.holds.root;
      unshared = member.holds.unshared;
      form = form_of config.gc_enabled config
          types limit t piece gc form;
    }) (joined_written open_told (joined_written final (joined_written unshared inner)))

next_before : (others types : List SubType) (i : ℕ) (t d : SubType) → i < length types → t ≡ get_or types i d
    → (others ++ take i types) ++ t ∷ [] ≡ others ++ take (i + 1) types
next_before others types i t d inside read = rw (read, add-one, take-suc types i d inside)
    (append_assoc others (take i types) (get_or types i d ∷ []))

-- one more type is written
pub leads_sub_types : (config : Config) (others : List SubType) (limit i : ℕ) (types : List SubType) (t d : SubType) {Whole : List ℕ
    → Type 0} {start now later : List ℕ} → i < length types → t ≡ get_or types i d
    → Leads (SpellsSubTypes config (others ++ take i types) limit (drop i types)) Whole start now
    → Writes (SpellsSubType config (others ++ take i types) limit t) now later
    → Leads (SpellsSubTypes config (others ++ take (i + 1) types) limit (drop (i + 1) types)) Whole start later
unfolding SpellsSubTypes
leads_sub_types config others limit i types t d inside read so_far one =
    let next : drop i types ≡ t ∷ drop (i + 1) types = rw (read, add-one) (drop-cons types i d inside) in
    let following = next_before others types i t d inside read in
    leads_over (leads_as (λ piece h. rw (next, following) h) so_far) one

-- the summary with one more type
pub summary_more : (others types : List SubType) (i : ℕ) (t d : SubType) (after : Before) → i < length types → t ≡ get_or types i d
    → IsSummary ((others ++ take i types) ++ t ∷ []) after → IsSummary (others ++ take (i + 1) types) after
summary_more others types i t d after inside read h = rw (← next_before others types i t d inside read) h

-- no type is left
pub sub_types_written : (config : Config) (others : List SubType) (limit i : ℕ) (types : List SubType) {Whole : List ℕ → Type 0}
    {start now : List ℕ} → length types ≤ i
    → Leads (SpellsSubTypes config (others ++ take i types) limit (drop i types)) Whole start now → Writes Whole start now
unfolding SpellsSubTypes
sub_types_written config others limit i types past so_far =
    let none : drop i types ≡ [] = drop_of_length-le types past in
    so_far.to _ (rw none (nothing_written refl))

pub summary_all : (others types : List SubType) (i : ℕ) (after : Before) → length types ≤ i → IsSummary (others ++ take i types) after
    → IsSummary (others ++ types) after
summary_all others types i after past h = subst (λ (l : List SubType). IsSummary (others ++ l) after) (take_all i types past) h
