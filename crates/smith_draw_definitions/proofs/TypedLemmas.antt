-- Properties of tags and functions that are defined after imported ones, and the bytes they take.
use Rattle.smith_draw_definitions.proofs.Common.{[], All, All-append, All-nil, and_right, arith, Bool, chosen_at, cond, Config, Count}
use Rattle.smith_draw_definitions.proofs.Common.{Error, false, IfOk, if◌then◌else◌, is_memory, IsFuncTypeIndex, IsTagValid, IsTrue, length}
use Rattle.smith_draw_definitions.proofs.Common.{List, Listed, lt-ltb, nat_lt, Ok, refl, Result, returned_so, Returns, SpellsEmpty, subst}
use Rattle.smith_draw_definitions.proofs.Common.{SubType, true, types_for, ℕ, ◌&&◌, ◌++◌, ◌<◌, ◌∷◌, ◌≡◌, ◌≤◌}
use Rattle.std.proofs.Common.{eqb, ltb}
use Rattle.std.specs.Prelude.{OnOk}
use Rattle.std.specs.List.{list_any}
use Rattle.std.proofs.lemmas.Bool.{cond_both, eqb-false, ltb-false, ne_eqb}
use Rattle.smith_bytes.specs.Spelling.{SpellsBool, Where}
use Rattle.smith_bytes.specs.declared.error.Count.TheVariants as counts
use Rattle.smith_draw_types.specs.Spelling.{SpellsPlace}
use Rattle.smith_draw_types.specs.TypeUses.{func_types, is_tag_type}
use Rattle.smith_draw_types.specs.declared.type_use.TypeUse.TheVariants.{Tag, DefinedFunc}
use Rattle.smith_draw_types.proofs.SpelledValueLemmas.{chosen_read}
use Rattle.smith_draw_types.proofs.SupertypeLemmas.{chosen_of}
use Rattle.smith_draw_types.proofs.TypeUseLemmas.{types_usable, places_any}
use Rattle.smith_draw_definitions.specs.Defined.{IsFilled}
use Rattle.smith_draw_definitions.specs.Definitions.{items_defined_at, type_indices_at, tag_types, tags_at, funcs_at}
use Rattle.smith_draw_types.specs.SpelledParts.{SpellsNoTag, SpellsFuncs}
use Rattle.smith_draw_definitions.proofs.ExtensionLemmas.{all_kept}
use Rattle.smith_draw_definitions.proofs.DefinedLemmas.{defined_all, defined_filled, defined_read, none_listed}

-- properties of items whose types are chosen
pub record AreTyped (Holds : ℕ → Type 0) (choices : List ℕ) (least most : ℕ) (imported items : List ℕ) : Type 0 where
  pub filled : IsFilled least most imported items
  pub valid : All Holds imported → All Holds items
  pub none : length choices ≡ 0 → items ≡ imported

module _ (Holds : ℕ → Type 0) (count : Count) (choices : List ℕ) (least most : ℕ) (imported : List ℕ) where
  some_typed : (bytes : List ℕ) → least ≤ most → All Holds choices → 0 < length choices → AreTyped Holds choices least most imported
      (imported ++ (items_defined_at (λ _. chosen_at 0 choices) least most (length imported) bytes).0)
  some_typed bytes le each some = record {
    filled = defined_filled (λ _. chosen_at 0 choices) least most imported bytes le;
    valid = λ before. All-append Holds imported _ before
        (defined_all Holds (λ _. chosen_at 0 choices) (λ made rest. chosen_of Holds 0 choices rest some each) least most (length imported)
        bytes);
    none = λ no. absurd (omega arith);
  }

  none_typed : least ≤ length imported → AreTyped Holds choices least most imported imported
  none_typed enough = record {
    filled = record { extends = all_kept imported; enough = enough; within = omega arith };
    valid = λ before. before;
    none = λ no. refl;
  }

  typed_are : (bytes : List ℕ) → least ≤ most → All Holds choices → IfOk (type_indices_at count choices least most imported bytes)
      (λ drawn. AreTyped Holds choices least most imported drawn.0)
  unfolding type_indices_at
  typed_are bytes le each =
      let Are = λ (r : Result (List ℕ × List ℕ) Error). IfOk r (λ drawn. AreTyped Holds choices least most imported drawn.0) in
      cond_both (eqb (length choices) 0) _ _ Are
      (λ none. cond_both (ltb (length imported) least) _ _ Are (λ lacks. tt)
      (λ enough. none_typed (ltb-false (length imported) least enough)))
      (λ off. let apart = eqb-false (length choices) 0 off in some_typed bytes le each (omega arith))

-- if no tag or function is imported, the spelled ones are defined
typed_read : (count : Count) (choices : List ℕ) (most : ℕ) (items piece after : List ℕ)
    → Listed (SpellsPlace choices) (if nat_lt 0 (length choices) then most else 0) items piece → type_indices_at count choices 0 most []
    (piece ++ after) ≡ Ok (items, after)
unfolding type_indices_at Listed
typed_read count [] most [] piece after h = rw h refl
typed_read count [] most (x ∷ items) piece after h = absurd h
typed_read count (choice ∷ others) most items piece after h =
    let choices = choice ∷ others in
    let spelled : Listed (SpellsPlace choices) most items piece = rw (lt-ltb 0 (length choices) (omega arith)) at h in
    rw (
      ne_eqb (length choices) 0 (λ none. absurd (omega arith)),
      defined_read (SpellsPlace choices) (λ _. chosen_at 0 choices) 0 most 0
          items piece after refl refl (λ made x one rest place. chosen_read 0 choices x one rest place) spelled,
    ) refl

tag_types_usable : (config : Config) (types : List SubType) → All (IsTagValid types) (tag_types config types)
tag_types_usable config types = cond_both config.exceptions_enabled (types_for Tag types) [] (All (IsTagValid types))
    (λ on. types_usable Tag types) (λ off. All-nil (IsTagValid types))

pub tags_are : (config : Config) (types : List SubType) (imported items bytes after : List ℕ) (result : Result (Unit {0}) Error)
    → config.min_tags ≤ config.max_tags → Returns is_memory (λ _. (items, after)) result (tags_at config types imported bytes)
    → OnOk result (AreTyped (IsTagValid types) (tag_types config types) config.min_tags config.max_tags imported items)
unfolding tags_at
tags_are config types imported items bytes after result le given =
    let Are = λ (r : Result (List ℕ × List ℕ) Error). IfOk r (λ drawn. AreTyped (IsTagValid types) (tag_types config types) config.min_tags
    config.max_tags imported drawn.0) in
    returned_so result (λ read. subst Are read (typed_are (IsTagValid types) counts.Tags (tag_types config types) config.min_tags
    config.max_tags imported bytes le (tag_types_usable config types))) given

enabled_by : (on : Bool) (places imported items : List ℕ) → (length (cond on places []) ≡ 0 → items ≡ imported)
    → (0 < length imported → IsTrue on) → 0 < length items → IsTrue on
enabled_by true places imported items none before some = refl
enabled_by false places imported items none before some = before (subst (λ (xs : List ℕ). 0 < length xs) (none refl) some)

-- if there are tags, exceptions are enabled
pub tags_enabled : (config : Config) (types : List SubType) (imported items : List ℕ) → AreTyped (IsTagValid types) (tag_types config types)
    config.min_tags config.max_tags imported items → (0 < length imported → IsTrue config.exceptions_enabled) → 0 < length items
    → IsTrue config.exceptions_enabled
tags_enabled config types imported items are before some = enabled_by config.exceptions_enabled (types_for Tag types) imported items
    are.none before some

and_on : (b : Bool) → (b && true) ≡ b
and_on true = refl
and_on false = refl

no_tag_turn : (on any : Bool) (most : ℕ) (places piece : List ℕ) → ltb 0 (length places) ≡ any → Where (on && nat_lt 0 most && any)
    (SpellsBool false) piece
    → Listed (SpellsPlace (cond on places [])) (if nat_lt 0 (length (cond on places [])) then most else 0) [] piece
unfolding Listed
no_tag_turn false any most places piece is h = h
no_tag_turn true false most places piece is h = rw is (rw (and_right (nat_lt 0 most) false refl) at h)
no_tag_turn true true most places piece is h = rw is (none_listed (SpellsPlace places) most piece (rw (and_on (nat_lt 0 most)) at h))

pub no_tag_read : (config : Config) (types : List SubType) (imported items piece after : List ℕ) → config.min_tags ≡ 0 → imported ≡ []
    → SpellsEmpty (SpellsNoTag config types) items piece → tags_at config types imported (piece ++ after) ≡ Ok (items, after)
unfolding tags_at
no_tag_read config types imported items piece after none empty h =
    rw (none, empty, h.none) (typed_read counts.Tags (tag_types config types) config.max_tags [] piece after
    (no_tag_turn config.exceptions_enabled (list_any is_tag_type types) config.max_tags (types_for Tag types) piece
    (places_any is_tag_type 0 types) h.spelled))

pub funcs_are : (config : Config) (types : List SubType) (imported items bytes after : List ℕ) (result : Result (Unit {0}) Error)
    → config.min_funcs ≤ config.max_funcs → Returns is_memory (λ _. (items, after)) result (funcs_at config types imported bytes)
    → OnOk result (AreTyped (IsFuncTypeIndex types) (func_types types) config.min_funcs config.max_funcs imported items)
unfolding funcs_at
funcs_are config types imported items bytes after result le given =
    let Are = λ (r : Result (List ℕ × List ℕ) Error). IfOk r (λ drawn. AreTyped (IsFuncTypeIndex types) (func_types types) config.min_funcs
    config.max_funcs imported drawn.0) in
    returned_so result (λ read. subst Are read (typed_are (IsFuncTypeIndex types) counts.Funcs (func_types types) config.min_funcs
    config.max_funcs imported bytes le (types_usable DefinedFunc types))) given

pub funcs_read : (config : Config) (types : List SubType) (imported funcs piece after : List ℕ) → config.min_funcs ≡ 0 → imported ≡ []
    → SpellsFuncs config types funcs piece → funcs_at config types imported (piece ++ after) ≡ Ok (funcs, after)
unfolding funcs_at
funcs_read config types imported funcs piece after none empty h =
    rw (none, empty) (typed_read counts.Funcs (func_types types) config.max_funcs funcs piece after h)
