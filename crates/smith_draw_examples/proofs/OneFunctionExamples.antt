-- Four bytes that spell one function type.
use Rattle.std.proofs.Common.{◌≡◌, ℕ, ◌%◌, ◌-◌, ◌∙◌, arith, Bool, true, false, cond, List, [], ◌∷◌, refl, sym, subst, ap}
use Rattle.std.proofs.lemmas.Bool.{lt-ltb}
use Rattle.smith_bytes.specs.Spelling.{SpellsBool, Where, Listed}
use Rattle.smith_types.specs.Syntax.value_type.ValType.{ValType}
use Rattle.smith_config.specs.declared.config.Config.{Config}
use Rattle.smith_draw_types.specs.Spelling.{SpellsValType, SpellsFuncType, SpellsForm, SpellsSize, SpellsSubType, SpellsSubTypes}
use Rattle.smith_draw_types.specs.Spelling.{SpellsGroup, SpellsGroups}
use Rattle.smith_draw_types.specs.ExampleSpellings.{plain_function, OneFunctionIsSpelled, MoreIsAskedFor}

stop : SpellsBool false (0 ∷ [])
stop = record { byte = 0; whole = refl; lowest = refl }

no_values : (Item : ValType → List ℕ → Type 0) (several : Bool) → Listed Item (cond several 20 1) [] (0 ∷ [])
unfolding Listed
no_values Item true = stop
no_values Item false = stop

plain : (config : Config) (limit : ℕ) → SpellsFuncType config limit (record { params = []; results = [] }) (0 ∷ 0 ∷ [])
unfolding SpellsFuncType
plain config limit = record {
  first = 0 ∷ [];
  second = 0 ∷ [];
  is_first = no_values (SpellsValType config limit) true;
  is_second = no_values (SpellsValType config limit) config.multi_value_enabled;
  whole = refl;
}

alone : (config : Config) (limit : ℕ) → config.gc_enabled ≡ false → SpellsSubType config [] limit plain_function (0 ∷ 0 ∷ [])
alone config limit off = record {
  root = refl;
  unshared = refl;
  form = subst (λ (gc : Bool). SpellsForm gc config [] limit plain_function (0 ∷ 0 ∷ [])) (sym off) (refl, plain config limit);
}

group : (config : Config) → config.gc_enabled ≡ false → SpellsGroup config [] false (plain_function ∷ []) (0 ∷ 0 ∷ [])
unfolding SpellsGroup SpellsSubTypes
group config off = record {
  first = [];
  second = 0 ∷ 0 ∷ [];
  is_first = subst (λ (gc : Bool). SpellsSize gc config false (config.max_types - 0) 1 []) (sym off) (refl, refl);
  is_second = record { first = 0 ∷ 0 ∷ []; second = []; is_first = alone config 1 off; is_second = refl; whole = refl };
  whole = refl;
}

pub one_function_spelled : OneFunctionIsSpelled
unfolding SpellsGroups
one_function_spelled config off room = record {
  first = 1 ∷ [];
  second = 0 ∷ 0 ∷ 0 ∷ [];
  is_first = record { byte = 1; whole = refl; lowest = refl };
  is_second = record {
    first = 0 ∷ 0 ∷ [];
    second = 0 ∷ [];
    is_first = group config off;
    is_second = subst (λ (more : Bool). Where more (SpellsBool false) (0 ∷ [])) (sym (lt-ltb 1 config.max_types room)) stop;
    whole = refl;
  };
  whole = refl;
}

odd_goes_on : (byte : ℕ) → 1 ≡ byte → byte % 2 ≡ 0 → ⊥
odd_goes_on byte one even = let odd : 1 % 2 ≡ 0 = ap (λ (b : ℕ). b % 2) one ∙ even in absurd (omega arith)

first_byte : (a b : ℕ) → ◌≡◌ {A = List ℕ} (a ∷ []) (b ∷ []) → a ≡ b
first_byte a b same = cc

pub more_asked : MoreIsAskedFor
unfolding SpellsGroups
more_asked config room h =
    let ends = subst (λ (more : Bool). Where more (SpellsBool false) (1 ∷ [])) (lt-ltb 0 config.max_types room) h in
    odd_goes_on ends.byte (first_byte 1 ends.byte ends.whole) ends.lowest
