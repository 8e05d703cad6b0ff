-- The items of a module, as a judge sees them.
use Rattle.smith_check_module.proofs.Common.{All, AreTypesValid, arith, Bool, EntitySpaces, EntityType, Err, Error, export_triple}
use Rattle.smith_check_module.proofs.Common.{ExportKind, Features, features_in, get_or, global_pair, GlobalType, IfOk, inl, inr, IsEntityAt}
use Rattle.smith_check_module.proofs.Common.{IsFuncTypeIndex, IsGlobalValid, IsTrue, IsValInRange, length, length-map, List, map, Ok}
use Rattle.smith_check_module.proofs.Common.{Result, slice_get, slice_get_past, slice_get_within, Some, spaces_in, subst, SubType, suc, sym}
use Rattle.smith_check_module.proofs.Common.{syntax_of, table_pair, take, ℕ, ◌+◌, ◌<◌, ◌↔◌, ◌≡◌, ◌≤◌}
use Rattle.std.proofs.Common.{zero, ◌⊎◌}
use Rattle.std.proofs.lemmas.List.Elements.{All-weaker}
use Rattle.std.proofs.lemmas.Option.{slice_get-get_or}
use Rattle.smith_types.specs.GroupedTypes.{GroupedTypes}
use Rattle.smith_validity.proofs.ReferredTypeLemmas.{valid_in_range, value_in_range}
use Rattle.smith_decode.specs.DataReadings.{segment_view}
use Rattle.smith_decode.specs.ElementReadings.{element_view}
use Rattle.smith_check_types.proofs.CanonicalLemmas.{some_at}
use Rattle.smith_check_module.specs.ConstScopes.{AreStanding, IsScope, context_of}
use Rattle.smith_check_module.specs.Judges.{AreJudgedValid, AreRight, IsFirstRepeated, IsJudge, IsNameUnused, IsRight}
use Rattle.smith_check_module.specs.Judges.{RefersToEntities, count_in}
use Rattle.smith_check_module.specs.SectionFaults.{IsExportRight, IsRightAt, parts}
use Rattle.smith_check_module.specs.ValidModules.{AreEntitiesValid}
use Rattle.smith_check_module.specs.declared.faults.Part.{Part}
use Rattle.smith_check_module.specs.declared.faults.Part.TheVariants as part
use Rattle.smith_check_module.specs.declared.judge.Judge.{Judge}
use Rattle.smith_check_module.proofs.RightLemmas.{right_at, mapped_at}
use Rattle.smith_check_module.proofs.SectionLemmas.{entities_right}

func_inside : (types : List SubType) (index : ℕ) → IsFuncTypeIndex types index → index < length types
func_inside types index (function, (t, at, is)) = slice_get_within types index t at

-- valid types and entities are a scope
standing : (features : Features) (space : GroupedTypes) (funcs : List ℕ) (globals : List GlobalType) (spaces : EntitySpaces)
    → AreTypesValid features space → funcs ≡ spaces.funcs → globals ≡ spaces.globals → AreEntitiesValid features space.types spaces
    → AreStanding space.types funcs globals
standing features space funcs globals spaces valid same equal entities = record {
  orderly = valid.orderly;
  values_stand = valid_in_range features space valid;
  funcs_stand = subst (λ (fs : List ℕ). All (λ index. index < length space.types) fs) (sym same)
      (All-weaker (IsFuncTypeIndex space.types) (λ (index : ℕ). index < length space.types) (func_inside space.types) spaces.funcs
      entities.funcs);
  globals_stand = subst (λ (gs : List GlobalType). All (λ (global : GlobalType). IsValInRange space.types global.val_type) gs) (sym equal)
      (All-weaker (IsGlobalValid features space.types) (λ (global : GlobalType). IsValInRange space.types global.val_type)
      (λ global one. value_in_range features space.types global.val_type one.value) spaces.globals entities.globals);
}

pub judge_standing : (judge : Judge) → IsJudge judge → AreJudgedValid judge → IsScope (context_of judge.scope)
judge_standing judge j valid =
    standing (features_in judge.scope.features) judge.scope.types.now judge.scope.funcs.now judge.scope.globals.now
    (spaces_in judge.spaces.now) j.types j.funcs j.globals valid

-- a decision on an item that is seen in the abstract syntax
pub mapped_decided : {A B : Type 0} (P : B → Type 0) (f : A → B) (xs : List A) (i : ℕ) (x : A) → i < length xs → x ≡ get_or xs i x
    → (found : Result Bool Error) → IfOk found (λ yes. IsTrue yes ↔ P (f x)) → IfOk found (λ yes. IsTrue yes ↔ IsRightAt (map f xs) i P)
mapped_decided P f xs i x inside read (Ok b) decides = right_at P (map f xs) i (f x) b (mapped_at f xs i x inside read) decides
mapped_decided P f xs i x inside read (Err e) decides = tt

-- a decision on an entity
pub entity_decided : {A : Type 0} (P : A → Type 0) (xs list : List A) (i : ℕ) (d : A) → list ≡ xs → i < length xs → (b : Bool)
    → IsTrue b ↔ P (get_or list i d) → IsTrue b ↔ IsRightAt xs i P
entity_decided P xs list i d same inside b decides =
    right_at P xs i (get_or xs i d) b (slice_get-get_or xs i d inside)
    (subst (λ (ys : List _). IsTrue b ↔ P (get_or ys i d)) same decides)

past : {A : Type 0} (P : A → Type 0) (xs : List A) (index : ℕ) → length xs ≤ index → IsRightAt xs index P
past P xs index beyond = λ item at. let none = slice_get_past xs index beyond in absurd cc

past_mapped : {A B : Type 0} (P : B → Type 0) (f : A → B) (xs : List A) (index : ℕ) → length xs ≤ index → IsRightAt (map f xs) index P
past_mapped P f xs index beyond = past P (map f xs) index (omega (arith, length-map xs f))

below_same_above : (a b : ℕ) → (a < b) ⊎ ((b < a) ⊎ (a ≡ b))
below_same_above a b = grind arith

module _ (spaces : EntitySpaces) (exports : List (List ℕ × ExportKind × ℕ)) (repeated index : ℕ)
    (first : IsFirstRepeated exports repeated) (one : List ℕ × ExportKind × ℕ) (at : slice_get exports index ≡ Some one) where
  new_name : (index ≡ repeated → ⊥) → ((other : ℕ) → other < index → IsRightAt exports other (IsExportRight spaces exports other))
      → IsNameUnused exports index one.0
  new_name other_one before = elim (below_same_above index repeated) [
    | inl low ↦ first.before index one low at
    | inr (inl high) ↦
        let inside = slice_get_within exports index one at in
        let (two, there) = some_at exports repeated (omega arith) in
        absurd (first.repeated two there (before repeated high two there).unused)
    | inr (inr same) ↦ absurd (other_one same)
  ]

  -- an export before which no name is repeated
  pub export_decided : (index ≡ repeated → ⊥)
      → ((other : ℕ) → other < index → IsRightAt exports other (IsExportRight spaces exports other)) → (b : Bool)
      → IsTrue b ↔ ((ty : EntityType) × IsEntityAt spaces one.1 one.2 ty)
      → IsTrue b ↔ IsRightAt exports index (IsExportRight spaces exports index)
  export_decided other_one before b decides =
      right_at (IsExportRight spaces exports index) exports index one b at (
        λ yes. record { stands = decides.0 yes; unused = new_name other_one before },
        λ right. decides.1 right.stands,
      )

  pub export_wrong : index ≡ repeated → IsRightAt exports index (IsExportRight spaces exports index) → ⊥
  export_wrong same right = first.repeated one (subst (λ (k : ℕ). slice_get exports k ≡ Some one) same at)
      (subst (λ (k : ℕ). IsNameUnused exports k one.0) same (right one at).unused)

module _ (judge : Judge) where
  beyond : (kind : Part) (index : ℕ) → count_in judge kind ≤ index → IsRight judge kind index
  beyond part.Tags index more = past _ judge.spaces.now.tags index more
  beyond part.Functions index more = past _ judge.spaces.now.funcs index more
  beyond part.Tables index more = past _ judge.spaces.now.tables index more
  beyond part.Memories index more = past _ judge.spaces.now.memories index more
  beyond part.Globals index more = past _ judge.spaces.now.globals index more
  beyond part.TableInitials index more = past_mapped _ table_pair judge.module.now.tables index more
  beyond part.GlobalInitials index more = past_mapped _ global_pair judge.module.now.globals index more
  beyond part.Exports index more = past_mapped _ export_triple judge.module.now.exports index more
  beyond part.Start index more = λ first. absurd (omega arith)
  beyond part.Elements index more = past_mapped _ element_view judge.module.now.elements index more
  beyond part.Datas index more = past_mapped _ segment_view judge.module.now.datas index more

  pub of_part : (kind here : Part) (index : ℕ) → kind ≡ here → (found : Result Bool Error)
      → IfOk found (λ yes. IsTrue yes ↔ IsRight judge here index) → IfOk found (λ yes. IsTrue yes ↔ IsRight judge kind index)
  of_part kind here index is found = subst (λ (p : Part). IfOk found (λ yes. IsTrue yes ↔ IsRight judge p index)) (sym is)

  low_or_high : (a b : ℕ) → (a < b) ⊎ (b ≤ a)
  low_or_high a b = grind arith

  -- an item more is right
  pub one_more : (kind : Part) (index : ℕ) → ((other : ℕ) → other < index → IsRight judge kind other) → IsRight judge kind index
      → (other : ℕ) → other < index + 1 → IsRight judge kind other
  one_more kind index before right = λ other more. elim (low_or_high other index) [
    | inl low ↦ before other low
    | inr high ↦
        let same : index ≡ other = omega arith in
        subst (λ (k : ℕ). IsRight judge kind k) same right
  ]

  -- all items up to the end of a part are right
  pub all_right : (kind : Part) (end : ℕ) → count_in judge kind ≤ end → ((index : ℕ) → index < end → IsRight judge kind index)
      → AreRight judge kind
  all_right kind end whole right = λ index. elim (low_or_high index end) [
    | inl low ↦ right index low
    | inr high ↦ beyond kind index (omega arith)
  ]

  -- the parts before one that refers to entities have these
  pub entities_first : (i : ℕ) (d : Part) → i < length parts → All (AreRight judge) (take i parts) → RefersToEntities (get_or parts i d)
      → AreJudgedValid judge
  entities_first zero d inside all refers = absurd refers
  entities_first (suc zero) d inside all refers = absurd refers
  entities_first (suc (suc zero)) d inside all refers = absurd refers
  entities_first (suc (suc (suc zero))) d inside all refers = absurd refers
  entities_first (suc (suc (suc (suc zero)))) d inside all refers = absurd refers
  entities_first (suc (suc (suc (suc (suc i))))) d inside all refers =
      entities_right (context_of judge.scope) judge.scope.indices.now (spaces_in judge.spaces.now) (syntax_of judge.module.now)
      (all 0 d (omega arith)) (all 1 d (omega arith)) (all 2 d (omega arith)) (all 3 d (omega arith)) (all 4 d (omega arith))
