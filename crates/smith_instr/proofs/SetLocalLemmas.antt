-- A local is set exactly if the entry at its recorded position is of this local.
use Rattle.std.proofs.Common.{◌≡◌, ◌≢◌, ℕ, ◌<◌, ◌≤◌, Bool, true, false, nat_eq, List, [], ◌∷◌, ◌++◌, length, refl, sym, ap, ◌∙◌, arith}
use Rattle.std.specs.Prelude.{slice_index}
use Rattle.std.specs.List.{Contains}
use Rattle.std.specs.Cmp.{unsigned_Decides}
use Rattle.std.proofs.lemmas.Bool.{false≢true}
use Rattle.std.proofs.lemmas.Grind.{common_steps}
use Rattle.std.proofs.lemmas.List.{get_or_default, get_or_at, get_or_append_left}
use Rattle.smith_instr.specs.SetLocals.{is_among, AreFirst, IsNoted}
use Rattle.smith_instr.proofs.AmongLemmas.{among_is, false_from, among}

-- the position of the first entry of a local is recorded
pub record IsFound (log first : List ℕ) (local : ℕ) : Type 0 where
  pub there : local < length first
  pub entry : slice_index first local < length log
  pub same : slice_index log (slice_index first local) ≡ local

found : {log first : List ℕ} → AreFirst log first → (local : ℕ) → Contains log local → IsFound log first local
found {log} {first} kept local (k, inside, there) =
    let is : slice_index log k ≡ local = get_or_default log k 0 local inside ∙ there in
    record {
      there = rw is at (kept.there k inside);
      entry = let before = rw is at (kept.before k inside) in omega (arith, before, inside);
      same = rw is at (kept.same k inside);
    }

-- a local without a recorded entry has none
pub absent : {log first : List ℕ} → AreFirst log first → (local : ℕ) → (IsFound log first local → ⊥) → false ≡ is_among local log
absent {log} {first} kept local nowhere = sym (false_from (is_among local log) (λ is. nowhere (found kept local (among local log is))))

-- one more entry, of a local whose first entry is recorded
noted : {log first : List ℕ} (local : ℕ) → AreFirst log first → local < length first → slice_index first local ≤ length log
    → slice_index (log ++ local ∷ []) (slice_index first local) ≡ local → AreFirst (log ++ local ∷ []) first
noted {log} {first} local kept there before same = record {
  there = λ k inside. grind (arith, common_steps, kept.there k);
  before = λ k inside. grind (arith, common_steps, kept.before k);
  same = λ k inside. grind (arith, common_steps, kept.before k, kept.same k);
}

-- a position is written for a local without entries
others : {log first next : List ℕ} (local number : ℕ) → AreFirst log first → is_among local log ≡ false → IsNoted local number first next
    → AreFirst log next
others {log} {first} {next} local number kept new noted =
    let other : (k : ℕ) → k < length log → slice_index log k ≢ local =
    λ k inside same. false≢true (sym new ∙ among_is local log (k, inside, get_or_default log k local 0 inside ∙ same)) in
    let stays : (k : ℕ) → k < length log → slice_index next (slice_index log k) ≡ slice_index first (slice_index log k) =
    λ k inside. noted.others (slice_index log k) (kept.there k inside) (other k inside) in
    record {
      there = λ k inside. omega (arith, kept.there k inside, noted.longer);
      before = λ k inside. rw (stays k inside) (kept.before k inside);
      same = λ k inside. rw (stays k inside) (kept.same k inside);
    }

-- the next entry, of a local without entries
pub noted_new : {log first next : List ℕ} (local : ℕ) → AreFirst log first → is_among local log ≡ false
    → IsNoted local (length log) first next
    → AreFirst (log ++ local ∷ []) next
noted_new {log} {first} {next} local kept new written =
    noted local (others local (length log) kept new written) written.there (omega (arith, written.written))
    (rw written.written (get_or_at log local [] 0 (length log) refl))

-- the next entry, of a local with entries
pub noted_again : {log first : List ℕ} (local : ℕ) → AreFirst log first → is_among local log ≡ true → AreFirst (log ++ local ∷ []) first
noted_again {log} {first} local kept is =
    let there = found kept local (among local log is) in
    noted local kept there.there (omega (arith, there.entry)) (get_or_append_left log (local ∷ []) 0 (slice_index first local) there.entry
    ∙ there.same)

-- all entries but the last one
pub noted_less : {log first : List ℕ} (local : ℕ) → AreFirst (log ++ local ∷ []) first → AreFirst log first
noted_less {log} {first} local kept = record {
  there = λ k inside. grind (arith, common_steps, kept.there k);
  before = λ k inside. grind (arith, common_steps, kept.before k);
  same = λ k inside. grind (arith, common_steps, kept.before k, kept.same k);
}

-- whether the entry at the recorded position of a local is of this local
entry_by : {log first : List ℕ} → AreFirst log first → (local position entry : ℕ) → position ≡ slice_index first local
    → position < length log → entry ≡ slice_index log position → (b : Bool) → nat_eq entry local ≡ b → b ≡ is_among local log
entry_by {log} {first} kept local position entry at there is true same =
    sym (among_is local log (position, there, get_or_default log position local 0 there ∙ (sym is ∙ (unsigned_Decides entry local).0 same)))
entry_by {log} {first} kept local position entry at there is false differs =
    absent kept local (λ found. false≢true
    (sym differs ∙ (unsigned_Decides entry local).1 (is ∙ (ap (λ (p : ℕ). slice_index log p) at ∙ found.same))))

pub entry_is : {log first : List ℕ} → AreFirst log first → (local position entry : ℕ) → position ≡ slice_index first local
    → position < length log → entry ≡ slice_index log position → nat_eq entry local ≡ is_among local log
entry_is {log} {first} kept local position entry at there is = entry_by kept local position entry at there is (nat_eq entry local) refl
