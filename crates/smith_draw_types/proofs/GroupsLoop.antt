-- One turn of each loop that adds groups.
use Rattle.smith_draw_types.proofs.Common.{[], ap, arith, Bool, bool_at, Config, Context, false, GroupedTypes, KeepsPieces, length}
use Rattle.smith_draw_types.proofs.Common.{length-append, List, lt-ltb, refl, suc, sym, true, zero, ℕ, ◌++◌, ◌+◌, ◌<◌, ◌∙◌, ◌∷◌, ◌≡◌, ◌≤◌}
use Rattle.std.proofs.lemmas.Bool.{le-ltb}
use Rattle.smith_bytes.proofs.PieceLemmas.{piece_same}
use Rattle.smith_draw_types.specs.RecGroups.{rec_group_at, least_types_at, more_types_at}
use Rattle.smith_draw_types.proofs.ValueTypeLemmas.{drawn_is}
use Rattle.smith_draw_types.proofs.GroupSizeLemmas.{AreWithin, rec_group_more}

-- `turns` further turns suffice, and complete the whole
pub record IsReaching (config : Config) (context : Context) (space : GroupedTypes) (start bytes : List ℕ)
    (total : GroupedTypes × List ℕ) : Type 0 where
  pub turns : ℕ
  pub enough : config.min_types ≤ length space.types + turns
  pub so_far : least_types_at config context turns space bytes ≡ total
  pub left : KeepsPieces start bytes

-- a group that is not empty adds a type
pub group_adds : (config : Config) (context : Context) (space more : GroupedTypes) (bytes after : List ℕ) → AreWithin space
    → length space.types < config.max_types → rec_group_at config context false space bytes ≡ (more, after)
    → length space.types < length more.types
group_adds config context space more bytes after within room grown =
    drawn_is (λ (s : GroupedTypes). length space.types < length s.types) (rec_group_at config context false space bytes)
    ((rec_group_more config context false space bytes within room).some refl) grown

least_turn : (config : Config) (context : Context) (turns : ℕ) (space more : GroupedTypes) (bytes after : List ℕ) (start : List ℕ)
    (total : GroupedTypes × List ℕ) → config.min_types ≤ length space.types + turns → least_types_at config context turns space bytes
    ≡ total → length space.types < config.min_types
    → rec_group_at config context false space bytes ≡ (more, after) → length space.types < length more.types → KeepsPieces start after
    → IsReaching config context more start after total
unfolding least_types_at
least_turn config context zero space more bytes after start total enough so_far few grown longer left = absurd (omega arith)
least_turn config context (suc turns) space more bytes after start total enough so_far few grown longer left =
    let one : least_types_at config context (suc turns) space bytes ≡ least_types_at config context turns more after =
    rw (lt-ltb (length space.types) config.min_types few, grown) refl in
    record { turns = turns; enough = omega arith; so_far = sym one ∙ so_far; left = left }

pub least_go : {config : Config} {context : Context} {space more : GroupedTypes} {start bytes after : List ℕ} {total : GroupedTypes
    × List ℕ} → IsReaching config context space start bytes total → length space.types < config.min_types
    → rec_group_at config context false space bytes ≡ (more, after) → length space.types < length more.types
    → KeepsPieces bytes after → IsReaching config context more start after total
least_go {config = config} {context = context} {space = space} {more = more} {start = start} {bytes = bytes} {after = after} {total = total}
    now few grown longer kept =
    least_turn config context now.turns space more bytes after start total now.enough now.so_far few grown longer
    (λ whole h. kept whole (now.left whole h))

least_done : (config : Config) (context : Context) (turns : ℕ) (space : GroupedTypes) (bytes : List ℕ)
    → config.min_types ≤ length space.types → least_types_at config context turns space bytes ≡ (space, bytes)
unfolding least_types_at
least_done config context zero space bytes le = refl
least_done config context (suc turns) space bytes le = rw (le-ltb (length space.types) config.min_types le) refl

pub least_full : {config : Config} {context : Context} {space : GroupedTypes} {start bytes : List ℕ} {total : GroupedTypes × List ℕ}
    → IsReaching config context space start bytes total → config.min_types ≤ length space.types → total ≡ (space, bytes)
least_full {config = config} {context = context} {space = space} {bytes = bytes} now le =
    sym now.so_far ∙ least_done config context now.turns space bytes le

-- as above, for the loop that a bool ends: each turn takes a byte
pub record IsAdding (config : Config) (context : Context) (space : GroupedTypes) (start bytes : List ℕ)
    (total : GroupedTypes × List ℕ) : Type 0 where
  pub turns : ℕ
  pub enough : length bytes < turns
  pub so_far : more_types_at config context turns space bytes ≡ total
  pub left : KeepsPieces start bytes

-- a true bool takes a byte
pub bool_takes : (bytes after : List ℕ) → bool_at bytes ≡ (true, after) → length after < length bytes
unfolding bool_at
bool_takes [] after e = let no : false ≡ true = ap (λ (r : Bool × List ℕ). r.0) e in absurd (cc)
bool_takes (b ∷ bytes) after e = let same : bytes ≡ after = ap (λ (r : Bool × List ℕ). r.1) e in
    let len = ap (λ (xs : List ℕ). length xs) same in omega arith

-- a piece is at most as long as the whole
pub piece_short : {old new : List ℕ} → KeepsPieces old new → length new ≤ length old
piece_short {old = old} {new = new} kept =
    let piece = kept old (piece_same old) in
    let len = ap (λ (xs : List ℕ). length xs) piece.parts in
    let outer = length-append piece.before (new ++ piece.after) in
    let inner = length-append new piece.after in
    omega arith

more_turn : (config : Config) (context : Context) (turns : ℕ) (space more : GroupedTypes) (start bytes mid after : List ℕ)
    (total : GroupedTypes × List ℕ) → length bytes < turns → more_types_at config context turns space bytes ≡ total
    → length space.types < config.max_types → bool_at bytes ≡ (true, mid)
    → rec_group_at config context true space mid ≡ (more, after) → length after < length bytes → KeepsPieces start after
    → IsAdding config context more start after total
unfolding more_types_at
more_turn config context zero space more start bytes mid after total enough so_far room go grown shorter left = absurd (omega arith)
more_turn config context (suc turns) space more start bytes mid after total enough so_far room go grown shorter left =
    let one : more_types_at config context (suc turns) space bytes ≡ more_types_at config context turns more after =
    rw (lt-ltb (length space.types) config.max_types room, go, grown) refl in
    record { turns = turns; enough = omega arith; so_far = sym one ∙ so_far; left = left }

pub more_go : {config : Config} {context : Context} {space more : GroupedTypes} {start bytes mid after : List ℕ} {b : Bool}
    {total : GroupedTypes × List ℕ} → IsAdding config context space start bytes total → length space.types < config.max_types
    → bool_at bytes ≡ (b, mid) → b ≡ true → rec_group_at config context true space mid ≡ (more, after)
    → KeepsPieces bytes mid → KeepsPieces mid after → IsAdding config context more start after total
more_go {config = config} {context = context} {space = space} {more = more} {start = start} {bytes = bytes} {mid = mid} {after = after}
    {total = total} now room drawn odd grown p q =
    let go = drawn ∙ ap (λ (b : Bool). (b, mid)) odd in
    let taken = bool_takes bytes mid go in
    let rest = piece_short q in
    more_turn config context now.turns space more start bytes mid after total now.enough now.so_far room go grown (omega arith)
    (λ whole h. q whole (p whole (now.left whole h)))

more_end : (config : Config) (context : Context) (turns : ℕ) (space : GroupedTypes) (bytes mid : List ℕ) → length bytes < turns
    → length space.types < config.max_types → bool_at bytes ≡ (false, mid) → more_types_at config context turns space bytes ≡ (space, mid)
unfolding more_types_at
more_end config context zero space bytes mid enough room stop = absurd (omega arith)
more_end config context (suc turns) space bytes mid enough room stop = rw (lt-ltb (length space.types) config.max_types room, stop) refl

pub more_stop : {config : Config} {context : Context} {space : GroupedTypes} {start bytes mid : List ℕ} {b : Bool} {total : GroupedTypes
    × List ℕ} → IsAdding config context space start bytes total → length space.types < config.max_types → bool_at bytes ≡ (b, mid)
    → b ≡ false → total ≡ (space, mid)
more_stop {config = config} {context = context} {space = space} {bytes = bytes} {mid = mid} now room drawn even =
    sym now.so_far ∙ more_end config context now.turns space bytes mid now.enough room (drawn ∙ ap (λ (b : Bool). (b, mid)) even)

more_done : (config : Config) (context : Context) (turns : ℕ) (space : GroupedTypes) (bytes : List ℕ)
    → config.max_types ≤ length space.types → more_types_at config context turns space bytes ≡ (space, bytes)
unfolding more_types_at
more_done config context zero space bytes le = refl
more_done config context (suc turns) space bytes le = rw (le-ltb (length space.types) config.max_types le) refl

pub more_full : {config : Config} {context : Context} {space : GroupedTypes} {start bytes : List ℕ} {total : GroupedTypes × List ℕ}
    → IsAdding config context space start bytes total → config.max_types ≤ length space.types → total ≡ (space, bytes)
more_full {config = config} {context = context} {space = space} {bytes = bytes} now le = sym now.so_far ∙ more_done config context now.turns
    space bytes le
