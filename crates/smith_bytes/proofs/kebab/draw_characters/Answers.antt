use Rattle.std.proofs.Common.{◌≡◌, ℕ, suc, ◌+◌, ◌-◌, ◌<◌, ◌≤◌, List, [], ◌∷◌, ◌++◌, arith, rules, refl, sym, ap, ◌∙◌}
use Rattle.smith_bytes.specs.Kebab.{character_at, characters_at}
use Rattle.smith_bytes.proofs.kebab.draw_characters.Goals as goal

one_more : (size n c : ℕ) (name longer bytes after : List ℕ) (total : List ℕ × List ℕ) → characters_at (size - n) name bytes ≡ total
    → n < size → character_at name bytes ≡ (c, after) → longer ≡ name ++ c ∷ []
    → characters_at (size - (n + 1)) longer after ≡ total
unfolding characters_at
one_more size n c name longer bytes after total so_far below drawn is =
    let k : size - n ≡ suc (size - (n + 1)) = omega arith in
    let one : characters_at (size - n) name bytes ≡ characters_at (size - (n + 1)) (name ++ c ∷ []) after =
    ap (λ (m : ℕ). characters_at m name bytes) k ∙ ap (λ (r : ℕ × List ℕ). characters_at (size - (n + 1)) (name ++ r.0 ∷ []) r.1) drawn in
    rw is (sym one ∙ so_far)

all : (size n : ℕ) (name bytes : List ℕ) (total : List ℕ × List ℕ) → characters_at (size - n) name bytes ≡ total → size ≤ n
    → total ≡ (name, bytes)
unfolding characters_at
all size n name bytes total so_far over =
    let k : size - n ≡ 0 = omega arith in
    let one : characters_at (size - n) name bytes ≡ (name, bytes) = rw k refl in
    sym so_far ∙ one

pub loop-preserved : goal.loop-preserved
loop-preserved c = record {
  so_far = one_more _ _ _ _ _ _ _ _ c.loop.invariant.so_far c.loop-test.true (rw c.deref.ensures at c.draw_character-next.ensures.exact)
      (c.in_ok-push.ensures.bytes ∙ rw (
        c.in_ok-push.ensures.ascii (omega (arith, c.draw_character-next.ensures.ascii, c.from.ensures)),
        c.from.ensures,
      ) refl);
  left = search rules;
}

pub returns-clause-exact : goal.returns-clause-exact
returns-clause-exact c = all _ _ _ _ _ c.loop.invariant.so_far c.loop-test.false
