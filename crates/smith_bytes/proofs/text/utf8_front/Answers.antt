use Rattle.std.proofs.Common.{◌≡◌, ◌≤◌, ℕ, List, length, take, sym, ap, ◌∙◌, arith, length-take-le, take-take}
use Rattle.std.specs.Str.Lossy.{utf8_valid_len}
use Rattle.std.proofs.lemmas.Str.{utf8_valid_len_le}
use Rattle.smith_bytes.proofs.TextFrontLemmas.{valid_len_by_part, valid_len_by_window}
use Rattle.smith_bytes.proofs.text.utf8_front.Goals as goal

-- the longest UTF-8 prefix of a part is that of all bytes, if it ends within the part
front_of_part : (bytes front : List ℕ) (part : ℕ) → part ≤ length bytes → utf8_valid_len bytes ≤ part
    → front ≡ take (utf8_valid_len (take part bytes)) (take part bytes)
    → front ≡ take (utf8_valid_len bytes) bytes
front_of_part bytes front part within inside is =
    let same = valid_len_by_part bytes part within inside in
    is ∙ ap (λ n. take n (take part bytes)) (sym same) ∙ take-take (utf8_valid_len bytes) part bytes inside

pub slice_bounds-narrow_front-end : goal.slice_bounds-narrow_front-end
slice_bounds-narrow_front-end c = sym (length-take-le 64 c.args.bytes.now (omega arith))

pub returns-then-first-le-WINDOW-clause-exact : goal.returns-then-first-le-WINDOW-clause-exact
returns-then-first-le-WINDOW-clause-exact c =
    let bytes = c.args.bytes.now in
    let size = c.narrow_front-first.ensures.size in
    front_of_part bytes _ 64 (omega arith) (valid_len_by_window bytes 64 (omega arith) (omega arith)) c.narrow_front-first.ensures.exact

pub returns-then-first-le-WINDOW-clause-size : goal.returns-then-first-le-WINDOW-clause-size
returns-then-first-le-WINDOW-clause-size c = ap length (returns-then-first-le-WINDOW-clause-exact c) ∙ length-take-le _ c.args.bytes.now
    (utf8_valid_len_le c.args.bytes.now)

pub returns-then-first-le-WINDOW-clause-within : goal.returns-then-first-le-WINDOW-clause-within
returns-then-first-le-WINDOW-clause-within c = utf8_valid_len_le c.args.bytes.now

pub returns-clause-exact : goal.returns-clause-exact
returns-clause-exact c = front_of_part c.args.bytes.now _ c.reach.result c.reach.ensures.within c.reach.ensures.most
    c.wide_front.ensures.exact

pub returns-clause-size : goal.returns-clause-size
returns-clause-size c = ap length (returns-clause-exact c) ∙ length-take-le _ c.args.bytes.now (utf8_valid_len_le c.args.bytes.now)
