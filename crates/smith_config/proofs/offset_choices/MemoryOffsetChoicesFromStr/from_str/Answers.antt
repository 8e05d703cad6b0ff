use Rattle.std.proofs.Common.{◌≡◌, ◌<◌, ◌+◌, ◌∷◌, [], get_or, length, take, subst, sym, ◌∙◌, lit<, take_all, arith, refl, rules, ℕ, List}
use Rattle.std.specs.List.{AllZip}
use Rattle.std.proofs.lemmas.Iterator.Consumers.{YieldsList-at, YieldsList-turn, YieldsList-end}
use Rattle.std.proofs.lemmas.Iterator.Splits.{YieldsList-from_str_split}
use Rattle.std.proofs.lemmas.Option.{slice_get_read}
use Rattle.std.proofs.lemmas.List.{take_more_set}
use Rattle.std.proofs.lemmas.Grind.{common_steps}
use Rattle.smith_types.specs.Syntax.SplitTexts.{split_at_commas}
use Rattle.smith_syntax.proofs.PartLemmas.{AllZip-next}
use Rattle.smith_config.specs.OffsetChoices.{IsNumber, AllNumbers}
use Rattle.smith_config.proofs.offset_choices.MemoryOffsetChoicesFromStr.from_str.Goals as goal

pub returns-then-place-eq3 : goal.returns-then-place-eq3
returns-then-place-eq3 c =
    let parts = split_at_commas c.args.s.now in
    let e = YieldsList-at c.into_iter-part-iterator.ensures.into_iter_gives
    (YieldsList-from_str_split 44 c.args.s.now (lit< tt) c.split-part-items.ensures.text c.split-part-items.ensures.has_more
    c.split-part-items.ensures.pattern) in
    let text = c.in-Some.part.now in
    let place = c.loop-part.place in
    let turn = YieldsList-turn e c.loop-part.yielded _ c.loop-part.yielded_by _ _ c.in-Some.part c.in-Some.is c.next.ensures.steps in
    let at : (place < length parts) × (text ≡ get_or parts place text) =
    subst (λ n. (n < length parts) × (text ≡ get_or parts n text)) (sym c.loop-part.invariant.count) turn in
    subst (λ n. (n < length parts) × AllNumbers (take n parts)) c.if-place-eq3.true
    (at.0, (take place c.loop-part.numbers, c.loop-part.invariant.read))

pub returns-in-Err : goal.returns-in-Err
returns-in-Err c =
    let parts = split_at_commas c.args.s.now in
    let e = YieldsList-at c.into_iter-part-iterator.ensures.into_iter_gives
    (YieldsList-from_str_split 44 c.args.s.now (lit< tt) c.split-part-items.ensures.text c.split-part-items.ensures.has_more
    c.split-part-items.ensures.pattern) in
    let text = c.in-Some.part.now in
    let place = c.loop-part.place in
    let turn = YieldsList-turn e c.loop-part.yielded _ c.loop-part.yielded_by _ _ c.in-Some.part c.in-Some.is c.next.ensures.steps in
    let at : (place < length parts) × (text ≡ get_or parts place text) =
    subst (λ n. (n < length parts) × (text ≡ get_or parts n text)) (sym c.loop-part.invariant.count) turn in
    record {
      early = let most = c.loop-part.invariant.few in let other = c.if-place-eq3.false in omega arith;
      text = text;
      there = slice_get_read parts (length parts) place text refl at.0 at.1;
      wrong = λ number h. c.in-Err.ensures.0 h.0;
      before = (take place c.loop-part.numbers, c.loop-part.invariant.read);
    }

pub loop-part-preserved : goal.loop-part-preserved
loop-part-preserved c =
    let parts = split_at_commas c.args.s.now in
    let e = YieldsList-at c.into_iter-part-iterator.ensures.into_iter_gives
    (YieldsList-from_str_split 44 c.args.s.now (lit< tt) c.split-part-items.ensures.text c.split-part-items.ensures.has_more
    c.split-part-items.ensures.pattern) in
    let text = c.in-Some.part.now in
    let place = c.loop-part.place in
    let turn = YieldsList-turn e c.loop-part.yielded _ c.loop-part.yielded_by _ _ c.in-Some.part c.in-Some.is c.next.ensures.steps in
    let at : (place < length parts) × (text ≡ get_or parts place text) =
    subst (λ n. (n < length parts) × (text ≡ get_or parts n text)) (sym c.loop-part.invariant.count) turn in
    let most = c.loop-part.invariant.few in
    let other = c.if-place-eq3.false in
    let long = c.loop-part.invariant.long in
    record {
      count = let before = c.loop-part.invariant.count in grind (arith, common_steps);
      long = grind (arith, common_steps);
      few = omega arith;
      read = subst (AllZip IsNumber (take (place + 1) parts)) (sym (take_more_set c.loop-part.numbers place _ (omega arith)))
          (AllZip-next IsNumber parts place (take place c.loop-part.numbers) text c.in-Ok.number at.0 at.1 c.loop-part.invariant.read
          c.in-Ok.ensures.0);
    }

pub returns-then-place-lt3 : goal.returns-then-place-lt3
returns-then-place-lt3 c =
    let parts = split_at_commas c.args.s.now in
    let e = YieldsList-at c.into_iter-part-iterator.ensures.into_iter_gives
    (YieldsList-from_str_split 44 c.args.s.now (lit< tt) c.split-part-items.ensures.text c.split-part-items.ensures.has_more
    c.split-part-items.ensures.pattern) in
    let end = YieldsList-end e c.loop-part.yielded _ c.loop-part.yielded_by _ _ c.in-None.is c.next.ensures.steps in
    let long : c.loop-part.place ≡ length parts = c.loop-part.invariant.count ∙ end.1 in
    let all : take c.loop-part.place parts ≡ parts = take_all _ parts (omega arith) in
    let read : AllZip IsNumber parts (take c.loop-part.place c.loop-part.numbers) =
    subst (λ texts. AllZip IsNumber texts (take c.loop-part.place c.loop-part.numbers)) all c.loop-part.invariant.read in
    (let low = c.if-place-lt3.true in omega arith, (take c.loop-part.place c.loop-part.numbers, read))

three : (xs : List ℕ) → length xs ≡ 3 → xs ≡ get_or xs 0 0 ∷ get_or xs 1 0 ∷ get_or xs 2 0 ∷ []
three [] e = absurd (omega arith)
three (a ∷ []) e = absurd (omega arith)
three (a ∷ b ∷ []) e = absurd (omega arith)
three (a ∷ b ∷ c ∷ []) e = refl
three (a ∷ b ∷ c ∷ d ∷ xs) e = absurd (omega arith)

pub returns-then-are_zero : goal.returns-then-are_zero
returns-then-are_zero c =
    let parts = split_at_commas c.args.s.now in
    let e = YieldsList-at c.into_iter-part-iterator.ensures.into_iter_gives
    (YieldsList-from_str_split 44 c.args.s.now (lit< tt) c.split-part-items.ensures.text c.split-part-items.ensures.has_more
    c.split-part-items.ensures.pattern) in
    let end = YieldsList-end e c.loop-part.yielded _ c.loop-part.yielded_by _ _ c.in-None.is c.next.ensures.steps in
    let numbers = c.loop-part.numbers in
    let long : c.loop-part.place ≡ length parts = c.loop-part.invariant.count ∙ end.1 in
    let all : take c.loop-part.place parts ≡ parts = take_all _ parts (omega arith) in
    let enough = c.if-place-lt3.false in
    let whole : take c.loop-part.place numbers ≡ get_or numbers 0 0 ∷ get_or numbers 1 0 ∷ get_or numbers 2 0 ∷ [] =
    take_all _ numbers (let size = c.loop-part.invariant.long in omega arith) ∙ three numbers c.loop-part.invariant.long in
    let read : AllZip IsNumber parts (get_or numbers 0 0 ∷ get_or numbers 1 0 ∷ get_or numbers 2 0 ∷ []) =
    subst (AllZip IsNumber parts) whole (subst (λ texts. AllZip IsNumber texts (take c.loop-part.place numbers)) all
    c.loop-part.invariant.read) in
    let zero = c.are_zero.ensures.0 c.if-are_zero.true in
    subst (λ choices. AllZip IsNumber parts (choices.0 ∷ choices.1 ∷ choices.2 ∷ [])) zero read

pub returns : goal.returns
returns c =
    let parts = split_at_commas c.args.s.now in
    let e = YieldsList-at c.into_iter-part-iterator.ensures.into_iter_gives
    (YieldsList-from_str_split 44 c.args.s.now (lit< tt) c.split-part-items.ensures.text c.split-part-items.ensures.has_more
    c.split-part-items.ensures.pattern) in
    let end = YieldsList-end e c.loop-part.yielded _ c.loop-part.yielded_by _ _ c.in-None.is c.next.ensures.steps in
    let numbers = c.loop-part.numbers in
    let long : c.loop-part.place ≡ length parts = c.loop-part.invariant.count ∙ end.1 in
    let all : take c.loop-part.place parts ≡ parts = take_all _ parts (omega arith) in
    let enough = c.if-place-lt3.false in
    let whole : take c.loop-part.place numbers ≡ get_or numbers 0 0 ∷ get_or numbers 1 0 ∷ get_or numbers 2 0 ∷ [] =
    take_all _ numbers (let size = c.loop-part.invariant.long in omega arith) ∙ three numbers c.loop-part.invariant.long in
    let read : AllZip IsNumber parts (get_or numbers 0 0 ∷ get_or numbers 1 0 ∷ get_or numbers 2 0 ∷ []) =
    subst (AllZip IsNumber parts) whole (subst (λ texts. AllZip IsNumber texts (take c.loop-part.place numbers)) all
    c.loop-part.invariant.read) in
    (read, λ zero. let yes = c.are_zero.ensures.1 zero in let no = c.if-are_zero.false in search rules)
