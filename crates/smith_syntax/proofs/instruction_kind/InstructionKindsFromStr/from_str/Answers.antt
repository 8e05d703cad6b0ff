use Rattle.std.proofs.Common.{◌≡◌, ◌<◌, ◌∷◌, [], ◌++◌, get_or, length, take, subst, sym, ap, ◌∙◌, lit<, take_all, arith, refl}
use Rattle.std.proofs.lemmas.Iterator.Consumers.{YieldsList-at, YieldsList-turn, YieldsList-end}
use Rattle.std.proofs.lemmas.Iterator.Splits.{YieldsList-from_str_split}
use Rattle.std.proofs.lemmas.Option.{slice_get_read}
use Rattle.std.proofs.lemmas.Grind.{common_steps}
use Rattle.smith_syntax.specs.Instructions.{IsNamed, kinds_bits}
use Rattle.smith_syntax.specs.SplitTexts.{split_at_commas}
use Rattle.std.specs.List.{AllZip}
use Rattle.smith_syntax.proofs.KindLemmas.{union_of-push}
use Rattle.smith_syntax.proofs.PartLemmas.{AllZip-next}
use Rattle.smith_syntax.proofs.instruction_kind.InstructionKindsFromStr.from_str.Goals as goal

pub returns-in-Err : goal.returns-in-Err
returns-in-Err c =
    let parts = split_at_commas c.args.s.now in
    let text = c.in-Some.part.now in
    let e = YieldsList-at c.into_iter-part-iterator.ensures.into_iter_gives
    (YieldsList-from_str_split 44 c.args.s.now (lit< tt) c.split-part-items.ensures.text c.split-part-items.ensures.has_more
    c.split-part-items.ensures.pattern) in
    let turn = YieldsList-turn e c.loop-part.yielded _ c.loop-part.yielded_by _ _ c.in-Some.part c.in-Some.is c.next.ensures.steps in
    let at : (c.loop-part.place < length parts) × (text ≡ get_or parts c.loop-part.place text) =
    subst (λ n. (n < length parts) × (text ≡ get_or parts n text)) (sym c.loop-part.invariant.count) turn in
    let named = c.loop-part.invariant.named in
    record {
      text = text;
      there = slice_get_read parts (length parts) c.loop-part.place text refl at.0 at.1;
      unknown = c.in-Err.ensures.0;
      kinds = named.0;
      before = named.1;
    }

pub loop-part-preserved : goal.loop-part-preserved
loop-part-preserved c =
    let parts = split_at_commas c.args.s.now in
    let text = c.in-Some.part.now in
    let e = YieldsList-at c.into_iter-part-iterator.ensures.into_iter_gives
    (YieldsList-from_str_split 44 c.args.s.now (lit< tt) c.split-part-items.ensures.text c.split-part-items.ensures.has_more
    c.split-part-items.ensures.pattern) in
    let turn = YieldsList-turn e c.loop-part.yielded _ c.loop-part.yielded_by _ _ c.in-Some.part c.in-Some.is c.next.ensures.steps in
    let at : (c.loop-part.place < length parts) × (text ≡ get_or parts c.loop-part.place text) =
    subst (λ n. (n < length parts) × (text ≡ get_or parts n text)) (sym c.loop-part.invariant.count) turn in
    let named = c.loop-part.invariant.named in
    record {
      count = let before = c.loop-part.invariant.count in grind (arith, common_steps);
      named = (
        named.0 ++ c.in-Ok.kind ∷ [],
        AllZip-next IsNamed parts c.loop-part.place named.0 text c.in-Ok.kind at.0 at.1 named.1 c.in-Ok.ensures,
        ap kinds_bits c.with-all.ensures ∙ union_of-push c.loop-part.all named.0 c.in-Ok.kind named.2,
      );
    }

pub returns : goal.returns
returns c =
    let parts = split_at_commas c.args.s.now in
    let e = YieldsList-at c.into_iter-part-iterator.ensures.into_iter_gives
    (YieldsList-from_str_split 44 c.args.s.now (lit< tt) c.split-part-items.ensures.text c.split-part-items.ensures.has_more
    c.split-part-items.ensures.pattern) in
    let end = YieldsList-end e c.loop-part.yielded _ c.loop-part.yielded_by _ _ c.in-None.is c.next.ensures.steps in
    let named = c.loop-part.invariant.named in
    let all : take c.loop-part.place parts ≡ parts = take_all _ parts (let count = c.loop-part.invariant.count in let long = end.1 in
    omega arith) in
    (named.0, subst (λ texts. AllZip IsNamed texts named.0) all named.1, named.2)
