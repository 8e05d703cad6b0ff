use Rattle.std.proofs.Common.{◌≡◌, ◌≤◌, length, take}
use Rattle.smith_config.specs.OffsetChoices.{IsNumber}
use Rattle.smith_types.specs.Syntax.SplitTexts.{split_at_commas}
use Rattle.std.specs.List.{AllZip}
use Rattle.smith_config.proofs.offset_choices.MemoryOffsetChoicesFromStr.from_str.Given as goal

abbrev pub invariant-loop-part : goal.invariant-loop-part
invariant-loop-part l = record {
  count : l.place ≡ length l.yielded;
  long : length l.numbers ≡ 3;
  few : l.place ≤ 3;
  read : AllZip IsNumber (take l.place (split_at_commas l.s)) (take l.place l.numbers);
}
