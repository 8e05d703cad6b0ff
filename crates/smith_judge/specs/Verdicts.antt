-- Answers, items and instructions as numbers. The meaning of a number never changes (own rules).
use Rattle.std.specs.Prelude.{ℕ, ◌-◌, ◌^◌, Option, Some, None}
use Rattle.smith_binary_read.specs.declared.error.Reason.{Reason}
use Rattle.smith_binary_read.specs.declared.error.Reason.TheVariants as reason
use Rattle.smith_check_module.specs.declared.faults.Part.{Part}
use Rattle.smith_check_module.specs.declared.faults.Part.TheVariants as part
use Rattle.smith_check.specs.declared.judgement.Fault.{Fault}
use Rattle.smith_check.specs.declared.judgement.Fault.TheVariants as fault
use Rattle.smith_check.specs.declared.judgement.Unjudged.{Unjudged}
use Rattle.smith_check.specs.declared.judgement.Unjudged.TheVariants as unjudged
use Rattle.smith_judge.specs.Rules.{rule_number}
use Rattle.smith_judge.specs.declared.answer.Answer.{Answer}
use Rattle.smith_judge.specs.declared.answer.Answer.TheVariants as answer
use Rattle.smith_judge.specs.declared.answer.Gap.{Gap}
use Rattle.smith_judge.specs.declared.finding.Finding.{Finding}
use Rattle.smith_judge.specs.declared.finding.Item.{Item}
use Rattle.smith_judge.specs.declared.finding.Item.TheVariants as item
use Rattle.smith_judge.specs.declared.verdict.Verdict.{Verdict}

-- the kind of item that a part of a module has
abbrev pub part_item : Part → Item
part_item part.Tags = item.Tag
part_item part.Functions = item.Function
part_item part.Tables = item.Table
part_item part.Memories = item.Memory
part_item part.Globals = item.Global
part_item part.TableInitials = item.Table
part_item part.GlobalInitials = item.Global
part_item part.Exports = item.Export
part_item part.Start = item.Start
part_item part.Elements = item.Element
part_item part.Datas = item.Data

abbrev pub fault_item : Fault → Item
fault_item (fault.Types group) = item.Types
fault_item (fault.Section one) = part_item one.part
fault_item (fault.Local body run) = item.Function
fault_item (fault.Body body instruction) = item.Function

abbrev pub gap_item : Unjudged → Item
gap_item unjudged.Types = item.Types
gap_item (unjudged.Locals body) = item.Function

-- the index of the faulty instruction or run of locals within its body, if any
abbrev pub fault_inner : Fault → Option ℕ
fault_inner (fault.Types group) = None
fault_inner (fault.Section one) = None
fault_inner (fault.Local body run) = Some run
fault_inner (fault.Body body instruction) = Some instruction

-- the number of a kind of item
abbrev pub item_number : Item → ℕ
item_number item.Types = 1
item_number item.Tag = 2
item_number item.Function = 3
item_number item.Table = 4
item_number item.Memory = 5
item_number item.Global = 6
item_number item.Export = 7
item_number item.Start = 8
item_number item.Element = 9
item_number item.Data = 10

-- the number of a fault of the format; 12 is for a form whose feature is disabled
abbrev pub reason_number : Reason → ℕ
reason_number reason.UnexpectedEnd = 1
reason_number reason.IntegerTooLong = 2
reason_number reason.IntegerTooLarge = 3
reason_number reason.NotUtf8 = 4
reason_number reason.TrailingBytes = 5
reason_number reason.UnknownByte = 6
reason_number reason.ListLength = 7
reason_number reason.ManyLocals = 8
reason_number reason.SectionOrder = 9
reason_number reason.CountMismatch = 10
reason_number reason.DataCountMissing = 11

-- the number of a kind of answer
abbrev pub answer_number : Answer → ℕ
answer_number answer.Valid = 0
answer_number (answer.Invalid finding) = 1
answer_number (answer.Malformed offset reason) = 2
answer_number (answer.FeatureOff offset) = 2
answer_number (answer.NotJudged gap) = 3

-- the index as a number, or the greatest 64-bit number if there is none
abbrev pub inner_number : Option ℕ → ℕ
inner_number (Some index) = index
inner_number None = 2 ^ 64 - 1

-- the verdict on a valid file
abbrev pub nothing_found : Verdict
nothing_found = record { kind = 0; rule = 0; reason = 0; item = 0; index = 0; inner = 2 ^ 64 - 1; offset = 2 ^ 64 - 1 }

-- the verdict on an invalid file
abbrev pub finding_verdict : Finding → Verdict
finding_verdict finding = record {
  kind = 1;
  rule = rule_number finding.rule;
  reason = 0;
  item = item_number (fault_item finding.fault);
  index = finding.index;
  inner = inner_number (fault_inner finding.fault);
  offset = finding.offset;
}

abbrev pub format_verdict : ℕ → ℕ → Verdict
format_verdict why offset = record { kind = 2; rule = 0; reason = why; item = 0; index = 0; inner = 2 ^ 64 - 1; offset = offset }

abbrev pub gap_verdict : Gap → Verdict
gap_verdict gap = record {
  kind = 3;
  rule = 0;
  reason = 0;
  item = item_number (gap_item gap.why);
  index = gap.index;
  inner = 2 ^ 64 - 1;
  offset = gap.offset;
}

-- an answer as numbers
abbrev pub verdict_of : Answer → Verdict
verdict_of answer.Valid = nothing_found
verdict_of (answer.Invalid finding) = finding_verdict finding
verdict_of (answer.Malformed offset why) = format_verdict (reason_number why) offset
verdict_of (answer.FeatureOff offset) = format_verdict 12 offset
verdict_of (answer.NotJudged gap) = gap_verdict gap
