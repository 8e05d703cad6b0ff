-- Types of entities and exports that are read: the readings are sound and complete.
use Rattle.std.proofs.Common.{◌≡◌, ℕ, ◌+◌, Bool, true, false, List, [], ◌∷◌, ◌++◌, Option, Some, None, Ok, refl}
use Rattle.std.proofs.Common.{sym, ap, ◌∙◌, append_assoc}
use Rattle.smith_binary.specs.Numbers.{IsUnsigned}
use Rattle.smith_binary.specs.Pieces.{Is, IsByte, Joined}
use Rattle.smith_types.specs.Syntax.entity_type.TableType.{TableType}
use Rattle.smith_types.specs.Syntax.entity_type.MemoryType.{MemoryType}
use Rattle.smith_types.specs.Syntax.entity_type.EntityType.{EntityType}
use Rattle.smith_types.specs.Syntax.entity_type.EntityType.TheVariants as entity
use Rattle.smith_types.specs.Syntax.entity_type.ExportKind.{ExportKind}
use Rattle.smith_types.specs.Syntax.entity_type.ExportKind.TheVariants as kind
use Rattle.smith_binary_sections.specs.Entities.{flag, is_there, IsMaximum, IsPageSize, global_byte, IsGlobalType, limits_byte}
use Rattle.smith_binary_sections.specs.Entities.{IsMemoryType, IsTableType, IsTagType, IsExternType}
use Rattle.smith_binary_sections.specs.Exports.{kind_byte}
use Rattle.smith_binary_read.specs.Numbers.{unsigned_at}
use Rattle.smith_binary_read.specs.Decodes.{Front, Decodes}
use Rattle.smith_binary_read.proofs.ReadLemmas.{step, branch, test_passed, fault_avoided, item_is, front_as, front_same}
use Rattle.smith_binary_read.proofs.ReadLemmas.{front_joined, front_nothing, joined_decodes, first_read}
use Rattle.smith_binary_read.proofs.IntegerLemmas.{unsigned_decodes}
use Rattle.smith_binary_read.proofs.ContentLemmas.{name_decodes}
use Rattle.smith_binary_read.specs.declared.entities.Flags.{Flags}
use Rattle.smith_binary_read.specs.Choices.{coded_at}
use Rattle.smith_binary_read.specs.EntityReadings.{kind_rows, kind_at, IsExportItem, export_of, export_at, flags, flag_rows, flags_at}
use Rattle.smith_binary_read.specs.EntityReadings.{optional_at, memory_type, memory_type_at, tag_type_at, table_type, table_type_at}
use Rattle.smith_binary_read.specs.EntityReadings.{global_rows, global_flags_at, global_type, global_type_at, extern_type_at}
use Rattle.smith_binary_read.proofs.ChoiceLemmas.{tagged_read, tag_front, tagged_sound, coded_decodes}
use Rattle.smith_binary_read.proofs.TypeLemmas.{ref_decodes, val_decodes}

-- exports
kind_again : (x : ExportKind) (rest : List ℕ) → coded_at kind_rows (kind_byte x ∷ rest) ≡ Ok (x, rest)
kind_again kind.Func rest = refl
kind_again kind.Table rest = refl
kind_again kind.Memory rest = refl
kind_again kind.Global rest = refl
kind_again kind.Tag rest = refl

pub kind_decodes : Decodes (λ (x : ExportKind). IsByte (kind_byte x)) kind_at
unfolding kind_at
kind_decodes = coded_decodes kind_byte kind_rows (refl, (refl, (refl, (refl, (refl, tt))))) kind_again

pub export_decodes : Decodes IsExportItem export_at
unfolding export_at
export_decodes =
    joined_decodes export_of (λ item. item.name) (λ item. (item.kind, item.index)) (λ x y. refl) (λ x y. refl) (λ z. refl) name_decodes
    (joined_decodes (λ kind index. (kind, index)) (λ item. item.0) (λ item. item.1) (λ x y. refl) (λ x y. refl) (λ z. refl) kind_decodes
    (unsigned_decodes 32))

-- the flags of limits
abbrev pub flags_byte : Flags → ℕ
flags_byte f = flag f.bounded 0x01 + flag f.shared 0x02 + flag f.wide 0x04 + flag f.paged 0x08

flags_again : (a b c d : Bool) (rest : List ℕ) → coded_at flag_rows (flags_byte (flags a b c d) ∷ rest) ≡ Ok (flags a b c d, rest)
flags_again false false false false rest = refl
flags_again true false false false rest = refl
flags_again false true false false rest = refl
flags_again true true false false rest = refl
flags_again false false true false rest = refl
flags_again true false true false rest = refl
flags_again false true true false rest = refl
flags_again true true true false rest = refl
flags_again false false false true rest = refl
flags_again true false false true rest = refl
flags_again false true false true rest = refl
flags_again true true false true rest = refl
flags_again false false true true rest = refl
flags_again true false true true rest = refl
flags_again false true true true rest = refl
flags_again true true true true rest = refl

pub flags_decodes : Decodes (λ (f : Flags). IsByte (flags_byte f)) flags_at
unfolding flags_at
flags_decodes =
    coded_decodes flags_byte flag_rows (
      refl,
      (refl, (refl, (refl, (refl, (refl, (refl, (refl, (refl, (refl, (refl, (refl, (refl, (refl, (refl, (refl, tt))))))))))))))),
    )
    (λ f rest. flags_again f.bounded f.shared f.wide f.paged rest)

-- a number, if there is one
abbrev pub IsOptional : ℕ → Option ℕ → List ℕ → Type 0
IsOptional bits (Some n) piece = IsUnsigned bits n piece
IsOptional bits None piece = Is [] piece

optional_sound : (b : Bool) (bits : ℕ) (bytes : List ℕ) (x : Option ℕ) (rest : List ℕ) → optional_at b bits bytes ≡ Ok (x, rest)
    → Front (IsOptional bits x) bytes rest × (is_there x ≡ b)
optional_sound true bits bytes x rest e = step _ _ _ e (λ n first e.
    let same = item_is (Some n.0) x n.1 rest e in
    (front_same (IsOptional bits) (Some n.0) x n.1 rest e ((unsigned_decodes bits).sound bytes n.0 n.1 first), ap is_there (sym same.0)))
optional_sound false bits bytes x rest e =
    let same = item_is None x bytes rest e in
    (front_same (IsOptional bits) None x bytes rest e (front_nothing bytes refl), ap is_there (sym same.0))

optional_complete : (bits : ℕ) (x : Option ℕ) (piece rest : List ℕ) → IsOptional bits x piece
    → optional_at (is_there x) bits (piece ++ rest) ≡ Ok (x, rest)
optional_complete bits (Some n) piece rest h = rw ((unsigned_decodes bits).complete n piece rest h) refl
optional_complete bits None piece rest h = ap (λ (bytes : List ℕ). Ok (None, bytes ++ rest)) h

as_maximum : (x : Option ℕ) (piece : List ℕ) → IsOptional 64 x piece → IsMaximum x piece
as_maximum (Some n) piece h = h
as_maximum None piece h = h

of_maximum : (x : Option ℕ) (piece : List ℕ) → IsMaximum x piece → IsOptional 64 x piece
of_maximum (Some n) piece h = h
of_maximum None piece h = h

as_page : (x : Option ℕ) (piece : List ℕ) → IsOptional 32 x piece → IsPageSize x piece
as_page (Some n) piece h = h
as_page None piece h = h

of_page : (x : Option ℕ) (piece : List ℕ) → IsPageSize x piece → IsOptional 32 x piece
of_page (Some n) piece h = h
of_page None piece h = h

pub split_read : {First Second : List ℕ → Type 0} {piece : List ℕ} (h : Joined First Second piece) (rest : List ℕ) → piece
    ++ rest ≡ h.first ++ (h.second ++ rest)
split_read h rest = ap (λ (bytes : List ℕ). bytes ++ rest) h.whole ∙ append_assoc h.first h.second rest

-- memory types
flags_front : (f : Flags) (maximum page : Option ℕ) (bytes rest : List ℕ) → is_there maximum ≡ f.bounded → is_there page ≡ f.paged
    → Front (IsByte (flags_byte f)) bytes rest → Front (IsByte (limits_byte maximum f.shared f.wide page)) bytes rest
flags_front f maximum page bytes rest m p one = rw (m, p) one

memory_sound : (bytes : List ℕ) (x : MemoryType) (rest : List ℕ) → memory_type_at bytes ≡ Ok (x, rest) → Front (IsMemoryType x) bytes rest
unfolding memory_type_at
memory_sound bytes x rest e =
    step _ _ _ e (λ f first e. step _ _ _ e (λ minimum second e. step _ _ _ e (λ maximum third e. step _ _ _ e (λ page fourth e.
    let m = optional_sound f.0.bounded 64 minimum.1 maximum.0 maximum.1 third in
    let p = optional_sound f.0.paged 32 maximum.1 page.0 page.1 fourth in
    front_same IsMemoryType (memory_type f.0 minimum.0 maximum.0 page.0) x page.1 rest e
    (front_joined (flags_front f.0 maximum.0 page.0 bytes f.1 m.1 p.1 (flags_decodes.sound bytes f.0 f.1 first))
    (front_joined (front_joined ((unsigned_decodes 64).sound f.1 minimum.0 minimum.1 second) (front_as (as_maximum maximum.0) m.0))
    (front_as (as_page page.0) p.0)))))))

memory_complete : (x : MemoryType) (piece rest : List ℕ) → IsMemoryType x piece → memory_type_at (piece ++ rest) ≡ Ok (x, rest)
unfolding memory_type_at
memory_complete x piece rest h =
    let range = h.is_second.is_first in
    let after = h.is_second.second ++ rest in
    let first = first_read (flags (is_there x.maximum) x.shared x.memory64 (is_there x.page_size_log2)) rest flags_decodes h in
    let second : unsigned_at 64 (h.second ++ rest) ≡ Ok (x.minimum, range.second ++ after) = ap (unsigned_at 64)
    (split_read h.is_second rest) ∙ first_read x.minimum after (unsigned_decodes 64) range in
    rw (
      first,
      second,
      optional_complete 64 x.maximum range.second after
          (of_maximum x.maximum range.second range.is_second),
      optional_complete 32 x.page_size_log2 h.is_second.second rest (of_page x.page_size_log2 h.is_second.second h.is_second.is_second),
    ) refl

pub memory_decodes : Decodes IsMemoryType memory_type_at
memory_decodes = record { sound = memory_sound; complete = memory_complete }

-- tag types
tag_sound : (bytes : List ℕ) (x : ℕ) (rest : List ℕ) → tag_type_at bytes ≡ Ok (x, rest) → Front (IsTagType x) bytes rest
unfolding tag_type_at
tag_sound bytes x rest e = step _ _ _ e (λ byte first e. test_passed _ _ _ _ e (λ is e.
    front_joined (tag_front 0 bytes byte first is) ((unsigned_decodes 32).sound byte.1 x rest e)))

tag_complete : (x : ℕ) (piece rest : List ℕ) → IsTagType x piece → tag_type_at (piece ++ rest) ≡ Ok (x, rest)
unfolding tag_type_at
tag_complete x piece rest h = ap tag_type_at (tagged_read 0 rest h) ∙ (unsigned_decodes 32).complete x h.second rest h.is_second

pub tag_decodes : Decodes IsTagType tag_type_at
tag_decodes = record { sound = tag_sound; complete = tag_complete }

-- table types
table_sound : (bytes : List ℕ) (x : TableType) (rest : List ℕ) → table_type_at bytes ≡ Ok (x, rest) → Front (IsTableType x) bytes rest
unfolding table_type_at
table_sound bytes x rest e = step _ _ _ e
    (λ element zeroth e. step _ _ _ e (λ f first e. fault_avoided _ _ _ _ e
    (λ unpaged e. step _ _ _ e (λ minimum second e. step _ _ _ e (λ maximum third e.
    let m = optional_sound f.0.bounded 64 minimum.1 maximum.0 maximum.1 third in
    front_same IsTableType (table_type element.0 f.0 minimum.0 maximum.0) x maximum.1 rest e
    (front_joined (ref_decodes.sound bytes element.0 element.1 zeroth)
    (front_joined (flags_front f.0 maximum.0 None element.1 f.1 m.1 (sym unpaged) (flags_decodes.sound element.1 f.0 f.1 first))
    (front_joined ((unsigned_decodes 64).sound f.1 minimum.0 minimum.1 second) (front_as (as_maximum maximum.0) m.0)))))))))

table_complete : (x : TableType) (piece rest : List ℕ) → IsTableType x piece → table_type_at (piece ++ rest) ≡ Ok (x, rest)
unfolding table_type_at
table_complete x piece rest h =
    let range = h.is_second.is_second in
    rw (
      first_read x.element_type rest ref_decodes h,
      first_read (flags (is_there x.maximum) x.shared x.table64 false) rest flags_decodes h.is_second,
      first_read x.minimum rest (unsigned_decodes 64) range,
      optional_complete 64 x.maximum range.second rest (of_maximum x.maximum range.second range.is_second),
    ) refl

pub table_decodes : Decodes IsTableType table_type_at
table_decodes = record { sound = table_sound; complete = table_complete }

-- global types
abbrev pub global_code : Bool × Bool → ℕ
global_code f = global_byte f.0 f.1

global_again : (a b : Bool) (rest : List ℕ) → coded_at global_rows (global_byte a b ∷ rest) ≡ Ok ((a, b), rest)
global_again false false rest = refl
global_again true false rest = refl
global_again false true rest = refl
global_again true true rest = refl

global_flags_decodes : Decodes (λ (f : Bool × Bool). IsByte (global_code f)) global_flags_at
unfolding global_flags_at
global_flags_decodes = coded_decodes global_code global_rows (refl, (refl, (refl, (refl, tt)))) (λ f rest. global_again f.0 f.1 rest)

pub global_decodes : Decodes IsGlobalType global_type_at
unfolding global_type_at
global_decodes = joined_decodes global_type (λ global. global.val_type) (λ global. (global.mutable, global.shared)) (λ x y. refl)
    (λ x y. refl) (λ z. refl) val_decodes global_flags_decodes

-- external types
extern_sound : (bytes : List ℕ) (x : EntityType) (rest : List ℕ) → extern_type_at bytes ≡ Ok (x, rest) → Front (IsExternType x) bytes rest
unfolding extern_type_at
extern_sound bytes x rest e = step _ _ _ e (λ byte first e.
    branch _ _ _ _ e (λ is e. tagged_sound IsExternType entity.Func 0 (unsigned_decodes 32) (λ y piece h. h) bytes byte x rest first is e)
    (λ is_not e.
    branch _ _ _ _ e (λ is e. tagged_sound IsExternType entity.Table 1 table_decodes (λ y piece h. h) bytes byte x rest first is e)
    (λ is_not e.
    branch _ _ _ _ e (λ is e. tagged_sound IsExternType entity.Memory 2 memory_decodes (λ y piece h. h) bytes byte x rest first is e)
    (λ is_not e.
    branch _ _ _ _ e (λ is e. tagged_sound IsExternType entity.Global 3 global_decodes (λ y piece h. h) bytes byte x rest first is e)
    (λ is_not e.
    test_passed _ _ _ _ e (λ is e. tagged_sound IsExternType entity.Tag 4 tag_decodes (λ y piece h. h) bytes byte x rest first is e))))))

extern_complete : (x : EntityType) (piece rest : List ℕ) → IsExternType x piece → extern_type_at (piece ++ rest) ≡ Ok (x, rest)
unfolding extern_type_at
extern_complete (entity.Func index) piece rest h =
    ap extern_type_at (tagged_read 0 rest h) ∙ rw ((unsigned_decodes 32).complete index h.second rest h.is_second) refl
extern_complete (entity.Table table) piece rest h =
    ap extern_type_at (tagged_read 1 rest h) ∙ rw (table_decodes.complete table h.second rest h.is_second) refl
extern_complete (entity.Memory memory) piece rest h =
    ap extern_type_at (tagged_read 2 rest h) ∙ rw (memory_decodes.complete memory h.second rest h.is_second) refl
extern_complete (entity.Global global) piece rest h =
    ap extern_type_at (tagged_read 3 rest h) ∙ rw (global_decodes.complete global h.second rest h.is_second) refl
extern_complete (entity.Tag index) piece rest h =
    ap extern_type_at (tagged_read 4 rest h) ∙ rw (tag_decodes.complete index h.second rest h.is_second) refl

pub extern_decodes : Decodes IsExternType extern_type_at
extern_decodes = record { sound = extern_sound; complete = extern_complete }
