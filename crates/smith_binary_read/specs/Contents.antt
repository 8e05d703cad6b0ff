-- Readings of names, lists and contents.
use Rattle.std.specs.Prelude.{ℕ, List, length, Result, Ok, if◌then◌else◌}
use Rattle.std.specs.Str.{is_utf8}
use Rattle.smith_binary_read.specs.declared.error.Fault.{Fault}
use Rattle.smith_binary_read.specs.declared.error.Reason.TheVariants.{NotUtf8}
use Rattle.smith_binary_read.specs.Readings.{Reading, ◌>>=◌, fault_at, bytes_at, each_at, before}
use Rattle.smith_binary_read.specs.Numbers.{unsigned_at}

-- reads a number, then that many bytes
unfoldable pub content_at : List ℕ → Reading (List ℕ)
content_at bytes = unsigned_at 32 bytes >>= (λ count. bytes_at count.0 count.1)

-- reads a name
unfoldable pub name_at : List ℕ → Reading (List ℕ)
name_at bytes = content_at bytes >>= (λ text. if is_utf8 text.0 then Ok text else fault_at NotUtf8 bytes)

-- reads the number of items, then the items
unfoldable pub list_at : {A : Type 0} → (List ℕ → Reading A) → List ℕ → Reading (List A)
list_at read bytes = unsigned_at 32 bytes >>= (λ count. each_at read count.0 count.1)

-- reads the size of a content, then the content
unfoldable pub sized_at : {A : Type 0} → (List ℕ → Result A Fault) → List ℕ → Reading A
sized_at read bytes = content_at bytes >>= (λ content. before (length content.1) (read content.0) >>= (λ x. Ok (x, content.1)))
