-- The line and the column of a place in a text, given the bytes before it. Both are counted from 1,
-- columns in characters. Rules of this project.
use Rattle.std.specs.Prelude.{ℕ, ◌+◌, List, [], ◌∷◌, Bool, not, ◌==◌, bit_and, if◌then◌else◌, count_by}
use Rattle.std.specs.List.{list_any}

-- whether a byte is a line feed, which ends a line
abbrev pub is_feed : ℕ → Bool
is_feed byte = byte == 10

-- whether a byte is the first of a character: in UTF-8, any byte except 10xxxxxx
abbrev pub begins : ℕ → Bool
begins byte = not (bit_and byte 192 == 128)

-- the bytes after the last line feed
abbrev pub last_line : List ℕ → List ℕ
last_line [] = []
last_line (byte ∷ bytes) = if list_any is_feed (byte ∷ bytes) then last_line bytes else byte ∷ bytes

-- one more than the number of line feeds
abbrev pub line_of : List ℕ → ℕ
line_of before = 1 + count_by is_feed before

-- one more than the number of characters after the last line feed
abbrev pub column_of : List ℕ → ℕ
column_of before = 1 + count_by begins (last_line before)
