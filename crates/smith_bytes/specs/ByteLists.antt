-- Drawn lists of bytes. Rules of this project.
use Rattle.std.specs.Prelude.{ℕ, List, [], length}
use Rattle.smith_bytes.specs.Draws.{whole_at}
use Rattle.smith_bytes.specs.Growth.{grow_at}

-- a list of bytes: before each byte, a drawn bool is true. Past the end of the source the bool is
-- false, so that a list has at most as many bytes as the source.
unfoldable pub byte_list_at : List ℕ → List ℕ × List ℕ
byte_list_at bytes = grow_at (λ made. whole_at 1) 0 (length bytes) [] bytes
