-- Places of a text as people count them, lines and columns from 1.
use Rattle.std.specs.Prelude.{ℕ, ◌+◌, Bool, not, List, take, nat_eq}
use Rattle.std.specs.List.{count_by, suffix_len}

-- the one byte that ends a line; a carriage return is a byte of its line
abbrev pub is_line_feed : ℕ → Bool
is_line_feed byte = nat_eq byte 10

-- the line of an offset: one more than the line feeds before it
abbrev pub line_at : List ℕ → ℕ → ℕ
line_at text offset = count_by is_line_feed (take offset text) + 1

-- the column of an offset: one more than the bytes between the last line feed before it and it
abbrev pub column_at : List ℕ → ℕ → ℕ
column_at text offset = suffix_len (λ byte. not (is_line_feed byte)) (take offset text) + 1
