-- A table's names, in order, by which public contracts speak of `NameTable`.
use Rattle.std.specs.Prelude.{ℕ, List, map}
use Rattle.fl_script_lines.specs.declared.table.NameTable.{NameTable}

abbrev pub table_of : NameTable → List (List ℕ)
table_of table = map (λ name. name.items) table.set.keys
