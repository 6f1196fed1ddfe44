-- When a script has no drawing, and with which status a program then ends.
use Rattle.std.specs.Prelude.{ℕ, ◌<◌, ◌≤◌, List, Option, Some, None, length}
use Rattle.fl_script_lines.specs.Items.{Item, ItemsOf}
use Rattle.flounder_chart.specs.declared.fault.ChartFault.{ChartFault}
use Rattle.flounder_chart.specs.declared.fault.ChartFault.TheVariants.{TooLong, TooManyRows, Memory}

-- 2 a script that is refused, 3 out of memory
abbrev pub status_of : ChartFault → ℕ
status_of TooLong = 2
status_of TooManyRows = 2
status_of Memory = 3

-- a script is run that has at most so many bytes
abbrev pub IsRun : List ℕ → Type 0
IsRun script = length script ≤ 1048576

-- it has more lines and blocks than a drawing has rows
abbrev pub HasMany : List ℕ → Type 0
HasMany script = (items : List Item) × ItemsOf script items × (5000 < length items)

-- all lines are to be drawn, or so many, which are more than a drawing has rows
abbrev pub AsksForMany : Option ℕ → Type 0
AsksForMany None = Unit {0}
AsksForMany (Some count) = 5000 < count

-- Why a script has no drawing, of which so many lines are to be drawn, or all: it is too long to be run; or it is
-- run, and too much of it is to be drawn, or memory is refused.
abbrev pub IsFaultOf : List ℕ → Option ℕ → ChartFault → Type 0
IsFaultOf script count TooLong = 1048576 < length script
IsFaultOf script count TooManyRows = IsRun script × (AsksForMany count × HasMany script)
IsFaultOf script count Memory = IsRun script

-- why a run of so many rows has none; no public promise rests on it
abbrev pub IsFaultOfRows : ℕ → Option ℕ → ChartFault → Type 0
IsFaultOfRows rows count TooLong = ⊥
IsFaultOfRows rows count TooManyRows = AsksForMany count × (5000 < rows)
IsFaultOfRows rows count Memory = Unit {0}
