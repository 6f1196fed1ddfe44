-- A core's seat, as callers see it.
use Rattle.std.specs.Prelude.{ℕ, ◌≡◌, ◌+◌, List, length, []}
use Rattle.atomic_table.specs.Seated.{TableId}
use Rattle.atomic_table.specs.declared.shared.Seat.{Seat}
use Rattle.fl_cores_table.specs.declared.table.CoresView.{CoresView}

abbrev pub CounterSeat : Type 0
CounterSeat = Seat (Unit {0}) CoresView

-- which table it is, and what the seat knows
pub record TheCoresSeat : Type 0 where
  pub table : TableId
  pub knows : CoresView

abbrev pub seat_of : CounterSeat → TheCoresSeat
seat_of s = record { table = s.table_id; knows = s.me.0 }

-- the same table, and this known
abbrev pub knowing : TheCoresSeat → CoresView → TheCoresSeat
knowing s v = record { table = s.table; knows = v }

-- a seat at this table, of a plan with so many cores and these jobs
pub record IsSeated (table : TableId) (cores : ℕ) (owners : List ℕ) (seat : CounterSeat) : Type 0 where
  pub same : seat.table_id ≡ table
  pub wide : table.words ≡ length owners + 1
  pub held : seat.me.1 ≡ []
  pub told : seat.me.0.owners ≡ owners
  pub all : seat.me.0.whole ≡ cores + 1
