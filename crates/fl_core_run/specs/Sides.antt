-- What the sides of a core do.
use Rattle.std.specs.Prelude.{List}
use Rattle.fl_link.specs.Looks.{Look}

-- how a side puts, how it looks, takes and tells, and what its last look saw; and what is known of all sides of a core together, at any moment
pub record SideRelations (S : Type 0) : Type 1 where
  pub puts : S → Look → S → Type 0
  pub takes : S → Look → S → Type 0
  pub front : S → Look
  pub whole : List S → Type 0

-- where nothing is known of them together, since each has a table of its own
abbrev pub ways : {S : Type 0} → (S → Look → S → Type 0) → (S → Look → S → Type 0) → (S → Look) → SideRelations S
ways puts takes front = record { puts = puts; takes = takes; front = front; whole = λ sides. Unit {0} }
