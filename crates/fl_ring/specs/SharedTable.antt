-- A table of words that several seats step on, by one account of what each seat knows.
use Rattle.std.specs.Prelude.{ℕ, ◌≡◌, List}
use mathlib.Core.Option.{some}
use lib.ListN.{get_elem?}
use Rattle.atomic_table.specs.Table.{State}

-- There is an account that fits every seat's view, and holds of the words.
pub record Accounted {S V C : Type 0} (Fits : C → ℕ → V → Type 0) (Holds : List ℕ → C → Type 0) (s : State S V) : Type 0 where
  pub account : C
  pub seats : (i : ℕ) (v : V) → get_elem? s.views i ≡ some v → Fits account i v
  pub holds : Holds s.words account
