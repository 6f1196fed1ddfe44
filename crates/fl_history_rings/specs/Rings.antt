-- Rings of two sides, and what is done by them: a pure machine.
use Rattle.std.specs.Prelude.{ℕ, zero, suc, ◌≡◌, ◌+◌, ◌%◌, ◌<◌, ◌==◌, if◌then◌else◌}
use Rattle.std.specs.Prelude.{List, [], ◌∷◌, ◌++◌, length, replicate, slice_set}
use mathlib.Core.Option.{some}
use lib.ListN.{get_elem?}
use Rattle.fl_base.specs.declared.fragment.Frag.{Frag}
use Rattle.fl_base.specs.Control.{told_of}
use Rattle.fl_history_rings.specs.declared.board.Action.{Action}
use Rattle.fl_history_rings.specs.declared.board.Action.TheVariants.{Put, Found, Missed, Saw, Took}
use Rattle.fl_history_rings.specs.declared.board.Entry.{Entry}
use Rattle.fl_history_rings.specs.declared.board.RingEnds.{RingEnds}
use Rattle.fl_history_rings.specs.declared.board.SideEnd.{SideEnd}

-- the sides of these rings: 0 and 1 are those of the first ring, 2 and 3 those of the next, and so on
abbrev pub side_end : ℕ → ℕ → SideEnd
side_end slots core = record { slots = slots; core = core }

abbrev pub sides_of : List RingEnds → List SideEnd
sides_of [] = []
sides_of (r ∷ rs) = side_end r.slots r.first ∷ side_end r.slots r.second ∷ sides_of rs

-- the other side of the ring
abbrev pub mate : ℕ → ℕ
mate zero = 1
mate (suc zero) = 0
mate (suc (suc s)) = suc (suc (mate s))

-- how the way stands that one side puts into and the other takes from
pub record Way : Type 0 where
  -- the fragments that were put into it and not taken yet, in order
  pub waiting : List Frag
  -- how many were taken, and how many of these are acknowledged: the others still take their slots
  pub taken : ℕ
  pub told : ℕ

abbrev pub way_with : List Frag → ℕ → ℕ → Way
way_with waiting taken told = record { waiting = waiting; taken = taken; told = told }

-- One action of a side of a ring of n slots each way. It finds the way p that it puts into, and the way q
-- that it takes from, and leaves them as p' and q'. With a fragment that it puts it acknowledges all that it
-- took.
abbrev pub Does : ℕ → Way → Way → Action → Way → Way → Type 0
Does n p q (Put frag) p' q' =
    (p.taken + length p.waiting < p.told + n) × (told_of frag.control ≡ q.taken % 65536)
    × (p' ≡ way_with (p.waiting ++ frag ∷ []) p.taken p.told) × (q' ≡ way_with q.waiting q.taken q.taken)
Does n p q (Found control) p' q' =
    (first : Frag) × (rest : List Frag) × (q.waiting ≡ first ∷ rest) × (first.control ≡ control)
    × (p' ≡ p) × (q' ≡ q)
Does n p q Missed p' q' = (q.waiting ≡ []) × (p' ≡ p) × (q' ≡ q)
Does n p q (Saw frag) p' q' = (rest : List Frag) × (q.waiting ≡ frag ∷ rest) × (p' ≡ p) × (q' ≡ q)
Does n p q (Took frag) p' q' =
    (rest : List Frag) × (q.waiting ≡ frag ∷ rest) × (p' ≡ p) × (q' ≡ way_with rest (q.taken + 1) q.told)

-- who did what by which side
abbrev pub entry : ℕ → ℕ → Action → Entry
entry core side action = record { core = core; side = side; action = action }

-- One step: its action by its side, and no other ring changes. Each way has the number of the side that puts
-- into it.
pub record Goes (ends : List SideEnd) (before : List Way) (e : Entry) (after : List Way) : Type 0 where
  pub end : SideEnd
  pub mine : Way
  pub theirs : Way
  pub mine_left : Way
  pub theirs_left : Way
  pub there : get_elem? ends e.side ≡ some end
  pub stood : get_elem? before e.side ≡ some mine
  pub stood_back : get_elem? before (mate e.side) ≡ some theirs
  pub does : Does end.slots mine theirs e.action mine_left theirs_left
  pub leaves : after ≡ slice_set (slice_set before e.side mine_left) (mate e.side) theirs_left

-- steps in a row, each from where those before it have led
abbrev pub Runs : {S E : Type 0} → (S → E → S → Type 0) → S → List E → S → Type 0
Runs R before [] after = before ≡ after
Runs {S} R before (e ∷ es) after = (between : S) × R before e between × Runs R between es after

-- so many ways, all empty
abbrev pub all_empty : ℕ → List Way
all_empty count = replicate count (way_with [] 0 0)

-- the side is there, and is the core's that did this
abbrev pub IsByItsCore : List SideEnd → Entry → Type 0
IsByItsCore ends e = (end : SideEnd) × (get_elem? ends e.side ≡ some end) × (e.core ≡ end.core)

-- of these steps those of one core, in order
abbrev pub steps_of : ℕ → List Entry → List Entry
steps_of core [] = []
steps_of core (e ∷ es) = if e.core == core then e ∷ steps_of core es else steps_of core es
