-- What is told of a core's sides. Laws.
use Rattle.std.specs.Prelude.{ℕ, ◌≡◌, ◌<◌, ◌⊎◌, List, [], length, slice_get, slice_set, Some}
use Rattle.fl_link.specs.Looks.{Look, Looks, LinkStep}
use Rattle.fl_ring.specs.SharedSides.{SharedPuts, SharedTakes, SidesNear}
use mathlib.Core.Option.{some}
use lib.ListN.{get_elem?}
use Rattle.fl_history_rings.specs.declared.board.Action.{Action}
use Rattle.fl_history_rings.specs.declared.board.SideEnd.{SideEnd}
use Rattle.fl_history_rings.specs.Rings.{mate}
use Rattle.fl_history_rings.specs.Rule.{ArePaired}
use Rattle.fl_history_rings.specs.Seats.{HaveSlots}
use Rattle.fl_history_rings.specs.Cores.{TheCore, IsSameCore, InOneOrder}
use Rattle.fl_history_sides.specs.States.{TheHistorySide, shown_of}
use Rattle.fl_history_sides.specs.Noted.{HistoryPuts, HistoryTakes, GoesOn, noting_all}
use Rattle.fl_history_sides.specs.Core.{AreSidesOf, IsOwnSide}

-- Law: what a side does in a row, a side of a ring that has a table of its own does.
abbrev pub SidesAreShared : Type 0
SidesAreShared = (p q : TheHistorySide) (looks : List Look) → Looks (LinkStep HistoryPuts HistoryTakes) p looks q
    → Looks (LinkStep SharedPuts SharedTakes) p.side looks q.side

-- Law: whatever a side does, it keeps its number, and its core is the same, which may have done more.
abbrev pub SidesStay : Type 0
SidesStay = (p q : TheHistorySide) (looks : List Look) → Looks (LinkStep HistoryPuts HistoryTakes) p looks q
    → (q.number ≡ p.number) × IsSameCore p.core q.core

-- Law: a core that did something is as one of its sides tells.
abbrev pub OneTellsAll : Type 0
OneTellsAll = (c : TheCore) (ss : List TheHistorySide) → AreSidesOf c ss
    → (c.steps ≡ []) ⊎ ((n : ℕ) × (p : TheHistorySide) × (slice_get ss n ≡ Some p) × (p.core ≡ c))

-- Law: where a core has sides, they are of no other.
abbrev pub SidesTellCore : Type 0
SidesTellCore = (c d : TheCore) (ss : List TheHistorySide) → AreSidesOf c ss → AreSidesOf d ss → 0 < length ss → d ≡ c

-- Law: where one side of a core goes on by these actions and the others stay, the core did just these.
abbrev pub CoresFollow : Type 0
CoresFollow = (c d : TheCore) (ss : List TheHistorySide) (n : ℕ) (p q : TheHistorySide) (did : List Action)
    → AreSidesOf c ss → AreSidesOf d (slice_set ss n q) → slice_get ss n ≡ Some p
    → q.number ≡ p.number → GoesOn p.number p.core did q.core
    → d ≡ noting_all c p.number did

-- Law: of a ring whose two cores are gathered, where one order is known of all that they did: what one side took
-- is the first of what the other put, and what one knows to be taken was acknowledged, and so it was taken.
abbrev pub RingsAreNear : Type 0
RingsAreNear = (ends : List SideEnd) (cores : List TheCore) → InOneOrder ends cores → HaveSlots ends → ArePaired ends
    → (i j : ℕ) (c d : TheCore) → get_elem? cores i ≡ some c → get_elem? cores j ≡ some d
    → (p q : TheHistorySide) → IsOwnSide c p → IsOwnSide d q → p ≡ shown_of c p.side.size p.number
    → q ≡ shown_of d q.side.size q.number → q.number ≡ mate p.number → SidesNear p.side q.side
