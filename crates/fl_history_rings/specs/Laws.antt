-- What one order of all that was done by all sides tells. Laws.
use Rattle.std.specs.Prelude.{ℕ, ◌≡◌, ◌≢◌, ◌+◌, ◌%◌, ◌≤◌, ◌<◌, List, [], ◌∷◌, ◌++◌, length}
use mathlib.Core.Option.{some}
use lib.ListN.{get_elem?}
use Rattle.fl_base.specs.declared.fragment.Frag.{Frag}
use Rattle.fl_base.specs.Control.{told_of}
use Rattle.fl_base.specs.Prefix.{IsPrefix}
use Rattle.fl_history_rings.specs.declared.board.Action.{Action}
use Rattle.fl_history_rings.specs.declared.board.Action.TheVariants.{Put, Found, Missed, Saw, Took}
use Rattle.fl_history_rings.specs.declared.board.Entry.{Entry}
use Rattle.fl_history_rings.specs.declared.board.SideEnd.{SideEnd}
use Rattle.fl_history_rings.specs.declared.place.RingSide.{RingSide}
use Rattle.fl_history_rings.specs.Rings.{mate, entry}
use Rattle.fl_history_rings.specs.Rule.{puts_at, takes_at, known_at, told_at}
use Rattle.fl_history_rings.specs.Cores.{TheCore, noting, InOneOrder}
use Rattle.fl_history_rings.specs.Sides.{SideFor}

-- Law: what one side of a ring took is a prefix of what the other put, where the cores of both are among
-- these.
abbrev pub TakenIsPrefix : Type 0
TakenIsPrefix = (ends : List SideEnd) (cores : List TheCore) → InOneOrder ends cores
    → (s : ℕ) (one other : SideEnd) → get_elem? ends s ≡ some one → get_elem? ends (mate s) ≡ some other
    → (i j : ℕ) (taker putter : TheCore) → get_elem? cores i ≡ some taker → get_elem? cores j ≡ some putter
    → taker.number ≡ one.core → putter.number ≡ other.core
    → IsPrefix (takes_at s taker.steps) (puts_at (mate s) putter.steps)

-- what a step comes to where these fragments stand for its side, in order, put and not taken
abbrev pub FindsIn : List Frag → Action → Type 0
FindsIn waiting (Put frag) = Unit {0}
FindsIn waiting (Found control) =
    (first : Frag) × (rest : List Frag) × (waiting ≡ first ∷ rest) × (first.control ≡ control)
FindsIn waiting Missed = waiting ≡ []
FindsIn waiting (Saw frag) = (rest : List Frag) × (waiting ≡ frag ∷ rest)
FindsIn waiting (Took frag) = (rest : List Frag) × (waiting ≡ frag ∷ rest)

-- Law: in one order of all, each look and each take finds what stands first for its side at that point: the
-- first of what the other side put before and this one didn't take, or nothing where nothing was.
abbrev pub LooksFindWhatStands : Type 0
LooksFindWhatStands = (ends : List SideEnd) (cores : List TheCore) (order : InOneOrder ends cores)
    (before after : List Entry) (e : Entry) → order.log ≡ before ++ e ∷ after
    → (waiting : List Frag) × (puts_at (mate e.side) before ≡ takes_at e.side before ++ waiting)
    × FindsIn waiting e.action

-- Law: a fragment tells how many its side had taken when it was put, modulo 65,536.
abbrev pub PutsTellWhatWasTaken : Type 0
PutsTellWhatWasTaken = (ends : List SideEnd) (cores : List TheCore) (order : InOneOrder ends cores)
    (before after : List Entry) (core s : ℕ) (frag : Frag)
    → order.log ≡ before ++ entry core s (Put frag) ∷ after
    → told_of frag.control ≡ length (takes_at s before) % 65536

-- Law: a put finds a free slot. Its side put fewer fragments before than the slots and those that the other
-- side had told, together.
abbrev pub PutsFindRoom : Type 0
PutsFindRoom = (ends : List SideEnd) (cores : List TheCore) (order : InOneOrder ends cores)
    (before after : List Entry) (core s : ℕ) (frag : Frag)
    → order.log ≡ before ++ entry core s (Put frag) ∷ after
    → (end : SideEnd) → get_elem? ends s ≡ some end
    → length (puts_at s before) < told_at (mate s) before + end.slots

-- Law: at each point of one order, what a side knows to be taken was told, and so it was taken.
abbrev pub KnownWasTaken : Type 0
KnownWasTaken = (ends : List SideEnd) (cores : List TheCore) (order : InOneOrder ends cores)
    (before after : List Entry) → order.log ≡ before ++ after
    → (s : ℕ) (one other : SideEnd) → get_elem? ends s ≡ some one → get_elem? ends (mate s) ≡ some other
    → (known_at s before ≤ told_at (mate s) before)
    × (known_at s before ≤ length (takes_at (mate s) before))

-- this core is among these
abbrev pub IsAmong : List TheCore → ℕ → Type 0
IsAmong cores number = (i : ℕ) × (c : TheCore) × (get_elem? cores i ≡ some c) × (c.number ≡ number)

-- all cores of these sides are
abbrev pub AllAreAmong : List TheCore → List SideEnd → Type 0
AllAreAmong cores ends = (s : ℕ) (end : SideEnd) → get_elem? ends s ≡ some end → IsAmong cores end.core

-- Law: where all cores of the sides are among these, each step of one order is of one of these cores.
abbrev pub NoOthers : Type 0
NoOthers = (ends : List SideEnd) (cores : List TheCore) (order : InOneOrder ends cores)
    → AllAreAmong cores ends → (i : ℕ) (e : Entry) → get_elem? order.log i ≡ some e → IsAmong cores e.core

-- the first of these steps finds a fragment with this control word
abbrev pub BeginsByFinding : List Entry → ℕ → Type 0
BeginsByFinding steps control =
    (core : ℕ) × (side : ℕ) × (rest : List Entry) × (steps ≡ entry core side (Found control) ∷ rest)

-- Law: where all cores of the sides are among these, one of them doesn't begin by finding a fragment.
abbrev pub NotAllBeginByFinding : Type 0
NotAllBeginByFinding = (ends : List SideEnd) (cores : List TheCore) → InOneOrder ends cores → 0 < length cores
    → AllAreAmong cores ends
    → ((i : ℕ) (c : TheCore) → get_elem? cores i ≡ some c → (control : ℕ) × BeginsByFinding c.steps control)
    → ⊥

-- Law: what a core does by one side leaves its sides of other rings, and the other side of this one.
abbrev pub SidesStay : Type 0
SidesStay = (c : TheCore) (s : ℕ) (d : Action) (a : RingSide)
    → a.put.side ≢ s → SideFor c a → SideFor (noting c s d) a
