-- The rule of a table of rings of two sides, and what each kind of step tells its core.
--
-- Each side puts fragments into a way of its own, and takes from the way of the other side of its ring. The
-- ways lie one behind the other, by the numbers of their sides, and one word behind all of them is nobody's.
-- A way of n slots takes 8n words, eight for each slot. There is no word for what is acknowledged: bits 48 to
-- 63 of every control word say how many fragments the side that put it had taken, modulo 65,536. Fragments
-- are numbered from 0 by way; that of number i goes to slot i mod n. The steps are these, each by the seat of
-- the core whose side it is:
--
--   the next payload word of the slot that is put into next is loaded: the core knows fewer than seven of
--     them
--   a number is stored into a payload word of that slot, whose words before it the core knows: then it knows
--     this one too, and none behind it. It knows that the slot is free
--   the control word is stored, with the epoch due and the number of all that the side took: the core knows
--     all seven payload words, and that the slot is free. The fragment is put
--   the control word of the slot that is taken from next is loaded. With the epoch due a fragment is found,
--     which stands first, and the count that it tells is known; with the other, none stands there. This is a
--     look for a fragment, or for room alone
--   the payload words of the fragment that was found are loaded, one after another. With the seventh the
--     core has seen the fragment, or has taken it
--   at the start seats are cut off the first one, a core each, and at the end they are joined
--
-- Nobody keeps the history: the rule says that there is one.
use Rattle.std.specs.Prelude.{ℕ, zero, suc, ◌≡◌, ◌+◌, ◌*◌, ◌-◌, ◌%◌, ◌≤◌, ◌<◌, ◌^◌, ◌==◌, nat_lt}
use Rattle.std.specs.Prelude.{if◌then◌else◌, List, [], ◌∷◌, ◌++◌, length, take, slice_index_or}
use Rattle.std.specs.Prelude.{Option, Some, None}
use mathlib.Core.Option.{some}
use lib.ListN.{get_elem?}
use Rattle.atomic_table.specs.Table.{State, Me, Step}
use Rattle.fl_base.specs.declared.fragment.Frag.{Frag}
use Rattle.fl_base.specs.Control.{epoch_of, told_of}
use Rattle.fl_link.specs.Cursor.{epoch_at}
use Rattle.fl_ring.specs.Counts.{count_from}
use Rattle.fl_ring.specs.SharedTable.{Accounted}
use Rattle.fl_ring.specs.SharedWay.{frag_from}
use Rattle.fl_ring.specs.SharedDuo.{BothRun, ways}
use Rattle.fl_ring.specs.declared.shared.board.WriterView.{WriterView}
use Rattle.fl_ring.specs.declared.shared.board.ReaderView.{ReaderView}
use Rattle.fl_ring.specs.declared.shared.duo_board.SideView.{SideView}
use Rattle.fl_history_rings.specs.declared.board.Action.{Action}
use Rattle.fl_history_rings.specs.declared.board.Action.TheVariants.{Put, Found, Missed, Saw, Took}
use Rattle.fl_history_rings.specs.declared.board.Entry.{Entry}
use Rattle.fl_history_rings.specs.declared.board.SideEnd.{SideEnd}
use Rattle.fl_history_rings.specs.declared.board.Insight.{Insight}
use Rattle.fl_history_rings.specs.declared.board.Insight.TheVariants.{Nothing, Writing, Reading}
use Rattle.fl_history_rings.specs.declared.board.CoreView.{CoreView}
use Rattle.fl_history_rings.specs.declared.board.SeatView.{SeatView}
use Rattle.fl_history_rings.specs.Rings.{mate, Way, Goes, Runs, all_empty, entry, IsByItsCore, steps_of}

-- ---- where ways lie

-- how many words these ways take
abbrev pub words_of : List SideEnd → ℕ
words_of [] = 0
words_of (e ∷ es) = 8 * e.slots + words_of es

-- the first word of the way that side s puts into
abbrev pub first_word : List SideEnd → ℕ → ℕ
first_word [] s = 0
first_word (e ∷ es) zero = 0
first_word (e ∷ es) (suc s) = 8 * e.slots + first_word es s

-- the side that puts into the way of a word
abbrev pub putter_of : List SideEnd → ℕ → ℕ
putter_of [] word = 0
putter_of (e ∷ es) word =
    if nat_lt word (8 * e.slots) then zero else suc (putter_of es (word - 8 * e.slots))

abbrev pub no_side : SideEnd
no_side = record { slots = 0; core = 0 }

-- the slots of each way of the ring of side s
abbrev pub slots_of : List SideEnd → ℕ → ℕ
slots_of ends s = (slice_index_or ends s no_side).slots

-- Both sides of each ring are there, with as many slots.
abbrev pub ArePaired : List SideEnd → Type 0
ArePaired ends = (s : ℕ) (end : SideEnd) → get_elem? ends s ≡ some end
    → (other : SideEnd) × (get_elem? ends (mate s) ≡ some other) × (other.slots ≡ end.slots)

-- ---- what a history says of a side

-- of the steps by side s, the pieces of their actions, in order
abbrev pub gather : {A : Type 0} → (Action → List A) → ℕ → List Entry → List A
gather f s [] = []
gather f s (e ∷ es) = (if e.side == s then f e.action else []) ++ gather f s es

abbrev pub one_put : Action → List Frag
one_put (Put frag) = frag ∷ []
one_put (Found control) = []
one_put Missed = []
one_put (Saw frag) = []
one_put (Took frag) = []

abbrev pub one_took : Action → List Frag
one_took (Put frag) = []
one_took (Found control) = []
one_took Missed = []
one_took (Saw frag) = []
one_took (Took frag) = frag ∷ []

abbrev pub one_found : Action → List ℕ
one_found (Put frag) = []
one_found (Found control) = control ∷ []
one_found Missed = []
one_found (Saw frag) = []
one_found (Took frag) = []

abbrev pub one_action : Action → List Action
one_action d = d ∷ []

-- the fragments that side s put, and those that it took
abbrev pub puts_at : ℕ → List Entry → List Frag
puts_at = gather one_put

abbrev pub takes_at : ℕ → List Entry → List Frag
takes_at = gather one_took

-- the count that is known once these control words were found
abbrev pub known_from : ℕ → List ℕ → ℕ
known_from known [] = known
known_from known (control ∷ more) = known_from (count_from known (told_of control)) more

-- how many of its fragments side s knows to be taken
abbrev pub known_at : ℕ → List Entry → ℕ
known_at s es = known_from 0 (gather one_found s es)

-- how many are told after these actions, where so many were taken and so many told before: with a put, all
-- that were taken
abbrev pub told_from : ℕ → ℕ → List Action → ℕ
told_from taken told [] = told
told_from taken told (Put frag ∷ more) = told_from taken taken more
told_from taken told (Found control ∷ more) = told_from taken told more
told_from taken told (Missed ∷ more) = told_from taken told more
told_from taken told (Saw frag ∷ more) = told_from taken told more
told_from taken told (Took frag ∷ more) = told_from (taken + 1) told more

-- the fragment that is seen and not taken, after these actions
abbrev pub seen_from : Option Frag → List Action → Option Frag
seen_from seen [] = seen
seen_from seen (Put frag ∷ more) = seen_from seen more
seen_from seen (Found control ∷ more) = seen_from seen more
seen_from seen (Missed ∷ more) = seen_from seen more
seen_from seen (Saw frag ∷ more) = seen_from (Some frag) more
seen_from seen (Took frag ∷ more) = seen_from None more

-- the fragment that side s has seen and not taken, if there is one
abbrev pub seen_at : ℕ → List Entry → Option Frag
seen_at s es = seen_from None (gather one_action s es)

-- how many fragments side s told that it took: all that it had taken when it put last
abbrev pub told_at : ℕ → List Entry → ℕ
told_at s es = told_from 0 0 (gather one_action s es)

-- ---- the rule

-- A way stands so, where the side that puts into it and the one that takes from it know this.
pub record Stands (p : Way) (w : WriterView) (r : ReaderView) : Type 0 where
  pub waits : w.sent ≡ r.got ++ p.waiting
  pub taken_is : p.taken ≡ length r.got
  pub told_is : p.told ≡ r.told

-- A ring of n slots each way lies from words b and c on, where its two sides know this, and so its ways
-- stand.
pub record Lies (b c n : ℕ) (words : List ℕ) (x y : SideView) (p q : Way) : Type 0 where
  pub runs : BothRun (ways b c n 0) words x y
  pub there : Stands p x.put y.take
  pub back : Stands q y.put x.take

-- the payload words that a core knows of the slot that side s puts into next, and of the one that it has in
-- hand
abbrev pub part_at : ℕ → Insight → List ℕ
part_at s Nothing = []
part_at s (Writing j part) = if j == s then part else []
part_at s (Reading j part control) = []

abbrev pub part_in : Insight → List ℕ
part_in Nothing = []
part_in (Writing s part) = part
part_in (Reading s part control) = []

-- the payload words and the control word that it has loaded of the fragment in hand
abbrev pub loaded_in : Insight → List ℕ
loaded_in Nothing = []
loaded_in (Writing s part) = []
loaded_in (Reading s part control) = part

abbrev pub control_in : Insight → ℕ
control_in Nothing = 0
control_in (Writing s part) = 0
control_in (Reading s part control) = control

-- of what a core did by side s and has in hand: what `fl_ring`'s view of the side has of it
pub record KnowsSide (s : ℕ) (h : CoreView) (x : SideView) : Type 0 where
  pub sent_is : x.put.sent ≡ puts_at s h.steps
  pub got_is : x.take.got ≡ takes_at s h.steps
  pub known_is : x.put.known ≡ known_at s h.steps
  pub part_is : x.put.part ≡ part_at s h.knows
  pub peeked_is : x.take.peeked ≡ seen_at s h.steps
  pub loaded : (part : List ℕ) (control : ℕ) → h.knows ≡ Reading s part control
      → (x.take.part ≡ part) × (x.take.last ≡ control)

-- what core c knows is so
pub record Knows (ends : List SideEnd) (sides : List SideView) (log : List Entry) (c : ℕ) (h : CoreView)
    : Type 0 where
  pub number_is : h.core ≡ c
  pub sides_are : h.sides ≡ ends
  pub did : h.steps ≡ steps_of c log
  pub knows : (s : ℕ) (end : SideEnd) (x : SideView) → get_elem? ends s ≡ some end → end.core ≡ c
      → get_elem? sides s ≡ some x → KnowsSide s h x

-- There is one history of all rings. What each core did are the steps of it that are that core's.
pub record Holds (ends : List SideEnd) (words : List ℕ) (cores : List CoreView) : Type 0 where
  pub log : List Entry
  pub queues : List Way
  pub sides : List SideView
  pub paired : ArePaired ends
  pub runs : Runs (Goes ends) (all_empty (length ends)) log queues
  pub by_its_core : (i : ℕ) (e : Entry) → get_elem? log i ≡ some e → IsByItsCore ends e
  pub many : length queues ≡ length ends
  pub many_sides : length sides ≡ length ends
  pub lie : (s : ℕ) (end : SideEnd) (x y : SideView) (p q : Way) → get_elem? ends s ≡ some end
      → get_elem? sides s ≡ some x → get_elem? sides (mate s) ≡ some y
      → get_elem? queues s ≡ some p → get_elem? queues (mate s) ≡ some q
      → Lies (first_word ends s) (first_word ends (mate s)) end.slots words x y p q
  pub knows : (c : ℕ) (h : CoreView) → get_elem? cores c ≡ some h → Knows ends sides log c h

-- each core by its number: its seat, and what it knows
pub record Account : Type 0 where
  pub seats : List ℕ
  pub cores : List CoreView

-- the view of the seat of this number: what it says of its cores is so
abbrev pub Fits : Account → ℕ → SeatView → Type 0
Fits c seat v = (i : ℕ) (h : CoreView) → get_elem? v.cores i ≡ some h
    → (get_elem? c.cores h.core ≡ some h) × (get_elem? c.seats h.core ≡ some seat)

abbrev pub Held : List SideEnd → List ℕ → Account → Type 0
Held ends words c = Holds ends words c.cores

-- what holds of the table at every moment
abbrev pub RingsHold : List SideEnd → State (Unit {0}) SeatView → Type 0
RingsHold ends = Accounted Fits (Held ends)

-- ---- the views

abbrev pub view_of : List SideEnd → ℕ → List Entry → Insight → CoreView
view_of ends core did insight = record { core = core; sides = ends; steps = did; knows = insight }

-- a core that did these steps, between two calls
abbrev pub at_rest : List SideEnd → ℕ → List Entry → CoreView
at_rest ends core did = view_of ends core did Nothing

-- the core that knows this
abbrev pub knowing : CoreView → Insight → CoreView
knowing h insight = view_of h.sides h.core h.steps insight

-- the core, once it did this too, and knows this
abbrev pub with_action : CoreView → ℕ → Action → Insight → CoreView
with_action h s d insight = view_of h.sides h.core (h.steps ++ entry h.core s d ∷ []) insight

-- the view of one core's seat, and of the seat of some
abbrev pub seat_of : List CoreView → SeatView
seat_of cores = record { cores = cores }

abbrev pub one_core : CoreView → SeatView
one_core h = seat_of (h ∷ [])

-- the core whose seat it is
abbrev pub core_of : SeatView → CoreView
core_of v = slice_index_or v.cores 0 (at_rest [] 0 [])

-- so many cores that did nothing yet, from this number on
abbrev pub fresh_cores : List SideEnd → ℕ → ℕ → List CoreView
fresh_cores ends first zero = []
fresh_cores ends first (suc more) = at_rest ends first [] ∷ fresh_cores ends (suc first) more

-- the first seat holds all
abbrev pub first_view : List SideEnd → ℕ → SeatView
first_view ends count = seat_of (fresh_cores ends 0 count)

-- the first core of some, and the others
abbrev pub first_in : List CoreView → List CoreView
first_in [] = []
first_in (h ∷ hs) = h ∷ []

abbrev pub others_in : List CoreView → List CoreView
others_in [] = []
others_in (h ∷ hs) = hs

-- a seat without its first core, and that core's own
abbrev pub without_first : SeatView → SeatView
without_first v = seat_of (others_in v.cores)

abbrev pub first_alone : SeatView → SeatView
first_alone v = seat_of (first_in v.cores)

-- two seats joined, and what the second is left with
abbrev pub both_of : SeatView → SeatView → SeatView
both_of v w = seat_of (v.cores ++ w.cores)

abbrev pub nobody : SeatView
nobody = seat_of []

-- ---- what each step tells: of the step, the seat before, the number found or stored, the seat after

abbrev Player : Type 1
Player = Step (Unit {0}) → Me (Unit {0}) SeatView → ℕ → Me (Unit {0}) SeatView → Type 0

-- the side that puts into the way of the step's word, the one that takes from it, and which word of a slot
-- it is
abbrev pub putter_at : Step (Unit {0}) → SeatView → ℕ
putter_at st v = putter_of (core_of v).sides st.word

abbrev pub taker_at : Step (Unit {0}) → SeatView → ℕ
taker_at st v = mate (putter_at st v)

abbrev pub index_at : Step (Unit {0}) → SeatView → ℕ
index_at st v = (st.word - first_word (core_of v).sides (putter_at st v)) % 8

-- the seat of one core alone
abbrev pub alone : CoreView → Me (Unit {0}) SeatView
alone h = (one_core h, [])

-- the seat that it is then, with what it held
abbrev pub seat_with : Me (Unit {0}) SeatView → CoreView → Me (Unit {0}) SeatView
seat_with m h = (one_core h, m.1)

-- the core that steps, once it knows this, or has done this
abbrev pub then_knows : Me (Unit {0}) SeatView → Insight → Me (Unit {0}) SeatView
then_knows m insight = seat_with m (knowing (core_of m.0) insight)

abbrev pub then_did : Me (Unit {0}) SeatView → ℕ → Action → Insight → Me (Unit {0}) SeatView
then_did m s d insight = seat_with m (with_action (core_of m.0) s d insight)

-- what it knew before
abbrev pub in_hand : Me (Unit {0}) SeatView → Insight
in_hand m = (core_of m.0).knows

-- one payload word more is known
abbrev pub finds_word : Player
finds_word st m x m' =
    m' ≡ then_knows m (Writing (putter_at st m.0) (part_in (in_hand m) ++ x ∷ []))

-- those before this one are known, and this one
abbrev pub stores_word : Player
stores_word st m x m' =
    m' ≡ then_knows m (Writing (putter_at st m.0) (take (index_at st m.0) (part_in (in_hand m)) ++ x ∷ []))

-- the fragment is put, which is noted
abbrev pub stores_control : Player
stores_control st m x m' =
    m' ≡ then_did m (putter_at st m.0) (Put (frag_from (part_in (in_hand m)) x)) Nothing

-- the epoch that is due for side s, after these steps
abbrev pub due_at : List SideEnd → ℕ → List Entry → ℕ
due_at ends s did = epoch_at (slots_of ends s) (length (takes_at s did))

-- this control word has the epoch that is due
abbrev pub IsDueAt : Step (Unit {0}) → SeatView → ℕ → Type 0
IsDueAt st v x = epoch_of x ≡ due_at (core_of v).sides (taker_at st v) (core_of v).steps

-- what is known then to be taken was put
abbrev pub CountsSent : Step (Unit {0}) → SeatView → ℕ → Type 0
CountsSent st v x = IsDueAt st v x
    → count_from (known_at (taker_at st v) (core_of v).steps) (told_of x)
    ≤ length (puts_at (taker_at st v) (core_of v).steps)

-- what was seen and not taken stands there: it has this control word
abbrev pub IsSeenControl : Step (Unit {0}) → SeatView → ℕ → Type 0
IsSeenControl st v x = (frag : Frag) → seen_at (taker_at st v) (core_of v).steps ≡ Some frag
    → IsDueAt st v x × (frag.control ≡ x)

-- there is a fragment, or there is none, which are both noted
abbrev pub looks : Player
looks st m x m' = CountsSent st m.0 x
    × (IsDueAt st m.0 x → m' ≡ then_did m (taker_at st m.0) (Found x) (Reading (taker_at st m.0) [] x))
    × (¬ (IsDueAt st m.0 x) → m' ≡ then_did m (taker_at st m.0) Missed Nothing)
    × IsSeenControl st m.0 x

-- the same for room, and the fragment is not read on
abbrev pub counts : Player
counts st m x m' = CountsSent st m.0 x
    × (IsDueAt st m.0 x → m' ≡ then_did m (taker_at st m.0) (Found x) Nothing)
    × (¬ (IsDueAt st m.0 x) → m' ≡ then_did m (taker_at st m.0) Missed Nothing)
    × IsSeenControl st m.0 x

-- one payload word more is loaded
abbrev pub loads_word : Player
loads_word st m x m' =
    m' ≡ then_knows m (Reading (taker_at st m.0) (loaded_in (in_hand m) ++ x ∷ []) (control_in (in_hand m)))

-- the fragment whose last payload word this is
abbrev pub frag_in : Insight → ℕ → Frag
frag_in insight x = frag_from (loaded_in insight ++ x ∷ []) (control_in insight)

-- it is the one that was seen before, if one was
abbrev pub IsSeenFrag : Step (Unit {0}) → SeatView → ℕ → Type 0
IsSeenFrag st v x = (frag : Frag) → seen_at (taker_at st v) (core_of v).steps ≡ Some frag
    → frag_in (core_of v).knows x ≡ frag

-- it was seen, or taken, which is noted
abbrev pub sees_frag : Player
sees_frag st m x m' =
    (m' ≡ then_did m (taker_at st m.0) (Saw (frag_in (in_hand m) x)) Nothing) × IsSeenFrag st m.0 x

abbrev pub takes_frag : Player
takes_frag st m x m' =
    (m' ≡ then_did m (taker_at st m.0) (Took (frag_in (in_hand m) x)) Nothing)
    × (length (takes_at (taker_at st m.0) (core_of m.0).steps) < 2 ^ 62) × IsSeenFrag st m.0 x

-- One order of all that was done at these rings, from when all were empty: each step finds how its ring
-- stands at that moment, is of its side's core, and what these cores did are their steps in it.
pub record OneOrder (ends : List SideEnd) (cores : List CoreView) : Type 0 where
  pub sides_are : (i : ℕ) (h : CoreView) → get_elem? cores i ≡ some h → h.sides ≡ ends
  pub log : List Entry
  pub queues : List Way
  pub runs : Runs (Goes ends) (all_empty (length ends)) log queues
  pub by_its_core : (i : ℕ) (e : Entry) → get_elem? log i ≡ some e → IsByItsCore ends e
  pub did : (i : ℕ) (h : CoreView) → get_elem? cores i ≡ some h → steps_of h.core log ≡ h.steps

-- nothing changes, and what the cores of a seat did has one order
abbrev pub compares : Player
compares st m x m' = (m' ≡ m) × OneOrder (core_of m.0).sides m.0.cores
