-- Events of cores: steps of one core in a row that can happen at one moment, whatever other cores do between
-- them. And an order of steps, cut into events. The field calls steps that may wait right movers, those that may come
-- earlier left movers, and such an event atomic.
use Rattle.std.specs.Prelude.{ℕ, ◌≡◌, ◌≤◌, ◌==◌, ◌⊎◌, Bool, true, false, if◌then◌else◌}
use Rattle.std.specs.Prelude.{List, [], ◌∷◌, ◌++◌}
use mathlib.Core.Option.{some}
use lib.ListN.{get_elem?}
use Rattle.fl_history_rings.specs.declared.board.Action.{Action}
use Rattle.fl_history_rings.specs.declared.board.Action.TheVariants.{Put, Found, Missed, Saw, Took}
use Rattle.fl_history_rings.specs.declared.board.Entry.{Entry}
use Rattle.fl_history_rings.specs.declared.board.SideEnd.{SideEnd}
use Rattle.fl_history_rings.specs.Rings.{Way, Goes, Runs, IsByItsCore, steps_of}
use Rattle.fl_history_rings.specs.Rule.{gather, one_action}

-- ---- what can happen later, and what earlier

-- It may wait: it can happen later, past steps of other cores.
--   What was found, seen or taken stood first for its side, and what stands first stands first till that side
--   takes it: nobody else does. How many it took is told by its next put, and not before.
--   A look that misses may not wait: something may be put meanwhile. Nor may a put: it may be awaited.
abbrev pub MayWait : Action → Type 0
MayWait (Put frag) = ⊥
MayWait (Found control) = Unit {0}
MayWait Missed = ⊥
MayWait (Saw frag) = Unit {0}
MayWait (Took frag) = Unit {0}

abbrev pub AllMayWait : List Entry → Type 0
AllMayWait [] = Unit {0}
AllMayWait (e ∷ es) = MayWait e.action × AllMayWait es

-- whether it is known that a fragment stands for a side, after an action of it, and after these: one was found
-- or seen, and none was taken since
abbrev pub known_after : Bool → Action → Bool
known_after known (Put frag) = known
known_after known (Found control) = true
known_after known Missed = known
known_after known (Saw frag) = true
known_after known (Took frag) = false

abbrev pub stands_from : Bool → List Action → Bool
stands_from known [] = known
stands_from known (action ∷ more) = stands_from (known_after known action) more

-- whether these steps of a core tell that a fragment stands for side s
abbrev pub known_to_stand : ℕ → List Entry → Bool
known_to_stand s es = stands_from false (gather one_action s es)

-- It may come earlier: it can happen before steps of other cores.
--   A look that misses always may: where nothing stands for a side nothing stood before, since nobody else
--   takes it away.
--   What is found, seen or taken may only where it is known that something stood: else it may have been put
--   meanwhile. What stands first then is the same, since what is put comes behind it.
--   A put may not: it takes a slot that others may have freed meanwhile, and what it puts may have been missed.
abbrev pub MayComeEarlier : Bool → Action → Type 0
MayComeEarlier known (Put frag) = ⊥
MayComeEarlier known (Found control) = known ≡ true
MayComeEarlier known Missed = Unit {0}
MayComeEarlier known (Saw frag) = known ≡ true
MayComeEarlier known (Took frag) = known ≡ true

-- ---- events

-- A step of a core that did the past steps, and these before it in its event: they may all wait for it, or it
-- may come as early as they.
abbrev pub MayFollow : List Entry → List Entry → Entry → Type 0
MayFollow past before e = AllMayWait before ⊎ MayComeEarlier (known_to_stand e.side (past ++ before)) e.action

-- these steps, one after another, follow so on those before
abbrev pub FollowAll : List Entry → List Entry → List Entry → Type 0
FollowAll past before [] = Unit {0}
FollowAll past before (e ∷ es) = MayFollow past before e × FollowAll past (before ++ e ∷ []) es

-- Steps that can be had at one moment, by a core that did the past steps before.
abbrev pub IsEventAfter : List Entry → List Entry → Type 0
IsEventAfter past steps = FollowAll past [] steps

-- whatever it did before
abbrev pub IsEvent : List Entry → Type 0
IsEvent steps = IsEventAfter [] steps

-- ---- the moment of an event

-- these may come earlier, one after another, behind those before
abbrev pub AllMayComeEarlier : List Entry → List Entry → Type 0
AllMayComeEarlier before [] = Unit {0}
AllMayComeEarlier before (e ∷ es) =
    MayComeEarlier (known_to_stand e.side before) e.action × AllMayComeEarlier (before ++ e ∷ []) es

-- It is that of one of its steps, a put or any other: those before it wait for it, and those behind it come as
-- early as it.
pub record HaveMoment (past steps : List Entry) : Type 0 where
  pub before : List Entry
  pub moment : Entry
  pub behind : List Entry
  pub steps_are : steps ≡ before ++ moment ∷ behind
  pub wait : AllMayWait before
  pub come : AllMayComeEarlier (past ++ (before ++ moment ∷ [])) behind

-- ---- cut into events

-- the steps of all these, one after another
abbrev pub joined : List (List Entry) → List Entry
joined [] = []
joined (steps ∷ more) = steps ++ joined more

-- each of these is an event, after those before it
abbrev pub AreEvents : List (List Entry) → Type 0
AreEvents events = (before behind : List (List Entry)) (steps : List Entry) → events ≡ before ++ steps ∷ behind
    → IsEventAfter (joined before) steps

-- What each core did of these steps, in its order, cut into events. An event without steps does nothing by
-- rings, and keeps its place among its core's. Only the first so many cores have events.
pub record IsCut (cores : ℕ) (log : List Entry) (events : ℕ → List (List Entry)) : Type 0 where
  pub whole : (core : ℕ) → joined (events core) ≡ steps_of core log
  pub each : (core : ℕ) → AreEvents (events core)
  pub within : (core : ℕ) → cores ≤ core → events core ≡ []

-- ---- an order of events

pub record CoreEvent : Type 0 where
  pub core : ℕ
  pub steps : List Entry

abbrev pub event : ℕ → List Entry → CoreEvent
event core steps = record { core = core; steps = steps }

-- the steps of all of them, those of each in a row
abbrev pub all_steps : List CoreEvent → List Entry
all_steps [] = []
all_steps (e ∷ es) = e.steps ++ all_steps es

-- of these events those of one core, in order
abbrev pub events_of : ℕ → List CoreEvent → List (List Entry)
events_of core [] = []
events_of core (e ∷ es) = if e.core == core then e.steps ∷ events_of core es else events_of core es

-- all of an event, at one moment
abbrev pub EventGoes : List SideEnd → List Way → CoreEvent → List Way → Type 0
EventGoes ends before e after = Runs (Goes ends) before e.steps after

-- One order of these events of cores, from how the ways stood before to how they stand after.
pub record EventsInOneOrder (ends : List SideEnd) (before : List Way) (events : ℕ → List (List Entry))
    (after : List Way) : Type 0 where
  pub order : List CoreEvent
  -- All of each event happens at one moment: each of its steps finds its ring as those before left it.
  pub happen : Runs (EventGoes ends) before order after
  -- So no step of another event comes between two of one.
  pub runs : Runs (Goes ends) before (all_steps order) after
  -- the steps of each are its core's, by sides of that core
  pub by_its_core : (i j : ℕ) (d : CoreEvent) (e : Entry) → get_elem? order i ≡ some d
      → get_elem? d.steps j ≡ some e → (e.core ≡ d.core) × IsByItsCore ends e
  -- it has of each core just these events, in its order
  pub did : (core : ℕ) → events_of core order ≡ events core
