-- What a side notes by its labels: actions that may all wait, and maybe one more.
use Rattle.std.proofs.Common.{ℕ, ◌≡◌, ◌⊎◌, inl, inr, ⊎_elim, Bool, List, [], ◌∷◌, ◌++◌, subst, sym, refl}
use Rattle.fl_base.specs.declared.fragment.Frag.{Frag}
use Rattle.fl_link.specs.Looks.{Look, placed, no_room, spent, saw, saw_ack, found, found_ack, missed, told, kept}
use Rattle.fl_ring.specs.Duo.{acknowledgement}
use Rattle.fl_history_rings.specs.declared.board.Action.{Action}
use Rattle.fl_history_rings.specs.declared.board.Action.TheVariants.{Put, Found, Missed, Took}
use Rattle.fl_history_sides.specs.States.{TheHistorySide}
use Rattle.fl_history_sides.specs.Noted.{NotesFound, NotesFull, NotesPut, NotesSeen, NotesTaken, Notes, IsNoted}
use Rattle.fl_history_entries.proofs.Acting.{AllWait, wait_join, FollowActs, all_wait_follow, one_follows}
use Rattle.fl_history_entries.proofs.Growing.{Grew, grew_on, grew_not, grew_then}

-- ---- actions

-- all may wait, but maybe the last
abbrev pub Simple : List Action → Type 0
Simple acts = (before : List Action) × AllWait before × ((acts ≡ before) ⊎ ((a : Action) × (acts ≡ before ++ a ∷ [])))

pub simple_follow : (known : Bool) (acts : List Action) → Simple acts → FollowActs known [] acts
simple_follow known acts (before, wait, is) =
    ⊎_elim
    (λ same. subst (λ (l : List Action). FollowActs known [] l) (sym same) (all_wait_follow known [] before tt wait))
    (λ more. subst (λ (l : List Action). FollowActs known [] l) (sym more.1) (one_follows known [] before more.0 tt wait))
    is

-- what a put notes: maybe a fragment that was found, and then the put
pub record PutActs (did : List Action) : Type 0 where
  pub room : List Action
  pub frag : Frag
  pub wait : AllWait room
  pub did_is : did ≡ room ++ Put frag ∷ []
  pub room_is : let none : List Action = [] in (room ≡ none) ⊎ ((control : ℕ) × (room ≡ Found control ∷ []))

pub put_acts : (frag : Frag) (did : List Action) → NotesPut frag did → PutActs did
put_acts frag did (room, f, room_is, bare, did_is) = record {
  room = room;
  frag = f;
  wait =
      ⊎_elim
      (λ none. subst (λ (l : List Action). AllWait l) (sym none) tt)
      (λ found_one. subst (λ (l : List Action). AllWait l) (sym found_one.1) (tt, tt))
      room_is;
  did_is = did_is;
  room_is = room_is;
}

put_simple : (frag : Frag) (did : List Action) → NotesPut frag did → Simple did
put_simple frag did notes = let put = put_acts frag did notes in (put.room, put.wait, inr (Put put.frag, put.did_is))

none_simple : (did : List Action) → (let none : List Action = [] in did ≡ none) → Simple did
none_simple did is = ([], tt, inl is)

found_simple : (did : List Action) → NotesFound did → Simple did
found_simple did notes =
    ⊎_elim (λ none. none_simple did none) (λ found_one. ([], tt, inr (Found found_one.0, found_one.1))) notes

full_simple : (did : List Action) → NotesFull did → Simple did
full_simple did notes =
    ⊎_elim (λ some. found_simple did some) (λ missed_one. ([], tt, inr (Missed, missed_one))) notes

seen_wait : (look : Look) (did : List Action) → NotesSeen look did → AllWait did
seen_wait look did (f, at, is) = subst (λ (l : List Action). AllWait l) (sym is) (tt, (tt, tt))

-- and what was taken
pub record TakenActs (did : List Action) : Type 0 where
  pub control : ℕ
  pub frag : Frag
  pub did_is : did ≡ Found control ∷ Took frag ∷ []

pub taken_acts : (look : Look) (did : List Action) → NotesTaken look did → TakenActs did
taken_acts look did (f, at, is) = record { control = f.control; frag = f; did_is = is }

taken_wait : (look : Look) (did : List Action) → NotesTaken look did → AllWait did
taken_wait look did (f, at, is) = subst (λ (l : List Action). AllWait l) (sym is) (tt, (tt, tt))

wait_simple : (did : List Action) → AllWait did → Simple did
wait_simple did wait = (did, wait, inl refl)

-- ---- by label

notes_simple : (look : Look) (did : List Action) → Notes look did → Simple did
notes_simple (placed frag) did notes = put_simple frag did notes
notes_simple no_room did notes = full_simple did notes
notes_simple spent did notes = none_simple did notes
notes_simple (saw frag) did notes = wait_simple did (seen_wait (saw frag) did notes)
notes_simple saw_ack did notes = wait_simple did (seen_wait saw_ack did notes)
notes_simple (found frag) did notes = wait_simple did (taken_wait (saw frag) did notes)
notes_simple found_ack did notes = wait_simple did (taken_wait saw_ack did notes)
notes_simple missed did notes = ([], tt, inr (Missed, notes))
notes_simple told did notes = put_simple acknowledgement did notes
notes_simple kept did notes = none_simple did notes

-- these see or take a fragment
abbrev pub Waits : Look → Type 0
Waits (placed frag) = ⊥
Waits no_room = ⊥
Waits spent = ⊥
Waits (saw frag) = Unit {0}
Waits saw_ack = Unit {0}
Waits (found frag) = Unit {0}
Waits found_ack = Unit {0}
Waits missed = ⊥
Waits told = ⊥
Waits kept = ⊥

notes_wait : (look : Look) (did : List Action) → Waits look → Notes look did → AllWait did
notes_wait (placed frag) did waits notes = absurd waits
notes_wait no_room did waits notes = absurd waits
notes_wait spent did waits notes = absurd waits
notes_wait (saw frag) did waits notes = seen_wait (saw frag) did notes
notes_wait saw_ack did waits notes = seen_wait saw_ack did notes
notes_wait (found frag) did waits notes = taken_wait (saw frag) did notes
notes_wait found_ack did waits notes = taken_wait saw_ack did notes
notes_wait missed did waits notes = absurd waits
notes_wait told did waits notes = absurd waits
notes_wait kept did waits notes = absurd waits

-- ---- sides

-- its core did such actions by it
pub record GrewSimply (p q : TheHistorySide) : Type 0 where
  pub acts : List Action
  pub grew : Grew acts p q
  pub simple : Simple acts

pub record GrewWaiting (p q : TheHistorySide) : Type 0 where
  pub acts : List Action
  pub grew : Grew acts p q
  pub wait : AllWait acts

pub noted : (p : TheHistorySide) (look : Look) (q : TheHistorySide) → IsNoted p look q → GrewSimply p q
noted p look q is = record { acts = is.did; grew = grew_on p q is.did is.number is.goes_on; simple = notes_simple look is.did is.notes }

pub noted_waiting : (p : TheHistorySide) (look : Look) (q : TheHistorySide) → Waits look → IsNoted p look q → GrewWaiting p q
noted_waiting p look q waits is = record { acts = is.did; grew = grew_on p q is.did is.number is.goes_on; wait = notes_wait look is.did waits is.notes }

pub still : (p q : TheHistorySide) → q ≡ p → GrewSimply p q
still p q is = subst (λ (z : TheHistorySide). GrewSimply p z) (sym is) (record { acts = []; grew = grew_not p; simple = ([], tt, inl refl) })

pub waiting_simply : (p q : TheHistorySide) → GrewWaiting p q → GrewSimply p q
waiting_simply p q g = record { acts = g.acts; grew = g.grew; simple = wait_simple g.acts g.wait }

pub waiting_then : (p m q : TheHistorySide) → GrewWaiting p m → GrewWaiting m q → GrewWaiting p q
waiting_then p m q one two = record {
  acts = one.acts ++ two.acts;
  grew = grew_then p m q one.acts two.acts one.grew two.grew;
  wait = wait_join one.acts two.acts one.wait two.wait;
}
