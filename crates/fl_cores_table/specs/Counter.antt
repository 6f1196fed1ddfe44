-- The rule of a run's table, and what each kind of step tells its seat.
--
-- Word 0 counts the cores that have ended; word j + 1 is 0, or the number with which job j's opening was refused. Core c
-- has a seat, and the run has one. The steps are these, each by one seat:
--
--   add 1 to the counter: a core has finished, once for each core in the seat
--   add 17 to the counter: a core or the run stops, once for each seat in the seat
--   load the counter
--   store a job's word: by the seat of the job's client's core, once
--   load a job's word
--   cut a core's seat off one that has told nothing yet, and put two seats in one, each with a load that tells nothing
use Rattle.std.specs.Prelude.{ℕ, ◌≡◌, ◌⊎◌, ◌+◌, ◌-◌, ◌*◌, ◌≤◌, ◌<◌, ◌==◌, if◌then◌else◌, List, [], ◌∷◌, ◌++◌, length, slice_index, max}
use Rattle.std.specs.List.{range_with_len}
use mathlib.Core.Option.{some}
use lib.ListN.{get_elem?}
use Rattle.atomic_table.specs.Table.{State, Me, Step}
use Rattle.fl_cores_table.specs.declared.table.CoresView.{CoresView}
use Rattle.fl_cores_table.specs.declared.table.OpeningRefusal.{OpeningRefusal}

-- ---- what a view comes to

-- what a seat has added to the counter: 1 for each core that finished, 17 for each stop
abbrev pub added : CoresView → ℕ
added v = v.finished + 17 * v.stopped

-- how often a number stands in a list
abbrev pub times : ℕ → List ℕ → ℕ
times x [] = 0
times x (y ∷ ys) = if y == x then times x ys + 1 else times x ys

-- how often a job was told of
abbrev pub times_told : ℕ → List OpeningRefusal → ℕ
times_told job [] = 0
times_told job (r ∷ rs) = if r.job == job then times_told job rs + 1 else times_told job rs

-- the number that was told of a job (told at most once, it is that one); 0 where none was
abbrev pub number_of : ℕ → List OpeningRefusal → ℕ
number_of job [] = 0
number_of job (r ∷ rs) = if r.job == job then number_of job rs + r.number else number_of job rs

-- f of each view, added up
abbrev pub total : (CoresView → ℕ) → List CoresView → ℕ
total f [] = 0
total f (v ∷ vs) = f v + total f vs

-- ---- the rule

-- what a seat knows fits the plan, which has the core of each job
pub record Fits (owners : List ℕ) (v : CoresView) : Type 0 where
  pub finished : v.finished ≤ length v.cores
  pub stopped : v.stopped ≤ v.seats
  pub seated : length v.cores ≤ v.seats
  -- a core in the seat tells of its own jobs alone, each once
  pub own : (job : ℕ) → times_told job v.stored ≤ times (slice_index owners job) v.cores

-- what was found in a job's word stands there, or was 0
abbrev pub Stands : List ℕ → List OpeningRefusal → Type 0
Stands words [] = Unit {0}
Stands words (r ∷ rs) = ((r.number ≡ 0) ⊎ (slice_index words (r.job + 1) ≡ r.number)) × Stands words rs

pub record CounterRule (cores : ℕ) (owners : List ℕ) (s : State (Unit {0}) CoresView) : Type 0 where
  pub few : cores ≤ 16
  pub wide : length s.words ≡ length owners + 1
  pub counter : slice_index s.words 0 ≡ total added s.views
  pub jobs : (job : ℕ) → job < length owners → slice_index s.words (job + 1) ≡ total (λ v. number_of job v.stored) s.views
  pub fits : (i : ℕ) (v : CoresView) → get_elem? s.views i ≡ some v → Fits owners v
  pub seen : (i : ℕ) (v : CoresView) → get_elem? s.views i ≡ some v → v.seen ≤ slice_index s.words 0
  pub heard : (i : ℕ) (v : CoresView) → get_elem? s.views i ≡ some v → Stands s.words v.heard
  -- no core is in two seats, and no seat is lost
  pub once : (core : ℕ) → total (λ v. times core v.cores) s.views ≤ 1
  pub all : total (λ v. v.seats) s.views ≡ cores + 1

-- ---- the views

-- the first seat is everybody's
abbrev pub opening_view : ℕ → List ℕ → CoresView
opening_view cores owners = record {
  seats = cores + 1;
  cores = range_with_len 0 cores;
  finished = 0;
  stopped = 0;
  seen = 0;
  stored = [];
  heard = [];
  owners = owners;
  whole = cores + 1;
}

abbrev pub with_finish : CoresView → CoresView
with_finish v = record v { finished = v.finished + 1 }

abbrev pub with_stop : CoresView → CoresView
with_stop v = record v { stopped = v.stopped + 1 }

abbrev pub with_seen : CoresView → ℕ → CoresView
with_seen v count = record v { seen = count }

abbrev pub with_stored : CoresView → ℕ → ℕ → CoresView
with_stored v job number = record v { stored = record { job = job; number = number } ∷ v.stored }

abbrev pub with_heard : CoresView → ℕ → ℕ → CoresView
with_heard v job number = record v { heard = record { job = job; number = number } ∷ v.heard }

-- the first core in a seat, and the others
abbrev pub first_core : List ℕ → List ℕ
first_core [] = []
first_core (c ∷ cs) = c ∷ []

abbrev pub other_cores : List ℕ → List ℕ
other_cores [] = []
other_cores (c ∷ cs) = cs

-- a seat that has told nothing, without its first core; and that core's own
abbrev pub without_core : CoresView → CoresView
without_core v = record v { seats = v.seats - 1; cores = other_cores v.cores }

abbrev pub core_alone : CoresView → CoresView
core_alone v = record v { seats = 1; cores = first_core v.cores; finished = 0; stopped = 0; stored = [] }

-- two seats in one
abbrev pub both : CoresView → CoresView → CoresView
both v w = record {
  seats = v.seats + w.seats;
  cores = v.cores ++ w.cores;
  finished = v.finished + w.finished;
  stopped = v.stopped + w.stopped;
  seen = max v.seen w.seen;
  stored = v.stored ++ w.stored;
  heard = v.heard ++ w.heard;
  owners = v.owners;
  whole = v.whole;
}

-- what is left of the other
abbrev pub spent : CoresView
spent = record
    { seats = 0; cores = []; finished = 0; stopped = 0; seen = 0; stored = []; heard = []; owners = []; whole = 0 }

-- ---- what each step tells: of the step, the seat before, the number found or stored, the seat after; which word it
-- was, and where alone such a step is made

abbrev Player : Type 1
Player = Step (Unit {0}) → Me (Unit {0}) CoresView → ℕ → Me (Unit {0}) CoresView → Type 0

-- 1 is added
abbrev pub finishes : Player
finishes st m found m' = (m' ≡ (with_finish m.0, m.1)) × (st.word ≡ 0) × (st.first ≡ 1) × (m.0.finished < length m.0.cores)

-- 17 is added
abbrev pub stops : Player
stops st m found m' = (m' ≡ (with_stop m.0, m.1)) × (st.word ≡ 0) × (st.first ≡ 17) × (m.0.stopped < m.0.seats)

-- the counter is no less than what this seat saw and what it added, and where all seats are in it, just that
abbrev pub looks : Player
looks st m found m' = (m' ≡ (with_seen m.0 found, m.1)) × (st.word ≡ 0) × (m.0.seen ≤ found) × (added m.0 ≤ found)
    × (m.0.seats ≡ m.0.whole → found ≡ added m.0)

-- a refusal of the job is stored, by a core of the job that hasn't
abbrev pub MayTell : CoresView → ℕ → Type 0
MayTell v job = times_told job v.stored < times (slice_index v.owners job) v.cores

abbrev pub stores : Player
stores st m stored m' = (m' ≡ (with_stored m.0 (st.word - 1) stored, m.1)) × (0 < st.word) × MayTell m.0 (st.word - 1)

-- what this seat found there before is 0 or the same, and where all seats are in it, the word is what it stored
abbrev pub Agrees : ℕ → ℕ → List OpeningRefusal → Type 0
Agrees job found [] = Unit {0}
Agrees job found (r ∷ rs) = (r.job ≡ job → (r.number ≡ 0) ⊎ (r.number ≡ found)) × Agrees job found rs

abbrev pub hears : Player
hears st m found m' = (m' ≡ (with_heard m.0 (st.word - 1) found, m.1)) × (0 < st.word)
    × Agrees (st.word - 1) found m.0.heard × (m.0.seats ≡ m.0.whole → found ≡ number_of (st.word - 1) m.0.stored)
