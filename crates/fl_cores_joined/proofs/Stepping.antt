-- What every event of one of the cores needs: the core as the world has it, where its ends are, and that a step of the
-- world is the machine's.
use Rattle.std.proofs.Common.{◌≡◌, refl, sym, ◌∙◌, ap, subst, ℕ, Bool, false, List, length, slice_get, slice_set, Some}
use Rattle.std.specs.Prelude.{Result, Ok, Err}
use Rattle.fl_base.specs.declared.identity.EndId.{EndId}
use Rattle.fl_base.specs.Given.{given}
use Rattle.fl_endpoint.specs.declared.fault.EndFault.{EndFault}
use Rattle.fl_hop.proofs.Lists.{set_here, set_set}
use Rattle.fl_ring.specs.Side.{SidePuts, SideTakes}
use Rattle.fl_ring.specs.SharedSides.{TheSide, SharedPuts, SharedTakes}
use Rattle.fl_ring.specs.declared.duo_side.DuoSide.{DuoSide}
use Rattle.fl_ring.specs.declared.one_duo.WhichSide.{WhichSide}
use Rattle.fl_core.specs.declared.turn_answer.TurnAnswer.{TurnAnswer}
use Rattle.fl_core.specs.declared.turn_answer.TurnAnswer.TheVariants.{Handle, Part, Ready, Quiet, Full, Nothing, Refused}
use Rattle.fl_core.specs.View.{TheCore, place_of}
use Rattle.fl_core.proofs.Numbering.{goes_to}
use Rattle.fl_core.specs.declared.core_job.CoreJob.{CoreJob}
use Rattle.fl_core_run.specs.Run.{TheRun}
use Rattle.fl_core_run.specs.EndProgress.{TheEndProgress}
use Rattle.fl_core_run.specs.LogEntries.{LogEntry, NotesCalled, NotesTurned}
use Rattle.fl_model.specs.Events.{Event, add_interface, Answer, refused}
use Rattle.fl_model.specs.State.{State}
use Rattle.fl_world_refines.specs.declared.binding.Binding.{Binding}
use Rattle.fl_world_refines.specs.View.{TheWorld, IsWhole, nowhere, made, location_at, location_of, core_in, with_core}
use Rattle.fl_world_refines.specs.ShowsState.{ShowsState, Shows}
use Rattle.fl_world_refines.specs.Step.{Does, settled, settled_by}
use Rattle.fl_world_refines.specs.Laws.{StepAgrees, StepsAgree}
use Rattle.fl_world_refines.proofs.Frames.{Stands}
use Rattle.fl_world_refines.proofs.FramesBase.{gets}
use Rattle.fl_world_refines.proofs.FramesFind.{location_made}
use Rattle.fl_world_refines.proofs.WritingPieces.{stands_there, same_core_there}
use Rattle.fl_cores_joined.specs.Rings.{FacingSide, ring_by, AreFacing, Truly}
use Rattle.fl_cores_joined.specs.Joined.{JoinedCore, in_world, IsJoined, AreWhole, alone, IsBeside}
use Rattle.fl_cores_joined.specs.Steps.{HappensAt}
use Rattle.fl_cores_joined.specs.Laws.{and_made, MachineDoes}
use Rattle.fl_cores_joined.proofs.Joining.{core_joined}
use Rattle.fl_cores_joined.proofs.Mapped.{Maps}
use Rattle.fl_cores_joined.proofs.Renumbered.{still_whole}
use Rattle.fl_cores_joined.proofs.Rings.{puts_are, takes_are}

-- ---- whether the number of cores stands is no core's

kept_by : (w : TheWorld) (a : Answer) → (settled_by a w).bindings ≡ w.bindings
kept_by w (refused fault) = refl
kept_by w a = refl

settled_bindings : (w : TheWorld) (event : Event) (a : Answer) → (settled event a w).bindings ≡ w.bindings
settled_bindings w (add_interface i plan) a = refl
settled_bindings w event a = kept_by w a

module _ (w : TheWorld) (xs : List JoinedCore) (joined : IsJoined w xs) where
  stood : (b : Bool) → IsJoined (record w { may_set_cores = b }) xs
  stood b = record {
    cores = joined.cores;
    rings = joined.rings;
    sides = joined.sides;
    queues = joined.queues;
    offers = λ n x x_is. let o = joined.offers n x x_is in record { names = o.names; programs = o.programs };
    numbered = joined.numbered;
    unruled = joined.unruled;
  }

  by_answer : (a : Answer) → IsJoined (settled_by a w) xs
  by_answer (refused fault) = joined
  by_answer a = stood false

  settled_joined : (event : Event) (a : Answer) → IsJoined (settled event a w) xs
  settled_joined (add_interface i plan) a = joined
  settled_joined event a = by_answer a

-- ---- the core that does it

module _ (jobs : List CoreJob) (n : ℕ) (log_entry : LogEntry) (xs ys : List JoinedCore) (h : HappensAt jobs n log_entry xs ys) where
  abbrev pub begun : JoinedCore
  begun = record h.before { run = alone h.beside }

  pub begun_is : slice_get xs n ≡ Some begun
  begun_is = h.before_is ∙ ap (λ (t : TheRun TheSide). Some (record h.before { run = t })) (sym h.beside_is.own)

  pub begun_beside : IsBeside xs begun h.beside
  begun_beside = record { own = refl; across = h.beside_is.across }

  -- as it is then, where that is all that came
  abbrev pub ended : TheRun FacingSide → JoinedCore
  ended m = record h.before { run = alone m }

  pub ended_all : (m : TheRun FacingSide) → h.after ≡ m → ys ≡ slice_set xs n (ended m)
  ended_all m same = h.rest ∙ ap (λ (t : TheRun FacingSide). slice_set xs n (ended t)) same

  -- but for what is noted at the ends' progress
  abbrev pub noted : TheRun FacingSide → TheRun FacingSide
  noted m = record m { progresses = h.after.progresses }

  progress_joined : (w2 : TheWorld) (m : TheRun FacingSide) → IsJoined w2 (slice_set xs n (ended m)) → IsJoined w2 (slice_set xs n (ended (noted m)))
  progress_joined w2 m joined =
      let at : slice_get (slice_set xs n (ended m)) n ≡ Some (ended m) = set_here xs n h.before (ended m) h.before_is in
      let there : slice_get w2.cores n ≡ Some (in_world (ended m))
      = ap (λ (cs : List TheCore). slice_get cs n) joined.cores ∙ goes_to in_world (slice_set xs n (ended m)) n (ended m) at in
      let world : with_core w2 n (in_world (ended m)) ≡ w2 = same_core_there w2 n (in_world (ended m)) there in
      subst (λ (l : List JoinedCore). IsJoined w2 l) (set_set xs n (ended m) (ended (noted m)))
      (subst (λ (v : TheWorld). IsJoined v (slice_set (slice_set xs n (ended m)) n (ended (noted m)))) world
      (core_joined w2 (slice_set xs n (ended m)) joined n (ended m) at (alone (noted m)) refl refl refl refl refl))

  pub ended_whole : (m : TheRun FacingSide) → h.after ≡ noted m → AreWhole ys → IsWhole m.core
  ended_whole m same whole =
      subst (λ (t : TheRun FacingSide). IsWhole t.core) same
      (whole n (ended h.after) (ap (λ (l : List JoinedCore). slice_get l n) h.rest ∙ set_here xs n h.before (ended h.after) h.before_is))

  pub there_is : (w : TheWorld) → IsJoined w xs → slice_get w.cores n ≡ Some (in_world begun)
  there_is w joined = ap (λ (cs : List TheCore). slice_get cs n) joined.cores ∙ goes_to in_world xs n begun begun_is

  pub there_whole : AreWhole xs → IsWhole (in_world begun)
  there_whole whole = still_whole begun.sides begun.queues begun.run.core (whole n begun begun_is)

  -- ---- the step of the world is the machine's

  pub finish : StepsAgree → (event : Event) (answer : Answer) (s : State) (w w2 : TheWorld) (m : TheRun FacingSide) → Shows w s → h.after ≡ noted m
      → IsJoined w2 (slice_set xs n (ended m)) → length w2.bindings ≡ and_made event answer (length w.bindings) → Does event w answer w2
      → MachineDoes event answer s ys
  finish law event answer s w w2 m shows same joined kept does =
      let agrees : StepAgrees event s answer (settled event answer w2) =
      law event w (settled event answer w2) s answer shows (record { made = w2; does = does; rest = refl }) in
      record {
        answers = agrees.answer;
        shows = record {
          world = settled event answer w2;
          joined = settled_joined w2 ys (subst (IsJoined w2) (sym (ended_all (noted m) same)) (progress_joined w2 m joined)) event answer;
          shows = agrees.shows;
        };
        count =
            sym agrees.shows.showing.bindings.count ∙ ap (λ (bs : List Binding). length bs) (settled_bindings w2 event answer) ∙ kept
            ∙ ap (and_made event answer) shows.showing.bindings.count;
      }

-- what is noted

pub nothing_noted : (t m : TheRun FacingSide) → t ≡ m → t ≡ record m { progresses = t.progresses }
nothing_noted t m same = same ∙ ap (λ (ds : List TheEndProgress). record m { progresses = ds }) (sym (ap (λ (r : TheRun FacingSide). r.progresses) same))

pub turn_noted : (name : EndId) (answer : TurnAnswer) (m t : TheRun FacingSide) → NotesTurned name answer m t → t ≡ record m { progresses = t.progresses }
turn_noted name (Handle c) m t h = h.rest
turn_noted name Part m t h = nothing_noted t m h
turn_noted name Ready m t h = nothing_noted t m h
turn_noted name Quiet m t h = nothing_noted t m h
turn_noted name Full m t h = nothing_noted t m h
turn_noted name Nothing m t h = nothing_noted t m h
turn_noted name (Refused fault) m t h = nothing_noted t m h

pub call_noted : (name : EndId) (answer : Result (Unit {0}) EndFault) (m t : TheRun FacingSide) → NotesCalled name answer m t
    → t ≡ record m { progresses = t.progresses }
call_noted name (Ok unit) m t h = h.rest
call_noted name (Err fault) m t h = nothing_noted t m h

-- ---- where an end is

location_is : (w : TheWorld) (s : State) (e : EndId) (n place : ℕ) (h : Stands w s e n place) → ShowsState w s → location_of w e ≡ made n place
location_is w s e n place h p =
    let there = gets s.bindings w.bindings e.binding h.binding p.bindings.count h.binding_is in
    let core : core_in e.side there.0 ≡ n = (p.bindings.each e.binding h.binding there.0 h.binding_is there.1).seated e h.seat refl h.seat_is ∙ h.core_at in
    ap (λ o. given o nowhere (λ b. location_at w.cores (core_in e.side b) e)) there.1
    ∙ location_made w.cores (core_in e.side there.0) e h.core place (ap (slice_get w.cores) core ∙ h.core_is) h.place_is
    ∙ ap (λ k. made k place) core

pub located : (w : TheWorld) (s : State) (e : EndId) (n place : ℕ) (c : TheCore) → Shows w s → slice_get w.cores n ≡ Some c → place_of c e ≡ Some place
    → location_of w e ≡ made n place
located w s e n place c shows core_is place_is = location_is w s e n place (stands_there w s e n place c shows core_is place_is) shows.showing

-- ---- a side that is lent

abbrev pub lent_side : WhichSide → FacingSide → DuoSide
lent_side which p = record { duo = record { ref_ptr = (0, 0); ghost_name = 0; now = ring_by which p }; which = which }

-- the two sides are of one ring, and the other is as it is
abbrev pub IsGood : TheSide → FacingSide → Type 0
IsGood across p = AreFacing p × (p.across ≡ across)

pub puts_map : (which : WhichSide) (across : TheSide) → Maps (IsGood across) (lent_side which) (Truly SharedPuts) SidePuts
puts_map which across p q look (faces, same) step =
    let x = puts_are which p q look faces step in
    (((refl, refl), x.0), (x.1, step.2 ∙ same))

pub takes_map : (which : WhichSide) (across : TheSide) → Maps (IsGood across) (lent_side which) (Truly SharedTakes) SideTakes
takes_map which across p q look (faces, same) step =
    let x = takes_are which p q look faces step in
    (((refl, refl), x.0), (x.1, step.2 ∙ same))
