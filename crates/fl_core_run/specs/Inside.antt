-- A working file, on which no public promise rests by itself.
use Rattle.std.specs.Prelude.{ℕ, ◌≡◌, ◌<◌, false, List, length, slice_get, slice_set, Option, Some, None, IfSome, Result, Ok, Err}
use Rattle.fl_base.specs.declared.identity.EndId.{EndId}
use Rattle.fl_base.specs.declared.fragment.Frag.{Frag}
use Rattle.fl_base.specs.Control.{is_ack_only, with_circuit, bare}
use Rattle.fl_link.specs.Looks.{Look, placed, no_room, spent, saw}
use Rattle.fl_link.specs.declared.fault.PutFault.{PutFault}
use Rattle.fl_link.specs.declared.fault.PutFault.TheVariants.{Full, Spent}
use Rattle.fl_core.specs.declared.answer.LinkFront.{LinkFront}
use Rattle.fl_core.specs.declared.answer.LinkFront.TheVariants.{Message, Onward, Arrival}
use Rattle.fl_core.specs.declared.fault.LinkReceiveFault.{LinkReceiveFault}
use Rattle.fl_core.specs.View.{TheCore, place_of}
use Rattle.fl_core_run.specs.EndProgress.{TheEndProgress, progress_place}
use Rattle.fl_core_run.specs.Run.{SideRelations, TheRun}

-- this fragment was seen to stand first at side n
abbrev pub StandsFirst : {S : Type 0} → (S → Look) → ℕ → Frag → List S → Type 0
StandsFirst {S} front n frag ss = (p : S) → slice_get ss n ≡ Some p → front p ≡ saw (bare frag)

abbrev pub Fronts : {S : Type 0} → SideRelations S → ℕ → Frag → TheRun S → Type 0
Fronts w n frag s = StandsFirst w.front n frag s.rings

-- of some sides, that of this number alone has changed, as the event says
pub record OverSide {S : Type 0} (n : ℕ) (ss : List S) (Event : S → S → Type 0) (ts : List S) : Type 0 where
  pub before : S
  pub before_is : slice_get ss n ≡ Some before
  pub after : S
  pub event : Event before after
  pub rest : ts ≡ slice_set ss n after

-- what a look found stands there still; where it goes on or to an end, it isn't one that only acknowledges
abbrev pub Foresees : {S : Type 0} → SideRelations S → ℕ → Result LinkFront LinkReceiveFault → TheRun S → Type 0
Foresees w n (Ok (Message frag)) s = Fronts w n frag s
Foresees w n (Ok (Onward frag to c)) s = Fronts w n frag s × (is_ack_only (with_circuit c.0 frag) ≡ false)
Foresees w n (Ok (Arrival frag e)) s = Fronts w n frag s × (is_ack_only (with_circuit 0 frag) ≡ false)
Foresees w n found s = Unit {0}

-- ---- an end that was found once

-- the end's progress at this place, if there is one, has a job left
abbrev pub HasLeft : List TheEndProgress → Option ℕ → Type 0
HasLeft progresses None = Unit {0}
HasLeft progresses (Some n) = (d : TheEndProgress) × (slice_get progresses n ≡ Some d) × (d.done < length d.jobs)

-- this is so of whatever end has its progress at this place, or none
abbrev pub OfProgress : {S : Type 0} → Option ℕ → TheRun S → (EndId → Type 0) → Type 0
OfProgress place s Fact = (name : EndId) → progress_place s.progresses name ≡ place → Fact name

-- of whatever end is at this place of the core, or isn't there
abbrev pub OfPlace : {S : Type 0} → Option ℕ → TheRun S → (EndId → Type 0) → Type 0
OfPlace place s Fact = (name : EndId) → place_of s.core name ≡ place → Fact name

-- this is the place of an end at a core, or it isn't there
pub record IsPlaceOf (k : TheCore) (name : EndId) (place : Option ℕ) : Type 0 where
  pub is : place_of k name ≡ place
  pub within : IfSome place (λ e. e < length k.board.seats)

-- what a put of a fragment came to
abbrev pub put_label : Frag → Result (Unit {0}) PutFault → Look
put_label frag (Ok done) = placed (bare frag)
put_label frag (Err Full) = no_room
put_label frag (Err Spent) = spent
