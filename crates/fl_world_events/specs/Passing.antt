-- A fragment that stands first on a link moves on, over two of the world's rings.
use Rattle.std.specs.Prelude.{ℕ, ◌≡◌, List, slice_get, slice_set, Some}
use Rattle.fl_base.specs.declared.fragment.Frag.{Frag}
use Rattle.fl_base.specs.Control.{bare, with_circuit}
use Rattle.fl_hop.specs.declared.forward.ForwardOutcome.{ForwardOutcome}
use Rattle.fl_hop.specs.Forward.{put_label, Leaves}
use Rattle.fl_link.specs.Looks.{saw}
use Rattle.fl_link.specs.Queue.{front_of}
use Rattle.fl_ring.specs.Duo.{TheDuo, side_of}
use Rattle.fl_ring.specs.Side.{SidePuts, SideTakes}
use Rattle.fl_ring.specs.declared.duo_side.DuoSide.{DuoSide}
use Rattle.fl_model.specs.Events.{Answer}
use Rattle.fl_world_refines.specs.View.{ring_at, which_at}
use Rattle.fl_world_refines.specs.Lending.{IsLent}
use Rattle.fl_world_refines.specs.Linking.{moved_answer}
use Rattle.fl_world_events.specs.declared.moving.ForwardFrag.{ForwardFrag}

-- the fragment stands first for side m
abbrev pub StandsAt : List TheDuo → ℕ → Frag → Type 0
StandsAt rings m frag = (r : TheDuo) → slice_get rings (ring_at m) ≡ Some r → front_of (side_of (which_at m) r).waiting ≡ saw (bare frag)

-- the ring that it comes from, and the one that it goes onto
pub record TwoRings : Type 0 where
  pub from : TheDuo
  pub onto : TheDuo

pub record Passes (p : ForwardFrag) (before : TwoRings) (a : Answer) (after : TwoRings) : Type 0 where
  pub side : DuoSide
  pub lent : IsLent p.from before.from side
  pub next_side : DuoSide
  pub next_lent : IsLent p.onto before.onto next_side
  pub outcome : ForwardOutcome
  pub put_side : DuoSide
  pub puts : SidePuts next_side (put_label outcome (bare (with_circuit p.circuit.0 p.frag))) put_side
  pub left_side : DuoSide
  pub left : Leaves SideTakes outcome (bare p.frag) (record { before = side; after = left_side })
  pub answer : a ≡ moved_answer outcome
  pub from_rest : after.from ≡ left_side.duo.now
  pub onto_rest : after.onto ≡ put_side.duo.now

-- among all rings
pub record PassesOver (p : ForwardFrag) (rings : List TheDuo) (a : Answer) (rings2 : List TheDuo) : Type 0 where
  pub before : TwoRings
  pub from_is : slice_get rings (ring_at p.from) ≡ Some before.from
  pub onto_is : slice_get rings (ring_at p.onto) ≡ Some before.onto
  pub after : TwoRings
  pub passes : Passes p before a after
  pub rest : rings2 ≡ slice_set (slice_set rings (ring_at p.from) after.from) (ring_at p.onto) after.onto
