-- New ends at a core: channels that are in no list, where each is made, and that none was there before.
use Rattle.std.proofs.Common.{◌≡◌, ◌≢◌, refl, sym, ◌∙◌, ap, subst, ℕ, ◌+◌, ◌≤◌, inl, inr, length, slice_get, Some, None, arith}
use Rattle.std.specs.Prelude.{IsSome}
use Rattle.fl_base.specs.declared.identity.EndId.{EndId}
use Rattle.fl_base.specs.Ends.{other}
use Rattle.fl_base.specs.Given.{given}
use Rattle.fl_hop.proofs.Lists.{within}
use Rattle.fl_lists.specs.declared.place.Place.{Place}
use Rattle.fl_lists.specs.declared.place.Place.TheVariants.{Idle, Polled, Pending}
use Rattle.fl_link.specs.Queue.{QueueTakes}
use Rattle.fl_core.specs.BoardView.{TheEndAtChannel}
use Rattle.fl_core.specs.declared.kind.ChannelKind.TheVariants.{Queue as QueueKind, Ring as RingKind}
use Rattle.fl_link.specs.Looks.{Look}
use Rattle.fl_core.specs.View.{TheCore, place_of, client_of, server_of}
use Rattle.fl_core.specs.Sound.{IsCore}
use Rattle.fl_core.specs.declared.wiring.WiredEnd.{WiredEnd}
use Rattle.fl_model.specs.Events.{DispatcherId}
use Rattle.fl_model.specs.Calls.{Planned}
use Rattle.fl_model.specs.Ends.{Seat}
use Rattle.fl_model.specs.Waits.{Dispatcher, with_end, registers}
use Rattle.fl_model.specs.Monitors.{Core}
use Rattle.fl_model.specs.State.{Binding, State, core_of, end_in}
use Rattle.fl_model.specs.SoundLists.{WaitsetsStand}
use Rattle.fl_world_refines.specs.Ends.{EndShows}
use Rattle.fl_model_laws.proofs.BindingWalk.{end_there}
use Rattle.fl_model_laws.proofs.Faces.{some_there}
use Rattle.fl_model_laws.proofs.PlacesStep.{length_push}
use Rattle.fl_model_laws.proofs.Seating.{changed_was}
use Rattle.fl_model_laws.proofs.Small.{changed_here}
use Rattle.fl_model_laws.proofs.Waitsets.{IsFree}
use Rattle.fl_world_refines.specs.View.{TheWorld}
use Rattle.fl_world_refines.specs.Binding.{HasEndOf, new_queue}
use Rattle.fl_world_refines.specs.ShowsState.{IsWiring, IsMade, ShowsState}
use Rattle.fl_world_refines.proofs.MakingBase.{same_found, length_map}
use Rattle.fl_world_refines.proofs.JoiningCores.{seated, listed, free_above, free_pushed, IsFreeAt, WaitsOnly}

-- ---- channels

-- no channel beyond those of its ends is in a list
abbrev pub AllFree : Core → Type 0
AllFree k = (n : ℕ) (z : Dispatcher) (c : ℕ) → slice_get k.dispatchers n ≡ Some z → length z.ends ≤ c → IsFree c z.lists

pub core_free : (s : State) (n : ℕ) (k : Core) → WaitsetsStand s → core_of s n ≡ Some k → AllFree k
core_free s n k h at place z c q few =
    let d : DispatcherId = record { core = n; place = place } in
    free_above z c (h d z (ap (λ o. given o None (λ (j : Core). slice_get j.dispatchers place)) at ∙ q)) few

pub seated_free : (place : ℕ) (e : EndId) (k : Core) → AllFree k → AllFree (seated place e k)
seated_free place e k h n z c q few = elim (changed_was k.dispatchers place (with_end e) n z q) [
  | inl a ↦ h n z c a few
  | inr a ↦ (let x = a.1.0 in
      let same : z ≡ with_end e x = a.1.2 in
      let longer : length z.ends ≡ length x.ends + 1 = ap (λ (y : Dispatcher). length y.ends) same ∙ length_push x.ends e in
      subst (λ (y : Dispatcher). IsFree c y.lists) (sym same) (h place x c a.1.1 (omega (arith, few, longer))))
]

pub free_at : (k : Core) (place : ℕ) (x : Dispatcher) → AllFree k → slice_get k.dispatchers place ≡ Some x → IsFreeAt k place (length x.ends)
free_at k place x h at z q =
    let same : z ≡ x = same_found (slice_get k.dispatchers place) z x q at in
    let count : length z.ends ≡ length x.ends = ap (λ (y : Dispatcher). length y.ends) same in
    h place z (length x.ends) q (omega (arith, count))

pub free_seated : (place at : ℕ) (e : EndId) (k : Core) (c : ℕ) → IsFreeAt k at c → IsFreeAt (seated place e k) at c
free_seated place at e k c h z q = elim (changed_was k.dispatchers place (with_end e) at z q) [
  | inl a ↦ h z a
  | inr a ↦ subst (λ (y : Dispatcher). IsFree c y.lists) (sym a.1.2) (h a.1.0 (ap (slice_get k.dispatchers) a.0 ∙ a.1.1))
]

pub free_listed : (place at channel : ℕ) (to : Place) (k : Core) (c : ℕ) → (at ≡ place → channel ≢ c) → IsFreeAt k at c → IsFreeAt (listed place channel to k) at c
free_listed place at channel to k c apart h z q = elim (changed_was k.dispatchers place (registers channel to) at z q) [
  | inl a ↦ h z a
  | inr a ↦ subst (λ (y : Dispatcher). IsFree c y.lists) (sym a.1.2)
      (free_pushed a.1.0.lists channel c to (apart a.0) (h a.1.0 (ap (slice_get k.dispatchers) a.0 ∙ a.1.1)))
]

-- the second end at one dispatcher has another channel
pub channels_apart : (k : Core) (place at : ℕ) (e : EndId) (x y : Dispatcher) → slice_get k.dispatchers place ≡ Some x → slice_get (seated place e k).dispatchers at ≡ Some y
    → at ≡ place → length x.ends ≢ length y.ends
channels_apart k place at e x y p q same h =
    let here : slice_get (seated place e k).dispatchers place ≡ Some y = ap (slice_get (seated place e k).dispatchers) (sym same) ∙ q in
    let is : with_end e x ≡ y = same_found (slice_get (seated place e k).dispatchers place) (with_end e x) y (changed_here k.dispatchers place (with_end e) x p) here in
    let longer : length y.ends ≡ length x.ends + 1 = ap (λ (z : Dispatcher). length z.ends) (sym is) ∙ length_push x.ends e in
    absurd (omega (arith, longer, h))

pub queue_waits : (slots : ℕ) → WaitsOnly QueueTakes QueueKind (new_queue slots) Idle
queue_waits slots Idle q h = refl
queue_waits slots Polled q h = absurd h
queue_waits slots Pending q (inl a) = absurd (let e = a.1.0 in cc)
queue_waits slots Pending q (inr a) = absurd (let e = a.0 in cc)

pub ring_waits : {T : Type 0} (takes : T → Look → T → Type 0) (p : T) → WaitsOnly takes RingKind p Polled
ring_waits takes p Polled q h = refl
ring_waits takes p Idle q h = absurd h
ring_waits takes p Pending q h = absurd h

-- ---- a core

pub is_even : (c : TheCore) → IsCore c → length c.board.seats ≡ length c.wired_ends
is_even c h = sym (length_map _ c.board.seats) ∙ ap length h.kinds ∙ length_map _ c.wired_ends

pub made_at : (w2 : TheWorld) (t : State) (e : EndId) (b : Binding) (i : Planned) (seat : Seat) (core : TheCore) (place : ℕ) (at : TheEndAtChannel) (wired_end : WiredEnd)
    → IsCore core → slice_get w2.cores seat.dispatcher.core ≡ Some core → slice_get core.board.seats place ≡ Some at → at.dispatcher ≡ seat.dispatcher.place
    → at.channel ≡ seat.channel → EndShows i (end_in e.side b) (end_in (other e.side) b).out at.end → slice_get core.wired_ends place ≡ Some wired_end → wired_end.name ≡ e
    → IsWiring w2 core t e b wired_end.wiring → IsMade w2 t e b i seat
made_at w2 t e b i seat core place at wired_end whole core_is at_is dispatcher channel shows wired_end_is name_is wiring = record {
  core = core;
  core_is = core_is;
  place = place;
  place_is = ap (place_of core) (sym name_is) ∙ whole.named place wired_end wired_end_is;
  at = at;
  at_is = at_is;
  dispatcher = dispatcher;
  channel = channel;
  shows = shows;
  wired_end = wired_end;
  wired_end_is = wired_end_is;
  name_is = name_is;
  wiring = wiring;
}

-- ---- the next binding has no end yet

no_end : (w : TheWorld) (s : State) (n : ℕ) (c : TheCore) (e : EndId) → ShowsState w s → e.binding ≡ length w.bindings → slice_get w.cores n ≡ Some c
    → IsSome (place_of c e) → ⊥
no_end w s n c e h next at some =
    let (place, is) = some_there (place_of c e) some in
    let sits = h.ends.only n c e place at is in
    let (b, there, its) = end_there s e sits.0 sits.1.1 in
    let few = within s.bindings e.binding b there in
    let count = h.bindings.count in
    absurd (omega (arith, few, count, next))

pub has_no_end : (w : TheWorld) (s : State) (n : ℕ) → ShowsState w s → HasEndOf (length w.bindings) n w → ⊥
has_no_end w s n h k = elim k.2 [
  | inl a ↦ no_end w s n k.0 (client_of (length w.bindings)) h refl k.1 a
  | inr a ↦ no_end w s n k.0 (server_of (length w.bindings)) h refl k.1 a
]
