-- Both ends of a binding are added to a core and registered over their queues.
use Rattle.std.proofs.Common.{◌≡◌, ◌<◌, ◌+◌, refl, sym, ap, ◌∙◌, subst, ℕ, zero, suc, length, slice_get, List, [], ◌∷◌, ◌++◌, Option, Some, None, Result, Ok, Err, inl, inr, arith}
use Rattle.std.proofs.lemmas.List.{length_push, length-map}
use Rattle.std.proofs.lemmas.Option.{same_Some}
use Rattle.fl_base.specs.Given.{given}
use Rattle.fl_lists.specs.declared.place.Place.{Place}
use Rattle.fl_lists.specs.declared.place.Place.TheVariants as place
use Rattle.fl_lists.specs.ThreeLists.{ThreeLists}
use Rattle.fl_link.specs.Queue.{TheQueue, QueueTakes}
use Rattle.fl_endpoint.specs.View.{TheEnd}
use Rattle.fl_core.specs.declared.kind.ChannelKind.{ChannelKind}
use Rattle.fl_core.specs.declared.kind.ChannelKind.TheVariants as kind
use Rattle.fl_core.specs.declared.board_fault.BoardFault.{BoardFault}
use Rattle.fl_core.specs.declared.board_fault.BoardFault.TheVariants as fault
use Rattle.fl_core.specs.BoardView.{TheEndAtChannel, TheBoard}
use Rattle.fl_core.specs.BoardEvents.{Registers}
use Rattle.fl_core.specs.BoardTurns.{WaitsIn, lent, over}
use Rattle.fl_core.specs.declared.wiring.WiredEnd.{WiredEnd}
use Rattle.fl_core.specs.declared.joining.LocalBinding.{LocalBinding}
use Rattle.fl_core.specs.declared.joining.EndPlaces.{EndPlaces}
use Rattle.fl_core.specs.View.{TheCore, arrivals_by, arrivals_of}
use Rattle.fl_core.specs.Ends.{OnBoard, RegistersAt}
use Rattle.fl_core.specs.Sound.{IsCore}
use Rattle.fl_core.specs.Making.{AddsWiredEnd, client_wired_end, server_wired_end, JoinsBoth, Joins}
use Rattle.fl_world_refines.specs.View.{IsWhole}
use Rattle.fl_world_events.specs.Queued.{IsOnQueue, Lists, MayJoin, MayJoinAt}

-- ---- a channel is registered, and nothing is taken

waits : (k : ChannelKind) (to : Place) (p q : TheQueue) → WaitsIn QueueTakes k p to q → q ≡ p
waits kind.Ring place.Polled p q h = h
waits kind.Ring place.Pending p q h = absurd h
waits kind.Ring place.Idle p q h = absurd h
waits kind.Queue place.Polled p q h = absurd h
waits kind.Queue place.Pending p q (inl h) = h.1.1
waits kind.Queue place.Pending p q (inr h) = h.1
waits kind.Queue place.Idle p q h = h.1

takes_nothing : (s : TheEndAtChannel) (w v : ThreeLists) (p q : TheQueue) (r : Result (Unit {0}) BoardFault) → Registers QueueTakes s (lent w p) r (lent v q) → q ≡ p
takes_nothing s w v p q (Ok done) (ready, (free, (to, wait, lists))) = waits s.kind to p q wait
takes_nothing s w v p q (Err fault.Registered) (ready, (held, side, lists)) = side
takes_nothing s w v p q (Err fault.NotBound) (unbound, side, lists) = side
takes_nothing s w v p q (Err fault.Failed) (failed, side, lists) = side
takes_nothing s w v p q (Err fault.NotRegistered) h = absurd h
takes_nothing s w v p q (Err fault.TooManyEnds) h = absurd h
takes_nothing s w v p q (Err fault.Memory) h = absurd h

module _ (e : ℕ) (p q : TheQueue) (r : Result (Unit {0}) BoardFault) (k k2 : TheCore)
    (h : OnBoard k (λ b c. RegistersAt QueueTakes e (over b p) r (over c q)) k2) where
  pub queue_stays : q ≡ p
  queue_stays = takes_nothing h.event.seat h.event.dispatcher.lists h.event.lists p q r h.event.event

  pub lists : Lists e p k k2
  lists = (r, subst (λ (x : TheQueue). OnBoard k (λ b c. RegistersAt QueueTakes e (over b p) r (over c x)) k2) queue_stays h)

pub still_on_queue : (e f : ℕ) (q : TheQueue) (k k2 : TheCore) → Lists e q k k2 → IsOnQueue k f → IsOnQueue k2 f
still_on_queue e f q k k2 h on = record {
  there = subst (λ (b : TheBoard). f < length b.seats) (sym h.1.event.board) on.there;
  lent = ap (λ (x : TheCore). arrivals_of x f) h.1.rest ∙ on.lent;
}

-- ---- an end is added

last_of : {X : Type 0} (xs : List X) (x : X) → slice_get (xs ++ x ∷ []) (length xs) ≡ Some x
last_of [] x = refl
last_of (y ∷ xs) x = last_of xs x

before_last : {X : Type 0} (xs : List X) (x : X) (n : ℕ) → n < length xs → slice_get (xs ++ x ∷ []) n ≡ slice_get xs n
before_last [] x n h = absurd (omega (arith, h))
before_last (y ∷ xs) x zero h = refl
before_last (y ∷ xs) x (suc n) h = before_last xs x n (omega (arith, h))

-- each end of the board has its wired end
abbrev IsEven : TheCore → Type 0
IsEven k = length k.wired_ends ≡ length k.board.seats

even : (k : TheCore) → IsCore k → IsEven k
even k sound = sym (sym (length-map k.board.seats (λ (s : TheEndAtChannel). s.kind)) ∙ ap length sound.kinds ∙ length-map k.wired_ends (λ (p : WiredEnd). _))

module _ (n : ℕ) (s : TheEnd) (p : WiredEnd) (k k2 : TheCore) (e : ℕ) (adds : AddsWiredEnd n s p k (Ok e) k2) (as_many : IsEven k) where
  seats_more : length k2.board.seats ≡ length k.board.seats + 1
  seats_more = let (place, (d, at, few, is)) = adds.0 in ap (λ (b : TheBoard). length b.seats) is ∙ length_push k.board.seats _

  wired_ends_more : length k2.wired_ends ≡ length k.wired_ends + 1
  wired_ends_more = ap (λ (x : TheCore). length x.wired_ends) adds.1 ∙ length_push k.wired_ends p

  still_even : IsEven k2
  still_even = wired_ends_more ∙ ap (λ (m : ℕ). m + 1) as_many ∙ sym seats_more

  new_on_queue : arrivals_by p.wiring ≡ None → IsOnQueue k2 e
  new_on_queue own =
      let place : e ≡ length k.board.seats = adds.0.0 in
      let here : slice_get k2.wired_ends e ≡ Some p
      = ap (λ (x : TheCore). slice_get x.wired_ends e) adds.1 ∙ ap (slice_get (k.wired_ends ++ p ∷ [])) (place ∙ sym as_many) ∙ last_of k.wired_ends p in
      let more = seats_more in
      record {
        there = omega (arith, place, more);
        lent = ap (λ (o : Option WiredEnd). given o None (λ x. arrivals_by x.wiring)) here ∙ own;
      }

  old_on_queue : (f : ℕ) → IsOnQueue k f → IsOnQueue k2 f
  old_on_queue f on =
      let below = on.there in
      let within : f < length k.wired_ends = omega (arith, below, as_many) in
      let more = seats_more in
      record {
        there = omega (arith, below, more);
        lent = ap (λ (x : TheCore). arrivals_of x f) adds.1
            ∙ ap (λ (o : Option WiredEnd). given o None (λ x. arrivals_by x.wiring)) (before_last k.wired_ends p f within) ∙ on.lent;
      }

-- ---- both ends

module _ (j : LocalBinding) (ends : EndPlaces) (k k2 : TheCore) (whole : IsWhole k) (h : JoinsBoth j k ends k2) where
  as_many_then : IsEven h.between
  as_many_then = still_even j.client.dispatcher j.client.end (client_wired_end j) k h.between ends.client h.client (even k whole.core)

  pub client_on_queue : IsOnQueue k2 ends.client
  client_on_queue =
      old_on_queue j.server.dispatcher j.server.end (server_wired_end j) h.between k2 ends.server h.server as_many_then ends.client
      (new_on_queue j.client.dispatcher j.client.end (client_wired_end j) k h.between ends.client h.client (even k whole.core) refl)

  pub server_on_queue : IsOnQueue k2 ends.server
  server_on_queue = new_on_queue j.server.dispatcher j.server.end (server_wired_end j) h.between k2 ends.server h.server as_many_then refl

-- where they aren't added the core is as it was
pub not_added : (j : LocalBinding) (k k2 : TheCore) (f : BoardFault) → Joins j k (Err f) k2 → k2 ≡ k
not_added j k k2 fault.TooManyEnds h = h.1
not_added j k k2 fault.Memory h = h.1
not_added j k k2 fault.NotBound h = absurd h
not_added j k k2 fault.Registered h = absurd h
not_added j k k2 fault.NotRegistered h = absurd h
not_added j k k2 fault.Failed h = absurd h

-- ---- among all cores

pub may_join : (n : ℕ) (j : LocalBinding) (cores : List TheCore) → MayJoinAt n j cores → (k : TheCore) → slice_get cores n ≡ Some k → MayJoin j k
may_join n j cores (k, is, may) x there = subst (λ (y : TheCore). MayJoin j y) (same_Some k x (sym is ∙ there)) may
