-- A turn that wants memory, over an arrival queue of the core's own, leaves the core as it was.
use Rattle.std.proofs.Common.{◌≡◌, sym, ap, ◌∙◌, ℕ, List, slice_get, slice_set, Some, Err}
use Rattle.std.proofs.lemmas.List.{set-get_or}
use Rattle.std.proofs.lemmas.Option.{get_or_from_slice_get}
use Rattle.std.specs.declared.alloc.AllocError.{AllocError}
use Rattle.fl_waitset.specs.declared.waitset.Pick.{Pick}
use Rattle.fl_waitset.specs.declared.waitset.Pick.TheVariants as pick
use Rattle.fl_lists.specs.ThreeLists.{ThreeLists}
use Rattle.fl_link.specs.Queue.{TheQueue, QueueTakes}
use Rattle.fl_endpoint.specs.View.{TheEnd}
use Rattle.fl_core.specs.declared.kind.ChannelKind.{ChannelKind}
use Rattle.fl_core.specs.BoardView.{TheDispatcher, TheEndAtChannel, TheBoard, with_lists, with_end}
use Rattle.fl_core.specs.BoardTurns.{EndMoment, moment, LooksAt, Turns, over}
use Rattle.fl_core.specs.View.{TheCore}
use Rattle.fl_core.specs.Ends.{OverArrivals}

set_same : {X : Type 0} (xs : List X) (n : ℕ) (x : X) → slice_get xs n ≡ Some x → slice_set xs n x ≡ xs
set_same xs n x at = ap (slice_set xs n) (sym (get_or_from_slice_get xs n x x at)) ∙ set-get_or xs n x

pub record Kept (a b : EndMoment TheQueue) : Type 0 where
  pub side : b.side ≡ a.side
  pub end : b.end ≡ a.end
  pub lists : b.lists ≡ a.lists

looks_kept : (p : Pick) (kind : ChannelKind) (a b : EndMoment TheQueue) (e : AllocError) → LooksAt QueueTakes p kind a (Err e) b → Kept a b
looks_kept (pick.Pending c) kind a b e h = record { side = h.0.1.2.1; end = h.0.1.3.1; lists = h.1 }
looks_kept (pick.Polled c) kind a b e h = absurd h.0

board_same : (b : TheBoard) (n e : ℕ) (d : TheDispatcher) (s : TheEndAtChannel) → slice_get b.dispatchers n ≡ Some d → slice_get b.seats e ≡ Some s
    → with_end (with_lists b n d d.lists) e s s.end ≡ b
board_same b n e d s here there =
    ap (λ (ss : List TheEndAtChannel). record { dispatchers = slice_set b.dispatchers n d; seats = ss }) (set_same b.seats e s there)
    ∙ ap (λ (ds : List TheDispatcher). record { dispatchers = ds; seats = b.seats }) (set_same b.dispatchers n d here)

pub arrivals_kept : (k k2 : TheCore) (n e : ℕ) (error : AllocError) → OverArrivals k e (λ b p c q. Turns QueueTakes n e (over b p) (Err error) (over c q)) k2 → k2 ≡ k
arrivals_kept k k2 n e error h =
    let t = h.event in
    let kept : Kept (moment t.dispatcher.lists t.seat.end h.before) (moment t.lists t.end h.after)
    = looks_kept t.picked t.seat.kind (moment t.dispatcher.lists t.seat.end h.before) (moment t.lists t.end h.after) error t.looks in
    let board : k2.board ≡ k.board
    = t.board ∙ ap (λ (w : ThreeLists). with_end (with_lists k.board n t.dispatcher w) e t.seat t.end) kept.lists
    ∙ ap (λ (s : TheEnd). with_end (with_lists k.board n t.dispatcher t.dispatcher.lists) e t.seat s) kept.end
    ∙ board_same k.board n e t.dispatcher t.seat t.dispatcher_is t.seat_is in
    h.rest ∙ ap (λ (b : TheBoard). record k { board = b; arrivals = slice_set k.arrivals h.place h.after }) board
    ∙ ap (λ (qs : List TheQueue). record k { arrivals = qs }) (ap (slice_set k.arrivals h.place) kept.side ∙ set_same k.arrivals h.place h.before h.before_is)
