-- A core with which nothing was done yet shows the first cut.
use Rattle.std.proofs.Common.{◌≡◌, inl, refl, sym, ◌∙◌, ap, subst, ℕ, suc, List, [], ◌∷◌, length, map, slice_get, Some, None, arith}
use Rattle.std.specs.Option.{option_map}
use Rattle.std.proofs.lemmas.List.{length-map}
use Rattle.std.proofs.lemmas.List.Elements.{All-nil}
use Rattle.std.proofs.lemmas.Option.{slice_get-map}
use Rattle.std.specs.List.{AllZip}
use Rattle.fl_base.specs.Control.{bare}
use Rattle.fl_value_data.specs.Fits.{fits_of}
use Rattle.fl_wire.specs.Reading.{Reads}
use Rattle.fl_link.specs.Calls.{bare_calls}
use Rattle.fl_link.specs.Queue.{TheQueue}
use Rattle.fl_ring.specs.SharedSides.{TheSide}
use Rattle.fl_core.specs.BoardView.{TheEndAtChannel}
use Rattle.fl_core.specs.declared.wiring.WiredEnd.{WiredEnd}
use Rattle.fl_core.specs.View.{kind_of}
use Rattle.fl_model.specs.Calls.{Planned}
use Rattle.fl_world_refines.specs.Ends.{planned_of}
use Rattle.fl_world_refines.proofs.EndCalling.{fresh_is}
use Rattle.fl_core_refines.specs.CutSides.{ShowsSide}
use Rattle.fl_core_refines.specs.CutEnds.{EndCut, ShowsEnd}
use Rattle.fl_core_refines.specs.Cut.{QueueCut, ShowsQueue, ShowsSeat}
use Rattle.fl_core_refines.specs.CutStart.{IsFirstEnd, IsFirstSide, IsFirstQueue, first_end, first_ends, first_queue, first_side, StartsShow}

-- each of a list, and what is made of it
mapped : {A B : Type 0} (R : A → B → Type 0) (f : B → A) (ys : List B) → ((n : ℕ) (y : B) → slice_get ys n ≡ Some y → R (f y) y) → AllZip R (map f ys) ys
mapped R f [] h = tt
mapped R f (y ∷ ys) h = (h 0 y refl, mapped R f ys (λ n z q. h (suc n) z q))

-- ---- ends

pub nothing_read : (i : Planned) → Reads i.plan i.interface [] [] []
nothing_read i = record {
  whole = [];
  joined = refl;
  fit = All-nil (λ c. fits_of i.interface c ≡ Rattle.std.proofs.Common.true);
  mean = refl;
  part = inl refl;
}

end_first : (core : ℕ) (wired_end : WiredEnd) (seat : TheEndAtChannel) → IsFirstEnd seat.end → ShowsEnd (first_end core wired_end seat) seat.end
end_first core wired_end seat h =
    let i : Planned = planned_of seat.end.program in
    let g = fresh_is seat.end.program 2 None i refl in
    record {
      program = refl;
      circuit = h.circuit;
      rules = refl;
      outgoing = h.outgoing ∙ g.outgoing;
      reads = subst (Reads (planned_of seat.end.program).plan (planned_of seat.end.program).interface [] []) (sym h.parts)
          (nothing_read (planned_of seat.end.program));
      taken = refl;
      failed = h.sound;
      counted = record { before = omega arith; most = omega arith };
      stations = omega arith;
      exits = omega arith;
    }

ends_first : (core : ℕ) (seats : List TheEndAtChannel) (wired_ends : List WiredEnd) → map (λ (x : TheEndAtChannel). x.kind) seats ≡ map (λ (p : WiredEnd). kind_of p.wiring) wired_ends
    → ((e : ℕ) (seat : TheEndAtChannel) → slice_get seats e ≡ Some seat → IsFirstEnd seat.end) → AllZip (ShowsSeat core) (first_ends core seats wired_ends) seats
ends_first core [] wired_ends k h = tt
ends_first core (seat ∷ seats) [] k h = absurd (cc)
ends_first core (seat ∷ seats) (p ∷ wired_ends) k h =
    let rest : map (λ (x : TheEndAtChannel). x.kind) seats ≡ map (λ (q : WiredEnd). kind_of q.wiring) wired_ends = cc in (
      record { shows = end_first core p seat (h 0 seat refl); seat = refl },
      ends_first core seats wired_ends rest (λ e x q. h (suc e) x q),
    )

wired_ends_first : (core : ℕ) (seats : List TheEndAtChannel) (wired_ends : List WiredEnd) → map (λ (x : TheEndAtChannel). x.kind) seats ≡ map (λ (p : WiredEnd). kind_of p.wiring) wired_ends
    → map (λ (x : EndCut). x.wired_end) (first_ends core seats wired_ends) ≡ wired_ends
wired_ends_first core [] [] k = refl
wired_ends_first core [] (p ∷ wired_ends) k = absurd (cc)
wired_ends_first core (seat ∷ seats) [] k = absurd (cc)
wired_ends_first core (seat ∷ seats) (p ∷ wired_ends) k =
    let rest : map (λ (x : TheEndAtChannel). x.kind) seats ≡ map (λ (q : WiredEnd). kind_of q.wiring) wired_ends = cc in
    ap (λ (qs : List WiredEnd). p ∷ qs) (wired_ends_first core seats wired_ends rest)

-- ---- sides and queues

side_first : (s : TheSide) → IsFirstSide s → ShowsSide (first_side s) s
side_first s h = record {
  size = refl;
  sent = ap length h.sent;
  known = h.known;
  read = ap length h.got;
  told = h.told;
  put = ap (map bare) h.sent;
  got = ap bare_calls h.got;
}

queue_first : (q : TheQueue) → IsFirstQueue q → ShowsQueue (first_queue q) q
queue_first q h = record { frags = ap (map bare) h.items; labels = refl; capacity = refl; freed = h.freed; unacknowledged = h.unacknowledged; sent = h.sent }

-- what stands where a queue does
used_first : (qs : List TheQueue) (n : ℕ) (q : TheQueue) → slice_get qs n ≡ Some q → IsFirstQueue q
    → (x : QueueCut) × (slice_get (map first_queue qs) n ≡ Some x) × ShowsQueue x q
used_first qs n q at h = (first_queue q, slice_get-map first_queue qs n ∙ ap (option_map first_queue) at, queue_first q h)

-- ---- the whole

pub starts_show : StartsShow
starts_show k s h m waits = record {
  monitor = m;
  waits = waits;
  ends = ends_first s.core.monitor.circuits.core s.core.board.seats s.core.wired_ends h.core.kinds h.ends;
  wired_ends = wired_ends_first s.core.monitor.circuits.core s.core.board.seats s.core.wired_ends h.core.kinds;
  places = refl;
  link_sides = refl;
  sides = mapped ShowsSide first_side s.rings (λ n x q. side_first x (h.sides n x q));
  queues = record { count = length-map s.queues first_queue; each = λ n q used at. used_first s.queues n q at (h.queues n q used at) };
  arrivals = record { count = length-map s.core.arrivals first_queue; each = λ n q used at. used_first s.core.arrivals n q at (h.arrivals n q used at) };
  plans = refl;
}
