-- What a core does at an end under other numbers of bindings: what its board comes to is the same.
use Rattle.std.proofs.Common.{◌≡◌, ◌≢◌, ◌∙◌, ◌∷◌, [], ℕ, refl, subst, List, None, Option, ap, map, slice_get, suc, sym, zero}
use Rattle.fl_base.specs.Control.{circuit_of}
use Rattle.fl_base.specs.Ends.{peer}
use Rattle.fl_base.specs.Given.{given}
use Rattle.fl_base.specs.declared.fragment.Frag.{Frag}
use Rattle.fl_base.specs.declared.identity.EndId.{EndId}
use Rattle.fl_core.specs.BoardView.{TheBoard}
use Rattle.fl_core.specs.Ends.{OnBoard, OverArrivals, TriggersIf, WritesAt, at_side, woken_by}
use Rattle.fl_core.specs.View.{TheCore, arrivals_by, joined_to, place_of, with_arrivals, with_board}
use Rattle.fl_core.specs.declared.wiring.EndWiring.{EndWiring}
use Rattle.fl_core.specs.declared.wiring.WiredEnd.{WiredEnd}
use Rattle.fl_cores_joined.specs.Rings.{FacingSide, Truly}
use Rattle.fl_endpoint.specs.Events.{Writes}
use Rattle.fl_endpoint.specs.View.{TheEnd}
use Rattle.fl_endpoint.specs.declared.answer.WriteAnswer.{WriteAnswer}
use Rattle.fl_endpoint.specs.declared.fault.EndFault.{EndFault}
use Rattle.fl_link.specs.Queue.{TheQueue}
use Rattle.fl_ring.specs.SharedSides.{SharedPuts}
use Rattle.std.specs.Prelude.{Err, Ok, Result}
use Rattle.fl_link.specs.Looks.{Look}
use Rattle.fl_core.specs.View.{joined_by}
use Rattle.fl_core.specs.BoardView.{with_end}
use Rattle.fl_core.specs.declared.wiring.EndWiring.TheVariants.{Queues, Ring, Circuit}
use Rattle.fl_endpoint.specs.declared.answer.WriteAnswer.TheVariants as write
use Rattle.fl_endpoint.specs.declared.fault.EndFault.TheVariants.{Spent, Busy, UnknownMessage, Misfit, NotBound, Failed, Wire, Memory}
use Rattle.fl_cores_joined.specs.Renamed.{Renaming, end_under, wired_under, CoreUnder}
use Rattle.fl_cores_joined.proofs.RenamedSides.{calls_stay}
use Rattle.fl_cores_joined.proofs.RenamedSteps.{Beside, puts, finds_no_room, is_spent, stays}
use Rattle.fl_cores_joined.proofs.RenamedLinks.{After, board_is, arrivals_are, board_so, arrivals_so, wiring_so}

-- where an end puts to a queue, the other end is found under its other name
module _ (r : Renaming) (k kk : TheCore) (places : (e : EndId) → place_of kk (end_under r e) ≡ place_of k e) where
  joined_so : (name : EndId) (w : EndWiring) → joined_by kk (end_under r name) w ≡ joined_by k name w
  joined_so name (Queues out from) = places (peer name)
  joined_so name (Ring side) = refl
  joined_so name (Circuit link arrivals) = refl

  joined_at : (ws : List WiredEnd) (e : ℕ)
      → given (slice_get (map (wired_under r) ws) e) None (λ (p : WiredEnd). joined_by kk p.name p.wiring)
      ≡ given (slice_get ws e) None (λ (p : WiredEnd). joined_by k p.name p.wiring)
  joined_at [] e = refl
  joined_at (p ∷ ws) zero = joined_so p.name p.wiring
  joined_at (p ∷ ws) (suc e) = joined_at ws e

module _ (r : Renaming) (k kk : TheCore) (u : CoreUnder r k kk) where
  joined_there : (e : ℕ) → joined_to kk e ≡ joined_to k e
  joined_there e =
      ap (λ (ws : List WiredEnd). given (slice_get ws e) None (λ (p : WiredEnd). joined_by kk p.name p.wiring)) u.wired_ends
      ∙ joined_at r k kk u.places k.wired_ends e

  woken_there : (e : ℕ) (answer : Result WriteAnswer EndFault) → woken_by kk e answer ≡ woken_by k e answer
  woken_there e (Ok (write.Written number count)) = joined_there e
  woken_there e (Ok write.Full) = refl
  woken_there e (Ok write.Nothing) = refl
  woken_there e (Err fault) = refl

  -- ---- an event of the board

  -- what it left, and the event there
  pub record BoardAfter (k2 : TheCore) (Event : TheCore → Type 0) : Type 0 where
    pub core : TheCore
    pub under : CoreUnder r k2 core
    pub event : Event core

  on_it : (k2 : TheCore) (b : TheBoard) → k2 ≡ with_board k b → CoreUnder r k2 (with_board kk b)
  on_it k2 b same = subst (λ (c : TheCore). CoreUnder r c (with_board kk b)) (sym same) (board_so r k kk u b)

  pub on_board : (Event : TheBoard → TheBoard → Type 0) (k2 : TheCore) → OnBoard k Event k2 → BoardAfter k2 (λ c. OnBoard kk Event c)
  on_board Event k2 h = record {
    core = with_board kk k2.board;
    under = on_it k2 k2.board h.rest;
    event = record { event = subst (λ (b : TheBoard). Event b k2.board) (sym (board_is r k kk u)) h.event; rest = refl };
  }

  -- over the arrival queue of an end
  pub over_arrivals : (e : ℕ) (Event : TheBoard → TheQueue → TheBoard → TheQueue → Type 0) (k2 : TheCore) → OverArrivals k e Event k2
      → BoardAfter k2 (λ c. OverArrivals kk e Event c)
  over_arrivals e Event k2 h = record {
    core = with_board (with_arrivals kk h.place h.after) k2.board;
    under =
        subst (λ (c : TheCore). CoreUnder r c (with_board (with_arrivals kk h.place h.after) k2.board)) (sym h.rest)
        (arrivals_so r k kk u k2.board h.place h.after);
    event = record {
      place = h.place;
      place_is = wiring_so r k kk u arrivals_by e ∙ h.place_is;
      before = h.before;
      before_is = ap (λ (qs : List TheQueue). slice_get qs h.place) (arrivals_are r k kk u) ∙ h.before_is;
      after = h.after;
      event = subst (λ (b : TheBoard). Event b h.before k2.board h.after) (sym (board_is r k kk u)) h.event;
      rest = refl;
    };
  }

  -- ---- a write

  module _ (e : ℕ) (k2 : TheCore) (answer : Result WriteAnswer EndFault) where
    -- over whatever goes the same
    written : {P : Type 0} (steps : P → Look → P → Type 0) (p q : P) (h : WritesAt steps e (at_side k p) answer (at_side k2 q)) (pp qq : P)
        → Writes steps h.writes.seat.end pp answer h.writes.end qq → WritesAt steps e (at_side kk pp) answer (at_side (with_board kk k2.board) qq)
    written steps p q h pp qq event = record {
      wrote = h.wrote;
      writes = record {
        seat = h.writes.seat;
        seat_is = ap (λ (b : TheBoard). slice_get b.seats e) (board_is r k kk u) ∙ h.writes.seat_is;
        end = h.writes.end;
        event = event;
        board = h.writes.board ∙ ap (λ (b : TheBoard). with_end b e h.writes.seat h.writes.end) (sym (board_is r k kk u));
      };
      triggers = subst (λ (o : Option ℕ). TriggersIf o h.wrote k2.board) (sym (woken_there e answer)) h.triggers;
      rest = refl;
    }

    -- to a queue, or to a ring of a binding, where nothing is renamed
    pub writes_same : {P : Type 0} (steps : P → Look → P → Type 0) (p q : P) → WritesAt steps e (at_side k p) answer (at_side k2 q)
        → BoardAfter k2 (λ c. WritesAt steps e (at_side kk p) answer (at_side c q))
    writes_same steps p q h = record {
      core = with_board kk k2.board;
      under = on_it k2 k2.board h.rest;
      event = written steps p q h p q h.writes.event;
    }

  -- to a link: a call's fragment, which is as it was
  write_goes : (s t : TheEnd) (p q pp : FacingSide) (b : Beside r p pp) (answer : Result WriteAnswer EndFault)
      → ((f : Frag) (rest : List Frag) (number count : ℕ) → answer ≡ Ok (write.Written number count) → s.outgoing.unwritten ≡ f ∷ rest
      → circuit_of f.control ≢ 0)
      → Writes (Truly SharedPuts) s p answer t q → (qq : FacingSide) × Beside r q qq × Writes (Truly SharedPuts) s pp answer t qq
  write_goes s t p q pp b (Ok (write.Written number count)) call (ready, (f, rest, un, c, n, step, e)) =
      let it = puts r p q pp b f f (calls_stay r f (call f rest number count refl un)) step in
      (it.left, it.beside, (ready, (f, rest, un, c, n, it.goes, e)))
  write_goes s t p q pp b (Ok write.Full) call (ready, some, step, e) =
      let it = finds_no_room r p q pp b step in (it.left, it.beside, (ready, some, it.goes, e))
  write_goes s t p q pp b (Ok write.Nothing) call (ready, none, same, e) = (pp, stays r p q pp b same, (ready, none, refl, e))
  write_goes s t p q pp b (Err Spent) call (ready, some, step, e) =
      let it = is_spent r p q pp b step in (it.left, it.beside, (ready, some, it.goes, e))
  write_goes s t p q pp b (Err NotBound) call (unbound, same, e) = (pp, stays r p q pp b same, (unbound, refl, e))
  write_goes s t p q pp b (Err Failed) call (failed, same, e) = (pp, stays r p q pp b same, (failed, refl, e))
  write_goes s t p q pp b (Err Busy) call h = absurd h
  write_goes s t p q pp b (Err UnknownMessage) call h = absurd h
  write_goes s t p q pp b (Err Misfit) call h = absurd h
  write_goes s t p q pp b (Err (Wire fault)) call h = absurd h
  write_goes s t p q pp b (Err Memory) call h = absurd h

  pub writes_on_link : (e : ℕ) (k2 : TheCore) (answer : Result WriteAnswer EndFault) (p q pp : FacingSide) (b : Beside r p pp)
      (h : WritesAt (Truly SharedPuts) e (at_side k p) answer (at_side k2 q))
      → ((f : Frag) (rest : List Frag) (number count : ℕ) → answer ≡ Ok (write.Written number count) → h.writes.seat.end.outgoing.unwritten ≡ f ∷ rest
      → circuit_of f.control ≢ 0)
      → After r k kk u k2 q (λ c z. WritesAt (Truly SharedPuts) e (at_side kk pp) answer (at_side c z))
  writes_on_link e k2 answer p q pp b h call =
      let (qq, beside, event) = write_goes h.writes.seat.end h.writes.end p q pp b answer call h.writes.event in
      record {
        core = with_board kk k2.board;
        under = on_it k2 k2.board h.rest;
        side = qq;
        beside = beside;
        event = written e k2 answer (Truly SharedPuts) p q h pp qq event;
      }
