-- The circuits to which a core's ends are bound: but for a binding, what happens leaves them.
use Rattle.std.proofs.Common.{◌≡◌, refl, sym, ap, ◌∙◌, ℕ, zero, suc, ◌⊎◌, inl, inr, List, [], ◌∷◌, ◌++◌, map, slice_get, slice_set, Option, Some, None, Result, Ok, Err}
use Rattle.fl_lists.specs.ThreeLists.{ThreeLists}
use Rattle.fl_value_data.specs.Value.{TheCall}
use Rattle.fl_link.specs.Looks.{Look}
use Rattle.fl_waitset.specs.declared.waitset.Pick.{Pick}
use Rattle.fl_waitset.specs.declared.waitset.Pick.TheVariants as pick
use Rattle.fl_endpoint.specs.View.{TheEnd, bound, bound_by}
use Rattle.fl_endpoint.specs.Events.{Calls, Writes, SetsRule}
use Rattle.fl_endpoint.specs.declared.fault.EndFault.{EndFault}
use Rattle.fl_endpoint.specs.declared.fault.EndFault.TheVariants as fault
use Rattle.fl_endpoint.specs.declared.answer.WriteAnswer.{WriteAnswer}
use Rattle.fl_endpoint.specs.declared.answer.WriteAnswer.TheVariants as write
use Rattle.fl_core.specs.declared.kind.ChannelKind.{ChannelKind}
use Rattle.fl_core.specs.declared.turn_answer.TurnAnswer.{TurnAnswer}
use Rattle.fl_core.specs.declared.turn_answer.TurnAnswer.TheVariants as turn
use Rattle.fl_core.specs.BoardView.{TheEndAtChannel, TheBoard}
use Rattle.fl_core.specs.BoardEvents.{ChangesEnd, ChangesLists, Adds}
use Rattle.fl_core.specs.BoardTurns.{Turns, BoardAndSide, EndMoment, LooksAt}
use Rattle.fl_core.specs.Ends.{TriggersIf}

abbrev pub circuits_of : List TheEndAtChannel → List (Option ℕ)
circuits_of seats = map (λ (s : TheEndAtChannel). s.end.circuit) seats

-- ---- one end

abbrev Same : TheEnd → TheEnd → Type 0
Same x y = y.circuit ≡ x.circuit

same : (x y : TheEnd) → y ≡ x → Same x y
same x y is = ap (λ (z : TheEnd). z.circuit) is

pub calls_same : (x : TheEnd) (c : TheCall) (answer : Result (Unit {0}) EndFault) (y : TheEnd) → Calls x c answer y → Same x y
calls_same x c (Ok done) y h = ap (λ (z : TheEnd). z.circuit) h.3
calls_same x c (Err fault.UnknownMessage) y h = same x y h.1
calls_same x c (Err fault.Misfit) y h = same x y h.2
calls_same x c (Err fault.NotBound) y h = same x y h.2
calls_same x c (Err fault.Failed) y h = same x y h.2
calls_same x c (Err fault.Busy) y h = same x y h.3
calls_same x c (Err fault.Memory) y h = same x y h.3
calls_same x c (Err fault.Spent) y h = absurd h
calls_same x c (Err (fault.Wire f)) y h = absurd h

pub rules_same : (x : TheEnd) (msg reply : ℕ) (answer : Result (Unit {0}) EndFault) (y : TheEnd) → SetsRule x msg reply answer y → Same x y
rules_same x msg reply (Ok done) y h = ap (λ (z : TheEnd). z.circuit) h.3
rules_same x msg reply (Err fault.UnknownMessage) y h = same x y h.1
rules_same x msg reply (Err fault.Misfit) y h = same x y h.3
rules_same x msg reply (Err fault.NotBound) y h = absurd h
rules_same x msg reply (Err fault.Failed) y h = absurd h
rules_same x msg reply (Err fault.Busy) y h = absurd h
rules_same x msg reply (Err fault.Memory) y h = absurd h
rules_same x msg reply (Err fault.Spent) y h = absurd h
rules_same x msg reply (Err (fault.Wire f)) y h = absurd h

pub writes_same : {P : Type 0} (puts : P → Look → P → Type 0) (x : TheEnd) (p : P) (answer : Result WriteAnswer EndFault) (y : TheEnd) (q : P) → Writes puts x p answer y q → Same x y
writes_same puts x p (Ok (write.Written number count)) y q h = ap (λ (z : TheEnd). z.circuit) h.1.6
writes_same puts x p (Ok write.Full) y q h = same x y h.3
writes_same puts x p (Ok write.Nothing) y q h = same x y h.3
writes_same puts x p (Err fault.Spent) y q h = same x y h.3
writes_same puts x p (Err fault.NotBound) y q h = same x y h.2
writes_same puts x p (Err fault.Failed) y q h = same x y h.2
writes_same puts x p (Err fault.Busy) y q h = absurd h
writes_same puts x p (Err fault.UnknownMessage) y q h = absurd h
writes_same puts x p (Err fault.Misfit) y q h = absurd h
writes_same puts x p (Err (fault.Wire f)) y q h = absurd h
writes_same puts x p (Err fault.Memory) y q h = absurd h

looks_same : {T : Type 0} (takes : T → Look → T → Type 0) (picked : Pick) (kind : ChannelKind) (a : EndMoment T) (answer : TurnAnswer) (b : EndMoment T) → LooksAt takes picked kind a (Ok answer) b → Same a.end b.end
looks_same takes (pick.Pending c) kind a (turn.Handle call) b h = ap (λ (z : TheEnd). z.circuit) h.1.1.5.1
looks_same takes (pick.Pending c) kind a turn.Part b h = ap (λ (z : TheEnd). z.circuit) h.1.1.5.1
looks_same takes (pick.Pending c) kind a turn.Quiet b h = same a.end b.end h.1.2
looks_same takes (pick.Pending c) kind a turn.Full b h = same a.end b.end h.0.3
looks_same takes (pick.Pending c) kind a turn.Nothing b h = same a.end b.end h.1.2
looks_same takes (pick.Pending c) kind a (turn.Refused f) b h = ap (λ (z : TheEnd). z.circuit) h.0.1.3.1
looks_same takes (pick.Pending c) kind a turn.Ready b h = absurd h
looks_same takes (pick.Polled c) kind a answer b h = same a.end b.end h.1

-- ---- all of a board

-- of large records cc does not end, of any type it does
same_some : {X : Type 0} (x y : X) → Some x ≡ Some y → x ≡ y
same_some x y e = cc

seat_same : (seats : List TheEndAtChannel) (e : ℕ) (s : TheEndAtChannel) (y : TheEnd) → slice_get seats e ≡ Some s → y.circuit ≡ s.end.circuit
    → circuits_of (slice_set seats e (record { end = y; dispatcher = s.dispatcher; channel = s.channel; kind = s.kind })) ≡ circuits_of seats
seat_same [] e s y at is = refl
seat_same (x ∷ xs) zero s y at is = let one : s ≡ x = sym (same_some x s at) in ap (λ (o : Option ℕ). o ∷ circuits_of xs) (is ∙ ap (λ (z : TheEndAtChannel). z.end.circuit) one)
seat_same (x ∷ xs) (suc e) s y at is = ap (λ (os : List (Option ℕ)). x.end.circuit ∷ os) (seat_same xs e s y at is)

seat_set : (seats : List TheEndAtChannel) (e : ℕ) (s : TheEndAtChannel) (y : TheEnd)
    → circuits_of (slice_set seats e (record { end = y; dispatcher = s.dispatcher; channel = s.channel; kind = s.kind })) ≡ slice_set (circuits_of seats) e y.circuit
seat_set [] e s y = refl
seat_set (x ∷ xs) zero s y = refl
seat_set (x ∷ xs) (suc e) s y = ap (λ (os : List (Option ℕ)). x.end.circuit ∷ os) (seat_set xs e s y)

pub end_same : (b c : TheBoard) (e : ℕ) (Event : TheEnd → TheEnd → Type 0) → ((x y : TheEnd) → Event x y → Same x y) → ChangesEnd b e Event c → circuits_of c.seats ≡ circuits_of b.seats
end_same b c e Event keeps h = ap (λ (x : TheBoard). circuits_of x.seats) h.board ∙ seat_same b.seats e h.seat h.end h.seat_is (keeps h.seat.end h.end h.event)

pub lists_same : (b c : TheBoard) (e : ℕ) (Event : TheEndAtChannel → ThreeLists → ThreeLists → Type 0) → ChangesLists b e Event c → circuits_of c.seats ≡ circuits_of b.seats
lists_same b c e Event h = ap (λ (x : TheBoard). circuits_of x.seats) h.board

pub turn_same : {T : Type 0} (takes : T → Look → T → Type 0) (n e : ℕ) (a b : BoardAndSide T) (answer : TurnAnswer) → Turns takes n e a (Ok answer) b → circuits_of b.board.seats ≡ circuits_of a.board.seats
turn_same takes n e a b answer h =
    ap (λ (x : TheBoard). circuits_of x.seats) h.board ∙ seat_same a.board.seats e h.seat h.end h.seat_is (looks_same takes h.picked h.seat.kind _ answer _ h.looks)

pub triggers_same : (at : Option ℕ) (b c : TheBoard) → TriggersIf at b c → circuits_of c.seats ≡ circuits_of b.seats
triggers_same None b c h = ap (λ (x : TheBoard). circuits_of x.seats) h
triggers_same (Some e) b c h = ap (λ (x : TheBoard). circuits_of x.seats) h.board

-- one end more
circuits_more : (seats : List TheEndAtChannel) (s : TheEndAtChannel) → circuits_of (seats ++ s ∷ []) ≡ circuits_of seats ++ s.end.circuit ∷ []
circuits_more [] s = refl
circuits_more (x ∷ xs) s = ap (λ (os : List (Option ℕ)). x.end.circuit ∷ os) (circuits_more xs s)

pub added : (b c : TheBoard) (n place : ℕ) (x : TheEnd) (kind : ChannelKind) → Adds b n x kind (Ok place) c → circuits_of c.seats ≡ circuits_of b.seats ++ x.circuit ∷ []
added b c n place x kind h = ap (λ (d : TheBoard). circuits_of d.seats) h.1.3 ∙ circuits_more b.seats _

-- ---- an end is bound

-- all circuits stay, or this end's is new
pub binds : (b c : TheBoard) (e n : ℕ) → ChangesEnd b e (λ s t. t ≡ bound s n) c → (circuits_of c.seats ≡ circuits_of b.seats) ⊎ (circuits_of c.seats ≡ slice_set (circuits_of b.seats) e (Some n))
binds b c e n h = by h.seat.end.circuit refl h.event where
  seats : circuits_of c.seats ≡ circuits_of (slice_set b.seats e (record { end = h.end; dispatcher = h.seat.dispatcher; channel = h.seat.channel; kind = h.seat.kind }))
  seats = ap (λ (x : TheBoard). circuits_of x.seats) h.board

  by : (o : Option ℕ) → h.seat.end.circuit ≡ o → h.end ≡ bound_by o n h.seat.end → (circuits_of c.seats ≡ circuits_of b.seats) ⊎ (circuits_of c.seats ≡ slice_set (circuits_of b.seats) e (Some n))
  by None at is = inr (seats ∙ seat_set b.seats e h.seat h.end ∙ ap (slice_set (circuits_of b.seats) e) (ap (λ (z : TheEnd). z.circuit) is))
  by (Some before) at is = inl (seats ∙ seat_same b.seats e h.seat h.end h.seat_is (same h.seat.end h.end is))
