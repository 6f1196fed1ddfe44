-- An end that isn't bound in the end handled nothing, and made no call; and a client's end whose opening was refused isn't bound.
use Rattle.std.proofs.Common.{◌≡◌, refl, sym, ap, ◌∙◌, subst, ℕ, if◌then◌else◌, ◌⊎◌, inl, inr, List, [], ◌∷◌, ◌++◌, slice_get, Option, Some, None, IsSome, Bool, true, false}
use Rattle.std.proofs.Common.{Result, Ok, Err}
use Rattle.std.proofs.lemmas.Option.{same_Some}
use Rattle.fl_base.specs.declared.identity.EndId.{EndId}
use Rattle.fl_base.specs.declared.identity.LinkId.{LinkId}
use Rattle.fl_ring.specs.SharedSides.{TheSide}
use Rattle.fl_value_data.specs.declared.value.Call.{Call}
use Rattle.fl_value_data.specs.Value.{TheCall}
use Rattle.fl_link.specs.Looks.{Look}
use Rattle.fl_waitset.specs.declared.waitset.Pick.{Pick}
use Rattle.fl_waitset.specs.declared.waitset.Pick.TheVariants as pick
use Rattle.fl_endpoint.specs.View.{TheEnd}
use Rattle.fl_endpoint.specs.declared.fault.EndFault.{EndFault}
use Rattle.fl_core.specs.declared.turn_answer.TurnAnswer.{TurnAnswer}
use Rattle.fl_core.specs.declared.turn_answer.TurnAnswer.TheVariants as turn
use Rattle.fl_core.specs.declared.kind.ChannelKind.{ChannelKind}
use Rattle.fl_core.specs.BoardView.{TheEndAtChannel, TheBoard}
use Rattle.fl_core.specs.BoardTurns.{Turns, BoardAndSide, EndMoment, LooksAt}
use Rattle.fl_hop.specs.declared.entry.HopTarget.TheVariants.{End}
use Rattle.fl_hop.specs.Later.{way_at}
use Rattle.fl_hop.specs.Stretch.{same_end}
use Rattle.fl_core.specs.View.{TheCore, place_of}
use Rattle.fl_core.specs.declared.wiring.WiredEnd.{WiredEnd}
use Rattle.fl_core.specs.declared.wiring.EndWiring.TheVariants.{Circuit}
use Rattle.fl_core.specs.declared.wiring.Inlet.{Inlet}
use Rattle.fl_core.specs.declared.wiring.Inlet.TheVariants as inlet
use Rattle.fl_core.specs.declared.core_job.CoreJob.{CoreJob}
use Rattle.fl_core_run.specs.Run.{TheRun}
use Rattle.fl_core_run.specs.LogEntries.{LogEntry, looked, passed, arrived, heard, said, told, opened, called, ruled, wrote, acked, turned, Does}
use Rattle.fl_core_run_laws.specs.Logs.{Goes, call_in, handled_in, handled_at}
use Rattle.fl_core_run_laws.specs.Made.{made_by, made_in, made_at}
use Rattle.fl_core_run_laws.specs.Led.{IsLed}
use Rattle.fl_core_run_laws.proofs.Aside.{core_aside}
use Rattle.fl_core_run_laws.proofs.Carrying.{IsHere, log_goes}
use Rattle.fl_core_run_laws.proofs.CircuitsMade.{MadeOn, does_make, places_to, wired_ends_to}
use Rattle.fl_core_run_laws.proofs.Handling.{one_end}
use Rattle.fl_core_run_laws.proofs.Leads.{does_led}
use Rattle.fl_core_run_laws.proofs.Newcomers.{Absent}
use Rattle.fl_core_run_laws.proofs.Seating.{sits_first}
use Rattle.fl_core_run_laws.proofs.Tables.{way_of}
use Rattle.fl_cores_laws.specs.EndedCores.{shared_ways}

-- ---- an end that is bound

pub record IsBound (board : TheBoard) (p : ℕ) : Type 0 where
  pub seat : TheEndAtChannel
  pub seat_is : slice_get board.seats p ≡ Some seat
  pub circuit : ℕ
  pub circuit_is : seat.end.circuit ≡ Some circuit

some_of : (o : Option ℕ) → IsSome o → (c : ℕ) × (o ≡ Some c)
some_of None some = absurd (cc)
some_of (Some c) some = (c, refl)

bound_by : (board : TheBoard) (p : ℕ) (seat : TheEndAtChannel) → slice_get board.seats p ≡ Some seat → IsSome seat.end.circuit → IsBound board p
bound_by board p seat at some =
    let (c, is) = some_of seat.end.circuit some in
    record { seat = seat; seat_is = at; circuit = c; circuit_is = is }

-- a call is handled only there
looks_bound : {T : Type 0} (takes : T → Look → T → Type 0) (picked : Pick) (kind : ChannelKind) (a : EndMoment T) (call : Call) (b : EndMoment T)
    → LooksAt takes picked kind a (Ok (turn.Handle call)) b → IsSome a.end.circuit
looks_bound takes (pick.Pending c) kind a call b h = h.1.0.0.0
looks_bound takes (pick.Polled c) kind a call b h = absurd h.0

turn_bound : {T : Type 0} (takes : T → Look → T → Type 0) (n p : ℕ) (a : BoardAndSide T) (call : Call) (b : BoardAndSide T) → Turns takes n p a (Ok (turn.Handle call)) b → IsBound a.board p
turn_bound takes n p a call b h = bound_by a.board p h.seat h.seat_is (looks_bound takes h.picked h.seat.kind _ call _ h.looks)

-- the end of this name is bound
pub record BoundAt (t : TheRun TheSide) (e : EndId) : Type 0 where
  pub place : ℕ
  pub place_is : place_of t.core e ≡ Some place
  pub bound : IsBound t.core.board place

module _ (s m : TheRun TheSide) (e : EndId) where
  bound_here : (f : EndId) → f ≡ e → (p : ℕ) → place_of s.core f ≡ Some p → IsBound s.core.board p → BoundAt s e
  bound_here f same p at bound = record { place = p; place_is = subst (λ (x : EndId). place_of s.core x ≡ Some p) same at; bound = bound }

  handles_bound : (d : ℕ) (f : EndId) (from : Inlet) (call : Call) → f ≡ e → Does shared_ways (turned d f from (turn.Handle call)) s m → BoundAt s e
  handles_bound d f (inlet.Queue n) call same h = bound_here f same h.0 h.1 (turn_bound _ d h.0 _ call _ h.3.event.event)
  handles_bound d f (inlet.Side n) call same h = bound_here f same h.0 h.1 (turn_bound _ d h.0 _ call _ h.3.event.event)
  handles_bound d f inlet.Arrivals call same h = bound_here f same h.0 h.1 (turn_bound _ d h.0 _ call _ h.3.event.event)

  makes_bound : (f : EndId) (c : TheCall) → f ≡ e → Does shared_ways (called f c (Ok tt)) s m → BoundAt s e
  makes_bound f c same h = bound_here f same h.0 h.1 (bound_by s.core.board h.0 h.2.event.event.seat h.2.event.event.seat_is h.2.event.event.event.1.0)

  -- ---- what it did by one event

  abbrev DidNone : LogEntry → Type 0
  DidNone log_entry = (handled_in e log_entry ≡ []) × (made_in e log_entry ≡ [])

  turned_by : (d : ℕ) (f : EndId) (from : Inlet) (answer : TurnAnswer) (b : Bool) → same_end f e ≡ b → Does shared_ways (turned d f from answer) s m
      → ((if b then call_in answer else []) ≡ []) ⊎ BoundAt s e
  turned_by d f from answer false same h = inl refl
  turned_by d f from (turn.Handle call) true same h = inr (handles_bound d f from call (one_end f e same) h)
  turned_by d f from turn.Part true same h = inl refl
  turned_by d f from turn.Ready true same h = inl refl
  turned_by d f from turn.Quiet true same h = inl refl
  turned_by d f from turn.Full true same h = inl refl
  turned_by d f from turn.Nothing true same h = inl refl
  turned_by d f from (turn.Refused fault) true same h = inl refl

  called_by : (f : EndId) (c : TheCall) (answer : Result (Unit {0}) EndFault) (b : Bool) → same_end f e ≡ b → Does shared_ways (called f c answer) s m
      → ((if b then made_by c answer else []) ≡ []) ⊎ BoundAt s e
  called_by f c answer false same h = inl refl
  called_by f c (Ok done) true same h = inr (makes_bound f c (one_end f e same) h)
  called_by f c (Err fault) true same h = inl refl

  did_by : (log_entry : LogEntry) → Does shared_ways log_entry s m → DidNone log_entry ⊎ BoundAt s e
  did_by (looked n l answer) h = inl (refl, refl)
  did_by (passed n k frag c outcome) h = inl (refl, refl)
  did_by (arrived n l frag f answer) h = inl (refl, refl)
  did_by (heard n l frag answer) h = inl (refl, refl)
  did_by (said n l answer) h = inl (refl, refl)
  did_by (told n l answer) h = inl (refl, refl)
  did_by (opened f request answer) h = inl (refl, refl)
  did_by (called f c answer) h = elim (called_by f c answer (same_end f e) refl h) [
    | inl none ↦ inl (refl, none)
    | inr bound ↦ inr bound
  ]
  did_by (ruled f msg reply answer) h = inl (refl, refl)
  did_by (wrote f out answer) h = inl (refl, refl)
  did_by (acked f n answer) h = inl (refl, refl)
  did_by (turned d f from answer) h = elim (turned_by d f from answer (same_end f e) refl h) [
    | inl none ↦ inl (none, refl)
    | inr bound ↦ inr bound
  ]

-- ---- a log

module _ (jobs : List CoreJob) (e : EndId) where
  -- an end that is bound stays so
  bound_to : (log : List LogEntry) (s t : TheRun TheSide) → Goes shared_ways jobs s log t → BoundAt s e → BoundAt t e
  bound_to [] s t same bound = subst (λ (x : TheRun TheSide). BoundAt x e) (sym same) bound
  bound_to (log_entry ∷ log) s t h bound =
      let here : IsHere e bound.place bound.bound.seat.end s.core = record {
        has = record { seat = bound.bound.seat; seat_is = bound.bound.seat_is; end_is = refl };
        sits = sits_first s.core e bound.place h.1.3.core bound.place_is;
      } in
      let went = log_goes shared_ways jobs e bound.place (log_entry ∷ log) s t bound.bound.seat.end here h in
      record {
        place = bound.place;
        place_is = went.sits.here;
        bound = record {
          seat = went.has.seat;
          seat_is = went.has.seat_is;
          circuit = bound.bound.circuit;
          circuit_is = ap (λ (x : TheEnd). x.circuit) went.has.end_is ∙ went.goes.circuit bound.bound.circuit bound.bound.circuit_is;
        };
      }

  abbrev pub DidNothing : List LogEntry → Type 0
  DidNothing log = (handled_at e log ≡ []) × (made_at e log ≡ [])

  -- where it did something it is bound at last
  pub did_nothing : (log : List LogEntry) (s t : TheRun TheSide) → Goes shared_ways jobs s log t → DidNothing log ⊎ BoundAt t e
  did_nothing [] s t h = inl (refl, refl)
  did_nothing (log_entry ∷ log) s t h = elim (did_by s h.1.0 e log_entry h.1.1) [
    | inl none ↦ elim (did_nothing log h.0 t h.3) [
      | inl rest ↦ inl (
        ap (λ (cs : List Call). cs ++ handled_at e log) none.0 ∙ rest.0,
        ap (λ (cs : List TheCall). cs ++ made_at e log) none.1 ∙ rest.1,
      )
      | inr bound ↦ inr bound
    ]
    | inr bound ↦ inr (bound_to (log_entry ∷ log) s t h bound)
  ]

  -- ---- an end that was made is one of a circuit

  record OnCircuit (t : TheRun TheSide) : Type 0 where
    pub place : ℕ
    pub place_is : place_of t.core e ≡ Some place
    pub wired_end : WiredEnd
    pub wired_end_is : slice_get t.core.wired_ends place ≡ Some wired_end
    pub link : LinkId
    pub queue : ℕ
    pub wiring : wired_end.wiring ≡ Circuit link queue
    pub name : wired_end.name ≡ e

  on_by : (log : List LogEntry) (s t : TheRun TheSide) → Goes shared_ways jobs s log t → MadeOn e s.core → OnCircuit t
  on_by log s t h made = record {
    place = made.place;
    place_is = places_to shared_ways jobs e log s t made.place h made.place_is;
    wired_end = made.wired_end;
    wired_end_is = wired_ends_to shared_ways jobs e log s t made.place made.wired_end h made.wired_end_is;
    link = made.link;
    queue = made.queue;
    wiring = made.wiring_is;
    name = made.name_is;
  }

  made_there : (log : List LogEntry) (s t : TheRun TheSide) → Goes shared_ways jobs s log t → Absent e s.core → Absent e t.core ⊎ OnCircuit t
  made_there [] s t same absent = inl (subst (λ (x : TheRun TheSide). Absent e x.core) (sym same) absent)
  made_there (log_entry ∷ log) s t h absent =
      let aside : h.0.core ≡ h.1.0.core = core_aside h.1.0 h.0 log_entry h.1.2 in
      elim (does_make shared_ways jobs e log_entry s h.1.0 h.1.3.core absent h.2 h.1.1) [
        | inl still ↦ made_there log h.0 t h.3 (subst (λ (k : TheCore). Absent e k) (sym aside) still)
        | inr made ↦ inr (on_by log h.0 t h.3 (subst (λ (k : TheCore). MadeOn e k) (sym aside) made))
      ]

  -- ---- the table leads to it still

  led_to : (log : List LogEntry) (s t : TheRun TheSide) → Goes shared_ways jobs s log t → IsLed s.core → IsLed t.core
  led_to [] s t same led = subst (λ (x : TheRun TheSide). IsLed x.core) (sym same) led
  led_to (log_entry ∷ log) s t h led =
      led_to log h.0 t h.3 (subst IsLed (sym (core_aside h.1.0 h.0 log_entry h.1.2)) (does_led shared_ways jobs s h.1.0 h.1.3.core h.1.3.table led log_entry h.2 h.1.1))

  -- so where no entry leads to it, it isn't bound
  module _ (log : List LogEntry) (s t : TheRun TheSide) (goes : Goes shared_ways jobs s log t) (absent : Absent e s.core) (led : IsLed s.core)
      (none : (l n : ℕ) → way_at t.core.monitor.circuits l n ≡ Some (End e) → ⊥) where
    not_bound : BoundAt t e → ⊥
    not_bound b = elim (made_there log s t goes absent) [
      | inl gone ↦ absurd (let clash : Some b.place ≡ None = sym b.place_is ∙ gone in cc)
      | inr on ↦
          (let place : on.place ≡ b.place = same_Some on.place b.place (sym on.place_is ∙ b.place_is) in
          let seat : slice_get t.core.board.seats on.place ≡ Some b.bound.seat = subst (λ (i : ℕ). slice_get t.core.board.seats i ≡ Some b.bound.seat) (sym place) b.bound.seat_is in
          let leads = (led_to log s t goes led).ends on.place on.queue on.link on.wired_end b.bound.seat on.wired_end_is on.wiring seat in
          let settled = leads.bound b.bound.circuit b.bound.circuit_is in
          none on.link.0 b.bound.circuit (way_of t.core.monitor.circuits on.link.0 b.bound.circuit settled.hop (End e) settled.there (settled.way ∙ ap End on.name)))
    ]

    pub unbound_did_nothing : DidNothing log
    unbound_did_nothing = elim (did_nothing log s t goes) [
      | inl nothing ↦ nothing
      | inr bound ↦ absurd (not_bound bound)
    ]
