-- A binding over a new ring, from the cores of its ends to the world.
use Rattle.std.proofs.Common.{◌≡◌, ◌≢◌, ◌<◌, ◌+◌, ◌*◌, ◌⊎◌, sym, ap, ap₂, ◌∙◌, subst, inl, inr, ℕ, Bool, true, not}
use Rattle.std.proofs.Common.{List, [], ◌∷◌, ◌++◌, length, length-set, slice_get, slice_set, Some, None, Result, Ok, Err, IfOk}
use Rattle.std.proofs.lemmas.Bool.{ne_eqb}
use Rattle.std.proofs.lemmas.Option.{slice_get_within}
use Rattle.std.proofs.lemmas.Result.{IfOk-weaker}
use Rattle.std.specs.declared.alloc.AllocError.{AllocError}
use Rattle.fl_base.specs.declared.identity.EndId.{EndId}
use Rattle.fl_base.specs.declared.identity.Side.{Side}
use Rattle.fl_lists.specs.declared.place.Place.{Place}
use Rattle.fl_lists.specs.declared.place.Place.TheVariants as place
use Rattle.fl_lists.specs.ThreeLists.{ThreeLists}
use Rattle.fl_link.specs.Looks.{Look}
use Rattle.fl_compile.specs.declared.program.Program.{Program}
use Rattle.fl_ring.specs.Duo.{TheDuo, MayHaveSlots}
use Rattle.fl_ring.specs.Side.{SideTakes}
use Rattle.fl_ring.specs.declared.duo_side.DuoSide.{DuoSide}
use Rattle.fl_endpoint.specs.View.{TheEnd, fresh}
use Rattle.fl_core.specs.declared.kind.ChannelKind.{ChannelKind}
use Rattle.fl_core.specs.declared.kind.ChannelKind.TheVariants.{Ring as RingKind}
use Rattle.fl_core.specs.declared.board_fault.BoardFault.{BoardFault}
use Rattle.fl_core.specs.declared.board_fault.BoardFault.TheVariants as fault
use Rattle.fl_core.specs.BoardView.{TheEndAtChannel}
use Rattle.fl_core.specs.BoardTurns.{WaitsIn, lent, over}
use Rattle.fl_core.specs.BoardEvents.{Registers}
use Rattle.fl_core.specs.View.{TheCore, place_of, client_of, server_of}
use Rattle.fl_core.specs.Ends.{OnBoard, RegistersAt}
use Rattle.fl_model.specs.Events.{Answer, DispatcherId, done}
use Rattle.fl_model.specs.declared.event.DispatcherId.{DispatcherId as RustDispatcherId}
use Rattle.fl_model.specs.declared.answer.Answer.{Answer as RustAnswer}
use Rattle.fl_model.specs.Views.{id_of, answer_of}
use Rattle.fl_world_refines.specs.declared.binding.Binding.{Binding}
use Rattle.fl_world_refines.specs.View.{If, TheWorld}
use Rattle.fl_world_refines.specs.Lending.{answer_at, Refuses}
use Rattle.fl_world_refines.specs.Taking.{RegistersWith}
use Rattle.fl_world_refines.specs.Making.{new_duo}
use Rattle.fl_world_refines.specs.Binding.{BindingRequest, end_for, JoinsSide, JoinsByRing, BindsByRing}
use Rattle.fl_world.specs.declared.binding.BindRequest.{BindRequest}
use Rattle.fl_world_events.specs.declared.by_ring.NewRingEnd.{NewRingEnd}
use Rattle.fl_world_events.specs.Parts.{InCore, ByRing}
use Rattle.fl_world_events.specs.Requests.{HasDispatcher}
use Rattle.fl_world.specs.Requests.{OfRequest, request, IsNewAt, IsNewEnd, both_places}
use Rattle.fl_world_events.specs.RingEnds.{HasRoom, TakesFromRing, RegistersOver, Joins, JoinsBoth}
use Rattle.fl_world.specs.RingEnds.{IsJoiner, JoinsIn, JoinsOrNot, JoinsIfPlaces}
use Rattle.fl_world_events.proofs.Lifts.{one_value}

-- ---- it is registered

waits_same : {T : Type 0} (takes : T → Look → T → Type 0) (p q : T) (to : Place) → WaitsIn takes RingKind p to q → q ≡ p
waits_same takes p q place.Polled h = h
waits_same takes p q place.Pending h = absurd h
waits_same takes p q place.Idle h = absurd h

-- over a ring, the side that is lent is left as it was
left_same : {T : Type 0} (takes : T → Look → T → Type 0) (s : TheEndAtChannel) → s.kind ≡ RingKind → (w v : ThreeLists) (p q : T) (r : Result (Unit {0}) BoardFault)
    → Registers takes s (lent w p) r (lent v q) → q ≡ p
left_same takes s kind w v p q (Ok u) (ready, (free, (to, waits, lists))) = waits_same takes p q to (subst (λ (k : ChannelKind). WaitsIn takes k p to q) kind waits)
left_same takes s kind w v p q (Err fault.Registered) (ready, (there, same, lists)) = same
left_same takes s kind w v p q (Err fault.NotBound) (unbound, same, lists) = same
left_same takes s kind w v p q (Err fault.Failed) (failed, same, lists) = same
left_same takes s kind w v p q (Err fault.NotRegistered) h = absurd h
left_same takes s kind w v p q (Err fault.TooManyEnds) h = absurd h
left_same takes s kind w v p q (Err fault.Memory) h = absurd h

module _ (m e : ℕ) (a : Answer) (k k2 : TheCore) (r r2 : TheDuo) (on : TakesFromRing k e) (h : ByRing m (RegistersWith SideTakes (answer_at e a)) k r k2 r2) where
  side_same : h.over.left ≡ h.over.side
  side_same =
      let c = h.over.event.1.event in
      let seat : c.seat ≡ on.seat = one_value c.seat on.seat (sym c.seat_is ∙ on.seat_is) in
      left_same SideTakes c.seat (ap (λ (s : TheEndAtChannel). s.kind) seat ∙ on.kind) _ _ h.over.side h.over.left h.over.event.0 c.event

  pub ring_same : r2 ≡ r
  ring_same = h.over.rest ∙ ap (λ (s : DuoSide). s.duo.now) side_same ∙ h.over.lent.ring

  pub registers_over : InCore (RegistersOver m e r) k k2
  registers_over = record {
    whole = h.whole;
    still = h.still;
    event = record {
      side = h.over.side;
      lent = h.over.lent;
      answer = h.over.event.0;
      registers = subst (λ (q : DuoSide). OnBoard k (λ b c. RegistersAt SideTakes e (over b h.over.side) h.over.event.0 (over c q)) k2) side_same h.over.event.1;
    };
  }

pub below_seats : (k : TheCore) (e : ℕ) → TakesFromRing k e → e < length k.board.seats
below_seats k e h = slice_get_within k.board.seats e h.seat h.seat_is

-- ---- in the world

-- an end that is to be made
module _ (w : TheWorld) (i : ℕ) (at : RustDispatcherId) (name : EndId) (side : ℕ) (x : NewRingEnd) (h : IsJoiner w i at name side x) where
  pub joiner_few : name.binding < 1024 → x.name.binding < 1024
  joiner_few few = subst (λ (z : NewRingEnd). z.name.binding < 1024) (sym h.joiner) few

  pub joiner_core : x.at.core ≡ at.core
  joiner_core = ap (λ (z : NewRingEnd). z.at.core) h.joiner

  joiner_room : HasDispatcher w.cores (id_of at) → ((k : TheCore) → slice_get w.cores at.core ≡ Some k → place_of k name ≡ None) → HasRoom w.cores (id_of x.at) x.name
  joiner_room there none =
      subst (λ (z : NewRingEnd). HasRoom w.cores (id_of z.at) z.name) (sym h.joiner)
      (record { core = there.core; core_is = there.core_is; there = there.there; new = none there.core there.core_is })

pub client_room : (w : TheWorld) (i : ℕ) (at : RustDispatcherId) (n side : ℕ) (x : NewRingEnd) → IsJoiner w i at (client_of n) side x → HasDispatcher w.cores (id_of at)
    → IsNewAt n at.core w → HasRoom w.cores (id_of x.at) x.name
client_room w i at n side x h there new = joiner_room w i at (client_of n) side x h there (λ k is. (new k is).client)

pub server_room : (w : TheWorld) (i : ℕ) (at : RustDispatcherId) (n side : ℕ) (x : NewRingEnd) → IsJoiner w i at (server_of n) side x → HasDispatcher w.cores (id_of at)
    → IsNewAt n at.core w → HasRoom w.cores (id_of x.at) x.name
server_room w i at n side x h there new = joiner_room w i at (server_of n) side x h there (λ k is. (new k is).server)

-- an end that joins is one of what is asked for
joins_side : (want : BindRequest) (w : TheWorld) (p : Program) → slice_get w.programs want.interface ≡ Some p → (at : RustDispatcherId) (name : EndId) (side : ℕ) (s : TheEnd)
    → IsNewEnd want.interface w s → (ring : TheDuo) → ring ≡ new_duo ring.size → (k k2 : TheCore)
    → Joins (record { at = at; name = name; side = side; end = s }) ring k k2
    → JoinsSide (request want p) (end_for (id_of at) name) side (new_duo ring.size) k k2
joins_side want w p there at name side s new ring fresh_ring k k2 h =
    let g : Joins (record { at = at; name = name; side = side; end = fresh new.program (Some 0) }) ring k k2
    = subst (λ (t : TheEnd). Joins (record { at = at; name = name; side = side; end = t }) ring k k2) new.end h in
    let over : JoinsSide (request want p) (end_for (id_of at) name) side ring k k2 = record {
      program = new.program;
      copy = new.copy p there;
      place = g.place;
      added = g.added;
      adds = g.adds;
      side = g.registers.side;
      lent = g.registers.lent;
      answer = g.registers.answer;
      registers = g.registers.registers;
    } in
    subst (λ (r : TheDuo). JoinsSide (request want p) (end_for (id_of at) name) side r k k2) fresh_ring over

abbrev binding_of : BindRequest → Binding
binding_of want = record { interface = want.interface; client = want.client.core; server = want.server.core; unmade = None }

abbrev joined : BindRequest → TheWorld → List TheCore → TheDuo → TheWorld
joined want w cores ring = record w { cores = cores; rings = w.rings ++ ring ∷ []; bindings = w.bindings ++ binding_of want ∷ [] }

pub as_many_joined : (x y : NewRingEnd) (ring : TheDuo) (xs ys : List TheCore) → JoinsBoth x y ring xs ys → length ys ≡ length xs
as_many_joined x y ring xs ys h =
    ap length h.rest ∙ length-set (slice_set xs x.at.core h.first_after) y.at.core h.second_after ∙ length-set xs x.at.core h.first_after

pub joins_in : (x y : NewRingEnd) (ring : TheDuo) (b : Binding) (w base : TheWorld) → base ≡ w → (xs ys cores : List TheCore) → xs ≡ base.cores → cores ≡ ys
    → JoinsBoth x y ring xs ys → (rings : List TheDuo) → rings ≡ base.rings ++ ring ∷ [] → (bindings : List Binding) → bindings ≡ base.bindings ++ b ∷ []
    → JoinsIn x y ring b w (record base { cores = cores; rings = rings; bindings = bindings })
joins_in x y ring b w base same xs ys cores xs_is cores_is both rings rings_is bindings bindings_is =
    subst (λ (z : TheWorld). JoinsIn x y ring b z (record base { cores = cores; rings = rings; bindings = bindings })) same (record {
      cores = cores;
      both = subst (λ (zs : List TheCore). JoinsBoth x y ring zs cores) xs_is (subst (λ (zs : List TheCore). JoinsBoth x y ring xs zs) (sym cores_is) both);
      rest = ap₂ (λ (rs : List TheDuo) (bs : List Binding). record base { cores = cores; rings = rs; bindings = bs }) rings_is bindings_is;
    })

-- where an end may be made, by the fields of the world
pub lent_room : (w base : TheWorld) → base ≡ w → (xs : List TheCore) → xs ≡ base.cores → (d : DispatcherId) (name : EndId) → HasRoom w.cores d name → HasRoom xs d name
lent_room w base same xs xs_is d name h =
    subst (λ (zs : List TheCore). HasRoom zs d name) (sym (xs_is ∙ ap (λ (z : TheWorld). z.cores) same)) h

-- what the code makes of what is asked for
abbrev made_joiner : RustDispatcherId → Side → ℕ → TheEnd → ℕ → NewRingEnd
made_joiner at side m s n = record { at = at; name = record { binding = n; side = side }; side = m; end = s }

pub is_joiner : (w : TheWorld) (i : ℕ) (at : RustDispatcherId) (side : Side) (m : ℕ) (s : TheEnd) → IsNewEnd i w s → (n : ℕ) → n ≡ length w.bindings
    → IsJoiner w i at (record { binding = length w.bindings; side = side }) m (made_joiner at side m s n)
is_joiner w i at side m s new n is = record { end = s; new = new; joiner = ap (made_joiner at side m s) is }

pub joins_over : (want : BindRequest) (w : TheWorld) (x y : NewRingEnd)
    → IsJoiner w want.interface want.client (client_of (length w.bindings)) (2 * length w.rings) x
    → IsJoiner w want.interface want.server (server_of (length w.bindings)) (2 * length w.rings + 1) y
    → (ring : TheDuo) → ring ≡ new_duo ring.size → (w2 : TheWorld) → JoinsIn x y ring (binding_of want) w w2
    → OfRequest want w (λ r. JoinsByRing r ring.size w w2)
joins_over want w x y x_is y_is ring fresh_ring w2 h p there =
    let one : NewRingEnd = record { at = want.client; name = client_of (length w.bindings); side = 2 * length w.rings; end = x_is.end } in
    let other : NewRingEnd = record { at = want.server; name = server_of (length w.bindings); side = 2 * length w.rings + 1; end = y_is.end } in
    let g : JoinsBoth one other ring w.cores h.cores
    = subst (λ (z : NewRingEnd). JoinsBoth one z ring w.cores h.cores) y_is.joiner (subst (λ (z : NewRingEnd). JoinsBoth z y ring w.cores h.cores) x_is.joiner h.both) in
    record {
      first = g.first;
      first_is = g.first_is;
      first_whole = g.client.whole;
      first_after = g.first_after;
      first_still = g.client.still;
      client = joins_side want w p there want.client (client_of (length w.bindings)) (2 * length w.rings) x_is.end x_is.new ring fresh_ring g.first g.first_after g.client.event;
      second = g.second;
      second_is = g.second_is;
      second_whole = g.server.whole;
      second_after = g.second_after;
      second_still = g.server.still;
      server = joins_side want w p there want.server (server_of (length w.bindings)) (2 * length w.rings + 1) y_is.end y_is.new ring fresh_ring g.second g.second_after g.server.event;
      rest = h.rest ∙ ap (λ (cs : List TheCore). joined want w cs ring) g.rest
          ∙ ap (joined want w (slice_set (slice_set w.cores want.client.core g.first_after) want.server.core g.second_after)) fresh_ring;
    }

-- the same, where each number is known by an equation
pub joined_by : (want : BindRequest) (w : TheWorld) (side : ℕ) → side ≡ 2 * length w.rings → (x y : NewRingEnd) → IsJoiner w want.interface want.client (client_of (length w.bindings)) side x
    → IsJoiner w want.interface want.server (server_of (length w.bindings)) (side + 1) y → (ring : TheDuo) → ring ≡ new_duo ring.size → (w2 : TheWorld)
    → (o : Result RustAnswer AllocError) → IfOk o (λ a. (answer_of a ≡ done) × JoinsIn x y ring (binding_of want) w w2)
    → IfOk o (λ a. (answer_of a ≡ done) × OfRequest want w (λ r. JoinsByRing r ring.size w w2))
joined_by want w side side_is x y x_is y_is ring fresh_ring w2 o h =
    let one = subst (λ (m : ℕ). IsJoiner w want.interface want.client (client_of (length w.bindings)) m x) side_is x_is in
    let other = subst (λ (m : ℕ). IsJoiner w want.interface want.server (server_of (length w.bindings)) (m + 1) y) side_is y_is in
    IfOk-weaker o (λ a. (answer_of a ≡ done) × JoinsIn x y ring (binding_of want) w w2)
    (λ a. (answer_of a ≡ done) × OfRequest want w (λ r. JoinsByRing r ring.size w w2))
    (λ a g. (g.0, joins_over want w x y one other ring fresh_ring w2 g.1)) h

-- ---- what is answered

pub joined_or_not : (want : BindRequest) (size : ℕ) (w w2 : TheWorld) (o : Result RustAnswer AllocError)
    → IfOk o (λ a. (answer_of a ≡ done) × OfRequest want w (λ r. JoinsByRing r size w w2)) → IfOk o (λ a. OfRequest want w (λ r. JoinsOrNot r size w (answer_of a) w2))
joined_or_not want size w w2 o h =
    IfOk-weaker o (λ a. (answer_of a ≡ done) × OfRequest want w (λ r. JoinsByRing r size w w2)) (λ a. OfRequest want w (λ r. JoinsOrNot r size w (answer_of a) w2))
    (λ a g p there. inl (g.0, g.1 p there)) h

pub some_places : (want : BindRequest) (size : ℕ) (w w2 : TheWorld) → true ≡ both_places (id_of want.client) (id_of want.server) w → (o : Result RustAnswer AllocError)
    → IfOk o (λ a. OfRequest want w (λ r. JoinsOrNot r size w (answer_of a) w2)) → IfOk o (λ a. OfRequest want w (λ r. JoinsIfPlaces r size w (answer_of a) w2))
some_places want size w w2 is o h =
    IfOk-weaker o (λ a. OfRequest want w (λ r. JoinsOrNot r size w (answer_of a) w2)) (λ a. OfRequest want w (λ r. JoinsIfPlaces r size w (answer_of a) w2))
    (λ a g p there. subst (λ (b : Bool). If (not b) (Refuses 54 w (answer_of a) w2) (JoinsOrNot (request want p) size w (answer_of a) w2)) is (g p there)) h

-- what is left of the event where the ends are at two cores
abbrev AtTwo : BindingRequest → ℕ → TheWorld → Answer → TheWorld → Type 0
AtTwo r size w a w2 = ((MayHaveSlots size → ⊥) × Refuses 32 w a w2) ⊎ (MayHaveSlots size × JoinsIfPlaces r size w a w2)

-- over a ring of a good size
pub at_two_cores : (want : BindRequest) (size n : ℕ) (w w2 : TheWorld) → want.client.core ≢ want.server.core → MayHaveSlots size → n ≡ size → (o : Result RustAnswer AllocError)
    → IfOk o (λ a. OfRequest want w (λ r. JoinsIfPlaces r n w (answer_of a) w2)) → IfOk o (λ a. OfRequest want w (λ r. BindsByRing r size w (answer_of a) w2))
at_two_cores want size n w w2 apart sized same o h =
    IfOk-weaker o (λ a. OfRequest want w (λ r. JoinsIfPlaces r n w (answer_of a) w2)) (λ a. OfRequest want w (λ r. BindsByRing r size w (answer_of a) w2))
    (λ a g p there. subst (λ (b : Bool). If b (Refuses 73 w (answer_of a) w2) (AtTwo (request want p) size w (answer_of a) w2))
    (sym (ne_eqb want.client.core want.server.core apart))
    (inr (sized, subst (λ (m : ℕ). JoinsIfPlaces (request want p) m w (answer_of a) w2) same (g p there)))) h
