-- A core to which a server's end comes: the end is added and registered, and then gets the rules that were kept for it.
use Rattle.std.proofs.Common.{◌≡◌, inl, inr, refl, sym, ◌∙◌, ap, subst, ℕ, ◌<◌, Bool, if◌then◌else◌, List, [], ◌∷◌, ◌++◌, length, slice_get, slice_set, Option, Some, None, Result, Ok, Err, arith}
use Rattle.std.specs.Prelude.{slice_index_or}
use Rattle.fl_base.specs.declared.identity.LinkId.{LinkId}
use Rattle.fl_base.specs.declared.identity.Circuit.{Circuit as Number}
use Rattle.fl_base.specs.declared.identity.Side.TheVariants.{Server}
use Rattle.fl_hop.proofs.Lists.{set_here, at_within, index_there}
use Rattle.fl_lists.specs.ThreeLists.{ThreeLists}
use Rattle.fl_compile.specs.declared.program.Program.{Program}
use Rattle.fl_link.specs.Queue.{QueueTakes}
use Rattle.fl_endpoint.specs.View.{TheEnd, fresh, interface_in}
use Rattle.fl_core.specs.BoardView.{TheBoard, TheDispatcher, TheEndAtChannel, with_lists, with_end}
use Rattle.fl_core.specs.BoardEvents.{Registers}
use Rattle.fl_core.specs.BoardTurns.{lent, over}
use Rattle.fl_core.specs.declared.kind.ChannelKind.TheVariants.{Queue as QueueKind}
use Rattle.fl_core.specs.declared.board_fault.BoardFault.{BoardFault}
use Rattle.fl_core.specs.declared.board_fault.BoardFault.TheVariants.{NotBound, Registered, NotRegistered, TooManyEnds, Failed, Memory}
use Rattle.fl_monitor.specs.Monitors.{TheMonitor}
use Rattle.fl_core.specs.declared.hearing.OfferedService.{OfferedService}
use Rattle.fl_core.specs.declared.wiring.EndWiring.{EndWiring}
use Rattle.fl_core.specs.declared.wiring.EndWiring.TheVariants.{Queues, Ring, Circuit}
use Rattle.fl_core.specs.Ends.{RegistersAt}
use Rattle.fl_core.specs.Hearing.{offering, MakesServer}
use Rattle.fl_core.specs.Sound.{IsWired, IsCore}
use Rattle.fl_core.specs.View.{TheCore, new_arrivals, place_of, slot_of, with_board, with_monitor, with_circuit_wired_end}
use Rattle.fl_model.specs.Binding.{end_id}
use Rattle.fl_model_laws.proofs.Ready.{get_last}
use Rattle.fl_world_refines.proofs.Tests.{lt_true}
use Rattle.fl_world_refines.specs.declared.binding.Binding.{Binding as TheBinding}
use Rattle.fl_world_refines.specs.View.{TheWorld, with_core, with_binding}
use Rattle.fl_world_refines.specs.Linking.{WithRules, TakesRules}
use Rattle.fl_world_refines.proofs.MakingBase.{map_push}
use Rattle.fl_world_refines.proofs.JoiningCores.{new_seat}
use Rattle.fl_world_refines.proofs.PassingLists.{some_is}
use Rattle.fl_world_refines.proofs.ServingSeats.{board_with, core_with, closed}

-- ---- the end is added and registered

abbrev pub wider : TheCore → TheDispatcher → TheDispatcher
wider c x = record { lists = x.lists; ends = x.ends ++ length c.board.seats ∷ [] }

abbrev pub born_board : TheCore → ℕ → TheDispatcher → TheEnd → ThreeLists → TheBoard
born_board c place x t lists = with_lists (board_with c place x t) place (wider c x) lists

abbrev pub born_core : TheCore → ℕ → TheDispatcher → TheEnd → ThreeLists → ℕ → LinkId → TheCore
born_core c place x t lists n l = with_circuit_wired_end c (born_board c place x t lists) (length c.board.seats) (end_id n Server) l

-- the end's channel is registered over an empty arrival queue
abbrev pub JoinsNew : TheEnd → ℕ → TheDispatcher → Result (Unit {0}) BoardFault → ThreeLists → Type 0
JoinsNew t place x answer lists =
    Registers QueueTakes (new_seat t place (length x.ends) QueueKind) (lent x.lists new_arrivals) answer (lent lists new_arrivals)

pub record Born (c c2 : TheCore) (place n : ℕ) (l : LinkId) (t : TheEnd) : Type 0 where
  pub listed : TheDispatcher
  pub listed_is : slice_get c.board.dispatchers place ≡ Some listed
  pub lists : ThreeLists
  pub answer : Result (Unit {0}) BoardFault
  pub registers : JoinsNew t place listed answer lists
  pub core_is : c2 ≡ born_core c place listed t lists n l

pub born : (programs : List Program) (offer : Option OfferedService) (l : LinkId) (n place : ℕ) (c : Number) (k k2 : TheCore) (mk : MakesServer (offering programs offer l) n place c k k2)
    → Born k k2 place n l (fresh mk.program (Some c.0))
born programs offer l n place c k k2 mk =
    let t : TheEnd = fresh mk.program (Some c.0) in
    let x = mk.adds.1.0 in
    let xt : slice_get k.board.dispatchers place ≡ Some x = mk.adds.1.1 in
    let answer : Result (Unit {0}) BoardFault = mk.joins.0 in
    let j : RegistersAt QueueTakes (length k.board.seats) (over (board_with k place x t) new_arrivals) answer (over k2.board new_arrivals) =
    subst (λ (m : ℕ). RegistersAt QueueTakes m (over (board_with k place x t) new_arrivals) answer (over k2.board new_arrivals)) mk.adds.0
    (subst (λ (b : TheBoard). RegistersAt QueueTakes mk.end (over b new_arrivals) answer (over k2.board new_arrivals)) mk.adds.1.3 mk.joins.1) in
    let seat : j.seat ≡ new_seat t place (length x.ends) QueueKind =
    some_is j.seat (new_seat t place (length x.ends) QueueKind) (sym j.seat_is ∙ get_last k.board.seats (new_seat t place (length x.ends) QueueKind)) in
    let there : j.dispatcher ≡ wider k x =
    some_is j.dispatcher (wider k x)
    (sym j.dispatcher_is ∙ ap (λ (z : TheEndAtChannel). slice_get (slice_set k.board.dispatchers place (wider k x)) z.dispatcher) seat ∙ set_here k.board.dispatchers place x (wider k x) xt) in
    let board : k2.board ≡ born_board k place x t j.lists =
    j.board ∙ ap (λ (z : TheEndAtChannel). with_lists (board_with k place x t) z.dispatcher j.dispatcher j.lists) seat
    ∙ ap (λ (y : TheDispatcher). with_lists (board_with k place x t) place y j.lists) there in
    record {
      listed = x;
      listed_is = xt;
      lists = j.lists;
      answer = answer;
      registers = subst (λ (z : TheEndAtChannel). Registers QueueTakes z (lent x.lists new_arrivals) answer (lent j.lists new_arrivals)) seat
          (subst (λ (y : TheDispatcher). Registers QueueTakes j.seat (lent y.lists new_arrivals) answer (lent j.lists new_arrivals)) there j.event);
      core_is = mk.rest ∙ ap (λ (b : TheBoard). with_circuit_wired_end k b mk.end (end_id n Server) l) board
          ∙ ap (λ (m : ℕ). with_circuit_wired_end k (born_board k place x t j.lists) m (end_id n Server) l) mk.adds.0;
    }

-- with other rules it is registered alike
pub joins_with : (t : TheEnd) (rules : List (Option ℕ)) (place : ℕ) (x : TheDispatcher) (answer : Result (Unit {0}) BoardFault) (lists : ThreeLists)
    → JoinsNew t place x answer lists → JoinsNew (record t { rules = rules }) place x answer lists
joins_with t rules place x (Ok done) lists h = h
joins_with t rules place x (Err Registered) lists h = h
joins_with t rules place x (Err NotBound) lists h = h
joins_with t rules place x (Err Failed) lists h = h
joins_with t rules place x (Err NotRegistered) lists h = h
joins_with t rules place x (Err TooManyEnds) lists h = h
joins_with t rules place x (Err Memory) lists h = h

-- ---- where it stands

pub place_there : (c : TheCore) (place : ℕ) (x : TheDispatcher) (t : TheEnd) (lists : ThreeLists) (n : ℕ) (l : LinkId) → length c.places ≡ 2048 → n < 1024
    → place_of (born_core c place x t lists n l) (end_id n Server) ≡ Some (length c.board.seats)
place_there c place x t lists n l slots few =
    let at = at_within c.places (slot_of (end_id n Server)) (omega (arith, slots, few)) in
    ap (λ (b : Bool). if b then slice_index_or (slice_set c.places (slot_of (end_id n Server)) (Some (length c.board.seats))) (slot_of (end_id n Server)) None else None)
    (lt_true n 1024 few)
    ∙ index_there (slice_set c.places (slot_of (end_id n Server)) (Some (length c.board.seats))) (slot_of (end_id n Server)) None (Some (length c.board.seats))
    (set_here c.places (slot_of (end_id n Server)) at.0 (Some (length c.board.seats)) at.1)

-- ---- the core is whole before its channel is registered too

wired_still : (c : TheCore) (place : ℕ) (x : TheDispatcher) (t u : TheEnd) (lists : ThreeLists) (n : ℕ) (l : LinkId) (z : EndWiring)
    → IsWired (born_core c place x t lists n l) z → IsWired (core_with c place x u n l) z
wired_still c place x t u lists n l (Queues out from) h = h
wired_still c place x t u lists n l (Ring side) h = h
wired_still c place x t u lists n l (Circuit link a) h = h

pub whole_with : (c : TheCore) (place : ℕ) (x : TheDispatcher) (t u : TheEnd) (lists : ThreeLists) (n : ℕ) (l : LinkId) → IsCore (born_core c place x t lists n l)
    → IsCore (core_with c place x u n l)
whole_with c place x t u lists n l h = record {
  kinds = map_push (λ (s : TheEndAtChannel). s.kind) c.board.seats (new_seat u place (length x.ends) QueueKind)
      ∙ sym (map_push (λ (s : TheEndAtChannel). s.kind) c.board.seats (new_seat t place (length x.ends) QueueKind)) ∙ h.kinds;
  link_sides = h.link_sides;
  slots = h.slots;
  named = h.named;
  placed = λ name e q. (let at = h.placed name e q in record { wired_end = at.wired_end; wired_end_is = at.wired_end_is; name_is = at.name_is });
  wired = λ e p q. wired_still c place x t u lists n l p.wiring (h.wired e p q);
  apart = h.apart;
}

-- and before the end came
wired_before : (c : TheCore) (m : TheMonitor) (z : EndWiring) → IsWired c z → IsWired (with_monitor c m) z
wired_before c m (Queues out from) h = h
wired_before c m (Ring side) h = h
wired_before c m (Circuit link a) h = h

pub whole_before : (c : TheCore) (m : TheMonitor) (place : ℕ) (x : TheDispatcher) (t : TheEnd) (lists : ThreeLists) (n : ℕ) (l : LinkId) → IsCore c
    → IsCore (born_core (with_monitor c m) place x t lists n l) → IsCore (with_monitor c m)
whole_before c m place x t lists n l h now = record {
  kinds = h.kinds;
  link_sides = now.link_sides;
  slots = h.slots;
  named = h.named;
  placed = λ name e q. (let at = h.placed name e q in record { wired_end = at.wired_end; wired_end_is = at.wired_end_is; name_is = at.name_is });
  wired = λ e p q. wired_before c m p.wiring (h.wired e p q);
  apart = h.apart;
}

-- ---- it gets its rules

pub record GetsRules (w : TheWorld) (n place binding : ℕ) (core : TheCore) (seat : TheEndAtChannel) (kept : TheBinding) (end : TheEnd) (v : TheWorld) : Type 0 where
  pub whole : IsCore core
  pub rest : v ≡ with_binding (with_core w n (with_board core (with_end core.board place seat (record seat.end { rules = end.rules })))) binding (closed kept)

pub gets_rules : (w v : TheWorld) (n place binding : ℕ) (core : TheCore) (seat : TheEndAtChannel) (kept : TheBinding) (end : TheEnd) → slice_get w.cores n ≡ Some core
    → slice_get core.board.seats place ≡ Some seat → slice_get w.bindings binding ≡ Some kept → kept.unmade ≡ Some end → interface_in seat.end ≡ interface_in end
    → TakesRules w n place binding v → GetsRules w n place binding core seat kept end v
gets_rules w v n place binding core seat kept end core_is seat_is kept_is end_is same h =
    let its_core : h.has.core ≡ core = some_is h.has.core core (sym h.has.core_is ∙ core_is) in
    let its_seat : h.has.made ≡ seat =
    some_is h.has.made seat (sym h.has.made_is ∙ ap (λ (k : TheCore). slice_get k.board.seats place) its_core ∙ seat_is) in
    let its_kept : h.has.kept ≡ kept = some_is h.has.kept kept (sym h.has.kept_is ∙ kept_is) in
    let its_end : h.has.end ≡ end = some_is h.has.end end (sym h.has.end_is ∙ ap (λ (b : TheBinding). b.unmade) its_kept ∙ end_is) in
    let with_rules : WithRules seat.end end h.end =
    subst (λ (t : TheEnd). WithRules seat.end t h.end) its_end (subst (λ (s : TheEndAtChannel). WithRules s.end h.has.end h.end) its_seat h.with_rules) in
    let event = h.on_board.event in
    let where_it_sits : event.seat ≡ seat =
    some_is event.seat seat (sym event.seat_is ∙ ap (λ (k : TheCore). slice_get k.board.seats place) its_core ∙ seat_is) in
    let end_now : event.end ≡ record seat.end { rules = end.rules } = event.event ∙ ruled seat.end end h.end same with_rules in
    let after : h.after ≡ with_board core (with_end core.board place seat (record seat.end { rules = end.rules })) =
    h.on_board.rest ∙ ap (with_board h.has.core) event.board
    ∙ ap (λ (k : TheCore). with_board k (with_end k.board place event.seat event.end)) its_core
    ∙ ap (λ (s : TheEndAtChannel). with_board core (with_end core.board place s event.end)) where_it_sits
    ∙ ap (λ (t : TheEnd). with_board core (with_end core.board place seat t)) end_now in
    record {
      whole = subst IsCore its_core h.whole.core;
      rest = h.rest ∙ ap (λ (k : TheCore). with_binding (with_core w n k) binding (closed h.has.kept)) after
          ∙ ap (λ (b : TheBinding). with_binding (with_core w n (with_board core (with_end core.board place seat (record seat.end { rules = end.rules })))) binding (closed b)) its_kept;
    }
  where
    ruled : (s o t : TheEnd) → interface_in s ≡ interface_in o → WithRules s o t → t ≡ record s { rules = o.rules }
    ruled s o t q (inl a) = a.1
    ruled s o t q (inr a) = absurd (a.0 q)

-- ---- in whichever order

set_last : {X : Type 0} (xs : List X) (x y : X) → slice_set (xs ++ x ∷ []) (length xs) y ≡ xs ++ y ∷ []
set_last [] x y = refl
set_last (z ∷ xs) x y = ap (λ ys. z ∷ ys) (set_last xs x y)

-- the end got its rules after it was registered, or had them before
pub rules_first : (c : TheCore) (place : ℕ) (x : TheDispatcher) (t : TheEnd) (rules : List (Option ℕ)) (lists : ThreeLists) (n : ℕ) (l : LinkId)
    → with_board (born_core c place x t lists n l)
    (with_end (born_board c place x t lists) (length c.board.seats) (new_seat t place (length x.ends) QueueKind) (record t { rules = rules }))
    ≡ born_core c place x (record t { rules = rules }) lists n l
rules_first c place x t rules lists n l =
    ap (λ (seats : List TheEndAtChannel). with_circuit_wired_end c (record { dispatchers = (born_board c place x t lists).dispatchers; seats = seats }) (length c.board.seats) (end_id n Server) l)
    (set_last c.board.seats (new_seat t place (length x.ends) QueueKind) (new_seat (record t { rules = rules }) place (length x.ends) QueueKind))
