-- A look of one of the cores that finds a monitors' message, and the message's hearing behind the look, are the machine's forward.
use Rattle.std.proofs.Common.{◌≡◌, ◌≢◌, ◌⊎◌, inl, inr, refl, sym, ◌∙◌, ap, subst, ℕ, zero, suc, ◌==◌, ◌&&◌, nat_lt, Bool, true, false, if◌then◌else◌, List, [], ◌∷◌, ◌++◌, length, map, replicate, slice_get, slice_set, slice_index_or, Option, Some, None, arith}
use Rattle.std.specs.Prelude.{Result, Ok, Err, is_some}
use Rattle.fl_base.specs.declared.fragment.Frag.{Frag}
use Rattle.fl_base.specs.declared.identity.EndId.{EndId}
use Rattle.fl_base.specs.declared.identity.LinkId.{LinkId}
use Rattle.fl_base.specs.declared.identity.Circuit.{Circuit}
use Rattle.fl_base.specs.declared.identity.Side.{Side}
use Rattle.fl_base.specs.declared.identity.Side.TheVariants.{Client, Server}
use Rattle.fl_base.specs.Control.{bare}
use Rattle.fl_base.specs.Given.{given}
use Rattle.fl_base.specs.Numbered.{most_bindings}
use Rattle.fl_compile.specs.declared.program.Program.{Program}
use Rattle.fl_compile.specs.Programs.{TheProgram, program_of}
use Rattle.fl_hop.proofs.Entering.{same_or}
use Rattle.fl_hop.proofs.Lists.{within, at_within, set_cases, set_here, set_same}
use Rattle.fl_interface.specs.Types.{TheInterface}
use Rattle.fl_link.specs.Looks.{Look, found}
use Rattle.fl_nameserv.specs.Registrations.{TheRegistration, by_iref}
use Rattle.fl_ring.specs.Side.{SideTakes}
use Rattle.fl_ring.specs.SharedSides.{TheSide, SharedTakes}
use Rattle.fl_ring.specs.SharedSeats.{front_seen}
use Rattle.fl_wire.specs.declared.fault.WireFault.TheVariants as wiring
use Rattle.fl_endpoint.specs.View.{TheEnd, fresh, no_rules, interface_in}
use Rattle.fl_monitor.specs.declared.message.MonitorMessage.{MonitorMessage}
use Rattle.fl_monitor.specs.declared.heard.MessageOutcome.{MessageOutcome}
use Rattle.fl_monitor.specs.declared.heard.MessageOutcome.TheVariants as said
use Rattle.fl_monitor.specs.declared.fault.MonitorFault.TheVariants as monitor
use Rattle.fl_monitor.specs.Fates.{Known}
use Rattle.fl_monitor.specs.Hearing.{opening_of}
use Rattle.fl_monitor.specs.Monitors.{Hears}
use Rattle.fl_core.specs.declared.answer.LinkFront.TheVariants as front
use Rattle.fl_core.specs.declared.answer.MonitorAnswer.{MonitorAnswer}
use Rattle.fl_core.specs.declared.answer.MonitorAnswer.TheVariants as told
use Rattle.fl_core.specs.declared.fault.LinkReceiveFault.{LinkReceiveFault}
use Rattle.fl_core.specs.declared.fault.LinkReceiveFault.TheVariants as link
use Rattle.fl_core.specs.declared.core_job.CoreJob.{CoreJob}
use Rattle.fl_core.specs.declared.hearing.OfferedService.{OfferedService}
use Rattle.fl_core.specs.declared.kind.ChannelKind.TheVariants.{Queue}
use Rattle.fl_core.specs.declared.wiring.ArrivalPlace.{ArrivalPlace}
use Rattle.fl_core.specs.BoardView.{TheEndAtChannel, TheBoard}
use Rattle.fl_core.specs.Hearing.{Offers, has_end, has_place, offer_for, known_for, IsCopyFor, Offering, offering, MakesServer, BindsIf, Follows, HearsAll, HearsMessage, HearsFrag, TakesHeard}
use Rattle.fl_core.specs.Numbers.{renumbered}
use Rattle.fl_core.specs.View.{TheCore, place_in, place_of, slot_of, server_of, arriving_at, with_monitor}
use Rattle.fl_core.proofs.Numbering.{goes_to}
use Rattle.fl_core_run.specs.Run.{TheRun}
use Rattle.fl_core_run.specs.LogEntries.{LogEntry, looked, heard, NotesHeard}
use Rattle.fl_core_run.specs.Steps.{lacks_to_hear}
use Rattle.fl_model.specs.Events.{forward}
use Rattle.fl_model.specs.State.{State}
use Rattle.fl_world_refines.specs.declared.binding.Binding.{Binding}
use Rattle.fl_world_refines.specs.View.{TheWorld, IsWhole, WhereEnd, nowhere, unmade, made, core_in, location_at, location_of, with_binding}
use Rattle.fl_world_refines.specs.Lending.{OverSide, front_for}
use Rattle.fl_world_refines.specs.Linking.{incoming, HearsWith, HasRules, WithRules, BringsRules, ThenRules, offers_in, IsHeard, HearsFirst}
use Rattle.fl_world_refines.specs.Laws.{StepsAgree}
use Rattle.fl_world_refines.proofs.FramesBase.{same_some}
use Rattle.fl_world_refines.proofs.WritingPieces.{same_end_there, same_core_there}
use Rattle.fl_cores_joined.specs.Rings.{FacingSide, Truly}
use Rattle.fl_cores_joined.specs.Joined.{JoinedCore, AreOffers, UnmadeHaveNoRules, IsJoined, AreWhole}
use Rattle.fl_cores_joined.specs.Steps.{HappensAt, neighbour_on, heard_answer}
use Rattle.fl_cores_joined.specs.Laws.{TheyShow, MachineDoes, HearsJoin}
use Rattle.fl_cores_joined.proofs.Alike.{decided_interface}
use Rattle.fl_cores_joined.proofs.Joining.{long_set}
use Rattle.fl_cores_joined.proofs.Behind.{Behind, seen, mid_joined, mid_whole, same_number, forward_is}
use Rattle.fl_cores_joined.proofs.Looking.{renumbered_failed, fronts_by, looks_message}
use Rattle.fl_cores_joined.proofs.Mapped.{Maps}
use Rattle.fl_cores_joined.proofs.Over.{ring_over, OverRing}
use Rattle.fl_cores_joined.proofs.Passing.{long_map}
use Rattle.fl_cores_joined.proofs.Renumbered.{arriving_same, wired_more}
use Rattle.fl_cores_joined.proofs.Seated.{none_kept, seated_world, seated}
use Rattle.fl_cores_joined.proofs.Stepping.{ended, ended_whole, lent_side, nothing_noted, IsGood, takes_map}

-- ---- over the ring

module _ {P Q : Type 0} (Good : P → Type 0) (m : P → Q) (takes : P → Look → P → Type 0) (takes2 : Q → Look → Q → Type 0) (maps : Maps Good m takes takes2) where
  takes_heard : (frag : Frag) (p q : P) (r : Result MonitorAnswer LinkReceiveFault) → Good p → TakesHeard takes frag p r q
      → TakesHeard takes2 frag (m p) r (m q) × Good q
  takes_heard frag p q (Ok told.Full) good h = (ap m h, subst Good (sym h) good)
  takes_heard frag p q (Ok told.Done) good h = maps p q (found (bare frag)) good h
  takes_heard frag p q (Ok (told.Opened e)) good h = maps p q (found (bare frag)) good h
  takes_heard frag p q (Ok (told.OpeningRefused e reason)) good h = maps p q (found (bare frag)) good h
  takes_heard frag p q (Err fault) good h = (ap m h, subst Good (sym h) good)

-- ---- under the world's numbers, and with what the world has on offer

module _ (w : TheWorld) (o : Offers) (are : AreOffers w o) where
  as_long : length o.programs ≡ length w.programs
  as_long = sym (long_map program_of o.programs) ∙ ap (λ (ps : List TheProgram). length ps) are.programs ∙ long_map program_of w.programs

  pub copy_there : (i : ℕ) (source : Program) → slice_get o.programs i ≡ Some source
      → (there : Program) × (slice_get w.programs i ≡ Some there) × (program_of source ≡ program_of there)
  copy_there i source is =
      let less = within o.programs i source is in
      let long = as_long in
      let (there, at) = at_within w.programs i (omega (arith, less, long)) in (
        there,
        at,
        same_some (slice_get (map program_of o.programs) i) (program_of source) (program_of there) (goes_to program_of o.programs i source is)
            (ap (λ (ps : List TheProgram). slice_get ps i) are.programs ∙ goes_to program_of w.programs i there at),
      )

module _ (w : TheWorld) (o : Offers) (are : AreOffers w o) (sides queues : List ℕ) (l : LinkId) where
  abbrev here : TheCore → TheCore
  here k = renumbered sides queues k

  abbrev offered : TheCore → MonitorMessage → List TheRegistration → ℕ → Option OfferedService
  offered k m names many =
      given (opening_of m) None λ opening.
      given (by_iref opening.service.0 names) None λ r.
      if (r.service.core.0 == k.monitor.circuits.core) && has_place k.board r.service.dispatcher && nat_lt r.service.interface many
      then Some (record { dispatcher = r.service.dispatcher; interface = r.service.interface }) else None

  offer_same : (k : TheCore) (m : MonitorMessage) → offer_for o k m ≡ offer_for (offers_in w) (here k) m
  offer_same k m = λ j. offered k m (are.names j) (as_long w o are j)

  known_same : (k : TheCore) (m : MonitorMessage) → known_for o k m ≡ known_for (offers_in w) (here k) m
  known_same k m = λ j. record {
    names = are.names j;
    here = record { has_end = given (opening_of m) false (λ opening. has_end k opening.binding); has_place = is_some (offer_same k m j) };
  }

  copy_so : (offer : Option OfferedService) (program : Program) → IsCopyFor o.programs offer program → IsCopyFor w.programs offer program
  copy_so offer program h =
      let (there, at, same) = copy_there w o are h.offered.interface h.source h.source_is in
      record { offered = h.offered; offered_is = h.offered_is; source = there; source_is = at; same = h.same ∙ same }

  makes_so : (offer : Option OfferedService) (binding dispatcher : ℕ) (c : Circuit) (k k2 : TheCore)
      → MakesServer (offering o.programs offer l) binding dispatcher c k k2 → MakesServer (offering w.programs offer l) binding dispatcher c (here k) (here k2)
  makes_so offer binding dispatcher c k k2 h = record {
    program = h.program;
    program_is = copy_so offer h.program h.program_is;
    end = h.end;
    added = h.added;
    adds = h.adds;
    joins = h.joins;
    rest = ap here h.rest ∙ wired_more sides queues k k2.board h.end (server_of binding) l;
  }

  binds_so : (at : Option ArrivalPlace) (c : Circuit) (k k2 : TheCore) → BindsIf at c k k2 → BindsIf at c (here k) (here k2)
  binds_so None c k k2 h = ap here h
  binds_so (Some at) c k k2 h = record {
    bound_board = h.bound_board;
    binds = h.binds;
    queue = h.queue;
    queue_is = h.queue_is;
    answer = h.answer;
    registers = h.registers;
    rest = ap here h.rest;
  }

  follows_so : (offer : Option OfferedService) (x : MessageOutcome) (k : TheCore) (answer : MonitorAnswer) (k2 : TheCore)
      → Follows (offering o.programs offer l) x k answer k2 → Follows (offering w.programs offer l) x (here k) answer (here k2)
  follows_so offer (said.ServerMade binding dispatcher c) k answer k2 (is, h) = (is, makes_so offer binding dispatcher c k k2 h)
  follows_so offer (said.EndOpened e c) k answer k2 (is, h) =
      (is, subst (λ (at : Option ArrivalPlace). BindsIf at c (here k) (here k2)) (sym (arriving_same sides queues k e)) (binds_so (arriving_at k e) c k k2 h))
  follows_so offer (said.EndRefused e reason) k answer k2 (is, same) = (is, ap here same)
  follows_so offer (said.OpeningWentOn binding n c) k answer k2 (is, same) = (is, ap here same)
  follows_so offer (said.OpeningFailed binding reason) k answer k2 (is, same) = (is, ap here same)
  follows_so offer (said.AnswerWentOn binding n c) k answer k2 (is, same) = (is, ap here same)

  hears_all : (m : MonitorMessage) (k : TheCore) (answer : MonitorAnswer) (k2 : TheCore) → HearsAll o l m k answer k2
      → HearsAll (offers_in w) l m (here k) answer (here k2)
  hears_all m k answer k2 h = record {
    heard = h.heard;
    monitor = h.monitor;
    hears = subst (λ (x : Known). Hears x l m k.monitor (Ok h.heard) h.monitor) (known_same k m) h.hears;
    follows = subst (λ (offer : Option OfferedService). Follows (offering w.programs offer l) h.heard (here (with_monitor k h.monitor)) answer (here k2))
        (offer_same k m) (follows_so (offer_for o k m) h.heard (with_monitor k h.monitor) answer k2 h.follows);
  }

  hears_message : (m : MonitorMessage) (k : TheCore) (r : Result MonitorAnswer LinkReceiveFault) (k2 : TheCore) → HearsMessage o l m k r k2
      → HearsMessage (offers_in w) l m (here k) r (here k2)
  hears_message m k (Ok told.Full) k2 (h, same) =
      (subst (λ (x : Known). Hears x l m k.monitor (Err monitor.OutboxFull) k.monitor) (known_same k m) h, ap here same)
  hears_message m k (Ok told.Done) k2 h = hears_all m k told.Done k2 h
  hears_message m k (Ok (told.Opened e)) k2 h = hears_all m k (told.Opened e) k2 h
  hears_message m k (Ok (told.OpeningRefused e reason)) k2 h = hears_all m k (told.OpeningRefused e reason) k2 h
  hears_message m k (Err link.Misrouted) k2 (h, same) = (
    subst (λ (x : Known). Hears x l m k.monitor (Err monitor.Misrouted) k.monitor) (known_same k m) h,
    ap here same ∙ renumbered_failed sides queues k l.0,
  )
  hears_message m k (Err link.Memory) k2 h = ap here h
  hears_message m k (Err fault) k2 h = absurd h

  hears_frag : (frag : Frag) (k : TheCore) (r : Result MonitorAnswer LinkReceiveFault) (k2 : TheCore) → HearsFrag o l frag k r k2
      → HearsFrag (offers_in w) l frag (here k) r (here k2)
  hears_frag frag k (Err (link.Wire wiring.Memory)) k2 h = absurd h
  hears_frag frag k (Err (link.Wire fault)) k2 (h, same) = (h, ap here same ∙ renumbered_failed sides queues k l.0)
  hears_frag frag k (Err link.Memory) k2 h = ap here h
  hears_frag frag k (Err link.Misrouted) k2 (m, says, h) = (m, says, hears_message m k (Err link.Misrouted) k2 h)
  hears_frag frag k (Err link.Failed) k2 (m, says, h) = absurd h
  hears_frag frag k (Err link.Marked) k2 (m, says, h) = absurd h
  hears_frag frag k (Ok answer) k2 (m, says, h) = (m, says, hears_message m k (Ok answer) k2 h)

-- ---- an end that is opened

-- the server's end of this name is new at the core, which had these
record IsBorn (e : EndId) (had : List (Option ℕ)) (k2 : TheCore) : Type 0 where
  place : ℕ
  places : k2.places ≡ slice_set had (slot_of e) (Some place)
  seat : TheEndAtChannel
  seat_is : slice_get k2.board.seats place ≡ Some seat
  rules : seat.end.rules ≡ no_rules seat.end.program

-- it was there, or is new
abbrev Opens : EndId → TheCore → TheCore → Type 0
Opens e k k2 = (k2.places ≡ k.places) ⊎ IsBorn e k.places k2

last_there : {X : Type 0} (xs : List X) (x : X) → slice_get (xs ++ x ∷ []) (length xs) ≡ Some x
last_there [] x = refl
last_there (y ∷ xs) x = last_there xs x

born : (x : Offering) (binding dispatcher : ℕ) (c : Circuit) (k k2 : TheCore) → MakesServer x binding dispatcher c k k2 → IsBorn (server_of binding) k.places k2
born x binding dispatcher c k k2 h =
    let (place_is, listing) = h.adds in
    let (d, d_is, room, board) = listing in
    let (r, listed) = h.joins in
    let its : TheEndAtChannel = record { end = fresh h.program (Some c.0); dispatcher = dispatcher; channel = length d.ends; kind = Queue } in
    record {
      place = h.end;
      places = ap (λ (z : TheCore). z.places) h.rest;
      seat = its;
      seat_is = ap (λ (b : TheBoard). slice_get b.seats h.end) listed.board ∙ ap (λ (b : TheBoard). slice_get b.seats h.end) board
          ∙ ap (slice_get (k.board.seats ++ its ∷ [])) place_is ∙ last_there k.board.seats its;
      rules = refl;
    }

bound_places : (at : Option ArrivalPlace) (c : Circuit) (k k2 : TheCore) → BindsIf at c k k2 → k2.places ≡ k.places
bound_places None c k k2 h = ap (λ (z : TheCore). z.places) h
bound_places (Some at) c k k2 h = ap (λ (z : TheCore). z.places) h.rest

opens_by : (x : Offering) (outcome : MessageOutcome) (k : TheCore) (e : EndId) (k2 : TheCore) → Follows x outcome k (told.Opened e) k2 → Opens e k k2
opens_by x (said.ServerMade binding dispatcher c) k e k2 (is, h) =
    let same : server_of binding ≡ e = cc in
    inr (subst (λ (name : EndId). IsBorn name k.places k2) same (born x binding dispatcher c k k2 h))
opens_by x (said.EndOpened f c) k e k2 (is, h) = inl (bound_places (arriving_at k f) c k k2 h)
opens_by x (said.EndRefused f reason) k e k2 (is, h) = absurd (cc)
opens_by x (said.OpeningWentOn binding n c) k e k2 (is, h) = absurd (cc)
opens_by x (said.OpeningFailed binding reason) k e k2 (is, h) = absurd (cc)
opens_by x (said.AnswerWentOn binding n c) k e k2 (is, h) = absurd (cc)

opens : (o : Offers) (l : LinkId) (frag : Frag) (k : TheCore) (e : EndId) (k2 : TheCore) → HearsFrag o l frag k (Ok (told.Opened e)) k2 → Opens e k k2
opens o l frag k e k2 (m, says, h) = opens_by (offering o.programs (offer_for o k m) l) h.heard (with_monitor k h.monitor) e k2 h.follows

index_set : (xs : List (Option ℕ)) (j x p : ℕ) → slice_index_or (slice_set xs j (Some x)) j None ≡ Some p → p ≡ x
index_set [] j x p h = absurd (cc)
index_set (y ∷ xs) zero x p h = cc
index_set (y ∷ xs) (suc j) x p h = index_set xs j x p h

-- its place is the one that is told by its name
born_place : (e : EndId) (k k2 : TheCore) (b : IsBorn e k.places k2) (p : ℕ) → place_of k2 e ≡ Some p → p ≡ b.place
born_place e k k2 b p h = by (nat_lt e.binding most_bindings) (sym (ap (λ (ps : List (Option ℕ)). place_in ps e) b.places) ∙ h)
  where
    by : (t : Bool) → (if t then slice_index_or (slice_set k.places (slot_of e) (Some b.place)) (slot_of e) None else None) ≡ Some p → p ≡ b.place
    by true q = index_set k.places (slot_of e) b.place p q
    by false q = absurd (cc)

-- ---- where it is

at_core : (cores : List TheCore) (m : ℕ) (e : EndId) (n p : ℕ) → location_at cores m e ≡ made n p
    → (k : TheCore) × (slice_get cores n ≡ Some k) × (place_of k e ≡ Some p)
at_core cores m e n p h = by (slice_get cores m) refl h
  where
    by_place : (k : TheCore) → slice_get cores m ≡ Some k → (o : Option ℕ) → place_of k e ≡ o → given o unmade (λ place. made m place) ≡ made n p
        → (k : TheCore) × (slice_get cores n ≡ Some k) × (place_of k e ≡ Some p)
    by_place k k_is None q r = absurd (cc)
    by_place k k_is (Some place) q r =
        let core : m ≡ n = cc in
        let there : place ≡ p = cc in
        (k, ap (slice_get cores) (sym core) ∙ k_is, q ∙ ap (λ (x : ℕ). Some x) there)

    by : (o : Option TheCore) → slice_get cores m ≡ o → given o unmade (λ k. given (place_of k e) unmade λ place. made m place) ≡ made n p
        → (k : TheCore) × (slice_get cores n ≡ Some k) × (place_of k e ≡ Some p)
    by None q r = absurd (cc)
    by (Some k) q r = by_place k q (place_of k e) refl r

record IsLocated (w : TheWorld) (e : EndId) (n p : ℕ) : Type 0 where
  kept : Binding
  kept_is : slice_get w.bindings e.binding ≡ Some kept
  core : TheCore
  core_is : slice_get w.cores n ≡ Some core
  place_is : place_of core e ≡ Some p

located_at : (w : TheWorld) (e : EndId) (n p : ℕ) → location_of w e ≡ made n p → IsLocated w e n p
located_at w e n p h = by (slice_get w.bindings e.binding) refl h
  where
    by : (o : Option Binding) → slice_get w.bindings e.binding ≡ o → given o nowhere (λ b. location_at w.cores (core_in e.side b) e) ≡ made n p → IsLocated w e n p
    by None q r = absurd (cc)
    by (Some b) q r =
        let (k, k_is, place) = at_core w.cores (core_in e.side b) e n p r in
        record { kept = b; kept_is = q; core = k; core_is = k_is; place_is = place }

-- ---- the rules that were kept for it: none

rules_none : (t o : TheEnd) → t.rules ≡ no_rules t.program → o.rules ≡ no_rules o.program → WithRules t o t
rules_none t o its kept = by (decided_interface (interface_in t) (interface_in o))
  where
    by : (interface_in t ≡ interface_in o) ⊎ (interface_in t ≢ interface_in o) → WithRules t o t
    by (inl same) =
        let rules : t.rules ≡ o.rules = its ∙ ap (λ (i : TheInterface). replicate (length i.messages) None) same ∙ sym kept in
        inl (same, ap (λ (rs : List (Option ℕ)). record t { rules = rs }) rules)
    by (inr other) = inr (other, refl)

-- in world v core n has just gone from k to k2, as it heard; e was opened
module _ {xs : List JoinedCore} {s : State} (show : TheyShow xs s) (n : ℕ) (k k2 : TheCore) (v : TheWorld) (e : EndId)
    (bindings : v.bindings ≡ (seated_world show).bindings) (cores : v.cores ≡ slice_set (seated_world show).cores n k2)
    (k_is : slice_get (seated_world show).cores n ≡ Some k) (whole : IsWhole k2) (it_opens : Opens e k k2) where
  -- the world afterwards
  record Brought (location : WhereEnd) (side : Side) : Type 0 where
    left : List Binding
    long : length left ≡ length v.bindings
    rules : BringsRules location side e.binding v (record v { bindings = left })
    unruled : UnmadeHaveNoRules (record v { bindings = left })

  unruled_now : UnmadeHaveNoRules v
  unruled_now m b end b_is end_is = (seated show).joined.unruled m b end (sym (ap (λ (bs : List Binding). slice_get bs m) bindings) ∙ b_is) end_is

  k2_is : slice_get v.cores n ≡ Some k2
  k2_is = ap (λ (ks : List TheCore). slice_get ks n) cores ∙ set_here (seated_world show).cores n k k2 k_is

  module _ (kept : Binding) (kept_is : slice_get v.bindings e.binding ≡ Some kept) (end : TheEnd) (end_is : kept.unmade ≡ Some end) where
    abbrev left_binding : Binding
    left_binding = record kept { unmade = None }

    none_left : UnmadeHaveNoRules (record v { bindings = slice_set v.bindings e.binding left_binding })
    none_left m b x b_is x_is =
        elim (set_cases v.bindings e.binding left_binding m b b_is) [
          | inl (here, same) ↦ (let bad : None ≡ Some x = sym (ap (λ (z : Binding). z.unmade) same) ∙ x_is in absurd (cc))
          | inr (other, was) ↦ unruled_now m b x was x_is
        ]

    takes_rules : (p : ℕ) (b : IsBorn e k.places k2) → p ≡ b.place → Brought (made n p) Server
    takes_rules p b place_is =
        let seat_is : slice_get k2.board.seats p ≡ Some b.seat = ap (slice_get k2.board.seats) place_is ∙ b.seat_is in
        record {
          left = slice_set v.bindings e.binding left_binding;
          long = long_set v.bindings e.binding left_binding;
          rules = inl (record {
            has = record { core = k2; core_is = k2_is; made = b.seat; made_is = seat_is; kept = kept; kept_is = kept_is; end = end; end_is = end_is };
            whole = whole;
            end = b.seat.end;
            with_rules = rules_none b.seat.end end b.rules (unruled_now e.binding kept end kept_is end_is);
            after = k2;
            still = whole;
            on_board = record {
              event = record {
                seat = b.seat;
                seat_is = seat_is;
                end = b.seat.end;
                event = refl;
                board = sym (same_end_there k2.board p b.seat b.seat.end seat_is refl);
              };
              rest = refl;
            };
            rest = sym (ap (λ (u : TheWorld). with_binding u e.binding left_binding) (same_core_there v n k2 k2_is));
          });
          unruled = none_left;
        }

    -- no end that was there is kept
    not_there : (m p : ℕ) (c : TheCore) → slice_get v.cores m ≡ Some c → place_of c e ≡ Some p → e.side ≡ Server
        → (m ≢ n) ⊎ (k2.places ≡ k.places) → ⊥
    not_there m p c c_is place_is side which =
        let kept_there = sym (ap (λ (bs : List Binding). slice_get bs e.binding) bindings) ∙ kept_is in
        elim (set_cases (seated_world show).cores n k2 m c (sym (ap (λ (ks : List TheCore). slice_get ks m) cores) ∙ c_is)) [
          | inl (here, same) ↦ elim which [
            | inl other ↦ other here
            | inr places ↦ none_kept show.world s show.shows e n p k kept end side k_is
                (sym (ap (λ (ps : List (Option ℕ)). place_in ps e) (ap (λ (z : TheCore). z.places) same ∙ places)) ∙ place_is) kept_there end_is
          ]
          | inr (other, was) ↦ none_kept show.world s show.shows e m p c kept end side was place_is kept_there end_is
        ]

  stays : (location : WhereEnd) (side : Side) → BringsRules location side e.binding v v → Brought location side
  stays location side rules = record { left = v.bindings; long = refl; rules = rules; unruled = unruled_now }

  brings : (location : WhereEnd) → location_of v e ≡ location → Brought location e.side
  brings nowhere q = stays nowhere e.side (by e.side)
    where
      by : (side : Side) → BringsRules nowhere side e.binding v v
      by Client = refl
      by Server = refl
  brings unmade q = stays unmade e.side (by e.side)
    where
      by : (side : Side) → BringsRules unmade side e.binding v v
      by Client = refl
      by Server = refl
  brings (made m p) q = by e.side refl
    where
      it : IsLocated v e m p
      it = located_at v e m p q

      none_is : it.kept.unmade ≡ None → HasRules v m p e.binding → ⊥
      none_is none h =
          let same : it.kept ≡ h.kept = same_some (slice_get v.bindings e.binding) it.kept h.kept it.kept_is h.kept_is in
          let bad : None ≡ Some h.end = sym none ∙ ap (λ (z : Binding). z.unmade) same ∙ h.end_is in
          absurd (cc)

      by_end : e.side ≡ Server → (o : Option TheEnd) → it.kept.unmade ≡ o → Brought (made m p) Server
      by_end side None none = stays (made m p) Server (inr (none_is none, refl))
      by_end side (Some end) some = elim it_opens [
        | inl places ↦ absurd (not_there it.kept it.kept_is end some m p it.core it.core_is it.place_is side (inr places))
        | inr new ↦ elim (same_or m n) [
          | inr other ↦ absurd (not_there it.kept it.kept_is end some m p it.core it.core_is it.place_is side (inl other))
          | inl same ↦
              let core : it.core ≡ k2 = same_some (slice_get v.cores n) it.core k2 (ap (slice_get v.cores) (sym same) ∙ it.core_is) k2_is in
              subst (λ (z : ℕ). Brought (made z p) Server) (sym same)
              (takes_rules it.kept it.kept_is end some p new (born_place e k k2 new p (sym (ap (λ (z : TheCore). place_of z e) core) ∙ it.place_is)))
        ]
      ]

      by : (side : Side) → e.side ≡ side → Brought (made m p) side
      by Client is = stays (made m p) Client refl
      by Server is = by_end is it.kept.unmade refl

-- ---- both

is_heard : (r : Result MonitorAnswer LinkReceiveFault) → lacks_to_hear r ≡ false → IsHeard r (heard_answer r)
is_heard (Ok told.Full) some = refl
is_heard (Ok told.Done) some = refl
is_heard (Ok (told.Opened e)) some = refl
is_heard (Ok (told.OpeningRefused e reason)) some = refl
is_heard (Err link.Memory) some = absurd (cc)
is_heard (Err link.Failed) some = refl
is_heard (Err link.Misrouted) some = refl
is_heard (Err link.Marked) some = refl
is_heard (Err (link.Wire fault)) some = refl

heard_noted : (r : Result MonitorAnswer LinkReceiveFault) (m t : TheRun FacingSide) → NotesHeard r m t → t ≡ record m { progresses = t.progresses }
heard_noted (Ok told.Full) m t h = nothing_noted t m h
heard_noted (Ok told.Done) m t h = nothing_noted t m h
heard_noted (Ok (told.Opened e)) m t h = nothing_noted t m h
heard_noted (Ok (told.OpeningRefused e reason)) m t h = h.rest
heard_noted (Err fault) m t h = nothing_noted t m h

module _ (law : StepsAgree) (n i : ℕ) (l : LinkId) (frag : Frag) (answer : Result MonitorAnswer LinkReceiveFault) (jobs : List CoreJob)
    (xs ms ys : List JoinedCore) (s : State) (show : TheyShow xs s) (whole : AreWhole xs) (still : AreWhole ys) (some : lacks_to_hear answer ≡ false)
    (h : HappensAt jobs n (looked i l (Ok (front.Message frag))) xs ms) (g : HappensAt jobs n (heard i l frag answer) ms ys) where
  abbrev log_entry : LogEntry
  log_entry = heard i l frag answer

  abbrev looks : Behind jobs n i l (Ok (front.Message frag)) (Ok (front.Message frag)) xs ms s h
  looks = record {
    show = seated show;
    whole = whole;
    stays = h.happens.1.event.1;
    lifts = λ which p q good event.
        looks_message (IsGood p.across) (lent_side which) (Truly SharedTakes) SideTakes (takes_map which p.across)
        (λ (z : FacingSide). front_seen z.side.peeked) front_for
        (λ x y f t. fronts_by which (lent_side which x).duo.now (lent_side which y).duo.now f t.1)
        h.before.sides h.before.queues l.0 h.beside.core h.happens.0.core p q good frag event;
  }

  abbrev w : TheWorld
  w = (seen looks).world

  abbrev last : TheRun FacingSide
  last = g.happens.0

  noted : g.after ≡ record last { progresses = g.after.progresses }
  noted = heard_noted answer last g.after g.happens.2

  offers : AreOffers w g.beside.offers
  offers =
      subst (AreOffers w) (sym (ap (λ (t : TheRun TheSide). t.offers) g.beside_is.own)) ((mid_joined looks).offers n g.before g.before_is)

  come : OverRing w jobs n log_entry ms ys g (mid_joined looks) (mid_whole looks) last (ended_whole jobs n log_entry ms ys g last noted still) i
      (HearsWith (incoming (offers_in w) l frag) answer)
  come =
      ring_over w jobs n log_entry ms ys g (mid_joined looks) (mid_whole looks) last (ended_whole jobs n log_entry ms ys g last noted still) i
      (λ c p c2 q. HearsFrag g.beside.offers l frag c answer c2 × TakesHeard (Truly SharedTakes) frag p answer q)
      (HearsWith (incoming (offers_in w) l frag) answer)
      (λ which p q good event.
      let x = takes_heard (IsGood p.across) (lent_side which) (Truly SharedTakes) SideTakes (takes_map which p.across) frag p q answer good event.1 in
      ((hears_frag w g.beside.offers offers g.before.sides g.before.queues l frag g.beside.core answer last.core event.0, x.0), x.1))
      g.happens.1

  over : OverSide w n (seen looks).number (HearsWith (incoming (offers_in w) l frag) answer) come.world
  over =
      subst (λ (z : ℕ). OverSide w n z (HearsWith (incoming (offers_in w) l frag) answer) come.world)
      (same_number looks g.before g.before_is come.number come.number_is) come.over

  cores_before : w.cores ≡ (seated_world show).cores
  cores_before =
      ap (λ (z : TheWorld). z.cores) (seen looks).over.rest
      ∙ ap (λ (z : TheCore). slice_set (seated_world show).cores n z) (seen looks).over.event.1
      ∙ set_same (seated_world show).cores n (seen looks).over.before (seen looks).over.before_is

  bindings_now : come.world.bindings ≡ (seated_world show).bindings
  bindings_now = ap (λ (z : TheWorld). z.bindings) over.rest ∙ ap (λ (z : TheWorld). z.bindings) (seen looks).over.rest

  cores_now : come.world.cores ≡ slice_set (seated_world show).cores n over.after
  cores_now = ap (λ (z : TheWorld). z.cores) over.rest ∙ ap (λ (ks : List TheCore). slice_set ks n over.after) cores_before

  before_is : slice_get (seated_world show).cores n ≡ Some over.before
  before_is = sym (ap (λ (ks : List TheCore). slice_get ks n) cores_before) ∙ over.before_is

  record Ruled (r : Result MonitorAnswer LinkReceiveFault) : Type 0 where
    left : List Binding
    long : length left ≡ length come.world.bindings
    rules : ThenRules r come.world (record come.world { bindings = left })
    unruled : UnmadeHaveNoRules (record come.world { bindings = left })

  as_it_is : UnmadeHaveNoRules come.world
  as_it_is = come.they_make.unruled

  ruled : (r : Result MonitorAnswer LinkReceiveFault) → HearsFrag (offers_in w) l frag over.before r over.after → Ruled r
  ruled (Ok (told.Opened e)) hears =
      let it = brings show n over.before over.after come.world e bindings_now cores_now before_is over.still
      (opens (offers_in w) l frag over.before e over.after hears) (location_of come.world e) refl in
      record { left = it.left; long = it.long; rules = it.rules; unruled = it.unruled }
  ruled (Ok told.Full) hears = record { left = come.world.bindings; long = refl; rules = refl; unruled = as_it_is }
  ruled (Ok told.Done) hears = record { left = come.world.bindings; long = refl; rules = refl; unruled = as_it_is }
  ruled (Ok (told.OpeningRefused e reason)) hears = record { left = come.world.bindings; long = refl; rules = refl; unruled = as_it_is }
  ruled (Err fault) hears = record { left = come.world.bindings; long = refl; rules = refl; unruled = as_it_is }

  pub hears_there : MachineDoes (forward n (neighbour_on h.before.run.core l)) (heard_answer answer) s ys
  hears_there =
      let then_rules = ruled answer over.event.0 in
      let j = come.they_make in
      let joined : IsJoined (record come.world { bindings = then_rules.left }) (slice_set ms n (ended jobs n log_entry ms ys g last)) = record {
        cores = j.cores;
        rings = j.rings;
        sides = j.sides;
        queues = j.queues;
        offers = λ m x x_is. let o = j.offers m x x_is in record { names = o.names; programs = o.programs };
        numbered = j.numbered;
        unruled = then_rules.unruled;
      } in
      let follows : HearsFirst n (record { link = l.0; side = (seen looks).number }) frag w (heard_answer answer) (record come.world { bindings = then_rules.left }) = record {
        told = answer;
        heard = come.world;
        hears = over;
        answer = is_heard answer some;
        rules = then_rules.rules;
      } in
      forward_is looks law ys log_entry g last noted (record come.world { bindings = then_rules.left }) joined (heard_answer answer)
      (then_rules.long ∙ ap (λ (bs : List Binding). length bs) bindings_now) follows

pub hears_are : StepsAgree → HearsJoin
hears_are law n i l frag answer jobs xs ms ys s show whole still some h g =
    hears_there law n i l frag answer jobs xs ms ys s show whole still some h g
