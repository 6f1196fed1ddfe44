-- Dispatchers without a place: whose ends stay there; and why a service's core finds none.
use Rattle.std.proofs.Common.{◌≡◌, ◌⊎◌, inl, inr, refl, sym, ap, ◌∙◌, subst, ℕ, ◌<◌, ◌≤◌, ◌==◌, ◌&&◌, not, nat_lt, if◌then◌else◌, Bool, true, false, List, [], ◌∷◌, length, slice_get, get_or}
use Rattle.std.proofs.Common.{Option, Some, None, arith}
use Rattle.std.proofs.lemmas.Bool.Decides.{nat_tests}
use Rattle.std.proofs.lemmas.List.{length-map}
use Rattle.std.proofs.lemmas.Option.{same_Some, slice_get_within, get_or_from_slice_get}
use Rattle.fl_base.specs.declared.identity.EndId.{EndId}
use Rattle.fl_base.specs.Given.{given}
use Rattle.fl_nameserv.specs.Registrations.{TheRegistration, by_iref}
use Rattle.fl_ring.specs.SharedSides.{TheSide}
use Rattle.fl_core.proofs.BoardPlaces.{one_stands}
use Rattle.fl_core.specs.BoardSound.{IsBoard, HasChannel}
use Rattle.fl_core.specs.BoardView.{TheDispatcher, TheEndAtChannel, TheBoard}
use Rattle.fl_monitor.specs.Fates.{is_offered_elsewhere}
use Rattle.fl_core.specs.declared.hearing.OfferedService.{OfferedService}
use Rattle.fl_core.specs.Hearing.{Offers, has_place, may_offer, offer_of}
use Rattle.fl_core.specs.declared.wiring.WiredEnd.{WiredEnd}
use Rattle.fl_core.specs.View.{TheCore, place_of, client_of}
use Rattle.fl_core.specs.declared.core_job.CoreJob.{CoreJob}
use Rattle.fl_core_run.specs.LogEntries.{LogEntry, IsSound}
use Rattle.fl_core_run.specs.Run.{TheRun}
use Rattle.fl_core_run_laws.specs.Logs.{Goes}
use Rattle.fl_core_run_laws.proofs.Aside.{core_aside}
use Rattle.fl_core_run_laws.proofs.Leading.{as_many}
use Rattle.fl_cores_laws.proofs.Seats.{Keeps, keeps_same, keeps_then, does_keep}
use Rattle.fl_cores_laws.specs.Cores.{shared_ways}
use Rattle.fl_cores.proofs.Runs.{is_there}

-- ---- ends of a full dispatcher

module _ (b : TheBoard) (board : IsBoard b) (d : ℕ) (x : TheDispatcher) (at : slice_get b.dispatchers d ≡ Some x) (full : length x.ends ≡ 1024) where
  -- each channel is an end's
  channel : (k : ℕ) → k < 1024 → HasChannel b.seats d k (get_or x.ends k 0)
  channel k below =
      let (e, there) = is_there x.ends k (omega (arith, below, full)) in
      subst (HasChannel b.seats d k) (sym (get_or_from_slice_get x.ends k e 0 there)) ((board.dispatchers d x at).ends k e there)

  -- and no two are one end's
  ends_apart : (i k : ℕ) → i < 1024 → k < 1024 → get_or x.ends i 0 ≡ get_or x.ends k 0 → i ≡ k
  ends_apart i k below more same =
      let one = channel i below in
      let two = channel k more in
      let seats : one.seat ≡ two.seat = one_stands b.seats (get_or x.ends i 0) one.seat two.seat one.seat_is (ap (slice_get b.seats) same ∙ two.seat_is) in
      sym one.channel_is ∙ ap (λ (s : TheEndAtChannel). s.channel) seats ∙ two.channel_is

-- the end of a name, where it sits
pub record SitsOn (k : TheCore) (d : ℕ) (e : EndId) : Type 0 where
  pub place : ℕ
  pub place_is : place_of k e ≡ Some place
  pub seat : TheEndAtChannel
  pub seat_is : slice_get k.board.seats place ≡ Some seat
  pub dispatcher_is : seat.dispatcher ≡ d

-- 1,024 of them, each another
pub record HasEnds (k : TheCore) (d : ℕ) : Type 0 where
  pub ends : ℕ → EndId
  pub named : (i : ℕ) → i < 1024 → SitsOn k d (ends i)
  pub apart : (i m : ℕ) → i < 1024 → m < 1024 → ends i ≡ ends m → i ≡ m

module _ (k : TheCore) (sound : IsSound k) (d : ℕ) (x : TheDispatcher) (at : slice_get k.board.dispatchers d ≡ Some x) (full : length x.ends ≡ 1024) where
  abbrev end_at : ℕ → EndId
  end_at i = given (slice_get k.wired_ends (get_or x.ends i 0)) (client_of 0) (λ (p : WiredEnd). p.name)

  placed : (i : ℕ) → i < 1024 → place_of k (end_at i) ≡ Some (get_or x.ends i 0)
  placed i below =
      let h = channel k.board sound.board d x at full i below in
      let inside = slice_get_within k.board.seats (get_or x.ends i 0) h.seat h.seat_is in
      let wired_ends = as_many k sound.core in
      let seats = length-map k.board.seats (λ (s : TheEndAtChannel). s.end.circuit) in
      let (p, p_is) = is_there k.wired_ends (get_or x.ends i 0) (omega (arith, inside, wired_ends, seats)) in
      ap (place_of k) (ap (λ (o : Option WiredEnd). given o (client_of 0) (λ (q : WiredEnd). q.name)) p_is) ∙ sound.core.named (get_or x.ends i 0) p p_is

  pub ends_of : HasEnds k d
  ends_of = record {
    ends = end_at;
    named = λ i below.
        (let h = channel k.board sound.board d x at full i below in
        record { place = get_or x.ends i 0; place_is = placed i below; seat = h.seat; seat_is = h.seat_is; dispatcher_is = h.dispatcher_is });
    apart = λ i m below more same.
        ends_apart k.board sound.board d x at full i m below more
        (same_Some (get_or x.ends i 0) (get_or x.ends m 0) (sym (placed i below) ∙ ap (place_of k) same ∙ placed m more));
  }

-- ---- over a log

goes_keep : (jobs : List CoreJob) (log : List LogEntry) (s t : TheRun TheSide) → Goes shared_ways jobs s log t → Keeps s.core.board t.core.board
goes_keep jobs [] s t h = keeps_same s.core.board t.core.board (ap (λ (x : TheRun TheSide). x.core.board) h)
goes_keep jobs (log_entry ∷ log) s t h =
    let m = h.1.0 in
    let u = h.0 in
    let aside : u.core ≡ m.core = core_aside m u log_entry h.1.2 in
    let one : Keeps s.core.board u.core.board = subst (λ (k : TheCore). Keeps s.core.board k.board) (sym aside) (does_keep shared_ways log_entry s m h.1.1) in
    keeps_then s.core.board u.core.board t.core.board one (goes_keep jobs log u t h.3)

-- there are as many dispatchers
pub still_many : (jobs : List CoreJob) (log : List LogEntry) (s t : TheRun TheSide) → Goes shared_ways jobs s log t
    → length t.core.board.dispatchers ≡ length s.core.board.dispatchers
still_many jobs log s t goes = (goes_keep jobs log s t goes).many

-- ---- why there is no offer

own_by : (a core : ℕ) (b : Bool) → (a == core) ≡ b → not b ≡ false → a ≡ core
own_by a core true is h = grind (arith, nat_tests, is)
own_by a core false is h = absurd (cc)

-- a service that isn't another core's is this core's
pub own_service : (names : List TheRegistration) (core iref : ℕ) (r : TheRegistration) → by_iref iref names ≡ Some r → is_offered_elsewhere names core iref ≡ false
    → r.service.core.0 ≡ core
own_service names core iref r is h =
    own_by r.service.core.0 core (r.service.core.0 == core) refl
    (sym (ap (λ (o : Option TheRegistration). given o false λ x. not (x.service.core.0 == core)) is) ∙ h)

none_by : (b : Bool) (x : OfferedService) → (if b then Some x else None) ≡ None → b ≡ false
none_by true x h = absurd (cc)
none_by false x h = refl

three : (a b c : Bool) → a ≡ true → (a && b && c) ≡ false → (b ≡ false) ⊎ (c ≡ false)
three true true true is h = absurd (cc)
three true true false is h = inr refl
three true false c is h = inl refl
three false b c is h = absurd (cc)

past_by : (n m : ℕ) → nat_lt n m ≡ false → m ≤ n
past_by n m h = grind (arith, nat_tests, h)

-- the dispatcher of a service of this core's has no place, or its program isn't there
pub lacks_what : (o : Offers) (k : TheCore) (iref : ℕ) (r : TheRegistration) → by_iref iref o.names ≡ Some r → r.service.core.0 ≡ k.monitor.circuits.core → offer_of o k iref ≡ None
    → (has_place k.board r.service.dispatcher ≡ false) ⊎ (length o.programs ≤ r.service.interface)
lacks_what o k iref r is home none =
    let offer : OfferedService = record { dispatcher = r.service.dispatcher; interface = r.service.interface } in
    let lacks : (if may_offer o k r then Some offer else None) ≡ None =
    sym (ap (λ (x : Option TheRegistration). given x None λ y. if may_offer o k y then Some (record { dispatcher = y.service.dispatcher; interface = y.service.interface }) else None) is) ∙ none in
    let test : (r.service.core.0 == k.monitor.circuits.core) ≡ true = grind (arith, nat_tests, home) in
    elim (three (r.service.core.0 == k.monitor.circuits.core) (has_place k.board r.service.dispatcher) (nat_lt r.service.interface (length o.programs)) test
    (none_by (may_offer o k r) offer lacks)) [
      | inl full ↦ inl full
      | inr past ↦ inr (past_by r.service.interface (length o.programs) past)
    ]

-- a dispatcher that has no place isn't there, or has 1,024 ends
pub no_place_why : (b : TheBoard) → IsBoard b → (d : ℕ) → has_place b d ≡ false
    → (slice_get b.dispatchers d ≡ None) ⊎ ((x : TheDispatcher) × (slice_get b.dispatchers d ≡ Some x) × (length x.ends ≡ 1024))
no_place_why b board d h = by (slice_get b.dispatchers d) refl where
  by : (o : Option TheDispatcher) → slice_get b.dispatchers d ≡ o
      → (slice_get b.dispatchers d ≡ None) ⊎ ((x : TheDispatcher) × (slice_get b.dispatchers d ≡ Some x) × (length x.ends ≡ 1024))
  by None at = inl at
  by (Some x) at =
      let few = (board.dispatchers d x at).few in
      let test : nat_lt (length x.ends) 1024 ≡ false = sym (ap (λ (o : Option TheDispatcher). given o false λ y. nat_lt (length y.ends) 1024) at) ∙ h in
      let past = past_by (length x.ends) 1024 test in
      inr (x, at, omega (arith, few, past))
