-- Over all cores: what was heard to be refused is for a reason, core by core forth along the route.
use Rattle.std.proofs.Common.{◌≡◌, ◌⊎◌, inl, inr, refl, sym, ap, ◌∙◌, subst, ℕ, zero, suc, ◌+◌, ◌<◌, ◌≤◌, List, [], length, slice_get, position, is_some, false, Option, Some, None, arith}
use Rattle.std.proofs.lemmas.List.Quantifiers.{position-Some}
use Rattle.fl_base.specs.declared.fragment.Frag.{Frag}
use Rattle.fl_base.specs.declared.identity.CoreId.{CoreId}
use Rattle.fl_base.specs.declared.identity.EndId.{EndId}
use Rattle.fl_base.specs.declared.identity.LinkId.{LinkId}
use Rattle.fl_base.specs.declared.identity.Circuit.{Circuit}
use Rattle.fl_base.specs.Given.{given}
use Rattle.fl_cores_shares.specs.Settled.{RingsConserve}
use Rattle.fl_endpoint.specs.Laws.{OnAnotherCircuit}
use Rattle.fl_nameserv.specs.Registrations.{TheRegistration, by_iref}
use Rattle.fl_compile.specs.Programs.{TheProgram}
use Rattle.fl_hop.specs.declared.entry.HopTarget.TheVariants.{End}
use Rattle.fl_hop.specs.declared.links.LinkState.{LinkState}
use Rattle.fl_hop.specs.OfCircuit.{of_circuit}
use Rattle.fl_hop.specs.Stretch.{taken_from, put_on}
use Rattle.fl_hop.specs.Table.{TheCircuits}
use Rattle.fl_hop.proofs.Lists.{at_within}
use Rattle.fl_monitor.specs.declared.message.MonitorMessage.TheVariants.{CircuitRefused}
use Rattle.fl_monitor.specs.declared.opening.Opening.{Opening}
use Rattle.fl_monitor.specs.Monitors.{TheMonitor, asks}
use Rattle.fl_monitor.specs.declared.message.MonitorMessage.{MonitorMessage}
use Rattle.fl_monitor.specs.Hearing.{opening_of}
use Rattle.fl_monitor.specs.Routing.{is_core}
use Rattle.fl_monitor.specs.Saying.{Says}
use Rattle.fl_core_run.specs.OpeningStatus.{refusal_at}
use Rattle.fl_core.specs.declared.core_job.CoreJob.{CoreJob}
use Rattle.fl_core.specs.declared.core_job.CoreJob.TheVariants as job
use Rattle.fl_core.specs.declared.core_job.OpenRequest.{OpenRequest}
use Rattle.fl_core_run_laws.proofs.Stepping.{log_steps}
use Rattle.fl_core.specs.BoardView.{TheDispatcher}
use Rattle.fl_core.specs.Hearing.{Offers, known_for, offer_for, offer_of}
use Rattle.fl_core.specs.View.{client_of}
use Rattle.fl_cores_file.specs.Jobs.{Job}
use Rattle.fl_cores_jobs.specs.declared.end_work.BindingCores.{BindingCores}
use Rattle.fl_cores_jobs.specs.Joined.{core_of}
use Rattle.fl_cores_jobs.specs.State.{TheJoinedJobs}
use Rattle.fl_cores_laws.specs.Cores.{OneCore, shared_ways, AllAmple}
use Rattle.fl_cores_laws.specs.Circuits.{Leading}
use Rattle.fl_cores_laws.specs.Named.{Has}
use Rattle.fl_cores_laws.specs.Neighbours.{IsUnused}
use Rattle.fl_cores_laws.specs.Asked.{IsRequested, CameAlong, AreBeside}
use Rattle.fl_cores_laws.specs.Whole.{HasOwn}
use Rattle.fl_cores_laws.specs.Meeting.{IsPaired}
use Rattle.fl_cores_laws.specs.Runs.{AreSetUp}
use Rattle.fl_cores_laws.specs.Reasons.{IsReason, Refuses, RefusesRequest, CameUnder, IsRefusedFor, AreReasoned, as_talk, talk_of, GoesReasoned, CoresReason, IsOwnRequest, FoundNoPlace, WasFull, WasRefused, AskedAgain, RefusesOne, IsRefused, ReasonsAlone, ProgressTellReasons, RefusedForReason}
use Rattle.fl_cores_laws.proofs.AskedCores.{asking_of}
use Rattle.fl_cores_laws.proofs.AskedLaid.{laid_same, goes_laid}
use Rattle.fl_cores_laws.proofs.AskedRoutes.{stands_behind, side_there, heard_requested}
use Rattle.fl_cores_laws.proofs.GivenCores.{asked_under, its_settled}
use Rattle.fl_cores_laws.proofs.Logged.{log_keeps_by}
use Rattle.fl_cores_laws.proofs.Neighbours.{unused_named}
use Rattle.fl_cores_laws.proofs.OverLinks.{none_waits, both_ways, has_before}
use Rattle.fl_cores_laws.proofs.ReasonedHears.{AreReasonedFrom, KnowsPlaces, reasons_kept}
use Rattle.fl_cores_laws.proofs.Gone.{gone}
use Rattle.fl_cores_laws.proofs.ReasonsProgress.{Placed, IsGone, own_request, told_at, log_tells}
use Rattle.fl_ring.specs.SharedSides.{TheSide}
use Rattle.fl_core_run.specs.LogEntries.{IsSound, LogEntry}
use Rattle.fl_core_run.specs.Run.{TheRun}
use Rattle.fl_core_run_laws.specs.Logs.{Goes}
use Rattle.fl_cores_laws.proofs.Routes.{CircuitsPrefix}
use Rattle.fl_cores_laws.proofs.Runs.{all_beside}
use Rattle.fl_cores_laws.proofs.WholeHome.{opener}
use Rattle.fl_cores_laws.proofs.WholeOpened.{none_leads, sound_first}
use Rattle.fl_cores_laws.proofs.Wired.{link_side_there}

-- ---- one core

unused_reasoned : (names : List TheRegistration) (NoPlace Requests : Opening → Type 0) (t : TheCircuits) (m : TheMonitor) → IsUnused m → AreReasoned names NoPlace Requests t (as_talk (λ l. []) (λ l. []) m)
unused_reasoned names NoPlace Requests t m u = record {
  asked = λ l f c o has says_it. elim has [
    | inl none ↦ absurd none
    | inr waits ↦ absurd (none_waits f (slice_get m.outboxes l) (u.outboxes l) waits)
  ];
  told = λ l n hop there at. (let (k, less, is) = there.among in let none = (u.counts l there.link there.there).1 in absurd (omega (arith, less, none)));
  given = λ l n hop here at. (let (k, less, is) = here.among in let none = (u.counts l here.link here.there).0 in absurd (omega (arith, less, none)));
  refused = λ l f c reason has says_it. elim has [
    | inl none ↦ absurd none
    | inr waits ↦ absurd (none_waits f (slice_get m.outboxes l) (u.outboxes l) waits)
  ];
}

at_start : (names : List TheRegistration) (NoPlace Requests : Opening → Type 0) (c : OneCore) → IsUnused c.start.core.monitor
    → AreReasonedFrom names NoPlace Requests c.start.core.monitor.circuits (λ l. []) (λ l. []) c.start.core.monitor
at_start names NoPlace Requests c unused =
    let t0 = c.start.core.monitor.circuits in
    (laid_same t0 t0 refl, unused_named c.start.core.monitor unused, unused_reasoned names NoPlace Requests t0 c.start.core.monitor unused)

own_requested : (jobs : List CoreJob) (s : TheRun TheSide) (o : Opening) → IsOwnRequest jobs s o → IsRequested jobs o
own_requested jobs s o w = record { place = w.place; request = w.request; job_is = w.job_is; opening_is = w.opening_is }

none_placed : (jobs : List CoreJob) (c : OneCore) → Leading jobs c → IsUnused c.start.core.monitor → Placed c.start.core
none_placed jobs c v unused l n name way =
    absurd (none_leads c.start.core.monitor (sound_first shared_ways jobs c.log c.start c.finish v.went.goes v.table) unused l n (End name) way)

-- what a core knows at each moment when it hears a message, and where a dispatcher is full
none_there : {X : Type 0} (o : Option X) → is_some o ≡ false → o ≡ None
none_there None is = refl
none_there (Some x) is = absurd (cc)

no_place : (u : TheRun TheSide) (msg : MonitorMessage) (o : Opening) → opening_of msg ≡ Some o → is_some (offer_for u.offers u.core msg) ≡ false → offer_of u.offers u.core o.service.0 ≡ None
no_place u msg o is none =
    sym (ap (λ (x : Option Opening). given x None λ opening. offer_of u.offers u.core opening.service.0) is) ∙ none_there (offer_for u.offers u.core msg) none

knows_places : (jobs : List CoreJob) (c : OneCore) → Leading jobs c → (u : TheRun TheSide) (rest : List LogEntry) → Goes shared_ways jobs u rest c.finish → IsSound u.core
    → u.offers ≡ c.start.offers → (msg : MonitorMessage) → KnowsPlaces c.start.offers.names (FoundNoPlace jobs c) (known_for u.offers u.core msg) msg
knows_places jobs c v u rest goes sound same msg = (
  ap (λ (o : Offers). o.names) same,
  λ o is none. record {
    moment = u;
    log = rest;
    goes = goes;
    sound = sound;
    number = sym (goes_laid shared_ways jobs rest u c.finish goes).core ∙ (goes_laid shared_ways jobs c.log c.start c.finish v.went.goes).core;
    offers = same;
    none = no_place u msg o is none;
  },
)

was_full : (jobs : List CoreJob) (finish u : TheRun TheSide) (rest : List LogEntry) → Goes shared_ways jobs u rest finish → IsSound u.core → (d : ℕ) (x : TheDispatcher)
    → slice_get u.core.board.dispatchers d ≡ Some x → length x.ends ≡ 1024 → WasFull jobs finish d
was_full jobs finish u rest goes sound d x at full = record { moment = u; log = rest; goes = goes; sound = sound; dispatcher = x; dispatcher_is = at; full = full }

pub cores_reason : OnAnotherCircuit → CoresReason
cores_reason on jobs c v unused =
    let t0 = c.start.core.monitor.circuits in
    let names = c.start.offers.names in
    let Requests = IsOwnRequest jobs c.start in
    let NoPlace = FoundNoPlace jobs c in
    record {
      asking = asking_of on jobs c v unused;
      reasoned = (log_keeps_by (AreReasonedFrom names NoPlace Requests t0) jobs (reasons_kept names jobs NoPlace Requests (own_requested jobs c.start) t0) shared_ways on c.log c.start c.finish v.went.goes (λ l. []) (λ l. [])
          (knows_places jobs c v) (own_request jobs c.start) v.led v.table (at_start names NoPlace Requests c unused)).2;
      progresses = λ ample e. elim (log_tells shared_ways on names jobs NoPlace Requests (own_requested jobs c.start) t0 (WasFull jobs c.finish) (IsGone jobs c) e c.log c.start c.finish v.went.goes (λ l. []) (λ l. []) ample
          (knows_places jobs c v) (was_full jobs c.finish) (λ u rest g led request absent used alone. gone shared_ways jobs rest u c.finish g led request absent used alone) (own_request jobs c.start) v.led (none_placed jobs c v unused) v.table (at_start names NoPlace Requests c unused)) [
            | inl same ↦ inl same
            | inr told ↦ inr (told_at jobs c (log_steps shared_ways jobs c.log c.start c.finish v.went.goes) e (refusal_at c.finish e) told)
          ];
      under = asked_under on jobs c v unused names NoPlace (knows_places jobs c v) (at_start names NoPlace Requests c unused);
      settled = its_settled on jobs c v unused names NoPlace (knows_places jobs c v) (at_start names NoPlace Requests c unused);
    }

-- ---- all cores

one_number : (a b : ℕ) → Some a ≡ Some b → a ≡ b
one_number a b same = cc

one_bound : (a b : BindingCores) → Some a ≡ Some b → a ≡ b
one_bound a b same = cc

one_state : (a b : LinkState) → Some a ≡ Some b → a ≡ b
one_state a b same = cc

abbrev link_of_number : ℕ → LinkId
link_of_number l = record { 0 = l }

module _ (rings : RingsConserve) (prefix : CircuitsPrefix) (reason : CoresReason) (asked : List Job) (j : TheJoinedJobs) (cores : List OneCore) (names : List TheRegistration)
    (programs : List TheProgram) (all : AreSetUp asked j cores names programs) where
  pub beside : AreBeside j.jobs cores
  beside = all_beside asked j cores names programs all

  abbrev pub went : (n : ℕ) (c : OneCore) → slice_get cores n ≡ Some c → GoesReasoned j.jobs c
  went n c is = reason j.jobs c (beside.leading n c is) (beside.unused n c is)

  abbrev pub Heard : (n : ℕ) (c : OneCore) → slice_get cores n ≡ Some c → ℕ → List Frag
  Heard n c is l = of_circuit 0 (taken_from l (went n c is).asking.steps)

  abbrev pub Said : (n : ℕ) (c : OneCore) → slice_get cores n ≡ Some c → ℕ → List Frag
  Said n c is l = of_circuit 0 (put_on l (went n c is).asking.steps)

  abbrev pub Came : (n : ℕ) (c : OneCore) → slice_get cores n ≡ Some c → ℕ → ℕ → Opening → Type 0
  Came n c is l i o = CameUnder c.start.core.monitor.circuits (Heard n c is) l i o

  abbrev pub Why : (n : ℕ) (c : OneCore) → slice_get cores n ≡ Some c → Opening → ℕ → Type 0
  Why n c is o r = IsRefusedFor c.start.offers.names (FoundNoPlace j.jobs c) c.start.core.monitor.circuits (talk_of c (went n c is).asking.steps) o r

  -- what is asked for between cores is for a service that is there
  pub is_offered : (n : ℕ) (c : OneCore) (is : slice_get cores n ≡ Some c) (l i : ℕ) (o : Opening) → Came n c is l i o → by_iref o.service.0 c.start.offers.names ≡ None → ⊥
  is_offered n c is l i o came none =
      let along : CameAlong c.start.core.monitor.circuits (Heard n c is) o =
      record { link = link_of_number l; frag = came.frag; has = came.has; asks = record { circuit = came.circuit; says = came.says }; along = came.along } in
      let w : IsRequested j.jobs o = heard_requested rings prefix (λ jobs d v u. (reason jobs d v u).asking) j.jobs cores beside n c is o along in
      let (b, b_is) = at_within j.bindings w.request.opening.binding (all.joined.there w.place (job.Open w.request) w.job_is) in
      let offered = all.requests w.place w.request b w.job_is b_is in
      let found : by_iref o.service.0 names ≡ Some offered.registration = ap (λ (x : Opening). by_iref x.service.0 names) (sym w.opening_is) ∙ offered.service in
      let lacks : by_iref o.service.0 names ≡ None = ap (by_iref o.service.0) (sym (all.named n c is)) ∙ none in
      let clash : Some offered.registration ≡ None = sym found ∙ lacks in
      absurd (cc)

  -- ---- over one link

  -- the core on the other side of a link: what was heard there it said, and what it heard was said here
  pub record Across (n : ℕ) (c : OneCore) (is : slice_get cores n ≡ Some c) (l : ℕ) : Type 0 where
    pub place : ℕ
    pub core : OneCore
    pub core_is : slice_get cores place ≡ Some core
    pub link : ℕ
    pub said : (f : Frag) → Has f (Heard n c is l) → Has f (Said place core core_is link)
    pub heard : (f : Frag) → Has f (Heard place core core_is link) → Has f (Said n c is l)
    pub state : LinkState
    pub state_is : slice_get core.start.core.monitor.circuits.links link ≡ Some state
    pub back : state.neighbour.0 ≡ c.start.core.monitor.circuits.core
    pub forth : (a : LinkState) → slice_get c.start.core.monitor.circuits.links l ≡ Some a → core.start.core.monitor.circuits.core ≡ a.neighbour.0

  across_by : (n : ℕ) (c : OneCore) (is : slice_get cores n ≡ Some c) (l : ℕ) → IsPaired cores n c (link_of_number l) → Across n c is l
  across_by n c is l x =
      let g = went n c is in
      let h = went x.across.place x.across.core x.across.core_is in
      let both = both_ways rings x.across.core c h.asking.steps g.asking.steps h.asking.links g.asking.links x.across.link (link_of_number l) x.across.one in
      record {
        place = x.across.place;
        core = x.across.core;
        core_is = x.across.core_is;
        link = x.across.link.0;
        said = λ f has. has_before f (Heard n c is l) (Said x.across.place x.across.core x.across.core_is x.across.link.0)
            (prefix 0 (taken_from l g.asking.steps) (put_on x.across.link.0 h.asking.steps) both.0) has;
        heard = λ f has. has_before f (Heard x.across.place x.across.core x.across.core_is x.across.link.0) (Said n c is l)
            (prefix 0 (taken_from x.across.link.0 h.asking.steps) (put_on l g.asking.steps) both.1) has;
        state = x.back.link;
        state_is = x.back.link_is;
        back = x.back.neighbour ∙ sym (all.numbered n c is);
        forth = λ a at. all.numbered x.across.place x.across.core x.across.core_is ∙ sym x.forth.neighbour
            ∙ ap (λ (y : LinkState). y.neighbour.0) (one_state x.forth.link a (sym x.forth.link_is ∙ at));
      }

  pub across_start : (n : ℕ) (c : OneCore) (is : slice_get cores n ≡ Some c) (l : ℕ) (link : LinkState) → slice_get c.start.core.monitor.circuits.links l ≡ Some link → Across n c is l
  across_start n c is l link there =
      let (side, link_side) = side_there c.start.core (beside.leading n c is).went.core l link there in
      across_by n c is l (all.wired.links n side c (link_of_number l) is link_side)

  pub across_finish : (n : ℕ) (c : OneCore) (is : slice_get cores n ≡ Some c) (l : ℕ) (link : LinkState) → slice_get c.finish.core.monitor.circuits.links l ≡ Some link → Across n c is l
  across_finish n c is l link there =
      let (side, link_side) = link_side_there j.jobs c (beside.leading n c is) l link there in
      across_by n c is l (all.wired.links n side c (link_of_number l) is link_side)

  -- ---- forth along the route

  -- an opening that came to a core at this place of its route was refused there, or by a core further on
  why_good : (most n : ℕ) (c : OneCore) (is : slice_get cores n ≡ Some c) (l i : ℕ) (o : Opening) (r place : ℕ) → Came n c is l i o → Why n c is o r
      → position (is_core c.start.core.monitor.circuits.core) o.path ≡ Some place → length o.path ≤ place + most → RefusesOne j.jobs cores o r
  why_good most n c is l i o r place came (inl own) at within = record { place = n; core = c; core_is = is; why = own }
  why_good most n c is l i o r place came (inr (inl lacks)) at within = absurd (is_offered n c is l i o came lacks)
  why_good zero n c is l i o r place came (inr (inr h)) at within =
      let found = position-Some (is_core c.start.core.monitor.circuits.core) o.path place (link_core c) at in
      let inside = found.0 in
      absurd (omega (arith, inside, within))
    where
      link_core : OneCore → CoreId
      link_core d = record { 0 = d.start.core.monitor.circuits.core }
  why_good (suc most) n c is l i o r place came (inr (inr h)) at within =
      let x = across_finish n c is h.link h.given.link h.given.there in
      let g = went x.place x.core x.core_is in
      let (o2, came2, why2) = g.reasoned.refused x.link h.frag h.circuit r (inl (x.said h.frag h.has)) h.says in
      let same : o2 ≡ o = h.only came2.frag came2.circuit o2 (inl (x.heard came2.frag came2.has)) came2.number came2.says in
      let came3 = subst (λ (y : Opening). Came x.place x.core x.core_is x.link h.circuit.0 y) same came2 in
      let why3 = subst (λ (y : Opening). Why x.place x.core x.core_is y r) same why2 in
      let b = stands_behind x.core.start.core.monitor.circuits x.link o.path came3.along in
      let states : b.state ≡ x.state = one_state b.state x.state (sym b.state_is ∙ x.state_is) in
      let number : b.state.neighbour.0 ≡ c.start.core.monitor.circuits.core = ap (λ (a : LinkState). a.neighbour.0) states ∙ x.back in
      let before : b.before ≡ place = one_number b.before place (sym b.before_is ∙ ap (λ (k : ℕ). position (is_core k) o.path) number ∙ at) in
      let less = b.less in
      why_good most x.place x.core x.core_is x.link h.circuit.0 o r b.place came3 why3 b.place_is (omega (arith, before, less, within))

  -- what a core heard to be refused was asked for there, under that number, and one of the cores refuses it
  record WasAsked (n : ℕ) (c : OneCore) (is : slice_get cores n ≡ Some c) (l : ℕ) (i : Circuit) (r : ℕ) : Type 0 where
    pub opening : Opening
    pub frag : Frag
    pub has : Has frag (Said n c is l)
    pub circuit : Circuit
    pub number : circuit.0 ≡ i.0
    pub says : Says frag (asks circuit opening)
    pub refused : RefusesOne j.jobs cores opening r

  heard_good : (n : ℕ) (c : OneCore) (is : slice_get cores n ≡ Some c) (l : ℕ) (link : LinkState) (f : Frag) (i : Circuit) (r : ℕ) → slice_get c.start.core.monitor.circuits.links l ≡ Some link
      → Has f (Heard n c is l) → Says f (CircuitRefused i r) → WasAsked n c is l i r
  heard_good n c is l link f i r there has says_it =
      let x = across_start n c is l link there in
      let (o, came, why) = (went x.place x.core x.core_is).reasoned.refused x.link f i r (inl (x.said f has)) says_it in
      let b = stands_behind x.core.start.core.monitor.circuits x.link o.path came.along in
      record {
        opening = o;
        frag = came.frag;
        has = x.heard came.frag came.has;
        circuit = came.circuit;
        number = came.number;
        says = came.says;
        refused = why_good (length o.path) x.place x.core x.core_is x.link i.0 o r b.place came why b.place_is (omega arith);
      }

  -- ---- at ends' progress

  -- the core at a place whose end's progress has a job that asks for an opening is that of the client of the opening's binding
  pub at_home : (n : ℕ) (c : OneCore) → slice_get cores n ≡ Some c → (o : Opening) → IsOwnRequest j.jobs c.start o → (b : BindingCores) → slice_get j.bindings o.binding ≡ Some b → b.client ≡ n
  at_home n c is o w b b_is = by (all.own n c w.name w.progress is w.progress_is) where
    by : (w.progress.jobs ≡ []) ⊎ HasOwn j n w.name w.progress.jobs → b.client ≡ n
    by (inl none) = absurd (let no : None ≡ Some w.place = sym (ap (λ (xs : List ℕ). slice_get xs w.turn) none) ∙ w.place_is in cc)
    by (inr x) =
        let end : client_of w.request.opening.binding ≡ w.name = opener asked j (length cores) all.joined w.name w.progress.jobs w.turn w.place (job.Open w.request) x.jobs_are w.place_is w.job_is in
        let name : client_of o.binding ≡ w.name = ap (λ (y : Opening). client_of y.binding) (sym w.opening_is) ∙ end in
        let bounds : Some b ≡ Some x.bound = sym b_is ∙ ap (λ (e : EndId). slice_get j.bindings e.binding) name ∙ x.bound_is in
        let same : b ≡ x.bound = one_bound b x.bound bounds in
        ap (λ (y : BindingCores). y.client) same ∙ ap (λ (e : EndId). core_of e.side x.bound) name ∙ x.core_is

  -- back along the route an opening was asked for, at a core that stands before
  record Origin (o : Opening) (place : ℕ) : Type 0 where
    pub n : ℕ
    pub core : OneCore
    pub core_is : slice_get cores n ≡ Some core
    pub requested : IsOwnRequest j.jobs core.start o
    pub before : ℕ
    pub before_is : position (is_core core.start.core.monitor.circuits.core) o.path ≡ Some before
    pub less : before < place

  origin : (most n : ℕ) (c : OneCore) (is : slice_get cores n ≡ Some c) (l i : ℕ) (o : Opening) (place : ℕ) → Came n c is l i o
      → position (is_core c.start.core.monitor.circuits.core) o.path ≡ Some place → place < most → Origin o place
  origin zero n c is l i o place came at within = absurd (omega (arith, within))
  origin (suc most) n c is l i o place came at within =
      let b = stands_behind c.start.core.monitor.circuits l o.path came.along in
      let x = across_start n c is l b.state b.state_is in
      let here : b.place ≡ place = one_number b.place place (sym b.place_is ∙ at) in
      let less = b.less in
      elim ((went x.place x.core x.core_is).reasoned.asked x.link came.frag came.circuit o (inl (x.said came.frag came.has)) came.says) [
        | inl own ↦ record {
          n = x.place;
          core = x.core;
          core_is = x.core_is;
          requested = own;
          before = b.before;
          before_is = ap (λ (k : ℕ). position (is_core k) o.path) (x.forth b.state b.state_is) ∙ b.before_is;
          less = omega (arith, here, less);
        }
        | inr on ↦
            (let d = stands_behind x.core.start.core.monitor.circuits on.0 o.path on.2.along in
            let there : d.place ≡ b.before = one_number d.place b.before
            (sym d.place_is ∙ ap (λ (k : ℕ). position (is_core k) o.path) (x.forth b.state b.state_is) ∙ b.before_is) in
            let g = origin most x.place x.core x.core_is on.0 on.1 o d.place on.2 d.place_is (omega (arith, here, less, there, within)) in
            let fewer = g.less in
            record {
              n = g.n;
              core = g.core;
              core_is = g.core_is;
              requested = g.requested;
              before = g.before;
              before_is = g.before_is;
              less = omega (arith, here, less, there, fewer);
            })
      ]

  -- so no opening comes to the core of its own binding's client
  pub not_again : (n : ℕ) (c : OneCore) (is : slice_get cores n ≡ Some c) → AskedAgain j.jobs c.start (Heard n c is) → ⊥
  not_again n c is a =
      let b = stands_behind c.start.core.monitor.circuits a.link a.opening.path a.came.along in
      let g = origin (suc b.place) n c is a.link a.number a.opening b.place a.came b.place_is (omega arith) in
      let (bound, bound_is) = at_within j.bindings a.requested.request.opening.binding (all.joined.there a.requested.place (job.Open a.requested.request) a.requested.job_is) in
      let own_is : slice_get j.bindings a.own.binding ≡ Some bound = ap (λ (o : Opening). slice_get j.bindings o.binding) (sym a.requested.opening_is) ∙ bound_is in
      let one : bound.client ≡ n = at_home n c is a.own a.requested bound own_is in
      let two : bound.client ≡ g.n = at_home g.n g.core g.core_is a.opening g.requested bound (ap (slice_get j.bindings) a.binding_is ∙ own_is) in
      let numbers : g.core.start.core.monitor.circuits.core ≡ c.start.core.monitor.circuits.core = all.numbered g.n g.core g.core_is ∙ sym two ∙ one ∙ sym (all.numbered n c is) in
      let places : b.place ≡ g.before = one_number b.place g.before (sym b.place_is ∙ ap (λ (k : ℕ). position (is_core k) a.opening.path) (sym numbers) ∙ g.before_is) in
      let less = g.less in
      omega (arith, places, less)

  -- the opening of an own request is refused, which is that of the end
  of_request : (n : ℕ) (c : OneCore) → slice_get cores n ≡ Some c → (e : EndId) (r : ℕ) (o : Opening) → IsOwnRequest j.jobs c.start o → client_of o.binding ≡ e → RefusesOne j.jobs cores o r
      → IsRefused j.jobs cores c e r
  of_request n c is e r o w ends refused = record {
    place = w.place;
    request = w.request;
    job_is = w.job_is;
    end_is = ap (λ (x : Opening). client_of x.binding) w.opening_is ∙ ends;
    why = inr (subst (λ (x : Opening). RefusesOne j.jobs cores x r) (sym w.opening_is) refused);
  }

  -- a job of an end's progress asks for an opening of that end's binding
  of_progress : (n : ℕ) (c : OneCore) → slice_get cores n ≡ Some c → (e : EndId) (r : ℕ) → WasRefused j.jobs c.start c.finish e r → IsRefused j.jobs cores c e r
  of_progress n c is e r x = by (all.own n c e x.progress is x.progress_is) where
    by : (x.progress.jobs ≡ []) ⊎ HasOwn j n e x.progress.jobs → IsRefused j.jobs cores c e r
    by (inl none) = absurd (let no : None ≡ Some x.place = sym (ap (λ (xs : List ℕ). slice_get xs x.turn) none) ∙ x.place_is in cc)
    by (inr own) = record {
      place = x.place;
      request = x.request;
      job_is = x.job_is;
      end_is = opener asked j (length cores) all.joined e x.progress.jobs x.turn x.place (job.Open x.request) own.jobs_are x.place_is x.job_is;
      why = inl x.why;
    }

  progress_told : AllAmple cores → (n : ℕ) (c : OneCore) (e : EndId) → slice_get cores n ≡ Some c → refusal_at c.start e ≡ 0
      → (refusal_at c.finish e ≡ 0) ⊎ IsRefused j.jobs cores c e (refusal_at c.finish e)
  progress_told ample n c e is none = elim ((went n c is).progresses (ample n c is) e) [
    | inl same ↦ inl (same ∙ none)
    | inr told ↦ elim told [
      | inl h ↦ inr
          (let x = heard_good n c is h.link h.state h.frag h.circuit (refusal_at c.finish e) h.state_is h.has h.says in
          let same : x.opening ≡ h.own = h.only x.frag x.circuit x.opening (inl x.has) x.number x.says in
          of_request n c is e (refusal_at c.finish e) h.own h.requested h.end_is (subst (λ (o : Opening). RefusesOne j.jobs cores o (refusal_at c.finish e)) same x.refused))
      | inr others ↦ elim others [
        | inl own ↦ inr (of_progress n c is e (refusal_at c.finish e) own)
        | inr again ↦ absurd (not_again n c is again)
      ]
    ]
  ]

pub progresses_tell : RingsConserve → CircuitsPrefix → CoresReason → ProgressTellReasons
progresses_tell rings prefix reason asked j cores names programs all ample n c e is none = progress_told rings prefix reason asked j cores names programs all ample n c e is none

pub reasons_alone : RingsConserve → CircuitsPrefix → CoresReason → ReasonsAlone
reasons_alone rings prefix reason asked j cores names programs all n c is = record {
  goes = went rings prefix reason asked j cores names programs all n c is;
  reasons = λ l link f i r there has says_it.
      (let x = heard_good rings prefix reason asked j cores names programs all n c is l link f i r there has says_it in (x.opening, x.refused));
}

-- ---- one of three

by_heard : (names : List TheRegistration) (NoPlace : Opening → Type 0) (t u : TheCircuits) (o : Opening) (r : ℕ) → Refuses names NoPlace t u o r → IsReason r
by_heard names NoPlace t u o r (inl full) = inl full.0
by_heard names NoPlace t u o r (inr (inl nowhere)) = inr (inl nowhere.0)
by_heard names NoPlace t u o r (inr (inr used)) = inr (inr used.0)

by_request : (Full : ℕ → Type 0) (t u : TheCircuits) (w : OpenRequest) (r : ℕ) → RefusesRequest Full t u w r → IsReason r
by_request Full t u w r (inl full) = inl full.0
by_request Full t u w r (inr (inl nowhere)) = inr (inl nowhere.0)
by_request Full t u w r (inr (inr used)) = inr (inr used.0)

pub for_reason : RefusedForReason
for_reason jobs cores c e r x = elim x.why [
  | inl own ↦ by_request (WasFull jobs c.finish) c.start.core.monitor.circuits c.finish.core.monitor.circuits x.request r own
  | inr y ↦ by_heard y.core.start.offers.names (FoundNoPlace jobs y.core) y.core.start.core.monitor.circuits y.core.finish.core.monitor.circuits x.request.opening r y.why
]
