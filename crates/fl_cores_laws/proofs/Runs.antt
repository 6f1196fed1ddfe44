-- What is told of each binding of a run is honest, whatever joins its ends and whatever its opening came to.
use Rattle.std.proofs.Common.{◌≡◌, ◌⊎◌, inl, inr, refl, sym, ap, ◌∙◌, subst, ℕ, zero, suc, ◌<◌, List, [], ◌∷◌, length, slice_get, Option, Some, None, arith}
use Rattle.fl_base.specs.declared.identity.EndId.{EndId}
use Rattle.fl_base.specs.declared.identity.LinkId.{LinkId}
use Rattle.fl_base.specs.declared.identity.Circuit.{Circuit as Number}
use Rattle.fl_compile.specs.Programs.{TheProgram, program_of}
use Rattle.fl_core.specs.BoardView.{TheEndAtChannel}
use Rattle.fl_nameserv.specs.Registrations.{TheRegistration}
use Rattle.fl_core.specs.View.{place_of, client_of, server_of}
use Rattle.fl_core_run.specs.EndProgress.{TheEndProgress}
use Rattle.fl_cores_file.specs.Jobs.{Job}
use Rattle.fl_cores_jobs.specs.declared.end_work.BindingCores.{BindingCores}
use Rattle.fl_cores_jobs.specs.EndWork.{end_work_at}
use Rattle.fl_cores_jobs.specs.State.{TheJoinedJobs}
use Rattle.fl_cores_laws.specs.Cores.{OneCore}
use Rattle.fl_cores_laws.specs.Ends.{HasProgress}
use Rattle.fl_cores_laws.specs.Bindings.{HasCores, AreHonest, IsOffLinks, PartiesAreHonest, ReportsAreHonest, OffLinksIsHonest}
use Rattle.fl_cores_laws.specs.Circuits.{StandsBound}
use Rattle.fl_cores_laws.specs.Whole.{HasOwn, ArePaired, ClientsAreHome, BoundIsHonest}
use Rattle.fl_cores_laws.specs.Unbound.{IsLoose, LooseEndsRest, HaveEnds, SilenceIsHonest}
use Rattle.fl_cores_laws.specs.Asked.{AreBeside, IsOwnJob, AreStaffed, IsAtHome, EndsAreAtHome}
use Rattle.fl_cores_laws.specs.Stands.{IsPlanned, point_at, PlannedEndsStand}
use Rattle.fl_cores_laws.specs.Meeting.{WiredArePaired, BoundClientsMeet, LoneServersRest}
use Rattle.fl_cores_laws.specs.Runs.{OffLinkIsHonest, AreSetUp, OpenedIsHonest, RunsAreHonest}
use Rattle.fl_cores_laws.proofs.OffLinks.{Passing, by_either}

same_value : {X : Type 0} (a b : X) → Some a ≡ Some b → a ≡ b
same_value a b is = cc

-- ---- a binding off links

pub off_link : Passing → PartiesAreHonest → OffLinkIsHonest
off_link l honest asked j cores joined went progresses n b is x =
    by_either l honest asked j cores joined n x.client x.server (went b.client x.client x.cores.client) (went b.server x.server x.cores.server) x.joined
    (progresses (client_of n) x.client (record { bound = b; bound_is = is; core_is = x.cores.client }))
    (progresses (server_of n) x.server (record { bound = b; bound_is = is; core_is = x.cores.server }))

pub off_links : ReportsAreHonest → OffLinkIsHonest → OffLinksIsHonest
off_links reports off asked j cores r k told =
    reports asked j cores r (λ n b is. (let x = k.bindings n b is in (x.client, x.server, x.cores, off asked j cores k.joined k.went k.progresses n b is x))) told

-- ---- a binding that a job opens

-- each link has a core on the other side, which the table names
pub all_beside : (asked : List Job) (j : TheJoinedJobs) (cores : List OneCore) (names : List TheRegistration) (programs : List TheProgram) → AreSetUp asked j cores names programs
    → AreBeside j.jobs cores
all_beside asked j cores names programs s = record {
  leading = s.wired.leading;
  unused = s.wired.unused;
  beside = λ n side d m is link_side.
      (let x = s.wired.links n side d m is link_side in
      record {
        place = x.across.place;
        core = x.across.core;
        core_is = x.across.core_is;
        link = x.across.link;
        one = x.across.one;
        state = x.forth.link;
        state_is = x.forth.link_is;
        number = s.numbered x.across.place x.across.core x.across.core_is ∙ sym x.forth.neighbour;
      });
}

-- what the laws below say of its ends
pub record Ended : Type 0 where
  pub paired : WiredArePaired
  pub home : ClientsAreHome
  pub at_home : EndsAreAtHome
  pub stand : PlannedEndsStand
  pub bound : BoundIsHonest
  pub loose : LooseEndsRest
  pub silence : SilenceIsHonest
  pub meet : BoundClientsMeet
  pub lone : LoneServersRest

module _ (asked : List Job) (j : TheJoinedJobs) (cores : List OneCore) (names : List TheRegistration) (programs : List TheProgram)
    (s : AreSetUp asked j cores names programs) where
  own_job : (n : ℕ) (e : EndId) (progress : TheEndProgress) (turn k : ℕ) → slice_get progress.jobs turn ≡ Some k → (progress.jobs ≡ []) ⊎ HasOwn j n e progress.jobs → IsOwnJob j n e k
  own_job n e progress turn k at (inl none) = absurd (let no : None ≡ Some k = sym (ap (λ (xs : List ℕ). slice_get xs turn) none) ∙ at in cc)
  own_job n e progress turn k at (inr own) = record {
    turn = turn;
    job_is = sym (ap (λ (xs : List ℕ). slice_get xs turn) own.jobs_are) ∙ at;
    bound = own.bound;
    bound_is = own.bound_is;
    core_is = own.core_is;
  }

  pub staffed : AreStaffed j cores names programs
  staffed = record {
    beside = all_beside asked j cores names programs s;
    numbered = s.numbered;
    named = s.named;
    programmed = s.programmed;
    requests = s.requests;
    progresses = λ n c e progress turn k is progress_is at. own_job n e progress turn k at (s.own n c e progress is progress_is);
  }

module _ (l : Ended) (asked : List Job) (j : TheJoinedJobs) (cores : List OneCore) (names : List TheRegistration) (programs : List TheProgram)
    (s : AreSetUp asked j cores names programs) where
  -- ---- in the form that the laws below take

  paired : ArePaired j.jobs cores
  paired = l.paired j.jobs cores s.wired

  -- ---- the binding's ends

  module _ (n number : ℕ) (b : BindingCores) (bound : slice_get j.bindings n ≡ Some b) (opened : b.opened ≡ Some number) where
    -- an end that stands in the end is at its own core, with the binding's program
    home_of : (e : EndId) → slice_get j.bindings e.binding ≡ Some b → (place : ℕ) (c : OneCore) → slice_get cores place ≡ Some c → (at : ℕ) (seat : TheEndAtChannel)
        → place_of c.finish.core e ≡ Some at → slice_get c.finish.core.board.seats at ≡ Some seat → IsAtHome e b programs place seat
    home_of e is place c core_is at seat place_is seat_is =
        l.at_home asked j cores names programs s.joined (staffed asked j cores names programs s) e b place c seat is core_is
        (record { absent = s.absent place c e b number core_is is opened; place = at; place_is = place_is; seat_is = seat_is })

    planned : (e : EndId) → slice_get j.bindings e.binding ≡ Some b → (place : ℕ) (c : OneCore) → slice_get cores place ≡ Some c → IsPlanned j.jobs (end_work_at j.end_works e) c e
    planned e is place c core_is = record {
      absent = s.absent place c e b number core_is is opened;
      lead = s.joined.lead e;
      none = s.joined.unruled e;
      set = s.joined.later e b number is opened;
      fit = λ at seat place_is seat_is. s.fit e b number (program_of seat.end.program) is opened (home_of e is place c core_is at seat place_is seat_is).program_is;
    }

    abbrev Stand : OneCore → EndId → Type 0
    Stand c e = IsLoose c.finish e ⊎ ((x : LinkId) × (i : Number) × StandsBound j.jobs (end_work_at j.end_works e) e (point_at c x i))

    module _ (c d : OneCore) (at : HasCores cores b c d) where
      client_progress : HasProgress (end_work_at j.end_works (client_of n)) c.start (client_of n)
      client_progress = s.progresses (client_of n) c (record { bound = b; bound_is = bound; core_is = at.client })

      server_progress : HasProgress (end_work_at j.end_works (server_of n)) d.start (server_of n)
      server_progress = s.progresses (server_of n) d (record { bound = b; bound_is = bound; core_is = at.server })

      ends : HaveEnds j n c d
      ends = record {
        client = record { went = (s.wired.leading b.client c at.client).went; progress = client_progress };
        server = record { went = (s.wired.leading b.server d at.server).went; progress = server_progress };
      }

      both_bound : (x : LinkId) (i : Number) (y : LinkId) (k : Number) → StandsBound j.jobs (end_work_at j.end_works (client_of n)) (client_of n) (point_at c x i)
          → StandsBound j.jobs (end_work_at j.end_works (server_of n)) (server_of n) (point_at d y k) → AreHonest asked j n c d
      both_bound x i y k client server =
          let one = home_of (client_of n) bound b.client c at.client client.place client.seat client.place_is client.seat_is in
          let two = home_of (server_of n) bound b.server d at.server server.place server.seat server.place_is server.seat_is in
          l.bound asked j cores s.joined paired s.own n (point_at c x i) (point_at d y k) (record {
            bound = b;
            bound_is = bound;
            cores_are = at;
            client_progress = client_progress;
            server_progress = server_progress;
            client = client;
            server = server;
            program = same_value (program_of server.seat.end.program) (program_of client.seat.end.program) (sym two.program_is ∙ one.program_is);
          })

      lone_server : IsLoose c.finish (client_of n) → (y : LinkId) (k : Number) → StandsBound j.jobs (end_work_at j.end_works (server_of n)) (server_of n) (point_at d y k)
          → AreHonest asked j n c d
      lone_server loose y k server =
          let absent = s.absent b.client c (client_of n) b number at.client bound opened in
          let none = l.lone j.jobs cores paired n (end_work_at j.end_works (server_of n)) (point_at d y k) (record {
            home = b.client;
            at_home = l.home asked j cores s.joined paired s.own n b bound;
            client = c;
            client_is = at.client;
            absent = absent;
            loose = loose;
            place = b.server;
            server_is = at.server;
            progress = server_progress;
            stands = server;
          }) in
          l.silence asked j (length cores) n c d s.joined ends (l.loose j.jobs (end_work_at j.end_works (client_of n)) c (client_of n) ends.client.went client_progress loose).handled none

      -- the server's end can't be loose where the client's is bound
      not_loose : (x : LinkId) (i : Number) → StandsBound j.jobs (end_work_at j.end_works (client_of n)) (client_of n) (point_at c x i) → IsLoose d.finish (server_of n) → ⊥
      not_loose x i client loose =
          let met = l.meet j.jobs cores s.wired n b.client (end_work_at j.end_works (client_of n)) (point_at c x i) at.client client in
          let t = met.bound.there in
          let home = home_of (server_of n) bound met.place met.core met.core_is t.place t.seat t.place_is t.seat_is in
          let same : d ≡ met.core = same_value d met.core (sym at.server ∙ ap (slice_get cores) home.core_is ∙ met.core_is) in
          let none = subst (λ (y : OneCore). IsLoose y.finish (server_of n)) same loose t.place t.seat t.place_is t.seat_is in
          (let clash : Some met.bound.circuit ≡ None = sym met.bound.circuit_is ∙ none in cc)

      by_ends : Stand c (client_of n) → Stand d (server_of n) → AreHonest asked j n c d
      by_ends (inl loose) (inl too) =
          l.silence asked j (length cores) n c d s.joined ends
          (l.loose j.jobs (end_work_at j.end_works (client_of n)) c (client_of n) ends.client.went client_progress loose).handled
          (l.loose j.jobs (end_work_at j.end_works (server_of n)) d (server_of n) ends.server.went server_progress too).handled
      by_ends (inl loose) (inr (y, k, server)) = lone_server loose y k server
      by_ends (inr (x, i, client)) (inl loose) = absurd (not_loose x i client loose)
      by_ends (inr (x, i, client)) (inr (y, k, server)) = both_bound x i y k client server

      opened_honest : AreHonest asked j n c d
      opened_honest =
          by_ends
          (l.stand j.jobs (end_work_at j.end_works (client_of n)) c (client_of n) (s.wired.leading b.client c at.client) client_progress (planned (client_of n) bound b.client c at.client))
          (l.stand j.jobs (end_work_at j.end_works (server_of n)) d (server_of n) (s.wired.leading b.server d at.server) server_progress (planned (server_of n) bound b.server d at.server))

pub opened_is_honest : Ended → OpenedIsHonest
opened_is_honest l asked j cores names programs s n number b c d bound opened at = opened_honest l asked j cores names programs s n number b bound opened c d at

-- ---- all bindings

core_there : (cores : List OneCore) (n : ℕ) → n < length cores → (c : OneCore) × (slice_get cores n ≡ Some c)
core_there [] n below = absurd (omega (arith, below))
core_there (c ∷ cores) zero below = (c, refl)
core_there (c ∷ cores) (suc n) below = core_there cores n (omega (arith, below))

module _ (opened : OpenedIsHonest) (off : OffLinkIsHonest) (asked : List Job) (j : TheJoinedJobs) (cores : List OneCore) (names : List TheRegistration) (programs : List TheProgram)
    (s : AreSetUp asked j cores names programs) (set_up : (n : ℕ) (b : BindingCores) → slice_get j.bindings n ≡ Some b → b.opened ≡ None → IsOffLinks j cores n b) where
  abbrev EachIsHonest : ℕ → BindingCores → Type 0
  EachIsHonest n b = (c : OneCore) × (d : OneCore) × HasCores cores b c d × AreHonest asked j n c d

  by_opening : (n : ℕ) (b : BindingCores) → slice_get j.bindings n ≡ Some b → (o : Option ℕ) → b.opened ≡ o → EachIsHonest n b
  by_opening n b is None none =
      let x = set_up n b is none in
      (x.client, x.server, x.cores, off asked j cores s.joined (λ i c at. (s.wired.leading i c at).went) s.progresses n b is x)
  by_opening n b is (Some number) by_job =
      let (c, client) = core_there cores b.client (s.joined.bindings.client n b is) in
      let (d, server) = core_there cores b.server (s.joined.bindings.server n b is) in
      let at : HasCores cores b c d = record { client = client; server = server } in
      (c, d, at, opened asked j cores names programs s n number b c d is by_job at)

  each : (n : ℕ) (b : BindingCores) → slice_get j.bindings n ≡ Some b → EachIsHonest n b
  each n b is = by_opening n b is b.opened refl

pub runs_are_honest : ReportsAreHonest → OpenedIsHonest → OffLinkIsHonest → RunsAreHonest
runs_are_honest reports opened off asked j cores names programs r s set_up told = reports asked j cores r (each opened off asked j cores names programs s set_up) told
