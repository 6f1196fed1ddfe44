-- Bindings of a set-up, as the runs of their cores begin: joined by queues or by a ring. And links, each by its two sides.
use Rattle.std.proofs.Common.{◌≡◌, inl, inr, refl, sym, ap, ◌∙◌, subst, ℕ, ◌+◌, ◌*◌, List, length, slice_get, Some, None, arith}
use Rattle.std.proofs.lemmas.Bool.{cases_lt}
use Rattle.std.proofs.lemmas.Option.{slice_get_within}
use Rattle.fl_base.specs.declared.identity.EndId.{EndId}
use Rattle.fl_compile.specs.declared.program.Program.{Program}
use Rattle.fl_link.specs.Queue.{TheQueue}
use Rattle.fl_ring.specs.SharedSides.{TheSide}
use Rattle.fl_core.proofs.BoardPlaces.{one_stands}
use Rattle.fl_core.specs.declared.wiring.EndWiring.{EndWiring}
use Rattle.fl_core.specs.declared.wiring.EndWiring.TheVariants.{Queues, Ring}
use Rattle.fl_core.specs.View.{TheCore, client_of, server_of}
use Rattle.fl_core.specs.Sound.{IsCore}
use Rattle.fl_core.specs.Numbers.{moved, moved_wiring, renumbered}
use Rattle.fl_core.proofs.Numbering.{goes_to}
use Rattle.fl_core_run.specs.Run.{TheRun}
use Rattle.fl_core.specs.Jobs.{HasNoRule}
use Rattle.fl_core_run_laws.specs.Flows.{IsApart}
use Rattle.fl_world_refines.specs.declared.binding.Binding.{Binding}
use Rattle.fl_world_refines.specs.View.{TheWorld, core_in}
use Rattle.fl_world_refines.specs.Binding.{new_queue}
use Rattle.fl_world_refines.specs.declared.parts.Parts.{Parts}
use Rattle.fl_world_refines.specs.Apart.{AreParts}
use Rattle.fl_cores_file.specs.Jobs.{Job}
use Rattle.fl_world_refines.specs.ShowsState.{NamesQueue}
use Rattle.fl_cores_jobs.specs.declared.end_work.BindingCores.{BindingCores}
use Rattle.fl_cores_jobs.specs.EndWork.{end_work_at}
use Rattle.fl_cores_jobs.specs.Rules.{RulesOf}
use Rattle.fl_cores_jobs.specs.State.{TheJoinedJobs, AreJoined}
use Rattle.fl_cores_jobs.specs.Whole.{bound_of, IsBeside, AreBound}
use Rattle.fl_core_refines.specs.SetUpStart.{Stands, StartsFresh}
use Rattle.fl_core_refines.specs.SetUpStart as set_up
use Rattle.fl_cores_laws.specs.Cores.{OneCore}
use Rattle.fl_cores_laws.specs.Bindings.{ByQueues, ByRing, HasCores, IsOffLinks}
use Rattle.fl_cores_fork.specs.Runs.{TheFinishedCore, TheCoreThread}
use Rattle.fl_cores_parts.specs.Begins.{Places, common_in, AreCoreThreads}
use Rattle.fl_cores_parts.specs.Shares.{queues_given, Shares, AreSound}
use Rattle.fl_cores.specs.Runs.{AreRuns}
use Rattle.fl_cores.proofs.Runs.{run_at, as_many, core_thread_at, as_many_core_threads}
use Rattle.fl_cores.proofs.SidesPlaces.{there_is, moved_to, holding_is}
use Rattle.fl_cores.proofs.SidesCross.{SideLaws, ring_crosses}
use Rattle.fl_cores.proofs.StartNumbers.{core_before}
use Rattle.fl_cores.proofs.StartRested.{after_at}
use Rattle.fl_cores.proofs.StartReady.{Stood, stood, stood_wiring, IsReady, ready}
use Rattle.fl_cores.proofs.StartShared.{AreReady, are_ready, side_owner, queue_owner, begins_apart}

-- a binding that no job opens is one of the set-up, at its own number
set_up_first : (set_up : List Binding) (jobs : List Job) (j : TheJoinedJobs) → AreBound set_up jobs j
    → (n : ℕ) (b : BindingCores) → slice_get j.bindings n ≡ Some b → b.opened ≡ None → (x : Binding) × (slice_get set_up n ≡ Some x) × (b ≡ bound_of x)
set_up_first set_up jobs j bound n b at none = elim (cases_lt n (length set_up)) [
  | inl below ↦
      let (x, x_is) = there_is set_up n below in
      (x, x_is, one_stands j.bindings n b (bound_of x) at (bound.first n x x_is))
  | inr past ↦ let some = bound.opened n b at past in absurd (cc (some.1, none))
]

-- ---- all that a run begins with

pub record TheBeginning : Type 0 where
  -- what a set-up made, and its parts
  pub world : TheWorld
  pub made : Parts
  -- the jobs, and what they were joined to
  pub asked : List Job
  pub joined : TheJoinedJobs
  -- the parts with the rules that were set, and the cores made of them
  pub parts : Parts
  pub places : Places
  pub core_threads : List TheCoreThread
  pub outcomes : List TheFinishedCore
  pub cores : List OneCore

pub record IsBegun (b : TheBeginning) : Type 0 where
  pub fresh : StartsFresh b.world
  pub made : AreParts b.world b.made
  pub joined : AreJoined (length b.made.cores.items) b.asked b.joined
  pub bound : AreBound b.made.bindings.items b.asked b.joined
  -- of an end of a binding that was set up no job sets a rule in the run
  pub at_once : (e : EndId) (x : BindingCores) → slice_get b.joined.bindings e.binding ≡ Some x → x.opened ≡ None
      → HasNoRule b.joined.jobs (end_work_at b.joined.end_works e).jobs
  pub rules : RulesOf b.made.bindings.items b.asked b.made.cores.items b.parts.cores.items
  pub beside : IsBeside b.made b.parts
  pub core_threads : AreCoreThreads (common_in b.parts b.joined b.places) 0 b.parts.cores.items b.core_threads
  pub shares : Shares b.parts b.places b.core_threads b.outcomes
  pub sound : AreSound b.core_threads b.outcomes
  pub runs : AreRuns b.joined.jobs b.core_threads b.outcomes b.cores

-- a core, with what it was made of
pub record MadeOf (b : TheBeginning) (n : ℕ) (c : OneCore) : Type 0 where
  pub core : TheCore
  pub core_is : slice_get b.parts.cores.items n ≡ Some core
  pub core_thread : TheCoreThread
  pub core_thread_is : slice_get b.core_threads n ≡ Some core_thread
  pub start : c.start ≡ core_thread.run
  pub numbers : c.start.core ≡ renumbered b.places.sides b.places.queues core
  pub begins : IsCore (renumbered b.places.sides b.places.queues core)
  pub sound : IsCore core

module _ (b : TheBeginning) (h : IsBegun b) where
  abbrev sides : List ℕ
  sides = b.places.sides

  abbrev queues : List ℕ
  queues = b.places.queues

  of_them : RulesOf b.made.bindings.items b.asked b.world.cores b.parts.cores.items
  of_them = subst (λ (ks : List TheCore). RulesOf b.made.bindings.items b.asked ks b.parts.cores.items) h.made.cores h.rules

  pub parts_ready : AreReady b.world b.parts
  parts_ready = are_ready b.world b.made b.parts b.asked h.fresh h.made h.rules h.beside

  pub made_of : (n : ℕ) (c : OneCore) → slice_get b.cores n ≡ Some c → MadeOf b n c
  made_of n c c_is =
      let r = run_at b.joined.jobs b.core_threads b.outcomes b.cores h.runs n c c_is in
      let s = core_thread_at (common_in b.parts b.joined b.places) b.parts.cores.items b.core_threads h.core_threads n r.core_thread r.core_thread_is in
      let begins : IsCore (renumbered sides queues s.core) = subst IsCore s.is.core_is (h.sound.begin n r.core_thread r.core_thread_is) in
      record {
        core = s.core;
        core_is = s.core_is;
        core_thread = r.core_thread;
        core_thread_is = r.core_thread_is;
        start = r.is.start;
        numbers = ap (λ (t : TheRun TheSide). t.core) r.is.start ∙ s.is.core_is;
        begins = begins;
        sound = core_before sides queues s.core begins;
      }

  -- each core ran
  pub ran_of : (n : ℕ) (k : TheCore) → slice_get b.parts.cores.items n ≡ Some k → (c : OneCore) × (slice_get b.cores n ≡ Some c)
  ran_of n k k_is =
      let below = slice_get_within b.parts.cores.items n k k_is in
      let core_threads = as_many_core_threads (common_in b.parts b.joined b.places) b.parts.cores.items b.core_threads h.core_threads in
      let cores = as_many b.joined.jobs b.core_threads b.outcomes b.cores h.runs in
      there_is b.cores n (omega (arith, below, core_threads, cores))

  pub core_ran : (n : ℕ) (k : TheCore) → slice_get b.world.cores n ≡ Some k → (c : OneCore) × (slice_get b.cores n ≡ Some c)
  core_ran n k k_is =
      let after = after_at b.made.bindings.items b.asked b.world.cores b.parts.cores.items of_them n k k_is in
      ran_of n after.core after.core_is

  -- as its run begins its sides and queues are apart
  pub apart : (n : ℕ) (c : OneCore) → slice_get b.cores n ≡ Some c → IsApart c.start.core
  apart n c c_is =
      let m = made_of n c c_is in
      subst IsApart (sym m.numbers)
      (begins_apart b.world b.parts parts_ready b.places b.core_threads b.outcomes h.shares n m.core m.core_is m.begins)

  -- ---- ends

  -- an end of a binding that was set up, at its core
  ends_stand : (e : EndId) (x : Binding) (y : BindingCores) (c : OneCore) (program : Program) (wiring : EndWiring) → slice_get b.world.bindings e.binding ≡ Some x
      → slice_get b.joined.bindings e.binding ≡ Some y → y.opened ≡ None → (c_is : slice_get b.cores (core_in e.side x) ≡ Some c)
      → Stands b.world (core_in e.side x) e program wiring
      → Stood b.asked (made_of (core_in e.side x) c c_is).core e program wiring
      × IsReady b.joined.jobs (end_work_at b.joined.end_works e) c.start e (moved_wiring sides queues wiring) program
  ends_stand e x y c program wiring x_is y_is unopened c_is s =
      let m = made_of (core_in e.side x) c c_is in
      let it = stood b.world h.fresh b.made.bindings.items h.made.bindings b.asked b.parts.cores.items of_them e x m.core program wiring x_is m.core_is m.sound s in (
        it,
        ready b.asked b.joined.jobs (end_work_at b.joined.end_works e) sides queues m.core c.start m.numbers e program wiring (h.joined.each e)
            (h.at_once e y y_is unopened) it,
      )

  -- ---- queues

  -- a queue that a core names, as its run begins
  pub queue_begins : (n queue : ℕ) (c : OneCore) (c_is : slice_get b.cores n ≡ Some c) → NamesQueue (made_of n c c_is).core queue
      → (slots : ℕ) × (slice_get c.start.queues (moved queues queue) ≡ Some (new_queue slots))
  queue_begins n queue c c_is names =
      let m = made_of n c c_is in
      let (slots, new) = parts_ready.new n queue m.core m.core_is names in
      let owner = queue_owner b.world b.parts parts_ready b.places b.core_threads b.outcomes h.shares n queue m.core m.core_is names in
      let there : slice_get b.parts.queues.items queue ≡ Some (new_queue slots) = ap (λ (qs : List TheQueue). slice_get qs queue) parts_ready.queues ∙ new in
      let it = h.shares.queues.at queue n (new_queue slots) owner there in
      let holding = holding_is (queues_given b.core_threads) n m.core_thread.run.queues (goes_to (λ (s : TheCoreThread). s.run.queues) b.core_threads n m.core_thread m.core_thread_is) in (
        slots,
        ap (λ (t : TheRun TheSide). slice_get t.queues (moved queues queue)) m.start
            ∙ ap (slice_get m.core_thread.run.queues) (moved_to queues queue it.place it.place_is)
            ∙ ap (λ (qs : List TheQueue). slice_get qs it.place) (sym holding) ∙ it.stands,
      )

  -- ---- bindings

  by_queues : (n forth back : ℕ) (x : Binding) (y : BindingCores) (c : OneCore) (program : Program) → slice_get b.world.bindings n ≡ Some x
      → slice_get b.joined.bindings n ≡ Some y → y.opened ≡ None → slice_get b.cores x.client ≡ Some c → set_up.ByQueues b.world n x program forth back
      → ByQueues b.joined n c
  by_queues n forth back x y c program x_is y_is unopened c_is q =
      let c_too : slice_get b.cores x.server ≡ Some c = ap (slice_get b.cores) (sym q.one_core) ∙ c_is in
      let client = ends_stand (client_of n) x y c program (Queues forth back) x_is y_is unopened c_is q.client in
      let server = ends_stand (server_of n) x y c program (Queues back forth) x_is y_is unopened c_too q.server in
      let wiring = stood_wiring b.asked (made_of x.client c c_is).core (client_of n) program (Queues forth back) client.0 in
      let there = queue_begins x.client forth c c_is (inl (client_of n, back, wiring)) in
      let again = queue_begins x.client back c c_is (inr (client_of n, forth, wiring)) in
      record {
        forth = moved queues forth;
        back = moved queues back;
        client = client.1.stands;
        server = server.1.stands;
        program = server.1.program_is ∙ sym client.1.program_is;
        there = new_queue there.0;
        there_is = there.1;
        there_new = refl;
        again = new_queue again.0;
        again_is = again.1;
        again_new = refl;
      }

  by_ring : SideLaws → (n ring : ℕ) (x : Binding) (y : BindingCores) (c d : OneCore) (program : Program) → slice_get b.world.bindings n ≡ Some x
      → slice_get b.joined.bindings n ≡ Some y → y.opened ≡ None → slice_get b.cores x.client ≡ Some c → slice_get b.cores x.server ≡ Some d
      → set_up.ByRing b.world n x program ring → ByRing b.joined n c d
  by_ring l n ring x y c d program x_is y_is unopened c_is d_is q =
      let client = ends_stand (client_of n) x y c program (Ring (2 * ring)) x_is y_is unopened c_is q.client in
      let server = ends_stand (server_of n) x y d program (Ring (2 * ring + 1)) x_is y_is unopened d_is q.server in
      let mc = made_of x.client c c_is in
      let md = made_of x.server d d_is in
      let one = side_owner b.world b.parts parts_ready b.places b.core_threads b.outcomes h.shares x.client (2 * ring) mc.core mc.core_is
      (inr (client_of n, stood_wiring b.asked mc.core (client_of n) program (Ring (2 * ring)) client.0)) in
      let two = side_owner b.world b.parts parts_ready b.places b.core_threads b.outcomes h.shares x.server (2 * ring + 1) md.core md.core_is
      (inr (server_of n, stood_wiring b.asked md.core (server_of n) program (Ring (2 * ring + 1)) server.0)) in
      let many : length b.parts.rings.items ≡ length b.world.rings = ap length parts_ready.rings in
      let within = q.within in
      record {
        one = moved sides (2 * ring);
        two = moved sides (2 * ring + 1);
        client = client.1.stands;
        server = server.1.stands;
        program = server.1.program_is ∙ sym client.1.program_is;
        ring = ring_crosses l b.parts b.places b.joined.jobs b.core_threads b.outcomes b.cores h.shares h.runs ring x.client x.server c d
            (omega (arith, within, many)) one two c_is d_is;
      }

  -- each binding of the set-up is joined off links
  pub off_links : SideLaws → (n : ℕ) (y : BindingCores) → slice_get b.joined.bindings n ≡ Some y → y.opened ≡ None → IsOffLinks b.joined b.cores n y
  off_links l n y y_is unopened =
      let (x, at, is) = set_up_first b.made.bindings.items b.asked b.joined h.bound n y y_is unopened in
      let x_is : slice_get b.world.bindings n ≡ Some x = ap (λ (bs : List Binding). slice_get bs n) (sym h.made.bindings) ∙ at in
      by_kind x x_is is (h.fresh.joined n x x_is)
    where
      cores_of : (x : Binding) (c d : OneCore) → y ≡ bound_of x → slice_get b.cores x.client ≡ Some c → slice_get b.cores x.server ≡ Some d → HasCores b.cores y c d
      cores_of x c d is c_is d_is = record {
        client = ap (λ (z : BindingCores). slice_get b.cores z.client) is ∙ c_is;
        server = ap (λ (z : BindingCores). slice_get b.cores z.server) is ∙ d_is;
      }

      by_kind : (x : Binding) → slice_get b.world.bindings n ≡ Some x → y ≡ bound_of x → set_up.IsJoined b.world n x → IsOffLinks b.joined b.cores n y
      by_kind x x_is is j = elim j.joined [
        | inl q ↦ queues_join x x_is is j.program q.0 q.1 q.2
        | inr q ↦ ring_joins x x_is is j.program q.0 q.1
      ]
        where
          queues_join : (z : Binding) → slice_get b.world.bindings n ≡ Some z → y ≡ bound_of z → (program : Program) (forth back : ℕ)
              → set_up.ByQueues b.world n z program forth back → IsOffLinks b.joined b.cores n y
          queues_join z z_is same program forth back q =
              let (c, c_is) = core_ran z.client q.client.core q.client.core_is in
              let too : slice_get b.cores z.server ≡ Some c = ap (slice_get b.cores) (sym q.one_core) ∙ c_is in
              record {
                client = c;
                server = c;
                cores = cores_of z c c same c_is too;
                joined = inl (refl, by_queues n forth back z y c program z_is y_is unopened c_is q);
              }

          ring_joins : (z : Binding) → slice_get b.world.bindings n ≡ Some z → y ≡ bound_of z → (program : Program) (ring : ℕ)
              → set_up.ByRing b.world n z program ring → IsOffLinks b.joined b.cores n y
          ring_joins z z_is same program ring q =
              let (c, c_is) = core_ran z.client q.client.core q.client.core_is in
              let (d, d_is) = core_ran z.server q.server.core q.server.core_is in
              record {
                client = c;
                server = d;
                cores = cores_of z c d same c_is d_is;
                joined = inr (by_ring l n ring z y c d program z_is y_is unopened c_is d_is q);
              }
