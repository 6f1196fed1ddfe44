-- The cores of a reported run begin as a world that shows the machine; so what they do is its run.
use Rattle.std.proofs.Common.{◌≡◌, inl, inr, refl, sym, ◌∙◌, ap, subst, ℕ, ◌+◌, ◌*◌, ◌<◌, List, length, slice_get, Option, Some, None}
use Rattle.fl_base.specs.declared.identity.EndId.{EndId}
use Rattle.fl_compile.specs.declared.program.Program.{Program}
use Rattle.fl_core.specs.declared.wiring.EndWiring.{EndWiring}
use Rattle.fl_core.specs.declared.wiring.EndWiring.TheVariants.{Queues, Ring}
use Rattle.fl_core.specs.View.{TheCore, place_in, place_of, server_of}
use Rattle.fl_core.specs.declared.core_job.CoreJob.{CoreJob}
use Rattle.fl_core_run.specs.Run.{TheRun}
use Rattle.fl_core_run.specs.LogEntries.{LogEntry}
use Rattle.fl_hop.proofs.Lists.{set_here}
use Rattle.fl_core_refines.specs.SetUpStart.{SetUpsStartFresh, StartsFresh, Stands}
use Rattle.fl_cores.specs.Behind.{joined_in}
use Rattle.fl_cores.specs.OneCore.{begins}
use Rattle.fl_cores.specs.Promised.{Reports}
use Rattle.fl_cores.specs.Wanted.{behind}
use Rattle.fl_cores.proofs.Booted.{all_making}
use Rattle.fl_cores.proofs.CoresCoreThreads.{OnBoards, on_boards}
use Rattle.fl_cores.proofs.OneRules.{ShownWith, rules_shown}
use Rattle.fl_cores.proofs.StartShared.{AreReady, are_ready}
use Rattle.fl_cores_file.specs.Jobs.{Job}
use Rattle.fl_cores_file.specs.Report.{TheReport}
use Rattle.fl_cores_jobs.specs.Rules.{RulesOf}
use Rattle.fl_link.specs.Queue.{TheQueue}
use Rattle.fl_ring.specs.Duo.{TheDuo}
use Rattle.fl_ring.specs.SharedSides.{TheSide}
use Rattle.fl_world.specs.Booting.{TheConfig}
use Rattle.fl_world_refines.specs.Making.{new_duo}
use Rattle.fl_world_refines.specs.declared.binding.Binding.{Binding}
use Rattle.fl_world_refines.specs.declared.parts.Parts.{Parts}
use Rattle.fl_world_refines.specs.View.{TheWorld, ring_at, IsWhole}
use Rattle.fl_world_refines.proofs.FramesBase.{gets, same_some}
use Rattle.fl_cores_joined.specs.Joined.{JoinedCore, UnmadeHaveNoRules, IsJoined, AreWhole, alone}
use Rattle.fl_cores_joined.specs.Laws.{TheyShow}
use Rattle.fl_cores_joined.specs.Runs.{RunsJoin}
use Rattle.fl_cores_joined.proofs.Seated.{closed_world, closed_shows, binding_there, none_kept}
use Rattle.fl_world_refines.specs.ShowsState.{Shows}
use Rattle.fl_cores_joined.proofs.Passing.{long_map}
use Rattle.fl_cores_whole.specs.Begin.{renewed, IsBehind, HandedOutJoin}
use Rattle.fl_cores_joined.specs.Entries.{OpenLooks, none_open, left_open, AreBeforeLooks, moments_of, StepsInterleave}
use Rattle.fl_cores_joined.specs.Steps.{true_ways}
use Rattle.fl_cores_joined.proofs.Earlier.{whole_back}
use Rattle.fl_cores_whole.specs.Whole.{begun, ReportsJoin, StepsOfReportsJoin}
use Rattle.fl_cores_whole.proofs.Asking.{open_rightly}
use Rattle.fl_cores_whole.proofs.Renewed.{RingsAreFresh, begins_fresh, renewed_world, renewed_shows}

module _ (fresh : SetUpsStartFresh) (c : TheConfig) (jobs : List Job) (limit : ℕ) (r : TheReport) (w : Reports c jobs limit r) where
  abbrev pub made : TheWorld
  made = w.ran.made.world

  abbrev first : Parts
  first = w.ran.parts

  abbrev pub parts : Parts
  parts = w.ran.ran.parts

  starts : StartsFresh made
  starts = fresh c.cores c.setup made (all_making c.setup w.accepted.making) w.ran.made.stands.1.shown

  pub ready : AreReady made parts
  ready = are_ready made first parts jobs starts w.ran.made.parts w.ran.ran.rules w.ran.ran.beside

  rules : RulesOf made.bindings jobs made.cores parts.cores.items
  rules =
      subst (λ (bs : List Binding). RulesOf bs jobs made.cores parts.cores.items) w.ran.made.parts.bindings
      (subst (λ (ks : List TheCore). RulesOf first.bindings.items jobs ks parts.cores.items) w.ran.made.parts.cores w.ran.ran.rules)

  -- the set-up's world, with the rules of the jobs
  pub shown : ShownWith made parts.cores.items (begins c jobs)
  shown = rules_shown jobs made (behind c) parts.cores.items w.ran.made.stands.1.shown rules

  core_then : (n : ℕ) (k : TheCore) → slice_get shown.world.cores n ≡ Some k → slice_get parts.cores.items n ≡ Some k
  core_then n k is = ap (λ (ks : List TheCore). slice_get ks n) (sym shown.cores_are) ∙ is

  -- its world, where no end that is made is kept at its binding, with new rings
  abbrev closed : TheWorld
  closed = closed_world shown.world (begins c jobs) shown.shows

  pub fresh_rings : RingsAreFresh (begins c jobs)
  fresh_rings = begins_fresh c.cores c.setup jobs (all_making c.setup w.accepted.making)

  abbrev pub world : TheWorld
  world = renewed_world closed (begins c jobs) (closed_shows shown.world (begins c jobs) shown.shows) fresh_rings

  pub world_shows : Shows world (begins c jobs)
  world_shows = renewed_shows closed (begins c jobs) (closed_shows shown.world (begins c jobs) shown.shows) fresh_rings

  -- each binding of a set-up has its server's end at a core; so none is kept
  on : OnBoards made.cores parts.cores.items
  on = on_boards made.bindings jobs made.cores parts.cores.items rules

  stands_there : (e : EndId) (m : ℕ) (program : Program) (wiring : EndWiring) (stands : Stands made m e program wiring)
      → (k : TheCore) × (slice_get world.cores m ≡ Some k) × (place_of k e ≡ Some stands.place)
  stands_there e m program wiring stands =
      let (k, k_is) = gets made.cores parts.cores.items m stands.core on.count stands.core_is in
      let was = on.each m k k_is in
      let same = same_some (slice_get made.cores m) was.core stands.core was.core_is stands.core_is in (
        k,
        ap (λ (ks : List TheCore). slice_get ks m) shown.cores_are ∙ k_is,
        ap (λ (ps : List (Option ℕ)). place_in ps e) (was.places ∙ ap (λ (x : TheCore). x.places) same) ∙ stands.place_is,
      )

  unruled : UnmadeHaveNoRules world
  unruled n now end now_is end_is =
      let (b, b_is) = binding_there shown.world (begins c jobs) shown.shows n now now_is in
      let (there, there_is) = gets (begins c jobs).bindings shown.world.bindings n b shown.shows.showing.bindings.count b_is in
      let its = starts.joined n there (ap (λ (bs : List Binding). slice_get bs n) (sym shown.bindings) ∙ there_is) in
      elim its.joined [
        | inl (forth, back, queues) ↦
            (let (k, k_is, place) = stands_there (server_of n) there.server its.program (Queues back forth) queues.server in
            absurd (none_kept shown.world (begins c jobs) shown.shows (server_of n) there.server queues.server.place k now end refl k_is place now_is end_is))
        | inr (ring, sides) ↦
            (let (k, k_is, place) = stands_there (server_of n) there.server its.program (Ring (2 * ring + 1)) sides.server in
            absurd (none_kept shown.world (begins c jobs) shown.shows (server_of n) there.server sides.server.place k now end refl k_is place now_is end_is))
      ]

  pub is_behind : IsBehind world parts
  is_behind = record {
    unruled = unruled;
    parts = record {
      cores = sym shown.cores_are;
      rings = ap renewed (shown.rings ∙ sym (w.ran.ran.beside.rings ∙ w.ran.made.parts.rings));
      queues = w.ran.ran.beside.queues ∙ w.ran.made.parts.queues ∙ sym shown.queues;
      programs = w.ran.ran.beside.programs ∙ w.ran.made.parts.programs ∙ sym shown.programs;
      names = w.ran.ran.beside.names ∙ w.ran.made.parts.names ∙ sym shown.names;
    };
    side_cores = λ n m side k l k_is l_is a b. ready.side_cores n m side k l (core_then n k k_is) (core_then m l l_is) a b;
    queue_cores = λ n m queue k l k_is l_is a b. ready.queue_cores n m queue k l (core_then n k k_is) (core_then m l l_is) a b;
    sides = λ n side k k_is a.
        subst (λ (many : ℕ). ring_at side < many) (sym (long_map (λ (d : TheDuo). new_duo d.size) shown.world.rings ∙ ap length shown.rings))
        (ready.there n side k (core_then n k k_is) a);
    queues = λ n queue k k_is a.
        let it = ready.new n queue k (core_then n k k_is) a in
        (it.0, ap (λ (qs : List TheQueue). slice_get qs queue) shown.queues ∙ it.1);
  }

-- its cores, as their threads are given them
pub joined_first : (fresh : SetUpsStartFresh) → HandedOutJoin → (c : TheConfig) (jobs : List Job) (limit : ℕ) (r : TheReport) (w : Reports c jobs limit r)
    → IsJoined (world fresh c jobs limit r w) (begun w)
joined_first fresh handed c jobs limit r w =
    handed (world fresh c jobs limit r w) w.ran.ran.parts (joined_in w) w.ran.ran.ran.places w.ran.ran.ran.core_threads w.ran.ran.ran.outcomes
    (is_behind fresh c jobs limit r w) w.ran.ran.ran.sound.begin w.ran.ran.ran.begin w.ran.ran.ran.shares

pub they_show : (fresh : SetUpsStartFresh) → HandedOutJoin → (c : TheConfig) (jobs : List Job) (limit : ℕ) (r : TheReport) (w : Reports c jobs limit r)
    → TheyShow (begun w) (begins c jobs)
they_show fresh handed c jobs limit r w = record {
  world = world fresh c jobs limit r w;
  joined = joined_first fresh handed c jobs limit r w;
  shows = world_shows fresh c jobs limit r w;
}

pub reports_join : SetUpsStartFresh → HandedOutJoin → RunsJoin → ReportsJoin
reports_join fresh handed runs c jobs limit r w moments ys h still in_turn =
    runs (joined_in w).jobs (begun w) ys moments (begins c jobs) (they_show fresh handed c jobs limit r w) h still
    (open_rightly c jobs limit r w moments (begins c jobs) ys h) in_turn

-- cores were whole before looks, too
pub whole_before_looks : (jobs : List CoreJob) (pending : OpenLooks) (ys ms : List JoinedCore) → AreBeforeLooks jobs pending ys ms → AreWhole ys → AreWhole ms
whole_before_looks jobs pending ys ms before still n x x_is = by (pending n) refl
  where
    by : (o : Option LogEntry) → pending n ≡ o → IsWhole x.run.core
    by None none = still n x (sym (before.others n none) ∙ x_is)
    by (Some look) some =
        let (zs, h, same) = before.looking n look some in
        let then_it : JoinedCore = record h.before { run = alone h.after } in
        let at : slice_get zs n ≡ Some then_it = ap (λ (l : List JoinedCore). slice_get l n) h.rest ∙ set_here ms n h.before then_it h.before_is in
        let behind : IsWhole h.after.core = still n then_it (sym same ∙ at) in
        let first : IsWhole h.before.run.core =
        subst (λ (t : TheRun TheSide). IsWhole t.core) h.beside_is.own (whole_back true_ways look h.beside h.after h.happens behind) in
        subst (λ (z : JoinedCore). IsWhole z.run.core) (same_some (slice_get ms n) h.before x h.before_is x_is) first

pub steps_join : StepsInterleave → ReportsJoin → StepsOfReportsJoin
steps_join interleave join c jobs limit r w steps ys h still =
    let (ms, moments, before) = interleave (joined_in w).jobs (begun w) ys steps h in
    record {
      cores = ms;
      order = moments;
      before = before;
      runs = λ in_turn.
          join c jobs limit r w (moments_of steps) ms moments
          (whole_before_looks (joined_in w).jobs (left_open none_open steps) ys ms before still) in_turn;
    }
