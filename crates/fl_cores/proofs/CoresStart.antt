-- A core as the set-up made it, with rules set at once: no circuit leads to an end, none is there, and nothing is to be said.
use Rattle.std.proofs.Common.{◌≡◌, refl, sym, ap, ◌∙◌, subst, ℕ, ◌+◌, ◌*◌, ◌<◌, inl, inr, List, [], length, slice_get, Option, Some, None, arith}
use Rattle.std.proofs.lemmas.Option.{same_Some}
use Rattle.std.proofs.lemmas.List.{length-map}
use Rattle.fl_base.specs.declared.fragment.Frag.{Frag}
use Rattle.fl_base.specs.declared.identity.EndId.{EndId}
use Rattle.fl_base.specs.declared.identity.Side.{Side}
use Rattle.fl_base.specs.declared.identity.Side.TheVariants.{Client, Server}
use Rattle.fl_base.specs.Given.{given}
use Rattle.fl_compile.specs.declared.program.Program.{Program}
use Rattle.fl_hop.specs.Table.{hop_at}
use Rattle.fl_hop.proofs.Lists.{at_within, within}
use Rattle.fl_monitor.specs.Monitors.{TheMonitor, waiting_for}
use Rattle.fl_core.specs.declared.wiring.LinkSide.{LinkSide}
use Rattle.fl_core.specs.declared.wiring.WiredEnd.{WiredEnd}
use Rattle.fl_core.specs.declared.wiring.EndWiring.{EndWiring}
use Rattle.fl_core.specs.declared.wiring.EndWiring.TheVariants.{Queues, Ring, Circuit}
use Rattle.fl_core.specs.Numbers.{moved_link_side, moved_wiring, moved_wired_end, renumbered}
use Rattle.fl_core.specs.View.{TheCore, place_in, place_of, arrivals_by, client_of, server_of}
use Rattle.fl_cores_file.specs.Jobs.{Job}
use Rattle.fl_cores_file.specs.Report.{TheReport}
use Rattle.fl_world_refines.specs.declared.binding.Binding.{Binding}
use Rattle.fl_world_refines.specs.View.{TheWorld, core_in}
use Rattle.fl_world.specs.Booting.{TheConfig}
use Rattle.fl_core_refines.specs.SetUpStart.{SetUpsStartFresh, StartsFresh, IsIdle, Stands, IsJoined}
use Rattle.fl_cores_jobs.specs.declared.end_work.BindingCores.{BindingCores}
use Rattle.fl_cores_jobs.specs.State.{TheJoinedJobs}
use Rattle.fl_cores_laws.proofs.Turns.{from_map}
use Rattle.fl_cores.proofs.Booted.{all_making}
use Rattle.fl_cores.specs.Promised.{Reports}
use Rattle.fl_cores.specs.Behind.{joined_in}
use Rattle.fl_cores.proofs.CoresEnding.{end_by}
use Rattle.fl_cores.proofs.CoresCoreThreads.{on_boards}

pub record StartsQuiet (j : TheJoinedJobs) (k : TheCore) : Type 0 where
  pub off_links : (e : EndId) (place : ℕ) (p : WiredEnd) → place_of k e ≡ Some place → slice_get k.wired_ends place ≡ Some p → arrivals_by p.wiring ≡ None
  pub absent : (e : EndId) (b : BindingCores) (job : ℕ) → slice_get j.bindings e.binding ≡ Some b → b.opened ≡ Some job → place_of k e ≡ None
  pub quiet : (l : ℕ) → waiting_for k.monitor.outboxes l ≡ []
  pub idle : (l i : ℕ) → l < length k.link_sides → hop_at k.monitor.circuits l i ≡ None

-- ---- whatever numbers it has for sides and queues

same_arrivals : (sides queues : List ℕ) (x : EndWiring) → arrivals_by (moved_wiring sides queues x) ≡ arrivals_by x
same_arrivals sides queues (Queues out from) = refl
same_arrivals sides queues (Ring side) = refl
same_arrivals sides queues (Circuit link arrivals) = refl

renumbered_quiet : (j : TheJoinedJobs) (sides queues : List ℕ) (k : TheCore) → StartsQuiet j k → StartsQuiet j (renumbered sides queues k)
renumbered_quiet j sides queues k starts = record {
  off_links = λ e place p at there.
      let (before, was, is) = from_map (moved_wired_end sides queues) k.wired_ends place p there in
      ap (λ (x : WiredEnd). arrivals_by x.wiring) (sym is) ∙ same_arrivals sides queues before.wiring ∙ starts.off_links e place before at was;
  absent = starts.absent;
  quiet = starts.quiet;
  idle = λ l i below. (let link_sides = length-map k.link_sides (moved_link_side sides) in starts.idle l i (omega (arith, below, link_sides)));
}

pub quiet_renumbered : (j : TheJoinedJobs) (sides queues : List ℕ) (k k2 : TheCore) → k2 ≡ renumbered sides queues k → StartsQuiet j k → StartsQuiet j k2
quiet_renumbered j sides queues k k2 is starts = subst (λ (x : TheCore). StartsQuiet j x) (sym is) (renumbered_quiet j sides queues k starts)

-- ---- as the set-up made it

no_frags : (o : Option (List Frag)) → ((frags : List Frag) → o ≡ Some frags → frags ≡ []) → given o [] (λ (x : List Frag). x) ≡ []
no_frags None none = refl
no_frags (Some frags) none = none frags refl

module _ (fresh : SetUpsStartFresh) (c : TheConfig) (jobs : List Job) (limit : ℕ) (r : TheReport) (w : Reports c jobs limit r) where
  abbrev world : TheWorld
  world = w.ran.made.world

  starts : StartsFresh world
  starts = fresh c.cores c.setup world (all_making c.setup w.accepted.making) w.ran.made.stands.1.shown

  module _ (n : ℕ) (k : TheCore) (at : slice_get world.cores n ≡ Some k) where
    idle : IsIdle k
    idle = starts.idle n k at

    -- where an end stands whose wire is known
    on_wiring : (e : EndId) (place : ℕ) (p : WiredEnd) (home : ℕ) (program : Program) (wiring : EndWiring) → home ≡ n → Stands world home e program wiring → place_of k e ≡ Some place
        → slice_get k.wired_ends place ≡ Some p → p.wiring ≡ wiring
    on_wiring e place p home program wiring here s placed there =
        let same : s.core ≡ k = same_Some s.core k (sym s.core_is ∙ ap (λ (m : ℕ). slice_get world.cores m) here ∙ at) in
        let places : s.place ≡ place = same_Some s.place place (sym s.place_is ∙ ap (λ (x : TheCore). place_of x e) same ∙ placed) in
        let wired_end : s.wired_end ≡ p =
        same_Some s.wired_end p (sym s.wired_end_is ∙ ap (λ (x : TheCore). slice_get x.wired_ends s.place) same ∙ ap (λ (i : ℕ). slice_get k.wired_ends i) places ∙ there) in
        ap (λ (x : WiredEnd). x.wiring) (sym wired_end) ∙ s.wiring_is

    by_side : (e : EndId) (place : ℕ) (p : WiredEnd) (b : Binding) → IsJoined world e.binding b → (s : Side) → e.side ≡ s → core_in s b ≡ n → place_of k e ≡ Some place
        → slice_get k.wired_ends place ≡ Some p → arrivals_by p.wiring ≡ None
    by_side e place p b joined Client side home placed there =
        let is : e ≡ client_of e.binding = end_by e e.binding Client refl side in
        let found : place_of k (client_of e.binding) ≡ Some place = ap (λ (x : EndId). place_of k x) (sym is) ∙ placed in
        elim joined.joined [
          | inl q ↦ ap arrivals_by (on_wiring (client_of e.binding) place p b.client joined.program (Queues q.0 q.1) home q.2.client found there)
          | inr q ↦ ap arrivals_by (on_wiring (client_of e.binding) place p b.client joined.program (Ring (2 * q.0)) home q.1.client found there)
        ]
    by_side e place p b joined Server side home placed there =
        let is : e ≡ server_of e.binding = end_by e e.binding Server refl side in
        let found : place_of k (server_of e.binding) ≡ Some place = ap (λ (x : EndId). place_of k x) (sym is) ∙ placed in
        elim joined.joined [
          | inl q ↦ ap arrivals_by (on_wiring (server_of e.binding) place p b.server joined.program (Queues q.1 q.0) home q.2.server found there)
          | inr q ↦ ap arrivals_by (on_wiring (server_of e.binding) place p b.server joined.program (Ring (2 * q.0 + 1)) home q.1.server found there)
        ]

    on_no_circuit : (e : EndId) (place : ℕ) (p : WiredEnd) → place_of k e ≡ Some place → slice_get k.wired_ends place ≡ Some p → arrivals_by p.wiring ≡ None
    on_no_circuit e place p placed there =
        let (b, stands, home) = starts.bindings n place k e at placed in
        by_side e place p b (starts.joined e.binding b stands) e.side refl home placed there

    absent_by : (e : EndId) (b : BindingCores) (job : ℕ) → slice_get (joined_in w).bindings e.binding ≡ Some b → b.opened ≡ Some job → (o : Option ℕ) → place_of k e ≡ o → o ≡ None
    absent_by e b job bound opened None placed = refl
    absent_by e b job bound opened (Some place) placed =
        let (x, stands, home) = starts.bindings n place k e at placed in
        let below : e.binding < length world.bindings = within world.bindings e.binding x stands in
        let many : length w.ran.parts.bindings.items ≡ length world.bindings = ap length w.ran.made.parts.bindings in
        let none : b.opened ≡ None = w.ran.ran.are_bound.unopened e.binding b bound (omega (arith, below, many)) in
        absurd (let clash : Some job ≡ None = sym opened ∙ none in cc)

    made_quiet : StartsQuiet (joined_in w) k
    made_quiet = record {
      off_links = on_no_circuit;
      absent = λ e b job bound opened. (let gone = absent_by e b job bound opened (place_of k e) refl in gone);
      quiet = λ l. no_frags (slice_get k.monitor.outboxes l) (λ frags there. idle.outboxes l frags there);
      idle = λ l i below.
          let (link_side, there) = at_within k.link_sides l below in
          idle.entries l i link_side.side (ap (λ (o : Option LinkSide). given o None (λ (x : LinkSide). Some x.side)) there);
    }

  -- with rules set at once
  pub ruled_quiet : (n : ℕ) (k : TheCore) → slice_get w.ran.ran.parts.cores.items n ≡ Some k → StartsQuiet (joined_in w) k
  ruled_quiet n k at =
      let before = w.ran.parts in
      let was = (on_boards before.bindings.items jobs before.cores.items w.ran.ran.parts.cores.items w.ran.ran.rules).each n k at in
      let made = made_quiet n was.core (ap (λ (ks : List TheCore). slice_get ks n) (sym w.ran.made.parts.cores) ∙ was.core_is) in
      let same_place : (e : EndId) → place_of k e ≡ place_of was.core e = λ e. ap (λ (ps : List (Option ℕ)). place_in ps e) was.places in
      record {
        off_links = λ e place p placed there.
            made.off_links e place p (sym (same_place e) ∙ placed) (ap (λ (ps : List WiredEnd). slice_get ps place) (sym was.wired_ends) ∙ there);
        absent = λ e b job bound opened. same_place e ∙ made.absent e b job bound opened;
        quiet = λ l. ap (λ (m : TheMonitor). waiting_for m.outboxes l) was.monitor ∙ made.quiet l;
        idle = λ l i below.
            let link_sides : length k.link_sides ≡ length was.core.link_sides = ap length was.link_sides in
            ap (λ (m : TheMonitor). hop_at m.circuits l i) was.monitor ∙ made.idle l i (omega (arith, below, link_sides));
      }
