-- Bindings off links: what is told of them is honest.
use Rattle.std.proofs.Common.{◌≡◌, ◌⊎◌, inl, inr, refl, sym, ap, ◌∙◌, subst, ℕ, List, [], map, length, slice_get, Option, Some, None}
use Rattle.fl_base.specs.declared.identity.Side.{Side}
use Rattle.fl_base.specs.declared.identity.Side.TheVariants.{Client, Server}
use Rattle.fl_base.specs.declared.identity.EndId.{EndId}
use Rattle.fl_base.specs.Control.{bare}
use Rattle.fl_base.specs.Ends.{peer}
use Rattle.fl_base.specs.Prefix.{IsPrefix}
use Rattle.fl_link.specs.Laws.{QueueLaw}
use Rattle.fl_cores_shares.specs.Settled.{RingsConserve}
use Rattle.fl_compile.specs.Programs.{program_of}
use Rattle.fl_core.specs.declared.wiring.EndWiring.{EndWiring}
use Rattle.fl_core.specs.declared.wiring.EndWiring.TheVariants.{Queues, Ring}
use Rattle.fl_core.specs.View.{client_of, server_of}
use Rattle.fl_core_run_laws.specs.Carried.{RulesComeFirst, traffic}
use Rattle.fl_core_run_laws.specs.Flows.{LogsFlow}
use Rattle.fl_core_run_laws.specs.Agree.{Arrived, CarriedOffLinks}
use Rattle.fl_cores_file.specs.Jobs.{Job, handed_in}
use Rattle.fl_cores_file.specs.Report.{TheReport, at_end}
use Rattle.fl_cores_jobs.specs.declared.end_work.BindingCores.{BindingCores}
use Rattle.fl_cores_jobs.specs.EndWork.{end_work_at}
use Rattle.fl_cores_jobs.specs.State.{TheJoinedJobs, AreJoined}
use Rattle.fl_cores_laws.specs.Cores.{shared_ways, OneCore, Went}
use Rattle.fl_cores_laws.specs.Ends.{HasProgress, StandsReady}
use Rattle.fl_cores_laws.specs.Told.{handled_by, made_by, IsOf, AreTold}
use Rattle.fl_cores_laws.specs.Bindings.{Party, IsParty, PartiesAreHonest, AreHonest, ByQueues, ByRing, HasCores, ReportsAreHonest}
use Rattle.fl_cores_laws.proofs.Prefixes.{as_same}
use Rattle.fl_cores_laws.proofs.Passages.{through_queues, through_rings}
use Rattle.fl_cores_laws.proofs.Starts.{off_links_arrived, flows_of, carried, ran, on_zero}

-- what the laws below say of what passes, beside that of ends' progress
pub record Passing : Type 0 where
  pub flow : LogsFlow shared_ways
  pub rules_first : RulesComeFirst shared_ways
  pub off_links : CarriedOffLinks
  pub queues : QueueLaw
  pub rings : RingsConserve

module _ (l : Passing) (honest : PartiesAreHonest) (asked : List Job) (j : TheJoinedJobs) (cores : List OneCore) (joined : AreJoined (length cores) asked j) where
  abbrev party : (c : OneCore) (e : EndId) (wiring : EndWiring) (w : Went j.jobs c) → StandsReady j.jobs (end_work_at j.end_works e) c.start e wiring → Party
  party c e wiring w r = record {
    end_work = end_work_at j.end_works e;
    core = c;
    put = (flows_of l.flow l.rules_first j.jobs c w).put e;
    took = (flows_of l.flow l.rules_first j.jobs c w).took e;
    end = (carried l.flow l.rules_first j.jobs (end_work_at j.end_works e) c e wiring w r).after.end;
  }

  is_party : (c : OneCore) (e : EndId) (wiring : EndWiring) (w : Went j.jobs c) (r : StandsReady j.jobs (end_work_at j.end_works e) c.start e wiring)
      → HasProgress (end_work_at j.end_works e) c.start e → IsParty asked j.jobs e (party c e wiring w r)
  is_party c e wiring w r h = record {
    end_work = joined.each e;
    progress = h;
    went = w;
    ran = ran l.flow l.rules_first j.jobs (end_work_at j.end_works e) c e wiring h w r;
  }

  program_is : (c : OneCore) (e : EndId) (wiring : EndWiring) (w : Went j.jobs c) (r : StandsReady j.jobs (end_work_at j.end_works e) c.start e wiring)
      → (party c e wiring w r).end.program ≡ r.seat.end.program
  program_is c e wiring w r = (carried l.flow l.rules_first j.jobs (end_work_at j.end_works e) c e wiring w r).goes.program

  arrived : (c : OneCore) (e : EndId) (wiring : EndWiring) (w : Went j.jobs c) (r : StandsReady j.jobs (end_work_at j.end_works e) c.start e wiring)
      → HasProgress (end_work_at j.end_works e) c.start e → (q : Party) → IsPrefix q.took (map bare (party c e wiring w r).put) → Arrived q.took (party c e wiring w r).put
  arrived c e wiring w r h q p =
      let k = ran l.flow l.rules_first j.jobs (end_work_at j.end_works e) c e wiring h w r in
      off_links_arrived l.off_links (traffic e k.had c.log (party c e wiring w r).put (party c e wiring w r).took) (party c e wiring w r).end
      k.since (on_zero l.flow l.rules_first j.jobs (end_work_at j.end_works e) c e wiring w r) q.took p

  -- two ends, of which what each took is the first of what the other put
  both : (n : ℕ) (c d : OneCore) (wiring wire2 : EndWiring) (w : Went j.jobs c) (v : Went j.jobs d)
      (r : StandsReady j.jobs (end_work_at j.end_works (client_of n)) c.start (client_of n) wiring)
      (s : StandsReady j.jobs (end_work_at j.end_works (server_of n)) d.start (server_of n) wire2)
      → HasProgress (end_work_at j.end_works (client_of n)) c.start (client_of n) → HasProgress (end_work_at j.end_works (server_of n)) d.start (server_of n)
      → program_of s.seat.end.program ≡ program_of r.seat.end.program
      → IsPrefix (party d (server_of n) wire2 v s).took (map bare (party c (client_of n) wiring w r).put)
      → IsPrefix (party c (client_of n) wiring w r).took (map bare (party d (server_of n) wire2 v s).put)
      → AreHonest asked j n c d
  both n c d wiring wire2 w v r s h g program there again =
      let client = is_party c (client_of n) wiring w r h in
      let server = is_party d (server_of n) wire2 v s g in
      let same : program_of (party d (server_of n) wire2 v s).end.program ≡ program_of (party c (client_of n) wiring w r).end.program =
      ap program_of (program_is d (server_of n) wire2 v s) ∙ program ∙ sym (ap program_of (program_is c (client_of n) wiring w r)) in
      let came = arrived c (client_of n) wiring w r h (party d (server_of n) wire2 v s) there in
      let went = arrived d (server_of n) wire2 v s g (party c (client_of n) wiring w r) again in
      let one = honest asked j.jobs (client_of n) (party c (client_of n) wiring w r) (party d (server_of n) wire2 v s) client server same came went in
      let two = honest asked j.jobs (server_of n) (party d (server_of n) wire2 v s) (party c (client_of n) wiring w r) server client (sym same) went came in
      record { there = one.handled; again = two.handled; client = one.made; server = two.made }

  by_queues : (n : ℕ) (c : OneCore) (w : Went j.jobs c) (b : ByQueues j n c)
      → HasProgress (end_work_at j.end_works (client_of n)) c.start (client_of n) → HasProgress (end_work_at j.end_works (server_of n)) c.start (server_of n)
      → AreHonest asked j n c c
  by_queues n c w b h g =
      let f = flows_of l.flow l.rules_first j.jobs c w in
      both n c c (Queues b.forth b.back) (Queues b.back b.forth) w w b.client b.server h g b.program
      (through_queues l.queues (map bare (f.put (client_of n))) (f.took (server_of n)) b.there c.finish.queues b.forth b.there_new
      (f.queues (client_of n) (server_of n) b.client.place b.server.place b.forth b.back b.back b.client.wired_end b.server.wired_end b.there
      b.client.place_is b.client.wired_end_is b.client.wiring_is b.server.place_is b.server.wired_end_is b.server.wiring_is b.there_is))
      (through_queues l.queues (map bare (f.put (server_of n))) (f.took (client_of n)) b.again c.finish.queues b.back b.again_new
      (f.queues (server_of n) (client_of n) b.server.place b.client.place b.back b.forth b.forth b.server.wired_end b.client.wired_end b.again
      b.server.place_is b.server.wired_end_is b.server.wiring_is b.client.place_is b.client.wired_end_is b.client.wiring_is b.again_is))

  by_ring : (n : ℕ) (c d : OneCore) (w : Went j.jobs c) (v : Went j.jobs d) (b : ByRing j n c d)
      → HasProgress (end_work_at j.end_works (client_of n)) c.start (client_of n) → HasProgress (end_work_at j.end_works (server_of n)) d.start (server_of n)
      → AreHonest asked j n c d
  by_ring n c d w v b h g =
      let f = flows_of l.flow l.rules_first j.jobs c w in
      let k = flows_of l.flow l.rules_first j.jobs d v in
      let crossed = through_rings l.rings c.start.rings c.finish.rings d.start.rings d.finish.rings b.one b.two b.ring
      (map bare (f.put (client_of n))) (f.took (client_of n)) (map bare (k.put (server_of n))) (k.took (server_of n))
      (f.rings (client_of n) b.client.place b.one b.client.wired_end b.ring.one b.client.place_is b.client.wired_end_is b.client.wiring_is b.ring.one_is)
      (k.rings (server_of n) b.server.place b.two b.server.wired_end b.ring.two b.server.place_is b.server.wired_end_is b.server.wiring_is b.ring.two_is) in
      both n c d (Ring b.one) (Ring b.two) w v b.client b.server h g b.program crossed.0 crossed.1

  abbrev Joined : OneCore → OneCore → ℕ → Type 0
  Joined c d n = ((c ≡ d) × ByQueues j n c) ⊎ ByRing j n c d

  pub by_either : (n : ℕ) (c d : OneCore) → Went j.jobs c → Went j.jobs d → Joined c d n
      → HasProgress (end_work_at j.end_works (client_of n)) c.start (client_of n) → HasProgress (end_work_at j.end_works (server_of n)) d.start (server_of n)
      → AreHonest asked j n c d
  by_either n c d w v (inl (same, b)) h g =
      subst (λ (x : OneCore). AreHonest asked j n c x) same
      (by_queues n c w b h (subst (λ (x : OneCore). HasProgress (end_work_at j.end_works (server_of n)) x.start (server_of n)) (sym same) g))
  by_either n c d w v (inr b) h g = by_ring n c d w v b h g

-- ---- the whole

none_of : {X : Type 0} (xs ys zs : List X) → xs ≡ [] → IsPrefix xs ys
none_of xs ys zs none = as_same [] xs ys ys (sym none) refl (ys, refl)

module _ (asked : List Job) (j : TheJoinedJobs) (cores : List OneCore) (r : TheReport) (told : AreTold j cores r.made r.handled) where
  abbrev EndIsHonest : EndId → Type 0
  EndIsHonest e = IsPrefix (at_end r.handled e) (at_end r.made (peer e)) × IsPrefix (at_end r.made e) (handed_in asked e)

  told_of : (n : ℕ) (c d : OneCore) (s : Side) → IsOf j cores (client_of n) c → IsOf j cores (server_of n) d → AreHonest asked j n c d
      → EndIsHonest (record { binding = n; side = s })
  told_of n c d Client a b h = (
    as_same (handled_by c.finish (client_of n)) (at_end r.handled (client_of n)) (made_by j.jobs (end_work_at j.end_works (server_of n)) d.finish (server_of n)) (at_end r.made (server_of n))
        (sym (told.handled (client_of n) c a)) (sym (told.made (server_of n) d b)) h.again,
    as_same (made_by j.jobs (end_work_at j.end_works (client_of n)) c.finish (client_of n)) (at_end r.made (client_of n)) (handed_in asked (client_of n)) (handed_in asked (client_of n))
        (sym (told.made (client_of n) c a)) refl h.client,
  )
  told_of n c d Server a b h = (
    as_same (handled_by d.finish (server_of n)) (at_end r.handled (server_of n)) (made_by j.jobs (end_work_at j.end_works (client_of n)) c.finish (client_of n)) (at_end r.made (client_of n))
        (sym (told.handled (server_of n) d b)) (sym (told.made (client_of n) c a)) h.there,
    as_same (made_by j.jobs (end_work_at j.end_works (server_of n)) d.finish (server_of n)) (at_end r.made (server_of n)) (handed_in asked (server_of n)) (handed_in asked (server_of n))
        (sym (told.made (server_of n) d b)) refl h.server,
  )

  told_none : (e : EndId) → slice_get j.bindings e.binding ≡ None → EndIsHonest e
  told_none e none = (
    none_of (at_end r.handled e) (at_end r.made (peer e)) [] (told.no_more e none).0,
    none_of (at_end r.made e) (handed_in asked e) [] (told.no_more e none).1,
  )

by_binding : (asked : List Job) (j : TheJoinedJobs) (cores : List OneCore) (r : TheReport)
    → ((n : ℕ) (b : BindingCores) → slice_get j.bindings n ≡ Some b → (c : OneCore) × (d : OneCore) × HasCores cores b c d × AreHonest asked j n c d)
    → (told : AreTold j cores r.made r.handled) (e : EndId) (o : Option BindingCores) → slice_get j.bindings e.binding ≡ o → EndIsHonest asked j cores r told e
by_binding asked j cores r each told e None is = told_none asked j cores r told e is
by_binding asked j cores r each told e (Some b) is =
    let (c, d, at, honest) = each e.binding b is in
    told_of asked j cores r told e.binding c d e.side (record { bound = b; bound_is = is; core_is = at.client }) (record { bound = b; bound_is = is; core_is = at.server }) honest

pub reports : ReportsAreHonest
reports asked j cores r each told = record {
  handled = λ e. (by_binding asked j cores r each told e (slice_get j.bindings e.binding) refl).0;
  made = λ e. (by_binding asked j cores r each told e (slice_get j.bindings e.binding) refl).1;
}
