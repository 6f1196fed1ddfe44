-- Where both ends of a binding are bound in the end, the route from the server's end goes back to the client's.
use Rattle.std.proofs.Common.{◌≡◌, ◌⊎◌, inl, inr, sym, ap, ◌∙◌, subst, ℕ, List, [], ◌∷◌, length, slice_get, Some, None}
use Rattle.fl_base.specs.declared.identity.EndId.{EndId}
use Rattle.fl_base.specs.declared.identity.LinkId.{LinkId}
use Rattle.fl_base.specs.declared.identity.Circuit.{Circuit as Number}
use Rattle.fl_hop.specs.declared.entry.Hop.{Hop}
use Rattle.fl_hop.specs.declared.entry.HopTarget.TheVariants.{End}
use Rattle.fl_hop.specs.Joined.{Leads, Sound}
use Rattle.fl_hop.specs.Table.{TheCircuits}
use Rattle.fl_core.proofs.BoardPlaces.{one_stands}
use Rattle.fl_core.specs.declared.wiring.WiredEnd.{WiredEnd}
use Rattle.fl_core.specs.View.{TheCore, place_of, client_of, server_of}
use Rattle.fl_core.specs.declared.core_job.CoreJob.{CoreJob}
use Rattle.fl_core_run.specs.Run.{SideRelations, TheRun}
use Rattle.fl_core_run.specs.LogEntries.{LogEntry}
use Rattle.fl_core_run_laws.specs.Logs.{Goes}
use Rattle.fl_core_run_laws.specs.Led.{IsSettled}
use Rattle.fl_core_run_laws.proofs.Aside.{core_aside}
use Rattle.fl_core_run_laws.proofs.CircuitsMade.{MadeOn, does_make, places_to, wired_ends_to}
use Rattle.fl_core_run_laws.proofs.Newcomers.{Absent}
use Rattle.fl_core_run_laws.proofs.NumberedLogs.{log_led}
use Rattle.fl_core_run_laws.proofs.Tables.{leads_at}
use Rattle.fl_cores_jobs.specs.EndWork.{TheEndWork}
use Rattle.fl_cores_laws.specs.Cores.{OneCore, shared_ways}
use Rattle.fl_cores_laws.specs.Circuits.{Leading, Point, StandsBound, IsRoute, CircuitsAreHonest}
use Rattle.fl_cores_laws.specs.Stands.{point_at}
use Rattle.fl_cores_laws.specs.Whole.{IsLast, RoutesBegin, AreBound, BoundEndsMeet, ClientsAreHome, BoundIsHonest}

-- ---- an end that was made in the run has its name

module _ {S : Type 0} (w : SideRelations S) (jobs : List CoreJob) (name : EndId) where
  made_name : (log : List LogEntry) (s t : TheRun S) → Goes w jobs s log t → MadeOn name s.core → (e : ℕ) (p : WiredEnd) → place_of t.core name ≡ Some e → slice_get t.core.wired_ends e ≡ Some p → p.name ≡ name
  made_name log s t h b e p at there =
      let places : Some b.place ≡ Some e = sym (places_to w jobs name log s t b.place h b.place_is) ∙ at in
      let place : b.place ≡ e = cc in
      let wired_ends = one_stands t.core.wired_ends b.place b.wired_end p (wired_ends_to w jobs name log s t b.place b.wired_end h b.wired_end_is) (subst (λ (i : ℕ). slice_get t.core.wired_ends i ≡ Some p) (sym place) there) in
      ap (λ (x : WiredEnd). x.name) (sym wired_ends) ∙ b.name_is

  named_since : (log : List LogEntry) (s t : TheRun S) → Goes w jobs s log t → Absent name s.core → (e : ℕ) (p : WiredEnd) → place_of t.core name ≡ Some e → slice_get t.core.wired_ends e ≡ Some p → p.name ≡ name
  named_since [] s t h absent e p at there = absurd (let no : Some e ≡ None = sym at ∙ ap (λ (x : TheRun S). place_of x.core name) h ∙ absent in cc)
  named_since (log_entry ∷ log) s t h absent e p at there =
      by (does_make w jobs name log_entry s h.1.0 h.1.3.core absent h.2 h.1.1) (λ still. named_since log h.0 t h.3 still e p at there) where
        same : h.0.core ≡ h.1.0.core
        same = core_aside h.1.0 h.0 log_entry h.1.2

        by : Absent name h.1.0.core ⊎ MadeOn name h.1.0.core → (Absent name h.0.core → p.name ≡ name) → p.name ≡ name
        by (inl still) onward = onward (ap (λ (k : TheCore). place_of k name) same ∙ still)
        by (inr b) onward = made_name log h.0 t h.3 (subst (MadeOn name) (sym same) b) e p at there

-- ---- the entry of an end that is bound in the end

module _ (jobs : List CoreJob) (d : TheEndWork) (e : EndId) (p : Point) (v : Leading jobs p.core) (s : StandsBound jobs d e p) where
  name_is : s.wired_end.name ≡ e
  name_is = named_since shared_ways jobs e p.core.log p.core.start p.core.finish v.went.goes s.absent s.place s.wired_end s.place_is s.wired_end_is

  pub settled : IsSettled p.core.finish.core.monitor.circuits p.link.0 p.number.0 e
  settled =
      let led = (log_led shared_ways jobs p.core.log p.core.start p.core.finish v.went.goes v.led).ends s.place s.arrivals p.link s.wired_end s.seat s.wired_end_is s.wiring_is s.seat_is in
      subst (IsSettled p.core.finish.core.monitor.circuits p.link.0 p.number.0) name_is (led.bound p.number.0 s.circuit)

  entry : (hop : Hop) × Leads p.core.finish.core.monitor.circuits p.link.0 p.number.0 hop.binding (End e)
  entry = (settled.hop, leads_at p.core.finish.core.monitor.circuits p.link.0 p.number.0 settled.hop (End e) settled.there settled.way)

-- what leads to an end is of its binding
of_binding : (t : TheCircuits) → Sound t → (l n binding : ℕ) (e : EndId) → Leads t l n binding (End e) → binding ≡ e.binding
of_binding t sound l n binding e x = elim (sound.toward l n binding (End e) x) [
  | inl own ↦ sym (ap (λ (y : EndId). y.binding) own.1)
  | inr given ↦ sym (ap (λ (y : EndId). y.binding) given.1)
]

pub bound_entry : (jobs : List CoreJob) (d : TheEndWork) (e : EndId) (p : Point) → Leading jobs p.core → StandsBound jobs d e p → Leads p.core.finish.core.monitor.circuits p.link.0 p.number.0 e.binding (End e)
bound_entry jobs d e p v s =
    let (hop, leads) = entry jobs d e p v s in
    subst (λ (b : ℕ). Leads p.core.finish.core.monitor.circuits p.link.0 p.number.0 b (End e)) (of_binding p.core.finish.core.monitor.circuits v.table p.link.0 p.number.0 hop.binding e leads) leads

-- ---- one number leads to an end

one_entry : (t : TheCircuits) → Sound t → (binding : ℕ) (e : EndId) (l m : LinkId) (c d : Number) → Leads t l.0 c.0 binding (End e) → Leads t m.0 d.0 binding (End e) → (l ≡ m) × (c ≡ d)
one_entry t sound binding e l m c d x y = elim (sound.one l m c d binding (End e) (End e) x y) [
  | inl same ↦ same
  | inr other ↦ absurd (cc)
]

one_point : (binding : ℕ) (e : EndId) (p q : Point) → p.core ≡ q.core → Sound q.core.finish.core.monitor.circuits → Leads p.core.finish.core.monitor.circuits p.link.0 p.number.0 binding (End e)
    → Leads q.core.finish.core.monitor.circuits q.link.0 q.number.0 binding (End e) → p ≡ q
one_point binding e p q same sound x y =
    let here : Leads q.core.finish.core.monitor.circuits p.link.0 p.number.0 binding (End e) =
    subst (λ (c : OneCore). Leads c.finish.core.monitor.circuits p.link.0 p.number.0 binding (End e)) same x in
    let both = one_entry q.core.finish.core.monitor.circuits sound binding e p.link q.link p.number q.number here y in
    ap (λ (c : OneCore). point_at c p.link p.number) same ∙ ap (λ (l : LinkId). point_at q.core l p.number) both.0 ∙ ap (λ (n : Number). point_at q.core q.link n) both.1

one_of : (n m : ℕ) (c d : OneCore) (cores : List OneCore) → slice_get cores n ≡ Some c → slice_get cores m ≡ Some d → n ≡ m → c ≡ d
one_of n m c d cores is is2 same = (let found : Some c ≡ Some d = sym is ∙ ap (slice_get cores) same ∙ is2 in cc)

pub ends_meet : RoutesBegin → BoundEndsMeet
ends_meet begin j cores paired n p q b home =
    let v = paired.leading b.client_place p.core b.client_core in
    let u = paired.leading b.server_place q.core b.server_core in
    let last : IsLast n q = bound_entry j.jobs _ (server_of n) q u b.server in
    let r = begin j.jobs cores paired n b.server_place q b.server_core last in
    let place = home r.place r.point.core r.point.link.0 r.point.number.0 r.core_is r.first in
    let cored = one_of r.place b.client_place r.point.core p.core cores r.core_is b.client_core place in
    let first = bound_entry j.jobs _ (client_of n) p v b.client in
    let same = one_point n (client_of n) r.point p cored v.table r.first first in
    record {
      client = b.client;
      server = b.server;
      program = b.program;
      stations = r.stations;
      route = subst (λ (x : Point). IsRoute j.jobs n x r.stations q) same r.route;
    }

-- so what is told of the binding is honest
pub bound_honest : BoundEndsMeet → ClientsAreHome → CircuitsAreHonest → BoundIsHonest
bound_honest meet home honest asked j cores joined paired own n p q b =
    let v = paired.leading b.bound.client p.core b.cores_are.client in
    let u = paired.leading b.bound.server q.core b.cores_are.server in
    let both : AreBound j cores n p q = record {
      client_place = b.bound.client;
      client_core = b.cores_are.client;
      client = b.client;
      server_place = b.bound.server;
      server_core = b.cores_are.server;
      server = b.server;
      program = b.program;
    } in
    honest asked j (length cores) n p q joined v u b.client_progress b.server_progress
    (meet j cores paired n p q both (home asked j cores joined paired own n b.bound b.bound_is))
