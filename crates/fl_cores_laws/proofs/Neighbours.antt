-- What one core heard of a number is what its neighbour said.
use Rattle.std.proofs.Common.{◌≡◌, ◌⊎◌, inl, inr, refl, sym, ap, ◌∙◌, subst, ℕ, [], slice_get, Option, Some, None, arith}
use Rattle.fl_base.specs.declared.identity.LinkId.{LinkId}
use Rattle.fl_base.specs.declared.identity.Circuit.{Circuit as Number}
use Rattle.fl_base.specs.Prefix.{IsPrefix}
use Rattle.fl_cores_shares.specs.Settled.{RingsConserve}
use Rattle.fl_endpoint.specs.Laws.{OnAnotherCircuit}
use Rattle.fl_hop.specs.declared.entry.Hop.{Hop}
use Rattle.fl_hop.specs.declared.entry.HopTarget.{HopTarget}
use Rattle.fl_hop.specs.declared.entry.HopTarget.TheVariants.{Link, End}
use Rattle.fl_hop.specs.Joined.{Leads, IsClientWay}
use Rattle.fl_hop.specs.Table.{TheCircuits, hop_at, leading}
use Rattle.fl_hop.proofs.Answering.{numbers_apart}
use Rattle.fl_hop.specs.OfCircuit.{of_circuit}
use Rattle.fl_hop.specs.Stretch.{put_on, taken_from}
use Rattle.fl_monitor.specs.Monitors.{TheMonitor}
use Rattle.fl_core.specs.View.{client_of}
use Rattle.fl_core_run_laws.proofs.Stepping.{log_steps}
use Rattle.fl_cores_laws.specs.Cores.{shared_ways}
use Rattle.fl_cores_laws.specs.Named.{IsGivenFor, AreNamed, AreRefused}
use Rattle.fl_cores_laws.specs.Neighbours.{IsUnused, GoesNamed, CoresName, StandsHere, NeighboursAgree, ComesFrom, EntriesLeadBack}
use Rattle.fl_cores_laws.proofs.Logged.{log_keeps}
use Rattle.fl_cores_laws.proofs.LoggedNames.{names_kept}
use Rattle.fl_cores_laws.proofs.LoggedRefusals.{refusals_kept}
use Rattle.fl_cores_laws.proofs.OverLinks.{none_waits, side_carries, both_ways, has_before}
use Rattle.fl_cores_laws.proofs.Routes.{CircuitsPrefix}

-- ---- at the start

pub unused_named : (m : TheMonitor) → IsUnused m → AreNamed (λ l. []) (λ l. []) m
unused_named m u = record {
  asked = λ l f c binding has asks. elim has [
    | inl none ↦ absurd none
    | inr waits ↦ absurd (none_waits f (slice_get m.outboxes l) (u.outboxes l) waits)
  ];
  told = λ l n hop there at. (let (k, less, is) = there.among in let none = (u.counts l there.link there.there).1 in absurd (omega (arith, less, none)));
}

unused_refused : (m : TheMonitor) → IsUnused m → AreRefused (λ l. []) (λ l. []) m
unused_refused m u = record {
  refused = λ l f c reason has says_it. elim has [
    | inl none ↦ absurd none
    | inr waits ↦ absurd (none_waits f (slice_get m.outboxes l) (u.outboxes l) waits)
  ];
  gone = λ l n here at. (let (k, less, is) = here.among in let none = (u.counts l here.link here.there).0 in absurd (omega (arith, less, none)));
}

-- ---- a core

pub cores_name : OnAnotherCircuit → CoresName
cores_name on jobs c v unused =
    let g = v.went.goes in
    record {
      steps = log_steps shared_ways jobs c.log c.start c.finish g;
      links = λ l n p link_side there. side_carries shared_ways jobs c.log c.start c.finish g v.went.apart l n p link_side there;
      named = log_keeps AreNamed jobs (names_kept jobs) shared_ways on c.log c.start c.finish g (λ l. []) (λ l. []) v.led v.table (unused_named c.start.core.monitor unused);
      refused = log_keeps AreRefused jobs (refusals_kept jobs) shared_ways on c.log c.start c.finish g (λ l. []) (λ l. []) v.led v.table (unused_refused c.start.core.monitor unused);
    }

-- ---- over one link

pub neighbours_agree : RingsConserve → CircuitsPrefix → CoresName → NeighboursAgree
neighbours_agree rings prefix names jobs c d l m v u unused unused2 link n hop there at = by (hop_at c.finish.core.monitor.circuits l.0 n) refl where
  x : GoesNamed c
  x = names jobs c v unused

  y : GoesNamed d
  y = names jobs d u unused2

  both : IsPrefix (taken_from m.0 y.steps) (put_on l.0 x.steps) × IsPrefix (taken_from l.0 x.steps) (put_on m.0 y.steps)
  both = both_ways rings c d x.steps y.steps x.links y.links l m link

  given_for : IsGivenFor c.finish.core.monitor.circuits l.0 n hop.binding
  given_for =
      let asked = y.named.told m.0 n hop there at in
      let came = prefix 0 (taken_from m.0 y.steps) (put_on l.0 x.steps) both.0 in
      let has = has_before asked.frag (of_circuit 0 (taken_from m.0 y.steps)) (of_circuit 0 (put_on l.0 x.steps)) came asked.has in
      subst (λ (i : ℕ). IsGivenFor c.finish.core.monitor.circuits l.0 i hop.binding) asked.number (x.named.asked l.0 asked.frag asked.circuit hop.binding (inl has) asked.asks)

  by : (o : Option Hop) → hop_at c.finish.core.monitor.circuits l.0 n ≡ o → StandsHere c.finish.core.monitor.circuits l.0 n hop.binding
  by (Some h) is = record { given = given_for.given; hop = h; there = is; binding_is = given_for.entry h is }
  by None is =
      let gone = x.refused.gone l.0 n given_for.given is in
      let came = prefix 0 (taken_from l.0 x.steps) (put_on m.0 y.steps) both.1 in
      let has = has_before gone.frag (of_circuit 0 (taken_from l.0 x.steps)) (of_circuit 0 (put_on m.0 y.steps)) came gone.has in
      let free = y.refused.refused m.0 gone.frag gone.circuit gone.reason (inl has) gone.says in
      let clash : Some hop ≡ None = sym at ∙ sym (ap (hop_at d.finish.core.monitor.circuits m.0) gone.number) ∙ free.none in
      absurd (cc)

-- ---- one station back

pub leads_of : (t : TheCircuits) (l n : ℕ) (h : Hop) (binding : ℕ) (way : HopTarget) → hop_at t l n ≡ Some h → h.binding ≡ binding → h.way ≡ way → Leads t l n binding way
leads_of t l n h binding way at same is =
    record { answered = h.answered; there = at ∙ ap (λ (b : ℕ). leading b h.answered h.way) same ∙ ap (λ (w : HopTarget). leading binding h.answered w) is }

pub lead_back : NeighboursAgree → EntriesLeadBack
lead_back agree jobs c d l m v u unused unused2 link n hop there at = by s.hop.way refl where
  s : StandsHere c.finish.core.monitor.circuits l.0 n.0 hop.binding
  s = agree jobs c d l m v u unused unused2 link n.0 hop there at

  by : (way : HopTarget) → s.hop.way ≡ way → Leads c.finish.core.monitor.circuits l.0 n.0 hop.binding (End (client_of hop.binding)) ⊎ ((x : LinkId) × (i : Number) × ComesFrom c.finish.core.monitor.circuits x i l n hop.binding)
  by way is = elim (v.table.toward l.0 n.0 hop.binding way (leads_of c.finish.core.monitor.circuits l.0 n.0 s.hop hop.binding way s.there s.binding_is is)) [
    | inl here ↦ own way is here.1
    | inr other ↦ absurd (numbers_apart c.finish.core.monitor.circuits v.table l.0 n.0 s.given other.0)
  ]
    where
      own : (w : HopTarget) → s.hop.way ≡ w → IsClientWay c.finish.core.monitor.circuits.core c.finish.core.monitor.circuits.links hop.binding w → Leads c.finish.core.monitor.circuits l.0 n.0 hop.binding (End (client_of hop.binding)) ⊎ ((x : LinkId) × (i : Number) × ComesFrom c.finish.core.monitor.circuits x i l n hop.binding)
      own (End e) same client = inl (leads_of c.finish.core.monitor.circuits l.0 n.0 s.hop hop.binding (End (client_of hop.binding)) s.there s.binding_is (same ∙ ap End client))
      own (Link x i) same taken =
          inr (
            x,
            i,
            record {
              given = taken;
              leads = v.table.both l x n i hop.binding (leads_of c.finish.core.monitor.circuits l.0 n.0 s.hop hop.binding (Link x i) s.there s.binding_is same);
            },
          )
