-- What a circuit carries along a route.
use Rattle.std.proofs.Common.{◌≡◌, refl, sym, ap, ◌∙◌, ℕ, List, [], ◌∷◌}
use Rattle.fl_base.specs.declared.fragment.Frag.{Frag}
use Rattle.fl_base.specs.declared.identity.LinkId.{LinkId}
use Rattle.fl_base.specs.declared.identity.Circuit.{Circuit as Number}
use Rattle.fl_base.specs.Prefix.{IsPrefix}
use Rattle.fl_cores_shares.specs.Settled.{RingsConserve}
use Rattle.fl_hop.specs.OfCircuit.{of_circuit}
use Rattle.fl_hop.specs.Stretch.{taken_from, put_on}
use Rattle.fl_core.specs.declared.core_job.CoreJob.{CoreJob}
use Rattle.fl_core_run_laws.specs.Flows.{LogsFlow}
use Rattle.fl_cores_laws.specs.Cores.{shared_ways, OneCore, Went}
use Rattle.fl_cores_laws.specs.Circuits.{Leading, AreOneLink, Point, Station, behind, PassesOn, IsRoute}
use Rattle.fl_cores_laws.proofs.Prefixes.{then_on, as_same}
use Rattle.fl_cores_laws.proofs.OverLinks.{both_ways}

-- of a prefix a circuit carries a prefix
abbrev pub CircuitsPrefix : Type 0
CircuitsPrefix = (c : ℕ) (got sent : List Frag) → IsPrefix got sent → IsPrefix (of_circuit c got) (of_circuit c sent)

module _ (flow : LogsFlow shared_ways) (rings : RingsConserve) (prefix : CircuitsPrefix) (jobs : List CoreJob) where
  -- what went over a core's links
  abbrev pub out_of : (c : OneCore) → Went jobs c → LinkId → List Frag
  out_of c w l = put_on l.0 (flow jobs c.start c.finish c.log w.core w.apart w.goes).steps

  abbrev pub into : (c : OneCore) → Went jobs c → LinkId → List Frag
  into c w l = taken_from l.0 (flow jobs c.start c.finish c.log w.core w.apart w.goes).steps

  -- ---- over one link

  abbrev BothWays : (out got out2 got2 : List Frag) → Type 0
  BothWays out got out2 got2 = IsPrefix got2 out × IsPrefix got out2

  over_link : (c d : OneCore) (l m : LinkId) (w : Went jobs c) (v : Went jobs d) → AreOneLink c l d m → BothWays (out_of c w l) (into c w l) (out_of d v m) (into d v m)
  over_link c d l m w v link =
      let f = flow jobs c.start c.finish c.log w.core w.apart w.goes in
      let g = flow jobs d.start d.finish d.log v.core v.apart v.goes in
      both_ways rings c d f.steps g.steps f.links g.links l m link

  -- ---- through one core

  abbrev on : Number → List Frag → List Frag
  on n frags = of_circuit n.0 frags

  through_core : (binding : ℕ) (x : Station) (p : PassesOn jobs binding x)
      → (on x.next (out_of x.core p.leading.went x.onto) ≡ on x.number (into x.core p.leading.went x.from))
      × (on x.number (out_of x.core p.leading.went x.from) ≡ on x.next (into x.core p.leading.went x.onto))
  through_core binding x p =
      let w = p.leading.went in
      let f = flow jobs x.core.start x.core.finish x.core.log w.core w.apart w.goes in (
        f.passes p.leading.led p.leading.table x.from x.onto x.number x.next binding p.entry,
        f.passes p.leading.led p.leading.table x.onto x.from x.next x.number binding (p.leading.table.both x.from x.onto x.number x.next binding p.entry),
      )

  -- ---- along a route

  pub along_route : (binding : ℕ) (p : Point) (w : Leading jobs p.core) (stations : List Station) (q : Point) (v : Leading jobs q.core) → IsRoute jobs binding p stations q
      → IsPrefix (on q.number (into q.core v.went q.link)) (on p.number (out_of p.core w.went p.link))
      × IsPrefix (on p.number (into p.core w.went p.link)) (on q.number (out_of q.core v.went q.link))
  along_route binding p w [] q v route =
      let both = over_link p.core q.core p.link q.link w.went v.went route.0 in (
        as_same (on p.number (into q.core v.went q.link)) (on q.number (into q.core v.went q.link)) (on p.number (out_of p.core w.went p.link)) (on p.number (out_of p.core w.went p.link))
            (ap (λ (n : Number). on n (into q.core v.went q.link)) (sym route.1)) refl
            (prefix p.number.0 (into q.core v.went q.link) (out_of p.core w.went p.link) both.0),
        as_same (on p.number (into p.core w.went p.link)) (on p.number (into p.core w.went p.link)) (on p.number (out_of q.core v.went q.link)) (on q.number (out_of q.core v.went q.link))
            refl (ap (λ (n : Number). on n (out_of q.core v.went q.link)) (sym route.1))
            (prefix p.number.0 (into p.core w.went p.link) (out_of q.core v.went q.link) both.1),
      )
  along_route binding p w (x ∷ stations) q v route =
      let u = route.2.leading.went in
      let both = over_link p.core x.core p.link x.from w.went u route.0 in
      let passed = through_core binding x route.2 in
      let rest = along_route binding (behind x) route.2.leading stations q v route.3 in
      let near : on p.number (into x.core u x.from) ≡ on x.next (out_of x.core u x.onto) =
      ap (λ (n : Number). on n (into x.core u x.from)) (sym route.1) ∙ sym passed.0 in
      let far : on p.number (out_of x.core u x.from) ≡ on x.next (into x.core u x.onto) =
      ap (λ (n : Number). on n (out_of x.core u x.from)) (sym route.1) ∙ passed.1 in (
        then_on (on q.number (into q.core v.went q.link)) (on x.next (out_of x.core u x.onto)) (on p.number (out_of p.core w.went p.link)) rest.0
            (as_same (on p.number (into x.core u x.from)) (on x.next (out_of x.core u x.onto)) (on p.number (out_of p.core w.went p.link)) (on p.number (out_of p.core w.went p.link))
            near refl (prefix p.number.0 (into x.core u x.from) (out_of p.core w.went p.link) both.0)),
        then_on (on p.number (into p.core w.went p.link)) (on x.next (into x.core u x.onto)) (on q.number (out_of q.core v.went q.link))
            (as_same (on p.number (into p.core w.went p.link)) (on p.number (into p.core w.went p.link)) (on p.number (out_of x.core u x.from)) (on x.next (into x.core u x.onto))
            refl far (prefix p.number.0 (into p.core w.went p.link) (out_of x.core u x.from) both.1)) rest.1,
      )
