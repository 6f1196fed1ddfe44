-- A circuit's route, followed back.
use Rattle.std.proofs.Common.{◌≡◌, ◌⊎◌, inl, inr, refl, ap, ℕ, zero, suc, List, [], ◌∷◌, length, slice_get, Some}
use Rattle.fl_base.specs.declared.identity.LinkId.{LinkId}
use Rattle.fl_base.specs.declared.identity.Circuit.{Circuit as Number}
use Rattle.fl_hop.specs.declared.entry.Hop.{Hop}
use Rattle.fl_hop.specs.declared.entry.HopTarget.TheVariants.{Link, End}
use Rattle.fl_hop.specs.Joined.{Leads}
use Rattle.fl_hop.specs.Numbers.{OpenedThere}
use Rattle.fl_hop.specs.Table.{hop_at}
use Rattle.fl_core.specs.View.{client_of}
use Rattle.fl_core.specs.declared.core_job.CoreJob.{CoreJob}
use Rattle.fl_cores_laws.specs.Cores.{OneCore}
use Rattle.fl_cores_laws.specs.Circuits.{Point, Station, IsRoute}
use Rattle.fl_cores_laws.specs.Neighbours.{ComesFrom, EntriesLeadBack}
use Rattle.fl_cores_laws.specs.Back.{HasNeighbour, AreLinked, IsFirst, GoesOn, GoesBack, RoutesGoBack}

module _ (back : EntriesLeadBack) (jobs : List CoreJob) (cores : List OneCore) (linked : AreLinked jobs cores) where
  -- the entry's side at the neighbour
  abbrev Before : (binding : ℕ) (c : OneCore) (l : LinkId) (n : Number) → Type 0
  Before binding c l n = Leads c.finish.core.monitor.circuits l.0 n.0 binding (End (client_of binding))
      ⊎ ((x : LinkId) × (i : Number) × ComesFrom c.finish.core.monitor.circuits x i l n binding)

  before : (place : ℕ) (d : OneCore) (m : LinkId) (n : Number) (hop : Hop) → slice_get cores place ≡ Some d → OpenedThere d.finish.core.monitor.circuits m.0 n.0
      → hop_at d.finish.core.monitor.circuits m.0 n.0 ≡ Some hop → (x : HasNeighbour cores d m) → Before hop.binding x.core x.link n
  before place d m n hop is there at x =
      back jobs x.core d x.link m (linked.leading x.place x.core x.core_is) (linked.leading place d is) (linked.unused x.place x.core x.core_is) (linked.unused place d is) x.one n hop there at

  goes_on : (binding : ℕ) (place : ℕ) (c : OneCore) (l : LinkId) (n : Number) (stations : List Station) (count : ℕ) → slice_get cores place ≡ Some c → length stations ≡ count
      → Before binding c l n → IsFirst binding (record { core = c; link = l; number = n }) ⊎ GoesOn cores binding (record { core = c; link = l; number = n }) stations count
  goes_on binding place c l n stations count is long (inl first) = inl first
  goes_on binding place c l n stations count is long (inr (x, i, comes)) =
      inr (record { long = long; place = place; core_is = is; link = x; number = i; comes = comes })

  -- one station more
  one_more : (binding : ℕ) (q : Point) (count : ℕ) (p : Point) (stations : List Station) → IsRoute jobs binding p stations q → GoesOn cores binding p stations count
      → GoesBack jobs cores binding q (suc count)
  one_more binding q count p stations route g =
      let x = linked.linked g.place g.number.0 p.core g.link g.core_is g.comes.given in
      let station : Station = record { core = p.core; from = g.link; number = g.number; onto = p.link; next = p.number } in
      let hop : Hop = record { binding = binding; way = Link p.link p.number; answered = g.comes.leads.answered } in
      record {
        point = record { core = x.core; link = x.link; number = g.number };
        stations = station ∷ stations;
        route = (x.one, refl, record { leading = linked.leading g.place p.core g.core_is; entry = g.comes.leads }, route);
        before = goes_on binding x.place x.core x.link g.number (station ∷ stations) (suc count) x.core_is (ap suc g.long)
            (before g.place p.core g.link g.number hop g.core_is g.comes.given g.comes.leads.there x);
      }

  further : (binding : ℕ) (q : Point) (count : ℕ) (p : Point) (stations : List Station) → IsRoute jobs binding p stations q → IsFirst binding p ⊎ GoesOn cores binding p stations count
      → GoesBack jobs cores binding q (suc count)
  further binding q count p stations route (inl first) = record { point = p; stations = stations; route = route; before = inl first }
  further binding q count p stations route (inr g) = one_more binding q count p stations route g

pub go_back : EntriesLeadBack → RoutesGoBack
go_back back jobs cores linked place q hop is there at zero =
    let x = linked.linked place q.number.0 q.core q.link is there in
    record {
      point = record { core = x.core; link = x.link; number = q.number };
      stations = [];
      route = (x.one, refl);
      before = goes_on back jobs cores linked hop.binding x.place x.core x.link q.number [] 0 x.core_is refl (before back jobs cores linked place q.core q.link q.number hop is there at x);
    }
go_back back jobs cores linked place q hop is there at (suc count) =
    let g = go_back back jobs cores linked place q hop is there at count in
    further back jobs cores linked hop.binding q count g.point g.stations g.route g.before
