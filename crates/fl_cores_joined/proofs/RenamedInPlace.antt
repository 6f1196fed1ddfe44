-- What happens in its place does so under other numbers of bindings.
use Rattle.std.proofs.Common.{◌≡◌, ◌∙◌, ◌&&◌, ◌<◌, if◌then◌else◌, ℕ, refl, arith, Bool, List, None, Option, Some, ap, length, nat_lt, not, slice_get, sym, true}
use Rattle.fl_base.specs.Control.{circuit_of}
use Rattle.fl_base.specs.Given.{given}
use Rattle.fl_base.specs.Numbered.{most_bindings}
use Rattle.fl_base.specs.declared.fragment.Frag.{Frag}
use Rattle.fl_base.specs.declared.identity.Circuit.{Circuit}
use Rattle.fl_base.specs.declared.identity.EndId.{EndId}
use Rattle.fl_base.specs.declared.identity.LinkId.{LinkId}
use Rattle.fl_core.specs.BoardView.{TheBoard}
use Rattle.fl_core.specs.View.{client_of, place_of, side_of_link}
use Rattle.fl_core.specs.declared.core_job.OpenRequest.{OpenRequest}
use Rattle.fl_core.specs.declared.wiring.Inlet.{Inlet}
use Rattle.fl_core.specs.declared.wiring.LinkSide.{LinkSide}
use Rattle.fl_core.specs.declared.wiring.Outlet.{Outlet}
use Rattle.fl_core_run.specs.LogEntries.{IsSoundAt}
use Rattle.fl_core_run.specs.Run.{TheRun, lends_in, lends_out, lent_due, lent_link_side, lent_post, lent_ring_end, side_in}
use Rattle.fl_core_run.specs.Steps.{may_ask}
use Rattle.fl_core_run.specs.declared.lent.LentPutEnd.{LentPutEnd}
use Rattle.fl_core_run.specs.declared.lent.LentRingEnd.{LentRingEnd}
use Rattle.fl_core_run.specs.declared.lent.LentTakeEnd.{LentTakeEnd}
use Rattle.fl_core_run_laws.specs.Logs.{GoesOnOver, LeadsTo}
use Rattle.fl_cores_joined.specs.Rings.{FacingSide}
use Rattle.fl_hop.specs.declared.entry.HopTarget.{HopTarget}
use Rattle.fl_link.specs.Queue.{TheQueue}
use Rattle.fl_model_laws.proofs.Small.{both_are}
use Rattle.fl_monitor.specs.Monitors.{can_say}
use Rattle.std.proofs.lemmas.Bool.Decides.{nat_tests}
use Rattle.std.specs.Prelude.{is_some}
use Rattle.fl_hop.specs.declared.entry.HopTarget.TheVariants.{Link}
use Rattle.fl_core.specs.declared.wiring.Outlet.TheVariants as outlet
use Rattle.fl_core.specs.declared.wiring.Inlet.TheVariants as inlet
use Rattle.fl_core.specs.View.{outlet_by, inlet_by, outlet_of, inlet_of}
use Rattle.fl_core.specs.BoardView.{due}
use Rattle.fl_cores_joined.specs.Renamed.{Renaming, end_under, way_under, request_under}
use Rattle.fl_cores_joined.proofs.RenamedTable.{few_same}
use Rattle.fl_cores_joined.proofs.RenamedLinks.{board_is, link_sides_are, leads_so, other_so, side_so, wiring_so}
use Rattle.fl_cores_joined.proofs.RenamedHears.{room_there}
use Rattle.fl_cores_joined.proofs.RenamedRun.{Runs}

module _ (r : Renaming) (links : ℕ → Bool) (sides : List ℕ) (s t : TheRun FacingSide) (u : Runs r links sides s t) where
  -- ---- over a link

  pub link_lent : (l : LinkId) → lent_link_side t l ≡ lent_link_side s l
  link_lent l =
      let it = link_sides_are r s.core t.core u.core in
      let many = u.count in
      λ i. given (side_of_link (it i) l.0) None λ n. if nat_lt n (many i) then Some n else None

  pub leads_there : (n : ℕ) (l : LinkId) (frag : Frag) (way : HopTarget) → LeadsTo s n l frag way → LeadsTo t n l frag (way_under r way)
  leads_there n l frag way h = record {
    link_side = link_lent l ∙ h.link_side;
    number = h.number;
    way_is = leads_so r s.core t.core u.core l.0 (circuit_of frag.control) way h.way_is;
    other = other_so r s.core t.core u.core l.0 way h.other;
  }

  pub goes_on_there : (n to : ℕ) (frag : Frag) (c : Circuit) → GoesOnOver s n to frag c → GoesOnOver t n to frag c
  goes_on_there n to frag c h = record {
    link = h.link;
    onward = h.onward;
    leads = leads_there n h.link frag (Link h.onward c) h.leads;
    side = side_so r s.core t.core u.core h.onward.0 ∙ h.side;
  }

  -- ---- at an end

  outlet_there : (e : ℕ) → outlet_of t.core e ≡ outlet_of s.core e
  outlet_there e =
      ap (λ (ls : List LinkSide). given (slice_get t.core.wired_ends e) None λ p. outlet_by ls p.wiring) (link_sides_are r s.core t.core u.core)
      ∙ wiring_so r s.core t.core u.core (outlet_by s.core.link_sides) e

  inlet_there : (e : ℕ) → inlet_of t.core e ≡ inlet_of s.core e
  inlet_there e = wiring_so r s.core t.core u.core (λ w. Some (inlet_by w)) e

  out_there : (out : Outlet) → lends_out t out ≡ lends_out s out
  out_there (outlet.Queue n) = ap (λ (qs : List TheQueue). nat_lt n (length qs)) u.queues
  out_there (outlet.Side n) = ap (nat_lt n) u.count

  in_there : (from : Inlet) → lends_in t from ≡ lends_in s from
  in_there (inlet.Queue n) = ap (λ (qs : List TheQueue). nat_lt n (length qs)) u.queues
  in_there (inlet.Side n) = ap (nat_lt n) u.count
  in_there inlet.Arrivals = refl

  abbrev post_in : TheRun FacingSide → ℕ → Option Outlet → Option LentPutEnd
  post_in x e o = given o None λ out. if lends_out x out then Some (record { end = e; outlet = out }) else None

  post_same : (e : ℕ) (o : Option Outlet) → post_in t e o ≡ post_in s e o
  post_same e None = refl
  post_same e (Some out) = ap (λ (b : Bool). if b then (let p : LentPutEnd = record { end = e; outlet = out } in Some p) else None) (out_there out)

  post_by : (o : Option ℕ) → (given o None λ e. post_in t e (outlet_of t.core e)) ≡ (given o None λ e. post_in s e (outlet_of s.core e))
  post_by None = refl
  post_by (Some e) = ap (post_in t e) (outlet_there e) ∙ post_same e (outlet_of s.core e)

  pub post_there : (name : EndId) → lent_post t (end_under r name) ≡ lent_post s name
  post_there name =
      ap (λ (o : Option ℕ). given o None λ e. post_in t e (outlet_of t.core e)) (u.core.places name) ∙ post_by (place_of s.core name)

  abbrev take_in : TheRun FacingSide → ℕ → Option Inlet → Option LentTakeEnd
  take_in x e o = given o None λ from. if lends_in x from then Some (record { end = e; inlet = from }) else None

  take_same : (e : ℕ) (o : Option Inlet) → take_in t e o ≡ take_in s e o
  take_same e None = refl
  take_same e (Some from) = ap (λ (b : Bool). if b then (let p : LentTakeEnd = record { end = e; inlet = from } in Some p) else None) (in_there from)

  take_by : (o : Option ℕ) → (given o None λ e. take_in t e (inlet_of t.core e)) ≡ (given o None λ e. take_in s e (inlet_of s.core e))
  take_by None = refl
  take_by (Some e) = ap (take_in t e) (inlet_there e) ∙ take_same e (inlet_of s.core e)

  pub due_lent : (d : ℕ) → lent_due t d ≡ lent_due s d
  due_lent d =
      ap (λ (b : TheBoard). given (due b d) None λ e. take_in t e (inlet_of t.core e)) (board_is r s.core t.core u.core) ∙ take_by (due s.core.board d)

  abbrev ring_in : ℕ → ℕ → Option Inlet → Option LentRingEnd
  ring_in many e o = given o None λ from. given (side_in from) None λ n. if nat_lt n many then Some (record { end = e; side = n }) else None

  ring_by : (o : Option ℕ) → (given o None λ e. ring_in (length t.rings) e (inlet_of t.core e))
      ≡ (given o None λ e. ring_in (length s.rings) e (inlet_of s.core e))
  ring_by None = refl
  ring_by (Some e) = let from = inlet_there e in let many = u.count in λ i. ring_in (many i) e (from i)

  pub ring_end_there : (name : EndId) → lent_ring_end t (end_under r name) ≡ lent_ring_end s name
  ring_end_there name =
      ap (λ (o : Option ℕ). given o None λ e. ring_in (length t.rings) e (inlet_of t.core e)) (u.core.places name) ∙ ring_by (place_of s.core name)

  pub may_there : (w : OpenRequest) → may_ask t (request_under r w) ≡ may_ask s w
  may_there w =
      let board = board_is r s.core t.core u.core in
      let offers = u.offers in
      let few = few_same r w.opening.binding in
      let place = u.core.places (client_of w.opening.binding) in
      let room = room_there r s.core.monitor.outboxes t.core.monitor.outboxes w.link.0 u.core.outboxes in
      λ i. nat_lt w.dispatcher (length (board i).dispatchers) && nat_lt w.interface (length (offers i).programs) && few i && not (is_some (place i)) && room i

  -- an end that is sound there is here
  pub acts_there : (name : EndId) → IsSoundAt s name → IsSoundAt t (end_under r name)
  acts_there name acts e seat at seat_is =
      acts e seat (sym (u.core.places name) ∙ at)
      (ap (λ (b : TheBoard). slice_get b.seats e) (sym (board_is r s.core t.core u.core)) ∙ seat_is)

-- a circuit that can be asked for has a number that a binding may have
pub asked_few : (s : TheRun FacingSide) (w : OpenRequest) → may_ask s w ≡ true → w.opening.binding < most_bindings
asked_few s w may =
    let one = nat_lt w.dispatcher (length s.core.board.dispatchers) in
    let two = nat_lt w.interface (length s.offers.programs) in
    let three = nat_lt w.opening.binding most_bindings in
    let four = not (is_some (place_of s.core (client_of w.opening.binding))) in
    let five = can_say s.core.monitor.outboxes w.link.0 in
    let (abcd, e_is) = both_are (one && two && three && four) five may in
    let (abc, d_is) = both_are (one && two && three) four abcd in
    let (ab, c_is) = both_are (one && two) three abc in
    less_of w.opening.binding c_is
  where
    less_of : (b : ℕ) → nat_lt b most_bindings ≡ true → b < most_bindings
    less_of b e = grind (arith, nat_tests, e)
