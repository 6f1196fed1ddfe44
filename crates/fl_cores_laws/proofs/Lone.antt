-- A server's end that is bound in the end, where the client's isn't, handled nothing: the client's end wrote nothing.
use Rattle.std.proofs.Common.{◌≡◌, refl, sym, ap, ◌∙◌, subst, ℕ, List, [], ◌∷◌, ◌++◌, map, slice_get, Some, None, Bool, true, if◌then◌else◌}
use Rattle.std.proofs.lemmas.List.Elements.{All-nil}
use Rattle.fl_base.specs.declared.fragment.Frag.{Frag}
use Rattle.fl_base.specs.declared.identity.EndId.{EndId}
use Rattle.fl_value_data.specs.Value.{TheCall}
use Rattle.fl_value_data.specs.Fits.{fits_of}
use Rattle.fl_endpoint.specs.View.{TheEnd, TheOutgoing, interface_in, fresh}
use Rattle.fl_endpoint.specs.Accounts.{Sound as IsEnd, stream_from}
use Rattle.fl_core.specs.BoardView.{TheEndAtChannel}
use Rattle.fl_hop.specs.declared.entry.HopTarget.TheVariants.{End}
use Rattle.fl_hop.specs.Joined.{Leads}
use Rattle.fl_hop.specs.OfCircuit.{as_carried, of_circuit}
use Rattle.fl_hop.specs.Stretch.{TableStep, wrote, written_in, written_by, OnlyOnto}
use Rattle.fl_hop.proofs.Laws.{end_same, stood_finish, own_alone}
use Rattle.fl_core.specs.View.{place_of, client_of, server_of}
use Rattle.fl_core.specs.declared.core_job.CoreJob.{CoreJob}
use Rattle.fl_core_run_laws.specs.Carried.{Traffic, calls_handled, left_to_put, traffic}
use Rattle.fl_core_run_laws.specs.Agree.{SinceMade}
use Rattle.fl_core_run_laws.specs.Led.{stretch}
use Rattle.fl_cores_jobs.specs.EndWork.{TheEndWork}
use Rattle.fl_cores_laws.specs.Cores.{OneCore, shared_ways}
use Rattle.fl_cores_laws.specs.Ends.{HasProgress}
use Rattle.fl_cores_laws.specs.Told.{handled_by}
use Rattle.fl_cores_laws.specs.Circuits.{Leading, Point, StandsBound}
use Rattle.fl_cores_laws.specs.Meeting.{WaitsAlone, LoneServersRest}
use Rattle.fl_cores_laws.specs.Stands.{IsThere, LedClientsStand}
use Rattle.fl_cores_laws.specs.Unbound.{IsLoose}
use Rattle.fl_cores_laws.specs.Whole.{ArePaired, IsLast, RoutesBegin}
use Rattle.fl_cores_laws.proofs.Circuits.{flows, end, took_first, ran, same_seat}
use Rattle.fl_cores_laws.proofs.Progress.{handled_is}
use Rattle.fl_cores_laws.proofs.OffLinks.{Passing}
use Rattle.fl_cores_laws.proofs.Parties.{Below}
use Rattle.fl_cores_laws.proofs.Prefixes.{as_same, of_none}
use Rattle.fl_cores_laws.proofs.Routes.{CircuitsPrefix, out_of, into, along_route}
use Rattle.fl_cores_laws.proofs.Standing.{on_circuit}
use Rattle.fl_cores_laws.proofs.Starts.{fresh_sound}
use Rattle.fl_cores_laws.proofs.WholeEnds.{bound_entry}

-- ---- lists of which nothing is left

first_none : {X : Type 0} (xs ys : List X) → [] ≡ xs ++ ys → xs ≡ []
first_none [] ys is = refl
first_none (x ∷ xs) ys is = absurd (cc)

-- ---- an end that wrote nothing

written_first : (name : EndId) (x : TableStep) (m : ℕ) (frag : Frag) → x.circuit_event ≡ wrote name m frag → written_in name x.circuit_event ≡ as_carried frag ∷ []
written_first name x m frag is =
    ap (written_in name) is ∙ ap (λ (b : Bool). let xs : List Frag = if b then as_carried frag ∷ [] else [] in xs) (end_same name)

none_onto : (l n : ℕ) (name : EndId) (steps : List TableStep) → written_by name steps ≡ [] → OnlyOnto l n name steps
none_onto l n name [] none = tt
none_onto l n name (x ∷ steps) none = (
  λ m frag is.
      (let first = first_none (written_in name x.circuit_event) (written_by name steps) (sym none) in
      let clash : as_carried frag ∷ [] ≡ [] = sym (written_first name x m frag is) ∙ first in
      absurd (cc)),
  none_onto l n name steps (sym (ap (λ (xs : List Frag). xs ++ written_by name steps) (first_none (written_in name x.circuit_event) (written_by name steps) (sym none))) ∙ none),
)

module _ (l : Passing) (b : Below) (prefix : CircuitsPrefix) (stand : LedClientsStand) (jobs : List CoreJob) where
  -- an end that was made in the run and isn't bound in the end
  module _ (p : Point) (v : Leading jobs p.core) (name : EndId) (absent : place_of p.core.start.core name ≡ None) (x : IsThere p.core.finish name) (loose : IsLoose p.core.finish name) where
    put_none : (flows l b prefix jobs p v).put name ≡ []
    put_none =
        let f = flows l b prefix jobs p v in
        let made = f.made name x.place absent x.place_is in
        let goes = made.carries.goes in
        let seats = same_seat p.core.finish.core.board.seats x.place made.carries.after x.seat made.carries.after_is x.seat_is in
        let unbound : made.carries.after.end.circuit ≡ None = ap (λ (s : TheEndAtChannel). s.end.circuit) seats ∙ loose x.place x.seat x.place_is x.seat_is in
        let sent = goes.unbound unbound in
        first_none (f.put name) (left_to_put made.carries.after.end.outgoing)
        (sym (ap (λ (o : TheOutgoing). left_to_put o ++ stream_from made.carries.after.end []) made.new.outgoing)
        ∙ sym (ap (λ (calls : List TheCall). left_to_put made.began.outgoing ++ stream_from made.carries.after.end calls) sent)
        ∙ goes.sends)

    written_none : written_by name (flows l b prefix jobs p v).steps ≡ []
    written_none =
        let f = flows l b prefix jobs p v in
        let on = on_circuit shared_ways jobs name p.core.log p.core.start p.core.finish v.went.goes absent x.place x.place_is in
        (f.circuits_made name x.place on.queue on.link on.wired_end absent x.place_is on.wired_end_is on.wiring_is).written ∙ ap (map as_carried) put_none

    -- so nothing went out by the number that leads to it
    out_none : (binding : ℕ) → Leads p.core.finish.core.monitor.circuits p.link.0 p.number.0 binding (End name)
        → of_circuit p.number.0 (out_of l.flow l.rings prefix jobs p.core v.went p.link) ≡ []
    out_none binding leads =
        let f = flows l b prefix jobs p v in
        let went = f.went v.led in
        let all = stretch p.core.start.core f.steps p.core.finish.core in
        own_alone all p.link p.number binding name (stood_finish all p.link.0 p.number.0 binding (End name) went (v.table, leads)) (none_onto p.link.0 p.number.0 name f.steps written_none)
        ∙ written_none

  -- ---- the other end

  abbrev silent : Traffic
  silent = record { sent = []; handled = []; put = []; took = [] }

  -- an end at which nothing happened
  since_silent : (x : TheEnd) → IsEnd x → SinceMade silent (fresh x.program x.circuit)
  since_silent x sound = record {
    began = fresh x.program x.circuit;
    sound = fresh_sound x sound;
    outgoing = refl;
    parts = refl;
    goes = record {
      sends = refl;
      gives = refl;
      program = refl;
      sent_fit = All-nil (λ (c : TheCall). fits_of (interface_in x) c ≡ true);
      handled_fit = All-nil (λ (c : TheCall). fits_of (interface_in x) c ≡ true);
      circuit = λ c is. is;
      unbound = λ none. refl;
    };
    number = sound.circuit;
  }

  module _ (d : TheEndWork) (e : EndId) (q : Point) (v : Leading jobs q.core) (s : StandsBound jobs d e q) (h : HasProgress d q.core.start e) where
    -- where nothing came in by its number, it handled nothing
    handled_none : of_circuit q.number.0 (into l.flow l.rings prefix jobs q.core v.went q.link) ≡ [] → handled_by q.core.finish e ≡ []
    handled_none none =
        let x = ran l b prefix jobs d e q v s h in
        let y = end l b prefix jobs d e q v s in
        let f = flows l b prefix jobs q v in
        let took = of_none (f.took e) (of_circuit q.number.0 (into l.flow l.rings prefix jobs q.core v.went q.link)) (took_first l b prefix jobs d e q v s) none in
        let made = f.made e s.place s.absent s.place_is in
        let sound = v.went.ends s.place made.carries.after made.carries.after_is in
        let agreed = b.agree silent (traffic e x.had q.core.log (f.put e) (f.took e)) (fresh y.program y.circuit) y (since_silent y sound) x.since refl (as_same [] (f.took e) [] [] (sym took) refl ([], refl)) in
        handled_is b.handled b.made b.first jobs d e q.core h v.went ∙ of_none (calls_handled e q.core.log) [] agreed refl

  -- of large records cc does not end, of any type it does
  same_some : {X : Type 0} (x y : X) → Some x ≡ Some y → x ≡ y
  same_some x y e = cc

  one_of : (n m : ℕ) (c d : OneCore) (cores : List OneCore) → slice_get cores n ≡ Some c → slice_get cores m ≡ Some d → n ≡ m → c ≡ d
  one_of n m c d cores is is2 same = same_some c d (sym is ∙ ap (slice_get cores) same ∙ is2)

  module _ (begin : RoutesBegin) (cores : List OneCore) (paired : ArePaired jobs cores) (n : ℕ) (d : TheEndWork) (q : Point) (k : WaitsAlone jobs cores n d q) where
    rests : handled_by q.core.finish (server_of n) ≡ []
    rests =
        let u = paired.leading k.place q.core k.server_is in
        let last : IsLast n q = bound_entry jobs d (server_of n) q u k.stands in
        let r = begin jobs cores paired n k.place q k.server_is last in
        let p = r.point in
        let v = paired.leading r.place p.core r.core_is in
        let same : p.core ≡ k.client = one_of r.place k.home p.core k.client cores r.core_is k.client_is (k.at_home r.place p.core p.link.0 p.number.0 r.core_is r.first) in
        let absent : place_of p.core.start.core (client_of n) ≡ None = ap (λ (x : OneCore). place_of x.start.core (client_of n)) same ∙ k.absent in
        let loose = subst (λ (x : OneCore). IsLoose x.finish (client_of n)) (sym same) k.loose in
        let there = stand jobs p.core v (paired.unused r.place p.core r.core_is) p.link.0 p.number.0 n r.first in
        let none = out_none p v (client_of n) absent there loose n r.first in
        let along = along_route l.flow l.rings prefix jobs n p v r.stations q u r.route in
        handled_none d (server_of n) q u k.stands k.progress
        (of_none (of_circuit q.number.0 (into l.flow l.rings prefix jobs q.core u.went q.link)) (of_circuit p.number.0 (out_of l.flow l.rings prefix jobs p.core v.went p.link)) along.0 none)

pub lone_rest : Passing → Below → CircuitsPrefix → LedClientsStand → RoutesBegin → LoneServersRest
lone_rest l b prefix stand begin jobs cores paired n d q k = rests l b prefix stand jobs begin cores paired n d q k
