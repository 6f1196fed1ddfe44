-- Bindings over circuits whose ends are bound in the end: what is told of them is honest.
use Rattle.std.proofs.Common.{◌≡◌, ◌⊎◌, inl, inr, refl, sym, ap, ◌∙◌, subst, ℕ, zero, suc, List, [], map, length, replicate, slice_get}
use Rattle.std.proofs.Common.{Option, Some, None, false}
use Rattle.std.specs.List.{list_any}
use Rattle.fl_base.specs.declared.identity.EndId.{EndId}
use Rattle.fl_base.specs.Prefix.{IsPrefix}
use Rattle.fl_compile.specs.Programs.{program_of}
use Rattle.fl_hop.specs.OfCircuit.{as_carried, of_circuit}
use Rattle.fl_hop.specs.Stretch.{taken_from, come_to}
use Rattle.fl_endpoint.specs.View.{TheEnd, is_rule, has_rules}
use Rattle.fl_core.specs.BoardView.{TheEndAtChannel}
use Rattle.fl_core.specs.View.{new_arrivals, client_of, server_of}
use Rattle.fl_core.specs.declared.core_job.CoreJob.{CoreJob}
use Rattle.fl_core.specs.Jobs.{HasNoRule, RulesLead}
use Rattle.fl_core_run.proofs.Accepting.{waiting_is}
use Rattle.fl_core_run_laws.specs.Carried.{SetsNone, calls_handled, rules_at, traffic}
use Rattle.fl_core_run_laws.specs.Flows.{Flows, MadeCarries}
use Rattle.fl_core_run_laws.specs.Agree.{Arrived}
use Rattle.fl_cores_jobs.specs.EndWork.{TheEndWork, end_work_at, is_ruled}
use Rattle.fl_cores_laws.specs.Cores.{shared_ways}
use Rattle.fl_cores_laws.specs.Ends.{HasProgress, AreItsRules, EndRan}
use Rattle.fl_cores_laws.specs.Told.{handled_by}
use Rattle.fl_cores_laws.specs.Bindings.{Party, IsParty, PartiesAreHonest}
use Rattle.fl_cores_laws.specs.Circuits.{Leading, Point, StandsBound, CircuitsAreHonest}
use Rattle.fl_cores_laws.proofs.Prefixes.{as_same, then_on}
use Rattle.fl_cores_laws.proofs.Progress.{all_left, handled_is}
use Rattle.fl_cores_laws.proofs.Parties.{Below}
use Rattle.fl_cores_laws.proofs.Passages.{through_queues}
use Rattle.fl_cores_laws.proofs.Starts.{since_new}
use Rattle.fl_cores_laws.proofs.OffLinks.{Passing}
use Rattle.fl_cores_laws.proofs.Routes.{CircuitsPrefix, out_of, into, along_route}

one_of : {X : Type 0} (a b : X) → Some a ≡ Some b → a ≡ b
one_of a b same = cc

pub same_seat : (seats : List TheEndAtChannel) (n : ℕ) (a b : TheEndAtChannel) → slice_get seats n ≡ Some a → slice_get seats n ≡ Some b → a ≡ b
same_seat seats n a b is is2 = one_of a b (sym is ∙ is2)

abbrev no_number : Option ℕ
no_number = None

none_set : (n : ℕ) → list_any is_rule (replicate n no_number) ≡ false
none_set zero = refl
none_set (suc n) = none_set n

module _ (l : Passing) (b : Below) (prefix : CircuitsPrefix) (jobs : List CoreJob) where
  abbrev pub flows : (p : Point) → Leading jobs p.core → Flows shared_ways p.core.start p.core.finish p.core.log
  flows p v = l.flow jobs p.core.start p.core.finish p.core.log v.went.core v.went.apart v.went.goes

  -- ---- an end

  module _ (d : TheEndWork) (e : EndId) (p : Point) (v : Leading jobs p.core) (s : StandsBound jobs d e p) where
    abbrev pub made : MadeCarries e p.core.log (record { put = (flows p v).put e; took = (flows p v).took e }) p.core.finish.core.board.seats s.place
    made = (flows p v).made e s.place s.absent s.place_is

    abbrev pub end : TheEnd
    end = made.carries.after.end

    pub end_is : made.carries.after ≡ s.seat
    end_is = same_seat p.core.finish.core.board.seats s.place made.carries.after s.seat made.carries.after_is s.seat_is

    -- what it took came to it by its number, and what it put went out under that
    pub took_first : IsPrefix ((flows p v).took e) (of_circuit p.number.0 (into l.flow l.rings prefix jobs p.core v.went p.link))
    took_first =
        let f = flows p v in
        let came = f.circuits_made e s.place s.arrivals p.link s.wired_end s.absent s.place_is s.wired_end_is s.wiring_is in
        let by = f.numbers v.led v.table e s.place s.arrivals p.number.0 p.link s.wired_end s.seat s.place_is s.wired_end_is s.wiring_is s.seat_is s.circuit in
        as_same (f.took e) (f.took e) (come_to e f.steps) (of_circuit p.number.0 (taken_from p.link.0 f.steps)) refl by.0
        (through_queues l.queues (come_to e f.steps) (f.took e) new_arrivals p.core.finish.core.arrivals s.arrivals refl came.arrivals)

    put_all : of_circuit p.number.0 (out_of l.flow l.rings prefix jobs p.core v.went p.link) ≡ map as_carried ((flows p v).put e)
    put_all =
        let f = flows p v in
        let came = f.circuits_made e s.place s.arrivals p.link s.wired_end s.absent s.place_is s.wired_end_is s.wiring_is in
        let by = f.numbers v.led v.table e s.place s.arrivals p.number.0 p.link s.wired_end s.seat s.place_is s.wired_end_is s.wiring_is s.seat_is s.circuit in
        by.1 ∙ came.written

    -- ---- its rules

    module _ (h : HasProgress d p.core.start e) where
      rules_by : (handled_by p.core.finish e ≡ []) ⊎ AreItsRules s.seat.end.rules d
          → (calls_handled e p.core.log ≡ []) ⊎ AreItsRules (rules_at e made.began.rules p.core.log) d
      rules_by (inl none) = inl (sym (handled_is b.handled b.made b.first jobs d e p.core h v.went) ∙ none)
      rules_by (inr same) =
          inr (subst (λ (rules : List (Option ℕ)). AreItsRules rules d) (sym (ap (λ (x : TheEndAtChannel). x.end.rules) end_is) ∙ made.carries.rules) same)

      sets_none : is_ruled d ≡ false → SetsNone e p.core.log
      sets_none is =
          (l.rules_first jobs p.core.start p.core.finish p.core.log e v.went.goes).1
          (subst (λ (places : List ℕ). HasNoRule jobs places) (sym (all_left d p.core.start e h)) (s.none is))

      pub ran : EndRan d p.core e ((flows p v).put e) ((flows p v).took e) end
      ran = record {
        had = made.began.rules;
        since = since_new (traffic e made.began.rules p.core.log ((flows p v).put e) ((flows p v).took e)) made.began end made.new.outgoing made.new.parts made.carries.goes
            (v.went.ends s.place made.carries.after made.carries.after_is);
        rules = rules_by s.rules;
        first = (l.rules_first jobs p.core.start p.core.finish p.core.log e v.went.goes).0
            (subst (λ (places : List ℕ). RulesLead jobs places) (sym (all_left d p.core.start e h)) s.lead);
        unruled = λ is. (ap has_rules made.new.rules ∙ none_set (length (program_of made.began.program).interface.messages), sets_none is);
        sound = v.went.ends s.place made.carries.after made.carries.after_is;
        waiting = waiting_is p.core.finish e s.place made.carries.after s.place_is made.carries.after_is;
      }

-- ---- both ends

pub circuits : Passing → Below → CircuitsPrefix → PartiesAreHonest → CircuitsAreHonest
circuits l b prefix honest asked j cores n p q joined v u h g k =
    let d = end_work_at j.end_works (client_of n) in
    let e = end_work_at j.end_works (server_of n) in
    let x : Party = record { end_work = d; core = p.core; put = (flows l b prefix j.jobs p v).put (client_of n); took = (flows l b prefix j.jobs p v).took (client_of n); end = end l b prefix j.jobs d (client_of n) p v k.client } in
    let y : Party = record { end_work = e; core = q.core; put = (flows l b prefix j.jobs q u).put (server_of n); took = (flows l b prefix j.jobs q u).took (server_of n); end = end l b prefix j.jobs e (server_of n) q u k.server } in
    let client : IsParty asked j.jobs (client_of n) x = record { end_work = joined.each (client_of n); progress = h; went = v.went; ran = ran l b prefix j.jobs d (client_of n) p v k.client h } in
    let server : IsParty asked j.jobs (server_of n) y = record { end_work = joined.each (server_of n); progress = g; went = u.went; ran = ran l b prefix j.jobs e (server_of n) q u k.server g } in
    let same : program_of y.end.program ≡ program_of x.end.program =
    ap (λ (s : TheEndAtChannel). program_of s.end.program) (end_is l b prefix j.jobs e (server_of n) q u k.server) ∙ k.program
    ∙ sym (ap (λ (s : TheEndAtChannel). program_of s.end.program) (end_is l b prefix j.jobs d (client_of n) p v k.client)) in
    let along = along_route l.flow l.rings prefix j.jobs n p v k.stations q u k.route in
    let there : Arrived y.took x.put =
    then_on y.took (of_circuit q.number.0 (into l.flow l.rings prefix j.jobs q.core u.went q.link)) (map as_carried x.put)
    (took_first l b prefix j.jobs e (server_of n) q u k.server)
    (as_same (of_circuit q.number.0 (into l.flow l.rings prefix j.jobs q.core u.went q.link)) (of_circuit q.number.0 (into l.flow l.rings prefix j.jobs q.core u.went q.link))
    (of_circuit p.number.0 (out_of l.flow l.rings prefix j.jobs p.core v.went p.link)) (map as_carried x.put)
    refl (put_all l b prefix j.jobs d (client_of n) p v k.client) along.0) in
    let again : Arrived x.took y.put =
    then_on x.took (of_circuit p.number.0 (into l.flow l.rings prefix j.jobs p.core v.went p.link)) (map as_carried y.put)
    (took_first l b prefix j.jobs d (client_of n) p v k.client)
    (as_same (of_circuit p.number.0 (into l.flow l.rings prefix j.jobs p.core v.went p.link)) (of_circuit p.number.0 (into l.flow l.rings prefix j.jobs p.core v.went p.link))
    (of_circuit q.number.0 (out_of l.flow l.rings prefix j.jobs q.core u.went q.link)) (map as_carried y.put)
    refl (put_all l b prefix j.jobs e (server_of n) q u k.server) along.1) in
    let one = honest asked j.jobs (client_of n) x y client server same there again in
    let two = honest asked j.jobs (server_of n) y x server client (sym same) again there in
    record { there = one.handled; again = two.handled; client = one.made; server = two.made }
