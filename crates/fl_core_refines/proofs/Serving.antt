-- What a core by itself does for an end in a turn is what the machine does: its next job, and a write.
use Rattle.std.proofs.Common.{◌≡◌, ◌≢◌, refl, sym, ◌∙◌, ap, subst, ℕ, zero, suc, ◌&&◌, not, nat_lt, Bool, true, false, if◌then◌else◌, List, [], ◌∷◌}
use Rattle.std.proofs.Common.{length, slice_get, Option, Some, None, is_some}
use Rattle.std.specs.Prelude.{Result, Err}
use Rattle.fl_base.specs.declared.fragment.Frag.{Frag}
use Rattle.fl_base.specs.declared.identity.EndId.{EndId}
use Rattle.fl_base.specs.Given.{given}
use Rattle.fl_base.specs.Numbered.{most_bindings}
use Rattle.fl_value_data.specs.Value.{call_of}
use Rattle.fl_endpoint.specs.declared.fault.EndFault.{EndFault}
use Rattle.fl_endpoint.specs.declared.fault.EndFault.TheVariants.{Memory}
use Rattle.fl_monitor.specs.Monitors.{can_say}
use Rattle.fl_core.specs.declared.wiring.Outlet.TheVariants as outlet
use Rattle.fl_core.specs.View.{TheCore, place_in, place_of, outlet_of, client_of}
use Rattle.fl_model.specs.Events.{write}
use Rattle.fl_model.specs.Ends.{End}
use Rattle.fl_model.specs.State.{end_of}
use Rattle.fl_world_refines.specs.View.{TheWorld}
use Rattle.fl_world_refines.specs.Laws.{StepsAgree}
use Rattle.fl_world_refines.proofs.FramesBase.{not_both, end_of_binding, binding_of_end}
use Rattle.fl_world_refines.proofs.FramesFind.{interface_known}
use Rattle.fl_core.specs.declared.core_job.CoreJob.{CoreJob}
use Rattle.fl_core.specs.declared.core_job.CoreJob.TheVariants as job
use Rattle.fl_core.specs.declared.core_job.OpenRequest.{OpenRequest}
use Rattle.fl_core_run.specs.Run.{SideRelations, TheRun, lends_out, lent_post, next_job as job_there}
use Rattle.fl_core_run.specs.Steps.{lacks_to_call, may_ask, OpensIf, CallsAt, reply_rule, RulesAt, Tries, WritesFrom, Serves}
use Rattle.fl_core_refines.specs.AloneTurns.{MachineRun, goes, is_there, tries, serves, next_job}
use Rattle.fl_core_refines.specs.AloneShown.{ShowsAlone}
use Rattle.fl_core_refines.proofs.Standing.{stands, wired, post_lent}
use Rattle.fl_core_refines.proofs.Whole.{no_outboxes}
use Rattle.fl_core_refines.proofs.Progress.{is_few, same_job}
use Rattle.fl_core_refines.proofs.Writing.{write_steps}
use Rattle.fl_core_refines.proofs.Calling.{calls_are, rules_are}

-- ---- whether the end is there

pub end_there : {S : Type 0} (w : TheWorld) (s : TheRun S) (a : MachineRun) (name : EndId) (place : ℕ) → ShowsAlone w s a → place_of s.core name ≡ Some place
    → is_there a.state name ≡ true
end_there w s a name place x at =
    let h = stands w s a name place x at in
    ap (λ o. given o false (λ (y : End). is_some y.seat)) (end_of_binding a.state name h.binding h.binding_is) ∙ ap is_some h.seat_is

pub one_core : (c d : TheCore) (n : ℕ) → slice_get (c ∷ []) n ≡ Some d → d ≡ c
one_core c d zero q = cc
one_core c d (suc n) q = absurd (cc)

some_seat : {X : Type 0} (o : Option X) → is_some o ≡ true → (x : X) × (o ≡ Some x)
some_seat None q = absurd (cc)
some_seat (Some x) q = (x, refl)

end_seen : (o : Option End) → given o false (λ (y : End). is_some y.seat) ≡ true → (x : End) × (o ≡ Some x) × (is_some x.seat ≡ true)
end_seen None q = absurd (cc)
end_seen (Some x) q = (x, refl, q)

pub end_away : {S : Type 0} (w : TheWorld) (s : TheRun S) (a : MachineRun) (name : EndId) → ShowsAlone w s a → place_of s.core name ≡ None
    → is_there a.state name ≡ false
end_away w s a name x away = by (is_there a.state name) refl
  where
    by : (b : Bool) → is_there a.state name ≡ b → is_there a.state name ≡ false
    by false q = q
    by true q =
        let e = end_seen (end_of a.state name) q in
        let seat = some_seat e.0.seat e.2 in
        let b = binding_of_end a.state name e.0 e.1 in
        let i = interface_known a.state name b.0 x.shows.sound b.1 in
        let m = x.shows.showing.ends.made name b.0 i.0 seat.0 b.1 i.1 (ap (λ (y : End). y.seat) b.2 ∙ seat.1) in
        let core = one_core s.core m.core seat.0.dispatcher.core m.core_is in
        not_both (place_of s.core name) m.place away (ap (λ (k : TheCore). place_of k name) (sym core) ∙ m.place_is)

-- ---- its next job

none_said : (a b c d : Bool) → (a && b && c && d && false) ≡ false
none_said false b c d = refl
none_said true false c d = refl
none_said true true false d = refl
none_said true true true false = refl
none_said true true true true = refl

-- a circuit can't be asked for
pub asks_nothing : {S : Type 0} (w : TheWorld) (s : TheRun S) (a : MachineRun) (request : OpenRequest) → ShowsAlone w s a → may_ask s request ≡ false
asks_nothing w s a request x =
    ap (λ (boxes : List (List Frag)). nat_lt request.dispatcher (length s.core.board.dispatchers) && nat_lt request.interface (length s.offers.programs)
    && nat_lt request.opening.binding most_bindings && not (is_some (place_of s.core (client_of request.opening.binding)))
    && can_say boxes request.link.0) (no_outboxes w s a x)
    ∙ none_said (nat_lt request.dispatcher (length s.core.board.dispatchers)) (nat_lt request.interface (length s.offers.programs))
    (nat_lt request.opening.binding most_bindings) (not (is_some (place_of s.core (client_of request.opening.binding))))

not_memory : (r : Result (Unit {0}) EndFault) → lacks_to_call r ≡ false → r ≢ Err Memory
not_memory r h q = let both : true ≡ false = sym (ap lacks_to_call q) ∙ h in cc

-- the core shows this afterwards, and ends are where they were
pub record Goes {S : Type 0} (w : TheWorld) (s t : TheRun S) (b : MachineRun) : Type 0 where
  pub shows : ShowsAlone w t b
  pub places : t.core.places ≡ s.core.places

pub goes_not : {S : Type 0} (w : TheWorld) (s t : TheRun S) (a : MachineRun) → ShowsAlone w s a → t ≡ s → Goes w s t a
goes_not {S} w s t a x q = record {
  shows = subst (λ (r : TheRun S). ShowsAlone w r a) (sym q) x;
  places = ap (λ (r : TheRun S). r.core.places) q;
}

tries_at : {S : Type 0} (ways : SideRelations S) (law : StepsAgree) (w : TheWorld) (s t : TheRun S) (a : MachineRun) (name : EndId) (place : ℕ) (o : Option CoreJob)
    → ShowsAlone w s a → place_of s.core name ≡ Some place → Tries ways name o s t → Goes w s t (tries name o a)
tries_at ways law w s t a name place None x at u = goes_not w s t a x u
tries_at ways law w s t a name place (Some (job.Open request)) x at u =
    goes_not w s t a x (subst (λ b. OpensIf ways b name request s t) (asks_nothing w s a request x) u)
tries_at ways law w s t a name place (Some (job.Call f c)) x at u =
    let v : CallsAt ways name c (Some place) s t = subst (λ o. CallsAt ways name c o s t) at u in
    let k = calls_are ways law w s t a name (call_of c) v.0 x (not_memory v.0 v.2) v.1 in
    record { shows = k.shows; places = k.places }
tries_at ways law w s t a name place (Some (job.Reply f msg answer)) x at u =
    let v : RulesAt ways (reply_rule name msg answer) (Some place) s t = subst (λ o. RulesAt ways (reply_rule name msg answer) o s t) at u in
    let k = rules_are ways law w s t a name msg answer v.0 x v.1 in
    record { shows = k.shows; places = k.places }

-- ---- both

-- nothing happens at an end that isn't there
away_tries : {S : Type 0} (ways : SideRelations S) (w : TheWorld) (s t : TheRun S) (a : MachineRun) (name : EndId) (o : Option CoreJob) → ShowsAlone w s a
    → place_of s.core name ≡ None
    → Tries ways name o s t → t ≡ s
away_tries ways w s t a name None x away u = u
away_tries ways w s t a name (Some (job.Open request)) x away u = subst (λ b. OpensIf ways b name request s t) (asks_nothing w s a request x) u
away_tries ways w s t a name (Some (job.Call f c)) x away u = subst (λ o. CallsAt ways name c o s t) away u
away_tries ways w s t a name (Some (job.Reply f msg answer)) x away u = subst (λ o. RulesAt ways (reply_rule name msg answer) o s t) away u

writes_at : {S : Type 0} (ways : SideRelations S) (law : StepsAgree) (w : TheWorld) (s t : TheRun S) (a : MachineRun) (name : EndId) (place : ℕ)
    → ShowsAlone w s a → place_of s.core name ≡ Some place → WritesFrom ways name (lent_post s name) s t → Goes w s t (goes (write name) a)
writes_at ways law w s t a name place x at u =
    let k = wired w s a name place x at in
    let v : WritesFrom ways name (Some (record { end = place; outlet = outlet.Queue k.out })) s t
    = subst (λ o. WritesFrom ways name o s t) (post_lent s name place k at) u in
    let d = write_steps ways law w s t a name place v.0 k x at v.1 in
    record { shows = d.shows; places = d.places }

serves_here : {S : Type 0} (ways : SideRelations S) (law : StepsAgree) (w : TheWorld) (jobs : List CoreJob) (s t : TheRun S) (a : MachineRun) (name : EndId) (place : ℕ)
    → ShowsAlone w s a → place_of s.core name ≡ Some place → Serves ways jobs name s t → Goes w s t (goes (write name) (tries name (next_job jobs a name) a))
serves_here {S} ways law w jobs s t a name place x at (m, before, after) =
    let same = same_job jobs s a name x.progresses (is_few s.core name place at) in
    let one = tries_at ways law w s m a name place (next_job jobs a name) x at (subst (λ o. Tries ways name o s m) same before) in
    let there : place_of m.core name ≡ Some place = same_places m one.places ∙ at in
    let two = writes_at ways law w m t (tries name (next_job jobs a name) a) name place one.shows there after in
    record { shows = two.shows; places = two.places ∙ one.places }
  where
    same_places : (m : TheRun S) → m.core.places ≡ s.core.places → place_of m.core name ≡ place_of s.core name
    same_places m q = ap (λ ps. place_in ps name) q

serves_away : {S : Type 0} (ways : SideRelations S) (w : TheWorld) (jobs : List CoreJob) (s t : TheRun S) (a : MachineRun) (name : EndId)
    → ShowsAlone w s a → place_of s.core name ≡ None → Serves ways jobs name s t → t ≡ s
serves_away {S} ways w jobs s t a name x away (m, before, after) =
    let one : m ≡ s = away_tries ways w s m a name (job_there jobs s name) x away before in
    let there : WritesFrom ways name (lent_post s name) s t = subst (λ (r : TheRun S). WritesFrom ways name (lent_post r name) r t) one after in
    by (lent_post s name) (no_post s away) there
  where
    no_post : (r : TheRun S) → place_of r.core name ≡ None → lent_post r name ≡ None
    no_post r q = ap (λ o. given o None λ n. given (outlet_of r.core n) None λ out. if lends_out r out then Some
        (record { end = n; outlet = out }) else None) q

    by : (o : _) → o ≡ None → WritesFrom ways name o s t → t ≡ s
    by None q v = v
    by (Some post) q v = absurd (cc)

pub serves_are : {S : Type 0} (ways : SideRelations S) (law : StepsAgree) (w : TheWorld) (jobs : List CoreJob) (s t : TheRun S) (a : MachineRun) (name : EndId)
    → ShowsAlone w s a → Serves ways jobs name s t → ShowsAlone w t (serves jobs name a)
serves_are {S} ways law w jobs s t a name x u = by (place_of s.core name) refl
  where
    shown : (b : Bool) → is_there a.state name ≡ b → ShowsAlone w t (if b then goes (write name) (tries name (next_job jobs a name) a) else a)
        → ShowsAlone w t (serves jobs name a)
    shown b q h = subst (λ c. ShowsAlone w t (if c then goes (write name) (tries name (next_job jobs a name) a) else a)) (sym q) h

    by : (o : Option ℕ) → place_of s.core name ≡ o → ShowsAlone w t (serves jobs name a)
    by None q = shown false (end_away w s a name x q) (subst (λ (r : TheRun S). ShowsAlone w r a) (sym (serves_away ways w jobs s t a name x q u)) x)
    by (Some place) q = shown true (end_there w s a name place x q) (serves_here ways law w jobs s t a name place x q u).shows
