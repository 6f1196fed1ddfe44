-- What an end did in a run that it began ready, off links.
use Rattle.std.proofs.Common.{◌≡◌, inl, inr, refl, sym, ap, ◌∙◌, subst, ℕ, zero, suc, if◌then◌else◌, List, [], ◌∷◌, ◌++◌, map, length, replicate, slice_get, arith}
use Rattle.std.proofs.Common.{Option, Some, None, Bool, true, false}
use Rattle.std.proofs.lemmas.List.{length-replicate}
use Rattle.std.proofs.lemmas.List.Elements.{All-nil}
use Rattle.fl_base.specs.declared.fragment.Frag.{Frag}
use Rattle.fl_base.specs.declared.identity.EndId.{EndId}
use Rattle.fl_base.specs.Control.{bare}
use Rattle.fl_base.specs.Prefix.{IsPrefix}
use Rattle.fl_value_data.specs.Value.{TheCall}
use Rattle.fl_value_data.specs.Fits.{fits_of}
use Rattle.fl_hop.specs.OfCircuit.{as_carried}
use Rattle.fl_compile.specs.Programs.{program_of}
use Rattle.fl_endpoint.specs.View.{TheEnd, TheOutgoing, interface_in, nothing_to_send, fresh, rule_in, number_or_0}
use Rattle.fl_endpoint.specs.Accounts.{Sound, stream, stream_from}
use Rattle.fl_core.specs.BoardView.{TheEndAtChannel}
use Rattle.fl_core.specs.View.{place_of}
use Rattle.fl_core.specs.declared.wiring.EndWiring.{EndWiring}
use Rattle.fl_core.specs.declared.core_job.CoreJob.{CoreJob}
use Rattle.fl_core_run.specs.LogEntries.{LogEntry, looked, passed, arrived, heard, said, told, opened, called, ruled, wrote, acked, turned}
use Rattle.fl_core.specs.Jobs.{HasNoRule}
use Rattle.fl_core_run.proofs.Accepting.{waiting_is}
use Rattle.fl_core_run_laws.specs.Carried.{Traffic, EndGoes, left_to_put, rules_by, rules_in, rules_at, sets_rule, SetsNone, RulesFirst, RulesComeFirst, traffic}
use Rattle.fl_core_run_laws.specs.Flows.{Flows, LogsFlow, EndCarries}
use Rattle.fl_core_run_laws.specs.Agree.{SinceMade, Arrived, CarriedOffLinks}
use Rattle.fl_core_run_laws.proofs.Carrying.{IsHere, log_goes}
use Rattle.fl_core_run_laws.proofs.Seating.{sits_first}
use Rattle.fl_cores_jobs.specs.EndWork.{TheEndWork}
use Rattle.fl_cores_laws.specs.Cores.{shared_ways, OneCore, Went}
use Rattle.fl_cores_laws.specs.Ends.{HasProgress, AreItsRules, StandsReady, EndRan}
use Rattle.fl_cores_laws.proofs.Prefixes.{as_same}
use Rattle.fl_cores_laws.proofs.Progress.{all_left}
use Rattle.fl_cores_laws.proofs.GivenWork.{has_none}

-- ---- rules that are set, and no others

rules_stay_by : (name : EndId) (rules : List (Option ℕ)) (log_entry : LogEntry) → sets_rule name log_entry ≡ false → rules_in name rules log_entry ≡ rules
rules_stay_by name rules (ruled e msg reply answer) none = ap (λ (b : Bool). if b then rules_by msg reply answer rules else rules) none
rules_stay_by name rules (looked n l answer) none = refl
rules_stay_by name rules (passed n k frag c outcome) none = refl
rules_stay_by name rules (arrived n l frag e answer) none = refl
rules_stay_by name rules (heard n l frag answer) none = refl
rules_stay_by name rules (said n l answer) none = refl
rules_stay_by name rules (told n l answer) none = refl
rules_stay_by name rules (opened e request answer) none = refl
rules_stay_by name rules (called e c answer) none = refl
rules_stay_by name rules (wrote e out answer) none = refl
rules_stay_by name rules (acked e n answer) none = refl
rules_stay_by name rules (turned d e from answer) none = refl

rules_stay : (name : EndId) (rules : List (Option ℕ)) (log : List LogEntry) → SetsNone name log → rules_at name rules log ≡ rules
rules_stay name rules [] none = refl
rules_stay name rules (log_entry ∷ log) none =
    ap (λ (now : List (Option ℕ)). rules_at name now log) (rules_stay_by name rules log_entry none.0) ∙ rules_stay name rules log none.1

none_first : (name : EndId) (log : List LogEntry) → SetsNone name log → RulesFirst name log
none_first name [] none = tt
none_first name (log_entry ∷ log) none = (inr none.1, none_first name log none.1)

-- ---- since it was made

abbrev no_number : Option ℕ
no_number = None

no_rule : (n msg reply : ℕ) → rule_in (slice_get (replicate n no_number) msg) ≡ Some reply → ⊥
no_rule zero msg reply e = absurd cc
no_rule (suc n) zero reply e = absurd cc
no_rule (suc n) (suc msg) reply e = no_rule n msg reply e

-- an end to which nothing happened is sound where one of its program and its circuit is
pub fresh_sound : (x : TheEnd) → Sound x → Sound (fresh x.program x.circuit)
fresh_sound x sound = record {
  within = sound.within;
  words = sound.words;
  rules = record {
    places = length-replicate (length (program_of x.program).interface.messages) None;
    each = λ msg reply e. absurd (no_rule (length (program_of x.program).interface.messages) msg reply e);
  };
  circuit = sound.circuit;
  unbound = λ e. record { outgoing = refl; parts = refl; failed = refl };
  sends = record { calls = []; fit = All-nil (λ (c : TheCall). fits_of (interface_in x) c ≡ true); number = 0; left = refl; few = omega arith };
  part = inl refl;
  are_bare = refl;
}

pub since_new : (d : Traffic) (x y : TheEnd) → x.outgoing ≡ nothing_to_send → x.parts ≡ [] → EndGoes d x y → Sound y → SinceMade d y
since_new d x y outgoing parts goes sound = record {
  began = fresh y.program y.circuit;
  sound = fresh_sound y sound;
  outgoing = refl;
  parts = refl;
  goes = record {
    sends = subst (λ (o : TheOutgoing). left_to_put o ++ stream_from y d.sent ≡ d.put ++ left_to_put y.outgoing) outgoing goes.sends;
    gives = subst (λ (ps : List Frag). ps ++ d.took ≡ stream (program_of y.program) 0 d.handled ++ y.parts) parts goes.gives;
    program = refl;
    sent_fit = goes.sent_fit;
    handled_fit = goes.handled_fit;
    circuit = λ c is. is;
    unbound = goes.unbound;
  };
  number = sound.circuit;
}

-- ---- in a run

-- an end stays where it is
stays_there : (jobs : List CoreJob) (c : OneCore) (e : EndId) → Went jobs c → (place : ℕ) (seat : TheEndAtChannel) → place_of c.start.core e ≡ Some place
    → slice_get c.start.core.board.seats place ≡ Some seat → place_of c.finish.core e ≡ Some place
stays_there jobs c e w place seat at there =
    let here : IsHere e place seat.end c.start.core = record {
      has = record { seat = seat; seat_is = there; end_is = refl };
      sits = sits_first c.start.core e place w.core at;
    } in
    (log_goes shared_ways jobs e place c.log c.start c.finish seat.end here w.goes).sits.here

pub off_links_arrived : CarriedOffLinks → (d : Traffic) (x : TheEnd) → SinceMade d x → x.circuit ≡ Some 0 → (took : List Frag) → IsPrefix took (map bare d.put) → Arrived took d.put
off_links_arrived off d x since zero_is took p =
    as_same took took (map bare d.put) (map as_carried d.put) refl (sym (off d x since (ap number_or_0 zero_is))) p

module _ (flow : LogsFlow shared_ways) (rules_first : RulesComeFirst shared_ways) (jobs : List CoreJob) where
  abbrev pub flows_of : (c : OneCore) → Went jobs c → Flows shared_ways c.start c.finish c.log
  flows_of c w = flow jobs c.start c.finish c.log w.core w.apart w.goes

  -- what it came to
  abbrev pub carried : (d : TheEndWork) (c : OneCore) (e : EndId) (wiring : EndWiring) (w : Went jobs c) (r : StandsReady jobs d c.start e wiring)
      → EndCarries e c.log (record { put = (flows_of c w).put e; took = (flows_of c w).took e }) r.seat.end c.finish.core.board.seats r.place
  carried d c e wiring w r = (flows_of c w).ends e r.place r.seat r.place_is r.seat_is

  sets_none : (d : TheEndWork) (c : OneCore) (e : EndId) (wiring : EndWiring) → HasProgress d c.start e → Went jobs c → StandsReady jobs d c.start e wiring → SetsNone e c.log
  sets_none d c e wiring h w r = (rules_first jobs c.start c.finish c.log e w.goes).1 (subst (λ (places : List ℕ). HasNoRule jobs places) (sym (all_left d c.start e h)) r.no_more)

  pub ran : (d : TheEndWork) (c : OneCore) (e : EndId) (wiring : EndWiring) → HasProgress d c.start e → (w : Went jobs c) (r : StandsReady jobs d c.start e wiring)
      → EndRan d c e ((flows_of c w).put e) ((flows_of c w).took e) (carried d c e wiring w r).after.end
  ran d c e wiring h w r =
      let none = sets_none d c e wiring h w r in
      let x = carried d c e wiring w r in
      record {
        had = r.seat.end.rules;
        since = since_new (traffic e r.seat.end.rules c.log ((flows_of c w).put e) ((flows_of c w).took e)) r.seat.end x.after.end r.outgoing r.parts x.goes (w.ends r.place x.after x.after_is);
        rules = inr (subst (λ (rules : List (Option ℕ)). AreItsRules rules d) (sym (rules_stay e r.seat.end.rules c.log none)) r.rules);
        first = none_first e c.log none;
        unruled = λ is. (has_none r.seat.end.rules d r.rules is, none);
        sound = w.ends r.place x.after x.after_is;
        waiting = waiting_is c.finish e r.place x.after (stays_there jobs c e w r.place r.seat r.place_is r.seat_is) x.after_is;
      }

  pub on_zero : (d : TheEndWork) (c : OneCore) (e : EndId) (wiring : EndWiring) (w : Went jobs c) (r : StandsReady jobs d c.start e wiring) → (carried d c e wiring w r).after.end.circuit ≡ Some 0
  on_zero d c e wiring w r = (carried d c e wiring w r).goes.circuit 0 r.circuit
