-- A step by what is read off one end: where the answer tells of no call, that stays alike.
use Rattle.std.proofs.Common.{◌≡◌, refl, ℕ, ◌+◌, not}
use Rattle.std.proofs.Common.{false, List, [], length, slice_get}
use Rattle.std.proofs.Common.{Option, Some, None}
use Rattle.fl_base.specs.declared.identity.EndId.{EndId}
use Rattle.fl_value_data.specs.Value.{TheCall}
use Rattle.fl_lists.specs.declared.place.Place.TheVariants.{Polled}
use Rattle.fl_model.specs.Events.{Event}
use Rattle.fl_model.specs.Events.{call}
use Rattle.fl_model.specs.Events.{Answer}
use Rattle.fl_model.specs.Calls.{Planned}
use Rattle.fl_model.specs.Rings.{Label, RingLabel, RingEnd, looks, there_is_room}
use Rattle.fl_model.specs.Rings.{puts, takes}
use Rattle.fl_model.specs.Ends.{Queue, fresh_queue, without_first, End, is_busy, holds_back}
use Rattle.fl_model.specs.Waits.{waits_in, pending}
use Rattle.fl_model.specs.Monitors.{hears}
use Rattle.fl_model.specs.State.{local, over_ring, State, StepOutcome, answers, Outlet}
use Rattle.fl_model.specs.State.{change_core, change_ring, change_end}
use Rattle.fl_model.specs.State.{end_of, end_in, first_on, in_queue, own_ring}
use Rattle.fl_model.specs.Sending.{writes_to}
use Rattle.fl_model.specs.Taking.{Chosen, takes_label, goes_back}
use Rattle.fl_model.specs.Forwarding.{LinkEnd, FragAtHop, label_of}
use Rattle.fl_model.specs.Step.{step}
use Rattle.fl_model_laws.proofs.Cases.{by_given}
use Rattle.fl_model.specs.Ends.{accepts, with_rule}
use Rattle.fl_hop.specs.declared.entry.Hop.{Hop}
use Rattle.fl_model.specs.State.{Binding, Route, change_out}
use Rattle.std.proofs.Common.{◌∙◌, ap}
use Rattle.fl_model.specs.Events.{accepted}
use Rattle.fl_model.specs.Ends.{passes, joined_by, Direction}
use Rattle.fl_model_laws.proofs.EndsStep.{queue_out}
use Rattle.fl_model_laws.proofs.Ends.{end_alike}
use Rattle.fl_model.specs.Binding.{arrival_queue, end_id}
use Rattle.fl_base.specs.declared.identity.Side.TheVariants.{Client}
use Rattle.fl_base.specs.Given.{given}
use Rattle.fl_model.specs.Monitors.{Hearing}
use Rattle.fl_model.specs.Forwarding.{takes_said}
use Rattle.fl_model.specs.State.{delivers}
use Rattle.fl_model_laws.proofs.Walk.{At, with_ring, IsTurn, IsPassing, Keeps}
use Rattle.fl_model_laws.proofs.Told.{IsPlain, Tells, step_tells}
use Rattle.fl_model_laws.proofs.Alike.{ReadsCalls, kept_alike, channel_alike, seat_alike, both_alike, delivered_alike, new_alike, follows_alike, said_alike, found_alike}

-- in a state that is still like the one before, this is read off the end, and what else is kept holds
pub record Still {Y : Type 0} (G : Option End → Y) (I : State → Type 0) (e : EndId) (y : Y) (s : State) : Type 0 where
  pub kept : I s
  pub alike : G (end_of s e) ≡ y

-- how many fragments of an end's calls have passed each station
abbrev pub passed_in : Option End → List ℕ
passed_in o = given o [] λ x. x.out.passed

abbrev pub passed_at : State → EndId → List ℕ
passed_at s e = passed_in (end_of s e)

-- what is to be shown of the events that tell of calls, and of a fragment that leaves a link
pub record TellsCalls {Y : Type 0} (G : Option End → Y) (I : State → Type 0) (e : EndId) (y : Y) (v : Event) (S : State → Type 0) (T : StepOutcome → Type 0) : Type 0 where
  pub begun : (s : State) → S s → Still G I e y s
  pub plain : (o : StepOutcome) → IsPlain o.answer → I o.state → G (end_of o.state e) ≡ y → T o
  pub settled : (a : Answer) (s : State) → T (answers s a) → T (answers (record s { may_set_cores = false }) a)
  pub called : (f : EndId) (c : TheCall) (b : Binding) (i : Planned) (s : State) → v ≡ call f c → At s f b i
      → is_busy i (end_in f.side b).out ≡ false → Still G I e y s → T (answers (change_out f (accepts c) s) accepted)
  pub written : (f : EndId) (b : Binding) (i : Planned) (o : Outlet) (s : State) → At s f b i
      → not (is_busy i (end_in f.side b).out) ≡ false → Still G I e y s → T (writes_to f i (end_in f.side b).out o there_is_room s)
  pub from_queue : (t : Chosen) (b : Binding) (i : Planned) (q : Queue) (label : Label) (s : State) → IsTurn t (pending t.channel) s
      → At s t.end b i → holds_back (end_in t.end.side b) ≡ false → (end_in t.end.side b).queue ≡ Some q
      → slice_get q.labels 0 ≡ Some label → S s
      → T (takes_label t.end i label (goes_back t (waits_in (Some (without_first q))) (change_end t.end (in_queue without_first) s)))
  pub from_ring : (t : Chosen) (b : Binding) (i : Planned) (at : RingEnd) (first : RingLabel) (s : State) → IsTurn t (pending t.channel) s
      → At s t.end b i → holds_back (end_in t.end.side b) ≡ false → own_ring t.end.side b.back ≡ Some at → first_on at s ≡ Some first → S s
      → T (takes_label t.end i first.label (goes_back t Polled (change_ring at.ring (takes at.side) s)))
  -- whatever else has changed since, but for the end's stations
  pub moves : (here : LinkEnd) (p : FragAtHop) (first : RingLabel) (route : Route) (hop : Hop) (s t : State) → IsPassing here p first route hop s
      → I s → passed_at t p.end ≡ passed_at s p.end → G (end_of (change_out p.end (passes p.station) t) e) ≡ G (end_of t e)

delivered_passed : (e : EndId) (l : Label) (f : EndId) (s : State) → passed_at (delivers l f s) e ≡ passed_at s e
delivered_passed e l f s =
    by_given (λ (t : State). passed_at t e ≡ passed_at s e) (end_of (change_end f (in_queue (joined_by l)) s) f) _ _ (queued e l f s)
    (λ x q. by_given (λ (t : State). passed_at t e ≡ passed_at s e) x.seat _ _ (queued e l f s) (λ seat r. queued e l f s))
  where
    queued : (e : EndId) (l : Label) (f : EndId) (s : State) → passed_at (change_end f (in_queue (joined_by l)) s) e ≡ passed_at s e
    queued e l f s = end_alike passed_in e f (in_queue (joined_by l)) s (λ x. ap (λ (d : Direction). d.passed) (queue_out x (joined_by l)))

module _ {Y : Type 0} (G : Option End → Y) (R : ReadsCalls G) (I : State → Type 0) (J : Keeps I) (e : EndId) (y : Y) (v : Event) (S : State → Type 0)
    (T : StepOutcome → Type 0) (K : TellsCalls G I e y v S T) where
  tells : Tells v S (Still G I e y) T
  tells = record {
    begun = K.begun;
    plain = λ o p h. K.plain o p h.kept h.alike;
    settled = K.settled;
    called = K.called;
    written = K.written;
    from_queue = K.from_queue;
    from_ring = K.from_ring;
    interface = λ i s q h. record { kept = J.interface i s q h.kept; alike = h.alike };
    cores = λ n s q h. record { kept = J.cores n s q h.kept; alike = h.alike };
    link = λ a b size s q r h. record { kept = J.link a b size s q r h.kept; alike = h.alike };
    dispatcher = λ core s h. record { kept = J.dispatcher core s h.kept; alike = h.alike };
    service = λ x s d i q r t h. record { kept = J.service x s d i q r t h.kept; alike = h.alike };
    queues = λ w i slots s k q h. record {
      kept = J.queues w i slots s k q h.kept;
      alike = both_alike G R e (length s.bindings) w _ ∙ new_alike G R e w local 2 (Some (fresh_queue slots)) s ∙ h.alike;
    };
    ring = λ w i size s k q r h. record {
      kept = J.ring w i size s k q r h.kept;
      alike = both_alike G R e (length s.bindings) w _ ∙ new_alike G R e w (over_ring (length s.rings)) 2 None (with_ring size s) ∙ h.alike;
    };
    route = λ w i cores k l c s want begins h. record {
      kept = J.route w i cores k l c s want begins h.kept;
      alike = seat_alike G R e w.client (end_id (length s.bindings) Client) _ ∙ new_alike G R e w _ (length cores + 1) (Some arrival_queue) s ∙ h.alike;
    };
    sure = λ need at s h. record { kept = J.sure need at s h.kept; alike = h.alike };
    looked = λ at s h. record { kept = J.looked at s h.kept; alike = h.alike };
    held = λ t b i s d at q h. record { kept = J.held t b i s d at q h.kept; alike = h.alike };
    no_label = λ t to s d h. record { kept = J.no_label t to s d h.kept; alike = h.alike };
    found_none = λ t s d h. record { kept = J.found_none t s d h.kept; alike = h.alike };
    found = λ t b at first s d q r u h. record {
      kept = J.found t b at first s d q r u h.kept;
      alike = found_alike G R e t at first.label (change_ring at.ring (looks at.side) s) ∙ h.alike;
    };
    acknowledged = λ at s q h. record { kept = J.acknowledged at s q h.kept; alike = h.alike };
    registered = λ f x s q r t h. record { kept = J.registered f x s q r t h.kept; alike = channel_alike G R e f _ s ∙ h.alike };
    deregistered = λ f x s q r h. record { kept = J.deregistered f x s q r h.kept; alike = channel_alike G R e f _ s ∙ h.alike };
    ruled = λ f msg answer b i s at h. record {
      kept = J.ruled f msg answer b i s at h.kept;
      alike = kept_alike G R e f (with_rule msg answer) s (λ x. refl) ∙ h.alike;
    };
    monitor_written = λ here link m s k q r t h. record { kept = J.monitor_written here link m s k q r t h.kept; alike = h.alike };
    heard = λ here m first k s j q r t h.
        let x : Hearing = hears s.services here.link m k in
        let told : State = change_core here.core (λ y. x.core) s in
        record {
          kept = J.heard here m first k s j q r t h.kept;
          alike = follows_alike G R e x.heard (takes_said here.ring x.heard told) ∙ said_alike G R e here.ring x.heard told ∙ h.alike;
        };
    passed = λ here p first route hop on s k q h. record {
      kept = J.passed here p first route hop on s k q h.kept;
      alike = K.moves here p first route hop s (change_ring here.ring.ring (takes here.ring.side) (change_ring on.ring (puts on.side (label_of p)) s)) k h.kept refl ∙ h.alike;
    };
    arrived = λ here p first route hop to s k q h. record {
      kept = J.arrived here p first route hop to s k q h.kept;
      alike =
          K.moves here p first route hop s (change_ring here.ring.ring (takes here.ring.side) (delivers (label_of p) to s)) k h.kept
          (delivered_passed p.end (label_of p) to s)
          ∙ delivered_alike G R e (label_of p) to s ∙ h.alike;
    };
    taken = λ here first s k q r h. record { kept = J.taken here first s k q r h.kept; alike = h.alike };
  }

  pub tells_of : (s : State) → S s → T (step s v)
  tells_of s h = step_tells v S (Still G I e y) T tells s h
