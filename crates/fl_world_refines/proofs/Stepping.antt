-- Each event of a world is the machine's step, from the law of each kind of event.
use Rattle.std.proofs.Common.{refl, sym, ◌∙◌, ap, subst, Bool, false, slice_get}
use Rattle.fl_base.specs.Ends.{other}
use Rattle.fl_core.specs.View.{TheCore}
use Rattle.fl_model.specs.Events.{Event, add_interface, set_cores, add_link, add_dispatcher, export, bind, call, show, write, turn, ack, register, deregister, reply, monitor_write, forward, monitor_ack}
use Rattle.fl_model.specs.Events.{Answer, done, accepted, nothing, full, written, handle, part, ready, quiet, forwarded, opened, opening_refused, words, refused}
use Rattle.fl_model.specs.State.{Binding, State, StepOutcome, binding_of, end_in}
use Rattle.fl_model.specs.Step.{does, settles_by, settles, step}
use Rattle.fl_model_laws.proofs.SoundSteps.{steps_are_sound}
use Rattle.fl_world_refines.specs.View.{TheWorld}
use Rattle.fl_world_refines.specs.ShowsState.{ShowsState, Shows}
use Rattle.fl_world_refines.specs.Step.{Does, settled_by, settled}
use Rattle.fl_world_refines.specs.Laws.{Agrees, InterfacesAgree, CoresAgree, LinksAgree, DispatchersAgree, ExportsAgree, BindsAgree, CallsAgree, PreviewsAgree, WritesAgree, TurnsAgree, AcknowledgesAgree, RegistersAgree, DeregistersAgree, RepliesAgree, MonitorWritesAgree, MonitorAcksAgree, ForwardsAgree, StepsAgree}
use Rattle.fl_world_refines.proofs.FramesBase.{same_some, SameWirings, wirings_same, SameLocations, SitsStill}
use Rattle.fl_world_refines.proofs.FramesWhole.{showing_stays, same_related}
use Rattle.fl_world_refines.proofs.FramesEnds.{locations_same, takes_on}
use Rattle.fl_world_refines.proofs.FramesCores.{state_alike}

-- ---- whether the number of cores stands

-- nothing else of a what is shown speaks of it
settled_frame : (w : TheWorld) (s : State) (b : Bool) → ShowsState w s → ShowsState (record w { may_set_cores = b }) (record s { may_set_cores = b })
settled_frame w s b p =
    let v : TheWorld = record w { may_set_cores = b } in
    let z : State = record s { may_set_cores = b } in
    let same = state_alike s z refl refl refl (λ a c. refl) in
    showing_stays w v s z p same
    (record {
      core_count = refl;
      cores = λ m a c u x. same_related SameWirings w.cores wirings_same m a c u x;
      count = refl;
      bindings = λ m a c u x. same_related SameLocations w.bindings locations_same m a c u x;
    })
    (record { may_set_cores = refl; dispatchers = p.dispatchers; programs = refl; names = refl })
    (record { count = p.cores.count; each = p.cores.each })
    (record { count = p.rings.count; each = λ m r d streams a c u. p.rings.each m r d streams a c u })
    (λ m x y i a c k l. (p.bindings.each m x y a c).unmade i k l) p.bindings.silent
    (λ e x y i seat m d a c k l u.
    subst (λ (g : Binding). SitsStill m.at i (end_in e.side g) (end_in (other e.side) g).out d m.place) (same_some (binding_of s e) x y a c)
    (record {
      at = m.at;
      at_is = ap (λ (g : TheCore). slice_get g.board.seats m.place) (same_some (slice_get w.cores seat.dispatcher.core) d m.core u m.core_is) ∙ m.at_is;
      dispatcher = refl;
      channel = refl;
      shows = m.shows;
    }))
    (λ e x y i seat m d a c l u.
    takes_on w v s z m.core d (end_in e.side x) (end_in e.side y) m.wired_end.wiring same.keeps
    (ap (λ (g : Binding). (end_in e.side g).queue) (same_some (binding_of s e) y x c a)) refl
    (ap (λ (g : TheCore). g.arrivals) (same_some (slice_get w.cores seat.dispatcher.core) d m.core u m.core_is)))

settles_alike : (a : Answer) (w : TheWorld) (s : State) → ShowsState w s → ShowsState (settled_by a w) (settles_by a s)
settles_alike done w s p = settled_frame w s false p
settles_alike accepted w s p = settled_frame w s false p
settles_alike nothing w s p = settled_frame w s false p
settles_alike full w s p = settled_frame w s false p
settles_alike (written k n) w s p = settled_frame w s false p
settles_alike (handle e c) w s p = settled_frame w s false p
settles_alike (part e) w s p = settled_frame w s false p
settles_alike (ready e) w s p = settled_frame w s false p
settles_alike (quiet e) w s p = settled_frame w s false p
settles_alike forwarded w s p = settled_frame w s false p
settles_alike (opened e) w s p = settled_frame w s false p
settles_alike (opening_refused n e) w s p = settled_frame w s false p
settles_alike (words f) w s p = settled_frame w s false p
settles_alike (refused n) w s p = p

-- ---- each kind of event

pub record EventLaws : Type 0 where
  pub interfaces : InterfacesAgree
  pub cores : CoresAgree
  pub links : LinksAgree
  pub dispatchers : DispatchersAgree
  pub exports : ExportsAgree
  pub binds : BindsAgree
  pub calls : CallsAgree
  pub previews : PreviewsAgree
  pub writes : WritesAgree
  pub turns : TurnsAgree
  pub acknowledges : AcknowledgesAgree
  pub registers : RegistersAgree
  pub deregisters : DeregistersAgree
  pub replies : RepliesAgree
  pub monitor_writes : MonitorWritesAgree
  pub monitor_acks : MonitorAcksAgree
  pub forwards : ForwardsAgree

does_agree : EventLaws → (event : Event) (w v : TheWorld) (s : State) (a : Answer) → Shows w s → Does event w a v → Agrees (does event s) a v
does_agree law (add_interface i plan) w v s a h d = law.interfaces i plan w v s a h d
does_agree law (set_cores n) w v s a h d = law.cores n w v s a h d
does_agree law (add_link x y size) w v s a h d = law.links x y size w v s a h d
does_agree law (add_dispatcher core) w v s a h d = law.dispatchers core w v s a h d
does_agree law (export name at i) w v s a h d = law.exports name at i w v s a h d
does_agree law (bind client i name kind) w v s a h d = law.binds client i name kind w v s a h d
does_agree law (call e c) w v s a h d = law.calls e c w v s a h d
does_agree law (show e) w v s a h d = law.previews e w v s a h d
does_agree law (write e) w v s a h d = law.writes e w v s a h d
does_agree law (turn at) w v s a h d = law.turns at w v s a h d
does_agree law (ack e) w v s a h d = law.acknowledges e w v s a h d
does_agree law (register e) w v s a h d = law.registers e w v s a h d
does_agree law (deregister e) w v s a h d = law.deregisters e w v s a h d
does_agree law (reply e msg answer) w v s a h d = law.replies e msg answer w v s a h d
does_agree law (monitor_write core neighbour) w v s a h d = law.monitor_writes core neighbour w v s a h d
does_agree law (forward core neighbour) w v s a h d = law.forwards core neighbour w v s a h d
does_agree law (monitor_ack core neighbour) w v s a h d = law.monitor_acks core neighbour w v s a h d

-- the machine settles as the world does
settled_agrees : (o : StepOutcome) (a : Answer) (v : TheWorld) → Agrees o a v → Agrees (record { state = settles_by o.answer o.state; answer = o.answer }) a (settled_by a v)
settled_agrees o a v h = record {
  answer = h.answer;
  showing = subst (λ x. ShowsState (settled_by a v) (settles_by x o.state)) (sym h.answer) (settles_alike a v o.state h.showing);
}

settles_agree : (event : Event) (o : StepOutcome) (a : Answer) (v : TheWorld) → Agrees o a v → Agrees (settles event o) a (settled event a v)
settles_agree (add_interface i plan) o a v h = h
settles_agree (set_cores n) o a v h = settled_agrees o a v h
settles_agree (add_link x y size) o a v h = settled_agrees o a v h
settles_agree (add_dispatcher core) o a v h = settled_agrees o a v h
settles_agree (export name at i) o a v h = settled_agrees o a v h
settles_agree (bind client i name kind) o a v h = settled_agrees o a v h
settles_agree (call e c) o a v h = settled_agrees o a v h
settles_agree (show e) o a v h = settled_agrees o a v h
settles_agree (write e) o a v h = settled_agrees o a v h
settles_agree (turn at) o a v h = settled_agrees o a v h
settles_agree (ack e) o a v h = settled_agrees o a v h
settles_agree (register e) o a v h = settled_agrees o a v h
settles_agree (deregister e) o a v h = settled_agrees o a v h
settles_agree (reply e msg answer) o a v h = settled_agrees o a v h
settles_agree (monitor_write core neighbour) o a v h = settled_agrees o a v h
settles_agree (forward core neighbour) o a v h = settled_agrees o a v h
settles_agree (monitor_ack core neighbour) o a v h = settled_agrees o a v h

-- the whole, from the laws of all events
pub steps_agree : EventLaws → StepsAgree
steps_agree law event w v s a shown u =
    let h = settles_agree event (does event s) a u.made (does_agree law event w u.made s a shown u.does) in
    record {
      answer = h.answer;
      shows = record {
        sound = steps_are_sound s event shown.sound;
        showing = subst (λ x. ShowsState x (step s event).state) (sym u.rest) h.showing;
      };
    }
