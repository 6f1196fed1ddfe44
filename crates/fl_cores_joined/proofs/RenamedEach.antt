-- Each event of one of the cores, under other numbers of bindings, is the machine's.
use Rattle.std.proofs.Common.{◌≡◌, ◌≢◌, ◌∙◌, ◌<◌, ◌∷◌, if◌then◌else◌, [], ℕ, refl, subst, inl, inr, arith, Bool, List, None, Option, Some, ap, false, length, nat_lt, option_map, replicate, slice_get, slice_set, suc, sym, take, true, zero}
use Rattle.fl_base.specs.Control.{circuit_of}
use Rattle.fl_base.specs.Given.{given}
use Rattle.fl_base.specs.Numbered.{most_bindings}
use Rattle.fl_base.specs.declared.fragment.Frag.{Frag}
use Rattle.fl_base.specs.declared.identity.EndId.{EndId}
use Rattle.fl_base.specs.declared.identity.LinkId.{LinkId}
use Rattle.fl_base.specs.declared.identity.MsgNo.{MsgNo}
use Rattle.fl_core.specs.Hearing.{Offers}
use Rattle.fl_core.specs.Jobs.{calls_of_job, is_before_calls}
use Rattle.fl_core.specs.View.{TheCore, side_of_link, slot_of}
use Rattle.fl_core.specs.declared.answer.LinkFront.{LinkFront}
use Rattle.fl_core.specs.declared.answer.MonitorWrite.{MonitorWrite}
use Rattle.fl_core.specs.declared.board_fault.BoardFault.{BoardFault}
use Rattle.fl_core.specs.declared.core_job.CoreJob.{CoreJob}
use Rattle.fl_core.specs.declared.core_job.OpenRequest.{OpenRequest}
use Rattle.fl_core.specs.declared.fault.LinkReceiveFault.{LinkReceiveFault}
use Rattle.fl_core.specs.declared.fault.OpenFault.{OpenFault}
use Rattle.fl_core.specs.declared.turn_answer.AckAnswer.{AckAnswer}
use Rattle.fl_core.specs.declared.turn_answer.TurnAnswer.{TurnAnswer}
use Rattle.fl_core.specs.declared.wiring.Inlet.{Inlet}
use Rattle.fl_core.specs.declared.wiring.Outlet.{Outlet}
use Rattle.fl_core.specs.declared.wiring.WiredEnd.{WiredEnd}
use Rattle.fl_core_run.specs.EndProgress.{TheEndProgress, progress_place}
use Rattle.fl_core_run.specs.LogEntries.{ActsSoundly}
use Rattle.fl_core_run.specs.Run.{TheRun, lent_link_side}
use Rattle.fl_core_run.specs.Steps.{lacks_to_call, lacks_to_open}
use Rattle.fl_core_run_laws.proofs.Looking.{if_wrote}
use Rattle.fl_core_run_laws.specs.Led.{IsLed}
use Rattle.fl_core_run_laws.specs.Logs.{InPlace}
use Rattle.fl_cores_joined.proofs.Joining.{long_set}
use Rattle.fl_cores_joined.proofs.Passing.{long_map}
use Rattle.fl_cores_joined.proofs.RenamedTable.{few_same}
use Rattle.fl_cores_joined.specs.Joined.{AreWhole, IsJoined, JoinedCore, in_world}
use Rattle.fl_cores_joined.specs.Rings.{FacingSide}
use Rattle.fl_endpoint.specs.Laws.{OnAnotherCircuit}
use Rattle.fl_endpoint.specs.declared.answer.WriteAnswer.{WriteAnswer}
use Rattle.fl_endpoint.specs.declared.fault.EndFault.{EndFault}
use Rattle.fl_hop.specs.Later.{way_at}
use Rattle.fl_hop.specs.Table.{TheCircuits, hop_at}
use Rattle.fl_hop.specs.declared.entry.Hop.{Hop}
use Rattle.fl_hop.specs.declared.entry.HopTarget.{HopTarget}
use Rattle.fl_hop.specs.declared.links.LinkState.{LinkState}
use Rattle.fl_model.specs.Events.{bind, by_route}
use Rattle.fl_model.specs.State.{State}
use Rattle.fl_monitor.specs.Monitors.{first_link}
use Rattle.fl_nameserv.specs.Registrations.{TheRegistration, by_iref, by_name}
use Rattle.fl_ring.specs.SharedSides.{TheSide}
use Rattle.fl_value_data.specs.Value.{TheCall}
use Rattle.fl_world_refines.proofs.FramesBase.{same_some}
use Rattle.fl_world_refines.proofs.WritingPieces.{same_core_there}
use Rattle.fl_world_refines.specs.Laws.{StepsAgree}
use Rattle.fl_world_refines.specs.View.{TheWorld}
use Rattle.std.proofs.lemmas.Bool.Decides.{nat_tests}
use Rattle.std.specs.Prelude.{Ok, Result}
use Rattle.fl_hop.specs.declared.entry.HopTarget.TheVariants.{End}
use Rattle.fl_core.specs.declared.core_job.CoreJob.TheVariants as job
use Rattle.fl_core.specs.declared.wiring.EndWiring.TheVariants as wired_as
use Rattle.fl_core.specs.declared.wiring.Outlet.TheVariants as outlet
use Rattle.fl_core.specs.declared.wiring.Inlet.TheVariants as inlet
use Rattle.fl_endpoint.specs.declared.answer.WriteAnswer.TheVariants as write
use Rattle.fl_core.specs.View.{outlet_by, inlet_by, inlet_of}
use Rattle.fl_core.specs.declared.wiring.EndWiring.{EndWiring}
use Rattle.fl_core_run.specs.Run.{next_job}
use Rattle.fl_core_run.specs.LogEntries.{LogEntry, looked, said, told, opened, called, ruled, wrote, acked, turned, Does}
use Rattle.fl_core_run_laws.proofs.Laning.{link_by, link_at, link_side_of, puts_to, takes_from, wired_end_out, wired_end_in, steps_by}
use Rattle.fl_core_run_laws.proofs.Wending.{event_went}
use Rattle.fl_hop.proofs.Lists.{set_here, set_cases, within, at_within}
use Rattle.fl_hop.proofs.Numbering.{small}
use Rattle.fl_hop.specs.Joined.{Sound as IsTable, Leads}
use Rattle.fl_hop.specs.Stretch.{goes_through}
use Rattle.fl_model.specs.Events.{Event, Answer, call, reply, write as write_event, ack, turn, forward, monitor_write, monitor_ack}
use Rattle.fl_world_refines.specs.Taking.{turn_answer}
use Rattle.fl_world_refines.specs.Linking.{write_answer as monitor_answer, ack_answer}
use Rattle.fl_cores_joined.specs.Steps.{true_ways, HappensAt, call_answer, rule_answer, write_answer, acked_answer, opened_answer, look_answer, neighbour_on, opening_event, name_of, cores_of}
use Rattle.fl_cores_joined.specs.Laws.{TheyShow, MachineDoes, AsksRightly, IsNumbered}
use Rattle.fl_cores_joined.specs.Renamed.{Renaming, end_under, request_under, JoinedUnder, AreUnder}
use Rattle.fl_cores_joined.specs.RenamedRuns.{event_under, answer_under, IsWiredFor, AreWiredFor}
use Rattle.fl_cores_joined.proofs.Writing.{writes_are}
use Rattle.fl_cores_joined.proofs.Turning.{turns_are}
use Rattle.fl_cores_joined.proofs.Calling.{calls_are, rules_are}
use Rattle.fl_cores_joined.proofs.Telling.{acks_are, takes_ring}
use Rattle.fl_cores_joined.proofs.Linking.{says_so, tells_so}
use Rattle.fl_cores_joined.proofs.Looking.{looks_are}
use Rattle.fl_cores_joined.proofs.Opening.{opens_there}
use Rattle.fl_cores_joined.proofs.Joining.{core_joined}
use Rattle.fl_core.proofs.Numbering.{goes_to}
use Rattle.fl_cores_joined.proofs.RenamedLinks.{IsLastLook, links_are}
use Rattle.fl_cores_joined.proofs.RenamedAnswers.{said_same, ack_same, acked_same, call_same, rule_same, write_same, opened_same, turn_there}
use Rattle.fl_cores_joined.proofs.RenamedRun.{Runs, Done, IsLinks, IsOwn, looked_last, said_so, told_so, opened_so, called_so, ruled_so, wrote_queue, wrote_ring, wrote_link, acked_so, turned_queue, turned_ring, turned_arrivals}
use Rattle.fl_cores_joined.proofs.RenamedInPlace.{asked_few, link_lent, post_there, due_lent, ring_end_there, may_there, acts_there}
use Rattle.fl_cores_joined.proofs.RenamedHappens.{there, other, under_there, HappensThere, happens_there}
use Rattle.fl_cores_joined.proofs.RenamedWired.{whole_there}

-- ---- numbers of circuits

given_number : (t : TheCircuits) (l n binding : ℕ) (way : HopTarget) → IsTable t → Leads t l n binding way → n ≢ 0
given_number t l n binding way k leads =
    elim (k.toward l n binding way leads) [
      | inl (o, is) ↦ (small t.core o.link.neighbour.0 o.link.opened n (k.counts l o.link o.there).0 o.among).0
      | inr (o, is) ↦ (small o.link.neighbour.0 t.core o.link.taken n (k.counts l o.link o.there).1 o.among).0
    ]

-- a number that leads some way isn't 0
pub led_number : (t : TheCircuits) (l n : ℕ) (way : HopTarget) → IsTable t → way_at t l n ≡ Some way → n ≢ 0
led_number t l n way k h = by (hop_at t l n) refl h
  where
    by : (o : Option Hop) → hop_at t l n ≡ o → option_map (λ (hop : Hop). hop.way) o ≡ Some way → n ≢ 0
    by None q e = absurd (cc)
    by (Some hop) q e = given_number t l n hop.binding hop.way k (record { answered = hop.answered; there = q })

-- ---- a job that is next

lent_within : (o : Option ℕ) (i most : ℕ) → (given o None λ n. if nat_lt n most then Some n else None) ≡ Some i → i < most
lent_within None i most h = absurd (cc)
lent_within (Some n) i most h = by (nat_lt n most) refl h
  where
    by : (b : Bool) → nat_lt n most ≡ b → (if b then Some n else None) ≡ Some i → i < most
    by true q e = let same : n ≡ i = cc in subst (λ (k : ℕ). k < most) same (grind (arith, nat_tests, q))
    by false q e = absurd (cc)

many_get : (n : ℕ) (x : TheEndProgress) → slice_get (replicate (suc n) x) n ≡ Some x
many_get zero x = refl
many_get (suc n) x = many_get n x

many_long : (n : ℕ) (x : TheEndProgress) → nat_lt n (length (replicate (suc n) x)) ≡ true
many_long n x = let e = long n in grind (arith, nat_tests, e)
  where
    long : (k : ℕ) → length (replicate k x) ≡ k
    long zero = refl
    long (suc k) = ap suc (long k)

abbrev given_at : EndId → List TheEndProgress
given_at name = replicate (suc (slot_of name)) (record { jobs = 0 ∷ []; done = 0; due = 0; handled = []; refused = 0 })

next_is : (s : TheRun FacingSide) (name : EndId) (j : CoreJob) → s.progresses ≡ given_at name → nat_lt name.binding most_bindings ≡ true
    → next_job (j ∷ []) s name ≡ Some j
next_is s name j same few =
    let d : TheEndProgress = record { jobs = 0 ∷ []; done = 0; due = 0; handled = []; refused = 0 } in
    ap (λ (ps : List TheEndProgress). given (progress_place ps name) None λ n. given (slice_get ps n) None λ p.
    given (slice_get p.jobs p.done) None λ place. slice_get (j ∷ []) place) same
    ∙ ap (λ (b : Bool). given (if b then (if nat_lt (slot_of name) (length (given_at name)) then Some (slot_of name) else None) else None) None λ n.
    given (slice_get (given_at name) n) None λ (p : TheEndProgress). given (slice_get p.jobs p.done) None λ place. slice_get (j ∷ []) place) few
    ∙ ap (λ (b : Bool). given (if b then Some (slot_of name) else None) None λ n.
    given (slice_get (given_at name) n) None λ (p : TheEndProgress). given (slice_get p.jobs p.done) None λ place. slice_get (j ∷ []) place)
    (many_long (slot_of name) d)
    ∙ ap (λ (o : Option TheEndProgress). given o None λ (p : TheEndProgress). given (slice_get p.jobs p.done) None λ place. slice_get (j ∷ []) place)
    (many_get (slot_of name) d)

-- where one is next the end may be
job_few : (jobs : List CoreJob) (s : TheRun FacingSide) (name : EndId) (j : CoreJob) → next_job jobs s name ≡ Some j → nat_lt name.binding most_bindings ≡ true
job_few jobs s name j h = by (nat_lt name.binding most_bindings) h
  where
    by : (b : Bool) → (given (if b then (if nat_lt (slot_of name) (length s.progresses) then Some (slot_of name) else None) else None) None λ n.
        given (slice_get s.progresses n) None λ (p : TheEndProgress). given (slice_get p.jobs p.done) None λ place. slice_get jobs place) ≡ Some j → b ≡ true
    by true q = refl
    by false q = absurd (cc)

-- and where none is, none waits
abbrev no_jobs : List CoreJob
no_jobs = []

none_next : (s : TheRun FacingSide) (name : EndId) → next_job [] s name ≡ None
none_next s name = by (progress_place s.progresses name)
  where
    third : (o : Option ℕ) → (given o None λ place. slice_get no_jobs place) ≡ None
    third None = refl
    third (Some place) = refl

    second : (o : Option TheEndProgress) → (given o None λ p. given (slice_get p.jobs p.done) None λ place. slice_get no_jobs place) ≡ None
    second None = refl
    second (Some p) = third (slice_get p.jobs p.done)

    by : (o : Option ℕ) → (given o None λ n. given (slice_get s.progresses n) None λ (p : TheEndProgress).
        given (slice_get p.jobs p.done) None λ place. slice_get no_jobs place) ≡ None
    by None = refl
    by (Some n) = second (slice_get s.progresses n)

-- ---- a core with other progress at its ends

module _ (n : ℕ) (y : JoinedCore) (ps : List TheEndProgress) where
  abbrev pub instead : JoinedCore
  instead = record y { run = record y.run { progresses = ps } }

  pub shows_instead : (xs : List JoinedCore) (s : State) → slice_get xs n ≡ Some y → TheyShow xs s → TheyShow (slice_set xs n instead) s
  shows_instead xs s y_is show =
      let w = show.world in
      let there : slice_get w.cores n ≡ Some (in_world y)
      = ap (λ (cs : List TheCore). slice_get cs n) show.joined.cores ∙ goes_to in_world xs n y y_is in
      record {
        world = w;
        joined =
            subst (λ (v : TheWorld). IsJoined v (slice_set xs n instead)) (same_core_there w n (in_world y) there)
            (core_joined w xs show.joined n y y_is (record y.run { progresses = ps }) refl refl refl refl refl);
        shows = show.shows;
      }

  pub under_instead : (r : Renaming) (links : ℕ → Bool) (xs ys : List JoinedCore) → slice_get ys n ≡ Some y → AreUnder r links xs ys
      → AreUnder r links xs (slice_set ys n instead)
  under_instead r links xs ys y_is a = record {
    count = long_set ys n instead ∙ a.count;
    each = λ k x z x_is z_is.
        elim (set_cases ys n instead k z z_is) [
          | inl (place, same) ↦
              (let it = a.each k x y x_is (ap (slice_get ys) place ∙ y_is) in
              subst (λ (w : JoinedCore). JoinedUnder r links x w) (sym same)
              (record {
                run = record { core = it.run.core; count = it.run.count; rings = it.run.rings; queues = it.run.queues; offers = it.run.offers };
                sides = it.sides;
                queues = it.queues;
              }))
          | inr (apart, was) ↦ a.each k x z x_is was
        ];
  }

-- ---- the events

-- the cores under other numbers behind an event, and that it is the machine's
pub record Comes (r : Renaming) (links : ℕ → Bool) (event : Event) (answer : Answer) (s : State) (ms : List JoinedCore) : Type 0 where
  pub cores : List JoinedCore
  pub under : AreUnder r links ms cores
  pub does : MachineDoes event answer s cores

module _ (r : Renaming) (links : ℕ → Bool) (jobs : List CoreJob) (n : ℕ) (xs ms xs2 : List JoinedCore) (a : AreUnder r links xs xs2)
    (wired : AreWiredFor links xs) where
  pub long : (k : ℕ) (x : JoinedCore) → slice_get xs k ≡ Some x → length x.sides ≡ length x.run.rings
  long k x x_is = (wired k x x_is).long

  module _ (log_entry : LogEntry) (h : HappensAt jobs n log_entry xs ms) where
    abbrev its : IsWiredFor links h.before
    its = wired n h.before h.before_is

    pub core_own : h.beside.core ≡ h.before.run.core
    core_own = ap (λ (t : TheRun TheSide). t.core) h.beside_is.own

    rings_long : length h.before.sides ≡ length h.beside.rings
    rings_long =
        its.long ∙ sym (ap (λ (t : TheRun TheSide). length t.rings) h.beside_is.own) ∙ long_map (λ (p : FacingSide). p.side) h.beside.rings

    number_at : (i : ℕ) → i < length h.beside.rings → (number : ℕ) × (slice_get h.before.sides i ≡ Some number)
    number_at i less = let many = rings_long in at_within h.before.sides i (omega (arith, less, many))

    -- the side of a link
    pub link_at_side : (i : ℕ) (l : LinkId) → lent_link_side h.beside l ≡ Some i → IsLinks r links h.before.sides i
    link_at_side i l is =
        let (number, number_is) = number_at i (lent_within (side_of_link h.beside.core.link_sides l.0) i (length h.beside.rings) is) in
        record {
          number = number;
          number_is = number_is;
          link = its.link_sides l.0 i number
              (ap (λ (k : TheCore). side_of_link k.link_sides l.0) (sym core_own) ∙ link_side_of h.beside l i is) number_is;
        }

    -- of another, over which a fragment goes
    pub link_onward : (i l : ℕ) (p : FacingSide) → slice_get h.beside.rings i ≡ Some p → side_of_link h.beside.core.link_sides l ≡ Some i
        → IsLinks r links h.before.sides i
    link_onward i l p p_is is =
        let (number, number_is) = number_at i (within h.beside.rings i p p_is) in
        record {
          number = number;
          number_is = number_is;
          link = its.link_sides l i number (ap (λ (k : TheCore). side_of_link k.link_sides l) (sym core_own) ∙ is) number_is;
        }

    -- the side of a ring of a binding
    pub own_side : (i e : ℕ) (p : FacingSide) (w : WiredEnd) → slice_get h.beside.rings i ≡ Some p → slice_get h.beside.core.wired_ends e ≡ Some w
        → w.wiring ≡ wired_as.Ring i → IsOwn r links h.before.sides i
    own_side i e p w p_is w_is ring =
        let (number, number_is) = number_at i (within h.beside.rings i p p_is) in
        record {
          number = number;
          number_is = number_is;
          own = its.rings e i number w (ap (λ (k : TheCore). slice_get k.wired_ends e) (sym core_own) ∙ w_is) ring number_is;
        }

    pub own_inlet : (i e : ℕ) (p : FacingSide) → slice_get h.beside.rings i ≡ Some p → inlet_of h.beside.core e ≡ Some (inlet.Side i)
        → IsOwn r links h.before.sides i
    own_inlet i e p p_is is =
        let (w, w_is, same) = wired_end_in h.beside.core e (inlet.Side i) (slice_get h.beside.core.wired_ends e) refl is in
        own_side i e p w p_is w_is (ring_of w.wiring same)
      where
        ring_of : (x : EndWiring) → inlet_by x ≡ inlet.Side i → x ≡ wired_as.Ring i
        ring_of (wired_as.Ring k) q = let e : k ≡ i = cc in ap wired_as.Ring e
        ring_of (wired_as.Queues out from) q = absurd (cc)
        ring_of (wired_as.Circuit link arrivals) q = absurd (cc)

    abbrev pub beside2 : TheRun FacingSide
    beside2 = there r links jobs n log_entry xs ms xs2 h a long

    pub under2 : Runs r links h.before.sides h.beside beside2
    under2 = under_there r links jobs n log_entry xs ms xs2 h a long

    -- what happened there, with the core to which it was done
    pub happened : (jobs2 : List CoreJob) (other_entry : LogEntry) → Done r links h.before.sides h.happens.0 (λ x. Does true_ways other_entry beside2 x)
        → InPlace jobs2 beside2 other_entry → ActsSoundly other_entry beside2
        → HappensThere r links jobs n log_entry xs ms xs2 h a long jobs2 other_entry
    happened jobs2 other_entry d in_place acts = happens_there r links jobs n log_entry xs ms xs2 h a long jobs2 other_entry d in_place acts

    pub same_neighbour : (x y : JoinedCore) (l : LinkId) → JoinedUnder r links x y → neighbour_on y.run.core l ≡ neighbour_on x.run.core l
    same_neighbour x y l u =
        ap (λ (ls : List LinkState). given (slice_get ls l.0) 0 λ (link : LinkState). link.neighbour.0) (links_are r x.run.core y.run.core u.run.core)

module _ (law : StepsAgree) (on : OnAnotherCircuit) (r : Renaming) (links : ℕ → Bool) (jobs : List CoreJob) (n : ℕ) (xs ms xs2 : List JoinedCore) (s : State)
    (show : TheyShow xs2 s) (a : AreUnder r links xs xs2) (wired : AreWiredFor links xs) (whole : AreWhole xs) (still : AreWhole ms) where
  whole2 : AreWhole xs2
  whole2 = whole_there r links xs xs2 a whole

  -- ---- on a link

  pub said_comes : (i : ℕ) (l : LinkId) (answer : MonitorWrite) (h : HappensAt jobs n (said i l answer) xs ms)
      → Comes r links (monitor_write n (neighbour_on h.before.run.core l)) (answer_under r (monitor_answer answer)) s ms
  said_comes i l answer h =
      let log_entry = said i l answer in
      let u = under2 r links jobs n xs ms xs2 a wired log_entry h in
      let it = happened r links jobs n xs ms xs2 a wired log_entry h jobs log_entry
      (said_so r links h.before.sides h.beside (beside2 r links jobs n xs ms xs2 a wired log_entry h) h.happens.0 u i
      (link_at_side r links jobs n xs ms xs2 a wired log_entry h i l h.in_place) l answer h.happens.1)
      (link_lent r links h.before.sides h.beside (beside2 r links jobs n xs ms xs2 a wired log_entry h) u l ∙ h.in_place) tt in
      let does = says_so law n i l jobs xs2 it.after s show whole2 (whole_there r links ms it.after it.under still) answer it.happens in
      record {
        cores = it.after;
        under = it.under;
        does =
            subst (λ (c : ℕ). MachineDoes (monitor_write n c) (answer_under r (monitor_answer answer)) s it.after)
            (same_neighbour r links jobs n xs ms xs2 a wired log_entry h h.before it.happens.before l it.before)
            (subst (λ (z : Answer). MachineDoes (monitor_write n (neighbour_on it.happens.before.run.core l)) z s it.after) (sym (said_same r answer)) does);
      }

  pub told_comes : (i : ℕ) (l : LinkId) (answer : AckAnswer) (h : HappensAt jobs n (told i l answer) xs ms)
      → Comes r links (monitor_ack n (neighbour_on h.before.run.core l)) (answer_under r (ack_answer answer)) s ms
  told_comes i l answer h =
      let log_entry = told i l answer in
      let u = under2 r links jobs n xs ms xs2 a wired log_entry h in
      let it = happened r links jobs n xs ms xs2 a wired log_entry h jobs log_entry
      (told_so r links h.before.sides h.beside (beside2 r links jobs n xs ms xs2 a wired log_entry h) h.happens.0 u i
      (link_at_side r links jobs n xs ms xs2 a wired log_entry h i l h.in_place) l answer h.happens.1)
      (link_lent r links h.before.sides h.beside (beside2 r links jobs n xs ms xs2 a wired log_entry h) u l ∙ h.in_place) tt in
      let does = tells_so law n i l jobs xs2 it.after s show whole2 (whole_there r links ms it.after it.under still) answer it.happens in
      record {
        cores = it.after;
        under = it.under;
        does =
            subst (λ (c : ℕ). MachineDoes (monitor_ack n c) (answer_under r (ack_answer answer)) s it.after)
            (same_neighbour r links jobs n xs ms xs2 a wired log_entry h h.before it.happens.before l it.before)
            (subst (λ (z : Answer). MachineDoes (monitor_ack n (neighbour_on it.happens.before.run.core l)) z s it.after) (sym (ack_same r answer)) does);
      }

  -- a look that leaves nothing to follow
  pub looked_comes : (i : ℕ) (l : LinkId) (found : Result LinkFront LinkReceiveFault) (answer : Answer) → IsLastLook found → look_answer found ≡ Some answer
      → answer_under r answer ≡ answer → (h : HappensAt jobs n (looked i l found) xs ms)
      → Comes r links (forward n (neighbour_on h.before.run.core l)) (answer_under r answer) s ms
  looked_comes i l found answer last is same h =
      let log_entry = looked i l found in
      let u = under2 r links jobs n xs ms xs2 a wired log_entry h in
      let it = happened r links jobs n xs ms xs2 a wired log_entry h jobs log_entry
      (looked_last r links h.before.sides h.beside (beside2 r links jobs n xs ms xs2 a wired log_entry h) h.happens.0 u i
      (link_at_side r links jobs n xs ms xs2 a wired log_entry h i l h.in_place) l found last h.happens.1)
      (link_lent r links h.before.sides h.beside (beside2 r links jobs n xs ms xs2 a wired log_entry h) u l ∙ h.in_place) tt in
      let does = looks_are law n i l found answer is jobs xs2 it.after s show whole2 (whole_there r links ms it.after it.under still) it.happens in
      record {
        cores = it.after;
        under = it.under;
        does =
            subst (λ (c : ℕ). MachineDoes (forward n c) (answer_under r answer) s it.after)
            (same_neighbour r links jobs n xs ms xs2 a wired log_entry h h.before it.happens.before l it.before)
            (subst (λ (z : Answer). MachineDoes (forward n (neighbour_on it.happens.before.run.core l)) z s it.after) (sym same) does);
      }

  -- ---- at an end

  pub wrote_comes : (name : EndId) (out : Outlet) (answer : Result WriteAnswer EndFault) (h : HappensAt jobs n (wrote name out answer) xs ms)
      → Comes r links (write_event (end_under r name)) (answer_under r (write_answer answer)) s ms
  wrote_comes name out answer h =
      let log_entry = wrote name out answer in
      let other_entry = wrote (end_under r name) out answer in
      let u = under2 r links jobs n xs ms xs2 a wired log_entry h in
      let (post, post_is, same) = h.in_place in
      let it = happened r links jobs n xs ms xs2 a wired log_entry h jobs other_entry (done_by out answer h)
      (post, post_there r links h.before.sides h.beside (beside2 r links jobs n xs ms xs2 a wired log_entry h) u name ∙ post_is, same)
      (acts_there r links h.before.sides h.beside (beside2 r links jobs n xs ms xs2 a wired log_entry h) u name h.happens.4) in
      let does = writes_are law n (end_under r name) out answer jobs xs2 it.after s show whole2 (whole_there r links ms it.after it.under still) it.happens in
      record {
        cores = it.after;
        under = it.under;
        does = subst (λ (z : Answer). MachineDoes (write_event (end_under r name)) z s it.after) (sym (write_same r answer)) does;
      }
    where
      -- the fragment that an end of a circuit writes is of that
      of_circuit : (i : ℕ) (got : Result WriteAnswer EndFault) (g : HappensAt jobs n (wrote name (outlet.Side i) got) xs ms) (l : LinkId) (number count : ℕ)
          (f : Frag) (rest : List Frag) → link_at g.beside.core g.happens.1.0 ≡ Some l → got ≡ Ok (write.Written number count)
          → g.happens.1.2.event.writes.seat.end.outgoing.unwritten ≡ f ∷ rest → circuit_of f.control ≢ 0
      of_circuit i got g l number count f rest link_is is un =
          let t = g.beside.core.monitor.circuits in
          let went = event_went true_ways jobs on g.beside g.happens.0 g.happens.3.core g.happens.3.table
          (subst IsLed (sym (core_own r links jobs n xs ms xs2 a wired (wrote name (outlet.Side i) got) g)) (wired n g.before g.before_is).led)
          (wrote name (outlet.Side i) got) g.in_place g.happens.4 g.happens.1 in
          let one = subst (λ (o : Option LinkId). goes_through t (steps_by t o name (if_wrote got g.happens.1.2.event.writes.seat.end.outgoing.unwritten))
          g.happens.0.core.monitor.circuits) link_is went in
          let two = subst (λ (b : Result WriteAnswer EndFault). goes_through t
          (steps_by t (Some l) name (if_wrote b g.happens.1.2.event.writes.seat.end.outgoing.unwritten))
          g.happens.0.core.monitor.circuits) is one in
          let three = subst (λ (fs : List Frag). goes_through t (steps_by t (Some l) name (take 1 fs)) g.happens.0.core.monitor.circuits) un two in
          led_number t l.0 (circuit_of f.control) (End name) g.happens.3.table three.1.led

      by_wiring_of : (i : ℕ) (got : Result WriteAnswer EndFault) (g : HappensAt jobs n (wrote name (outlet.Side i) got) xs ms) (w : WiredEnd)
          → slice_get g.beside.core.wired_ends g.happens.1.0 ≡ Some w → (x : EndWiring) → w.wiring ≡ x
          → outlet_by g.beside.core.link_sides x ≡ Some (outlet.Side i)
          → Done r links g.before.sides g.happens.0 (λ z. Does true_ways (wrote (end_under r name) (outlet.Side i) got)
          (beside2 r links jobs n xs ms xs2 a wired (wrote name (outlet.Side i) got) g) z)
      by_wiring_of i got g w w_is (wired_as.Queues to from) wiring is = absurd (cc)
      by_wiring_of i got g w w_is (wired_as.Ring k) wiring is =
          let log_entry = wrote name (outlet.Side i) got in
          let side : k ≡ i = cc in
          wrote_ring r links g.before.sides g.beside (beside2 r links jobs n xs ms xs2 a wired log_entry g) g.happens.0
          (under2 r links jobs n xs ms xs2 a wired log_entry g) name i got
          (own_side r links jobs n xs ms xs2 a wired log_entry g i g.happens.1.0 g.happens.1.2.before w g.happens.1.2.before_is w_is
          (wiring ∙ ap wired_as.Ring side)) g.happens.1
      by_wiring_of i got g w w_is (wired_as.Circuit l arrivals) wiring is =
          let log_entry = wrote name (outlet.Side i) got in
          let link_is : link_at g.beside.core g.happens.1.0 ≡ Some l =
          ap (λ (o : Option WiredEnd). given o None λ (p : WiredEnd). link_by p.wiring) w_is ∙ ap link_by wiring in
          wrote_link r links g.before.sides g.beside (beside2 r links jobs n xs ms xs2 a wired log_entry g) g.happens.0
          (under2 r links jobs n xs ms xs2 a wired log_entry g) name i got
          (link_onward r links jobs n xs ms xs2 a wired log_entry g i l.0 g.happens.1.2.before g.happens.1.2.before_is
          (side_in_link (side_of_link g.beside.core.link_sides l.0) is)) g.happens.1
          (λ f rest number count answer_is un. of_circuit i got g l number count f rest link_is answer_is un)
        where
          side_in_link : (o : Option ℕ) → (given o None λ (side : ℕ). Some (outlet.Side side)) ≡ Some (outlet.Side i) → o ≡ Some i
          side_in_link None q = absurd (cc)
          side_in_link (Some k) q = let e : k ≡ i = cc in ap (λ (j : ℕ). Some j) e

      done_by : (o : Outlet) (got : Result WriteAnswer EndFault) (g : HappensAt jobs n (wrote name o got) xs ms)
          → Done r links g.before.sides g.happens.0 (λ z. Does true_ways (wrote (end_under r name) o got)
          (beside2 r links jobs n xs ms xs2 a wired (wrote name o got) g) z)
      done_by (outlet.Queue i) got g =
          wrote_queue r links g.before.sides g.beside (beside2 r links jobs n xs ms xs2 a wired (wrote name (outlet.Queue i) got) g) g.happens.0
          (under2 r links jobs n xs ms xs2 a wired (wrote name (outlet.Queue i) got) g) name i got
          g.happens.1
      done_by (outlet.Side i) got g =
          let (post, post_is, same) = g.in_place in
          let puts = puts_to g.beside name g.happens.1.0 post (outlet.Side i) g.happens.1.1 post_is same in
          let (w, w_is, out_is) = wired_end_out g.beside.core g.happens.1.0 (outlet.Side i) (slice_get g.beside.core.wired_ends g.happens.1.0) refl puts in
          by_wiring_of i got g w w_is w.wiring refl out_is

  pub acked_comes : (name : EndId) (i : ℕ) (answer : Result AckAnswer BoardFault) (h : HappensAt jobs n (acked name i answer) xs ms)
      → Comes r links (ack (end_under r name)) (answer_under r (acked_answer answer)) s ms
  acked_comes name i answer h =
      let log_entry = acked name i answer in
      let other_entry = acked (end_under r name) i answer in
      let u = under2 r links jobs n xs ms xs2 a wired log_entry h in
      let (post, post_is, same) = h.in_place in
      let own = own_inlet r links jobs n xs ms xs2 a wired log_entry h i h.happens.1.0 h.happens.1.2.before h.happens.1.2.before_is
      (takes_ring h.beside name h.happens.1.0 post i h.happens.1.1 post_is same) in
      let it = happened r links jobs n xs ms xs2 a wired log_entry h jobs other_entry
      (acked_so r links h.before.sides h.beside (beside2 r links jobs n xs ms xs2 a wired log_entry h) h.happens.0 u name i answer own h.happens.1)
      (post, ring_end_there r links h.before.sides h.beside (beside2 r links jobs n xs ms xs2 a wired log_entry h) u name ∙ post_is, same) tt in
      let does = acks_are law n (end_under r name) i answer jobs xs2 it.after s show whole2 (whole_there r links ms it.after it.under still) it.happens in
      record {
        cores = it.after;
        under = it.under;
        does = subst (λ (z : Answer). MachineDoes (ack (end_under r name)) z s it.after) (sym (acked_same r answer)) does;
      }

  pub turned_comes : (d : ℕ) (name : EndId) (from : Inlet) (answer : TurnAnswer) (h : HappensAt jobs n (turned d name from answer) xs ms)
      → Comes r links (turn (record { core = n; place = d })) (answer_under r (turn_answer name answer)) s ms
  turned_comes d name from answer h =
      let log_entry = turned d name from answer in
      let other_entry = turned d (end_under r name) from answer in
      let u = under2 r links jobs n xs ms xs2 a wired log_entry h in
      let (post, post_is, at, same, waits) = h.in_place in
      let it = happened r links jobs n xs ms xs2 a wired log_entry h no_jobs other_entry (done_by from h) (
        post,
        due_lent r links h.before.sides h.beside (beside2 r links jobs n xs ms xs2 a wired log_entry h) u d ∙ post_is,
        u.core.places name ∙ at,
        same,
        ap is_before_calls (none_next (beside2 r links jobs n xs ms xs2 a wired log_entry h) (end_under r name)),
      )
      (acts_there r links h.before.sides h.beside (beside2 r links jobs n xs ms xs2 a wired log_entry h) u name h.happens.4) in
      let does = turns_are law n d (end_under r name) from answer no_jobs xs2 it.after s show whole2
      (whole_there r links ms it.after it.under still) it.happens in
      record {
        cores = it.after;
        under = it.under;
        does = subst (λ (z : Answer). MachineDoes (turn (record { core = n; place = d })) z s it.after) (sym (turn_there r name answer)) does;
      }
    where
      done_by : (o : Inlet) (g : HappensAt jobs n (turned d name o answer) xs ms)
          → Done r links g.before.sides g.happens.0 (λ z. Does true_ways (turned d (end_under r name) o answer)
          (beside2 r links jobs n xs ms xs2 a wired (turned d name o answer) g) z)
      done_by (inlet.Queue i) g =
          turned_queue r links g.before.sides g.beside (beside2 r links jobs n xs ms xs2 a wired (turned d name (inlet.Queue i) answer) g) g.happens.0
          (under2 r links jobs n xs ms xs2 a wired (turned d name (inlet.Queue i) answer) g) d name i answer g.happens.1
      done_by inlet.Arrivals g =
          turned_arrivals r links g.before.sides g.beside (beside2 r links jobs n xs ms xs2 a wired (turned d name inlet.Arrivals answer) g) g.happens.0
          (under2 r links jobs n xs ms xs2 a wired (turned d name inlet.Arrivals answer) g) d name answer g.happens.1
      done_by (inlet.Side i) g =
          let log_entry = turned d name (inlet.Side i) answer in
          let (post, post_is, at, same, waits) = g.in_place in
          let own = own_inlet r links jobs n xs ms xs2 a wired log_entry g i g.happens.1.0 g.happens.1.3.before g.happens.1.3.before_is
          (takes_from g.beside d g.happens.1.0 post (inlet.Side i) g.happens.1.2 post_is same) in
          turned_ring r links g.before.sides g.beside (beside2 r links jobs n xs ms xs2 a wired log_entry g) g.happens.0
          (under2 r links jobs n xs ms xs2 a wired log_entry g) d name i answer own g.happens.1

-- ---- jobs: for each the progress is made up

module _ (law : StepsAgree) (on : OnAnotherCircuit) (r : Renaming) (links : ℕ → Bool) (jobs : List CoreJob) (n : ℕ) (xs ms xs1 : List JoinedCore) (s : State)
    (show1 : TheyShow xs1 s) (a1 : AreUnder r links xs xs1) (wired : AreWiredFor links xs) (whole : AreWhole xs) (still : AreWhole ms) where
  module _ (name : EndId) (x : JoinedCore) (x_is : slice_get xs n ≡ Some x) where
    stands : (y : JoinedCore) × (slice_get xs1 n ≡ Some y)
    stands =
        let less = within xs n x x_is in
        let count = a1.count in
        at_within xs1 n (omega (arith, less, count))

    abbrev xs2 : List JoinedCore
    xs2 = slice_set xs1 n (instead n stands.0 (given_at (end_under r name)))

    show2 : TheyShow xs2 s
    show2 = shows_instead n stands.0 (given_at (end_under r name)) xs1 s stands.1 show1

    a2 : AreUnder r links xs xs2
    a2 = under_instead n stands.0 (given_at (end_under r name)) r links xs xs1 stands.1 a1

    progress_is : (y : JoinedCore) → slice_get xs2 n ≡ Some y → y.run.progresses ≡ given_at (end_under r name)
    progress_is y y_is =
        let made = instead n stands.0 (given_at (end_under r name)) in
        ap (λ (z : JoinedCore). z.run.progresses) (same_some (slice_get xs2 n) y made y_is (set_here xs1 n stands.0 made stands.1))

    -- the first module's names for these cores
    abbrev run2 : (log_entry : LogEntry) → HappensAt jobs n log_entry xs ms → TheRun FacingSide
    run2 log_entry h = beside2 r links jobs n xs ms xs2 a2 wired log_entry h

    ours : (log_entry : LogEntry) (h : HappensAt jobs n log_entry xs ms) → Runs r links h.before.sides h.beside (run2 log_entry h)
    ours log_entry h = under2 r links jobs n xs ms xs2 a2 wired log_entry h

    whole_two : AreWhole xs2
    whole_two = whole_there r links xs xs2 a2 whole

    job_there : (log_entry : LogEntry) (h : HappensAt jobs n log_entry xs ms) (j : CoreJob) → nat_lt name.binding most_bindings ≡ true
        → next_job (j ∷ []) (run2 log_entry h) (end_under r name) ≡ Some j
    job_there log_entry h j few =
        let there_is = other r links jobs n log_entry xs ms xs2 h a2 (long r links jobs n xs ms xs2 a2 wired) in
        next_is (run2 log_entry h) (end_under r name) j (progress_is there_is.0 there_is.1) (few_same r name.binding ∙ few)

  pub called_comes : (name : EndId) (c : TheCall) (answer : Result (Unit {0}) EndFault) → lacks_to_call answer ≡ false
      → (h : HappensAt jobs n (called name c answer) xs ms) → Comes r links (call (end_under r name) c) (answer_under r (call_answer answer)) s ms
  called_comes name c answer some h =
      let log_entry = called name c answer in
      let (j, j_is, calls_it) = the_job (next_job jobs h.beside name) refl h.in_place in
      let few = job_few jobs h.beside name j j_is in
      let u = ours name h.before h.before_is log_entry h in
      let it = happened r links jobs n xs ms (xs2 name h.before h.before_is) (a2 name h.before h.before_is) wired log_entry h (j ∷ [])
      (called (end_under r name) c answer)
      (called_so r links h.before.sides h.beside (run2 name h.before h.before_is log_entry h) h.happens.0 u name c answer h.happens.1)
      (ap calls_of_job (job_there name h.before h.before_is log_entry h j few) ∙ calls_it)
      (acts_there r links h.before.sides h.beside (run2 name h.before h.before_is log_entry h) u name h.happens.4) in
      let does = calls_are law n (end_under r name) c answer some (j ∷ []) (xs2 name h.before h.before_is) it.after s (show2 name h.before h.before_is)
      (whole_two name h.before h.before_is) (whole_there r links ms it.after it.under still) it.happens in
      record {
        cores = it.after;
        under = it.under;
        does = subst (λ (z : Answer). MachineDoes (call (end_under r name) c) z s it.after) (sym (call_same r answer)) does;
      }
    where
      the_job : (o : Option CoreJob) → next_job jobs h.beside name ≡ o → calls_of_job (next_job jobs h.beside name) ≡ c ∷ []
          → (j : CoreJob) × (next_job jobs h.beside name ≡ Some j) × (calls_of_job (Some j) ≡ c ∷ [])
      the_job None q e = absurd (let no : (let cs : List TheCall = [] in cs) ≡ c ∷ [] = sym (ap calls_of_job q) ∙ e in cc)
      the_job (Some j) q e = (j, q, sym (ap calls_of_job q) ∙ e)

  pub ruled_comes : (name : EndId) (msg answer : MsgNo) (a : Result (Unit {0}) EndFault) (h : HappensAt jobs n (ruled name msg answer a) xs ms)
      → Comes r links (reply (end_under r name) msg.0 answer.0) (answer_under r (rule_answer a)) s ms
  ruled_comes name msg answer a h =
      let log_entry = ruled name msg answer a in
      let (e, j_is) = h.in_place in
      let j : CoreJob = job.Reply e msg answer in
      let few = job_few jobs h.beside name j j_is in
      let u = ours name h.before h.before_is log_entry h in
      let it = happened r links jobs n xs ms (xs2 name h.before h.before_is) (a2 name h.before h.before_is) wired log_entry h (j ∷ [])
      (ruled (end_under r name) msg answer a)
      (ruled_so r links h.before.sides h.beside (run2 name h.before h.before_is log_entry h) h.happens.0 u name msg answer a h.happens.1)
      (e, job_there name h.before h.before_is log_entry h j few)
      (acts_there r links h.before.sides h.beside (run2 name h.before h.before_is log_entry h) u name h.happens.4) in
      let does = rules_are law n (end_under r name) msg answer a (j ∷ []) (xs2 name h.before h.before_is) it.after s (show2 name h.before h.before_is)
      (whole_two name h.before h.before_is) (whole_there r links ms it.after it.under still) it.happens in
      record {
        cores = it.after;
        under = it.under;
        does = subst (λ (z : Answer). MachineDoes (reply (end_under r name) msg.0 answer.0) z s it.after) (sym (rule_same r a)) does;
      }

  -- a circuit is asked for, under the number that the machine gives
  rightly : (k m : ℕ) (x y : JoinedCore) (w : OpenRequest) → JoinedUnder r links x y → m ≡ k → AsksRightly k x.run w → AsksRightly m y.run (request_under r w)
  rightly k m x y w u many h =
      let names = ap (λ (o : Offers). o.names) u.run.offers in
      record {
        service = h.service;
        registered = ap (by_iref w.opening.service.0) names ∙ h.registered;
        named = ap (by_name h.service.name) names ∙ h.named;
        interface = h.interface;
        leads =
            ap (λ (t : TheCircuits). first_link t w.opening.path h.service.service.core.0 m) u.run.core.circuits
            ∙ ap (first_link x.run.core.monitor.circuits w.opening.path h.service.service.core.0) many ∙ h.leads;
      }

  pub opened_comes : (name : EndId) (request : OpenRequest) (answer : Result ℕ OpenFault) → lacks_to_open answer ≡ false
      → (h : HappensAt jobs n (opened name request answer) xs ms) → AsksRightly (length xs) h.before.run request
      → IsNumbered (length s.bindings) answer (r.to request.opening.binding)
      → Comes r links (event_under r (opening_event n h.before.run request)) (answer_under r (opened_answer answer)) s ms
  opened_comes name request answer some h right number =
      let log_entry = opened name request answer in
      let (j_is, may) = h.in_place in
      let j : CoreJob = job.Open (request_under r request) in
      let few = job_few jobs h.beside name (job.Open request) j_is in
      let u = ours name h.before h.before_is log_entry h in
      let slots = h.happens.3.core.slots in
      let it = happened r links jobs n xs ms (xs2 name h.before h.before_is) (a2 name h.before h.before_is) wired log_entry h (j ∷ [])
      (opened (end_under r name) (request_under r request) answer)
      (opened_so r links h.before.sides h.beside (run2 name h.before h.before_is log_entry h) h.happens.0 u name request answer
      (asked_few h.beside request may) slots h.happens.1) (
        job_there name h.before h.before_is log_entry h j few,
        may_there r links h.before.sides h.beside (run2 name h.before h.before_is log_entry h) u request ∙ may,
      ) tt in
      let count = (a2 name h.before h.before_is).count in
      let does = opens_there law n (end_under r name) (request_under r request) (j ∷ []) (xs2 name h.before h.before_is) it.after s
      (show2 name h.before h.before_is) (whole_two name h.before h.before_is) (whole_there r links ms it.after it.under still) answer some it.happens
      (rightly (length xs) (length (xs2 name h.before h.before_is)) h.before it.happens.before request it.before count right) number in
      let names = ap (λ (o : Offers). o.names) it.before.run.offers in
      record {
        cores = it.after;
        under = it.under;
        does =
            subst (λ (ns : List TheRegistration). MachineDoes
            (bind (record { core = n; place = request.dispatcher }) request.interface (name_of ns request.opening.service.0)
            (by_route (cores_of request.opening.path))) (answer_under r (opened_answer answer)) s it.after) names
            (subst (λ (z : Answer). MachineDoes (opening_event n it.happens.before.run (request_under r request)) z s it.after)
            (sym (opened_same r answer)) does);
      }
