-- The events of a log, and turns.
use Rattle.std.proofs.Common.{◌≡◌, refl, sym, ◌∙◌, ap, subst, ℕ, nat_lt, ◌&&◌, Bool, true, false, if◌then◌else◌, List, [], ◌∷◌, length, slice_get, Option, Some, None, arith}
use Rattle.std.specs.Prelude.{Ok, Err}
use Rattle.fl_base.specs.declared.fragment.Frag.{Frag}
use Rattle.fl_base.specs.declared.identity.EndId.{EndId}
use Rattle.fl_base.specs.declared.identity.LinkId.{LinkId}
use Rattle.fl_base.specs.Given.{given}
use Rattle.fl_link.specs.Looks.{Look}
use Rattle.fl_ring.specs.SharedSides.{TheSide}
use Rattle.fl_monitor.specs.Monitors.{can_say}
use Rattle.fl_hop.specs.declared.forward.ForwardOutcome.TheVariants.{Moved, Full, Spent}
use Rattle.fl_core.specs.declared.wiring.WiredEnd.{WiredEnd}
use Rattle.fl_core.specs.declared.wiring.EndWiring.{EndWiring}
use Rattle.fl_core.specs.declared.wiring.EndWiring.TheVariants.{Queues, Ring as OverRing, Circuit}
use Rattle.fl_core.specs.declared.wiring.Outlet.TheVariants as outlet
use Rattle.fl_core.specs.declared.wiring.Inlet.{Inlet}
use Rattle.fl_core.specs.declared.wiring.Inlet.TheVariants as inlet
use Rattle.fl_core.specs.declared.wiring.LinkSide.{LinkSide}
use Rattle.fl_core.specs.View.{TheCore, place_of, side_of_link, inlet_by, inlet_of}
use Rattle.fl_core.specs.Sound.{IsCore, IsWired}
use Rattle.fl_core.specs.declared.core_job.CoreJob.{CoreJob}
use Rattle.fl_core_run.specs.declared.plan.TurnPlan.{TurnPlan}
use Rattle.fl_core_run.specs.Run.{TheRun, side_in, lent_link_side}
use Rattle.fl_core_run.specs.LogEntries.{LogEntry, looked, passed, arrived, heard, said, told, opened, called, ruled, wrote, acked, turned, Happens}
use Rattle.fl_core_run.specs.Turn.{Turned}
use Rattle.fl_core_run_laws.specs.Logs.{InPlace, Goes}
use Rattle.fl_core_run_laws.proofs.Aside.{progresses_alone}
use Rattle.fl_core_run_laws.proofs.Laning.{puts_to, takes_from, some_is}
use Rattle.fl_core_run_laws.proofs.Logging.{turns_logged}
use Rattle.fl_model.specs.Monitors.{Service}
use Rattle.fl_world_refines.specs.CoreLaws.{OutboxesAreShown, RoomsAgree, OpensAgree, HearsAgree}
use Rattle.fl_world_refines.specs.EndLaws.{TakeShows}
use Rattle.fl_core_refines.specs.Cut.{CoreCut, ShowsCut}
use Rattle.fl_core_refines.specs.CutDoes.{CutActs, CutDoes, InOrder, HearsNothing, HearNothing}
use Rattle.fl_core_refines.specs.CutLaws.{HasNoLinks, shared, Follows, GoesOn, FollowsAll, TurnsFollow}
use Rattle.fl_core_refines.proofs.Events.{After, calls_follow, rules_follow, side_writes_follow, queue_writes_follow, side_turns_follow, queue_turns_follow, acks_follow}
use Rattle.fl_core_refines.proofs.Hearing.{hears_follow, fails_follow}
use Rattle.fl_core_refines.proofs.Opening.{opens_follow}
use Rattle.fl_core_refines.proofs.Links.{looks_follow, passes_follow, stays_full, stays_spent, arrives_follow, says_follow, tells_follow, arrivals_turn_follow}

-- ---- without links

no_link_side : {P : Type 0} (s : TheRun TheSide) (l : LinkId) (n : ℕ) → HasNoLinks s.core → lent_link_side s l ≡ Some n → P
no_link_side s l n h q =
    let none : lent_link_side s l ≡ None
    = ap (λ (link_sides : List LinkSide). given (side_of_link link_sides l.0) None λ m. if nat_lt m (length s.rings) then Some m else None) h.link_sides in
    let clash : None ≡ Some n = sym none ∙ q in
    absurd (cc)

and_false : (b : Bool) → (b && false) ≡ false
and_false true = refl
and_false false = refl

says_nothing : {P : Type 0} (k : TheCore) (l : ℕ) (b : Bool) → HasNoLinks k → (b && can_say k.monitor.outboxes l) ≡ true → P
says_nothing k l b h q =
    let none : (b && can_say k.monitor.outboxes l) ≡ false
    = ap (λ (frags : List (List Frag)). b && can_say frags l) h.outboxes ∙ and_false b in
    let clash : true ≡ false = sym q ∙ none in
    absurd (cc)

-- an end that takes from an arrival queue is on a link
no_arrivals : {P : Type 0} (k : TheCore) (e : ℕ) → HasNoLinks k → IsCore k → inlet_of k e ≡ Some inlet.Arrivals → P
no_arrivals {P} k e h core q = by_wired_end (slice_get k.wired_ends e) refl q where
  by_wiring : (p : WiredEnd) (wiring : EndWiring) → IsWired k wiring → inlet_by wiring ≡ inlet.Arrivals → P
  by_wiring p (Queues out from) w r = absurd (cc)
  by_wiring p (OverRing side) w r = absurd (cc)
  by_wiring p (Circuit link arrivals) w r =
      let long : length k.link_sides ≡ 0 = ap length h.link_sides in
      let less = w.0 in
      absurd (omega (arith, long, less))

  by_wired_end : (o : Option WiredEnd) → slice_get k.wired_ends e ≡ o → (given o None λ p. Some (inlet_by p.wiring)) ≡ Some inlet.Arrivals → P
  by_wired_end None r x = absurd (cc)
  by_wired_end (Some p) r x = by_wiring p p.wiring (core.wired e p r) (some_is (inlet_by p.wiring) inlet.Arrivals x)

-- where an end that acknowledges takes from, by its side of a ring
ring_end_by : {B : Type 0} (b : B) (make : ℕ → ℕ → B) (side : B → ℕ) → ((e m : ℕ) → side (make e m) ≡ m) → (s : TheRun TheSide) (o : Option Inlet) (f : ℕ)
    → (given o None λ from. given (side_in from) None λ n. if nat_lt n (length s.rings) then Some (make f n) else None) ≡ Some b
    → o ≡ Some (inlet.Side (side b))
ring_end_by b make side law s None f is = absurd (cc)
ring_end_by b make side law s (Some (inlet.Queue n)) f is = absurd (cc)
ring_end_by b make side law s (Some inlet.Arrivals) f is = absurd (cc)
ring_end_by {B} b make side law s (Some (inlet.Side n)) f is = by (nat_lt n (length s.rings)) is where
  by : (t : Bool) → (if t then Some (make f n) else None) ≡ Some b → Some (inlet.Side n) ≡ Some (inlet.Side (side b))
  by true h =
      let same : make f n ≡ b = some_is (make f n) b h in
      ap (λ (m : ℕ). Some (inlet.Side m)) (sym (law f n) ∙ ap side same)
  by false h = absurd (cc)

acks_at : {B : Type 0} (b : B) (make : ℕ → ℕ → B) (side : B → ℕ) → ((e m : ℕ) → side (make e m) ≡ m) → (s : TheRun TheSide) (name : EndId) (f n : ℕ)
    → place_of s.core name ≡ Some f
    → (given (place_of s.core name) None λ e. given (inlet_of s.core e) None λ from. given (side_in from) None λ m.
    if nat_lt m (length s.rings) then Some (make e m) else None) ≡ Some b
    → side b ≡ n → inlet_of s.core f ≡ Some (inlet.Side n)
acks_at b make side law s name f n at is same =
    ring_end_by b make side law s (inlet_of s.core f) f
    (sym (ap (λ (o : Option ℕ). given o None λ (e : ℕ). given (inlet_of s.core e) None λ (x : Inlet). given (side_in x) None λ (m : ℕ).
    if nat_lt m (length s.rings) then Some (make e m) else None) at) ∙ is)
    ∙ ap (λ (m : ℕ). Some (inlet.Side m)) same

-- the side of a link, as it is lent
link_side_of : (s : TheRun TheSide) (l : LinkId) (n : ℕ) → lent_link_side s l ≡ Some n → side_of_link s.core.link_sides l.0 ≡ Some n
link_side_of s l n h = by (side_of_link s.core.link_sides l.0) h where
  by_test : (m : ℕ) (t : Bool) → (if t then Some m else None) ≡ Some n → Some m ≡ Some n
  by_test m true q = q
  by_test m false q = absurd (cc)

  by : (o : Option ℕ) → (given o None λ m. if nat_lt m (length s.rings) then Some m else None) ≡ Some n → o ≡ Some n
  by None q = absurd (cc)
  by (Some m) q = by_test m (nat_lt m (length s.rings)) q

-- ---- one event

one_follows : TakeShows → OutboxesAreShown → RoomsAgree → OpensAgree → (front : TheSide → Look) (jobs : List CoreJob) (a : CoreCut) (s t : TheRun TheSide) (log_entry : LogEntry) → ShowsCut a s
    → HearsNothing log_entry → Happens (shared front) log_entry s t → InPlace jobs s log_entry → After log_entry a s t
one_follows law boxes rooms openings front jobs a s t (looked n l answer) h quiet (m, on, notes, sound, soundly, whole) by =
    looks_follow front a s m t n l answer h (link_side_of s l n by) on (progresses_alone m t (looked n l answer) notes)
one_follows law boxes rooms openings front jobs a s t (passed n k frag c Moved) h quiet (m, (mid, put, took), notes, sound, soundly, whole) by =
    passes_follow a s mid m t n k by.link.0 frag c h (link_side_of s by.link n by.leads.link_side) put took (progresses_alone m t (passed n k frag c Moved) notes)
one_follows law boxes rooms openings front jobs a s t (passed n k frag c Full) h quiet (m, put, notes, sound, soundly, whole) by =
    stays_full a s m t n k by.link.0 frag c h (link_side_of s by.link n by.leads.link_side) put (progresses_alone m t (passed n k frag c Full) notes)
one_follows law boxes rooms openings front jobs a s t (passed n k frag c Spent) h quiet (m, put, notes, sound, soundly, whole) by =
    stays_spent a s m t n k by.link.0 frag c h (link_side_of s by.link n by.leads.link_side) put (progresses_alone m t (passed n k frag c Spent) notes)
one_follows law boxes rooms openings front jobs a s t (arrived n l frag e answer) h quiet (m, on, notes, sound, soundly, whole) by =
    arrives_follow a s m t n l frag e answer h sound.core (link_side_of s l n by.link_side) on (progresses_alone m t (arrived n l frag e answer) notes)
one_follows law boxes rooms openings front jobs a s t (said n l answer) h quiet (m, on, notes, sound, soundly, whole) by =
    says_follow boxes a s m t n l answer h (link_side_of s l n by) on (progresses_alone m t (said n l answer) notes)
one_follows law boxes rooms openings front jobs a s t (told n l answer) h quiet (m, on, notes, sound, soundly, whole) by =
    tells_follow a s m t n l answer h (link_side_of s l n by) on (progresses_alone m t (told n l answer) notes)
one_follows law boxes rooms openings front jobs a s t (heard n l frag answer) h quiet k by = absurd quiet
one_follows law boxes rooms openings front jobs a s t (opened name request answer) h quiet (m, on, notes, sound, soundly, whole) by =
    opens_follow rooms openings a s m t name request answer h sound on (λ none. says_nothing s.core request.link.0 _ none by.1) (progresses_alone m t (opened name request answer) notes)
one_follows law boxes rooms openings front jobs a s t (called name c answer) h quiet (m, (e, at, on), notes, sound, soundly, whole) by =
    calls_follow a s m t name c answer e h sound at on (progresses_alone m t (called name c answer) notes)
one_follows law boxes rooms openings front jobs a s t (ruled name msg reply answer) h quiet (m, (e, at, on), notes, sound, soundly, whole) by =
    rules_follow a s m t name msg reply answer e h sound at on (progresses_alone m t (ruled name msg reply answer) notes)
one_follows law boxes rooms openings front jobs a s t (wrote name (outlet.Side n) answer) h quiet (m, (e, at, on), notes, sound, soundly, whole) (post, post_is, out_is) =
    side_writes_follow a s m t name n answer e h sound at (puts_to s name e post (outlet.Side n) at post_is out_is) on
    (progresses_alone m t (wrote name (outlet.Side n) answer) notes)
one_follows law boxes rooms openings front jobs a s t (wrote name (outlet.Queue n) answer) h quiet (m, (e, at, on), notes, sound, soundly, whole) (post, post_is, out_is) =
    queue_writes_follow a s m t name n answer e h sound at (puts_to s name e post (outlet.Queue n) at post_is out_is) on
    (progresses_alone m t (wrote name (outlet.Queue n) answer) notes)
one_follows law boxes rooms openings front jobs a s t (turned d name (inlet.Side n) answer) h quiet (m, (e, at, due_is, on), notes, sound, soundly, whole) (due, lent, place, from, waits) =
    side_turns_follow law a s m t d name n answer e h sound soundly at (takes_from s d e due (inlet.Side n) due_is lent from) on
    (progresses_alone m t (turned d name (inlet.Side n) answer) notes)
one_follows law boxes rooms openings front jobs a s t (turned d name (inlet.Queue n) answer) h quiet (m, (e, at, due_is, on), notes, sound, soundly, whole) (due, lent, place, from, waits) =
    queue_turns_follow law a s m t d name n answer e h sound soundly at (takes_from s d e due (inlet.Queue n) due_is lent from) on
    (progresses_alone m t (turned d name (inlet.Queue n) answer) notes)
one_follows law boxes rooms openings front jobs a s t (turned d name inlet.Arrivals answer) h quiet (m, (e, at, due_is, on), notes, sound, soundly, whole) (due, lent, place, from, waits) =
    let at_arrivals = takes_from s d e due inlet.Arrivals due_is lent from in
    arrivals_turn_follow law a s m t d name answer e h sound soundly at at_arrivals on (λ none. no_arrivals s.core e none sound.core at_arrivals)
    (progresses_alone m t (turned d name inlet.Arrivals answer) notes)
one_follows law boxes rooms openings front jobs a s t (acked name n answer) h quiet (m, (e, at, on), notes, sound, soundly, whole) (ring_end, ring_end_is, side_is) =
    acks_follow a s m t name n answer e h sound at (acks_at ring_end (λ e2 m2. record { end = e2; side = m2 }) (λ b. b.side) (λ e2 m2. refl) s name e n at ring_end_is side_is) on (progresses_alone m t (acked name n answer) notes)

-- by a log entry by which no message is heard
acts : (services : List Service) (log_entry : LogEntry) (a b : CoreCut) → HearsNothing log_entry → CutActs log_entry a b → CutDoes services log_entry a b
acts services (heard n l frag answer) a b quiet x = absurd quiet
acts services (looked n l answer) a b quiet x = x
acts services (passed n m frag c outcome) a b quiet x = x
acts services (arrived n l frag e answer) a b quiet x = x
acts services (said n l answer) a b quiet x = x
acts services (told n l answer) a b quiet x = x
acts services (opened name request answer) a b quiet x = x
acts services (called name c answer) a b quiet x = x
acts services (ruled name msg reply answer) a b quiet x = x
acts services (wrote name out answer) a b quiet x = x
acts services (acked name n answer) a b quiet x = x
acts services (turned d name (inlet.Side n) answer) a b quiet x = x
acts services (turned d name (inlet.Queue n) answer) a b quiet x = x
acts services (turned d name inlet.Arrivals answer) a b quiet x = x

pub one_acts : TakeShows → OutboxesAreShown → RoomsAgree → OpensAgree → (front : TheSide → Look) (jobs : List CoreJob) (services : List Service) (a : CoreCut)
    (s t : TheRun TheSide) (log_entry : LogEntry) → ShowsCut a s → HearsNothing log_entry → Happens (shared front) log_entry s t → InPlace jobs s log_entry → Follows services log_entry a t
one_acts law boxes rooms openings front jobs services a s t log_entry h quiet k by =
    let one = one_follows law boxes rooms openings front jobs a s t log_entry h quiet k by in
    record { after = one.after; does = acts services log_entry a one.after quiet one.does; shows = one.shows }

pub events_follow : TakeShows → OutboxesAreShown → RoomsAgree → OpensAgree → HearsAgree → (front : TheSide → Look) (jobs : List CoreJob) (services : List Service)
    (a : CoreCut) (s t : TheRun TheSide) (log_entry : LogEntry) → ShowsCut a s → InOrder services log_entry a s → Happens (shared front) log_entry s t → InPlace jobs s log_entry
    → Follows services log_entry a t
events_follow law boxes rooms openings hears front jobs services a s t (heard n l frag (Ok word)) h order (m, on, notes, sound, soundly, whole) by =
    let one = hears_follow hears services a s m t n l frag word h sound order.0 order.1 on (progresses_alone m t (heard n l frag (Ok word)) notes) in
    record { after = one.after; does = one.does; shows = one.shows }
events_follow law boxes rooms openings hears front jobs services a s t (heard n l frag (Err fault)) h order (m, on, notes, sound, soundly, whole) by =
    let one = fails_follow services a s m t n l frag fault h on (progresses_alone m t (heard n l frag (Err fault)) notes) in
    record { after = one.after; does = one.does; shows = one.shows }
events_follow law boxes rooms openings hears front jobs services a s t (looked n l answer) h order k by =
    one_acts law boxes rooms openings front jobs services a s t (looked n l answer) h tt k by
events_follow law boxes rooms openings hears front jobs services a s t (passed n m frag c outcome) h order k by =
    one_acts law boxes rooms openings front jobs services a s t (passed n m frag c outcome) h tt k by
events_follow law boxes rooms openings hears front jobs services a s t (arrived n l frag e answer) h order k by =
    one_acts law boxes rooms openings front jobs services a s t (arrived n l frag e answer) h tt k by
events_follow law boxes rooms openings hears front jobs services a s t (said n l answer) h order k by =
    one_acts law boxes rooms openings front jobs services a s t (said n l answer) h tt k by
events_follow law boxes rooms openings hears front jobs services a s t (told n l answer) h order k by =
    one_acts law boxes rooms openings front jobs services a s t (told n l answer) h tt k by
events_follow law boxes rooms openings hears front jobs services a s t (opened name request answer) h order k by =
    one_acts law boxes rooms openings front jobs services a s t (opened name request answer) h tt k by
events_follow law boxes rooms openings hears front jobs services a s t (called name c answer) h order k by =
    one_acts law boxes rooms openings front jobs services a s t (called name c answer) h tt k by
events_follow law boxes rooms openings hears front jobs services a s t (ruled name msg reply answer) h order k by =
    one_acts law boxes rooms openings front jobs services a s t (ruled name msg reply answer) h tt k by
events_follow law boxes rooms openings hears front jobs services a s t (wrote name out answer) h order k by =
    one_acts law boxes rooms openings front jobs services a s t (wrote name out answer) h tt k by
events_follow law boxes rooms openings hears front jobs services a s t (acked name n answer) h order k by =
    one_acts law boxes rooms openings front jobs services a s t (acked name n answer) h tt k by
events_follow law boxes rooms openings hears front jobs services a s t (turned d name from answer) h order k by =
    one_acts law boxes rooms openings front jobs services a s t (turned d name from answer) h tt k by

-- ---- a log

goes_on : TakeShows → OutboxesAreShown → RoomsAgree → OpensAgree → HearsAgree → (front : TheSide → Look) (jobs : List CoreJob) (services : List Service) (a : CoreCut)
    (s t : TheRun TheSide) (log : List LogEntry) → ShowsCut a s → Goes (shared front) jobs s log t → GoesOn front services a s log t
goes_on law boxes rooms openings hears front jobs services a s t [] h k = (k, subst (ShowsCut a) (sym k) h)
goes_on law boxes rooms openings hears front jobs services a s t (log_entry ∷ log) h (m, happens, by, rest) = λ order.
    let one = events_follow law boxes rooms openings hears front jobs services a s m log_entry h order happens by in
    (one.after, m, happens, one.does, one.shows, goes_on law boxes rooms openings hears front jobs services one.after m t log one.shows rest)

quietly : TakeShows → OutboxesAreShown → RoomsAgree → OpensAgree → (front : TheSide → Look) (jobs : List CoreJob) (services : List Service) (a : CoreCut)
    (s t : TheRun TheSide) (log : List LogEntry) → ShowsCut a s → HearNothing log → Goes (shared front) jobs s log t → FollowsAll services log a t
quietly law boxes rooms openings front jobs services a s t [] h quiet k = record { after = a; goes = refl; shows = subst (ShowsCut a) (sym k) h }
quietly law boxes rooms openings front jobs services a s t (log_entry ∷ log) h quiet (m, happens, by, rest) =
    let one = one_acts law boxes rooms openings front jobs services a s m log_entry h quiet.0 happens by in
    let all = quietly law boxes rooms openings front jobs services one.after m t log one.shows quiet.1 rest in
    record { after = all.after; goes = (one.after, one.does, all.goes); shows = all.shows }

pub logs_follow : TakeShows → OutboxesAreShown → RoomsAgree → OpensAgree → HearsAgree → (front : TheSide → Look) (jobs : List CoreJob) (services : List Service)
    (a : CoreCut) (s t : TheRun TheSide) (log : List LogEntry) → ShowsCut a s → Goes (shared front) jobs s log t
    → GoesOn front services a s log t × (HearNothing log → FollowsAll services log a t)
logs_follow law boxes rooms openings hears front jobs services a s t log h k = (
  goes_on law boxes rooms openings hears front jobs services a s t log h k,
  λ quiet. quietly law boxes rooms openings front jobs services a s t log h quiet k,
)

-- without links no message is heard
hears_none : (front : TheSide → Look) (jobs : List CoreJob) (s t : TheRun TheSide) (log_entry : LogEntry) → HasNoLinks s.core → Happens (shared front) log_entry s t → InPlace jobs s log_entry
    → HearsNothing log_entry
hears_none front jobs s t (heard n l frag answer) none k by = no_link_side s l n none by.0
hears_none front jobs s t (opened name request answer) none k by = tt
hears_none front jobs s t (looked n l answer) none k by = tt
hears_none front jobs s t (passed n m frag c outcome) none k by = tt
hears_none front jobs s t (arrived n l frag e answer) none k by = tt
hears_none front jobs s t (said n l answer) none k by = tt
hears_none front jobs s t (told n l answer) none k by = tt
hears_none front jobs s t (called name c answer) none k by = tt
hears_none front jobs s t (ruled name msg reply answer) none k by = tt
hears_none front jobs s t (wrote name out answer) none k by = tt
hears_none front jobs s t (acked name n answer) none k by = tt
hears_none front jobs s t (turned d name from answer) none k by = tt

quiet_logs : TakeShows → OutboxesAreShown → RoomsAgree → OpensAgree → (front : TheSide → Look) (jobs : List CoreJob) (a : CoreCut) (s t : TheRun TheSide) (log : List LogEntry)
    → ShowsCut a s → Goes (shared front) jobs s log t → HasNoLinks s.core → HearNothing log
quiet_logs law boxes rooms openings front jobs a s t [] h k none = tt
quiet_logs law boxes rooms openings front jobs a s t (log_entry ∷ log) h (m, happens, by, rest) none =
    let quiet = hears_none front jobs s m log_entry none happens by in
    let one = one_follows law boxes rooms openings front jobs a s m log_entry h quiet happens by in
    (quiet, quiet_logs law boxes rooms openings front jobs one.after m t log one.shows rest (one.links none))

pub turns_follow : TakeShows → OutboxesAreShown → RoomsAgree → OpensAgree → HearsAgree → (front : TheSide → Look) (plan : TurnPlan) (jobs : List CoreJob) (k : ℕ)
    (services : List Service) (a : CoreCut) (s t : TheRun TheSide) → ShowsCut a s → Turned (shared front) plan jobs k s t → TurnsFollow front jobs services a s t
turns_follow law boxes rooms openings hears front plan jobs k services a s t h turns =
    let logged = turns_logged (shared front) plan jobs k s t turns in
    record {
      log = logged.log;
      happened = logged.goes;
      goes_on = goes_on law boxes rooms openings hears front jobs services a s t logged.log h logged.goes;
      follows = λ quiet. quietly law boxes rooms openings front jobs services a s t logged.log h quiet logged.goes;
      quiet = quiet_logs law boxes rooms openings front jobs a s t logged.log h logged.goes;
    }
