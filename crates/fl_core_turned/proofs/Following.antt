-- Each event of a ready core's turns is the machine's on the cut of its moment.
use Rattle.std.proofs.Common.{◌≡◌, inl, inr, refl, sym, ◌∙◌, ap, subst, ℕ, true, false, List, [], ◌∷◌, map, slice_get, Option, Some, None, Ok, Err}
use Rattle.std.specs.Option.{option_map}
use Rattle.fl_base.specs.declared.fragment.Frag.{Frag}
use Rattle.fl_base.specs.declared.identity.CoreId.{CoreId}
use Rattle.fl_base.specs.declared.identity.LinkId.{LinkId}
use Rattle.fl_base.specs.Given.{given}
use Rattle.fl_base.specs.Numbered.{core_id}
use Rattle.fl_ring.specs.SharedSeats.{front_seen}
use Rattle.fl_ring.specs.SharedSides.{TheSide}
use Rattle.fl_hop.specs.declared.links.LinkState.{LinkState}
use Rattle.fl_hop.specs.Table.{TheCircuits}
use Rattle.fl_monitor.specs.declared.message.MonitorMessage.{MonitorMessage}
use Rattle.fl_monitor.specs.Fates.{comes_along}
use Rattle.fl_monitor.specs.Routing.{is_on_route}
use Rattle.fl_monitor.specs.Saying.{Says}
use Rattle.fl_core.specs.declared.answer.MonitorAnswer.TheVariants as answer
use Rattle.fl_core.specs.declared.core_job.CoreJob.{CoreJob}
use Rattle.fl_core_run.specs.LogEntries.{LogEntry, looked, passed, arrived, heard, said, told, opened, called, ruled, wrote, acked, turned}
use Rattle.fl_core_run.specs.Run.{TheRun}
use Rattle.fl_model.specs.Monitors.{Service}
use Rattle.fl_model.specs.Rings.{OpeningLabel, open_circuit}
use Rattle.fl_core_refines.specs.Cut.{CoreCut, ShowsCut}
use Rattle.fl_core_refines.specs.CutDoes.{CutDoes}
use Rattle.fl_core_refines.specs.CutHearing.{said_of}
use Rattle.fl_core_refines.specs.CutReady.{IsReady, TurnsBack, RefusesBack, CutMakes, ReadyFollow}
use Rattle.fl_core_refines.proofs.Hearing.{beside}
use Rattle.fl_core_refines.proofs.Readying.{makes_stay}
use Rattle.fl_core_turned.specs.Turned.{shared_ways, moment, Follows, AllFollow}
use Rattle.fl_core_turned.specs.TurnEvents.{Event, log_of, events_of}
use Rattle.fl_core_turned.specs.ReadyTurns.{RoutesDiffer, TurnsHappen, ReadyTurns}
use Rattle.fl_core_turned.proofs.Counting.{all_count}
use Rattle.fl_core_turned.proofs.Failing.{reasons}
use Rattle.fl_core_turned.proofs.Happening.{AllHappen, all_go, happened}

-- ---- no opening turns back

record Twice (log_entry : LogEntry) (before : CoreCut) : Type 0 where
  n : ℕ
  l : LinkId
  frag : Frag
  message : MonitorMessage
  opening : OpeningLabel
  log_entry_is : log_entry ≡ heard n l frag (Ok answer.Done)
  says : Says frag message
  asked : said_of message ≡ open_circuit opening
  back : TurnsBack l.0 opening before

back_twice : (log_entry : LogEntry) (a b : CoreCut) → RefusesBack log_entry a b → Twice log_entry a
back_twice (heard n l frag (Ok answer.Done)) a b h =
    record { n = n; l = l; frag = frag; message = h.0; opening = h.1; log_entry_is = refl; says = h.2; asked = h.3; back = h.4 }
back_twice (heard n l frag (Ok answer.Full)) a b h = absurd h
back_twice (heard n l frag (Ok (answer.Opened e))) a b h = absurd h
back_twice (heard n l frag (Ok (answer.OpeningRefused e reason))) a b h = absurd h
back_twice (heard n l frag (Err fault)) a b h = absurd h
back_twice (looked n l r) a b h = absurd h
back_twice (passed n m frag c r) a b h = absurd h
back_twice (arrived n l frag e r) a b h = absurd h
back_twice (said n l r) a b h = absurd h
back_twice (told n l r) a b h = absurd h
back_twice (opened name request r) a b h = absurd h
back_twice (called name c r) a b h = absurd h
back_twice (ruled name msg reply r) a b h = absurd h
back_twice (wrote name out r) a b h = absurd h
back_twice (acked name n r) a b h = absurd h
back_twice (turned d name from r) a b h = absurd h

-- a table of the same core, with the same neighbours
record Laid (t u : TheCircuits) : Type 0 where
  core : u.core ≡ t.core
  links : (l : ℕ) → beside u l ≡ beside t l

along_by : (path : List CoreId) (core : ℕ) (a b : Option LinkState) → option_map (λ (x : LinkState). x.neighbour) a ≡ option_map (λ (x : LinkState). x.neighbour) b
    → given a false (λ x. is_on_route path x.neighbour.0 core) ≡ given b false (λ x. is_on_route path x.neighbour.0 core)
along_by path core None None same = refl
along_by path core None (Some b) same = absurd (cc)
along_by path core (Some a) None same = absurd (cc)
along_by path core (Some a) (Some b) same = let one : a.neighbour ≡ b.neighbour = cc in ap (λ (c : CoreId). is_on_route path c.0 core) one

laid_along : (t u : TheCircuits) → Laid t u → (l : ℕ) (path : List CoreId) → comes_along u l path ≡ comes_along t l path
laid_along t u laid l path =
    ap (λ (core : ℕ). given (slice_get u.links l) false (λ (x : LinkState). is_on_route path x.neighbour.0 core)) laid.core
    ∙ along_by path t.core (slice_get u.links l) (slice_get t.links l) (laid.links l)

-- what the machine makes of the cut is all that may come of an event
exactly : (services : List Service) (first a b : CoreCut) (log_entry : LogEntry) (log : List LogEntry) → Laid first.core.circuits a.core.circuits
    → RoutesDiffer first (log_entry ∷ log) → CutMakes services log_entry a b → CutDoes services log_entry a b
exactly services first a b log_entry log laid differ (inl does) = does
exactly services first a b log_entry log laid differ (inr turned_back) =
    let x = back_twice log_entry a b turned_back in
    let along : comes_along first.core.circuits x.l.0 (map core_id x.opening.path) ≡ true
    = sym (laid_along first.core.circuits a.core.circuits laid x.l.0 (map core_id x.opening.path)) ∙ x.back.along in
    let once = differ x.n x.l x.frag x.message x.opening (inl x.log_entry_is) x.says x.asked along in
    let clash : true ≡ false = sym once ∙ x.back.twice in
    absurd (cc)

-- ---- events, one after another

module _ (law : ReadyFollow) (services : List Service) (jobs : List CoreJob) (first : CoreCut) where
  all_follow : (xs : List (Event TheSide)) (a : CoreCut) (s t : TheRun TheSide) → ShowsCut a s → IsReady services a s → Laid first.core.circuits a.core.circuits
      → RoutesDiffer first (log_of xs) → AllHappen shared_ways jobs s xs t → (b : CoreCut) × AllFollow services jobs xs (moment s a) (moment t b)
  all_follow [] a s t h ready laid differ same = (a, ap (λ (x : TheRun TheSide). moment x a) same)
  all_follow (x ∷ xs) a s t h ready laid differ (happens, place, remembers, rest) =
      let one = law (λ (y : TheSide). front_seen y.peeked) jobs services a s x.run (x.log_entry ∷ []) h ready (x.run, happens, place, refl) in
      let (next, makes, same) = one.makes in
      let after : one.after ≡ next = same in
      let stays = makes_stay services x.log_entry a next makes in
      let still : Laid first.core.circuits next.core.circuits = record { core = stays.number ∙ laid.core; links = λ i. stays.links i ∙ laid.links i } in
      let shows : ShowsCut next x.run = subst (λ (y : CoreCut). ShowsCut y x.run) after one.shows in
      let steady : IsReady services next x.run = subst (λ (y : CoreCut). IsReady services y x.run) after one.ready in
      let event : Follows services jobs x.log_entry (moment s a) (moment x.run next) = record {
        happens = happens;
        in_place = place;
        remembers = remembers;
        does = exactly services first a next x.log_entry (log_of xs) laid differ makes;
        reason = reasons services x.log_entry a s happens.0 h ready.names remembers happens.1;
        shows = shows;
      } in
      let all = all_follow xs next x.run t shows steady still (λ n l frag msg o has says asked along. differ n l frag msg o (inr has) says asked along) rest in
      (all.0, (next, event, all.1))

-- ---- turns

pub turns_happen : TurnsHappen
turns_happen plan jobs k s t turns =
    all_go shared_ways jobs (events_of shared_ways jobs plan k s t turns) s t (happened shared_ways jobs plan k s t turns)

pub ready_turns : ReadyFollow → ReadyTurns
ready_turns law services plan jobs k a s t h ready turns differ =
    let events : List (Event TheSide) = events_of shared_ways jobs plan k s t turns in
    let all = all_follow law services jobs a events a s t h ready (record { core = refl; links = λ i. refl }) differ (happened shared_ways jobs plan k s t turns) in (
      all.0,
      record {
        turns = turns;
        events = events;
        events_are = refl;
        log_is = refl;
        begins = h;
        follows = all.1;
        counts = λ n p at. (let x = all_count services jobs n events (moment s a) (moment t all.0) all.1 p at in (x.after, x.after_is, x.counts));
      },
    )
