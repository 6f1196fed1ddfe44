-- Events on links: what the machine makes of the cut is what the core shows then.
use Rattle.std.proofs.Common.{◌≡◌, ◌≢◌, refl, sym, ◌∙◌, ap, subst, ℕ, zero, suc, Bool, true, false, List, [], ◌∷◌, map, slice_get, slice_set, Option, Some, None}
use Rattle.std.specs.Prelude.{Result, Ok, Err}
use Rattle.std.proofs.lemmas.Option.{same_Some}
use Rattle.fl_base.specs.declared.fragment.Frag.{Frag}
use Rattle.fl_base.specs.declared.identity.EndId.{EndId}
use Rattle.fl_base.specs.declared.identity.LinkId.{LinkId}
use Rattle.fl_base.specs.declared.identity.Circuit.{Circuit as Number}
use Rattle.fl_base.specs.Control.{bare, circuit_of, with_circuit}
use Rattle.fl_base.specs.Given.{given}
use Rattle.fl_link.specs.Looks.{Look, placed, no_room, spent, saw, found, missed, told, kept}
use Rattle.fl_link.specs.Queue.{TheQueue, QueueTakes}
use Rattle.fl_ring.specs.SharedSides.{TheSide, SharedPuts, SharedTakes}
use Rattle.fl_hop.specs.declared.entry.HopTarget.{HopTarget}
use Rattle.fl_hop.specs.declared.forward.ForwardOutcome.{ForwardOutcome}
use Rattle.fl_hop.specs.declared.forward.ForwardOutcome.TheVariants.{Moved, Full, Spent}
use Rattle.fl_hop.specs.Table.{TheCircuits, hop_at}
use Rattle.fl_hop.specs.Later.{way_at}
use Rattle.fl_hop.specs.OfCircuit.{as_carried}
use Rattle.fl_core.specs.declared.kind.ChannelKind.TheVariants as kind
use Rattle.fl_core.specs.declared.turn_answer.TurnAnswer.{TurnAnswer}
use Rattle.fl_core.specs.declared.turn_answer.AckAnswer.{AckAnswer}
use Rattle.fl_core.specs.declared.turn_answer.AckAnswer.TheVariants as ack
use Rattle.fl_core.specs.BoardView.{TheEndAtChannel}
use Rattle.fl_core.specs.BoardTurns.{Turns as BoardTurns, over}
use Rattle.fl_monitor.specs.Monitors.{TheMonitor, waiting_for, without_first}
use Rattle.fl_monitor.specs.Outboxes.{AreFragsOf}
use Rattle.fl_core.specs.declared.answer.LinkFront.{LinkFront}
use Rattle.fl_core.specs.declared.answer.LinkFront.TheVariants as ahead
use Rattle.fl_core.specs.declared.answer.MonitorWrite.{MonitorWrite}
use Rattle.fl_core.specs.declared.answer.MonitorWrite.TheVariants as write
use Rattle.fl_core.specs.declared.fault.LinkReceiveFault.{LinkReceiveFault}
use Rattle.fl_core.specs.declared.fault.LinkReceiveFault.TheVariants as link
use Rattle.fl_core.specs.declared.wiring.ArrivalPlace.{ArrivalPlace}
use Rattle.fl_core.specs.declared.wiring.Inlet.TheVariants as inlet
use Rattle.fl_core.specs.declared.wiring.LinkSide.{LinkSide}
use Rattle.fl_core.specs.declared.wiring.WiredEnd.{WiredEnd}
use Rattle.fl_core.specs.declared.wiring.EndWiring.{EndWiring}
use Rattle.fl_core.specs.declared.wiring.EndWiring.TheVariants.{Queues, Ring as OverRing, Circuit}
use Rattle.fl_core.specs.View.{TheCore, with_monitor, failed_at, place_in, place_of, side_of_link, arrivals_by, arrivals_of, arriving, arriving_at, inlet_by, inlet_of, kind_of}
use Rattle.fl_core.specs.Sound.{IsCore}
use Rattle.fl_core.specs.Ends.{at_side, OverArrivals}
use Rattle.fl_core.specs.Links.{MonitorWrites, IsLinkSide, LooksAhead, inbound, ArrivesAt, Acknowledges}
use Rattle.fl_core_run.specs.Run.{TheRun}
use Rattle.fl_core_run.specs.LogEntries.{looked, passed, arrived, said, told as has_told, turned, OnCore, OnRing, IsSound, IsSoundAt}
use Rattle.fl_model.specs.Rings.{Label, acknowledges, MonitorLabel, says}
use Rattle.fl_model.specs.Waits.{Dispatcher}
use Rattle.fl_model.specs.Monitors.{Core, Link}
use Rattle.fl_model.specs.Forwarding.{without_first_said}
use Rattle.fl_world_refines.specs.Fragments.{message_of, said_frag}
use Rattle.fl_world_refines.specs.Cores.{OutboxesShow, MonitorShows}
use Rattle.fl_world_refines.specs.CoreLaws.{OutboxesAreShown, SendsFirst}
use Rattle.fl_world_refines.specs.EndLaws.{TakeShows}
use Rattle.fl_core_refines.specs.CutSides.{SideCut, ShowsSide}
use Rattle.fl_core_refines.specs.CutEnds.{EndCut}
use Rattle.fl_core_refines.specs.Cut.{QueueCut, CoreCut, ShowsQueue, UsesArrivals, IsUsed, QueuesShow, ShowsCut}
use Rattle.fl_core_refines.specs.CutEvents.{queue_gives, triggers_end, with_waits}
use Rattle.fl_core_refines.specs.CutLinks.{HasFailed, Finds, link_sides_after, first_said, TellsBy}
use Rattle.fl_core_refines.specs.CutLaws.{HasNoLinks}
use Rattle.fl_core_refines.proofs.Lists.{there, set_both, map_at, set_used}
use Rattle.fl_core_refines.proofs.Sides.{put_agrees, look_agrees, takes_again, takes_ack}
use Rattle.fl_core_refines.proofs.Queues.{queue_puts}
use Rattle.fl_core_refines.proofs.Cuts.{shown_link_sides, shown_monitor, shown_arrivals, Seen, seen, end_at, triggers_shown}
use Rattle.fl_core_refines.proofs.Events.{After, all_gives, kind_from, turn_follows}

-- ---- a side alone

-- any label: what a look makes of a side's counts is the same whatever its label is
some_label : Label
some_label = acknowledges

pub progresses_shown : (a : CoreCut) (m t : TheRun TheSide) → ShowsCut a m → t ≡ record m { progresses = t.progresses } → ShowsCut a t
progresses_shown a m t h e =
    subst (ShowsCut a) (sym e) (record {
      monitor = h.monitor;
      waits = h.waits;
      ends = h.ends;
      wired_ends = h.wired_ends;
      places = h.places;
      link_sides = h.link_sides;
      sides = h.sides;
      queues = h.queues;
      arrivals = h.arrivals;
      plans = h.plans;
    })

-- a side has changed, and the link sides
pub link_sides_run : (s m : TheRun TheSide) (link_sides : List LinkSide) (rings : List TheSide) → m ≡ record s { core = m.core; rings = rings } → m.core ≡ record s.core { link_sides = link_sides }
    → m ≡ record s { core = record s.core { link_sides = link_sides }; rings = rings; progresses = s.progresses }
link_sides_run s m link_sides rings rest core = rest ∙ ap (λ (k : TheCore). record s { core = k; rings = rings }) core

pub side_link_sides : (a : CoreCut) (s m : TheRun TheSide) (n : ℕ) (v : SideCut) (q : TheSide) (here link_sides : List LinkSide) → ShowsCut a s → ShowsSide v q → here ≡ link_sides
    → m ≡ record s { core = record s.core { link_sides = link_sides }; rings = slice_set s.rings n q; progresses = s.progresses }
    → ShowsCut (record a { sides = slice_set a.sides n v; link_sides = here }) m
side_link_sides a s m n v q here link_sides h k same run =
    subst (ShowsCut (record a { sides = slice_set a.sides n v; link_sides = here })) (sym run)
    (shown_link_sides a s h (slice_set a.sides n v) here link_sides (slice_set s.rings n q) s.progresses (set_both ShowsSide a.sides s.rings n v q h.sides k) same)

-- a side alone
pub side_shown : (a : CoreCut) (s m : TheRun TheSide) (n : ℕ) (v : SideCut) (q : TheSide) → ShowsCut a s → ShowsSide v q
    → m ≡ record s { core = m.core; rings = slice_set s.rings n q } → m.core ≡ s.core → ShowsCut (record a { sides = slice_set a.sides n v }) m
side_shown a s m n v q h k rest core =
    side_link_sides a s m n v q a.link_sides s.core.link_sides h k h.link_sides (link_sides_run s m s.core.link_sides (slice_set s.rings n q) rest core)

pub set_same : {X : Type 0} (xs : List X) (i : ℕ) (x : X) → slice_get xs i ≡ Some x → slice_set xs i x ≡ xs
set_same [] i x e = refl
set_same {X} (y ∷ xs) zero x e = ap (λ (z : X). z ∷ xs) (sym (same_Some y x e))
set_same {X} (y ∷ xs) (suc i) x e = ap (λ (zs : List X). y ∷ zs) (set_same xs i x e)

-- ---- a look

record Found (answer : Result LinkFront LinkReceiveFault) (l : ℕ) (a : CoreCut) (v : SideCut) (q : TheSide) (k k2 : TheCore) : Type 0 where
  pub side : SideCut
  pub finds : Finds a l answer v side
  pub shows : ShowsSide side q
  pub core : k2 ≡ record k { link_sides = link_sides_after l answer k.link_sides }

link_side_is : (a : CoreCut) (s : TheRun TheSide) (l : ℕ) (failed : Bool) → ShowsCut a s → IsLinkSide s.core l failed → HasFailed a l failed
link_side_is a s l failed h i = (i.link_side, ap (λ (link_sides : List LinkSide). slice_get link_sides l) h.link_sides ∙ i.link_side_is, i.failed_is)

way_is : (a : CoreCut) (s : TheRun TheSide) (l c : ℕ) (way : HopTarget) → ShowsCut a s → way_at s.core.monitor.circuits l c ≡ Some way → way_at a.core.circuits l c ≡ Some way
way_is a s l c way h e = ap (λ (t : TheCircuits). way_at t l c) (sym h.monitor.circuits) ∙ e

finds_so : (front : TheSide → Look) (l : ℕ) (answer : Result LinkFront LinkReceiveFault) (a : CoreCut) (s : TheRun TheSide) (v : SideCut) (p q : TheSide) (k2 : TheCore)
    → ShowsCut a s → ShowsSide v p → LooksAhead SharedTakes front l (at_side s.core p) answer (at_side k2 q) → Found answer l a v q s.core k2
finds_so front l (Ok ahead.Nothing) a s v p q k2 h k (seen_, same) =
    let w = look_agrees some_label v p q missed k seen_.finds in
    record { side = w.0; finds = (link_side_is a s l false h seen_.link_side, (some_label, w.1)); shows = w.2; core = same }
finds_so front l (Ok ahead.Acknowledged) a s v p q k2 h k (seen_, same) =
    let (mid, first, taken) = seen_.finds in
    let w = takes_ack some_label v p mid q k first taken in
    record { side = w.0; finds = (link_side_is a s l false h seen_.link_side, (some_label, w.1)); shows = w.2; core = same }
finds_so front l (Ok (ahead.Message frag)) a s v p q k2 h k (seen_, same) =
    let w = look_agrees some_label v p q (saw (bare frag)) k seen_.finds.0 in
    record { side = w.0; finds = (link_side_is a s l false h seen_.link_side, seen_.finds.2, (some_label, w.1)); shows = w.2; core = same }
finds_so front l (Ok (ahead.Onward frag side c)) a s v p q k2 h k (goes, same) =
    let f = goes.seen.finds in
    let w = look_agrees some_label v p q (saw (bare frag)) k f.0 in
    record {
      side = w.0;
      finds = (
        link_side_is a s l false h goes.seen.link_side,
        f.2,
        (
          goes.link,
          way_is a s l (circuit_of frag.control) _ h f.3,
          ap (λ (link_sides : List LinkSide). side_of_link link_sides goes.link.0) h.link_sides ∙ goes.side_is,
        ),
        (some_label, w.1),
      );
      shows = w.2;
      core = same;
    }
finds_so front l (Ok (ahead.Arrival frag e)) a s v p q k2 h k (seen_, same) =
    let f = seen_.finds in
    let w = look_agrees some_label v p q (saw (bare frag)) k f.0 in
    record {
      side = w.0;
      finds = (link_side_is a s l false h seen_.link_side, f.2, way_is a s l (circuit_of frag.control) _ h f.3, (some_label, w.1));
      shows = w.2;
      core = same;
    }
finds_so front l (Err link.Failed) a s v p q k2 h k (link_side, same, side_same) =
    record { side = v; finds = (link_side_is a s l true h link_side, refl); shows = subst (ShowsSide v) (sym side_same) k; core = same }
finds_so front l (Err link.Misrouted) a s v p q k2 h k (seen_, same) =
    let (frag, first, some, none) = seen_.finds in
    let w = look_agrees some_label v p q (saw (bare frag)) k first in
    record {
      side = w.0;
      finds = (
        link_side_is a s l false h seen_.link_side,
        (frag, some, ap (λ (t : TheCircuits). hop_at t l (circuit_of frag.control)) (sym h.monitor.circuits) ∙ none, (some_label, w.1)),
      );
      shows = w.2;
      core = same;
    }
finds_so front l (Err link.Marked) a s v p q k2 h k (seen_, same) =
    let (frag, e, first, some, way, is) = seen_.finds in
    let w = look_agrees some_label v p q (saw (bare frag)) k first in
    record { side = w.0; finds = (link_side_is a s l false h seen_.link_side, (frag, is, (some_label, w.1))); shows = w.2; core = same }
finds_so front l (Err (link.Wire fault)) a s v p q k2 h k x = absurd x
finds_so front l (Err link.Memory) a s v p q k2 h k x = absurd x

same_link_sides : (l : ℕ) (answer : Result LinkFront LinkReceiveFault) (xs ys : List LinkSide) → xs ≡ ys → link_sides_after l answer xs ≡ link_sides_after l answer ys
same_link_sides l answer xs ys e = ap (link_sides_after l answer) e

-- nothing is said of links where there is a link side
unlinked : {P : Type 0} (k : TheCore) (l n : ℕ) → HasNoLinks k → side_of_link k.link_sides l ≡ Some n → P
unlinked k l n h e =
    let none : side_of_link k.link_sides l ≡ None = ap (λ (link_sides : List LinkSide). side_of_link link_sides l) h.link_sides in
    let clash : None ≡ Some n = sym none ∙ e in
    absurd (cc)

pub looks_follow : (front : TheSide → Look) (a : CoreCut) (s m t : TheRun TheSide) (n : ℕ) (l : LinkId) (answer : Result LinkFront LinkReceiveFault) → ShowsCut a s
    → side_of_link s.core.link_sides l.0 ≡ Some n → OnRing n s (λ k p k2 q. LooksAhead SharedTakes front l.0 (at_side k p) answer (at_side k2 q)) m → t ≡ record m { progresses = t.progresses }
    → After (looked n l answer) a s t
looks_follow front a s m t n l answer h link_side on progresses =
    let v = there ShowsSide a.sides s.rings n on.before h.sides on.before_is in
    let one = finds_so front l.0 answer a s v.0 on.before on.after m.core h v.2 on.event in
    let next : CoreCut = record a { sides = slice_set a.sides n one.side; link_sides = link_sides_after l.0 answer a.link_sides } in
    record {
      after = next;
      does = record { look = record { before = v.0; before_is = v.1; after = one.side; event = one.finds; rest = refl }; rest = refl };
      shows = progresses_shown next m t (side_link_sides a s m n one.side on.after (link_sides_after l.0 answer a.link_sides) (link_sides_after l.0 answer s.core.link_sides) h one.shows
          (same_link_sides l.0 answer a.link_sides s.core.link_sides h.link_sides)
          (link_sides_run s m (link_sides_after l.0 answer s.core.link_sides) (slice_set s.rings n on.after) on.rest one.core)) progresses;
      links = λ none. unlinked s.core l.0 n none link_side;
    }

-- ---- a fragment goes on

pub passes_follow : (a : CoreCut) (s mid m t : TheRun TheSide) (n k l : ℕ) (frag : Frag) (c : Number) → ShowsCut a s → side_of_link s.core.link_sides l ≡ Some n
    → OnRing k s (λ x p y q. SharedPuts p (placed (bare (with_circuit c.0 frag))) q × (y ≡ x)) mid
    → OnRing n mid (λ x p y q. SharedTakes p (found (bare frag)) q × (y ≡ x)) m → t ≡ record m { progresses = t.progresses } → After (passed n k frag c Moved) a s t
passes_follow a s mid m t n k l frag c h link_side put took progresses =
    let v = there ShowsSide a.sides s.rings k put.before h.sides put.before_is in
    let one = put_agrees some_label v.0 put.before put.after (placed (bare (with_circuit c.0 frag))) v.2 put.event.0 in
    let between : CoreCut = record a { sides = slice_set a.sides k one.0 } in
    let shown = side_shown a s mid k one.0 put.after h one.2 put.rest put.event.1 in
    let w = there ShowsSide (slice_set a.sides k one.0) mid.rings n took.before shown.sides took.before_is in
    let two = takes_again some_label w.0 took.before took.after (bare frag) w.2 took.event.0 in
    let next : CoreCut = record a { sides = slice_set (slice_set a.sides k one.0) n two.0 } in
    record {
      after = next;
      does = (
        some_label,
        slice_set a.sides k one.0,
        record { before = v.0; before_is = v.1; after = one.0; event = one.1; rest = refl },
        record { before = w.0; before_is = w.1; after = two.0; event = two.1; rest = refl },
        refl,
      );
      shows = progresses_shown next m t (side_shown between mid m n two.0 took.after shown two.2 took.rest took.event.1) progresses;
      links = λ none. unlinked s.core l n none link_side;
    }

pub stays_full : (a : CoreCut) (s m t : TheRun TheSide) (n k l : ℕ) (frag : Frag) (c : Number) → ShowsCut a s → side_of_link s.core.link_sides l ≡ Some n
    → OnRing k s (λ x p y q. SharedPuts p no_room q × (y ≡ x)) m → t ≡ record m { progresses = t.progresses } → After (passed n k frag c Full) a s t
stays_full a s m t n k l frag c h link_side put progresses =
    let v = there ShowsSide a.sides s.rings k put.before h.sides put.before_is in
    let one = put_agrees some_label v.0 put.before put.after no_room v.2 put.event.0 in
    let next : CoreCut = record a { sides = slice_set a.sides k one.0 } in
    record {
      after = next;
      does = (some_label, record { before = v.0; before_is = v.1; after = one.0; event = one.1; rest = refl }, refl);
      shows = progresses_shown next m t (side_shown a s m k one.0 put.after h one.2 put.rest put.event.1) progresses;
      links = λ none. unlinked s.core l n none link_side;
    }

pub stays_spent : (a : CoreCut) (s m t : TheRun TheSide) (n k l : ℕ) (frag : Frag) (c : Number) → ShowsCut a s → side_of_link s.core.link_sides l ≡ Some n
    → OnRing k s (λ x p y q. SharedPuts p spent q × (y ≡ x)) m → t ≡ record m { progresses = t.progresses } → After (passed n k frag c Spent) a s t
stays_spent a s m t n k l frag c h link_side put progresses =
    let v = there ShowsSide a.sides s.rings k put.before h.sides put.before_is in
    let one = put_agrees some_label v.0 put.before put.after spent v.2 put.event.0 in
    let next : CoreCut = record a { sides = slice_set a.sides k one.0 } in
    record {
      after = next;
      does = (some_label, record { before = v.0; before_is = v.1; after = one.0; event = one.1; rest = refl }, refl);
      shows = progresses_shown next m t (side_shown a s m k one.0 put.after h one.2 put.rest put.event.1) progresses;
      links = λ none. unlinked s.core l n none link_side;
    }

-- ---- a monitor writes

-- the machine's outbox of a link, where there is one
record HasOutbox (links : List Link) (l : ℕ) (frags : List Frag) : Type 0 where
  pub link : Link
  pub there : slice_get links l ≡ Some link
  pub are : AreFragsOf frags (map message_of link.outbox)

outbox_at : (links : List Link) (outboxes : List (List Frag)) (l : ℕ) (frags : List Frag) → OutboxesShow links outboxes → slice_get outboxes l ≡ Some frags
    → HasOutbox links l frags
outbox_at [] [] l frags h e = absurd (cc)
outbox_at [] (x ∷ outboxes) l frags h e = absurd h
outbox_at (y ∷ links) [] l frags h e = absurd h
outbox_at (y ∷ links) (x ∷ outboxes) zero frags h e =
    record { link = y; there = refl; are = subst (λ (fs : List Frag). AreFragsOf fs (map message_of y.outbox)) (same_Some x frags e) h.0 }
outbox_at (y ∷ links) (x ∷ outboxes) (suc l) frags h e =
    let rest = outbox_at links outboxes l frags h.1 e in record { link = rest.link; there = rest.there; are = rest.are }

-- where something waits, the link is there
linked : (k : Core) (m : TheMonitor) (l : ℕ) (f : Frag) (rest : List Frag) → MonitorShows k m → waiting_for m.outboxes l ≡ f ∷ rest
    → (x : Link) × (slice_get k.links l ≡ Some x)
linked k m l f rest h e = by (slice_get m.outboxes l) refl e where
  by : (o : Option (List Frag)) → slice_get m.outboxes l ≡ o → (given o [] λ outbox. outbox) ≡ f ∷ rest → (x : Link) × (slice_get k.links l ≡ Some x)
  by None q r = absurd (cc)
  by (Some frags) q r = let x = outbox_at k.links m.outboxes l frags h.outboxes q in (x.link, x.there)

record SaysSo (a : CoreCut) (l : ℕ) (f : Frag) (m : TheMonitor) : Type 0 where
  pub word : MonitorLabel
  pub is : first_said a l ≡ Some word
  pub frag : f ≡ said_frag word
  pub gone : MonitorShows (without_first_said l a.core) (without_first l m)

said_first : OutboxesAreShown → (a : CoreCut) (m : TheMonitor) (l : ℕ) (f : Frag) (rest : List Frag) → MonitorShows a.core m → waiting_for m.outboxes l ≡ f ∷ rest
    → SaysSo a l f m
said_first law a m l f rest h e =
    let x = linked a.core m l f rest h e in
    let sends = law l x.0 a.core m h x.1 in
    let first : slice_get (waiting_for m.outboxes l) 0 ≡ Some f = ap (λ (fs : List Frag). slice_get fs 0) e in
    by x.0 x.1 sends first (slice_get x.0.outbox 0) refl
  where
    by : (x : Link) → slice_get a.core.links l ≡ Some x → SendsFirst l x a.core m → slice_get (waiting_for m.outboxes l) 0 ≡ Some f
        → (o : Option MonitorLabel) → slice_get x.outbox 0 ≡ o → SaysSo a l f m
    by x at sends first None q =
        let none = sends.none q in
        let clash : None ≡ Some f = sym none ∙ first in
        absurd (cc)
    by x at sends first (Some word) q = record {
      word = word;
      is = ap (λ (o : Option Link). given o None λ y. slice_get y.outbox 0) at ∙ q;
      frag = same_Some f (said_frag word) (sym first ∙ sends.next word q);
      gone = sends.gone;
    }

said_none : OutboxesAreShown → (a : CoreCut) (m : TheMonitor) (l : ℕ) → MonitorShows a.core m → waiting_for m.outboxes l ≡ [] → first_said a l ≡ None
said_none law a m l h e = by (slice_get a.core.links l) refl where
  by_first : (x : Link) → SendsFirst l x a.core m → (o : Option MonitorLabel) → slice_get x.outbox 0 ≡ o → o ≡ None
  by_first x sends None q = refl
  by_first x sends (Some word) q =
      let first = sends.next word q in
      let clash : None ≡ Some (said_frag word) = sym (ap (λ (fs : List Frag). slice_get fs 0) e) ∙ first in
      absurd (cc)

  by : (o : Option Link) → slice_get a.core.links l ≡ o → (given o None λ y. slice_get y.outbox 0) ≡ None
  by None q = refl
  by (Some x) q = by_first x (law l x a.core m h q) (slice_get x.outbox 0) refl

some_waits : (fs : List Frag) → fs ≢ [] → (f : Frag) × (rest : List Frag) × (fs ≡ f ∷ rest)
some_waits [] n = absurd (n refl)
some_waits (f ∷ rest) n = (f, rest, refl)

monitor_run : (s m : TheRun TheSide) (monitor : TheMonitor) (rings : List TheSide) → m ≡ record s { core = m.core; rings = rings } → m.core ≡ with_monitor s.core monitor
    → m ≡ record s { core = record s.core { monitor = monitor }; rings = rings; progresses = s.progresses }
monitor_run s m monitor rings rest core = rest ∙ ap (λ (k : TheCore). record s { core = k; rings = rings }) core

pub says_follow : OutboxesAreShown → (a : CoreCut) (s m t : TheRun TheSide) (n : ℕ) (l : LinkId) (answer : MonitorWrite) → ShowsCut a s
    → side_of_link s.core.link_sides l.0 ≡ Some n → OnRing n s (λ k p k2 q. MonitorWrites SharedPuts l.0 (at_side k p) answer (at_side k2 q)) m → t ≡ record m { progresses = t.progresses }
    → After (said n l answer) a s t
says_follow law a s m t n l write.Written h link_side on progresses =
    let (f, rest, waits, put, core) = on.event in
    let first = said_first law a s.core.monitor l.0 f rest h.monitor waits in
    let v = there ShowsSide a.sides s.rings n on.before h.sides on.before_is in
    let one = put_agrees (says first.word) v.0 on.before on.after (placed (said_frag first.word)) v.2
    (subst (λ (g : Frag). SharedPuts on.before (placed g) on.after) first.frag put) in
    let next : CoreCut = record a { core = without_first_said l.0 a.core; sides = slice_set a.sides n one.0 } in
    record {
      after = next;
      does = (first.word, first.is, record { before = v.0; before_is = v.1; after = one.0; event = one.1; rest = refl }, refl);
      shows = progresses_shown next m t
          (subst (ShowsCut next) (sym (monitor_run s m (without_first l.0 s.core.monitor) (slice_set s.rings n on.after) on.rest core))
          (shown_monitor a s h (slice_set a.sides n one.0) (without_first_said l.0 a.core) (without_first l.0 s.core.monitor) (slice_set s.rings n on.after) s.progresses
          (set_both ShowsSide a.sides s.rings n one.0 on.after h.sides one.2) first.gone refl refl)) progresses;
      links = λ none. unlinked s.core l.0 n none link_side;
    }
says_follow law a s m t n l write.Full h link_side on progresses =
    let (some, put, core) = on.event in
    let x = some_waits (waiting_for s.core.monitor.outboxes l.0) some in
    let first = said_first law a s.core.monitor l.0 x.0 x.1 h.monitor x.2 in
    let v = there ShowsSide a.sides s.rings n on.before h.sides on.before_is in
    let one = put_agrees (says first.word) v.0 on.before on.after no_room v.2 put in
    let next : CoreCut = record a { sides = slice_set a.sides n one.0 } in
    record {
      after = next;
      does = (first.word, first.is, record { before = v.0; before_is = v.1; after = one.0; event = one.1; rest = refl }, refl);
      shows = progresses_shown next m t (side_shown a s m n one.0 on.after h one.2 on.rest core) progresses;
      links = λ none. unlinked s.core l.0 n none link_side;
    }
says_follow law a s m t n l write.Spent h link_side on progresses =
    let (some, put, core) = on.event in
    let x = some_waits (waiting_for s.core.monitor.outboxes l.0) some in
    let first = said_first law a s.core.monitor l.0 x.0 x.1 h.monitor x.2 in
    let v = there ShowsSide a.sides s.rings n on.before h.sides on.before_is in
    let one = put_agrees (says first.word) v.0 on.before on.after spent v.2 put in
    let next : CoreCut = record a { sides = slice_set a.sides n one.0 } in
    record {
      after = next;
      does = (first.word, first.is, record { before = v.0; before_is = v.1; after = one.0; event = one.1; rest = refl }, refl);
      shows = progresses_shown next m t (side_shown a s m n one.0 on.after h one.2 on.rest core) progresses;
      links = λ none. unlinked s.core l.0 n none link_side;
    }
says_follow law a s m t n l write.Nothing h link_side on progresses =
    let (none_waits, core, side_same) = on.event in
    let v = there ShowsSide a.sides s.rings n on.before h.sides on.before_is in
    let still = side_shown a s m n v.0 on.after h (subst (ShowsSide v.0) (sym side_same) v.2) on.rest core in
    record {
      after = a;
      does = (said_none law a s.core.monitor l.0 h.monitor none_waits, refl);
      shows = progresses_shown a m t (subst (λ (sides : List SideCut). ShowsCut (record a { sides = sides }) m) (set_same a.sides n v.0 v.1) still) progresses;
      links = λ none. unlinked s.core l.0 n none link_side;
    }

-- ---- a core tells

tells_so : (answer : AckAnswer) (v : SideCut) (p q : TheSide) → ShowsSide v p → Acknowledges SharedTakes p answer q
    → (w : SideCut) × TellsBy answer v w × ShowsSide w q
tells_so ack.Done v p q h a = look_agrees some_label v p q told h a
tells_so ack.Nothing v p q h a = look_agrees some_label v p q kept h a
tells_so ack.Full v p q h a = look_agrees some_label v p q no_room h a

pub tells_follow : (a : CoreCut) (s m t : TheRun TheSide) (n : ℕ) (l : LinkId) (answer : AckAnswer) → ShowsCut a s → side_of_link s.core.link_sides l.0 ≡ Some n
    → OnRing n s (λ k p k2 q. Acknowledges SharedTakes p answer q × (k2 ≡ k)) m → t ≡ record m { progresses = t.progresses } → After (has_told n l answer) a s t
tells_follow a s m t n l answer h link_side on progresses =
    let v = there ShowsSide a.sides s.rings n on.before h.sides on.before_is in
    let one = tells_so answer v.0 on.before on.after v.2 on.event.0 in
    let next : CoreCut = record a { sides = slice_set a.sides n one.0 } in
    record {
      after = next;
      does = (record { before = v.0; before_is = v.1; after = one.0; event = one.1; rest = refl }, refl);
      shows = progresses_shown next m t (side_shown a s m n one.0 on.after h one.2 on.rest on.event.1) progresses;
      links = λ none. unlinked s.core l.0 n none link_side;
    }

-- ---- arrival queues

-- an end on a circuit, and its arrival queue
pub record Arriving_ (k : TheCore) (name : EndId) (e a : ℕ) : Type 0 where
  pub place : place_of k name ≡ Some e
  pub number : arrivals_of k e ≡ Some a

pub arrives_at : (k : TheCore) (name : EndId) (e a : ℕ) → arriving_at k name ≡ Some (arriving e a) → Arriving_ k name e a
arrives_at k name e a h = by (place_of k name) refl h where
  by_queue : (f : ℕ) (o : Option ℕ) → place_of k name ≡ Some f → arrivals_of k f ≡ o → (given o None λ b. Some (arriving f b)) ≡ Some (arriving e a)
      → Arriving_ k name e a
  by_queue f None p q r = absurd (cc)
  by_queue f (Some b) p q r =
      let same : arriving f b ≡ arriving e a = same_Some (arriving f b) (arriving e a) r in
      let ends : f ≡ e = ap (λ (x : ArrivalPlace). x.end) same in
      let queues : b ≡ a = ap (λ (x : ArrivalPlace). x.queue) same in
      record { place = p ∙ ap Some ends; number = ap (arrivals_of k) (sym ends) ∙ q ∙ ap Some queues }

  by : (o : Option ℕ) → place_of k name ≡ o → (given o None λ f. given (arrivals_of k f) None λ b. Some (arriving f b)) ≡ Some (arriving e a)
      → Arriving_ k name e a
  by None p r = absurd (cc)
  by (Some f) p r = by_queue f (arrivals_of k f) p refl r

-- the seat of an end that has a wired end
seat_there : (seats : List TheEndAtChannel) (wired_ends : List WiredEnd) (e : ℕ) (p : WiredEnd) → map (λ (x : TheEndAtChannel). x.kind) seats ≡ map (λ (q : WiredEnd). kind_of q.wiring) wired_ends
    → slice_get wired_ends e ≡ Some p → (seat : TheEndAtChannel) × (slice_get seats e ≡ Some seat)
seat_there [] [] e p h q = absurd (cc)
seat_there [] (x ∷ wired_ends) e p h q = absurd (cc)
seat_there (s ∷ seats) [] e p h q = absurd (cc)
seat_there (s ∷ seats) (x ∷ wired_ends) zero p h q = (s, refl)
seat_there (s ∷ seats) (x ∷ wired_ends) (suc e) p h q =
    let rest : map (λ (y : TheEndAtChannel). y.kind) seats ≡ map (λ (r : WiredEnd). kind_of r.wiring) wired_ends = cc in seat_there seats wired_ends e p rest q

pub wired_end_at : (k : TheCore) (e a : ℕ) → arrivals_of k e ≡ Some a → (p : WiredEnd) × (slice_get k.wired_ends e ≡ Some p) × (arrivals_by p.wiring ≡ Some a)
wired_end_at k e a h = by (slice_get k.wired_ends e) refl h where
  by : (o : Option WiredEnd) → slice_get k.wired_ends e ≡ o → (given o None λ p. arrivals_by p.wiring) ≡ Some a
      → (p : WiredEnd) × (slice_get k.wired_ends e ≡ Some p) × (arrivals_by p.wiring ≡ Some a)
  by None q r = absurd (cc)
  by (Some p) q r = (p, q, r)

-- its arrival queue is one that an end uses
pub used_at : (k : TheCore) (e a : ℕ) → arrivals_of k e ≡ Some a → IsUsed UsesArrivals k.wired_ends a
used_at k e a h = let p = wired_end_at k e a h in record { place = e; wired_end = p.0; wired_end_is = p.1; uses = p.2 }

uses_arrivals : (k : TheCore) (name : EndId) (e a : ℕ) → arriving_at k name ≡ Some (arriving e a) → IsUsed UsesArrivals k.wired_ends a
uses_arrivals k name e a h = used_at k e a (arrives_at k name e a h).number

-- the end that a fragment arrives for
pub record Arriver (a : CoreCut) (s : TheRun TheSide) (name : EndId) (e number : ℕ) : Type 0 where
  pub seat : TheEndAtChannel
  pub end_seen : Seen a s.core.monitor.circuits.core name e seat
  pub own : arrivals_by end_seen.end.wired_end.wiring ≡ Some number

pub own_number : (a : CoreCut) (s : TheRun TheSide) (e number : ℕ) (x : EndCut) (p : WiredEnd) → ShowsCut a s → slice_get a.ends e ≡ Some x → slice_get s.core.wired_ends e ≡ Some p
    → arrivals_by p.wiring ≡ Some number → arrivals_by x.wired_end.wiring ≡ Some number
own_number a s e number x p h at q own =
    ap (λ (y : WiredEnd). arrivals_by y.wiring) (map_at (λ (y : EndCut). y.wired_end) a.ends s.core.wired_ends e x p h.wired_ends at q) ∙ own

pub arriver : (a : CoreCut) (s : TheRun TheSide) (name : EndId) (e number : ℕ) → ShowsCut a s → IsCore s.core → arriving_at s.core name ≡ Some (arriving e number)
    → Arriver a s name e number
arriver a s name e number h core at =
    let x = arrives_at s.core name e number at in
    let p = wired_end_at s.core e number x.number in
    let seat = seat_there s.core.board.seats s.core.wired_ends e p.0 core.kinds p.1 in
    let end_seen_ = seen a s name e seat.0 h core x.place seat.1 in
    record { seat = seat.0; end_seen = end_seen_; own = own_number a s e number end_seen_.end p.0 h end_seen_.end_is p.1 p.2 }

arrived_run : (s m : TheRun TheSide) (arrivals : List TheQueue) (rings : List TheSide) → m ≡ record s { core = m.core; rings = rings }
    → m.core ≡ record s.core { board = m.core.board; arrivals = arrivals }
    → m ≡ record s { core = record s.core { board = m.core.board; arrivals = arrivals }; rings = rings; progresses = s.progresses }
arrived_run s m arrivals rings rest core = rest ∙ ap (λ (k : TheCore). record s { core = k; rings = rings }) core

pub arrives_follow : (a : CoreCut) (s m t : TheRun TheSide) (n : ℕ) (l : LinkId) (frag : Frag) (name : EndId) (answer : Result ForwardOutcome LinkReceiveFault) → ShowsCut a s
    → IsCore s.core → side_of_link s.core.link_sides l.0 ≡ Some n → OnRing n s (λ k p k2 q. ArrivesAt SharedTakes (inbound l.0 frag name) (at_side k p) answer (at_side k2 q)) m
    → t ≡ record m { progresses = t.progresses } → After (arrived n l frag name answer) a s t
arrives_follow a s m t n l frag name (Ok Moved) h core link_side on progresses =
    let x = on.event in
    let number : ℕ = s.core.monitor.circuits.core in
    let end = arriver a s name x.end x.queue h core x.at in
    let v = there ShowsSide a.sides s.rings n on.before h.sides on.before_is in
    let w = h.arrivals.each x.queue x.before (uses_arrivals s.core name x.end x.queue x.at) x.before_is in
    let put = queue_puts.one some_label w.0 x.before x.after (as_carried frag) w.2 x.puts in
    let one = takes_again some_label v.0 on.before on.after (bare frag) v.2 x.left in
    let waits : List Dispatcher = triggers_end (Some x.end) a.ends a.core.dispatchers in
    let woken = triggers_shown number s.core.wired_ends (Some x.end) a.core.dispatchers a.ends s.core.board m.core.board x.triggers h.waits h.ends in
    let named : place_in a.places name ≡ Some x.end = end.end_seen.place_is in
    let next : CoreCut = record (with_waits a (triggers_end (Some x.end) a.ends a.core.dispatchers)) {
      sides = slice_set a.sides n one.0;
      arrivals = slice_set a.arrivals x.queue put.0;
    } in
    record {
      after = next;
      does = (
        some_label,
        record {
          at = end_at a number name x.end end.seat end.end_seen;
          number = x.queue;
          number_is = end.own;
          queue = record { before = w.0; before_is = w.1; after = put.0; event = put.1; rest = refl };
        },
        record { before = v.0; before_is = v.1; after = one.0; event = one.1; rest = refl },
        ap (λ (o : Option ℕ). record (with_waits a (triggers_end o a.ends a.core.dispatchers)) {
          sides = slice_set a.sides n one.0;
          arrivals = slice_set a.arrivals x.queue put.0;
        }) (sym named),
      );
      shows = progresses_shown next m t
          (subst (ShowsCut next) (sym (arrived_run s m (slice_set s.core.arrivals x.queue x.after) (slice_set s.rings n on.after) on.rest x.rest))
          (shown_arrivals a s h (triggers_end (Some x.end) a.ends a.core.dispatchers) a.ends (slice_set a.sides n one.0) (slice_set a.arrivals x.queue put.0)
          m.core.board (slice_set s.rings n on.after) (slice_set s.core.arrivals x.queue x.after) s.progresses woken.waits_show woken.ends_show refl
          (set_both ShowsSide a.sides s.rings n one.0 on.after h.sides one.2)
          (set_used UsesArrivals s.core.wired_ends a.arrivals s.core.arrivals x.queue put.0 x.after h.arrivals put.2))) progresses;
      links = λ none. unlinked s.core l.0 n none link_side;
    }
arrives_follow a s m t n l frag name (Ok Full) h core link_side on progresses =
    let x = on.event in
    let number : ℕ = s.core.monitor.circuits.core in
    let end = arriver a s name x.end x.queue h core x.at in
    let v = there ShowsSide a.sides s.rings n on.before h.sides on.before_is in
    let w = h.arrivals.each x.queue x.before (uses_arrivals s.core name x.end x.queue x.at) x.before_is in
    let put = queue_puts.full some_label w.0 x.before x.after w.2 x.puts in
    let board = triggers_shown number s.core.wired_ends None a.core.dispatchers a.ends s.core.board m.core.board x.triggers h.waits h.ends in
    let sides : ShowsSide v.0 on.after = subst (ShowsSide v.0) (sym x.left) v.2 in
    let kept_queue : ShowsQueue w.0 x.after = subst (λ (y : QueueCut). ShowsQueue y x.after) put.1.1 put.2 in
    let changed_so : ShowsCut (record a { sides = slice_set a.sides n v.0; arrivals = slice_set a.arrivals x.queue w.0 }) m
    = subst (ShowsCut (record a { sides = slice_set a.sides n v.0; arrivals = slice_set a.arrivals x.queue w.0 }))
    (sym (arrived_run s m (slice_set s.core.arrivals x.queue x.after) (slice_set s.rings n on.after) on.rest x.rest))
    (shown_arrivals a s h a.core.dispatchers a.ends (slice_set a.sides n v.0) (slice_set a.arrivals x.queue w.0)
    m.core.board (slice_set s.rings n on.after) (slice_set s.core.arrivals x.queue x.after) s.progresses board.waits_show board.ends_show refl
    (set_both ShowsSide a.sides s.rings n v.0 on.after h.sides sides)
    (set_used UsesArrivals s.core.wired_ends a.arrivals s.core.arrivals x.queue w.0 x.after h.arrivals kept_queue)) in
    let same : ShowsCut a m
    = subst (λ (sides : List SideCut). ShowsCut (record a { sides = sides }) m) (set_same a.sides n v.0 v.1)
    (subst (λ (arrivals : List QueueCut). ShowsCut (record a { sides = slice_set a.sides n v.0; arrivals = arrivals }) m) (set_same a.arrivals x.queue w.0 w.1) changed_so) in
    record {
      after = a;
      does = (
        some_label,
        record {
          at = end_at a number name x.end end.seat end.end_seen;
          number = x.queue;
          number_is = end.own;
          queue = record { before = w.0; before_is = w.1; after = w.0; event = (put.1.0, refl); rest = sym (set_same a.arrivals x.queue w.0 w.1) };
        },
        refl,
      );
      shows = progresses_shown a m t same progresses;
      links = λ none. unlinked s.core l.0 n none link_side;
    }
arrives_follow a s m t n l frag name (Ok Spent) h core link_side on progresses =
    let x = on.event in
    let w = h.arrivals.each x.queue x.before (uses_arrivals s.core name x.end x.queue x.at) x.before_is in
    let put = queue_puts.over some_label w.0 x.before x.after w.2 x.puts in
    absurd put.1
arrives_follow a s m t n l frag name (Err link.Misrouted) h core link_side on progresses =
    let (none_there, failed, side_same) = on.event in
    let v = there ShowsSide a.sides s.rings n on.before h.sides on.before_is in
    let next : CoreCut = record a { link_sides = failed_at a.link_sides l.0 } in
    let changed_so = side_link_sides a s m n v.0 on.after (failed_at a.link_sides l.0) (failed_at s.core.link_sides l.0) h (subst (ShowsSide v.0) (sym side_same) v.2)
    (ap (λ (link_sides : List LinkSide). failed_at link_sides l.0) h.link_sides)
    (link_sides_run s m (failed_at s.core.link_sides l.0) (slice_set s.rings n on.after) on.rest failed) in
    record {
      after = next;
      does = refl;
      shows = progresses_shown next m t
          (subst (λ (sides : List SideCut). ShowsCut (record a { sides = sides; link_sides = failed_at a.link_sides l.0 }) m) (set_same a.sides n v.0 v.1) changed_so) progresses;
      links = λ none. unlinked s.core l.0 n none link_side;
    }
arrives_follow a s m t n l frag name (Err (link.Wire fault)) h core link_side on progresses = absurd on.event
arrives_follow a s m t n l frag name (Err link.Failed) h core link_side on progresses = absurd on.event
arrives_follow a s m t n l frag name (Err link.Marked) h core link_side on progresses = absurd on.event
arrives_follow a s m t n l frag name (Err link.Memory) h core link_side on progresses = absurd on.event

-- ---- a turn of an end of a circuit

queue_by_arrivals : (wiring : EndWiring) → inlet_by wiring ≡ inlet.Arrivals → kind_of wiring ≡ kind.Queue
queue_by_arrivals (Queues out from) h = absurd (cc)
queue_by_arrivals (OverRing side) h = absurd (cc)
queue_by_arrivals (Circuit link arrivals) h = refl

pub arrivals_turn_follow : TakeShows → (a : CoreCut) (s m t : TheRun TheSide) (d : ℕ) (name : EndId) (answer : TurnAnswer) (e : ℕ) → ShowsCut a s → IsSound s.core
    → IsSoundAt s name → place_of s.core name ≡ Some e → inlet_of s.core e ≡ Some inlet.Arrivals
    → OnCore s (λ k k2. OverArrivals k e (λ b p c q. BoardTurns QueueTakes d e (over b p) (Ok answer) (over c q)) k2) m
    → (HasNoLinks s.core → HasNoLinks t.core) → t ≡ record m { progresses = t.progresses } → After (turned d name inlet.Arrivals answer) a s t
arrivals_turn_follow law a s m t d name answer e h sound soundly at from on links progresses =
    let x = on.event in
    let one = turn_follows QueueTakes ShowsQueue queue_gives kind.Queue all_gives law a s d name x.place e answer m.core.board a.arrivals x.before x.after h
    sound.core soundly at (h.arrivals.each x.place x.before (used_at s.core e x.place x.place_is) x.before_is) (λ seat is. kind_from s.core e seat inlet.Arrivals kind.Queue sound.core is from queue_by_arrivals) x.event in
    let next : CoreCut = record (with_waits a one.waits) { ends = one.ends; arrivals = one.sides } in
    let p = wired_end_at s.core e x.place x.place_is in
    let same_place : one.turn.at.place ≡ e = same_Some one.turn.at.place e (sym one.turn.at.place_is ∙ ap (λ (places : List (Option ℕ)). place_in places name) h.places ∙ at) in
    let run : m ≡ record s { core = record s.core { board = m.core.board; arrivals = slice_set s.core.arrivals x.place x.after }; rings = s.rings; progresses = s.progresses }
    = on.rest ∙ ap (λ (k : TheCore). record s { core = k }) x.rest in
    record {
      after = next;
      does = record {
        number = x.place;
        turn = one.turn;
        own = own_number a s e x.place one.turn.at.end p.0 h (ap (slice_get a.ends) (sym same_place) ∙ one.turn.at.end_is) p.1 p.2;
        rest = refl;
      };
      shows = progresses_shown next m t
          (subst (ShowsCut next) (sym run)
          (shown_arrivals a s h one.waits one.ends a.sides one.sides m.core.board s.rings (slice_set s.core.arrivals x.place x.after) s.progresses
          one.waits_show one.ends_show one.wired_ends_are h.sides
          (subst (λ (ys : List QueueCut). QueuesShow UsesArrivals s.core.wired_ends ys (slice_set s.core.arrivals x.place x.after)) (sym one.sides_are)
          (set_used UsesArrivals s.core.wired_ends a.arrivals s.core.arrivals x.place one.side x.after h.arrivals one.side_shows)))) progresses;
      links = links;
    }
