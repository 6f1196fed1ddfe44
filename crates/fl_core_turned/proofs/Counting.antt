-- A side is looked at as often as events find it empty or full.
use Rattle.std.proofs.Common.{◌≡◌, inl, inr, refl, sym, ◌∙◌, ap, subst, ℕ, ◌+◌, ◌≤◌, ◌<◌, ◌^◌, ◌==◌, if◌then◌else◌, Bool, true, false}
use Rattle.std.proofs.Common.{List, [], ◌∷◌, length, slice_get, slice_set, Option, Some, Ok, arith}
use Rattle.std.proofs.lemmas.Bool.Decides.{nat_tests}
use Rattle.std.proofs.lemmas.Bool.{and_parts}
use Rattle.fl_base.specs.Given.{given}
use Rattle.fl_lists.specs.declared.place.Place.{Place}
use Rattle.fl_lists.specs.declared.place.Place.TheVariants as place
use Rattle.fl_waitset.specs.declared.waitset.Pick.{Pick}
use Rattle.fl_waitset.specs.declared.waitset.Pick.TheVariants as pick
use Rattle.fl_link.specs.Looks.{saw, saw_ack, missed}
use Rattle.fl_hop.specs.declared.forward.ForwardOutcome.TheVariants as outcome
use Rattle.fl_endpoint.specs.declared.answer.WriteAnswer.TheVariants as write
use Rattle.fl_ring.specs.SharedSides.{TheSide, SharedTakes}
use Rattle.fl_core.specs.declared.kind.ChannelKind.{ChannelKind}
use Rattle.fl_core.specs.declared.kind.ChannelKind.TheVariants as kind
use Rattle.fl_core.specs.declared.turn_answer.TurnAnswer.TheVariants as turn
use Rattle.fl_core.specs.declared.turn_answer.AckAnswer.TheVariants as ack
use Rattle.fl_core.specs.declared.answer.LinkFront.TheVariants as ahead
use Rattle.fl_core.specs.declared.answer.MonitorWrite.TheVariants as monitor
use Rattle.fl_core.specs.declared.wiring.Inlet.TheVariants as inlet
use Rattle.fl_core.specs.declared.wiring.Outlet.TheVariants as outlet
use Rattle.fl_core.specs.declared.core_job.CoreJob.{CoreJob}
use Rattle.fl_core.specs.BoardEvents.{Acks}
use Rattle.fl_core.specs.BoardTurns.{WaitsIn, EndMoment, LooksAt}
use Rattle.fl_core.specs.View.{TheCore}
use Rattle.fl_endpoint.specs.View.{TheEnd}
use Rattle.fl_core.proofs.BoardPlaces.{one_stands, set_here}
use Rattle.fl_core_run.specs.LogEntries.{LogEntry, looked, passed, said, told, wrote, acked, turned, OnRing, Does}
use Rattle.fl_core_run.specs.Run.{TheRun}
use Rattle.fl_core_run_laws.proofs.Aside.{rings_aside}
use Rattle.fl_core_run_laws.proofs.Looking.{logs_look}
use Rattle.fl_model.specs.Monitors.{Service}
use Rattle.fl_world_refines.proofs.Tests.{true_lt}
use Rattle.fl_core_turned.specs.TurnEvents.{Event}
use Rattle.fl_core_turned.specs.Turned.{shared_ways, CutMoment, moment, Follows, AllFollow, is_unspent, finds_nothing, finds_full, at_side, times, Counts}
use Rattle.fl_core_turned.proofs.Rising.{Rises, rises_not, put_loads, take_rises, look_misses, ack_takes, ack_loads, looks_rise}

-- ---- a turn that finds nothing

waits_rise : (k : ChannelKind) (p : TheSide) (to : Place) (q : TheSide) → WaitsIn SharedTakes k p to q → Rises p q
waits_rise kind.Ring p place.Polled q h = rises_not p q h
waits_rise kind.Ring p place.Pending q h = absurd h
waits_rise kind.Ring p place.Idle q h = absurd h
waits_rise kind.Queue p place.Pending q (inl h) = take_rises p q (saw h.0) h.1
waits_rise kind.Queue p place.Pending q (inr h) = take_rises p q saw_ack h
waits_rise kind.Queue p place.Idle q h = take_rises p q missed h
waits_rise kind.Queue p place.Polled q h = absurd h

nothing_turns : (x : Pick) (k : ChannelKind) (a b : EndMoment TheSide) → LooksAt SharedTakes x k a (Ok turn.Nothing) b → a.side.misses + 1 ≤ b.side.misses
nothing_turns (pick.Pending c) k a b (m, (ready, misses, same), (to, waits, lists)) =
    let one = look_misses a.side m misses in
    let rest = (waits_rise k m to b.side waits).misses in
    omega (arith, one, rest)
nothing_turns (pick.Polled c) k a b h = absurd h.0

longer : {P : Type 0} (p q : TheSide) → length p.got + 1 ≤ length q.got → (length q.got == length p.got) ≡ true → P
longer p q more same = absurd (grind (arith, nat_tests, more, same))

quiet_turns : (x : Pick) (k : ChannelKind) (a b : EndMoment TheSide) → LooksAt SharedTakes x k a (Ok turn.Quiet) b
    → (length b.side.got == length a.side.got) ≡ true → a.side.misses + 1 ≤ b.side.misses
quiet_turns (pick.Pending c) k a b (m, (ready, (seen, sight, took), ended), (to, waits, lists)) same =
    let first = (take_rises a.side seen saw_ack sight).got in
    let one = ack_takes seen m took in
    let rest = (waits_rise k m to b.side waits).got in
    longer a.side b.side (omega (arith, first, one, rest)) same
quiet_turns (pick.Polled c) k a b ((inl misses, lists), ended) same = look_misses a.side b.side misses
quiet_turns (pick.Polled c) k a b ((inr (seen, sight, took), lists), ended) same =
    let first = (take_rises a.side seen saw_ack sight).got in
    let one = ack_takes seen b.side took in
    longer a.side b.side (omega (arith, first, one)) same

full_acks : (k : ChannelKind) (x : TheEnd) (p q : TheSide) → length p.sent < 2 ^ 62 → Acks SharedTakes k x p (Ok ack.Full) q → p.loads + 1 ≤ q.loads
full_acks kind.Ring x p q less h = ack_loads p q less h.1
full_acks kind.Queue x p q less h = absurd h

-- ---- one event, over its own side

-- the side of a ring at which an event happens, before and after
record Own (p q : TheSide) (s : TheRun TheSide) (m : ℕ) (before after : TheSide) : Type 0 where
  first : before ≡ p
  last : after ≡ q

same_number : (m n : ℕ) → (m == n) ≡ true → m ≡ n
same_number m n e = grind (arith, nat_tests, e)

own : (m n : ℕ) (s mid t : TheRun TheSide) (Act : TheCore → TheSide → TheCore → TheSide → Type 0) (on : OnRing m s Act mid) (p q : TheSide)
    → t.rings ≡ mid.rings → (m == n) ≡ true → slice_get s.rings n ≡ Some p → slice_get t.rings n ≡ Some q → Own p q s m on.before on.after
own m n s mid t Act on p q aside test at later =
    let here : m ≡ n = same_number m n test in
    let before : slice_get s.rings n ≡ Some on.before = subst (λ (i : ℕ). slice_get s.rings i ≡ Some on.before) here on.before_is in
    let rings : t.rings ≡ slice_set s.rings m on.after = aside ∙ ap (λ (x : TheRun TheSide). x.rings) on.rest in
    let after : slice_get t.rings n ≡ Some on.after
    = ap (λ (xs : List TheSide). slice_get xs n) rings
    ∙ subst (λ (i : ℕ). slice_get (slice_set s.rings m on.after) i ≡ Some on.after) here (set_here s.rings m on.before on.after on.before_is) in
    record { first = one_stands s.rings n on.before p before at; last = one_stands t.rings n on.after q after later }

by_own : (R : TheSide → TheSide → Type 0) (p q : TheSide) (s : TheRun TheSide) (m : ℕ) (before after : TheSide) → Own p q s m before after → R before after → R p q
by_own R p q s m before after o r = subst (λ (x : TheSide). R x q) o.first (subst (λ (x : TheSide). R before x) o.last r)

abbrev Misses : TheSide → TheSide → Type 0
Misses p q = p.misses + 1 ≤ q.misses

abbrev Loads : TheSide → TheSide → Type 0
Loads p q = p.loads + 1 ≤ q.loads

module _ (n : ℕ) (s mid t : TheRun TheSide) (p q : TheSide) (aside : t.rings ≡ mid.rings) (at : slice_get s.rings n ≡ Some p) (later : slice_get t.rings n ≡ Some q) where
  nothing_looked : (log_entry : LogEntry) → Does shared_ways log_entry s mid → finds_nothing n log_entry p q ≡ true → Misses p q
  nothing_looked (looked m l (Ok ahead.Nothing)) h e =
      by_own Misses p q s m h.before h.after (own m n s mid t _ h p q aside e at later) (look_misses h.before h.after h.event.0.finds)
  nothing_looked (turned d name (inlet.Side m) turn.Nothing) h e =
      let on = h.3 in
      by_own Misses p q s m on.before on.after (own m n s mid t _ on p q aside e at later)
      (nothing_turns on.event.event.picked on.event.event.seat.kind _ _ on.event.event.looks)
  nothing_looked (turned d name (inlet.Side m) turn.Quiet) h e =
      let on = h.3 in
      let both = and_parts (m == n) (length q.got == length p.got) e in
      let o = own m n s mid t _ on p q aside both.0 at later in
      let same : (length on.after.got == length on.before.got) ≡ true
      = ap (λ (x : TheSide). length x.got == length on.before.got) o.last ∙ ap (λ (x : TheSide). length q.got == length x.got) o.first ∙ both.1 in
      by_own Misses p q s m on.before on.after o
      (quiet_turns on.event.event.picked on.event.event.seat.kind _ _ on.event.event.looks same)
  nothing_looked log_entry h e = absurd (cc)

  full_looked : (log_entry : LogEntry) → Does shared_ways log_entry s mid → finds_full n log_entry p q ≡ true → Loads p q
  full_looked (passed m k frag c outcome.Full) h e =
      by_own Loads p q s k h.before h.after (own k n s mid t _ h p q aside e at later) (put_loads h.before h.after h.event.0)
  full_looked (said m l monitor.Full) h e =
      by_own Loads p q s m h.before h.after (own m n s mid t _ h p q aside e at later) (put_loads h.before h.after h.event.1)
  full_looked (wrote name (outlet.Side m) (Ok write.Full)) h e =
      let on = h.2 in
      by_own Loads p q s m on.before on.after (own m n s mid t _ on p q aside e at later) (put_loads on.before on.after on.event.writes.event.2)
  full_looked (told m l ack.Full) h e =
      let both = and_parts (m == n) (is_unspent p) e in
      let o = own m n s mid t _ h p q aside both.0 at later in
      let less : length h.before.sent < 2 ^ 62 = subst (λ (x : TheSide). length x.sent < 2 ^ 62) (sym o.first) (true_lt (length p.sent) (2 ^ 62) both.1) in
      by_own Loads p q s m h.before h.after o (ack_loads h.before h.after less h.event.0)
  full_looked (acked name m (Ok ack.Full)) h e =
      let on = h.2 in
      let both = and_parts (m == n) (is_unspent p) e in
      let o = own m n s mid t _ on p q aside both.0 at later in
      let less : length on.before.sent < 2 ^ 62 = subst (λ (x : TheSide). length x.sent < 2 ^ 62) (sym o.first) (true_lt (length p.sent) (2 ^ 62) both.1) in
      by_own Loads p q s m on.before on.after o (full_acks on.event.0.0.kind on.event.0.0.end on.before on.after less on.event.0.2)
  full_looked log_entry h e = absurd (cc)

-- ---- the events of a log

abbrev one_if : Bool → ℕ
one_if b = if b then 1 else 0

counted : (p q : TheSide) (a b : Bool) → Rises p q → (a ≡ true → Misses p q) → (b ≡ true → Loads p q) → Counts (one_if a) (one_if b) p q
counted p q true true h x y = record { misses = x refl; loads = y refl; known = h.known }
counted p q true false h x y = let l = h.loads in record { misses = x refl; loads = omega (arith, l); known = h.known }
counted p q false true h x y = let m = h.misses in record { misses = omega (arith, m); loads = y refl; known = h.known }
counted p q false false h x y =
    let m = h.misses in let l = h.loads in record { misses = omega (arith, m); loads = omega (arith, l); known = h.known }

counts_then : (a b c d : ℕ) (p m q : TheSide) → Counts a b p m → Counts c d m q → Counts (a + c) (b + d) p q
counts_then a b c d p m q x y =
    let xm = x.misses in let ym = y.misses in let xl = x.loads in let yl = y.loads in let xk = x.known in let yk = y.known in
    record { misses = omega (arith, xm, ym); loads = omega (arith, xl, yl); known = omega (arith, xk, yk) }

pub record SideCounts (nothing full : ℕ) (n : ℕ) (p : TheSide) (b : CutMoment) : Type 0 where
  pub after : TheSide
  pub after_is : slice_get b.run.rings n ≡ Some after
  pub counts : Counts nothing full p after

module _ (services : List Service) (jobs : List CoreJob) (n : ℕ) where
  abbrev pub nothing_at : LogEntry → CutMoment → CutMoment → Bool
  nothing_at e = at_side n (finds_nothing n e)

  abbrev pub full_at : LogEntry → CutMoment → CutMoment → Bool
  full_at e = at_side n (finds_full n e)

  tested : (test : TheSide → TheSide → Bool) (a b : CutMoment) (p q : TheSide) → slice_get a.run.rings n ≡ Some p → slice_get b.run.rings n ≡ Some q
      → at_side n test a b ≡ test p q
  tested test a b p q at later =
      ap (λ (x : Option TheSide). given x false λ y. given (slice_get b.run.rings n) false λ z. test y z) at
      ∙ ap (λ (x : Option TheSide). given x false λ z. test p z) later

  one_counts : (log_entry : LogEntry) (a b : CutMoment) → Follows services jobs log_entry a b → (p : TheSide) → slice_get a.run.rings n ≡ Some p
      → SideCounts (one_if (nothing_at log_entry a b)) (one_if (full_at log_entry a b)) n p b
  one_counts log_entry a b h p at =
      let (mid, does, notes, sound, soundly, whole) = h.happens in
      let aside = rings_aside mid b.run log_entry notes in
      let (q, later, (looks, led)) = logs_look shared_ways jobs a.run b.run (log_entry ∷ []) (b.run, h.happens, h.in_place, refl) n p at in
      let nothing = tested (finds_nothing n log_entry) a b p q at later in
      let full = tested (finds_full n log_entry) a b p q at later in
      record {
        after = q;
        after_is = later;
        counts = counted p q (nothing_at log_entry a b) (full_at log_entry a b) (looks_rise looks p q led)
            (λ e. nothing_looked n a.run mid b.run p q aside at later log_entry does (sym nothing ∙ e))
            (λ e. full_looked n a.run mid b.run p q aside at later log_entry does (sym full ∙ e));
      }

  pub all_count : (xs : List (Event TheSide)) (a b : CutMoment) (all : AllFollow services jobs xs a b) (p : TheSide) → slice_get a.run.rings n ≡ Some p
      → SideCounts (times services jobs nothing_at xs a b all) (times services jobs full_at xs a b all) n p b
  all_count [] a b all p at = record {
    after = p;
    after_is = ap (λ (x : CutMoment). slice_get x.run.rings n) all ∙ at;
    counts = record { misses = omega arith; loads = omega arith; known = omega arith };
  }
  all_count (x ∷ xs) a b (cut, one, rest) p at =
      let m : CutMoment = moment x.run cut in
      let y = one_counts x.log_entry a m one p at in
      let z = all_count xs m b rest y.after y.after_is in
      record {
        after = z.after;
        after_is = z.after_is;
        counts = counts_then (one_if (nothing_at x.log_entry a m)) (one_if (full_at x.log_entry a m)) (times services jobs nothing_at xs m b rest) (times services jobs full_at xs m b rest)
            p y.after z.after y.counts z.counts;
      }
