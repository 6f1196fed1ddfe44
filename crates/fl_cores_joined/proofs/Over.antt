-- What one of the cores does over a side, over a queue or by itself, it does in the world that all of them make; and they
-- make the world that it leaves.
use Rattle.std.proofs.Common.{◌≡◌, refl, sym, ◌∙◌, ap, ℕ, List, length, map, slice_get, slice_set, Some, arith}
use Rattle.fl_hop.proofs.Lists.{within, at_within}
use Rattle.fl_link.specs.Queue.{TheQueue}
use Rattle.fl_ring.specs.SharedSides.{TheSide}
use Rattle.fl_ring.specs.declared.duo_side.DuoSide.{DuoSide}
use Rattle.fl_ring.specs.declared.one_duo.WhichSide.{WhichSide}
use Rattle.fl_core.specs.View.{TheCore}
use Rattle.fl_core.specs.declared.core_job.CoreJob.{CoreJob}
use Rattle.fl_core.proofs.Numbering.{goes_to}
use Rattle.fl_core_run.specs.Run.{TheRun}
use Rattle.fl_core_run.specs.LogEntries.{LogEntry, OnRing, OnQueue, OnCore}
use Rattle.fl_world_refines.specs.View.{TheWorld, IsWhole, ring_at, which_at, with_core, with_ring, with_queue}
use Rattle.fl_world_refines.specs.Lending.{AtCore, OverQueue, OverSide}
use Rattle.fl_cores_joined.specs.Rings.{FacingSide, ring_by}
use Rattle.fl_cores_joined.specs.Joined.{JoinedCore, in_world, IsJoined, AreWhole, alone}
use Rattle.fl_cores_joined.specs.Steps.{HappensAt}
use Rattle.fl_cores_joined.proofs.Renumbered.{still_whole}
use Rattle.fl_cores_joined.proofs.Joining.{map_set, long_set, Lent, lent, core_joined, queue_joined, ring_joined}
use Rattle.fl_cores_joined.proofs.Stepping.{begun, begun_is, begun_beside, ended, there_is, there_whole, lent_side, IsGood}

-- the sides alone
abbrev pub own_sides : List FacingSide → List TheSide
own_sides ps = map (λ (p : FacingSide). p.side) ps

module _ (w : TheWorld) (jobs : List CoreJob) (n : ℕ) (log_entry : LogEntry) (xs ys : List JoinedCore) (h : HappensAt jobs n log_entry xs ys)
    (joined : IsJoined w xs) (whole : AreWhole xs) (m : TheRun FacingSide) (whole_then : IsWhole m.core) where
  abbrev first : JoinedCore
  first = begun jobs n log_entry xs ys h

  abbrev last : JoinedCore
  last = ended jobs n log_entry xs ys h m

  first_is : slice_get xs n ≡ Some first
  first_is = begun_is jobs n log_entry xs ys h

  -- ---- over a side

  abbrev ring_left : ℕ → FacingSide → TheWorld
  ring_left number q = with_ring (with_core w n (in_world last)) (ring_at number) (ring_by (which_at number) q)

  pub record OverRing (i : ℕ) (Event : TheCore → DuoSide → TheCore → DuoSide → Type 0) : Type 0 where
    pub number : ℕ
    pub number_is : slice_get first.sides i ≡ Some number
    pub world : TheWorld
    pub bindings : length world.bindings ≡ length w.bindings
    pub they_make : IsJoined world (slice_set xs n last)
    pub over : OverSide w n number Event world

  -- where what is done by steps that find what stands there is done on the ring
  pub ring_over : (i : ℕ) (Event : TheCore → FacingSide → TheCore → FacingSide → Type 0) (Event2 : TheCore → DuoSide → TheCore → DuoSide → Type 0)
      → ((which : WhichSide) (p q : FacingSide) → IsGood p.across p → Event h.beside.core p m.core q
      → Event2 (in_world first) (lent_side which p) (in_world last) (lent_side which q) × IsGood p.across q)
      → OnRing i h.beside Event m → OverRing i Event2
  ring_over i Event Event2 lifts on = record { number = l.number; number_is = l.number_is; world = ring_left l.number on.after; bindings = refl; they_make = then_joined; over = over }
    where
      l : Lent w xs n first i on.before
      l = lent w xs n first h.beside i on.before joined first_is (begun_beside jobs n log_entry xs ys h) on.before_is

      lifted : Event2 (in_world first) (lent_side (which_at l.number) on.before) (in_world last) (lent_side (which_at l.number) on.after)
          × IsGood on.before.across on.after
      lifted = lifts (which_at l.number) on.before on.after (l.facing, refl) on.event

      sides : own_sides m.rings ≡ slice_set (own_sides h.beside.rings) i on.after.side
      sides = ap (λ (t : TheRun FacingSide). own_sides t.rings) on.rest ∙ map_set (λ (p : FacingSide). p.side) h.beside.rings i on.after

      then_joined : IsJoined (ring_left l.number on.after) (slice_set xs n last)
      then_joined =
          ring_joined w xs joined n first first_is (alone m) (ap length sides ∙ long_set (own_sides h.beside.rings) i on.after.side)
          (ap (λ (t : TheRun FacingSide). length t.queues) on.rest) (ap (λ (t : TheRun FacingSide). t.offers) on.rest)
          i l.number on.before on.after l.number_is (goes_to (λ (p : FacingSide). p.side) h.beside.rings i on.before on.before_is)
          l.across lifted.1.0 lifted.1.1 sides (ap (λ (t : TheRun FacingSide). t.queues) on.rest)

      over : OverSide w n l.number Event2 (ring_left l.number on.after)
      over = record {
        before = in_world first;
        before_is = there_is jobs n log_entry xs ys h w joined;
        whole = there_whole jobs n log_entry xs ys h whole;
        ring = l.ring;
        ring_is = l.ring_is;
        side = lent_side (which_at l.number) on.before;
        lent = record { ring = sym l.made; which = refl };
        after = in_world last;
        still = still_whole first.sides first.queues m.core whole_then;
        left = lent_side (which_at l.number) on.after;
        event = lifted.0;
        rest = refl;
      }

  -- ---- over a queue

  abbrev queue_left : ℕ → TheQueue → TheWorld
  queue_left number q = with_queue (with_core w n (in_world last)) number q

  pub record OverLocal (i : ℕ) (Event : TheCore → TheQueue → TheCore → TheQueue → Type 0) : Type 0 where
    pub number : ℕ
    pub number_is : slice_get first.queues i ≡ Some number
    pub world : TheWorld
    pub bindings : length world.bindings ≡ length w.bindings
    pub they_make : IsJoined world (slice_set xs n last)
    pub over : OverQueue w n number Event world

  pub queue_over : (i : ℕ) (Event : TheCore → TheQueue → TheCore → TheQueue → Type 0) (Event2 : TheCore → TheQueue → TheCore → TheQueue → Type 0)
      → ((p q : TheQueue) → Event h.beside.core p m.core q → Event2 (in_world first) p (in_world last) q)
      → OnQueue i h.beside Event m → OverLocal i Event2
  queue_over i Event Event2 lifts on = record { number = numbers.0; number_is = numbers.1; world = queue_left numbers.0 on.after; bindings = refl; they_make = then_joined; over = over }
    where
      numbers : (k : ℕ) × (slice_get first.queues i ≡ Some k)
      numbers =
          let less = within h.beside.queues i on.before on.before_is in
          let all = joined.numbered.queues n first first_is in
          at_within first.queues i (omega (arith, less, all))

      queues : m.queues ≡ slice_set h.beside.queues i on.after
      queues = ap (λ (t : TheRun FacingSide). t.queues) on.rest

      then_joined : IsJoined (queue_left numbers.0 on.after) (slice_set xs n last)
      then_joined =
          queue_joined w xs joined n first first_is (alone m) (ap (λ (t : TheRun FacingSide). length (own_sides t.rings)) on.rest)
          (ap length queues ∙ long_set h.beside.queues i on.after) (ap (λ (t : TheRun FacingSide). t.offers) on.rest) i numbers.0 on.before on.after
          numbers.1 on.before_is (ap (λ (t : TheRun FacingSide). own_sides t.rings) on.rest) queues

      over : OverQueue w n numbers.0 Event2 (queue_left numbers.0 on.after)
      over = record {
        before = in_world first;
        before_is = there_is jobs n log_entry xs ys h w joined;
        whole = there_whole jobs n log_entry xs ys h whole;
        queue = on.before;
        queue_is = joined.queues numbers.0 on.before
            (record { core = n; at = first; at_is = first_is; place = i; number_is = numbers.1; queue_is = on.before_is });
        after = in_world last;
        still = still_whole first.sides first.queues m.core whole_then;
        left = on.after;
        event = lifts on.before on.after on.event;
        rest = refl;
      }

  -- ---- by itself

  pub record OverNone (Event : TheCore → TheCore → Type 0) : Type 0 where
    pub world : TheWorld
    pub bindings : length world.bindings ≡ length w.bindings
    pub they_make : IsJoined world (slice_set xs n last)
    pub over : AtCore w n Event world

  pub core_over : (Event Event2 : TheCore → TheCore → Type 0) → (Event h.beside.core m.core → Event2 (in_world first) (in_world last))
      → OnCore h.beside Event m → OverNone Event2
  core_over Event Event2 lifts on = record {
    world = with_core w n (in_world last);
    bindings = refl;
    they_make =
        core_joined w xs joined n first first_is (alone m) (ap (λ (t : TheRun FacingSide). length (own_sides t.rings)) on.rest)
        (ap (λ (t : TheRun FacingSide). length t.queues) on.rest) (ap (λ (t : TheRun FacingSide). t.offers) on.rest)
        (ap (λ (t : TheRun FacingSide). own_sides t.rings) on.rest) (ap (λ (t : TheRun FacingSide). t.queues) on.rest);
    over = record {
      before = in_world first;
      before_is = there_is jobs n log_entry xs ys h w joined;
      whole = there_whole jobs n log_entry xs ys h whole;
      after = in_world last;
      still = still_whole first.sides first.queues m.core whole_then;
      event = lifts on.event;
      rest = refl;
    };
  }
