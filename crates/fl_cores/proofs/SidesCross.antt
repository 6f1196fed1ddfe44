-- Of each ring, wherever its sides are: new at the start, and put together again in the end.
use Rattle.std.proofs.Common.{◌≡◌, sym, ap, ◌∙◌, subst, ℕ, ◌+◌, ◌*◌, ◌<◌, List, length, slice_get, Some, arith}
use Rattle.fl_ring.specs.SharedSides.{TheSide}
use Rattle.fl_core.proofs.BoardPlaces.{one_stands}
use Rattle.fl_core.specs.Numbers.{moved}
use Rattle.fl_core.proofs.Numbering.{goes_to}
use Rattle.fl_core.specs.declared.core_job.CoreJob.{CoreJob}
use Rattle.fl_core_run.specs.Run.{TheRun}
use Rattle.fl_core_run_laws.specs.Logs.{LogsLook}
use Rattle.fl_world_refines.specs.declared.parts.Parts.{Parts}
use Rattle.fl_cores_shares.specs.Shares.{Holdings, AreHandedOut}
use Rattle.fl_cores_shares.specs.Settled.{TwoSides, sides_of, Each, IsNear, HandedOutGoOn}
use Rattle.fl_cores_laws.specs.Cores.{shared_ways, OneCore}
use Rattle.fl_cores_laws.specs.Crossing.{Crosses}
use Rattle.fl_cores_fork.specs.Runs.{TheFinishedCore, sides_left, TheCoreThread}
use Rattle.fl_cores_parts.specs.Begins.{Places}
use Rattle.fl_cores_parts.specs.Shares.{sides_given, Shares}
use Rattle.fl_cores.specs.Runs.{AreRuns}
use Rattle.fl_cores.proofs.Runs.{run_at}
use Rattle.fl_cores.proofs.SidesPlaces.{there_is, in_holding_moved}
use Rattle.fl_cores.proofs.SidesPairs.{side_one, side_two, each_at, new_ring, by_twos}
use Rattle.fl_cores.proofs.SidesGo.{holdings_went}

-- what the laws below say of sides that were handed out, and of a core's
pub record SideLaws : Type 0 where
  pub handed_out : HandedOutGoOn
  pub look : LogsLook shared_ways

-- rings in the end, whose sides are in these hands
pub record LeftRings (owners : List ℕ) (holdings : Holdings TheSide) (many : ℕ) : Type 0 where
  pub pairs : List TwoSides
  pub count : length pairs ≡ many
  pub handed_out : AreHandedOut owners (sides_of pairs) holdings
  pub near : Each IsNear pairs

module _ (l : SideLaws) (p : Parts) (at : Places) (jobs : List CoreJob) (core_threads : List TheCoreThread) (outcomes : List TheFinishedCore) (cores : List OneCore)
    (shares : Shares p at core_threads outcomes) (runs : AreRuns jobs core_threads outcomes cores) where
  left_rings : LeftRings shares.side_owners (sides_left outcomes) (length p.rings.items)
  left_rings =
      let (sides2, dealt2, went) =
      l.handed_out shares.side_owners (sides_of shares.pairs) (sides_given core_threads) (sides_left outcomes) shares.sides.handed_out
      (holdings_went l.look jobs core_threads outcomes cores runs) in
      let twos = by_twos (length p.rings.items) sides2 (dealt2.count ∙ shares.sides_named.count) in
      let handed_out : AreHandedOut shares.side_owners (sides_of twos.pairs) (sides_left outcomes) =
      subst (λ (sides : List TheSide). AreHandedOut shares.side_owners sides (sides_left outcomes)) (sym twos.same) dealt2 in
      record { pairs = twos.pairs; count = twos.count; handed_out = handed_out; near = shares.near twos.pairs handed_out }

  -- a side stands at its place at the core whose it is, at the start and in the end
  at_start : (number n : ℕ) (c : OneCore) (side : TheSide) → slice_get shares.side_owners number ≡ Some n → slice_get cores n ≡ Some c
      → slice_get (sides_of shares.pairs) number ≡ Some side → slice_get c.start.rings (moved at.sides number) ≡ Some side
  at_start number n c side owner c_is side_is =
      let r = run_at jobs core_threads outcomes cores runs n c c_is in
      ap (λ (t : TheRun TheSide). slice_get t.rings (moved at.sides number)) r.is.start
      ∙ in_holding_moved shares.side_owners at.sides (sides_of shares.pairs) (sides_given core_threads) number n side r.core_thread.run.rings
      shares.sides.counted shares.sides.handed_out owner side_is (goes_to (λ (s : TheCoreThread). s.run.rings) core_threads n r.core_thread r.core_thread_is)

  at_end : (left : LeftRings shares.side_owners (sides_left outcomes) (length p.rings.items)) (number n : ℕ) (c : OneCore) (side : TheSide)
      → slice_get shares.side_owners number ≡ Some n → slice_get cores n ≡ Some c
      → slice_get (sides_of left.pairs) number ≡ Some side → slice_get c.finish.rings (moved at.sides number) ≡ Some side
  at_end left number n c side owner c_is side_is =
      let r = run_at jobs core_threads outcomes cores runs n c c_is in
      ap (λ (t : TheRun TheSide). slice_get t.rings (moved at.sides number)) r.is.finish
      ∙ in_holding_moved shares.side_owners at.sides (sides_of left.pairs) (sides_left outcomes) number n side r.outcome.run.rings
      shares.sides.counted left.handed_out owner side_is (goes_to (λ (o : TheFinishedCore). o.run.rings) outcomes n r.outcome r.outcome_is)

  -- ring r, whose sides are core n's and core m's
  pub ring_crosses : (r n m : ℕ) (c d : OneCore) → r < length p.rings.items
      → slice_get shares.side_owners (2 * r) ≡ Some n → slice_get shares.side_owners (2 * r + 1) ≡ Some m → slice_get cores n ≡ Some c → slice_get cores m ≡ Some d
      → Crosses c.start.rings c.finish.rings d.start.rings d.finish.rings (moved at.sides (2 * r)) (moved at.sides (2 * r + 1))
  ring_crosses r n m c d below owner_n owner_m c_is d_is =
      let new = new_ring p.rings.items shares.pairs r shares.new below in
      let left = left_rings in
      let many = left.count in
      let (x, x_is) = there_is left.pairs r (omega (arith, below, many)) in
      record {
        size = new.ring.size;
        one = new.pair.one;
        one_is = at_start (2 * r) n c new.pair.one owner_n c_is (side_one shares.pairs r new.pair new.pair_is);
        two = new.pair.two;
        two_is = at_start (2 * r + 1) m d new.pair.two owner_m d_is (side_two shares.pairs r new.pair new.pair_is);
        new = new.new;
        near = λ a b a_is b_is.
            let one : x.one ≡ a =
            one_stands c.finish.rings (moved at.sides (2 * r)) x.one a (at_end left (2 * r) n c x.one owner_n c_is (side_one left.pairs r x x_is)) a_is in
            let two : x.two ≡ b =
            one_stands d.finish.rings (moved at.sides (2 * r + 1)) x.two b (at_end left (2 * r + 1) m d x.two owner_m d_is (side_two left.pairs r x x_is)) b_is in
            let near : IsNear x = each_at IsNear left.pairs r x left.near x_is in
            subst (λ (s : TheSide). let u : TwoSides = record { one = a; two = s } in IsNear u) two
            (subst (λ (s : TheSide). let u : TwoSides = record { one = s; two = x.two } in IsNear u) one near);
      }
