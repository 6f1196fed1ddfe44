-- A look of one of the cores at what stands first on a link, by which the core stays as it was, with something behind it: where
-- that is what the world's forward makes of what was seen, the two are the machine's forward.
use Rattle.std.proofs.Common.{◌≡◌, ◌⊎◌, inl, inr, sym, ◌∙◌, ap, subst, ℕ, List, length, slice_get, slice_set, Option, Some}
use Rattle.std.specs.Prelude.{Result}
use Rattle.fl_base.specs.declared.identity.LinkId.{LinkId}
use Rattle.fl_hop.proofs.Lists.{set_cases, set_here}
use Rattle.fl_ring.specs.Side.{SideTakes}
use Rattle.fl_ring.specs.SharedSides.{TheSide, SharedTakes}
use Rattle.fl_ring.specs.SharedSeats.{front_seen}
use Rattle.fl_ring.specs.declared.one_duo.WhichSide.{WhichSide}
use Rattle.fl_core.specs.declared.answer.LinkFront.{LinkFront}
use Rattle.fl_core.specs.declared.fault.LinkReceiveFault.{LinkReceiveFault}
use Rattle.fl_core.specs.declared.core_job.CoreJob.{CoreJob}
use Rattle.fl_core.specs.Ends.{at_side}
use Rattle.fl_core.specs.Links.{LooksAhead}
use Rattle.fl_core.specs.Numbers.{renumbered}
use Rattle.fl_core.specs.View.{side_of_link}
use Rattle.fl_core_run.specs.Run.{TheRun}
use Rattle.fl_core_run.specs.LogEntries.{LogEntry, looked}
use Rattle.fl_model.specs.Events.{forward, Answer}
use Rattle.fl_model.specs.State.{State}
use Rattle.fl_world_refines.specs.View.{Given, TheWorld, IsWhole, ring_at}
use Rattle.fl_world_refines.specs.Lending.{Refuses, IsStray, front_for}
use Rattle.fl_world_refines.specs.Linking.{LinkNumbers, link_side_to, LooksWith, ForwardsBy, ForwardsFirst, Forwards}
use Rattle.fl_world_refines.specs.Laws.{StepsAgree}
use Rattle.fl_world_refines.proofs.FramesBase.{same_some}
use Rattle.fl_cores_joined.specs.Rings.{FacingSide, Truly}
use Rattle.fl_cores_joined.specs.Joined.{JoinedCore, IsJoined, AreWhole}
use Rattle.fl_cores_joined.specs.Steps.{HappensAt, neighbour_on}
use Rattle.fl_cores_joined.specs.Laws.{TheyShow, MachineDoes}
use Rattle.fl_cores_joined.proofs.Linking.{side_lent, across, side_found}
use Rattle.fl_cores_joined.proofs.Stepping.{begun, begun_is, ended, ended_all, there_is, finish, lent_side, IsGood}
use Rattle.fl_cores_joined.proofs.Over.{ring_over, OverRing}

-- core n looked over side i, and found this; over the ring, and under the world's numbers, it found that
pub record Behind (jobs : List CoreJob) (n i : ℕ) (l : LinkId) (found there : Result LinkFront LinkReceiveFault) (xs ms : List JoinedCore) (s : State)
    (h : HappensAt jobs n (looked i l found) xs ms) : Type 0 where
  pub show : TheyShow xs s
  pub whole : AreWhole xs
  pub stays : h.happens.0.core ≡ h.beside.core
  pub lifts : (which : WhichSide) (p q : FacingSide) → IsGood p.across p
      → LooksAhead (Truly SharedTakes) (λ (z : FacingSide). front_seen z.side.peeked) l.0 (at_side h.beside.core p) found (at_side h.happens.0.core q)
      → LooksAhead SideTakes front_for l.0 (at_side (renumbered h.before.sides h.before.queues h.beside.core) (lent_side which p)) there
      (at_side (renumbered h.before.sides h.before.queues h.happens.0.core) (lent_side which q)) × IsGood p.across q

module _ {jobs : List CoreJob} {n i : ℕ} {l : LinkId} {found there : Result LinkFront LinkReceiveFault} {xs ms : List JoinedCore} {s : State}
    {h : HappensAt jobs n (looked i l found) xs ms} (b : Behind jobs n i l found there xs ms s h) where
  abbrev pub mid : TheRun FacingSide
  mid = h.happens.0

  abbrev pub looker : JoinedCore
  looker = ended jobs n (looked i l found) xs ms h mid

  mid_is : ms ≡ slice_set xs n looker
  mid_is = ended_all jobs n (looked i l found) xs ms h mid h.happens.2

  pub mid_core : IsWhole mid.core
  mid_core = subst IsWhole (sym b.stays) (b.whole n (begun jobs n (looked i l found) xs ms h) (begun_is jobs n (looked i l found) xs ms h))

  pub mid_whole : AreWhole ms
  mid_whole k z at =
      elim (set_cases xs n looker k z (ap (λ (c : List JoinedCore). slice_get c k) (sym mid_is) ∙ at)) [
        | inl (place, same) ↦ subst (λ (c : JoinedCore). IsWhole c.run.core) (sym same) mid_core
        | inr (other, was) ↦ b.whole k z was
      ]

  pub seen : OverRing b.show.world jobs n (looked i l found) xs ms h b.show.joined b.whole mid mid_core i (LooksWith l.0 there)
  seen =
      ring_over b.show.world jobs n (looked i l found) xs ms h b.show.joined b.whole mid mid_core i
      (λ k p k2 q. LooksAhead (Truly SharedTakes) (λ (z : FacingSide). front_seen z.side.peeked) l.0 (at_side k p) found (at_side k2 q))
      (LooksWith l.0 there) b.lifts h.happens.1

  pub mid_joined : IsJoined seen.world ms
  mid_joined = subst (IsJoined seen.world) (sym mid_is) seen.they_make

  -- the core as it stands then
  pub same_core : (c : JoinedCore) → slice_get ms n ≡ Some c → c ≡ looker
  same_core c at =
      same_some (slice_get ms n) c looker at
      (ap (λ (l : List JoinedCore). slice_get l n) mid_is ∙ set_here xs n h.before looker h.before_is)

  pub same_number : (c : JoinedCore) → slice_get ms n ≡ Some c → (number : ℕ) → slice_get c.sides i ≡ Some number → number ≡ seen.number
  same_number c at number is =
      same_some (slice_get h.before.sides i) number seen.number (ap (λ (z : JoinedCore). slice_get z.sides i) (sym (same_core c at)) ∙ is) seen.number_is

  -- the world finds the link there
  pub places : link_side_to b.show.world n (neighbour_on h.beside.core l) ≡ Some (record { link = l.0; side = seen.number })
  places =
      let sound = h.happens.3 in
      let side = side_lent (side_of_link h.beside.core.link_sides l.0) i (length h.beside.rings) h.in_place in
      side_found b.show.world s n (begun jobs n (looked i l found) xs ms h) l i seen.number b.show.shows
      (there_is jobs n (looked i l found) xs ms h b.show.world b.show.joined)
      (across h.beside.core l i sound.core sound.table side) side seen.number_is

  module _ (law : StepsAgree) (ys : List JoinedCore) (log_entry : LogEntry) (g : HappensAt jobs n log_entry ms ys) (last : TheRun FacingSide)
      (noted : g.after ≡ record last { progresses = g.after.progresses }) (w2 : TheWorld) (joined : IsJoined w2 (slice_set ms n (ended jobs n log_entry ms ys g last)))
      (answer : Answer) (kept : length w2.bindings ≡ length b.show.world.bindings) where
    pub forward_is : ForwardsBy there n (record { link = l.0; side = seen.number }) seen.world answer w2
        → MachineDoes (forward n (neighbour_on h.before.run.core l)) answer s ys
    forward_is follows =
        let does : Forwards n (neighbour_on h.beside.core l) b.show.world answer w2 =
        subst (λ (o : Option LinkNumbers). Given o (Refuses 73 b.show.world answer w2) (λ z.
        ForwardsFirst n z b.show.world answer w2 ⊎ IsStray b.show.world.rings (ring_at z.side) b.show.world answer w2))
        (sym places) (inl (record { ahead = there; looked = seen.world; looks = seen.over; follows = follows })) in
        subst (λ (c : ℕ). MachineDoes (forward n c) answer s ys) (ap (λ (t : TheRun TheSide). neighbour_on t.core l) h.beside_is.own)
        (finish jobs n log_entry ms ys g law (forward n (neighbour_on h.beside.core l)) answer s b.show.world w2 last b.show.shows noted joined kept does)
