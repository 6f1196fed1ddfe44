-- What one of the cores does on a link is the machine's: its monitor writes, and what was read is told.
use Rattle.std.proofs.Common.{◌≡◌, ◌⊎◌, inl, refl, sym, ◌∙◌, ap, subst, ℕ, ◌<◌, nat_lt, Bool, true, false, if◌then◌else◌, List, length, slice_get, Option, Some, None, arith}
use Rattle.fl_base.specs.declared.identity.LinkId.{LinkId}
use Rattle.fl_base.specs.Given.{given}
use Rattle.fl_hop.proofs.Lists.{within, at_within}
use Rattle.fl_hop.specs.declared.links.LinkState.{LinkState}
use Rattle.fl_hop.specs.Table.{TheCircuits, link_of}
use Rattle.fl_hop.specs.Joined.{Sound as IsTable}
use Rattle.fl_link.specs.Looks.{Look}
use Rattle.fl_ring.specs.Side.{SidePuts, SideTakes}
use Rattle.fl_ring.specs.SharedSides.{TheSide, SharedPuts, SharedTakes}
use Rattle.fl_core.specs.declared.turn_answer.AckAnswer.{AckAnswer}
use Rattle.fl_core.specs.declared.answer.MonitorWrite.{MonitorWrite}
use Rattle.fl_core.specs.declared.answer.MonitorWrite.TheVariants as write
use Rattle.fl_core.specs.declared.wiring.LinkSide.{LinkSide}
use Rattle.fl_core.specs.declared.core_job.CoreJob.{CoreJob}
use Rattle.fl_core.specs.Ends.{at_side}
use Rattle.fl_core.specs.Links.{MonitorWrites, Acknowledges}
use Rattle.fl_core.specs.Numbers.{moved, renumbered}
use Rattle.fl_core.specs.Sound.{IsCore}
use Rattle.fl_core.specs.View.{TheCore, side_of_link}
use Rattle.fl_core_run.specs.Run.{TheRun}
use Rattle.fl_core_run.specs.LogEntries.{LogEntry, said, told}
use Rattle.fl_model.specs.Events.{monitor_write, monitor_ack}
use Rattle.fl_model.specs.Monitors.{Core, link_to}
use Rattle.fl_model.specs.State.{State, link_between}
use Rattle.fl_model_laws.proofs.CoresKept.{link_place}
use Rattle.fl_world_refines.specs.View.{Given, TheWorld, ring_at, side_number}
use Rattle.fl_world_refines.specs.ShowsState.{Shows}
use Rattle.fl_world_refines.specs.Lending.{Refuses, OverSide, IsStray}
use Rattle.fl_world_refines.specs.Linking.{LinkNumbers, link_side_to, write_answer, ack_answer, MonitorWritesWith, WritesMessage, AcksLinkWith, AcksLink}
use Rattle.fl_world_refines.specs.Laws.{StepsAgree}
use Rattle.fl_world_refines.proofs.FramesBase.{gets, same_some, not_both}
use Rattle.fl_world_refines.proofs.PassingLinkSides.{LinkSides, no_link_side, one_link_side, link_sides, link_side_side}
use Rattle.fl_cores_joined.specs.Rings.{Truly}
use Rattle.fl_cores_joined.specs.Joined.{JoinedCore, in_world, AreWhole}
use Rattle.fl_cores_joined.specs.Steps.{HappensAt, neighbour_on}
use Rattle.fl_cores_joined.specs.Laws.{TheyShow, MachineDoes, IsTheMachinesOnLink}
use Rattle.fl_cores_joined.proofs.Mapped.{monitor_writes, acknowledges}
use Rattle.fl_cores_joined.proofs.Renumbered.{side_moved}
use Rattle.fl_cores_joined.proofs.Joining.{moved_to}
use Rattle.fl_cores_joined.proofs.Stepping.{begun, ended_whole, there_is, finish, lent_side, nothing_noted, IsGood, puts_map, takes_map}
use Rattle.fl_cores_joined.proofs.Over.{ring_over}

-- ---- the side of a link

pub side_lent : (o : Option ℕ) (i most : ℕ) → (given o None λ n. if nat_lt n most then Some n else None) ≡ Some i → o ≡ Some i
side_lent None i most h = absurd (cc)
side_lent (Some n) i most h = by (nat_lt n most) h
  where
    by : (b : Bool) → (if b then Some n else None) ≡ Some i → Some n ≡ Some i
    by true q = q
    by false q = absurd (cc)

link_there : (k : TheCore) (l i : ℕ) → side_of_link k.link_sides l ≡ Some i → l < length k.link_sides
link_there k l i h = by (slice_get k.link_sides l) refl h
  where
    by : (o : Option LinkSide) → slice_get k.link_sides l ≡ o → given o None (λ x. Some x.side) ≡ Some i → l < length k.link_sides
    by None q e = absurd (cc)
    by (Some x) q e = within k.link_sides l x q

-- the core across, by the core's own table
pub record Across (k : TheCore) (l : LinkId) : Type 0 where
  pub link : LinkState
  pub link_is : slice_get k.monitor.circuits.links l.0 ≡ Some link
  pub neighbour : neighbour_on k l ≡ link.neighbour.0
  pub leads : link_of k.monitor.circuits (neighbour_on k l) ≡ Some l.0

pub across : (k : TheCore) (l : LinkId) (i : ℕ) → IsCore k → IsTable k.monitor.circuits → side_of_link k.link_sides l.0 ≡ Some i → Across k l
across k l i core table side =
    let less = link_there k l.0 i side in
    let long = core.link_sides in
    let (a, a_is) = at_within k.monitor.circuits.links l.0 (omega (arith, less, long)) in
    let neighbour : neighbour_on k l ≡ a.neighbour.0 = ap (λ (o : Option LinkState). given o 0 λ (x : LinkState). x.neighbour.0) a_is in
    record {
      link = a;
      link_is = a_is;
      neighbour = neighbour;
      leads = ap (link_of k.monitor.circuits) neighbour ∙ link_place k.monitor.circuits l.0 a table a_is;
    }

-- the world finds that link, over the side of this number
module _ (w : TheWorld) (s : State) (n : ℕ) (x : JoinedCore) (l : LinkId) where
  abbrev c : ℕ
  c = neighbour_on x.run.core l

  pub side_found : (i number : ℕ) → Shows w s → slice_get w.cores n ≡ Some (in_world x)
      → Across x.run.core l → side_of_link x.run.core.link_sides l.0 ≡ Some i → slice_get x.sides i ≡ Some number
      → link_side_to w n (neighbour_on x.run.core l) ≡ Some (record { link = l.0; side = number })
  side_found i number shows core_is a side number_is = by (link_sides w s shows n c)
    where
      moved_side : side_of_link (in_world x).link_sides l.0 ≡ Some number
      moved_side =
          side_moved x.sides x.queues x.run.core l.0 ∙ ap (λ (o : Option ℕ). given o None λ j. Some (moved x.sides j)) side
          ∙ ap (λ (j : ℕ). Some j) (moved_to x.sides i number number_is)

      by : LinkSides w s n c → link_side_to w n c ≡ Some (record { link = l.0; side = number })
      by (no_link_side none ends between) =
          let (k, k_is) = gets w.cores s.cores n (in_world x) (sym shows.showing.cores.count) core_is in
          let it = shows.showing.cores.each n k (in_world x) k_is core_is in
          let to : link_to c k ≡ Some l.0 = ap (λ (t : TheCircuits). link_of t c) (sym it.monitor.circuits) ∙ a.leads in
          let stands = shows.sound.cores n k k_is in
          let less = within x.run.core.monitor.circuits.links l.0 a.link a.link_is in
          let same : length x.run.core.monitor.circuits.links ≡ length k.circuits.links = ap (λ (t : TheCircuits). length t.links) it.monitor.circuits in
          let long = stands.links in
          let (link, link_is) = at_within k.links l.0 (omega (arith, less, same, long)) in
          let found : link_between s n c ≡ Some link =
          ap (λ (o : Option Core). given o None λ j. given (link_to c j) None λ m. slice_get j.links m) k_is
          ∙ ap (λ (o : Option ℕ). given o None λ m. slice_get k.links m) to ∙ link_is in
          not_both (link_between s n c) link between found
      by (one_link_side m link found t) =
          let core : t.c ≡ in_world x = same_some (slice_get w.cores n) t.c (in_world x) t.c_is core_is in
          let table : t.k.circuits ≡ x.run.core.monitor.circuits = sym t.shows.monitor.circuits ∙ ap (λ (z : TheCore). z.monitor.circuits) core in
          let places : m ≡ l.0 = same_some (link_to c t.k) m l.0 t.to (ap (λ (z : TheCircuits). link_of z c) table ∙ a.leads) in
          let its : side_of_link (in_world x).link_sides l.0 ≡ Some (side_number link.ring) =
          ap (side_of_link (in_world x).link_sides) (sym places) ∙ ap (λ (z : TheCore). side_of_link z.link_sides m) (sym core)
          ∙ link_side_side t.k t.c m link t.shows t.link_is in
          let numbers = same_some (side_of_link (in_world x).link_sides l.0) (side_number link.ring) number its moved_side in
          found ∙ (λ j. Some (record { link = places j; side = numbers j }))

-- ---- a monitor writes

renumbered_says : {P : Type 0} (puts : P → Look → P → Type 0) (sides queues : List ℕ) (l : ℕ) (k k2 : TheCore) (p q : P) (r : MonitorWrite)
    → MonitorWrites puts l (at_side k p) r (at_side k2 q)
    → MonitorWrites puts l (at_side (renumbered sides queues k) p) r (at_side (renumbered sides queues k2) q)
renumbered_says puts sides queues l k k2 p q write.Written (f, rest, w, put, e) = (f, rest, w, put, ap (renumbered sides queues) e)
renumbered_says puts sides queues l k k2 p q write.Full (some, put, e) = (some, put, ap (renumbered sides queues) e)
renumbered_says puts sides queues l k k2 p q write.Spent (some, put, e) = (some, put, ap (renumbered sides queues) e)
renumbered_says puts sides queues l k k2 p q write.Nothing (none, e, same) = (none, ap (renumbered sides queues) e, same)

module _ (law : StepsAgree) (n i : ℕ) (l : LinkId) (jobs : List CoreJob) (xs ys : List JoinedCore) (s : State) (show : TheyShow xs s) (whole : AreWhole xs)
    (still : AreWhole ys) where
  -- to the core across, as the core's table has it
  neighbour_is : (log_entry : LogEntry) (h : HappensAt jobs n log_entry xs ys) → neighbour_on h.beside.core l ≡ neighbour_on h.before.run.core l
  neighbour_is log_entry h = ap (λ (t : TheRun TheSide). neighbour_on t.core l) h.beside_is.own

  abbrev w : TheWorld
  w = show.world

  pub says_so : (answer : MonitorWrite) (h : HappensAt jobs n (said i l answer) xs ys)
      → MachineDoes (monitor_write n (neighbour_on h.before.run.core l)) (write_answer answer) s ys
  says_so answer h =
      let (m, on, same, sound, acts, known) = h.happens in
      let noted = nothing_noted h.after m same in
      let x = begun jobs n (said i l answer) xs ys h in
      let it = ring_over w jobs n (said i l answer) xs ys h show.joined whole m
      (ended_whole jobs n (said i l answer) xs ys h m noted still) i
      (λ k p k2 q. MonitorWrites (Truly SharedPuts) l.0 (at_side k p) answer (at_side k2 q))
      (MonitorWritesWith l.0 (write_answer answer))
      (λ which p q good event.
      let k = monitor_writes (IsGood p.across) (lent_side which) (Truly SharedPuts) SidePuts (puts_map which p.across) l.0 h.beside.core m.core p q answer
      good event in
      ((answer, renumbered_says SidePuts x.sides x.queues l.0 h.beside.core m.core (lent_side which p) (lent_side which q) answer k.0, refl), k.1))
      on in
      let core_is = there_is jobs n (said i l answer) xs ys h w show.joined in
      let side = side_lent (side_of_link h.beside.core.link_sides l.0) i (length h.beside.rings) h.in_place in
      let found = side_found w s n x l i it.number show.shows core_is (across h.beside.core l i sound.core sound.table side) side it.number_is in
      let does : WritesMessage n (neighbour_on h.beside.core l) w (write_answer answer) it.world =
      subst (λ (o : Option LinkNumbers). Given o (Refuses 73 w (write_answer answer) it.world) (λ at.
      OverSide w n at.side (MonitorWritesWith at.link (write_answer answer)) it.world ⊎ IsStray w.rings (ring_at at.side) w (write_answer answer) it.world))
      (sym found) (inl it.over) in
      subst (λ (c : ℕ). MachineDoes (monitor_write n c) (write_answer answer) s ys) (neighbour_is (said i l answer) h)
      (finish jobs n (said i l answer) xs ys h law (monitor_write n (neighbour_on h.beside.core l)) (write_answer answer) s w it.world m show.shows noted it.they_make it.bindings
      does)

  pub tells_so : (answer : AckAnswer) (h : HappensAt jobs n (told i l answer) xs ys)
      → MachineDoes (monitor_ack n (neighbour_on h.before.run.core l)) (ack_answer answer) s ys
  tells_so answer h =
      let (m, on, same, sound, acts, known) = h.happens in
      let noted = nothing_noted h.after m same in
      let x = begun jobs n (told i l answer) xs ys h in
      let it = ring_over w jobs n (told i l answer) xs ys h show.joined whole m
      (ended_whole jobs n (told i l answer) xs ys h m noted still) i
      (λ k p k2 q. Acknowledges (Truly SharedTakes) p answer q × (k2 ≡ k))
      (AcksLinkWith (ack_answer answer))
      (λ which p q good event.
      let k = acknowledges (IsGood p.across) (lent_side which) (Truly SharedTakes) SideTakes (takes_map which p.across) p q answer good event.0 in
      ((answer, k.0, ap (renumbered x.sides x.queues) event.1, refl), k.1))
      on in
      let core_is = there_is jobs n (told i l answer) xs ys h w show.joined in
      let side = side_lent (side_of_link h.beside.core.link_sides l.0) i (length h.beside.rings) h.in_place in
      let found = side_found w s n x l i it.number show.shows core_is (across h.beside.core l i sound.core sound.table side) side it.number_is in
      let does : AcksLink n (neighbour_on h.beside.core l) w (ack_answer answer) it.world =
      subst (λ (o : Option LinkNumbers). Given o (Refuses 73 w (ack_answer answer) it.world) (λ at.
      OverSide w n at.side (AcksLinkWith (ack_answer answer)) it.world ⊎ IsStray w.rings (ring_at at.side) w (ack_answer answer) it.world))
      (sym found) (inl it.over) in
      subst (λ (c : ℕ). MachineDoes (monitor_ack n c) (ack_answer answer) s ys) (neighbour_is (told i l answer) h)
      (finish jobs n (told i l answer) xs ys h law (monitor_ack n (neighbour_on h.beside.core l)) (ack_answer answer) s w it.world m show.shows noted it.they_make it.bindings
      does)

pub says_are : StepsAgree → (n i : ℕ) (l : LinkId) (answer : MonitorWrite) → IsTheMachinesOnLink (said i l answer) n l (monitor_write n) (write_answer answer)
says_are law n i l answer jobs xs ys s show whole still h = says_so law n i l jobs xs ys s show whole still answer h

pub tells_are : StepsAgree → (n i : ℕ) (l : LinkId) (answer : AckAnswer) → IsTheMachinesOnLink (told i l answer) n l (monitor_ack n) (ack_answer answer)
tells_are law n i l answer jobs xs ys s show whole still h = tells_so law n i l jobs xs ys s show whole still answer h
