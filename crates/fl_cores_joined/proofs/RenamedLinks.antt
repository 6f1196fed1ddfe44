-- What a core does at a link under other numbers of bindings: its look, an arrival, a monitor's write, and what is told.
use Rattle.std.proofs.Common.{◌≡◌, ◌≢◌, ◌∙◌, ◌<◌, ◌∷◌, [], ℕ, refl, subst, inr, Bool, List, None, Option, Some, ap, drop, false, length, map, option_map, slice_get, suc, sym, true, zero}
use Rattle.fl_base.specs.Control.{bare, circuit_of}
use Rattle.fl_base.specs.Given.{given}
use Rattle.fl_base.specs.declared.fragment.Frag.{Frag}
use Rattle.fl_base.specs.declared.identity.Circuit.{Circuit}
use Rattle.fl_base.specs.declared.identity.EndId.{EndId}
use Rattle.fl_core.specs.BoardView.{TheBoard}
use Rattle.fl_core.specs.Ends.{TriggersIf, at_side}
use Rattle.fl_core.specs.Links.{Acknowledges, ArrivesAt, IsLinkSide, LooksAhead, MonitorWrites}
use Rattle.fl_core.specs.View.{TheCore, arrivals_by, arrivals_of, arriving, arriving_at, place_of, side_of_link, with_arrivals, with_board, with_failed, with_monitor}
use Rattle.fl_core.specs.declared.answer.LinkFront.{LinkFront}
use Rattle.fl_core.specs.declared.answer.MonitorWrite.{MonitorWrite}
use Rattle.fl_core.specs.declared.fault.LinkReceiveFault.{LinkReceiveFault}
use Rattle.fl_core.specs.declared.turn_answer.AckAnswer.{AckAnswer}
use Rattle.fl_core.specs.declared.wiring.EndWiring.{EndWiring}
use Rattle.fl_core.specs.declared.wiring.LinkSide.{LinkSide}
use Rattle.fl_core.specs.declared.wiring.WiredEnd.{WiredEnd}
use Rattle.fl_cores_joined.specs.Rings.{FacingSide, Truly}
use Rattle.fl_hop.specs.Forward.{IsOther, Leaves}
use Rattle.fl_hop.specs.Later.{way_at}
use Rattle.fl_hop.specs.Table.{TheCircuits, hop_at}
use Rattle.fl_hop.specs.declared.entry.HopTarget.{HopTarget}
use Rattle.fl_hop.specs.declared.forward.ForwardOutcome.{ForwardOutcome}
use Rattle.fl_hop.specs.declared.links.LinkState.{LinkState}
use Rattle.fl_link.proofs.Carried.{bare-bare}
use Rattle.fl_link.specs.Queue.{TheQueue}
use Rattle.fl_monitor.specs.Monitors.{TheMonitor, waiting_for}
use Rattle.fl_ring.specs.SharedSeats.{front_seen}
use Rattle.fl_ring.specs.SharedSides.{SharedPuts, SharedTakes}
use Rattle.std.specs.List.{AllZip}
use Rattle.std.specs.Prelude.{Err, Ok, Result}
use Rattle.fl_hop.specs.declared.entry.HopTarget.TheVariants.{Link, End}
use Rattle.fl_hop.specs.declared.forward.ForwardOutcome.TheVariants as outcome
use Rattle.fl_link.specs.Looks.{saw}
use Rattle.fl_core.specs.declared.answer.LinkFront.TheVariants as front
use Rattle.fl_core.specs.declared.answer.MonitorWrite.TheVariants as write
use Rattle.fl_core.specs.declared.fault.LinkReceiveFault.TheVariants as link
use Rattle.fl_core.specs.declared.turn_answer.AckAnswer.TheVariants as ack
use Rattle.fl_core.specs.Links.{reached, inbound}
use Rattle.fl_monitor.specs.Monitors.{without_first}
use Rattle.fl_cores_joined.specs.Renamed.{Renaming, end_under, way_under, hop_under, circuits_under, wired_under, CoreUnder, FragUnder, SaysRenamed}
use Rattle.fl_cores_joined.proofs.RenamedSides.{alike, calls_stay}
use Rattle.fl_cores_joined.proofs.RenamedTable.{way_there, hop_there}
use Rattle.fl_cores_joined.proofs.RenamedSteps.{zip_set, zip_first, zip_none, zip_some, zip_less, Beside, puts, finds_no_room, is_spent, tells, keeps, tells_not, misses, sees_ack, takes_ack, stays, sees, sees_it, takes_it, seen_first, same_circuit}

-- a look that leaves nothing to follow
abbrev pub IsLastLook : Result LinkFront LinkReceiveFault → Type 0
IsLastLook (Ok (front.Message frag)) = ⊥
IsLastLook (Ok (front.Onward frag to c)) = ⊥
IsLastLook (Ok (front.Arrival frag e)) = ⊥
IsLastLook what = Unit {0}

-- what is looked up of a wiring is the same
pub by_wiring : (r : Renaming) {X : Type 0} (f : EndWiring → Option X) (ws : List WiredEnd) (e : ℕ)
    → given (slice_get (map (wired_under r) ws) e) None (λ (p : WiredEnd). f p.wiring) ≡ given (slice_get ws e) None (λ (p : WiredEnd). f p.wiring)
by_wiring r f [] e = refl
by_wiring r f (p ∷ ws) zero = refl
by_wiring r f (p ∷ ws) (suc e) = by_wiring r f ws e

-- what waits for a link
pub waiting_there : (r : Renaming) (xs ys : List (List Frag)) (l : ℕ) → AllZip (AllZip (SaysRenamed r)) xs ys
    → AllZip (SaysRenamed r) (waiting_for xs l) (waiting_for ys l)
waiting_there r [] [] l h = tt
waiting_there r [] (y ∷ ys) l h = absurd h
waiting_there r (x ∷ xs) [] l h = absurd h
waiting_there r (x ∷ xs) (y ∷ ys) zero h = h.0
waiting_there r (x ∷ xs) (y ∷ ys) (suc l) h = waiting_there r xs ys l h.1

module _ (r : Renaming) (k kk : TheCore) (u : CoreUnder r k kk) where
  -- ---- a core

  pub board_is : kk.board ≡ k.board
  board_is = ap (λ (c : TheCore). c.board) u.rest

  pub link_sides_are : kk.link_sides ≡ k.link_sides
  link_sides_are = ap (λ (c : TheCore). c.link_sides) u.rest

  pub arrivals_are : kk.arrivals ≡ k.arrivals
  arrivals_are = ap (λ (c : TheCore). c.arrivals) u.rest

  pub links_are : kk.monitor.circuits.links ≡ k.monitor.circuits.links
  links_are = ap (λ (t : TheCircuits). t.links) u.circuits

  -- changed alike
  pub failed_so : (l : ℕ) → CoreUnder r (with_failed k l) (with_failed kk l)
  failed_so l = record {
    circuits = u.circuits;
    outboxes = u.outboxes;
    wired_ends = u.wired_ends;
    slots = u.slots;
    places = u.places;
    rest = ap (λ (c : TheCore). with_failed c l) u.rest;
  }

  pub board_so : (b : TheBoard) → CoreUnder r (with_board k b) (with_board kk b)
  board_so b = record {
    circuits = u.circuits;
    outboxes = u.outboxes;
    wired_ends = u.wired_ends;
    slots = u.slots;
    places = u.places;
    rest = ap (λ (c : TheCore). with_board c b) u.rest;
  }

  pub arrivals_so : (b : TheBoard) (a : ℕ) (q : TheQueue) → CoreUnder r (with_board (with_arrivals k a q) b) (with_board (with_arrivals kk a q) b)
  arrivals_so b a q = record {
    circuits = u.circuits;
    outboxes = u.outboxes;
    wired_ends = u.wired_ends;
    slots = u.slots;
    places = u.places;
    rest = ap (λ (c : TheCore). with_board (with_arrivals c a q) b) u.rest;
  }

  pub monitor_so : (m mm : TheMonitor) → mm.circuits ≡ circuits_under r m.circuits → AllZip (AllZip (SaysRenamed r)) m.outboxes mm.outboxes
      → CoreUnder r (with_monitor k m) (with_monitor kk mm)
  monitor_so m mm circuits outboxes = record {
    circuits = circuits;
    outboxes = outboxes;
    wired_ends = u.wired_ends;
    slots = u.slots;
    places = u.places;
    rest = ap (λ (c : TheCore). with_monitor c mm) u.rest;
  }

  -- ---- what is looked up

  pub wiring_so : {X : Type 0} (f : EndWiring → Option X) (e : ℕ)
      → given (slice_get kk.wired_ends e) None (λ (p : WiredEnd). f p.wiring) ≡ given (slice_get k.wired_ends e) None (λ (p : WiredEnd). f p.wiring)
  wiring_so f e =
      ap (λ (ws : List WiredEnd). given (slice_get ws e) None (λ (p : WiredEnd). f p.wiring)) u.wired_ends ∙ by_wiring r f k.wired_ends e

  pub arriving_so : (name : EndId) → arriving_at kk (end_under r name) ≡ arriving_at k name
  arriving_so name =
      ap (λ (o : Option ℕ). given o None λ e. given (arrivals_of kk e) None λ a. Some (arriving e a)) (u.places name) ∙ by (place_of k name)
    where
      by : (o : Option ℕ) → (given o None λ e. given (arrivals_of kk e) None λ a. Some (arriving e a))
          ≡ (given o None λ e. given (arrivals_of k e) None λ a. Some (arriving e a))
      by None = refl
      by (Some e) = ap (λ (p : Option ℕ). given p None λ a. Some (arriving e a)) (wiring_so arrivals_by e)

  way_so : (l n : ℕ) (way : HopTarget) → way_at k.monitor.circuits l n ≡ Some way → way_at kk.monitor.circuits l n ≡ Some (way_under r way)
  way_so l n way h =
      ap (λ (t : TheCircuits). way_at t l n) u.circuits ∙ way_there r k.monitor.circuits l n ∙ ap (option_map (way_under r)) h

  none_so : (l n : ℕ) → hop_at k.monitor.circuits l n ≡ None → hop_at kk.monitor.circuits l n ≡ None
  none_so l n h = ap (λ (t : TheCircuits). hop_at t l n) u.circuits ∙ hop_there r k.monitor.circuits l n ∙ ap (option_map (hop_under r)) h

  pub other_so : (l : ℕ) (way : HopTarget) → IsOther k.monitor.circuits l way → IsOther kk.monitor.circuits l (way_under r way)
  other_so l (Link m c) (inside, apart, some, few) = (subst (λ (ls : List LinkState). m.0 < length ls) (sym links_are) inside, apart, some, few)
  other_so l (End e) h = tt

  pub leads_so : (l n : ℕ) (way : HopTarget) → way_at k.monitor.circuits l n ≡ Some way → way_at kk.monitor.circuits l n ≡ Some (way_under r way)
  leads_so l n way h = way_so l n way h

  pub side_so : (l : ℕ) → side_of_link kk.link_sides l ≡ side_of_link k.link_sides l
  side_so l = ap (λ (ls : List LinkSide). side_of_link ls l) link_sides_are

  -- ---- an event over a side

  -- what it left, and the event there
  pub record After (k2 : TheCore) (q : FacingSide) (Event : TheCore → FacingSide → Type 0) : Type 0 where
    pub core : TheCore
    pub under : CoreUnder r k2 core
    pub side : FacingSide
    pub beside : Beside r q side
    pub event : Event core side

  module _ (p q pp : FacingSide) (b : Beside r p pp) (k2 : TheCore) where
    abbrev pub ahead : ℕ → Result LinkFront LinkReceiveFault → TheCore → FacingSide → Type 0
    ahead l what c z =
        LooksAhead (Truly SharedTakes) (λ (x : FacingSide). front_seen x.side.peeked) l (at_side kk pp) what (at_side c z)

    abbrev pub was : ℕ → Result LinkFront LinkReceiveFault → Type 0
    was l what = LooksAhead (Truly SharedTakes) (λ (x : FacingSide). front_seen x.side.peeked) l (at_side k p) what (at_side k2 q)

    -- the same core, or one that failed there
    same_core : k2 ≡ k → CoreUnder r k2 kk
    same_core same = subst (λ (c : TheCore). CoreUnder r c kk) (sym same) u

    failed_core : (l : ℕ) → k2 ≡ with_failed k l → CoreUnder r k2 (with_failed kk l)
    failed_core l same = subst (λ (c : TheCore). CoreUnder r c (with_failed kk l)) (sym same) (failed_so l)

    link_side_there : (l : ℕ) (failed : Bool) → IsLinkSide k l failed → IsLinkSide kk l failed
    link_side_there l failed h = record {
      link_side = h.link_side;
      link_side_is = ap (λ (ls : List LinkSide). slice_get ls l) link_sides_are ∙ h.link_side_is;
      failed_is = h.failed_is;
    }

    -- ---- a look

    -- that leaves nothing to follow
    pub looks_last : (l : ℕ) (what : Result LinkFront LinkReceiveFault) → IsLastLook what → was l what → After k2 q (ahead l what)
    looks_last l (Ok front.Nothing) last (seen, same) =
        let it = misses r p q pp b seen.finds in
        record {
          core = kk;
          under = same_core same;
          side = it.left;
          beside = it.beside;
          event = (record { link_side = link_side_there l false seen.link_side; finds = it.goes }, refl);
        }
    looks_last l (Ok front.Acknowledged) last (seen, same) =
        let (mid, sees_mid, takes_mid) = seen.finds in
        let one = sees_ack r p mid pp b sees_mid in
        let two = takes_ack r mid q one.left one.beside takes_mid in
        record {
          core = kk;
          under = same_core same;
          side = two.left;
          beside = two.beside;
          event = (record { link_side = link_side_there l false seen.link_side; finds = (one.left, one.goes, two.goes) }, refl);
        }
    looks_last l (Err link.Failed) last (failed, same, stood) = record {
      core = kk;
      under = same_core same;
      side = pp;
      beside = stays r p q pp b stood;
      event = (link_side_there l true failed, refl, refl);
    }
    looks_last l (Err link.Misrouted) last (seen, same) =
        let (frag, step, number, none) = seen.finds in
        let (g, under, is, it) = sees r p q pp b (bare frag) step in
        let circuit = same_circuit r frag g (alike r (bare frag) g frag g (sym (bare-bare frag)) refl under) in
        record {
          core = with_failed kk l;
          under = failed_core l same;
          side = it.left;
          beside = it.beside;
          event = (
            record {
              link_side = link_side_there l false seen.link_side;
              finds = (
                g,
                subst (λ (z : Frag). Truly SharedTakes pp (saw z) it.left) (sym is) it.goes,
                (λ e. number (sym circuit ∙ e)),
                ap (hop_at kk.monitor.circuits l) circuit ∙ none_so l (circuit_of frag.control) none,
              );
            },
            refl,
          );
        }
    looks_last l (Err link.Marked) last (seen, same) =
        let (frag, e, step, number, way, marked) = seen.finds in
        let it = sees_it r p q pp b frag frag (calls_stay r frag number) step in
        record {
          core = with_failed kk l;
          under = failed_core l same;
          side = it.left;
          beside = it.beside;
          event = (
            record {
              link_side = link_side_there l false seen.link_side;
              finds = (frag, end_under r e, it.goes, number, way_so l (circuit_of frag.control) (End e) way, marked);
            },
            refl,
          );
        }
    looks_last l (Err (link.Wire fault)) last h = absurd h
    looks_last l (Err link.Memory) last h = absurd h
    looks_last l (Ok (front.Message frag)) last h = absurd last
    looks_last l (Ok (front.Onward frag to c)) last h = absurd last
    looks_last l (Ok (front.Arrival frag e)) last h = absurd last

    -- that finds a message: whichever it is there
    pub looks_message : (l : ℕ) (frag : Frag) → was l (Ok (front.Message frag))
        → (g : Frag) × FragUnder r frag g × After k2 q (ahead l (Ok (front.Message g)))
    looks_message l frag (seen, same) =
        let (step, stands, number) = seen.finds in
        let (g, under, is, it) = sees r p q pp b (bare frag) step in
        let renamed = alike r (bare frag) g frag g (sym (bare-bare frag)) refl under in
        let goes = subst (λ (z : Frag). Truly SharedTakes pp (saw z) it.left) (sym is) it.goes in (
          g,
          renamed,
          record {
            core = kk;
            under = same_core same;
            side = it.left;
            beside = it.beside;
            event = (
              record {
                link_side = link_side_there l false seen.link_side;
                finds = (goes, seen_first r pp it.left (bare g) goes, same_circuit r frag g renamed ∙ number);
              },
              refl,
            );
          },
        )

    -- a fragment of a circuit, which goes on, or is for an end
    pub looks_onward : (l : ℕ) (frag : Frag) (to : ℕ) (c : Circuit) → was l (Ok (front.Onward frag to c)) → After k2 q (ahead l (Ok (front.Onward frag to c)))
    looks_onward l frag to c (goes, same) =
        let (step, stands, number, way, plain, other) = goes.seen.finds in
        let it = sees_it r p q pp b frag frag (calls_stay r frag number) step in
        record {
          core = kk;
          under = same_core same;
          side = it.left;
          beside = it.beside;
          event = (
            record {
              link = goes.link;
              seen = record {
                link_side = link_side_there l false goes.seen.link_side;
                finds = (
                  it.goes,
                  seen_first r pp it.left (bare frag) it.goes,
                  number,
                  way_so l (circuit_of frag.control) (Link goes.link c) way,
                  plain,
                  other_so l (Link goes.link c) other,
                );
              };
              side_is = side_so goes.link.0 ∙ goes.side_is;
            },
            refl,
          );
        }

    pub looks_arrival : (l : ℕ) (frag : Frag) (e : EndId) → was l (Ok (front.Arrival frag e)) → After k2 q (ahead l (Ok (front.Arrival frag (end_under r e))))
    looks_arrival l frag e (seen, same) =
        let (step, stands, number, way, plain, other) = seen.finds in
        let it = sees_it r p q pp b frag frag (calls_stay r frag number) step in
        record {
          core = kk;
          under = same_core same;
          side = it.left;
          beside = it.beside;
          event = (
            record {
              link_side = link_side_there l false seen.link_side;
              finds = (it.goes, seen_first r pp it.left (bare frag) it.goes, number, way_so l (circuit_of frag.control) (End e) way, plain, tt);
            },
            refl,
          );
        }

    -- ---- an arrival

    leaves_there : (o : ForwardOutcome) (frag : Frag) → FragUnder r frag frag → Leaves (Truly SharedTakes) o (bare frag) (record { before = p; after = q })
        → (z : FacingSide) × Beside r q z × Leaves (Truly SharedTakes) o (bare frag) (record { before = pp; after = z })
    leaves_there outcome.Moved frag h step = let it = takes_it r p q pp b frag frag h step in (it.left, it.beside, it.goes)
    leaves_there outcome.Full frag h same = (pp, stays r p q pp b same, refl)
    leaves_there outcome.Spent frag h same = (pp, stays r p q pp b same, refl)

    pub arrives_there : (l : ℕ) (frag : Frag) (e : EndId) (answer : Result ForwardOutcome LinkReceiveFault) → circuit_of frag.control ≢ 0
        → ArrivesAt (Truly SharedTakes) (inbound l frag e) (at_side k p) answer (at_side k2 q)
        → After k2 q (λ c z. ArrivesAt (Truly SharedTakes) (inbound l frag (end_under r e)) (at_side kk pp) answer (at_side c z))
    arrives_there l frag e (Ok o) number h =
        let (z, beside, left) = leaves_there o frag (calls_stay r frag number) h.left in
        record {
          core = with_board (with_arrivals kk h.queue h.after) k2.board;
          under =
              subst (λ (c : TheCore). CoreUnder r c (with_board (with_arrivals kk h.queue h.after) k2.board)) (sym h.rest)
              (arrivals_so k2.board h.queue h.after);
          side = z;
          beside = beside;
          event = record {
            end = h.end;
            queue = h.queue;
            at = arriving_so e ∙ h.at;
            before = h.before;
            before_is = ap (λ (qs : List TheQueue). slice_get qs h.queue) arrivals_are ∙ h.before_is;
            after = h.after;
            puts = h.puts;
            left = left;
            triggers = subst (λ (d : TheBoard). TriggersIf (reached h.end o) d k2.board) (sym board_is) h.triggers;
            rest = refl;
          };
        }
    arrives_there l frag e (Err link.Misrouted) number (none, same, stood) = record {
      core = with_failed kk l;
      under = failed_core l same;
      side = pp;
      beside = stays r p q pp b stood;
      event = (arriving_so e ∙ none, refl, refl);
    }
    arrives_there l frag e (Err link.Failed) number h = absurd h
    arrives_there l frag e (Err link.Marked) number h = absurd h
    arrives_there l frag e (Err (link.Wire fault)) number h = absurd h
    arrives_there l frag e (Err link.Memory) number h = absurd h

    -- ---- the monitor writes, and what was taken is told

    some_there : (l : ℕ) → waiting_for k.monitor.outboxes l ≢ [] → waiting_for kk.monitor.outboxes l ≢ []
    some_there l some =
        zip_some (SaysRenamed r) (waiting_for k.monitor.outboxes l) (waiting_for kk.monitor.outboxes l)
        (waiting_there r k.monitor.outboxes kk.monitor.outboxes l u.outboxes) some

    pub writes_there : (l : ℕ) (answer : MonitorWrite) → MonitorWrites (Truly SharedPuts) l (at_side k p) answer (at_side k2 q)
        → After k2 q (λ c z. MonitorWrites (Truly SharedPuts) l (at_side kk pp) answer (at_side c z))
    writes_there l write.Written (f, rest, waits, step, same) =
        let waiting = waiting_there r k.monitor.outboxes kk.monitor.outboxes l u.outboxes in
        let (g, more, is, renamed) = zip_first (SaysRenamed r) f rest (waiting_for kk.monitor.outboxes l)
        (subst (λ (fs : List Frag). AllZip (SaysRenamed r) fs (waiting_for kk.monitor.outboxes l)) waits waiting) in
        let it = puts r p q pp b f g (inr renamed) step in
        record {
          core = with_monitor kk (without_first l kk.monitor);
          under =
              subst (λ (c : TheCore). CoreUnder r c (with_monitor kk (without_first l kk.monitor))) (sym same)
              (monitor_so (without_first l k.monitor) (without_first l kk.monitor) u.circuits
              (zip_set (AllZip (SaysRenamed r)) k.monitor.outboxes kk.monitor.outboxes l (drop 1 (waiting_for k.monitor.outboxes l))
              (drop 1 (waiting_for kk.monitor.outboxes l)) u.outboxes
              (zip_less (SaysRenamed r) (waiting_for k.monitor.outboxes l) (waiting_for kk.monitor.outboxes l) waiting)));
          side = it.left;
          beside = it.beside;
          event = (g, more, is, it.goes, refl);
        }
    writes_there l write.Full (some, step, same) =
        let it = finds_no_room r p q pp b step in
        record { core = kk; under = same_core same; side = it.left; beside = it.beside; event = (some_there l some, it.goes, refl) }
    writes_there l write.Spent (some, step, same) =
        let it = is_spent r p q pp b step in
        record { core = kk; under = same_core same; side = it.left; beside = it.beside; event = (some_there l some, it.goes, refl) }
    writes_there l write.Nothing (none, same, stood) = record {
      core = kk;
      under = same_core same;
      side = pp;
      beside = stays r p q pp b stood;
      event = (
        zip_none (SaysRenamed r) (waiting_for k.monitor.outboxes l) (waiting_for kk.monitor.outboxes l)
            (waiting_there r k.monitor.outboxes kk.monitor.outboxes l u.outboxes) none,
        refl,
        refl,
      );
    }

    pub tells_there : (answer : AckAnswer) → Acknowledges (Truly SharedTakes) p answer q → k2 ≡ k
        → After k2 q (λ c z. Acknowledges (Truly SharedTakes) pp answer z × (c ≡ kk))
    tells_there ack.Done step same =
        let it = tells r p q pp b step in
        record { core = kk; under = same_core same; side = it.left; beside = it.beside; event = (it.goes, refl) }
    tells_there ack.Nothing step same =
        let it = keeps r p q pp b step in
        record { core = kk; under = same_core same; side = it.left; beside = it.beside; event = (it.goes, refl) }
    tells_there ack.Full step same =
        let it = tells_not r p q pp b step in
        record { core = kk; under = same_core same; side = it.left; beside = it.beside; event = (it.goes, refl) }
