-- Sides that are lent stay lent, and serve all that a core's turns ask for.
use Rattle.std.proofs.Common.{◌≡◌, refl, sym, ap, ◌∙◌, subst, ℕ, zero, suc, ◌<◌, inl, inr, nat_lt, if◌then◌else◌, List, [], ◌∷◌, length, slice_get}
use Rattle.std.proofs.Common.{Option, Some, None, IsSome, Bool, true, false, Result, Ok, Err, arith}
use Rattle.std.proofs.lemmas.List.{length-set}
use Rattle.std.proofs.lemmas.Option.{slice_get_within}
use Rattle.fl_base.specs.declared.identity.EndId.{EndId}
use Rattle.fl_base.specs.declared.identity.LinkId.{LinkId}
use Rattle.fl_base.specs.Given.{given}
use Rattle.fl_waitset.specs.declared.fault.WaitFault.{WaitFault}
use Rattle.fl_waitset.specs.declared.waitset.Pick.{Pick}
use Rattle.fl_waitset.specs.Waiting.{next_pick}
use Rattle.fl_link.specs.Queue.{TheQueue}
use Rattle.fl_core.specs.BoardView.{TheDispatcher, channel_of, end_picked, due_in, due}
use Rattle.fl_core.specs.BoardSound.{IsBoard}
use Rattle.fl_hop.proofs.Cells.{less_is}
use Rattle.fl_hop.specs.declared.forward.ForwardOutcome.TheVariants.{Moved, Full, Spent}
use Rattle.fl_core.specs.View.{TheCore, place_of, side_of_link, outlet_of, outlet_by, inlet_of, inlet_by}
use Rattle.fl_core.specs.Sound.{IsCore, IsWired}
use Rattle.fl_core.specs.declared.wiring.LinkSide.{LinkSide}
use Rattle.fl_core.specs.declared.wiring.WiredEnd.{WiredEnd}
use Rattle.fl_core.specs.declared.wiring.EndWiring.{EndWiring}
use Rattle.fl_core.specs.declared.wiring.EndWiring.TheVariants.{Queues, Ring, Circuit}
use Rattle.fl_core.specs.declared.wiring.Outlet.{Outlet}
use Rattle.fl_core.specs.declared.wiring.Outlet.TheVariants as outlet
use Rattle.fl_core.specs.declared.wiring.Inlet.{Inlet}
use Rattle.fl_core.specs.declared.wiring.Inlet.TheVariants as inlet
use Rattle.fl_core.proofs.HasWiredEnd.{seats_wired_ends}
use Rattle.fl_core.specs.declared.core_job.CoreJob.{CoreJob}
use Rattle.fl_core_run.specs.declared.lent.LentTakeEnd.{LentTakeEnd}
use Rattle.fl_core_run.specs.declared.lent.LentPutEnd.{LentPutEnd}
use Rattle.fl_core_run.specs.declared.lent.LentRingEnd.{LentRingEnd}
use Rattle.fl_core_run.specs.Run.{SideRelations, TheRun, lent_link_side, lends_out, lends_in, lent_post, lent_due, side_in, lent_ring_end}
use Rattle.fl_core_run.specs.LogEntries.{LogEntry, looked, passed, arrived, heard, said, told, opened, called, ruled, wrote, acked, turned, OnRing, OnQueue, Does}
use Rattle.fl_core_run_laws.specs.Logs.{Goes}
use Rattle.fl_core_run_laws.specs.Lending.{LendsWiring, IsLent, LendsAll}
use Rattle.fl_core_run_laws.proofs.Aside.{rings_aside, queues_aside, core_aside}
use Rattle.fl_core_run_laws.proofs.Growing.{IsCircuit, Grows, does_grow}

-- ---- as many sides and queues as before

abbrev AsMany : {S : Type 0} → TheRun S → TheRun S → Type 0
AsMany s m = (length m.rings ≡ length s.rings) × (length m.queues ≡ length s.queues)

on_ring : {S : Type 0} (n : ℕ) (s m : TheRun S) (Event : TheCore → S → TheCore → S → Type 0) → OnRing n s Event m → AsMany s m
on_ring n s m Event h =
    (ap (λ (x : TheRun _). length x.rings) h.rest ∙ length-set s.rings n h.after, ap (λ (x : TheRun _). length x.queues) h.rest)

on_queue : {S : Type 0} (n : ℕ) (s m : TheRun S) (Event : TheCore → TheQueue → TheCore → TheQueue → Type 0) → OnQueue n s Event m → AsMany s m
on_queue n s m Event h =
    (ap (λ (x : TheRun _). length x.rings) h.rest, ap (λ (x : TheRun _). length x.queues) h.rest ∙ length-set s.queues n h.after)

on_core : {S : Type 0} (s m : TheRun S) → m ≡ record s { core = m.core } → AsMany s m
on_core s m rest = (ap (λ (x : TheRun _). length x.rings) rest, ap (λ (x : TheRun _). length x.queues) rest)

pub as_many : {S : Type 0} (w : SideRelations S) (log_entry : LogEntry) (s m : TheRun S) → Does w log_entry s m → AsMany s m
as_many w (looked n l answer) s m h = on_ring n s m _ h
as_many w (passed n k frag c Moved) s m h =
    let one = on_ring k s h.0 _ h.1 in
    let two = on_ring n h.0 m _ h.2 in
    (two.0 ∙ one.0, two.1 ∙ one.1)
as_many w (passed n k frag c Full) s m h = on_ring k s m _ h
as_many w (passed n k frag c Spent) s m h = on_ring k s m _ h
as_many w (arrived n l frag e answer) s m h = on_ring n s m _ h
as_many w (heard n l frag answer) s m h = on_ring n s m _ h
as_many w (said n l answer) s m h = on_ring n s m _ h
as_many w (told n l answer) s m h = on_ring n s m _ h
as_many w (opened name request answer) s m h = on_core s m h.rest
as_many w (called name c answer) s m h = on_core s m h.2.rest
as_many w (ruled name msg reply answer) s m h = on_core s m h.2.rest
as_many w (wrote name (outlet.Queue n) answer) s m h = on_queue n s m _ h.2
as_many w (wrote name (outlet.Side n) answer) s m h = on_ring n s m _ h.2
as_many w (acked name n answer) s m h = on_ring n s m _ h.2
as_many w (turned d name (inlet.Queue n) answer) s m h = on_queue n s m _ h.3
as_many w (turned d name (inlet.Side n) answer) s m h = on_ring n s m _ h.3
as_many w (turned d name inlet.Arrivals answer) s m h = on_core s m h.3.rest

-- ---- what is lent stays lent

wiring_stays : {S : Type 0} (s m : TheRun S) (x : EndWiring) → AsMany s m → LendsWiring s x → LendsWiring m x
wiring_stays s m (Queues out from) many h =
    let same = many.1 in
    let one = h.0 in
    let two = h.1 in
    (omega (arith, same, one), omega (arith, same, two))
wiring_stays s m (Ring side) many h = let same = many.0 in omega (arith, same, h)
wiring_stays s m (Circuit l a) many h = tt

circuit_lent : {S : Type 0} (m : TheRun S) (x : EndWiring) → IsCircuit x → LendsWiring m x
circuit_lent m (Circuit l a) h = tt
circuit_lent m (Queues out from) h = absurd h
circuit_lent m (Ring side) h = absurd h

lent_on : {S : Type 0} (s m : TheRun S) → AsMany s m → Grows s.core m.core → IsLent s → IsLent m
lent_on s m many grows lent = record {
  link_sides = λ l link_side at.
      let (before, stood, side) = grows.link_sides.1 l link_side at in
      let below = lent.link_sides l before stood in
      let same = many.0 in
      omega (arith, below, side, same);
  wirings = λ e p at. elim (grows.wired_ends.1 e p at) [
    | inl stood ↦ wiring_stays s m p.wiring many (lent.wirings e p stood)
    | inr circuit ↦ circuit_lent m p.wiring circuit
  ];
}

-- a run with the same core, sides and queues
lent_same : {S : Type 0} (m t : TheRun S) → t.rings ≡ m.rings → t.queues ≡ m.queues → t.core ≡ m.core → IsLent m → IsLent t
lent_same m t rings queues core lent = record {
  link_sides = λ l link_side at.
      let below = lent.link_sides l link_side (ap (λ (k : TheCore). slice_get k.link_sides l) (sym core) ∙ at) in
      let same : length t.rings ≡ length m.rings = ap length rings in
      omega (arith, below, same);
  wirings = λ e p at. wiring_stays m t p.wiring (ap length rings, ap length queues) (lent.wirings e p (ap (λ (k : TheCore). slice_get k.wired_ends e) (sym core) ∙ at));
}

pub stays_lent : {S : Type 0} (w : SideRelations S) (jobs : List CoreJob) (s t : TheRun S) (log : List LogEntry) → Goes w jobs s log t → IsLent s → IsLent t
stays_lent w jobs s t [] h lent = subst (λ (x : TheRun _). IsLent x) (sym h) lent
stays_lent w jobs s t (log_entry ∷ log) h lent =
    let done : IsLent h.1.0 = lent_on s h.1.0 (as_many w log_entry s h.1.0 h.1.1) (does_grow w log_entry s h.1.0 h.1.1) lent in
    let noted : IsLent h.0 = lent_same h.1.0 h.0 (rings_aside h.1.0 h.0 log_entry h.1.2) (queues_aside h.1.0 h.0 log_entry h.1.2) (core_aside h.1.0 h.0 log_entry h.1.2) done in
    stays_lent w jobs h.0 t log h.3 noted

-- ---- what is asked for is lent

there_is : {X : Type 0} (xs : List X) (n : ℕ) → n < length xs → (x : X) × (slice_get xs n ≡ Some x)
there_is [] n below = absurd (omega (arith, below))
there_is (x ∷ xs) zero below = (x, refl)
there_is (x ∷ xs) (suc n) below = there_is xs n (omega (arith, below))

is_there : {X : Type 0} (o : Option X) (x : X) → o ≡ Some x → IsSome o
is_there o x is = subst (λ (u : Option _). IsSome u) (sym is) refl

if_true : {X : Type 0} (b : Bool) (x y : X) → b ≡ true → (if b then x else y) ≡ x
if_true true x y h = refl
if_true false x y h = absurd (cc)

module _ {S : Type 0} (s : TheRun S) (sound : IsCore s.core) (lent : IsLent s) where
  link_side_side : (l : ℕ) → l < length s.core.link_sides → (n : ℕ) × (side_of_link s.core.link_sides l ≡ Some n) × (n < length s.rings)
  link_side_side l below =
      let (link_side, at) = there_is s.core.link_sides l below in
      (link_side.side, ap (λ (o : Option LinkSide). given o None (λ (x : LinkSide). Some x.side)) at, lent.link_sides l link_side at)

  link_side : (l : LinkId) → l.0 < length s.core.link_sides → IsSome (lent_link_side s l)
  link_side l below =
      let (n, side, few) = link_side_side l.0 below in
      is_there (lent_link_side s l) n
      (ap (λ (o : Option ℕ). given o None (λ (i : ℕ). if nat_lt i (length s.rings) then Some i else None)) side
      ∙ if_true (nat_lt n (length s.rings)) (Some n) None (less_is n (length s.rings) few))

  -- where an end with such a wiring puts, that is lent
  puts_to : (e : ℕ) (p : WiredEnd) (x : EndWiring) → slice_get s.core.wired_ends e ≡ Some p → p.wiring ≡ x → (out : Outlet) × (outlet_by s.core.link_sides x ≡ Some out) × (lends_out s out ≡ true)
  puts_to e p (Queues out from) at is =
      let lends : LendsWiring s (Queues out from) = subst (λ (y : EndWiring). LendsWiring s y) is (lent.wirings e p at) in
      (outlet.Queue out, refl, less_is out (length s.queues) lends.0)
  puts_to e p (Ring side) at is =
      let lends : LendsWiring s (Ring side) = subst (λ (y : EndWiring). LendsWiring s y) is (lent.wirings e p at) in
      (outlet.Side side, refl, less_is side (length s.rings) lends)
  puts_to e p (Circuit l a) at is =
      let wired = subst (λ (y : EndWiring). IsWired s.core y) is (sound.wired e p at) in
      let (n, side, few) = link_side_side l.0 wired.0 in
      (outlet.Side n, ap (λ (o : Option ℕ). given o None (λ (i : ℕ). Some (outlet.Side i))) side, less_is n (length s.rings) few)

  takes_from : (e : ℕ) (p : WiredEnd) (x : EndWiring) → slice_get s.core.wired_ends e ≡ Some p → p.wiring ≡ x → lends_in s (inlet_by x) ≡ true
  takes_from e p (Queues out from) at is =
      let lends : LendsWiring s (Queues out from) = subst (λ (y : EndWiring). LendsWiring s y) is (lent.wirings e p at) in
      less_is from (length s.queues) lends.1
  takes_from e p (Ring side) at is =
      let lends : LendsWiring s (Ring side) = subst (λ (y : EndWiring). LendsWiring s y) is (lent.wirings e p at) in
      less_is side (length s.rings) lends
  takes_from e p (Circuit l a) at is = refl

  post : (name : EndId) (e : ℕ) → place_of s.core name ≡ Some e → IsSome (lent_post s name)
  post name e at =
      let it = sound.placed name e at in
      let (out, outlet_is, lends) = puts_to e it.wired_end it.wired_end.wiring it.wired_end_is refl in
      let where_to : outlet_of s.core e ≡ Some out = ap (λ (o : Option WiredEnd). given o None (λ (p : WiredEnd). outlet_by s.core.link_sides p.wiring)) it.wired_end_is ∙ outlet_is in
      is_there (lent_post s name) (record { end = e; outlet = out })
      (ap (λ (o : Option ℕ). given o None (λ (i : ℕ). given (outlet_of s.core i) None (λ (x : Outlet). if lends_out s x then Some (let r : LentPutEnd = record { end = i; outlet = x } in r) else None))) at
      ∙ ap (λ (o : Option Outlet). given o None (λ (x : Outlet). if lends_out s x then Some (let r : LentPutEnd = record { end = e; outlet = x } in r) else None)) where_to
      ∙ if_true (lends_out s out) _ None lends)

  -- an end with a wired end takes from what is lent
  from_wired_end : (e : ℕ) (p : WiredEnd) → slice_get s.core.wired_ends e ≡ Some p → inlet_of s.core e ≡ Some (inlet_by p.wiring)
  from_wired_end e p at = ap (λ (o : Option WiredEnd). given o None (λ (q : WiredEnd). Some (inlet_by q.wiring))) at

  turn_lent : (board : IsBoard s.core.board) (d e : ℕ) → due s.core.board d ≡ Some e → IsSome (lent_due s d)
  turn_lent board d e is =
      let below : e < length s.core.board.seats = seated (slice_get s.core.board.dispatchers d) refl is in
      let many = seats_wired_ends s.core sound in
      let (p, at) = there_is s.core.wired_ends e (omega (arith, below, many)) in
      is_there (lent_due s d) (record { end = e; inlet = inlet_by p.wiring })
      (ap (λ (o : Option ℕ). given o None (λ (i : ℕ). given (inlet_of s.core i) None (λ (x : Inlet). if lends_in s x then Some (let r : LentTakeEnd = record { end = i; inlet = x } in r) else None))) is
      ∙ ap (λ (o : Option Inlet). given o None (λ (x : Inlet). if lends_in s x then Some (let r : LentTakeEnd = record { end = e; inlet = x } in r) else None)) (from_wired_end e p at)
      ∙ if_true (lends_in s (inlet_by p.wiring)) _ None (takes_from e p p.wiring at refl)) where
        picked : (x : TheDispatcher) (r : Result Pick WaitFault) → slice_get s.core.board.dispatchers d ≡ Some x → end_picked x.ends r ≡ Some e → e < length s.core.board.seats
        picked x (Ok pick) there ends =
            let channel = (board.dispatchers d x there).ends (channel_of pick) e ends in
            slice_get_within s.core.board.seats e channel.seat channel.seat_is
        picked x (Err fault) there ends = absurd (cc)

        seated : (o : Option TheDispatcher) → slice_get s.core.board.dispatchers d ≡ o → due_in o ≡ Some e → e < length s.core.board.seats
        seated None there is_due = absurd (cc)
        seated (Some x) there is_due = picked x (next_pick x.lists) there is_due

  ring_end : (name : EndId) (e n : ℕ) → place_of s.core name ≡ Some e → inlet_of s.core e ≡ Some (inlet.Side n) → IsSome (lent_ring_end s name)
  ring_end name e n at from =
      let it = sound.placed name e at in
      let same : Some (inlet_by it.wired_end.wiring) ≡ Some (inlet.Side n) = sym (from_wired_end e it.wired_end it.wired_end_is) ∙ from in
      let is : inlet_by it.wired_end.wiring ≡ inlet.Side n = cc in
      let lends : lends_in s (inlet.Side n) ≡ true = subst (λ (x : Inlet). lends_in s x ≡ true) is (takes_from e it.wired_end it.wired_end.wiring it.wired_end_is refl) in
      is_there (lent_ring_end s name) (record { end = e; side = n })
      (ap (λ (o : Option ℕ). given o None (λ (i : ℕ). given (inlet_of s.core i) None (λ (x : Inlet). given (side_in x) None (λ (j : ℕ). if nat_lt j (length s.rings) then Some (let r : LentRingEnd = record { end = i; side = j } in r) else None)))) at
      ∙ ap (λ (o : Option Inlet). given o None (λ (x : Inlet). given (side_in x) None (λ (j : ℕ). if nat_lt j (length s.rings) then Some (let r : LentRingEnd = record { end = e; side = j } in r) else None))) from
      ∙ if_true (nat_lt n (length s.rings)) _ None lends)

pub lent_serves : {S : Type 0} (w : SideRelations S) (s : TheRun S) → IsCore s.core → IsBoard s.core.board → IsLent s → LendsAll s
lent_serves w s sound board lent = record {
  link_sides = link_side s sound lent;
  posts = post s sound lent;
  turns = turn_lent s sound lent board;
  ring_ends = ring_end s sound lent;
}
