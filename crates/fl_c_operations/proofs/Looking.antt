-- A receive by a side that has seen what stands first is a receive by that side, which looks once.
use Rattle.std.proofs.Common.{◌≡◌, ◌<◌, ◌≤◌, ⊎_elim, Bool, Option, Some, None, Result, Ok, Err, refl, sym, ap, subst, ◌∙◌, ℕ, List}
use Rattle.std.specs.Prelude.{IsSome, OnOk}
use Rattle.std.proofs.lemmas.Bool.{false≢true, cases_lt}
use Rattle.fl_base.specs.declared.fragment.Frag.{Frag}
use Rattle.fl_base.specs.Control.{bare, told_of}
use Rattle.fl_link.specs.Looks.{Look, placed, no_room, spent, saw, saw_ack, found, found_ack, missed}
use Rattle.fl_link.specs.declared.fault.PutFault.{PutFault}
use Rattle.fl_link.specs.declared.fault.PutFault.TheVariants.{Full, Spent as RingSpent}
use Rattle.fl_ring.specs.Counts.{count_from}
use Rattle.fl_ring.specs.SharedSeats.{front_seen}
use Rattle.fl_ring.specs.SharedSides.{TheSide, free_of, side_missed, side_counted, MayStand, KnowsSent, Looked, SharedPuts, SharedTakes}
use Rattle.fl_machine.specs.Reassembling.{TheReassembly}
use Rattle.fl_endpoint.specs.declared.answer.ReceiveAnswer.{ReceiveAnswer}
use Rattle.fl_endpoint.specs.declared.answer.ReceiveAnswer.TheVariants.{Handle, Part, Quiet, Empty, HeldBack}
use Rattle.fl_endpoint.specs.declared.fault.EndFault.{EndFault}
use Rattle.fl_endpoint.specs.declared.fault.EndFault.TheVariants.{Spent, Busy, UnknownMessage, Misfit, NotBound, Failed, Wire, Memory}
use Rattle.fl_endpoint.specs.View.{TheEnd, with_parts}
use Rattle.fl_endpoint.specs.Events.{IsOpen, Receives}
use Rattle.fl_endpoint.specs.Lent.{receipt, ReceivesAt}
use Rattle.fl_c_operations.specs.declared.glance.Glance.TheVariants.{Untaken}
use Rattle.fl_c_operations.specs.Transmissions.{IsShortAt}
use Rattle.fl_c_operations.specs.Seen.{IsSeen, SeenTakes, IsAfterLook}
use Rattle.fl_c_operations.specs.Glances.{TakesShort, Glances}
use Rattle.fl_c_operations.proofs.Receives.{bare_twice}

not_none : {A : Type 0} (o : Option A) → IsSome o → o ≡ None → ⊥
not_none None some e = absurd cc
not_none (Some x) some e = absurd cc

-- how a receive goes over from one side to another: its look, and the take behind it
pub record GoesOver {T : Type 0} (takes : T → Look → T → Type 0) (side : T → TheSide) (a b : T) (p : TheSide) (s : TheEnd) : Type 0 where
  pub sees : (g : Frag) (m : T) → takes a (saw g) m → SharedTakes p (saw g) (side m)
  pub acknowledged : (m : T) → takes a saw_ack m → SharedTakes p saw_ack (side m)
  pub misses : (m : T) → takes a missed m → SharedTakes p missed (side m)
  pub gets : (g : Frag) (m : T) → takes a (saw g) m → takes m (found g) b → SharedTakes (side m) (found g) (side b)
  pub gets_acknowledged : (m : T) → takes a saw_ack m → takes m found_ack b → SharedTakes (side m) found_ack (side b)
  -- where nothing is looked at
  pub kept : (IsOpen s → ⊥) → side a ≡ p

module _ {T : Type 0} (takes : T → Look → T → Type 0) (side : T → TheSide) (a b : T) (p : TheSide) where
  pub goes_over : (s t : TheEnd) (r : Result ReceiveAnswer EndFault) → GoesOver takes side a b p s → Receives takes s a r t b → Receives SharedTakes s p r t (side b)
  goes_over s t (Ok (Handle call)) over (opened, (g, m, is, sees, gets, rest)) = (opened, (g, side m, is, over.sees g m sees, over.gets g m sees gets, rest))
  goes_over s t (Ok Part) over (opened, (g, m, is, sees, gets, rest)) = (opened, (g, side m, is, over.sees g m sees, over.gets g m sees gets, rest))
  goes_over s t (Ok Quiet) over (opened, (m, sees, gets), t_is) = (opened, (side m, over.acknowledged m sees, over.gets_acknowledged m sees gets), t_is)
  goes_over s t (Ok Empty) over (opened, sees, t_is) = (opened, over.misses b sees, t_is)
  goes_over s t (Ok HeldBack) over (ready, held, same, t_is) =
      (ready, held, ap side same ∙ over.kept (λ opened. false≢true (sym opened.1 ∙ held)), t_is)
  goes_over s t (Err (Wire fault)) over (opened, (g, is, sees, rest)) = (opened, (g, is, over.sees g b sees, rest))
  goes_over s t (Err Memory) over (opened, (g, is, sees, rest)) = (opened, (g, is, over.sees g b sees, rest))
  goes_over s t (Err NotBound) over (unbound, same, t_is) = (unbound, ap side same ∙ over.kept (λ opened. not_none s.circuit opened.0.0 unbound), t_is)
  goes_over s t (Err Failed) over (failed, same, t_is) = (failed, ap side same ∙ over.kept (λ opened. false≢true (sym opened.0.1 ∙ failed.1)), t_is)
  goes_over s t (Err Spent) over h = absurd h
  goes_over s t (Err Busy) over h = absurd h
  goes_over s t (Err UnknownMessage) over h = absurd h
  goes_over s t (Err Misfit) over h = absurd h

  -- the same at the end's place
  pub goes_over_at : (s t : TheEnd) (r : Result ReceiveAnswer EndFault) (calls : List TheReassembly) (place : ℕ) (after : List TheReassembly) → GoesOver takes side a b p s
      → ReceivesAt takes (receipt s a r t b) calls place after → ReceivesAt SharedTakes (receipt s p r t (side b)) calls place after
  goes_over_at s t r calls place after over h = record {
    was = h.was;
    was_there = h.was_there;
    is = h.is;
    event = record {
      of = h.event.of;
      program = h.event.program;
      receives = goes_over (with_parts s h.was.parts) (with_parts t h.is.parts) r (record {
        sees = over.sees;
        acknowledged = over.acknowledged;
        misses = over.misses;
        gets = over.gets;
        gets_acknowledged = over.gets_acknowledged;
        kept = over.kept;
      }) h.event.receives;
    };
    after_is = h.after_is;
  }

  module _ (seen : T → Option Frag) (tells : (c : T) (look : Look) (d : T) → takes c look d → SeenTakes (seen c) (side c) look (seen d) (side d)) where
    -- behind a look that saw nothing, or a take
    unseen : (c : T) (look : Look) (d : T) → seen c ≡ None → takes c look d → SharedTakes (side c) look (side d) × (seen d ≡ None)
    unseen c look d none h = subst (λ (o : Option Frag). SeenTakes o (side c) look (seen d) (side d)) none (tells c look d h)

    seeing : (frag g : Frag) (c d : T) → seen c ≡ Some frag → takes c (saw g) d → (g ≡ bare frag) × (side d ≡ side c) × (seen d ≡ Some frag)
    seeing frag g c d some h = subst (λ (o : Option Frag). SeenTakes o (side c) (saw g) (seen d) (side d)) some (tells c (saw g) d h)

    -- a side that has seen nothing is as it was
    pub unseen_over : (s : TheEnd) → seen a ≡ None → side a ≡ p → GoesOver takes side a b p s
    unseen_over s none is = record {
      sees = λ g m h. subst (λ (x : TheSide). SharedTakes x (saw g) (side m)) is (unseen a (saw g) m none h).0;
      acknowledged = λ m h. subst (λ (x : TheSide). SharedTakes x saw_ack (side m)) is (unseen a saw_ack m none h).0;
      misses = λ m h. subst (λ (x : TheSide). SharedTakes x missed (side m)) is (unseen a missed m none h).0;
      gets = λ g m h k. (unseen m (found g) b (unseen a (saw g) m none h).1 k).0;
      gets_acknowledged = λ m h k. (unseen m found_ack b (unseen a saw_ack m none h).1 k).0;
      kept = λ closed. is;
    }

    -- one that has seen a fragment saw it by its look
    pub seen_over : (s : TheEnd) (frag : Frag) → IsOpen s → seen a ≡ Some frag → SharedTakes p (saw (bare frag)) (side a) → GoesOver takes side a b p s
    seen_over s frag opened some look = record {
      sees = λ g m h.
          let k = seeing frag g a m some h in
          subst (λ (x : TheSide). SharedTakes p (saw g) x) (sym k.1) (subst (λ (x : Frag). SharedTakes p (saw x) (side a)) (sym k.0) look);
      acknowledged = λ m h. absurd (subst (λ (o : Option Frag). SeenTakes o (side a) saw_ack (seen m) (side m)) some (tells a saw_ack m h));
      misses = λ m h. absurd (subst (λ (o : Option Frag). SeenTakes o (side a) missed (seen m) (side m)) some (tells a missed m h));
      gets = λ g m h k.
          let next = seeing frag g a m some h in
          (subst (λ (o : Option Frag). SeenTakes o (side m) (found g) (seen b) (side b)) next.2 (tells m (found g) b k)).0;
      gets_acknowledged = λ m h k. absurd (subst (λ (o : Option Frag). SeenTakes o (side a) saw_ack (seen m) (side m)) some (tells a saw_ack m h));
      kept = λ closed. absurd (closed opened);
    }

    lent_by : (s : TheEnd) (o : Option Frag) → seen a ≡ o → IsAfterLook s p o (side a) → GoesOver takes side a b p s
    lent_by s None e h = unseen_over s e h
    lent_by s (Some frag) e h = seen_over s frag h.0 e h.1

    pub lent_over : (s : TheEnd) → IsAfterLook s p (seen a) (side a) → GoesOver takes side a b p s
    lent_over s h = lent_by s (seen a) refl h

-- where nothing was looked at
pub unlooked : (s : TheEnd) (between : Bool) (p : TheSide) (o : Option Frag) → o ≡ None → Glances s between p Untaken o p
unlooked s between p None e = (refl, λ some. absurd (cc))
unlooked s between p (Some frag) e = absurd (cc)

-- a fragment that was seen is taken
pub taken_seen : (s : TheEnd) (p m q : TheSide) (f : Frag) (msg : ℕ) (tape : List ℕ) (seen : Option Frag) → seen ≡ Some f → IsAfterLook s p seen m → SharedTakes m (found (bare f)) q
    → IsShortAt s msg tape (bare f) → IsSome seen × TakesShort s p msg tape q
taken_seen s p m q f msg tape None e lent gets at = absurd (cc)
taken_seen s p m q f msg tape (Some g) e lent gets at =
    let same : g ≡ f = cc in
    let sees = subst (λ (x : Frag). SharedTakes p (saw (bare x)) m) same lent.1 in
    (refl, (lent.0, (bare f, m, bare_twice f, sees, gets, at)))

-- ---- a fragment is put

looked_still : (need : ℕ) (s m : TheSide) → Looked need s m → m.peeked ≡ s.peeked
looked_still need s m looked = ⊎_elim
    (λ (few : free_of s < need). ⊎_elim
    (λ (missed : (s.peeked ≡ None) × (m ≡ side_missed s)). ap (λ (x : TheSide). x.peeked) missed.1)
    (λ (counted : (control : ℕ) × MayStand s control × (m ≡ side_counted s (count_from s.known (told_of control))) × KnowsSent m). ap (λ (x : TheSide). x.peeked) counted.2)
    (looked.by_look few))
    (λ (enough : need ≤ free_of s). ap (λ (x : TheSide). x.peeked) (looked.by_known enough))
    (cases_lt (free_of s) need)

-- what was seen stands there still
pub seen_still : (seen : Option Frag) (p q : TheSide) (f : Frag) (r : Result (Unit {0}) PutFault) → IsSeen seen p → OnOk r (SharedPuts p (placed (bare f)) q) → (r ≡ Err Full → SharedPuts p no_room q)
    → (r ≡ Err RingSpent → SharedPuts p spent q) → IsSeen seen q
seen_still None p q f r at ok full gone = tt
seen_still (Some g) p q f (Ok done) at ok full gone =
    let (of_call, few, (m, looked, room, is)) = ok in
    let same : q.peeked ≡ p.peeked = ap (λ (x : TheSide). x.peeked) is ∙ looked_still 2 p m looked in
    (ap front_seen same ∙ at.0, at.1)
seen_still (Some g) p q f (Err Full) at ok full gone =
    let (few, looked, none, still) = full refl in
    (ap front_seen (looked_still 2 p q looked) ∙ at.0, at.1)
seen_still (Some g) p q f (Err RingSpent) at ok full gone = (ap (λ (x : TheSide). front_seen x.peeked) (gone refl).1 ∙ at.0, at.1)
