-- What was read of a core, a queue or a ring before it is lent to an event: w is the world before, and base the same by its fields.
use Rattle.std.proofs.Common.{◌≡◌, refl, sym, ap, ◌∙◌, subst, ℕ, ◌<◌, ◌≤◌, length, slice_get, slice_index_or, List, Option, Some, None, is_some, inl, inr, true, false, zero, suc, arith}
use Rattle.std.proofs.lemmas.Option.{none-some, slice_get_past, slice_get_within, same_Some}
use Rattle.std.proofs.lemmas.Bool.{false≢true}
use Rattle.fl_base.specs.declared.fragment.Frag.{Frag}
use Rattle.fl_base.specs.Given.{given}
use Rattle.fl_ring.specs.Duo.{TheDuo}
use Rattle.fl_core.specs.BoardView.{due}
use Rattle.fl_core.specs.declared.wiring.Inlet.{Inlet}
use Rattle.fl_core.specs.declared.wiring.Inlet.TheVariants as inlet
use Rattle.fl_core.specs.declared.wiring.WiredEnd.{WiredEnd}
use Rattle.fl_core.specs.declared.wiring.EndWiring.{EndWiring}
use Rattle.fl_core.specs.declared.wiring.EndWiring.TheVariants.{Queues, Ring, Circuit}
use Rattle.fl_core.specs.declared.wiring.Outlet.{Outlet}
use Rattle.fl_core.specs.View.{TheCore, outlet_of, inlet_of, inlet_by, arrivals_of, arrivals_by}
use Rattle.fl_model.specs.Events.{Answer, nothing}
use Rattle.fl_world_refines.specs.View.{TheWorld, made, ring_at}
use Rattle.fl_world_refines.specs.Lending.{IsStray, answer_at}
use Rattle.fl_world_refines.specs.Sending.{WritesOver, WritesBy}
use Rattle.fl_world_refines.specs.Taking.{HasInlet, AcksOver, AcksAt, RegistersOver, RegistersBy}
use Rattle.fl_world_events.specs.declared.taking.DueEnd.{DueEnd}
use Rattle.fl_world_events.specs.declared.moving.ForwardFrag.{ForwardFrag}
use Rattle.fl_world_events.specs.Passing.{StandsAt}
use Rattle.fl_world_events.specs.Places.{HasEnd}
use Rattle.fl_world_events.proofs.Lifts.{stands}
use Rattle.fl_world.specs.Following.{GoesOn, TakesRulesOrNone}
use Rattle.fl_world.specs.Places.{IsDueOver}

-- ---- nothing is there

-- what a look past the end says
pub past_end : (n len : ℕ) → (n < len → false ≡ true) → len ≤ n
past_end zero zero h = omega arith
past_end zero (suc m) h = absurd (false≢true (h (omega arith)))
past_end (suc n) zero h = omega arith
past_end (suc n) (suc m) h = omega (arith, past_end n m (λ below. h (omega (arith, below))))

pub stray : {X : Type 0} (w base : TheWorld) → base ≡ w → (list : TheWorld → List X) (n : ℕ) → length (list base) ≤ n → IsStray (list w) n w nothing base
stray w base same list n past =
    (subst (λ (x : TheWorld). slice_get (list x) n ≡ None) same (slice_get_past (list base) n past), (refl, same))

-- the ring's place is i
pub stray_ring : (w base : TheWorld) → base ≡ w → (m i : ℕ) → i ≡ ring_at m → length base.rings ≤ i → IsStray w.rings (ring_at m) w nothing base
stray_ring w base same m i at past =
    stray w base same (λ (x : TheWorld). x.rings) (ring_at m) (subst (λ (j : ℕ). length base.rings ≤ j) at past)

-- where what was lent of the world has come back as it was
pub stray_after : {X : Type 0} (w base : TheWorld) → base ≡ w → (list : TheWorld → List X) (n : ℕ) → length (list base) ≤ n → (w2 : TheWorld) → w2 ≡ w
    → IsStray (list w) n w nothing w2
stray_after w base same list n past w2 back = ((stray w base same list n past).0, (refl, back))

pub stray_ring_after : (w base : TheWorld) → base ≡ w → (m i : ℕ) → i ≡ ring_at m → length base.rings ≤ i → (w2 : TheWorld) → w2 ≡ w
    → IsStray w.rings (ring_at m) w nothing w2
stray_ring_after w base same m i at past w2 back = ((stray_ring w base same m i at past).0, (refl, back))

pub ring_here : (w base : TheWorld) → base ≡ w → (m i : ℕ) → i ≡ ring_at m → i < length base.rings → ring_at m < length w.rings
ring_here w base same m i at there =
    subst (λ (x : TheWorld). ring_at m < length x.rings) same (subst (λ (j : ℕ). j < length base.rings) at there)

pub nothing_at : (w base : TheWorld) → base ≡ w → (n : ℕ) → length base.cores ≤ n → slice_get w.cores n ≡ None
nothing_at w base same n past = subst (λ (x : TheWorld). slice_get x.cores n ≡ None) same (slice_get_past base.cores n past)

pub no_rules : (w base : TheWorld) → base ≡ w → (n place i : ℕ) → length base.bindings ≤ i → TakesRulesOrNone w n place i base
no_rules w base same n place i past =
    let none : slice_get w.bindings i ≡ None
    = subst (λ (x : TheWorld). slice_get x.bindings i ≡ None) same (slice_get_past base.bindings i past) in
    inr (λ has. absurd (none-some has.kept (sym none ∙ has.kept_is)), same)

-- two places of which one isn't there, or which are one
pub no_way_one : (p : ForwardFrag) (w : TheWorld) (i j : ℕ) → i ≡ ring_at p.from → j ≡ ring_at p.onto → i ≡ j → GoesOn p w nothing w
no_way_one p w i j from onto one = inr (inl (sym from ∙ one ∙ onto), (refl, refl))

pub no_way_from : (p : ForwardFrag) (w base : TheWorld) → base ≡ w → (i : ℕ) → i ≡ ring_at p.from → length base.rings ≤ i → GoesOn p w nothing w
no_way_from p w base same i from past = inr (inr (inl (stray_ring w base same p.from i from past).0), (refl, refl))

pub no_way_onto : (p : ForwardFrag) (w base : TheWorld) → base ≡ w → (i : ℕ) → i ≡ ring_at p.onto → length base.rings ≤ i → GoesOn p w nothing w
no_way_onto p w base same i onto past = inr (inr (inr (stray_ring w base same p.onto i onto past).0), (refl, refl))

pub lent_stands : (w base : TheWorld) → base ≡ w → (m : ℕ) (f : Frag) (read : List TheDuo) → read ≡ base.rings → StandsAt w.rings m f → StandsAt read m f
lent_stands w base same m f read value h =
    subst (λ (rs : List TheDuo). StandsAt rs m f) (sym (value ∙ ap (λ (x : TheWorld). x.rings) same)) h

-- ---- where a core takes from

lent_by : (o : Option WiredEnd) (q : ℕ) → given o None (λ p. Some (inlet_by p.wiring)) ≡ Some (inlet.Queue q) → given o None (λ p. arrivals_by p.wiring) ≡ None
lent_by None q h = refl
lent_by (Some p) q h = by_wiring p.wiring h where
  by_wiring : (x : EndWiring) → Some (inlet_by x) ≡ Some (inlet.Queue q) → arrivals_by x ≡ None
  by_wiring (Queues out from) e = refl
  by_wiring (Ring side) e = refl
  by_wiring (Circuit link arrivals) e = absurd (cc)

side_by : (o : Option WiredEnd) (m : ℕ) → given o None (λ p. Some (inlet_by p.wiring)) ≡ Some (inlet.Side m) → given o None (λ p. arrivals_by p.wiring) ≡ None
side_by None m h = refl
side_by (Some p) m h = by_wiring p.wiring h where
  by_wiring : (x : EndWiring) → Some (inlet_by x) ≡ Some (inlet.Side m) → arrivals_by x ≡ None
  by_wiring (Queues out from) e = refl
  by_wiring (Ring side) e = refl
  by_wiring (Circuit link arrivals) e = absurd (cc)

own_by : (o : Option WiredEnd) → given o None (λ p. Some (inlet_by p.wiring)) ≡ Some inlet.Arrivals → is_some (given o None (λ p. arrivals_by p.wiring)) ≡ true
own_by None h = absurd (cc)
own_by (Some p) h = by_wiring p.wiring h where
  by_wiring : (x : EndWiring) → Some (inlet_by x) ≡ Some inlet.Arrivals → is_some (arrivals_by x) ≡ true
  by_wiring (Queues out from) e = absurd (cc)
  by_wiring (Ring side) e = absurd (cc)
  by_wiring (Circuit link arrivals) e = refl

pub own_arrivals : (k : TheCore) (e : ℕ) → inlet_of k e ≡ Some inlet.Arrivals → is_some (arrivals_of k e) ≡ true
own_arrivals k e h = own_by (slice_get k.wired_ends e) h

pub lent_queue : (k : TheCore) (e q : ℕ) → inlet_of k e ≡ Some (inlet.Queue q) → arrivals_of k e ≡ None
lent_queue k e q h = lent_by (slice_get k.wired_ends e) q h

pub lent_side : (k : TheCore) (e m : ℕ) → inlet_of k e ≡ Some (inlet.Side m) → arrivals_of k e ≡ None
lent_side k e m h = side_by (slice_get k.wired_ends e) m h

pub inlet_read : (w : TheWorld) (n place : ℕ) (i : Inlet) → HasInlet w n place i → (k : TheCore) → slice_get w.cores n ≡ Some k → inlet_of k place ≡ Some i
inlet_read w n place i h k is = subst (λ (x : TheCore). inlet_of x place ≡ Some i) (same_Some h.core k (sym h.core_is ∙ is)) h.inlet_is

-- the core that was read
pub read_is : (w base : TheWorld) → base ≡ w → (n place : ℕ) → HasEnd w.cores n place → (read : TheCore) → read ≡ slice_index_or base.cores n read
    → slice_get w.cores n ≡ Some read
read_is w base same n place h read value =
    let below : n < length base.cores
    = subst (λ (x : TheWorld). n < length x.cores) (sym same) (slice_get_within w.cores n h.core h.core_is) in
    sym (ap (λ (x : TheWorld). slice_get x.cores n) same) ∙ stands base.cores n read read below value refl

-- ---- where an end that is made puts

pub writes_by : (w base : TheWorld) → base ≡ w → (n place : ℕ) → HasEnd w.cores n place → (read : TheCore) → read ≡ slice_index_or base.cores n read
    → (o : Outlet) → outlet_of read place ≡ Some o → (a : Answer) (w2 : TheWorld) → WritesOver o n place w a w2 → WritesBy (made n place) w a w2
writes_by w base same n place h read value o puts a w2 r =
    (o, record { core = read; core_is = read_is w base same n place h read value; outlet_is = puts }, r)

-- ---- what is due

module _ (w base : TheWorld) (same : base ≡ w) (n : ℕ) (at : DueEnd) (i : Inlet) (h : IsDueOver w.cores n at i) (read : TheCore)
    (value : read ≡ slice_index_or base.cores n read) where
  due_core : h.core ≡ read
  due_core =
      let below : n < length base.cores
      = subst (λ (x : TheWorld). n < length x.cores) (sym same) (slice_get_within w.cores n h.core h.core_is) in
      same_Some h.core read (sym h.core_is ∙ sym (ap (λ (x : TheWorld). slice_get x.cores n) same) ∙ stands base.cores n read read below value refl)

  pub due_there : at.dispatcher < length read.board.dispatchers
  due_there = subst (λ (k : TheCore). at.dispatcher < length k.board.dispatchers) due_core h.there

  pub due_end : due read.board at.dispatcher ≡ Some at.end
  due_end = subst (λ (k : TheCore). due k.board at.dispatcher ≡ Some at.end) due_core h.due_is

  pub due_within : at.end < length read.board.seats
  due_within = subst (λ (k : TheCore). at.end < length k.board.seats) due_core h.within

  due_inlet : inlet_of read at.end ≡ Some i
  due_inlet = subst (λ (k : TheCore). inlet_of k at.end ≡ Some i) due_core h.inlet_is

  pub lent_to_queue : (q : ℕ) → i ≡ inlet.Queue q → arrivals_of read at.end ≡ None
  lent_to_queue q is = lent_queue read at.end q (due_inlet ∙ ap Some is)

  pub lent_to_side : (m : ℕ) → i ≡ inlet.Side m → arrivals_of read at.end ≡ None
  lent_to_side m is = lent_side read at.end m (due_inlet ∙ ap Some is)

-- ---- where an end that is made takes from

module _ (w base : TheWorld) (same : base ≡ w) (n place : ℕ) (h : HasEnd w.cores n place) (read : TheCore)
    (value : read ≡ slice_index_or base.cores n read) (i : Inlet) (takes : inlet_of read place ≡ Some i) where
  core_is : slice_get w.cores n ≡ Some read
  core_is = read_is w base same n place h read value

  pub takes_from : (k : TheCore) → slice_get w.cores n ≡ Some k → inlet_of k place ≡ Some i
  takes_from k is = subst (λ (x : TheCore). inlet_of x place ≡ Some i) (same_Some read k (sym core_is ∙ is)) takes

  pub registers_by : (a : Answer) (w2 : TheWorld) → RegistersOver i n place w a w2 → RegistersBy (made n place) w a w2
  registers_by a w2 r = (i, record { core = read; core_is = core_is; inlet_is = takes }, r)

  pub has_inlet : HasInlet w n place i
  has_inlet = record { core = read; core_is = core_is; inlet_is = takes }

  pub acks_by : (a : Answer) (w2 : TheWorld) → AcksOver i read n (answer_at place a) w w2 → AcksAt (made n place) w a w2
  acks_by a w2 r = (i, (record { core = read; core_is = core_is; inlet_is = takes }, r))
