-- What happens at the parts of a world, as an event of the world: w is the world before, and base the same by its fields.
use Rattle.std.proofs.Common.{◌≡◌, ◌%◌, ◌⊎◌, refl, sym, ap, ◌∙◌, subst, ℕ, ◌<◌, ◌≤◌, length-set, length, slice_get, slice_set, slice_index_or, List, Option, Some, None, Result, Ok, Err, IfOk, OnErr, inl, inr}
use Rattle.std.proofs.lemmas.Option.{slice_get_within}
use Rattle.fl_base.specs.declared.identity.EndId.{EndId}
use Rattle.fl_link.specs.Cursor.{epoch_at}
use Rattle.fl_link.specs.Queue.{TheQueue, next_epoch_of}
use Rattle.fl_ring.specs.Duo.{TheDuo, side_of, got}
use Rattle.fl_ring.specs.declared.duo_side.DuoSide.{DuoSide}
use Rattle.fl_endpoint.specs.View.{TheEnd}
use Rattle.fl_base.specs.declared.fragment.Frag.{Frag}
use Rattle.fl_base.specs.declared.identity.LinkId.{LinkId}
use Rattle.fl_core.specs.declared.answer.MonitorAnswer.{MonitorAnswer}
use Rattle.fl_core.specs.declared.fault.LinkReceiveFault.{LinkReceiveFault}
use Rattle.fl_core.specs.Hearing.{Offers}
use Rattle.fl_world_refines.specs.Linking.{incoming, HearsWith}
use Rattle.fl_core.specs.View.{TheCore}
use Rattle.std.specs.declared.alloc.AllocError.{AllocError}
use Rattle.fl_base.specs.Given.{given}
use Rattle.fl_model.specs.declared.answer.BriefAnswer.{BriefAnswer}
use Rattle.fl_model.specs.declared.answer.TurnedAnswer.{TurnedAnswer}
use Rattle.fl_value_data.specs.Value.{TheCall}
use Rattle.fl_model.specs.Views.{brief_of, turned_of}
use Rattle.fl_core.specs.declared.wiring.Inlet.{Inlet}
use Rattle.fl_world_events.specs.declared.taking.DueEnd.{DueEnd}
use Rattle.fl_model.specs.Events.{Answer}
use Rattle.fl_world_refines.specs.declared.binding.Binding.{Binding}
use Rattle.fl_world_refines.specs.Sending.{PreviewsWith, PreviewsOver}
use Rattle.fl_core.specs.declared.wiring.Outlet.TheVariants as outlet
use Rattle.fl_world_refines.specs.View.{TheWorld, WhereEnd, ring_at, which_at, nowhere, unmade, location_at, location_of, core_in}
use Rattle.fl_world_refines.specs.Lending.{AtCore, OverQueue, OverSide, KeepsNone, IsStray}
use Rattle.fl_world_events.specs.Places.{HasEnd, HasLink}
use Rattle.fl_world.specs.Places.{IsDueOver}
use Rattle.fl_world_events.specs.Parts.{InCore, ByQueue, ByRing, KeptOrNone}
use Rattle.fl_world.specs.Parts.{AtUnmadeOrNone}
use Rattle.fl_world_events.proofs.Lifts.{one_value, put_back, stands}

pub at_core : (w base : TheWorld) → base ≡ w → (n : ℕ) → n < length base.cores → (k read : TheCore) → read ≡ slice_index_or base.cores n read → k ≡ read
    → (Event : TheCore → TheCore → Type 0) (k2 : TheCore) → InCore Event k k2 → AtCore w n Event (record base { cores = slice_set base.cores n k2 })
at_core w base same n below k read value view Event k2 h =
    subst (λ (x : TheWorld). AtCore x n Event (record base { cores = slice_set base.cores n k2 })) same (record {
      before = k;
      before_is = stands base.cores n k read below value view;
      whole = h.whole;
      after = k2;
      still = h.still;
      event = h.event;
      rest = refl;
    })

pub over_queue : (w base : TheWorld) → base ≡ w → (n q : ℕ) → n < length base.cores → q < length base.queues
    → (k read : TheCore) → read ≡ slice_index_or base.cores n read → k ≡ read → (p pread : TheQueue) → pread ≡ slice_index_or base.queues q pread → p ≡ pread
    → (Event : TheCore → TheQueue → TheCore → TheQueue → Type 0) (k2 : TheCore) (p2 : TheQueue) → ByQueue Event k p k2 p2
    → OverQueue w n q Event (record base { cores = slice_set base.cores n k2; queues = slice_set base.queues q p2 })
over_queue w base same n q below there k read value view p pread pvalue pview Event k2 p2 h =
    subst (λ (x : TheWorld). OverQueue x n q Event (record base { cores = slice_set base.cores n k2; queues = slice_set base.queues q p2 })) same (record {
      before = k;
      before_is = stands base.cores n k read below value view;
      whole = h.whole;
      queue = p;
      queue_is = stands base.queues q p pread there pvalue pview;
      after = k2;
      still = h.still;
      left = p2;
      event = h.event;
      rest = refl;
    })

-- the ring's place is i
pub over_side : (w base : TheWorld) → base ≡ w → (n m i : ℕ) → i ≡ ring_at m → n < length base.cores → i < length base.rings
    → (k read : TheCore) → read ≡ slice_index_or base.cores n read → k ≡ read → (r rread : TheDuo) → rread ≡ slice_index_or base.rings i rread → r ≡ rread
    → (Event : TheCore → DuoSide → TheCore → DuoSide → Type 0) (k2 : TheCore) (r2 : TheDuo) → ByRing m Event k r k2 r2
    → OverSide w n m Event (record base { cores = slice_set base.cores n k2; rings = slice_set base.rings i r2 })
over_side w base same n m i at below there k read value view r rread rvalue rview Event k2 r2 h =
    subst (λ (x : TheWorld). OverSide x n m Event (record base { cores = slice_set base.cores n k2; rings = slice_set base.rings i r2 })) same (record {
      before = k;
      before_is = stands base.cores n k read below value view;
      whole = h.whole;
      ring = r;
      ring_is = subst (λ (j : ℕ). slice_get base.rings j ≡ Some r) at (stands base.rings i r rread there rvalue rview);
      side = h.over.side;
      lent = h.over.lent;
      after = k2;
      still = h.still;
      left = h.over.left;
      event = h.over.event;
      rest = ap (λ (x : TheDuo). record base { cores = slice_set base.cores n k2; rings = slice_set base.rings i x }) h.over.rest
          ∙ ap (λ (j : ℕ). record base { cores = slice_set base.cores n k2; rings = slice_set base.rings j h.over.left.duo.now }) at;
    })

-- ---- ends

-- an event by where its end is, from what it comes to there
pub at_location : (Event : WhereEnd → TheWorld → Answer → TheWorld → Type 0) (w : TheWorld) (e : EndId) (s : WhereEnd) → s ≡ location_of w e → (a : Answer) (w2 : TheWorld)
    → Event s w a w2 → Event (location_of w e) w a w2
at_location Event w e s is a w2 h = subst (λ (x : WhereEnd). Event x w a w2) is h

pub core_below : (cores : List TheCore) (n place : ℕ) → HasEnd cores n place → n < length cores
core_below cores n place h = slice_get_within cores n h.core h.core_is

pub end_below : (cores : List TheCore) (n place : ℕ) (k : TheCore) → HasEnd cores n place → slice_get cores n ≡ Some k → place < length k.board.seats
end_below cores n place k h is = subst (λ (x : TheCore). place < length x.board.seats) (one_value h.core k (sym h.core_is ∙ is)) h.within

-- by the fields of the world before
pub core_read : (w base : TheWorld) → base ≡ w → (n place : ℕ) → HasEnd w.cores n place → n < length base.cores
core_read w base same n place h = subst (λ (x : TheWorld). n < length x.cores) (sym same) (core_below w.cores n place h)

pub end_read : (w base : TheWorld) → base ≡ w → (n place : ℕ) → HasEnd w.cores n place → (k read : TheCore) → read ≡ slice_index_or base.cores n read → k ≡ read
    → place < length k.board.seats
end_read w base same n place h k read value view =
    end_below base.cores n place k (subst (λ (x : TheWorld). HasEnd x.cores n place) (sym same) h)
    (stands base.cores n k read (core_read w base same n place h) value view)

-- ---- what becomes of an answer

pub on_err : {X E : Type 0} (P : Type 0) (r : Result X E) → OnErr r P → (e : E) → r ≡ Err e → P
on_err P (Ok x) h e is = absurd (cc)
on_err P (Err f) h e is = h

-- ---- what is kept

pub few_kept : {X : Type 0} (xs : List X) (n : ℕ) (x : X) → length xs ≤ 16 → length (slice_set xs n x) ≤ 16
few_kept xs n x h = subst (λ (l : ℕ). l ≤ 16) (sym (length-set xs n x)) h

pub core_put_back : (w base : TheWorld) → base ≡ w → (n : ℕ) (k2 k read : TheCore) → read ≡ slice_index_or base.cores n read → k ≡ read → k2 ≡ k
    → record base { cores = slice_set base.cores n k2 } ≡ w
core_put_back w base same n k2 k read value view kept =
    ap (λ (xs : List TheCore). record base { cores = xs }) (put_back base.cores n k2 k read value view kept) ∙ same

pub queue_put_back : (w base : TheWorld) → base ≡ w → (n q : ℕ) (k2 k read : TheCore) → read ≡ slice_index_or base.cores n read → k ≡ read → k2 ≡ k
    → (p2 p pread : TheQueue) → pread ≡ slice_index_or base.queues q pread → p ≡ pread → p2 ≡ p
    → record base { cores = slice_set base.cores n k2; queues = slice_set base.queues q p2 } ≡ w
queue_put_back w base same n q k2 k read value view kept p2 p pread pvalue pview pkept =
    ap (λ (xs : List TheCore). record base { cores = xs; queues = slice_set base.queues q p2 }) (put_back base.cores n k2 k read value view kept)
    ∙ ap (λ (xs : List TheQueue). record base { queues = xs }) (put_back base.queues q p2 p pread pvalue pview pkept) ∙ same

pub ring_put_back : (w base : TheWorld) → base ≡ w → (n m : ℕ) (k2 k read : TheCore) → read ≡ slice_index_or base.cores n read → k ≡ read → k2 ≡ k
    → (r2 r rread : TheDuo) → rread ≡ slice_index_or base.rings m rread → r ≡ rread → r2 ≡ r
    → record base { cores = slice_set base.cores n k2; rings = slice_set base.rings m r2 } ≡ w
ring_put_back w base same n m k2 k read value view kept r2 r rread rvalue rview rkept =
    ap (λ (xs : List TheCore). record base { cores = xs; rings = slice_set base.rings m r2 }) (put_back base.cores n k2 k read value view kept)
    ∙ ap (λ (xs : List TheDuo). record base { rings = xs }) (put_back base.rings m r2 r rread rvalue rview rkept) ∙ same

pub on_err_map : {X E : Type 0} (P Q : Type 0) (r : Result X E) → (P → Q) → OnErr r P → OnErr r Q
on_err_map P Q (Ok x) f h = tt
on_err_map P Q (Err e) f h = f h

pub on_err_both : {X E : Type 0} (P Q R : Type 0) (r : Result X E) → (P → Q → R) → OnErr r P → OnErr r Q → OnErr r R
on_err_both P Q R (Ok x) f h k = tt
on_err_both P Q R (Err e) f h k = f h k

-- an outcome that is out of memory, and what is kept then
pub kept_by : {X Y E F : Type 0} (P : Type 0) (o : Result X E) (e : E) (r : Result Y F) → OnErr r (o ≡ Err e) → OnErr o P → OnErr r P
kept_by P o e (Ok x) h k = tt
kept_by P o e (Err f) h k = on_err P o k e h

-- the binding of an end that isn't made is there
pub unmade_below : (w : TheWorld) (e : EndId) → unmade ≡ location_of w e → e.binding < length w.bindings
unmade_below w e h = cases (slice_get w.bindings e.binding) refl where
  cases : (o : Option Binding) → slice_get w.bindings e.binding ≡ o → e.binding < length w.bindings
  cases (Some b) is = slice_get_within w.bindings e.binding b is
  cases None is =
      let nothing : nowhere ≡ unmade = sym (h ∙ ap (λ (o : Option Binding). given o nowhere λ b. location_at w.cores (core_in e.side b) e) is) in
      absurd (cc)

-- the end that a binding keeps, in the world
pub at_unmade : (w base : TheWorld) → base ≡ w → (n : ℕ) → n < length base.bindings → (b read : Binding) → read ≡ slice_index_or base.bindings n read → b ≡ read
    → (Event : TheEnd → TheEnd → Type 0) (a : Answer) (b2 : Binding) → KeptOrNone Event a b b2
    → AtUnmadeOrNone w n Event a (record base { bindings = slice_set base.bindings n b2 })
at_unmade w base same n below b read value view Event a b2 (inl h) =
    subst (λ (x : TheWorld). AtUnmadeOrNone x n Event a (record base { bindings = slice_set base.bindings n b2 })) same (inl (record {
      binding = b;
      binding_is = stands base.bindings n b read below value view;
      before = h.before;
      before_is = h.before_is;
      after = h.after;
      event = h.event;
      rest = ap (λ (x : Binding). record base { bindings = slice_set base.bindings n x }) h.rest;
    }))
at_unmade w base same n below b read value view Event a b2 (inr h) =
    let here : KeepsNone base n = record { binding = b; binding_is = stands base.bindings n b read below value view; none = h.0 } in
    let kept : record base { bindings = slice_set base.bindings n b2 } ≡ base
    = ap (λ (xs : List Binding). record base { bindings = xs }) (put_back base.bindings n b2 b read value view h.2) in
    subst (λ (x : TheWorld). AtUnmadeOrNone x n Event a (record base { bindings = slice_set base.bindings n b2 })) same (inr (here, (h.1, kept)))

-- core n is there, and queue q or a ring alone has changed
pub over_side_alone : (w base : TheWorld) → base ≡ w → (n m i : ℕ) → i ≡ ring_at m → n < length base.cores → i < length base.rings
    → (k read : TheCore) → read ≡ slice_index_or base.cores n read → k ≡ read → (r rread : TheDuo) → rread ≡ slice_index_or base.rings i rread → r ≡ rread
    → (Event : TheCore → DuoSide → TheCore → DuoSide → Type 0) (r2 : TheDuo) → ByRing m Event k r k r2
    → OverSide w n m Event (record base { rings = slice_set base.rings i r2 })
over_side_alone w base same n m i at below there k read value view r rread rvalue rview Event r2 h =
    subst (λ (x : TheWorld). OverSide w n m Event x)
    (ap (λ (xs : List TheCore). record base { cores = xs; rings = slice_set base.rings i r2 }) (put_back base.cores n k k read value view refl))
    (over_side w base same n m i at below there k read value view r rread rvalue rview Event k r2 h)

-- ---- where there may be no memory

pub core_if_ok : {A : Type 0} (w base : TheWorld) → base ≡ w → (n : ℕ) → n < length base.cores → (k read : TheCore) → read ≡ slice_index_or base.cores n read → k ≡ read
    → (Event : A → TheCore → TheCore → Type 0) (k2 : TheCore) (r : Result A AllocError) → IfOk r (λ a. InCore (Event a) k k2)
    → IfOk r (λ a. AtCore w n (Event a) (record base { cores = slice_set base.cores n k2 }))
core_if_ok w base same n below k read value view Event k2 (Ok a) h = at_core w base same n below k read value view (Event a) k2 h
core_if_ok w base same n below k read value view Event k2 (Err e) h = tt

pub queue_if_ok : (w base : TheWorld) → base ≡ w → (n q : ℕ) → n < length base.cores → q < length base.queues
    → (k read : TheCore) → read ≡ slice_index_or base.cores n read → k ≡ read → (p pread : TheQueue) → pread ≡ slice_index_or base.queues q pread → p ≡ pread
    → (Event : TurnedAnswer → TheCore → TheQueue → TheCore → TheQueue → Type 0) (call : TheCall) (k2 : TheCore) (p2 : TheQueue) (r : Result TurnedAnswer AllocError)
    → IfOk r (λ a. ByQueue (Event a) k p k2 p2)
    → IfOk r (λ a. OverQueue w n q (Event a) (record base { cores = slice_set base.cores n k2; queues = slice_set base.queues q p2 })
    ⊎ IsStray w.queues q w (turned_of a call) (record base { cores = slice_set base.cores n k2; queues = slice_set base.queues q p2 }))
queue_if_ok w base same n q below there k read value view p pread pvalue pview Event call k2 p2 (Ok a) h =
    inl (over_queue w base same n q below there k read value view p pread pvalue pview (Event a) k2 p2 h)
queue_if_ok w base same n q below there k read value view p pread pvalue pview Event call k2 p2 (Err e) h = tt

pub side_if_ok : (w base : TheWorld) → base ≡ w → (n m i : ℕ) → i ≡ ring_at m → n < length base.cores → i < length base.rings
    → (k read : TheCore) → read ≡ slice_index_or base.cores n read → k ≡ read → (r rread : TheDuo) → rread ≡ slice_index_or base.rings i rread → r ≡ rread
    → (Event : TurnedAnswer → TheCore → DuoSide → TheCore → DuoSide → Type 0) (call : TheCall) (k2 : TheCore) (r2 : TheDuo) (o : Result TurnedAnswer AllocError)
    → IfOk o (λ a. ByRing m (Event a) k r k2 r2)
    → IfOk o (λ a. OverSide w n m (Event a) (record base { cores = slice_set base.cores n k2; rings = slice_set base.rings i r2 })
    ⊎ IsStray w.rings (ring_at m) w (turned_of a call) (record base { cores = slice_set base.cores n k2; rings = slice_set base.rings i r2 }))
side_if_ok w base same n m i at below there k read value view r rread rvalue rview Event call k2 r2 (Ok a) h =
    inl (over_side w base same n m i at below there k read value view r rread rvalue rview (Event a) k2 r2 h)
side_if_ok w base same n m i at below there k read value view r rread rvalue rview Event call k2 r2 (Err e) h = tt

pub unmade_if_ok : (w base : TheWorld) → base ≡ w → (n : ℕ) → n < length base.bindings → (b read : Binding) → read ≡ slice_index_or base.bindings n read → b ≡ read
    → (Event : BriefAnswer → TheEnd → TheEnd → Type 0) (b2 : Binding) (r : Result BriefAnswer AllocError) → IfOk r (λ a. KeptOrNone (Event a) (brief_of a) b b2)
    → IfOk r (λ a. AtUnmadeOrNone w n (Event a) (brief_of a) (record base { bindings = slice_set base.bindings n b2 }))
unmade_if_ok w base same n below b read value view Event b2 (Ok a) h = at_unmade w base same n below b read value view (Event a) (brief_of a) b2 h
unmade_if_ok w base same n below b read value view Event b2 (Err e) h = tt

pub binding_read : (w base : TheWorld) → base ≡ w → (n : ℕ) → n < length w.bindings → n < length base.bindings
binding_read w base same n h = subst (λ (x : TheWorld). n < length x.bindings) (sym same) h

-- what is due
pub due_read : (w base : TheWorld) → base ≡ w → (n : ℕ) (at : DueEnd) (i : Inlet) → IsDueOver w.cores n at i → n < length base.cores
due_read w base same n at i h = subst (λ (x : TheWorld). n < length x.cores) (sym same) (slice_get_within w.cores n h.core h.core_is)

-- a link's core
pub link_read : (w base : TheWorld) → base ≡ w → (n l : ℕ) → HasLink w.cores n l → n < length base.cores
link_read w base same n l h = subst (λ (x : TheWorld). n < length x.cores) (sym same) (slice_get_within w.cores n h.core h.core_is)

-- ---- what is shown

-- the core that was read
pub core_is_read : (w base : TheWorld) → base ≡ w → (n place : ℕ) → HasEnd w.cores n place → (read : TheCore) → read ≡ slice_index_or base.cores n read
    → (k : TheCore) → slice_get w.cores n ≡ Some k → read ≡ k
core_is_read w base same n place h read value k is =
    one_value read k (sym (stands base.cores n read read (core_read w base same n place h) value refl)
    ∙ subst (λ (x : TheWorld). slice_get x.cores n ≡ Some k) (sym same) is)

pub queue_previews : (w : TheWorld) (place q : ℕ) (t : TheQueue) (a : Answer) (read k : TheCore) → read ≡ k → slice_get w.queues q ≡ Some t
    → PreviewsWith (next_epoch_of t) 0 read place a → PreviewsOver w k place (outlet.Queue q) a w
queue_previews w place q t a read k here there h = inl (t, there, subst (λ (x : TheCore). PreviewsWith (next_epoch_of t) 0 x place a) here h, refl)

pub ring_previews : (w base : TheWorld) → base ≡ w → (place m i : ℕ) → i ≡ ring_at m → i < length base.rings → (read k : TheCore) → read ≡ k
    → (r rread : TheDuo) → rread ≡ slice_index_or base.rings i rread → r ≡ rread → (r2 : TheDuo) → r2 ≡ r → (a : Answer)
    → PreviewsWith (epoch_at r.size (side_of (which_at m) r).sent) (got (side_of (which_at m) r) % 65536) read place a
    → PreviewsOver w k place (outlet.Side m) a (record base { rings = slice_set base.rings i r2 })
ring_previews w base same place m i at there read k here r rread value view r2 kept a h =
    let standing : slice_get base.rings i ≡ Some r = stands base.rings i r rread there value view in
    inl (
      r,
      subst (λ (j : ℕ). slice_get w.rings j ≡ Some r) at (subst (λ (x : TheWorld). slice_get x.rings i ≡ Some r) same standing),
      subst (λ (x : TheCore). PreviewsWith (epoch_at r.size (side_of (which_at m) r).sent) (got (side_of (which_at m) r) % 65536) x place a) here h,
      ap (λ (xs : List TheDuo). record base { rings = xs }) (put_back base.rings i r2 r rread value view kept) ∙ same,
    )

pub ring_read : (w base : TheWorld) → base ≡ w → (m i : ℕ) → i ≡ ring_at m → ring_at m < length w.rings → i < length base.rings
ring_read w base same m i at h = subst (λ (j : ℕ). j < length base.rings) (sym at) (subst (λ (x : TheWorld). ring_at m < length x.rings) (sym same) h)

-- what is lent when a message is heard
pub hears_in : (m : ℕ) (o o2 : Offers) → o ≡ o2 → (l : LinkId) (f : Frag) (r : Result MonitorAnswer LinkReceiveFault) (k k2 : TheCore) (p q : TheDuo)
    → ByRing m (HearsWith (incoming o l f) r) k p k2 q → ByRing m (HearsWith (incoming o2 l f) r) k p k2 q
hears_in m o o2 same l f r k k2 p q h = subst (λ (x : Offers). ByRing m (HearsWith (incoming x l f) r) k p k2 q) same h
