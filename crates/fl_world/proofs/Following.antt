-- What a core follows after a look, and what is left of the look where it isn't followed.
use Rattle.std.proofs.Common.{◌≡◌, ◌≢◌, ◌<◌, refl, sym, ap, ◌∙◌, subst, ℕ, zero, suc, List, [], ◌∷◌, length, slice_get, slice_set, slice_index_or, length-set, Some, None, Result, Ok, Err, IfOk, OnOk, OnErr, inl, inr}
use Rattle.std.proofs.lemmas.Option.{slice_get_within, same_Some}
use Rattle.std.specs.declared.alloc.AllocError.{AllocError}
use Rattle.fl_base.specs.declared.fragment.Frag.{Frag}
use Rattle.fl_base.specs.declared.identity.LinkId.{LinkId}
use Rattle.fl_base.specs.Control.{bare}
use Rattle.fl_base.specs.Numbered.{link_id}
use Rattle.fl_link.specs.Looks.{saw}
use Rattle.fl_link.specs.Queue.{front_of}
use Rattle.fl_ring.specs.Duo.{TheDuo, DuoTakes, MayForget, side_of, knowing}
use Rattle.fl_ring.specs.Laws.{ForgetsLooks}
use Rattle.fl_ring.specs.Side.{SameSide, SideTakes}
use Rattle.fl_ring.specs.declared.one_duo.WhichSide.{WhichSide}
use Rattle.fl_ring.specs.declared.duo_side.DuoSide.{DuoSide}
use Rattle.fl_endpoint.specs.View.{TheEnd}
use Rattle.fl_core.specs.declared.answer.LinkFront.{LinkFront}
use Rattle.fl_core.specs.declared.answer.LinkFront.TheVariants as ahead
use Rattle.fl_core.specs.declared.answer.MonitorAnswer.{MonitorAnswer}
use Rattle.fl_core.specs.declared.fault.LinkReceiveFault.{LinkReceiveFault}
use Rattle.fl_core.specs.declared.fault.LinkReceiveFault.TheVariants.{Memory}
use Rattle.fl_core.specs.Hearing.{Offers}
use Rattle.fl_core.specs.View.{TheCore}
use Rattle.fl_model.specs.Events.{Answer}
use Rattle.fl_world_refines.specs.declared.binding.Binding.{Binding}
use Rattle.fl_world_refines.specs.View.{TheWorld, ring_at, which_at, with_ring}
use Rattle.fl_world_refines.specs.Lending.{OverSide, front_for}
use Rattle.fl_world_refines.specs.Linking.{LinkNumbers, offers_in, LooksWith, incoming, HearsWith, HearsFirst, IsHeard, HasRules}
use Rattle.fl_model.specs.declared.answer.BriefAnswer.{BriefAnswer}
use Rattle.fl_model.specs.Views.{brief_of}
use Rattle.fl_world_events.specs.declared.moving.ForwardFrag.{ForwardFrag}
use Rattle.fl_world_events.specs.Places.{HasLink}
use Rattle.fl_world_events.specs.Parts.{InCore}
use Rattle.fl_world_events.specs.Passing.{StandsAt, PassesOver}
use Rattle.fl_world_events.specs.Following.{TakesRulesOf, TakesKept}
use Rattle.fl_world.specs.Following.{KnowsAt, MayForgetAt, Forgot, MayFollow, Forgets, GoesOn, TakesRulesOrNone}
use Rattle.fl_world_events.proofs.Lifts.{stands}
use Rattle.fl_world_events.proofs.Following.{set_same}

-- ---- lists

set_here : {X : Type 0} (xs : List X) (i : ℕ) (x y : X) → slice_get xs i ≡ Some x → slice_get (slice_set xs i y) i ≡ Some y
set_here [] i x y e = absurd (cc)
set_here (z ∷ xs) zero x y e = refl
set_here (z ∷ xs) (suc i) x y e = set_here xs i x y e

set_twice : {X : Type 0} (xs : List X) (i : ℕ) (x y : X) → slice_set (slice_set xs i x) i y ≡ slice_set xs i y
set_twice [] i x y = refl
set_twice (z ∷ xs) zero x y = refl
set_twice (z ∷ xs) (suc i) x y = ap (λ ys. z ∷ ys) (set_twice xs i x y)

-- ---- what a look leaves

not_moved : (l : ℕ) (k k2 : TheCore) (p q : DuoSide) (a : LinkFront) → LooksWith l (Ok a) k p k2 q → k2 ≡ k
not_moved l k k2 p q ahead.Nothing h = h.1
not_moved l k k2 p q ahead.Acknowledged h = h.1
not_moved l k k2 p q (ahead.Message frag) h = h.1
not_moved l k k2 p q (ahead.Onward frag onto circuit) h = h.1
not_moved l k k2 p q (ahead.Arrival frag name) h = h.1

cores_stay : (w w2 : TheWorld) (n m l : ℕ) (a : LinkFront) → OverSide w n m (LooksWith l (Ok a)) w2 → w2.cores ≡ w.cores
cores_stay w w2 n m l a h =
    ap (λ (x : TheWorld). x.cores) h.rest
    ∙ ap (slice_set w.cores n) (not_moved l h.before h.after h.side h.left a h.event)
    ∙ set_same w.cores n h.before h.before_is

pub link_stays : (w w2 : TheWorld) (n m l : ℕ) (a : LinkFront) → OverSide w n m (LooksWith l (Ok a)) w2 → HasLink w.cores n l → HasLink w2.cores n l
link_stays w w2 n m l a h link = subst (λ (xs : List TheCore). HasLink xs n l) (sym (cores_stay w w2 n m l a h)) link

module _ (w w2 : TheWorld) (n m : ℕ) (Event : TheCore → DuoSide → TheCore → DuoSide → Type 0) (h : OverSide w n m Event w2) where
  pub ring_left : slice_get w2.rings (ring_at m) ≡ Some h.left.duo.now
  ring_left = ap (λ (x : TheWorld). slice_get x.rings (ring_at m)) h.rest ∙ set_here w.rings (ring_at m) h.ring h.left.duo.now h.ring_is

  pub rings_stay : ring_at m < length w.rings → ring_at m < length w2.rings
  rings_stay within = slice_get_within w2.rings (ring_at m) h.left.duo.now ring_left

  which_left : SameSide h.side h.left → h.left.which ≡ which_at m
  which_left same = same.1 ∙ h.lent.which

  pub stands_left : (f : Frag) → SameSide h.side h.left → front_for h.left ≡ saw (bare f) → StandsAt w2.rings m f
  stands_left f same front r is =
      subst (λ (x : TheDuo). front_of (side_of (which_at m) x).waiting ≡ saw (bare f)) (same_Some h.left.duo.now r (sym ring_left ∙ is))
      (subst (λ (x : WhichSide). front_of (side_of x h.left.duo.now).waiting ≡ saw (bare f)) (which_left same) front)

  saw_ring : (f : Frag) → SideTakes h.side (saw f) h.left → DuoTakes (which_at m) h.ring (saw f) h.left.duo.now
  saw_ring f takes =
      subst (λ (x : TheDuo). DuoTakes (which_at m) x (saw f) h.left.duo.now) h.lent.ring
      (subst (λ (x : WhichSide). DuoTakes x h.side.duo.now (saw f) h.left.duo.now) h.lent.which takes.1)

  forgets : ForgetsLooks → (known : ℕ) → KnowsAt w.rings m known → (f : Frag) → SideTakes h.side (saw f) h.left
      → MayForget h.left.duo.now.size (side_of (which_at m) h.left.duo.now) known × (knowing (which_at m) h.left.duo.now known ≡ h.ring)
  forgets law known knows f takes =
      let knew = knows h.ring h.ring_is in
      subst (λ (x : ℕ). MayForget h.left.duo.now.size (side_of (which_at m) h.left.duo.now) x × (knowing (which_at m) h.left.duo.now x ≡ h.ring)) (sym knew.0)
      (law (which_at m) h.ring h.left.duo.now (saw f ∷ []) knew.1 (h.left.duo.now, (refl, inr (saw_ring f takes)), refl))

  pub may_forget : ForgetsLooks → (known : ℕ) → KnowsAt w.rings m known → (f : Frag) → SideTakes h.side (saw f) h.left → MayForgetAt w2.rings m known
  may_forget law known knows f takes r is =
      subst (λ (x : TheDuo). MayForget x.size (side_of (which_at m) x) known) (same_Some h.left.duo.now r (sym ring_left ∙ is)) ((forgets law known knows f takes).0)

  -- where the core is as it was, so is the world once the look is forgotten
  pub forgotten : ForgetsLooks → (known : ℕ) → KnowsAt w.rings m known → (f : Frag) → SideTakes h.side (saw f) h.left → h.after ≡ h.before
      → (w3 : TheWorld) → Forgot w2 m known w3 → w3 ≡ w
  forgotten law known knows f takes same w3 forgot =
      let ring : forgot.ring ≡ h.left.duo.now = same_Some forgot.ring h.left.duo.now (sym forgot.ring_is ∙ ring_left) in
      let back : knowing (which_at m) forgot.ring known ≡ h.ring = ap (λ (x : TheDuo). knowing (which_at m) x known) ring ∙ (forgets law known knows f takes).1 in
      let cores : slice_set w.cores n h.after ≡ w.cores = ap (slice_set w.cores n) same ∙ set_same w.cores n h.before h.before_is in
      let rings : slice_set (slice_set w.rings (ring_at m) h.left.duo.now) (ring_at m) h.ring ≡ w.rings =
      set_twice w.rings (ring_at m) h.left.duo.now h.ring ∙ set_same w.rings (ring_at m) h.ring h.ring_is in
      forgot.rest
      ∙ ap (λ (x : TheDuo). with_ring w2 (ring_at m) x) back
      ∙ ap (λ (x : TheWorld). with_ring x (ring_at m) h.ring) h.rest
      ∙ ap (λ (xs : List TheCore). record w { cores = xs; rings = slice_set (slice_set w.rings (ring_at m) h.left.duo.now) (ring_at m) h.ring }) cores
      ∙ ap (λ (xs : List TheDuo). record w { rings = xs }) rings

may_follow_ahead : ForgetsLooks → (w w2 : TheWorld) (n m l known : ℕ) → KnowsAt w.rings m known → (a : LinkFront) → OverSide w n m (LooksWith l (Ok a)) w2
    → MayFollow a m known w2.rings
may_follow_ahead law w w2 n m l known knows ahead.Nothing h = tt
may_follow_ahead law w w2 n m l known knows ahead.Acknowledged h = tt
may_follow_ahead law w w2 n m l known knows (ahead.Message f) h =
    let seen = h.event.0.finds in (
      stands_left w w2 n m (LooksWith l (Ok (ahead.Message f))) h f seen.0.0 seen.1,
      may_forget w w2 n m (LooksWith l (Ok (ahead.Message f))) h law known knows (bare f) seen.0,
    )
may_follow_ahead law w w2 n m l known knows (ahead.Onward f onto circuit) h =
    let seen = h.event.0.seen.finds in
    (stands_left w w2 n m (LooksWith l (Ok (ahead.Onward f onto circuit))) h f seen.0.0 seen.1, seen.4)
may_follow_ahead law w w2 n m l known knows (ahead.Arrival f name) h =
    let seen = h.event.0.finds in
    (stands_left w w2 n m (LooksWith l (Ok (ahead.Arrival f name))) h f seen.0.0 seen.1, seen.4)

pub may_follow : ForgetsLooks → (w w2 : TheWorld) (n m l known : ℕ) → KnowsAt w.rings m known → (o : Result LinkFront LinkReceiveFault) → OverSide w n m (LooksWith l o) w2
    → (a : LinkFront) → o ≡ Ok a → MayFollow a m known w2.rings
may_follow law w w2 n m l known knows o h a is =
    may_follow_ahead law w w2 n m l known knows a (subst (λ (x : Result LinkFront LinkReceiveFault). OverSide w n m (LooksWith l x) w2) is h)

pub follow_forgotten : ForgetsLooks → (w w2 w3 : TheWorld) (n m l known : ℕ) → KnowsAt w.rings m known → (a : LinkFront)
    → OverSide w n m (LooksWith l (Ok a)) w2 → Forgets a w2 m known w3 → w3 ≡ w
follow_forgotten law w w2 w3 n m l known knows ahead.Nothing h forgets = absurd forgets
follow_forgotten law w w2 w3 n m l known knows ahead.Acknowledged h forgets = absurd forgets
follow_forgotten law w w2 w3 n m l known knows (ahead.Message f) h forgets =
    forgotten w w2 n m (LooksWith l (Ok (ahead.Message f))) h law known knows (bare f) h.event.0.finds.0 h.event.1 w3 forgets
follow_forgotten law w w2 w3 n m l known knows (ahead.Onward f onto circuit) h forgets = absurd forgets
follow_forgotten law w w2 w3 n m l known knows (ahead.Arrival f name) h forgets = absurd forgets

-- ---- a core forwards

forward_kept_ahead : {A : Type 0} → ForgetsLooks → (w w2 w3 : TheWorld) (n m l known : ℕ) → KnowsAt w.rings m known → (a : LinkFront) → OverSide w n m (LooksWith l (Ok a)) w2
    → (r : Result A AllocError) → OnErr r (Forgets a w2 m known w3) → OnErr r (w3 ≡ w)
forward_kept_ahead law w w2 w3 n m l known knows a h (Ok x) forgets = tt
forward_kept_ahead law w w2 w3 n m l known knows a h (Err e) forgets = follow_forgotten law w w2 w3 n m l known knows a h forgets

pub forward_kept : {A : Type 0} → ForgetsLooks → (w w2 w3 : TheWorld) (n m l known : ℕ) → KnowsAt w.rings m known → (o : Result LinkFront LinkReceiveFault) → OverSide w n m (LooksWith l o) w2
    → (a : LinkFront) → o ≡ Ok a → (r : Result A AllocError) → OnErr r (Forgets a w2 m known w3) → OnErr r (w3 ≡ w)
forward_kept law w w2 w3 n m l known knows o h a is r forgets =
    forward_kept_ahead law w w2 w3 n m l known knows a (subst (λ (x : Result LinkFront LinkReceiveFault). OverSide w n m (LooksWith l x) w2) is h) r forgets

-- ---- a message isn't heard

-- where memory is refused all is as it was
pub unheard_same : (w w2 : TheWorld) (n m : ℕ) (o : Offers) (l : LinkId) (f : Frag) → OverSide w n m (HearsWith (incoming o l f) (Err Memory)) w2 → w2 ≡ w
unheard_same w w2 n m o l f h =
    h.rest
    ∙ ap (λ (xs : List TheCore). record w { cores = xs; rings = slice_set w.rings (ring_at m) h.left.duo.now }) (ap (slice_set w.cores n) h.event.0 ∙ set_same w.cores n h.before h.before_is)
    ∙ ap (λ (xs : List TheDuo). record w { rings = xs })
    (ap (λ (x : DuoSide). slice_set w.rings (ring_at m) x.duo.now) h.event.1 ∙ ap (slice_set w.rings (ring_at m)) h.lent.ring ∙ set_same w.rings (ring_at m) h.ring h.ring_is)

-- what isn't heard is answered, and no rules are brought
left_told : (w w2 w3 : TheWorld) (n : ℕ) (at : LinkNumbers) (f : Frag) (fault : LinkReceiveFault) → OverSide w n at.side (HearsWith (incoming (offers_in w) (link_id at.link) f) (Err fault)) w2
    → (r : Result BriefAnswer AllocError) → OnOk r (w3 ≡ w2) → IfOk r (λ x. IsHeard (Err fault) (brief_of x)) → IfOk r (λ x. HearsFirst n at f w (brief_of x) w3)
left_told w w2 w3 n at f fault hears (Ok x) same answer = record { told = Err fault; heard = w2; hears = hears; answer = answer; rules = same }
left_told w w2 w3 n at f fault hears (Err e) same answer = tt

pub left_first : (w w2 w3 : TheWorld) (n : ℕ) (at : LinkNumbers) (f : Frag) (o : Result MonitorAnswer LinkReceiveFault)
    → OverSide w n at.side (HearsWith (incoming (offers_in w) (link_id at.link) f) o) w2 → (fault : LinkReceiveFault) → o ≡ Err fault
    → (r : Result BriefAnswer AllocError) → OnOk r (w3 ≡ w2) → IfOk r (λ x. IsHeard (Err fault) (brief_of x)) → IfOk r (λ x. HearsFirst n at f w (brief_of x) w3)
left_first w w2 w3 n at f o hears fault is =
    left_told w w2 w3 n at f fault (subst (λ (x : Result MonitorAnswer LinkReceiveFault). OverSide w n at.side (HearsWith (incoming (offers_in w) (link_id at.link) f) x) w2) is hears)

left_for_memory : {A : Type 0} (w w2 w3 : TheWorld) (n m known : ℕ) (o : Offers) (l : LinkId) (f : Frag) (fault : LinkReceiveFault) → OverSide w n m (HearsWith (incoming o l f) (Err fault)) w2
    → (r : Result A AllocError) → OnErr r (fault ≡ Memory) → OnErr r (Forgot w2 m known w3) → OnErr r (Forgot w m known w3)
left_for_memory w w2 w3 n m known o l f fault h (Ok x) is forgot = tt
left_for_memory w w2 w3 n m known o l f fault h (Err e) is forgot =
    subst (λ (x : TheWorld). Forgot x m known w3)
    (unheard_same w w2 n m o l f (subst (λ (x : LinkReceiveFault). OverSide w n m (HearsWith (incoming o l f) (Err x)) w2) is h)) forgot

pub left_forgot : {A : Type 0} (w w2 w3 : TheWorld) (n m known : ℕ) (o : Offers) (l : LinkId) (f : Frag) (told : Result MonitorAnswer LinkReceiveFault) → OverSide w n m (HearsWith (incoming o l f) told) w2
    → (fault : LinkReceiveFault) → told ≡ Err fault → (r : Result A AllocError) → OnErr r (fault ≡ Memory) → OnErr r (Forgot w2 m known w3) → OnErr r (Forgot w m known w3)
left_forgot w w2 w3 n m known o l f told h fault is =
    left_for_memory w w2 w3 n m known o l f fault (subst (λ (x : Result MonitorAnswer LinkReceiveFault). OverSide w n m (HearsWith (incoming o l f) x) w2) is h)

-- ---- a fragment moves

pub as_many : (p : ForwardFrag) (a : Answer) (rings rings2 : List TheDuo) → PassesOver p rings a rings2 → length rings2 ≡ length rings
as_many p a rings rings2 h =
    ap (λ (xs : List TheDuo). length xs) h.rest
    ∙ length-set (slice_set rings (ring_at p.from) h.after.from) (ring_at p.onto) h.after.onto
    ∙ length-set rings (ring_at p.from) h.after.from

pub goes_on : (w base : TheWorld) → base ≡ w → (p : ForwardFrag) (a : Answer) (rings rings2 left : List TheDuo) → rings ≡ base.rings → left ≡ rings2 → ring_at p.from ≢ ring_at p.onto
    → PassesOver p rings a rings2 → GoesOn p w a (record base { rings = left })
goes_on w base same p a rings rings2 left lent left_is apart passes =
    let h : PassesOver p base.rings a left = subst (λ (xs : List TheDuo). PassesOver p base.rings a xs) (sym left_is) (subst (λ (xs : List TheDuo). PassesOver p xs a rings2) lent passes) in
    subst (λ (x : TheWorld). GoesOn p x a (record base { rings = left })) same (inl (record {
      apart = apart;
      ring = h.before.from;
      ring_is = h.from_is;
      side = h.passes.side;
      lent = h.passes.lent;
      next = h.before.onto;
      next_is = h.onto_is;
      next_side = h.passes.next_side;
      next_lent = h.passes.next_lent;
      outcome = h.passes.outcome;
      put_side = h.passes.put_side;
      puts = h.passes.puts;
      left_side = h.passes.left_side;
      left = h.passes.left;
      answer = h.passes.answer;
      rest = ap (λ (xs : List TheDuo). record base { rings = xs })
          (h.rest
          ∙ ap (λ (x : TheDuo). slice_set (slice_set base.rings (ring_at p.from) x) (ring_at p.onto) h.after.onto) h.passes.from_rest
          ∙ ap (λ (x : TheDuo). slice_set (slice_set base.rings (ring_at p.from) h.passes.left_side.duo.now) (ring_at p.onto) x) h.passes.onto_rest);
    }))

-- ---- rules are brought

pub takes_rules : (w base : TheWorld) → base ≡ w → (n place i : ℕ) → n < length base.cores → i < length base.bindings
    → (k read : TheCore) → read ≡ slice_index_or base.cores n read → k ≡ read → (b bread : Binding) → bread ≡ slice_index_or base.bindings i bread → b ≡ bread
    → (o : TheEnd) → b.unmade ≡ Some o → (b2 : Binding) → b2 ≡ record b { unmade = None } → (k2 : TheCore) → InCore (TakesRulesOf o place) k k2
    → TakesRulesOrNone w n place i (record base { cores = slice_set base.cores n k2; bindings = slice_set base.bindings i b2 })
takes_rules w base same n place i below there k read value view b bread bvalue bview o o_is b2 b2_is k2 h =
    subst (λ (x : TheWorld). TakesRulesOrNone x n place i (record base { cores = slice_set base.cores n k2; bindings = slice_set base.bindings i b2 })) same (inl (record {
      has = record {
        core = k;
        core_is = stands base.cores n k read below value view;
        made = h.event.event.seat;
        made_is = h.event.event.seat_is;
        kept = b;
        kept_is = stands base.bindings i b bread there bvalue bview;
        end = o;
        end_is = o_is;
      };
      whole = h.whole;
      end = h.event.event.end;
      with_rules = h.event.event.event;
      after = k2;
      still = h.still;
      on_board = record {
        event = record { seat = h.event.event.seat; seat_is = h.event.event.seat_is; end = h.event.event.end; event = refl; board = h.event.event.board };
        rest = h.event.rest;
      };
      rest = ap (λ (x : Binding). record base { cores = slice_set base.cores n k2; bindings = slice_set base.bindings i x }) b2_is;
    }))

-- or it keeps no end
none_kept : (w : TheWorld) (n place i : ℕ) (b : Binding) → slice_get w.bindings i ≡ Some b → b.unmade ≡ None → HasRules w n place i → ⊥
none_kept w n place i b is none has =
    let kept : has.kept ≡ b = same_Some has.kept b (sym has.kept_is ∙ is) in
    let no : Some has.end ≡ None = sym has.end_is ∙ ap (λ (x : Binding). x.unmade) kept ∙ none in absurd (cc)

pub takes_kept : (w base : TheWorld) → base ≡ w → (n place i : ℕ) → n < length base.cores → i < length base.bindings
    → (k read : TheCore) → read ≡ slice_index_or base.cores n read → k ≡ read → (b bread : Binding) → bread ≡ slice_index_or base.bindings i bread → b ≡ bread
    → (k2 : TheCore) (b2 : Binding) → TakesKept place k b k2 b2
    → TakesRulesOrNone w n place i (record base { cores = slice_set base.cores n k2; bindings = slice_set base.bindings i b2 })
takes_kept w base same n place i below there k read value view b bread bvalue bview k2 b2 (inl h) =
    takes_rules w base same n place i below there k read value view b bread bvalue bview h.0 h.1 b2 h.3 k2 h.2
takes_kept w base same n place i below there k read value view b bread bvalue bview k2 b2 (inr h) =
    let core_is : slice_get base.cores n ≡ Some k = stands base.cores n k read below value view in
    let binding_is : slice_get base.bindings i ≡ Some b = stands base.bindings i b bread there bvalue bview in
    subst (λ (x : TheWorld). TakesRulesOrNone x n place i (record base { cores = slice_set base.cores n k2; bindings = slice_set base.bindings i b2 })) same
    (inr (
      none_kept base n place i b binding_is h.0,
      ap (λ (xs : List TheCore). record base { cores = xs; bindings = slice_set base.bindings i b2 }) (ap (slice_set base.cores n) h.1 ∙ set_same base.cores n k core_is)
          ∙ ap (λ (xs : List Binding). record base { bindings = xs }) (ap (slice_set base.bindings i) h.2 ∙ set_same base.bindings i b binding_is),
    ))
