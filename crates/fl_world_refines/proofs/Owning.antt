-- The ring of an end that is made over one: it is there, in the state and in the world, and carries what its binding's ends make.
use Rattle.std.proofs.Common.{◌≡◌, refl, sym, ◌∙◌, ap, subst, ℕ, true, false, slice_get, Option, Some, None, inl, inr}
use Rattle.std.specs.Prelude.{IsSome, IsNone}
use Rattle.fl_base.specs.declared.identity.EndId.{EndId}
use Rattle.fl_base.specs.declared.identity.Side.{Side}
use Rattle.fl_ring.specs.Duo.{TheDuo}
use Rattle.fl_core.specs.declared.wiring.EndWiring.TheVariants.{Ring as OverRing}
use Rattle.fl_model.specs.Rings.{Ring, RingEnd}
use Rattle.fl_model.specs.State.{Back, local, over_ring, over_route, Binding, State, end_in, own_ring, side_of}
use Rattle.fl_model.specs.SoundPlaces.{TakesFrom as EndTakesFrom}
use Rattle.fl_model.specs.Sound.{Sound}
use Rattle.fl_world_refines.specs.Fragments.{Streams, calls_off_links}
use Rattle.fl_world_refines.specs.RingLaws.{AllCarried}
use Rattle.fl_world_refines.proofs.Carried.{calls_carried}
use Rattle.fl_world_refines.proofs.Small.{small_numbers}
use Rattle.fl_world_refines.specs.View.{TheWorld, ring_at, side_in, side_at}
use Rattle.fl_world_refines.specs.ShowsState.{IsWiring, Carries, Shows}
use Rattle.fl_world_refines.proofs.Frames.{Stands}
use Rattle.fl_world_refines.proofs.FramesBase.{gets, same_some, end_of_binding}
use Rattle.fl_world_refines.proofs.FramesCores.{side_of_number}

pub record Owns (w : TheWorld) (s : State) (e : EndId) (n place : ℕ) (h : Stands w s e n place) (m : ℕ) : Type 0 where
  pub at : RingEnd
  pub own : own_ring e.side h.binding.back ≡ Some at
  pub ring_is : ring_at m ≡ at.ring
  pub side_is : side_in m ≡ at.side
  pub back : h.binding.back ≡ over_ring at.ring
  pub queue : (end_in e.side h.binding).queue ≡ None
  pub ring : Ring
  pub there : slice_get s.rings at.ring ≡ Some ring
  pub duo : TheDuo
  pub duo_is : slice_get w.rings at.ring ≡ Some duo
  pub carries : Carries s at.ring (calls_off_links s)

none_of : {X : Type 0} (o : Option X) → IsNone o → o ≡ None
none_of None q = refl
none_of (Some x) q = absurd (let z : true ≡ false = q in cc)

get_some : {X : Type 0} (o : Option X) → IsSome o → (x : X) × (o ≡ Some x)
get_some None q = absurd (let z : false ≡ true = q in cc)
get_some (Some x) q = (x, refl)

back_of : (side : Side) (back : Back) (at : RingEnd) → own_ring side back ≡ Some at → back ≡ over_ring at.ring
back_of side local at q = absurd (cc)
back_of side (over_ring j) at q =
    let e : record { ring = j; side = side_of side } ≡ at = same_some (own_ring side (over_ring j)) _ at refl q in
    ap (λ (x : RingEnd). over_ring x.ring) e
back_of side (over_route r) at q = absurd (cc)

pub takes_from_of : (w : TheWorld) (s : State) (e : EndId) (n place : ℕ) (h : Stands w s e n place) → Sound s
    → EndTakesFrom s h.binding.back (end_in e.side h.binding)
takes_from_of w s e n place h sound =
    let x = sound.ends e (end_in e.side h.binding) (end_of_binding s e h.binding h.binding_is) in
    let b : x.binding ≡ h.binding = same_some (slice_get s.bindings e.binding) x.binding h.binding x.there h.binding_is in
    subst (λ (y : Binding). EndTakesFrom s y.back (end_in e.side h.binding)) b x.queue

pub owns_ring : (w : TheWorld) (s : State) (e : EndId) (n place : ℕ) (h : Stands w s e n place) (m : ℕ) → Shows w s
    → IsWiring w h.core s e h.binding (OverRing m) → Owns w s e n place h m
owns_ring w s e n place h m shown k =
    let at = k.0 in
    let back = back_of e.side h.binding.back at k.1 in
    let takes = subst (λ (y : Back). EndTakesFrom s y (end_in e.side h.binding)) back (takes_from_of w s e n place h shown.sound) in
    let r = get_some (slice_get s.rings at.ring) takes.1 in
    let d = gets s.rings w.rings at.ring r.0 shown.showing.rings.count r.1 in
    let same : side_at m ≡ at = ap side_at k.2 ∙ side_of_number at in
    record {
      at = at;
      own = k.1;
      ring_is = ap (λ (x : RingEnd). x.ring) same;
      side_is = ap (λ (x : RingEnd). x.side) same;
      back = back;
      queue = none_of (end_in e.side h.binding).queue takes.0;
      ring = r.0;
      there = r.1;
      duo = d.0;
      duo_is = d.1;
      carries = inr (e.binding, h.binding, h.binding_is, back, refl);
    }

-- whatever a ring carries may stand there
pub carries_all : (w : TheWorld) (s : State) (n : ℕ) (streams : Streams) → Shows w s → Carries s n streams → AllCarried streams
carries_all w s n streams shown c =
    let sound = shown.sound in
    let all = calls_carried s sound.calls shown.showing.limits (small_numbers s sound.cores sound.numbers sound.opened_numbers) in
    elim c [
      | inl (a, b, link, p, q, e) ↦ subst AllCarried (sym e) (all.between a b)
      | inr (m, b, p, q, e) ↦ subst AllCarried (sym e) all.off_links
    ]
