-- Where a ring is changed all other parts stay.
use Rattle.std.proofs.Common.{◌≡◌, refl, sym, ◌∙◌, ap, subst, ℕ, List, length, slice_get, slice_set, Some, inl, inr}
use Rattle.fl_base.specs.Ends.{other}
use Rattle.fl_hop.proofs.Lists.{set_cases, set_here}
use Rattle.fl_ring.specs.Duo.{TheDuo}
use Rattle.fl_model.specs.Given.{changed_at}
use Rattle.fl_model.specs.Rings.{Ring}
use Rattle.fl_model.specs.State.{Binding, binding_of, end_in, change_ring}
use Rattle.fl_model_laws.proofs.Small.{length_set}
use Rattle.fl_world_refines.specs.Fragments.{Streams}
use Rattle.fl_world_refines.specs.Rings.{RingShows}
use Rattle.fl_world_refines.specs.View.{with_ring}
use Rattle.fl_world_refines.specs.ShowsState.{Carries}
use Rattle.fl_world_refines.proofs.Frames.{RingFrame}
use Rattle.fl_world_refines.proofs.FramesBase.{same_some, wirings_same, SameWirings, SameLocations, SitsStill, rings_stay}
use Rattle.fl_world_refines.proofs.FramesWhole.{showing_stays, same_related}
use Rattle.fl_world_refines.proofs.FramesEnds.{locations_same, takes_on, changed_is}
use Rattle.fl_world_refines.proofs.FramesCores.{state_alike}
use Rattle.fl_core.specs.View.{TheCore}

pub ring_frame : RingFrame
ring_frame w s n r f t p q shows =
    let z = change_ring n f s in
    let v = with_ring w n t in
    let same = state_alike s z refl refl refl (λ a b. refl) in
    showing_stays w v s z p same (record {
      core_count = refl;
      cores = λ m a b u x. same_related SameWirings w.cores wirings_same m a b u x;
      count = refl;
      bindings = λ m a b u x. same_related SameLocations w.bindings locations_same m a b u x;
    })
    (record { may_set_cores = p.may_set_cores; dispatchers = p.dispatchers; programs = refl; names = refl })
    (record { count = p.cores.count; each = p.cores.each })
    (record {
      count = length_set w.rings n t ∙ p.rings.count ∙ sym (ap length rings ∙ length_set s.rings n (f r));
      each = λ m y d streams a b. rings_stay s z m y d same (λ old. by m y d old (ap (λ (ys : List Ring). slice_get ys m) (sym rings) ∙ a) b) streams;
    })
    (λ m b y i a x k l. (p.bindings.each m b y a x).unmade i k l) p.bindings.silent
    (λ e b y i seat m d a x k l u.
    subst (λ (g : Binding). SitsStill m.at i (end_in e.side g) (end_in (other e.side) g).out d m.place) (same_some (binding_of s e) b y a x)
    (record {
      at = m.at;
      at_is = ap (λ (g : TheCore). slice_get g.board.seats m.place) (same_some (slice_get w.cores seat.dispatcher.core) d m.core u m.core_is) ∙ m.at_is;
      dispatcher = refl;
      channel = refl;
      shows = m.shows;
    }))
    (λ e b y i seat m d a x l u.
    takes_on w v s z m.core d (end_in e.side b) (end_in e.side y) m.wired_end.wiring same.keeps
    (ap (λ (g : Binding). (end_in e.side g).queue) (same_some (binding_of s e) y b x a)) refl
    (ap (λ (g : TheCore). g.arrivals) (same_some (slice_get w.cores seat.dispatcher.core) d m.core u m.core_is)))
  where
    rings : changed_at n f s.rings ≡ slice_set s.rings n (f r)
    rings = changed_is s.rings n f r q

    by : (m : ℕ) (y : Ring) (d : TheDuo) (old : Streams) → slice_get (slice_set s.rings n (f r)) m ≡ Some y
        → slice_get (slice_set w.rings n t) m ≡ Some d → Carries s m old → RingShows old y d
    by m y d old a b c = elim (set_cases w.rings n t m d b) [
      | inl (e, g) ↦
          let y_is : f r ≡ y = same_some _ (f r) y (set_here s.rings n r (f r) q) (ap (slice_get (slice_set s.rings n (f r))) (sym e) ∙ a) in
          subst (λ (x : TheDuo). RingShows old y x) (sym g)
          (subst (λ (x : Ring). RingShows old x t) y_is (shows old (subst (λ k. Carries s k old) e c)))
      | inr (e, g) ↦ elim (set_cases s.rings n (f r) m y a) [
        | inl (x, k) ↦ absurd (e x)
        | inr (x, k) ↦ p.rings.each m y d old k g c
      ]
    ]
