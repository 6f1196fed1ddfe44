-- Whose fragments a ring carries: of each label all say the same. And where an end puts, its next label stands for its next fragment.
use Rattle.std.proofs.Common.{◌≡◌, inl, inr, refl, sym, ◌∙◌, ap, subst, ℕ, min, true, List, [], slice_get, Option, Some, None, arith}
use Rattle.std.specs.Prelude.{IsSome}
use Rattle.fl_base.specs.declared.fragment.Frag.{Frag}
use Rattle.fl_base.specs.declared.identity.Side.TheVariants.{Client}
use Rattle.fl_base.specs.declared.identity.EndId.{EndId}
use Rattle.fl_base.specs.Given.{given}
use Rattle.fl_model.specs.Calls.{Planned}
use Rattle.fl_model.specs.Rings.{Label, next_of, says, acknowledges, Ring, RingSide, first_side, second_side, RingEnd}
use Rattle.fl_model.specs.Ends.{written_of, is_bound}
use Rattle.fl_model.specs.Monitors.{Link}
use Rattle.fl_model.specs.State.{Back, local, over_ring, over_route, Route, Binding, State, binding_of, interface_of, end_in, link_between, way_of}
use Rattle.fl_model.specs.State.{number_between, place_in, own_ring, outlet_by, first_link, side_of, ring_side}
use Rattle.fl_model.specs.Forwarding.{route_of}
use Rattle.fl_model.specs.Sending.{next_fragment}
use Rattle.fl_model.specs.Sound.{Sound}
use Rattle.fl_model.specs.SoundPlaces.{LinksArePaired, RingsHaveOneOwner, EndsStand, TakesFrom, Owner, core_to, this_end, owns, opposite}
use Rattle.fl_world_refines.specs.Fragments.{Streams, frag_of, calls_on, calls_off_links, calls_between}
use Rattle.fl_world_refines.specs.StateLaws.{NextIsWritten, StandsFor}
use Rattle.fl_world_refines.specs.ShowsState.{Carries}
use Rattle.fl_world_refines.proofs.FramesBase.{same_some, end_of_binding}

pub some_of : {X : Type 0} (o : Option X) → IsSome o → (x : X) × (o ≡ Some x)
some_of None h = absurd (cc)
some_of (Some x) h = (x, refl)

pub from_given : {X Y : Type 0} (o : Option X) (f : X → Option Y) (y : Y) → given o None f ≡ Some y → (x : X) × (o ≡ Some x) × (f x ≡ Some y)
from_given None f y q = absurd (cc)
from_given (Some x) f y q = (x, refl, q)

-- ---- a link's calls, from either core

abbrev number_by : List ℕ → Option ℕ → Option ℕ → Option ℕ
number_by numbers o p = given o None λ i. given p None λ j. slice_get numbers (min i j)

min_turned : (i j : ℕ) → min i j ≡ min j i
min_turned i j = omega arith

number_turned : (numbers : List ℕ) (o p : Option ℕ) → number_by numbers o p ≡ number_by numbers p o
number_turned numbers None None = refl
number_turned numbers None (Some j) = refl
number_turned numbers (Some i) None = refl
number_turned numbers (Some i) (Some j) = ap (slice_get numbers) (min_turned i j)

calls_turned : (a b : ℕ) (s : State) (e : EndId) → calls_between a b s e ≡ calls_between b a s e
calls_turned a b s e = by_binding (binding_of s e)
  where
    on : Route → Option ℕ → List Frag
    on route number = given number [] λ c. calls_on c s e

    by_route : (o : Option Route) → given o [] (λ route. given (number_between a b route) [] λ c. calls_on c s e)
        ≡ given o [] (λ route. given (number_between b a route) [] λ c. calls_on c s e)
    by_route None = refl
    by_route (Some route) =
        ap (λ (n : Option ℕ). given n [] λ c. calls_on c s e) (number_turned route.numbers (place_in route.cores a) (place_in route.cores b))

    by_binding : (o : Option Binding) → given o [] (λ x. given (route_of x.back) [] λ route. given (number_between a b route) [] λ c. calls_on c s e)
        ≡ given o [] (λ x. given (route_of x.back) [] λ route. given (number_between b a route) [] λ c. calls_on c s e)
    by_binding None = refl
    by_binding (Some x) = by_route (route_of x.back)

pub frag_turned : (a b : ℕ) (s : State) (label : Label) → frag_of (calls_between a b s) label ≡ frag_of (calls_between b a s) label
frag_turned a b s (next_of e k) = ap (λ (fs : List Frag). slice_get fs k) (calls_turned a b s e)
frag_turned a b s (says m) = refl
frag_turned a b s acknowledges = refl

-- ---- by its first side's owner

abbrev said_by : State → Owner → Streams
said_by s (core_to a b) = calls_between a b s
said_by s (this_end e) = calls_off_links s

abbrev ring_end : ℕ → RingSide → RingEnd
ring_end n side = record { ring = n; side = side }

pub same_end : (at : RingEnd) (n : ℕ) (side : RingSide) → at.ring ≡ n → at.side ≡ side → at ≡ record { ring = n; side = side }
same_end at n side p q = ap (λ (m : ℕ). ring_end m at.side) p ∙ ap (ring_end n) q

record Held (s : State) (n : ℕ) (streams : Streams) : Type 0 where
  pub owner : Owner
  pub own : owns s owner (ring_end n first_side)
  pub is : (label : Label) → frag_of streams label ≡ frag_of (said_by s owner) label

held_link : (s : State) (n : ℕ) (streams : Streams) (a b : ℕ) (link : Link) (side : RingSide) → LinksArePaired s → link_between s a b ≡ Some link
    → link.ring.ring ≡ n → streams ≡ calls_between a b s → link.ring.side ≡ side → Held s n streams
held_link s n streams a b link first_side paired p q e d = record {
  owner = core_to a b;
  own = (link, p, same_end link.ring n first_side q d);
  is = λ label. ap (λ (x : Streams). frag_of x label) e;
}
held_link s n streams a b link second_side paired p q e d =
    let k = paired a b link p in
    record {
      owner = core_to b a;
      own = (k.back, k.back_is, k.same ∙ same_end (ring_end link.ring.ring (opposite link.ring.side)) n first_side q (ap opposite d));
      is = λ label. ap (λ (x : Streams). frag_of x label) e ∙ frag_turned a b s label;
    }

held : (s : State) (n : ℕ) (streams : Streams) → LinksArePaired s → Carries s n streams → Held s n streams
held s n streams paired c = elim c [
  | inl (a, b, link, p, q, e) ↦ held_link s n streams a b link link.ring.side paired p q e refl
  | inr (m, b, p, q, e) ↦ record {
    owner = this_end (record { binding = m; side = Client });
    own = (b, p, ap (own_ring Client) q);
    is = λ label. ap (λ (x : Streams). frag_of x label) e;
  }
]

-- what a ring carries says of each label the same, however it is told
pub streams_agree : (s : State) (n : ℕ) (x y : Streams) → LinksArePaired s → RingsHaveOneOwner s → Carries s n x → Carries s n y
    → (label : Label) → frag_of x label ≡ frag_of y label
streams_agree s n x y paired one c d label =
    let h = held s n x paired c in
    let k = held s n y paired d in
    h.is label
    ∙ ap (λ (o : Owner). frag_of (said_by s o) label) (one h.owner k.owner (ring_end n first_side) h.own k.own)
    ∙ sym (k.is label)

-- ---- where an end puts, onto a ring

pub record PutsOn (s : State) (e : EndId) (b : Binding) (i : Planned) (at : RingEnd) : Type 0 where
  pub ring : Ring
  pub ring_is : slice_get s.rings at.ring ≡ Some ring
  pub streams : Streams
  pub carries : Carries s at.ring streams
  pub stands : is_bound (end_in e.side b) ≡ true
      → frag_of streams (next_of e (written_of (end_in e.side b).out)) ≡ next_fragment i (end_in e.side b)

side_same : (at at2 : RingEnd) → Some (ring_side at) ≡ Some (ring_side at2) → at ≡ at2
side_same at at2 q = cc

-- the ring of a binding is there
pub own_ring_there : (s : State) (e : EndId) (b : Binding) (n : ℕ) → EndsStand s → binding_of s e ≡ Some b → b.back ≡ over_ring n
    → (r : Ring) × (slice_get s.rings n ≡ Some r)
own_ring_there s e b n ends p q =
    let k = ends e (end_in e.side b) (end_of_binding s e b p) in
    let same : k.binding ≡ b = same_some (binding_of s e) k.binding b k.there p in
    let takes : TakesFrom s (over_ring n) (end_in e.side b)
    = subst (λ (back : Back). TakesFrom s back (end_in e.side b)) (ap (λ (x : Binding). x.back) same ∙ q) k.queue in
    some_of (slice_get s.rings n) takes.1

pub puts_on : (s : State) (e : EndId) (b : Binding) (i : Planned) (at : RingEnd) → NextIsWritten → Sound s → binding_of s e ≡ Some b → interface_of s b ≡ Some i
    → outlet_by s e.side b.back ≡ Some (ring_side at) → PutsOn s e b i at
puts_on s e b i at law sound p q o = by_back b.back refl o
  where
    next : is_bound (end_in e.side b) ≡ true → StandsFor s e i (end_in e.side b) b.back
    next h = law s e b i sound.routes sound.numbers sound.verdicts sound.bound (record { binding = p; interface = q }) h

    by_back : (back : Back) → b.back ≡ back → outlet_by s e.side back ≡ Some (ring_side at) → PutsOn s e b i at
    by_back local r o = absurd (cc)
    by_back (over_ring n) r o =
        let same : record { ring = n; side = side_of e.side } ≡ at = side_same (record { ring = n; side = side_of e.side }) at o in
        let ring_same : n ≡ at.ring = ap (λ (x : RingEnd). x.ring) same in
        let back : b.back ≡ over_ring at.ring = r ∙ ap over_ring ring_same in
        let there = own_ring_there s e b at.ring sound.ends p back in
        record {
          ring = there.0;
          ring_is = there.1;
          streams = calls_off_links s;
          carries = inr (e.binding, b, p, back, refl);
          stands = λ h. subst (StandsFor s e i (end_in e.side b)) r (next h);
        }
    by_back (over_route route) r o =
        let f = from_given (first_link s (way_of e.side route)) (λ (link : Link). Some (ring_side link.ring)) (ring_side at) o in
        let same : f.0.ring ≡ at = side_same f.0.ring at f.2 in
        let g = from_given (slice_get (way_of e.side route) 0) (λ (core : ℕ). given (slice_get (way_of e.side route) 1) None λ onward. link_between s core onward) f.0 f.1 in
        let h = from_given (slice_get (way_of e.side route) 1) (λ (onward : ℕ). link_between s g.0 onward) f.0 g.2 in
        let paired = sound.links g.0 h.0 f.0 h.2 in
        let ring_same : f.0.ring.ring ≡ at.ring = ap (λ (x : RingEnd). x.ring) same in
        record {
          ring = paired.ring;
          ring_is = ap (λ (n : ℕ). slice_get s.rings n) (sym ring_same) ∙ paired.ring_is;
          streams = calls_between g.0 h.0 s;
          carries = inl (g.0, h.0, f.0, h.2, ring_same, refl);
          stands = λ bound. (let k : StandsFor s e i (end_in e.side b) (over_route route) = subst (StandsFor s e i (end_in e.side b)) r (next bound) in k g.0 h.0 g.1 h.1);
        }
