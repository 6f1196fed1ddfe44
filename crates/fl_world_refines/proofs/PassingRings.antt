-- The ring of a link: what the steps of a core's side of it come to, whatever streams it is looked at with.
use Rattle.std.proofs.Common.{◌≡◌, ◌≢◌, ◌⊎◌, inl, inr, refl, sym, ◌∙◌, ap, subst, ℕ, min, true, List, [], length, slice_get, Option, Some, None, arith}
use Rattle.fl_base.specs.declared.fragment.Frag.{Frag}
use Rattle.fl_base.specs.declared.identity.EndId.{EndId}
use Rattle.fl_base.specs.declared.identity.Side.TheVariants.{Client, Server}
use Rattle.fl_base.specs.Given.{given}
use Rattle.fl_link.specs.Looks.{Look}
use Rattle.fl_ring.specs.Duo.{TheDuo, DuoPuts, DuoTakes}
use Rattle.fl_ring.specs.Side.{SidePuts, SideTakes}
use Rattle.fl_ring.specs.declared.duo_side.DuoSide.{DuoSide}
use Rattle.fl_ring.specs.declared.one_duo.WhichSide.{WhichSide}
use Rattle.fl_core.specs.View.{TheCore}
use Rattle.fl_model.specs.Rings.{RingLabel, Half, Ring, RingSide, first_side, second_side, RingEnd, first_for, written_by, read_by, with_halves, knows, looks}
use Rattle.fl_model.specs.Monitors.{Link}
use Rattle.fl_model.specs.State.{Back, local, over_ring, over_route, Route, Binding, State, link_between, place_in, number_between, own_ring}
use Rattle.fl_model.specs.Forwarding.{route_of}
use Rattle.fl_model.specs.SoundPlaces.{Owner, core_to, this_end, opposite}
use Rattle.fl_model.specs.SoundRings.{RingCounts, RingFits}
use Rattle.fl_model_laws.proofs.Rings.{Counted}
use Rattle.fl_world_refines.specs.Fragments.{Streams, calls_off_links, calls_between, calls_on}
use Rattle.fl_world_refines.specs.FragmentLaws.{MessagesAreSaid, CallsCarried, CallsAreCarried, CallsGoOn, LinksTell, SetsAside, NumbersAreSmall}
use Rattle.fl_world_refines.specs.RingLaws.{AllCarried, RingPuts, RingTakes, LooksOnce, QueuePutShows}
use Rattle.fl_world_refines.specs.CoreLaws.{OutboxesAreShown}
use Rattle.fl_world_refines.specs.EndLaws.{OthersStay}
use Rattle.fl_world_refines.specs.StateLaws.{FirstIsInTurn, SmallNumbers}
use Rattle.fl_world_refines.specs.Rings.{which_of, RingShows}
use Rattle.fl_world_refines.specs.View.{TheWorld, side_number, ring_at, IsWhole, with_core, with_ring}
use Rattle.fl_world_refines.specs.Lending.{IsLent, OverSide}
use Rattle.fl_world_refines.specs.ShowsState.{Carries, Shows}
use Rattle.fl_world_refines.proofs.PassingLinkSides.{some_too, ring_of_number, which_of_number}
use Rattle.fl_world_refines.proofs.PassingLists.{some_is}

-- the laws of what is shown that are used
pub record Showings : Type 0 where
  pub puts : RingPuts
  pub takes : RingTakes
  pub once : LooksOnce
  pub queues : QueuePutShows
  pub outboxes : OutboxesAreShown
  pub said : MessagesAreSaid
  pub carried : CallsCarried
  pub go_on : CallsGoOn
  pub tell : LinksTell
  pub aside : SetsAside
  pub small : SmallNumbers
  pub others : OthersStay
  pub turn : FirstIsInTurn

-- ---- a side that is lent

-- over a core and its side of a ring, which are these
pub record Over (w : TheWorld) (n : ℕ) (at : RingEnd) (c : TheCore) (d : TheDuo) (Event : TheCore → DuoSide → TheCore → DuoSide → Type 0)
    (w2 : TheWorld) : Type 0 where
  pub side : DuoSide
  pub lent : IsLent (side_number at) d side
  pub whole : IsWhole c
  pub after : TheCore
  pub still : IsWhole after
  pub left : DuoSide
  pub event : Event c side after left
  pub rest : w2 ≡ with_ring (with_core w n after) at.ring left.duo.now

pub over : (w : TheWorld) (n : ℕ) (at : RingEnd) (c : TheCore) (d : TheDuo) (Event : TheCore → DuoSide → TheCore → DuoSide → Type 0) (w2 : TheWorld)
    → slice_get w.cores n ≡ Some c → slice_get w.rings at.ring ≡ Some d → OverSide w n (side_number at) Event w2 → Over w n at c d Event w2
over w n at c d Event w2 core_is ring_is h =
    let core : h.before ≡ c = some_is h.before c (sym h.before_is ∙ core_is) in
    let ring : h.ring ≡ d = some_is h.ring d (sym h.ring_is ∙ ap (slice_get w.rings) (ring_of_number at) ∙ ring_is) in
    record {
      side = h.side;
      lent = record { ring = h.lent.ring ∙ ring; which = h.lent.which };
      whole = subst IsWhole core h.whole;
      after = h.after;
      still = h.still;
      left = h.left;
      event = subst (λ (k : TheCore). Event k h.side h.after h.left) core h.event;
      rest = h.rest ∙ ap (λ (m : ℕ). with_ring (with_core w n h.after) m h.left.duo.now) (ring_of_number at);
    }

pub side_puts : (at : RingEnd) (d : TheDuo) (p q : DuoSide) (look : Look) → IsLent (side_number at) d p → SidePuts p look q
    → DuoPuts (which_of at.side) d look q.duo.now
side_puts at d p q look lent h =
    subst (λ (x : WhichSide). DuoPuts x d look q.duo.now) (lent.which ∙ which_of_number at)
    (subst (λ (x : TheDuo). DuoPuts p.which x look q.duo.now) lent.ring h.1)

pub side_takes : (at : RingEnd) (d : TheDuo) (p q : DuoSide) (look : Look) → IsLent (side_number at) d p → SideTakes p look q
    → DuoTakes (which_of at.side) d look q.duo.now
side_takes at d p q look lent h =
    subst (λ (x : WhichSide). DuoTakes x d look q.duo.now) (lent.which ∙ which_of_number at)
    (subst (λ (x : TheDuo). DuoTakes p.which x look q.duo.now) lent.ring h.1)

pub still_lent : (m : ℕ) (d : TheDuo) (p q : DuoSide) (look : Look) → IsLent m d p → SideTakes p look q → IsLent m q.duo.now q
still_lent m d p q look lent h = record { ring = refl; which = h.0.1 ∙ lent.which }

-- ---- a look

pub looks_is : (side : RingSide) (r : Ring) (l : RingLabel) → first_for side r ≡ Some l
    → looks side r ≡ with_halves side (knows l.told (written_by side r)) (read_by side r) r
looks_is side r l q = ap (λ (o : Option RingLabel). given o r λ m. with_halves side (knows m.told (written_by side r)) (read_by side r) r) q

first_kept : (side : RingSide) (r : Ring) (n : ℕ) → first_for side (with_halves side (knows n (written_by side r)) (read_by side r) r) ≡ first_for side r
first_kept first_side r n = refl
first_kept second_side r n = refl

known_now : (side : RingSide) (r : Ring) (n : ℕ) → (written_by side (with_halves side (knows n (written_by side r)) (read_by side r) r)).known ≡ n
known_now first_side r n = refl
known_now second_side r n = refl

pub first_after_look : (side : RingSide) (r : Ring) (l : RingLabel) → first_for side r ≡ Some l → first_for side (looks side r) ≡ Some l
first_after_look side r l q = ap (first_for side) (looks_is side r l q) ∙ first_kept side r l.told ∙ q

pub looked_twice : LooksOnce → (side : RingSide) (r : Ring) (l : RingLabel) → first_for side r ≡ Some l → looks side (looks side r) ≡ looks side r
looked_twice once side r l q =
    once side (looks side r) l (first_after_look side r l q) (ap (λ (x : Ring). (written_by side x).known) (looks_is side r l q) ∙ known_now side r l.told)

-- ---- a link's ring

pub record RingOf (w : TheWorld) (s : State) (n : ℕ) : Type 0 where
  pub ring : Ring
  pub ring_is : slice_get s.rings n ≡ Some ring
  pub duo : TheDuo
  pub duo_is : slice_get w.rings n ≡ Some duo
  pub shows : (streams : Streams) → Carries s n streams → RingShows streams ring duo
  pub counted : Counted ring

min_turned : (i j : ℕ) → min i j ≡ min j i
min_turned i j = omega arith

places_turned : (numbers : List ℕ) (p q : Option ℕ)
    → given p None (λ i. given q None λ j. slice_get numbers (min i j)) ≡ given q None (λ i. given p None λ j. slice_get numbers (min i j))
places_turned numbers None None = refl
places_turned numbers None (Some j) = refl
places_turned numbers (Some i) None = refl
places_turned numbers (Some i) (Some j) = ap (slice_get numbers) (min_turned i j)

pub between_turned : (a b : ℕ) (route : Route) → number_between a b route ≡ number_between b a route
between_turned a b route = places_turned route.numbers (place_in route.cores a) (place_in route.cores b)

pub calls_turned : (a b : ℕ) (s : State) (e : EndId) → calls_between a b s e ≡ calls_between b a s e
calls_turned a b s e = by_binding (slice_get s.bindings e.binding)
  where
    by_route : (o : Option Route) → given o [] (λ route. given (number_between a b route) [] λ c. calls_on c s e) ≡ given o [] (λ route. given (number_between b a route) [] λ c. calls_on c s e)
    by_route None = refl
    by_route (Some route) = ap (λ (o : Option ℕ). given o [] λ c. calls_on c s e) (between_turned a b route)

    by_binding : (o : Option Binding) → given o [] (λ x. given (route_of x.back) [] λ route. given (number_between a b route) [] λ c. calls_on c s e)
        ≡ given o [] (λ x. given (route_of x.back) [] λ route. given (number_between b a route) [] λ c. calls_on c s e)
    by_binding None = refl
    by_binding (Some x) = by_route (route_of x.back)

same_side : (x y : RingSide) → (x ≡ y) ⊎ (x ≡ opposite y)
same_side first_side first_side = inl refl
same_side first_side second_side = inr refl
same_side second_side first_side = inr refl
same_side second_side second_side = inl refl

core_parts : (a b c d : ℕ) → core_to a b ≡ core_to c d → (a ≡ c) × (b ≡ d)
core_parts a b c d h = (cc, cc)

core_no_end : (a b : ℕ) (e : EndId) → core_to a b ≡ this_end e → ⊥
core_no_end a b e h = absurd (cc)

module _ (law : Showings) (w : TheWorld) (s : State) (shows : Shows w s) where
  pub small : NumbersAreSmall s
  small = law.small s shows.sound.cores shows.sound.numbers shows.sound.opened_numbers

  pub all_carried : (n : ℕ) (streams : Streams) → Carries s n streams → AllCarried streams
  all_carried n streams h =
      let all : CallsAreCarried s = law.carried s shows.sound.calls shows.showing.limits small in
      elim h [
        | inl (a, b, link, q, at, is) ↦ subst AllCarried (sym is) (all.between a b)
        | inr (m, b, q, back, is) ↦ subst AllCarried (sym is) all.off_links
      ]

  pub ring_of_link : (a b : ℕ) (link : Link) → link_between s a b ≡ Some link → RingOf w s link.ring.ring
  ring_of_link a b link q =
      let pair = shows.sound.links a b link q in
      let (d, at) = some_too w.rings s.rings link.ring.ring pair.ring shows.showing.rings.count pair.ring_is in
      record {
        ring = pair.ring;
        ring_is = pair.ring_is;
        duo = d;
        duo_is = at;
        shows = λ streams h. shows.showing.rings.each link.ring.ring pair.ring d streams pair.ring_is at h;
        counted = record {
          counts = shows.sound.counts link.ring.ring pair.ring pair.ring_is;
          fits = shows.sound.sizes link.ring.ring pair.ring pair.ring_is;
        };
      }

  -- two links over one ring join the same two cores
  pub one_link : (a b c d : ℕ) (link other : Link) → link_between s a b ≡ Some link → link_between s c d ≡ Some other → other.ring.ring ≡ link.ring.ring
      → ((c ≡ a) × (d ≡ b)) ⊎ ((c ≡ b) × (d ≡ a))
  one_link a b c d link other p q same = elim (same_side other.ring.side link.ring.side) [
    | inl e ↦ inl (core_parts c d a b (shows.sound.owners (core_to c d) (core_to a b) other.ring (other, q, refl)
        (link, p, ap (λ (n : ℕ). record { ring = n; side = link.ring.side }) (sym same) ∙ ap (λ (x : RingSide). record { ring = other.ring.ring; side = x }) (sym e))))
    | inr e ↦
        (let back = shows.sound.links a b link p in
        inr (core_parts c d b a (shows.sound.owners (core_to c d) (core_to b a) other.ring (other, q, refl) (
          back.back,
          back.back_is,
          back.same ∙ ap (λ (n : ℕ). record { ring = n; side = opposite link.ring.side }) (sym same)
              ∙ ap (λ (x : RingSide). record { ring = other.ring.ring; side = x }) (sym e),
        ))))
  ]

  -- and no binding has it for its own
  pub no_own : (a b : ℕ) (link : Link) (m : ℕ) (x : Binding) → link_between s a b ≡ Some link → slice_get s.bindings m ≡ Some x → x.back ≡ over_ring link.ring.ring → ⊥
  no_own a b link m x p q back = by link.ring.side refl
    where
      end_with : (e : EndId) → e.binding ≡ m → own_ring e.side x.back ≡ Some link.ring → ⊥
      end_with e same own =
          core_no_end a b e (shows.sound.owners (core_to a b) (this_end e) link.ring (link, p, refl) (x, ap (slice_get s.bindings) same ∙ q, own))

      by : (side : RingSide) → link.ring.side ≡ side → ⊥
      by first_side e =
          end_with (record { binding = m; side = Client }) refl (ap (own_ring Client) back ∙ ap (λ (z : RingSide). Some (record { ring = link.ring.ring; side = z })) (sym e))
      by second_side e =
          end_with (record { binding = m; side = Server }) refl (ap (own_ring Server) back ∙ ap (λ (z : RingSide). Some (record { ring = link.ring.ring; side = z })) (sym e))

  -- so whatever streams it carries say the same
  pub same_streams : (a b : ℕ) (link : Link) → link_between s a b ≡ Some link → (streams : Streams) → Carries s link.ring.ring streams → (e : EndId)
      → streams e ≡ calls_between a b s e
  same_streams a b link p streams h e = elim h [
    | inl (c, d, other, q, at, is) ↦
        (ap (λ (f : Streams). f e) is ∙ elim (one_link a b c d link other p q at) [
          | inl (x, y) ↦ ap (λ (n : ℕ). calls_between n d s e) x ∙ ap (λ (n : ℕ). calls_between a n s e) y
          | inr (x, y) ↦ ap (λ (n : ℕ). calls_between n d s e) x ∙ ap (λ (n : ℕ). calls_between b n s e) y ∙ calls_turned b a s e
        ])
    | inr (m, x, q, back, is) ↦ absurd (no_own a b link m x p q back)
  ]

  pub carries_it : (a b : ℕ) (link : Link) → link_between s a b ≡ Some link → Carries s link.ring.ring (calls_between a b s)
  carries_it a b link p = inl (a, b, link, p, refl, refl)

  -- the other core's calls on the same link
  pub carries_back : (a b : ℕ) (link : Link) → link_between s a b ≡ Some link → Carries s link.ring.ring (calls_between b a s)
  carries_back a b link p =
      let back = shows.sound.links a b link p in
      inl (b, a, back.back, back.back_is, ap (λ (at : RingEnd). at.ring) back.same, refl)
