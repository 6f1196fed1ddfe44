-- Rings, by the side that puts, looks, takes or tells.
use Rattle.std.proofs.Common.{◌≡◌, ◌⊎◌, inl, inr, refl, sym, ◌∙◌, ap, subst, ℕ, ◌+◌, ◌-◌, ◌/◌, ◌%◌, ◌≤◌, ◌<◌, ◌^◌, ◌==◌, ◌||◌, nat_le, Bool, true, false, if◌then◌else◌, List, [], ◌∷◌, length, slice_get, Option, Some, None, arith}
use Rattle.std.proofs.lemmas.Bool.{eqb-true}
use Rattle.fl_base.specs.declared.fragment.Frag.{Frag}
use Rattle.fl_base.specs.Control.{bare}
use Rattle.fl_base.specs.Given.{given}
use Rattle.fl_link.specs.Looks.{Look, placed, no_room, spent, saw, saw_ack, found, found_ack, missed, told, kept}
use Rattle.fl_link.specs.Queue.{front_of}
use Rattle.fl_link.proofs.Conserved.{sees_call, sees_ack}
use Rattle.fl_ring.specs.Duo.{TheHalf, TheDuo, looked, with_known, with_written, with_arrived, counts_by, HalfPuts, HalfTakes, DuoPuts, DuoTakes, side_of, across, knowing, acknowledgement}
use Rattle.fl_ring.specs.Duo.{written as written_frag, free as free_slots}
use Rattle.fl_ring.specs.Duo.{with_taken}
use Rattle.fl_model.specs.Rings.{Label, acknowledges, RingLabel, Half, Ring, RingSide, first_side, second_side, written_by, read_by, with_halves, first_for, knows, looks, free, is_spent, room, Room, makes_sure, adds, tells_all, puts, reads, takes, owes, for_data, for_acknowledgement}
use Rattle.fl_model.specs.Rings.{there_is_room, no_room as none_free, spent as used_up}
use Rattle.fl_model.specs.Standing.{labels_of}
use Rattle.fl_model.specs.Making.{is_ring_size}
use Rattle.fl_model.specs.SoundRings.{HalfCounts, RingCounts, RingFits}
use Rattle.fl_world_refines.specs.Fragments.{Streams, MayBeSaid, frag_of}
use Rattle.fl_world_refines.specs.Rings.{which_of, DirectionShows, RingShows}
use Rattle.fl_world_refines.specs.RingLaws.{AllCarried, IsPutOf, IsFirst, IsAcknowledged, Stamps, PutAgrees, TakeAgrees, sure_for_data, sure_to_acknowledge, room_to_acknowledge}
use Rattle.fl_world_refines.proofs.Tests.{by_test, then_is, else_is, le_true, le_false}
use Rattle.fl_world_refines.proofs.Matching.{none_by, data_label, ack_label, are_still}
use Rattle.fl_world_refines.proofs.Facing.{Facing, first_said, looked_is, first_meets, knowing_faces, put_faces, taken_from, take_faces}

-- ---- by side

abbrev own : RingSide → TheDuo → TheHalf
own side s = side_of (which_of side) s

abbrev opposite : RingSide → TheDuo → TheHalf
opposite side s = across (which_of side) s

abbrev Faces : Streams → RingSide → Ring → TheDuo → Type 0
Faces streams side r s = Facing streams (written_by side r) (read_by side r) (own side s) (opposite side s)

pub faces : (streams : Streams) (side : RingSide) (r : Ring) (s : TheDuo) → RingShows streams r s → Faces streams side r s
faces streams first_side r s h = record { forth = h.forth; back = h.back }
faces streams second_side r s h = record { forth = h.back; back = h.forth }

pub shown : (streams : Streams) (side : RingSide) (r : Ring) (out inn : Half) (t : TheDuo) → t.size ≡ r.size
    → Facing streams out inn (own side t) (opposite side t) → RingShows streams (with_halves side out inn r) t
shown streams first_side r out inn t e h = record { size = e; forth = h.forth; back = h.back }
shown streams second_side r out inn t e h = record { size = e; forth = h.back; back = h.forth }

-- what a step makes of the two sides
record Steps (side : RingSide) (s t : TheDuo) (a b : TheHalf) : Type 0 where
  pub size : t.size ≡ s.size
  pub near : own side t ≡ a
  pub far : opposite side t ≡ b

stepped : (streams : Streams) (side : RingSide) (r : Ring) (s t : TheDuo) (a b : TheHalf) (out inn : Half) → s.size ≡ r.size → Steps side s t a b
    → Facing streams out inn a b → RingShows streams (with_halves side out inn r) t
stepped streams side r s t a b out inn e k h =
    shown streams side r out inn t (k.size ∙ e)
    (subst (λ (x : TheHalf). Facing streams out inn x (opposite side t)) (sym k.near)
    (subst (λ (x : TheHalf). Facing streams out inn a x) (sym k.far) h))

put_step : (side : RingSide) (s t : TheDuo) (look : Look) → DuoPuts (which_of side) s look t
    → HalfPuts s.size (own side s) (opposite side s) look (own side t) (opposite side t) × (t.size ≡ s.size)
put_step first_side s t look h = h
put_step second_side s t look h = h

take_step : (side : RingSide) (s t : TheDuo) (look : Look) → DuoTakes (which_of side) s look t
    → HalfTakes s.size (own side s) (opposite side s) look (own side t) (opposite side t) × (t.size ≡ s.size)
take_step first_side s t look h = h
take_step second_side s t look h = h

counts : (side : RingSide) (r : Ring) → RingCounts r → HalfCounts r.size (written_by side r) (read_by side r).waiting
counts first_side r h = h.first
counts second_side r h = h.second

-- a side that knows another count
knowing_own : (side : RingSide) (s : TheDuo) (k : ℕ) → own side (knowing (which_of side) s k) ≡ with_known (own side s) k
knowing_own first_side s k = refl
knowing_own second_side s k = refl

knowing_opposite : (side : RingSide) (s : TheDuo) (k : ℕ) → opposite side (knowing (which_of side) s k) ≡ opposite side s
knowing_opposite first_side s k = refl
knowing_opposite second_side s k = refl

knowing_size : (side : RingSide) (s : TheDuo) (k : ℕ) → (knowing (which_of side) s k).size ≡ s.size
knowing_size first_side s k = refl
knowing_size second_side s k = refl

knowing_steps : (side : RingSide) (s : TheDuo) (k : ℕ) → Steps side s (knowing (which_of side) s k) (with_known (own side s) k) (opposite side s)
knowing_steps side s k = record { size = knowing_size side s k; near = knowing_own side s k; far = knowing_opposite side s k }

knowing_same : (side : RingSide) (s : TheDuo) → knowing (which_of side) s (own side s).known ≡ s
knowing_same first_side s = refl
knowing_same second_side s = refl

-- two rings with the same sides
same_duo : (side : RingSide) (s t : TheDuo) → t.size ≡ s.size → own side t ≡ own side s → opposite side t ≡ opposite side s → t ≡ s
same_duo first_side s t p q r =
    ap (λ (n : ℕ). record { size = n; one = t.one; two = t.two }) p
    ∙ ap (λ (h : TheHalf). record { size = s.size; one = h; two = t.two }) q
    ∙ ap (λ (h : TheHalf). record { size = s.size; one = s.one; two = h }) r
same_duo second_side s t p q r =
    ap (λ (n : ℕ). record { size = n; one = t.one; two = t.two }) p
    ∙ ap (λ (h : TheHalf). record { size = s.size; one = t.one; two = h }) q
    ∙ ap (λ (h : TheHalf). record { size = s.size; one = h; two = s.two }) r

becomes : (streams : Streams) (side : RingSide) (r : Ring) (s t : TheDuo) (k : ℕ) → RingShows streams r (knowing (which_of side) s k)
    → t.size ≡ s.size → own side t ≡ with_known (own side s) k → opposite side t ≡ opposite side s → RingShows streams r t
becomes streams side r s t k h p q o =
    subst (RingShows streams r)
    (sym (same_duo side (knowing (which_of side) s k) t (p ∙ sym (knowing_size side s k)) (q ∙ sym (knowing_own side s k)) (o ∙ sym (knowing_opposite side s k))))
    h

-- ---- sizes

or_small_by : (t : Bool) (n k : ℕ) (b : Bool) → (n == k) ≡ t → k ≤ 1024 → (b ≡ true → n ≤ 1024) → (t || b) ≡ true → n ≤ 1024
or_small_by true n k b e a f h = let same : n ≡ k = eqb-true n k e in omega arith
or_small_by false n k b e a f h = f h

or_small : (n k : ℕ) (b : Bool) → k ≤ 1024 → (b ≡ true → n ≤ 1024) → ((n == k) || b) ≡ true → n ≤ 1024
or_small n k b a f h = or_small_by (n == k) n k b refl a f h

size_small : (size : ℕ) → is_ring_size size ≡ true → size ≤ 1024
size_small size h = (or_small size 4 _ (omega arith) (or_small size 8 _ (omega arith) (or_small size 16 _ (omega arith) (or_small size 32 _ (omega arith) (or_small size 64 _ (omega arith) (or_small size 128 _ (omega arith) (or_small size 256 _ (omega arith) (or_small size 512 _ (omega arith) (or_small size 1024 _ (omega arith) (λ a. absurd (cc))))))))))) h

-- ---- a look

looks_is : (side : RingSide) (r : Ring) (l : RingLabel) → first_for side r ≡ Some l
    → looks side r ≡ with_halves side (knows l.told (written_by side r)) (read_by side r) r
looks_is side r l q = ap (λ (o : Option RingLabel). given o r λ m. with_halves side (knows m.told (written_by side r)) (read_by side r) r) q

first_is : (ls rest : List RingLabel) (l : RingLabel) → ls ≡ l ∷ rest → slice_get ls 0 ≡ Some l
first_is ls rest l e = ap (λ (ms : List RingLabel). slice_get ms 0) e

look_shows : (streams : Streams) (side : RingSide) (r : Ring) (s : TheDuo) (f : Frag) (fs : List Frag) → RingShows streams r s → RingCounts r → RingFits r
    → (own side s).waiting ≡ f ∷ fs → RingShows streams (looks side r) (knowing (which_of side) s (looked (own side s)))
look_shows streams side r s f fs h c fits e =
    let g = faces streams side r s h in
    let m = first_meets streams (written_by side r) (read_by side r) (own side s) (opposite side s) f fs g e in
    let told_is : looked (own side s) ≡ m.first.told
    = looked_is streams r.size (written_by side r) (read_by side r) (own side s) (opposite side s) f fs g (counts side r c) (size_small r.size fits.size) e m in
    subst (λ (x : Ring). RingShows streams x (knowing (which_of side) s (looked (own side s))))
    (sym (looks_is side r m.first (first_is (read_by side r).waiting m.rest m.first m.are)))
    (stepped streams side r s (knowing (which_of side) s (looked (own side s))) (with_known (own side s) (looked (own side s))) (opposite side s)
    (knows m.first.told (written_by side r)) (read_by side r) h.size (knowing_steps side s (looked (own side s)))
    (knowing_faces streams (written_by side r) (read_by side r) (own side s) (opposite side s) (looked (own side s)) m.first.told told_is g))

-- where nothing stands, a look changes nothing
blind_shows : (streams : Streams) (side : RingSide) (r : Ring) (s : TheDuo) → RingShows streams r s → (own side s).waiting ≡ []
    → RingShows streams (looks side r) (knowing (which_of side) s (looked (own side s)))
blind_shows streams side r s h e =
    let g = faces streams side r s h in
    let none : first_for side r ≡ None = none_by streams (read_by side r).waiting (own side s).waiting g.back.frags e in
    let same : looked (own side s) ≡ (own side s).known = ap (Rattle.fl_ring.specs.Counts.known_after (own side s).known) e in
    subst (λ (x : Ring). RingShows streams x (knowing (which_of side) s (looked (own side s))))
    (sym (ap (λ (o : Option RingLabel). given o r λ m. with_halves side (knows m.told (written_by side r)) (read_by side r) r) none))
    (subst (λ (k : ℕ). RingShows streams r (knowing (which_of side) s k)) (sym same)
    (subst (RingShows streams r) (sym (knowing_same side s)) h))

any_look_shows : (streams : Streams) (side : RingSide) (r : Ring) (s : TheDuo) → RingShows streams r s → RingCounts r → RingFits r
    → RingShows streams (looks side r) (knowing (which_of side) s (looked (own side s)))
any_look_shows streams side r s h c fits = cases (own side s).waiting refl where
  cases : (fs : List Frag) → (own side s).waiting ≡ fs → RingShows streams (looks side r) (knowing (which_of side) s (looked (own side s)))
  cases [] e = blind_shows streams side r s h e
  cases (f ∷ fs) e = look_shows streams side r s f fs h c fits e

-- ---- room

spent_is : (streams : Streams) (side : RingSide) (r : Ring) (s : TheDuo) → RingShows streams r s → is_spent side r ≡ nat_le (2 ^ 62) (own side s).sent
spent_is streams side r s h = ap (nat_le (2 ^ 62)) (sym (faces streams side r s h).forth.sent)

free_is : (streams : Streams) (side : RingSide) (r : Ring) (s : TheDuo) → RingShows streams r s
    → free side r ≡ free_slots s.size (own side s).sent (own side s).known
free_is streams side r s h =
    let g = faces streams side r s h in
    ap (λ (n : ℕ). n + (written_by side r).known - (written_by side r).sent) (sym h.size)
    ∙ ap (λ (k : ℕ). s.size + k - (written_by side r).sent) (sym g.forth.known)
    ∙ ap (λ (n : ℕ). s.size + (own side s).known - n) (sym g.forth.sent)

abbrev room_by : ℕ → Bool → ℕ → Room
room_by need spent_now slots = if spent_now then used_up else if nat_le need slots then there_is_room else none_free

room_is : (streams : Streams) (need : ℕ) (side : RingSide) (r : Ring) (s : TheDuo) → RingShows streams r s
    → room need side r ≡ room_by need (nat_le (2 ^ 62) (own side s).sent) (free_slots s.size (own side s).sent (own side s).known)
room_is streams need side r s h =
    ap (λ (b : Bool). room_by need b (free side r)) (spent_is streams side r s h)
    ∙ ap (room_by need (nat_le (2 ^ 62) (own side s).sent)) (free_is streams side r s h)

-- the count by which a side counts that isn't spent, and the ring once it has looked where it must
abbrev counted_by : ℕ → RingSide → TheDuo → ℕ
counted_by need side s = counts_by s.size need (own side s)

abbrev sure_duo : ℕ → RingSide → TheDuo → TheDuo
sure_duo need side s = knowing (which_of side) s (counted_by need side s)

sure_shows : (streams : Streams) (need : ℕ) (side : RingSide) (r : Ring) (s : TheDuo) → RingShows streams r s → RingCounts r → RingFits r
    → (own side s).sent < 2 ^ 62 → RingShows streams (makes_sure need side r) (sure_duo need side s)
sure_shows streams need side r s h c fits less =
    let unspent : is_spent side r ≡ false = spent_is streams side r s h ∙ le_false (2 ^ 62) (own side s).sent less in
    let slots : free side r ≡ free_slots s.size (own side s).sent (own side s).known = free_is streams side r s h in
    let test : (is_spent side r || nat_le need (free side r)) ≡ nat_le need (free_slots s.size (own side s).sent (own side s).known)
    = ap (λ (b : Bool). b || nat_le need (free side r)) unspent ∙ ap (nat_le need) slots in
    by_test (nat_le need (free_slots s.size (own side s).sent (own side s).known))
    (λ q.
    subst (λ (x : Ring). RingShows streams x (sure_duo need side s)) (sym (then_is (is_spent side r || nat_le need (free side r)) r (looks side r) (test ∙ q)))
    (subst (λ (k : ℕ). RingShows streams r (knowing (which_of side) s k))
    (sym (then_is (nat_le need (free_slots s.size (own side s).sent (own side s).known)) (own side s).known (looked (own side s)) q))
    (subst (RingShows streams r) (sym (knowing_same side s)) h)))
    (λ q.
    subst (λ (x : Ring). RingShows streams x (sure_duo need side s)) (sym (else_is (is_spent side r || nat_le need (free side r)) r (looks side r) (test ∙ q)))
    (subst (λ (k : ℕ). RingShows streams (looks side r) (knowing (which_of side) s k))
    (sym (else_is (nat_le need (free_slots s.size (own side s).sent (own side s).known)) (own side s).known (looked (own side s)) q))
    (any_look_shows streams side r s h c fits)))

sure_room : (streams : Streams) (need : ℕ) (side : RingSide) (r : Ring) (s : TheDuo) → RingShows streams r s → RingCounts r → RingFits r
    → (own side s).sent < 2 ^ 62
    → room need side (makes_sure need side r) ≡ (if nat_le need (free_slots s.size (own side s).sent (counted_by need side s)) then there_is_room else none_free)
sure_room streams need side r s h c fits less =
    let k : ℕ = counted_by need side s in
    let sure = sure_shows streams need side r s h c fits less in
    room_is streams need side (makes_sure need side r) (sure_duo need side s) sure
    ∙ ap (λ (x : TheHalf). room_by need (nat_le (2 ^ 62) x.sent) (free_slots (sure_duo need side s).size x.sent x.known)) (knowing_own side s (counted_by need side s))
    ∙ ap (λ (n : ℕ). room_by need (nat_le (2 ^ 62) (own side s).sent) (free_slots n (own side s).sent (counted_by need side s))) (knowing_size side s (counted_by need side s))
    ∙ ap (λ (b : Bool). room_by need b (free_slots s.size (own side s).sent (counted_by need side s))) (le_false (2 ^ 62) (own side s).sent less)

-- a spent ring isn't looked at
spent_sure : (streams : Streams) (need : ℕ) (side : RingSide) (r : Ring) (s : TheDuo) → RingShows streams r s → (own side s).sent ≡ 2 ^ 62
    → (makes_sure need side r ≡ r) × (room need side (makes_sure need side r) ≡ used_up)
spent_sure streams need side r s h e =
    let used : is_spent side r ≡ true = spent_is streams side r s h ∙ le_true (2 ^ 62) (own side s).sent (omega (arith, e)) in
    let same : makes_sure need side r ≡ r = ap (λ (b : Bool). if b || nat_le need (free side r) then r else looks side r) used in
    (same, ap (room need side) same ∙ ap (λ (b : Bool). room_by need b (free side r)) used)

-- ---- a put

puts_shows : (streams : Streams) (side : RingSide) (label : Label) (f : Frag) (r : Ring) (s t : TheDuo) → RingShows streams r s
    → frag_of streams label ≡ Some (bare f) → MayBeSaid label
    → Steps side s t (with_written (own side s)) (with_arrived (opposite side s) (written_frag s.size (own side s) f))
    → RingShows streams (puts side label r) t
puts_shows streams side label f r s t h is may k =
    stepped streams side r s t (with_written (own side s)) (with_arrived (opposite side s) (written_frag s.size (own side s) f))
    (adds label (read_by side r).read (written_by side r)) (tells_all (read_by side r)) h.size k
    (put_faces streams s.size label f (written_by side r) (read_by side r) (own side s) (opposite side s) (faces streams side r s h) is may)

-- with what was learned before
sure_steps : (need : ℕ) (side : RingSide) (f : Frag) (s t : TheDuo) → t.size ≡ s.size
    → own side t ≡ with_written (with_known (own side s) (counted_by need side s))
    → opposite side t ≡ with_arrived (opposite side s) (written_frag s.size (own side s) f)
    → Steps side (sure_duo need side s) t (with_written (own side (sure_duo need side s)))
    (with_arrived (opposite side (sure_duo need side s)) (written_frag (sure_duo need side s).size (own side (sure_duo need side s)) f))
sure_steps need side f s t p q o =
    let k : ℕ = counted_by need side s in
    record {
      size = p ∙ sym (knowing_size side s k);
      near = q ∙ ap with_written (sym (knowing_own side s k));
      far = o
          ∙ ap (λ (x : TheHalf). with_arrived (opposite side s) (written_frag s.size x f)) (sym (knowing_own side s k))
          ∙ ap (λ (n : ℕ). with_arrived (opposite side s) (written_frag n (own side (sure_duo need side s)) f)) (sym (knowing_size side s k))
          ∙ ap (λ (x : TheHalf). with_arrived x (written_frag (sure_duo need side s).size (own side (sure_duo need side s)) f)) (sym (knowing_opposite side s k));
    }

pub put_agrees : (streams : Streams) (side : RingSide) (label : Label) (r : Ring) (s t : TheDuo) (look : Look)
    → RingShows streams r s → RingCounts r → RingFits r → MayBeSaid label → IsPutOf streams label look
    → DuoPuts (which_of side) s look t → PutAgrees streams side label r look t
put_agrees streams side label r s t (placed f) h c fits may is a =
    let (step, size) = put_step side s t (placed f) a in
    let sure = sure_shows streams for_data side r s h c fits step.1 in (
      sure_room streams for_data side r s h c fits step.1
          ∙ then_is (nat_le 2 (free_slots s.size (own side s).sent (counted_by for_data side s))) there_is_room none_free (le_true 2 _ step.2),
      puts_shows streams side label f (sure_for_data side r) (sure_duo for_data side s) t sure (is f refl) may
          (sure_steps for_data side f s t size step.3 step.4),
    )
put_agrees streams side label r s t no_room h c fits may is a =
    let (step, size) = put_step side s t no_room a in
    let sure = sure_shows streams for_data side r s h c fits step.0 in (
      sure_room streams for_data side r s h c fits step.0
          ∙ else_is (nat_le 2 (free_slots s.size (own side s).sent (counted_by for_data side s))) there_is_room none_free (le_false 2 _ step.1),
      becomes streams side (sure_for_data side r) s t (counted_by for_data side s) sure size step.2 step.3,
    )
put_agrees streams side label r s t spent h c fits may is a =
    let (step, size) = put_step side s t spent a in
    let e = spent_sure streams for_data side r s h step.0 in (
      e.1,
      subst (λ (x : Ring). RingShows streams x t) (sym e.0) (subst (RingShows streams r) (sym (same_duo side s t size step.1 step.2)) h),
    )
put_agrees streams side label r s t (saw f) h c fits may is a = absurd (put_step side s t (saw f) a).0
put_agrees streams side label r s t saw_ack h c fits may is a = absurd (put_step side s t saw_ack a).0
put_agrees streams side label r s t (found f) h c fits may is a = absurd (put_step side s t (found f) a).0
put_agrees streams side label r s t found_ack h c fits may is a = absurd (put_step side s t found_ack a).0
put_agrees streams side label r s t missed h c fits may is a = absurd (put_step side s t missed a).0
put_agrees streams side label r s t told h c fits may is a = absurd (put_step side s t told a).0
put_agrees streams side label r s t kept h c fits may is a = absurd (put_step side s t kept a).0

-- ---- a look, a take and a tell

-- what a side sees first is the first label's fragment
sees : (streams : Streams) (side : RingSide) (r : Ring) (s : TheDuo) (f : Frag) → RingShows streams r s
    → front_of (own side s).waiting ≡ saw f → IsFirst streams side r f
sees streams side r s f h e = cases (own side s).waiting refl e where
  cases : (fs : List Frag) → (own side s).waiting ≡ fs → front_of fs ≡ saw f → IsFirst streams side r f
  cases [] w q = absurd (cc)
  cases (g ∷ gs) w q =
      let k = sees_call g f q in
      let m = first_meets streams (written_by side r) (read_by side r) (own side s) (opposite side s) g gs (faces streams side r s h) w in
      record {
        first = m.first;
        there = first_is (read_by side r).waiting m.rest m.first m.are;
        kind = data_label streams m.first.label g k.0 m.frag;
        frag = m.frag ∙ ap Some k.1;
        said = first_said (read_by side r).waiting m.rest m.first m.are (faces streams side r s h).back.said;
      }

sees_acknowledged : (streams : Streams) (side : RingSide) (r : Ring) (s : TheDuo) → AllCarried streams → RingShows streams r s
    → front_of (own side s).waiting ≡ saw_ack → IsAcknowledged side r
sees_acknowledged streams side r s all h e = cases (own side s).waiting refl e where
  cases : (fs : List Frag) → (own side s).waiting ≡ fs → front_of fs ≡ saw_ack → IsAcknowledged side r
  cases [] w q = absurd (cc)
  cases (g ∷ gs) w q =
      let m = first_meets streams (written_by side r) (read_by side r) (own side s) (opposite side s) g gs (faces streams side r s h) w in
      record {
        first = m.first;
        there = first_is (read_by side r).waiting m.rest m.first m.are;
        acks = ack_label streams m.first.label g all (sees_ack g q) m.frag;
      }

-- a take after a look
takes_shows : (streams : Streams) (side : RingSide) (f : Frag) (fs : List Frag) (r : Ring) (s t : TheDuo) → RingShows streams r s
    → (own side s).waiting ≡ f ∷ fs → Steps side s t (taken_from (own side s) f fs) (opposite side s)
    → RingShows streams (takes side r) t
takes_shows streams side f fs r s t h w k =
    let g = faces streams side r s h in
    stepped streams side r s t (taken_from (own side s) f fs) (opposite side s) (written_by side r) (reads (read_by side r)) h.size k
    (take_faces streams (written_by side r) (read_by side r) (own side s) (opposite side s) f fs g
    (first_meets streams (written_by side r) (read_by side r) (own side s) (opposite side s) f fs g w))

-- a take, which looks
taking_shows : (streams : Streams) (side : RingSide) (r : Ring) (s t : TheDuo) (f : Frag) (fs : List Frag)
    → RingShows streams r s → RingCounts r → RingFits r → (own side s).waiting ≡ f ∷ fs → t.size ≡ s.size
    → own side t ≡ with_taken (own side s) f fs → opposite side t ≡ opposite side s → RingShows streams (takes side (looks side r)) t
taking_shows streams side r s t f fs h c fits w p q o =
    let k : ℕ = looked (own side s) in
    let m : TheDuo = knowing (which_of side) s (looked (own side s)) in
    takes_shows streams side f fs (looks side r) m t (look_shows streams side r s f fs h c fits w)
    (ap (λ (x : TheHalf). x.waiting) (knowing_own side s k) ∙ w)
    (record {
      size = p ∙ sym (knowing_size side s k);
      near = q ∙ ap (λ (x : TheHalf). taken_from x f fs) (sym (knowing_own side s k));
      far = o ∙ sym (knowing_opposite side s k);
    })

-- how much was read and isn't told
owes_is : (streams : Streams) (side : RingSide) (r : Ring) (s : TheDuo) → RingShows streams r s
    → owes side r ≡ nat_le (s.size / 2) (length (own side s).read)
owes_is streams side r s h =
    let g = faces streams side r s h in
    let read_is : (own side s).told + length (own side s).read ≡ (read_by side r).read = g.back.read in
    let told_is = g.back.told in
    let owed : (read_by side r).read - (read_by side r).told ≡ length (own side s).read = omega (arith, read_is, told_is) in
    ap (λ (n : ℕ). nat_le (n / 2) ((read_by side r).read - (read_by side r).told)) (sym h.size) ∙ ap (nat_le (s.size / 2)) owed

plain_acknowledgement : bare acknowledgement ≡ acknowledgement
plain_acknowledgement = refl

-- a tell that finds no free slot, or a spent ring
full_agrees : (streams : Streams) (side : RingSide) (r : Ring) (s t : TheDuo) → RingShows streams r s → RingCounts r → RingFits r
    → t.size ≡ s.size → opposite side t ≡ opposite side s
    → (((own side s).sent ≡ 2 ^ 62) × (own side t ≡ own side s))
    ⊎ (((own side s).sent < 2 ^ 62) × (free_slots s.size (own side s).sent (counted_by for_acknowledgement side s) < 1)
    × (own side t ≡ with_known (own side s) (counted_by for_acknowledgement side s)))
    → ((room_to_acknowledge side r ≡ none_free) ⊎ (room_to_acknowledge side r ≡ used_up)) × RingShows streams (sure_to_acknowledge side r) t
full_agrees streams side r s t h c fits size o (inl a) =
    let e = spent_sure streams for_acknowledgement side r s h a.0 in (
      inr e.1,
      subst (λ (x : Ring). RingShows streams x t) (sym e.0) (subst (RingShows streams r) (sym (same_duo side s t size a.1 o)) h),
    )
full_agrees streams side r s t h c fits size o (inr a) =
    let sure = sure_shows streams for_acknowledgement side r s h c fits a.0 in (
      inl (sure_room streams for_acknowledgement side r s h c fits a.0
          ∙ else_is (nat_le 1 (free_slots s.size (own side s).sent (counted_by for_acknowledgement side s))) there_is_room none_free (le_false 1 _ a.1)),
      becomes streams side (sure_to_acknowledge side r) s t (counted_by for_acknowledgement side s) sure size a.2 o,
    )

pub take_agrees : (streams : Streams) (side : RingSide) (r : Ring) (s t : TheDuo) (look : Look)
    → RingShows streams r s → RingCounts r → RingFits r → AllCarried streams
    → DuoTakes (which_of side) s look t → TakeAgrees streams side r look t
take_agrees streams side r s t (saw f) h c fits all a =
    let (step, size) = take_step side s t (saw f) a in (
      sees streams side r s f h step.0,
      becomes streams side (looks side r) s t (looked (own side s)) (any_look_shows streams side r s h c fits) size step.1 step.2,
    )
take_agrees streams side r s t saw_ack h c fits all a =
    let (step, size) = take_step side s t saw_ack a in (
      sees_acknowledged streams side r s all h step.0,
      becomes streams side (looks side r) s t (looked (own side s)) (any_look_shows streams side r s h c fits) size step.1 step.2,
    )
take_agrees streams side r s t (found f) h c fits all a =
    let (step, size) = take_step side s t (found f) a in (
      sees streams side r s f h step.0,
      taking_shows streams side r s t step.1.0 step.1.1 h c fits step.1.2 size step.1.3 step.2,
    )
take_agrees streams side r s t found_ack h c fits all a =
    let (step, size) = take_step side s t found_ack a in (
      sees_acknowledged streams side r s all h step.0,
      taking_shows streams side r s t step.1.0 step.1.1 h c fits step.1.2 size step.1.3 step.2,
    )
take_agrees streams side r s t missed h c fits all a =
    let (step, size) = take_step side s t missed a in (
      none_by streams (read_by side r).waiting (own side s).waiting (faces streams side r s h).back.frags step.0,
      subst (RingShows streams r) (sym (same_duo side s t size step.1 step.2)) h,
    )
take_agrees streams side r s t told h c fits all a =
    let (step, size) = take_step side s t told a in
    let sure = sure_shows streams for_acknowledgement side r s h c fits step.1 in (
      owes_is streams side r s h ∙ le_true (s.size / 2) (length (own side s).read) step.0,
      sure_room streams for_acknowledgement side r s h c fits step.1
          ∙ then_is (nat_le 1 (free_slots s.size (own side s).sent (counted_by for_acknowledgement side s))) there_is_room none_free (le_true 1 _ step.2),
      puts_shows streams side acknowledges acknowledgement (sure_to_acknowledge side r) (sure_duo for_acknowledgement side s) t sure
          (ap Some (sym plain_acknowledgement)) tt (sure_steps for_acknowledgement side acknowledgement s t size step.3 step.4),
    )
take_agrees streams side r s t kept h c fits all a =
    let (step, size) = take_step side s t kept a in (
      owes_is streams side r s h ∙ le_false (s.size / 2) (length (own side s).read) step.0,
      subst (RingShows streams r) (sym (same_duo side s t size step.1 step.2)) h,
    )
take_agrees streams side r s t no_room h c fits all a =
    let (step, size) = take_step side s t no_room a in
    let (room_found, after) = full_agrees streams side r s t h c fits size step.1 step.2 in
    (owes_is streams side r s h ∙ le_true (s.size / 2) (length (own side s).read) step.0, room_found, after)
take_agrees streams side r s t (placed f) h c fits all a = absurd (take_step side s t (placed f) a).0
take_agrees streams side r s t spent h c fits all a = absurd (take_step side s t spent a).0

-- ---- what would be written next

turn_is : (n i : ℕ) → 1 - i / n % 2 ≡ (i / n + 1) % 2
turn_is n i = omega arith

pub stamps : (streams : Streams) (side : RingSide) (r : Ring) (s : TheDuo) → RingShows streams r s → Stamps side r s
stamps streams side r s h =
    let g = faces streams side r s h in
    record {
      epoch = ap (λ (n : ℕ). 1 - (written_by side r).sent / n % 2) (sym h.size)
          ∙ ap (λ (n : ℕ). 1 - n / s.size % 2) (sym g.forth.sent)
          ∙ turn_is s.size (own side s).sent;
      number = ap (λ (n : ℕ). n % 65536) (sym g.back.read);
    }

-- ---- looks, and more calls

known_already : (side : RingSide) (r : Ring) (n : ℕ) → (written_by side r).known ≡ n
    → with_halves side (knows n (written_by side r)) (read_by side r) r ≡ r
known_already first_side r n e = ap (λ (k : ℕ). record r { by_first = record r.by_first { known = k } }) (sym e)
known_already second_side r n e = ap (λ (k : ℕ). record r { by_second = record r.by_second { known = k } }) (sym e)

pub looks_once : (side : RingSide) (r : Ring) (l : RingLabel) → first_for side r ≡ Some l → (written_by side r).known ≡ l.told → looks side r ≡ r
looks_once side r l q e = looks_is side r l q ∙ known_already side r l.told e

direction_still : (streams more : Streams) (h : Half) (a b : TheHalf)
    → ((label : Label) (f : Frag) → frag_of streams label ≡ Some f → frag_of more label ≡ Some f)
    → DirectionShows streams h a b → DirectionShows more h a b
direction_still streams more h a b g d = record {
  sent = d.sent;
  known = d.known;
  told = d.told;
  read = d.read;
  frags = are_still streams more (labels_of h.waiting) b.waiting g d.frags;
  tells = d.tells;
  said = d.said;
}

pub ring_still : (streams more : Streams) → ((label : Label) (f : Frag) → frag_of streams label ≡ Some f → frag_of more label ≡ Some f)
    → (r : Ring) (s : TheDuo) → RingShows streams r s → RingShows more r s
ring_still streams more g r s h = record {
  size = h.size;
  forth = direction_still streams more r.by_first s.one s.two g h.forth;
  back = direction_still streams more r.by_second s.two s.one g h.back;
}
