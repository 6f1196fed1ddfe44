-- Rings, by the side that puts, looks, takes or tells.
use Rattle.std.proofs.Common.{◌≡◌, ◌⊎◌, inl, inr, refl, sym, ◌∙◌, ap, subst, ℕ, ◌+◌, ◌-◌, ◌/◌, ◌%◌, ◌≤◌, ◌<◌, ◌^◌, ◌||◌, nat_le, Bool, true, false, if◌then◌else◌, List, [], ◌∷◌, ◌++◌, length, map, Some, None, arith}
use Rattle.std.proofs.lemmas.List.{length_push, map_push}
use Rattle.fl_base.specs.declared.fragment.Frag.{Frag}
use Rattle.fl_base.specs.Control.{told_of, stamped, bare}
use Rattle.fl_link.specs.Cursor.{epoch_at}
use Rattle.fl_link.specs.Calls.{bare_calls}
use Rattle.fl_link.specs.Looks.{Look, placed, no_room, spent, saw, saw_ack, found, found_ack, missed, told, kept}
use Rattle.fl_link.proofs.Carried.{bare-stamped}
use Rattle.fl_ring.specs.Counts.{count_from}
use Rattle.fl_ring.specs.Duo.{acknowledgement}
use Rattle.fl_ring.specs.SharedSides.{TheSide, free_of, side_missed, side_counted, side_seen, side_taken, side_written, unacknowledged_of, MayStand, KnowsSent, Looked, SharedPuts, SharedTakes}
use Rattle.fl_ring.proofs.Conserved.{side_conserves}
use Rattle.fl_ring.proofs.Places.{epoch_bit}
use Rattle.fl_model.specs.Rings.{Label, acknowledges, Ring, first_side, looks, free, is_spent, Room, owes}
use Rattle.fl_model.specs.Rings.{there_is_room, no_room as none_free, spent as used_up, for_data, for_acknowledgement}
use Rattle.fl_core_refines.specs.CutSides.{SideCut, ShowsSide, Sight, seeing, telling, looked_at, took, sure_of, room_of, put_on, SideGives, Becomes, PutShows, LookShows, gave_one, gave_ack}
use Rattle.fl_world_refines.proofs.Tests.{by_test, then_is, else_is, le_true, le_false, true_le, false_le}

-- ---- room

-- by what a side knows, and by the machine's ring
free_is : (x : SideCut) (s : TheSide) → ShowsSide x s → free first_side x.ring ≡ free_of s
free_is x s h =
    ap (λ (n : ℕ). n + x.ring.by_first.known - x.ring.by_first.sent) (sym h.size)
    ∙ ap (λ (n : ℕ). s.size + n - x.ring.by_first.sent) (sym h.known)
    ∙ ap (λ (n : ℕ). s.size + s.known - n) (sym h.sent)

spent_is : (x : SideCut) (s : TheSide) → ShowsSide x s → is_spent first_side x.ring ≡ nat_le (2 ^ 62) (length s.sent)
spent_is x s h = ap (nat_le (2 ^ 62)) (sym h.sent)

abbrev room_by : ℕ → Bool → ℕ → Room
room_by need used slots = if used then used_up else if nat_le need slots then there_is_room else none_free

room_is : (need : ℕ) (x : SideCut) (s : TheSide) → ShowsSide x s
    → room_of need x ≡ room_by need (nat_le (2 ^ 62) (length s.sent)) (free_of s)
room_is need x s h =
    ap (λ (b : Bool). room_by need b (free first_side x.ring)) (spent_is x s h) ∙ ap (room_by need (nat_le (2 ^ 62) (length s.sent))) (free_is x s h)

some_room : (need : ℕ) (x : SideCut) (s : TheSide) → ShowsSide x s → length s.sent < 2 ^ 62 → need ≤ free_of s → room_of need x ≡ there_is_room
some_room need x s h less enough =
    room_is need x s h
    ∙ ap (λ (b : Bool). room_by need b (free_of s)) (le_false (2 ^ 62) (length s.sent) less)
    ∙ then_is (nat_le need (free_of s)) there_is_room none_free (le_true need (free_of s) enough)

too_little : (need : ℕ) (x : SideCut) (s : TheSide) → ShowsSide x s → length s.sent < 2 ^ 62 → free_of s < need → room_of need x ≡ none_free
too_little need x s h less few =
    room_is need x s h
    ∙ ap (λ (b : Bool). room_by need b (free_of s)) (le_false (2 ^ 62) (length s.sent) less)
    ∙ else_is (nat_le need (free_of s)) there_is_room none_free (le_false need (free_of s) few)

no_more : (need : ℕ) (x : SideCut) (s : TheSide) → ShowsSide x s → length s.sent ≡ 2 ^ 62 → room_of need x ≡ used_up
no_more need x s h full =
    room_is need x s h ∙ ap (λ (b : Bool). room_by need b (free_of s)) (le_true (2 ^ 62) (length s.sent) (omega (arith, full)))

-- ---- looks

abbrev seen_so : Sight → SideCut → SideCut
seen_so sight x = record x { ring = seeing sight x.ring }

-- the same counts, whatever stands first
sees : (sight : Sight) (x : SideCut) (s : TheSide) → ShowsSide x s → ShowsSide (seen_so sight x) s
sees sight x s h = record { size = h.size; sent = h.sent; known = h.known; read = h.read; told = h.told; put = h.put; got = h.got }

abbrev is_sure : ℕ → SideCut → Bool
is_sure need x = is_spent first_side x.ring || nat_le need (free first_side x.ring)

abbrev with_ring : SideCut → Ring → SideCut
with_ring x r = record x { ring = r }

-- where it knows of enough slots, or of too many fragments, it doesn't look
sure_already : (need : ℕ) (sight : Sight) (x : SideCut) → is_sure need x ≡ true → sure_of need sight x ≡ seen_so sight x
sure_already need sight x h = ap (with_ring x) (then_is (is_sure need x) (seeing sight x.ring) (looks first_side (seeing sight x.ring)) h)

sure_looked : (need : ℕ) (sight : Sight) (x : SideCut) → is_sure need x ≡ false → sure_of need sight x ≡ looked_at sight x
sure_looked need sight x h = ap (with_ring x) (else_is (is_sure need x) (seeing sight x.ring) (looks first_side (seeing sight x.ring)) h)

test_is : (need : ℕ) (x : SideCut) (s : TheSide) (b : Bool) → ShowsSide x s → length s.sent < 2 ^ 62 → nat_le need (free_of s) ≡ b → is_sure need x ≡ b
test_is need x s b h less e =
    ap (λ (c : Bool). c || nat_le need (free first_side x.ring)) (spent_is x s h ∙ le_false (2 ^ 62) (length s.sent) less)
    ∙ ap (nat_le need) (free_is x s h) ∙ e

missed_shows : (x : SideCut) (s : TheSide) → ShowsSide x s → ShowsSide (looked_at None x) (side_missed s)
missed_shows x s h = record { size = h.size; sent = h.sent; known = h.known; read = h.read; told = h.told; put = h.put; got = h.got }

counted_shows : (label : Label) (count : ℕ) (x : SideCut) (s : TheSide) → ShowsSide x s
    → ShowsSide (looked_at (Some (telling label count)) x) (side_counted s count)
counted_shows label count x s h = record { size = h.size; sent = h.sent; known = refl; read = h.read; told = h.told; put = h.put; got = h.got }

seen_shows : (label : Label) (f : Frag) (x : SideCut) (s : TheSide) → ShowsSide x s
    → ShowsSide (looked_at (Some (telling label (count_from s.known (told_of f.control)))) x) (side_seen s f)
seen_shows label f x s h = record { size = h.size; sent = h.sent; known = refl; read = h.read; told = h.told; put = h.put; got = h.got }

taken_shows : (label : Label) (frags : List Frag) (f : Frag) (x : SideCut) (s : TheSide) → ShowsSide x s → bare_calls (s.got ++ f ∷ []) ≡ bare_calls s.got ++ frags
    → ShowsSide (took frags (Some (telling label (count_from s.known (told_of f.control)))) x) (side_taken s f)
taken_shows label frags f x s h more = record {
  size = h.size;
  sent = h.sent;
  known = refl;
  read = length_push s.got f ∙ ap (λ (n : ℕ). n + 1) h.read;
  told = h.told;
  put = h.put;
  got = more ∙ ap (λ (fs : List Frag). fs ++ frags) h.got;
}

-- what a take adds to the fragments of calls
got_one : (s t : TheSide) (f first : Frag) → SharedTakes s (found f) t → t ≡ side_taken s first → bare_calls (s.got ++ first ∷ []) ≡ bare_calls s.got ++ f ∷ []
got_one s t f first a e = ap (λ (y : TheSide). bare_calls y.got) (sym e) ∙ (side_conserves s t (found f ∷ []) (t, inr a, refl)).took

got_none : (s t : TheSide) (first : Frag) → SharedTakes s found_ack t → t ≡ side_taken s first → bare_calls (s.got ++ first ∷ []) ≡ bare_calls s.got ++ []
got_none s t first a e = ap (λ (y : TheSide). bare_calls y.got) (sym e) ∙ (side_conserves s t (found_ack ∷ []) (t, inr a, refl)).took

-- the side once it has made sure, by whatever its look found
record Sure (need : ℕ) (x : SideCut) (m : TheSide) : Type 0 where
  pub sight : Sight
  pub shows : ShowsSide (sure_of need sight x) m

sure : (need : ℕ) (x : SideCut) (s m : TheSide) → ShowsSide x s → length s.sent < 2 ^ 62 → Looked need s m → Sure need x m
sure need x s m h less k = by_test (nat_le need (free_of s)) enough few where
  enough : nat_le need (free_of s) ≡ true → Sure need x m
  enough q = record {
    sight = None;
    shows = subst (λ (y : SideCut). ShowsSide y m) (sym (sure_already need None x (test_is need x s true h less q)))
        (subst (ShowsSide (seen_so None x)) (sym (k.by_known (true_le need (free_of s) q))) (sees None x s h));
  }

  found_so : (sight : Sight) → nat_le need (free_of s) ≡ false → ShowsSide (looked_at sight x) m → Sure need x m
  found_so seen q y = record {
    sight = seen;
    shows = subst (λ (z : SideCut). ShowsSide z m) (sym (sure_looked need seen x (test_is need x s false h less q))) y;
  }

  looked : nat_le need (free_of s) ≡ false
      → ((s.peeked ≡ None) × (m ≡ side_missed s)) ⊎ ((control : ℕ) × MayStand s control × (m ≡ side_counted s (count_from s.known (told_of control))) × KnowsSent m)
      → Sure need x m
  looked q (inl (none, e)) = found_so None q (subst (ShowsSide (looked_at None x)) (sym e) (missed_shows x s h))
  looked q (inr (control, may, e, knows)) =
      found_so (Some (telling acknowledges (count_from s.known (told_of control)))) q
      (subst (ShowsSide (looked_at (Some (telling acknowledges (count_from s.known (told_of control)))) x)) (sym e)
      (counted_shows acknowledges (count_from s.known (told_of control)) x s h))

  few : nat_le need (free_of s) ≡ false → Sure need x m
  few q = looked q (k.by_look (false_le need (free_of s) q))

-- nothing was sent by it
same_sent : (need : ℕ) (s m : TheSide) → Looked need s m → m.sent ≡ s.sent
same_sent need s m k = by_test (nat_le need (free_of s)) (λ q. ap (λ (x : TheSide). x.sent) (k.by_known (true_le need (free_of s) q)))
    (λ q. either (k.by_look (false_le need (free_of s) q))) where
      either : ((s.peeked ≡ None) × (m ≡ side_missed s)) ⊎ ((control : ℕ) × MayStand s control × (m ≡ side_counted s (count_from s.known (told_of control))) × KnowsSent m)
          → m.sent ≡ s.sent
      either (inl (none, e)) = ap (λ (x : TheSide). x.sent) e
      either (inr (control, may, e, knows)) = ap (λ (x : TheSide). x.sent) e

still_unspent : (need : ℕ) (s m : TheSide) → Looked need s m → length s.sent < 2 ^ 62 → length m.sent < 2 ^ 62
still_unspent need s m k less = subst (λ (n : ℕ). n < 2 ^ 62) (sym (ap length (same_sent need s m k))) less

-- on a spent ring it doesn't look
sure_spent : (need : ℕ) (x : SideCut) (s : TheSide) → ShowsSide x s → length s.sent ≡ 2 ^ 62 → ShowsSide (sure_of need None x) s
sure_spent need x s h full =
    subst (λ (y : SideCut). ShowsSide y s)
    (sym (sure_already need None x (ap (λ (b : Bool). b || nat_le need (free first_side x.ring)) (spent_is x s h ∙ le_true (2 ^ 62) (length s.sent) (omega (arith, full))))))
    (sees None x s h)

-- ---- puts

-- what was read is told by what is written
written_shows : (label : Label) (f : Frag) (x : SideCut) (s : TheSide) → ShowsSide x s → ShowsSide (put_on label f x) (side_written s f)
written_shows label f x s h = record {
  size = h.size;
  sent = length_push s.sent (stamped f (epoch_at s.size (length s.sent)) (length s.got % 65536)) ∙ ap (λ (n : ℕ). n + 1) h.sent;
  known = h.known;
  read = h.read;
  told = h.read;
  got = h.got;
  put = map_push bare s.sent (stamped f (epoch_at s.size (length s.sent)) (length s.got % 65536))
      ∙ ap (λ (g : Frag). map bare s.sent ++ g ∷ [])
      (bare-stamped f (epoch_at s.size (length s.sent)) (length s.got % 65536) (epoch_bit s.size (length s.sent)))
      ∙ ap (λ (fs : List Frag). fs ++ bare f ∷ []) h.put;
}

pub put_agrees : (label : Label) (x : SideCut) (s t : TheSide) (look : Look) → ShowsSide x s → SharedPuts s look t → PutShows label look x t
put_agrees label x s t (placed f) h (kind, less, (m, k, enough, e)) =
    let y = sure for_data x s m h less k in (
      put_on label f (sure_of for_data y.sight x),
      (y.sight, some_room for_data (sure_of for_data y.sight x) m y.shows (still_unspent for_data s m k less) enough, refl),
      subst (ShowsSide (put_on label f (sure_of for_data y.sight x))) (sym e) (written_shows label f (sure_of for_data y.sight x) m y.shows),
    )
put_agrees label x s t no_room h (less, k, before, few) =
    let y = sure for_data x s t h less k in (
      sure_of for_data y.sight x,
      (y.sight, too_little for_data (sure_of for_data y.sight x) t y.shows (still_unspent for_data s t k less) few, refl),
      y.shows,
    )
put_agrees label x s t spent h (full, e) =
    let y = sure_spent for_data x s h full in (
      sure_of for_data None x,
      (None, no_more for_data (sure_of for_data None x) s y full, refl),
      subst (ShowsSide (sure_of for_data None x)) (sym e) y,
    )
put_agrees label x s t look h a = absurd a

-- ---- takes

owes_is : (x : SideCut) (s : TheSide) → ShowsSide x s → owes first_side x.ring ≡ nat_le (s.size / 2) (unacknowledged_of s)
owes_is x s h =
    ap (λ (n : ℕ). nat_le (n / 2) (x.ring.by_second.read - x.ring.by_second.told)) (sym h.size)
    ∙ ap (λ (n : ℕ). nat_le (s.size / 2) (n - x.ring.by_second.told)) (sym h.read)
    ∙ ap (λ (n : ℕ). nat_le (s.size / 2) (length s.got - n)) (sym h.told)

abbrev told_by : TheSide → Frag → ℕ
told_by s f = count_from s.known (told_of f.control)

pub look_agrees : (label : Label) (x : SideCut) (s t : TheSide) (look : Look) → ShowsSide x s → SharedTakes s look t → LookShows label look x t
look_agrees label x s t (saw f) h (first, at, (may, e, knows)) = (
  looked_at (Some (telling label (told_by s first))) x,
  (told_by s first, refl),
  subst (ShowsSide (looked_at (Some (telling label (told_by s first))) x)) (sym e) (seen_shows label first x s h),
)
look_agrees label x s t missed h (none, e) = (looked_at None x, refl, subst (ShowsSide (looked_at None x)) (sym e) (missed_shows x s h))
look_agrees label x s t told h (half, less, (m, k, enough, e)) =
    let y = sure for_acknowledgement x s m h less k in (
      put_on acknowledges acknowledgement (sure_of for_acknowledgement y.sight x),
      (
        y.sight,
        owes_is x s h ∙ le_true (s.size / 2) (unacknowledged_of s) half,
        some_room for_acknowledgement (sure_of for_acknowledgement y.sight x) m y.shows (still_unspent for_acknowledgement s m k less) enough,
        refl,
      ),
      subst (ShowsSide (put_on acknowledges acknowledgement (sure_of for_acknowledgement y.sight x))) (sym e)
          (written_shows acknowledges acknowledgement (sure_of for_acknowledgement y.sight x) m y.shows),
    )
look_agrees label x s t kept h (few, e) = (x, (owes_is x s h ∙ le_false (s.size / 2) (unacknowledged_of s) few, refl), subst (ShowsSide x) (sym e) h)
look_agrees label x s t no_room h (half, inl (full, e)) =
    let y = sure_spent for_acknowledgement x s h full in (
      sure_of for_acknowledgement None x,
      (
        None,
        owes_is x s h ∙ le_true (s.size / 2) (unacknowledged_of s) half,
        inr (no_more for_acknowledgement (sure_of for_acknowledgement None x) s y full),
        refl,
      ),
      subst (ShowsSide (sure_of for_acknowledgement None x)) (sym e) y,
    )
look_agrees label x s t no_room h (half, inr (less, k, before, few)) =
    let y = sure for_acknowledgement x s t h less k in (
      sure_of for_acknowledgement y.sight x,
      (
        y.sight,
        owes_is x s h ∙ le_true (s.size / 2) (unacknowledged_of s) half,
        inl (too_little for_acknowledgement (sure_of for_acknowledgement y.sight x) t y.shows (still_unspent for_acknowledgement s t k less) few),
        refl,
      ),
      y.shows,
    )
look_agrees label x s t look h a = tt

-- a take, which knows what it tells
pub takes_again : (label : Label) (x : SideCut) (s t : TheSide) (f : Frag) → ShowsSide x s → SharedTakes s (found f) t → Becomes (SideGives label (gave_one f)) x t
takes_again label x s t f h (first, at, (may, e, knows)) = (
  took (f ∷ []) (Some (telling label (told_by s first))) x,
  (told_by s first, refl),
  subst (ShowsSide (took (f ∷ []) (Some (telling label (told_by s first))) x)) (sym e)
      (taken_shows label (f ∷ []) first x s h (got_one s t f first (first, at, (may, e, knows)) e)),
)

-- a look, and then a take
pub takes_one : (label : Label) (x : SideCut) (s m t : TheSide) (f : Frag) → ShowsSide x s → SharedTakes s (saw f) m → SharedTakes m (found f) t
    → Becomes (SideGives label (gave_one f)) x t
takes_one label x s m t f h (first, at, (may, e, knows)) (again, at2, (may2, e2, knows2)) =
    let seen = subst (ShowsSide (looked_at (Some (telling label (told_by s first))) x)) (sym e) (seen_shows label first x s h) in
    let y = taken_shows label (f ∷ []) again (looked_at (Some (telling label (told_by s first))) x) m seen
    (got_one m t f again (again, at2, (may2, e2, knows2)) e2) in
    let z : ShowsSide (took (f ∷ []) (Some (telling label (told_by m again))) x) (side_taken m again)
    = record { size = y.size; sent = y.sent; known = y.known; read = y.read; told = y.told; put = y.put; got = y.got } in (
      took (f ∷ []) (Some (telling label (told_by m again))) x,
      (told_by m again, refl),
      subst (ShowsSide (took (f ∷ []) (Some (telling label (told_by m again))) x)) (sym e2) z,
    )

pub takes_ack : (label : Label) (x : SideCut) (s m t : TheSide) → ShowsSide x s → SharedTakes s saw_ack m → SharedTakes m found_ack t
    → Becomes (SideGives label gave_ack) x t
takes_ack label x s m t h (first, at, (may, e, knows)) (again, at2, (may2, e2, knows2)) =
    let seen = subst (ShowsSide (looked_at (Some (telling acknowledges (told_by s first))) x)) (sym e) (seen_shows acknowledges first x s h) in
    let y = taken_shows acknowledges [] again (looked_at (Some (telling acknowledges (told_by s first))) x) m seen
    (got_none m t again (again, at2, (may2, e2, knows2)) e2) in
    let z : ShowsSide (took [] (Some (telling acknowledges (told_by m again))) x) (side_taken m again)
    = record { size = y.size; sent = y.sent; known = y.known; read = y.read; told = y.told; put = y.put; got = y.got } in (
      took [] (Some (telling acknowledges (told_by m again))) x,
      (told_by m again, refl),
      subst (ShowsSide (took [] (Some (telling acknowledges (told_by m again))) x)) (sym e2) z,
    )
