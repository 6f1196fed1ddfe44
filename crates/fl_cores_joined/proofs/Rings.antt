-- A step of a side that finds what stands there is a step of the ring of the two sides.
use Rattle.std.proofs.Common.{◌≡◌, ◌⊎◌, inl, inr, refl, sym, ◌∙◌, ap, subst, ℕ, zero, suc, ◌+◌, ◌-◌, ◌/◌, ◌%◌, ◌≤◌, ◌<◌, nat_le, Bool, true, false, if◌then◌else◌, List, [], ◌∷◌, ◌++◌, length, drop, None, append_assoc, arith}
use Rattle.std.proofs.lemmas.List.{length_push, length-append, length-drop, drop-append-le}
use Rattle.std.proofs.lemmas.Bool.Decides.{nat_tests}
use Rattle.std.proofs.Math.Seq.{drop-length, drop-append_seam}
use Rattle.fl_base.specs.declared.fragment.Frag.{Frag}
use Rattle.fl_base.specs.Control.{told_of, stamped}
use Rattle.fl_base.specs.Prefix.{IsPrefix}
use Rattle.fl_link.specs.Cursor.{epoch_at}
use Rattle.fl_link.specs.Looks.{Look, placed, no_room, spent, saw, saw_ack, found, found_ack, missed, told, kept}
use Rattle.fl_link.specs.Queue.{look_at, front_of}
use Rattle.fl_ring.specs.Counts.{count_from, known_after}
use Rattle.fl_ring.specs.declared.one_duo.WhichSide.{WhichSide}
use Rattle.fl_ring.specs.declared.one_duo.WhichSide.TheVariants.{One, Two}
use Rattle.fl_ring.specs.Duo.{TheHalf, HalfPuts, HalfTakes, DuoPuts, DuoTakes, AtSide, free, counts_by, looked, with_known, with_written, with_arrived, with_taken, written, acknowledgement}
use Rattle.fl_ring.specs.SharedSides.{TheSide, SharedPuts, SharedTakes, Looked, MayStand, KnowsSent, free_of, side_missed, side_counted, side_seen, side_taken, side_written, unacknowledged_of}
use Rattle.fl_cores_joined.specs.Rings.{FacingSide, standing_for, half_of, ring_by, TookFrom, AreFacing, FindsFirst, FindsWhatStood, StepsOfRing}

-- ---- numbers and tests

le_is : (a b : ℕ) → nat_le a b ≡ true → a ≤ b
le_is a b h = grind (arith, nat_tests, h)

not_le : (a b : ℕ) → nat_le a b ≡ false → b < a
not_le a b h = grind (arith, nat_tests, h)

then_is : {A : Type 0} (b : Bool) (x y : A) → b ≡ true → (if b then x else y) ≡ x
then_is b x y h = ap (λ (t : Bool). if t then x else y) h

else_is : {A : Type 0} (b : Bool) (x y : A) → b ≡ false → (if b then x else y) ≡ y
else_is b x y h = ap (λ (t : Bool). if t then x else y) h

by_test : {P : Type 0} (b : Bool) → (b ≡ true → P) → (b ≡ false → P) → P
by_test true f g = f refl
by_test false f g = g refl

-- ---- lists

drop_next : {X : Type 0} (n : ℕ) (xs : List X) (x : X) (rest : List X) → drop n xs ≡ x ∷ rest → drop (suc n) xs ≡ rest
drop_next zero [] x rest e = absurd (cc)
drop_next zero (y ∷ xs) x rest e = cc
drop_next (suc n) [] x rest e = absurd (cc)
drop_next (suc n) (y ∷ xs) x rest e = drop_next n xs x rest e

last_same : (xs : List Frag) (a b : Frag) → xs ++ a ∷ [] ≡ xs ++ b ∷ [] → a ≡ b
last_same [] a b e = cc
last_same (x ∷ xs) a b e = let less : xs ++ a ∷ [] ≡ xs ++ b ∷ [] = cc in last_same xs a b less

took_more : (got sent : List Frag) (first : Frag) (rest : List Frag) → IsPrefix got sent → drop (length got) sent ≡ first ∷ rest
    → IsPrefix (got ++ first ∷ []) sent
took_more got sent first rest (r, e) d =
    let behind : drop (length got) sent ≡ r = ap (drop (length got)) e ∙ drop-append_seam got r in
    let same : r ≡ first ∷ rest = sym behind ∙ d in
    (rest, e ∙ ap (λ (l : List Frag). got ++ l) same ∙ sym (append_assoc got (first ∷ []) rest))

put_more : (got sent : List Frag) (f : Frag) → IsPrefix got sent → IsPrefix got (sent ++ f ∷ [])
put_more got sent f (r, e) = (r ++ f ∷ [], ap (λ (l : List Frag). l ++ f ∷ []) e ∙ append_assoc got r (f ∷ []))

prefix_length : (got sent : List Frag) → IsPrefix got sent → length got ≤ length sent
prefix_length got sent (r, e) =
    let n : length sent ≡ length got + length r = ap length e ∙ length-append got r in
    omega (arith, n)

-- ---- halves

abbrev half : ℕ → ℕ → ℕ → List Frag → List Frag → TheHalf
half n k t r w = record { sent = n; known = k; told = t; read = r; waiting = w }

same_half : {a a2 b b2 c c2 : ℕ} {r r2 w w2 : List Frag} → a ≡ a2 → b ≡ b2 → c ≡ c2 → r ≡ r2 → w ≡ w2 → half a b c r w ≡ half a2 b2 c2 r2 w2
same_half p q o u v = λ i. half (p i) (q i) (o i) (u i) (v i)

unread_is : (s : TheSide) → length (drop s.told s.got) ≡ unacknowledged_of s
unread_is s = length-drop s.told s.got

got_is : (s : TheSide) → s.told ≤ length s.got → s.told + length (drop s.told s.got) ≡ length s.got
got_is s h = let n = unread_is s in omega (arith, h, n)

-- ---- a side that made sure of so many slots

record Sure (need : ℕ) (s m : TheSide) (stood : List Frag) : Type 0 where
  pub known : m.known ≡ (if nat_le need (free_of s) then s.known else known_after s.known stood)
  pub sent : m.sent ≡ s.sent
  pub got : m.got ≡ s.got
  pub told : m.told ≡ s.told
  pub size : m.size ≡ s.size
  pub ring : m.ring ≡ s.ring

sure : (need : ℕ) (s m : TheSide) (stood : List Frag) → Looked need s m → FindsWhatStood stood s m → Sure need s m stood
sure need s m stood k f = by_test (nat_le need (free_of s)) enough few where
  enough : nat_le need (free_of s) ≡ true → Sure need s m stood
  enough q =
      let e : m ≡ s = k.by_known (le_is need (free_of s) q) in
      record {
        known = ap (λ (x : TheSide). x.known) e ∙ sym (then_is (nat_le need (free_of s)) s.known (known_after s.known stood) q);
        sent = ap (λ (x : TheSide). x.sent) e;
        got = ap (λ (x : TheSide). x.got) e;
        told = ap (λ (x : TheSide). x.told) e;
        size = ap (λ (x : TheSide). x.size) e;
        ring = ap (λ (x : TheSide). x.ring) e;
      }

  by_miss : nat_le need (free_of s) ≡ false → m ≡ side_missed s → Sure need s m stood
  by_miss q e =
      let more : m.misses ≡ s.misses + 1 = ap (λ (x : TheSide). x.misses) e in
      let none : stood ≡ [] = f.nothing (omega (arith, more)) in
      record {
        known = ap (λ (x : TheSide). x.known) e
            ∙ sym (else_is (nat_le need (free_of s)) s.known (known_after s.known stood) q ∙ ap (known_after s.known) none);
        sent = ap (λ (x : TheSide). x.sent) e;
        got = ap (λ (x : TheSide). x.got) e;
        told = ap (λ (x : TheSide). x.told) e;
        size = ap (λ (x : TheSide). x.size) e;
        ring = ap (λ (x : TheSide). x.ring) e;
      }

  by_count : nat_le need (free_of s) ≡ false → (count : ℕ) → m ≡ side_counted s count → Sure need s m stood
  by_count q count e =
      let same : m.misses ≡ s.misses = ap (λ (x : TheSide). x.misses) e in
      let more : m.loads ≡ s.loads + 1 = ap (λ (x : TheSide). x.loads) e in
      let it = f.something same (omega (arith, more)) in
      record {
        known = it.known
            ∙ sym (else_is (nat_le need (free_of s)) s.known (known_after s.known stood) q ∙ ap (known_after s.known) it.stood_is);
        sent = ap (λ (x : TheSide). x.sent) e;
        got = ap (λ (x : TheSide). x.got) e;
        told = ap (λ (x : TheSide). x.told) e;
        size = ap (λ (x : TheSide). x.size) e;
        ring = ap (λ (x : TheSide). x.ring) e;
      }

  either : nat_le need (free_of s) ≡ false
      → ((s.peeked ≡ None) × (m ≡ side_missed s)) ⊎ ((control : ℕ) × MayStand s control × (m ≡ side_counted s (count_from s.known (told_of control))) × KnowsSent m)
      → Sure need s m stood
  either q (inl (none, e)) = by_miss q e
  either q (inr (control, may, e, knows)) = by_count q (count_from s.known (told_of control)) e

  few : nat_le need (free_of s) ≡ false → Sure need s m stood
  few q = either q (k.by_look (not_le need (free_of s) q))

-- what a write finds its look found
before_write : (stood : List Frag) (s m : TheSide) (frag : Frag) → FindsWhatStood stood s (side_written m frag) → FindsWhatStood stood s m
before_write stood s m frag h = record {
  nothing = h.nothing;
  something = λ a b.
      let k = h.something a b in
      record { first = k.first; rest = k.rest; stood_is = k.stood_is; known = k.known; saw = k.saw; took = k.took };
}

-- ---- what a step leads to

record Leads (R : ℕ → TheHalf → TheHalf → Look → TheHalf → TheHalf → Type 0) (s across : TheSide) (look : Look) (t : TheSide) : Type 0 where
  pub step : R s.size (half_of s across) (half_of across s) look (half_of t across) (half_of across t)
  pub size : t.size ≡ s.size
  pub ring : t.ring ≡ s.ring
  pub here : TookFrom t across
  pub there : TookFrom across t

module _ (s across : TheSide) (here : TookFrom s across) (there : TookFrom across s) where
  abbrev stood : List Frag
  stood = standing_for s across

  -- the slots that are free, by what it knows then
  free_is : (need : ℕ) (m : TheSide) → Sure need s m stood → free_of m ≡ free s.size (length s.sent) (counts_by s.size need (half_of s across))
  free_is need m k =
      ap (λ (n : ℕ). n + m.known - length m.sent) k.size
      ∙ ap (λ (n : ℕ). s.size + n - length m.sent) k.known
      ∙ ap (λ (l : List Frag). s.size + counts_by s.size need (half_of s across) - length l) k.sent

  -- it wrote a fragment
  wrote_here : (need : ℕ) (m : TheSide) (frag : Frag) → Sure need s m stood
      → half_of (side_written m frag) across ≡ with_written (with_known (half_of s across) (counts_by s.size need (half_of s across)))
  wrote_here need m frag k =
      same_half
      (length_push m.sent (stamped frag (epoch_at m.size (length m.sent)) (length m.got % 65536)) ∙ ap (λ (l : List Frag). length l + 1) k.sent)
      k.known
      (ap length k.got ∙ sym (got_is s here.told))
      (drop-length m.got)
      (ap (λ (l : List Frag). drop (length l) across.sent) k.got)

  stamped_so : (need : ℕ) (m : TheSide) (frag : Frag) → Sure need s m stood
      → stamped frag (epoch_at m.size (length m.sent)) (length m.got % 65536) ≡ written s.size (half_of s across) frag
  stamped_so need m frag k =
      ap (λ (n : ℕ). stamped frag (epoch_at n (length m.sent)) (length m.got % 65536)) k.size
      ∙ ap (λ (l : List Frag). stamped frag (epoch_at s.size (length l)) (length m.got % 65536)) k.sent
      ∙ ap (λ (n : ℕ). stamped frag (epoch_at s.size (length s.sent)) (n % 65536)) (ap length k.got ∙ sym (got_is s here.told))

  wrote_there : (need : ℕ) (m : TheSide) (frag : Frag) → Sure need s m stood
      → half_of across (side_written m frag) ≡ with_arrived (half_of across s) (written s.size (half_of s across) frag)
  wrote_there need m frag k =
      let f : Frag = stamped frag (epoch_at m.size (length m.sent)) (length m.got % 65536) in
      same_half refl refl refl refl
      (ap (λ (l : List Frag). drop (length across.got) (l ++ f ∷ [])) k.sent
      ∙ drop-append-le (length across.got) s.sent (f ∷ []) (prefix_length across.got s.sent there.took)
      ∙ ap (λ (x : Frag). drop (length across.got) s.sent ++ x ∷ []) (stamped_so need m frag k))

  wrote_behind : (need : ℕ) (m : TheSide) (frag : Frag) → Sure need s m stood → TookFrom (side_written m frag) across
  wrote_behind need m frag k = record {
    took = subst (λ (l : List Frag). IsPrefix l across.sent) (sym k.got) here.took;
    told = omega arith;
  }

  wrote_ahead : (need : ℕ) (m : TheSide) (frag : Frag) → Sure need s m stood → TookFrom across (side_written m frag)
  wrote_ahead need m frag k =
      let f : Frag = stamped frag (epoch_at m.size (length m.sent)) (length m.got % 65536) in
      record {
        took = subst (λ (l : List Frag). IsPrefix across.got (l ++ f ∷ [])) (sym k.sent) (put_more across.got s.sent f there.took);
        told = there.told;
      }

  -- it found too few slots
  looked_here : (need : ℕ) (t : TheSide) → Sure need s t stood
      → half_of t across ≡ with_known (half_of s across) (counts_by s.size need (half_of s across))
  looked_here need t k =
      same_half (ap length k.sent) k.known k.told
      (ap (λ (n : ℕ). drop n t.got) k.told ∙ ap (λ (l : List Frag). drop s.told l) k.got)
      (ap (λ (l : List Frag). drop (length l) across.sent) k.got)

  looked_there : (need : ℕ) (t : TheSide) → Sure need s t stood → half_of across t ≡ half_of across s
  looked_there need t k = same_half refl refl refl refl (ap (λ (l : List Frag). drop (length across.got) l) k.sent)

  looked_behind : (need : ℕ) (t : TheSide) → Sure need s t stood → TookFrom t across
  looked_behind need t k =
      let l : length t.got ≡ length s.got = ap length k.got in
      record {
        took = subst (λ (l : List Frag). IsPrefix l across.sent) (sym k.got) here.took;
        told = omega (arith, here.told, k.told, l);
      }

  looked_ahead : (need : ℕ) (t : TheSide) → Sure need s t stood → TookFrom across t
  looked_ahead need t k = record {
    took = subst (λ (l : List Frag). IsPrefix across.got l) (sym k.sent) there.took;
    told = there.told;
  }

  -- nothing has changed but how often it looked
  stays : (R : ℕ → TheHalf → TheHalf → Look → TheHalf → TheHalf → Type 0) (look : Look) (t : TheSide) → t ≡ s
      → R s.size (half_of s across) (half_of across s) look (half_of s across) (half_of across s) → Leads R s across look t
  stays R look t e step = subst (λ (y : TheSide). Leads R s across look y) (sym e) (record { step = step; size = refl; ring = refl; here = here; there = there })

  misses : (R : ℕ → TheHalf → TheHalf → Look → TheHalf → TheHalf → Type 0) (look : Look) (t : TheSide) → t ≡ side_missed s
      → R s.size (half_of s across) (half_of across s) look (half_of s across) (half_of across s) → Leads R s across look t
  misses R look t e step =
      subst (λ (y : TheSide). Leads R s across look y) (sym e) (record {
        step = step;
        size = refl;
        ring = refl;
        here = record { took = here.took; told = here.told };
        there = record { took = there.took; told = there.told };
      })

  -- ---- puts

  puts_lead : (look : Look) (t : TheSide) → SharedPuts s look t → FindsWhatStood stood s t → Leads HalfPuts s across look t
  puts_lead (placed frag) t (plain, less, (m, k, enough, e)) h =
      let y = sure 2 s m stood k (before_write stood s m frag (subst (FindsWhatStood stood s) e h)) in
      subst (λ (z : TheSide). Leads HalfPuts s across (placed frag) z) (sym e) (record {
        step = (plain, less, subst (λ (n : ℕ). 2 ≤ n) (free_is 2 m y) enough, wrote_here 2 m frag y, wrote_there 2 m frag y);
        size = y.size;
        ring = y.ring;
        here = wrote_behind 2 m frag y;
        there = wrote_ahead 2 m frag y;
      })
  puts_lead no_room t (less, k, before, few) h =
      let y = sure 2 s t stood k h in
      record {
        step = (less, subst (λ (n : ℕ). n < 2) (free_is 2 t y) few, looked_here 2 t y, looked_there 2 t y);
        size = y.size;
        ring = y.ring;
        here = looked_behind 2 t y;
        there = looked_ahead 2 t y;
      }
  puts_lead spent t (full, e) h = stays HalfPuts spent t e (full, refl, refl)
  puts_lead look t a h = absurd a

  -- ---- takes

  -- a fragment was found: it is the first
  found_of : (t : TheSide) → FindsWhatStood stood s t → t.misses ≡ s.misses → t.loads ≡ s.loads + 1 → FindsFirst stood s t
  found_of t h same more = h.something same (omega (arith, more))

  saw_first : (t : TheSide) (first : Frag) → FindsWhatStood stood s t → t ≡ side_seen s first
      → (k : FindsFirst stood s t) × (first ≡ k.first)
  saw_first t first h e =
      let k = found_of t h (ap (λ (x : TheSide). x.misses) e) (ap (λ (x : TheSide). x.loads) e) in
      (k, k.saw first (ap (λ (x : TheSide). x.peeked) e))

  took_first : (t : TheSide) (first : Frag) → FindsWhatStood stood s t → t ≡ side_taken s first
      → (k : FindsFirst stood s t) × (first ≡ k.first)
  took_first t first h e =
      let k = found_of t h (ap (λ (x : TheSide). x.misses) e) (ap (λ (x : TheSide). x.loads) e) in
      (k, by k.first k.took)
    where
      more : t.got ≡ s.got ++ first ∷ []
      more = ap (λ (x : TheSide). x.got) e

      by : (it : Frag) → (t.got ≡ s.got) ⊎ (t.got ≡ s.got ++ it ∷ []) → first ≡ it
      by it (inl none) =
          let long : length (s.got ++ first ∷ []) ≡ length s.got = ap length (sym more ∙ none) in
          let n = length_push s.got first in
          absurd (omega (arith, long, n))
      by it (inr one) = last_same s.got first it (sym more ∙ one)

  seen_leads : (look : Look) (t : TheSide) (first : Frag) → (look_at first ≡ look) → FindsWhatStood stood s t → t ≡ side_seen s first
      → (front_of stood ≡ look) × (half_of t across ≡ with_known (half_of s across) (looked (half_of s across))) × (half_of across t ≡ half_of across s)
  seen_leads look t first at h e =
      let (k, same) = saw_first t first h e in (
        ap front_of k.stood_is ∙ ap look_at (sym same) ∙ at,
        same_half (ap (λ (x : TheSide). length x.sent) e) (k.known ∙ sym (ap (known_after s.known) k.stood_is)) (ap (λ (x : TheSide). x.told) e)
            (ap (λ (x : TheSide). drop x.told x.got) e) (ap (λ (x : TheSide). drop (length x.got) across.sent) e),
        ap (λ (x : TheSide). half_of across x) e,
      )

  seen_behind : (t : TheSide) (first : Frag) → t ≡ side_seen s first → TookFrom t across
  seen_behind t first e = subst (λ (y : TheSide). TookFrom y across) (sym e) (record { took = here.took; told = here.told })

  seen_ahead : (t : TheSide) (first : Frag) → t ≡ side_seen s first → TookFrom across t
  seen_ahead t first e = subst (λ (y : TheSide). TookFrom across y) (sym e) (record { took = there.took; told = there.told })

  taken_leads : (look : Look) (t : TheSide) (first : Frag) → (look_at first ≡ look) → FindsWhatStood stood s t → t ≡ side_taken s first
      → (front_of stood ≡ look)
      × ((one : Frag) × (rest : List Frag) × (stood ≡ one ∷ rest) × (half_of t across ≡ with_taken (half_of s across) one rest))
      × (half_of across t ≡ half_of across s)
  taken_leads look t first at h e =
      let (k, same) = took_first t first h e in
      let longer : length (s.got ++ first ∷ []) ≡ suc (length s.got) = let n = length_push s.got first in omega (arith, n) in (
        ap front_of k.stood_is ∙ ap look_at (sym same) ∙ at,
        (
          k.first,
          k.rest,
          k.stood_is,
          same_half (ap (λ (x : TheSide). length x.sent) e) (k.known ∙ sym (ap (known_after s.known) k.stood_is)) (ap (λ (x : TheSide). x.told) e)
              (ap (λ (x : TheSide). drop x.told x.got) e ∙ drop-append-le s.told s.got (first ∷ []) here.told
              ∙ ap (λ (f : Frag). drop s.told s.got ++ f ∷ []) same)
              (ap (λ (x : TheSide). drop (length x.got) across.sent) e ∙ ap (λ (n : ℕ). drop n across.sent) longer
              ∙ drop_next (length s.got) across.sent k.first k.rest k.stood_is),
        ),
        ap (λ (x : TheSide). half_of across x) e,
      )

  taken_behind : (t : TheSide) (first : Frag) → FindsWhatStood stood s t → t ≡ side_taken s first → TookFrom t across
  taken_behind t first h e =
      let (k, same) = took_first t first h e in
      let n = length_push s.got first in
      subst (λ (y : TheSide). TookFrom y across) (sym e) (record {
        took = subst (λ (f : Frag). IsPrefix (s.got ++ f ∷ []) across.sent) (sym same) (took_more s.got across.sent k.first k.rest here.took k.stood_is);
        told = omega (arith, here.told, n);
      })

  taken_ahead : (t : TheSide) (first : Frag) → t ≡ side_taken s first → TookFrom across t
  taken_ahead t first e = subst (λ (y : TheSide). TookFrom across y) (sym e) (record { took = there.took; told = there.told })

  half_unread : (n : ℕ) → n ≤ unacknowledged_of s → n ≤ length (drop s.told s.got)
  half_unread n h = let l = unread_is s in omega (arith, h, l)

  takes_lead : (look : Look) (t : TheSide) → SharedTakes s look t → FindsWhatStood stood s t → Leads HalfTakes s across look t
  takes_lead (saw frag) t (first, at, (may, e, knows)) h = record {
    step = seen_leads (saw frag) t first at h e;
    size = ap (λ (x : TheSide). x.size) e;
    ring = ap (λ (x : TheSide). x.ring) e;
    here = seen_behind t first e;
    there = seen_ahead t first e;
  }
  takes_lead saw_ack t (first, at, (may, e, knows)) h = record {
    step = seen_leads saw_ack t first at h e;
    size = ap (λ (x : TheSide). x.size) e;
    ring = ap (λ (x : TheSide). x.ring) e;
    here = seen_behind t first e;
    there = seen_ahead t first e;
  }
  takes_lead (found frag) t (first, at, (may, e, knows)) h = record {
    step = taken_leads (saw frag) t first at h e;
    size = ap (λ (x : TheSide). x.size) e;
    ring = ap (λ (x : TheSide). x.ring) e;
    here = taken_behind t first h e;
    there = taken_ahead t first e;
  }
  takes_lead found_ack t (first, at, (may, e, knows)) h = record {
    step = taken_leads saw_ack t first at h e;
    size = ap (λ (x : TheSide). x.size) e;
    ring = ap (λ (x : TheSide). x.ring) e;
    here = taken_behind t first h e;
    there = taken_ahead t first e;
  }
  takes_lead missed t (none, e) h =
      let more : t.misses ≡ s.misses + 1 = ap (λ (x : TheSide). x.misses) e in
      misses HalfTakes missed t e (h.nothing (omega (arith, more)), refl, refl)
  takes_lead told t (unread, less, (m, k, enough, e)) h =
      let y = sure 1 s m stood k (before_write stood s m acknowledgement (subst (FindsWhatStood stood s) e h)) in
      subst (λ (z : TheSide). Leads HalfTakes s across told z) (sym e) (record {
        step = (
          half_unread (s.size / 2) unread,
          less,
          subst (λ (n : ℕ). 1 ≤ n) (free_is 1 m y) enough,
          wrote_here 1 m acknowledgement y,
          wrote_there 1 m acknowledgement y,
        );
        size = y.size;
        ring = y.ring;
        here = wrote_behind 1 m acknowledgement y;
        there = wrote_ahead 1 m acknowledgement y;
      })
  takes_lead kept t (few, e) h = stays HalfTakes kept t e (let l = unread_is s in let less : length (drop s.told s.got) < s.size / 2 = omega (arith, few, l) in less, refl, refl)
  takes_lead no_room t (unread, inl (full, e)) h = stays HalfTakes no_room t e (half_unread (s.size / 2) unread, refl, inl (full, refl))
  takes_lead no_room t (unread, inr (less, k, before, few)) h =
      let y = sure 1 s t stood k h in
      record {
        step = (
          half_unread (s.size / 2) unread,
          looked_there 1 t y,
          inr (less, subst (λ (n : ℕ). n < 1) (free_is 1 t y) few, looked_here 1 t y),
        );
        size = y.size;
        ring = y.ring;
        here = looked_behind 1 t y;
        there = looked_ahead 1 t y;
      }
  takes_lead look t a h = absurd a

-- ---- the ring, by the side that steps

abbrev facing : TheSide → TheSide → FacingSide
facing side across = record { side = side; across = across }

by_side : (R : ℕ → TheHalf → TheHalf → Look → TheHalf → TheHalf → Type 0) (which : WhichSide) (s t across : TheSide) (look : Look) → across.size ≡ s.size
    → across.ring ≡ s.ring → Leads R s across look t → AtSide R which (ring_by which (facing s across)) look (ring_by which (facing t across)) × AreFacing (facing t across)
by_side R One s t across look size ring k =
    ((k.step, k.size), record { ring = ring ∙ sym k.ring; size = size ∙ sym k.size; here = k.here; there = k.there })
by_side R Two s t across look size ring k = (
  (subst (λ (n : ℕ). R n (half_of s across) (half_of across s) look (half_of t across) (half_of across t)) (sym size) k.step, refl),
  record { ring = ring ∙ sym k.ring; size = size ∙ sym k.size; here = k.here; there = k.there },
)

goes : (R : ℕ → TheHalf → TheHalf → Look → TheHalf → TheHalf → Type 0) (which : WhichSide) (x y : FacingSide) (look : Look) → AreFacing x
    → y.across ≡ x.across → Leads R x.side x.across look y.side
    → AtSide R which (ring_by which x) look (ring_by which y) × AreFacing y
goes R which x y look a same k =
    let e : y ≡ facing y.side x.across = ap (λ (z : TheSide). facing y.side z) same in
    subst (λ (z : FacingSide). AtSide R which (ring_by which x) look (ring_by which z) × AreFacing z) (sym e)
    (by_side R which x.side y.side x.across look a.size a.ring k)

pub puts_are : StepsOfRing SharedPuts DuoPuts
puts_are which x y look a (step, finds, same) = goes HalfPuts which x y look a same (puts_lead x.side x.across a.here a.there look y.side step finds)

pub takes_are : StepsOfRing SharedTakes DuoTakes
takes_are which x y look a (step, finds, same) = goes HalfTakes which x y look a same (takes_lead x.side x.across a.here a.there look y.side step finds)
