-- The steps of a ring with one owner.
use Rattle.std.proofs.Common.{ℕ, zero, suc, ◌≡◌, ◌≢◌, ◌<◌, ◌≤◌, ◌+◌, ◌*◌, ◌%◌, ◌-◌, ◌^◌, Bool, true, false, cond, ltb, ◌&&◌, set, inr, List, [], ◌∷◌, ◌++◌, length, get_or, ap, subst, ◌∙◌, sym, refl, arith, Option, Some, None, MatchOption, length-append, append_assoc, length-set, get_or-set_same, get_or-set_other}
use Rattle.fl_base.specs.declared.fragment.Frag.{Frag}
use Rattle.fl_base.specs.Control.{epoch_of, is_ack_only, bare, stamped}
use Rattle.fl_link.specs.Looks.{no_room, spent, saw, saw_ack, found, found_ack, told}
use Rattle.fl_link.specs.Queue.{TheQueue, with_taken, front_of, has_room, next_epoch_of}
use Rattle.fl_link.proofs.Carried.{stamped-bare}
use Rattle.fl_link.specs.Cursor.{epoch_at}
use Rattle.fl_ring.specs.Way.{slot, frag_at, frag_of, epoch_in, standing, Marked, IsClear, WritesSlot, WayStands}
use Rattle.fl_ring.specs.Ring.{TheRing, queue_of, IsRing, ring_of, RingStands, RingGains, RingPuts, RingTakes}
use Rattle.fl_ring.proofs.Places.{slot_within}
use Rattle.fl_ring.proofs.Clear.{clear_put, clear_elsewhere}
use Rattle.fl_ring.proofs.Ways.{standing_join, standing_more, keeps_standing, same_standing, same_frag, length-standing, is_there, is_end, gains, tells, elsewhere}

-- the first of the fragments that stand
pub standing_first : (b n : ℕ) (ws : List ℕ) (i d : ℕ) → i < d → standing b n ws i (d - i) ≡ frag_of b n ws i ∷ standing b n ws (i + 1) (d - (i + 1))
standing_first b n ws i d lt =
    let e : d - i ≡ suc (d - (i + 1)) = omega arith in
    ap (λ (k : ℕ). standing b n ws i k) e

pub standing_none : (b n : ℕ) (ws : List ℕ) (i d : ℕ) → i ≡ d → standing b n ws i (d - i) ≡ []
standing_none b n ws i d same =
    let e : d - i ≡ zero = omega arith in
    ap (λ (k : ℕ). standing b n ws i k) e

-- what a look at the slot of index i finds is the first of the fragments from i on
pub first_of : (b n : ℕ) (ws : List ℕ) (told sent i s due : ℕ) (r : Option Frag) → Marked b n ws told sent → told ≤ i → i ≤ sent → s ≡ slot b n i → due ≡ epoch_at n i
    → MatchOption r (epoch_of (get_or ws (s + 7) 0) ≢ due) (λ f. (f ≡ frag_at ws s) × (epoch_of (get_or ws (s + 7) 0) ≡ due))
    → MatchOption r ((standing b n ws i (sent - i) ≡ []) × (i ≡ sent)) (λ f. (standing b n ws i (sent - i) ≡ f ∷ standing b n ws (i + 1) (sent - (i + 1))) × (i < sent))
first_of b n ws t sent i s due None m le most at turn other =
    let ne : epoch_in b n ws i ≢ epoch_at n i = λ e. other (ap (λ (x : ℕ). epoch_of (get_or ws (x + 7) 0)) at ∙ e ∙ sym turn) in
    let end : i ≡ sent = is_end b n ws t sent i m le most ne in
    (standing_none b n ws i sent end, end)
first_of b n ws t sent i s due (Some f) m le most at turn (is, same) =
    let e : epoch_in b n ws i ≡ epoch_at n i = ap (λ (x : ℕ). epoch_of (get_or ws (x + 7) 0)) (sym at) ∙ same ∙ turn in
    let there : i < sent = is_there b n ws t sent i m le most e in
    let holds : frag_of b n ws i ≡ f = ap (λ (x : ℕ). frag_at ws x) (sym at) ∙ sym is in
    (standing_first b n ws i sent there ∙ ap (λ (g : Frag). g ∷ standing b n ws (i + 1) (sent - (i + 1))) holds, there)

-- the slot of a cursor's place
pub slot_at : (b p i m n : ℕ) → p ≡ i % m → m ≡ n → b + 8 * p ≡ slot b n i
slot_at b p i m n e d = ap (λ (x : ℕ). b + 8 * x) (e ∙ ap (λ (x : ℕ). i % x) d)

pub slot_at_zero : (p i m n : ℕ) → p ≡ i % m → m ≡ n → 8 * p ≡ slot 0 n i
slot_at_zero p i m n e d = let h : 0 + 8 * p ≡ slot 0 n i = slot_at 0 p i m n e d in omega arith

pub first_or_none : (r : Option Frag) (items items' rest : List Frag) (E : Type 0) (L : Type 0) → items ≡ items'
    → MatchOption r ((items ≡ []) × E) (λ f. (items ≡ f ∷ rest) × L) → MatchOption r (items' ≡ []) (λ f. (more : List Frag) × (items' ≡ f ∷ more))
first_or_none None items items' rest E L same (none, end) = sym same ∙ none
first_or_none (Some f) items items' rest E L same (is, there) = (rest, sym same ∙ is)

-- a way stands whose epochs say so: the fragments taken and not told, and those not taken
pub way_stands : (b n : ℕ) (ws : List ℕ) (t taken sent : ℕ) → Marked b n ws t sent → t ≤ taken → taken ≤ sent → IsClear b n ws sent
    → WayStands b n ws t (standing b n ws t (taken - t) ++ standing b n ws taken (sent - taken))
way_stands b n ws t taken sent m le most clear = record {
  marked = subst (λ (x : ℕ). Marked b n ws t x) (sym (ap (λ (x : ℕ). t + x) count ∙ all)) m;
  stand = sym joined ∙ ap (λ (x : ℕ). standing b n ws t x) (sym count);
  clear = λ i from below. clear i (omega (arith, count)) below;
}
  where
    all : t + (sent - t) ≡ sent
    all = omega arith

    joined : standing b n ws t (sent - t) ≡ standing b n ws t (taken - t) ++ standing b n ws taken (sent - taken)
    joined =
        let parts : sent - t ≡ (taken - t) + (sent - taken) = omega arith in
        let next : t + (taken - t) ≡ taken = omega arith in
        ap (λ (x : ℕ). standing b n ws t x) parts
        ∙ standing_join b n ws (taken - t) t (sent - taken)
        ∙ ap (λ (x : ℕ). standing b n ws t (taken - t) ++ standing b n ws x (sent - taken)) next

    count : length (standing b n ws t (taken - t) ++ standing b n ws taken (sent - taken)) ≡ sent - t
    count = ap length (sym joined) ∙ length-standing b n ws t (sent - t)

-- the words of a ring stand as its fragments say
pub ring_stands : (ws : List ℕ) (n sent taken : ℕ) → IsRing ws n sent taken → RingStands ws (ring_of ws n sent taken)
ring_stands ws n sent taken r = record {
  wide = r.wide;
  way = way_stands 0 n ws (get_or ws (8 * n) 0) taken sent r.marked r.told_taken r.taken_sent r.clear;
  told_is = refl;
}

-- ---- the ring as a queue

-- how many were put
pub sent_is : (ws : List ℕ) (n sent taken : ℕ) → IsRing ws n sent taken → (queue_of (ring_of ws n sent taken)).sent ≡ sent
sent_is ws n sent taken r =
    let t : ℕ = get_or ws (8 * n) 0 in
    omega (arith, r.told_taken, r.taken_sent, length-standing 0 n ws t (taken - t), length-standing 0 n ws taken (sent - taken))

-- how many slots are in use
pub used_is : (ws : List ℕ) (n sent taken : ℕ) → IsRing ws n sent taken → length (ring_of ws n sent taken).items + length (ring_of ws n sent taken).read ≡ sent - get_or ws (8 * n) 0
used_is ws n sent taken r =
    let t : ℕ = get_or ws (8 * n) 0 in
    omega (arith, r.told_taken, r.taken_sent, length-standing 0 n ws t (taken - t), length-standing 0 n ws taken (sent - taken))

pub puts_spent : (ws : List ℕ) (n sent taken : ℕ) → IsRing ws n sent taken → sent ≡ 2 ^ 62 → RingPuts (ring_of ws n sent taken) spent (ring_of ws n sent taken)
puts_spent ws n sent taken r e = ((sent_is ws n sent taken r ∙ e, refl), (refl, refl))

pub puts_no_room : (ws : List ℕ) (n sent taken : ℕ) → IsRing ws n sent taken → sent ≢ 2 ^ 62 → sent - get_or ws (8 * n) 0 ≡ n → RingPuts (ring_of ws n sent taken) no_room (ring_of ws n sent taken)
puts_no_room ws n sent taken r unspent full =
    (((omega (arith, sent_is ws n sent taken r, r.most), used_is ws n sent taken r ∙ full), refl), (refl, refl))

-- whether there is room
pub room_is : (ws : List ℕ) (n sent taken : ℕ) → IsRing ws n sent taken → (ltb sent (2 ^ 62) && ltb (sent - get_or ws (8 * n) 0) n) ≡ has_room (queue_of (ring_of ws n sent taken))
room_is ws n sent taken r =
    let x = sent_is ws n sent taken r in
    let y = used_is ws n sent taken r in
    ap (λ (k : ℕ). ltb k (2 ^ 62) && ltb (sent - get_or ws (8 * n) 0) n) (sym x) ∙ ap (λ (k : ℕ). ltb (queue_of (ring_of ws n sent taken)).sent (2 ^ 62) && ltb k n) (sym y)

-- the epoch of the next fragment
pub epoch_is : (ws : List ℕ) (n sent taken : ℕ) → IsRing ws n sent taken → epoch_at n sent ≡ next_epoch_of (queue_of (ring_of ws n sent taken))
epoch_is ws n sent taken r = ap (epoch_at n) (sym (sent_is ws n sent taken r))

same_queue : (xs ys : List Frag) (u v a b n : ℕ) → xs ≡ ys → u ≡ v → a ≡ b
    → (let q : TheQueue = record { items = xs; unacknowledged = u; sent = a; capacity = n; acked = true } in q) ≡ record { items = ys; unacknowledged = v; sent = b; capacity = n; acked = true }
same_queue xs ys u v a b n e f g = cc

told_stays : (ws ws' : List ℕ) (n sent taken : ℕ) (f : Frag) → IsRing ws n sent taken → WritesSlot (slot 0 n sent) f ws ws' → get_or ws' (8 * n) 0 ≡ get_or ws (8 * n) 0
told_stays ws ws' n sent taken f r w = let above : slot 0 n sent + 8 ≤ 8 * n = omega (arith, slot_within 0 n sent r.marked.some) in w.others (8 * n) (inr above)

-- the fragment is in its slot: the ring stands
pub put_stands : (ws ws' : List ℕ) (n sent taken : ℕ) (f : Frag) → IsRing ws n sent taken → sent ≢ 2 ^ 62 → sent - get_or ws (8 * n) 0 ≢ n
    → WritesSlot (slot 0 n sent) f ws ws' → epoch_of f.control ≡ epoch_at n sent → IsRing ws' n (sent + 1) taken
put_stands ws ws' n sent taken f r unspent room w turn = record {
  few = r.few;
  wide = w.same_length ∙ r.wide;
  told_taken = omega (arith, r.told_taken, told_stays ws ws' n sent taken f r w);
  taken_sent = omega (arith, r.taken_sent);
  most = omega (arith, r.most);
  marked =
      let free : sent < get_or ws (8 * n) 0 + n = omega (arith, r.marked.within, r.marked.order) in
      subst (λ (x : ℕ). Marked 0 n ws' x (sent + 1)) (sym (told_stays ws ws' n sent taken f r w)) (gains 0 n ws ws' (get_or ws (8 * n) 0) sent f r.marked free w turn);
  clear = clear_put 0 n sent f ws ws' r.clear w;
}

-- and the fragment is the last of those that stand
pub put_items : (ws ws' : List ℕ) (n sent taken : ℕ) (f : Frag) → IsRing ws n sent taken → sent - get_or ws (8 * n) 0 ≢ n → WritesSlot (slot 0 n sent) f ws ws'
    → (ring_of ws' n (sent + 1) taken).items ≡ (ring_of ws n sent taken).items ++ f ∷ []
put_items ws ws' n sent taken f r room w =
    let count : sent + 1 - taken ≡ (sent - taken) + 1 = omega (arith, r.taken_sent) in
    let last : taken + (sent - taken) ≡ sent = omega (arith, r.taken_sent) in
    let near : sent < taken + n = omega (arith, r.marked.within, r.told_taken) in
    ap (λ (k : ℕ). standing 0 n ws' taken k) count
    ∙ standing_more 0 n ws' taken (sent - taken) sent last
    ∙ ap (λ (xs : List Frag). xs ++ frag_of 0 n ws' sent ∷ []) (keeps_standing 0 n ws ws' sent taken (sent - taken) f w (omega arith) near)
    ∙ ap (λ (g : Frag). (ring_of ws n sent taken).items ++ g ∷ []) w.holds

pub put_read : (ws ws' : List ℕ) (n sent taken : ℕ) (f : Frag) → IsRing ws n sent taken → sent - get_or ws (8 * n) 0 ≢ n → WritesSlot (slot 0 n sent) f ws ws'
    → (ring_of ws' n (sent + 1) taken).read ≡ (ring_of ws n sent taken).read
put_read ws ws' n sent taken f r room w =
    let t : ℕ = get_or ws (8 * n) 0 in
    let near : sent < t + n = omega (arith, r.marked.within, r.marked.order) in
    ap (λ (x : ℕ). standing 0 n ws' x (taken - x)) (told_stays ws ws' n sent taken f r w)
    ∙ keeps_standing 0 n ws ws' sent t (taken - t) f w (omega (arith, r.told_taken, r.taken_sent)) near

pub puts_placed : (ws ws' : List ℕ) (n sent taken e : ℕ) (f : Frag) → IsRing ws n sent taken → sent ≢ 2 ^ 62 → sent - get_or ws (8 * n) 0 ≢ n
    → WritesSlot (slot 0 n sent) (stamped f e 0) ws ws' → e ≡ epoch_at n sent
    → RingGains (ring_of ws n sent taken) (bare f) (ring_of ws' n (sent + 1) taken)
puts_placed ws ws' n sent taken e f r unspent room w turn =
    let s : TheRing = ring_of ws n sent taken in
    let t : TheRing = ring_of ws' n (sent + 1) taken in
    let reads : t.read ≡ s.read = put_read ws ws' n sent taken (stamped f e 0) r room w in
    let stays : t.told ≡ s.told = told_stays ws ws' n sent taken (stamped f e 0) r w in
    let due : e ≡ epoch_at n (queue_of s).sent = turn ∙ ap (epoch_at n) (sym (sent_is ws n sent taken r)) in
    let item : stamped f e 0 ≡ stamped (bare f) (epoch_at n (queue_of s).sent) 0 = ap (λ (x : ℕ). stamped f x 0) due ∙ sym (stamped-bare f (epoch_at n (queue_of s).sent) 0) in
    let items : t.items ≡ s.items ++ stamped (bare f) (epoch_at n (queue_of s).sent) 0 ∷ [] = put_items ws ws' n sent taken (stamped f e 0) r room w ∙ ap (λ (g : Frag). s.items ++ g ∷ []) item in
    let count : t.told + length t.read + length t.items ≡ s.told + length s.read + length s.items + 1 =
    omega (arith, stays, ap length reads, ap length items, length-append s.items (stamped (bare f) (epoch_at n (queue_of s).sent) 0 ∷ [])) in (
      (
        (omega (arith, sent_is ws n sent taken r, r.most), omega (arith, used_is ws n sent taken r, r.marked.within)),
        same_queue t.items (s.items ++ stamped (bare f) (epoch_at n (queue_of s).sent) 0 ∷ []) (length t.read) (length s.read) (queue_of t).sent ((queue_of s).sent + 1) n items (ap length reads) count,
      ),
      (reads, stays),
    )

-- ---- taking

-- the first of the fragments that stand goes to those read
pub take_moves : (ws : List ℕ) (n sent taken : ℕ) → IsRing ws n sent taken → taken < sent
    → (ring_of ws n sent (taken + 1)).read ≡ (ring_of ws n sent taken).read ++ frag_of 0 n ws taken ∷ []
take_moves ws n sent taken r lt =
    let t : ℕ = get_or ws (8 * n) 0 in
    let count : taken + 1 - t ≡ (taken - t) + 1 = omega (arith, r.told_taken) in
    let last : t + (taken - t) ≡ taken = omega (arith, r.told_taken) in
    ap (λ (k : ℕ). standing 0 n ws t k) count ∙ standing_more 0 n ws t (taken - t) taken last

-- what a take leaves, whatever it found
pub record Takes (s : TheRing) (first : Frag) (rest : List Frag) (t : TheRing) : Type 0 where
  pub items : s.items ≡ first ∷ rest
  pub queue : queue_of t ≡ with_taken (queue_of s) rest
  pub stand : t.read ++ t.items ≡ s.read ++ s.items
  pub told_same : t.told ≡ s.told

pub ring_take : (ws : List ℕ) (n sent taken : ℕ) → IsRing ws n sent taken → taken < sent
    → Takes (ring_of ws n sent taken) (frag_of 0 n ws taken) (ring_of ws n sent (taken + 1)).items (ring_of ws n sent (taken + 1))
ring_take ws n sent taken r lt =
    let s : TheRing = ring_of ws n sent taken in
    let t : TheRing = ring_of ws n sent (taken + 1) in
    let f : Frag = frag_of 0 n ws taken in
    let items : s.items ≡ f ∷ t.items = standing_first 0 n ws taken sent lt in
    let reads : t.read ≡ s.read ++ f ∷ [] = take_moves ws n sent taken r lt in
    let one_more : length t.read ≡ length s.read + 1 = omega (arith, ap length reads, length-append s.read (f ∷ [])) in
    let count : t.told + length t.read + length t.items ≡ s.told + length s.read + length s.items = omega (arith, one_more, ap length items) in
    record {
      items = items;
      queue = same_queue t.items t.items (length t.read) (length s.read + 1) (queue_of t).sent (queue_of s).sent n refl one_more count;
      stand = ap (λ (xs : List Frag). xs ++ t.items) reads ∙ append_assoc s.read (f ∷ []) t.items ∙ ap (λ (xs : List Frag). s.read ++ xs) (sym items);
      told_same = refl;
    }

-- where a fragment stands first, one is left
pub some_left : (ws : List ℕ) (n sent taken : ℕ) (f : Frag) (rest : List Frag) → (ring_of ws n sent taken).items ≡ f ∷ rest → taken < sent
some_left ws n sent taken f rest e =
    let count : length (ring_of ws n sent taken).items ≡ sent - taken = length-standing 0 n ws taken (sent - taken) in
    omega (arith, ap length e)

same_first : (f g : Frag) (xs ys : List Frag) → f ∷ xs ≡ g ∷ ys → f ≡ g
same_first f g xs ys e = cc

-- the take of the fragment that stands first
pub takes_first : (ws : List ℕ) (n sent taken : ℕ) (s : TheRing) (f : Frag) (rest : List Frag) → IsRing ws n sent taken → ring_of ws n sent taken ≡ s → s.items ≡ f ∷ rest
    → Takes s f (ring_of ws n sent (taken + 1)).items (ring_of ws n sent (taken + 1))
takes_first ws n sent taken s f rest r view e =
    let items : (ring_of ws n sent taken).items ≡ f ∷ rest = ap (λ (x : TheRing). x.items) view ∙ e in
    let there : taken < sent = some_left ws n sent taken f rest items in
    let t : TheRing = ring_of ws n sent (taken + 1) in
    let step : Takes (ring_of ws n sent taken) (frag_of 0 n ws taken) t.items t = ring_take ws n sent taken r there in
    let first : frag_of 0 n ws taken ≡ f = same_first (frag_of 0 n ws taken) f t.items rest (sym step.items ∙ items) in
    subst (λ (x : TheRing). Takes x f t.items t) view (subst (λ (g : Frag). Takes (ring_of ws n sent taken) g t.items t) first step)

pub front_data : (items : List Frag) (first : Frag) (rest : List Frag) → items ≡ first ∷ rest → is_ack_only first ≡ false → front_of items ≡ saw (bare first)
front_data items first rest e plain = ap front_of e ∙ ap (λ (b : Bool). cond b saw_ack (saw (bare first))) plain

pub front_ack : (items : List Frag) (first : Frag) (rest : List Frag) → items ≡ first ∷ rest → is_ack_only first ≡ true → front_of items ≡ saw_ack
front_ack items first rest e ack = ap front_of e ∙ ap (λ (b : Bool). cond b saw_ack (saw (bare first))) ack

pub takes_found : (s t : TheRing) (first : Frag) (rest : List Frag) → Takes s first rest t → is_ack_only first ≡ false → RingTakes s (found (bare first)) t
takes_found s t first rest k plain = ((front_data s.items first rest k.items plain, (first, rest, k.items, k.queue)), (k.stand, k.told_same))

pub takes_ack : (s t : TheRing) (first : Frag) (rest : List Frag) → Takes s first rest t → is_ack_only first ≡ true → RingTakes s found_ack t
takes_ack s t first rest k ack = ((front_ack s.items first rest k.items ack, (first, rest, k.items, k.queue)), (k.stand, k.told_same))

-- ---- telling

told_word : (ws : List ℕ) (n sent taken : ℕ) → IsRing ws n sent taken → get_or (set ws (8 * n) taken) (8 * n) 0 ≡ taken
told_word ws n sent taken r = get_or-set_same ws (8 * n) taken 0 (omega (arith, r.wide))

slots_stay : (ws : List ℕ) (n sent taken : ℕ) → IsRing ws n sent taken → (i : ℕ) → frag_of 0 n (set ws (8 * n) taken) i ≡ frag_of 0 n ws i
slots_stay ws n sent taken r i =
    let inside : slot 0 n i + 8 ≤ 0 + 8 * n = slot_within 0 n i r.marked.some in
    same_frag ws (set ws (8 * n) taken) (slot 0 n i) (λ k lt. let ne : slot 0 n i + k ≢ 8 * n = λ e. omega arith in get_or-set_other ws (8 * n) (slot 0 n i + k) taken 0 ne)

-- all that was taken is told: the ring stands
pub tell_stands : (ws : List ℕ) (n sent taken : ℕ) → IsRing ws n sent taken → IsRing (set ws (8 * n) taken) n sent taken
tell_stands ws n sent taken r =
    let ws' : List ℕ = set ws (8 * n) taken in
    let len : length ws' ≡ length ws = length-set ws (8 * n) taken in
    record {
      few = r.few;
      wide = len ∙ r.wide;
      told_taken = omega (arith, told_word ws n sent taken r);
      taken_sent = r.taken_sent;
      most = r.most;
      marked = subst (λ (x : ℕ). Marked 0 n ws' x sent) (sym (told_word ws n sent taken r))
          (elsewhere 0 n ws ws' taken sent (tells 0 n ws (get_or ws (8 * n) 0) taken sent r.marked r.told_taken r.taken_sent) len (slots_stay ws n sent taken r));
      clear = clear_elsewhere 0 n sent ws ws' r.clear (λ i from below. let ne : i ≢ 8 * n = λ e. omega arith in get_or-set_other ws (8 * n) i taken 0 ne);
    }

pub takes_told : (ws : List ℕ) (n sent taken : ℕ) → IsRing ws n sent taken → RingTakes (ring_of ws n sent taken) told (ring_of (set ws (8 * n) taken) n sent taken)
takes_told ws n sent taken r =
    let ws' : List ℕ = set ws (8 * n) taken in
    let s : TheRing = ring_of ws n sent taken in
    let t : TheRing = ring_of ws' n sent taken in
    let word : t.told ≡ taken = told_word ws n sent taken r in
    let none : t.read ≡ [] = standing_none 0 n ws' t.told taken word in
    let items : t.items ≡ s.items = same_standing 0 n ws ws' (sent - taken) taken (λ j _ _. slots_stay ws n sent taken r j) in
    let before : length s.read ≡ taken - s.told = length-standing 0 n ws s.told (taken - s.told) in
    let all : t.told ≡ s.told + length s.read = omega (arith, word, before, r.told_taken) in
    let count : t.told + length t.read + length t.items ≡ s.told + length s.read + length s.items = omega (arith, all, ap length none, ap length items) in
    ((refl, same_queue t.items s.items (length t.read) 0 (queue_of t).sent (queue_of s).sent n items (ap length none) count), (none, all))
