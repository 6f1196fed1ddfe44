-- Rings over looks in a row: nothing is lost, nothing comes from elsewhere, order stays.
use Rattle.std.proofs.Common.{ℕ, ◌≡◌, ◌<◌, ◌+◌, ◌/◌, ◌%◌, ◌⊎◌, inl, inr, refl, sym, ap, ◌∙◌, append_assoc, length-append, nat_le, Bool, true, false, List, [], ◌∷◌, ◌++◌, map, length, None, arith}
use Rattle.std.proofs.lemmas.List.{append-nil, map-append}
use Rattle.std.proofs.lemmas.Bool.{leb-true, leb-false}
use Rattle.std.proofs.lemmas.Grind.{flat_map-append}
use Rattle.fl_base.specs.declared.fragment.Frag.{Frag}
use Rattle.fl_base.specs.Control.{is_ack_only, told_of, bare, stamped}
use Rattle.fl_link.specs.Cursor.{epoch_at}
use Rattle.fl_link.specs.Looks.{Look, placed, no_room, spent, saw, saw_ack, found, found_ack, missed, told, kept, Looks, LinkStep, put_in, took_in, puts_of, takes_of}
use Rattle.fl_link.specs.Calls.{bare_calls}
use Rattle.fl_link.specs.Queue.{QueuePuts, QueueTakes, look_at, front_of}
use Rattle.fl_link.specs.Laws.{QueueConserves}
use Rattle.fl_link.proofs.Carried.{bare-stamped}
use Rattle.fl_link.proofs.Conserved.{over_looks, puts_of-join, takes_of-join, bare_calls-join, one_call, first_call, first_ack, stamped-ack, sees_call, sees_ack, queue_conserves}
use Rattle.fl_ring.specs.Counts.{count_from}
use Rattle.fl_ring.specs.Ring.{TheRing, queue_of, RingPuts, RingTakes}
use Rattle.fl_ring.specs.Duo.{TheHalf, TheDuo, HalfPuts, HalfTakes, DuoPuts, DuoTakes, acknowledgement, side_of, across, got, looked, counts_by, written, with_known, with_written, with_arrived, with_taken, with_waiting}
use Rattle.fl_ring.specs.SharedSeats.{Sender, Receiver, SenderPuts, ReceiverTakes}
use Rattle.fl_ring.specs.SharedSides.{TheSide, SharedPuts, SharedTakes, Looked, free_of, side_written, side_seen, side_taken, side_missed, side_counted, MayStand, KnowsSent}
use Rattle.fl_ring.specs.Laws.{wrote_in, read_in, writes_of, reads_of, HalfConserves, DuoConserves, SenderConserves, ReceiverConserves, SideConserves}
use Rattle.fl_ring.specs.declared.one_duo.WhichSide.{WhichSide}
use Rattle.fl_ring.specs.declared.one_duo.WhichSide.TheVariants.{One, Two}

-- ---- a ring with one owner

pub ring_conserves : (s t : TheRing) (looks : List Look) → Looks (LinkStep RingPuts RingTakes) s looks t → QueueConserves (queue_of s) looks (queue_of t)
ring_conserves s t looks h = queue_conserves (queue_of s) (queue_of t) looks (as_queue s t looks h) where
  one : (s t : TheRing) (look : Look) → LinkStep RingPuts RingTakes s look t → LinkStep QueuePuts QueueTakes (queue_of s) look (queue_of t)
  one s t look (inl put) = inl put.0
  one s t look (inr took) = inr took.0

  as_queue : (s t : TheRing) (looks : List Look) → Looks (LinkStep RingPuts RingTakes) s looks t → Looks (LinkStep QueuePuts QueueTakes) (queue_of s) looks (queue_of t)
  as_queue s t [] e = ap queue_of e
  as_queue s t (look ∷ looks) (m, step, rest) = (queue_of m, one s m look step, as_queue m t looks rest)

-- ---- lists that grow

writes_of-join : (xs ys : List Look) → writes_of (xs ++ ys) ≡ writes_of xs ++ writes_of ys
writes_of-join xs ys = flat_map-append wrote_in xs ys

reads_of-join : (xs ys : List Look) → reads_of (xs ++ ys) ≡ reads_of xs ++ reads_of ys
reads_of-join xs ys = flat_map-append read_in xs ys

-- over two stretches, each of which adds to a list, or to a count
adds_both : {A : Type 0} (x y z p q : List A) → y ≡ x ++ p → z ≡ y ++ q → z ≡ x ++ (p ++ q)
adds_both x y z p q a b = b ∙ ap (λ (l : List _). l ++ q) a ∙ append_assoc x p q

bare_adds : (x y z p q : List Frag) → y ≡ x ++ map bare p → z ≡ y ++ map bare q → z ≡ x ++ map bare (p ++ q)
bare_adds x y z p q a b = adds_both x y z (map bare p) (map bare q) a b ∙ ap (λ (l : List Frag). x ++ l) (sym (map-append bare p q))

counts_both : (x y z : ℕ) (p q : List Frag) → y ≡ x + length p → z ≡ y + length q → z ≡ x + length (p ++ q)
counts_both x y z p q a b = let l : length (p ++ q) ≡ length p + length q = length-append p q in omega (arith, a, b, l)

-- what waits shrinks by what is taken
takes_both : {A : Type 0} (x y z p q : List A) → x ≡ p ++ y → y ≡ q ++ z → x ≡ (p ++ q) ++ z
takes_both x y z p q a b = a ∙ ap (λ (l : List _). p ++ l) b ∙ sym (append_assoc p q z)

-- one fragment more, stamped
bare_one : (fs : List Frag) (f : Frag) (e m : ℕ) → e < 2 → map bare (fs ++ stamped f e m ∷ []) ≡ map bare fs ++ map bare (f ∷ [])
bare_one fs f e m bit = map-append bare fs (stamped f e m ∷ []) ∙ ap (λ (x : Frag). map bare fs ++ x ∷ []) (bare-stamped f e m bit)

calls_one : (fs : List Frag) (f : Frag) (e m : ℕ) → e < 2 → is_ack_only f ≡ false → bare_calls (fs ++ stamped f e m ∷ []) ≡ bare_calls fs ++ map bare (f ∷ [])
calls_one fs f e m bit plain =
    bare_calls-join fs (stamped f e m ∷ []) ∙ ap (λ (l : List Frag). bare_calls fs ++ l) (one_call (stamped f e m) (stamped-ack f e m bit ∙ plain) ∙ ap (λ (x : Frag). x ∷ []) (bare-stamped f e m bit))

calls_none : (fs : List Frag) (f : Frag) → is_ack_only f ≡ true → bare_calls (fs ++ f ∷ []) ≡ bare_calls fs
calls_none fs f ack = bare_calls-join fs (f ∷ []) ∙ ap (λ (l : List Frag). bare_calls fs ++ l) (first_ack f [] ack) ∙ append-nil (bare_calls fs)

calls_got : (fs : List Frag) (first f : Frag) → look_at first ≡ saw f → bare_calls (fs ++ first ∷ []) ≡ bare_calls fs ++ f ∷ []
calls_got fs first f seen =
    let (plain, is_f) = sees_call first f seen in
    bare_calls-join fs (first ∷ []) ∙ ap (λ (l : List Frag). bare_calls fs ++ l) (one_call first plain ∙ ap (λ (x : Frag). x ∷ []) is_f)

bit_of : (n i : ℕ) → epoch_at n i < 2
bit_of n i = let k : ℕ = i / n in let h : (k + 1) % 2 < 2 = omega arith in h

one_longer : (fs : List Frag) (f : Frag) → length (fs ++ f ∷ []) ≡ length fs + 1
one_longer fs f = length-append fs (f ∷ [])

-- ---- a ring of two directions with one owner

-- only what is known changes
half_looks : (s p t q : TheHalf) (k : ℕ) (look : Look) → t ≡ with_known s k → q ≡ p → put_in look ≡ [] → took_in look ≡ [] → wrote_in look ≡ [] → read_in look ≡ []
    → HalfConserves s p (look ∷ []) t q
half_looks s p t q k look e d put took wrote read = record {
  sent = ap (λ (h : TheHalf). h.sent) e ∙ (let l : length (wrote_in look ++ []) ≡ 0 = ap (λ (fs : List Frag). length (fs ++ [])) wrote in omega (arith, l));
  read = ap got e ∙ (let l : length (read_in look ++ []) ≡ 0 = ap (λ (fs : List Frag). length (fs ++ [])) read in omega (arith, l));
  wrote = ap (λ (h : TheHalf). map bare h.waiting) d ∙ sym (append-nil (map bare p.waiting)) ∙ ap (λ (fs : List Frag). map bare p.waiting ++ map bare (fs ++ [])) (sym wrote);
  put = ap (λ (h : TheHalf). bare_calls h.waiting) d ∙ sym (append-nil (bare_calls p.waiting)) ∙ ap (λ (fs : List Frag). bare_calls p.waiting ++ map bare (fs ++ [])) (sym put);
  took = ap (λ (h : TheHalf). bare_calls h.waiting) (sym e) ∙ ap (λ (fs : List Frag). (fs ++ []) ++ bare_calls t.waiting) (sym took);
  elsewhere = d ∙ ap (λ (h : TheHalf). with_waiting p h.waiting) (sym d);
}

-- a fragment is written
half_writes : (n : ℕ) (s p t q : TheHalf) (k : ℕ) (look : Look) (f : Frag) → t ≡ with_written (with_known s k) → q ≡ with_arrived p (written n s f)
    → wrote_in look ≡ f ∷ [] → took_in look ≡ [] → read_in look ≡ [] → bare_calls (p.waiting ++ written n s f ∷ []) ≡ bare_calls p.waiting ++ map bare (put_in look ++ [])
    → HalfConserves s p (look ∷ []) t q
half_writes n s p t q k look f e d wrote took read put = record {
  sent = ap (λ (h : TheHalf). h.sent) e ∙ (let l : length (wrote_in look ++ []) ≡ 1 = ap (λ (fs : List Frag). length (fs ++ [])) wrote in omega (arith, l));
  read = ap got e ∙ (let l : length (read_in look ++ []) ≡ 0 = ap (λ (fs : List Frag). length (fs ++ [])) read in omega (arith, l));
  wrote = ap (λ (h : TheHalf). map bare h.waiting) d ∙ bare_one p.waiting f (epoch_at n s.sent) (got s % 65536) (bit_of n s.sent)
      ∙ ap (λ (fs : List Frag). map bare p.waiting ++ map bare (fs ++ [])) (sym wrote);
  put = ap (λ (h : TheHalf). bare_calls h.waiting) d ∙ put;
  took = ap (λ (h : TheHalf). bare_calls h.waiting) (sym e) ∙ ap (λ (fs : List Frag). (fs ++ []) ++ bare_calls t.waiting) (sym took);
  elsewhere = d ∙ ap (λ (h : TheHalf). with_waiting p h.waiting) (sym d);
}

-- the first fragment is taken
half_takes : (s p t q : TheHalf) (look : Look) (first : Frag) (rest : List Frag) → s.waiting ≡ first ∷ rest → t ≡ with_taken s first rest → q ≡ p
    → put_in look ≡ [] → wrote_in look ≡ [] → length (read_in look ++ []) ≡ 1 → bare_calls (first ∷ rest) ≡ (took_in look ++ []) ++ bare_calls rest → HalfConserves s p (look ∷ []) t q
half_takes s p t q look first rest waits e d put wrote read took = record {
  sent = ap (λ (h : TheHalf). h.sent) e ∙ (let l : length (wrote_in look ++ []) ≡ 0 = ap (λ (fs : List Frag). length (fs ++ [])) wrote in omega (arith, l));
  read = ap got e ∙ (let l = one_longer s.read first in omega (arith, l, read));
  wrote = ap (λ (h : TheHalf). map bare h.waiting) d ∙ sym (append-nil (map bare p.waiting)) ∙ ap (λ (fs : List Frag). map bare p.waiting ++ map bare (fs ++ [])) (sym wrote);
  put = ap (λ (h : TheHalf). bare_calls h.waiting) d ∙ sym (append-nil (bare_calls p.waiting)) ∙ ap (λ (fs : List Frag). bare_calls p.waiting ++ map bare (fs ++ [])) (sym put);
  took = ap bare_calls waits ∙ took ∙ ap (λ (h : TheHalf). (took_in look ++ []) ++ bare_calls h.waiting) (sym e);
  elsewhere = d ∙ ap (λ (h : TheHalf). with_waiting p h.waiting) (sym d);
}

half_put : (n : ℕ) (s p t q : TheHalf) (look : Look) → HalfPuts n s p look t q → HalfConserves s p (look ∷ []) t q
half_put n s p t q (placed f) (plain, unspent, room, e, d) =
    half_writes n s p t q (counts_by n 2 s) (placed f) f e d refl refl refl (calls_one p.waiting f (epoch_at n s.sent) (got s % 65536) (bit_of n s.sent) plain)
half_put n s p t q no_room (unspent, room, e, d) = half_looks s p t q (counts_by n 2 s) no_room e d refl refl refl refl
half_put n s p t q spent (full, e, d) = half_looks s p t q s.known spent e d refl refl refl refl
half_put n s p t q (saw f) h = absurd h
half_put n s p t q saw_ack h = absurd h
half_put n s p t q (found f) h = absurd h
half_put n s p t q found_ack h = absurd h
half_put n s p t q missed h = absurd h
half_put n s p t q told h = absurd h
half_put n s p t q kept h = absurd h

half_take : (n : ℕ) (s p t q : TheHalf) (look : Look) → HalfTakes n s p look t q → HalfConserves s p (look ∷ []) t q
half_take n s p t q (placed f) h = absurd h
half_take n s p t q spent h = absurd h
half_take n s p t q (saw f) (seen, e, d) = half_looks s p t q (looked s) (saw f) e d refl refl refl refl
half_take n s p t q saw_ack (seen, e, d) = half_looks s p t q (looked s) saw_ack e d refl refl refl refl
half_take n s p t q (found f) (seen, (first, rest, waits, e), d) =
    let (plain, is_f) = sees_call first f (sym (ap front_of waits) ∙ seen) in
    half_takes s p t q (found f) first rest waits e d refl refl refl (first_call first rest plain ∙ ap (λ (x : Frag). x ∷ bare_calls rest) is_f)
half_take n s p t q found_ack (seen, (first, rest, waits, e), d) =
    half_takes s p t q found_ack first rest waits e d refl refl refl (first_ack first rest (sees_ack first (sym (ap front_of waits) ∙ seen)))
half_take n s p t q missed (none, e, d) = half_looks s p t q s.known missed e d refl refl refl refl
half_take n s p t q told (much, unspent, room, e, d) =
    half_writes n s p t q (counts_by n 1 s) told acknowledgement e d refl refl refl
    (calls_none p.waiting (written n s acknowledgement) (stamped-ack acknowledgement (epoch_at n s.sent) (got s % 65536) (bit_of n s.sent)) ∙ sym (append-nil (bare_calls p.waiting)))
half_take n s p t q kept (few, e, d) = half_looks s p t q s.known kept e d refl refl refl refl
half_take n s p t q no_room (much, d, inl (last, e)) = half_looks s p t q s.known no_room e d refl refl refl refl
half_take n s p t q no_room (much, d, inr (unspent, room, e)) = half_looks s p t q (counts_by n 1 s) no_room e d refl refl refl refl

half_none : (s p : TheHalf) → HalfConserves s p [] s p
half_none s p = record {
  sent = omega arith;
  read = omega arith;
  wrote = sym (append-nil (map bare p.waiting));
  put = sym (append-nil (bare_calls p.waiting));
  took = refl;
  elsewhere = refl;
}

half_join : (s p t q u v : TheHalf) (xs ys : List Look) → HalfConserves s p xs t q → HalfConserves t q ys u v → HalfConserves s p (xs ++ ys) u v
half_join s p t q u v xs ys a b = record {
  sent = counts_both s.sent t.sent u.sent (writes_of xs) (writes_of ys) a.sent b.sent ∙ ap (λ (l : List Frag). s.sent + length l) (sym (writes_of-join xs ys));
  read = counts_both (got s) (got t) (got u) (reads_of xs) (reads_of ys) a.read b.read ∙ ap (λ (l : List Frag). got s + length l) (sym (reads_of-join xs ys));
  wrote = bare_adds (map bare p.waiting) (map bare q.waiting) (map bare v.waiting) (writes_of xs) (writes_of ys) a.wrote b.wrote
      ∙ ap (λ (l : List Frag). map bare p.waiting ++ map bare l) (sym (writes_of-join xs ys));
  put = bare_adds (bare_calls p.waiting) (bare_calls q.waiting) (bare_calls v.waiting) (puts_of xs) (puts_of ys) a.put b.put
      ∙ ap (λ (l : List Frag). bare_calls p.waiting ++ map bare l) (sym (puts_of-join xs ys));
  took = takes_both (bare_calls s.waiting) (bare_calls t.waiting) (bare_calls u.waiting) (takes_of xs) (takes_of ys) a.took b.took
      ∙ ap (λ (l : List Frag). l ++ bare_calls u.waiting) (sym (takes_of-join xs ys));
  elsewhere = b.elsewhere ∙ ap (λ (h : TheHalf). with_waiting h v.waiting) a.elsewhere;
}

duo_step : (which : WhichSide) (s t : TheDuo) (look : Look) → LinkStep (DuoPuts which) (DuoTakes which) s look t → DuoConserves which s (look ∷ []) t
duo_step One s t look (inl put) = record { same_size = put.1; sides = half_put s.size s.one s.two t.one t.two look put.0 }
duo_step One s t look (inr took) = record { same_size = took.1; sides = half_take s.size s.one s.two t.one t.two look took.0 }
duo_step Two s t look (inl put) = record { same_size = put.1; sides = half_put s.size s.two s.one t.two t.one look put.0 }
duo_step Two s t look (inr took) = record { same_size = took.1; sides = half_take s.size s.two s.one t.two t.one look took.0 }

duo_join : (which : WhichSide) (s t u : TheDuo) (xs ys : List Look) → DuoConserves which s xs t → DuoConserves which t ys u → DuoConserves which s (xs ++ ys) u
duo_join which s t u xs ys a b = record {
  same_size = b.same_size ∙ a.same_size;
  sides = half_join (side_of which s) (across which s) (side_of which t) (across which t) (side_of which u) (across which u) xs ys a.sides b.sides;
}

pub duo_conserves : (which : WhichSide) (s t : TheDuo) (looks : List Look) → Looks (LinkStep (DuoPuts which) (DuoTakes which)) s looks t → DuoConserves which s looks t
duo_conserves which = over_looks (LinkStep (DuoPuts which) (DuoTakes which)) (DuoConserves which)
    (λ s. record { same_size = refl; sides = half_none (side_of which s) (across which s) }) (duo_step which) (duo_join which)

-- ---- sides over shared words

sender_step : (s t : Sender) (look : Look) → SenderPuts s look t → SenderConserves s (look ∷ []) t
sender_step s t (placed f) (plain, (unspent, counts, room, e)) = record {
  same_ring = counts.same_ring;
  same_size = counts.same_size;
  sent = ap (map bare) e ∙ bare_one s.sent f (epoch_at s.size (length s.sent)) 0 (bit_of s.size (length s.sent));
  put = ap bare_calls e ∙ calls_one s.sent f (epoch_at s.size (length s.sent)) 0 (bit_of s.size (length s.sent)) plain;
}
sender_step s t no_room (unspent, counts, full, loads, e) = record {
  same_ring = counts.same_ring;
  same_size = counts.same_size;
  sent = ap (map bare) e ∙ sym (append-nil (map bare s.sent));
  put = ap bare_calls e ∙ sym (append-nil (bare_calls s.sent));
}
sender_step s t spent (last, e) = record {
  same_ring = ap (λ (x : Sender). x.ring) e;
  same_size = ap (λ (x : Sender). x.size) e;
  sent = ap (λ (x : Sender). map bare x.sent) e ∙ sym (append-nil (map bare s.sent));
  put = ap (λ (x : Sender). bare_calls x.sent) e ∙ sym (append-nil (bare_calls s.sent));
}
sender_step s t (saw f) h = absurd h
sender_step s t saw_ack h = absurd h
sender_step s t (found f) h = absurd h
sender_step s t found_ack h = absurd h
sender_step s t missed h = absurd h
sender_step s t told h = absurd h
sender_step s t kept h = absurd h

pub sender_conserves : (s t : Sender) (looks : List Look) → Looks SenderPuts s looks t → SenderConserves s looks t
sender_conserves = over_looks SenderPuts SenderConserves
    (λ s. record { same_ring = refl; same_size = refl; sent = sym (append-nil (map bare s.sent)); put = sym (append-nil (bare_calls s.sent)) })
    sender_step
    (λ s t u xs ys a b. record {
      same_ring = b.same_ring ∙ a.same_ring;
      same_size = b.same_size ∙ a.same_size;
      sent = bare_adds (map bare s.sent) (map bare t.sent) (map bare u.sent) (puts_of xs) (puts_of ys) a.sent b.sent ∙ ap (λ (l : List Frag). map bare s.sent ++ map bare l) (sym (puts_of-join xs ys));
      put = bare_adds (bare_calls s.sent) (bare_calls t.sent) (bare_calls u.sent) (puts_of xs) (puts_of ys) a.put b.put ∙ ap (λ (l : List Frag). bare_calls s.sent ++ map bare l) (sym (puts_of-join xs ys));
    })

receiver_looks : (s t : Receiver) (look : Look) → t.ring ≡ s.ring → t.size ≡ s.size → t.got ≡ s.got → took_in look ≡ [] → read_in look ≡ [] → ReceiverConserves s (look ∷ []) t
receiver_looks s t look ring size e took read = record {
  same_ring = ring;
  same_size = size;
  read = let l : length (read_in look ++ []) ≡ 0 = ap (λ (fs : List Frag). length (fs ++ [])) read in let g : length t.got ≡ length s.got = ap length e in omega (arith, l, g);
  took = ap bare_calls e ∙ sym (append-nil (bare_calls s.got)) ∙ ap (λ (fs : List Frag). bare_calls s.got ++ (fs ++ [])) (sym took);
}

receiver_step : (s t : Receiver) (look : Look) → ReceiverTakes s look t → ReceiverConserves s (look ∷ []) t
receiver_step s t (saw f) (first, seen, (may, e)) = receiver_looks s t (saw f) (ap (λ (x : Receiver). x.ring) e) (ap (λ (x : Receiver). x.size) e) (ap (λ (x : Receiver). x.got) e) refl refl
receiver_step s t saw_ack (first, seen, (may, e)) = receiver_looks s t saw_ack (ap (λ (x : Receiver). x.ring) e) (ap (λ (x : Receiver). x.size) e) (ap (λ (x : Receiver). x.got) e) refl refl
receiver_step s t (found f) (first, seen, (may, e)) = record {
  same_ring = ap (λ (x : Receiver). x.ring) e;
  same_size = ap (λ (x : Receiver). x.size) e;
  read = ap (λ (x : Receiver). length x.got) e ∙ one_longer s.got first;
  took = ap (λ (x : Receiver). bare_calls x.got) e ∙ calls_got s.got first f seen;
}
receiver_step s t found_ack (first, seen, (may, e)) = record {
  same_ring = ap (λ (x : Receiver). x.ring) e;
  same_size = ap (λ (x : Receiver). x.size) e;
  read = ap (λ (x : Receiver). length x.got) e ∙ one_longer s.got first;
  took = ap (λ (x : Receiver). bare_calls x.got) e ∙ calls_none s.got first (sees_ack first seen) ∙ sym (append-nil (bare_calls s.got));
}
receiver_step s t missed (none, e) = receiver_looks s t missed (ap (λ (x : Receiver). x.ring) e) (ap (λ (x : Receiver). x.size) e) (ap (λ (x : Receiver). x.got) e) refl refl
receiver_step s t told e = receiver_looks s t told (ap (λ (x : Receiver). x.ring) e) (ap (λ (x : Receiver). x.size) e) (ap (λ (x : Receiver). x.got) e) refl refl
receiver_step s t (placed f) h = absurd h
receiver_step s t no_room h = absurd h
receiver_step s t spent h = absurd h
receiver_step s t kept h = absurd h

pub receiver_conserves : (s t : Receiver) (looks : List Look) → Looks ReceiverTakes s looks t → ReceiverConserves s looks t
receiver_conserves = over_looks ReceiverTakes ReceiverConserves
    (λ s. record { same_ring = refl; same_size = refl; read = omega arith; took = sym (append-nil (bare_calls s.got)) })
    receiver_step
    (λ s t u xs ys a b. record {
      same_ring = b.same_ring ∙ a.same_ring;
      same_size = b.same_size ∙ a.same_size;
      read = counts_both (length s.got) (length t.got) (length u.got) (reads_of xs) (reads_of ys) a.read b.read ∙ ap (λ (l : List Frag). length s.got + length l) (sym (reads_of-join xs ys));
      took = adds_both (bare_calls s.got) (bare_calls t.got) (bare_calls u.got) (takes_of xs) (takes_of ys) a.took b.took ∙ ap (λ (l : List Frag). bare_calls s.got ++ l) (sym (takes_of-join xs ys));
    })

-- a look of a side changes none of these
record SameLists (s t : TheSide) : Type 0 where
  ring : t.ring ≡ s.ring
  holder : t.holder ≡ s.holder
  size : t.size ≡ s.size
  sent : t.sent ≡ s.sent
  got : t.got ≡ s.got

same_after : (s m t : TheSide) → SameLists s m → t ≡ m → SameLists s t
same_after s m t h e = record {
  ring = ap (λ (x : TheSide). x.ring) e ∙ h.ring;
  holder = ap (λ (x : TheSide). x.holder) e ∙ h.holder;
  size = ap (λ (x : TheSide). x.size) e ∙ h.size;
  sent = ap (λ (x : TheSide). x.sent) e ∙ h.sent;
  got = ap (λ (x : TheSide). x.got) e ∙ h.got;
}

same_lists : (s t : TheSide) → t ≡ s → SameLists s t
same_lists s t e = same_after s s t (record { ring = refl; holder = refl; size = refl; sent = refl; got = refl }) e

when_missed : (s t : TheSide) → t ≡ side_missed s → SameLists s t
when_missed s t e = same_after s (side_missed s) t (record { ring = refl; holder = refl; size = refl; sent = refl; got = refl }) e

when_counted : (s t : TheSide) (count : ℕ) → t ≡ side_counted s count → SameLists s t
when_counted s t count e = same_after s (side_counted s count) t (record { ring = refl; holder = refl; size = refl; sent = refl; got = refl }) e

when_seen : (s t : TheSide) (first : Frag) → t ≡ side_seen s first → SameLists s t
when_seen s t first e = same_after s (side_seen s first) t (record { ring = refl; holder = refl; size = refl; sent = refl; got = refl }) e

looked_same : (need : ℕ) (s t : TheSide) → Looked need s t → SameLists s t
looked_same need s t h = cases (nat_le need (free_of s)) refl where
  by_look : ((s.peeked ≡ None) × (t ≡ side_missed s)) ⊎ ((control : ℕ) × MayStand s control × (t ≡ side_counted s (count_from s.known (told_of control))) × KnowsSent t) → SameLists s t
  by_look (inl (none, e)) = when_missed s t e
  by_look (inr (control, may, e, knows)) = when_counted s t (count_from s.known (told_of control)) e

  cases : (b : Bool) → nat_le need (free_of s) ≡ b → SameLists s t
  cases true e = same_lists s t (h.by_known (leb-true need (free_of s) e))
  cases false e = by_look (h.by_look (leb-false need (free_of s) e))

side_looks : (s t : TheSide) (look : Look) → SameLists s t → put_in look ≡ [] → took_in look ≡ [] → wrote_in look ≡ [] → read_in look ≡ [] → SideConserves s (look ∷ []) t
side_looks s t look same put took wrote read = record {
  same_ring = same.ring;
  same_holder = same.holder;
  same_size = same.size;
  sent = ap (map bare) same.sent ∙ sym (append-nil (map bare s.sent)) ∙ ap (λ (fs : List Frag). map bare s.sent ++ map bare (fs ++ [])) (sym wrote);
  put = ap bare_calls same.sent ∙ sym (append-nil (bare_calls s.sent)) ∙ ap (λ (fs : List Frag). bare_calls s.sent ++ map bare (fs ++ [])) (sym put);
  read = let l : length (read_in look ++ []) ≡ 0 = ap (λ (fs : List Frag). length (fs ++ [])) read in let g : length t.got ≡ length s.got = ap length same.got in omega (arith, l, g);
  took = ap bare_calls same.got ∙ sym (append-nil (bare_calls s.got)) ∙ ap (λ (fs : List Frag). bare_calls s.got ++ (fs ++ [])) (sym took);
}

-- a fragment is written after a look, if one was needed
side_writes : (s m t : TheSide) (look : Look) (f : Frag) → SameLists s m → t ≡ side_written m f → wrote_in look ≡ f ∷ [] → took_in look ≡ [] → read_in look ≡ []
    → bare_calls (m.sent ++ stamped f (epoch_at m.size (length m.sent)) (length m.got % 65536) ∷ []) ≡ bare_calls m.sent ++ map bare (put_in look ++ []) → SideConserves s (look ∷ []) t
side_writes s m t look f same e wrote took read put = record {
  same_ring = ap (λ (x : TheSide). x.ring) e ∙ same.ring;
  same_holder = ap (λ (x : TheSide). x.holder) e ∙ same.holder;
  same_size = ap (λ (x : TheSide). x.size) e ∙ same.size;
  sent = ap (λ (x : TheSide). map bare x.sent) e ∙ bare_one m.sent f (epoch_at m.size (length m.sent)) (length m.got % 65536) (bit_of m.size (length m.sent))
      ∙ ap (λ (fs : List Frag). map bare fs ++ map bare (f ∷ [])) same.sent ∙ ap (λ (fs : List Frag). map bare s.sent ++ map bare (fs ++ [])) (sym wrote);
  put = ap (λ (x : TheSide). bare_calls x.sent) e ∙ put ∙ ap (λ (fs : List Frag). bare_calls fs ++ map bare (put_in look ++ [])) same.sent;
  read = let l : length (read_in look ++ []) ≡ 0 = ap (λ (fs : List Frag). length (fs ++ [])) read in
      let g : length t.got ≡ length s.got = ap (λ (x : TheSide). length x.got) e ∙ ap length same.got in omega (arith, l, g);
  took = ap (λ (x : TheSide). bare_calls x.got) e ∙ ap bare_calls same.got ∙ sym (append-nil (bare_calls s.got)) ∙ ap (λ (fs : List Frag). bare_calls s.got ++ (fs ++ [])) (sym took);
}

side_sees : (s t : TheSide) (look : Look) (first : Frag) → t ≡ side_seen s first → put_in look ≡ [] → took_in look ≡ [] → wrote_in look ≡ [] → read_in look ≡ [] → SideConserves s (look ∷ []) t
side_sees s t look first e = side_looks s t look (when_seen s t first e)

side_gets : (s t : TheSide) (look : Look) (first : Frag) → t ≡ side_taken s first → put_in look ≡ [] → wrote_in look ≡ [] → length (read_in look ++ []) ≡ 1
    → bare_calls (s.got ++ first ∷ []) ≡ bare_calls s.got ++ (took_in look ++ []) → SideConserves s (look ∷ []) t
side_gets s t look first e put wrote read took = record {
  same_ring = ap (λ (x : TheSide). x.ring) e;
  same_holder = ap (λ (x : TheSide). x.holder) e;
  same_size = ap (λ (x : TheSide). x.size) e;
  sent = ap (λ (x : TheSide). map bare x.sent) e ∙ sym (append-nil (map bare s.sent)) ∙ ap (λ (fs : List Frag). map bare s.sent ++ map bare (fs ++ [])) (sym wrote);
  put = ap (λ (x : TheSide). bare_calls x.sent) e ∙ sym (append-nil (bare_calls s.sent)) ∙ ap (λ (fs : List Frag). bare_calls s.sent ++ map bare (fs ++ [])) (sym put);
  read = ap (λ (x : TheSide). length x.got) e ∙ one_longer s.got first ∙ ap (λ (k : ℕ). length s.got + k) (sym read);
  took = ap (λ (x : TheSide). bare_calls x.got) e ∙ took;
}

side_put : (s t : TheSide) (look : Look) → SharedPuts s look t → SideConserves s (look ∷ []) t
side_put s t (placed f) (plain, unspent, (m, by, room, e)) =
    side_writes s m t (placed f) f (looked_same 2 s m by) e refl refl refl (calls_one m.sent f (epoch_at m.size (length m.sent)) (length m.got % 65536) (bit_of m.size (length m.sent)) plain)
side_put s t no_room (unspent, by, few, still) = side_looks s t no_room (looked_same 2 s t by) refl refl refl refl
side_put s t spent (last, e) = side_looks s t spent (same_lists s t e) refl refl refl refl
side_put s t (saw f) h = absurd h
side_put s t saw_ack h = absurd h
side_put s t (found f) h = absurd h
side_put s t found_ack h = absurd h
side_put s t missed h = absurd h
side_put s t told h = absurd h
side_put s t kept h = absurd h

side_take : (s t : TheSide) (look : Look) → SharedTakes s look t → SideConserves s (look ∷ []) t
side_take s t (saw f) (first, seen, (may, e, knows)) = side_sees s t (saw f) first e refl refl refl refl
side_take s t saw_ack (first, seen, (may, e, knows)) = side_sees s t saw_ack first e refl refl refl refl
side_take s t (found f) (first, seen, (may, e, knows)) = side_gets s t (found f) first e refl refl refl (calls_got s.got first f seen)
side_take s t found_ack (first, seen, (may, e, knows)) =
    side_gets s t found_ack first e refl refl refl (calls_none s.got first (sees_ack first seen) ∙ sym (append-nil (bare_calls s.got)))
side_take s t missed (none, e) = side_looks s t missed (when_missed s t e) refl refl refl refl
side_take s t told (much, unspent, (m, by, room, e)) =
    side_writes s m t told acknowledgement (looked_same 1 s m by) e refl refl refl
    (calls_none m.sent (stamped acknowledgement (epoch_at m.size (length m.sent)) (length m.got % 65536)) (stamped-ack acknowledgement (epoch_at m.size (length m.sent)) (length m.got % 65536) (bit_of m.size (length m.sent)))
    ∙ sym (append-nil (bare_calls m.sent)))
side_take s t kept (few, e) = side_looks s t kept (same_lists s t e) refl refl refl refl
side_take s t no_room (much, inl (last, e)) = side_looks s t no_room (same_lists s t e) refl refl refl refl
side_take s t no_room (much, inr (unspent, by, few, still)) = side_looks s t no_room (looked_same 1 s t by) refl refl refl refl
side_take s t (placed f) h = absurd h
side_take s t spent h = absurd h

side_step : (s t : TheSide) (look : Look) → LinkStep SharedPuts SharedTakes s look t → SideConserves s (look ∷ []) t
side_step s t look (inl put) = side_put s t look put
side_step s t look (inr took) = side_take s t look took

pub side_conserves : (s t : TheSide) (looks : List Look) → Looks (LinkStep SharedPuts SharedTakes) s looks t → SideConserves s looks t
side_conserves = over_looks (LinkStep SharedPuts SharedTakes) SideConserves
    (λ s. side_none s)
    side_step
    (λ s t u xs ys a b. record {
      same_ring = b.same_ring ∙ a.same_ring;
      same_holder = b.same_holder ∙ a.same_holder;
      same_size = b.same_size ∙ a.same_size;
      sent = bare_adds (map bare s.sent) (map bare t.sent) (map bare u.sent) (writes_of xs) (writes_of ys) a.sent b.sent ∙ ap (λ (l : List Frag). map bare s.sent ++ map bare l) (sym (writes_of-join xs ys));
      put = bare_adds (bare_calls s.sent) (bare_calls t.sent) (bare_calls u.sent) (puts_of xs) (puts_of ys) a.put b.put ∙ ap (λ (l : List Frag). bare_calls s.sent ++ map bare l) (sym (puts_of-join xs ys));
      read = counts_both (length s.got) (length t.got) (length u.got) (reads_of xs) (reads_of ys) a.read b.read ∙ ap (λ (l : List Frag). length s.got + length l) (sym (reads_of-join xs ys));
      took = adds_both (bare_calls s.got) (bare_calls t.got) (bare_calls u.got) (takes_of xs) (takes_of ys) a.took b.took ∙ ap (λ (l : List Frag). bare_calls s.got ++ l) (sym (takes_of-join xs ys));
    })
  where
    side_none : (s : TheSide) → SideConserves s [] s
    side_none s = record {
      same_ring = refl;
      same_holder = refl;
      same_size = refl;
      sent = sym (append-nil (map bare s.sent));
      put = sym (append-nil (bare_calls s.sent));
      read = omega arith;
      took = sym (append-nil (bare_calls s.got));
    }
