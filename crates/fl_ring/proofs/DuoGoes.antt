-- Each call of a side as a step of the ring.
use Rattle.std.proofs.Common.{ℕ, ◌≡◌, ◌<◌, ◌≤◌, ◌+◌, ◌-◌, ◌/◌, ◌%◌, ◌^◌, true, false, nat_le, List, [], ◌∷◌, ◌++◌, length, ap, subst, ◌∙◌, sym, refl, arith, Result, Ok, Err, OnOk}
use Rattle.std.proofs.lemmas.Bool.{leb-true, leb-false}
use Rattle.fl_base.specs.declared.fragment.Frag.{Frag}
use Rattle.fl_base.specs.Control.{told_of, is_ack_only, bare}
use Rattle.fl_link.specs.Cursor.{epoch_at}
use Rattle.fl_link.specs.Looks.{Look, placed, no_room, spent, found, found_ack, missed, told, peeked}
use Rattle.fl_link.specs.Queue.{front_of}
use Rattle.fl_link.specs.declared.fault.PutFault.{PutFault}
use Rattle.fl_link.specs.declared.fault.PutFault.TheVariants.{Full, Spent}
use Rattle.fl_link.specs.declared.sides.Sight.{Sight}
use Rattle.fl_link.specs.declared.sides.Sight.TheVariants.{Data, Acknowledgement, Empty}
use Rattle.fl_link.proofs.Carried.{stamped-bare}
use Rattle.fl_link.proofs.Conserved.{bare-ack}
use Rattle.fl_ring.specs.Counts.{count_from, known_after}
use Rattle.fl_ring.specs.Duo.{TheHalf, TheDuo, HalfPuts, HalfTakes, AtSide, DuoTakes, side_of, with_known, with_written, with_arrived, with_taken, written, free, counts_by, looked, got, acknowledgement}
use Rattle.fl_ring.specs.Halves.{InStep, half_of, duo_of}
use Rattle.fl_ring.specs.declared.halves.DuoHalf.{DuoHalf}
use Rattle.fl_ring.specs.declared.one_duo.WhichSide.{WhichSide}
use Rattle.fl_ring.specs.declared.one_duo.WhichSide.TheVariants.{One, Two}
use Rattle.fl_ring.proofs.Numbers.{count_again}
use Rattle.fl_ring.proofs.Ways.{length-standing}
use Rattle.fl_ring.proofs.RingSteps.{front_data, front_ack}
use Rattle.fl_ring.proofs.DuoSteps.{next_of, take_steps, taken_half, waits}

-- a put where enough slots are free by the count that it counts by
pub put_goes : (n : ℕ) (ws ws' : List ℕ) (a m a' b : DuoHalf) (frag : Frag) → is_ack_only frag ≡ false → InStep n ws a b → a.put.index < 2 ^ 62
    → m ≡ record a { known = counts_by n 2 (half_of n ws a b) } → nat_le 2 (free n a.put.index m.known) ≡ true
    → half_of n ws' a' b ≡ with_written (half_of n ws m b) → half_of n ws' b a' ≡ with_arrived (half_of n ws b m) (written n (half_of n ws m b) frag)
    → HalfPuts n (half_of n ws a b) (half_of n ws b a) (placed (bare frag)) (half_of n ws' a' b) (half_of n ws' b a')
put_goes n ws ws' a m a' b frag plain s unspent known room mine theirs =
    let h : TheHalf = half_of n ws a b in
    let k : ℕ = counts_by n 2 h in
    let enough : nat_le 2 (free n a.put.index k) ≡ true = subst (λ (x : DuoHalf). nat_le 2 (free n a.put.index x.known) ≡ true) known room in
    let t : half_of n ws' a' b ≡ with_written (with_known h k) = mine ∙ ap (λ (x : DuoHalf). with_written (half_of n ws x b)) known in
    let q : half_of n ws' b a' ≡ with_arrived (half_of n ws b a) (written n h frag) = theirs ∙ ap (λ (x : DuoHalf). with_arrived (half_of n ws b x) (written n (half_of n ws x b) frag)) known in
    (bare-ack frag ∙ plain, unspent, leb-true 2 (free n a.put.index k) enough, t, q ∙ ap (λ (f : Frag). with_arrived (half_of n ws b a) f) (sym (stamped-bare frag (epoch_at n a.put.index) (got h % 65536))))

-- a tell where enough is unacknowledged and a slot is free
pub tell_goes : (n : ℕ) (ws ws' : List ℕ) (a m a' b : DuoHalf) → InStep n ws a b → n / 2 ≤ length (half_of n ws a b).read → a.put.index < 2 ^ 62
    → m ≡ record a { known = counts_by n 1 (half_of n ws a b) } → nat_le 1 (free n a.put.index m.known) ≡ true
    → half_of n ws' a' b ≡ with_written (half_of n ws m b) → half_of n ws' b a' ≡ with_arrived (half_of n ws b m) (written n (half_of n ws m b) acknowledgement)
    → HalfTakes n (half_of n ws a b) (half_of n ws b a) told (half_of n ws' a' b) (half_of n ws' b a')
tell_goes n ws ws' a m a' b s much unspent known room mine theirs =
    let h : TheHalf = half_of n ws a b in
    let k : ℕ = counts_by n 1 h in
    let enough : nat_le 1 (free n a.put.index k) ≡ true = subst (λ (x : DuoHalf). nat_le 1 (free n a.put.index x.known) ≡ true) known room in (
      much,
      unspent,
      leb-true 1 (free n a.put.index k) enough,
      mine ∙ ap (λ (x : DuoHalf). with_written (half_of n ws x b)) known,
      theirs ∙ ap (λ (x : DuoHalf). with_arrived (half_of n ws b x) (written n (half_of n ws x b) acknowledgement)) known,
    )

-- a take, after the look that found the fragment
pub record Took (n : ℕ) (ws : List ℕ) (a a' b : DuoHalf) (frag : Frag) : Type 0 where
  pub steps : InStep n ws a' b
  pub rest : List Frag
  pub first : (half_of n ws a b).waiting ≡ frag ∷ rest
  pub mine : half_of n ws a' b ≡ with_taken (half_of n ws a b) frag rest
  pub theirs : half_of n ws b a' ≡ half_of n ws b a

pub take_goes : (n : ℕ) (ws : List ℕ) (a m a' b : DuoHalf) (frag : Frag) (rest : List Frag) → (half_of n ws a b).waiting ≡ frag ∷ rest
    → m ≡ record a { known = count_from a.known (told_of frag.control) } → InStep n ws m b → a' ≡ record m { take = next_of m.take } → Took n ws a a' b frag
take_goes n ws a m a' b frag rest first known s next =
    let k : ℕ = count_from a.known (told_of frag.control) in
    let one : DuoHalf = record a { known = k } in
    let steps_one : InStep n ws one b = subst (λ (x : DuoHalf). InStep n ws x b) known s in
    let stays : k ≡ known_after k (half_of n ws one b).waiting = sym (ap (λ (xs : List Frag). known_after k xs) first ∙ count_again a.known (told_of frag.control)) in
    let there = waits n ws a b frag rest first in
    let h : TheHalf = half_of n ws a b in
    let known_is : known_after k h.waiting ≡ looked h = sym stays ∙ sym (ap (λ (xs : List Frag). known_after a.known xs) first) in
    let end : a' ≡ record one { take = next_of a.take } = next ∙ ap (λ (x : DuoHalf). let y : DuoHalf = record x { take = next_of x.take } in y) known in
    let all : Took n ws a (record one { take = next_of a.take }) b frag = record {
      steps = take_steps n ws one b (next_of a.take) steps_one there stays refl;
      rest = rest;
      first = first;
      mine = taken_half n ws one b frag rest steps_one first stays
          ∙ ap (λ (x : ℕ). let y : TheHalf = record { sent = h.sent; known = x; told = h.told; read = h.read ++ frag ∷ []; waiting = rest } in y) known_is;
      theirs = refl;
    } in
    subst (λ (x : DuoHalf). Took n ws a x b frag) (sym end) all

pub took_data : (n : ℕ) (ws : List ℕ) (a a' b : DuoHalf) (frag : Frag) → Took n ws a a' b frag → is_ack_only frag ≡ false
    → HalfTakes n (half_of n ws a b) (half_of n ws b a) (found (bare frag)) (half_of n ws a' b) (half_of n ws b a')
took_data n ws a a' b frag t plain = (front_data (half_of n ws a b).waiting frag t.rest t.first plain, (frag, t.rest, t.first, t.mine), t.theirs)

pub took_ack : (n : ℕ) (ws : List ℕ) (a a' b : DuoHalf) (frag : Frag) → Took n ws a a' b frag → is_ack_only frag ≡ true
    → HalfTakes n (half_of n ws a b) (half_of n ws b a) found_ack (half_of n ws a' b) (half_of n ws b a')
took_ack n ws a a' b frag t ack = (front_ack (half_of n ws a b).waiting frag t.rest t.first ack, (frag, t.rest, t.first, t.mine), t.theirs)

-- where a slot is free, the next index is within
pub room_for : (k n sent known : ℕ) → 0 < k → nat_le k (free n sent known) ≡ true → sent + 1 ≤ known + n
room_for k n sent known some enough = omega (arith, leb-true k (free n sent known) enough)

-- how many are read and unacknowledged
pub unacknowledged_is : (n : ℕ) (ws : List ℕ) (a b : DuoHalf) → InStep n ws a b → length (half_of n ws a b).read ≡ a.take.index - a.told
unacknowledged_is n ws a b s = length-standing b.base n ws a.told (a.take.index - a.told)

-- where too few slots are free after a look
pub too_few : (n k : ℕ) (ws : List ℕ) (a m b : DuoHalf) → m ≡ record a { known = counts_by n k (half_of n ws a b) } → nat_le k (free n a.put.index m.known) ≡ false
    → (free n a.put.index (counts_by n k (half_of n ws a b)) < k) × (half_of n ws m b ≡ with_known (half_of n ws a b) (counts_by n k (half_of n ws a b))) × (half_of n ws b m ≡ half_of n ws b a)
too_few n k ws a m b known short =
    let c : ℕ = counts_by n k (half_of n ws a b) in
    let none : nat_le k (free n a.put.index c) ≡ false = subst (λ (x : DuoHalf). nat_le k (free n a.put.index x.known) ≡ false) known short in
    (leb-false k (free n a.put.index c) none, ap (λ (x : DuoHalf). half_of n ws x b) known, ap (λ (x : DuoHalf). half_of n ws b x) known)

-- a look that found nothing
pub miss_goes : (n : ℕ) (ws : List ℕ) (a m b : DuoHalf) → (half_of n ws a b).waiting ≡ [] → m ≡ a → InStep n ws m b
    → InStep n ws m b × (m.base ≡ a.base) × HalfTakes n (half_of n ws a b) (half_of n ws b a) missed (half_of n ws m b) (half_of n ws b m)
miss_goes n ws a m b none same steps = (steps, ap (λ (x : DuoHalf). x.base) same, (none, ap (λ (x : DuoHalf). half_of n ws x b) same, ap (λ (x : DuoHalf). half_of n ws b x) same))

-- a look that found a fragment, which stays
pub record Saw (n : ℕ) (ws : List ℕ) (a m b : DuoHalf) : Type 0 where
  pub base : m.base ≡ a.base
  pub mine : half_of n ws m b ≡ with_known (half_of n ws a b) (looked (half_of n ws a b))
  pub theirs : half_of n ws b m ≡ half_of n ws b a

pub look_goes : (n : ℕ) (ws : List ℕ) (a m b : DuoHalf) (frag : Frag) (rest : List Frag) → (half_of n ws a b).waiting ≡ frag ∷ rest
    → m ≡ record a { known = count_from a.known (told_of frag.control) } → Saw n ws a m b
look_goes n ws a m b frag rest first known =
    let same : count_from a.known (told_of frag.control) ≡ looked (half_of n ws a b) = sym (ap (λ (xs : List Frag). known_after a.known xs) first) in
    let is : m ≡ record a { known = looked (half_of n ws a b) } = known ∙ ap (λ (k : ℕ). let x : DuoHalf = record a { known = k } in x) same in
    record { base = ap (λ (x : DuoHalf). x.base) is; mine = ap (λ (x : DuoHalf). half_of n ws x b) is; theirs = ap (λ (x : DuoHalf). half_of n ws b x) is }

-- ---- a step of a side as one of the ring

pub one_kept : (n : ℕ) (ws : List ℕ) (a m b : DuoHalf) → a.base ≡ 0 → m.base ≡ a.base → InStep n ws m b → (m.base ≡ 0) × InStep m.put.size ws m b
one_kept n ws a m b first same s = (same ∙ first, subst (λ (k : ℕ). InStep k ws m b) (sym s.there.put_size) s)

pub one_steps : (R : ℕ → TheHalf → TheHalf → Look → TheHalf → TheHalf → Type 0) (n : ℕ) (ws ws' : List ℕ) (a m b : DuoHalf) (look : Look) (w : WhichSide) (s : TheDuo) → w ≡ One → duo_of n ws a b ≡ s
    → InStep n ws' m b → R n (half_of n ws a b) (half_of n ws b a) look (half_of n ws' m b) (half_of n ws' b m) → AtSide R w s look (duo_of m.put.size ws' m b)
one_steps R n ws ws' a m b look w s is shown steps goes =
    subst (λ (x : WhichSide). AtSide R x s look (duo_of m.put.size ws' m b)) (sym is)
    (subst (λ (d : TheDuo). AtSide R One d look (duo_of m.put.size ws' m b)) shown
    (subst (λ (k : ℕ). AtSide R One (duo_of n ws a b) look (duo_of k ws' m b)) (sym steps.there.put_size) (goes, refl)))

pub two_steps : (R : ℕ → TheHalf → TheHalf → Look → TheHalf → TheHalf → Type 0) (n : ℕ) (ws ws' : List ℕ) (a b m : DuoHalf) (look : Look) (w : WhichSide) (s : TheDuo) → w ≡ Two → duo_of n ws a b ≡ s
    → R n (half_of n ws b a) (half_of n ws a b) look (half_of n ws' m a) (half_of n ws' a m) → AtSide R w s look (duo_of n ws' a m)
two_steps R n ws ws' a b m look w s is shown goes =
    subst (λ (x : WhichSide). AtSide R x s look (duo_of n ws' a m)) (sym is)
    (subst (λ (d : TheDuo). AtSide R Two d look (duo_of n ws' a m)) shown (goes, refl))

-- what a look sees is what stands first
front_is : (n : ℕ) (s p t q : TheHalf) (r : Sight) → HalfTakes n s p (peeked r) t q → front_of s.waiting ≡ peeked r
front_is n s p t q (Data frag) h = h.0
front_is n s p t q Acknowledgement h = h.0
front_is n s p t q Empty h = ap front_of h.0

pub duo_front : (w : WhichSide) (s t : TheDuo) (r : Sight) → DuoTakes w s (peeked r) t → front_of (side_of w s).waiting ≡ peeked r
duo_front One s t r h = front_is s.size s.one s.two t.one t.two r h.0
duo_front Two s t r h = front_is s.size s.two s.one t.two t.one r h.0

-- a put came to one of three
pub put_went : (r : Result (Unit {0}) PutFault) (P : Look → Type 0) (frag : Frag) → OnOk r (P (placed frag)) → (r ≡ Err Full → P no_room) → (r ≡ Err Spent → P spent) → (look : Look) × P look
put_went (Ok u) P frag put full last = (placed frag, put)
put_went (Err Full) P frag put full last = (no_room, full refl)
put_went (Err Spent) P frag put full last = (spent, last refl)
