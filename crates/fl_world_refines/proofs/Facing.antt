-- The two sides of a ring, and the machine's two halves for them: a look, a put and a take.
use Rattle.std.proofs.Common.{◌≡◌, refl, sym, ◌∙◌, ap, subst, ℕ, ◌+◌, ◌%◌, ◌≤◌, ◌<◌, List, [], ◌∷◌, ◌++◌, length, map, drop, Some, arith}
use Rattle.std.proofs.lemmas.List.{length_push, map_push}
use Rattle.fl_base.specs.declared.fragment.Frag.{Frag}
use Rattle.fl_base.specs.Control.{bare, told_of}
use Rattle.fl_link.specs.Cursor.{epoch_at}
use Rattle.fl_link.proofs.Carried.{bare-stamped, told-stamped}
use Rattle.fl_ring.specs.Counts.{count_from, known_after}
use Rattle.fl_ring.specs.Duo.{TheHalf, got, looked, with_known, with_written, with_arrived}
use Rattle.fl_ring.specs.Duo.{written as written_frag}
use Rattle.fl_ring.proofs.Numbers.{count_named}
use Rattle.fl_model.specs.Rings.{Label, RingLabel, Half, knows, adds, tells_all, reads}
use Rattle.fl_model.specs.Standing.{labels_of}
use Rattle.fl_model.specs.SoundRings.{Rises, HalfCounts}
use Rattle.fl_world_refines.specs.Fragments.{Streams, frag_of, AreOf, MayBeSaid}
use Rattle.fl_world_refines.specs.Rings.{AllMayBeSaid, DirectionShows, numbers_told, numbers_due}
use Rattle.fl_world_refines.proofs.Matching.{Meets, meets, are_more, numbers_more}

-- one side and the other; of the machine, the half that the one writes, and the half that it reads
pub record Facing (streams : Streams) (out inn : Half) (a b : TheHalf) : Type 0 where
  pub forth : DirectionShows streams out a b
  pub back : DirectionShows streams inn b a

-- ---- a look

tells : List RingLabel → List ℕ
tells ls = map (λ (l : RingLabel). l.told) ls

pub rises_over : (low high : ℕ) (xs : List ℕ) → Rises low xs high → low ≤ high
rises_over low high [] h = h
rises_over low high (x ∷ xs) h = let k : x ≤ high = rises_over x high xs h.1 in let a : low ≤ x = h.0 in omega arith

-- the count that the first label tells isn't far from what is known
near : (size : ℕ) (h : Half) (ls rest : List RingLabel) (l : RingLabel) → HalfCounts size h ls → size ≤ 1024 → ls ≡ l ∷ rest
    → (h.known ≤ l.told) × (l.told < h.known + 65536)
near size h ls rest l c few e =
    let rises : Rises h.known (map (λ (m : RingLabel). m.told) (l ∷ rest)) h.told
    = subst (λ (ms : List RingLabel). Rises h.known (map (λ (m : RingLabel). m.told) ms) h.told) e c.telling in
    let least : h.known ≤ l.told = rises.0 in
    let most : l.told ≤ h.told = rises_over l.told h.told (map (λ (m : RingLabel). m.told) rest) rises.1 in
    let told = c.told in
    let stands = c.standing in
    let room = c.room in
    (least, omega (arith, most, told, stands, room, few))

-- a side that looks knows the first label's count
pub looked_is : (streams : Streams) (size : ℕ) (out inn : Half) (a b : TheHalf) (f : Frag) (fs : List Frag) → Facing streams out inn a b
    → HalfCounts size out inn.waiting → size ≤ 1024 → a.waiting ≡ f ∷ fs → (m : Meets streams inn.waiting f fs) → looked a ≡ m.first.told
looked_is streams size out inn a b f fs h c few e m =
    let between = near size out inn.waiting m.rest m.first c few m.are in
    ap (known_after a.known) e
    ∙ ap (count_from a.known) m.number
    ∙ ap (λ (k : ℕ). count_from k (m.first.told % 65536)) h.forth.known
    ∙ count_named out.known m.first.told between.0 between.1

pub first_meets : (streams : Streams) (out inn : Half) (a b : TheHalf) (f : Frag) (fs : List Frag) → Facing streams out inn a b
    → a.waiting ≡ f ∷ fs → Meets streams inn.waiting f fs
first_meets streams out inn a b f fs h e =
    meets streams inn.waiting f fs (subst (AreOf streams (labels_of inn.waiting)) e h.back.frags)
    (subst (λ (gs : List Frag). numbers_told gs ≡ numbers_due inn.waiting) e h.back.tells)

-- a side with another count known
pub knowing_faces : (streams : Streams) (out inn : Half) (a b : TheHalf) (n m : ℕ) → n ≡ m → Facing streams out inn a b
    → Facing streams (knows m out) inn (with_known a n) b
knowing_faces streams out inn a b n m e h = record {
  forth = record {
    sent = h.forth.sent;
    known = e;
    told = h.forth.told;
    read = h.forth.read;
    frags = h.forth.frags;
    tells = h.forth.tells;
    said = h.forth.said;
  };
  back = record {
    sent = h.back.sent;
    known = h.back.known;
    told = h.back.told;
    read = h.back.read;
    frags = h.back.frags;
    tells = h.back.tells;
    said = h.back.said;
  };
}

-- ---- what monitors say

said_more : (ls : List RingLabel) (l : RingLabel) → AllMayBeSaid ls → MayBeSaid l.label → AllMayBeSaid (ls ++ l ∷ [])
said_more [] l a h = (h, tt)
said_more (m ∷ ls) l a h = (a.0, said_more ls l a.1 h)

said_less : (ls : List RingLabel) → AllMayBeSaid ls → AllMayBeSaid (drop 1 ls)
said_less [] a = tt
said_less (l ∷ ls) a = a.1

pub first_said : (ls rest : List RingLabel) (l : RingLabel) → ls ≡ l ∷ rest → AllMayBeSaid ls → MayBeSaid l.label
first_said ls rest l e a = let b : AllMayBeSaid (l ∷ rest) = subst AllMayBeSaid e a in b.0

-- ---- a put

bit : (n i : ℕ) → epoch_at n i < 2
bit n i = omega arith

pub put_faces : (streams : Streams) (size : ℕ) (label : Label) (f : Frag) (out inn : Half) (a b : TheHalf) → Facing streams out inn a b
    → frag_of streams label ≡ Some (bare f) → MayBeSaid label
    → Facing streams (adds label inn.read out) (tells_all inn) (with_written a) (with_arrived b (written_frag size a f))
put_faces streams size label f out inn a b h is may =
    let g = written_frag size a f in
    let plain : bare (written_frag size a f) ≡ bare f = bare-stamped f (epoch_at size a.sent) (got a % 65536) (bit size a.sent) in
    let number : told_of (written_frag size a f).control ≡ got a % 65536
    = told-stamped f.control (epoch_at size a.sent) (got a % 65536) (bit size a.sent) in
    let l : RingLabel = record { label = label; told = inn.read } in
    record {
      forth = record {
        sent = ap (λ (n : ℕ). n + 1) h.forth.sent;
        known = h.forth.known;
        told = h.forth.told;
        read = h.forth.read;
        frags = subst (λ (labels : List Label). AreOf streams labels (b.waiting ++ written_frag size a f ∷ []))
            (sym (map_push (λ (m : RingLabel). m.label) out.waiting l))
            (are_more streams (labels_of out.waiting) b.waiting label (written_frag size a f) h.forth.frags (is ∙ ap Some (sym plain)));
        tells = numbers_more b.waiting out.waiting (written_frag size a f) l h.forth.tells (number ∙ ap (λ (n : ℕ). n % 65536) h.back.read);
        said = said_more out.waiting l h.forth.said may;
      };
      back = record {
        sent = h.back.sent;
        known = h.back.known;
        told = h.back.read;
        read = let e : got a ≡ inn.read = h.back.read in let z : got (with_written a) ≡ got a + 0 = refl in omega (arith, e, z);
        frags = h.back.frags;
        tells = h.back.tells;
        said = h.back.said;
      };
    }

-- ---- a take

-- the side once it has taken the first fragment, with nothing learned
abbrev pub taken_from : TheHalf → Frag → List Frag → TheHalf
taken_from a f fs = record { sent = a.sent; known = a.known; told = a.told; read = a.read ++ f ∷ []; waiting = fs }

pub take_faces : (streams : Streams) (out inn : Half) (a b : TheHalf) (f : Frag) (fs : List Frag) → Facing streams out inn a b
    → Meets streams inn.waiting f fs → Facing streams out (reads inn) (taken_from a f fs) b
take_faces streams out inn a b f fs h m =
    let others : m.rest ≡ drop 1 inn.waiting = ap (λ (ls : List RingLabel). drop 1 ls) (sym m.are) in
    let longer : length (a.read ++ f ∷ []) ≡ length a.read + 1 = length_push a.read f in
    let was : a.told + length a.read ≡ inn.read = h.back.read in
    record {
      forth = record {
        sent = h.forth.sent;
        known = h.forth.known;
        told = h.forth.told;
        read = h.forth.read;
        frags = h.forth.frags;
        tells = h.forth.tells;
        said = h.forth.said;
      };
      back = record {
        sent = h.back.sent;
        known = h.back.known;
        told = h.back.told;
        read = omega (arith, longer, was);
        frags = subst (λ (ls : List RingLabel). AreOf streams (labels_of ls) fs) others m.others;
        tells = subst (λ (ls : List RingLabel). numbers_told fs ≡ numbers_due ls) others m.numbers;
        said = said_less inn.waiting h.back.said;
      };
    }
