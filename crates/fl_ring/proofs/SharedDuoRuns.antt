-- Steps in a row at a seat of a ring of two directions over shared words.
use Rattle.std.proofs.Common.{ℕ, ◌≡◌, ◌<◌, ◌≤◌, ◌+◌, ◌%◌, ◌^◌, List, [], ◌∷◌, ◌++◌, length, take, set, ap, subst, ◌∙◌, sym, arith, Some, None, Bool, cond}
use Rattle.std.proofs.Common.{eq-eqb, ne_eqb, ◌≢◌}
use Rattle.std.proofs.lemmas.List.{length-take-le, length_push}
use mathlib.Core.Option.{none}
use Rattle.atomic_table.specs.Table.{Me, step, Allows}
use Rattle.atomic_table.specs.Seated.{TableId}
use Rattle.fl_base.specs.declared.fragment.Frag.{Frag}
use Rattle.fl_base.specs.Control.{epoch_of, told_of}
use Rattle.fl_link.specs.Cursor.{epoch_at}
use Rattle.fl_ring.specs.Counts.{count_from}
use Rattle.fl_ring.specs.declared.shared.duo_board.SideView.{SideView}
use Rattle.fl_ring.specs.declared.shared.duo_board.DuoView.{DuoView}
use Rattle.fl_ring.specs.Way.{slot}
use Rattle.fl_ring.specs.SharedWay.{IsDue, loaded_frag, frag_from, misses_after}
use Rattle.fl_ring.specs.SharedDuo.{DuoHolds, IsOneSide, base_of, other_of, with_mine, side_found, side_stored, side_put, side_control, side_loaded}
use Rattle.fl_ring.specs.SharedDuo.{side_peeked, side_got, known_by, HasSlot, IsNextWord, IsPayloadWord, duo_stores_word, duo_stores_control, duo_loads_word}
use Rattle.fl_ring.specs.SharedDuo.{duo_loads_peeked, duo_loads_taken}
use Rattle.fl_ring.specs.SharedSides.{TheSide, side_with_part, side_with_frag, side_with_words, side_missed, SideSees, SideGets, KnowsSent}
use Rattle.fl_ring.proofs.SharedDuoSteps.{duo_allows_stored, duo_allows_put, duo_allows_loaded, duo_allows_peeked, duo_allows_taken}
use Rattle.fl_ring.proofs.SharedLooks.{seven_words, none_missed}
use Rattle.fl_ring.proofs.SharedRuns.{last_stored}

abbrev Seated : Type 0
Seated = Me (Unit {0}) DuoView

-- ---- a payload word found, and another number stored there

-- the seat that knows one payload word more of the next slot
abbrev found : Seated → ℕ → Seated
found m x = (with_mine m.0 (side_found m.0.mine x), m.1)

pub duo_stored_after : (n start slots id i x old : ℕ) (m0 m : Seated) → m ≡ found m0 old → n ≡ m0.0.size → IsOneSide m0.0.holder → IsNextWord i m0.0
    → Allows (DuoHolds n start) slots id m i (λ _. x) (λ _. duo_stores_word (step slots i x 0 none) m x)
duo_stored_after n start slots id i x old m0 m e key side (at, small, room) =
    let few : length m0.0.mine.put.part ≤ length (m0.0.mine.put.part ++ old ∷ []) = omega (arith, length_push m0.0.mine.put.part old) in
    subst (λ (z : Seated). Allows (DuoHolds n start) slots id z i (λ _. x) (λ _. duo_stores_word (step slots i x 0 none) z x)) (sym e)
    (duo_allows_stored n start slots id i (length m0.0.mine.put.part) x (found m0 old) key side (at, few, small, room))

-- the number that was found is the one that was wanted
pub duo_found_same : (m0 m : Seated) (old x : ℕ) → m ≡ found m0 old → old ≡ x → m ≡ found m0 x
duo_found_same m0 m old x e same = e ∙ ap (λ (k : ℕ). found m0 k) same

-- or that one is stored, at the same word
pub duo_found_stored : (m0 m m' : Seated) (i old k x : ℕ) → IsNextWord i m0.0 → m ≡ found m0 old → IsPayloadWord i k m.0
    → m' ≡ (with_mine m.0 (side_stored m.0.mine k x), m.1) → m' ≡ found m0 x
duo_found_stored m0 m m' i old k x next e word d =
    let first : ℕ = slot (base_of m0.0.holder m0.0.size) m0.0.size (length m0.0.mine.put.sent) in
    let here : i ≡ first + k = (subst (λ (z : Seated). IsPayloadWord i k z.0) e word).0 in
    let last : k ≡ length m0.0.mine.put.part = omega (arith, here, next.0) in
    d ∙ ap (λ (z : Seated). let s : Seated = (with_mine z.0 (side_stored z.0.mine k x), z.1) in s) e
    ∙ ap (λ (p : List ℕ). let s : Seated = (with_mine m0.0 (side_with_part m0.0.mine p), m0.1) in s) (last_stored m0.0.mine.put.part k old x last)

-- ---- a fragment put

-- the seat that knows these payload words of the next slot
abbrev stored : Seated → List ℕ → Seated
stored m words = (with_mine m.0 (side_with_part m.0.mine words), m.1)

pub duo_none_stored : (m : Seated) → m.0.mine.put.part ≡ [] → m ≡ stored m []
duo_none_stored m e = ap (λ (p : List ℕ). stored m p) e

pub duo_one_stored : (m0 m m' : Seated) (p q : List ℕ) (x : ℕ) → m ≡ stored m0 p → m' ≡ (with_mine m.0 (side_found m.0.mine x), m.1) → p ++ x ∷ [] ≡ q → m' ≡ stored m0 q
duo_one_stored m0 m m' p q x e d more = d ∙ ap (λ (z : Seated). found z x) e ∙ ap (λ (r : List ℕ). stored m0 r) more

-- word k comes next
pub duo_next_stored : (i k : ℕ) (m0 m : Seated) (p : List ℕ) → m ≡ stored m0 p → i ≡ slot (base_of m0.0.holder m0.0.size) m0.0.size (length m0.0.mine.put.sent) + k → length p ≡ k → k < 7 → HasSlot m0.0
    → IsNextWord i m.0
duo_next_stored i k m0 m p e at len small room =
    subst (λ (z : Seated). IsNextWord i z.0) (sym e)
    (at ∙ ap (λ (j : ℕ). slot (base_of m0.0.holder m0.0.size) m0.0.size (length m0.0.mine.put.sent) + j) (sym len), omega arith, room)

pub duo_put_after : (n start slots id i w : ℕ) (m0 m : Seated) (p : List ℕ) → m ≡ stored m0 p → n ≡ m0.0.size → IsOneSide m0.0.holder
    → i ≡ slot (base_of m0.0.holder m0.0.size) m0.0.size (length m0.0.mine.put.sent) + 7 → length p ≡ 7
    → length m0.0.mine.put.sent < m0.0.mine.put.known + m0.0.size → length m0.0.mine.put.sent < 2 ^ 62 → epoch_of w ≡ epoch_at m0.0.size (length m0.0.mine.put.sent)
    → told_of w ≡ length m0.0.mine.take.got % 65536
    → Allows (DuoHolds n start) slots id m i (λ _. w) (λ _. duo_stores_control (step slots i w 0 none) m w)
duo_put_after n start slots id i w m0 m p e key side at len room unspent turn number =
    subst (λ (z : Seated). Allows (DuoHolds n start) slots id z i (λ _. w) (λ _. duo_stores_control (step slots i w 0 none) z w)) (sym e)
    (duo_allows_put n start slots id i w (stored m0 p) key side at len room unspent turn number)

pub duo_all_put : (m0 m m' : Seated) (f : Frag) → m ≡ stored m0 f.words → m' ≡ (with_mine m.0 (side_put m.0.mine f.control), m.1) → m' ≡ (with_mine m0.0 (side_with_frag m0.0.mine f), m0.1)
duo_all_put m0 m m' f e d = d ∙ ap (λ (z : Seated). let s : Seated = (with_mine z.0 (side_put z.0.mine f.control), z.1) in s) e

-- ---- payload words loaded

abbrev loaded : Seated → List ℕ → Seated
loaded m words = (with_mine m.0 (side_with_words m.0.mine words), m.1)

pub duo_none_loaded : (m : Seated) → m.0.mine.take.part ≡ [] → m ≡ loaded m []
duo_none_loaded m e = ap (λ (p : List ℕ). loaded m p) e

pub duo_one_loaded : (m0 m m' : Seated) (p q : List ℕ) (x : ℕ) → m ≡ loaded m0 p → m' ≡ (with_mine m.0 (side_loaded m.0.mine x), m.1) → p ++ x ∷ [] ≡ q → m' ≡ loaded m0 q
duo_one_loaded m0 m m' p q x e d more = d ∙ ap (λ (z : Seated). let s : Seated = (with_mine z.0 (side_loaded z.0.mine x), z.1) in s) e ∙ ap (λ (r : List ℕ). loaded m0 r) more

pub duo_loaded_after : (n start slots id i k : ℕ) (m0 m : Seated) (p : List ℕ) → m ≡ loaded m0 p → n ≡ m0.0.size → IsOneSide m0.0.holder
    → i ≡ slot (other_of m0.0.holder m0.0.size) m0.0.size (length m0.0.mine.take.got) + k → length p ≡ k → k < 6
    → IsDue m0.0.size m0.0.mine.take → Allows (DuoHolds n start) slots id m i (λ x. x) (duo_loads_word (step slots i 0 0 none) m)
duo_loaded_after n start slots id i k m0 m p e key side at len small due =
    subst (λ (z : Seated). Allows (DuoHolds n start) slots id z i (λ x. x) (duo_loads_word (step slots i 0 0 none) z)) (sym e)
    (duo_allows_loaded n start slots id i (loaded m0 p) key side (at ∙ ap (λ (j : ℕ). slot (other_of m0.0.holder m0.0.size) m0.0.size (length m0.0.mine.take.got) + j) (sym len)) due (omega arith))

-- ---- a fragment loaded

abbrev side_at : TableId → Seated → TheSide
side_at t m = record {
  ring = t;
  holder = m.0.holder;
  size = m.0.size;
  sent = m.0.mine.put.sent;
  known = m.0.mine.put.known;
  loads = m.0.mine.put.loads;
  got = m.0.mine.take.got;
  peeked = m.0.mine.take.peeked;
  misses = m.0.mine.take.misses;
  told = m.0.mine.take.told;
}

-- the seat that has loaded this control word, and these payload words
abbrev controlled : Seated → ℕ → Seated
controlled m c = (with_mine m.0 (side_control m.0.size m.0.mine c), m.1)

abbrev all_but_one : Seated → ℕ → List ℕ → Seated
all_but_one m c words = loaded (controlled m c) (take 6 words)

so_far : (m0 m1 m2 : Seated) (c : ℕ) (words : List ℕ) → m1 ≡ controlled m0 c → m2 ≡ loaded m1 (take 6 words) → m2 ≡ all_but_one m0 c words
so_far m0 m1 m2 c words e d = d ∙ ap (λ (m : Seated). loaded m (take 6 words)) e

pub duo_peeked_last : (n start slots id i c : ℕ) (m0 m1 m2 : Seated) (words : List ℕ) → m1 ≡ controlled m0 c → m2 ≡ loaded m1 (take 6 words) → length words ≡ 7
    → n ≡ m0.0.size → IsOneSide m0.0.holder → i ≡ slot (other_of m0.0.holder m0.0.size) m0.0.size (length m0.0.mine.take.got) + 6 → epoch_of c ≡ epoch_at m0.0.size (length m0.0.mine.take.got)
    → Allows (DuoHolds n start) slots id m2 i (λ x. x) (duo_loads_peeked (step slots i 0 0 none) m2)
duo_peeked_last n start slots id i c m0 m1 m2 words e d seven key side at due =
    subst (λ (m : Seated). Allows (DuoHolds n start) slots id m i (λ x. x) (duo_loads_peeked (step slots i 0 0 none) m)) (sym (so_far m0 m1 m2 c words e d))
    (duo_allows_peeked n start slots id i (all_but_one m0 c words) key side at due (length-take-le 6 words (omega arith)))

pub duo_taken_last : (n start slots id i c : ℕ) (m0 m1 m2 : Seated) (words : List ℕ) → m1 ≡ controlled m0 c → m2 ≡ loaded m1 (take 6 words) → length words ≡ 7
    → n ≡ m0.0.size → IsOneSide m0.0.holder → i ≡ slot (other_of m0.0.holder m0.0.size) m0.0.size (length m0.0.mine.take.got) + 6 → epoch_of c ≡ epoch_at m0.0.size (length m0.0.mine.take.got)
    → Allows (DuoHolds n start) slots id m2 i (λ x. x) (duo_loads_taken (step slots i 0 0 none) m2)
duo_taken_last n start slots id i c m0 m1 m2 words e d seven key side at due =
    subst (λ (m : Seated). Allows (DuoHolds n start) slots id m i (λ x. x) (duo_loads_taken (step slots i 0 0 none) m)) (sym (so_far m0 m1 m2 c words e d))
    (duo_allows_taken n start slots id i (all_but_one m0 c words) key side at due (length-take-le 6 words (omega arith)))

-- where the epoch due was found the number is known, else nothing new
pub known_due : (n c : ℕ) (s : SideView) → epoch_of c ≡ epoch_at n (length s.take.got) → known_by n s c ≡ count_from s.put.known (told_of c)
known_due n c s due = ap (λ (b : Bool). cond b (count_from s.put.known (told_of c)) s.put.known) (eq-eqb (epoch_of c) (epoch_at n (length s.take.got)) due)

pub known_same : (n c : ℕ) (s : SideView) → epoch_of c ≢ epoch_at n (length s.take.got) → known_by n s c ≡ s.put.known
known_same n c s other = ap (λ (b : Bool). cond b (count_from s.put.known (told_of c)) s.put.known) (ne_eqb (epoch_of c) (epoch_at n (length s.take.got)) other)

one_missed : (n c : ℕ) (s : SideView) → epoch_of c ≢ epoch_at n (length s.take.got) → misses_after n s.take c ≡ s.take.misses + 1
one_missed n c s other = ap (λ (b : Bool). cond b s.take.misses (s.take.misses + 1)) (ne_eqb (epoch_of c) (epoch_at n (length s.take.got)) other)

-- what a side is after a look that finds nothing
pub side_misses : (t t' : TableId) (c : ℕ) (m0 m1 : Seated) → m1 ≡ controlled m0 c → epoch_of c ≢ epoch_at m0.0.size (length m0.0.mine.take.got) → t' ≡ t → side_at t' m1 ≡ side_missed (side_at t m0)
side_misses t t' c m0 m1 e other same =
    let known = known_same m0.0.size c m0.0.mine other in
    let missed = one_missed m0.0.size c m0.0.mine other in
    ap (λ (z : Seated). side_at t' z) e
    ∙ (λ i. let s : TheSide = record {
      ring = same i;
      holder = m0.0.holder;
      size = m0.0.size;
      sent = m0.0.mine.put.sent;
      known = known i;
      loads = m0.0.mine.put.loads + 1;
      got = m0.0.mine.take.got;
      peeked = m0.0.mine.take.peeked;
      misses = missed i;
      told = m0.0.mine.take.told;
    } in s)

-- a seat that knows no more than was sent
knows : (t : TableId) (m m' : Seated) → m ≡ m' → m'.0.mine.put.known ≤ length m'.0.mine.put.sent → KnowsSent (side_at t m)
knows t m m' e few = subst (λ (z : Seated). KnowsSent (side_at t z)) (sym e) few

pub side_sees_last : (t t' : TableId) (c x : ℕ) (m0 m1 m2 m3 : Seated) (words : List ℕ) → m1 ≡ controlled m0 c → m2 ≡ loaded m1 (take 6 words) → length words ≡ 7
    → epoch_of c ≡ epoch_at m0.0.size (length m0.0.mine.take.got) → m3 ≡ (with_mine m2.0 (side_peeked m2.0.mine x), m2.1) → ((f : Frag) → m2.0.mine.take.peeked ≡ Some f → loaded_frag m2.0.mine.take x ≡ f) → t' ≡ t → m1.0.mine.put.known ≤ length m0.0.mine.put.sent
    → SideSees (side_at t m0) (frag_from (set words 6 x) c) (side_at t' m3)
side_sees_last t t' c x m0 m1 m2 m3 words e d seven due done again same sent =
    let m : Seated = all_but_one m0 c words in
    let far : m2 ≡ m = so_far m0 m1 m2 c words e d in
    let whole : take 6 words ++ x ∷ [] ≡ set words 6 x = seven_words words x seven in
    let missed = none_missed m0.0.size c m0.0.mine.take due in
    let known = known_due m0.0.size c m0.0.mine due in
    let last : m3 ≡ (with_mine m.0 (side_peeked m.0.mine x), m.1) = done ∙ ap (λ (z : Seated). let s : Seated = (with_mine z.0 (side_peeked z.0.mine x), z.1) in s) far in
    let as_loaded : (f : Frag) → m0.0.mine.take.peeked ≡ Some f → loaded_frag m.0.mine.take x ≡ f =
    subst (λ (z : Seated). (f : Frag) → z.0.mine.take.peeked ≡ Some f → loaded_frag z.0.mine.take x ≡ f) far again in (
      (λ f is. ap (λ (ws : List ℕ). frag_from ws c) (sym whole) ∙ as_loaded f is),
      ap (λ (z : Seated). side_at t' z) last
          ∙ (λ i. let s : TheSide = record {
            ring = same i;
            holder = m0.0.holder;
            size = m0.0.size;
            sent = m0.0.mine.put.sent;
            known = known i;
            loads = m0.0.mine.put.loads + 1;
            got = m0.0.mine.take.got;
            peeked = Some (frag_from (whole i) c);
            misses = missed i;
            told = m0.0.mine.take.told;
          } in s),
      knows t' m3 (with_mine m.0 (side_peeked m.0.mine x), m.1) last (subst (λ (z : Seated). z.0.mine.put.known ≤ length m0.0.mine.put.sent) e sent),
    )

pub side_gets_last : (t t' : TableId) (c x : ℕ) (m0 m1 m2 m3 : Seated) (words : List ℕ) → m1 ≡ controlled m0 c → m2 ≡ loaded m1 (take 6 words) → length words ≡ 7
    → epoch_of c ≡ epoch_at m0.0.size (length m0.0.mine.take.got) → m3 ≡ (with_mine m2.0 (side_got m2.0.mine x), m2.1) → ((f : Frag) → m2.0.mine.take.peeked ≡ Some f → loaded_frag m2.0.mine.take x ≡ f) → t' ≡ t → m1.0.mine.put.known ≤ length m0.0.mine.put.sent
    → SideGets (side_at t m0) (frag_from (set words 6 x) c) (side_at t' m3)
side_gets_last t t' c x m0 m1 m2 m3 words e d seven due done again same sent =
    let m : Seated = all_but_one m0 c words in
    let far : m2 ≡ m = so_far m0 m1 m2 c words e d in
    let whole : take 6 words ++ x ∷ [] ≡ set words 6 x = seven_words words x seven in
    let missed = none_missed m0.0.size c m0.0.mine.take due in
    let known = known_due m0.0.size c m0.0.mine due in
    let last : m3 ≡ (with_mine m.0 (side_got m.0.mine x), m.1) = done ∙ ap (λ (z : Seated). let s : Seated = (with_mine z.0 (side_got z.0.mine x), z.1) in s) far in
    let as_loaded : (f : Frag) → m0.0.mine.take.peeked ≡ Some f → loaded_frag m.0.mine.take x ≡ f =
    subst (λ (z : Seated). (f : Frag) → z.0.mine.take.peeked ≡ Some f → loaded_frag z.0.mine.take x ≡ f) far again in (
      (λ f is. ap (λ (ws : List ℕ). frag_from ws c) (sym whole) ∙ as_loaded f is),
      ap (λ (z : Seated). side_at t' z) last
          ∙ (λ i. let s : TheSide = record {
            ring = same i;
            holder = m0.0.holder;
            size = m0.0.size;
            sent = m0.0.mine.put.sent;
            known = known i;
            loads = m0.0.mine.put.loads + 1;
            got = m0.0.mine.take.got ++ frag_from (whole i) c ∷ [];
            peeked = None;
            misses = missed i;
            told = m0.0.mine.take.told;
          } in s),
      knows t' m3 (with_mine m.0 (side_got m.0.mine x), m.1) last (subst (λ (z : Seated). z.0.mine.put.known ≤ length m0.0.mine.put.sent) e sent),
    )

-- the parts of the seat that callers don't see
pub record Keeps (m0 m3 : Seated) : Type 0 where
  pub part : m3.0.mine.put.part ≡ m0.0.mine.put.part
  pub held : m3.1 ≡ m0.1

pub keeps_peeked : (c x : ℕ) (m0 m1 m2 m3 : Seated) (words : List ℕ) → m1 ≡ controlled m0 c → m2 ≡ loaded m1 (take 6 words) → m3 ≡ (with_mine m2.0 (side_peeked m2.0.mine x), m2.1) → Keeps m0 m3
keeps_peeked c x m0 m1 m2 m3 words e d done =
    let far = so_far m0 m1 m2 c words e d in
    record {
      part = ap (λ (z : Seated). z.0.mine.put.part) done ∙ ap (λ (z : Seated). z.0.mine.put.part) far;
      held = ap (λ (z : Seated). z.1) done ∙ ap (λ (z : Seated). z.1) far;
    }

pub keeps_got : (c x : ℕ) (m0 m1 m2 m3 : Seated) (words : List ℕ) → m1 ≡ controlled m0 c → m2 ≡ loaded m1 (take 6 words) → m3 ≡ (with_mine m2.0 (side_got m2.0.mine x), m2.1) → Keeps m0 m3
keeps_got c x m0 m1 m2 m3 words e d done =
    let far = so_far m0 m1 m2 c words e d in
    record {
      part = ap (λ (z : Seated). z.0.mine.put.part) done ∙ ap (λ (z : Seated). z.0.mine.put.part) far;
      held = ap (λ (z : Seated). z.1) done ∙ ap (λ (z : Seated). z.1) far;
    }

-- fewer were got than ever will be
pub duo_got_few : (c : ℕ) (m0 m1 m2 : Seated) (words : List ℕ) → m1 ≡ controlled m0 c → m2 ≡ loaded m1 (take 6 words) → length m2.0.mine.take.got < 2 ^ 62 → length m0.0.mine.take.got < 2 ^ 62
duo_got_few c m0 m1 m2 words e d few = subst (λ (m : Seated). length m.0.mine.take.got < 2 ^ 62) (so_far m0 m1 m2 c words e d) few
