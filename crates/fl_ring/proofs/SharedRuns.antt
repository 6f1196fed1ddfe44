-- Steps in a row at a seat of a ring over shared words.
use Rattle.std.proofs.Common.{ℕ, ◌≡◌, ◌<◌, ◌≤◌, ◌+◌, ◌*◌, ◌^◌, true, List, [], ◌∷◌, ◌++◌, length, take, ap, subst, ◌∙◌, sym, arith}
use Rattle.std.proofs.lemmas.List.{length-take-le, length_push, take_all, take-append-le}
use mathlib.Core.Option.{none}
use Rattle.atomic_table.specs.Table.{Me, step, Allows}
use Rattle.atomic_table.specs.Seated.{TableId}
use Rattle.fl_base.specs.declared.fragment.Frag.{Frag}
use Rattle.fl_base.specs.Control.{epoch_of}
use Rattle.fl_link.specs.Cursor.{epoch_at}
use Rattle.fl_ring.specs.declared.shared.board.RingView.{RingView}
use Rattle.fl_ring.specs.Way.{slot}
use Rattle.fl_ring.specs.SharedWay.{IsDue, with_found, with_stored, with_put, with_loaded}
use Rattle.fl_ring.specs.SharedRing.{RingRule, with_writing, with_reading, HasSlot, IsNextWord, IsPayloadWord, stores_word, stores_control, loads_word}
use Rattle.fl_ring.specs.SharedSeats.{RingSeat, IsSeated, with_part, with_frag, with_words}
use Rattle.fl_ring.proofs.SharedSteps.{allows_stored, allows_put, allows_loaded}

abbrev Seated : Type 0
Seated = Me (Unit {0}) RingView

pub taken_length : (k : ℕ) (xs : List ℕ) → length xs ≡ 7 → k < 7 → length (take k xs) ≡ k
taken_length k xs seven lt = length-take-le k xs (omega arith)

-- ---- a payload word found, and another number stored there

-- those before the last item stay, and another is the last
pub last_stored : (xs : List ℕ) (k x y : ℕ) → k ≡ length xs → take k (xs ++ x ∷ []) ++ y ∷ [] ≡ xs ++ y ∷ []
last_stored xs k x y e = ap (λ (zs : List ℕ). zs ++ y ∷ []) (take-append-le k xs (x ∷ []) (omega arith) ∙ take_all k xs (omega arith))

-- the seat that knows one payload word more of the next slot
abbrev found : Seated → ℕ → Seated
found m x = (with_writing m.0 (with_found m.0.put x), m.1)

pub allows_stored_after : (n slots id i x old : ℕ) (m0 m : Seated) → m ≡ found m0 old → n ≡ m0.0.size → m0.0.writes ≡ true → IsNextWord i m0.0
    → Allows (RingRule n) slots id m i (λ _. x) (λ _. stores_word (step slots i x 0 none) m x)
allows_stored_after n slots id i x old m0 m e key writes (at, small, room) =
    let few : length m0.0.put.part ≤ length (m0.0.put.part ++ old ∷ []) = omega (arith, length_push m0.0.put.part old) in
    subst (λ (z : Seated). Allows (RingRule n) slots id z i (λ _. x) (λ _. stores_word (step slots i x 0 none) z x)) (sym e)
    (allows_stored n slots id i (length m0.0.put.part) x (found m0 old) key writes (at, few, small, room))

-- the number that was found is the one that was wanted
pub found_same : (m0 m : Seated) (old x : ℕ) → m ≡ found m0 old → old ≡ x → m ≡ found m0 x
found_same m0 m old x e same = e ∙ ap (λ (k : ℕ). found m0 k) same

-- or that one is stored, at the same word
pub found_stored : (m0 m m' : Seated) (i old k x : ℕ) → IsNextWord i m0.0 → m ≡ found m0 old → IsPayloadWord i k m.0
    → m' ≡ (with_writing m.0 (with_stored m.0.put k x), m.1) → m' ≡ found m0 x
found_stored m0 m m' i old k x next e word d =
    let here : i ≡ slot 0 m0.0.size (length m0.0.put.sent) + k = (subst (λ (z : Seated). IsPayloadWord i k z.0) e word).0 in
    let last : k ≡ length m0.0.put.part = omega (arith, here, next.0) in
    d ∙ ap (λ (z : Seated). let s : Seated = (with_writing z.0 (with_stored z.0.put k x), z.1) in s) e
    ∙ ap (λ (p : List ℕ). let s : Seated = (with_writing m0.0 (with_part m0.0.put p), m0.1) in s) (last_stored m0.0.put.part k old x last)

-- ---- a fragment put

-- the seat that knows these payload words of the next slot
abbrev stored : Seated → List ℕ → Seated
stored m words = (with_writing m.0 (with_part m.0.put words), m.1)

pub none_stored : (m : Seated) → m.0.put.part ≡ [] → m ≡ stored m []
none_stored m e = ap (λ (p : List ℕ). stored m p) e

pub one_stored : (m0 m m' : Seated) (p q : List ℕ) (x : ℕ) → m ≡ stored m0 p → m' ≡ (with_writing m.0 (with_found m.0.put x), m.1) → p ++ x ∷ [] ≡ q → m' ≡ stored m0 q
one_stored m0 m m' p q x e d more = d ∙ ap (λ (z : Seated). found z x) e ∙ ap (λ (r : List ℕ). stored m0 r) more

-- the seat is the same one, and word k comes next
pub seated_stored : (table : TableId) (key : ℕ) (old new : RingSeat) (p : List ℕ) → IsSeated table key old → new.table_id ≡ old.table_id → new.me ≡ stored old.me p → IsSeated table key new
seated_stored table key old new p s same e =
    let size : new.me.0.size ≡ old.me.0.size = ap (λ (z : Seated). z.0.size) e in
    record {
      same = same ∙ s.same;
      key_is = s.key_is ∙ sym size;
      wide = s.wide ∙ ap (λ (n : ℕ). 8 * n + 8) (sym size);
      some = subst (λ (n : ℕ). 0 < n) (sym size) s.some;
      few = subst (λ (n : ℕ). n ≤ 1024) (sym size) s.few;
    }

pub writes_stored : (m0 m : Seated) (p : List ℕ) → m ≡ stored m0 p → m0.0.writes ≡ true → m.0.writes ≡ true
writes_stored m0 m p e writes = ap (λ (z : Seated). z.0.writes) e ∙ writes

pub next_stored : (i k : ℕ) (m0 m : Seated) (p : List ℕ) → m ≡ stored m0 p → i ≡ slot 0 m0.0.size (length m0.0.put.sent) + k → length p ≡ k → k < 7 → HasSlot m0.0 → IsNextWord i m.0
next_stored i k m0 m p e at len small room =
    subst (λ (z : Seated). IsNextWord i z.0) (sym e) (at ∙ ap (λ (j : ℕ). slot 0 m0.0.size (length m0.0.put.sent) + j) (sym len), omega arith, room)

pub allows_put_after : (n slots id i c : ℕ) (m0 m : Seated) (p : List ℕ) → m ≡ stored m0 p → n ≡ m0.0.size → m0.0.writes ≡ true → i ≡ slot 0 m0.0.size (length m0.0.put.sent) + 7 → length p ≡ 7
    → length m0.0.put.sent < m0.0.put.known + m0.0.size → length m0.0.put.sent < 2 ^ 62 → epoch_of c ≡ epoch_at m0.0.size (length m0.0.put.sent)
    → Allows (RingRule n) slots id m i (λ _. c) (λ _. stores_control (step slots i c 0 none) m c)
allows_put_after n slots id i c m0 m p e key writes at len room unspent turn =
    subst (λ (z : Seated). Allows (RingRule n) slots id z i (λ _. c) (λ _. stores_control (step slots i c 0 none) z c)) (sym e)
    (allows_put n slots id i c (stored m0 p) key writes at len room unspent turn)

pub all_put : (m0 m m' : Seated) (f : Frag) → m ≡ stored m0 f.words → m' ≡ (with_writing m.0 (with_put m.0.put f.control), m.1) → m' ≡ (with_writing m0.0 (with_frag m0.0.put f), m0.1)
all_put m0 m m' f e d = d ∙ ap (λ (z : Seated). let s : Seated = (with_writing z.0 (with_put z.0.put f.control), z.1) in s) e

-- ---- a fragment loaded

-- the seat that has loaded these payload words
abbrev loaded : Seated → List ℕ → Seated
loaded m words = (with_reading m.0 (with_words m.0.take words), m.1)

pub none_loaded : (m : Seated) → m.0.take.part ≡ [] → m ≡ loaded m []
none_loaded m e = ap (λ (p : List ℕ). loaded m p) e

pub one_loaded : (m0 m m' : Seated) (p q : List ℕ) (x : ℕ) → m ≡ loaded m0 p → m' ≡ (with_reading m.0 (with_loaded m.0.take x), m.1) → p ++ x ∷ [] ≡ q → m' ≡ loaded m0 q
one_loaded m0 m m' p q x e d more = d ∙ ap (λ (z : Seated). let s : Seated = (with_reading z.0 (with_loaded z.0.take x), z.1) in s) e ∙ ap (λ (r : List ℕ). loaded m0 r) more

pub allows_loaded_after : (n slots id i k : ℕ) (m0 m : Seated) (p : List ℕ) → m ≡ loaded m0 p → n ≡ m0.0.size → m0.0.reads ≡ true → i ≡ slot 0 m0.0.size (length m0.0.take.got) + k → length p ≡ k → k < 6
    → IsDue m0.0.size m0.0.take → Allows (RingRule n) slots id m i (λ x. x) (loads_word (step slots i 0 0 none) m)
allows_loaded_after n slots id i k m0 m p e key reads at len small due =
    subst (λ (z : Seated). Allows (RingRule n) slots id z i (λ x. x) (loads_word (step slots i 0 0 none) z)) (sym e)
    (allows_loaded n slots id i (loaded m0 p) key reads (at ∙ ap (λ (j : ℕ). slot 0 m0.0.size (length m0.0.take.got) + j) (sym len)) due (omega arith))
