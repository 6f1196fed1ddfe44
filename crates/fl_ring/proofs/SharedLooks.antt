-- A fragment loaded by a seat of a ring over shared words: its control word, six payload words, and
-- the seventh, which ends a peek or a take.
use Rattle.std.proofs.Common.{ℕ, ◌≡◌, ◌<◌, ◌+◌, ◌^◌, true, List, [], ◌∷◌, ◌++◌, length, take, set, ap, subst, ◌∙◌, sym, arith, Some, None, cond, Bool, length-set, eq-eqb}
use Rattle.std.proofs.lemmas.List.{take_more_set, take_all, length-take-le}
use mathlib.Core.Option.{none}
use Rattle.atomic_table.specs.Table.{Me, step, Allows}
use Rattle.atomic_table.specs.Seated.{TableId}
use Rattle.fl_base.specs.declared.fragment.Frag.{Frag}
use Rattle.fl_base.specs.Control.{epoch_of}
use Rattle.fl_link.specs.Cursor.{epoch_at}
use Rattle.fl_ring.specs.declared.shared.board.ReaderView.{ReaderView}
use Rattle.fl_ring.specs.declared.shared.board.RingView.{RingView}
use Rattle.fl_ring.specs.Way.{slot}
use Rattle.fl_ring.specs.SharedWay.{with_control, with_peeked, with_got, loaded_frag, frag_from, misses_after}
use Rattle.fl_ring.specs.SharedRing.{RingRule, with_reading, loads_peeked, loads_taken}
use Rattle.fl_ring.specs.SharedSeats.{Receiver, with_words, Sees, Gets}
use Rattle.fl_ring.proofs.SharedSteps.{allows_peeked, allows_taken}

abbrev Seated : Type 0
Seated = Me (Unit {0}) RingView

abbrev receiver_at : TableId → Seated → Receiver
receiver_at t m = record { ring = t; size = m.0.size; got = m.0.take.got; peeked = m.0.take.peeked; misses = m.0.take.misses; told = m.0.take.told }

-- the seat that has loaded this control word, and these payload words
abbrev controlled : Seated → ℕ → Seated
controlled m c = (with_reading m.0 (with_control m.0.size m.0.take c), m.1)

abbrev loaded : Seated → List ℕ → Seated
loaded m words = (with_reading m.0 (with_words m.0.take words), m.1)

abbrev all_but_one : Seated → ℕ → List ℕ → Seated
all_but_one m c words = loaded (controlled m c) (take 6 words)

so_far : (m0 m1 m2 : Seated) (c : ℕ) (words : List ℕ) → m1 ≡ controlled m0 c → m2 ≡ loaded m1 (take 6 words) → m2 ≡ all_but_one m0 c words
so_far m0 m1 m2 c words e d = d ∙ ap (λ (m : Seated). loaded m (take 6 words)) e

pub allows_peeked_last : (n slots id i c : ℕ) (m0 m1 m2 : Seated) (words : List ℕ) → m1 ≡ controlled m0 c → m2 ≡ loaded m1 (take 6 words) → length words ≡ 7
    → n ≡ m0.0.size → m0.0.reads ≡ true → i ≡ slot 0 m0.0.size (length m0.0.take.got) + 6 → epoch_of c ≡ epoch_at m0.0.size (length m0.0.take.got)
    → Allows (RingRule n) slots id m2 i (λ x. x) (loads_peeked (step slots i 0 0 none) m2)
allows_peeked_last n slots id i c m0 m1 m2 words e d seven key reads at due =
    subst (λ (m : Seated). Allows (RingRule n) slots id m i (λ x. x) (loads_peeked (step slots i 0 0 none) m)) (sym (so_far m0 m1 m2 c words e d))
    (allows_peeked n slots id i (all_but_one m0 c words) key reads at due (length-take-le 6 words (omega arith)))

pub allows_taken_last : (n slots id i c : ℕ) (m0 m1 m2 : Seated) (words : List ℕ) → m1 ≡ controlled m0 c → m2 ≡ loaded m1 (take 6 words) → length words ≡ 7
    → n ≡ m0.0.size → m0.0.reads ≡ true → i ≡ slot 0 m0.0.size (length m0.0.take.got) + 6 → epoch_of c ≡ epoch_at m0.0.size (length m0.0.take.got)
    → Allows (RingRule n) slots id m2 i (λ x. x) (loads_taken (step slots i 0 0 none) m2)
allows_taken_last n slots id i c m0 m1 m2 words e d seven key reads at due =
    subst (λ (m : Seated). Allows (RingRule n) slots id m i (λ x. x) (loads_taken (step slots i 0 0 none) m)) (sym (so_far m0 m1 m2 c words e d))
    (allows_taken n slots id i (all_but_one m0 c words) key reads at due (length-take-le 6 words (omega arith)))

-- the seven words
pub seven_words : (words : List ℕ) (x : ℕ) → length words ≡ 7 → take 6 words ++ x ∷ [] ≡ set words 6 x
seven_words words x seven =
    let more : take 7 (set words 6 x) ≡ take 6 words ++ x ∷ [] = take_more_set words 6 x (omega arith) in
    sym more ∙ take_all 7 (set words 6 x) (omega (arith, length-set words 6 x))

-- nothing was missed
pub none_missed : (n c : ℕ) (r : ReaderView) → epoch_of c ≡ epoch_at n (length r.got) → misses_after n r c ≡ r.misses
none_missed n c r due = ap (λ (b : Bool). cond b r.misses (r.misses + 1)) (eq-eqb (epoch_of c) (epoch_at n (length r.got)) due)

pub sees_last : (t t' : TableId) (c x : ℕ) (m0 m1 m2 m3 : Seated) (words : List ℕ) → m1 ≡ controlled m0 c → m2 ≡ loaded m1 (take 6 words) → length words ≡ 7
    → epoch_of c ≡ epoch_at m0.0.size (length m0.0.take.got) → m3 ≡ (with_reading m2.0 (with_peeked m2.0.take x), m2.1) → ((f : Frag) → m2.0.take.peeked ≡ Some f → loaded_frag m2.0.take x ≡ f) → t' ≡ t
    → Sees (receiver_at t m0) (frag_from (set words 6 x) c) (receiver_at t' m3)
sees_last t t' c x m0 m1 m2 m3 words e d seven due done again same =
    let m : Seated = all_but_one m0 c words in
    let far : m2 ≡ m = so_far m0 m1 m2 c words e d in
    let whole : take 6 words ++ x ∷ [] ≡ set words 6 x = seven_words words x seven in
    let missed = none_missed m0.0.size c m0.0.take due in
    let last : m3 ≡ (with_reading m.0 (with_peeked m.0.take x), m.1) = done ∙ ap (λ (z : Seated). let s : Seated = (with_reading z.0 (with_peeked z.0.take x), z.1) in s) far in
    let as_loaded : (f : Frag) → m0.0.take.peeked ≡ Some f → loaded_frag m.0.take x ≡ f =
    subst (λ (z : Seated). (f : Frag) → z.0.take.peeked ≡ Some f → loaded_frag z.0.take x ≡ f) far again in (
      (λ f is. ap (λ (ws : List ℕ). frag_from ws c) (sym whole) ∙ as_loaded f is),
      ap (λ (z : Seated). receiver_at t' z) last
          ∙ (λ i. let s : Receiver = record { ring = same i; size = m0.0.size; got = m0.0.take.got; peeked = Some (frag_from (whole i) c); misses = missed i; told = m0.0.take.told } in s),
    )

pub gets_last : (t t' : TableId) (c x : ℕ) (m0 m1 m2 m3 : Seated) (words : List ℕ) → m1 ≡ controlled m0 c → m2 ≡ loaded m1 (take 6 words) → length words ≡ 7
    → epoch_of c ≡ epoch_at m0.0.size (length m0.0.take.got) → m3 ≡ (with_reading m2.0 (with_got m2.0.take x), m2.1) → ((f : Frag) → m2.0.take.peeked ≡ Some f → loaded_frag m2.0.take x ≡ f) → t' ≡ t
    → Gets (receiver_at t m0) (frag_from (set words 6 x) c) (receiver_at t' m3)
gets_last t t' c x m0 m1 m2 m3 words e d seven due done again same =
    let m : Seated = all_but_one m0 c words in
    let far : m2 ≡ m = so_far m0 m1 m2 c words e d in
    let whole : take 6 words ++ x ∷ [] ≡ set words 6 x = seven_words words x seven in
    let missed = none_missed m0.0.size c m0.0.take due in
    let last : m3 ≡ (with_reading m.0 (with_got m.0.take x), m.1) = done ∙ ap (λ (z : Seated). let s : Seated = (with_reading z.0 (with_got z.0.take x), z.1) in s) far in
    let as_loaded : (f : Frag) → m0.0.take.peeked ≡ Some f → loaded_frag m.0.take x ≡ f =
    subst (λ (z : Seated). (f : Frag) → z.0.take.peeked ≡ Some f → loaded_frag z.0.take x ≡ f) far again in (
      (λ f is. ap (λ (ws : List ℕ). frag_from ws c) (sym whole) ∙ as_loaded f is),
      ap (λ (z : Seated). receiver_at t' z) last
          ∙ (λ i. let s : Receiver = record { ring = same i; size = m0.0.size; got = m0.0.take.got ++ frag_from (whole i) c ∷ []; peeked = None; misses = missed i; told = m0.0.take.told } in s),
    )

-- fewer were got than ever will be
pub got_few : (c : ℕ) (m0 m1 m2 : Seated) (words : List ℕ) → m1 ≡ controlled m0 c → m2 ≡ loaded m1 (take 6 words) → length m2.0.take.got < 2 ^ 62 → length m0.0.take.got < 2 ^ 62
got_few c m0 m1 m2 words e d few = subst (λ (m : Seated). length m.0.take.got < 2 ^ 62) (so_far m0 m1 m2 c words e d) few
