-- The steps of a ring of two directions over shared words: what the rule allows each side.
use Rattle.std.proofs.Common.{ℕ, ◌≡◌, ◌<◌, ◌+◌, ◌*◌, ◌%◌, ◌^◌, inl, inr, List, length, get_or, set, ap, subst, ◌∙◌, sym, refl, arith}
use mathlib.Core.Option.{none}
use Rattle.atomic_table.specs.Table.{Me, step, Allows}
use Rattle.fl_base.specs.Control.{epoch_of, told_of}
use Rattle.fl_link.specs.Cursor.{epoch_at}
use Rattle.fl_ring.specs.declared.shared.duo_board.SideView.{SideView}
use Rattle.fl_ring.specs.declared.shared.duo_board.SeatHolder.{SeatHolder}
use Rattle.fl_ring.specs.declared.shared.duo_board.SeatHolder.TheVariants.{One, Two, Both}
use Rattle.fl_ring.specs.declared.shared.duo_board.DuoView.{DuoView}
use Rattle.fl_ring.specs.Way.{slot}
use Rattle.fl_ring.specs.SharedWay.{IsDue}
use Rattle.fl_ring.specs.SharedDuo.{Pairing, DuoFits, DuoHolds, BothRun, ways, CountsNear, IsOneSide, base_of, other_of, with_mine, side_found, side_stored}
use Rattle.fl_ring.specs.SharedDuo.{side_put, side_control, side_loaded, side_peeked, side_got, IsNextWord, IsPayloadWord, duo_finds_word, duo_stores_word}
use Rattle.fl_ring.specs.SharedDuo.{duo_stores_control, duo_loads_control, duo_loads_word, duo_loads_peeked, duo_loads_taken, duo_compares}
use Rattle.fl_ring.proofs.Places.{slot_within}
use Rattle.fl_ring.proofs.SharedTables.{Moves, allows_by, allows_load}
use Rattle.fl_ring.proofs.SharedDuos.{turned, both_found, both_stored, both_put, both_control, both_peeked_there, known_sent, both_loaded, both_peeked, both_got, both_again, both_few, both_near}

abbrev Seated : Type 0
Seated = Me (Unit {0}) DuoView

abbrev Held : ℕ → ℕ → List ℕ → Pairing → Type 0
Held n start ws p = BothRun (ways 0 (8 * n) n start) ws p.one p.two

one_not_two : (h : SeatHolder) → h ≡ One → h ≡ Two → ⊥
one_not_two h e d = cc

one_not_both : (h : SeatHolder) → h ≡ One → h ≡ Both → ⊥
one_not_both h e d = cc

two_not_both : (h : SeatHolder) → h ≡ Two → h ≡ Both → ⊥
two_not_both h e d = cc

-- a word of a slot is a word of the table
pub duo_word_in : (h : SeatHolder) (n i k words : ℕ) → IsOneSide h → 0 < n → k < 8 → words ≡ 16 * n → slot (base_of h n) n i + k < words
duo_word_in h n i k words (inl e) some small wide = let b : base_of h n ≡ 0 = ap (λ (x : SeatHolder). base_of x n) e in omega (arith, slot_within (base_of h n) n i some)
duo_word_in h n i k words (inr e) some small wide = let b : base_of h n ≡ 8 * n = ap (λ (x : SeatHolder). base_of x n) e in omega (arith, slot_within (base_of h n) n i some)

pub duo_other_in : (h : SeatHolder) (n i k words : ℕ) → IsOneSide h → 0 < n → k < 8 → words ≡ 16 * n → slot (other_of h n) n i + k < words
duo_other_in h n i k words (inl e) some small wide = let b : other_of h n ≡ 8 * n = ap (λ (x : SeatHolder). other_of x n) e in omega (arith, slot_within (other_of h n) n i some)
duo_other_in h n i k words (inr e) some small wide = let b : other_of h n ≡ 0 = ap (λ (x : SeatHolder). other_of x n) e in omega (arith, slot_within (other_of h n) n i some)

-- ---- who moves

-- what a side's step has to show: what the side knows after it, both ways, and what it tells
pub record Goes (b c n start : ℕ) (words : List ℕ) (v : DuoView) (y : SideView) (Then : DuoView → Type 0) : Type 0 where
  pub side : SideView
  pub both : BothRun (ways b c n start) words side y
  pub tells : Then (with_mine v side)

abbrev Handler : ℕ → DuoView → List ℕ → List ℕ → (DuoView → Type 0) → Type 0
Handler start v ws ws' Then =
    let b : ℕ = base_of v.holder v.size in let c : ℕ = other_of v.holder v.size in
    (y : SideView) → BothRun (ways b c v.size start) ws v.mine y → Goes b c v.size start ws' v y Then

one_moves : (start id : ℕ) (ws ws' : List ℕ) (p : Pairing) (v : DuoView) (Then : DuoView → Type 0) → v.holder ≡ One → DuoFits v.size p id v → Held v.size start ws p → Handler start v ws ws' Then
    → Moves (DuoFits v.size) (Held v.size start) p id ws' Then
one_moves start id ws ws' p v Then e fits held go =
    let n : ℕ = v.size in
    let b : base_of v.holder n ≡ 0 = ap (λ (h : SeatHolder). base_of h n) e in
    let c : other_of v.holder n ≡ 8 * n = ap (λ (h : SeatHolder). other_of h n) e in
    let mine : (id ≡ p.first) × (v.mine ≡ p.one) × (v.size ≡ n) = fits.0 e in
    let before : BothRun (ways (base_of v.holder n) (other_of v.holder n) n start) ws v.mine p.two =
    subst (λ (s : SideView). BothRun (ways (base_of v.holder n) (other_of v.holder n) n start) ws s p.two) (sym mine.1)
    (subst (λ (x : ℕ). BothRun (ways x (other_of v.holder n) n start) ws p.one p.two) (sym b) (subst (λ (x : ℕ). BothRun (ways 0 x n start) ws p.one p.two) (sym c) held)) in
    let g = go p.two before in
    record {
      account = record { first = p.first; second = p.second; one = g.side; two = p.two };
      view = with_mine v g.side;
      mine = ((λ _. (mine.0, refl, refl)), (λ d. absurd (one_not_two v.holder e d)), (λ d. absurd (one_not_both v.holder e d)));
      others = λ j u ne f. ((λ d. absurd (ne ((f.0 d).0 ∙ sym mine.0))), (λ d. f.1 d), (λ d. absurd (ne ((f.2 d).0 ∙ sym mine.0))));
      holds = subst (λ (x : ℕ). BothRun (ways 0 x n start) ws' g.side p.two) c (subst (λ (x : ℕ). BothRun (ways x (other_of v.holder n) n start) ws' g.side p.two) b g.both);
      tells = g.tells;
    }

two_moves : (start id : ℕ) (ws ws' : List ℕ) (p : Pairing) (v : DuoView) (Then : DuoView → Type 0) → v.holder ≡ Two → DuoFits v.size p id v → Held v.size start ws p → Handler start v ws ws' Then
    → Moves (DuoFits v.size) (Held v.size start) p id ws' Then
two_moves start id ws ws' p v Then e fits held go =
    let n : ℕ = v.size in
    let b : base_of v.holder n ≡ 8 * n = ap (λ (h : SeatHolder). base_of h n) e in
    let c : other_of v.holder n ≡ 0 = ap (λ (h : SeatHolder). other_of h n) e in
    let mine : (id ≡ p.second) × (v.mine ≡ p.two) × (v.size ≡ n) = fits.1 e in
    let across : BothRun (ways (8 * n) 0 n start) ws p.two p.one = turned 0 (8 * n) n start ws p.one p.two held in
    let before : BothRun (ways (base_of v.holder n) (other_of v.holder n) n start) ws v.mine p.one =
    subst (λ (s : SideView). BothRun (ways (base_of v.holder n) (other_of v.holder n) n start) ws s p.one) (sym mine.1)
    (subst (λ (x : ℕ). BothRun (ways x (other_of v.holder n) n start) ws p.two p.one) (sym b) (subst (λ (x : ℕ). BothRun (ways (8 * n) x n start) ws p.two p.one) (sym c) across)) in
    let g = go p.one before in
    let after : BothRun (ways (8 * n) 0 n start) ws' g.side p.one =
    subst (λ (x : ℕ). BothRun (ways (8 * n) x n start) ws' g.side p.one) c (subst (λ (x : ℕ). BothRun (ways x (other_of v.holder n) n start) ws' g.side p.one) b g.both) in
    record {
      account = record { first = p.first; second = p.second; one = p.one; two = g.side };
      view = with_mine v g.side;
      mine = ((λ d. absurd (one_not_two v.holder d e)), (λ _. (mine.0, refl, refl)), (λ d. absurd (two_not_both v.holder e d)));
      others = λ j u ne f. ((λ d. f.0 d), (λ d. absurd (ne ((f.1 d).0 ∙ sym mine.0))), (λ d. absurd (ne ((f.2 d).1 ∙ sym mine.0))));
      holds = turned (8 * n) 0 n start ws' g.side p.one after;
      tells = g.tells;
    }

side_moves : (start id : ℕ) (ws ws' : List ℕ) (p : Pairing) (v : DuoView) (Then : DuoView → Type 0) → IsOneSide v.holder → DuoFits v.size p id v → Held v.size start ws p → Handler start v ws ws' Then
    → Moves (DuoFits v.size) (Held v.size start) p id ws' Then
side_moves start id ws ws' p v Then (inl e) fits held go = one_moves start id ws ws' p v Then e fits held go
side_moves start id ws ws' p v Then (inr e) fits held go = two_moves start id ws ws' p v Then e fits held go

side_stores : (n start slots id i x : ℕ) (me : Seated) (then : ℕ → Seated → Type 0) → n ≡ me.0.size → IsOneSide me.0.holder
    → ((ws : List ℕ) → Handler start me.0 ws (set ws i x) (λ v. then (get_or ws i 0) (v, me.1))) → Allows (DuoHolds n start) slots id me i (λ _. x) then
side_stores n start slots id i x me then key side go =
    subst (λ (k : ℕ). Allows (DuoHolds k start) slots id me i (λ _. x) then) (sym key)
    (allows_by (DuoFits me.0.size) (Held me.0.size start) slots id i me (λ _. x) then (λ ws p fits held. side_moves start id ws (set ws i x) p me.0 (λ v. then (get_or ws i 0) (v, me.1)) side fits held (go ws)))

side_loads : (n start slots id i : ℕ) (me : Seated) (then : ℕ → Seated → Type 0) → n ≡ me.0.size → IsOneSide me.0.holder
    → ((ws : List ℕ) → Handler start me.0 ws ws (λ v. then (get_or ws i 0) (v, me.1))) → Allows (DuoHolds n start) slots id me i (λ x. x) then
side_loads n start slots id i me then key side go =
    subst (λ (k : ℕ). Allows (DuoHolds k start) slots id me i (λ x. x) then) (sym key)
    (allows_load (DuoFits me.0.size) (Held me.0.size start) slots id i me then (λ ws p fits held. side_moves start id ws ws p me.0 (λ v. then (get_or ws i 0) (v, me.1)) side fits held (go ws)))

-- ---- what the rule allows

pub duo_allows_found : (n start slots id i : ℕ) (me : Seated) → n ≡ me.0.size → IsOneSide me.0.holder → IsNextWord i me.0
    → Allows (DuoHolds n start) slots id me i (λ x. x) (duo_finds_word (step slots i 0 0 none) me)
duo_allows_found n start slots id i me key side (at, small, room) =
    let m : ℕ = me.0.size in let b : ℕ = base_of me.0.holder m in let c : ℕ = other_of me.0.holder m in
    side_loads n start slots id i me (duo_finds_word (step slots i 0 0 none) me) key side
    (λ ws y h.
    let x : ℕ = get_or ws i 0 in
    let is : x ≡ get_or ws (slot b m (length me.0.mine.put.sent) + length me.0.mine.put.part) 0 = ap (λ (k : ℕ). get_or ws k 0) at in
    record { side = side_found me.0.mine x; both = both_found b c m start ws me.0.mine y x h small is; tells = (refl, (at, small, room)) })

pub duo_allows_stored : (n start slots id i k x : ℕ) (me : Seated) → n ≡ me.0.size → IsOneSide me.0.holder → IsPayloadWord i k me.0
    → Allows (DuoHolds n start) slots id me i (λ _. x) (λ _. duo_stores_word (step slots i x 0 none) me x)
duo_allows_stored n start slots id i k x me key side (at, few, small, room) =
    let m : ℕ = me.0.size in let b : ℕ = base_of me.0.holder m in let c : ℕ = other_of me.0.holder m in
    side_stores n start slots id i x me (λ _. duo_stores_word (step slots i x 0 none) me x) key side
    (λ ws y h. record {
      side = side_stored me.0.mine k x;
      both =
          let stored = both_stored b c m start ws me.0.mine y k x h room few small in
          subst (λ (j : ℕ). BothRun (ways b c m start) (set ws j x) (side_stored me.0.mine k x) y) (sym at) stored;
      tells = (k, refl, (at, few, small, room));
    })

pub duo_allows_put : (n start slots id i w : ℕ) (me : Seated) → n ≡ me.0.size → IsOneSide me.0.holder → i ≡ slot (base_of me.0.holder me.0.size) me.0.size (length me.0.mine.put.sent) + 7
    → length me.0.mine.put.part ≡ 7 → length me.0.mine.put.sent < me.0.mine.put.known + me.0.size → length me.0.mine.put.sent < 2 ^ 62
    → epoch_of w ≡ epoch_at me.0.size (length me.0.mine.put.sent) → told_of w ≡ length me.0.mine.take.got % 65536
    → Allows (DuoHolds n start) slots id me i (λ _. w) (λ _. duo_stores_control (step slots i w 0 none) me w)
duo_allows_put n start slots id i w me key side at seven room unspent turn number =
    let m : ℕ = me.0.size in let b : ℕ = base_of me.0.holder m in let c : ℕ = other_of me.0.holder m in
    side_stores n start slots id i w me (λ _. duo_stores_control (step slots i w 0 none) me w) key side
    (λ ws y h. record {
      side = side_put me.0.mine w;
      both = subst (λ (k : ℕ). BothRun (ways b c m start) (set ws k w) (side_put me.0.mine w) y) (sym at) (both_put b c m start ws me.0.mine y w h room seven unspent turn number);
      tells = (refl, at, seven, room, unspent, turn, number);
    })

pub duo_allows_control : (n start slots id i : ℕ) (me : Seated) → n ≡ me.0.size → IsOneSide me.0.holder → i ≡ slot (other_of me.0.holder me.0.size) me.0.size (length me.0.mine.take.got) + 7
    → Allows (DuoHolds n start) slots id me i (λ x. x) (duo_loads_control (step slots i 0 0 none) me)
duo_allows_control n start slots id i me key side at =
    let m : ℕ = me.0.size in let b : ℕ = base_of me.0.holder m in let c : ℕ = other_of me.0.holder m in
    side_loads n start slots id i me (duo_loads_control (step slots i 0 0 none) me) key side
    (λ ws y h.
    let x : ℕ = get_or ws i 0 in
    let is : x ≡ get_or ws (slot c m (length me.0.mine.take.got) + 7) 0 = ap (λ (k : ℕ). get_or ws k 0) at in
    record {
      side = side_control m me.0.mine x;
      both = both_control b c m start ws me.0.mine y x h is;
      tells = (refl, (λ f e. (both_peeked_there b c m start ws me.0.mine y x h is f e).0), (λ f e. (both_peeked_there b c m start ws me.0.mine y x h is f e).1), known_sent b c m start ws me.0.mine y x h is, at);
    })

pub duo_allows_loaded : (n start slots id i : ℕ) (me : Seated) → n ≡ me.0.size → IsOneSide me.0.holder → i ≡ slot (other_of me.0.holder me.0.size) me.0.size (length me.0.mine.take.got) + length me.0.mine.take.part
    → IsDue me.0.size me.0.mine.take → length me.0.mine.take.part < 6
    → Allows (DuoHolds n start) slots id me i (λ x. x) (duo_loads_word (step slots i 0 0 none) me)
duo_allows_loaded n start slots id i me key side at due small =
    let m : ℕ = me.0.size in let b : ℕ = base_of me.0.holder m in let c : ℕ = other_of me.0.holder m in
    side_loads n start slots id i me (duo_loads_word (step slots i 0 0 none) me) key side
    (λ ws y h.
    let x : ℕ = get_or ws i 0 in
    let is : x ≡ get_or ws (slot c m (length me.0.mine.take.got) + length me.0.mine.take.part) 0 = ap (λ (k : ℕ). get_or ws k 0) at in
    record { side = side_loaded me.0.mine x; both = both_loaded b c m start ws me.0.mine y x h due small is; tells = (refl, at, small, due) })

pub duo_allows_peeked : (n start slots id i : ℕ) (me : Seated) → n ≡ me.0.size → IsOneSide me.0.holder → i ≡ slot (other_of me.0.holder me.0.size) me.0.size (length me.0.mine.take.got) + 6
    → IsDue me.0.size me.0.mine.take → length me.0.mine.take.part ≡ 6
    → Allows (DuoHolds n start) slots id me i (λ x. x) (duo_loads_peeked (step slots i 0 0 none) me)
duo_allows_peeked n start slots id i me key side at due six =
    let m : ℕ = me.0.size in let b : ℕ = base_of me.0.holder m in let c : ℕ = other_of me.0.holder m in
    side_loads n start slots id i me (duo_loads_peeked (step slots i 0 0 none) me) key side
    (λ ws y h.
    let x : ℕ = get_or ws i 0 in
    let is : x ≡ get_or ws (slot c m (length me.0.mine.take.got) + 6) 0 = ap (λ (k : ℕ). get_or ws k 0) at in
    record { side = side_peeked me.0.mine x; both = both_peeked b c m start ws me.0.mine y x h due six is; tells = (refl, (λ f e. both_again b c m start ws me.0.mine y x h due six is f e), (at, six, due)) })

pub duo_allows_taken : (n start slots id i : ℕ) (me : Seated) → n ≡ me.0.size → IsOneSide me.0.holder → i ≡ slot (other_of me.0.holder me.0.size) me.0.size (length me.0.mine.take.got) + 6
    → IsDue me.0.size me.0.mine.take → length me.0.mine.take.part ≡ 6
    → Allows (DuoHolds n start) slots id me i (λ x. x) (duo_loads_taken (step slots i 0 0 none) me)
duo_allows_taken n start slots id i me key side at due six =
    let m : ℕ = me.0.size in let b : ℕ = base_of me.0.holder m in let c : ℕ = other_of me.0.holder m in
    side_loads n start slots id i me (duo_loads_taken (step slots i 0 0 none) me) key side
    (λ ws y h.
    let x : ℕ = get_or ws i 0 in
    let is : x ≡ get_or ws (slot c m (length me.0.mine.take.got) + 6) 0 = ap (λ (k : ℕ). get_or ws k 0) at in
    record {
      side = side_got me.0.mine x;
      both = both_got b c m start ws me.0.mine y x h due six is;
      tells = (refl, (λ f e. both_again b c m start ws me.0.mine y x h due six is f e), both_few b c m start ws me.0.mine y x h due six is, (at, six, due));
    })

-- a seat of both sides compares
pub duo_allows_compare : (n start slots id i : ℕ) (me : Seated) → n ≡ me.0.size → me.0.holder ≡ Both → Allows (DuoHolds n start) slots id me i (λ x. x) (duo_compares (step slots i 0 0 none) me)
duo_allows_compare n start slots id i me key both =
    subst (λ (k : ℕ). Allows (DuoHolds k start) slots id me i (λ x. x) (duo_compares (step slots i 0 0 none) me)) (sym key)
    (let m : ℕ = me.0.size in
    allows_load (DuoFits m) (Held m start) slots id i me (duo_compares (step slots i 0 0 none) me)
    (λ ws p fits held.
    let f = fits.2 both in
    let one : me.0.mine ≡ p.one = f.2 in
    let two : me.0.theirs ≡ p.two = f.3 in
    let there : CountsNear m me.0.mine me.0.theirs =
    subst (λ (s : SideView). CountsNear m s me.0.theirs) (sym one) (subst (λ (s : SideView). CountsNear m p.one s) (sym two) (both_near 0 (8 * m) m start ws p.one p.two held)) in
    let back : CountsNear m me.0.theirs me.0.mine =
    subst (λ (s : SideView). CountsNear m s me.0.mine) (sym two) (subst (λ (s : SideView). CountsNear m p.two s) (sym one) (both_near (8 * m) 0 m start ws p.two p.one (turned 0 (8 * m) m start ws p.one p.two held))) in
    record { account = p; view = me.0; mine = fits; others = λ j u ne g. g; holds = held; tells = (refl, there, back) }))
