-- A core's sides made, and all of them shown.
use Rattle.std.proofs.Common.{ℕ, zero, suc, ◌≡◌, ◌<◌, ◌+◌, List, [], ◌∷◌, ◌++◌, length, map, take, get_or, Option, Some, ap, subst, ◌∙◌, sym, refl, arith}
use Rattle.std.proofs.lemmas.List.{map-append, length-map}
use Rattle.std.proofs.lemmas.Option.{slice_get-get_or}
use Rattle.std.proofs.Math.Seq.{take-suc}
use Rattle.std.specs.List.{AllByRecursion}
use Rattle.atomic_table.specs.Seated.{TableId}
use Rattle.fl_history_rings.specs.declared.board.Entry.{Entry}
use Rattle.fl_history_rings.specs.declared.place.RingSide.{RingSide}
use Rattle.fl_history_rings.specs.Cores.{TheCore, Owns}
use Rattle.fl_history_rings.specs.Sides.{SideFor, side_from}
use Rattle.fl_history_rings.proofs.Words.{slots_here}
use Rattle.fl_history_sides.specs.States.{TheHistorySide, shown_of, side_shown, first_shown, numbers_of}
use Rattle.fl_history_sides.specs.Core.{IsDistinct, IsStepBy, AreSidesOf, AreOfOneCore}
use Rattle.fl_history_sides.specs.Lent.{TheLent, IsLent, AreFirst, Lends, lending, numbers_in, states_of, states_in}
use Rattle.fl_history_sides.proofs.Lists.{all_push}

-- ---- one side more

first_as : (c : TheCore) (n : ℕ) (a : RingSide) → SideFor c a → a.put.side ≡ n → side_shown c a ≡ first_shown c n
first_as c n a at is =
    ap (λ (k : ℕ). shown_of c k a.put.side) (at.put.size_is ∙ sym (slots_here c.sides a.put.side at.put.end at.put.there)) ∙ ap (λ (k : ℕ). first_shown c k) is

pub first_more : (c : TheCore) (numbers : List ℕ) (n : ℕ) (sides : List RingSide) (a : RingSide) → AreFirst c numbers sides → SideFor c a → a.put.side ≡ n → AreFirst c (numbers ++ n ∷ []) (sides ++ a ∷ [])
first_more c numbers n sides a h at is = record {
  mine = all_push (SideFor c) sides a h.mine at;
  numbers_are = map-append (λ (x : RingSide). x.put.side) sides (a ∷ []) ∙ (ap (λ (l : List ℕ). l ++ a.put.side ∷ []) h.numbers_are ∙ ap (λ (k : ℕ). numbers ++ k ∷ []) is);
  shown = map-append (side_shown c) sides (a ∷ [])
      ∙ (ap (λ (l : List TheHistorySide). l ++ side_shown c a ∷ []) h.shown
      ∙ (ap (λ (x : TheHistorySide). map (first_shown c) numbers ++ x ∷ []) (first_as c n a at is) ∙ sym (map-append (first_shown c) numbers (n ∷ []))));
}

pub first_step : (c : TheCore) (numbers : List ℕ) (k : ℕ) (sides new : List RingSide) (a : RingSide) → k < length numbers → AreFirst c (take k numbers) sides → SideFor c a → a.put.side ≡ get_or numbers k 0 → new ≡ sides ++ a ∷ []
    → AreFirst c (take (k + 1) numbers) new
first_step c numbers k sides new a low h at is more =
    let next : suc k ≡ k + 1 = omega arith in
    subst (λ (m : ℕ). AreFirst c (take m numbers) new) next
    (subst (λ (l : List ℕ). AreFirst c l new) (sym (take-suc numbers k 0 low)) (subst (λ (l : List RingSide). AreFirst c (take k numbers ++ get_or numbers k 0 ∷ []) l) (sym more) (first_more c (take k numbers) (get_or numbers k 0) sides a h at is)))

pub first_none : (c : TheCore) → AreFirst c [] []
first_none c = record { mine = tt; numbers_are = refl; shown = refl }

-- whose the side is that comes next
pub owned : (c : TheCore) (numbers : List ℕ) (k : ℕ) → k < length numbers → AllByRecursion (λ n. Owns c.sides n c.number) numbers → Owns c.sides (get_or numbers k 0) c.number
owned c [] k low all = absurd (omega (arith, low))
owned c (n ∷ ns) zero low all = all.0
owned c (n ∷ ns) (suc k) low all = owned c ns k (omega (arith, low)) all.1

-- ---- the core with its sides

pub first_lent : (c : TheCore) (numbers : List ℕ) (sides : List RingSide) → AreFirst c numbers sides → c.steps ≡ [] → IsDistinct numbers → 0 < length sides → IsLent c sides 0
first_lent c numbers sides h new apart some = record {
  within = some;
  mine = h.mine;
  apart = subst (λ (l : List ℕ). IsDistinct l) (sym h.numbers_are) apart;
  did = subst (λ (l : List Entry). AllByRecursion (IsStepBy c.number (numbers_in sides)) l) (sym new) tt;
}

-- ---- all sides are shown

each_shown : (c : TheCore) (sides : List RingSide) → AllByRecursion (λ p. p ≡ shown_of c p.side.size p.number) (map (side_shown c) sides)
each_shown c [] = tt
each_shown c (a ∷ sides) = (refl, each_shown c sides)

same_numbers : (c : TheCore) (sides : List RingSide) → numbers_of (map (side_shown c) sides) ≡ numbers_in sides
same_numbers c [] = refl
same_numbers c (a ∷ sides) = ap (λ (l : List ℕ). a.put.side ∷ l) (same_numbers c sides)

pub sides_shown : (c : TheCore) (sides : List RingSide) (at : ℕ) → IsLent c sides at → AreSidesOf c (map (side_shown c) sides)
sides_shown c sides at lent =
    let same : numbers_in sides ≡ numbers_of (map (side_shown c) sides) = sym (same_numbers c sides) in
    record {
      each = each_shown c sides;
      apart = subst (λ (l : List ℕ). IsDistinct l) same lent.apart;
      did = subst (λ (l : List ℕ). AllByRecursion (IsStepBy c.number l) c.steps) same lent.did;
    }

pub some_states : (c : TheCore) (sides : List RingSide) (at : ℕ) → IsLent c sides at → 0 < length (map (side_shown c) sides)
some_states c sides at lent = let within = lent.within in let long : length (map (side_shown c) sides) ≡ length sides = length-map sides (side_shown c) in omega (arith, within, long)

-- a core that did nothing, and has no sides
abbrev some_table : TableId
some_table = record { words = 0; slots = 0; views_name = 0; atom = 0; block = 0; offset = 0; slot_names = [] }

pub none_shown : AreOfOneCore []
none_shown = (record { table = some_table; sides = []; number = 0; steps = [] }, record { each = tt; apart = λ i j k at there. absurd (cc); did = tt })

-- ---- one of them is lent

pub lends_so : (o : Option TheLent) (l : TheLent) (n : ℕ) (t : TheLent) → o ≡ Some l → n < length (states_in o) → t ≡ l → Lends o n (lending t n)
lends_so o l n t is low same =
    subst (λ (x : Option TheLent). n < length (states_in x) → Lends x n (lending t n)) (sym is)
    (λ within.
    let long : length (states_of l) ≡ length l.sides = length-map l.sides (side_shown l.core) in
    (get_or l.sides n (side_from [] 0 0), slice_get-get_or l.sides n (side_from [] 0 0) (omega (arith, within, long)), ap (λ (x : TheLent). lending x n) same))
    low
