-- A core with its sides, once it did something by the one that is lent.
use Rattle.std.proofs.Common.{ℕ, zero, suc, ◌≡◌, ◌≢◌, ◌<◌, ◌+◌, ◌-◌, ◌%◌, ◌^◌, ◌&&◌, nat_lt, nat_le, List, [], ◌∷◌, length, map, slice_get, set, get_or, Some, ap, subst, ◌∙◌, sym, refl, length-set}
use Rattle.std.proofs.lemmas.Option.{slice_get-get_or, get_or_from_slice_get}
use Rattle.std.specs.List.{AllByRecursion}
use Rattle.fl_link.specs.Cursor.{epoch_at}
use Rattle.fl_link.specs.Looks.{Look}
use Rattle.fl_ring.specs.SharedSides.{TheSide, side_has_room}
use Rattle.fl_history_rings.specs.declared.board.Action.{Action}
use Rattle.fl_history_rings.specs.declared.place.RingSide.{RingSide}
use Rattle.fl_history_rings.specs.Rings.{entry}
use Rattle.fl_history_rings.specs.Rule.{puts_at}
use Rattle.fl_history_rings.specs.Cores.{TheCore, noting}
use Rattle.fl_history_rings.specs.Sides.{SideFor, LeavesOthers, IsNear, has_room, side_from}
use Rattle.fl_history_sides.specs.States.{TheHistorySide, side_shown}
use Rattle.fl_history_sides.specs.Noted.{IsNoted, noting_all}
use Rattle.fl_history_sides.specs.Core.{IsDistinct, IsStepBy}
use Rattle.fl_history_sides.specs.Lent.{TheLent, TheRest, IsLent, numbers_in, state_of, rest_of, without, lent_has_room, lent_epoch, lent_told, lent_known}
use Rattle.fl_history_sides.proofs.Lists.{all_push, all_there, all_set, map_set, others_alike}
use Rattle.fl_history_sides.proofs.Steps.{shown_still}
use Rattle.fl_history_sides.proofs.Calls.{shared_of, Counts, counts_of, Does, noted}

-- what a core does by one of its sides is done by its sides
steps_by : (c : TheCore) (numbers : List ℕ) (s : ℕ) (did : List Action) → ((i : ℕ) × (slice_get numbers i ≡ Some s)) → AllByRecursion (IsStepBy c.number numbers) c.steps
    → AllByRecursion (IsStepBy c.number numbers) (noting_all c s did).steps
steps_by c numbers s [] here all = all
steps_by c numbers s (d ∷ did) here all = steps_by (noting c s d) numbers s did here (all_push (IsStepBy c.number numbers) c.steps (entry c.number s d) all (refl, here))

same_number : (c : TheCore) (s : ℕ) (did : List Action) → (noting_all c s did).number ≡ c.number
same_number c s [] = refl
same_number c s (d ∷ did) = same_number (noting c s d) s did

-- the number of a side, among all
number_at : (sides : List RingSide) (i : ℕ) (a : RingSide) → slice_get sides i ≡ Some a → slice_get (numbers_in sides) i ≡ Some a.put.side
number_at [] i a at = absurd (cc)
number_at (x ∷ xs) zero a at = let same : x ≡ a = cc in ap (λ (y : RingSide). Some y.put.side) same
number_at (x ∷ xs) (suc i) a at = number_at xs i a at

set_here : {A : Type 0} (xs : List A) (n : ℕ) (x y : A) → slice_get xs n ≡ Some x → slice_get (set xs n y) n ≡ Some y
set_here [] n x y at = absurd (cc)
set_here (z ∷ zs) zero x y at = refl
set_here (z ∷ zs) (suc n) x y at = set_here zs n x y at

abbrev pub lent_as : TheCore → List RingSide → ℕ → TheLent
lent_as c sides at = record { core = c; sides = sides; at = at }

module _ (c : TheCore) (sides : List RingSide) (at : ℕ) (a : RingSide) (read : a ≡ get_or sides at a) (lent : IsLent c sides at) where
  here : slice_get sides at ≡ Some a
  here = slice_get-get_or sides at a lent.within ∙ ap (λ (x : RingSide). Some x) (sym read)

  pub mine : SideFor c a
  mine = all_there (SideFor c) sides at a lent.mine here

  -- the sides in other places have other numbers
  apart : (i : ℕ) (x : RingSide) → i ≢ at → slice_get sides i ≡ Some x → x.put.side ≢ a.put.side
  apart i x ne there same =
      ne (lent.apart i at a.put.side (number_at sides i x there ∙ ap (λ (k : ℕ). Some k) same) (number_at sides at a here))

  module _ (look : Look) (t : TheCore) (b : RingSide) (does : Does c a look t b) where
    abbrev after : List RingSide
    after = set sides at b

    same_numbers : numbers_in (set sides at b) ≡ numbers_in sides
    same_numbers = map_set (λ (x : RingSide). x.put.side) sides at a b here does.number

    still : (i : ℕ) (x : RingSide) → i ≢ at → slice_get sides i ≡ Some x → side_shown t x ≡ side_shown c x
    still i x ne there =
        ap (λ (y : TheCore). side_shown y x) does.then_is ∙ shown_still c x.put.cursor.size x.put.side a.put.side does.did (λ e. apart i x ne there (sym e))

    pub rest_so : rest_of (record { core = c; sides = sides; at = at }) ≡ rest_of (record { core = t; sides = set sides at b; at = at })
    rest_so =
        ap (λ (n : ℕ). let r : TheRest = record { count = n; at = at; others = without at (map (side_shown c) sides) } in r) (sym (length-set sides at b))
        ∙ ap (λ (l : List TheHistorySide). let r : TheRest = record { count = length (set sides at b); at = at; others = l } in r) (sym (others_alike (side_shown c) (side_shown t) sides at b still))

    pub lent_so : SideFor t b → LeavesOthers a b c t → IsLent t (set sides at b) at
    lent_so mine others = record {
      within = subst (λ (n : ℕ). at < n) (sym (length-set sides at b)) lent.within;
      mine = all_set (SideFor c) (SideFor t) sides at b lent.mine (λ i x ne there was. others.others x (apart i x ne there) was) mine;
      apart = subst (λ (l : List ℕ). IsDistinct l) (sym same_numbers) lent.apart;
      did = subst (λ (l : List ℕ). AllByRecursion (IsStepBy t.number l) t.steps) (sym same_numbers)
          (subst (λ (x : TheCore). AllByRecursion (IsStepBy x.number (numbers_in sides)) x.steps) (sym does.then_is)
          (subst (λ (n : ℕ). AllByRecursion (IsStepBy n (numbers_in sides)) (noting_all c a.put.side does.did).steps) (sym (same_number c a.put.side does.did))
          (steps_by c (numbers_in sides) a.put.side does.did (at, number_at sides at a here) lent.did)));
    }

  -- ---- as it is shown

  pub old_shown : (s : TheLent) → lent_as c sides at ≡ s → state_of s ≡ side_shown c a
  old_shown s is = ap state_of (sym is) ∙ ap (side_shown c) (get_or_from_slice_get sides at a (side_from [] 0 0) here)

  pub new_shown : (t : TheCore) (b : RingSide) → state_of (lent_as t (set sides at b) at) ≡ side_shown t b
  new_shown t b = ap (side_shown t) (get_or_from_slice_get (set sides at b) at b (side_from [] 0 0) (set_here sides at a b here))

  -- what was done by the side is done by what is lent
  pub done : (R : TheSide → Look → TheSide → Type 0) (look : Look) (t : TheCore) (b : RingSide) → R (shared_of c a) look (shared_of t b) × Does c a look t b → (s : TheLent) → lent_as c sides at ≡ s
      → (R (state_of s).side look (state_of (lent_as t (set sides at b) at)).side × IsNoted (state_of s) look (state_of (lent_as t (set sides at b) at))) × (rest_of s ≡ rest_of (lent_as t (set sides at b) at))
  done R look t b (step, does) s is =
      let both : R (shared_of c a) look (shared_of t b) × IsNoted (side_shown c a) look (side_shown t b) = (step, noted c a look t b does) in (
        subst (λ (p : TheHistorySide). R p.side look (state_of (lent_as t (set sides at b) at)).side × IsNoted p look (state_of (lent_as t (set sides at b) at))) (sym (old_shown s is))
            (subst (λ (q : TheHistorySide). R (shared_of c a) look q.side × IsNoted (side_shown c a) look q) (sym (new_shown t b)) both),
        ap rest_of (sym is) ∙ rest_so look t b does,
      )

  -- ---- what is told of the side that is lent

  counts : Counts c a
  counts = counts_of c a mine

  pub epoch_so : (s : TheLent) → lent_as c sides at ≡ s → epoch_at a.put.cursor.size a.put.cursor.index ≡ lent_epoch s
  epoch_so s is = ap (λ (k : ℕ). epoch_at a.put.cursor.size k) (sym counts.sent) ∙ ap (λ (p : TheHistorySide). epoch_at p.side.size (length p.side.sent)) (sym (old_shown s is))

  pub told_so : (s : TheLent) → lent_as c sides at ≡ s → a.take.cursor.index % 65536 ≡ lent_told s
  told_so s is = ap (λ (k : ℕ). k % 65536) (sym counts.got) ∙ ap (λ (p : TheHistorySide). length p.side.got % 65536) (sym (old_shown s is))

  pub known_so : (s : TheLent) → lent_as c sides at ≡ s → a.known ≡ lent_known s
  known_so s is = sym counts.known ∙ ap (λ (p : TheHistorySide). p.side.known) (sym (old_shown s is))

  pub room_so : (s : TheLent) → lent_as c sides at ≡ s → has_room a ≡ lent_has_room s
  room_so s is =
      ap (λ (k : ℕ). nat_lt k (2 ^ 62) && nat_le 2 (a.put.cursor.size + a.known - k)) (sym counts.sent)
      ∙ (ap (λ (k : ℕ). nat_lt (length (puts_at a.put.side c.steps)) (2 ^ 62) && nat_le 2 (a.put.cursor.size + k - length (puts_at a.put.side c.steps))) (sym counts.known)
      ∙ ap (λ (p : TheHistorySide). side_has_room p.side) (sym (old_shown s is)))

  pub near_so : IsNear a
  near_so = (mine.known_put, mine.near)
