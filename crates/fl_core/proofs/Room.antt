-- Whether a dispatcher has a place for one more end.
use Rattle.std.proofs.Common.{◌≡◌, refl, sym, ap, ◌∙◌, nat_le, nat_lt, false, Option, ◌+◌, ℕ, zero, suc, ◌<◌, ◌≤◌, List, [], ◌∷◌, length, slice_get, Some, arith}
use Rattle.std.proofs.lemmas.Option.{slice_get_past}
use Rattle.fl_base.specs.Given.{given}
use Rattle.fl_core.specs.declared.board_fault.BoardFault.{BoardFault}
use Rattle.fl_core.specs.declared.board_fault.BoardFault.TheVariants.{NotBound, Registered, NotRegistered, TooManyEnds, Failed, Memory}
use Rattle.fl_core.specs.BoardView.{TheDispatcher, TheBoard}
use Rattle.fl_core.specs.BoardSound.{IsBoard}
use Rattle.fl_core.specs.Making.{HasPlace, HasNoPlace, HasAllEnds, has_places}
use Rattle.fl_core.specs.Hearing.{has_place}

-- something stands at each place of a list
pub at_place : {X : Type 0} (xs : List X) (n : ℕ) → n < length xs → (x : X) × (slice_get xs n ≡ Some x)
at_place [] n h = absurd (omega (arith, h))
at_place (x ∷ xs) zero h = (x, refl)
at_place (x ∷ xs) (suc n) h = at_place xs n (omega (arith, h))

module _ (b : TheBoard) (sound : IsBoard b) (n : ℕ) (below : n < length b.dispatchers) (count : ℕ)
    (count_is : (d : TheDispatcher) → slice_get b.dispatchers n ≡ Some d → count ≡ length d.ends) where
  pub place_there : count < 1024 → HasPlace b n
  place_there few =
      let it = at_place b.dispatchers n below in
      let same = count_is it.0 it.1 in
      let within : length it.0.ends < 1024 = omega (arith, same, few) in
      (it.0, it.1, within)

  pub none_left : 1024 ≤ count → HasNoPlace b n TooManyEnds
  none_left h s kind =
      let it = at_place b.dispatchers n below in
      let same = count_is it.0 it.1 in
      let most = (sound.dispatchers n it.0 it.1).few in
      let full : length it.0.ends ≡ 1024 = omega (arith, same, most, h) in
      ((it.0, it.1, full), refl)

  pub ends_few : count ≤ 1024
  ends_few =
      let it = at_place b.dispatchers n below in
      let same = count_is it.0 it.1 in
      let most = (sound.dispatchers n it.0 it.1).few in
      omega (arith, same, most)

  pub places_told : (more : ℕ) → nat_le (count + more) 1024 ≡ has_places more b n
  places_told more =
      let it = at_place b.dispatchers n below in
      let found : has_places more b n ≡ nat_le (length it.0.ends + more) 1024
      = ap (λ (o : Option TheDispatcher). given o false (λ d. nat_le (length d.ends + more) 1024)) it.1 in
      ap (λ (k : ℕ). nat_le (k + more) 1024) (count_is it.0 it.1) ∙ sym found

pub all_ends : (b : TheBoard) (n : ℕ) (fault : BoardFault) → HasAllEnds b n fault → HasNoPlace b n fault
all_ends b n TooManyEnds h = h
all_ends b n NotBound h = absurd h
all_ends b n Registered h = absurd h
all_ends b n NotRegistered h = absurd h
all_ends b n Failed h = absurd h
all_ends b n Memory h = absurd h

-- one place more, and none where there is no such dispatcher
pub place_told : (b : TheBoard) (n : ℕ) → n < length b.dispatchers → (count : ℕ) → ((d : TheDispatcher) → slice_get b.dispatchers n ≡ Some d → count ≡ length d.ends)
    → nat_lt count 1024 ≡ has_place b n
place_told b n below count count_is =
    let it = at_place b.dispatchers n below in
    let found : has_place b n ≡ nat_lt (length it.0.ends) 1024 = ap (λ (o : Option TheDispatcher). given o false (λ d. nat_lt (length d.ends) 1024)) it.1 in
    ap (λ (k : ℕ). nat_lt k 1024) (count_is it.0 it.1) ∙ sym found

pub no_place_past : (b : TheBoard) (n : ℕ) → length b.dispatchers ≤ n → false ≡ has_place b n
no_place_past b n past = sym (ap (λ (o : Option TheDispatcher). given o false (λ d. nat_lt (length d.ends) 1024)) (slice_get_past b.dispatchers n past))
