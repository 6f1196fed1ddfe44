-- At which place a thing stands in its owner's hand: by owners and its number alone.
use Rattle.std.proofs.Common.{◌≡◌, refl, sym, ap, ◌∙◌, ℕ, zero, suc, ◌<◌, ◌==◌, if◌then◌else◌, List, [], ◌∷◌, ◌++◌, length, slice_get, Option, Some}
use Rattle.std.proofs.Common.{Bool, true, false, arith}
use Rattle.std.specs.Prelude.{unwrap_or}
use Rattle.std.proofs.lemmas.Bool.Decides.{nat_tests}
use Rattle.std.proofs.lemmas.Option.{get_or_from_slice_get}
use Rattle.fl_core.specs.Numbers.{moved}
use Rattle.fl_cores_shares.specs.Shares.{Holdings, holding_at, own_things, AreHandedOut, own_before, AreCounted}

pub is_self : (n : ℕ) → (n == n) ≡ true
is_self n = grind (arith, nat_tests)

-- ---- lists

pub there_is : {X : Type 0} (xs : List X) (n : ℕ) → n < length xs → (x : X) × (slice_get xs n ≡ Some x)
there_is [] n below = absurd (omega (arith, below))
there_is (x ∷ xs) zero below = (x, refl)
there_is (x ∷ xs) (suc n) below = there_is xs n (omega (arith, below))

-- the number by which a core names a thing from then on
pub moved_to : (places : List ℕ) (n place : ℕ) → slice_get places n ≡ Some place → moved places n ≡ place
moved_to places n place is = get_or_from_slice_get places n place n is

-- ---- hands

own_step : {T : Type 0} (b : Bool) (t thing : T) (rest : List T) (count : ℕ) → slice_get rest count ≡ Some thing
    → slice_get ((if b then t ∷ [] else []) ++ rest) (if b then suc count else count) ≡ Some thing
own_step true t thing rest count is = is
own_step false t thing rest count is = is

own_at : {T : Type 0} (owners : List ℕ) (things : List T) (n owner : ℕ) (thing : T) → slice_get owners n ≡ Some owner → slice_get things n ≡ Some thing
    → slice_get (own_things owner owners things) (own_before owner n owners) ≡ Some thing
own_at [] things n owner thing at is = absurd (cc)
own_at (o ∷ owners) [] n owner thing at is = absurd (cc)
own_at (o ∷ owners) (t ∷ things) zero owner thing at is =
    let same : o ≡ owner = cc in
    let mine : (o == owner) ≡ true = ap (λ (x : ℕ). x == owner) same ∙ is_self owner in
    ap (λ (b : Bool). slice_get ((if b then t ∷ [] else []) ++ own_things owner owners things) zero) mine ∙ is
own_at (o ∷ owners) (t ∷ things) (suc n) owner thing at is =
    own_step (o == owner) t thing (own_things owner owners things) (own_before owner n owners) (own_at owners things n owner thing at is)

pub holding_is : {T : Type 0} (holdings : Holdings T) (n : ℕ) (holding : List T) → slice_get holdings n ≡ Some holding → holding_at holdings n ≡ holding
holding_is holdings n holding is = ap (λ (o : Option (List _)). unwrap_or o []) is

-- a thing that was handed out stands in its owner's hand, at its place
pub in_holding : {T : Type 0} (owners : List ℕ) (things : List T) (holdings : Holdings T) (n owner : ℕ) (thing : T) (holding : List T) → AreHandedOut owners things holdings
    → slice_get owners n ≡ Some owner → slice_get things n ≡ Some thing → slice_get holdings owner ≡ Some holding
    → slice_get holding (own_before owner n owners) ≡ Some thing
in_holding owners things holdings n owner thing holding handed_out at is holding_at_is =
    ap (λ (xs : List _). slice_get xs (own_before owner n owners)) (sym (holding_is holdings owner holding holding_at_is) ∙ handed_out.each owner)
    ∙ own_at owners things n owner thing at is

pub in_holding_moved : {T : Type 0} (owners places : List ℕ) (things : List T) (holdings : Holdings T) (n owner : ℕ) (thing : T) (holding : List T)
    → AreCounted owners places → AreHandedOut owners things holdings
    → slice_get owners n ≡ Some owner → slice_get things n ≡ Some thing → slice_get holdings owner ≡ Some holding
    → slice_get holding (moved places n) ≡ Some thing
in_holding_moved owners places things holdings n owner thing holding counted handed_out at is holding_at_is =
    ap (slice_get holding) (moved_to places n (own_before owner n owners) (counted.each n owner at))
    ∙ in_holding owners things holdings n owner thing holding handed_out at is holding_at_is
