-- An end that is added to a core's board: where it sits, and by which name it is found.
use Rattle.std.proofs.Common.{◌≡◌, ◌≢◌, ◌⊎◌, inl, inr, sym, ap, ◌∙◌, ℕ, ◌<◌, List, [], ◌∷◌, ◌++◌, length, slice_get, slice_set, Option, Some, Ok, refl, arith}
use Rattle.std.proofs.lemmas.List.{length-set}
use Rattle.fl_base.specs.declared.identity.EndId.{EndId}
use Rattle.fl_endpoint.specs.View.{TheEnd}
use Rattle.fl_core.proofs.BoardPlaces.{push_last}
use Rattle.fl_core.specs.BoardView.{TheEndAtChannel, TheBoard}
use Rattle.fl_core.specs.BoardEvents.{Adds}
use Rattle.fl_core.specs.declared.kind.ChannelKind.{ChannelKind}
use Rattle.fl_core.specs.View.{TheCore, place_of, place_in, slot_of}
use Rattle.fl_core.specs.Sound.{IsCore}
use Rattle.fl_core.proofs.Named.{put_here, put_elsewhere, here_or_not}
use Rattle.fl_core.proofs.HasWiredEnd.{placed_below}
use Rattle.fl_core_run_laws.proofs.Seating.{HasEnd, Sits}

-- it sits at the last place
pub added_there : (b c : TheBoard) (n place : ℕ) (x : TheEnd) (kind : ChannelKind) → Adds b n x kind (Ok place) c → HasEnd c place x
added_there b c n place x kind h =
    let seat : TheEndAtChannel = record { end = x; dispatcher = n; channel = length h.1.0.ends; kind = kind } in
    record {
      seat = seat;
      seat_is = ap (λ (d : TheBoard). slice_get d.seats place) h.1.3 ∙ ap (λ (j : ℕ). slice_get (b.seats ++ seat ∷ []) j) h.0 ∙ push_last b.seats seat;
      end_is = refl;
    }

-- and at this dispatcher
pub added_seat : (b c : TheBoard) (n place : ℕ) (x : TheEnd) (kind : ChannelKind) → Adds b n x kind (Ok place) c
    → (seat : TheEndAtChannel) × (slice_get c.seats place ≡ Some seat) × (seat.dispatcher ≡ n)
added_seat b c n place x kind h =
    let seat : TheEndAtChannel = record { end = x; dispatcher = n; channel = length h.1.0.ends; kind = kind } in (
      seat,
      ap (λ (d : TheBoard). slice_get d.seats place) h.1.3 ∙ ap (λ (j : ℕ). slice_get (b.seats ++ seat ∷ []) j) h.0 ∙ push_last b.seats seat,
      refl,
    )

-- and is found by its name there, and no other is
module _ (k : TheCore) (core : IsCore k) (place : ℕ) (new : EndId) (last : place ≡ length k.board.seats) where
  only : (n : EndId) → place_in (slice_set k.places (slot_of new) (Some place)) n ≡ Some place → (n ≡ new) ⊎ (slot_of n ≢ slot_of new) → n ≡ new
  only n is (inl same) = same
  only n is (inr other) =
      let before : place_of k n ≡ Some place = sym (put_elsewhere k.places new n (Some place) other) ∙ is in
      let below = placed_below k n place core before in
      absurd (omega (arith, below, last))

  pub sits_last : new.binding < 1024 → (places : List (Option ℕ)) → places ≡ slice_set k.places (slot_of new) (Some place) → Sits places new place
  sits_last few places are = record {
    long = ap length are ∙ length-set k.places (slot_of new) (Some place) ∙ core.slots;
    here = ap (λ (xs : List (Option ℕ)). place_in xs new) are ∙ put_here k.places new (Some place) core.slots few;
    only = λ n is. only n (ap (λ (xs : List (Option ℕ)). place_in xs n) (sym are) ∙ is) (here_or_not n new);
  }
