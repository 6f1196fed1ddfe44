-- Where an end is stays, and its end goes on by what happens there alone.
use Rattle.std.proofs.Common.{◌≡◌, ◌≢◌, refl, sym, ap, ◌∙◌, subst, ℕ, ◌<◌, ◌==◌, ◌⊎◌, inl, inr, List, length, slice_get, slice_set, arith}
use Rattle.std.proofs.Common.{Option, Some, None, true, false, Ok}
use Rattle.std.proofs.lemmas.Bool.Decides.{nat_tests}
use Rattle.std.proofs.lemmas.List.{length-set}
use Rattle.fl_base.specs.declared.identity.EndId.{EndId}
use Rattle.fl_lists.specs.ThreeLists.{ThreeLists}
use Rattle.fl_hop.specs.Stretch.{same_end}
use Rattle.fl_endpoint.specs.View.{TheEnd}
use Rattle.fl_core.proofs.BoardPlaces.{one_stands, set_here, set_elsewhere, push_stays}
use Rattle.fl_core.specs.BoardView.{TheEndAtChannel, TheBoard, with_end}
use Rattle.fl_core.specs.declared.kind.ChannelKind.{ChannelKind}
use Rattle.fl_core.specs.BoardEvents.{ChangesLists, Adds}
use Rattle.fl_core.specs.View.{TheCore, slot_of, place_in, place_of}
use Rattle.fl_core.specs.Sound.{IsCore}
use Rattle.fl_core.specs.Ends.{TriggersIf}
use Rattle.fl_core.specs.declared.wiring.WiredEnd.{WiredEnd}
use Rattle.fl_core.proofs.Named.{put_here, put_elsewhere, here_or_not}
use Rattle.fl_core_run_laws.proofs.Handling.{slots}

-- ---- an end at its place on the board

-- such an end sits at place e
pub record HasEnd (b : TheBoard) (e : ℕ) (x : TheEnd) : Type 0 where
  pub seat : TheEndAtChannel
  pub seat_is : slice_get b.seats e ≡ Some seat
  pub end_is : seat.end ≡ x

pub seats_same : (b c : TheBoard) (e : ℕ) (x : TheEnd) → c.seats ≡ b.seats → HasEnd b e x → HasEnd c e x
seats_same b c e x same h = record { seat = h.seat; seat_is = ap (λ (xs : List TheEndAtChannel). slice_get xs e) same ∙ h.seat_is; end_is = h.end_is }

pub lists_same : (b c : TheBoard) (f e : ℕ) (x : TheEnd) (Event : TheEndAtChannel → ThreeLists → ThreeLists → Type 0) → ChangesLists b f Event c → HasEnd b e x → HasEnd c e x
lists_same b c f e x Event h has = seats_same b c e x (ap (λ (d : TheBoard). d.seats) h.board) has

pub triggers_same : (o : Option ℕ) (b c : TheBoard) (e : ℕ) (x : TheEnd) → TriggersIf o b c → HasEnd b e x → HasEnd c e x
triggers_same None b c e x h has = seats_same b c e x (ap (λ (d : TheBoard). d.seats) h) has
triggers_same (Some f) b c e x h has = lists_same b c f e x _ h has

-- another end changes
pub set_other : (b : TheBoard) (f e : ℕ) (seat : TheEndAtChannel) (y x : TheEnd) (c : TheBoard) → c.seats ≡ (with_end b f seat y).seats → e ≢ f → HasEnd b e x → HasEnd c e x
set_other b f e seat y x c is other has = record {
  seat = has.seat;
  seat_is = ap (λ (xs : List TheEndAtChannel). slice_get xs e) is ∙ set_elsewhere b.seats f e _ other ∙ has.seat_is;
  end_is = has.end_is;
}

-- this end does
pub set_own : (b : TheBoard) (e : ℕ) (seat : TheEndAtChannel) (y : TheEnd) (c : TheBoard) → slice_get b.seats e ≡ Some seat → c.seats ≡ (with_end b e seat y).seats → HasEnd c e y
set_own b e seat y c there is = record {
  seat = record { end = y; dispatcher = seat.dispatcher; channel = seat.channel; kind = seat.kind };
  seat_is = ap (λ (xs : List TheEndAtChannel). slice_get xs e) is ∙ set_here b.seats e seat _ there;
  end_is = refl;
}

-- the end that sits there is this one
pub one_end_there : (b : TheBoard) (e : ℕ) (seat : TheEndAtChannel) (x : TheEnd) → slice_get b.seats e ≡ Some seat → HasEnd b e x → seat.end ≡ x
one_end_there b e seat x there has = ap (λ (s : TheEndAtChannel). s.end) (one_stands b.seats e seat has.seat there has.seat_is) ∙ has.end_is

-- one end more
pub added_same : (b c : TheBoard) (n e place : ℕ) (s x : TheEnd) (kind : ChannelKind) → Adds b n s kind (Ok place) c → HasEnd b e x → HasEnd c e x
added_same b c n e place s x kind h has = record {
  seat = has.seat;
  seat_is = ap (λ (d : TheBoard). slice_get d.seats e) h.1.3 ∙ push_stays b.seats _ e has.seat has.seat_is;
  end_is = has.end_is;
}

-- ---- an end is found by its name

-- by a core's table of places: the end of this name is at place e, and no other is
pub record Sits (places : List (Option ℕ)) (name : EndId) (e : ℕ) : Type 0 where
  pub long : length places ≡ 2048
  pub here : place_in places name ≡ Some e
  pub only : (n : EndId) → place_in places n ≡ Some e → n ≡ name

pub sits_first : (k : TheCore) (name : EndId) (e : ℕ) → IsCore k → place_of k name ≡ Some e → Sits k.places name e
sits_first k name e sound at = record {
  long = sound.slots;
  here = at;
  only = λ n is.
      let one = sound.placed n e is in
      let two = sound.placed name e at in
      let wired_ends = one_stands k.wired_ends e one.wired_end two.wired_end one.wired_end_is two.wired_end_is in
      sym one.name_is ∙ ap (λ (p : WiredEnd). p.name) wired_ends ∙ two.name_is;
}

pub sits_same : (places places2 : List (Option ℕ)) (name : EndId) (e : ℕ) → places2 ≡ places → Sits places name e → Sits places2 name e
sits_same places places2 name e same h = subst (λ (xs : List (Option ℕ)). Sits xs name e) (sym same) h

-- where another end is made, at another place
pub sits_more : (places : List (Option ℕ)) (place : ℕ) (name new : EndId) (e : ℕ) → e < place → new.binding < 1024 → place_in places new ≡ None
    → Sits places name e → Sits (slice_set places (slot_of new) (Some place)) name e
sits_more places place name new e below few none h = record {
  long = length-set places (slot_of new) (Some place) ∙ h.long;
  here = here_still (here_or_not name new);
  only = λ n is. only_still n is (here_or_not n new);
} where
  here_still : (name ≡ new) ⊎ (slot_of name ≢ slot_of new) → place_in (slice_set places (slot_of new) (Some place)) name ≡ Some e
  here_still (inl same) = absurd (let no : Some e ≡ None = sym h.here ∙ ap (λ (x : EndId). place_in places x) same ∙ none in cc)
  here_still (inr other) = put_elsewhere places new name (Some place) other ∙ h.here

  only_still : (n : EndId) → place_in (slice_set places (slot_of new) (Some place)) n ≡ Some e → (n ≡ new) ⊎ (slot_of n ≢ slot_of new) → n ≡ name
  only_still n is (inl same) =
      let found : Some place ≡ Some e =
      sym (put_here places new (Some place) h.long few) ∙ sym (ap (λ (x : EndId). place_in (slice_set places (slot_of new) (Some place)) x) same) ∙ is in
      let it : place ≡ e = cc in
      absurd (omega (arith, it, below))
  only_still n is (inr other) = h.only n (sym (put_elsewhere places new n (Some place) other) ∙ is)

-- ---- whose place it is

itself : (n : ℕ) → (n == n) ≡ true
itself n = grind (arith, nat_tests)

same_itself : (name : EndId) → same_end name name ≡ true
same_itself name = sym (slots name name) ∙ itself (slot_of name)

-- another end has another place
pub apart : (k : TheCore) (n name : EndId) (f e : ℕ) → Sits k.places name e → place_of k n ≡ Some f → same_end n name ≡ false → e ≢ f
apart k n name f e sits at other same =
    let one : n ≡ name = sits.only n (at ∙ ap Some (sym same)) in
    absurd (let no : false ≡ true = sym other ∙ ap (λ (x : EndId). same_end x name) one ∙ same_itself name in cc)

-- this end has this
pub together : (k : TheCore) (n name : EndId) (f e : ℕ) → Sits k.places name e → place_of k n ≡ Some f → n ≡ name → f ≡ e
together k n name f e sits at one =
    let found : Some f ≡ Some e = sym at ∙ ap (λ (x : EndId). place_of k x) one ∙ sits.here in
    cc
