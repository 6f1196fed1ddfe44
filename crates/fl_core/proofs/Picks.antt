-- What a waitset picks is the first of a list, and registered.
use Rattle.std.proofs.Common.{◌≡◌, ap, ◌∙◌, subst, ℕ, ◌<◌, true, false, List, [], ◌∷◌, slice_get, Some, Result, Ok, Err, OnOk, inl, inr, arith}
use Rattle.std.proofs.lemmas.Bool.{cases_Bool}
use Rattle.std.proofs.lemmas.Bool.Decides.{nat_tests}
use Rattle.fl_base.specs.declared.identity.ChanId.{ChanId}
use Rattle.fl_lists.specs.declared.place.Place.{Place}
use Rattle.fl_lists.specs.declared.place.Place.TheVariants as place
use Rattle.fl_lists.specs.ThreeLists.{ThreeLists, list_at, is_in, pushed, moved, IsApart}
use Rattle.fl_lists.proofs.Members.{is_in-push}
use Rattle.fl_lists.proofs.Tables.{front_in}
use Rattle.fl_waitset.specs.declared.fault.WaitFault.{WaitFault}
use Rattle.fl_waitset.specs.declared.fault.WaitFault.TheVariants.{Registered, NotRegistered}
use Rattle.fl_waitset.specs.declared.waitset.Pick.{Pick}
use Rattle.fl_waitset.specs.declared.waitset.Pick.TheVariants.{Pending, Polled}
use Rattle.fl_waitset.specs.Waiting.{is_registered, register_answer, registered_answer, trigger_answer, first_of, next_pick}
use Rattle.fl_core.specs.BoardView.{channel_of}
use Rattle.fl_core.proofs.Registered.{registered_in, moved_on}

pending_front : (xs ys : List ℕ) (c : ChanId) → first_of xs ys ≡ Ok (Pending c) → slice_get xs 0 ≡ Some c.0
pending_front (x ∷ xs) ys c h =
    let made : ChanId = record { 0 = x } in
    let e : made ≡ c = cc h in
    ap (λ (k : ChanId). Some k.0) e
pending_front [] (y ∷ ys) c h = absurd (cc h)
pending_front [] [] c h = absurd (cc h)

polled_front : (xs ys : List ℕ) (c : ChanId) → first_of xs ys ≡ Ok (Polled c) → slice_get ys 0 ≡ Some c.0
polled_front (x ∷ xs) ys c h = absurd (cc h)
polled_front [] (y ∷ ys) c h =
    let made : ChanId = record { 0 = y } in
    let e : made ≡ c = cc h in
    ap (λ (k : ChanId). Some k.0) e
polled_front [] [] c h = absurd (cc h)

pub first_pending : (w : ThreeLists) (c : ChanId) → next_pick w ≡ Ok (Pending c) → slice_get (list_at w place.Pending) 0 ≡ Some c.0
first_pending w c h = pending_front w.pending w.polled c h

pub first_polled : (w : ThreeLists) (c : ChanId) → next_pick w ≡ Ok (Polled c) → slice_get (list_at w place.Polled) 0 ≡ Some c.0
first_polled w c h = polled_front w.pending w.polled c h

-- the list from which it is picked
abbrev pub list_of : Pick → Place
list_of (Pending c) = place.Pending
list_of (Polled c) = place.Polled

pub pick_first : (w : ThreeLists) (pick : Pick) → next_pick w ≡ Ok pick → slice_get (list_at w (list_of pick)) 0 ≡ Some (channel_of pick)
pick_first w (Pending c) h = first_pending w c h
pick_first w (Polled c) h = first_polled w c h

pub pick_listed : (w : ThreeLists) (pick : Pick) → next_pick w ≡ Ok pick → is_in (channel_of pick) (list_at w (list_of pick)) ≡ true
pick_listed w pick h = front_in (list_at w (list_of pick)) (channel_of pick) (pick_first w pick h)

-- a registered channel may be put back
pub registered_ok : (w : ThreeLists) (c : ℕ) → c < w.size → is_registered w c ≡ true → registered_answer w c ≡ Ok tt
registered_ok w c below registered = grind (arith, nat_tests, below, registered)

pub pending_ok : (w : ThreeLists) (c : ChanId) → IsApart w → next_pick w ≡ Ok (Pending c) → registered_answer w c.0 ≡ Ok tt
pending_ok w c apart h =
    let here = front_in w.pending c.0 (first_pending w c h) in
    registered_ok w c.0 (apart.below place.Pending c.0 here) (registered_in w place.Pending c.0 here)

pub polled_ok : (w : ThreeLists) (c : ChanId) → IsApart w → next_pick w ≡ Ok (Polled c) → registered_answer w c.0 ≡ Ok tt
polled_ok w c apart h =
    let here = front_in w.polled c.0 (first_polled w c h) in
    registered_ok w c.0 (apart.below place.Polled c.0 here) (registered_in w place.Polled c.0 here)

-- a channel that may not be put back isn't registered
pub not_registered : (w : ThreeLists) (c : ℕ) (fault : WaitFault) → c < w.size → registered_answer w c ≡ Err fault → is_registered w c ≡ false
not_registered w c fault below h = elim (cases_Bool (is_registered w c)) [
  | inl here ↦ absurd (cc (registered_ok w c below here, h))
  | inr free ↦ free
]

pub is_registered_ok : (w : ThreeLists) (c : ℕ) → c < w.size → registered_answer w c ≡ Ok tt → is_registered w c ≡ true
is_registered_ok w c below h = elim (cases_Bool (is_registered w c)) [
  | inl here ↦ here
  | inr free ↦ let told : registered_answer w c ≡ Err NotRegistered = grind (arith, nat_tests, below, free) in absurd (cc (told, h))
]

-- a channel that there is may be triggered
pub trigger_ok : (w : ThreeLists) (c : ℕ) → c < w.size → trigger_answer w c ≡ Ok tt
trigger_ok w c below = grind (arith, nat_tests, below)

-- what is so of a success, where it is one
pub got : {A : Type 0} (r : Result (Unit {0}) WaitFault) → r ≡ Ok tt → OnOk r A → A
got {A} r ok h = subst (λ (x : Result (Unit {0}) WaitFault). OnOk x A) ok h

-- ---- a channel is registered

-- it wasn't before
pub was_free : (w : ThreeLists) (c : ℕ) → c < w.size → register_answer w c ≡ Ok tt → is_registered w c ≡ false
was_free w c below h = elim (cases_Bool (is_registered w c)) [
  | inl here ↦ let told : register_answer w c ≡ Err Registered = grind (arith, nat_tests, below, here) in absurd (cc (told, h))
  | inr free ↦ free
]

-- at the back of idle, and then moved to where it waits
pub joined : (w v u : ThreeLists) (c : ℕ) (to : Place) (r : Result (Unit {0}) WaitFault) → c < w.size → is_registered w c ≡ false → v ≡ pushed w c place.Idle
    → r ≡ registered_answer v c → OnOk r (u ≡ moved v c to) → u ≡ pushed w c to
joined w v u c to r below free v_is r_is ok = got ∙ ap (λ (x : ThreeLists). moved x c to) v_is ∙ moved_on w c to free where
  there : is_registered (pushed w c place.Idle) c ≡ true
  there = registered_in (pushed w c place.Idle) place.Idle c (grind (arith, nat_tests, is_in-push c c w.idle))

  answer : r ≡ Ok tt
  answer = r_is ∙ ap (λ (x : ThreeLists). registered_answer x c) v_is ∙ registered_ok (pushed w c place.Idle) c below there

  got : u ≡ moved v c to
  got = subst (λ (x : Result (Unit {0}) WaitFault). OnOk x (u ≡ moved v c to)) answer ok
