-- What an end has taken of the other's calls, while the other goes on.
use Rattle.std.proofs.Common.{◌≡◌, ◌≢◌, refl, sym, ◌∙◌, ap, ℕ, zero, suc, ◌+◌, ◌-◌, ◌≤◌, List, [], ◌∷◌, ◌++◌, length, take, drop, slice_get, slice_set, slice_index, Option, Some, None, arith}
use Rattle.std.proofs.lemmas.List.{length-set}
use Rattle.fl_base.specs.declared.fragment.Frag.{Frag}
use Rattle.fl_base.specs.Given.{given}
use Rattle.fl_value_data.specs.Value.{TheCall}
use Rattle.fl_model.specs.Given.{changed_at}
use Rattle.fl_model.specs.Calls.{Planned, total, whole_in, stream}
use Rattle.fl_model.specs.Ends.{Direction, passes, taken_of, last_station, is_busy, accepts, accepts_waiting, goes_on, Wrote, writes_by}
use Rattle.fl_model.specs.Events.{nothing}
use Rattle.fl_model.specs.Rings.{Room, there_is_room, no_room, spent}
use Rattle.fl_world_refines.specs.Ends.{parts_of}
use Rattle.fl_world_refines.specs.EndLaws.{PartsStay}
use Rattle.fl_world_refines.proofs.Tests.{either}
use Rattle.fl_world_refines.proofs.Streams.{whole_more, take_more_calls}

by_given : {X Y : Type 0} (P : Y → Type 0) (o : Option X) (y : Y) (f : X → Y) → P y → ((x : X) → o ≡ Some x → P (f x)) → P (given o y f)
by_given P None y f h g = h
by_given P (Some x) y f h g = g x refl

-- one call more, whatever waits
more_accepted : (i : Planned) (c : TheCall) (d : Direction) (ws : List TheCall) → taken_of d ≤ total i d.accepted
    → parts_of i (record d { accepted = d.accepted ++ c ∷ []; waiting = ws }) ≡ parts_of i d
more_accepted i c d ws h =
    ap (λ (cs : List TheCall). drop (total i cs) (take (taken_of d) (stream 0 i (d.accepted ++ c ∷ [])))) (whole_more i d.accepted (c ∷ []) (taken_of d) h)
    ∙ ap (λ (fs : List Frag). drop (total i (whole_in i d.accepted (taken_of d))) fs) (take_more_calls 0 i d.accepted (c ∷ []) (taken_of d) h)

next_accepted : (i : Planned) (d : Direction) (ws : List TheCall) → taken_of d ≤ total i d.accepted → parts_of i (accepts_waiting ws d) ≡ parts_of i d
next_accepted i d [] h = refl
next_accepted i d (c ∷ ws) h = more_accepted i c d ws h

index_other : (xs : List ℕ) (n k y : ℕ) → n ≢ k → slice_index (slice_set xs k y) n ≡ slice_index xs n
index_other [] n k y h = refl
index_other (x ∷ xs) zero zero y h = absurd (h refl)
index_other (x ∷ xs) (suc n) zero y h = refl
index_other (x ∷ xs) zero (suc k) y h = refl
index_other (x ∷ xs) (suc n) (suc k) y h = index_other xs n k y (λ q. h (ap suc q))

length_changed : (xs : List ℕ) (n : ℕ) (f : ℕ → ℕ) → length (changed_at n f xs) ≡ length xs
length_changed xs n f =
    by_given (λ (ys : List ℕ). length ys ≡ length xs) (slice_get xs n) xs (λ x. slice_set xs n (f x)) refl (λ x q. length-set xs n (f x))

pub taken_stays : (station : ℕ) (d : Direction) → station ≢ last_station d → taken_of (passes station d) ≡ taken_of d
taken_stays station d h =
    ap (λ (m : ℕ). slice_index (passes station d).passed (m - 1)) (length_changed d.passed station (λ n. n + 1))
    ∙ by_given (λ (ys : List ℕ). slice_index ys (last_station d) ≡ slice_index d.passed (last_station d)) (slice_get d.passed station) d.passed
    (λ x. slice_set d.passed station (x + 1)) refl (λ x q. index_other d.passed (last_station d) station (x + 1) (λ e. h (sym e)))

passing_is : (i : Planned) (station : ℕ) (d : Direction) → station ≢ last_station d → parts_of i (passes station d) ≡ parts_of i d
passing_is i station d h =
    ap (λ (n : ℕ). drop (total i (whole_in i d.accepted n)) (take n (stream 0 i d.accepted))) (taken_stays station d h)

pub parts_stay : (i : Planned) (d : Direction) → 2 ≤ length d.passed → taken_of d ≤ total i d.accepted → PartsStay i d
parts_stay i d n h =
    record {
      accepting = λ c. more_accepted i c d d.waiting h;
      replying = λ c. either (λ (e : Direction). parts_of i e ≡ parts_of i d) (is_busy i d) (record d { waiting = d.waiting ++ c ∷ [] }) (accepts c d)
          (λ q. refl) (λ q. more_accepted i c d d.waiting h);
      writing = λ room. either (λ (w : Wrote). parts_of i w.direction ≡ parts_of i d) (is_busy i d) (writes_by i d room)
          (record { direction = d; answer = nothing }) (λ q. by_room room) (λ q. refl);
      passing = λ station e. passing_is i station d e;
    }
  where
    going_on : parts_of i (goes_on i (passes 0 d)) ≡ parts_of i d
    going_on =
        let first : 0 ≢ last_station d = λ (e : 0 ≡ last_station d). let k : 0 ≡ length d.passed - 1 = e in omega (arith, n, k) in
        let same = taken_stays 0 d first in
        either (λ (e : Direction). parts_of i e ≡ parts_of i d) (is_busy i (passes 0 d)) (passes 0 d) (accepts_waiting d.waiting (passes 0 d))
        (λ q. passing_is i 0 d first)
        (λ q. next_accepted i (passes 0 d) d.waiting (omega (arith, same, h)) ∙ passing_is i 0 d first)

    by_room : (room : Room) → parts_of i (writes_by i d room).direction ≡ parts_of i d
    by_room there_is_room = going_on
    by_room no_room = refl
    by_room spent = refl
