-- Directions of calls, counted in fragments: all calls but the last are written, whatever an end does.
use Rattle.std.proofs.Common.{◌≡◌, refl, ℕ, ◌+◌, ◌≤◌, ◌<◌, true, false, List, [], ◌∷◌, ◌++◌, length, Option, Some, None, slice_get, slice_set, arith}
use Rattle.std.proofs.lemmas.List.{length-set}
use Rattle.fl_base.specs.Given.{given}
use Rattle.fl_value_data.specs.Value.{TheCall}
use Rattle.fl_model.specs.Given.{changed_at}
use Rattle.fl_model.specs.Events.{nothing}
use Rattle.fl_model.specs.Calls.{Planned, fragments, total}
use Rattle.fl_model.specs.Rings.{there_is_room}
use Rattle.fl_model.specs.Ends.{Direction, is_busy, written_of, last_station, accepts, accepts_or_waits, accepts_waiting, goes_on, passes, takes_one, Wrote, writes, writes_by, End, Taken, whole, a_part, rule_at, replies}
use Rattle.fl_model.specs.SoundLabels.{IsCounted}
use Rattle.fl_world_refines.proofs.Tests.{either, true_lt, false_lt}
use Rattle.fl_world_refines.proofs.Streams.{total_push, last_push}
use Rattle.fl_world_refines.proofs.Sending.{written_grows}

pub record Counts (i : Planned) (d : Direction) : Type 0 where
  pub counted : IsCounted i d
  pub stations : 1 ≤ length d.passed

by_option : (xs : List ℕ) (n : ℕ) (f : ℕ → ℕ) (o : Option ℕ) → length (given o xs λ x. slice_set xs n (f x)) ≡ length xs
by_option xs n f None = refl
by_option xs n f (Some x) = length-set xs n (f x)

pub length_changed : (xs : List ℕ) (n : ℕ) (f : ℕ → ℕ) → length (changed_at n f xs) ≡ length xs
length_changed xs n f = by_option xs n f (slice_get xs n)

-- one call more, where all is written
pushed : (i : Planned) (c : TheCall) (d : Direction) (ws : List TheCall) → total i d.accepted ≤ written_of d → Counts i d
    → Counts i (record d { accepted = d.accepted ++ c ∷ []; waiting = ws })
pushed i c d ws a h =
    let longer : total i (d.accepted ++ c ∷ []) ≡ total i d.accepted + fragments i c = total_push i d.accepted c in
    let last = last_push i d.accepted c in
    let most : written_of d ≤ total i d.accepted = h.counted.most in
    record { counted = record { before = omega (arith, longer, last, a); most = omega (arith, longer, most) }; stations = h.stations }

waited : (i : Planned) (ws : List TheCall) (d : Direction) → total i d.accepted ≤ written_of d → Counts i d → Counts i (accepts_waiting ws d)
waited i [] d a h = h
waited i (c ∷ ws) d a h = pushed i c d ws a h

went_on : (i : Planned) (d : Direction) → Counts i d → Counts i (goes_on i d)
went_on i d h =
    either (Counts i) (is_busy i d) d (accepts_waiting d.waiting d) (λ q. h)
    (λ q. waited i d.waiting d (false_lt (written_of d) (total i d.accepted) q) h)

passed : (i : Planned) (d : Direction) → is_busy i d ≡ true → Counts i d → Counts i (passes 0 d)
passed i d q h =
    let stations = h.stations in
    let long : length (passes 0 d).passed ≡ length d.passed = length_changed d.passed 0 (λ m. m + 1) in
    let grows : written_of (passes 0 d) ≡ written_of d + 1 = written_grows d h.stations in
    let below : written_of d < total i d.accepted = true_lt (written_of d) (total i d.accepted) q in
    let before = h.counted.before in
    record {
      counted = record { before = omega (arith, grows, before); most = omega (arith, grows, below) };
      stations = omega (arith, long, stations);
    }

pub written_counts : (i : Planned) (d : Direction) → is_busy i d ≡ true → Counts i d → Counts i (writes i d there_is_room).direction
written_counts i d q h =
    either (λ (w : Wrote). Counts i w.direction) (is_busy i d) (writes_by i d there_is_room) (record { direction = d; answer = nothing })
    (λ r. went_on i (passes 0 d) (passed i d q h)) (λ r. h)

pub called_counts : (i : Planned) (c : TheCall) (d : Direction) → is_busy i d ≡ false → Counts i d → Counts i (accepts c d)
called_counts i c d q h = pushed i c d d.waiting (false_lt (written_of d) (total i d.accepted) q) h

replied : (i : Planned) (c : TheCall) (d : Direction) → Counts i d → Counts i (accepts_or_waits i c d)
replied i c d h =
    either (Counts i) (is_busy i d) (record d { waiting = d.waiting ++ c ∷ [] }) (accepts c d)
    (λ q. record { counted = record { before = h.counted.before; most = h.counted.most }; stations = h.stations })
    (λ q. called_counts i c d q h)

by_rule : (i : Planned) (c : TheCall) (x : End) (o : Option ℕ) → Counts i x.out
    → Counts i (given o x λ msg. record x { out = accepts_or_waits i (record { msg = msg; args = c.args }) x.out }).out
by_rule i c x None h = h
by_rule i c x (Some msg) h = replied i (record { msg = msg; args = c.args }) x.out h

pub replied_counts : (i : Planned) (t : Taken) (x : End) → Counts i x.out → Counts i (replies i t x).out
replied_counts i a_part x h = h
replied_counts i (whole c) x h = by_rule i c x (rule_at x.rules c.msg) h

-- a seat isn't changed by a reply
seat_by_rule : (i : Planned) (c : TheCall) (x : End) (o : Option ℕ)
    → (given o x λ msg. record x { out = accepts_or_waits i (record { msg = msg; args = c.args }) x.out }).seat ≡ x.seat
seat_by_rule i c x None = refl
seat_by_rule i c x (Some msg) = refl

pub replied_seat : (i : Planned) (t : Taken) (x : End) → (replies i t x).seat ≡ x.seat
replied_seat i a_part x = refl
replied_seat i (whole c) x = seat_by_rule i c x (rule_at x.rules c.msg)

pub exit_stays : (d : Direction) → 1 ≤ length d.passed → 1 ≤ length (takes_one d).passed
exit_stays d h = let long : length (takes_one d).passed ≡ length d.passed = length_changed d.passed (last_station d) (λ m. m + 1) in omega (arith, long, h)
