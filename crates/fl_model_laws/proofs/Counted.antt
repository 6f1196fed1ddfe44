-- Writes are counted: all calls of an end but the last are written, and no more than the calls have.
use Rattle.std.proofs.Common.{◌≡◌, refl, sym, subst, ℕ, zero, suc, ◌+◌, ◌≤◌, ◌<◌, true, false, List, [], ◌∷◌, ◌++◌, length, Option, arith, slice_index, replicate}
use Rattle.fl_value_data.specs.Value.{TheCall}
use Rattle.fl_model.specs.Events.{Event, nothing}
use Rattle.fl_model.specs.Calls.{Planned, fragments, total, last_count}
use Rattle.fl_model.specs.Rings.{there_is_room}
use Rattle.fl_model.specs.Ends.{Queue, End, Direction, is_busy, unbound_end, accepts, accepts_or_waits, accepts_waiting, goes_on, passes, last_station, written_of, Wrote, writes, writes_by, Taken, whole, a_part, replies, rule_at}
use Rattle.fl_model.specs.State.{start}
use Rattle.fl_model.specs.Runs.{reached}
use Rattle.fl_model.specs.SoundLabels.{IsCounted, WritesAreCounted}
use Rattle.fl_model_laws.proofs.Cases.{either, by_given}
use Rattle.fl_model_laws.proofs.Replies.{length_changed, written_stays, written_grows, total_push, at_most}
use Rattle.fl_model_laws.proofs.EndsStep.{EndKeeps, ends_reached}
use Rattle.fl_model_laws.proofs.Small.{less, length_replicate}

pub record DirectionOk (i : Planned) (d : Direction) : Type 0 where
  pub stations : 2 ≤ length d.passed
  pub counted : IsCounted i d

abbrev pub CountedOk : Planned → End → Type 0
CountedOk i x = DirectionOk i x.out

last_push : (i : Planned) (cs : List TheCall) (c : TheCall) → last_count i (cs ++ c ∷ []) ≡ fragments i c
last_push i [] c = refl
last_push i (d ∷ []) c = refl
last_push i (d ∷ e ∷ cs) c = last_push i (e ∷ cs) c

-- one call more, where all is written
pushed_ok : (i : Planned) (c : TheCall) (d : Direction) (ws : List TheCall) → total i d.accepted ≤ written_of d → DirectionOk i d
    → DirectionOk i (record d { accepted = d.accepted ++ c ∷ []; waiting = ws })
pushed_ok i c d ws a h =
    let longer : total i (d.accepted ++ c ∷ []) ≡ total i d.accepted + fragments i c = total_push i d.accepted c in
    let last : last_count i (d.accepted ++ c ∷ []) ≡ fragments i c = last_push i d.accepted c in
    let most : written_of d ≤ total i d.accepted = h.counted.most in
    record { stations = h.stations; counted = record { before = omega arith; most = omega arith } }

waiting_ok : (i : Planned) (ws : List TheCall) (d : Direction) → total i d.accepted ≤ written_of d → DirectionOk i d
    → DirectionOk i (accepts_waiting ws d)
waiting_ok i [] d a h = h
waiting_ok i (c ∷ ws) d a h = pushed_ok i c d ws a h

goes_on_ok : (i : Planned) (d : Direction) → DirectionOk i d → DirectionOk i (goes_on i d)
goes_on_ok i d h =
    either (DirectionOk i) (is_busy i d) d (accepts_waiting d.waiting d) (λ q. h)
    (λ q. waiting_ok i d.waiting d (at_most (written_of d) (total i d.accepted) q) h)

passes_ok : (i : Planned) (d : Direction) → is_busy i d ≡ true → DirectionOk i d → DirectionOk i (passes 0 d)
passes_ok i d q h =
    let stations : 2 ≤ length d.passed = h.stations in
    let long : length (passes 0 d).passed ≡ length d.passed = length_changed d.passed 0 (λ m. m + 1) in
    let grows : written_of (passes 0 d) ≡ written_of d + 1 = written_grows d (omega arith) in
    let below : written_of d < total i d.accepted = less (written_of d) (total i d.accepted) q in
    let before : total i d.accepted ≤ written_of d + last_count i d.accepted = h.counted.before in
    record { stations = omega arith; counted = record { before = omega arith; most = omega arith } }

written_ok : (i : Planned) (x : End) → is_busy i x.out ≡ true → CountedOk i x → DirectionOk i (writes i x.out there_is_room).direction
written_ok i x q h =
    either (λ (w : Wrote). DirectionOk i w.direction) (is_busy i x.out) (writes_by i x.out there_is_room)
    (record { direction = x.out; answer = nothing })
    (λ r. goes_on_ok i (passes 0 x.out) (passes_ok i x.out q h)) (λ r. h)

called_ok : (i : Planned) (c : TheCall) (x : End) → is_busy i x.out ≡ false → CountedOk i x → DirectionOk i (accepts c x.out)
called_ok i c x q h = pushed_ok i c x.out x.out.waiting (at_most (written_of x.out) (total i x.out.accepted) q) h

later_ok : (n : ℕ) (i : Planned) (d : Direction) → DirectionOk i d → DirectionOk i (passes (suc n) d)
later_ok n i d h =
    let stations : 2 ≤ length d.passed = h.stations in
    let long : length (passes (suc n) d).passed ≡ length d.passed = length_changed d.passed (suc n) (λ m. m + 1) in
    let same : written_of (passes (suc n) d) ≡ written_of d = written_stays n d in
    let before : total i d.accepted ≤ written_of d + last_count i d.accepted = h.counted.before in
    let most : written_of d ≤ total i d.accepted = h.counted.most in
    record { stations = omega arith; counted = record { before = omega arith; most = omega arith } }

passed_ok : (station : ℕ) (i : Planned) (d : Direction) → 1 ≤ station → DirectionOk i d → DirectionOk i (passes station d)
passed_ok zero i d a h = absurd (omega arith)
passed_ok (suc n) i d a h = later_ok n i d h

reply_ok : (i : Planned) (c : TheCall) (d : Direction) → DirectionOk i d → DirectionOk i (accepts_or_waits i c d)
reply_ok i c d h =
    either (DirectionOk i) (is_busy i d) (record d { waiting = d.waiting ++ c ∷ [] }) (accepts c d)
    (λ q. record { stations = h.stations; counted = record { before = h.counted.before; most = h.counted.most } })
    (λ q. pushed_ok i c d d.waiting (at_most (written_of d) (total i d.accepted) q) h)

replied_ok : (i : Planned) (t : Taken) (x : End) → CountedOk i x → CountedOk i (replies i t x)
replied_ok i a_part x h = h
replied_ok i (whole c) x h =
    by_given (CountedOk i) (rule_at x.rules c.msg) x _ h (λ msg r. reply_ok i (record { msg = msg; args = c.args }) x.out h)

zero_first : (n : ℕ) → slice_index (replicate n 0) 0 ≡ 0
zero_first zero = refl
zero_first (suc n) = refl

fresh_ok : (i : Planned) (messages stations : ℕ) (q : Option Queue) → 2 ≤ stations → CountedOk i (unbound_end messages stations q)
fresh_ok i messages stations q a =
    let long = length_replicate {X = ℕ} stations 0 in
    let none = zero_first stations in
    record { stations = omega arith; counted = record { before = omega arith; most = omega arith } }

pub counts_keep : EndKeeps CountedOk
counts_keep = record {
  by_out = λ i x y e ok. subst (DirectionOk i) (sym e) ok;
  fresh = fresh_ok;
  called = called_ok;
  written = written_ok;
  passed = λ station i x a h. passed_ok station i x.out a h;
  taken = λ i x h. let stations : 2 ≤ length x.out.passed = h.stations in passed_ok (last_station x.out) i x.out (omega arith) h;
  replied = λ i t x q h. replied_ok i t x h;
}

pub writes_counted : (vs : List Event) → WritesAreCounted (reached start vs)
writes_counted vs e b i q r = (ends_reached CountedOk counts_keep vs e b i q r).counted
