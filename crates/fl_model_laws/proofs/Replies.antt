-- Replies that wait: at most 16, and only while the end is busy.
use Rattle.std.proofs.Common.{◌≡◌, ◌≢◌, refl, sym, ◌∙◌, ap, subst, ℕ, zero, suc, ◌+◌, ◌<◌, ◌≤◌, ◌&&◌, nat_le, nat_lt}
use Rattle.std.proofs.Common.{Bool, true, false, List, [], ◌∷◌, ◌++◌, length, slice_get, slice_index, slice_set}
use Rattle.std.proofs.Common.{Option, Some, None, is_some, arith, max}
use Rattle.std.proofs.lemmas.List.{length-append}
use Rattle.std.proofs.lemmas.Bool.Decides.{nat_tests}
use Rattle.fl_value_data.specs.Value.{TheCall}
use Rattle.fl_model.specs.Given.{changed_at}
use Rattle.fl_model.specs.Calls.{Planned, fragments, total}
use Rattle.fl_model.specs.Rings.{there_is_room}
use Rattle.fl_model.specs.Events.{nothing}
use Rattle.fl_model.specs.Ends.{Direction, End, passes, is_busy, accepts, accepts_or_waits, accepts_waiting, goes_on, Wrote, writes_by, writes, has_rules, holds_back, rule_at, Taken, whole, a_part, takes_one, last_station, replies, written_of}
use Rattle.fl_model_laws.proofs.Cases.{either, by_given}
use Rattle.fl_model_laws.proofs.Small.{less, length_set}

-- ---- one end

pub record EndOk (i : Planned) (x : End) : Type 0 where
  pub stations : 2 ≤ length x.out.passed
  pub busy : x.out.waiting ≢ [] → is_busy i x.out ≡ true
  pub few : length x.out.waiting ≤ 16

pub length_changed : {X : Type 0} (xs : List X) (n : ℕ) (f : X → X) → length (changed_at n f xs) ≡ length xs
length_changed {X} xs n f =
    by_given (λ (ys : List X). length ys ≡ length xs) (slice_get xs n) xs (λ x. slice_set xs n (f x)) refl (λ x q. length_set xs n (f x))

set_later : (xs : List ℕ) (n y : ℕ) → slice_index (slice_set xs (suc n) y) 0 ≡ slice_index xs 0
set_later [] n y = refl
set_later (x ∷ xs) n y = refl

-- a station behind the first one leaves what is written
pub written_stays : (n : ℕ) (d : Direction) → written_of (passes (suc n) d) ≡ written_of d
written_stays n d =
    by_given (λ (ys : List ℕ). slice_index ys 0 ≡ slice_index d.passed 0) (slice_get d.passed (suc n)) d.passed _ refl
    (λ x q. set_later d.passed n (x + 1))

first_grows : (xs : List ℕ) → 1 ≤ length xs → slice_index (changed_at 0 (λ n. n + 1) xs) 0 ≡ slice_index xs 0 + 1
first_grows [] h = absurd (omega arith)
first_grows (x ∷ xs) h = refl

pub written_grows : (d : Direction) → 1 ≤ length d.passed → written_of (passes 0 d) ≡ written_of d + 1
written_grows d h = first_grows d.passed h

abbrev with_out : (Direction → Direction) → End → End
with_out f x = record x { out = f x.out }

later_ok : (n : ℕ) (i : Planned) (x : End) → EndOk i x → EndOk i (with_out (passes (suc n)) x)
later_ok n i x h =
    let same : written_of (passes (suc n) x.out) ≡ written_of x.out = written_stays n x.out in
    let long : length (changed_at (suc n) (λ m. m + 1) x.out.passed) ≡ length x.out.passed = length_changed x.out.passed (suc n) (λ m. m + 1) in
    let stations : 2 ≤ length x.out.passed = h.stations in
    record {
      stations = omega arith;
      busy = λ w. subst (λ (m : ℕ). nat_lt m (total i x.out.accepted) ≡ true) (sym same) (h.busy w);
      few = h.few;
    }

pub station_ok : (n : ℕ) (i : Planned) (x : End) → 1 ≤ n → EndOk i x → EndOk i (with_out (passes n) x)
station_ok zero i x a h = absurd (omega arith)
station_ok (suc n) i x a h = later_ok n i x h

pub taken_ok : (i : Planned) (x : End) → EndOk i x → EndOk i (with_out takes_one x)
taken_ok i x h =
    let stations : 2 ≤ length x.out.passed = h.stations in
    station_ok (last_station x.out) i x (omega arith) h

pub total_push : (i : Planned) (cs : List TheCall) (c : TheCall) → total i (cs ++ c ∷ []) ≡ total i cs + fragments i c
total_push i [] c = omega arith
total_push i (d ∷ cs) c =
    let ih : total i (cs ++ c ∷ []) ≡ total i cs + fragments i c = total_push i cs c in
    let k : ℕ = fragments i d in omega arith

at_least_one : (k : ℕ) → 1 ≤ max 1 k
at_least_one k = omega arith

pub some_fragments : (i : Planned) (c : TheCall) → 1 ≤ fragments i c
some_fragments i c = at_least_one _

busy_true : (a b : ℕ) → a < b → nat_lt a b ≡ true
busy_true a b h = grind (arith, nat_tests, h)

pub at_most : (a b : ℕ) → nat_lt a b ≡ false → b ≤ a
at_most a b h = grind (arith, nat_tests, h)

-- the first that waits is accepted: then the end is busy with it
next_ok : (i : Planned) (x : End) (d : Direction) (ws : List TheCall) → d.waiting ≡ ws → 2 ≤ length d.passed → length d.waiting ≤ 16
    → written_of d ≤ total i d.accepted → EndOk i (record x { out = accepts_waiting ws d })
next_ok i x d [] q a b c = record { stations = a; busy = λ w. absurd (w q); few = b }
next_ok i x d (w ∷ ws) q a b c =
    let longer : total i (d.accepted ++ w ∷ []) ≡ total i d.accepted + fragments i w = total_push i d.accepted w in
    let some : 1 ≤ fragments i w = some_fragments i w in
    let shorter : length d.waiting ≡ length ws + 1 = ap length q ∙ omega arith in
    record { stations = a; busy = λ u. busy_true (written_of d) (total i (d.accepted ++ w ∷ [])) (omega arith); few = omega arith }

goes_on_ok : (i : Planned) (x : End) (d : Direction) → 2 ≤ length d.passed → length d.waiting ≤ 16 → written_of d ≤ total i d.accepted
    → EndOk i (record x { out = goes_on i d })
goes_on_ok i x d a b c =
    either (λ (e : Direction). EndOk i (record x { out = e })) (is_busy i d) d (accepts_waiting d.waiting d)
    (λ q. record { stations = a; busy = λ w. q; few = b })
    (λ q. next_ok i x d d.waiting refl a b c)

pub written_ok : (i : Planned) (x : End) → is_busy i x.out ≡ true → EndOk i x → EndOk i (with_out (λ d. (writes i d there_is_room).direction) x)
written_ok i x q h =
    let grows : written_of (passes 0 x.out) ≡ written_of x.out + 1 = written_grows x.out (let k : 2 ≤ length x.out.passed = h.stations in omega arith) in
    let below : written_of x.out < total i x.out.accepted = less (written_of x.out) (total i x.out.accepted) q in
    let long : length (changed_at 0 (λ m. m + 1) x.out.passed) ≡ length x.out.passed = length_changed x.out.passed 0 (λ m. m + 1) in
    let stations : 2 ≤ length x.out.passed = h.stations in
    let after : EndOk i (record x { out = goes_on i (passes 0 x.out) }) = goes_on_ok i x (passes 0 x.out) (omega arith) h.few (omega arith) in
    either (λ (w : Wrote). EndOk i (record x { out = w.direction })) (is_busy i x.out) (writes_by i x.out there_is_room)
    (record { direction = x.out; answer = nothing }) (λ r. after)
    (λ r. absurd (let u : true ≡ false = sym q ∙ r in cc))

pub called_ok : (i : Planned) (c : TheCall) (x : End) → is_busy i x.out ≡ false → EndOk i x → EndOk i (with_out (accepts c) x)
called_ok i c x q h = record {
  stations = h.stations;
  busy = λ w. absurd (let t : is_busy i x.out ≡ true = h.busy w in let u : true ≡ false = sym t ∙ q in cc);
  few = h.few;
}

-- a reply, where fewer than 16 wait
reply_ok : (i : Planned) (c : TheCall) (x : End) → length x.out.waiting ≤ 15 → EndOk i x → EndOk i (with_out (accepts_or_waits i c) x)
reply_ok i c x a h =
    let longer : length (x.out.waiting ++ c ∷ []) ≡ length x.out.waiting + 1 = length-append x.out.waiting (c ∷ []) in
    either (λ (e : Direction). EndOk i (record x { out = e })) (is_busy i x.out) (record x.out { waiting = x.out.waiting ++ c ∷ [] }) (accepts c x.out)
    (λ q. record { stations = h.stations; busy = λ w. q; few = omega arith })
    (λ q. called_ok i c x q h)

has_rule : (rules : List (Option ℕ)) (msg answer : ℕ) → rule_at rules msg ≡ Some answer → Rattle.std.specs.List.list_any is_some rules ≡ true
has_rule [] msg answer h = absurd (cc)
has_rule (None ∷ rules) zero answer h = absurd (cc)
has_rule (Some m ∷ rules) zero answer h = refl
has_rule (None ∷ rules) (suc msg) answer h = has_rule rules msg answer h
has_rule (Some m ∷ rules) (suc msg) answer h = refl

few_by : (a : Bool) (n : ℕ) → a ≡ true → (a && nat_le 16 n) ≡ false → n ≤ 15
few_by true n q h = grind (arith, nat_tests, h)
few_by false n q h = absurd (cc)

pub replied_ok : (i : Planned) (t : Taken) (x : End) → holds_back x ≡ false → EndOk i x → EndOk i (replies i t x)
replied_ok i a_part x q h = h
replied_ok i (whole c) x q h =
    by_given (EndOk i) (rule_at x.rules c.msg) x _ h
    (λ msg r. reply_ok i (record { msg = msg; args = c.args }) x (few_by (has_rules x) (length x.out.waiting) (has_rule x.rules c.msg msg r) q) h)
