-- Calls that an end came to send, of which the last wait.
use Rattle.std.proofs.Common.{◌≡◌, refl, sym, ap, ◌∙◌, ℕ, zero, suc, ◌-◌, ◌≤◌, min, List, [], length, take, drop, slice_get, Option, Some, arith}
use Rattle.std.proofs.lemmas.List.{length-take, take_all, take-append-drop}
use Rattle.fl_base.specs.declared.identity.EndId.{EndId}
use Rattle.fl_base.specs.Given.{given}
use Rattle.fl_base.specs.Prefix.{IsPrefix}
use Rattle.fl_value_data.specs.Value.{TheCall}
use Rattle.fl_core.specs.BoardView.{TheEndAtChannel}
use Rattle.fl_core.specs.View.{place_of}
use Rattle.fl_core_run.specs.Run.{TheRun}
use Rattle.fl_core_run.specs.Accepted.{count_waiting, accepted_of}

take_none : {X : Type 0} (n : ℕ) (none : List X) → none ≡ [] → take n none ≡ []
take_none zero none is = refl
take_none (suc n) none is = ap (take (suc n)) is

pub none_accepted : (waiting : ℕ) (calls : List TheCall) → calls ≡ [] → accepted_of waiting calls ≡ []
none_accepted waiting calls is = take_none (length calls - waiting) calls is

pub first_accepted : (waiting : ℕ) (calls : List TheCall) → IsPrefix (accepted_of waiting calls) calls
first_accepted waiting calls = (drop (length calls - waiting) calls, sym (take-append-drop (length calls - waiting) calls))

-- as many as all are all
pub all_accepted : (waiting : ℕ) (calls : List TheCall) → length calls ≤ length (accepted_of waiting calls) → accepted_of waiting calls ≡ calls
all_accepted waiting calls long =
    let count : length (accepted_of waiting calls) ≡ min (length calls - waiting) (length calls) = length-take (length calls - waiting) calls in
    take_all (length calls - waiting) calls (omega (arith, long, count))

pub none_wait : (calls : List TheCall) → accepted_of 0 calls ≡ calls
none_wait calls = take_all (length calls - 0) calls (omega arith)

-- how many wait at an end that is there
pub waiting_is : {S : Type 0} (t : TheRun S) (e : EndId) (place : ℕ) (seat : TheEndAtChannel) → place_of t.core e ≡ Some place
    → slice_get t.core.board.seats place ≡ Some seat → count_waiting t e ≡ length seat.end.outgoing.waiting
waiting_is t e place seat at there =
    ap (λ (o : Option ℕ). given o 0 λ p. given (slice_get t.core.board.seats p) 0 λ (x : TheEndAtChannel). length x.end.outgoing.waiting) at
    ∙ ap (λ (o : Option TheEndAtChannel). given o 0 λ x. length x.end.outgoing.waiting) there
