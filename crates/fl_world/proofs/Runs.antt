-- Events one after another: what stands after one more, and what is left of a set-up.
use Rattle.std.proofs.Common.{◌≡◌, ◌∙◌, inr, refl, sym, ap, subst, ℕ, ◌+◌, ◌<◌, ◌≤◌, ◌&&◌, ◌||◌, Bool, true, false, Some, None, List, [], ◌∷◌, ◌++◌, length, map, take, drop, get_or, Result, Ok, Err, IfOk, OnErr, arith}
use Rattle.std.specs.Prelude.{is_some, nat_lt}
use Rattle.std.specs.List.{list_all}
use Rattle.std.specs.declared.alloc.AllocError.{AllocError}
use Rattle.std.proofs.lemmas.Bool.{le-ltb}
use Rattle.std.proofs.lemmas.List.{take_more, drop_more, map-append, take_all, take-append-drop, length-map, length-take-le}
use Rattle.std.proofs.lemmas.List.Folds.{list_all-append}
use Rattle.fl_base.specs.Numbered.{most_cores}
use Rattle.fl_model.specs.Events.{Event, add_interface, set_cores, add_link, add_dispatcher, export, bind, call, show, write}
use Rattle.fl_model.specs.Events.{turn, ack, register, deregister, reply, monitor_write, forward, monitor_ack}
use Rattle.fl_model.specs.Events.{Answer, done, accepted, nothing, full, written, handle, part, ready, quiet, forwarded, opened, opening_refused, words, refused}
use Rattle.fl_model.specs.State.{State, start}
use Rattle.fl_model.specs.Worlds.{start_with}
use Rattle.fl_model.specs.Step.{step}
use Rattle.fl_model.specs.Runs.{answers_to, reached}
use Rattle.fl_model.specs.Views.{event_of, answer_of}
use Rattle.fl_model.specs.declared.answer.Answer.{Answer as RustAnswer}
use Rattle.fl_model.specs.declared.event.Event.{Event as RustEvent}
use Rattle.fl_world_refines.specs.View.{TheWorld}
use Rattle.fl_world_refines.specs.ShowsState.{Shows}
use Rattle.fl_world_refines.specs.Laws.{StepAgrees, FreshShows}
use Rattle.fl_world_refines.specs.Step.{settled, settled_by, fresh_world}
use Rattle.fl_model.specs.Steps as machine
use Rattle.fl_world.specs.declared.booting.BootFault.{BootFault}
use Rattle.fl_world.specs.declared.booting.BootFault.TheVariants.{Refused, Memory}
use Rattle.fl_world.specs.Stepping.{StepsAlike, fault_in, is_interface, leaves_cores_open, RunsAlike, ShowsAfterSome}
use Rattle.fl_world.specs.Booting.{TheConfig, has_bad_cores, passes, Passes, IsFaultOf, StopsBy, StopsAt}

-- ---- whether the number of cores stands

stands_by : (a : Answer) (w : TheWorld) → is_some (fault_in a) ≡ false → settled_by a w ≡ record w { may_set_cores = false }
stands_by done w h = refl
stands_by accepted w h = refl
stands_by nothing w h = refl
stands_by full w h = refl
stands_by (written k n) w h = refl
stands_by (handle e c) w h = refl
stands_by (part e) w h = refl
stands_by (ready e) w h = refl
stands_by (quiet e) w h = refl
stands_by forwarded w h = refl
stands_by (opened e) w h = refl
stands_by (opening_refused n e) w h = refl
stands_by (words frag) w h = refl
stands_by (refused fault) w h = absurd (cc)

pub open_by : (a : Answer) (w : TheWorld) → is_some (fault_in a) ≡ true → settled_by a w ≡ w
open_by done w h = absurd (cc)
open_by accepted w h = absurd (cc)
open_by nothing w h = absurd (cc)
open_by full w h = absurd (cc)
open_by (written k n) w h = absurd (cc)
open_by (handle e c) w h = absurd (cc)
open_by (part e) w h = absurd (cc)
open_by (ready e) w h = absurd (cc)
open_by (quiet e) w h = absurd (cc)
open_by forwarded w h = absurd (cc)
open_by (opened e) w h = absurd (cc)
open_by (opening_refused n e) w h = absurd (cc)
open_by (words frag) w h = absurd (cc)
open_by (refused fault) w h = refl

-- an event that adds no interface
pub by_answer : (v : Event) (a : Answer) (w : TheWorld) → is_interface v ≡ false → settled v a w ≡ settled_by a w
by_answer (add_interface i plan) a w h = absurd (cc)
by_answer (set_cores n) a w h = refl
by_answer (add_link x y size) a w h = refl
by_answer (add_dispatcher core) a w h = refl
by_answer (export name d i) a w h = refl
by_answer (bind client i name kind) a w h = refl
by_answer (call e c) a w h = refl
by_answer (show e) a w h = refl
by_answer (write e) a w h = refl
by_answer (turn d) a w h = refl
by_answer (ack e) a w h = refl
by_answer (register e) a w h = refl
by_answer (deregister e) a w h = refl
by_answer (reply e msg answer) a w h = refl
by_answer (monitor_write core neighbour) a w h = refl
by_answer (forward core neighbour) a w h = refl
by_answer (monitor_ack core neighbour) a w h = refl

pub of_interface : (v : Event) (a : Answer) (w : TheWorld) → is_interface v ≡ true → settled v a w ≡ w
of_interface (add_interface i plan) a w h = refl
of_interface (set_cores n) a w h = absurd (cc)
of_interface (add_link x y size) a w h = absurd (cc)
of_interface (add_dispatcher core) a w h = absurd (cc)
of_interface (export name d i) a w h = absurd (cc)
of_interface (bind client i name kind) a w h = absurd (cc)
of_interface (call e c) a w h = absurd (cc)
of_interface (show e) a w h = absurd (cc)
of_interface (write e) a w h = absurd (cc)
of_interface (turn d) a w h = absurd (cc)
of_interface (ack e) a w h = absurd (cc)
of_interface (register e) a w h = absurd (cc)
of_interface (deregister e) a w h = absurd (cc)
of_interface (reply e msg answer) a w h = absurd (cc)
of_interface (monitor_write core neighbour) a w h = absurd (cc)
of_interface (forward core neighbour) a w h = absurd (cc)
of_interface (monitor_ack core neighbour) a w h = absurd (cc)

-- it stays open
pub stays_open : (v : Event) (a : Answer) (w : TheWorld) → leaves_cores_open v a ≡ true → settled v a w ≡ w
stays_open v a w h = by (is_interface v) refl
  where
    by : (b : Bool) → is_interface v ≡ b → settled v a w ≡ w
    by true is = of_interface v a w is
    by false is = by_answer v a w is ∙ open_by a w (sym (ap (λ (x : Bool). x || is_some (fault_in a)) is) ∙ h)

-- it stands
pub closes : (v : Event) (a : Answer) (w : TheWorld) → leaves_cores_open v a ≡ false → settled v a w ≡ record w { may_set_cores = false }
closes v a w h = by (is_interface v) refl
  where
    by : (b : Bool) → is_interface v ≡ b → settled v a w ≡ record w { may_set_cores = false }
    by true is = absurd (cc)
    by false is = by_answer v a w is ∙ stands_by a w (sym (ap (λ (x : Bool). x || is_some (fault_in a)) is) ∙ h)

-- the same by the answer alone, and by the fields of the world before
pub closed_by : (a : Answer) (w base : TheWorld) → base ≡ w → is_some (fault_in a) ≡ false → record base { may_set_cores = false } ≡ settled_by a w
closed_by a w base same h = ap (λ (x : TheWorld). record x { may_set_cores = false }) same ∙ sym (stands_by a w h)

-- ---- what holds of an outcome

-- what holds where memory is refused
pub whichever : {X E : Type 0} (P : Type 0) (r : Result X E) → P → OnErr r P
whichever P (Ok x) h = tt
whichever P (Err e) h = h

-- ---- the machine that a script runs on

pub steps_as : {A : Type 0} (meaning : A → Answer) (v : Event) (w w2 : TheWorld) (r : Result A AllocError)
    → IfOk r (λ a. StepsAlike v w (meaning a) w2) → IfOk r (λ a. machine.Steps Shows w w2 v (meaning a))
steps_as meaning v w w2 (Err e) h = tt
steps_as meaning v w w2 (Ok a) h = record { shown = λ s is. (h s is).shows; answered = λ s is. sym (h s is).answer }

pub shows_still : {X E : Type 0} (r : Result X E) (w w2 : TheWorld) → OnErr r (w2 ≡ w) → OnErr r ((s : State) → Shows w s → Shows w2 s)
shows_still (Ok x) w w2 h = tt
shows_still (Err e) w w2 h = λ s is. subst (λ (x : TheWorld). Shows x s) (sym h) is

pub starts : (law : FreshShows) (r : Result TheWorld AllocError) → IfOk r (λ w. w ≡ fresh_world 1) → IfOk r (λ w. Shows w start)
starts law (Err e) h = tt
starts law (Ok w) h = subst (λ (x : TheWorld). Shows x start) (sym h) (law 1 (omega arith) (omega arith))

-- ---- one event more

reached_more : (s : State) (vs : List Event) (v : Event) → reached s (vs ++ v ∷ []) ≡ (step (reached s vs) v).state
reached_more s [] v = refl
reached_more s (x ∷ vs) v = reached_more (step s x).state vs v

answered_more : (s : State) (vs : List Event) (v : Event) → answers_to s (vs ++ v ∷ []) ≡ answers_to s vs ++ (step (reached s vs) v).answer ∷ []
answered_more s [] v = refl
answered_more s (x ∷ vs) v = ap (λ (said : List Answer). (step s x).answer ∷ said) (answered_more (step s x).state vs v)

runs_on : (s : State) (vs : List Event) (v : Event) (said : List Answer) (a : Answer) (w w2 : TheWorld) → RunsAlike s vs said w
    → StepAgrees v (reached s vs) a w2 → RunsAlike s (vs ++ v ∷ []) (said ++ a ∷ []) w2
runs_on s vs v said a w w2 h k = record {
  answered = ap (λ (l : List Answer). l ++ a ∷ []) h.answered ∙ ap (λ (x : Answer). answers_to s vs ++ x ∷ []) (sym k.answer) ∙ sym (answered_more s vs v);
  shown = subst (λ (t : State). Shows w2 t) (sym (reached_more s vs v)) k.shows;
}

-- the first k + 1 of a list
pub mapped_more : {X Y : Type 0} (f : X → Y) (xs : List X) (k : ℕ) (x d : X) → k < length xs → x ≡ get_or xs k d
    → map f (take (k + 1) xs) ≡ map f (take k xs) ++ f x ∷ []
mapped_more f xs k x d below is =
    ap (map f) (take_more xs k d below) ∙ map-append f (take k xs) (get_or xs k d ∷ [])
    ∙ ap (λ y. map f (take k xs) ++ f y ∷ []) (sym is)

-- a turn of the loop over events
pub run_turn : (s : State) (xs : List RustEvent) (k : ℕ) (x d : RustEvent) (said later : List RustAnswer) (a : RustAnswer) (w w2 : TheWorld)
    → k < length xs → x ≡ get_or xs k d → later ≡ said ++ a ∷ [] → RunsAlike s (map event_of (take k xs)) (map answer_of said) w
    → StepAgrees (event_of x) (reached s (map event_of (take k xs))) (answer_of a) w2
    → RunsAlike s (map event_of (take (k + 1) xs)) (map answer_of later) w2
run_turn s xs k x d said later a w w2 below is more h one =
    subst (λ (vs : List Event). RunsAlike s vs (map answer_of later) w2) (sym (mapped_more event_of xs k x d below is))
    (subst (λ (l : List Answer). RunsAlike s (map event_of (take k xs) ++ event_of x ∷ []) l w2)
    (sym (ap (map answer_of) more ∙ map-append answer_of said (a ∷ [])))
    (runs_on s (map event_of (take k xs)) (event_of x) (map answer_of said) (answer_of a) w w2 h one))

pub run_begins : (s : State) (xs : List RustEvent) (said : List RustAnswer) (w : TheWorld) → said ≡ [] → Shows w s
    → RunsAlike s (map event_of (take 0 xs)) (map answer_of said) w
run_begins s xs said w none h = record { answered = ap (map answer_of) none; shown = h }

pub run_ends : (s : State) (xs : List RustEvent) (k : ℕ) (said : List RustAnswer) (w : TheWorld) → length xs ≤ k
    → RunsAlike s (map event_of (take k xs)) (map answer_of said) w → RunsAlike s (map event_of xs) (map answer_of said) w
run_ends s xs k said w past h = subst (λ (l : List RustEvent). RunsAlike s (map event_of l) (map answer_of said) w) (take_all k xs past) h

-- it stops before event k
pub run_stops : (s : State) (xs : List RustEvent) (k : ℕ) (w w2 : TheWorld) → w2 ≡ w → Shows w (reached s (map event_of (take k xs)))
    → ShowsAfterSome s (map event_of xs) w2
run_stops s xs k w w2 same h = record {
  done = map event_of (take k xs);
  left = map event_of (drop k xs);
  events_are = ap (map event_of) (sym (take-append-drop k xs)) ∙ map-append event_of (take k xs) (drop k xs);
  shown = subst (λ (x : TheWorld). Shows x (reached s (map event_of (take k xs)))) (sym same) h;
}

-- ---- a set-up

pub set_up_begins : (s : State) (xs : List RustEvent) (w : TheWorld) → Shows w s → Passes s (map event_of (take 0 xs)) w
set_up_begins s xs w h = record { passed = refl; shown = h }

passes_on : (s : State) (vs : List Event) (v : Event) (w w2 : TheWorld) → Passes s vs w → Passes (reached s vs) (v ∷ []) w2
    → Passes s (vs ++ v ∷ []) w2
passes_on s vs v w w2 h one = record {
  passed = ap (list_all passes) (answered_more s vs v) ∙ list_all-append passes (answers_to s vs) ((step (reached s vs) v).answer ∷ [])
      ∙ ap (λ (b : Bool). b && list_all passes ((step (reached s vs) v).answer ∷ [])) h.passed ∙ one.passed;
  shown = subst (λ (t : State). Shows w2 t) (sym (reached_more s vs v)) one.shown;
}

-- a turn of the loop over a set-up's events
pub set_up_turn : (s : State) (xs : List RustEvent) (k : ℕ) (x d : RustEvent) (w w2 : TheWorld) → k < length xs → x ≡ get_or xs k d
    → Passes s (map event_of (take k xs)) w → Passes (reached s (map event_of (take k xs))) (event_of x ∷ []) w2
    → Passes s (map event_of (take (k + 1) xs)) w2
set_up_turn s xs k x d w w2 below is h one =
    subst (λ (vs : List Event). Passes s vs w2) (sym (mapped_more event_of xs k x d below is))
    (passes_on s (map event_of (take k xs)) (event_of x) w w2 h one)

pub set_up_ends : (s : State) (xs : List RustEvent) (k : ℕ) (w : TheWorld) → length xs ≤ k → Passes s (map event_of (take k xs)) w
    → Passes s (map event_of xs) w
set_up_ends s xs k w past h = subst (λ (l : List RustEvent). Passes s (map event_of l) w) (take_all k xs past) h

-- event k and those behind it
from_there : (xs : List RustEvent) (k : ℕ) (x d : RustEvent) → k < length xs → x ≡ get_or xs k d
    → map event_of xs ≡ map event_of (take k xs) ++ event_of x ∷ map event_of (drop (k + 1) xs)
from_there xs k x d below is =
    ap (map event_of) (sym (take-append-drop k xs)) ∙ map-append event_of (take k xs) (drop k xs)
    ∙ ap (λ (l : List RustEvent). map event_of (take k xs) ++ map event_of l) (drop_more xs k d below)
    ∙ ap (λ (y : RustEvent). map event_of (take k xs) ++ event_of y ∷ map event_of (drop (k + 1) xs)) (sym is)

so_many : (xs : List RustEvent) (k : ℕ) → k < length xs → length (map event_of (take k xs)) ≡ k
so_many xs k below = length-map (take k xs) event_of ∙ length-take-le k xs (omega (arith, below))

-- it stops at event k
pub set_up_stops : (s : State) (xs : List RustEvent) (k : ℕ) (x d : RustEvent) (w : TheWorld) (fault : BootFault) → k < length xs → x ≡ get_or xs k d
    → Passes s (map event_of (take k xs)) w → StopsAt (k + 1) (step (reached s (map event_of (take k xs))) (event_of x)) fault
    → StopsBy s (map event_of xs) fault
set_up_stops s xs k x d w Memory below is h stops = tt
set_up_stops s xs k x d w (Refused number place) below is h stops = record {
  before = map event_of (take k xs);
  event = event_of x;
  behind = map event_of (drop (k + 1) xs);
  events_are = from_there xs k x d below is;
  passed = h.passed;
  answer = stops.0;
  place_is = stops.1 ∙ ap (λ (n : ℕ). n + 1) (sym (so_many xs k below));
}

-- ---- a boot

pub good_cores : (c : TheConfig) (n : ℕ) → n ≡ c.cores → 1 ≤ n → n ≤ most_cores → has_bad_cores c ≡ false
good_cores c n same one few =
    ap (λ (m : ℕ). nat_lt m 1 || nat_lt most_cores m) (sym same)
    ∙ ap (λ (b : Bool). b || nat_lt most_cores n) (le-ltb n 1 one) ∙ le-ltb most_cores n few

-- what holds of the set-up in all states that a world of so many cores shows
pub boots_by : (P : State → List Event → Type 0) (law : FreshShows) (c : TheConfig) (n : ℕ) (w : TheWorld) → n ≡ c.cores → 1 ≤ n → n ≤ most_cores
    → w ≡ fresh_world n → ((s : State) → Shows w s → P s c.setup) → P (start_with c.cores) c.setup
boots_by P law c n w same one few fresh h =
    subst (λ (m : ℕ). P (start_with m) c.setup) same (h (start_with n) (subst (λ (x : TheWorld). Shows x (start_with n)) (sym fresh) (law n one few)))

pub stopped : (c : TheConfig) (fault : BootFault) → has_bad_cores c ≡ false → StopsBy (start_with c.cores) c.setup fault → IsFaultOf c fault
stopped c Memory good h = good
stopped c (Refused number place) good h = inr (good, h)

-- ---- faults of answers

pub by_none : (a b : Answer) → a ≡ b → fault_in b ≡ None → is_some (fault_in a) ≡ false
by_none a b same h = ap (λ (x : Answer). is_some (fault_in x)) same ∙ ap is_some h

pub by_some : (a : Answer) (n : ℕ) → fault_in a ≡ Some n → a ≡ refused n
by_some (refused m) n h = cc
by_some done n h = absurd (cc)
by_some accepted n h = absurd (cc)
by_some nothing n h = absurd (cc)
by_some full n h = absurd (cc)
by_some (written i j) n h = absurd (cc)
by_some (handle e c) n h = absurd (cc)
by_some (part e) n h = absurd (cc)
by_some (ready e) n h = absurd (cc)
by_some (quiet e) n h = absurd (cc)
by_some forwarded n h = absurd (cc)
by_some (opened e) n h = absurd (cc)
by_some (opening_refused i e) n h = absurd (cc)
by_some (words frag) n h = absurd (cc)
