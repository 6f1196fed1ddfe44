-- Which end is due at a dispatcher of a core by itself, and its turn.
use Rattle.std.proofs.Common.{◌≡◌, refl, sym, ◌∙◌, ap, subst, ℕ, zero, suc, Bool, true, false, if◌then◌else◌, List, [], ◌∷◌, length, map, slice_get}
use Rattle.std.proofs.Common.{Option, Some, None}
use Rattle.fl_base.specs.declared.identity.EndId.{EndId}
use Rattle.fl_base.specs.Given.{given}
use Rattle.fl_lists.specs.ThreeLists.{ThreeLists}
use Rattle.fl_waitset.specs.Waiting.{next_pick, first_of}
use Rattle.fl_core.specs.BoardView.{TheDispatcher, due_in, end_picked, due as due_on}
use Rattle.fl_core.specs.declared.wiring.Inlet.{Inlet}
use Rattle.fl_core.specs.declared.wiring.Inlet.TheVariants as inlet
use Rattle.fl_core.specs.declared.wiring.WiredEnd.{WiredEnd}
use Rattle.fl_core.specs.View.{TheCore, place_of, inlet_of}
use Rattle.fl_core.specs.Sound.{IsCore}
use Rattle.fl_model.specs.Waits.{Dispatcher, due, first_due, end_due}
use Rattle.fl_model.specs.Monitors.{Core}
use Rattle.fl_model.specs.State.{dispatcher_of}
use Rattle.fl_world_refines.specs.View.{TheWorld}
use Rattle.fl_world_refines.specs.ShowsState.{name_at, DispatcherShows}
use Rattle.fl_world_refines.specs.Laws.{StepsAgree}
use Rattle.fl_world_refines.proofs.FramesBase.{gets, same_some, not_both}
use Rattle.fl_world_refines.proofs.WritingPieces.{dispatcher_shown}
use Rattle.fl_core.specs.declared.core_job.CoreJob.{CoreJob}
use Rattle.fl_core.specs.declared.core_job.CoreJob.TheVariants as job
use Rattle.fl_core_run.specs.Run.{SideRelations, TheRun, lends_in, lent_due}
use Rattle.fl_core.specs.Jobs.{is_before_calls as is_before}
use Rattle.fl_core_run.specs.Steps.{awaits, due_turn, TurnsIf, TurnsAt, TakesTurn}
use Rattle.fl_core_refines.specs.AloneTurns.{MachineRun, next_job, here, due_at, is_before_calls, turns_at, takes_turn}
use Rattle.fl_core_refines.specs.AloneShown.{world_with, ShowsAlone}
use Rattle.fl_core_refines.proofs.Standing.{Wired, wired}
use Rattle.fl_core_refines.proofs.Progress.{is_few, same_job}
use Rattle.fl_core_refines.proofs.AloneTurning.{turn_steps}

-- ---- lists

at_both : {X Y Z : Type 0} (f : X → Z) (g : Y → Z) (xs : List X) (ys : List Y) (n : ℕ) (x : X) → map f xs ≡ map g ys → slice_get xs n ≡ Some x
    → (y : Y) × (slice_get ys n ≡ Some y) × (f x ≡ g y)
at_both f g [] ys n x q r = absurd (cc)
at_both f g (v ∷ xs) [] n x q r = absurd (cc)
at_both f g (v ∷ xs) (u ∷ ys) zero x q r =
    let a : v ≡ x = cc in
    let b : f v ≡ g u = cc in
    (u, refl, ap f (sym a) ∙ b)
at_both f g (v ∷ xs) (u ∷ ys) (suc n) x q r = at_both f g xs ys n x (cc) r

none_both : {X Y Z : Type 0} (f : X → Z) (g : Y → Z) (xs : List X) (ys : List Y) (n : ℕ) → map f xs ≡ map g ys → slice_get xs n ≡ None → slice_get ys n ≡ None
none_both f g [] [] n q r = refl
none_both f g [] (u ∷ ys) n q r = absurd (cc)
none_both f g (v ∷ xs) [] n q r = refl
none_both f g (v ∷ xs) (u ∷ ys) zero q r = absurd (cc)
none_both f g (v ∷ xs) (u ∷ ys) (suc n) q r = none_both f g xs ys n (cc) r

-- ---- which end is due

wired_end_named : (o : Option WiredEnd) (e : EndId) → given o None (λ p. Some p.name) ≡ Some e → (p : WiredEnd) × (o ≡ Some p) × (p.name ≡ e)
wired_end_named None e q = absurd (cc)
wired_end_named (Some p) e q = (p, refl, cc)

-- the end of a name whose place a channel has
placed : (c : TheCore) (place : ℕ) (e : EndId) → IsCore c → name_at c place ≡ Some e → place_of c e ≡ Some place
placed c place e is q =
    let p = wired_end_named (slice_get c.wired_ends place) e q in
    ap (place_of c) (sym p.2) ∙ is.named place p.0 p.1

-- and it has no other
pub one_name : (c : TheCore) (place : ℕ) (e f : EndId) → IsCore c → place_of c e ≡ Some place → place_of c f ≡ Some place → e ≡ f
one_name c place e f is p q =
    let x = is.placed e place p in
    let y = is.placed f place q in
    let same : x.wired_end ≡ y.wired_end = same_some (slice_get c.wired_ends place) x.wired_end y.wired_end x.wired_end_is y.wired_end_is in
    sym x.name_is ∙ ap (λ (z : WiredEnd). z.name) same ∙ y.name_is

-- an end is due in the machine exactly where one is due at the core, and it is that
abbrev pub SameDue : TheCore → Option ℕ → Option EndId → Type 0
SameDue c None o = o ≡ None
SameDue c (Some place) o = (e : EndId) × (o ≡ Some e) × (place_of c e ≡ Some place)

by_channel : (c : TheCore) (there : TheDispatcher) (x : Dispatcher) (n : ℕ) → IsCore c → DispatcherShows c x there
    → SameDue c (slice_get there.ends n) (slice_get x.ends n)
by_channel c there x n is shown = by (slice_get there.ends n) refl
  where
    by : (o : Option ℕ) → slice_get there.ends n ≡ o → SameDue c o (slice_get x.ends n)
    by None q = none_both (name_at c) (λ e. Some e) there.ends x.ends n shown.ends q
    by (Some place) q =
        let both = at_both (name_at c) (λ e. Some e) there.ends x.ends n place shown.ends q in
        (both.0, both.1, placed c place both.0 is both.2)

by_lists : (c : TheCore) (there : TheDispatcher) (x : Dispatcher) (ps qs : List ℕ) → IsCore c → DispatcherShows c x there
    → SameDue c (end_picked there.ends (first_of ps qs)) (end_due x (first_due ps qs))
by_lists c there x [] [] is shown = refl
by_lists c there x (n ∷ ps) qs is shown = by_channel c there x n is shown
by_lists c there x [] (n ∷ qs) is shown = by_channel c there x n is shown

none_shown : {X Y : Type 0} (xs : List X) (ys : List Y) (n : ℕ) → length ys ≡ length xs → slice_get xs n ≡ None → slice_get ys n ≡ None
none_shown {X} {Y} xs ys n e q = by (slice_get ys n) refl
  where
    by : (o : Option Y) → slice_get ys n ≡ o → slice_get ys n ≡ None
    by None r = r
    by (Some y) r = let g = gets ys xs n y (sym e) r in not_both (slice_get xs n) g.0 q g.1

pub same_due : {S : Type 0} (w : TheWorld) (s : TheRun S) (a : MachineRun) (d : ℕ) → ShowsAlone w s a → SameDue s.core (due_on s.core.board d) (due_at a.state d)
same_due w s a d x = by (slice_get s.core.board.dispatchers d) refl
  where
    by : (o : Option TheDispatcher) → slice_get s.core.board.dispatchers d ≡ o → SameDue s.core (due_in o) (due_at a.state d)
    by None q =
        let p = x.shows.showing in
        let k = gets (s.core ∷ []) a.state.cores 0 s.core (sym p.cores.count) refl in
        let count = (p.cores.each 0 k.0 s.core k.1 refl).count in
        let none = none_shown s.core.board.dispatchers k.0.dispatchers d (sym count) q in
        let found : dispatcher_of a.state (here d) ≡ None = ap (λ (o : Option Core). given o None λ y. slice_get y.dispatchers d) k.1 ∙ none in
        ap (λ (o : Option Dispatcher). given o None λ y. end_due y (due y)) found
    by (Some there) q =
        let found = dispatcher_shown (world_with w s) a.state (here d) s.core there x.shows.showing refl q in
        let machine : due_at a.state d ≡ end_due found.0 (due found.0) = ap (λ (o : Option Dispatcher). given o None λ y. end_due y (due y)) found.1 in
        let lists : end_picked there.ends (next_pick there.lists) ≡ end_picked there.ends (next_pick found.0.lists)
        = ap (λ (l : ThreeLists). end_picked there.ends (next_pick l)) found.2.lists in
        subst (λ o. SameDue s.core (end_picked there.ends (next_pick there.lists)) o) (sym machine)
        (subst (λ o. SameDue s.core o (end_due found.0 (due found.0))) (sym lists)
        (by_lists s.core there found.0 found.0.lists.pending found.0.lists.polled x.core found.2))

-- ---- its turn

same_before : (o : Option CoreJob) → is_before o ≡ is_before_calls o
same_before None = refl
same_before (Some (job.Open request)) = refl
same_before (Some (job.Reply e msg answer)) = refl
same_before (Some (job.Call e c)) = refl

-- none is due
no_turn : {S : Type 0} (ways : SideRelations S) (jobs : List CoreJob) (s t : TheRun S) (d : ℕ) → due_on s.core.board d ≡ None → TakesTurn ways jobs d s t → t ≡ s
no_turn {S} ways jobs s t d none u =
    subst (λ o. TurnsAt ways jobs d o s t)
    (ap (λ o. given o None λ e. given (inlet_of s.core e) None λ from. if lends_in s from then Some
    (record { end = e; inlet = from }) else None) none) u

due_lent : {S : Type 0} (s : TheRun S) (d : ℕ) (name : EndId) (place : ℕ) (k : Wired s name place) → due_on s.core.board d ≡ Some place
    → lent_due s d ≡ Some (record { end = place; inlet = inlet.Queue k.from })
due_lent s d name place k q =
    ap (λ (o : Option ℕ). given o None λ n. given (inlet_of s.core n) None λ from. if lends_in s from then Some
    (record { end = n; inlet = from }) else None) q
    ∙ ap (λ (o : Option Inlet). given o None λ from. if lends_in s from then Some (record { end = place; inlet = from }) else None) k.inlet_is
    ∙ ap (λ b. if b then Some (record { end = place; inlet = inlet.Queue k.from }) else None) k.from_there

turn_here : {S : Type 0} (ways : SideRelations S) (law : StepsAgree) (w : TheWorld) (jobs : List CoreJob) (s t : TheRun S) (a : MachineRun) (d : ℕ) (name : EndId) (place : ℕ)
    → ShowsAlone w s a → due_on s.core.board d ≡ Some place → place_of s.core name ≡ Some place → TakesTurn ways jobs d s t
    → ShowsAlone w t (if is_before_calls (next_job jobs a name) then a else turns_at d a)
turn_here {S} ways law w jobs s t a d name place x due_is at u =
    let k = wired w s a name place x at in
    let v : TurnsAt ways jobs d (Some (record { end = place; inlet = inlet.Queue k.from })) s t
    = subst (λ o. TurnsAt ways jobs d o s t) (due_lent s d name place k due_is) u in
    let one : v.0 ≡ name = one_name s.core place v.0 name x.core v.1 at in
    let waits : awaits jobs s v.0 ≡ is_before_calls (next_job jobs a name)
    = ap (awaits jobs s) one ∙ ap is_before (same_job jobs s a name x.progresses (is_few s.core name place at)) ∙ same_before (next_job jobs a name) in
    let y : TurnsIf ways (is_before_calls (next_job jobs a name)) (due_turn d name (record { end = place; inlet = inlet.Queue k.from })) s t
    = subst (λ b. TurnsIf ways b (due_turn d name (record { end = place; inlet = inlet.Queue k.from })) s t) waits
    (subst (λ n. TurnsIf ways (awaits jobs s v.0) (due_turn d n (record { end = place; inlet = inlet.Queue k.from })) s t) one v.2) in
    by k (is_before_calls (next_job jobs a name)) y
  where
    by : (k : Wired s name place) (b : Bool) → TurnsIf ways b (due_turn d name (record { end = place; inlet = inlet.Queue k.from })) s t
        → ShowsAlone w t (if b then a else turns_at d a)
    by k true v = subst (λ (r : TheRun S). ShowsAlone w r a) (sym v) x
    by k false v = (turn_steps ways law w s t a d name place v.0 k x at v.1).shows

pub turn_are : {S : Type 0} (ways : SideRelations S) (law : StepsAgree) (w : TheWorld) (jobs : List CoreJob) (s t : TheRun S) (a : MachineRun) (d : ℕ)
    → ShowsAlone w s a → TakesTurn ways jobs d s t → ShowsAlone w t (takes_turn jobs d a)
turn_are {S} ways law w jobs s t a d x u = by (due_on s.core.board d) refl (same_due w s a d x)
  where
    by : (o : Option ℕ) → due_on s.core.board d ≡ o → SameDue s.core o (due_at a.state d) → ShowsAlone w t (takes_turn jobs d a)
    by None q none =
        subst (λ o. ShowsAlone w t (given o a λ e. if is_before_calls (next_job jobs a e) then a else turns_at d a)) (sym none)
        (subst (λ (r : TheRun S). ShowsAlone w r a) (sym (no_turn ways jobs s t d q u)) x)
    by (Some place) q (e, is, at) =
        subst (λ o. ShowsAlone w t (given o a λ f. if is_before_calls (next_job jobs a f) then a else turns_at d a)) (sym is)
        (turn_here ways law w jobs s t a d e place x q at u)
