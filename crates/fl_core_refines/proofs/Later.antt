-- Turns behind those that are counted: they change no end's progress where each was clear, and none has more handled in the end than is to be.
use Rattle.std.proofs.Common.{◌≡◌, refl, sym, ◌∙◌, ap, subst, ℕ, zero, suc, ◌+◌, ◌≤◌, ◌==◌, ◌&&◌, ◌++◌, Bool, true, false, if◌then◌else◌, List, []}
use Rattle.std.proofs.Common.{◌∷◌, length, length-append, slice_get, slice_set, Option, Some, None, arith}
use Rattle.std.proofs.lemmas.Bool.Decides.{nat_tests}
use Rattle.fl_base.specs.declared.identity.EndId.{EndId}
use Rattle.fl_base.specs.Given.{given}
use Rattle.fl_value_data.specs.Value.{TheCall}
use Rattle.fl_core.specs.View.{slot_of}
use Rattle.fl_model.specs.Given.{changed_at}
use Rattle.fl_model.specs.Events.{write, turn, Answer, done, accepted, nothing, full, written, handle, part, ready, quiet, forwarded, opened}
use Rattle.fl_model.specs.Events.{opening_refused, words, refused}
use Rattle.fl_model.specs.Step.{step}
use Rattle.fl_core.specs.declared.core_job.CoreJob.{CoreJob}
use Rattle.fl_core_refines.specs.AloneTurns.{MachineProgress, MachineRun, goes, is_there, tries, serves, next_job, with_handled, turn_noted, here, due_at}
use Rattle.fl_core_refines.specs.AloneTurns.{is_before_calls, turns_at, takes_turn, MachineTask, swept, serves_at, one_turn, turned, is_clear}
use Rattle.fl_core_refines.specs.AloneLaws.{EachProgress, IsClear, HasNoMore, LaterTurnsChangeNothing}

-- ---- ends' progress that grew

-- calls more were handled
record Grew (d e : MachineProgress) : Type 0 where
  pub jobs : e.jobs ≡ d.jobs
  pub done : e.done ≡ d.done
  pub due : e.due ≡ d.due
  pub refused : e.refused ≡ d.refused
  pub more : List TheCall
  pub handled : e.handled ≡ d.handled ++ more

abbrev Grown : List MachineProgress → List MachineProgress → Type 0
Grown [] [] = Unit {0}
Grown (d ∷ ds) (e ∷ es) = Grew d e × Grown ds es
Grown ds es = ⊥

append_none : {X : Type 0} (xs : List X) → xs ++ [] ≡ xs
append_none [] = refl
append_none (x ∷ xs) = ap (λ ys. x ∷ ys) (append_none xs)

append_twice : {X : Type 0} (xs ys zs : List X) → (xs ++ ys) ++ zs ≡ xs ++ (ys ++ zs)
append_twice [] ys zs = refl
append_twice (x ∷ xs) ys zs = ap (λ rest. x ∷ rest) (append_twice xs ys zs)

stays : (d : MachineProgress) → Grew d d
stays d = record { jobs = refl; done = refl; due = refl; refused = refl; more = []; handled = sym (append_none d.handled) }

all_stay : (ds : List MachineProgress) → Grown ds ds
all_stay [] = tt
all_stay (d ∷ ds) = (stays d, all_stay ds)

grew_on : (d e f : MachineProgress) → Grew d e → Grew e f → Grew d f
grew_on d e f h k = record {
  jobs = k.jobs ∙ h.jobs;
  done = k.done ∙ h.done;
  due = k.due ∙ h.due;
  refused = k.refused ∙ h.refused;
  more = h.more ++ k.more;
  handled = k.handled ∙ ap (λ cs. cs ++ k.more) h.handled ∙ append_twice d.handled h.more k.more;
}

grown_on : (ds es fs : List MachineProgress) → Grown ds es → Grown es fs → Grown ds fs
grown_on [] [] [] h k = tt
grown_on [] [] (f ∷ fs) h k = absurd k
grown_on [] (e ∷ es) fs h k = absurd h
grown_on (d ∷ ds) [] fs h k = absurd h
grown_on (d ∷ ds) (e ∷ es) [] h k = absurd k
grown_on (d ∷ ds) (e ∷ es) (f ∷ fs) h k = (grew_on d e f h.0 k.0, grown_on ds es fs h.1 k.1)

one_grows : (ds : List MachineProgress) (n : ℕ) (c : TheCall) → Grown ds (changed_at n (with_handled c) ds)
one_grows [] n c = tt
one_grows (d ∷ ds) zero c = (record { jobs = refl; done = refl; due = refl; refused = refl; more = c ∷ []; handled = refl }, all_stay ds)
one_grows (d ∷ ds) (suc n) c = by (slice_get ds n) refl (one_grows ds n c)
  where
    by : (o : Option MachineProgress) → slice_get ds n ≡ o → Grown ds (given (slice_get ds n) ds λ x. slice_set ds n (with_handled c x))
        → Grown (d ∷ ds) (given (slice_get ds n) (d ∷ ds) λ x. d ∷ slice_set ds n (with_handled c x))
    by None q h = subst (λ o. Grown (d ∷ ds) (given o (d ∷ ds) λ x. d ∷ slice_set ds n (with_handled c x))) (sym q) (stays d, all_stay ds)
    by (Some x) q h =
        let rest : Grown ds (slice_set ds n (with_handled c x)) = subst (λ o. Grown ds (given o ds λ y. slice_set ds n (with_handled c y))) q h in
        subst (λ o. Grown (d ∷ ds) (given o (d ∷ ds) λ y. d ∷ slice_set ds n (with_handled c y))) (sym q) (stays d, rest)

-- ---- all jobs are done, and stay so

abbrev AreDone : List MachineProgress → Type 0
AreDone ds = (n : ℕ) (d : MachineProgress) → slice_get ds n ≡ Some d → d.done ≡ length d.jobs

done_on : (ds es : List MachineProgress) → Grown ds es → AreDone ds → AreDone es
done_on [] [] h all n e q = absurd (cc)
done_on [] (e ∷ es) h all n f q = absurd h
done_on (d ∷ ds) [] h all n f q = absurd h
done_on (d ∷ ds) (e ∷ es) h all zero f q =
    let same : e ≡ f = cc in
    subst (λ (x : MachineProgress). x.done ≡ length x.jobs) same (h.0.done ∙ all zero d refl ∙ ap (λ js. length js) (sym h.0.jobs))
done_on (d ∷ ds) (e ∷ es) h all (suc n) f q = done_on ds es h.1 (λ m x r. all (suc m) x r) n f q

past_last : (xs : List ℕ) → slice_get xs (length xs) ≡ None
past_last [] = refl
past_last (x ∷ xs) = past_last xs

none_next : (jobs : List CoreJob) (a : MachineRun) (e : EndId) → AreDone a.progresses → next_job jobs a e ≡ None
none_next jobs a e all = by (slice_get a.progresses (slot_of e)) refl
  where
    by : (o : Option MachineProgress) → slice_get a.progresses (slot_of e) ≡ o → next_job jobs a e ≡ None
    by None q = ap (λ o. given o None λ (d : MachineProgress). given (slice_get d.jobs d.done) None λ place. slice_get jobs place) q
    by (Some d) q =
        ap (λ o. given o None λ (x : MachineProgress). given (slice_get x.jobs x.done) None λ place. slice_get jobs place) q
        ∙ ap (λ n. given (slice_get d.jobs n) None λ place. slice_get jobs place) (all (slot_of e) d q)
        ∙ ap (λ o. given o None λ place. slice_get jobs place) (past_last d.jobs)

-- ---- steps

by_test : (b : Bool) (x y : MachineRun) (ds : List MachineProgress) → x.progresses ≡ ds → y.progresses ≡ ds → MachineRun.progresses (if b then x else y) ≡ ds
by_test true x y ds h k = h
by_test false x y ds h k = k

serves_nothing : (jobs : List CoreJob) (e : EndId) (a : MachineRun) → AreDone a.progresses → (serves jobs e a).progresses ≡ a.progresses
serves_nothing jobs e a all =
    by_test (is_there a.state e) (goes (write e) (tries e (next_job jobs a e) a)) a a.progresses
    (ap (λ o. MachineRun.progresses (goes (write e) (tries e o a))) (none_next jobs a e all)) refl

noted : (answer : Answer) (b : MachineRun) → Grown b.progresses (turn_noted answer b).progresses
noted (handle e c) b = one_grows b.progresses (slot_of e) c
noted done b = all_stay b.progresses
noted accepted b = all_stay b.progresses
noted nothing b = all_stay b.progresses
noted full b = all_stay b.progresses
noted (written k n) b = all_stay b.progresses
noted (part e) b = all_stay b.progresses
noted (ready e) b = all_stay b.progresses
noted (quiet e) b = all_stay b.progresses
noted forwarded b = all_stay b.progresses
noted (opened e) b = all_stay b.progresses
noted (opening_refused n e) b = all_stay b.progresses
noted (words f) b = all_stay b.progresses
noted (refused n) b = all_stay b.progresses

turn_grows : (jobs : List CoreJob) (d : ℕ) (a : MachineRun) → Grown a.progresses (takes_turn jobs d a).progresses
turn_grows jobs d a = by (due_at a.state d) refl
  where
    either : (b : Bool) → Grown a.progresses (MachineRun.progresses (if b then a else turns_at d a))
    either true = all_stay a.progresses
    either false = noted (step a.state (turn (here d))).answer (goes (turn (here d)) a)

    by : (o : Option EndId) → due_at a.state d ≡ o → Grown a.progresses (takes_turn jobs d a).progresses
    by None q = subst (λ o. Grown a.progresses (MachineRun.progresses (given o a λ e. if is_before_calls (next_job jobs a e) then a else turns_at d a))) (sym q)
        (all_stay a.progresses)
    by (Some e) q =
        subst (λ o. Grown a.progresses (MachineRun.progresses (given o a λ f. if is_before_calls (next_job jobs a f) then a else turns_at d a))) (sym q)
        (either (is_before_calls (next_job jobs a e)))

serve_at_nothing : (p : MachineTask) (n : ℕ) (a : MachineRun) → AreDone a.progresses → (serves_at p n a).progresses ≡ a.progresses
serve_at_nothing p n a all = by (slice_get p.ends n) refl
  where
    by : (o : Option EndId) → slice_get p.ends n ≡ o → (serves_at p n a).progresses ≡ a.progresses
    by None q = ap (λ o. MachineRun.progresses (given o a λ e. serves p.jobs e a)) q
    by (Some e) q = ap (λ o. MachineRun.progresses (given o a λ f. serves p.jobs f a)) q ∙ serves_nothing p.jobs e a all

ends_nothing : (p : MachineTask) (n : ℕ) (a : MachineRun) → AreDone a.progresses → (swept (serves_at p) n a).progresses ≡ a.progresses
ends_nothing p zero a all = refl
ends_nothing p (suc n) a all =
    let before = ends_nothing p n a all in
    serve_at_nothing p n (swept (serves_at p) n a) (subst AreDone (sym before) all) ∙ before

turns_grow : (jobs : List CoreJob) (n : ℕ) (a : MachineRun) → Grown a.progresses (swept (takes_turn jobs) n a).progresses
turns_grow jobs zero a = all_stay a.progresses
turns_grow jobs (suc n) a =
    grown_on a.progresses (swept (takes_turn jobs) n a).progresses (takes_turn jobs n (swept (takes_turn jobs) n a)).progresses (turns_grow jobs n a)
    (turn_grows jobs n (swept (takes_turn jobs) n a))

round_grows : (p : MachineTask) (a : MachineRun) → AreDone a.progresses → Grown a.progresses (one_turn p a).progresses
round_grows p a all =
    subst (λ ds. Grown ds (one_turn p a).progresses) (ends_nothing p (length p.ends) a all) (turns_grow p.jobs p.dispatchers (swept (serves_at p)
    (length p.ends) a))

rounds_grow : (p : MachineTask) (n : ℕ) (a : MachineRun) → AreDone a.progresses → Grown a.progresses (turned p n a).progresses
rounds_grow p zero a all = all_stay a.progresses
rounds_grow p (suc n) a all =
    let before = rounds_grow p n a all in
    grown_on a.progresses (turned p n a).progresses (one_turn p (turned p n a)).progresses before
    (round_grows p (turned p n a) (done_on a.progresses (turned p n a).progresses before all))

-- ---- none of them did

clear_parts : (d : MachineProgress) → is_clear (Some d) ≡ true → (d.done ≡ length d.jobs) × (length d.handled ≡ d.due)
clear_parts d h = by (d.done == length d.jobs) (length d.handled == d.due) refl refl h
  where
    by : (a b : Bool) → (d.done == length d.jobs) ≡ a → (length d.handled == d.due) ≡ b → (a && b) ≡ true
        → (d.done ≡ length d.jobs) × (length d.handled ≡ d.due)
    by true true p q r = (grind (arith, nat_tests, p), grind (arith, nat_tests, q))
    by true false p q r = absurd (cc)
    by false b p q r = absurd (cc)

are_done : (ds : List MachineProgress) → EachProgress IsClear ds → AreDone ds
are_done [] h n d q = absurd (cc)
are_done (x ∷ ds) h zero d q = let same : x ≡ d = cc in subst (λ (y : MachineProgress). y.done ≡ length y.jobs) same (clear_parts x h.0).0
are_done (x ∷ ds) h (suc n) d q = are_done ds h.1 n d q

none_more : (cs : List TheCall) → length cs ≤ 0 → cs ≡ []
none_more [] h = refl
none_more (c ∷ cs) h = absurd (omega (arith, h))

one_same : (d e : MachineProgress) → Grew d e → IsClear d → HasNoMore e → e ≡ d
one_same d e h clear few =
    let long : length e.handled ≡ length d.handled + length h.more = ap (λ cs. length cs) h.handled ∙ length-append d.handled h.more in
    let is = (clear_parts d clear).1 in
    let due = h.due in
    let none : h.more ≡ [] = none_more h.more (omega (arith, long, is, due, few)) in
    let handled : e.handled ≡ d.handled = h.handled ∙ ap (λ cs. d.handled ++ cs) none ∙ append_none d.handled in
    same_progress d e h.jobs h.done h.due handled h.refused
  where
    same_progress : (x y : MachineProgress) → y.jobs ≡ x.jobs → y.done ≡ x.done → y.due ≡ x.due → y.handled ≡ x.handled → y.refused ≡ x.refused → y ≡ x
    same_progress x y a b c f g =
        ap (λ js. record y { jobs = js }) a ∙ ap (λ n. record y { jobs = x.jobs; done = n }) b
        ∙ ap (λ n. record y { jobs = x.jobs; done = x.done; due = n }) c
        ∙ ap (λ cs. record y { jobs = x.jobs; done = x.done; due = x.due; handled = cs }) f
        ∙ ap (λ n. record x { refused = n }) g

all_same : (ds es : List MachineProgress) → Grown ds es → EachProgress IsClear ds → EachProgress HasNoMore es → es ≡ ds
all_same [] [] h clear few = refl
all_same [] (e ∷ es) h clear few = absurd h
all_same (d ∷ ds) [] h clear few = absurd h
all_same (d ∷ ds) (e ∷ es) h clear few =
    ap (λ x. x ∷ es) (one_same d e h.0 clear.0 few.0) ∙ ap (λ xs. d ∷ xs) (all_same ds es h.1 clear.1 few.1)

pub later_nothing : LaterTurnsChangeNothing
later_nothing p a n clear few = all_same a.progresses (turned p n a).progresses (rounds_grow p n a (are_done a.progresses clear)) clear few
