-- What a set-up comes to, and why there may be no report.
use Rattle.std.proofs.Common.{◌≡◌, inl, inr, take, ◌≤◌, refl, sym, ap, ◌∙◌, subst, ℕ, suc, ◌+◌, Bool, true, false, ◌&&◌, not, cond, nat_lt, List, [], ◌∷◌, length, map, Some, None, arith}
use Rattle.std.proofs.lemmas.Bool.{and_from, and_parts}
use Rattle.std.proofs.lemmas.List.{length-map, take-map}
use Rattle.std.proofs.lemmas.Option.{slice_get_within}
use Rattle.std.specs.List.{list_all, position, position_or_len}
use Rattle.std.proofs.lemmas.Bool.Decides.{nat_tests}
use Rattle.fl_model.specs.declared.event.Event.{Event as RustEvent}
use Rattle.fl_model.specs.Views.{event_of}
use Rattle.fl_model.specs.Events.{Event, set_cores, bind, by_queues, by_ring, by_route, Answer, refused}
use Rattle.fl_model.specs.Runs.{answers_to}
use Rattle.fl_model.specs.Worlds.{start_with}
use Rattle.fl_world_refines.specs.View.{TheWorld}
use Rattle.fl_world_refines.specs.declared.binding.Binding.{Binding}
use Rattle.fl_world_refines.specs.declared.parts.Parts.{Parts}
use Rattle.fl_world.specs.declared.booting.BootFault.{BootFault}
use Rattle.fl_world.specs.declared.booting.BootFault.TheVariants as boot
use Rattle.fl_world_refines.specs.Apart.{is_making, AreParts}
use Rattle.fl_world.specs.Booting.{TheConfig, config_by, passes, Stands, AcceptsAll, IsFaultOf}
use Rattle.fl_cores_file.specs.Jobs.{Job as TheJob}
use Rattle.fl_cores_jobs.specs.declared.fault.JobFault.{JobFault}
use Rattle.fl_cores_jobs.specs.declared.fault.JobFault.TheVariants as job
use Rattle.fl_cores_parts.specs.Faults.{by_job, IsRunFault}
use Rattle.fl_cores.specs.declared.fault.CoresFault.{CoresFault}
use Rattle.fl_cores.specs.declared.fault.CoresFault.TheVariants as fault
use Rattle.fl_cores_parts.specs.declared.fault.RunFault.{RunFault}
use Rattle.fl_cores_parts.specs.declared.fault.RunFault.TheVariants as run
use Rattle.fl_cores.specs.Faults.{by_boot, by_joining, by_run}
use Rattle.fl_cores_file_laws.specs.JobsJoin.{SetUpsJoin}
use Rattle.fl_cores_file_laws.specs.SetUps.{is_refusal, sets_up}
use Rattle.fl_cores_jobs.specs.Whole.{AreTaken, BindingRefused, RefusedAt}
use Rattle.fl_cores.specs.Promised.{is_other, asks_other, cores_by, IsAccepted, Made, front_of, IsRefusedAt, IsFault, IsLater, WantsNoThread}

-- ---- no other event: each makes something at once

-- each event of a set-up makes something
makes_it : (v : Event) → sets_up v ≡ true → is_making v ≡ true
makes_it (set_cores n) e = refl
makes_it (bind client i name (by_queues slots)) e = refl
makes_it (bind client i name (by_ring slots)) e = refl
makes_it (bind client i name (by_route route)) e = e
makes_it v e = e

one_more : (b c : Bool) (n m : ℕ) (rest : Bool) → (b ≡ true → c ≡ true) → (nat_lt n m ≡ false → rest ≡ true)
    → nat_lt (cond (not (not b)) (1 + n) 0) (suc m) ≡ false → (c && rest) ≡ true
one_more true c n m rest makes h e = and_from c rest (makes refl) (h (grind (arith, nat_tests, e)))
one_more false c n m rest makes h e = absurd (grind (arith, nat_tests, e))

-- whatever holds of each event of a set-up
all_before : (holds : Event → Bool) → ((v : Event) → sets_up v ≡ true → holds v ≡ true) → (events : List Event)
    → nat_lt (position_or_len is_other events) (length events) ≡ false → list_all holds events ≡ true
all_before holds each [] e = refl
all_before holds each (v ∷ vs) e =
    one_more (sets_up v) (holds v) (position_or_len is_other vs) (length vs) (list_all holds vs) (each v) (all_before holds each vs) e

none_found : (b : Bool) (n : ℕ) → cond b (Some n) None ≡ None → b ≡ false
none_found true n e = absurd (cc)
none_found false n e = refl

all_hold : (holds : Event → Bool) → ((v : Event) → sets_up v ≡ true → holds v ≡ true) → (events : List Event) → position is_other events ≡ None
    → list_all holds events ≡ true
all_hold holds each events none = all_before holds each events (none_found (nat_lt (position_or_len is_other events) (length events)) (position_or_len is_other events) none)

pub all_making : (events : List Event) → position is_other events ≡ None → list_all is_making events ≡ true
all_making events none = all_hold is_making makes_it events none

-- nor is there another where each is of a set-up
one_past : (b : Bool) (n m : ℕ) → b ≡ true → nat_lt n m ≡ false → nat_lt (cond (not (not b)) (1 + n) 0) (suc m) ≡ false
one_past true n m e h = grind (arith, nat_tests, h)
one_past false n m e h = absurd (cc)

all_past : (events : List Event) → list_all sets_up events ≡ true → nat_lt (position_or_len is_other events) (length events) ≡ false
all_past [] e = refl
all_past (v ∷ vs) e =
    let (first, rest) = and_parts (sets_up v) (list_all sets_up vs) e in
    one_past (sets_up v) (position_or_len is_other vs) (length vs) first (all_past vs rest)

none_if : (b : Bool) (n : ℕ) → b ≡ false → cond b (Some n) None ≡ None
none_if true n e = absurd (cc)
none_if false n e = refl

pub none_other : (events : List Event) → list_all sets_up events ≡ true → position is_other events ≡ None
none_other events e = none_if (nat_lt (position_or_len is_other events) (length events)) (position_or_len is_other events) (all_past events e)

-- ---- a world stands

pub accepted : (c : TheConfig) (w : TheWorld) → position is_other c.setup ≡ None → Stands c w → IsAccepted c
accepted c w making stands = record { cores = stands.0; making = making; passed = stands.1.passed }

pub cores_are : (c : TheConfig) (w : TheWorld) (p : Parts) → Stands c w → AreParts w p → length p.cores.items ≡ cores_by c
cores_are c w p stands parts = ap length parts.cores ∙ stands.1.shown.showing.cores.count

-- ---- joining refuses none of its bindings

same_test : (a : Answer) → passes a ≡ not (is_refusal a)
same_test (refused number) = refl
same_test a = refl

all_pass : (answers : List Answer) → list_all passes answers ≡ true → list_all (λ a. not (is_refusal a)) answers ≡ true
all_pass [] e = refl
all_pass (a ∷ more) e =
    let (first, rest) = and_parts (passes a) (list_all passes more) e in
    and_from (not (is_refusal a)) (list_all (λ a. not (is_refusal a)) more) (sym (same_test a) ∙ first) (all_pass more rest)

are_taken : SetUpsJoin → (c : TheConfig) (p : Parts) → IsAccepted c → Made c p → AreTaken (length p.cores.items) p.bindings.items (length p.bindings.items)
are_taken join c p accepted made =
    join c.cores c.setup (all_hold sets_up (λ v e. e) c.setup accepted.making) (all_pass (answers_to (start_with c.cores) c.setup) accepted.passed) p
    (record { world = made.world; shown = made.stands.1.shown; parts = made.parts })

none_refused : (cores number : ℕ) (bindings : List Binding) → AreTaken cores bindings (length bindings) → BindingRefused cores bindings number → ⊥
none_refused cores number bindings taken b =
    let within = slice_get_within bindings b.place b.binding b.binding_is in
    let no : None ≡ Some number = sym (taken b.place b.binding within b.binding_is) ∙ b.refused in absurd (cc)

-- so it is a job that is refused
a_job : SetUpsJoin → (c : TheConfig) (jobs : List TheJob) (p : Parts) (number place : ℕ) → IsAccepted c → Made c p → IsLater p jobs (fault.Job number place)
    → RefusedAt p jobs number place
a_job join c jobs p number place accepted made (inl b) =
    absurd (none_refused (length p.cores.items) number p.bindings.items (are_taken join c p accepted made) b.1)
a_job join c jobs p number place accepted made (inr r) = r

-- ---- none does

pub not_booted : (c : TheConfig) (jobs : List TheJob) (fault : BootFault) → position is_other c.setup ≡ None → IsFaultOf c fault → IsFault c jobs (by_boot fault)
not_booted c jobs (boot.Refused number place) making is = subst (λ late. IsRefusedAt c number place late) (sym making) is
not_booted c jobs boot.Memory making is = is

found : (b : Bool) (n m : ℕ) → cond b (Some n) None ≡ Some m → (b ≡ true) × (n ≡ m)
found true n m e = (refl, cc)
found false n m e = absurd (cc)

pub other_within : (events : List RustEvent) (place : ℕ) → position is_other (map event_of events) ≡ Some place → place ≤ length events
other_within events place first =
    let vs = map event_of events in
    let at = found (nat_lt (position_or_len is_other vs) (length vs)) (position_or_len is_other vs) place first in
    let here = at.0 in
    let same = at.1 in
    let size = length-map events event_of in grind (arith, nat_tests, here, same, size)

-- nor where an event is of no set-up: one before it is refused, or it is
front_by : (cores place : ℕ) (events before : List RustEvent) → before ≡ take place events
    → front_of (config_by cores events) place ≡ config_by cores before
front_by cores place events before same = ap (λ (vs : List Event). record { cores = cores; setup = vs }) (take-map event_of place events ∙ ap (map event_of) (sym same))

pub front_refused : (cores place : ℕ) (events before : List RustEvent) (fault : BootFault) (jobs : List TheJob) → before ≡ take place events
    → position is_other (map event_of events) ≡ Some place → IsFaultOf (config_by cores before) fault → IsFault (config_by cores events) jobs (by_boot fault)
front_refused cores place events before (boot.Refused number at) jobs same first is =
    subst (λ late. IsRefusedAt (config_by cores events) number at late) (sym first)
    (inl (subst (λ c. IsFaultOf c (boot.Refused number at)) (sym (front_by cores place events before same)) is))
front_refused cores place events before boot.Memory jobs same first is = is

pub other_refused : (cores place : ℕ) (events before : List RustEvent) (jobs : List TheJob) → before ≡ take place events
    → position is_other (map event_of events) ≡ Some place → AcceptsAll (config_by cores before)
    → IsFault (config_by cores events) jobs (fault.Setup 93 (place + 1))
other_refused cores place events before jobs same first accepts =
    subst (λ late. IsRefusedAt (config_by cores events) 93 (place + 1) late) (sym first)
    (inr (record { accepts = subst AcceptsAll (sym (front_by cores place events before same)) accepts; number_is = refl; place_is = refl }))

-- a fault behind an accepted set-up
pub late_fault : (c : TheConfig) (jobs : List TheJob) (p : Parts) (f : CoresFault) → SetUpsJoin → IsAccepted c → Made c p → IsLater p jobs f → IsFault c jobs f
late_fault c jobs p (fault.Setup number place) join accepted made is = absurd is
late_fault c jobs p (fault.Job number place) join accepted made is = record {
  accepted = accepted;
  parts = p;
  made = made;
  refused = a_job join c jobs p number place accepted made is;
}
late_fault c jobs p fault.Memory join accepted made is = accepted.cores
late_fault c jobs p fault.Thread join accepted made is = record { accepted = accepted; parts = p; made = made; passed = is }

pub later_fault : (p : Parts) (jobs : List TheJob) (f : RunFault) → IsRunFault p jobs f → IsLater p jobs (by_run f)
later_fault p jobs (run.Refused number place) is = is
later_fault p jobs run.Memory is = is
later_fault p jobs run.Thread is = is

pub joined_fault : (p : Parts) (jobs : List TheJob) (f : JobFault) → IsRunFault p jobs (by_job f) → IsLater p jobs (by_joining f)
joined_fault p jobs (job.Refused number place) is = is
joined_fault p jobs job.Memory is = is

-- ---- no thread is wanted

pub boot_wants_none : (f : BootFault) → WantsNoThread (by_boot f)
boot_wants_none (boot.Refused number place) = tt
boot_wants_none boot.Memory = tt

-- what a set-up with an event that belongs to none comes to
pub ruleset other_events = (other_within, front_refused, other_refused, boot_wants_none)

pub joining_wants_none : (f : JobFault) → WantsNoThread (by_joining f)
joining_wants_none (job.Refused number place) = tt
joining_wants_none job.Memory = tt

-- ---- the first other event

first_of : {X Y : Type 0} (p : Y → Bool) (f : X → Y) (xs : List X) → position_or_len p (map f xs) ≡ position_or_len (λ x. p (f x)) xs
first_of p f [] = refl
first_of p f (x ∷ xs) = let rest = first_of p f xs in cc

first_as : {X Y : Type 0} (p : Y → Bool) (f : X → Y) (xs : List X) → position p (map f xs) ≡ position (λ x. p (f x)) xs
first_as p f xs = let place = first_of p f xs in let as_many = length-map xs f in cc

-- seen through what an event shows
pub first_is : (events : List RustEvent) → position is_other (map event_of events) ≡ position asks_other events
first_is events = first_as is_other event_of events
