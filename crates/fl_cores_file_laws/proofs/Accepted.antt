-- Joined to what its set-up makes, nothing of a cores file is refused.
use Rattle.std.proofs.Common.{◌≡◌, ◌⊎◌, inl, inr, refl, sym, ◌∙◌, ap, subst, ℕ, List, [], ◌∷◌, length, map, take, slice_get, Bool, true, false, not, ◌&&◌, ◌==◌, nat_le, if◌then◌else◌, Option, Some, None, arith}
use Rattle.std.proofs.lemmas.List.{append-nil, length-map}
use Rattle.std.proofs.lemmas.Option.{slice_get_within}
use Rattle.fl_base.specs.declared.identity.EndId.{EndId}
use Rattle.fl_base.specs.Given.{given}
use Rattle.fl_core.specs.View.{TheCore}
use Rattle.fl_model.specs.Calls.{Planned}
use Rattle.fl_model.specs.Events.{Event, bind, by_queues, by_ring, by_route}
use Rattle.fl_model.specs.Events as event
use Rattle.fl_model.specs.Runs.{reached}
use Rattle.fl_model.specs.Worlds.{start_with}
use Rattle.fl_model_laws.proofs.Small.{some_same}
use Rattle.fl_world_refines.specs.Apart.{AreParts}
use Rattle.fl_world_refines.specs.declared.binding.Binding.{Binding}
use Rattle.fl_world_refines.specs.declared.parts.Parts.{Parts}
use Rattle.fl_world_refines.specs.Ends.{planned_of}
use Rattle.fl_world_refines.specs.ShowsState.{Shows}
use Rattle.fl_world_refines.specs.View.{TheWorld}
use Rattle.fl_cores_file.specs.CoresFile.{Reading, CoresFile, file_of, which_opened, numbers_of, numbered, end_by, job_by}
use Rattle.fl_cores_file.specs.Draft.{Bound, Draft, Offer, binds, binds_by, call_fault, fault_at, is_dispatcher, is_interface, is_route, offer_of, rule_fault, takes}
use Rattle.fl_cores_file.specs.Verdicts.{LineVerdict, stops, goes_on}
use Rattle.fl_cores_file.specs.Jobs.{TheCircuitRequest, Job, opens, replies, calls}
use Rattle.fl_cores_jobs.specs.Faults.{fault_at_once, the_first}
use Rattle.fl_cores_jobs.specs.Whole.{BindingRefused, NoneRefused, RefusedAt, binding_fault, count_behind, job_fault, NoRefusal}
use Rattle.fl_cores_file_laws.specs.JobsJoin.{PartsMadeBy, SetUpsJoin, job_asked, fault_told, LinesJoin, AllJoin, FilesJoin, NoFileIsRefused}
use Rattle.fl_cores_file_laws.specs.SetUps.{ComeTo, behind}
use Rattle.fl_cores_file_laws.proofs.Adding.{HasSetUp, bound_in}
use Rattle.fl_cores_file_laws.proofs.Asking.{asked_by}
use Rattle.fl_cores_file_laws.proofs.Joining.{found_none, found_same, same_interface, count_is_both, few_behind, interface_stays, call_alike, rule_alike}
use Rattle.fl_cores_file_laws.proofs.BoundKinds.{kinds, known, set_up_kinds}
use Rattle.fl_cores_file_laws.proofs.Lines.{the_machines, mirrored}
use Rattle.fl_cores_file_laws.proofs.Lists.{got_map, take_map, at_front}
use Rattle.fl_cores_file_laws.proofs.Mirrors.{Mirrors}
use Rattle.fl_cores_file_laws.proofs.Numbers.{which, numbers, both_kinds}
use Rattle.fl_cores_file_laws.proofs.Requests.{want, stop_if, offer_fault_read, fault_read, faults_same, never_refused}
use Rattle.fl_cores_file_laws.proofs.Seated.{interfaces_are, seated, none_taken, fits, set_at_once}
use Rattle.fl_cores_file_laws.proofs.Standing.{sort_of, sorts, Found, found, Kept, Grew, Stood, WasAsked, kept_by, only_set_up, stood}
use Rattle.fl_cores_file_laws.proofs.Texts.{IsReached, file_from}
use Rattle.fl_cores_file_laws.proofs.Views.{view_of}

pub set_ups_join : SetUpsJoin
set_ups_join cores setup only passes p made n x low at =
    ap (λ (ks : List TheCore). binding_fault (length ks) n x) made.parts.cores
    ∙ none_taken made.world (reached (start_with cores) setup) made.shown (bound_in setup) (set_up_kinds cores setup only passes) n x
    (ap (λ (xs : List Binding). slice_get xs n) (sym made.parts.bindings) ∙ at)

module _ (lines : List Event) (d : Draft) (come : ComeTo lines d) (w : TheWorld) (shown : Shows w (behind d)) (p : Parts) (parts : AreParts w p) where
  abbrev ns : List ℕ
  ns = numbers (sorts d.bindings)

  kept_d : Kept d
  kept_d = kept_by lines d come

  mirrors : Mirrors d (view_of (behind d))
  mirrors = mirrored lines d come

  at_once : kinds (behind d) ≡ known (bound_in d.setup)
  at_once = set_up_kinds d.cores d.setup (only_set_up lines d come) (the_machines lines d come).passes

  made : HasSetUp d.setup p
  made = record {
    interfaces = ap (map planned_of) parts.programs ∙ shown.showing.programs ∙ mirrors.interfaces ∙ sym kept_d.interfaces;
    bindings = ap (map (λ (x : Binding). x.interface)) parts.bindings
        ∙ interfaces_are w.bindings (behind d).bindings (bound_in d.setup) shown.showing.bindings.count
        (λ n b x at there. let shows = shown.showing.bindings.each n b x at there in shows.interface) at_once;
  }

  -- ---- a job, behind those that stood before its line

  module _ (c : Draft) (kept_c : Kept c) (grew : Grew c d) where
    -- a rule at an end that is set up is set at once
    rule_set : (e : EndId) (msg answer : ℕ) (f : Found c.bindings c.interfaces e (rule_fault e.side msg answer))
        → fault_at_once p.cores.items p.bindings.items (end_by ns e) msg answer ≡ None
    rule_set e msg answer f =
        ap (λ (ks : List TheCore). fault_at_once ks p.bindings.items (end_by ns e) msg answer) parts.cores
        ∙ set_at_once w (behind d) p.bindings.items (end_by ns e) msg answer f.planned (fits e.side msg answer f.bound f.planned f.none)
        (λ x at. (
          seated w (behind d) shown (bound_in d.setup) at_once (end_by ns e) x
              (ap (λ (xs : List Binding). slice_get xs (numbered ns e.binding)) (sym parts.bindings) ∙ at),
          ap (slice_get (behind d).interfaces) (same_interface d kept_d p made c kept_c grew e.binding f.bound x f.bound_is at)
              ∙ ap (λ (is : List Planned). slice_get is f.bound.interface) mirrors.interfaces
              ∙ at_front c.interfaces grew.interfaces.0 f.bound.interface f.planned d.interfaces grew.interfaces.1 f.planned_is,
        ))

    job_passes : (n : ℕ) (job : Job) → slice_get d.jobs n ≡ Some job → c.jobs ≡ take n d.jobs → WasAsked c job
        → job_fault p (map (job_by ns) c.jobs) (job_by ns job) ≡ None
    job_passes n (opens x) at js asked =
        let bindings = count_behind p.bindings.items (map (job_by ns) c.jobs) in
        faults_same d w (behind d) shown mirrors p parts x bindings
        ∙ never_refused d x bindings (asked_by lines d come n x at) (interface_stays x.interface c d grew asked.0)
        (few_behind d kept_d p made n x at c kept_c grew js)
    job_passes n (replies e msg answer) at js none =
        let f = found e (rule_fault e.side msg answer) c none in
        let none_found = found_none d kept_d p made c kept_c grew e (rule_fault e.side msg answer) (rule_alike e.side msg answer) f in
        ap (λ (o : Option ℕ). the_first o (fault_at_once p.cores.items p.bindings.items (end_by ns e) msg answer)) none_found ∙ rule_set e msg answer f
    job_passes n (calls e x) at js none =
        let f = found e (call_fault e.side x) c none in
        found_none d kept_d p made c kept_c grew e (call_fault e.side x) (call_alike e.side x) f

  -- ---- all

  jobs_pass : NoneRefused p (map (job_by ns) d.jobs)
  jobs_pass n job at =
      let own = got_map (job_by ns) d.jobs n job at in
      let s : Stood d n own.0 = stood lines d come n own.0 own.1 in
      ap (λ (js : List Job). job_fault p js job) (take_map (job_by ns) d.jobs n ∙ ap (map (job_by ns)) (sym s.jobs))
      ∙ ap (job_fault p (map (job_by ns) s.before.jobs)) (sym own.2)
      ∙ job_passes s.before s.kept s.grew n own.0 own.1 s.jobs s.asked

  -- ---- a line that comes next

  grew_none : Grew d d
  grew_none = record { sorts = ([], sym (append-nil (sorts d.bindings))); interfaces = ([], sym (append-nil d.interfaces)) }

  rule_told : (e : EndId) (msg answer : ℕ) (o : Option ℕ) → fault_at e (rule_fault e.side msg answer) d ≡ o
      → the_first o (fault_at_once p.cores.items p.bindings.items (end_by ns e) msg answer) ≡ o
  rule_told e msg answer None none = rule_set d kept_d grew_none e msg answer (found e (rule_fault e.side msg answer) d none)
  rule_told e msg answer (Some fault) is = refl

  told : (o : Option ℕ) (y : Draft) → fault_told (given o (goes_on y) stops) ≡ o
  told None y = refl
  told (Some fault) y = refl

  told_if : (n : ℕ) (b : Bool) (y : LineVerdict Draft) (o : Option ℕ) → fault_told y ≡ o → fault_told (if b then stops n else y) ≡ stop_if n b o
  told_if n true y o h = refl
  told_if n false y o h = h

  bound_told : (x : TheCircuitRequest) → fault_told (binds x.client x.interface x.service (by_route x.route) d) ≡ fault_read (length d.bindings) x d
  bound_told x =
      told_if 92 (not (is_dispatcher x.client d && is_interface x.interface d)) _ _
      (told_if 94 (nat_le 1024 (length d.bindings)) _ _ (by (offer_of x.service d)))
    where
      by : (o : Option Offer) → fault_told (given o (stops 70) λ offer.
          if not (offer.interface == x.interface) then stops 72 else binds_by (want x offer) (by_route x.route) d) ≡ given o (Some 70) (offer_fault_read x d)
      by None = refl
      by (Some offer) =
          told_if 72 (not (offer.interface == x.interface)) _ _ (told_if 73 (not (is_route (want x offer) x.route d)) _ _ refl)

  count_is : count_behind p.bindings.items (map (job_by ns) d.jobs) ≡ length d.bindings
  count_is =
      let count = count_is_both d kept_d p made d kept_d grew_none in
      omega (arith, count, both_kinds (sorts d.bindings), length-map d.bindings sort_of)

  next_joins : (v : Event) (job : Job) → job_asked v ≡ Some job → fault_told (takes v d) ≡ job_fault p (map (job_by ns) d.jobs) (job_by ns job)
  next_joins (bind client i name (by_route route)) job is =
      let x : TheCircuitRequest = record { client = client; interface = i; service = name; route = route } in
      bound_told x ∙ sym (ap (λ n. fault_read n x d) count_is)
      ∙ sym (faults_same d w (behind d) shown mirrors p parts x (count_behind p.bindings.items (map (job_by ns) d.jobs)))
      ∙ ap (λ j. job_fault p (map (job_by ns) d.jobs) (job_by ns j)) (some_same (opens x) job is)
  next_joins (bind client i name (by_queues slots)) job is = absurd (cc)
  next_joins (bind client i name (by_ring size)) job is = absurd (cc)
  next_joins (event.call e x) job is =
      told (fault_at e (call_fault e.side x) d) _ ∙ sym (found_same d kept_d p made e (call_fault e.side x) (call_alike e.side x))
      ∙ ap (λ j. job_fault p (map (job_by ns) d.jobs) (job_by ns j)) (some_same (calls e x) job is)
  next_joins (event.reply e msg answer) job is =
      let finds = rule_fault e.side msg answer in
      told (fault_at e finds d) _ ∙ sym (rule_told e msg answer (fault_at e finds d) refl)
      ∙ ap (λ (o : Option ℕ). the_first o (fault_at_once p.cores.items p.bindings.items (end_by ns e) msg answer))
      (sym (found_same d kept_d p made e finds (rule_alike e.side msg answer)))
      ∙ ap (λ j. job_fault p (map (job_by ns) d.jobs) (job_by ns j)) (some_same (replies e msg answer) job is)
  next_joins v job is = absurd (cc)

-- ---- a file

pub which_same : (bs : List Bound) → which_opened bs ≡ which (sorts bs)
which_same [] = refl
which_same (b ∷ bs) = ap (λ os. b.is_opened ∷ os) (which_same bs)

pub lines_join : LinesJoin
lines_join lines d come p h v job is =
    subst (λ (os : List Bool). fault_told (takes v d) ≡ job_fault p (map (job_by (numbers_of os)) d.jobs) (job_by (numbers_of os) job))
    (sym (which_same d.bindings))
    (next_joins lines d come h.world h.shown p h.parts v job is)

reading_joins : (r : Reading) → IsReached r.draft → (p : Parts) → PartsMadeBy (file_of r).cores (file_of r).setup p → AllJoin (file_of r) p
reading_joins r (lines, come) p h =
    let d = r.draft in
    let same : (file_of r).jobs ≡ map (job_by (numbers (sorts d.bindings))) d.jobs = ap (λ os. map (job_by (numbers_of os)) d.jobs) (which_same d.bindings) in
    record {
      bindings = set_ups_join d.cores d.setup (only_set_up lines d come) (the_machines lines d come).passes p h;
      jobs = subst (NoneRefused p) (sym same) (jobs_pass lines d come h.world h.shown p h.parts);
    }

pub files_join : FilesJoin
files_join text file reads p h =
    let f = file_from text file reads in
    subst (λ (x : CoresFile). PartsMadeBy x.cores x.setup p → AllJoin x p) (sym f.is) (reading_joins f.reading f.reached p) h

pub no_file_is_refused : NoRefusal → NoFileIsRefused
no_file_is_refused law text file reads p h number place = by (files_join text file reads p h)
  where
    by : AllJoin file p → ((place ≡ 0) × BindingRefused (length p.cores.items) p.bindings.items number) ⊎ RefusedAt p file.jobs number place → ⊥
    by all (inl told) =
        let r = told.1 in
        let passes = all.bindings r.place r.binding (slice_get_within p.bindings.items r.place r.binding r.binding_is) r.binding_is in
        let no : None ≡ Some number = sym passes ∙ r.refused in
        absurd (cc)
    by all (inr told) = law p file.jobs number place all.jobs told
