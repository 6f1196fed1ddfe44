-- Reply rules that jobs set at once are those that the machine sets.
use Rattle.std.proofs.Common.{◌≡◌, refl, sym, ◌∙◌, ap, subst, ℕ, not, ◌&&◌, Bool, true, false, if◌then◌else◌, List, [], ◌∷◌, ◌++◌, slice_get, Option, Some, None}
use Rattle.std.specs.Prelude.{Ok}
use Rattle.std.specs.List.{flat_map}
use Rattle.std.proofs.lemmas.List.Concat.{flat_map-cons}
use Rattle.fl_base.specs.declared.identity.EndId.{EndId}
use Rattle.fl_base.specs.Given.{given}
use Rattle.fl_interface.specs.SameTypes.{same_arguments}
use Rattle.fl_endpoint.specs.Events.{SetsRule}
use Rattle.fl_core.specs.BoardView.{TheEndAtChannel}
use Rattle.fl_core.specs.View.{TheCore, place_of, with_board}
use Rattle.fl_model.specs.Calls.{Planned}
use Rattle.fl_model.specs.Ends.{with_rule}
use Rattle.fl_model.specs.Events.{Event, reply, done, refused}
use Rattle.fl_model.specs.Runs.{reached}
use Rattle.fl_model.specs.Sound.{Sound}
use Rattle.fl_model.specs.State.{Binding, State, StepOutcome, answers, binding_of, interface_of, end_in, change_end}
use Rattle.fl_model.specs.Step.{settles, step}
use Rattle.fl_model.specs.Taking.{sets_rule, has_message, arguments_of}
use Rattle.fl_model_laws.proofs.SoundSteps.{steps_are_sound}
use Rattle.fl_world_refines.specs.EndLaws.{are_messages, have_same_arguments}
use Rattle.fl_world_refines.specs.Ends.{machine_end}
use Rattle.fl_world_refines.proofs.Rules.{rule_agrees}
use Rattle.fl_world_refines.proofs.Tests.{past_not}
use Rattle.fl_world_refines.specs.declared.binding.Binding.{Binding as TheBinding}
use Rattle.fl_world_refines.specs.View.{TheWorld, nowhere, unmade, made, core_in, location_at, location_of, with_core}
use Rattle.fl_world_refines.specs.ShowsState.{ShowsState, Shows}
use Rattle.fl_world_refines.proofs.Frames.{Stands, EndStays}
use Rattle.fl_world_refines.proofs.FramesBase.{same_some, end_of_binding}
use Rattle.fl_world_refines.proofs.FramesWhole.{prefix_same}
use Rattle.fl_world_refines.proofs.FramesFind.{find_none, find_made}
use Rattle.fl_world_refines.proofs.FramesEnds.{with_end_at, end_frame}
use Rattle.fl_cores_file.specs.Jobs.{Job, opens, replies, calls}
use Rattle.fl_cores_jobs.specs.Rules.{RulesAt, RuleNow, RuleOf, RulesOf}
use Rattle.fl_cores.specs.OneCore.{rule_in}

-- a world with these cores, and all else as in another, shows the state
pub record ShownWith (w : TheWorld) (cores : List TheCore) (s : State) : Type 0 where
  pub world : TheWorld
  pub shows : Shows world s
  pub cores_are : world.cores ≡ cores
  pub rings : world.rings ≡ w.rings
  pub queues : world.queues ≡ w.queues
  pub programs : world.programs ≡ w.programs
  pub names : world.names ≡ w.names
  pub bindings : world.bindings ≡ w.bindings

itself : (w : TheWorld) (cores : List TheCore) (s t : State) → Shows w s → cores ≡ w.cores → t ≡ s → ShownWith w cores t
itself w cores s t shown same q = record {
  world = w;
  shows = subst (Shows w) (sym q) shown;
  cores_are = sym same;
  rings = refl;
  queues = refl;
  programs = refl;
  names = refl;
  bindings = refl;
}

-- ---- one rule

-- where there is a binding the number of cores stands
stands_by : (s : State) (e : EndId) (b : Binding) → Sound s → binding_of s e ≡ Some b → s.may_set_cores ≡ false
stands_by s e b sound q = by s.may_set_cores refl
  where
    by : (t : Bool) → s.may_set_cores ≡ t → s.may_set_cores ≡ false
    by false r = r
    by true r =
        let none : slice_get [] e.binding ≡ Some b = ap (λ bs. slice_get bs e.binding) (sym (sound.bare r).bindings) ∙ q in
        absurd (cc)

abbrev sets_on : EndId → ℕ → ℕ → Planned → State → StepOutcome
sets_on e msg answer i s =
    if not (has_message msg i && has_message answer i) then answers s (refused 41)
    else if not (same_arguments (arguments_of msg i) (arguments_of answer i)) then answers s (refused 42)
    else answers (change_end e (with_rule msg answer) s) done

sets_at : (e : EndId) (msg answer : ℕ) (s : State) (b : Binding) (i : Planned) → binding_of s e ≡ Some b → interface_of s b ≡ Some i
    → are_messages i msg answer ≡ true → have_same_arguments i msg answer ≡ true
    → sets_rule e msg answer s ≡ answers (change_end e (with_rule msg answer) s) done
sets_at e msg answer s b i q r are same =
    ap (λ o. given o (answers s (refused 92)) (λ (x : Binding). given (interface_of s x) (answers s (refused 92)) (λ j. sets_on e msg answer j s))) q
    ∙ ap (λ o. given o (answers s (refused 92)) (λ j. sets_on e msg answer j s)) r
    ∙ past_not (are_messages i msg answer) _ _ are ∙ past_not (have_same_arguments i msg answer) _ _ same

not_set : (e : EndId) (msg answer : ℕ) (s : State) → binding_of s e ≡ None → (step s (reply e msg answer)).state ≡ s
not_set e msg answer s q =
    ap (λ (o : StepOutcome). (settles (reply e msg answer) o).state)
    (ap (λ o. given o (answers s (refused 92)) (λ (x : Binding). given (interface_of s x) (answers s (refused 92)) (λ j. sets_on e msg answer j s))) q)

module _ (w : TheWorld) (s : State) (e : EndId) (msg answer : ℕ) (cores : List TheCore) (shown : Shows w s) where
  set_there : (x : TheBinding) → slice_get w.bindings e.binding ≡ Some x → RulesAt (core_in e.side x) e msg answer w.cores cores
      → ShownWith w cores (step s (reply e msg answer)).state
  set_there x is u =
      let n = core_in e.side x in
      let place = u.rules.place in
      let location : location_of w e ≡ made n place =
      ap (λ o. given o nowhere (λ (b : TheBinding). location_at w.cores (core_in e.side b) e)) is
      ∙ ap (λ o. given o unmade (λ (k : TheCore). given (place_of k e) unmade (λ p. made n p))) u.core_is
      ∙ ap (λ o. given o unmade (λ p. made n p)) u.rules.place_is in
      let h : Stands w s e n place = find_made w s e n place shown location in
      let board = u.rules.sets.event in
      let core : u.core ≡ h.core = same_some (slice_get w.cores n) u.core h.core u.core_is h.core_is in
      let seat : board.seat ≡ h.at
      = same_some (slice_get h.core.board.seats place) board.seat h.at (ap (λ (c : TheCore). slice_get c.board.seats place) (sym core) ∙ board.seat_is) h.at_is in
      let after : u.after ≡ with_end_at h.core place h.at board.end
      = u.rules.sets.rest ∙ ap (with_board u.core) board.board ∙ ap (λ (c : TheCore). with_end_at c place board.seat board.end) core
      ∙ ap (λ (y : TheEndAtChannel). with_end_at h.core place y board.end) seat in
      let event : SetsRule h.at.end msg answer (Ok tt) board.end = subst (λ (y : TheEndAtChannel). SetsRule y.end msg answer (Ok tt) board.end) seat board.event in
      let end = end_in e.side h.binding in
      let g = rule_agrees msg answer (machine_end h.interface e.side h.binding) h.at.end board.end (Ok tt) h.shows event in
      let stays : EndStays h.interface end (with_rule msg answer end) = record {
        seat = refl;
        queue = refl;
        accepted = prefix_same end.out.accepted;
        parts = refl;
        silent = λ q. shown.showing.bindings.silent e end (end_of_binding s e h.binding h.binding_is) q;
      } in
      let showing : ShowsState (with_core w n (with_end_at h.core place h.at board.end)) (change_end e (with_rule msg answer) s)
      = end_frame w s e n place h (with_rule msg answer) board.end shown.showing stays g.2 in
      let stands = stands_by s e h.binding shown.sound h.binding_is in
      let state : (step s (reply e msg answer)).state ≡ change_end e (with_rule msg answer) s
      = ap (λ (o : StepOutcome). (settles (reply e msg answer) o).state) (sets_at e msg answer s h.binding h.interface h.binding_is h.interface_is g.0 g.1)
      ∙ ap (λ b. record (change_end e (with_rule msg answer) s) { may_set_cores = b }) (sym stands) in
      record {
        world = with_core w n u.after;
        shows = record {
          sound = steps_are_sound s (reply e msg answer) shown.sound;
          showing = subst (ShowsState (with_core w n u.after)) (sym state) (subst (λ k. ShowsState (with_core w n k) (change_end e (with_rule msg answer) s)) (sym after) showing);
        };
        cores_are = sym u.rest;
        rings = refl;
        queues = refl;
        programs = refl;
        names = refl;
        bindings = refl;
      }

  set_now : (o : Option TheBinding) → slice_get w.bindings e.binding ≡ o → RuleNow o e msg answer w.cores cores
      → ShownWith w cores (step s (reply e msg answer)).state
  set_now (Some x) is u = set_there x is u
  set_now None is u =
      let location : location_of w e ≡ nowhere = ap (λ o. given o nowhere (λ (b : TheBinding). location_at w.cores (core_in e.side b) e)) is in
      itself w cores s (step s (reply e msg answer)).state shown u (not_set e msg answer s (find_none w s e shown.showing location))

-- ---- those of all jobs

one_job : (job : Job) (w : TheWorld) (s : State) (cores : List TheCore) → Shows w s → RuleOf w.bindings job w.cores cores → ShownWith w cores (reached s (rule_in job))
one_job (replies e msg answer) w s cores shown u = set_now w s e msg answer cores shown (slice_get w.bindings e.binding) refl u
one_job (opens request) w s cores shown u = itself w cores s s shown u refl
one_job (calls e c) w s cores shown u = itself w cores s s shown u refl

reached_on : (job : Job) (s : State) (events : List Event) → reached s (rule_in job ++ events) ≡ reached (reached s (rule_in job)) events
reached_on (replies e msg answer) s events = refl
reached_on (opens request) s events = refl
reached_on (calls e c) s events = refl

pub rules_shown : (jobs : List Job) (w : TheWorld) (s : State) (cores : List TheCore) → Shows w s → RulesOf w.bindings jobs w.cores cores
    → ShownWith w cores (reached s (flat_map rule_in jobs))
rules_shown [] w s cores shown u = itself w cores s s shown u refl
rules_shown (job ∷ jobs) w s cores shown (m, one, rest) =
    let first = one_job job w s m shown one in
    let behind : RulesOf first.world.bindings jobs first.world.cores cores
    = subst (λ bs. RulesOf bs jobs first.world.cores cores) (sym first.bindings) (subst (λ ks. RulesOf w.bindings jobs ks cores) (sym first.cores_are) rest) in
    let next = rules_shown jobs first.world (reached s (rule_in job)) cores first.shows behind in
    record {
      world = next.world;
      shows = subst (Shows next.world) (sym (ap (reached s) (flat_map-cons rule_in job jobs) ∙ reached_on job s (flat_map rule_in jobs))) next.shows;
      cores_are = next.cores_are;
      rings = next.rings ∙ first.rings;
      queues = next.queues ∙ first.queues;
      programs = next.programs ∙ first.programs;
      names = next.names ∙ first.names;
      bindings = next.bindings ∙ first.bindings;
    }
