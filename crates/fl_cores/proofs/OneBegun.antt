-- With what an end of one core begins, behind the set-up and the rules of the jobs: it came to send nothing, and has just these rules.
use Rattle.std.proofs.Common.{◌≡◌, ◌⊎◌, inl, inr, refl, sym, ◌∙◌, ap, subst, ℕ, ◌+◌, ◌*◌, ◌<◌, List, [], ◌∷◌, ◌++◌, length, slice_get, Option, Some, None}
use Rattle.std.specs.List.{flat_map}
use Rattle.std.proofs.lemmas.List.Concat.{flat_map-cons}
use Rattle.fl_base.specs.declared.identity.EndId.{EndId}
use Rattle.fl_base.specs.declared.identity.Side.{Side}
use Rattle.fl_base.specs.declared.identity.Side.TheVariants.{Client, Server}
use Rattle.fl_base.specs.Given.{given}
use Rattle.fl_compile.specs.declared.program.Program.{Program}
use Rattle.fl_endpoint.specs.View.{TheEnd, rule_at as rule_of_end}
use Rattle.fl_hop.proofs.Lists.{at_within}
use Rattle.fl_core.specs.BoardView.{TheEndAtChannel}
use Rattle.fl_core.specs.declared.wiring.EndWiring.{EndWiring}
use Rattle.fl_core.specs.declared.wiring.EndWiring.TheVariants.{Queues, Ring}
use Rattle.fl_core.specs.Sound.{IsCore}
use Rattle.fl_core.specs.View.{TheCore}
use Rattle.fl_model.specs.Ends.{Direction, End, rule_at}
use Rattle.fl_model.specs.Events.{Event}
use Rattle.fl_model.specs.Runs.{reached}
use Rattle.fl_model.specs.State.{Binding as MachineBinding, State, binding_of, end_in}
use Rattle.fl_world_refines.specs.declared.binding.Binding.{Binding}
use Rattle.fl_world_refines.specs.View.{TheWorld, core_in}
use Rattle.fl_world_refines.specs.ShowsState.{Shows}
use Rattle.fl_world_refines.proofs.FramesBase.{same_some, end_of_binding}
use Rattle.fl_core_refines.specs.SetUpStart.{Stands, ByQueues, ByRing, IsJoined, StartsFresh}
use Rattle.fl_core_refines.specs.SetUpUntouched.{IsUntouched, IsNewBinding, Untouched}
use Rattle.fl_core_refines.proofs.Finding.{found}
use Rattle.fl_cores_file.specs.Jobs.{Job, opens, replies, calls, rule_for}
use Rattle.fl_cores_jobs.specs.Rules.{RulesOf}
use Rattle.fl_cores_fork.specs.Runs.{TheCoreThread}
use Rattle.fl_cores_parts.specs.Begins.{TheCoreInputs, AreCoreThreads}
use Rattle.fl_cores.specs.OneCore.{rule_in}
use Rattle.fl_cores.proofs.OneBare.{the_one}
use Rattle.fl_cores.proofs.OneSends.{sent_in, sent_at, job_keeps}
use Rattle.fl_cores.proofs.StartNumbers.{core_before}
use Rattle.fl_cores.proofs.StartReady.{Stood, stood}

-- ---- it came to send nothing

reached_on : (job : Job) (s : State) (events : List Event) → reached s (rule_in job ++ events) ≡ reached (reached s (rule_in job)) events
reached_on (replies e msg answer) s events = refl
reached_on (opens request) s events = refl
reached_on (calls e c) s events = refl

pub rules_keep : (jobs : List Job) (e : EndId) (s : State) → (sent_at (reached s (flat_map rule_in jobs)) e).all ≡ (sent_at s e).all
rules_keep [] e s = refl
rules_keep (job ∷ jobs) e s =
    ap (λ (t : State). (sent_at t e).all) (ap (reached s) (flat_map-cons rule_in job jobs) ∙ reached_on job s (flat_map rule_in jobs))
    ∙ rules_keep jobs e (reached s (rule_in job))
    ∙ job_keeps job e s

untouched_at : (side : Side) (b : MachineBinding) → IsNewBinding b → IsUntouched (end_in side b)
untouched_at Client b h = h.client
untouched_at Server b h = h.server

pub none_sent : (s : State) (e : EndId) → Untouched s → (sent_at s e).all ≡ []
none_sent s e untouched = by (binding_of s e) refl
  where
    by : (o : Option MachineBinding) → binding_of s e ≡ o → (sent_at s e).all ≡ []
    by None q = ap (λ (o : Option MachineBinding). (sent_in (given o None λ b. Some (end_in e.side b))).all) q
    by (Some b) q =
        ap (λ (o : Option End). (sent_in o).all) (end_of_binding s e b q)
        ∙ ap (λ (d : Direction). d.accepted ++ d.waiting) (untouched_at e.side b (untouched.bindings e.binding b q)).out

-- ---- its rules

rule_same : (rules : List (Option ℕ)) (msg : ℕ) → rule_at rules msg ≡ rule_of_end rules msg
rule_same rules msg = by (slice_get rules msg)
  where
    by : (o : Option (Option ℕ)) → given o None (λ rule. rule) ≡ Rattle.fl_endpoint.specs.View.rule_in o
    by None = refl
    by (Some rule) = refl

-- where it stands in the world of the set-up
record Standing (w : TheWorld) (n : ℕ) (e : EndId) : Type 0 where
  pub program : Program
  pub wiring : EndWiring
  pub stands : Stands w n e program wiring

standing : (w : TheWorld) (n : ℕ) (b : Binding) (side : Side) → IsJoined w n b → Standing w (core_in side b) (record { binding = n; side = side })
standing w n b side j = by side j.joined
  where
    by : (side : Side) → ((forth : ℕ) × (back : ℕ) × ByQueues w n b j.program forth back) ⊎ ((ring : ℕ) × ByRing w n b j.program ring)
        → Standing w (core_in side b) (record { binding = n; side = side })
    by Client (inl (forth, back, q)) = record { program = j.program; wiring = Queues forth back; stands = q.client }
    by Server (inl (forth, back, q)) = record { program = j.program; wiring = Queues back forth; stands = q.server }
    by Client (inr (ring, q)) = record { program = j.program; wiring = Ring (2 * ring); stands = q.client }
    by Server (inr (ring, q)) = record { program = j.program; wiring = Ring (2 * ring + 1); stands = q.server }

-- the one core is sound, as its run's is
pub own_core : (c : TheCoreInputs) (k : TheCore) (core_threads : List TheCoreThread) → AreCoreThreads c 0 (k ∷ []) core_threads
    → ((n : ℕ) (s : TheCoreThread) → slice_get core_threads n ≡ Some s → IsCore s.run.core) → IsCore k
own_core c k [] are sound = absurd are
own_core c k (s ∷ core_threads) are sound = core_before c.places.sides c.places.queues k (subst IsCore are.0.core_is (sound 0 s refl))

-- these are the world's cores before the rules were set, and after; the machine is shown after that
module _ (w : TheWorld) (fresh : StartsFresh w) (first : TheCore) (only : w.cores ≡ first ∷ []) (jobs : List Job) (cores : List TheCore)
    (rules : RulesOf w.bindings jobs w.cores cores) (k : TheCore) (one : cores ≡ k ∷ []) (sound : IsCore k)
    (ruled : TheWorld) (s : State) (shown : Shows ruled s) (ruled_cores : ruled.cores ≡ cores) where
  stood_there : (e : EndId) (b : Binding) → slice_get w.bindings e.binding ≡ Some b → (at : Standing w (core_in e.side b) e)
      → Stood jobs k e at.program at.wiring
  stood_there e b b_is at =
      let home : core_in e.side b ≡ 0
      = (the_one first at.stands.core (core_in e.side b) (ap (λ (ks : List TheCore). slice_get ks (core_in e.side b)) (sym only) ∙ at.stands.core_is)).0 in
      stood w fresh w.bindings refl jobs cores rules e b k at.program at.wiring b_is
      (ap (slice_get cores) home ∙ ap (λ (ks : List TheCore). slice_get ks 0) one) sound at.stands

  rules_stood : (e : EndId) (program : Program) (wiring : EndWiring) → Stood jobs k e program wiring
      → (msg : ℕ) → rule_at (sent_at s e).rules msg ≡ rule_for jobs e msg
  rules_stood e program wiring st msg =
      let x = found ruled s 0 k e st.place shown (ap (λ (ks : List TheCore). slice_get ks 0) (ruled_cores ∙ one)) st.sits.place_is in
      let seat : x.at ≡ st.sits.seat = same_some (slice_get k.board.seats st.place) x.at st.sits.seat x.at_is st.sits.seat_is in
      let same : (end_in e.side x.binding).rules ≡ st.end.rules
      = sym x.shows.rules ∙ ap (λ (y : TheEndAtChannel). y.end.rules) seat ∙ ap (λ (t : TheEnd). t.rules) st.sits.end_is in
      ap (λ (o : Option End). rule_at (sent_in o).rules msg) (end_of_binding s e x.binding x.binding_is)
      ∙ ap (λ (rs : List (Option ℕ)). rule_at rs msg) same
      ∙ rule_same st.end.rules msg
      ∙ st.rules msg

  pub rules_are : (e : EndId) → e.binding < length w.bindings → (msg : ℕ) → rule_at (sent_at s e).rules msg ≡ rule_for jobs e msg
  rules_are e below =
      let (b, b_is) = at_within w.bindings e.binding below in
      let at : Standing w (core_in e.side b) e = standing w e.binding b e.side (fresh.joined e.binding b b_is) in
      rules_stood e at.program at.wiring (stood_there e b b_is at)
