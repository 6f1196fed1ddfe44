-- Ends of bindings of a set-up, as the runs of their cores begin: new ones, with the rules that their jobs ask for.
use Rattle.std.proofs.Common.{◌≡◌, refl, sym, ap, ◌∙◌, subst, ℕ, zero, suc, List, [], length, replicate, slice_get, Option, Some, None}
use Rattle.std.proofs.lemmas.List.{length-replicate}
use Rattle.fl_base.specs.declared.identity.EndId.{EndId}
use Rattle.fl_compile.specs.declared.program.Program.{Program}
use Rattle.fl_compile.specs.Programs.{program_of}
use Rattle.fl_ring.specs.SharedSides.{TheSide}
use Rattle.fl_endpoint.specs.View.{TheEnd, nothing_to_send, no_rules, rule_at as rule_of_end}
use Rattle.fl_core.proofs.BoardPlaces.{one_stands}
use Rattle.fl_core.specs.declared.wiring.WiredEnd.{WiredEnd}
use Rattle.fl_core.specs.declared.wiring.EndWiring.{EndWiring}
use Rattle.fl_core.specs.View.{TheCore, place_of}
use Rattle.fl_core.specs.Sound.{IsCore}
use Rattle.fl_core.specs.Numbers.{moved_wiring, moved_wired_end, renumbered}
use Rattle.fl_core.proofs.Numbering.{goes_to}
use Rattle.fl_core.specs.declared.core_job.CoreJob.{CoreJob}
use Rattle.fl_core_run.specs.Run.{TheRun}
use Rattle.fl_core.specs.Jobs.{HasNoRule}
use Rattle.fl_world_refines.specs.declared.binding.Binding.{Binding}
use Rattle.fl_world_refines.specs.View.{TheWorld, core_in}
use Rattle.fl_world_refines.specs.ShowsState.{wiring_of}
use Rattle.fl_cores_file.specs.Jobs.{Job, rule_for}
use Rattle.fl_cores_jobs.specs.EndWork.{TheEndWork, IsEndWork}
use Rattle.fl_cores_jobs.specs.Rules.{RulesOf}
use Rattle.fl_core_refines.specs.SetUpStart.{Stands, StartsFresh}
use Rattle.fl_cores_laws.specs.Ends.{StandsReady}
use Rattle.fl_cores.proofs.StartNumbers.{wiring_at}
use Rattle.fl_cores.proofs.StartRules.{later_or, SitsIn, Sits, HasPlaces, by_jobs}
use Rattle.fl_cores.proofs.StartRested.{core_was, was_at}

-- ---- rules

abbrev no_answer : Option ℕ
no_answer = None

none_there : (n msg : ℕ) → rule_of_end (replicate n no_answer) msg ≡ None
none_there zero msg = refl
none_there (suc n) zero = refl
none_there (suc n) (suc msg) = none_there n msg

later_alone : (o : Option ℕ) → later_or o None ≡ o
later_alone None = refl
later_alone (Some answer) = refl

-- ---- an end at a core, behind rules

pub record Stood (asked : List Job) (k : TheCore) (e : EndId) (program : Program) (wiring : EndWiring) : Type 0 where
  pub place : ℕ
  pub end : TheEnd
  pub sits : SitsIn k e place end
  pub wired_end : WiredEnd
  pub wired_end_is : slice_get k.wired_ends place ≡ Some wired_end
  pub wiring_is : wired_end.wiring ≡ wiring
  pub circuit : end.circuit ≡ Some 0
  pub outgoing : end.outgoing ≡ nothing_to_send
  pub parts : end.parts ≡ []
  pub rules : (msg : ℕ) → rule_of_end end.rules msg ≡ rule_for asked e msg
  pub program_is : program_of end.program ≡ program_of program

-- no other end is at an end's place
alone : (k : TheCore) → IsCore k → (e f : EndId) (place : ℕ) → place_of k e ≡ Some place → place_of k f ≡ Some place → f ≡ e
alone k core e f place at_e at_f =
    let one = core.placed f place at_f in
    let two = core.placed e place at_e in
    sym one.name_is ∙ ap (λ (p : WiredEnd). p.name) (one_stands k.wired_ends place one.wired_end two.wired_end one.wired_end_is two.wired_end_is) ∙ two.name_is

has_places : (x : TheEnd) → x.rules ≡ no_rules x.program → HasPlaces x
has_places x rules = ap length rules ∙ length-replicate (length (program_of x.program).interface.messages) no_answer

module _ (w : TheWorld) (fresh : StartsFresh w) (bindings : List Binding) (same : bindings ≡ w.bindings) (asked : List Job) (cores2 : List TheCore)
    (of_them : RulesOf bindings asked w.cores cores2) where
  pub stood : (e : EndId) (b : Binding) (k2 : TheCore) (program : Program) (wiring : EndWiring) → slice_get w.bindings e.binding ≡ Some b
      → slice_get cores2 (core_in e.side b) ≡ Some k2 → IsCore k2 → Stands w (core_in e.side b) e program wiring → Stood asked k2 e program wiring
  stood e b k2 program wiring b_is k2_is sound s =
      let n : ℕ = core_in e.side b in
      let was = was_at bindings asked w.cores cores2 of_them n k2 k2_is in
      let one : was.core ≡ s.core = one_stands w.cores n was.core s.core was.core_is s.core_is in
      let core : IsCore s.core = subst IsCore one (core_was was.core k2 was.rests sound) in
      let f = fresh.ends n s.place s.core e s.seat s.core_is s.place_is s.seat_is in
      let sits : Sits w.cores n e s.place s.seat.end = record {
        core = s.core;
        core_is = s.core_is;
        sits = record { place_is = s.place_is; alone = λ g at. alone s.core core e g s.place s.place_is at; seat = s.seat; seat_is = s.seat_is; end_is = refl };
      } in
      let it = by_jobs bindings e b (ap (λ (bs : List Binding). slice_get bs e.binding) same ∙ b_is) s.place asked s.seat.end w.cores cores2
      (has_places s.seat.end f.new.rules) of_them sits in
      let there : it.sits.core ≡ k2 = one_stands cores2 n it.sits.core k2 it.sits.core_is k2_is in
      record {
        place = s.place;
        end = it.end;
        sits = subst (λ (k : TheCore). SitsIn k e s.place it.end) there it.sits.sits;
        wired_end = s.wired_end;
        wired_end_is = ap (λ (k : TheCore). slice_get k.wired_ends s.place) was.rests.same ∙ ap (λ (k : TheCore). slice_get k.wired_ends s.place) one ∙ s.wired_end_is;
        wiring_is = s.wiring_is;
        circuit = ap (λ (u : TheEnd). u.circuit) it.ruled.same ∙ f.circuit;
        outgoing = ap (λ (u : TheEnd). u.outgoing) it.ruled.same ∙ f.new.outgoing;
        parts = ap (λ (u : TheEnd). u.parts) it.ruled.same ∙ f.new.parts;
        rules = λ msg.
            it.ruled.rules msg
            ∙ ap (λ (rs : List (Option ℕ)). later_or (rule_for asked e msg) (rule_of_end rs msg)) f.new.rules
            ∙ ap (λ (o : Option ℕ). later_or (rule_for asked e msg) o) (none_there (length (program_of s.seat.end.program).interface.messages) msg)
            ∙ later_alone (rule_for asked e msg);
        program_is = ap (λ (u : TheEnd). program_of u.program) it.ruled.same ∙ s.program_is;
      }

-- its core names what its wire does
pub stood_wiring : (asked : List Job) (k : TheCore) (e : EndId) (program : Program) (wiring : EndWiring) → Stood asked k e program wiring → wiring_of k e ≡ Some wiring
stood_wiring asked k e program wiring s = wiring_at k e s.place s.wired_end s.sits.place_is s.wired_end_is ∙ ap Some s.wiring_is

-- ---- at its core, as that's run begins

pub record IsReady (jobs : List CoreJob) (d : TheEndWork) (t : TheRun TheSide) (e : EndId) (wiring : EndWiring) (program : Program) : Type 0 where
  pub stands : StandsReady jobs d t e wiring
  pub program_is : program_of stands.seat.end.program ≡ program_of program

module _ (asked : List Job) (jobs : List CoreJob) (d : TheEndWork) (sides queues : List ℕ) (k : TheCore) (t : TheRun TheSide)
    (core_is : t.core ≡ renumbered sides queues k) where
  pub ready : (e : EndId) (program : Program) (wiring : EndWiring) → IsEndWork asked jobs e d → HasNoRule jobs d.jobs → Stood asked k e program wiring
      → IsReady jobs d t e (moved_wiring sides queues wiring) program
  ready e program wiring end_work none s = record {
    stands = record {
      place = s.place;
      place_is = ap (λ (c : TheCore). place_of c e) core_is ∙ s.sits.place_is;
      wired_end = moved_wired_end sides queues s.wired_end;
      wired_end_is = ap (λ (c : TheCore). slice_get c.wired_ends s.place) core_is ∙ goes_to (moved_wired_end sides queues) k.wired_ends s.place s.wired_end s.wired_end_is;
      wiring_is = ap (moved_wiring sides queues) s.wiring_is;
      seat = s.sits.seat;
      seat_is = ap (λ (c : TheCore). slice_get c.board.seats s.place) core_is ∙ s.sits.seat_is;
      circuit = ap (λ (u : TheEnd). u.circuit) s.sits.end_is ∙ s.circuit;
      outgoing = ap (λ (u : TheEnd). u.outgoing) s.sits.end_is ∙ s.outgoing;
      parts = ap (λ (u : TheEnd). u.parts) s.sits.end_is ∙ s.parts;
      rules = λ msg. ap (λ (u : TheEnd). rule_of_end u.rules msg) s.sits.end_is ∙ s.rules msg ∙ sym (end_work.asked.rules msg);
      no_more = none;
    };
    program_is = ap (λ (u : TheEnd). program_of u.program) s.sits.end_is ∙ s.program_is;
  }
