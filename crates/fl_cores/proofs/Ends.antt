-- That a run ends as its report tells.
use Rattle.std.proofs.Common.{◌≡◌, ◌≢◌, refl, sym, ap, ◌∙◌, ℕ, ◌<◌, List, [], ◌∷◌, ◌++◌, length, Option, Some, None, arith}
use Rattle.fl_base.specs.declared.identity.EndId.{EndId}
use Rattle.fl_base.specs.declared.identity.Side.{Side}
use Rattle.fl_base.specs.declared.identity.Side.TheVariants.{Client, Server}
use Rattle.fl_base.specs.Ends.{peer}
use Rattle.fl_base.specs.Prefix.{IsPrefix}
use Rattle.fl_core.specs.View.{client_of}
use Rattle.fl_world.specs.Booting.{TheConfig}
use Rattle.fl_cores_file.specs.Jobs.{Job}
use Rattle.fl_cores_file.specs.Report.{TheReport, at_end, refusal_of, Honest}
use Rattle.fl_cores_laws.specs.Refused.{WasRefused}
use Rattle.fl_cores.specs.Behind.{joined_in}
use Rattle.fl_cores.specs.Outcomes.{ReportsKeepTurns, RefusedAreOpened, SetUpHandleFew, HonestHandleFew, CompleteHasAll}
use Rattle.fl_cores.specs.Promised.{Reports}
use Rattle.fl_cores.specs.Honesty.{RunsReportHonestly}
use Rattle.fl_cores.specs.Endings.{bindings_by, EndsAsTold, RunsEndAsTold}
use Rattle.fl_cores.specs.Over.{RefusedAreOutnumbered}
use Rattle.fl_cores.specs.Reasons.{RefusalsHaveReasons}
use Rattle.fl_cores.specs.Wanted.{WantedHandleFew}

first_of_none : {X : Type 0} (xs ys : List X) → IsPrefix xs ys → ys ≡ [] → xs ≡ []
first_of_none [] ys (p, is) none = refl
first_of_none (x ∷ xs) ys (p, is) none = absurd (let clash : x ∷ (xs ++ p) ≡ [] = sym is ∙ none in cc)

module _ (c : TheConfig) (jobs : List Job) (limit : ℕ) (r : TheReport) (w : Reports c jobs limit r) (honest : Honest jobs r) where
  many : length w.ran.parts.bindings.items ≡ bindings_by c
  many = ap length w.ran.made.parts.bindings ∙ w.ran.made.stands.1.shown.showing.bindings.count

  unrefused_by : RefusedAreOpened → (n : ℕ) → n < bindings_by c → (o : Option ℕ) → refusal_of r n ≡ o → refusal_of r n ≡ None
  unrefused_by opened n below None is = is
  unrefused_by opened n below (Some fault) is =
      let was : WasRefused (joined_in w) r n = opened c jobs limit r w n fault is in
      let none : was.bound.opened ≡ None = w.ran.ran.are_bound.unopened n was.bound was.bound_is (omega (arith, many, below)) in
      let some = was.opened in
      absurd (cc)

  -- the client's end of a binding that was refused handled nothing and made nothing, so neither did the server's
  silent_at : (e : EndId) → WasRefused (joined_in w) r e.binding → (s : Side) → e.side ≡ s → at_end r.handled e ≡ []
  silent_at e was Client side =
      let is : e ≡ client_of e.binding = ap (λ (x : Side). record { binding = e.binding; side = x }) side in
      ap (λ (x : EndId). at_end r.handled x) is ∙ was.handled
  silent_at e was Server side =
      let is : peer e ≡ client_of e.binding = ap (λ (x : Side). peer (record { binding = e.binding; side = x })) side in
      first_of_none (at_end r.handled e) (at_end r.made (peer e)) (honest.handled e) (ap (λ (x : EndId). at_end r.made x) is ∙ was.made)

  silent_by : RefusedAreOpened → (e : EndId) → (o : Option ℕ) → refusal_of r e.binding ≡ o → refusal_of r e.binding ≢ None → at_end r.handled e ≡ []
  silent_by opened e None is some = absurd (some is)
  silent_by opened e (Some fault) is some = silent_at e (opened c jobs limit r w e.binding fault is) e.side refl

  pub ends_as_told : ReportsKeepTurns → CompleteHasAll → RefusedAreOpened → RefusalsHaveReasons → SetUpHandleFew → WantedHandleFew → HonestHandleFew
      → RefusedAreOutnumbered → EndsAsTold w
  ends_as_told keep all opened reasons few wanted few_there over = record {
    turns = keep c jobs limit r w;
    all = all c jobs limit r w honest;
    unrefused = λ n below. unrefused_by opened n below (refusal_of r n) refl;
    silent = λ e some. silent_by opened e (refusal_of r e.binding) refl some;
    reasons = λ n fault told. (reasons c jobs limit r w n fault told).reason;
    unlinked = λ n told. (reasons c jobs limit r w n 73 told).unlinked refl;
    spent = λ n told. (reasons c jobs limit r w n 74 told).spent refl;
    crowded = λ n told. (reasons c jobs limit r w n 54 told).crowded refl;
    few = λ d ends turns are told. few c jobs limit r w honest d ends turns are told;
    few_wanted = λ d ends turns are told. wanted c jobs limit r w honest d ends turns are told;
    few_there = λ n d turns core ends at are told. few_there c jobs limit r w honest n d turns core ends at are told;
    over = λ n told. over c jobs limit r w n told;
  }

pub runs_end_as_told : RunsReportHonestly → ReportsKeepTurns → CompleteHasAll → RefusedAreOpened → RefusalsHaveReasons → SetUpHandleFew → WantedHandleFew
    → HonestHandleFew → RefusedAreOutnumbered → RunsEndAsTold
runs_end_as_told honest keep all opened reasons few wanted few_there over c jobs limit r w =
    ends_as_told c jobs limit r w (honest c jobs limit r w) keep all opened reasons few wanted few_there over
