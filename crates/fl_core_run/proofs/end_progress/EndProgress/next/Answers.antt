use Rattle.std.proofs.Common.{◌≡◌, ◌<◌, sym, subst, ℕ, List, length, slice_get, Some, None}
use Rattle.std.proofs.lemmas.Bool.{ltb-true, ltb-false}
use Rattle.std.proofs.lemmas.Option.{slice_get_past}
use Rattle.fl_core_run.specs.EndProgress.{TheEndProgress}
use Rattle.fl_core_run.proofs.Copying.{stands_at}
use Rattle.fl_core_run.proofs.end_progress.EndProgress.next.Goals as goal

pub returns-in-Some-clause-next : goal.returns-in-Some-clause-next
returns-in-Some-clause-next c =
    subst (λ (d : TheEndProgress). Some c.in-Some.place.now ≡ slice_get d.jobs d.done) c.self.view_is
    (sym (stands_at c.self.inside.jobs.items c.deref.result.now c.self.inside.done c.in-Some.place.now c.deref.ensures.value c.in-Some.ensures.lookup.0 c.in-Some.ensures.lookup.1))

pub returns-in-Some-clause-left : goal.returns-in-Some-clause-left
returns-in-Some-clause-left c =
    let below : c.self.inside.done < length c.deref.result.now = ltb-true c.self.inside.done (length c.deref.result.now) (sym c.in-Some.ensures.lookup.0) in
    subst (λ (d : TheEndProgress). d.done < length d.jobs) c.self.view_is (subst (λ (xs : List ℕ). c.self.inside.done < length xs) c.deref.ensures.value below)

pub returns-in-None-clause-next : goal.returns-in-None-clause-next
returns-in-None-clause-next c =
    let past : slice_get c.deref.result.now c.self.inside.done ≡ None = slice_get_past c.deref.result.now c.self.inside.done (ltb-false c.self.inside.done (length c.deref.result.now) (sym c.in-None.ensures.lookup.0)) in
    subst (λ (d : TheEndProgress). None ≡ slice_get d.jobs d.done) c.self.view_is (subst (λ (xs : List ℕ). None ≡ slice_get xs c.self.inside.done) c.deref.ensures.value (sym past))
