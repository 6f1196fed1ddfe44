-- A rule is set in an end's work.
use Rattle.std.proofs.Common.{◌≡◌, ◌∙◌, refl, sym, ap, subst, ℕ, ◌<◌, List, length, get_or, map, slice_get, slice_set, Option, Some}
use Rattle.std.proofs.lemmas.Option.{slice_get-get_or, slice_get-map}
use Rattle.std.specs.Option.{option_map}
use Rattle.fl_base.specs.declared.identity.EndId.{EndId}
use Rattle.fl_base.specs.Given.{given}
use Rattle.fl_core.specs.View.{slot_of}
use Rattle.fl_cores_jobs.specs.declared.end_work.EndWork.{EndWork}
use Rattle.fl_cores_jobs.specs.EndWork.{TheEndWork, end_work_of, end_work_at, no_end_work, Rules}
use Rattle.fl_cores_jobs.specs.State.{SetAt}
use Rattle.fl_cores_jobs.proofs.Lists.{map_put_or}

pub end_work_is : (xs : List EndWork) (e : EndId) (x : EndWork) → slot_of e < length xs → x ≡ get_or xs (slot_of e) x → end_work_at (map end_work_of xs) e ≡ end_work_of x
end_work_is xs e x h is =
    let at : slice_get xs (slot_of e) ≡ Some x = slice_get-get_or xs (slot_of e) x h ∙ ap Some (sym is) in
    ap (λ (o : Option TheEndWork). given o no_end_work (λ d. d)) (slice_get-map end_work_of xs (slot_of e) ∙ ap (option_map end_work_of) at)

pub set_at : (xs : List EndWork) (e : EndId) (msg answer n : ℕ) (x y : EndWork) → n ≡ slot_of e → slot_of e < length xs → x ≡ get_or xs n x
    → Rules msg answer (end_work_of x) (end_work_of y) → SetAt e msg answer (map end_work_of xs) (map end_work_of (slice_set xs n y))
set_at xs e msg answer n x y same h is rules =
    let is2 : x ≡ get_or xs (slot_of e) x = subst (λ (i : ℕ). x ≡ get_or xs i x) same is in
    record {
      end_work = end_work_of y;
      rules = subst (λ (d : TheEndWork). Rules msg answer d (end_work_of y)) (sym (end_work_is xs e x h is2)) rules;
      rest = ap (λ (i : ℕ). map end_work_of (slice_set xs i y)) same ∙ map_put_or end_work_of (λ d. end_work_of y) xs (slot_of e) x y h is2 refl;
    }
