-- Each event keeps what is said of the replies that wait.
use Rattle.std.proofs.Common.{◌≡◌, refl, sym, subst, ℕ, ◌≤◌, true, [], length, Option, arith}
use Rattle.fl_model.specs.Calls.{Planned}
use Rattle.fl_model.specs.Ends.{Queue, End, Direction, is_busy, unbound_end}
use Rattle.fl_model.specs.Laws.{FewWaitAndOnlyWhereBusy}
use Rattle.fl_model.specs.State.{end_in}
use Rattle.fl_model_laws.proofs.Replies.{EndOk, station_ok, taken_ok, written_ok, called_ok, replied_ok}
use Rattle.fl_model_laws.proofs.EndsStep.{EndKeeps, ends_reached}
use Rattle.fl_model_laws.proofs.Small.{length_replicate}

pub same_out : (i : Planned) (x y : End) → y.out ≡ x.out → EndOk i x → EndOk i y
same_out i x y e ok = record {
  stations = subst (λ (d : Direction). 2 ≤ length d.passed) (sym e) ok.stations;
  busy = subst (λ (d : Direction). (d.waiting ≡ [] → ⊥) → is_busy i d ≡ true) (sym e) ok.busy;
  few = subst (λ (d : Direction). length d.waiting ≤ 16) (sym e) ok.few;
}

fresh_ok : (i : Planned) (messages stations : ℕ) (q : Option Queue) → 2 ≤ stations → EndOk i (unbound_end messages stations q)
fresh_ok i messages stations q a =
    let long = length_replicate {X = ℕ} stations 0 in
    record { stations = omega arith; busy = λ w. absurd (w refl); few = omega arith }

pub replies_keep : EndKeeps EndOk
replies_keep = record {
  by_out = same_out;
  fresh = fresh_ok;
  called = called_ok;
  written = written_ok;
  passed = station_ok;
  taken = taken_ok;
  replied = replied_ok;
}

pub few_wait : FewWaitAndOnlyWhereBusy
few_wait vs e b i q r =
    let ok : EndOk i (end_in e.side b) = ends_reached EndOk replies_keep vs e b i q r in
    (ok.few, ok.busy)
