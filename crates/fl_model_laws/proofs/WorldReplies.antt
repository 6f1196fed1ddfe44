-- Replies that wait, in every run from a world of 1 to 16 cores.
use Rattle.fl_model.specs.State.{State, end_in}
use Rattle.fl_model.specs.Runs.{reached}
use Rattle.fl_model.specs.Worlds.{start_with, EverFewWait}
use Rattle.fl_model_laws.proofs.Cases.{none_at_end}
use Rattle.fl_model_laws.proofs.Replies.{EndOk}
use Rattle.fl_model_laws.proofs.EndsStep.{BindingOk, AllOk, all_keep, end_ok}
use Rattle.fl_model_laws.proofs.RepliesStep.{replies_keep}
use Rattle.fl_model_laws.proofs.Walk.{run_keeps}

pub ever_few_wait : EverFewWait
ever_few_wait cores vs some few e b i q r =
    let s : State = reached (start_with cores) vs in
    let ok : EndOk i (end_in e.side b) =
    end_ok EndOk s.interfaces e.side b i r
    (run_keeps (AllOk EndOk) (all_keep EndOk replies_keep) vs (start_with cores) (none_at_end (BindingOk EndOk (start_with cores).interfaces)) e.binding b q) in
    (ok.few, ok.busy)
