-- What is a part of being sound holds of every state that a run from a world of 1 to 16 cores reaches.
use Rattle.std.proofs.Common.{ap, sym, subst, ℕ, suc, ◌<◌, ◌≤◌, length}
use Rattle.std.specs.Prelude.{slice_index, is_some}
use Rattle.fl_model.specs.Ends.{End}
use Rattle.fl_model.specs.State.{State, end_in}
use Rattle.fl_model.specs.Runs.{reached}
use Rattle.fl_model.specs.Sound.{Sound}
use Rattle.fl_model.specs.Worlds.{start_with}
use Rattle.fl_model_laws.proofs.BindingWalk.{end_there}
use Rattle.fl_model_laws.proofs.SoundSteps.{ever_sound}
use Rattle.fl_model_laws.proofs.TurnsTold.{takes_ring, takes_from}
use Rattle.fl_world_laws.specs.Booted.{PendingHaveFragments, NumbersFall, EverPassedFalls, EverCounted, EverOnce, EverPendingHas, EverPaired}
use Rattle.fl_world_laws.specs.Booted.{EverInOrderOpenings, EverGivenOnce}

numbers_fall : (s : State) → Sound s → NumbersFall s
numbers_fall s sound e x j q a =
    let (b, there, is) = end_there s e x q in
    subst (λ (y : End). slice_index y.out.passed (suc j) ≤ slice_index y.out.passed j) is
    (sound.labels e b j there (subst (λ (n : ℕ). suc j < n) (ap (λ (y : End). length y.out.passed) (sym is)) a)).falls

pub passed_ever_falls : EverPassedFalls
passed_ever_falls n vs some few = numbers_fall (reached (start_with n) vs) (ever_sound n vs some few)

pub ever_counted : EverCounted
ever_counted n vs some few = (ever_sound n vs some few).counted

pub ever_paired : EverPaired
ever_paired n vs some few = ((ever_sound n vs some few).links, (ever_sound n vs some few).owners)

pub openings_ever_in_order : EverInOrderOpenings
openings_ever_in_order n vs some few = (ever_sound n vs some few).openings

pub ever_given_once : EverGivenOnce
ever_given_once n vs some few = (ever_sound n vs some few).numbers_once

pub ever_once : EverOnce
ever_once n vs some few d x q = ((ever_sound n vs some few).waitsets d x q).apart

pending_have : (s : State) → Sound s → PendingHaveFragments s
pending_have s sound e b l = record {
  queue = λ q r. sound.held e b q l r;
  ring = λ none.
      let (at, own) = takes_ring s e.side b.back (end_in e.side b) (takes_from s sound e b l.binding_is) (ap is_some none) in
      (at, own, sound.looked e b at l own);
}

pub pending_ever_has : EverPendingHas
pending_ever_has n vs some few = pending_have (reached (start_with n) vs) (ever_sound n vs some few)
