-- What sound states say of waitsets: a listed channel has an end, no channel is listed twice, a pending one has a fragment.
use Rattle.std.proofs.Common.{ap}
use Rattle.std.specs.Prelude.{is_some}
use Rattle.fl_base.specs.declared.identity.EndId.{EndId}
use Rattle.fl_lists.specs.declared.place.Place.TheVariants.{Pending}
use Rattle.fl_model.specs.State.{Binding, State, start, end_in}
use Rattle.fl_model.specs.Runs.{reached}
use Rattle.fl_model.specs.SoundLists.{Listed}
use Rattle.fl_model.specs.Sound.{Sound}
use Rattle.fl_model.specs.Laws.{RunsAreSound, ChannelsAreOnce, PendingHas, PendingHasAFragment}
use Rattle.fl_model.specs.Worlds.{ListedHaveEnds}
use Rattle.fl_model_laws.proofs.ListingKept.{IsListed, listed_of}
use Rattle.fl_model_laws.proofs.TurnsTold.{takes_ring, takes_from}

pub listed_have_ends : (s : State) → Sound s → ListedHaveEnds s
listed_have_ends s sound d x place c q l =
    let it : IsListed s d x place c = listed_of s sound d x place c q l in
    record { end = it.end; end_is = it.end_is; binding = it.binding; binding_is = it.listed.binding_is }

pending_has : (s : State) → Sound s → (e : EndId) (b : Binding) → Listed s Pending e b → PendingHas s e b
pending_has s sound e b l = record {
  queue = λ q r. sound.held e b q l r;
  ring = λ none.
      let (at, own) = takes_ring s e.side b.back (end_in e.side b) (takes_from s sound e b l.binding_is) (ap is_some none) in
      (at, own, sound.looked e b at l own);
}

pub channels_are_once : RunsAreSound → ChannelsAreOnce
channels_are_once h vs d x q = ((h vs).waitsets d x q).apart

pub pending_has_a_fragment : RunsAreSound → PendingHasAFragment
pending_has_a_fragment h vs e b l = pending_has (reached start vs) (h vs) e b l
