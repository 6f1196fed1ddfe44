-- A world of so many cores, before anything is asked of it, shows the machine's start with so many.
use Rattle.std.proofs.Common.{refl, true, []}
use Rattle.fl_model.specs.SoundLists.{IsBare}
use Rattle.fl_model.specs.State.{State, start}
use Rattle.fl_model_laws.proofs.Start.{world_is_sound}
use Rattle.fl_world_refines.specs.View.{TheWorld}
use Rattle.fl_world_refines.specs.ShowsState.{ShowsState}
use Rattle.fl_world_refines.specs.Laws.{FreshShows}
use Rattle.fl_world_refines.proofs.MakingFresh.{cores_shown}

-- a world, and a state, without even a core
abbrev no_world : TheWorld
no_world = record { may_set_cores = true; cores = []; dispatchers = 0; rings = []; queues = []; programs = []; names = []; bindings = [] }

abbrev no_state : State
no_state = record start { cores = [] }

empty_showing : ShowsState no_world no_state
empty_showing = record {
  may_set_cores = refl;
  cores = record { count = refl; each = λ n k c p q. absurd (cc) };
  dispatchers = refl;
  programs = refl;
  limits = λ n i q. absurd (cc);
  names = refl;
  rings = record { count = refl; each = λ n r d streams p q c. absurd (cc) };
  bindings = record { count = refl; each = λ n b there p q. absurd (cc); silent = λ e x p q. absurd (cc) };
  ends = record {
    made = λ e b i seat p q r. absurd (cc);
    only = λ n c e place p q. absurd (cc);
    apart = λ n m c d e f x y q p r h k. absurd (cc);
  };
}

is_bare : IsBare no_state
is_bare = record { rings = refl; services = refl; bindings = refl; links = λ n k q. absurd (cc); dispatchers = λ n k q. absurd (cc) }

pub fresh_shows : FreshShows
fresh_shows n least most = record { sound = world_is_sound n least most; showing = cores_shown n no_world no_state empty_showing is_bare }
