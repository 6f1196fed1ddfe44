-- Each step of a sound state keeps what holds of routes, of the ends' circuits and of numbers.
use Rattle.fl_model.specs.Events.{Event}
use Rattle.fl_model.specs.State.{State}
use Rattle.fl_model.specs.SoundRoutes.{RoutesLead, NumbersGoAlongRoutes, VerdictsFit, EndsAreBound, NumbersWereOpened, NumbersAreOnce}
use Rattle.fl_model.specs.SoundLimits.{RoutesKeepToCores, NumbersAreOnceBothWays}
use Rattle.fl_model.specs.Sound.{Sound}
use Rattle.fl_model.specs.Step.{step}
use Rattle.fl_model_laws.proofs.Routed.{routes_lead, numbers_go, verdicts_fit}
use Rattle.fl_model_laws.proofs.BoundEnds.{ends_bound}
use Rattle.fl_model_laws.proofs.NumbersGiven.{numbers_opened, numbers_once, numbers_once_back, routes_keep}
use Rattle.fl_model_laws.proofs.Turning.{step_comes}

pub sound_routes : (s : State) (v : Event) → Sound s → RoutesLead (step s v).state
sound_routes s v sound = routes_lead s (step s v).state sound.routes (step_comes s sound v)

pub sound_numbers : (s : State) (v : Event) → Sound s → NumbersGoAlongRoutes (step s v).state
sound_numbers s v sound = numbers_go s (step s v).state sound.numbers (step_comes s sound v)

pub sound_verdicts : (s : State) (v : Event) → Sound s → VerdictsFit (step s v).state
sound_verdicts s v sound = verdicts_fit s (step s v).state sound.verdicts (step_comes s sound v)

pub sound_bound : (s : State) (v : Event) → Sound s → EndsAreBound (step s v).state
sound_bound s v sound = ends_bound s (step s v).state sound.bound sound.numbers (step_comes s sound v)

pub sound_opened : (s : State) (v : Event) → Sound s → NumbersWereOpened (step s v).state
sound_opened s v sound = numbers_opened s (step s v).state sound.numbers sound.opened_numbers (step_comes s sound v)

pub sound_once : (s : State) (v : Event) → Sound s → NumbersAreOnce (step s v).state
sound_once s v sound = numbers_once s (step s v).state sound.numbers sound.opened_numbers sound.numbers_once (step_comes s sound v)

pub sound_within : (s : State) (v : Event) → Sound s → RoutesKeepToCores (step s v).state
sound_within s v sound = routes_keep s (step s v).state sound.within (step_comes s sound v)

pub sound_once_back : (s : State) (v : Event) → Sound s → NumbersAreOnceBothWays (step s v).state
sound_once_back s v sound = numbers_once_back (step s v).state (sound_routes s v sound) (sound_numbers s v sound) (sound_opened s v sound)
