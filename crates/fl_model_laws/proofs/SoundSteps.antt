-- Each step of a sound state leads to a sound state: so every state that a run reaches is sound, from one core, and from a
-- world of 1 to 16 cores.
use Rattle.std.proofs.Common.{List, [], ◌∷◌}
use Rattle.fl_model.specs.Events.{Event}
use Rattle.fl_model.specs.State.{State, start}
use Rattle.fl_model.specs.Step.{step}
use Rattle.fl_model.specs.Runs.{reached}
use Rattle.fl_model.specs.Sound.{Sound}
use Rattle.fl_model.specs.Laws.{StepsAreSound, RunsAreSound, NumbersAreGivenOnce}
use Rattle.fl_model.specs.Worlds.{start_with, EverSound, EverFits, EverOnceBothWays, EverHaveEnds}
use Rattle.fl_model_laws.proofs.Start.{start_is_sound, world_is_sound}
use Rattle.fl_model_laws.proofs.CoresStep.{sound_cores}
use Rattle.fl_model_laws.proofs.PlacesStep.{step_keeps_links}
use Rattle.fl_model_laws.proofs.Services.{step_keeps_services}
use Rattle.fl_model_laws.proofs.EndsStanding.{step_keeps_ends}
use Rattle.fl_model_laws.proofs.Sitting.{sound_seats}
use Rattle.fl_model_laws.proofs.RoutesSound.{sound_routes, sound_numbers, sound_verdicts, sound_bound, sound_opened, sound_once, sound_within, sound_once_back}
use Rattle.fl_model_laws.proofs.OpeningsLaw.{step_keeps_openings}
use Rattle.fl_model_laws.proofs.BoardLaw.{sound_messages, sound_answers, sound_entries, sound_only_entries, sound_awaited}
use Rattle.fl_model_laws.proofs.LabelsSound.{sound_ways, sound_labels}
use Rattle.fl_model_laws.proofs.Begun.{sound_begun}
use Rattle.fl_model_laws.proofs.SoundCalls.{counted_after, waiting_after}
use Rattle.fl_model_laws.proofs.RingsStep.{step_keeps_counts}
use Rattle.fl_model_laws.proofs.Arriving.{sound_waitsets}
use Rattle.fl_model_laws.proofs.ListingKept.{sound_steps_listed}
use Rattle.fl_model_laws.proofs.ListingLaws.{listed_have_ends}
use Rattle.fl_model_laws.proofs.Queues.{step_keeps_queues}
use Rattle.fl_model_laws.proofs.Outboxes.{step_keeps_outboxes}
use Rattle.fl_model_laws.proofs.Bare.{step_keeps_bare}
use Rattle.fl_model_laws.proofs.FitsStep.{step_fits}
use Rattle.fl_model_laws.proofs.Limits.{step_keeps_limits}

pub steps_are_sound : StepsAreSound
steps_are_sound s v sound =
    let paired = step_keeps_links s v sound.cores sound.ends sound.links sound.owners in
    let listed = sound_steps_listed s v sound in
    let waiting = waiting_after s v sound.ends sound.routes sound.waiting sound.busy in
    let counts = step_keeps_counts s v sound.counts sound.sizes in
    let fits = step_fits s v sound.ends sound.ways sound.calls sound.rules in
    let limits = step_keeps_limits s v sound.few_cores sound.few_interfaces sound.few_services sound.few_bindings in
    record {
      cores = sound_cores s v sound;
      links = paired.0;
      owners = paired.1;
      services = step_keeps_services s v sound.bare sound.services;
      ends = step_keeps_ends s v sound.ends;
      seats = sound_seats s v sound;
      routes = sound_routes s v sound;
      numbers = sound_numbers s v sound;
      verdicts = sound_verdicts s v sound;
      bound = sound_bound s v sound;
      opened_numbers = sound_opened s v sound;
      numbers_once = sound_once s v sound;
      openings = step_keeps_openings s v sound.cores sound.ends sound.links sound.owners sound.openings;
      messages = sound_messages s v sound;
      answers = sound_answers s v sound;
      entries = sound_entries s v sound;
      only_entries = sound_only_entries s v sound;
      awaited = sound_awaited s v sound;
      labels = sound_labels s v sound;
      ways = sound_ways s v sound;
      begun = sound_begun s v sound;
      counted = counted_after s v sound.ends sound.routes sound.counted;
      counts = counts.0;
      sizes = counts.1;
      waitsets = sound_waitsets s v sound;
      listed = listed.0;
      looked = listed.2;
      held = listed.1;
      waiting = waiting.0;
      busy = waiting.1;
      queues = step_keeps_queues s v sound.queues;
      outboxes = step_keeps_outboxes s v sound.outboxes;
      bare = step_keeps_bare s v sound.bare;
      calls = fits.0;
      rules = fits.1;
      few_cores = limits.0;
      few_interfaces = limits.1;
      few_services = limits.2;
      few_bindings = limits.3;
      within = sound_within s v sound;
      numbers_once_back = sound_once_back s v sound;
    }

stays_sound : (vs : List Event) (s : State) → Sound s → Sound (reached s vs)
stays_sound [] s sound = sound
stays_sound (v ∷ vs) s sound = stays_sound vs (step s v).state (steps_are_sound s v sound)

pub runs_are_sound : RunsAreSound
runs_are_sound vs = stays_sound vs start start_is_sound

pub ever_sound : EverSound
ever_sound cores vs some few = stays_sound vs (start_with cores) (world_is_sound cores some few)

pub numbers_given_once : NumbersAreGivenOnce
numbers_given_once vs = (runs_are_sound vs).numbers_once

pub ever_fits : EverFits
ever_fits cores vs some few = (ever_sound cores vs some few).calls

pub ever_once_both_ways : EverOnceBothWays
ever_once_both_ways cores vs some few = (ever_sound cores vs some few).numbers_once_back

pub ever_have_ends : EverHaveEnds
ever_have_ends cores vs some few = listed_have_ends (reached (start_with cores) vs) (ever_sound cores vs some few)
