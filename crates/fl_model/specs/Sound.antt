-- Sound states: what holds of every state that a run reaches. All parts together are kept by each step, and
-- with them the machine has a case for whatever stands first on a link or at a channel. Most parts need most
-- others: from a state of which all hold but one, a run may reach a message or a fragment that nothing is
-- said of.
use Rattle.fl_model.specs.State.{State}
use Rattle.fl_model.specs.SoundPlaces.{CoresStand, LinksArePaired, RingsHaveOneOwner, ServicesStand}
use Rattle.fl_model.specs.SoundPlaces.{EndsStand, SeatsAgree}
use Rattle.fl_model.specs.SoundRoutes.{RoutesLead, NumbersGoAlongRoutes, VerdictsFit, EndsAreBound}
use Rattle.fl_model.specs.SoundRoutes.{NumbersWereOpened, NumbersAreOnce}
use Rattle.fl_model.specs.SoundOpenings.{OpeningsGoInOrder, MessagesAreDue, AnswersComeOnce}
use Rattle.fl_model.specs.SoundEntries.{EntriesStand, EntriesAreDue, AnswersAreAwaited}
use Rattle.fl_model.specs.SoundLabels.{LabelsFollow, LabelsKeepToTheirWays, NothingBeforeTheOpening}
use Rattle.fl_model.specs.SoundLabels.{WritesAreCounted}
use Rattle.fl_model.specs.SoundRings.{RingsCount, RingsFit}
use Rattle.fl_model.specs.SoundLists.{WaitsetsStand, ListedAreBound, PendingRingsWereLookedAt}
use Rattle.fl_model.specs.SoundLists.{PendingQueuesHold, FewRepliesWait, RepliesWaitWhereBusy}
use Rattle.fl_model.specs.SoundLists.{QueuesHaveRoom, OutboxesHaveRoom}
use Rattle.fl_model.specs.SoundLists.{BareUntilCoresAreSet}
use Rattle.fl_model.specs.SoundCalls.{CallsFit, RulesSuit}
use Rattle.fl_model.specs.SoundLimits.{CoresAreFew, InterfacesAreFew, ServicesAreFew, BindingsAreFew}
use Rattle.fl_model.specs.SoundLimits.{RoutesKeepToCores, NumbersAreOnceBothWays}

pub record Sound (s : State) : Type 0 where
  -- places
  pub cores : CoresStand s
  pub links : LinksArePaired s
  pub owners : RingsHaveOneOwner s
  pub services : ServicesStand s
  pub ends : EndsStand s
  pub seats : SeatsAgree s
  -- routes and numbers
  pub routes : RoutesLead s
  pub numbers : NumbersGoAlongRoutes s
  pub verdicts : VerdictsFit s
  pub bound : EndsAreBound s
  -- these two, only for the law that a number is given once
  pub opened_numbers : NumbersWereOpened s
  pub numbers_once : NumbersAreOnce s
  -- openings and answers
  pub openings : OpeningsGoInOrder s
  pub messages : MessagesAreDue s
  pub answers : AnswersComeOnce s
  -- entries
  pub entries : EntriesStand s
  pub only_entries : EntriesAreDue s
  pub awaited : AnswersAreAwaited s
  -- labels
  pub labels : LabelsFollow s
  pub ways : LabelsKeepToTheirWays s
  pub begun : NothingBeforeTheOpening s
  pub counted : WritesAreCounted s
  -- rings
  pub counts : RingsCount s
  pub sizes : RingsFit s
  -- waitsets
  pub waitsets : WaitsetsStand s
  pub listed : ListedAreBound s
  pub looked : PendingRingsWereLookedAt s
  pub held : PendingQueuesHold s
  -- limits; sizes in memory need these, and what an end may still accept
  pub waiting : FewRepliesWait s
  pub busy : RepliesWaitWhereBusy s
  pub queues : QueuesHaveRoom s
  pub outboxes : OutboxesHaveRoom s
  -- before the number of cores stands
  pub bare : BareUntilCoresAreSet s
  -- calls and reply rules
  pub calls : CallsFit s
  pub rules : RulesSuit s
  -- how many there are: no table of a core has more links than it has room for
  pub few_cores : CoresAreFew s
  pub few_interfaces : InterfacesAreFew s
  pub few_services : ServicesAreFew s
  pub few_bindings : BindingsAreFew s
  -- routes keep to the world's cores, and a number means the same in both directions of its link
  pub within : RoutesKeepToCores s
  pub numbers_once_back : NumbersAreOnceBothWays s
