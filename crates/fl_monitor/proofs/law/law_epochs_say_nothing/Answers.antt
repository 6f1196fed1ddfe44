use Rattle.fl_monitor.proofs.Single.{says_the_same}
use Rattle.fl_monitor.proofs.Same.{refused_the_same}
use Rattle.fl_monitor.proofs.law.law_epochs_say_nothing.Goals as goal

pub returns : goal.returns
returns c = record { says = says_the_same; refused = refused_the_same }
