use Rattle.fl_cores_laws.proofs.Passages.{through_queues, through_rings}
use Rattle.fl_cores_laws.proofs.law_honesty.law_cross_off_links.Goals as goal

pub returns : goal.returns
returns c = record { queues = through_queues c.law_queue_conserves.ensures.conserves; rings = through_rings c.law_rings_conserve.ensures.conserve }
