use Rattle.fl_cores_laws.proofs.Unbound.{loose_rest, silence, loose_honest}
use Rattle.fl_cores_laws.proofs.law_honesty.law_loose_ends_rest.Goals as goal

pub returns : goal.returns
returns c =
    let handled = c.law_turns_are_logged.ensures.handled in
    let made = c.law_jobs_are_made.ensures.made in
    let first = c.law_jobs_are_made.ensures.first in
    record { rest = loose_rest handled made first; silence = silence handled made first; loose = loose_honest handled made first }
