use Rattle.std.proofs.Common.{◌≡◌, ◌∷◌, length, option_map}
use Rattle.fl_model.specs.Events.{asked_route}
use Rattle.fl_model.specs.Views.{cores_of}
use Rattle.fl_script_lines.specs.Words.{words_of, numbers_of}
use Rattle.fl_script_lines.proofs.RouteLemmas.{asked_with}
use Rattle.fl_script_lines.proofs.reader.route_in.Given as goal

abbrev pub invariant-loop-word : goal.invariant-loop-word
invariant-loop-word l =
    (asked_route (cores_of l.route) ≡ cores_of l.route)
    × (asked_with (cores_of l.route) l.rest ≡ option_map (λ ns. asked_route (l.first ∷ ns)) (numbers_of (words_of l.others)))

abbrev pub decreases-loop-word : goal.decreases-loop-word
decreases-loop-word l = length l.rest
