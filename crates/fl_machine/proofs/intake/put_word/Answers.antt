use Rattle.std.proofs.Common.{ℕ, ◌+◌, List, ◌∷◌, ◌++◌, take, drop, ◌∙◌, ap, arith}
use Rattle.std.specs.Prelude.{slice_index_or}
use Rattle.fl_machine.proofs.Octets.{set_eight}
use Rattle.fl_machine.proofs.intake.put_word.Goals as goal

pub returns : goal.returns
returns c =
    let buffer = c.args.buffer.now in
    let bytes = c.to_le_bytes-bytes.result in
    set_eight c.args.at buffer (slice_index_or bytes 0 0) (slice_index_or bytes 1 0) (slice_index_or bytes 2 0) (slice_index_or bytes 3 0) (slice_index_or bytes 4 0) (slice_index_or bytes 5 0) (slice_index_or bytes 6 0) (slice_index_or bytes 7 0) (omega (arith, c.requires, c.told-buffer))
    ∙ ap (λ (bs : List ℕ). take c.args.at buffer ++ (slice_index_or bs 0 0 ∷ slice_index_or bs 1 0 ∷ slice_index_or bs 2 0 ∷ slice_index_or bs 3 0 ∷ slice_index_or bs 4 0 ∷ slice_index_or bs 5 0 ∷ slice_index_or bs 6 0 ∷ slice_index_or bs 7 0 ∷ drop (c.args.at + 8) buffer)) c.to_le_bytes-bytes.ensures
