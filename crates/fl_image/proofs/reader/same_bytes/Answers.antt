use Rattle.std.proofs.lemmas.Bool.Decides.{Decides-eqb}
use Rattle.std.proofs.lemmas.Slice.Eq.{slice_eq-Decides}
use Rattle.fl_image.proofs.reader.same_bytes.Goals as goal

pub returns : goal.returns
returns c = record { exact = slice_eq-Decides Decides-eqb _ _ _ c.eq.ensures }
