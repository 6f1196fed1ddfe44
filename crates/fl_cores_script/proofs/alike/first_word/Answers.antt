use Rattle.std.proofs.Common.{ap, ◌∙◌, take, ℕ}
use Rattle.fl_cores_script.proofs.Lines.{word_is}
use Rattle.fl_cores_script.proofs.alike.first_word.Goals as goal

pub returns : goal.returns
returns c = record { word = ap (λ (n : ℕ). take n c.args.text.now) c.word_length-length.ensures.length ∙ word_is c.args.text.now }
