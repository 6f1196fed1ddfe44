use Rattle.fl_check.proofs.TextFirsts as lemmas
use Rattle.fl_check.proofs.text_law.law_some_text.Goals as goal

pub returns : goal.returns
returns c = record { some = lemmas.some_text }
