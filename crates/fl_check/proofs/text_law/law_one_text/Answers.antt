use Rattle.fl_check.proofs.TextFirsts as lemmas
use Rattle.fl_check.proofs.text_law.law_one_text.Goals as goal

pub returns : goal.returns
returns c = record { one = lemmas.one_text }
