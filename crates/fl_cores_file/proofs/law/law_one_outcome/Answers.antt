use Rattle.fl_cores_file.proofs.Firsts as lemmas
use Rattle.fl_cores_file.proofs.law.law_one_outcome.Goals as goal

pub returns : goal.returns
returns c = record { one = lemmas.one_outcome c.law_one_asked.ensures.one c.law_one_text.ensures.one c.law_one_items.ensures.one }
