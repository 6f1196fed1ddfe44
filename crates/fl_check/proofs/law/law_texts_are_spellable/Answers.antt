use Rattle.fl_check.proofs.TextInterfaces as texts
use Rattle.fl_check.proofs.law.law_texts_are_spellable.Goals as goal

pub returns : goal.returns
returns c = record { spellable = texts.texts_are_spellable }
