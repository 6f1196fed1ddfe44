use Rattle.std.proofs.Common.{rules}
use Rattle.fl_value_data.specs.Value.{Datum, datum_step}
use Rattle.fl_value_data.specs.declared.value.Value.TheViews.{the_lemmas}
use Rattle.fl_value_data.specs.declared.value.Value.TheFolds.{fold-roll-Value, fold_out-Value}
use Rattle.fl_cores_fork.proofs.telling.+copies.Goals as goal

pub copy_value-returns-in-Int : goal.copy_value-returns-in-Int
copy_value-returns-in-Int t c = search (rules, the_lemmas, fold-roll-Value Datum datum_step, fold_out-Value Datum datum_step)

pub copy_value-returns-in_ok-to_vec-in-Text : goal.copy_value-returns-in_ok-to_vec-in-Text
copy_value-returns-in_ok-to_vec-in-Text t c = search (rules, the_lemmas, fold-roll-Value Datum datum_step, fold_out-Value Datum datum_step)

pub copy_value-returns-in_ok-copy_values-in-List : goal.copy_value-returns-in_ok-copy_values-in-List
copy_value-returns-in_ok-copy_values-in-List t c = search (rules, the_lemmas, fold-roll-Value Datum datum_step, fold_out-Value Datum datum_step)

pub copy_value-returns-in_ok-copy_values-in-Fields : goal.copy_value-returns-in_ok-copy_values-in-Fields
copy_value-returns-in_ok-copy_values-in-Fields t c = search (rules, the_lemmas, fold-roll-Value Datum datum_step, fold_out-Value Datum datum_step)
