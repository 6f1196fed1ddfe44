use Rattle.std.proofs.Common.{rules, ◌≡◌, ap, sym, ◌∙◌, map}
use Rattle.fl_value_data.specs.declared.value.Value.TheViews.{the_lemmas}
use Rattle.fl_value_data.specs.declared.value.Value.TheFolds.{fold-roll-Value, fold_out-Value}
use Rattle.fl_value_data.specs.Value.{Datum, elements, data_from, datum_step, datum_of}
use Rattle.fl_layout.specs.Extents.{count_in}
use Rattle.fl_layout.proofs.Counts.{count_from}
use Rattle.fl_layout.proofs.filling.count.Goals as goal

pub returns-in-List : goal.returns-in-List
returns-in-List c =
    let values = c.in-List.values in
    let view : datum_of c.args.value.now ≡ elements (data_from (map datum_of values.items)) = search (rules, the_lemmas, fold-roll-Value Datum datum_step, fold_out-Value Datum datum_step) in
    record { exact = c.len-in-List.ensures ∙ values.ok.0 ∙ sym (count_from values.items) ∙ ap count_in (sym view) }
