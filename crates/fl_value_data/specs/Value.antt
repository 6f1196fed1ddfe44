-- Values and calls as contracts see them.
use Rattle.std.specs.Prelude.{ℕ, ℤ, List, [], ◌∷◌, map}
use Rattle.fl_value_data.specs.declared.value.Value.{Value}
use Rattle.fl_value_data.specs.declared.value.Value.TheOpen.{Value-F, Int, Text, List as ListOf, Fields}
use Rattle.fl_value_data.specs.declared.value.Value.TheFolds.{fold-Value}
use Rattle.fl_value_data.specs.declared.value.Call.{Call}

-- a number, a string's bytes, an array's elements, or a struct's fields
mutual
  pub data Datum : Type 0 where
    number : ℤ → Datum
    string : List ℕ → Datum
    elements : Data → Datum
    fields : Data → Datum

  pub data Data : Type 0 where
    nothing_more : Data
    also : Datum → Data → Data

pub record TheCall : Type 0 where
  pub msg : ℕ
  pub args : List Datum

abbrev pub data_from : List Datum → Data
data_from [] = nothing_more
data_from (d ∷ ds) = also d (data_from ds)

abbrev pub datum_step : Value-F Datum → Datum
datum_step (Int z) = number z
datum_step (Text bytes) = string bytes.items
datum_step (ListOf all) = elements (data_from all.items)
datum_step (Fields all) = fields (data_from all.items)

abbrev pub datum_of : Value → Datum
datum_of = fold-Value Datum datum_step

-- the values of a struct or an array, as the code has them
abbrev pub data_of : List Value → Data
data_of values = data_from (map datum_of values)

abbrev pub call_of : Call → TheCall
call_of c = record { msg = c.msg.0; args = map datum_of c.args.items }
