-- Which messages have a codec.
use Rattle.std.proofs.Common.{◌≡◌, ℕ, ◌≤◌, true, length, take, sym, ◌∙◌, ap, refl}
use Rattle.std.specs.Prelude.{Option, Some, slice_get}
use Rattle.std.specs.List.{list_all}
use Rattle.std.proofs.lemmas.Bool.{le-leb}
use Rattle.fl_interface.specs.Interface.{TheMessage, TheInterface}
use Rattle.fl_value_data.specs.declared.value.PlanNo.{PlanNo}
use Rattle.fl_value_data.specs.Tape.{types_of}
use Rattle.fl_value_data.specs.Taken.{planned_types}
use Rattle.fl_codec.specs.declared.codec.Codec.{Codec}
use Rattle.fl_codec.specs.NumberPlaces.{is_number, has_few_numbers, places_behind}
use Rattle.fl_codec.specs.Codecs.{IsCodecOf}

pub codec_made : (plan : PlanNo) (i : TheInterface) (msg : ℕ) (m : TheMessage) (c : Codec) → Some m ≡ slice_get i.messages msg → c.msg.0 ≡ msg → length m.args ≤ 7
    → list_all is_number m.args ≡ true → c.count ≡ length m.args → take c.count c.places ≡ places_behind 0 (planned_types plan m.args) → IsCodecOf plan i msg c
codec_made plan i msg m c here message few numbers count places = record {
  message = message;
  few = ap has_few_numbers (sym here) ∙ rw (le-leb (length m.args) 7 few, numbers) refl;
  count = count ∙ ap (λ (o : Option TheMessage). length (types_of o)) here;
  places = places ∙ ap (λ (o : Option TheMessage). places_behind 0 (planned_types plan (types_of o))) here;
}
