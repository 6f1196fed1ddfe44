-- What was found before memory ran out.
use Rattle.std.proofs.Common.{◌≡◌, ◌++◌, ℕ, true, List, map, length, subst, ap, ◌∙◌, Result, Ok, Err, IfErr, append_assoc, sym}
use Rattle.std.specs.Result.{IsErrAnd}
use Rattle.std.proofs.lemmas.Bool.{and_parts}
use Rattle.std.specs.List.{list_all, flat_map}
use Rattle.fl_interface.specs.Interface.{TheInterface}
use Rattle.fl_interface.specs.Limits.{is_within_limits}
use Rattle.fl_check.specs.Texts.{is_message_spellable}
use Rattle.fl_value_data.specs.declared.value.PlanNo.{PlanNo}
use Rattle.fl_image.specs.Image.{two, is_name, name_image, message_image, codes_image, codes_of, magic, version_of, is_spellable, has_image, image_of}
use Rattle.fl_image.specs.Outcome.{BeginsAsImage}
use Rattle.flounder_show.specs.Content.{StandsFor, IsRefusalOf, IsImageRefusalOf}
use Rattle.flounder_show.specs.declared.fault.ShowFault.{ShowFault}
use Rattle.flounder_show.specs.declared.fault.ShowFault.TheVariants.{Memory}

-- the bytes of an interface's image begin as one
pub image_begins : (bytes : List ℕ) (plan : PlanNo) (x : TheInterface) → (has_image x ≡ true) × (bytes ≡ image_of plan x) → BeginsAsImage bytes
image_begins bytes plan x (has, is) =
    let messages = two (length x.messages) ++ flat_map message_image x.messages in
    let codes = flat_map codes_image (map (codes_of plan) x.messages) in
    record {
      plan = plan;
      name = x.name;
      rest = messages ++ codes;
      is_named = (and_parts (is_name x.name) (list_all is_message_spellable x.messages) (and_parts (is_within_limits x) (is_spellable x) has).1).0;
      spelled = is ∙ ap (λ (l : List ℕ). magic ++ (two (version_of plan) ++ l)) (append_assoc (name_image x.name) messages codes);
    }

-- the error of a `?` behind the text
pub text_memory : {T : Type 0} (bytes : List ℕ) (r : Result T ShowFault) (i : TheInterface) → IsErrAnd r (λ e. e ≡ Memory) → StandsFor bytes i
    → IfErr r (λ e. IsRefusalOf bytes e)
text_memory bytes (Ok v) i h s = absurd h
text_memory bytes (Err e) i h s = subst (λ x. IsRefusalOf bytes x) (sym h) s.spells.short

-- and behind the image
pub image_memory : {T : Type 0} (bytes : List ℕ) (r : Result T ShowFault) → IsErrAnd r (λ e. e ≡ Memory) → BeginsAsImage bytes
    → IfErr r (λ e. IsImageRefusalOf bytes e)
image_memory bytes (Ok v) h b = absurd h
image_memory bytes (Err e) h b = subst (λ x. IsImageRefusalOf bytes x) (sym h) b
