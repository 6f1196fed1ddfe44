-- What a take comes to, by what a look would see.
use Rattle.std.proofs.Common.{◌≡◌, List, ap, ◌∙◌, sym, refl}
use Rattle.fl_base.specs.declared.fragment.Frag.{Frag}
use Rattle.fl_link.specs.Looks.{Look, saw, saw_ack, found, found_ack, peeked, taken}
use Rattle.fl_link.specs.Queue.{front_of}
use Rattle.fl_link.specs.declared.sides.Sight.{Sight}
use Rattle.fl_link.specs.declared.sides.Sight.TheVariants.{Data, Acknowledgement, Empty}

abbrev pub got_by : Look → Look
got_by (saw frag) = found frag
got_by saw_ack = found_ack
got_by look = look

taken_as : (r : Sight) → taken r ≡ got_by (peeked r)
taken_as (Data frag) = refl
taken_as Acknowledgement = refl
taken_as Empty = refl

pub taken_front : (items : List Frag) (r : Sight) (look : Look) → front_of items ≡ peeked r → front_of items ≡ look → taken r ≡ got_by look
taken_front items r look is seen = taken_as r ∙ ap got_by (sym is ∙ seen)
