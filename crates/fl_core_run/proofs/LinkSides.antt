-- A link whose side is known is one of the core's.
use Rattle.std.proofs.Common.{◌≡◌, refl, ℕ, ◌<◌, List, length, slice_get, Option, Some, None}
use Rattle.std.proofs.lemmas.Option.{slice_get_within}
use Rattle.fl_base.specs.Given.{given}
use Rattle.fl_core.specs.declared.wiring.LinkSide.{LinkSide}
use Rattle.fl_core.specs.View.{side_of_link}

link_side_from : (link_sides : List LinkSide) (l n : ℕ) (o : Option LinkSide) → slice_get link_sides l ≡ o → given o None (λ (link_side : LinkSide). Some link_side.side) ≡ Some n → l < length link_sides
link_side_from link_sides l n None at is = absurd (cc)
link_side_from link_sides l n (Some link_side) at is = slice_get_within link_sides l link_side at

pub link_side_there : (link_sides : List LinkSide) (l n : ℕ) → side_of_link link_sides l ≡ Some n → l < length link_sides
link_side_there link_sides l n is = link_side_from link_sides l n (slice_get link_sides l) refl is
