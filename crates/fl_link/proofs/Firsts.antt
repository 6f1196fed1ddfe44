-- What stands first in a list.
use Rattle.std.proofs.Common.{◌≡◌, ◌<◌, ◌∙◌, ap, sym, List, [], ◌∷◌, length, slice_index_or, arith}
use Rattle.fl_base.specs.declared.fragment.Frag.{Frag}
use Rattle.fl_link.specs.Queue.{BeginsWith}

-- a list that isn't empty begins with its element at 0
pub first_begins : (items standing : List Frag) (x frag : Frag) → standing ≡ items → x ≡ frag → 0 < length items → ((d : Frag) → x ≡ slice_index_or items 0 d) → BeginsWith standing frag
first_begins [] standing x frag s e h at = absurd (omega (arith, h))
first_begins (y ∷ ys) standing x frag s e h at = (ys, s ∙ ap (λ (z : Frag). z ∷ ys) (sym (at frag) ∙ e))
