-- A text stays within another that grows behind it.
use Rattle.std.proofs.Common.{◌≡◌, ◌∙◌, ◌+◌, ◌<◌, ap, refl, sym, subst, append_assoc, length, take, get_or, List, [], ◌∷◌, ◌++◌, ℕ}
use Rattle.std.proofs.lemmas.List.{take_more}
use Rattle.flounder_show.specs.Named.{StandsIn}

pub stands_more : (bytes other more : List ℕ) → StandsIn bytes other → StandsIn bytes (other ++ more)
stands_more [] other more h = tt
stands_more (byte ∷ bytes) other more (before, behind, e, h) = (
  before,
  behind ++ more,
  ap (λ (t : List ℕ). t ++ more) e ∙ append_assoc before (byte ∷ behind) more,
  stands_more bytes behind more h,
)

pub stands_with : (bytes other : List ℕ) (byte : ℕ) → StandsIn bytes other → StandsIn (bytes ++ byte ∷ []) (other ++ byte ∷ [])
stands_with [] other byte h = (other, [], refl, tt)
stands_with (b ∷ bytes) other byte (before, behind, e, h) = (
  before,
  behind ++ byte ∷ [],
  ap (λ (t : List ℕ). t ++ byte ∷ []) e ∙ append_assoc before (b ∷ behind) (byte ∷ []),
  stands_with bytes behind byte h,
)

-- one more byte of a table, behind a name or nothing
pub stands_next : (table named between more after : List ℕ) (i byte default : ℕ) → i < length table → byte ≡ get_or table i default → StandsIn (take i table) named → between ≡ named ++ more
    → after ≡ between ++ byte ∷ [] → StandsIn (take (i + 1) table) after
stands_next table named between more after i byte default lt is h e f =
    let within : StandsIn (take i table) between = subst (λ (t : List ℕ). StandsIn (take i table) t) (sym e) (stands_more (take i table) named more h) in
    let next : StandsIn (take i table ++ byte ∷ []) (between ++ byte ∷ []) = stands_with (take i table) between byte within in
    let same : take i table ++ byte ∷ [] ≡ take (i + 1) table = ap (λ (b : ℕ). take i table ++ b ∷ []) is ∙ sym (take_more table i default lt) in
    subst (λ (t : List ℕ). StandsIn t after) same (subst (λ (t : List ℕ). StandsIn (take i table ++ byte ∷ []) t) (sym f) next)
