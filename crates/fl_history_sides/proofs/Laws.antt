-- The laws of a core's sides.
use Rattle.std.proofs.Common.{ℕ, ◌≡◌, ◌⊎◌, inl, inr, List, [], ◌∷◌, slice_get, Some, ap, subst, ◌∙◌, sym, refl, ◌++◌}
use Rattle.std.specs.List.{AllByRecursion}
use Rattle.fl_link.specs.Looks.{Look, LinkStep}
use Rattle.fl_ring.specs.SharedSides.{SharedPuts, SharedTakes}
use Rattle.fl_history_rings.specs.declared.board.Action.{Action}
use Rattle.fl_history_rings.specs.declared.board.Entry.{Entry}
use Rattle.fl_history_rings.specs.Cores.{TheCore, IsSameCore, noting}
use Rattle.fl_history_sides.specs.States.{TheHistorySide, until_last, with_steps, core_until, shown_of, numbers_of}
use Rattle.fl_history_sides.specs.Noted.{HistoryPuts, HistoryTakes, IsNoted, GoesOn, noting_all}
use Rattle.fl_history_sides.specs.Core.{IsStepBy, AreSidesOf}
use Rattle.fl_history_sides.specs.Laws.{SidesAreShared, SidesStay, OneTellsAll}
use Rattle.fl_history_sides.proofs.Lists.{all_there}
use Rattle.fl_history_sides.proofs.Until.{until_here}
use Rattle.fl_history_sides.proofs.Prefixes.{EndsWith, last_of, all_last, numbered, Numbered}

pub sides_are_shared : SidesAreShared
sides_are_shared p q [] same = ap (λ (x : TheHistorySide). x.side) same
sides_are_shared p q (look ∷ looks) (m, step, rest) = (m.side, by step, sides_are_shared m q looks rest)
  where
    by : LinkStep HistoryPuts HistoryTakes p look m → LinkStep SharedPuts SharedTakes p.side look m.side
    by (inl puts) = inl puts.0
    by (inr takes) = inr takes.0

-- ---- it is the same core

same_as : (c d : TheCore) → d ≡ c → IsSameCore c d
same_as c d is = record { table_is = ap (λ (x : TheCore). x.table) is; sides_are = ap (λ (x : TheCore). x.sides) is; number_is = ap (λ (x : TheCore). x.number) is }

same_on : (c d e : TheCore) → IsSameCore c d → IsSameCore d e → IsSameCore c e
same_on c d e h k = record { table_is = k.table_is ∙ h.table_is; sides_are = k.sides_are ∙ h.sides_are; number_is = k.number_is ∙ h.number_is }

noting_same : (c : TheCore) (s : ℕ) (did : List Action) → IsSameCore c (noting_all c s did)
noting_same c s [] = same_as c c refl
noting_same c s (d ∷ did) = let rest = noting_same (noting c s d) s did in record { table_is = rest.table_is; sides_are = rest.sides_are; number_is = rest.number_is }

goes_same : (s : ℕ) (c : TheCore) (did : List Action) (d : TheCore) → GoesOn s c did d → IsSameCore c d
goes_same s c [] d is = same_as c d is
goes_same s c (a ∷ did) d (since, none, is) =
    let more = noting_same (with_steps c (c.steps ++ since)) s (a ∷ did) in
    same_on c (noting_all (with_steps c (c.steps ++ since)) s (a ∷ did)) d (record { table_is = more.table_is; sides_are = more.sides_are; number_is = more.number_is }) (same_as (noting_all (with_steps c (c.steps ++ since)) s (a ∷ did)) d is)

pub noted_stays : (p : TheHistorySide) (look : Look) (q : TheHistorySide) → IsNoted p look q → (q.number ≡ p.number) × IsSameCore p.core q.core
noted_stays p look q h = (h.number, goes_same p.number p.core h.did q.core h.goes_on)

pub sides_stay : SidesStay
sides_stay p q [] same = (ap (λ (x : TheHistorySide). x.number) (sym same), same_as p.core q.core (ap (λ (x : TheHistorySide). x.core) (sym same)))
sides_stay p q (look ∷ looks) (m, step, rest) =
    let one = noted_stays p look m (by step) in
    let more = sides_stay m q looks rest in
    (more.0 ∙ one.0, same_on p.core m.core q.core one.1 more.1)
  where
    by : LinkStep HistoryPuts HistoryTakes p look m → IsNoted p look m
    by (inl puts) = puts.1
    by (inr takes) = takes.1

-- ---- one tells all

-- what a side tells of its core
pub told_by : (c : TheCore) (ss : List TheHistorySide) (h : AreSidesOf c ss) (i : ℕ) (p : TheHistorySide) → slice_get ss i ≡ Some p → p.core ≡ core_until p.number c
told_by c ss h i p at = ap (λ (x : TheHistorySide). x.core) (all_there (λ (x : TheHistorySide). x ≡ shown_of c x.side.size x.number) ss i p h.each at)

-- the last step is by one of the sides, which tells all
pub record Tells (c : TheCore) (ss : List TheHistorySide) : Type 0 where
  pub place : ℕ
  pub side : TheHistorySide
  pub there : slice_get ss place ≡ Some side
  pub whole : until_last side.number c.steps ≡ c.steps

pub teller : (c : TheCore) (ss : List TheHistorySide) → AreSidesOf c ss → EndsWith c.steps → Tells c ss
teller c ss h end =
    let numbers = numbers_of ss in
    let by : IsStepBy c.number (numbers_of ss) end.last = all_last (IsStepBy c.number (numbers_of ss)) end.before end.last (subst (λ (l : List Entry). AllByRecursion (IsStepBy c.number (numbers_of ss)) l) end.is h.did) in
    let one : Numbered ss by.1.0 end.last.side = numbered ss by.1.0 end.last.side by.1.1 in
    record {
      place = by.1.0;
      side = one.side;
      there = one.there;
      whole = ap (λ (l : List Entry). until_last one.side.number l) end.is ∙ until_here one.side.number end.before end.last (sym one.number) ∙ sym end.is;
    }

pub one_tells_all : OneTellsAll
one_tells_all c ss h = by (last_of c.steps)
  where
    by : (c.steps ≡ []) ⊎ EndsWith c.steps → (c.steps ≡ []) ⊎ ((n : ℕ) × (p : TheHistorySide) × (slice_get ss n ≡ Some p) × (p.core ≡ c))
    by (inl none) = inl none
    by (inr end) =
        let t = teller c ss h end in
        inr (t.place, t.side, t.there, told_by c ss h t.place t.side t.there ∙ ap (λ (l : List Entry). with_steps c l) t.whole)
