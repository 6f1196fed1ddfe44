-- Cores gathered, one after another.
use Rattle.std.proofs.Common.{◌≡◌, refl, sym, ap, ◌∙◌, subst, ℕ, zero, suc, ◌<◌, List, [], ◌∷◌, ◌++◌, length, map, Option, Some, None, arith}
use Rattle.std.specs.List.{AllByRecursion}
use mathlib.Core.Option.{some, some-ne-none}
use lib.ListN.{get_elem?}
use Rattle.atomic_table.specs.Seated.{TableId}
use Rattle.fl_history_rings.specs.declared.board.Entry.{Entry}
use Rattle.fl_history_rings.specs.declared.board.SideEnd.{SideEnd}
use Rattle.fl_history_rings.specs.Rings.{all_empty}
use Rattle.fl_history_rings.specs.Cores.{TheCore, TheGathering, InOneOrder}
use Rattle.fl_history_sides.specs.States.{TheHistorySide, shown_of}
use Rattle.fl_history_sides.specs.Core.{AreSidesOf}
use Rattle.fl_cores_shares.specs.Shares.{Holdings}
use Rattle.fl_history_shares.specs.Settled.{IsCoreOf, AreCoresOf, IsAt, AreAt, AreAtOne, AreSettled, FitsIn, gathered_with, AreGathered, Gathers}

-- ---- hands with one more

none_more : (hands : Holdings TheHistorySide) (cores : List TheCore) → AreCoresOf hands cores → AreCoresOf (hands ++ [] ∷ []) cores
none_more [] [] are = tt
none_more [] (c ∷ cores) are = absurd are
none_more ([] ∷ hands) cores are = none_more hands cores are
none_more ((p ∷ hand) ∷ hands) [] are = absurd are
none_more ((p ∷ hand) ∷ hands) (c ∷ cores) are = (are.0, none_more hands cores are.1)

core_more : (hands : Holdings TheHistorySide) (cores : List TheCore) (hand : List TheHistorySide) (c : TheCore) → AreCoresOf hands cores → 0 < length hand → IsCoreOf c hand
    → AreCoresOf (hands ++ hand ∷ []) (cores ++ c ∷ [])
core_more [] [] [] c are any is = absurd (omega (arith, any))
core_more [] [] (p ∷ hand) c are any is = (is, tt)
core_more [] (d ∷ cores) hand c are any is = absurd are
core_more ([] ∷ hands) cores hand c are any is = core_more hands cores hand c are any is
core_more ((p ∷ other) ∷ hands) [] hand c are any is = absurd are
core_more ((p ∷ other) ∷ hands) (d ∷ cores) hand c are any is = (are.0, core_more hands cores hand c are.1 any is)

pub at_front : (table : TableId) (ends : List SideEnd) (hands : Holdings TheHistorySide) (hand : List TheHistorySide) → AreAt table ends (hands ++ hand ∷ []) → AreAt table ends hands
at_front table ends [] hand all = tt
at_front table ends (x ∷ hands) hand all = (all.0, at_front table ends hands hand all.1)

pub at_last : (table : TableId) (ends : List SideEnd) (hands : Holdings TheHistorySide) (hand : List TheHistorySide) → AreAt table ends (hands ++ hand ∷ []) → AllByRecursion (IsAt table ends) hand
at_last table ends [] hand all = all.0
at_last table ends (x ∷ hands) hand all = at_last table ends hands hand all.1

-- ---- whose table it is

-- a core is at the table at which its sides are
pub core_at : (table : TableId) (ends : List SideEnd) (hand : List TheHistorySide) (c : TheCore) → 0 < length hand → AreSidesOf c hand → AllByRecursion (IsAt table ends) hand
    → (c.table ≡ table) × (c.sides ≡ ends)
core_at table ends [] c any sides all = absurd (omega (arith, any))
core_at table ends (p ∷ hand) c any sides all =
    let is : p.core ≡ (shown_of c p.side.size p.number).core = ap (λ (x : TheHistorySide). x.core) sides.each.0 in
    (sym (ap (λ (x : TheCore). x.table) is) ∙ all.0.table_is, sym (ap (λ (x : TheCore). x.sides) is) ∙ all.0.sides_are)

pub none_gathered : Gathers [] None
none_gathered = tt

-- a core that comes to these is of their table
fits : (hands : Holdings TheHistorySide) (hand : List TheHistorySide) (before : Option TheGathering) (c : TheCore) → Gathers hands before → AreAtOne (hands ++ hand ∷ [])
    → 0 < length hand → AreSidesOf c hand → FitsIn before c
fits hands hand None c so one any sides = tt
fits hands hand (Some g) c so (table, ends, all) any sides =
    (core_at table ends hand c any sides (at_last table ends hands hand all)).0 ∙ sym (so.at table ends (at_front table ends hands hand all)).0

gathers_core : (hands : Holdings TheHistorySide) (hand : List TheHistorySide) (before : Option TheGathering) (c : TheCore) → Gathers hands before
    → 0 < length hand → IsCoreOf c hand → AreGathered (hands ++ hand ∷ []) (gathered_with before c)
gathers_core hands hand None c so any is = record {
  are = core_more hands [] hand c so any is;
  at = λ table ends all. core_at table ends hand c any is.sides (at_last table ends hands hand all);
}
gathers_core hands hand (Some g) c so any is = record {
  are = core_more hands g.cores hand c so.are any is;
  at = λ table ends all. so.at table ends (at_front table ends hands hand all);
}

gathers_none : (hands : Holdings TheHistorySide) (before : Option TheGathering) → Gathers hands before → Gathers (hands ++ [] ∷ []) before
gathers_none hands None so = none_more hands [] so
gathers_none hands (Some g) so = record {
  are = none_more hands g.cores so.are;
  at = λ table ends all. so.at table ends (at_front table ends hands [] all);
}

-- one hand more, by what its sides come to
pub gathers_more : (hands : Holdings TheHistorySide) (hand : List TheHistorySide) (before after : Option TheGathering) → Gathers hands before
    → (hand ≡ [] → after ≡ before) → (0 < length hand → (c : TheCore) × IsCoreOf c hand × (after ≡ Some (gathered_with before c)))
    → Gathers (hands ++ hand ∷ []) after
gathers_more hands [] before after so none any = subst (Gathers (hands ++ [] ∷ [])) (sym (none refl)) (gathers_none hands before so)
gathers_more hands (p ∷ hand) before after so none any =
    let more : 0 < length (p ∷ hand) = omega arith in
    let (c, is, same) = any more in
    subst (Gathers (hands ++ (p ∷ hand) ∷ [])) (sym same) (gathers_core hands (p ∷ hand) before c so more is)

-- ---- what the order of all tells

none_in_order : (ends : List SideEnd) → InOneOrder ends []
none_in_order ends = record {
  sides_are = λ i c at. absurd (some-ne-none c (sym at));
  log = [];
  queues = all_empty (length ends);
  runs = refl;
  by_its_core = λ i e at. absurd (some-ne-none e (sym at));
  did = λ i c at. absurd (some-ne-none c (sym at));
}

pub none_settled : (hands : Holdings TheHistorySide) (after : Option TheGathering) → Gathers hands after → after ≡ None
    → (table : TableId) (ends : List SideEnd) → AreAt table ends hands → AreSettled ends hands
none_settled hands after so none table ends all = record { cores = []; are = subst (Gathers hands) none so; order = none_in_order ends }

pub all_settled : (hands : Holdings TheHistorySide) (after : Option TheGathering) (g : TheGathering) → Gathers hands after → after ≡ Some g → InOneOrder g.sides g.cores
    → (table : TableId) (ends : List SideEnd) → AreAt table ends hands → AreSettled ends hands
all_settled hands after g so is order table ends all =
    let gathered : AreGathered hands g = subst (Gathers hands) is so in
    record { cores = g.cores; are = gathered.are; order = subst (λ (es : List SideEnd). InOneOrder es g.cores) (gathered.at table ends all).1 order }

-- ---- for the code

pub fits_last : (hands all : Holdings TheHistorySide) (hand : List TheHistorySide) (before : Option TheGathering) → all ≡ hands ++ hand ∷ [] → Gathers hands before → AreAtOne all
    → (c : TheCore) → 0 < length hand → AreSidesOf c hand → FitsIn before c
fits_last hands all hand before is so one c any sides = fits hands hand before c so (subst AreAtOne is one) any sides

pub front_at_one : (hands all : Holdings TheHistorySide) (hand : List TheHistorySide) → all ≡ hands ++ hand ∷ [] → AreAtOne all → AreAtOne hands
front_at_one hands all hand is one =
    let (table, ends, each) = subst AreAtOne is one in
    (table, ends, at_front table ends hands hand each)
