-- Seats as code holds them: those of cores that aren't given out yet, and those of cores together again.
use Rattle.std.proofs.Common.{ℕ, zero, suc, ◌≡◌, ◌<◌, ◌+◌, ◌-◌, List, [], ◌∷◌, ◌++◌, length, map, get_or, ap, subst, ◌∙◌, sym, refl, arith, length-append}
use mathlib.Core.Option.{some, some-injective, some-ne-none}
use lib.ListN.{get_elem?}
use Rattle.atomic_table.specs.Seated.{TableId}
use Rattle.fl_history_rings.specs.declared.board.SideEnd.{SideEnd}
use Rattle.fl_history_rings.specs.declared.board.Plan.{Plan}
use Rattle.fl_history_rings.specs.declared.board.RingsBoard.{RingsBoard}
use Rattle.fl_history_rings.specs.declared.board.CoreView.{CoreView}
use Rattle.fl_history_rings.specs.Rings.{steps_of}
use Rattle.fl_history_rings.specs.Rule.{view_of, at_rest, seat_of, core_of, alone, fresh_cores, without_first, first_alone, both_of, OneOrder}
use Rattle.fl_history_rings.specs.Seats.{RingsSeat, view_at, IsLaid, IsSeated}
use Rattle.fl_history_rings.specs.Cores.{key_of, IsWhole, TheCore, shown, core_shown, TheGathering, IsGathering, gathering_shown, gathering_of, with_core, InOneOrder}
use Rattle.fl_history_rings.proofs.Allowed.{Seated}
use Rattle.fl_history_rings.proofs.Rows.{none_held}

-- ---- cores that aren't given out yet

one_less : (cores next : ℕ) → next < cores → cores - next ≡ suc (cores - (next + 1))
one_less cores next lt = omega arith

module _ (ends : List SideEnd) (cores next : ℕ) (m : Seated) (some_left : next < cores) (is : let y : Seated = (seat_of (fresh_cores ends next (cores - next)), []) in m ≡ y) where
  abbrev still : ℕ
  still = cores - (next + 1)

  whole : (let y : Seated = (seat_of (fresh_cores ends next (suc still)), []) in m ≡ y)
  whole = is ∙ ap (λ (x : ℕ). let y : Seated = (seat_of (fresh_cores ends next x), []) in y) (one_less cores next some_left)

  pub waits_there : m.0 ≡ seat_of (fresh_cores ends next (suc (cores - (next + 1))))
  waits_there = ap (λ (x : Seated). x.0) whole

  -- the next core's seat, and what is left
  pub given_out : (m' : Seated) → (let y : Seated = (first_alone m.0, []) in m' ≡ y) → m' ≡ alone (at_rest ends next [])
  given_out m' first = first ∙ ap (λ (x : Seated). let y : Seated = (first_alone x.0, []) in y) whole

  pub left_over : (m' : Seated) → (let y : Seated = (without_first m.0, m.1) in m' ≡ y) → (let y : Seated = (seat_of (fresh_cores ends (next + 1) (cores - (next + 1))), []) in m' ≡ y)
  left_over m' others =
      let one_on : suc next ≡ next + 1 = omega arith in
      others ∙ ap (λ (x : Seated). let y : Seated = (without_first x.0, x.1) in y) whole
      ∙ ap (λ (x : ℕ). let y : Seated = (seat_of (fresh_cores ends x still), []) in y) one_on

-- as code finds it
pub some_left : (board b : RingsBoard) (next : ℕ) → b ≡ board → key_of board ≡ board.plan → next < b.plan.cores → next < (key_of board).cores
some_left board b next is plan_is low = subst (λ (p : Plan). next < p.cores) (sym plan_is) (subst (λ (x : RingsBoard). next < x.plan.cores) is low)

-- a core that is given out
module _ (board : RingsBoard) (seat : RingsSeat) (number : ℕ) (laid : IsLaid board.table.shared.table_id (key_of board)) (plan_is : key_of board ≡ board.plan) (same : seat.table_id ≡ board.table.shared.table_id)
    (is : seat.me ≡ alone (at_rest (key_of board).sides.items number [])) where
  pub core_new : IsWhole board seat number
  core_new = record {
    seated = record {
      same = same;
      laid = laid;
      alone_is = is ∙ ap (λ (m : Seated). alone (view_of (key_of board).sides.items (core_of m.0).core (core_of m.0).steps (core_of m.0).knows)) (sym is);
    };
    rest = ap (λ (m : Seated). (core_of m.0).knows) is;
    number_is = ap (λ (m : Seated). (core_of m.0).core) is;
    plan_is = plan_is;
  }

  pub new_shown : (let y : TheCore = record { table = seat.table_id; sides = (key_of board).sides.items; number = number; steps = [] } in core_shown seat ≡ y)
  new_shown = ap (λ (m : Seated). shown seat.table_id (core_of m.0)) is

-- ---- cores together again

pub lone_cores : (table : TableId) (plan : Plan) (seat : RingsSeat) → IsSeated table plan seat → seat.me.0.cores ≡ view_at seat ∷ []
lone_cores table plan seat s = ap (λ (x : Seated). x.0.cores) s.alone_is ∙ ap (λ (x : Seated). core_of x.0 ∷ []) (sym s.alone_is)

pub one_gathered : (table : TableId) (plan : Plan) (seat : RingsSeat) → IsSeated table plan seat → gathering_shown seat ≡ gathering_of (core_shown seat)
one_gathered table plan seat s =
    ap (λ (cores : List CoreView). let g : TheGathering = record { table = seat.table_id; sides = (core_of seat.me.0).sides; cores = map (shown seat.table_id) cores } in g)
    (lone_cores table plan seat s)

pub some_first : (l : List CoreView) → 0 < length l → (h : CoreView) × (hs : List CoreView) × (l ≡ h ∷ hs)
some_first [] p = absurd (omega arith)
some_first (h ∷ hs) p = (h, hs, refl)

map_more : (f : CoreView → TheCore) (xs ys : List CoreView) → map f (xs ++ ys) ≡ map f xs ++ map f ys
map_more f [] ys = refl
map_more f (x ∷ xs) ys = ap (λ (zs : List TheCore). f x ∷ zs) (map_more f xs ys)

first_stays : (xs ys : List CoreView) (d : CoreView) → 0 < length xs → get_or (xs ++ ys) 0 d ≡ get_or xs 0 d
first_stays [] ys d p = absurd (omega arith)
first_stays (x ∷ xs) ys d p = refl

abbrev gathered : TableId → CoreView → List TheCore → TheGathering
gathered table h cores = record { table = table; sides = h.sides; cores = cores }

pub more_gathered : (table : TableId) (plan : Plan) (old new seat : RingsSeat) → IsSeated table plan seat → 0 < length old.me.0.cores → new.table_id ≡ old.table_id → seat.table_id ≡ old.table_id
    → new.me ≡ (both_of old.me.0 seat.me.0, old.me.1) → gathering_shown new ≡ with_core (gathering_shown old) (core_shown seat)
more_gathered table plan old new seat s some_core same theirs is =
    let t : TableId = old.table_id in
    let xs : List CoreView = old.me.0.cores in
    let h : CoreView = core_of old.me.0 in
    let g : CoreView = core_of seat.me.0 in
    let lone : xs ++ seat.me.0.cores ≡ xs ++ g ∷ [] = ap (λ (ys : List CoreView). xs ++ ys) (lone_cores table plan seat s) in
    ap (λ (m : Seated). gathering_shown (record new { me = m })) is
    ∙ ap (λ (z : TableId). gathered z (core_of (both_of old.me.0 seat.me.0)) (map (shown z) (xs ++ seat.me.0.cores))) same
    ∙ ap (λ (z : CoreView). gathered t z (map (shown t) (xs ++ seat.me.0.cores))) (first_stays xs seat.me.0.cores (at_rest [] 0 []) some_core)
    ∙ ap (λ (zs : List CoreView). gathered t h (map (shown t) zs)) lone
    ∙ ap (λ (zs : List TheCore). gathered t h zs) (map_more (shown t) xs (g ∷ []))
    ∙ ap (λ (z : TableId). gathered t h (map (shown t) xs ++ shown z g ∷ [])) (sym theirs)

at_map : (f : CoreView → TheCore) (l : List CoreView) (i : ℕ) (c : TheCore) → get_elem? (map f l) i ≡ some c → (h : CoreView) × (get_elem? l i ≡ some h) × (f h ≡ c)
at_map f [] i c e = absurd (some-ne-none c (sym e))
at_map f (x ∷ xs) zero c e = (x, refl, some-injective (f x) c e)
at_map f (x ∷ xs) (suc i) c e = at_map f xs i c e

pub settled : (ends : List SideEnd) (table : TableId) (cores : List CoreView) → OneOrder ends cores → InOneOrder ends (map (shown table) cores)
settled ends table cores order = record {
  sides_are = λ i c e. sides_are i c (at_map (shown table) cores i c e);
  log = order.log;
  queues = order.queues;
  runs = order.runs;
  by_its_core = order.by_its_core;
  did = λ i c e. did i c (at_map (shown table) cores i c e);
}
  where
    sides_are : (i : ℕ) (c : TheCore) → (h : CoreView) × (get_elem? cores i ≡ some h) × (shown table h ≡ c) → c.sides ≡ ends
    sides_are i c (h, at, is) = ap (λ (x : TheCore). x.sides) (sym is) ∙ order.sides_are i h at

    did : (i : ℕ) (c : TheCore) → (h : CoreView) × (get_elem? cores i ≡ some h) × (shown table h ≡ c) → steps_of c.number order.log ≡ c.steps
    did i c (h, at, is) = subst (λ (x : TheCore). steps_of x.number order.log ≡ x.steps) is (order.did i h at)

pub one_gathering : (board : RingsBoard) (seat : RingsSeat) (number : ℕ) → IsWhole board seat number → IsGathering board seat
one_gathering board seat number whole =
    let s = whole.seated in
    let one : length seat.me.0.cores ≡ 1 = ap length (lone_cores board.table.shared.table_id (key_of board) seat s) in
    let wide = s.laid.wide in
    record {
      same = s.same;
      some_words = omega (arith, wide);
      none_held = none_held board.table.shared.table_id (key_of board) seat s;
      some_core = omega (arith, one);
    }

-- a seat that is as it was
pub kept_gathering : (board : RingsBoard) (old new : RingsSeat) → IsGathering board old → new.table_id ≡ old.table_id → new.me ≡ old.me → IsGathering board new
kept_gathering board old new g same is =
    let some_core = g.some_core in
    let long : length new.me.0.cores ≡ length old.me.0.cores = ap (λ (m : Seated). length m.0.cores) is in
    record { same = same ∙ g.same; some_words = g.some_words; none_held = ap (λ (m : Seated). m.1) is ∙ g.none_held; some_core = omega (arith, long, some_core) }

pub kept_shown : (old new : RingsSeat) → new.table_id ≡ old.table_id → new.me ≡ old.me → gathering_shown new ≡ gathering_shown old
kept_shown old new same is =
    ap (λ (m : Seated). gathered new.table_id (core_of m.0) (map (shown new.table_id) m.0.cores)) is
    ∙ ap (λ (z : TableId). gathered z (core_of old.me.0) (map (shown z) old.me.0.cores)) same

-- what the seat of both holds
pub both_gathering : (board : RingsBoard) (old new seat : RingsSeat) → IsGathering board old → new.table_id ≡ old.table_id → new.me ≡ (both_of old.me.0 seat.me.0, old.me.1) → IsGathering board new
both_gathering board old new seat g same is =
    let long : length new.me.0.cores ≡ length old.me.0.cores + length seat.me.0.cores =
    ap (λ (m : Seated). length m.0.cores) is ∙ length-append old.me.0.cores seat.me.0.cores in
    let some_core = g.some_core in
    record {
      same = same ∙ g.same;
      some_words = g.some_words;
      none_held = ap (λ (m : Seated). m.1) is ∙ g.none_held;
      some_core = omega (arith, long, some_core);
    }
