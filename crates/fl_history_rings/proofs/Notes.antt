-- A step of one core by one of its sides: the history after it, and what all cores know then.
use Rattle.std.proofs.Common.{ℕ, zero, suc, ◌≡◌, ◌≢◌, ◌<◌, ◌≤◌, ◌+◌, ◌*◌, ◌%◌, ◌⊎◌, inl, inr, List, [], ◌∷◌, ◌++◌, length, get_or, set, ap, subst, ◌∙◌, sym, refl, arith, length-set}
use mathlib.Core.Logic.{dite}
use mathlib.Core.Option.{some, some-injective, some-ne-none}
use native.Mathlib.Decide.{ℕ_discrete}
use lib.ListN.{get_elem?}
use Rattle.atomic_table.proofs.Lists.{at_set, at_snoc, set_here, set_else}
use Rattle.fl_ring.specs.Way.{slot}
use Rattle.fl_ring.specs.SharedDuo.{BothRun, ways}
use Rattle.fl_ring.specs.declared.shared.duo_board.SideView.{SideView}
use Rattle.fl_ring.proofs.Places.{slot_within}
use Rattle.fl_ring.proofs.Tells.{tells_kept}
use Rattle.fl_ring.proofs.SharedTables.{Moves}
use Rattle.fl_ring.proofs.SharedWays.{runs_elsewhere}
use Rattle.fl_ring.proofs.SharedDuos.{turned}
use Rattle.fl_history_rings.specs.declared.board.Action.{Action}
use Rattle.fl_history_rings.specs.declared.board.Entry.{Entry}
use Rattle.fl_history_rings.specs.declared.board.SideEnd.{SideEnd}
use Rattle.fl_history_rings.specs.declared.board.CoreView.{CoreView}
use Rattle.fl_history_rings.specs.declared.board.SeatView.{SeatView}
use Rattle.fl_history_rings.specs.Rings.{mate, Way, Does, Goes, Runs, all_empty, entry, IsByItsCore, steps_of}
use Rattle.fl_history_rings.specs.Rule.{first_word, Lies, KnowsSide, Knows, Holds, Account, Fits, Held, one_core}
use Rattle.fl_history_rings.proofs.Logs.{within, same_there, steps_more, steps_same, runs_more}
use Rattle.fl_history_rings.proofs.Words.{mate_back, mate_apart, mates_same, other_way}

-- The history after a step by side s, and how the ways of its ring stand then: its own so, the other side's so, and
-- all others as they did.
pub record Logged (ends : List SideEnd) (log : List Entry) (queues : List Way) (core s : ℕ) (log' : List Entry) (queues' : List Way) (p' q' : Way) (did' : List Entry) : Type 0 where
  pub runs : Runs (Goes ends) (all_empty (length ends)) log' queues'
  pub by_its_core : (i : ℕ) (e : Entry) → get_elem? log' i ≡ some e → IsByItsCore ends e
  pub many : length queues' ≡ length ends
  pub mine_at : get_elem? queues' s ≡ some p'
  pub theirs_at : get_elem? queues' (mate s) ≡ some q'
  pub others_at : (j : ℕ) → j ≢ s → j ≢ mate s → get_elem? queues' j ≡ get_elem? queues j
  pub mine : did' ≡ steps_of core log'
  pub others : (c : ℕ) → c ≢ core → steps_of c log' ≡ steps_of c log

-- What a core knows after a step by side s is so, where what it knew before was.
pub record Learns (s : ℕ) (h h' : CoreView) (x x' : SideView) : Type 0 where
  pub core_is : h'.core ≡ h.core
  pub sides_are : h'.sides ≡ h.sides
  pub here : KnowsSide s h x → KnowsSide s h' x'
  pub beside : (j : ℕ) (v : SideView) → j ≢ s → KnowsSide j h v → KnowsSide j h' v

-- ---- a ring, from either side and elsewhere

pub lies_turned : (b c n : ℕ) (ws : List ℕ) (x y : SideView) (p q : Way) → Lies b c n ws x y p q → Lies c b n ws y x q p
lies_turned b c n ws x y p q h = record { runs = turned b c n 0 ws x y h.runs; there = h.back; back = h.there }

-- the control word of a slot is a word of its way
control_within : (b n i : ℕ) → 0 < n → (b ≤ slot b n i + 7) × (slot b n i + 7 < b + 8 * n)
control_within b n i any = let inside = slot_within b n i any in let p : ℕ = i % n in (omega arith, omega (arith, inside))

both_elsewhere : (b c n : ℕ) (ws ws' : List ℕ) (x y : SideView) → BothRun (ways b c n 0) ws x y → length ws' ≡ length ws → ((i : ℕ) → b ≤ i → i < b + 8 * n → get_or ws' i 0 ≡ get_or ws i 0)
    → ((i : ℕ) → c ≤ i → i < c + 8 * n → get_or ws' i 0 ≡ get_or ws i 0) → BothRun (ways b c n 0) ws' x y
both_elsewhere b c n ws ws' x y h long near far = record {
  few = h.few;
  apart = h.apart;
  there = runs_elsewhere b n ws x.put y.take y.take.told ws' h.there long near;
  back = runs_elsewhere c n ws y.put x.take x.take.told ws' h.back long far;
  told_there = h.told_there;
  told_back = h.told_back;
  last_there = h.last_there;
  last_back = h.last_back;
  word_there = tells_kept b n 0 ws ws' (length x.put.sent) x.take.told h.word_there (λ i. let inside = control_within b n i h.there.holds.marked.some in near (slot b n i + 7) inside.0 inside.1);
  word_back = tells_kept c n 0 ws ws' (length y.put.sent) y.take.told h.word_back (λ i. let inside = control_within c n i h.back.holds.marked.some in far (slot c n i + 7) inside.0 inside.1);
}

pub lies_elsewhere : (b c n : ℕ) (ws ws' : List ℕ) (x y : SideView) (p q : Way) → Lies b c n ws x y p q → length ws' ≡ length ws → ((i : ℕ) → b ≤ i → i < b + 8 * n → get_or ws' i 0 ≡ get_or ws i 0)
    → ((i : ℕ) → c ≤ i → i < c + 8 * n → get_or ws' i 0 ≡ get_or ws i 0) → Lies b c n ws' x y p q
lies_elsewhere b c n ws ws' x y p q h long near far = record { runs = both_elsewhere b c n ws ws' x y h.runs long near far; there = h.there; back = h.back }

-- by the places of its two ways, the slots, and what stands there
lies_by : (b c b' c' n n' : ℕ) (ws : List ℕ) (x y v w : SideView) (p q r t : Way) → b' ≡ b → c' ≡ c → n' ≡ n → v ≡ x → w ≡ y → r ≡ p → t ≡ q → Lies b c n ws x y p q → Lies b' c' n' ws v w r t
lies_by b c b' c' n n' ws x y v w p q r t eb ec en ex ey ep et h =
    subst (λ (z : ℕ). Lies z c' n' ws v w r t) (sym eb)
    (subst (λ (z : ℕ). Lies b z n' ws v w r t) (sym ec)
    (subst (λ (z : ℕ). Lies b c z ws v w r t) (sym en)
    (subst (λ (z : SideView). Lies b c n ws z w r t) (sym ex)
    (subst (λ (z : SideView). Lies b c n ws x z r t) (sym ey)
    (subst (λ (z : Way). Lies b c n ws x y z t) (sym ep)
    (subst (λ (z : Way). Lies b c n ws x y p z) (sym et) h))))))

module _ (ends : List SideEnd) (ws : List ℕ) (cores : List CoreView) (held : Holds ends ws cores) (h : CoreView) (at : get_elem? cores h.core ≡ some h) (s : ℕ) (end : SideEnd) (there : get_elem? ends s ≡ some end) (mine : end.core ≡ h.core) where
  -- the side is the same one
  same_end : (j : ℕ) (e : SideEnd) → get_elem? ends j ≡ some e → j ≡ s → e ≡ end
  same_end j e is same = same_there ends s e end (subst (λ (i : ℕ). get_elem? ends i ≡ some e) same is) there

  module _ (x x' y : SideView) (p q p' q' : Way) (here : get_elem? held.sides s ≡ some x) (across : get_elem? held.sides (mate s) ≡ some y) (ws' : List ℕ) (h' : CoreView) (log' : List Entry) (queues' : List Way)
      (logged : Logged ends held.log held.queues h.core s log' queues' p' q' h'.steps) (learns : Learns s h h' x x') (lies : Lies (first_word ends s) (first_word ends (mate s)) end.slots ws' x' y p' q') (long : length ws' ≡ length ws)
      (elsewhere : (i : ℕ) → (i < first_word ends s) ⊎ (first_word ends s + 8 * end.slots ≤ i) → get_or ws' i 0 ≡ get_or ws i 0) where
    abbrev sides' : List SideView
    sides' = set held.sides s x'

    now_mine : get_elem? sides' s ≡ some x'
    now_mine = set_here held.sides s x' (within held.sides s x here)

    now_theirs : get_elem? sides' (mate s) ≡ some y
    now_theirs = set_else held.sides s (mate s) x' (mate_apart s) ∙ across

    -- each ring lies as it should
    module _ (j : ℕ) (e : SideEnd) (v w : SideView) (r t : Way) (is : get_elem? ends j ≡ some e) (near : get_elem? sides' j ≡ some v) (far : get_elem? sides' (mate j) ≡ some w) (stands : get_elem? queues' j ≡ some r) (stands_back : get_elem? queues' (mate j) ≡ some t) where
      lie_mine : j ≡ s → Lies (first_word ends j) (first_word ends (mate j)) e.slots ws' v w r t
      lie_mine same =
          lies_by (first_word ends s) (first_word ends (mate s)) (first_word ends j) (first_word ends (mate j)) end.slots e.slots ws' x' y v w p' q' r t
          (ap (first_word ends) same) (ap (λ (i : ℕ). first_word ends (mate i)) same) (ap (λ (z : SideEnd). z.slots) (same_end j e is same))
          (same_there sides' s v x' (subst (λ (i : ℕ). get_elem? sides' i ≡ some v) same near) now_mine)
          (same_there sides' (mate s) w y (subst (λ (i : ℕ). get_elem? sides' (mate i) ≡ some w) same far) now_theirs)
          (same_there queues' s r p' (subst (λ (i : ℕ). get_elem? queues' i ≡ some r) same stands) logged.mine_at)
          (same_there queues' (mate s) t q' (subst (λ (i : ℕ). get_elem? queues' (mate i) ≡ some t) same stands_back) logged.theirs_at)
          lies

      lie_theirs : j ≡ mate s → Lies (first_word ends j) (first_word ends (mate j)) e.slots ws' v w r t
      lie_theirs same =
          let back : mate j ≡ s = ap mate same ∙ mate_back s in
          let other = held.paired s end there in
          let slots : e.slots ≡ end.slots = ap (λ (z : SideEnd). z.slots) (same_there ends (mate s) e other.0 (subst (λ (i : ℕ). get_elem? ends i ≡ some e) same is) other.1) ∙ other.2 in
          lies_by (first_word ends (mate s)) (first_word ends s) (first_word ends j) (first_word ends (mate j)) end.slots e.slots ws' y x' v w q' p' r t
          (ap (first_word ends) same) (ap (first_word ends) back) slots
          (same_there sides' (mate s) v y (subst (λ (i : ℕ). get_elem? sides' i ≡ some v) same near) now_theirs)
          (same_there sides' s w x' (subst (λ (i : ℕ). get_elem? sides' i ≡ some w) back far) now_mine)
          (same_there queues' (mate s) r q' (subst (λ (i : ℕ). get_elem? queues' i ≡ some r) same stands) logged.theirs_at)
          (same_there queues' s t p' (subst (λ (i : ℕ). get_elem? queues' i ≡ some t) back stands_back) logged.mine_at)
          (lies_turned (first_word ends s) (first_word ends (mate s)) end.slots ws' x' y p' q' lies)

      lie_others : j ≢ s → j ≢ mate s → Lies (first_word ends j) (first_word ends (mate j)) e.slots ws' v w r t
      lie_others ne away =
          let ne_back : mate j ≢ s = λ e. away (mates_same j (mate s) (e ∙ sym (mate_back s))) in
          let away_back : mate j ≢ mate s = λ e. ne (mates_same j s e) in
          let other = held.paired j e is in
          lies_elsewhere (first_word ends j) (first_word ends (mate j)) e.slots ws ws' v w r t
          (held.lie j e v w r t is (sym (set_else held.sides s j x' ne) ∙ near) (sym (set_else held.sides s (mate j) x' ne_back) ∙ far) (sym (logged.others_at j ne away) ∙ stands) (sym (logged.others_at (mate j) ne_back away_back) ∙ stands_back)) long
          (λ i from below. elsewhere i (other_way ends s j end e there is (λ d. ne (sym d)) i from below))
          (λ i from below. elsewhere i (other_way ends s (mate j) end other.0 there other.1 (λ d. ne_back (sym d)) i from (let slots = other.2 in omega (arith, below, slots))))

      lie_after : Lies (first_word ends j) (first_word ends (mate j)) e.slots ws' v w r t
      lie_after = dite (ℕ_discrete j s) (λ same. lie_mine same) (λ ne. dite (ℕ_discrete j (mate s)) (λ same. lie_theirs same) (λ away. lie_others ne away))

    -- what this core knows
    my_side : (j : ℕ) (e : SideEnd) (v : SideView) → get_elem? ends j ≡ some e → e.core ≡ h.core → ((j ≡ s) × (x' ≡ v)) ⊎ ((j ≢ s) × (get_elem? held.sides j ≡ some v)) → KnowsSide j h' v
    my_side j e v is its (inl (same, d)) =
        subst (λ (i : ℕ). KnowsSide i h' v) (sym same) (subst (λ (z : SideView). KnowsSide s h' z) d (learns.here ((held.knows h.core h at).knows s end x there mine here)))
    my_side j e v is its (inr (ne, was)) = learns.beside j v ne ((held.knows h.core h at).knows j e v is its was)

    mine_knows : Knows ends sides' log' h.core h'
    mine_knows =
        let old = held.knows h.core h at in
        record {
          number_is = learns.core_is;
          sides_are = learns.sides_are ∙ old.sides_are;
          did = logged.mine;
          knows = λ j e v is its now. my_side j e v is its (at_set held.sides s j x' v now);
        }

    -- and another one
    their_side : (c : ℕ) (g : CoreView) → c ≢ h.core → Knows ends held.sides held.log c g → (j : ℕ) (e : SideEnd) (v : SideView) → get_elem? ends j ≡ some e → e.core ≡ c → ((j ≡ s) × (x' ≡ v)) ⊎ ((j ≢ s) × (get_elem? held.sides j ≡ some v)) → KnowsSide j g v
    their_side c g ne old j e v is its (inl (same, d)) = absurd (ne (sym its ∙ (ap (λ (z : SideEnd). z.core) (same_end j e is same) ∙ mine)))
    their_side c g ne old j e v is its (inr (_, was)) = old.knows j e v is its was

    theirs_knows : (c : ℕ) (g : CoreView) → c ≢ h.core → Knows ends held.sides held.log c g → Knows ends sides' log' c g
    theirs_knows c g ne old = record {
      number_is = old.number_is;
      sides_are = old.sides_are;
      did = old.did ∙ sym (logged.others c ne);
      knows = λ j e v is its now. their_side c g ne old j e v is its (at_set held.sides s j x' v now);
    }

    knows_after : (c : ℕ) (g : CoreView) → ((c ≡ h.core) × (h' ≡ g)) ⊎ ((c ≢ h.core) × (get_elem? cores c ≡ some g)) → Knows ends sides' log' c g
    knows_after c g (inl (e, d)) = subst (λ (z : ℕ). Knows ends sides' log' z g) (sym e) (subst (λ (z : CoreView). Knows ends sides' log' h.core z) d mine_knows)
    knows_after c g (inr (ne, was)) = theirs_knows c g ne (held.knows c g was)

    pub step_holds : Holds ends ws' (set cores h.core h')
    step_holds = record {
      log = log';
      queues = queues';
      sides = sides';
      paired = held.paired;
      runs = logged.runs;
      by_its_core = logged.by_its_core;
      many = logged.many;
      many_sides = length-set held.sides s x' ∙ held.many_sides;
      lie = λ j e v w r t is near far stands stands_back. lie_after j e v w r t is near far stands stands_back;
      knows = λ c g now. knows_after c g (at_set cores h.core c h' g now);
    }

  -- ---- a step that is noted, and one that isn't

  module _ (p q : Way) (stood : get_elem? held.queues s ≡ some p) (stood_back : get_elem? held.queues (mate s) ≡ some q) where
    pub logs_one : (d : Action) (p' q' : Way) → Does end.slots p q d p' q'
        → Logged ends held.log held.queues h.core s (held.log ++ entry h.core s d ∷ []) (set (set held.queues s p') (mate s) q') p' q' (h.steps ++ entry h.core s d ∷ [])
    logs_one d p' q' does = record {
      runs = runs_more (Goes ends) (all_empty (length ends)) held.log held.queues after new held.runs
          (record { end = end; mine = p; theirs = q; mine_left = p'; theirs_left = q'; there = there; stood = stood; stood_back = stood_back; does = does; leaves = refl });
      by_its_core = λ i e is. by_its_core i e (at_snoc held.log new e i is);
      many = length-set (set held.queues s p') (mate s) q' ∙ (length-set held.queues s p' ∙ held.many);
      mine_at = set_else (set held.queues s p') (mate s) s q' (λ e. mate_apart s (sym e)) ∙ set_here held.queues s p' (within held.queues s p stood);
      theirs_at = set_here (set held.queues s p') (mate s) q' (let far = within held.queues (mate s) q stood_back in omega (arith, far, length-set held.queues s p'));
      others_at = λ j ne away. set_else (set held.queues s p') (mate s) j q' away ∙ set_else held.queues s j p' ne;
      mine = ap (λ (xs : List Entry). xs ++ new ∷ []) (held.knows h.core h at).did ∙ sym (steps_more h.core held.log new refl);
      others = λ c ne. steps_same c held.log new (λ e. ne (sym e));
    }
      where
        new : Entry
        new = entry h.core s d

        after : List Way
        after = set (set held.queues s p') (mate s) q'

        by_its_core : (i : ℕ) (e : Entry) → (get_elem? held.log i ≡ some e) ⊎ (new ≡ e) → IsByItsCore ends e
        by_its_core i e (inl old) = held.by_its_core i e old
        by_its_core i e (inr same) = subst (λ (z : Entry). IsByItsCore ends z) same (end, there, sym mine)

    pub logs_none : Logged ends held.log held.queues h.core s held.log held.queues p q h.steps
    logs_none = record {
      runs = held.runs;
      by_its_core = held.by_its_core;
      many = held.many;
      mine_at = stood;
      theirs_at = stood_back;
      others_at = λ j ne away. refl;
      mine = (held.knows h.core h at).did;
      others = λ c ne. refl;
    }

-- ---- whose seat is whose

-- the view of one core's seat
pub lone_fits : (c : Account) (seat : ℕ) (h : CoreView) → get_elem? c.cores h.core ≡ some h → get_elem? c.seats h.core ≡ some seat → Fits c seat (one_core h)
lone_fits c seat h at sits zero g is = subst (λ (x : CoreView). (get_elem? c.cores x.core ≡ some x) × (get_elem? c.seats x.core ≡ some seat)) (some-injective h g is) (at, sits)
lone_fits c seat h at sits (suc k) g is = absurd (some-ne-none g (sym is))

abbrev pub with_view : Account → ℕ → CoreView → Account
with_view c n h = record { seats = c.seats; cores = set c.cores n h }

-- once this core knows something else
pub mine_fits : (c : Account) (seat : ℕ) (h h' : CoreView) → h'.core ≡ h.core → get_elem? c.cores h.core ≡ some h → get_elem? c.seats h.core ≡ some seat → Fits (with_view c h.core h') seat (one_core h')
mine_fits c seat h h' same at sits =
    lone_fits (with_view c h.core h') seat h'
    (subst (λ (n : ℕ). get_elem? (set c.cores h.core h') n ≡ some h') (sym same) (set_here c.cores h.core h' (within c.cores h.core h at)))
    (subst (λ (n : ℕ). get_elem? c.seats n ≡ some seat) (sym same) sits)

-- and the others' views
pub others_fit : (c : Account) (seat : ℕ) (h h' : CoreView) → get_elem? c.seats h.core ≡ some seat → (j : ℕ) (u : SeatView) → j ≢ seat → Fits c j u → Fits (with_view c h.core h') j u
others_fit c seat h h' sits j u ne fits = λ k g is.
    let f = fits k g is in
    let apart : g.core ≢ h.core = λ e. ne (some-injective j seat (sym (subst (λ (n : ℕ). get_elem? c.seats n ≡ some j) e f.1) ∙ sits)) in
    (set_else c.cores h.core g.core h' apart ∙ f.0, f.1)

-- a step of core h, which knows h' then
pub moves : (ends : List SideEnd) (c : Account) (id : ℕ) (ws : List ℕ) (h h' : CoreView) (Then : SeatView → Type 0) → Fits c id (one_core h) → h'.core ≡ h.core → Holds ends ws (set c.cores h.core h') → Then (one_core h')
    → Moves Fits (Held ends) c id ws Then
moves ends c id ws h h' Then fits same holds tells =
    let f = fits zero h refl in
    record {
      account = with_view c h.core h';
      view = one_core h';
      mine = mine_fits c id h h' same f.0 f.1;
      others = λ j u ne g. others_fit c id h h' f.1 j u ne g;
      holds = holds;
      tells = tells;
    }
