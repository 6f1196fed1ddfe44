-- What stands for a side, at a moment; sides that face each other; and a core's own view of its side.
use Rattle.std.proofs.Common.{ℕ, zero, suc, ◌≡◌, ◌≢◌, ◌==◌, if◌then◌else◌, eq-eqb, ne_eqb, List, [], ◌∷◌, ◌++◌, length, drop, ap, subst, ◌∙◌, sym, refl, arith}
use mathlib.Core.Logic.{dite}
use mathlib.Core.Option.{some}
use native.Mathlib.Decide.{ℕ_discrete}
use lib.ListN.{get_elem?, length-replicate}
use Rattle.atomic_table.specs.Seated.{TableId}
use Rattle.fl_base.specs.declared.fragment.Frag.{Frag}
use Rattle.fl_cores_joined.specs.Rings.{TookFrom, AreFacing, standing_for}
use Rattle.fl_history_rings.specs.declared.board.Action.{Action}
use Rattle.fl_history_rings.specs.declared.board.Entry.{Entry}
use Rattle.fl_history_rings.specs.declared.board.SideEnd.{SideEnd}
use Rattle.fl_history_rings.specs.Rings.{mate, Way, way_with, Goes, Runs, all_empty, IsByItsCore, steps_of}
use Rattle.fl_history_rings.specs.Rule.{gather, one_action, puts_at, takes_at, ArePaired, slots_of, no_side}
use Rattle.fl_history_rings.proofs.Logs.{within, there, same_there, read_there, then_is, else_is}
use Rattle.fl_history_rings.proofs.Told.{told_taken}
use Rattle.fl_history_rings.proofs.Words.{mate_back}
use Rattle.fl_history_rings.proofs.Laws.{stands_after, goes_long, empty_there}
use Rattle.fl_history_facing.specs.Facing.{side_at, facing_at}
use Rattle.fl_history_facing.specs.Laws.{SidesFace, OwnStepsShowSides}
use Rattle.fl_history_facing.proofs.Acted.{side_by, side_is}
use Rattle.fl_history_facing.proofs.Along.{piece_else}

drop_all : (xs ys : List Frag) → drop (length xs) (xs ++ ys) ≡ ys
drop_all [] ys = refl
drop_all (x ∷ xs) ys = drop_all xs ys

module _ (ends : List SideEnd) (log : List Entry) (ways : List Way) (run : Runs (Goes ends) (all_empty (length ends)) log ways) where
  pub long : length ways ≡ length ends
  long = goes_long ends (all_empty (length ends)) ways log run ∙ length-replicate (length ends) (way_with [] 0 0)

  -- what was put into a way is what was taken from it, and what stands there
  pub put_and_taken : (w : ℕ) (q : Way) → get_elem? ways w ≡ some q → puts_at w log ≡ takes_at (mate w) log ++ q.waiting
  put_and_taken w q at =
      let low = within ways w q at in
      (stands_after ends w (all_empty (length ends)) ways log run (way_with [] 0 0) q (empty_there (length ends) w (omega (arith, low, long))) at).0

  pub standing_is : (table : TableId) (s : ℕ) (q : Way) → get_elem? ways (mate s) ≡ some q
      → standing_for (side_at table ends log s) (side_at table ends log (mate s)) ≡ q.waiting
  standing_is table s q at =
      ap (drop (length (takes_at s log))) (put_and_taken (mate s) q at ∙ ap (λ (x : ℕ). takes_at x log ++ q.waiting) (mate_back s))
      ∙ drop_all (takes_at s log) q.waiting

  took_from : (table : TableId) (s : ℕ) (q : Way) → get_elem? ways (mate s) ≡ some q → TookFrom (side_at table ends log s) (side_at table ends log (mate s))
  took_from table s q at = record {
    took = (q.waiting, put_and_taken (mate s) q at ∙ ap (λ (x : ℕ). takes_at x log ++ q.waiting) (mate_back s));
    told = told_taken s log;
  }

  pub slots_at : (s : ℕ) (end : SideEnd) → get_elem? ends s ≡ some end → slots_of ends s ≡ end.slots
  slots_at s end at = ap (λ (z : SideEnd). z.slots) (read_there ends s end no_side at)

  face : (table : TableId) (s : ℕ) (end : SideEnd) → ArePaired ends → get_elem? ends s ≡ some end → AreFacing (facing_at table ends log s)
  face table s end paired at =
      let other = paired s end at in
      let low = within ends s end at in
      let far = within ends (mate s) other.0 other.1 in
      let here = there ways s (omega (arith, low, long)) in
      let back = there ways (mate s) (omega (arith, far, long)) in
      record {
        ring = refl;
        size = slots_at (mate s) other.0 other.1 ∙ other.2 ∙ sym (slots_at s end at);
        here = took_from table s back.0 back.1;
        there =
            subst (λ (x : ℕ). TookFrom (side_at table ends log (mate s)) (side_at table ends log x)) (mate_back s)
            (took_from table (mate s) here.0 (subst (λ (x : ℕ). get_elem? ways x ≡ some here.0) (sym (mate_back s)) here.1));
      }

pub sides_face : SidesFace
sides_face = λ table ends log ways s end paired run at. face ends log ways run table s end paired at

-- ---- by its core's own steps

pub own_steps : (ends : List SideEnd) (s : ℕ) (end : SideEnd) (log : List Entry) → get_elem? ends s ≡ some end
    → ((i : ℕ) (e : Entry) → get_elem? log i ≡ some e → IsByItsCore ends e) → gather one_action s (steps_of end.core log) ≡ gather one_action s log
own_steps ends s end [] at by = refl
own_steps ends s end (e ∷ es) at by =
    let rest : gather one_action s (steps_of end.core es) ≡ gather one_action s es = own_steps ends s end es at (λ i d is. by (suc i) d is) in
    dite (ℕ_discrete e.core end.core)
    (λ own.
    ap (gather one_action s) (then_is (e.core == end.core) (e ∷ steps_of end.core es) (steps_of end.core es) (eq-eqb e.core end.core own))
    ∙ ap (λ (l : List Action). (if e.side == s then one_action e.action else []) ++ l) rest)
    (λ ne.
    let mine = by zero e refl in
    let away : e.side ≢ s =
    λ here. ne (mine.2 ∙ ap (λ (z : SideEnd). z.core) (same_there ends s mine.0 end (subst (λ (x : ℕ). get_elem? ends x ≡ some mine.0) here mine.1) at)) in
    ap (gather one_action s) (else_is (e.core == end.core) (e ∷ steps_of end.core es) (steps_of end.core es) (ne_eqb e.core end.core ne))
    ∙ rest ∙ sym (piece_else s e es away))

pub own_steps_show_sides : OwnStepsShowSides
own_steps_show_sides = λ table ends log s end by at.
    side_is table (slots_of ends s) s (steps_of end.core log)
    ∙ ap (λ (l : List Action). side_by table (slots_of ends s) s l) (own_steps ends s end log at by)
    ∙ sym (side_is table (slots_of ends s) s log)
