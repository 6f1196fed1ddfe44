-- A core with nothing.
use Rattle.std.proofs.Common.{◌≡◌, refl, ℕ, zero, suc, nat_lt, Bool, true, false, if◌then◌else◌, List, [], replicate, slice_get, slice_index_or, Option, Some, None}
use Rattle.std.proofs.lemmas.List.{length-replicate}
use Rattle.fl_link.specs.Queue.{TheQueue}
use Rattle.fl_core.specs.BoardView.{TheBoard}
use Rattle.fl_monitor.specs.Monitors.{TheMonitor, fresh_monitor}
use Rattle.fl_core.specs.declared.wiring.WiredEnd.{WiredEnd}
use Rattle.fl_core.specs.declared.wiring.LinkSide.{LinkSide}
use Rattle.fl_core.specs.View.{TheCore, fresh_core, slot_of, place_of}
use Rattle.fl_core.specs.Sound.{IsCore}

pub is_fresh : (core : ℕ) (b : TheBoard) (m : TheMonitor) (wired_ends : List WiredEnd) (places : List (Option ℕ)) (link_sides : List LinkSide) (arrivals : List TheQueue)
    → b ≡ record { dispatchers = []; seats = [] } → m ≡ fresh_monitor core → wired_ends ≡ [] → places ≡ replicate 2048 None → link_sides ≡ [] → arrivals ≡ []
    → (let k : TheCore = record { board = b; monitor = m; wired_ends = wired_ends; places = places; link_sides = link_sides; arrivals = arrivals } in k) ≡ fresh_core core
is_fresh core b m wired_ends places link_sides arrivals hb hm hp hs hl ha = rw (hb, hm, hp, hs, hl, ha) refl

-- ---- what is known of it

none_in : (count i : ℕ) → slice_index_or (replicate count (let x : Option ℕ = None in x)) i None ≡ None
none_in zero i = refl
none_in (suc count) zero = refl
none_in (suc count) (suc i) = none_in count i

none_either : (b : Bool) (x : Option ℕ) → x ≡ None → (if b then x else None) ≡ None
none_either true x is = is
none_either false x is = refl

not_some : (x : Option ℕ) (e : ℕ) → x ≡ None → x ≡ Some e → ⊥
not_some x e none some = absurd (cc (none, some))

nothing_at : {X : Type 0} (i : ℕ) (x : X) → slice_get [] i ≡ Some x → ⊥
nothing_at i x at = absurd (cc (at))

pub fresh_sound : (core : ℕ) → IsCore (fresh_core core)
fresh_sound core = record {
  kinds = refl;
  link_sides = refl;
  slots = length-replicate {A = Option ℕ} 2048 None;
  named = λ e p at. absurd (nothing_at e p at);
  placed = λ name e at. absurd (not_some (place_of (fresh_core core) name) e (none_either (nat_lt name.binding 1024) (slice_index_or (replicate 2048 None) (slot_of name) None) (none_in 2048 (slot_of name))) at);
  wired = λ e p at. absurd (nothing_at e p at);
  apart = λ e f a p q ate atf pa qa. absurd (nothing_at e p ate);
}
