-- What was added last is taken back: base is the core with it, by its fields, and before the core without it.
use Rattle.std.proofs.Common.{◌≡◌, sym, ap, ◌∙◌, ℕ, ◌-◌, ◌<◌, false, List, [], ◌∷◌, ◌++◌, length, take, slice_get, slice_set, Option, Some, None, Ok}
use Rattle.fl_base.specs.declared.identity.CoreId.{CoreId}
use Rattle.fl_endpoint.specs.View.{TheEnd}
use Rattle.fl_hop.proofs.Lists.{pop_front}
use Rattle.fl_core.specs.declared.kind.ChannelKind.{ChannelKind}
use Rattle.fl_core.specs.BoardView.{TheDispatcher, TheBoard, with_new_end}
use Rattle.fl_core.specs.BoardEvents.{Adds, IsGrown}
use Rattle.fl_core.specs.BoardSound.{IsBoard}
use Rattle.fl_core.proofs.BoardPlaces.{last_parts, set_twice}
use Rattle.fl_monitor.specs.Monitors.{TheMonitor, with_new_link}
use Rattle.fl_core.specs.declared.wiring.WiredEnd.{WiredEnd}
use Rattle.fl_core.specs.declared.wiring.LinkSide.{LinkSide}
use Rattle.fl_core.specs.View.{TheCore, slot_of, place_of, kind_of, with_wired_end}
use Rattle.fl_core.specs.Making.{linked, AddsWiredEnd}
use Rattle.fl_core.proofs.Named.{cleared}

-- ---- a link

pub link_back : (before k base : TheCore) → base ≡ k → (to : CoreId) (side : ℕ) → k ≡ linked before to side → (m : TheMonitor)
    → ((n : TheMonitor) (c : CoreId) → base.monitor ≡ with_new_link n c → m ≡ n)
    → (link_sides : List LinkSide) (many : ℕ) → many ≡ length base.link_sides → link_sides ≡ take (many - 1) base.link_sides → record base { monitor = m; link_sides = link_sides } ≡ before
link_back before k base same to side grown m back link_sides many many_is link_sides_are =
    let all : base ≡ linked before to side = same ∙ grown in
    let monitor : m ≡ before.monitor = back before.monitor to (ap (λ (x : TheCore). x.monitor) all) in
    let link_side : LinkSide = record { side = side; failed = false } in
    let front : link_sides ≡ before.link_sides = pop_front base.link_sides before.link_sides link_sides link_side many many_is link_sides_are (ap (λ (x : TheCore). x.link_sides) all) in
    ap (λ (x : TheMonitor). record base { monitor = x; link_sides = link_sides }) monitor
    ∙ ap (λ (x : List LinkSide). record base { monitor = before.monitor; link_sides = x }) front
    ∙ ap (λ (x : TheCore). record x { monitor = before.monitor; link_sides = before.link_sides }) all

-- ---- an end

-- its board is one that has gained an end
pub board_grown : (before k base : TheCore) → base ≡ k → (n : ℕ) (s : TheEnd) (p : WiredEnd) (e : ℕ) → IsBoard before.board → AddsWiredEnd n s p before (Ok e) k → IsGrown base.board
board_grown before k base same n s p e sound ((e_is, (d, at, few, is)), rest) = record {
  before = before.board;
  sound = sound;
  place = n;
  dispatcher = d;
  dispatcher_is = at;
  end = s;
  kind = kind_of p.wiring;
  board = ap (λ (x : TheCore). x.board) same ∙ is;
}

module _ (before k base : TheCore) (same : base ≡ k) (n : ℕ) (s : TheEnd) (p : WiredEnd) (e : ℕ) (adds : AddsWiredEnd n s p before (Ok e) k) (wired_ends : List WiredEnd) (last : WiredEnd)
    (wired_ends_are : base.wired_ends ≡ wired_ends ++ last ∷ []) where
  all : base ≡ with_wired_end before k.board e p
  all = same ∙ adds.1

  pub wired_ends_before : (wired_ends ≡ before.wired_ends) × (last ≡ p)
  wired_ends_before = last_parts wired_ends before.wired_ends last p (sym wired_ends_are ∙ ap (λ (x : TheCore). x.wired_ends) all)

  module _ (few : p.name.binding < 1024) (new : place_of before p.name ≡ None) (b : TheBoard)
      (back : (c : TheBoard) (m : ℕ) (d : TheDispatcher) (t : TheEnd) (kind : ChannelKind) → slice_get c.dispatchers m ≡ Some d → base.board ≡ with_new_end c m d t kind → b ≡ c)
      (places : List (Option ℕ)) (places_are : places ≡ slice_set base.places (slot_of last.name) None) where
    board_before : b ≡ before.board
    board_before = board_by adds.0 where
      board_by : Adds before.board n s (kind_of p.wiring) (Ok e) k.board → b ≡ before.board
      board_by (e_is, (d, at, room, is)) = back before.board n d s (kind_of p.wiring) at (ap (λ (x : TheCore). x.board) same ∙ is)

    places_before : places ≡ before.places
    places_before =
        places_are
        ∙ ap (λ (q : WiredEnd). slice_set base.places (slot_of q.name) None) wired_ends_before.1
        ∙ ap (λ (x : TheCore). slice_set x.places (slot_of p.name) None) all
        ∙ set_twice before.places (slot_of p.name) (Some e) None
        ∙ cleared before.places p.name few new

    pub end_back : record base { board = b; wired_ends = wired_ends; places = places } ≡ before
    end_back =
        ap (λ (x : TheBoard). record base { board = x; wired_ends = wired_ends; places = places }) board_before
        ∙ ap (λ (x : List WiredEnd). record base { board = before.board; wired_ends = x; places = places }) wired_ends_before.0
        ∙ ap (λ (x : List (Option ℕ)). record base { board = before.board; wired_ends = before.wired_ends; places = x }) places_before
        ∙ ap (λ (x : TheCore). record x { board = before.board; wired_ends = before.wired_ends; places = before.places }) all
