-- What is known of a core at any time.
use Rattle.std.specs.Prelude.{ℕ, ◌≡◌, ◌<◌, List, length, map, slice_get, Some}
use Rattle.fl_base.specs.declared.identity.EndId.{EndId}
use Rattle.fl_core.specs.BoardView.{TheEndAtChannel}
use Rattle.fl_core.specs.declared.kind.ChannelKind.{ChannelKind}
use Rattle.fl_core.specs.declared.wiring.EndWiring.{EndWiring}
use Rattle.fl_core.specs.declared.wiring.EndWiring.TheVariants.{Queues, Ring, Circuit}
use Rattle.fl_core.specs.declared.wiring.WiredEnd.{WiredEnd}
use Rattle.fl_core.specs.View.{TheCore, kind_of, arrivals_by, place_of}

-- how fragments come to each end, by the board, and by its wiring
abbrev pub kinds_seated : List TheEndAtChannel → List ChannelKind
kinds_seated seats = map (λ (s : TheEndAtChannel). s.kind) seats

abbrev pub kinds_wired : List WiredEnd → List ChannelKind
kinds_wired wired_ends = map (λ (p : WiredEnd). kind_of p.wiring) wired_ends

-- a circuit's link and arrival queue are there
abbrev pub IsWired : TheCore → EndWiring → Type 0
IsWired k (Queues out from) = Unit {0}
IsWired k (Ring side) = Unit {0}
IsWired k (Circuit link arrivals) = (link.0 < length k.link_sides) × (arrivals < length k.arrivals)

-- the end of this name is at place e
pub record IsPlaced (wired_ends : List WiredEnd) (name : EndId) (e : ℕ) : Type 0 where
  pub wired_end : WiredEnd
  pub wired_end_is : slice_get wired_ends e ≡ Some wired_end
  pub name_is : wired_end.name ≡ name

pub record IsCore (k : TheCore) : Type 0 where
  -- each end has its wiring, and the board knows how fragments come to it
  pub kinds : kinds_seated k.board.seats ≡ kinds_wired k.wired_ends
  pub link_sides : length k.link_sides ≡ length k.monitor.circuits.links
  pub slots : length k.places ≡ 2048
  -- each end is found by its name, and nothing else is
  pub named : (e : ℕ) (p : WiredEnd) → slice_get k.wired_ends e ≡ Some p → place_of k p.name ≡ Some e
  pub placed : (name : EndId) (e : ℕ) → place_of k name ≡ Some e → IsPlaced k.wired_ends name e
  pub wired : (e : ℕ) (p : WiredEnd) → slice_get k.wired_ends e ≡ Some p → IsWired k p.wiring
  -- no two ends have one arrival queue
  pub apart : (e f a : ℕ) (p q : WiredEnd) → slice_get k.wired_ends e ≡ Some p → slice_get k.wired_ends f ≡ Some q
      → arrivals_by p.wiring ≡ Some a → arrivals_by q.wiring ≡ Some a → e ≡ f
