-- What is known of a core stays while events change it.
use Rattle.std.proofs.Common.{◌≡◌, refl, sym, ap, ◌∙◌, ℕ, List, length, length-set, slice_get, slice_set, Option, Some, None, true, arith}
use Rattle.fl_base.specs.Given.{given}
use Rattle.fl_link.specs.Queue.{TheQueue}
use Rattle.fl_core.specs.BoardView.{TheBoard}
use Rattle.fl_monitor.specs.Monitors.{TheMonitor}
use Rattle.fl_core.specs.declared.wiring.EndWiring.{EndWiring}
use Rattle.fl_core.specs.declared.wiring.EndWiring.TheVariants.{Queues, Ring, Circuit}
use Rattle.fl_core.specs.declared.wiring.LinkSide.{LinkSide}
use Rattle.fl_core.specs.View.{TheCore, with_board, failed_at, with_failed}
use Rattle.fl_core.specs.Sound.{IsCore, IsWired, kinds_seated}

-- more links or arrival queues leave what is wired
pub wired_on : (k k2 : TheCore) (w : EndWiring) → length k2.link_sides ≡ length k.link_sides → length k2.arrivals ≡ length k.arrivals → IsWired k w → IsWired k2 w
wired_on k k2 (Queues out from) link_sides queues h = h
wired_on k k2 (Ring side) link_sides queues h = h
wired_on k k2 (Circuit link arrivals) link_sides queues h = (omega (arith, link_sides, h.0), omega (arith, queues, h.1))

-- the core with another board, monitor, link sides and arrival queues, each of which is as long
pub parts_kept : (k : TheCore) (b : TheBoard) (m : TheMonitor) (link_sides : List LinkSide) (arrivals : List TheQueue) → IsCore k
    → kinds_seated b.seats ≡ kinds_seated k.board.seats → length m.circuits.links ≡ length k.monitor.circuits.links → length link_sides ≡ length k.link_sides
    → length arrivals ≡ length k.arrivals
    → IsCore (record { board = b; monitor = m; wired_ends = k.wired_ends; places = k.places; link_sides = link_sides; arrivals = arrivals })
parts_kept k b m link_sides arrivals sound kinds links link_sides_are arrivals_are = record {
  kinds = kinds ∙ sound.kinds;
  link_sides = link_sides_are ∙ sound.link_sides ∙ sym links;
  slots = sound.slots;
  named = sound.named;
  placed = sound.placed;
  wired = λ e p at. wired_on k (record { board = b; monitor = m; wired_ends = k.wired_ends; places = k.places; link_sides = link_sides; arrivals = arrivals }) p.wiring link_sides_are arrivals_are (sound.wired e p at);
  apart = sound.apart;
}

pub board_kept : (k : TheCore) (b : TheBoard) → IsCore k → kinds_seated b.seats ≡ kinds_seated k.board.seats → IsCore (with_board k b)
board_kept k b sound kinds = parts_kept k b k.monitor k.link_sides k.arrivals sound kinds refl refl refl

-- what comes on a link has failed
failed_length : (link_sides : List LinkSide) (l : ℕ) (x : Option LinkSide) → length (given x link_sides λ link_side. slice_set link_sides l (record { side = link_side.side; failed = true })) ≡ length link_sides
failed_length link_sides l None = refl
failed_length link_sides l (Some link_side) = length-set link_sides l (record { side = link_side.side; failed = true })

pub failed_long : (link_sides lanes2 : List LinkSide) (l : ℕ) → lanes2 ≡ failed_at link_sides l → length lanes2 ≡ length link_sides
failed_long link_sides lanes2 l is = ap length is ∙ failed_length link_sides l (slice_get link_sides l)

pub failed_kept : (k : TheCore) (l : ℕ) (link_sides : List LinkSide) → IsCore k → link_sides ≡ failed_at k.link_sides l → IsCore (record k { link_sides = link_sides })
failed_kept k l link_sides sound is = parts_kept k k.board k.monitor link_sides k.arrivals sound refl refl (failed_long k.link_sides link_sides l is) refl

-- k is the core before, and base the same by its fields
pub failed_is : (k base : TheCore) → base ≡ k → (l : ℕ) (link_sides : List LinkSide) → link_sides ≡ failed_at base.link_sides l → record base { link_sides = link_sides } ≡ with_failed k l
failed_is k base same l link_sides is = ap (λ (ls : List LinkSide). record base { link_sides = ls }) is ∙ ap (λ (x : TheCore). with_failed x l) same
