-- A core under the world's numbers for its sides and queues: what it names is moved, and all else is as it was.
use Rattle.std.proofs.Common.{◌≡◌, refl, ◌∙◌, ap, ℕ, zero, suc, List, [], ◌∷◌, ◌++◌, length, map, slice_get, Option, Some, None}
use Rattle.std.specs.Prelude.{Result, Ok, Err}
use Rattle.fl_base.specs.declared.identity.EndId.{EndId}
use Rattle.fl_base.specs.declared.identity.LinkId.{LinkId}
use Rattle.fl_base.specs.Given.{given}
use Rattle.fl_endpoint.specs.declared.fault.EndFault.{EndFault}
use Rattle.fl_endpoint.specs.declared.answer.WriteAnswer.{WriteAnswer}
use Rattle.fl_endpoint.specs.declared.answer.WriteAnswer.TheVariants.{Written, Full, Nothing}
use Rattle.fl_core.specs.declared.wiring.EndWiring.{EndWiring}
use Rattle.fl_core.specs.declared.wiring.EndWiring.TheVariants.{Queues, Ring, Circuit}
use Rattle.fl_core.specs.declared.wiring.Inlet.{Inlet}
use Rattle.fl_core.specs.declared.wiring.Inlet.TheVariants as inlet
use Rattle.fl_core.specs.declared.wiring.LinkSide.{LinkSide}
use Rattle.fl_core.specs.declared.wiring.Outlet.{Outlet}
use Rattle.fl_core.specs.declared.wiring.Outlet.TheVariants as outlet
use Rattle.fl_core.specs.declared.wiring.WiredEnd.{WiredEnd}
use Rattle.fl_core.specs.BoardView.{TheBoard}
use Rattle.fl_core.specs.Ends.{woken_by}
use Rattle.fl_core.specs.Numbers.{moved, moved_link_side, moved_wiring, moved_wired_end, renumbered}
use Rattle.fl_core.specs.View.{TheCore, side_of_link, outlet_by, outlet_of, inlet_by, inlet_of, arrivals_by, arrivals_of, place_of, arriving, arriving_at, joined_by, joined_to, circuit_wired_end, with_circuit_wired_end}
use Rattle.fl_core.proofs.Numbering.{renumbered_kept}
use Rattle.fl_world_refines.specs.View.{IsWhole}

-- what stands in a list of images
pub get_image : {X Y : Type 0} (f : X → Y) (xs : List X) (n : ℕ) → slice_get (map f xs) n ≡ given (slice_get xs n) None (λ (x : X). Some (f x))
get_image f [] n = refl
get_image f (x ∷ xs) zero = refl
get_image f (x ∷ xs) (suc n) = get_image f xs n

module _ (sides queues : List ℕ) (k : TheCore) where
  abbrev here : TheCore
  here = renumbered sides queues k

  abbrev wired : WiredEnd → WiredEnd
  wired p = moved_wired_end sides queues p

  pub still_whole : IsWhole k → IsWhole here
  still_whole h = record { core = renumbered_kept sides queues k h.core; board = h.board; outboxes = h.outboxes }

  -- ---- where links and ends put

  pub side_moved : (l : ℕ) → side_of_link here.link_sides l ≡ given (side_of_link k.link_sides l) None (λ n. Some (moved sides n))
  side_moved l = ap (λ (o : Option LinkSide). given o None (λ x. Some x.side)) (get_image (moved_link_side sides) k.link_sides l) ∙ by (slice_get k.link_sides l)
    where
      by : (o : Option LinkSide) → given (given o None (λ (x : LinkSide). Some (moved_link_side sides x))) None (λ x. Some x.side)
          ≡ given (given o None (λ (x : LinkSide). Some x.side)) None (λ n. Some (moved sides n))
      by None = refl
      by (Some x) = refl

  abbrev pub moved_outlet : Outlet → Outlet
  moved_outlet (outlet.Queue n) = outlet.Queue (moved queues n)
  moved_outlet (outlet.Side n) = outlet.Side (moved sides n)

  outlet_wired : (w : EndWiring) → outlet_by here.link_sides (moved_wiring sides queues w)
      ≡ given (outlet_by k.link_sides w) None (λ o. Some (moved_outlet o))
  outlet_wired (Queues out from) = refl
  outlet_wired (Ring side) = refl
  outlet_wired (Circuit link arrivals) =
      ap (λ (o : Option ℕ). given o None (λ side. Some (outlet.Side side))) (side_moved link.0) ∙ by (side_of_link k.link_sides link.0)
    where
      by : (o : Option ℕ) → given (given o None (λ n. Some (moved sides n))) None (λ side. Some (outlet.Side side))
          ≡ given (given o None (λ side. Some (outlet.Side side))) None (λ u. Some (moved_outlet u))
      by None = refl
      by (Some n) = refl

  pub outlet_moved : (e : ℕ) → outlet_of here e ≡ given (outlet_of k e) None (λ o. Some (moved_outlet o))
  outlet_moved e =
      ap (λ (o : Option WiredEnd). given o None (λ p. outlet_by here.link_sides p.wiring)) (get_image wired k.wired_ends e) ∙ by (slice_get k.wired_ends e)
    where
      by : (o : Option WiredEnd) → given (given o None (λ (p : WiredEnd). Some (wired p))) None (λ p. outlet_by here.link_sides p.wiring)
          ≡ given (given o None (λ (p : WiredEnd). outlet_by k.link_sides p.wiring)) None (λ u. Some (moved_outlet u))
      by None = refl
      by (Some p) = outlet_wired p.wiring

  pub outlet_is : (e : ℕ) (out : Outlet) → outlet_of k e ≡ Some out → outlet_of here e ≡ Some (moved_outlet out)
  outlet_is e out q = outlet_moved e ∙ ap (λ (o : Option Outlet). given o None (λ u. Some (moved_outlet u))) q

  -- ---- where ends take from

  abbrev pub moved_inlet : Inlet → Inlet
  moved_inlet (inlet.Queue n) = inlet.Queue (moved queues n)
  moved_inlet (inlet.Side n) = inlet.Side (moved sides n)
  moved_inlet inlet.Arrivals = inlet.Arrivals

  inlet_wired : (w : EndWiring) → inlet_by (moved_wiring sides queues w) ≡ moved_inlet (inlet_by w)
  inlet_wired (Queues out from) = refl
  inlet_wired (Ring side) = refl
  inlet_wired (Circuit link arrivals) = refl

  inlet_moved : (e : ℕ) → inlet_of here e ≡ given (inlet_of k e) None (λ o. Some (moved_inlet o))
  inlet_moved e = ap (λ (o : Option WiredEnd). given o None (λ p. Some (inlet_by p.wiring))) (get_image wired k.wired_ends e) ∙ by (slice_get k.wired_ends e)
    where
      by : (o : Option WiredEnd) → given (given o None (λ (p : WiredEnd). Some (wired p))) None (λ p. Some (inlet_by p.wiring))
          ≡ given (given o None (λ (p : WiredEnd). Some (inlet_by p.wiring))) None (λ u. Some (moved_inlet u))
      by None = refl
      by (Some p) = ap (λ (i : Inlet). Some i) (inlet_wired p.wiring)

  pub inlet_is : (e : ℕ) (from : Inlet) → inlet_of k e ≡ Some from → inlet_of here e ≡ Some (moved_inlet from)
  inlet_is e from q = inlet_moved e ∙ ap (λ (o : Option Inlet). given o None (λ u. Some (moved_inlet u))) q

  arrivals_wired : (w : EndWiring) → arrivals_by (moved_wiring sides queues w) ≡ arrivals_by w
  arrivals_wired (Queues out from) = refl
  arrivals_wired (Ring side) = refl
  arrivals_wired (Circuit link arrivals) = refl

  pub arrivals_same : (e : ℕ) → arrivals_of here e ≡ arrivals_of k e
  arrivals_same e = ap (λ (o : Option WiredEnd). given o None (λ p. arrivals_by p.wiring)) (get_image wired k.wired_ends e) ∙ by (slice_get k.wired_ends e)
    where
      by : (o : Option WiredEnd) → given (given o None (λ (p : WiredEnd). Some (wired p))) None (λ p. arrivals_by p.wiring)
          ≡ given o None (λ (p : WiredEnd). arrivals_by p.wiring)
      by None = refl
      by (Some p) = arrivals_wired p.wiring

  pub arriving_same : (name : EndId) → arriving_at here name ≡ arriving_at k name
  arriving_same name = by (place_of k name)
    where
      by : (o : Option ℕ) → given o None (λ e. given (arrivals_of here e) None λ a. Some (arriving e a))
          ≡ given o None (λ e. given (arrivals_of k e) None λ a. Some (arriving e a))
      by None = refl
      by (Some e) = ap (λ (o : Option ℕ). given o None λ a. Some (arriving e a)) (arrivals_same e)

  -- ---- who learns of a write

  joined_wired : (p : WiredEnd) (w : EndWiring) → joined_by here p.name (moved_wiring sides queues w) ≡ joined_by k p.name w
  joined_wired p (Queues out from) = refl
  joined_wired p (Ring side) = refl
  joined_wired p (Circuit link arrivals) = refl

  joined_same : (e : ℕ) → joined_to here e ≡ joined_to k e
  joined_same e = ap (λ (o : Option WiredEnd). given o None (λ p. joined_by here p.name p.wiring)) (get_image wired k.wired_ends e) ∙ by (slice_get k.wired_ends e)
    where
      by : (o : Option WiredEnd) → given (given o None (λ (p : WiredEnd). Some (wired p))) None (λ p. joined_by here p.name p.wiring)
          ≡ given o None (λ (p : WiredEnd). joined_by k p.name p.wiring)
      by None = refl
      by (Some p) = joined_wired p p.wiring

  pub woken_same : (e : ℕ) (r : Result WriteAnswer EndFault) → woken_by here e r ≡ woken_by k e r
  woken_same e (Ok (Written number count)) = joined_same e
  woken_same e (Ok Full) = refl
  woken_same e (Ok Nothing) = refl
  woken_same e (Err fault) = refl

-- ---- an end of a circuit more

map_push : {X Y : Type 0} (f : X → Y) (xs : List X) (x : X) → map f (xs ++ x ∷ []) ≡ map f xs ++ f x ∷ []
map_push f [] x = refl
map_push f (y ∷ xs) x = ap (λ zs. f y ∷ zs) (map_push f xs x)

pub wired_more : (sides queues : List ℕ) (k : TheCore) (b : TheBoard) (e : ℕ) (name : EndId) (l : LinkId)
    → renumbered sides queues (with_circuit_wired_end k b e name l) ≡ with_circuit_wired_end (renumbered sides queues k) b e name l
wired_more sides queues k b e name l =
    ap (λ (ws : List WiredEnd). record (with_circuit_wired_end (renumbered sides queues k) b e name l) { wired_ends = ws })
    (map_push (moved_wired_end sides queues) k.wired_ends (circuit_wired_end name l (length k.arrivals)))
