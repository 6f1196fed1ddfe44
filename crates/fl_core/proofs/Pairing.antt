-- Both ends of a binding, one after the other: k is the core before, and k2 the one with the first of them.
use Rattle.std.proofs.Common.{◌≡◌, ◌≢◌, ap, ◌∙◌, subst, sym, ℕ, ◌<◌, length, Some, None, Ok, Err, length-set, arith}
use Rattle.fl_base.specs.declared.identity.EndId.{EndId}
use Rattle.fl_endpoint.specs.View.{TheEnd}
use Rattle.fl_core.specs.declared.kind.ChannelKind.{ChannelKind}
use Rattle.fl_core.specs.declared.board_fault.BoardFault.{BoardFault}
use Rattle.fl_core.specs.BoardView.{TheBoard}
use Rattle.fl_core.specs.BoardSound.{IsBoard}
use Rattle.fl_core.specs.BoardEvents.{Adds}
use Rattle.fl_core.specs.declared.wiring.WiredEnd.{WiredEnd}
use Rattle.fl_core.specs.View.{TheCore, slot_of, place_of, client_of, server_of}
use Rattle.fl_core.specs.Sound.{IsCore}
use Rattle.fl_core.specs.Making.{AddsWiredEnd, HasNewEnd, TakesBackEnd}
use Rattle.fl_core.proofs.Named.{put_elsewhere}

as_many : (b c : TheBoard) (n e : ℕ) (s : TheEnd) (kind : ChannelKind) → Adds b n s kind (Ok e) c → length c.dispatchers ≡ length b.dispatchers
as_many b c n e s kind (e_is, (d, at, few, is)) = ap (λ (x : TheBoard). length x.dispatchers) is ∙ length-set b.dispatchers n _

pub apart : (binding : ℕ) → slot_of (server_of binding) ≢ slot_of (client_of binding)
apart binding h = omega (arith, h)

module _ (k k2 : TheCore) (n : ℕ) (s : TheEnd) (p : WiredEnd) (e : ℕ) (adds : AddsWiredEnd n s p k (Ok e) k2) where
  pub still_there : (m : ℕ) → m < length k.board.dispatchers → m < length k2.board.dispatchers
  still_there m below = let same = as_many k.board k2.board n e s _ adds.0 in omega (arith, below, same)

  pub still_new : (name : EndId) → slot_of name ≢ slot_of p.name → place_of k name ≡ None → place_of k2 name ≡ None
  still_new name other none = ap (λ (x : TheCore). place_of x name) adds.1 ∙ put_elsewhere k.places p.name name (Some e) other ∙ none

  -- where the second is refused the first can be taken back
  module _ (k3 : TheCore) (m : ℕ) (t : TheEnd) (q : WiredEnd) (fault : BoardFault) (refused : AddsWiredEnd m t q k2 (Err fault) k3) (few : p.name.binding < 1024) (new : place_of k p.name ≡ None) where
    pub has_new : IsCore k → IsBoard k.board → HasNewEnd k3
    has_new sound board = record {
      before = k;
      sound = sound;
      board = board;
      dispatcher = n;
      end = s;
      wired_end = p;
      few = few;
      new = new;
      place = e;
      adds = subst (λ (x : TheCore). AddsWiredEnd n s p k (Ok e) x) (sym refused.1) adds;
    }

    pub none_left : (k4 : TheCore) → TakesBackEnd k3 k4 → k4 ≡ k
    none_left k4 back = back k n s p e few new (subst (λ (x : TheCore). AddsWiredEnd n s p k (Ok e) x) (sym refused.1) adds)
