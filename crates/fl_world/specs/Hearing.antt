-- Where memory may be wanting for a forward. Public promises rest on this file.
use Rattle.std.specs.Prelude.{ℕ, ◌≡◌, slice_get, Some, Result, Ok}
use Rattle.fl_base.specs.declared.fragment.Frag.{Frag}
use Rattle.fl_base.specs.declared.identity.LinkId.{LinkId}
use Rattle.fl_base.specs.Numbered.{link_id}
use Rattle.fl_core.specs.declared.answer.LinkFront.{LinkFront}
use Rattle.fl_core.specs.declared.answer.LinkFront.TheVariants.{Message}
use Rattle.fl_core.specs.declared.fault.LinkReceiveFault.{LinkReceiveFault}
use Rattle.fl_core.specs.declared.fault.LinkReceiveFault.TheVariants.{Memory}
use Rattle.fl_core.specs.Hearing.{HearsFragLast}
use Rattle.fl_core.specs.View.{TheCore}
use Rattle.fl_world_refines.specs.View.{TheWorld, Given}
use Rattle.fl_world_refines.specs.Lending.{OverSide}
use Rattle.fl_world_refines.specs.Linking.{LinkNumbers, link_side_to, offers_in, LooksWith}

-- where the fault is want of memory: core n would hear the message that this fragment says, which came over link l, and would have
-- something to say to a monitor then
abbrev pub WouldSay : ℕ → LinkId → Frag → LinkReceiveFault → TheWorld → Type 0
WouldSay n l frag fault w = (k : TheCore) × (slice_get w.cores n ≡ Some k) × HearsFragLast (offers_in w) l frag k fault

-- of what was seen to be ahead on a link, memory is wanting for such a message alone
abbrev pub SaysAhead : LinkFront → ℕ → LinkNumbers → TheWorld → Type 0
SaysAhead (Message frag) n at w = WouldSay n (link_id at.link) frag Memory w
SaysAhead ahead n at w = ⊥

-- core n looks at a link, and such a message stands first there
pub record FindsMessage (n : ℕ) (at : LinkNumbers) (w : TheWorld) : Type 0 where
  pub frag : Frag
  pub looked : TheWorld
  pub looks : OverSide w n at.side (LooksWith at.link (Ok (Message frag))) looked
  pub says : WouldSay n (link_id at.link) frag Memory looked

-- on the link that a core has to this neighbour
abbrev pub WantsToSay : ℕ → ℕ → TheWorld → Type 0
WantsToSay core neighbour w = Given (link_side_to w core neighbour) ⊥ λ at. FindsMessage core at w
