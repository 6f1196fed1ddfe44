-- What a look at a link's first fragment finds, and what passing it on does, by the answer: all that a caller can say
-- that knows only the relations of its sides.
use Rattle.std.specs.Prelude.{ℕ, ◌≡◌, ◌≢◌, ◌⊎◌, ◌≤◌, ◌<◌, Some, None, Result, Ok, Err, true, false, List, length}
use Rattle.std.specs.Prelude.{slice_get, slice_set}
use Rattle.fl_base.specs.declared.fragment.Frag.{Frag}
use Rattle.fl_base.specs.declared.identity.LinkId.{LinkId}
use Rattle.fl_base.specs.declared.identity.Circuit.{Circuit}
use Rattle.fl_base.specs.declared.identity.EndId.{EndId}
use Rattle.fl_base.specs.Control.{circuit_of, is_ack_only, with_circuit, bare}
use Rattle.fl_link.specs.Looks.{Look, placed, no_room, spent, saw, saw_ack, found, found_ack, missed}
use Rattle.fl_hop.specs.declared.entry.HopTarget.{HopTarget}
use Rattle.fl_hop.specs.declared.entry.HopTarget.TheVariants.{Link, End}
use Rattle.fl_hop.specs.declared.forward.HopFront.{HopFront}
use Rattle.fl_hop.specs.declared.forward.HopFront.TheVariants.{Nothing, Acknowledged, Monitor, Goes}
use Rattle.fl_hop.specs.declared.forward.ForwardOutcome.{ForwardOutcome}
use Rattle.fl_hop.specs.declared.forward.ForwardOutcome.TheVariants.{Moved, Full, Spent}
use Rattle.fl_hop.specs.declared.forward.Forwarded.{Forwarded}
use Rattle.fl_hop.specs.declared.forward.Forwarded.TheVariants as is
use Rattle.fl_hop.specs.declared.fault.HopFault.{HopFault}
use Rattle.fl_hop.specs.declared.fault.HopFault.TheVariants.{Marked, Misrouted, NoLink}
use Rattle.fl_hop.specs.Table.{TheCircuits, hop_at}
use Rattle.fl_hop.specs.Later.{way_at}

-- ---- what is spoken of

-- a side, or a list of sides, before and after
pub record BeforeAfter (S : Type 0) : Type 0 where
  pub before : S
  pub after : S

-- the side that a fragment comes from, and the one that it goes onto
pub record ForwardSides (T P : Type 0) : Type 0 where
  pub from : BeforeAfter T
  pub onto : BeforeAfter P

-- a link of a core, as the core's table has it
pub record LinkOfTable : Type 0 where
  pub table : TheCircuits
  pub link : ℕ

-- a fragment that was to go a way, and what became of it
pub record ForwardedFrag : Type 0 where
  pub frag : Frag
  pub way : HopTarget
  pub outcome : ForwardOutcome

-- the circuit of a fragment that goes this way: the entry's number on a link, 0 at an end
abbrev pub number_to : HopTarget → ℕ
number_to (Link l c) = c.0
number_to (End e) = 0

-- the fragment as it goes this way
abbrev pub as_sent : HopTarget → Frag → Frag
as_sent way frag = with_circuit (number_to way) frag

-- a way on is over another link of this core, under a circuit's number
abbrev pub IsOther : TheCircuits → ℕ → HopTarget → Type 0
IsOther t l (Link m c) = (m.0 < length t.links) × (l ≢ m.0) × (c.0 ≢ 0) × (c.0 ≤ 2046)
IsOther t l (End e) = Unit {0}

-- ---- one fragment

-- a look, by its answer: what the side of the link that takes comes to; a fragment that was seen stands first there
abbrev pub Finds : {T : Type 0} → (T → Look → T → Type 0) → (T → Look)
    → LinkOfTable → Result HopFront HopFault → BeforeAfter T → Type 0
Finds takes front at (Ok Nothing) from = takes from.before missed from.after
Finds {T} takes front at (Ok Acknowledged) from = (seen : T) × takes from.before saw_ack seen × takes seen found_ack from.after
Finds takes front at (Ok (Monitor frag)) from =
    takes from.before (saw (bare frag)) from.after × (front from.after ≡ saw (bare frag)) × (circuit_of frag.control ≡ 0)
Finds takes front at (Ok (Goes frag way)) from =
    takes from.before (saw (bare frag)) from.after × (front from.after ≡ saw (bare frag)) × (circuit_of frag.control ≢ 0)
    × (way_at at.table at.link (circuit_of frag.control) ≡ Some way)
    × (is_ack_only (as_sent way frag) ≡ false) × IsOther at.table at.link way
Finds takes front at (Err Misrouted) from =
    (frag : Frag) × takes from.before (saw (bare frag)) from.after × (circuit_of frag.control ≢ 0)
    × (hop_at at.table at.link (circuit_of frag.control) ≡ None)
Finds takes front at (Err Marked) from =
    (frag : Frag) × (e : EndId) × takes from.before (saw (bare frag)) from.after × (circuit_of frag.control ≢ 0)
    × (way_at at.table at.link (circuit_of frag.control) ≡ Some (End e)) × (is_ack_only (with_circuit 0 frag) ≡ true)
Finds takes front at (Err _) from = ⊥

-- what the put of a fragment that was to pass on came to, by the outcome
abbrev pub put_label : ForwardOutcome → Frag → Look
put_label Moved frag = placed frag
put_label Full frag = no_room
put_label Spent frag = spent

-- and the side that it came from: it was taken where it was placed, else nothing was done there
abbrev pub Leaves : {T : Type 0} → (T → Look → T → Type 0) → ForwardOutcome → Frag → BeforeAfter T → Type 0
Leaves takes Moved frag from = takes from.before (found frag) from.after
Leaves takes Full frag from = from.after ≡ from.before
Leaves takes Spent frag from = from.after ≡ from.before

-- a fragment of a circuit was seen, and passed on with the number of its way, or left
pub record Passes {T P : Type 0} (takes : T → Look → T → Type 0) (puts : P → Look → P → Type 0) (front : T → Look)
    (at : LinkOfTable) (p : ForwardedFrag) (lent : ForwardSides T P) : Type 0 where
  pub seen : T
  pub sees : Finds takes front at (Ok (Goes p.frag p.way)) (record { before = lent.from.before; after = seen })
  pub left : Leaves takes p.outcome (bare p.frag) (record { before = seen; after = lent.from.after })
  pub put : puts lent.onto.before (put_label p.outcome (bare (as_sent p.way p.frag))) lent.onto.after

-- ---- over a list of sides

-- from which of them a fragment was to pass on, and to which, under which number
pub record Crossing : Type 0 where
  pub from : ℕ
  pub to : ℕ
  pub frag : Frag
  pub circuit : ℕ
  pub outcome : ForwardOutcome

-- of two sides one takes and the other puts
pub record Crosses {S : Type 0} (takes puts : S → Look → S → Type 0) (x : Crossing) (ss : BeforeAfter (List S)) : Type 0 where
  pub lent : ForwardSides S S
  pub there : slice_get ss.before x.from ≡ Some lent.from.before
  pub onward : slice_get ss.before x.to ≡ Some lent.onto.before
  pub left : Leaves takes x.outcome (bare x.frag) lent.from
  pub put : puts lent.onto.before (put_label x.outcome (bare (with_circuit x.circuit x.frag))) lent.onto.after
  pub rest : ss.after ≡ slice_set (slice_set ss.before x.from lent.from.after) x.to lent.onto.after

-- only the side of the link was changed, as a look with this answer does
pub record Looked {S : Type 0} (takes : S → Look → S → Type 0) (front : S → Look) (at : LinkOfTable)
    (found : Result HopFront HopFault) (ss : BeforeAfter (List S)) : Type 0 where
  pub before : S
  pub after : S
  pub there : slice_get ss.before at.link ≡ Some before
  pub sees : Finds takes front at found (record { before = before; after = after })
  pub rest : ss.after ≡ slice_set ss.before at.link after

-- a fragment of the link was looked at, and went on over another link, or stayed, by the outcome; no other side was changed
pub record WentOn {S : Type 0} (takes puts : S → Look → S → Type 0) (front : S → Look) (at : LinkOfTable)
    (outcome : ForwardOutcome) (ss : BeforeAfter (List S)) : Type 0 where
  pub frag : Frag
  pub link : LinkId
  pub circuit : Circuit
  pub lent : ForwardSides S S
  pub there : slice_get ss.before at.link ≡ Some lent.from.before
  pub onward : slice_get ss.before link.0 ≡ Some lent.onto.before
  pub passes : Passes takes puts front at (record { frag = frag; way = Link link circuit; outcome = outcome }) lent
  pub rest : ss.after ≡ slice_set (slice_set ss.before at.link lent.from.after) link.0 lent.onto.after

-- a forward over the sides of this core's links, by its answer
abbrev pub Forwards : {S : Type 0} → (S → Look → S → Type 0) → (S → Look → S → Type 0) → (S → Look)
    → LinkOfTable → Result Forwarded HopFault → BeforeAfter (List S) → Type 0
Forwards takes puts front at (Ok is.Nothing) ss = Looked takes front at (Ok Nothing) ss
Forwards takes puts front at (Ok is.Acknowledged) ss = Looked takes front at (Ok Acknowledged) ss
Forwards takes puts front at (Ok (is.Monitor frag)) ss = Looked takes front at (Ok (Monitor frag)) ss
Forwards takes puts front at (Ok (is.Arrives frag e)) ss = Looked takes front at (Ok (Goes frag (End e))) ss
Forwards takes puts front at (Ok (is.Onward outcome)) ss = WentOn takes puts front at outcome ss
Forwards takes puts front at (Err NoLink) ss =
    ((length ss.before ≢ length at.table.links) ⊎ (length at.table.links ≤ at.link)) × (ss.after ≡ ss.before)
Forwards takes puts front at (Err fault) ss = Looked takes front at (Err fault) ss
