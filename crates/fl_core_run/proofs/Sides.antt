-- An event over a side of a ring, which is written back.
use Rattle.std.proofs.Common.{◌≡◌, refl, ap, ◌∙◌, ℕ, true, List, slice_set, Result, Ok, Err}
use Rattle.fl_base.specs.declared.fragment.Frag.{Frag}
use Rattle.fl_base.specs.declared.identity.LinkId.{LinkId}
use Rattle.std.specs.Prelude.{OnOk, IfErr}
use Rattle.fl_base.specs.Control.{bare}
use Rattle.fl_link.specs.Looks.{Look, placed, no_room, spent}
use Rattle.fl_link.specs.declared.fault.PutFault.{PutFault}
use Rattle.fl_link.specs.declared.fault.PutFault.TheVariants.{Full, Spent}
use Rattle.fl_core_run.specs.Inside.{OverSide, put_label}
use Rattle.fl_core.proofs.BoardPlaces.{set_same}
use Rattle.fl_core.specs.declared.answer.MonitorAnswer.{MonitorAnswer}
use Rattle.fl_core.specs.declared.fault.LinkReceiveFault.{LinkReceiveFault}
use Rattle.fl_core.specs.declared.fault.LinkReceiveFault.TheVariants as fault
use Rattle.fl_core.specs.Hearing.{Offers, HearsFrag, TakesHeard}
use Rattle.fl_core.specs.View.{TheCore}
use Rattle.fl_core_run.specs.Run.{TheRun}
use Rattle.fl_core_run.specs.LogEntries.{OnRing}
use Rattle.fl_core_run.specs.Steps.{lacks_to_hear}

module _ {S : Type 0} (s : TheRun S) (n : ℕ) (ts : List S) where
  pub on_ring : (Event : TheCore → S → TheCore → S → Type 0) (k : TheCore) → OverSide n s.rings (λ p q. Event s.core p k q) ts
      → OnRing n s Event (record s { core = k; rings = ts })
  on_ring Event k h = record {
    before = h.before;
    before_is = h.before_is;
    after = h.after;
    event = h.event;
    rest = ap (λ (xs : List S). record s { core = k; rings = xs }) h.rest;
  }

  -- over the side alone
  pub on_side : (Event : S → S → Type 0) → OverSide n s.rings Event ts → OnRing n s (λ k p k2 q. Event p q × (k2 ≡ k)) (record s { rings = ts })
  on_side Event h = record {
    before = h.before;
    before_is = h.before_is;
    after = h.after;
    event = (h.event, refl);
    rest = ap (λ (xs : List S). record s { rings = xs }) h.rest;
  }

  -- where nothing changed
  pub all_left : (Event : S → S → Type 0) (h : OverSide n s.rings Event ts) (k : TheCore) → (k ≡ s.core) × (h.after ≡ h.before)
      → record s { core = k; rings = ts } ≡ s
  all_left Event h k same =
      let rings : ts ≡ s.rings = h.rest ∙ ap (λ (x : S). slice_set s.rings n x) same.1 ∙ set_same s.rings n h.before h.before_is in
      ap (λ (c : TheCore). record s { core = c; rings = ts }) same.0 ∙ ap (λ (xs : List S). record s { rings = xs }) rings

-- a message for which memory is wanted is left, and the core as it was
pub unheard : {S : Type 0} (takes : S → Look → S → Type 0) (o : Offers) (l : LinkId) (frag : Frag) (k k2 : TheCore) (p q : S) (answer : Result MonitorAnswer LinkReceiveFault)
    → lacks_to_hear answer ≡ true → HearsFrag o l frag k answer k2 → TakesHeard takes frag p answer q → (k2 ≡ k) × (q ≡ p)
unheard takes o l frag k k2 p q (Err fault.Memory) is hears takes_heard = (hears, takes_heard)
unheard takes o l frag k k2 p q (Err fault.Failed) is hears takes_heard = absurd (cc)
unheard takes o l frag k k2 p q (Err fault.Misrouted) is hears takes_heard = absurd (cc)
unheard takes o l frag k k2 p q (Err fault.Marked) is hears takes_heard = absurd (cc)
unheard takes o l frag k k2 p q (Err (fault.Wire wrong)) is hears takes_heard = absurd (cc)
unheard takes o l frag k k2 p q (Ok told) is hears takes_heard = absurd (cc)

-- and it would be heard, and something is said then
pub unheard_last : (P : LinkReceiveFault → Type 0) (answer : Result MonitorAnswer LinkReceiveFault) → lacks_to_hear answer ≡ true → IfErr answer P → P fault.Memory
unheard_last P (Err fault.Memory) is h = h
unheard_last P (Err fault.Failed) is h = absurd (cc)
unheard_last P (Err fault.Misrouted) is h = absurd (cc)
unheard_last P (Err fault.Marked) is h = absurd (cc)
unheard_last P (Err (fault.Wire wrong)) is h = absurd (cc)
unheard_last P (Ok told) is h = absurd (cc)

-- what a put came to
pub put_by : {S : Type 0} (puts : S → Look → S → Type 0) (frag : Frag) (p q : S) (result : Result (Unit {0}) PutFault) → OnOk result (puts p (placed (bare frag)) q)
    → (result ≡ Err Full → puts p no_room q) → (result ≡ Err Spent → puts p spent q) → puts p (put_label frag result) q
put_by puts frag p q (Ok done) put full no_more = put
put_by puts frag p q (Err Full) put full no_more = full refl
put_by puts frag p q (Err Spent) put full no_more = no_more refl
