-- A look at what stands first on a link: k is the core before, and base the same by its fields.
use Rattle.std.proofs.Common.{◌≡◌, refl, sym, ap, ◌∙◌, subst, Bool, true, false, ℕ, ◌<◌, List, length, slice_get, slice_index_or, Option, Some, None, Result, Ok, Err, arith}
use Rattle.std.proofs.lemmas.Option.{slice_get_read}
use Rattle.fl_base.specs.declared.fragment.Frag.{Frag}
use Rattle.fl_base.specs.declared.identity.LinkId.{LinkId}
use Rattle.fl_base.specs.declared.identity.Circuit.{Circuit}
use Rattle.fl_base.specs.Given.{given}
use Rattle.fl_link.specs.Looks.{Look}
use Rattle.fl_hop.specs.Table.{TheCircuits}
use Rattle.fl_hop.specs.declared.entry.HopTarget.TheVariants.{Link}
use Rattle.fl_hop.specs.declared.forward.HopFront.{HopFront}
use Rattle.fl_hop.specs.declared.forward.HopFront.TheVariants as first
use Rattle.fl_hop.specs.declared.fault.HopFault.{HopFault}
use Rattle.fl_hop.specs.declared.fault.HopFault.TheVariants as hop
use Rattle.fl_hop.specs.Forward.{Finds}
use Rattle.fl_core.specs.declared.wiring.LinkSide.{LinkSide}
use Rattle.fl_core.specs.declared.fault.LinkReceiveFault.{LinkReceiveFault}
use Rattle.fl_core.specs.View.{TheCore, with_failed}
use Rattle.fl_core.specs.Ends.{at_side}
use Rattle.fl_core.specs.Links.{IsLinkSide, Seen, GoesOver, LooksAhead, link_of, going}
use Rattle.fl_core.specs.Inside.{FailsFor}

-- the link side at a place that was read
link_side_at : (k base : TheCore) → base ≡ k → (i l : ℕ) → i ≡ l → l < length k.link_sides → (link_side : LinkSide) → link_side ≡ slice_index_or base.link_sides i link_side → slice_get k.link_sides l ≡ Some link_side
link_side_at k base same i l place within link_side read =
    slice_get_read k.link_sides (length k.link_sides) l link_side refl within
    (read ∙ ap (λ (n : ℕ). slice_index_or base.link_sides n link_side) place ∙ ap (λ (x : TheCore). slice_index_or x.link_sides l link_side) same)

pub is_link_side : (k base : TheCore) → base ≡ k → (i l : ℕ) → i ≡ l → l < length k.link_sides → (link_side : LinkSide) → link_side ≡ slice_index_or base.link_sides i link_side → (failed : Bool) → link_side.failed ≡ failed → IsLinkSide k l failed
is_link_side k base same i l place within link_side read failed is = record { link_side = link_side; link_side_is = link_side_at k base same i l place within link_side read; failed_is = is }

module _ {T : Type 0} (takes : T → Look → T → Type 0) (front : T → Look) (k base : TheCore) (same : base ≡ k) (l : ℕ) (link_side : IsLinkSide k l false) (table : TheCircuits)
    (table_is : table ≡ base.monitor.circuits) (p q : T) where
  pub seen : (found : Result HopFront HopFault) → Finds takes front (record { table = table; link = l }) found (record { before = p; after = q }) → Seen takes front (link_of k l) found p q
  seen found h = record {
    link_side = link_side;
    finds = subst (λ (t : TheCircuits). Finds takes front (record { table = t; link = l }) found (record { before = p; after = q })) (table_is ∙ ap (λ (x : TheCore). x.monitor.circuits) same) h;
  }

  -- the answer is one that was found, by the parts of its pattern
  found_so : (answer : Result HopFront HopFault) (field first : HopFront) → answer ≡ Ok field → field ≡ first → Finds takes front (record { table = table; link = l }) answer (record { before = p; after = q })
      → Finds takes front (record { table = table; link = l }) (Ok first) (record { before = p; after = q })
  found_so answer field first is same h =
      subst (λ (r : Result HopFront HopFault). Finds takes front (record { table = table; link = l }) r (record { before = p; after = q })) (is ∙ ap (λ (x : HopFront). let r : Result HopFront HopFault = Ok x in r) same) h

  pub seen_first : (answer : Result HopFront HopFault) (field first : HopFront) → answer ≡ Ok field → field ≡ first → Finds takes front (record { table = table; link = l }) answer (record { before = p; after = q })
      → Seen takes front (link_of k l) (Ok first) p q
  seen_first answer field first is same h = seen (Ok first) (found_so answer field first is same h)

  pub goes_over : (answer : Result HopFront HopFault) (field : HopFront) (frag : Frag) (next : LinkId) (circuit : Circuit) → answer ≡ Ok field → field ≡ first.Goes frag (Link next circuit)
      → Finds takes front (record { table = table; link = l }) answer (record { before = p; after = q }) → length base.link_sides ≡ length base.monitor.circuits.links
      → (i : ℕ) (on : LinkSide) → i ≡ next.0 → on ≡ slice_index_or base.link_sides i on → GoesOver takes front (link_of k l) (going frag on.side circuit) p q
  goes_over answer field frag next circuit is same_field h long i on place read =
      let found = found_so answer field (first.Goes frag (Link next circuit)) is same_field h in
      let below = found.5.0 in
      let links = ap (λ (t : TheCircuits). length t.links) table_is in
      let link_sides = ap (λ (x : TheCore). length x.link_sides) same in
      let within : next.0 < length k.link_sides = omega (arith, below, links, long, link_sides) in
      record {
        link = next;
        seen = seen (Ok (first.Goes frag (Link next circuit))) found;
        side_is = ap (λ (x : Option LinkSide). given x None λ (link_side : LinkSide). Some link_side.side) (link_side_at k base same i next.0 place within on read);
      }

  pub failed_so : (f : HopFault) (g : LinkReceiveFault) (k2 : TheCore) → Finds takes front (record { table = table; link = l }) (Err f) (record { before = p; after = q }) → FailsFor f g → k2 ≡ with_failed k l
      → LooksAhead takes front l (at_side k p) (Err g) (at_side k2 q)
  failed_so hop.Marked g k2 h is after = subst (λ (x : LinkReceiveFault). LooksAhead takes front l (at_side k p) (Err x) (at_side k2 q)) (sym is) (seen (Err hop.Marked) h, after)
  failed_so hop.Misrouted g k2 h is after = subst (λ (x : LinkReceiveFault). LooksAhead takes front l (at_side k p) (Err x) (at_side k2 q)) (sym is) (seen (Err hop.Misrouted) h, after)
  failed_so hop.NoLink g k2 h is after = absurd h
  failed_so hop.UsedUp g k2 h is after = absurd h
  failed_so hop.Limit g k2 h is after = absurd h
  failed_so hop.Memory g k2 h is after = absurd h
