-- What stands after an opening.
use Rattle.std.proofs.Common.{◌≡◌, ◌≢◌, refl, sym, ◌∙◌, ℕ, ◌+◌, ◌*◌, ◌<◌, ◌≤◌, ◌==◌, nat_lt, Bool, true, false, if◌then◌else◌, List, length, slice_set, slice_index_or, length-set, Option, Some, None, arith}
use Rattle.std.proofs.lemmas.List.{get_or-set_same, get_or-set_other}
use Rattle.std.proofs.lemmas.Bool.Decides.{nat_tests}
use Rattle.fl_base.specs.declared.identity.LinkId.{LinkId}
use Rattle.fl_base.specs.declared.identity.Circuit.{Circuit}
use Rattle.fl_base.specs.declared.identity.Side.TheVariants.{Client, Server}
use Rattle.fl_hop.specs.declared.entry.HopTarget.TheVariants.{Link, End}
use Rattle.fl_hop.specs.declared.entry.Hop.{Hop}
use Rattle.fl_hop.specs.declared.fault.HopFault.{HopFault}
use Rattle.fl_hop.specs.declared.fault.HopFault.TheVariants.{Misrouted, NoLink}
use Rattle.fl_hop.specs.Table.{TheCircuits, slot, hop_at, stands, with_hops, leading}
use Rattle.fl_hop.specs.Numbers.{next_own, next_due, after_opening, after_taking}
use Rattle.fl_hop.specs.Joined.{Sound, Leads}
use Rattle.fl_hop.specs.Openings.{is_next, if_used_up, opened, pass_fault, passed_on, arrive_fault, arrived}
use Rattle.fl_hop.proofs.Lists.{within}
use Rattle.fl_hop.proofs.Cells.{slot_once, cond_true, less_is}
use Rattle.fl_hop.proofs.Numbering.{small}
use Rattle.fl_hop.proofs.Counting.{next_is, due_is}
use Rattle.fl_hop.proofs.Laters.{next_test}

-- a number that fits has a place
record Fits (t : TheCircuits) (l n : ℕ) : Type 0 where
  few : n ≤ 2046
  there : slot l n < length t.hops

place_step : (l n links hops : ℕ) → hops ≡ 2047 * links → l < links → n ≤ 2046 → 2047 * l + n < hops
place_step l n links hops e less few = omega (arith, e, less, few)

own_fits : (t : TheCircuits) → Sound t → (l n : ℕ) → next_own t l ≡ Some n → Fits t l n
own_fits t sound l n e =
    let d = next_is t.core t.links l n e in
    let few = d.few in
    let p = small t.core d.link.neighbour.0 (d.link.opened + 1) n (omega arith) (d.link.opened, omega arith, sym d.is) in
    record { few = p.1; there = place_step l n (length t.links) (length t.hops) sound.whole (within t.links l d.link d.there) p.1 }

due_fits : (t : TheCircuits) → Sound t → (l n : ℕ) → next_due t l ≡ Some n → Fits t l n
due_fits t sound l n e =
    let d = due_is t.core t.links l n e in
    let few = d.few in
    let p = small d.link.neighbour.0 t.core (d.link.taken + 1) n (omega arith) (d.link.taken, omega arith, sym d.is) in
    record { few = p.1; there = place_step l n (length t.links) (length t.hops) sound.whole (within t.links l d.link d.there) p.1 }

-- what is put at a number stands there, also after something was put elsewhere
put_here : (t : TheCircuits) (hops : List (Option Hop)) (l n : ℕ) (x : Option Hop) → n ≤ 2046 → slot l n < length hops → hop_at (with_hops t (slice_set hops (slot l n) x)) l n ≡ x
put_here t hops l n x few there =
    cond_true (nat_lt n 2047) (slice_index_or (slice_set hops (slot l n) x) (slot l n) None) None (less_is n 2047 (omega (arith, few)))
    ∙ get_or-set_same hops (slot l n) x None there

put_first : (t : TheCircuits) (hops : List (Option Hop)) (l n i : ℕ) (x y : Option Hop) → n ≤ 2046 → slot l n < length hops → slot l n ≢ i → hop_at (with_hops t (slice_set (slice_set hops (slot l n) x) i y)) l n ≡ x
put_first t hops l n i x y few there other =
    cond_true (nat_lt n 2047) (slice_index_or (slice_set (slice_set hops (slot l n) x) i y) (slot l n) None) None (less_is n 2047 (omega (arith, few)))
    ∙ get_or-set_other (slice_set hops (slot l n) x) i (slot l n) y None other
    ∙ get_or-set_same hops (slot l n) x None there

pub opened_leads : (t : TheCircuits) (l : LinkId) (c : Circuit) (binding : ℕ) → Sound t → next_own t l.0 ≡ Some c.0 → Leads (opened t l c binding) l.0 c.0 binding (End (record { binding = binding; side = Client }))
opened_leads t l c binding sound next =
    let f = own_fits t sound l.0 c.0 next in
    record {
      answered = false;
      there = put_here (after_opening t l.0) t.hops l.0 c.0 (leading binding false (End (record { binding = binding; side = Client }))) f.few f.there;
    }

arrive_none : (a b : Bool) → (if a then (if b then Some Misrouted else None) else Some Misrouted) ≡ None → a ≡ true
arrive_none true b e = refl
arrive_none false b e = absurd (cc)

pub arrived_leads : (t : TheCircuits) (l : LinkId) (c : Circuit) (binding : ℕ) → Sound t → arrive_fault t l.0 c.0 binding ≡ None → Leads (arrived t l c binding) l.0 c.0 binding (End (record { binding = binding; side = Server }))
arrived_leads t l c binding sound none =
    let f = due_fits t sound l.0 c.0 (next_test (next_due t l.0) c.0 (arrive_none (is_next (next_due t l.0) c.0) (stands t binding) none)) in
    record {
      answered = false;
      there = put_here (after_taking t l.0) t.hops l.0 c.0 (leading binding false (End (record { binding = binding; side = Server }))) f.few f.there;
    }

pass_none : (a b same : Bool) (rest : Option HopFault) → (if a then (if b then Some Misrouted else if same then Some NoLink else rest) else Some Misrouted) ≡ None → (a ≡ true) × (same ≡ false)
pass_none true true same rest e = absurd (cc)
pass_none true false true rest e = absurd (cc)
pass_none true false false rest e = (refl, refl)
pass_none false b same rest e = absurd (cc)

unlike_links : (l m : ℕ) → (l == m) ≡ false → l ≢ m
unlike_links l m e = λ is. grind (arith, nat_tests, e, is)

pub passed_leads : (t : TheCircuits) (l m : LinkId) (c d : Circuit) (binding : ℕ) → Sound t → pass_fault t l.0 c.0 m.0 binding ≡ None → next_own t m.0 ≡ Some d.0
    → Leads (passed_on t l c m d binding) l.0 c.0 binding (Link m d) × Leads (passed_on t l c m d binding) m.0 d.0 binding (Link l c)
passed_leads t l m c d binding sound none next =
    let rest : Option HopFault = if nat_lt m.0 (length t.links) then if_used_up (next_own t m.0) else Some NoLink in
    let (due, two) = pass_none (is_next (next_due t l.0) c.0) (stands t binding) (l.0 == m.0) rest none in
    let f = due_fits t sound l.0 c.0 (next_test (next_due t l.0) c.0 due) in
    let g = own_fits t sound m.0 d.0 next in
    let u = after_opening (after_taking t l.0) m.0 in
    let x = leading binding false (Link m d) in
    let y = leading binding false (Link l c) in
    let apart : slot l.0 c.0 ≢ slot m.0 d.0 = λ e. unlike_links l.0 m.0 two (slot_once l.0 c.0 m.0 d.0 e f.few g.few).0 in
    let first = slice_set t.hops (slot l.0 c.0) x in
    let there = g.there in (
      record { answered = false; there = put_first u t.hops l.0 c.0 (slot m.0 d.0) x y f.few f.there apart },
      record { answered = false; there = put_here u first m.0 d.0 y g.few (omega (arith, length-set t.hops (slot l.0 c.0) x, there)) },
    )
