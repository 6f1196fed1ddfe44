use Rattle.std.proofs.Common.{◌≡◌, refl, sym, ap, subst, ◌∙◌, inl, inr, false, List, option_map}
use Rattle.fl_base.specs.declared.identity.Circuit.{Circuit}
use Rattle.fl_hop.specs.declared.entry.Entry.{Entry}
use Rattle.fl_hop.specs.declared.entry.HopTarget.TheVariants.{Link}
use Rattle.fl_hop.specs.declared.links.LinkState.{LinkState}
use Rattle.fl_hop.specs.Numbers.{count_opening, count_taking}
use Rattle.fl_hop.specs.Openings.{passed_on}
use Rattle.fl_hop.specs.Later.{Later}
use Rattle.fl_hop.specs.Slots.{table_of, SlotsKept}
use Rattle.fl_hop.proofs.Lists.{within}
use Rattle.fl_hop.proofs.Counting.{Due, Next, due_few, next_few, kept_taking, kept_opening, grown_taking, grown_opening, grown_on, taken_now, opened_now, taken_stays, next_stays}
use Rattle.fl_hop.proofs.Laters.{due_at, next_at, due_fresh, next_fresh, none_stands}
use Rattle.fl_hop.proofs.Opening.{Opened, opened_so, same_slots}
use Rattle.fl_hop.proofs.Refusals.{on_link, told_none, told_some, if_told, pass_due}
use Rattle.fl_hop.proofs.circuits.Circuits.pass_on.Goals as goal

due : (c : goal.After-count_taking-arg-1) → Due c.self.inside.core.0 c.self.inside.links.items c.args.link.0 c.args.circuit.0
due c = due_at c.self.inside.core.0 c.self.inside.links.items c.self.inside.cells.items c.self.inside.entries c.args.self.now c.self.view_is c.args.link.0 c.args.circuit.0 c.is_next.result c.is_next.ensures.next c.if-not-is_next.false

pub count_taking-requires-clause-there : goal.count_taking-requires-clause-there
count_taking-requires-clause-there c = let d = due c in within c.self.inside.links.items c.args.link.0 d.link d.there

pub count_taking-requires-clause-few : goal.count_taking-requires-clause-few
count_taking-requires-clause-few c = due_few c.self.inside.core.0 c.self.inside.links.items c.args.link.0 c.args.circuit.0 (due c)

next : (c : goal.After-count_opening-arg-1) → Next c.self.inside.core.0 c.count_taking.new.links.items c.args.onward.0 c.in-Some.next.0
next c =
    let d = due_at c.self.inside.core.0 c.self.inside.links.items c.self.inside.cells.items c.self.inside.entries c.args.self.now c.self.view_is c.args.link.0 c.args.circuit.0 c.is_next.result c.is_next.ensures.next c.if-not-is_next.false in
    let x = next_at c.self.inside.core.0 c.self.inside.links.items c.self.inside.cells.items c.self.inside.entries c.args.self.now c.self.view_is c.args.onward.0 c.in-Some.next.0 (sym c.next.ensures.next ∙ ap (option_map (λ (y : Circuit). y.0)) c.in-Some.is) in
    subst (λ v. Next c.self.inside.core.0 v c.args.onward.0 c.in-Some.next.0) (sym c.count_taking.ensures)
    (next_stays c.self.inside.core.0 c.self.inside.links.items c.args.link.0 c.args.circuit.0 c.args.onward.0 c.in-Some.next.0 d c.if-link-onward.false x)

pub count_opening-requires-clause-there : goal.count_opening-requires-clause-there
count_opening-requires-clause-there c = let x = next c in within c.count_taking.new.links.items c.args.onward.0 x.link x.there

pub count_opening-requires-clause-few : goal.count_opening-requires-clause-few
count_opening-requires-clause-few c = next_few c.self.inside.core.0 c.count_taking.new.links.items c.args.onward.0 c.in-Some.next.0 (next c)

pub invariant_of-self : goal.invariant_of-self
invariant_of-self c = (same_slots c.self.inside.core.0 c.self.inside.links.items c.self.inside.cells.items c.enter.new.cells.items c.self.inside.entries c.enter.new.entries c.self.invariant c.in_default-enter.ensures.cells c.in_default-enter.ensures.entries).0

entry : (c : goal.After-count_opening) → Entry
entry c = record { binding = c.args.binding; client = Link c.args.link c.args.circuit; server = Link c.args.onward c.in-Some.next; answered = false }

more : (c : goal.After-count_opening) → List LinkState
more c = count_opening (count_taking c.self.inside.links.items c.args.link.0) c.args.onward.0

so : (c : goal.After-count_opening) → Opened c.self.inside.core.0 c.self.inside.links.items (more c) c.self.inside.cells.items c.self.inside.entries (entry c) c.enter.new.cells.items c.enter.new.entries
unfolding entry more
so c =
    let k = c.self.invariant in
    let core = c.self.inside.core.0 in
    let links = c.self.inside.links.items in
    let cells = c.self.inside.cells.items in
    let s = c.self.inside.entries in
    let l = c.args.link.0 in
    let n = c.args.circuit.0 in
    let m = c.args.onward.0 in
    let i = c.in-Some.next.0 in
    let d = due_at c.self.inside.core.0 c.self.inside.links.items c.self.inside.cells.items c.self.inside.entries c.args.self.now c.self.view_is l n c.is_next.result c.is_next.ensures.next c.if-not-is_next.false in
    let x = next_at c.self.inside.core.0 c.self.inside.links.items c.self.inside.cells.items c.self.inside.entries c.args.self.now c.self.view_is m i (sym c.next.ensures.next ∙ ap (option_map (λ (y : Circuit). y.0)) c.in-Some.is) in
    let y = next_stays core links l n m i d c.if-link-onward.false x in
    let k1 = kept_taking core links cells s k l n d in
    let g1 = grown_taking core links cells s k l n d in
    let g2 = grown_opening core (count_taking links l) cells s k1 m i y in
    opened_so core links (count_opening (count_taking links l) m) cells s (entry c) c.enter.new.cells.items c.enter.new.entries
    k
    (kept_opening core (count_taking links l) cells s k1 m i y)
    (grown_on links (count_taking links l) (count_opening (count_taking links l) m) g1 g2)
    c.in-Ok.ensures.entered
    (due_fresh core links cells s k c.args.link c.args.circuit d)
    (next_fresh core links cells s k c.args.onward c.in-Some.next x)
    c.if-link-onward.false
    (taken_stays core (count_taking links l) (count_opening (count_taking links l) m) g2 l n (taken_now core links cells s k l n d))
    (opened_now core (count_taking links l) cells s k1 m i y)
    (none_stands (table_of core links cells s) c.args.self.now c.self.view_is c.args.binding c.stands.result c.stands.ensures.stands c.if-stands.false)

counted : (c : goal.After-count_opening) → c.count_opening.new.links.items ≡ more c
unfolding more
counted c = c.count_opening.ensures ∙ ap (λ v. count_opening v c.args.onward.0) c.count_taking.ensures

pub invariant_of-self-2 : goal.invariant_of-self-2
unfolding entry
invariant_of-self-2 c =
    let x = so c in
    subst (λ v. SlotsKept c.self.inside.core.0 v c.enter.new.cells.items c.enter.new.entries) (sym (counted c)) x.kept

pub returns-clause-passed_on : goal.returns-clause-passed_on
unfolding entry more
returns-clause-passed_on c =
    let x = so c in
    ap (λ v. table_of c.self.inside.core.0 v c.enter.new.cells.items c.enter.new.entries) (counted c)
    ∙ x.view
    ∙ ap (λ t. passed_on t c.args.link c.args.circuit c.args.onward c.in-Some.next c.args.binding) c.self.view_is

pub returns-clause-later : goal.returns-clause-later
unfolding entry
returns-clause-later c =
    let x = so c in
    subst (λ t. Later t (table_of c.self.inside.core.0 c.count_opening.new.links.items c.enter.new.cells.items c.enter.new.entries)) c.self.view_is
    (subst (λ v. Later (table_of c.self.inside.core.0 c.self.inside.links.items c.self.inside.cells.items c.self.inside.entries) (table_of c.self.inside.core.0 v c.enter.new.cells.items c.enter.new.entries)) (sym (counted c))
    x.later)

pub returns-in_default-clause-refused : goal.returns-in_default-clause-refused
returns-in_default-clause-refused c =
    inl (pass_due c.args.self.now c.args.link.0 c.args.circuit.0 c.args.onward.0 c.args.binding c.is_next.result c.stands.result c.is_next.ensures.next c.if-not-is_next.false
    c.stands.ensures.stands c.if-stands.false c.if-link-onward.false
    (on_link c.self.inside.core.0 c.self.inside.links.items c.self.inside.cells.items c.self.inside.entries c.args.self.now c.self.view_is c.args.onward.0 c.from.result c.len.result _ c.from.ensures c.len.ensures c.self.inside.links.ok.0 c.if-from-len.false)
    ∙ told_none c.next.result _ c.next.ensures.next c.in_default.is)

pub returns-in_default-enter-clause-refused : goal.returns-in_default-enter-clause-refused
returns-in_default-enter-clause-refused c =
    inr (
      pass_due c.args.self.now c.args.link.0 c.args.circuit.0 c.args.onward.0 c.args.binding c.is_next.result c.stands.result c.is_next.ensures.next c.if-not-is_next.false
          c.stands.ensures.stands c.if-stands.false c.if-link-onward.false
          (on_link c.self.inside.core.0 c.self.inside.links.items c.self.inside.cells.items c.self.inside.entries c.args.self.now c.self.view_is c.args.onward.0 c.from.result c.len.result _ c.from.ensures c.len.ensures c.self.inside.links.ok.0 c.if-from-len.false)
          ∙ if_told _ c.in-Some.next.0 (told_some c.next.result _ c.in-Some.next c.next.ensures.next c.in-Some.is),
      refl,
    )

pub returns-in_default-enter-clause-kept : goal.returns-in_default-enter-clause-kept
returns-in_default-enter-clause-kept c =
    (same_slots c.self.inside.core.0 c.self.inside.links.items c.self.inside.cells.items c.enter.new.cells.items c.self.inside.entries c.enter.new.entries c.self.invariant c.in_default-enter.ensures.cells c.in_default-enter.ensures.entries).1
    ∙ c.self.view_is

pub returns-clause-may : goal.returns-clause-may
returns-clause-may c =
    pass_due c.args.self.now c.args.link.0 c.args.circuit.0 c.args.onward.0 c.args.binding c.is_next.result c.stands.result c.is_next.ensures.next c.if-not-is_next.false
    c.stands.ensures.stands c.if-stands.false c.if-link-onward.false
    (on_link c.self.inside.core.0 c.self.inside.links.items c.self.inside.cells.items c.self.inside.entries c.args.self.now c.self.view_is c.args.onward.0 c.from.result c.len.result _ c.from.ensures c.len.ensures c.self.inside.links.ok.0 c.if-from-len.false)
    ∙ if_told _ c.in-Some.next.0 (told_some c.next.result _ c.in-Some.next c.next.ensures.next c.in-Some.is)

pub returns-clause-next : goal.returns-clause-next
returns-clause-next c = told_some c.next.result _ c.in-Some.next c.next.ensures.next c.in-Some.is
