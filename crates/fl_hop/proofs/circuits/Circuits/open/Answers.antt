use Rattle.std.proofs.Common.{refl, sym, ap, subst, ◌∙◌, inl, inr, false, option_map}
use Rattle.fl_base.specs.declared.identity.Circuit.{Circuit}
use Rattle.fl_base.specs.declared.identity.Side.TheVariants.{Client}
use Rattle.fl_hop.specs.declared.entry.Entry.{Entry}
use Rattle.fl_hop.specs.declared.entry.HopTarget.TheVariants.{Link, End}
use Rattle.fl_hop.specs.Numbers.{count_opening}
use Rattle.fl_hop.specs.Openings.{opened}
use Rattle.fl_hop.specs.Later.{Later}
use Rattle.fl_hop.specs.Slots.{table_of, SlotsKept}
use Rattle.fl_hop.proofs.Counting.{Next, next_few, kept_opening, grown_opening, opened_now}
use Rattle.fl_hop.proofs.Laters.{next_at, next_fresh, none_stands}
use Rattle.fl_hop.proofs.Opening.{Opened, opened_so, same_slots}
use Rattle.fl_hop.proofs.Refusals.{on_link, off_link, told_none, told_some, if_told, open_nowhere, open_stands, open_due}
use Rattle.fl_hop.proofs.circuits.Circuits.open.Goals as goal

next : (c : goal.After-count_opening-arg-1) → Next c.self.inside.core.0 c.self.inside.links.items c.args.link.0 c.in-Some.circuit.0
next c = next_at c.self.inside.core.0 c.self.inside.links.items c.self.inside.cells.items c.self.inside.entries c.args.self.now c.self.view_is c.args.link.0 c.in-Some.circuit.0 (sym c.next.ensures.next ∙ ap (option_map (λ (x : Circuit). x.0)) c.in-Some.is)

pub count_opening-requires-clause-few : goal.count_opening-requires-clause-few
count_opening-requires-clause-few c = next_few c.self.inside.core.0 c.self.inside.links.items c.args.link.0 c.in-Some.circuit.0 (next c)

pub invariant_of-self : goal.invariant_of-self
invariant_of-self c = (same_slots c.self.inside.core.0 c.self.inside.links.items c.self.inside.cells.items c.enter.new.cells.items c.self.inside.entries c.enter.new.entries c.self.invariant c.in_default-enter.ensures.cells c.in_default-enter.ensures.entries).0

entry : (c : goal.After-count_opening) → Entry
entry c = record { binding = c.args.binding; client = End (record { binding = c.args.binding; side = Client }); server = Link c.args.link c.in-Some.circuit; answered = false }

so : (c : goal.After-count_opening) → Opened c.self.inside.core.0 c.self.inside.links.items (count_opening c.self.inside.links.items c.args.link.0) c.self.inside.cells.items c.self.inside.entries (entry c) c.enter.new.cells.items c.enter.new.entries
unfolding entry
so c =
    let k = c.self.invariant in
    let d = next_at c.self.inside.core.0 c.self.inside.links.items c.self.inside.cells.items c.self.inside.entries c.args.self.now c.self.view_is c.args.link.0 c.in-Some.circuit.0 (sym c.next.ensures.next ∙ ap (option_map (λ (x : Circuit). x.0)) c.in-Some.is) in
    opened_so c.self.inside.core.0 c.self.inside.links.items (count_opening c.self.inside.links.items c.args.link.0) c.self.inside.cells.items c.self.inside.entries (entry c) c.enter.new.cells.items c.enter.new.entries
    k
    (kept_opening c.self.inside.core.0 c.self.inside.links.items c.self.inside.cells.items c.self.inside.entries k c.args.link.0 c.in-Some.circuit.0 d)
    (grown_opening c.self.inside.core.0 c.self.inside.links.items c.self.inside.cells.items c.self.inside.entries k c.args.link.0 c.in-Some.circuit.0 d)
    c.in-Ok.ensures.entered
    tt
    (next_fresh c.self.inside.core.0 c.self.inside.links.items c.self.inside.cells.items c.self.inside.entries k c.args.link c.in-Some.circuit d)
    tt
    refl
    (opened_now c.self.inside.core.0 c.self.inside.links.items c.self.inside.cells.items c.self.inside.entries k c.args.link.0 c.in-Some.circuit.0 d)
    (none_stands (table_of c.self.inside.core.0 c.self.inside.links.items c.self.inside.cells.items c.self.inside.entries) c.args.self.now c.self.view_is c.args.binding c.stands.result c.stands.ensures.stands c.if-stands.false)

pub invariant_of-self-2 : goal.invariant_of-self-2
unfolding entry
invariant_of-self-2 c =
    let x = so c in
    subst (λ v. SlotsKept c.self.inside.core.0 v c.enter.new.cells.items c.enter.new.entries) (sym c.count_opening.ensures) x.kept

pub returns-clause-opened : goal.returns-clause-opened
unfolding entry
returns-clause-opened c =
    let x = so c in
    ap (λ v. table_of c.self.inside.core.0 v c.enter.new.cells.items c.enter.new.entries) c.count_opening.ensures
    ∙ x.view
    ∙ ap (λ t. opened t c.args.link c.in-Some.circuit c.args.binding) c.self.view_is

pub returns-clause-later : goal.returns-clause-later
unfolding entry
returns-clause-later c =
    let x = so c in
    subst (λ t. Later t (table_of c.self.inside.core.0 c.count_opening.new.links.items c.enter.new.cells.items c.enter.new.entries)) c.self.view_is
    (subst (λ v. Later (table_of c.self.inside.core.0 c.self.inside.links.items c.self.inside.cells.items c.self.inside.entries) (table_of c.self.inside.core.0 v c.enter.new.cells.items c.enter.new.entries)) (sym c.count_opening.ensures)
    x.later)

pub returns-then-from-len-clause-refused : goal.returns-then-from-len-clause-refused
returns-then-from-len-clause-refused c =
    inl (open_nowhere c.args.self.now c.args.link.0 c.args.binding
    (off_link c.self.inside.core.0 c.self.inside.links.items c.self.inside.cells.items c.self.inside.entries c.args.self.now c.self.view_is c.args.link.0 c.from.result c.len.result _ c.from.ensures c.len.ensures c.self.inside.links.ok.0 c.if-from-len.true))

pub returns-then-stands-clause-refused : goal.returns-then-stands-clause-refused
returns-then-stands-clause-refused c =
    inl (open_stands c.args.self.now c.args.link.0 c.args.binding c.stands.result
    (on_link c.self.inside.core.0 c.self.inside.links.items c.self.inside.cells.items c.self.inside.entries c.args.self.now c.self.view_is c.args.link.0 c.from.result c.len.result _ c.from.ensures c.len.ensures c.self.inside.links.ok.0 c.if-from-len.false)
    c.stands.ensures.stands c.if-stands.true)

pub returns-in_default-clause-refused : goal.returns-in_default-clause-refused
returns-in_default-clause-refused c =
    inl (open_due c.args.self.now c.args.link.0 c.args.binding c.stands.result
    (on_link c.self.inside.core.0 c.self.inside.links.items c.self.inside.cells.items c.self.inside.entries c.args.self.now c.self.view_is c.args.link.0 c.from.result c.len.result _ c.from.ensures c.len.ensures c.self.inside.links.ok.0 c.if-from-len.false)
    c.stands.ensures.stands c.if-stands.false
    ∙ told_none c.next.result _ c.next.ensures.next c.in_default.is)

pub returns-in_default-enter-clause-refused : goal.returns-in_default-enter-clause-refused
returns-in_default-enter-clause-refused c =
    inr (
      open_due c.args.self.now c.args.link.0 c.args.binding c.stands.result
          (on_link c.self.inside.core.0 c.self.inside.links.items c.self.inside.cells.items c.self.inside.entries c.args.self.now c.self.view_is c.args.link.0 c.from.result c.len.result _ c.from.ensures c.len.ensures c.self.inside.links.ok.0 c.if-from-len.false)
          c.stands.ensures.stands c.if-stands.false
          ∙ if_told _ c.in-Some.circuit.0 (told_some c.next.result _ c.in-Some.circuit c.next.ensures.next c.in-Some.is),
      refl,
    )

pub returns-in_default-enter-clause-kept : goal.returns-in_default-enter-clause-kept
returns-in_default-enter-clause-kept c =
    (same_slots c.self.inside.core.0 c.self.inside.links.items c.self.inside.cells.items c.enter.new.cells.items c.self.inside.entries c.enter.new.entries c.self.invariant c.in_default-enter.ensures.cells c.in_default-enter.ensures.entries).1
    ∙ c.self.view_is

pub returns-clause-may : goal.returns-clause-may
returns-clause-may c =
    open_due c.args.self.now c.args.link.0 c.args.binding c.stands.result
    (on_link c.self.inside.core.0 c.self.inside.links.items c.self.inside.cells.items c.self.inside.entries c.args.self.now c.self.view_is c.args.link.0 c.from.result c.len.result _ c.from.ensures c.len.ensures c.self.inside.links.ok.0 c.if-from-len.false)
    c.stands.ensures.stands c.if-stands.false
    ∙ if_told _ c.in-Some.circuit.0 (told_some c.next.result _ c.in-Some.circuit c.next.ensures.next c.in-Some.is)

pub returns-clause-next : goal.returns-clause-next
returns-clause-next c = told_some c.next.result _ c.in-Some.circuit c.next.ensures.next c.in-Some.is
