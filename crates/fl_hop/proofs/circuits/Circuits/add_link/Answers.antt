use Rattle.std.proofs.Common.{◌≡◌, ◌==◌, sym, ap, ◌∙◌, subst, refl, inr, [], ◌∷◌, ◌++◌, length, position, None, arith}
use Rattle.fl_hop.specs.declared.links.LinkState.{LinkState}
use Rattle.fl_hop.specs.Table.{link_of, link_fault, with_link}
use Rattle.fl_hop.specs.Later.{Later}
use Rattle.fl_hop.specs.Slots.{table_of, SlotsKept}
use Rattle.fl_hop.proofs.Counting.{kept_link, no_link, may_link, map_fill}
use Rattle.fl_hop.proofs.Limits.{later_link}
use Rattle.fl_hop.proofs.circuits.Circuits.add_link.Goals as goal

links : (c : goal.After-push_reserved) → c.push_reserved.new.self.items ≡ c.self.inside.links.items ++ record { neighbour = c.args.neighbour; opened = 0; taken = 0 } ∷ []
links c =
    let one : LinkState = record { neighbour = c.args.neighbour; opened = 0; taken = 0 } in
    c.push_reserved.ensures.items ∙ ap (λ v. v ++ one ∷ []) c.reserve.ensures.items

none : (c : goal.After-push_reserved) → position (λ (a : LinkState). a.neighbour.0 == c.args.neighbour.0) c.self.inside.links.items ≡ None
none c =
    ap (λ t. link_of t c.args.neighbour.0) c.self.view_is
    ∙ no_link (link_of c.args.self.now c.args.neighbour.0) c.link_to.result c.is_some.result c.link_to.ensures.link c.is_some.ensures c.if-is_some.false

pub invariant_of-self-2 : goal.invariant_of-self-2
invariant_of-self-2 c =
    let k = kept_link c.self.inside.core.0 c.self.inside.links.items c.self.inside.cells.items c.self.inside.entries c.self.invariant c.args.neighbour c.if-neighbour-self.false (omega (arith, c.if-count-ge-MAX_LINKS.false, ap length c.as_slice-count.ensures.value)) (none c) in
    subst (λ v. SlotsKept c.self.inside.core.0 v c.add_cells.new.cells.items c.self.inside.entries) (sym (links c))
    (subst (λ w. SlotsKept c.self.inside.core.0 (c.self.inside.links.items ++ record { neighbour = c.args.neighbour; opened = 0; taken = 0 } ∷ []) w c.self.inside.entries) (sym c.in-Ok-add_cells.ensures.added) k)

added : (c : goal.After-push_reserved) → table_of c.self.inside.core.0 c.push_reserved.new.self.items c.add_cells.new.cells.items c.self.inside.entries ≡ with_link c.args.self.now c.args.neighbour
added c =
    ap (λ v. table_of c.self.inside.core.0 v c.add_cells.new.cells.items c.self.inside.entries) (links c)
    ∙ ap (λ w. table_of c.self.inside.core.0 (c.self.inside.links.items ++ record { neighbour = c.args.neighbour; opened = 0; taken = 0 } ∷ []) w c.self.inside.entries) c.in-Ok-add_cells.ensures.added
    ∙ map_fill c.self.inside.core.0 c.self.inside.links.items c.self.inside.cells.items c.self.inside.entries c.args.neighbour
    ∙ ap (λ t. with_link t c.args.neighbour) c.self.view_is

pub returns-clause-added : goal.returns-clause-added
returns-clause-added c = added c

pub returns-clause-later : goal.returns-clause-later
returns-clause-later c = subst (Later c.args.self.now) (sym (added c)) (later_link c.args.self.now c.args.neighbour)

pub add_cells-requires : goal.add_cells-requires
add_cells-requires c = omega (arith, c.self.invariant.whole, c.if-count-ge-MAX_LINKS.false, ap length c.as_slice-count.ensures.value)

pub invariant_of-self : goal.invariant_of-self
invariant_of-self c = subst (λ v. SlotsKept c.self.inside.core.0 v c.self.inside.cells.items c.self.inside.entries) (sym c.reserve.ensures.items) c.self.invariant

pub returns-in_default-clause-refused : goal.returns-in_default-clause-refused
returns-in_default-clause-refused c =
    let none : link_fault c.args.self.now c.args.neighbour.0 ≡ None =
    may_link c.self.inside.core.0 c.self.inside.links.items c.self.inside.cells.items c.self.inside.entries c.args.self.now c.self.view_is c.args.neighbour.0 c.link_to.result c.is_some.result
    c.if-neighbour-self.false c.link_to.ensures.link c.is_some.ensures c.if-is_some.false
    (omega (arith, c.if-count-ge-MAX_LINKS.false, ap length c.as_slice-count.ensures.value)) in
    inr (none, refl)

pub returns-in_default-clause-kept : goal.returns-in_default-clause-kept
returns-in_default-clause-kept c = ap (λ v. table_of c.self.inside.core.0 v c.self.inside.cells.items c.self.inside.entries) c.reserve.ensures.items ∙ c.self.view_is

pub invariant_of-self-in_default-add_cells : goal.invariant_of-self-in_default-add_cells
invariant_of-self-in_default-add_cells c =
    subst (λ v. SlotsKept c.self.inside.core.0 v c.add_cells.new.cells.items c.self.inside.entries) (sym c.reserve.ensures.items)
    (subst (λ w. SlotsKept c.self.inside.core.0 c.self.inside.links.items w c.self.inside.entries) (sym c.in_default-add_cells.ensures.kept) c.self.invariant)

pub returns-in_default-add_cells-clause-refused : goal.returns-in_default-add_cells-clause-refused
returns-in_default-add_cells-clause-refused c =
    let none : link_fault c.args.self.now c.args.neighbour.0 ≡ None =
    may_link c.self.inside.core.0 c.self.inside.links.items c.self.inside.cells.items c.self.inside.entries c.args.self.now c.self.view_is c.args.neighbour.0 c.link_to.result c.is_some.result
    c.if-neighbour-self.false c.link_to.ensures.link c.is_some.ensures c.if-is_some.false
    (omega (arith, c.if-count-ge-MAX_LINKS.false, ap length c.as_slice-count.ensures.value)) in
    inr (none, refl)

pub returns-in_default-add_cells-clause-kept : goal.returns-in_default-add_cells-clause-kept
returns-in_default-add_cells-clause-kept c =
    ap (λ v. table_of c.self.inside.core.0 v c.add_cells.new.cells.items c.self.inside.entries) c.reserve.ensures.items
    ∙ ap (λ w. table_of c.self.inside.core.0 c.self.inside.links.items w c.self.inside.entries) c.in_default-add_cells.ensures.kept
    ∙ c.self.view_is

pub returns-clause-link : goal.returns-clause-link
returns-clause-link c = ap length c.as_slice-count.ensures.value ∙ ap (λ t. length t.links) c.self.view_is

pub returns-clause-may : goal.returns-clause-may
returns-clause-may c =
    may_link c.self.inside.core.0 c.self.inside.links.items c.self.inside.cells.items c.self.inside.entries c.args.self.now c.self.view_is c.args.neighbour.0 c.link_to.result c.is_some.result
    c.if-neighbour-self.false c.link_to.ensures.link c.is_some.ensures c.if-is_some.false
    (omega (arith, c.if-count-ge-MAX_LINKS.false, ap length c.as_slice-count.ensures.value))
