use Rattle.std.proofs.Common.{◌≡◌, ◌≤◌, ℕ, List, take, length, sym, ap, subst, ◌∙◌, arith}
use Rattle.std.specs.Vec.{with_items}
use Rattle.std.proofs.lemmas.List.{with_items_is}
use Rattle.fl_base.specs.declared.fragment.Frag.{Frag}
use Rattle.fl_interface.specs.Interface.{interface_of}
use Rattle.fl_machine.specs.declared.recv.PartialCall.{PartialCall}
use Rattle.fl_machine.specs.Receiving.{Stand, TheStored, stored_of, receiving, parts_of, fed_of, stand_of, stand_after, numbers_in, IsRefused, IsStored}
use Rattle.fl_machine.proofs.Storing.{Same, with_tape, stored_same, receiving_same, gone_on_stored, gone_as}
use Rattle.fl_machine.proofs.recv.RecvState.feed_on.Goals as goal

-- the call at the place to go on at was that under way
copied : (c : goal.In-Err) → c.deref_mut-2.result.now ≡ c.args.self.now.now.value
copied c = c.deref_mut-2.ensures.value ∙ c.deref.ensures

same : (c : goal.In-Err) → Same c.args.self.now.now.value.intake.count c.args.self.now.tape.items c.go_on.new.tape
same c = record {
  prefix = subst (λ (b : PartialCall). take b.intake.count c.go_on.new.tape ≡ take b.intake.count c.deref_mut-3.result.now) (copied c) c.in-Err.ensures.kept
      ∙ ap (take c.args.self.now.now.value.intake.count) c.deref_mut-3.ensures.value;
  long = omega (arith, c.in-Err.ensures.long, ap length c.deref_mut-3.ensures.value);
}

items : (c : goal.In-Err) → (with_items c.args.self.now.tape c.go_on.new.tape).items ≡ c.go_on.new.tape
items c = with_items_is c.args.self.now.tape c.go_on.new.tape (omega (arith, c.in-Err.ensures.long, c.deref_mut-3.ensures.len))

pub returns-in-Err-clause-stored : goal.returns-in-Err-clause-stored
returns-in-Err-clause-stored c =
    let p = c.args.program.now in
    let i = interface_of p.compiled.value.plans.interface in
    subst (λ (t : List ℕ). IsStored p.plan i (with_tape t (stored_of c.args.self.now))) (sym (items c))
    (stored_same p.plan i (stored_of c.args.self.now) c.args.self.now.now.value c.go_on.new.tape c.requires.inside (same c) c.requires.stored)

pub returns-in-Err-clause-feeds : goal.returns-in-Err-clause-feeds
returns-in-Err-clause-feeds c =
    let p = c.args.program.now in
    let i = interface_of p.compiled.value.plans.interface in
    let s = stored_of c.args.self.now in
    let begun : parts_of p.plan i c.deref_mut-3.result.now c.deref_mut-2.result.now ≡ parts_of p.plan i s.tape c.args.self.now.now.value
    = ap (λ (t : List ℕ). parts_of p.plan i t c.deref_mut-2.result.now) c.deref_mut-3.ensures.value ∙ ap (λ (b : PartialCall). parts_of p.plan i s.tape b) (copied c) in
    let parts : parts_of p.plan i c.deref_mut-3.result.now c.deref_mut-2.result.now ≡ (fed_of p.plan i s.tape s.stand).parts
    = begun ∙ sym (ap (λ (t : Stand). (fed_of p.plan i s.tape t).parts) c.requires.inside) in (
      subst (λ (fs : List Frag). IsRefused p.plan i fs c.args.frag.now c.in-Err.fault) parts c.in-Err.ensures.wrong,
      ap (λ (t : List ℕ). receiving p (with_tape t s)) (items c)
          ∙ receiving_same p s c.args.self.now.now.value c.go_on.new.tape c.requires.inside (same c) c.requires.stored,
    )

pub returns-in-Ok-clause-stored : goal.returns-in-Ok-clause-stored
returns-in-Ok-clause-stored c =
    let p = c.args.program.now in
    let i = interface_of p.compiled.value.plans.interface in
    let s = stored_of c.args.self.now in
    let b = c.args.self.now.now.value in
    let stand = stand_after c.go_on.new.begun c.in-Ok.fed in
    let copied : c.deref_mut-2.result.now ≡ b = c.deref_mut-2.ensures.value ∙ c.deref.ensures in
    let same : Same b.intake.count s.tape c.go_on.new.tape = record {
      prefix = subst (λ (d : PartialCall). take d.intake.count c.go_on.new.tape ≡ take d.intake.count c.deref_mut-3.result.now) copied c.in-Ok.ensures.kept
          ∙ ap (take b.intake.count) c.deref_mut-3.ensures.value;
      long = omega (arith, c.in-Ok.ensures.long, ap length c.deref_mut-3.ensures.value);
    } in
    let tape : (with_items c.args.self.now.tape c.go_on.new.tape).items ≡ c.go_on.new.tape
    = with_items_is c.args.self.now.tape c.go_on.new.tape (omega (arith, c.in-Ok.ensures.long, c.deref_mut-3.ensures.len)) in
    let begun : c.swap-in-Ok.new.x.value ≡ c.go_on.new.begun = ap (λ v. v.value) (c.swap-in-Ok.ensures.x_after ∙ c.swap.ensures.x_after) in
    let there : stand_of c.after-self.result c.swap-in-Ok.new.x.value ≡ stand
    = ap (stand_of c.after-self.result) (sym c.deref-in-Ok.ensures) ∙ c.after-self.ensures.stand ∙ ap (λ (d : PartialCall). stand_after d c.in-Ok.fed) (c.deref-in-Ok.ensures ∙ begun) in
    let grows = subst (λ (d : PartialCall). d.intake.count ≤ numbers_in stand) copied c.in-Ok.ensures.grows in
    subst (λ (t : TheStored). IsStored p.plan i t)
    (gone_as s c.go_on.new.tape _ stand _ (stand_of c.args.self.now.phase c.swap-in-Ok.new.y.value) tape there (ap (λ v. stand_of c.args.self.now.phase v.value) c.swap-in-Ok.ensures.y_after))
    (gone_on_stored p.plan i s b c.go_on.new.tape stand c.requires.inside same c.requires.stored grows c.in-Ok.ensures.stands)
