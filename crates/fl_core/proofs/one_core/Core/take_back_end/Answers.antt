use Rattle.std.proofs.Common.{◌<◌, sym, subst}
use Rattle.fl_core.specs.declared.wiring.WiredEnd.{WiredEnd}
use Rattle.fl_core.specs.Sound.{IsCore}
use Rattle.fl_core.proofs.Retaking.{board_grown, wired_ends_before, end_back}
use Rattle.fl_core.proofs.one_core.Core.take_back_end.Goals as goal

pub take_back-requires : goal.take_back-requires
take_back-requires c = board_grown c.requires.before c.args.self.now _ c.self.view_is c.requires.dispatcher c.requires.end c.requires.wired_end c.requires.place c.requires.board c.requires.adds

pub clear_place-requires-clause-few : goal.clear_place-requires-clause-few
clear_place-requires-clause-few c =
    let parts = wired_ends_before c.requires.before c.args.self.now _ c.self.view_is c.requires.dispatcher c.requires.end c.requires.wired_end c.requires.place c.requires.adds c.pop.new.self.items c.in-Some.wired_end c.in-Some.ensures.items in
    subst (λ (p : WiredEnd). p.name.binding < 1024) (sym parts.1) c.requires.few

pub invariant_of-self : goal.invariant_of-self
invariant_of-self c =
    subst IsCore
    (sym (end_back c.requires.before c.args.self.now _ c.self.view_is c.requires.dispatcher c.requires.end c.requires.wired_end c.requires.place c.requires.adds c.pop.new.self.items c.in-Some.wired_end c.in-Some.ensures.items c.requires.few c.requires.new
    c.take_back.new.self c.take_back.ensures.before c.clear_place.new.places.items c.clear_place.ensures.clear))
    c.requires.sound

pub returns : goal.returns
returns c = record {
  before = λ k n s p e few new adds.
      end_back k c.args.self.now _ c.self.view_is n s p e adds c.pop.new.self.items c.in-Some.wired_end c.in-Some.ensures.items few new c.take_back.new.self c.take_back.ensures.before c.clear_place.new.places.items c.clear_place.ensures.clear;
}
