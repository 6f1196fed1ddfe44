use Rattle.std.proofs.Common.{◌∙◌, ap, sym, subst}
use Rattle.fl_core.specs.View.{TheCore}
use Rattle.fl_core.specs.Sound.{IsCore}
use Rattle.fl_core.proofs.Retaking.{link_back}
use Rattle.fl_core.proofs.one_core.Core.take_back_link.Goals as goal

pub take_back_link-requires : goal.take_back_link-requires
take_back_link-requires c = record {
  before = c.requires.before.monitor;
  neighbour = c.requires.neighbour;
  monitor = ap (λ (k : TheCore). k.monitor) (c.self.view_is ∙ c.requires.core);
}

pub invariant_of-self : goal.invariant_of-self
invariant_of-self c =
    subst IsCore (sym (link_back c.requires.before c.args.self.now _ c.self.view_is c.requires.neighbour c.requires.side c.requires.core c.take_back_link.new.self c.take_back_link.ensures.before c.pop.new.self.items _ c.self.inside.link_sides.ok.0 c.pop.ensures.rest)) c.requires.sound

pub returns : goal.returns
returns c = record {
  before = λ k to side is. link_back k c.args.self.now _ c.self.view_is to side is c.take_back_link.new.self c.take_back_link.ensures.before c.pop.new.self.items _ c.self.inside.link_sides.ok.0 c.pop.ensures.rest;
}
