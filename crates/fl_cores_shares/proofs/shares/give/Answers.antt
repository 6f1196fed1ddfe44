use Rattle.std.proofs.Common.{ap, sym, ◌∙◌, length}
use Rattle.fl_cores_shares.proofs.Giving.{put_given_or, holding_is}
use Rattle.fl_cores_shares.proofs.shares.give.Goals as goal

pub returns-clause-given : goal.returns-clause-given
returns-clause-given g c = put_given_or (λ holding. holding.items) c.args.holdings.now.items c.args.core c.index_mut-holding.result.now c.push.new.self c.args.thing c.requires.there
    c.index_mut-holding.ensures.value c.in_ok-push.ensures.items

pub returns-clause-place : goal.returns-clause-place
returns-clause-place g c =
    c.len-place.ensures ∙ c.index_mut-holding.result.now.ok.0 ∙ ap length (sym (holding_is (λ holding. holding.items) c.args.holdings.now.items c.args.core c.index_mut-holding.result.now c.requires.there c.index_mut-holding.ensures.value))
