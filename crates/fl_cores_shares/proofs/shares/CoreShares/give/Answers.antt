use Rattle.std.proofs.Common.{ap, sym, ◌∙◌, ◌++◌, ◌∷◌, [], ℕ}
use Rattle.std.proofs.lemmas.List.{length-map}
use Rattle.fl_cores_shares.proofs.Giving.{gives}
use Rattle.fl_cores_shares.proofs.shares.CoreShares.give.Goals as goal

pub returns : goal.returns
returns g c = record {
  given = gives c.args.owner c.args.thing c.args.self _ c.requires.there c.in_ok-place.ensures.given c.in_ok-push.ensures.items
      (c.in_ok-push-2.ensures.items ∙ ap (λ (n : ℕ). c.args.self.places.items ++ n ∷ []) c.in_ok-place.ensures.place)
      (length-map _ _) (sym (length-map _ _));
}
