use Rattle.std.proofs.Common.{◌∙◌}
use Rattle.std.proofs.lemmas.List.Elements.{same_from_all_zip}
use Rattle.fl_nameserv.proofs.Numbers.{copied}
use Rattle.fl_nameserv.proofs.names.Names.duplicate.Goals as goal

pub returns : goal.returns
returns c = record {
  equal =
      copied c.self.inside.services.entries c.in_ok-services.services.entries c.in_ok-services.ensures.cases
      (λ e f same. (same_from_all_zip _ e.0.items f.0.items same.0.0 (λ x y h. h), same.1)) 0
      ∙ c.self.view_is;
}
