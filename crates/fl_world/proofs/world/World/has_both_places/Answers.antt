use Rattle.std.proofs.Common.{sym, ◌∙◌}
use Rattle.fl_model.specs.Views.{id_of}
use Rattle.fl_world.proofs.Requested.{client_there, server_there}
use Rattle.fl_world.proofs.world.World.has_both_places.Goals as goal

pub returns : goal.returns
returns c = record {
  places = c.finds_both_places.ensures.places;
  client = λ e. client_there (id_of c.args.client) (id_of c.args.server) c.args.self.now (sym c.finds_both_places.ensures.places ∙ e);
  server = λ e. server_there (id_of c.args.client) (id_of c.args.server) c.args.self.now (sym c.finds_both_places.ensures.places ∙ e);
}
