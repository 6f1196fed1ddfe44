use Rattle.fl_world.proofs.Queued.{made_joining}
use Rattle.fl_world.proofs.world.World.joining.Goals as goal

pub returns : goal.returns
returns c = record {
  joining = made_joining c.args.want c.args.self.now _ c.self.view_is c.as_slice.result.now c.as_slice.ensures.value
      c.as_slice-to_server.result.now c.as_slice-to_server.ensures.value c.in_ok-ends.ends.client c.in_ok-ends.ends.server
      c.in_ok-ends.ensures.client c.in_ok-ends.ensures.server;
}
