use Rattle.std.proofs.lemmas.List.{map_push}
use Rattle.fl_parse.specs.Tree.{argument_of}
use Rattle.fl_parse.proofs.parts.next_argument.Goals as goal

pub returns-clause-takes : goal.returns-clause-takes
returns-clause-takes c = record {
  item = argument_of c.in_ok-next.next;
  is = c.in_ok-next.ensures.reads;
  more = rw c.in_ok-push.ensures.items (map_push _ c.args.arguments.now.items c.in_ok-next.next);
}
