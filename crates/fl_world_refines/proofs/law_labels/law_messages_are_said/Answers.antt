use Rattle.fl_world_refines.proofs.Carried.{Known, is_said}
use Rattle.fl_world_refines.proofs.law_labels.law_messages_are_said.Goals as goal

pub returns : goal.returns
returns c =
    let known : Known = record {
      fits = c.law_messages_are_calls.ensures.fit;
      one = c.law_one_fragment.ensures.one;
      only = c.law_one_message.ensures.one;
      written = c.law_one_message.ensures.written;
      same = c.law_epochs_say_nothing.ensures.says;
      alone = c.law_stands_alone.ensures.alone;
    } in
    record { said = is_said known }
