use Rattle.std.proofs.Common.{◌≡◌, ◌++◌, true, map}
use Rattle.std.specs.List.{list_all}
use Rattle.fl_interface.specs.Interface.{message_of}
use Rattle.fl_check.specs.Views.{declared_message}
use Rattle.fl_check.specs.Named.{is_named}
use Rattle.fl_check.proofs.messages.list_messages.Given as goal

abbrev pub invariant-loop-name : goal.invariant-loop-name
invariant-loop-name l = record {
  same : map message_of l.messages.items ++ map declared_message l.name-iterator ≡ map declared_message l.fn.declared.entries;
  named : list_all is_named l.name-iterator ≡ true;
}
