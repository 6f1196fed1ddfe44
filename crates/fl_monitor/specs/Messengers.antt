-- A working file, on which no public promise rests by itself: what a messenger keeps.
use Rattle.std.specs.Prelude.{◌≡◌, []}
use Rattle.fl_value_data.specs.declared.value.PlanNo.TheVariants.{One}
use Rattle.fl_machine.specs.Receiving.{interface_in, plan_in}
use Rattle.fl_monitor.specs.declared.messenger.Messenger.TheInside.{Inside}
use Rattle.fl_monitor.specs.Intermon.{intermon}

-- a receive run of the monitors' interface under plan 1, with no call under way
pub record IsBetweenCalls (m : Inside) : Type 0 where
  pub interface : interface_in m.run ≡ intermon
  pub plan : plan_in m.run ≡ One
  pub parts : m.run.parts ≡ []
