-- What was read of an interface's text, as the definitions have it.
use Rattle.fl_interface.specs.Interface.{interface_of}
use Rattle.fl_check.specs.Text.{TextOutcome, stands_for, text_fault}
use Rattle.fl_check.specs.declared.text.TextRead.{TextRead}
use Rattle.fl_check.specs.declared.text.TextRead.TheVariants.{Interface, Fault}

abbrev pub outcome_of : TextRead → TextOutcome
outcome_of (Interface i) = stands_for (interface_of i)
outcome_of (Fault number offset) = text_fault number offset
