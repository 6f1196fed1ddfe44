-- A registration as a look-up lends it.
use Rattle.fl_nameserv.specs.declared.registration.Registration.{Registration}
use Rattle.fl_nameserv.specs.Registrations.{TheRegistration}

abbrev pub registration_of : Registration → TheRegistration
registration_of r = record { name = r.name.now; iref = r.iref.0; service = r.service }
