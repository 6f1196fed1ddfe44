use Rattle.std.proofs.Common.{◌≡◌, Bool, ap, subst, ◌∙◌}
use Rattle.fl_interface.specs.Interface.{TheInterface}
use Rattle.fl_value_data.specs.Value.{call_of}
use Rattle.fl_value_data.specs.Fits.{fits_of}
use Rattle.fl_endpoint.specs.View.{TheEnd, interface_in}
use Rattle.fl_endpoint.specs.Events.{AdmitsBy}
use Rattle.fl_endpoint.proofs.end.End.admit.Goals as goal

pub returns : goal.returns
returns c =
    let s = c.args.self.now in
    let d = call_of c.args.call.now in
    let same : c.fits.result ≡ fits_of (interface_in s) d
    = c.fits.ensures.same ∙ ap (λ (i : TheInterface). fits_of i d) c.interface.ensures.interface ∙ ap (λ (t : TheEnd). fits_of (interface_in t) d) c.self.view_is in
    record { admits = subst (λ (b : Bool). AdmitsBy s d.msg b c.admit_by.result) same c.admit_by.ensures.admits }
