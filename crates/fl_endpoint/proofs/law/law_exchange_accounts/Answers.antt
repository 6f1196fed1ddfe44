use Rattle.std.proofs.Common.{refl}
use Rattle.fl_endpoint.proofs.Sounds.{sound_exchanged}
use Rattle.fl_endpoint.proofs.Accountings.{adds_nothing}
use Rattle.fl_endpoint.proofs.law.law_exchange_accounts.Goals as goal

pub returns : goal.returns
returns c = record {
  account = λ s t same sound other. record {
    sound = sound_exchanged s t same sound other;
    account = adds_nothing s (record s { rules = t.rules }) refl (λ h. h) (λ c h. h) refl refl;
  };
}
