use Rattle.std.proofs.Common.{◌≡◌, Ok, Err, refl, sym, subst}
use Rattle.std.specs.Prelude.{Some, slice_set}
use Rattle.fl_endpoint.specs.declared.fault.EndFault.TheVariants.{Spent, Busy, UnknownMessage, Misfit, NotBound, Failed, Wire, Memory}
use Rattle.fl_endpoint.specs.View.{TheEnd}
use Rattle.fl_endpoint.specs.Accounts.{Sound}
use Rattle.fl_endpoint.specs.Laws.{AddsNothing, RuleAccounts}
use Rattle.fl_endpoint.proofs.Sounds.{sound_rule}
use Rattle.fl_endpoint.proofs.Accountings.{same_end, adds_nothing}
use Rattle.fl_endpoint.proofs.law.law_rule_accounts.Goals as goal

kept : (s t : TheEnd) → Sound s → t ≡ s → AddsNothing s t
kept s t sound e = record { sound = subst (λ (x : TheEnd). Sound x) (sym e) sound; account = same_end s t e }

adds : RuleAccounts
adds s t msg reply (Ok done) sound (from, to, types, is) = subst (λ (x : TheEnd). AddsNothing s x) (sym is) (record {
  sound = sound_rule s msg reply (record { from = from; to = to; types = types }) sound;
  account = adds_nothing s (record s { rules = slice_set s.rules msg (Some reply) }) refl (λ h. h) (λ c h. h) refl refl;
})
adds s t msg reply (Err UnknownMessage) sound (h, is) = kept s t sound is
adds s t msg reply (Err Misfit) sound (a, b, h, is) = kept s t sound is
adds s t msg reply (Err Spent) sound h = absurd h
adds s t msg reply (Err Busy) sound h = absurd h
adds s t msg reply (Err NotBound) sound h = absurd h
adds s t msg reply (Err Failed) sound h = absurd h
adds s t msg reply (Err (Wire fault)) sound h = absurd h
adds s t msg reply (Err Memory) sound h = absurd h

pub returns : goal.returns
returns c = record { account = adds }
