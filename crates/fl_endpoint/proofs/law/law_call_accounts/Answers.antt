use Rattle.std.proofs.Common.{◌≡◌, [], ◌∷◌, length, Ok, Err, refl, sym, ap, subst, arith}
use Rattle.fl_value_data.specs.Value.{TheCall}
use Rattle.fl_endpoint.specs.declared.fault.EndFault.{EndFault}
use Rattle.fl_endpoint.specs.declared.fault.EndFault.TheVariants.{Spent, Busy, UnknownMessage, Misfit, NotBound, Failed, Wire, Memory}
use Rattle.fl_endpoint.specs.View.{TheEnd, TheOutgoing}
use Rattle.fl_endpoint.specs.Accounts.{Sound, Account, asked}
use Rattle.fl_endpoint.specs.Laws.{CallAdds, CallAccounts}
use Rattle.fl_endpoint.proofs.Sounds.{sound_call, idle_end}
use Rattle.fl_endpoint.proofs.Accountings.{same_end, same_replies, call_account, happened}
use Rattle.fl_endpoint.proofs.law.law_call_accounts.Goals as goal

kept : (s t : TheEnd) (c : TheCall) (fault : EndFault) → Sound s → t ≡ s → CallAdds s c (Err fault) t
kept s t c fault sound e = record { sound = subst (λ (x : TheEnd). Sound x) (sym e) sound; account = same_end s t e; replies = same_replies s t e }

adds : CallAccounts
adds s t c (Ok done) sound (fits, ready, idle, is) =
    let none : length s.outgoing.waiting ≡ 0 = ap (λ (o : TheOutgoing). length o.waiting) (idle_end s sound idle) in
    record {
      sound = subst (λ (x : TheEnd). Sound x) (sym is) (sound_call s c sound ready.0 fits (omega (arith, none)));
      account = subst (λ (x : TheEnd). Account s (happened (asked c ∷ []) [] [] [] []) x) (sym is) (call_account s c sound ready.0 fits idle);
      replies = record { rules = ap (λ (x : TheEnd). x.rules) is; replies = refl };
    }
adds s t c (Err UnknownMessage) sound (h, is) = kept s t c UnknownMessage sound is
adds s t c (Err Misfit) sound (h, k, is) = kept s t c Misfit sound is
adds s t c (Err NotBound) sound (h, k, is) = kept s t c NotBound sound is
adds s t c (Err Failed) sound (h, k, is) = kept s t c Failed sound is
adds s t c (Err Busy) sound (h, k, l, is) = kept s t c Busy sound is
adds s t c (Err Memory) sound (h, k, l, is) = kept s t c Memory sound is
adds s t c (Err Spent) sound h = absurd h
adds s t c (Err (Wire fault)) sound h = absurd h

pub returns : goal.returns
returns c = record { account = adds }
