use Rattle.std.proofs.Common.{◌≡◌, [], ◌∷◌, Ok, Err, refl, sym, ap, subst}
use Rattle.fl_link.specs.Looks.{Look, placed, no_room, spent}
use Rattle.fl_endpoint.specs.declared.fault.EndFault.TheVariants.{Spent, Busy, UnknownMessage, Misfit, NotBound, Failed, Wire, Memory}
use Rattle.fl_endpoint.specs.declared.answer.WriteAnswer.TheVariants.{Written, Full, Nothing}
use Rattle.fl_endpoint.specs.View.{TheEnd}
use Rattle.fl_endpoint.specs.Accounts.{Sound, Account}
use Rattle.fl_endpoint.specs.Laws.{WriteAdds, WriteAccounts}
use Rattle.fl_endpoint.proofs.Sounds.{sound_written, wrote_frag}
use Rattle.fl_endpoint.proofs.Accountings.{same_end, same_replies, write_account, all_replies, happened}
use Rattle.fl_endpoint.proofs.law.law_write_accounts.Goals as goal

-- the end is as it was, and the side was looked at, or not
looked : {P : Type 0} (puts : P → Look → P → Type 0) (s t : TheEnd) (p q : P) → Sound s → puts p no_room q → t ≡ s → WriteAdds puts s p t q
looked puts s t p q sound step e = record {
  looks = no_room ∷ [];
  side = (q, step, refl);
  accepted = [];
  sound = subst (λ (x : TheEnd). Sound x) (sym e) sound;
  account = same_end s t e;
  replies = same_replies s t e;
}

found_spent : {P : Type 0} (puts : P → Look → P → Type 0) (s t : TheEnd) (p q : P) → Sound s → puts p spent q → t ≡ s → WriteAdds puts s p t q
found_spent puts s t p q sound step e = record {
  looks = spent ∷ [];
  side = (q, step, refl);
  accepted = [];
  sound = subst (λ (x : TheEnd). Sound x) (sym e) sound;
  account = same_end s t e;
  replies = same_replies s t e;
}

kept : {P : Type 0} (puts : P → Look → P → Type 0) (s t : TheEnd) (p q : P) → Sound s → q ≡ p → t ≡ s → WriteAdds puts s p t q
kept puts s t p q sound same e = record {
  looks = [];
  side = sym same;
  accepted = [];
  sound = subst (λ (x : TheEnd). Sound x) (sym e) sound;
  account = same_end s t e;
  replies = same_replies s t e;
}

adds : {P : Type 0} (puts : P → Look → P → Type 0) → WriteAccounts puts
adds puts s t p q (Ok (Written number count)) sound (ready, (f, rest, now, counts, numbers, step, is)) =
    let w = wrote_frag s f rest sound now in
    record {
      looks = placed f ∷ [];
      side = (q, step, refl);
      accepted = all_replies w.accepted;
      sound = subst (λ (x : TheEnd). Sound x) (sym is) (sound_written s f rest sound ready.0 now);
      account = subst (λ (x : TheEnd). Account s (happened (all_replies w.accepted) (f ∷ []) [] [] []) x) (sym is) (write_account s f rest w ready.0);
      replies = record { rules = ap (λ (x : TheEnd). x.rules) is; replies = refl };
    }
adds puts s t p q (Ok Full) sound (ready, some, step, is) = looked puts s t p q sound step is
adds puts s t p q (Ok Nothing) sound (ready, none, same, is) = kept puts s t p q sound same is
adds puts s t p q (Err Spent) sound (ready, some, step, is) = found_spent puts s t p q sound step is
adds puts s t p q (Err NotBound) sound (h, same, is) = kept puts s t p q sound same is
adds puts s t p q (Err Failed) sound (h, same, is) = kept puts s t p q sound same is
adds puts s t p q (Err Busy) sound h = absurd h
adds puts s t p q (Err UnknownMessage) sound h = absurd h
adds puts s t p q (Err Misfit) sound h = absurd h
adds puts s t p q (Err (Wire fault)) sound h = absurd h
adds puts s t p q (Err Memory) sound h = absurd h

pub returns : goal.returns
returns g c = record { account = adds g.P.PutSide.puts }
