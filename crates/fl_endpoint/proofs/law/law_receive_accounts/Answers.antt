use Rattle.std.proofs.Common.{◌≡◌, ℕ, List, [], ◌∷◌, ◌++◌, Option, Some, None, Ok, Err, refl, sym, ap, subst}
use Rattle.std.specs.Prelude.{IsSome}
use Rattle.fl_base.specs.declared.fragment.Frag.{Frag}
use Rattle.fl_value_data.specs.Value.{TheCall, call_of}
use Rattle.fl_link.specs.Looks.{Look, saw, saw_ack, found, found_ack, missed}
use Rattle.fl_endpoint.specs.declared.fault.EndFault.{EndFault}
use Rattle.fl_endpoint.specs.declared.fault.EndFault.TheVariants.{Spent, Busy, UnknownMessage, Misfit, NotBound, Failed, Wire, Memory}
use Rattle.fl_endpoint.specs.declared.answer.ReceiveAnswer.TheVariants.{Handle, Part, Quiet, Empty, HeldBack}
use Rattle.fl_endpoint.specs.View.{TheEnd, interface_in, reply_to, rule_at, frags_from, queued_if, with_failed}
use Rattle.std.specs.Option.{option_map}
use Rattle.fl_endpoint.specs.Accounts.{Sound, Accepted, no_event, Account, followed}
use Rattle.fl_endpoint.specs.Events.{AreCall}
use Rattle.fl_endpoint.specs.Laws.{ReceiveAdds, ReceiveAccounts}
use Rattle.fl_endpoint.proofs.Sounds.{sound_failed, sound_part, sound_handled, reply_fits, queued_call}
use Rattle.fl_endpoint.proofs.Accountings.{same_end, same_replies, adds_nothing, part_account, handled_account, replied_account, all_replies, happened}
use Rattle.fl_endpoint.proofs.law.law_receive_accounts.Goals as goal

-- the account of a call that is handled, with what is accepted
record HandledAccount (s : TheEnd) (f : Frag) (c : TheCall) (due : List TheCall) (t : TheEnd) : Type 0 where
  accepted : List Accepted
  account : Account s (happened accepted [] (f ∷ []) (c ∷ []) due) t

handled_by_rule : (s : TheEnd) (f : Frag) (c : TheCall) (rule : Option ℕ) → rule_at s.rules c.msg ≡ rule → Sound s → IsSome s.circuit → AreCall s (s.parts ++ f ∷ []) c
    → HandledAccount s f c (followed (option_map (λ (reply : ℕ). record { msg = reply; args = c.args }) rule) [])
    (record s { parts = []; outgoing = queued_if s.outgoing (option_map (frags_from s) (option_map (λ (reply : ℕ). record { msg = reply; args = c.args }) rule)) })
handled_by_rule s f c None is sound some are = record { accepted = []; account = handled_account s f c are.fits are.mean }
handled_by_rule s f c (Some reply) is sound some are =
    let d : TheCall = record { msg = reply; args = c.args } in
    let q = queued_call s d sound (reply_fits (interface_in s) s.rules c reply sound.rules is are.fits) in
    record { accepted = all_replies q.accepted; account = replied_account s f c d q some are.fits are.mean }

kept : {T : Type 0} (takes : T → Look → T → Type 0) (s t : TheEnd) (p q : T) (fault : EndFault) → Sound s → q ≡ p → t ≡ s → ReceiveAdds takes s p (Err fault) t q
kept takes s t p q fault sound same e = record {
  looks = [];
  side = sym same;
  accepted = [];
  sound = subst (λ (x : TheEnd). Sound x) (sym e) sound;
  account = same_end s t e;
  replies = same_replies s t e;
}

adds : {T : Type 0} (takes : T → Look → T → Type 0) → ReceiveAccounts takes
adds takes s t p q (Ok (Handle call)) sound (taking, (f, m, bare, sees, takes_it, (are, is))) =
    let c = call_of call in
    let h = handled_by_rule s f c (rule_at s.rules c.msg) refl sound taking.0.0 are in
    record {
      looks = saw f ∷ found f ∷ [];
      side = (m, sees, (q, takes_it, refl));
      accepted = h.accepted;
      sound = subst (λ (x : TheEnd). Sound x) (sym is) (sound_handled s c taking.0.0 are.fits taking.1 sound);
      account = subst (λ (x : TheEnd). Account s (happened h.accepted [] (f ∷ []) (c ∷ []) (followed (reply_to s.rules c) [])) x) (sym is) h.account;
      replies = record { rules = ap (λ (x : TheEnd). x.rules) is; replies = refl };
    }
adds takes s t p q (Ok Part) sound (taking, (f, m, bare, sees, takes_it, (part, is))) = record {
  looks = saw f ∷ found f ∷ [];
  side = (m, sees, (q, takes_it, refl));
  accepted = [];
  sound = subst (λ (x : TheEnd). Sound x) (sym is) (sound_part s f taking.0.0 bare part sound);
  account = subst (λ (x : TheEnd). Account s (happened [] [] (f ∷ []) [] []) x) (sym is) (part_account s f);
  replies = record { rules = ap (λ (x : TheEnd). x.rules) is; replies = refl };
}
adds takes s t p q (Ok Quiet) sound (taking, (m, sees, takes_it), is) = record {
  looks = saw_ack ∷ found_ack ∷ [];
  side = (m, sees, (q, takes_it, refl));
  accepted = [];
  sound = subst (λ (x : TheEnd). Sound x) (sym is) sound;
  account = same_end s t is;
  replies = same_replies s t is;
}
adds takes s t p q (Ok Empty) sound (taking, misses, is) = record {
  looks = missed ∷ [];
  side = (q, misses, refl);
  accepted = [];
  sound = subst (λ (x : TheEnd). Sound x) (sym is) sound;
  account = same_end s t is;
  replies = same_replies s t is;
}
adds takes s t p q (Ok HeldBack) sound (ready, held, same, is) = record {
  looks = [];
  side = sym same;
  accepted = [];
  sound = subst (λ (x : TheEnd). Sound x) (sym is) sound;
  account = same_end s t is;
  replies = same_replies s t is;
}
adds takes s t p q (Err (Wire fault)) sound (taking, (f, bare, sees, (refused, is))) = record {
  looks = saw f ∷ [];
  side = (q, sees, refl);
  accepted = [];
  sound = subst (λ (x : TheEnd). Sound x) (sym is) (sound_failed s taking.0.0 sound);
  account = subst (λ (x : TheEnd). Account s no_event x) (sym is) (adds_nothing s (with_failed s) refl (λ h. refl) (λ c h. h) refl refl);
  replies = record { rules = ap (λ (x : TheEnd). x.rules) is; replies = refl };
}
adds takes s t p q (Err Memory) sound (taking, (f, bare, sees, (whole, is))) = record {
  looks = saw f ∷ [];
  side = (q, sees, refl);
  accepted = [];
  sound = subst (λ (x : TheEnd). Sound x) (sym is) sound;
  account = same_end s t is;
  replies = same_replies s t is;
}
adds takes s t p q (Err NotBound) sound (h, same, is) = kept takes s t p q NotBound sound same is
adds takes s t p q (Err Failed) sound (h, same, is) = kept takes s t p q Failed sound same is
adds takes s t p q (Err Spent) sound h = absurd h
adds takes s t p q (Err Busy) sound h = absurd h
adds takes s t p q (Err UnknownMessage) sound h = absurd h
adds takes s t p q (Err Misfit) sound h = absurd h

pub returns : goal.returns
returns g c = record { account = adds g.T.TakeSide.takes }
