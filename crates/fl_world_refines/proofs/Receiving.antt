-- Ends that receive by a side that is lent.
use Rattle.std.proofs.Common.{◌≡◌, refl, sym, ◌∙◌, ap, ℕ, ◌≤◌, ◌==◌, ◌&&◌, nat_le, Bool, List, [], ◌∷◌, length, Option, Some, None, is_some, arith}
use Rattle.std.specs.Prelude.{Result, Ok, Err}
use Rattle.std.specs.List.{list_any}
use Rattle.std.proofs.lemmas.List.{length-map}
use Rattle.std.proofs.lemmas.Bool.Decides.{nat_tests}
use Rattle.fl_wire.specs.Payload.{frags_on}
use Rattle.fl_link.specs.Looks.{Look}
use Rattle.fl_endpoint.specs.declared.fault.EndFault.{EndFault}
use Rattle.fl_endpoint.specs.declared.fault.EndFault.TheVariants.{NotBound, Failed, Wire, Memory}
use Rattle.fl_endpoint.specs.declared.answer.ReceiveAnswer.{ReceiveAnswer}
use Rattle.fl_endpoint.specs.declared.answer.ReceiveAnswer.TheVariants.{Handle, Part, Quiet, Empty, HeldBack}
use Rattle.fl_endpoint.specs.View.{TheEnd, TheOutgoing, is_rule}
use Rattle.fl_endpoint.specs.View.{holds_back as end_holds_back}
use Rattle.fl_endpoint.specs.Events.{Receives}
use Rattle.fl_endpoint.specs.Accounts.{Sound}
use Rattle.fl_model.specs.Calls.{Planned}
use Rattle.fl_model.specs.Ends.{Direction, End, holds_back}
use Rattle.fl_model.specs.SoundLabels.{IsCounted}
use Rattle.fl_model.specs.SoundCalls.{AllFit}
use Rattle.fl_world_refines.specs.Ends.{circuit_of, EndShows}
use Rattle.fl_world_refines.specs.EndLaws.{TakeShows, IsNextAt, ReceiveAgrees, ReceiveShows}
use Rattle.fl_world_refines.proofs.EndCalling.{stays, bound_is, unbound_is, not_failed}

same_any : (rules : List (Option ℕ)) → list_any is_rule rules ≡ list_any is_some rules
same_any [] = refl
same_any (None ∷ rules) = same_any rules
same_any (Some rule ∷ rules) = refl

at_sixteen : (n : ℕ) → n ≤ 16 → (n == 16) ≡ nat_le 16 n
at_sixteen n h = grind (arith, nat_tests, h)

-- an end takes no fragment exactly where the machine's doesn't
pub holds_is : (i : Planned) (x : End) (peer : Direction) (s : TheEnd) → EndShows i x peer s → length x.out.waiting ≤ 16
    → end_holds_back s ≡ holds_back x
holds_is i x peer s h n =
    ap (λ (rules : List (Option ℕ)). list_any is_rule rules && (length s.outgoing.waiting == 16)) h.rules
    ∙ ap (λ (b : Bool). b && (length s.outgoing.waiting == 16)) (same_any x.rules)
    ∙ ap (λ (o : TheOutgoing). list_any is_some x.rules && (length o.waiting == 16)) h.outgoing
    ∙ ap (λ (k : ℕ). list_any is_some x.rules && (k == 16)) (length-map x.out.waiting (frags_on (circuit_of x) i.plan i.interface))
    ∙ ap (λ (b : Bool). list_any is_some x.rules && b) (at_sixteen (length x.out.waiting) n)

receive_by : TakeShows → {T : Type 0} (takes : T → Look → T → Type 0) (i : Planned) (x : End) (peer : Direction) (p q : T) (s t : TheEnd)
    (answer : Result ReceiveAnswer EndFault) → EndShows i x peer s → Sound s → IsCounted i x.out → length x.out.waiting ≤ 16
    → AllFit i peer.accepted → 1 ≤ length peer.passed → IsNextAt takes i peer p
    → Receives takes s p answer t q → ReceiveAgrees takes (record { interface = i; end = x; peer = peer }) p answer t q
receive_by law takes i x peer p q s t (Ok (Handle call)) h sound k few fit n next a = (
  (bound_is i x peer s h a.0.0.0, sym (holds_is i x peer s h few) ∙ a.0.1),
  (a.1.0, a.1.1, a.1.3, a.1.4),
  law i x peer a.1.0 s t (Ok (Handle call)) h sound k fit n a.1.2 (next a.1.0 a.1.1 a.1.3) a.1.5,
)
receive_by law takes i x peer p q s t (Ok Part) h sound k few fit n next a = (
  (bound_is i x peer s h a.0.0.0, sym (holds_is i x peer s h few) ∙ a.0.1),
  (a.1.0, a.1.1, a.1.3, a.1.4),
  law i x peer a.1.0 s t (Ok Part) h sound k fit n a.1.2 (next a.1.0 a.1.1 a.1.3) a.1.5,
)
receive_by law takes i x peer p q s t (Ok Quiet) h sound k few fit n next a = (
  (bound_is i x peer s h a.0.0.0, sym (holds_is i x peer s h few) ∙ a.0.1),
  a.1,
  stays i x peer s t h a.2,
)
receive_by law takes i x peer p q s t (Ok Empty) h sound k few fit n next a = (
  (bound_is i x peer s h a.0.0.0, sym (holds_is i x peer s h few) ∙ a.0.1),
  a.1,
  stays i x peer s t h a.2,
)
receive_by law takes i x peer p q s t (Ok HeldBack) h sound k few fit n next a = (
  bound_is i x peer s h a.0.0,
  sym (holds_is i x peer s h few) ∙ a.1,
  a.2,
  stays i x peer s t h a.3,
)
receive_by law takes i x peer p q s t (Err (Wire fault)) h sound k few fit n next a =
    absurd (law i x peer a.1.0 s t (Err (Wire fault)) h sound k fit n a.1.1 (next a.1.0 q a.1.2) a.1.3)
receive_by law takes i x peer p q s t (Err Memory) h sound k few fit n next a = (
  (bound_is i x peer s h a.0.0.0, sym (holds_is i x peer s h few) ∙ a.0.1),
  (a.1.0, a.1.2),
  law i x peer a.1.0 s t (Err Memory) h sound k fit n a.1.1 (next a.1.0 q a.1.2) a.1.3,
)
receive_by law takes i x peer p q s t (Err NotBound) h sound k few fit n next a =
    (unbound_is i x peer s h a.0, a.1, stays i x peer s t h a.2)
receive_by law takes i x peer p q s t (Err Failed) h sound k few fit n next a = not_failed i x peer s h a.0.1
receive_by law takes i x peer p q s t (Err fault) h sound k few fit n next a = absurd a

pub receive_agrees : TakeShows → {T : Type 0} (takes : T → Look → T → Type 0) → ReceiveShows takes
receive_agrees law takes m p q s t answer h sound k few fit n next a =
    receive_by law takes m.interface m.end m.peer p q s t answer h sound k few fit n next a
