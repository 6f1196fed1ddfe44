-- A turn adds to the account of the end that is due what its end's receive adds, or nothing.
use Rattle.std.proofs.Common.{◌≡◌, inl, inr, refl, sym, ap, subst, ◌∙◌, ℕ, ◌<◌, ◌^◌, List, [], ◌∷◌, ◌++◌, Option, Some, None, IsSome, Result, Ok, Err, arith}
use Rattle.std.proofs.lemmas.List.{append-nil}
use Rattle.std.specs.declared.alloc.AllocError.{AllocError}
use Rattle.fl_base.specs.declared.fragment.Frag.{Frag}
use Rattle.fl_lists.specs.declared.place.Place.{Place}
use Rattle.fl_lists.specs.declared.place.Place.TheVariants as place
use Rattle.fl_lists.specs.ThreeLists.{ThreeLists}
use Rattle.fl_waitset.specs.declared.waitset.Pick.{Pick}
use Rattle.fl_waitset.specs.declared.waitset.Pick.TheVariants as pick
use Rattle.fl_link.specs.Looks.{Look, Looks, saw, saw_ack, found_ack, missed, takes_of}
use Rattle.fl_link.proofs.Conserved.{looks_join, takes_of-join}
use Rattle.fl_endpoint.specs.declared.fault.EndFault.TheVariants.{Wire, Memory}
use Rattle.fl_endpoint.specs.declared.answer.ReceiveAnswer.TheVariants as receive
use Rattle.fl_endpoint.specs.View.{TheEnd, bound, bound_by}
use Rattle.fl_endpoint.specs.Events.{IsReady}
use Rattle.fl_value_data.specs.Value.{TheCall}
use Rattle.fl_endpoint.specs.Accounts.{Sound, Accepted, EndHistory, Account, Replies}
use Rattle.fl_endpoint.specs.Laws.{AddsNothing, BindAccounts, ReceiveAccounts}
use Rattle.fl_core.specs.declared.kind.ChannelKind.{ChannelKind}
use Rattle.fl_core.specs.declared.kind.ChannelKind.TheVariants.{Queue, Ring}
use Rattle.fl_core.specs.declared.turn_answer.TurnAnswer.{TurnAnswer}
use Rattle.fl_core.specs.declared.turn_answer.TurnAnswer.TheVariants.{Handle, Part, Ready, Quiet, Full, Nothing, Refused}
use Rattle.fl_core.specs.BoardTurns.{WaitsIn, lent, moment, Gives, Examines, LooksAt}
use Rattle.fl_core.specs.BoardAccounts.{handled_in, due_in_turn, TurnAdds}

-- an end that is bound stays as it is when it is bound
bound_stays : (s : TheEnd) (circuit : ℕ) → IsSome s.circuit → bound s circuit ≡ s
bound_stays s circuit ready = cases s.circuit refl where
  cases : (o : Option ℕ) → s.circuit ≡ o → bound_by o circuit s ≡ s
  cases None e = let none : Option ℕ = None in let p : IsSome none = subst IsSome e ready in absurd (cc)
  cases (Some before) e = refl

-- looks that take nothing add nothing
and_more : (ys : List Look) → takes_of ys ≡ [] → (xs : List Look) → takes_of (xs ++ ys) ≡ takes_of xs
and_more ys none xs = takes_of-join xs ys ∙ ap (λ (fs : List Frag). takes_of xs ++ fs) none ∙ append-nil (takes_of xs)

-- more looks at the side, which take nothing
record MoreLooks {T : Type 0} (takes : T → Look → T → Type 0) (m q : T) : Type 0 where
  looks : List Look
  side : Looks takes m looks q
  none : (xs : List Look) → takes_of (xs ++ looks) ≡ takes_of xs

abbrev happened : List Accepted → List Frag → List Frag → List TheCall → List TheCall → EndHistory
happened accepted put took handled due = record { accepted = accepted; put = put; took = took; handled = handled; due = due }

more_looks : {T : Type 0} (takes : T → Look → T → Type 0) (kind : ChannelKind) (m q : T) (to : Place) → WaitsIn takes kind m to q → MoreLooks takes m q
more_looks takes Ring m q place.Polled h = record { looks = []; side = sym h; none = and_more [] refl }
more_looks takes Ring m q place.Pending h = absurd h
more_looks takes Ring m q place.Idle h = absurd h
more_looks takes Queue m q place.Pending (inl (f, h)) = record { looks = saw f ∷ []; side = (q, h, refl); none = and_more (saw f ∷ []) refl }
more_looks takes Queue m q place.Pending (inr h) = record { looks = saw_ack ∷ []; side = (q, h, refl); none = and_more (saw_ack ∷ []) refl }
more_looks takes Queue m q place.Idle h = record { looks = missed ∷ []; side = (q, h, refl); none = and_more (missed ∷ []) refl }
more_looks takes Queue m q place.Polled h = absurd h

module _ {T : Type 0} (takes : T → Look → T → Type 0) (binds : BindAccounts) (receives : ReceiveAccounts takes) (s t : TheEnd) (p q : T) (sound : Sound s) (ready : IsReady s) where
  nothing : AddsNothing s s × Replies s [] [] s
  nothing = let zero_fits : 0 < 2 ^ 16 = omega arith in subst (λ (x : TheEnd). AddsNothing s x × Replies s [] [] x) (bound_stays s 0 ready.0) (binds s 0 zero_fits sound)

  gave : (kind : ChannelKind) (c : ℕ) (w v : ThreeLists) (answer : Result TurnAnswer AllocError) → Gives takes kind c (moment w s p) answer (moment v t q) → TurnAdds takes s p answer t q
  gave kind c w v (Ok (Handle call)) (m, r, (to, waits, e)) =
      let a = receives s t p m (Ok (receive.Handle call)) sound r in let b = more_looks takes kind m q to waits in
      record {
        looks = a.looks ++ b.looks;
        side = looks_join takes p m q a.looks b.looks a.side b.side;
        accepted = a.accepted;
        sound = a.sound;
        account = subst (λ (fs : List Frag). Account s (happened a.accepted [] fs (handled_in (Ok (Handle call))) (due_in_turn s.rules (Ok (Handle call)))) t) (sym (b.none a.looks)) a.account;
        replies = a.replies;
      }
  gave kind c w v (Ok Part) (m, r, (to, waits, e)) =
      let a = receives s t p m (Ok receive.Part) sound r in let b = more_looks takes kind m q to waits in
      record {
        looks = a.looks ++ b.looks;
        side = looks_join takes p m q a.looks b.looks a.side b.side;
        accepted = a.accepted;
        sound = a.sound;
        account = subst (λ (fs : List Frag). Account s (happened a.accepted [] fs [] []) t) (sym (b.none a.looks)) a.account;
        replies = a.replies;
      }
  gave kind c w v (Ok Quiet) (m, r, (to, waits, e)) =
      let a = receives s t p m (Ok receive.Quiet) sound r in let b = more_looks takes kind m q to waits in
      record {
        looks = a.looks ++ b.looks;
        side = looks_join takes p m q a.looks b.looks a.side b.side;
        accepted = a.accepted;
        sound = a.sound;
        account = subst (λ (fs : List Frag). Account s (happened a.accepted [] fs [] []) t) (sym (b.none a.looks)) a.account;
        replies = a.replies;
      }
  gave kind c w v (Ok Nothing) (m, r, (to, waits, e)) =
      let a = receives s t p m (Ok receive.Empty) sound r in let b = more_looks takes kind m q to waits in
      record {
        looks = a.looks ++ b.looks;
        side = looks_join takes p m q a.looks b.looks a.side b.side;
        accepted = a.accepted;
        sound = a.sound;
        account = subst (λ (fs : List Frag). Account s (happened a.accepted [] fs [] []) t) (sym (b.none a.looks)) a.account;
        replies = a.replies;
      }
  gave kind c w v (Ok Full) (r, e) =
      let a = receives s t p q (Ok receive.HeldBack) sound r in
      record { looks = a.looks; side = a.side; accepted = a.accepted; sound = a.sound; account = a.account; replies = a.replies }
  gave kind c w v (Ok (Refused fault)) (r, e) =
      let a = receives s t p q (Err (Wire fault)) sound r in
      record { looks = a.looks; side = a.side; accepted = a.accepted; sound = a.sound; account = a.account; replies = a.replies }
  gave kind c w v (Ok Ready) h = absurd h
  gave kind c w v (Err error) (r, e) =
      let a = receives s t p q (Err Memory) sound r in
      record { looks = a.looks; side = a.side; accepted = a.accepted; sound = a.sound; account = a.account; replies = a.replies }

  still : (e : t ≡ s) → AddsNothing s t × Replies s [] [] t
  still e = subst (λ (x : TheEnd). AddsNothing s x × Replies s [] [] x) (sym e) nothing

  examined : (c : ℕ) (w v : ThreeLists) (answer : Result TurnAnswer AllocError) → t ≡ s → Examines takes c (lent w p) answer (lent v q) → TurnAdds takes s p answer t q
  examined c w v (Ok Ready) e ((f, look), off) =
      let a = still e in
      record { looks = saw f ∷ []; side = (q, look, refl); accepted = []; sound = a.0.sound; account = a.0.account; replies = a.1 }
  examined c w v (Ok Quiet) e (inl look, off) =
      let a = still e in
      record { looks = missed ∷ []; side = (q, look, refl); accepted = []; sound = a.0.sound; account = a.0.account; replies = a.1 }
  examined c w v (Ok Quiet) e (inr (m, look, take), off) =
      let a = still e in
      record { looks = saw_ack ∷ found_ack ∷ []; side = (m, look, (q, take, refl)); accepted = []; sound = a.0.sound; account = a.0.account; replies = a.1 }
  examined c w v (Ok (Handle call)) e h = absurd h
  examined c w v (Ok Part) e h = absurd h
  examined c w v (Ok Full) e h = absurd h
  examined c w v (Ok Nothing) e h = absurd h
  examined c w v (Ok (Refused fault)) e h = absurd h
  examined c w v (Err error) e h = absurd h

  pub turn_adds : (picked : Pick) (kind : ChannelKind) (w v : ThreeLists) (answer : Result TurnAnswer AllocError) → LooksAt takes picked kind (moment w s p) answer (moment v t q) → TurnAdds takes s p answer t q
  turn_adds (pick.Pending c) kind w v answer h = gave kind c.0 w v answer h
  turn_adds (pick.Polled c) kind w v answer h = examined c.0 w v answer h.1 h.0
